-- Footnotes: a body kept, a call counted and written. Assumes nothing.
use mathlib.Core.Path.{refl}
use mathlib.Core.Bool.{Bool, true, false, cond}
use mathlib.Core.List.{List}
use Prim.Native.Nat.{ℕ, zero, suc}
use Rattle.machine.specs.Outcome.{need}
use Rattle.machine.specs.State.{State, Footnote, Call}
use Rattle.machine.specs.Set.{set_media, set_labels, add_footnote, set_calls}
use Rattle.machine.specs.Buffers.{push}
use Rattle.machine.specs.Turn.{Turn}
use Rattle.machine.specs.Footnote.{address_of, split_labels, keep, call_index, count_at, times_at, call_text, call_note}
use Rattle.machine_clean.specs.Clean.{Valid, All, empty, more, CleanFootnote, CleanCall, Clean}
use Rattle.machine_clean.proofs.Valid.{joined, text}
use Rattle.machine_clean.proofs.Texts.{decimal-valid, again-valid}
use Rattle.machine_clean.proofs.Urls.{address-valid}
use Rattle.machine_clean.proofs.Safe.{Safe, goes, chain, any, sliced}
use Rattle.machine_clean.proofs.Pushed.{alike, pushed, taken}
use Rattle.machine_clean.proofs.Media.{all-joined, with-media, newest}

-- ---- bodies

with-footnote : {s : State} (f : Footnote) → Clean s → CleanFootnote f → Clean (add_footnote f s)
with-footnote f c p = record {
  page = c.page;
  captures = c.captures;
  media = c.media;
  setext = c.setext;
  kept = record { definitions = c.kept.definitions; footnotes = all-joined c.kept.footnotes p; calls = c.kept.calls };
}

pub keeps-body : (t : Turn) {s : State} → Clean s → Safe Clean (keep t s)
unfolding keep
keeps-body t {s} c =
    chain _ (taken c) (λ (body, u) (v, d).
    chain _ (any (split_labels u.labels)) (λ (p, ps) _.
    chain _ (sliced t.text p) (λ b w. goes (with-footnote _ (alike (set_labels ps u) d refl) (record { label = w; body = v })))))

-- ---- calls

with-calls : {s : State} (cs : List Call) → Clean s → All CleanCall cs → Clean (set_calls cs s)
with-calls cs c a = record {
  page = c.page;
  captures = c.captures;
  media = c.media;
  setext = c.setext;
  kept = record { definitions = c.kept.definitions; footnotes = c.kept.footnotes; calls = a };
}

counted : (k : ℕ) {label : List ℕ} {cs : List Call} → Valid label → All CleanCall cs → All CleanCall (count_at k label cs)
unfolding count_at
counted k v empty = more (record { label = v }) empty
counted zero v (more p q) = more (record { label = p.label }) q
counted (suc k) v (more p q) = more p (counted k v q)

pub call-valid : {address : List ℕ} (number times : ℕ) → Valid address → Valid (call_text address number times)
unfolding call_text
call-valid number times v =
    joined (joined (joined (joined (joined (joined (joined (text "<sup><a href=\"#user-content-fn-" tt) v) (text "\" id=\"user-content-fnref-" tt)) v) (again-valid times))
    (text "\" data-footnote-ref=\"\" aria-describedby=\"footnote-label\">" tt)) (decimal-valid number)) (text "</a></sup>" tt)

pub called : (t : Turn) {s : State} → Clean s → Safe Clean (call_note t s)
unfolding call_note
called t {s} c =
    chain _ (newest c) (λ (m, ms) (p, q).
    chain _ (any (need m.label_id)) (λ r _.
    chain _ (sliced t.text r) (λ label v.
    let k = call_index label s.kept.calls in
    let cs = count_at k label s.kept.calls in
    let u = set_calls cs (set_media ms s) in
    let d : Clean u = with-calls cs (with-media ms c q) (counted k v c.kept.calls) in
    goes (on u.flags.alt u (call_text (address_of s.fixed.apostrophes label) (suc k) (times_at k cs)) d (call-valid (suc k) (times_at k cs) (address-valid s.fixed.apostrophes v))))))
  where
    on : (x : Bool) (u : State) (b : List ℕ) → Clean u → Valid b → Clean (cond x u (push b u))
    on true u b d v = d
    on false u b d v = pushed d v
