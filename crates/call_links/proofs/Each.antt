-- Each URL of a list that is taken is one that a single call takes: short enough, and UTF-8. Assumes nothing.
use Rattle.std.proofs.Common.{◌≡◌, Bool, true, false, T, List, [], ◌∷◌, ◌++◌, ℕ, suc, ◌+◌, ◌-◌, ◌≤◌, length, take, drop, if◌then◌else◌, Result, Ok, refl, sym, ap, ◌∙◌, arith, le-ltb, length-take, take-add}
use Rattle.lent.proofs.Computed.{is_true}
use Rattle.utf8.specs.declared.Due.TheVariants.{First}
use Rattle.utf8.specs.Utf8.{is_utf8, inside, run}
use Rattle.utf8.proofs.Laws.{of-first, boundary, run-append}
use Rattle.call_text_answer.specs.declared.Refusal.{Refusal}
use Rattle.call_text_answer.specs.Written.{choose, Wrote}
use Rattle.call_links_answer.specs.Links.{link_of, ordered, uncut}
use Rattle.call_links_answer.specs.Listed.{taken_of}
use Rattle.call_links_answer.proofs.Good.{good}
use Rattle.call_links.proofs.Urls.{order-first}
use Rattle.call_links.proofs.Single.{urls_from}

-- short and UTF-8, as a single call wants its URL
abbrev pub IsTaken : List ℕ → Type 0
IsTaken url = (length url ≤ 64000) × T (is_utf8 url)

pub data Every (P : List ℕ → Type 0) : List (List ℕ) → Type 0 where
  none : Every P []
  one : {url : List ℕ} {urls : List (List ℕ)} → P url → Every P urls → Every P (url ∷ urls)

slice-valid : (s : List ℕ) (from e : ℕ) → from ≤ e → run First (take from s) ≡ First → run First (take e s) ≡ First → T (is_utf8 (take (e - from) (drop from s)))
slice-valid s from e h p q =
    let n : from + (e - from) ≡ e = omega arith in
    let t : take from s ++ take (e - from) (drop from s) ≡ take e s = sym (take-add from (e - from) s) ∙ ap (λ (k : ℕ). take k s) n in
    let u : run (run First (take from s)) (take (e - from) (drop from s)) ≡ First = sym (run-append First (take from s) (take (e - from) (drop from s))) ∙ ap (run First) t ∙ q in
    of-first (take (e - from) (drop from s)) (rw p at u)

uncut-case : (x : Bool) (text es : List ℕ) → suc (length es) ≤ (if x then 0 else suc (uncut text es)) → (x ≡ false) × (length es ≤ uncut text es)
uncut-case true text es h = absurd (omega arith)
uncut-case false text es h = (refl, omega arith)

uncut-first : (text : List ℕ) (e : ℕ) (es : List ℕ) → suc (length es) ≤ uncut text (e ∷ es) → (inside text e ≡ false) × (length es ≤ uncut text es)
unfolding uncut
uncut-first text e es h = uncut-case (inside text e) text es h

module _ (text : List ℕ) (v : T (is_utf8 text)) (s : length text ≤ 64000) where
  each-valid : (from : ℕ) (ends : List ℕ) → run First (take from text) ≡ First → length ends ≤ ordered (length text) from ends → length ends ≤ uncut text ends → Every IsTaken (urls_from text from ends)
  each-valid from [] p h k = none
  each-valid from (e ∷ es) p h k =
      let o = order-first (length text) from e es h in
      let u = uncut-first text e es k in
      let q = (boundary text v e).0 u.0 in
      let i = o.1 in
      let n : length (take (e - from) (drop from text)) ≤ 64000 = omega (arith, length-take (e - from) (drop from text)) in
      one (n, slice-valid text from e o.0 p q) (each-valid e es q o.2 u.1)

-- a single call refuses no URL of a list that is taken, but for want of room
pub each-taken : (text ends : List ℕ) (places : ℕ) → taken_of text ends places ≡ Ok tt → Every IsTaken (urls_from text 0 ends)
each-taken text ends places p = let g = good text ends places p in each-valid text (rw g.valid tt) g.short 0 ends refl g.order g.whole

pub answers : (on : Bool) {url d e : List ℕ} {r : Result ℕ Refusal} → IsTaken url → Wrote url (link_of on url) d e r → length (link_of on url) ≤ length d → r ≡ Ok (length (link_of on url))
unfolding choose
answers on {url} {d} h w k = w.answer ∙ rw (le-ltb 64000 (length url) h.0, is_true (is_utf8 url) h.1, le-ltb (length d) (length (link_of on url)) k)
