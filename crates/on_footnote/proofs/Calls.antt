-- What is known where the machine goes on with a call. Assumes nothing.
use Rattle.std.specs.Prelude.{Some, None}
use Rattle.std.specs.Prelude.{if◌then◌else◌}
use mathlib.Core.Path.{◌≡◌, sym, ap, ◌∙◌}
use mathlib.Core.Bool.{Bool, true, false}
use mathlib.Core.List.{List, ◌∷◌}
use mathlib.Core.Option.{Option, none, some}
use Prim.Native.Nat.{ℕ, suc, min, ◌+◌, ◌≤◌, ◌<◌}
use native.Mathlib.Omega.{arith}
use native.Mathlib.Decide.{dec_lt}
use lib.ListN.{length}
use Rattle.regions.specs.Sizes.{region_size, no_room}
use Rattle.machine.specs.State as State
use Rattle.machine.specs.State.{State, Call}
use Rattle.machine.specs.Outcome.{go, ◌>>=◌, need}
use Rattle.machine.specs.Set.{set_media, set_calls}
use Rattle.machine.specs.Buffers.{push}
use Rattle.machine.specs.Turn.{Turn, str_of}
use Rattle.machine.specs.Footnote.{address_of, call_index, count_at, times_at, call_text, call_note}
use Rattle.machine.proofs.Outcomes.{never, first_goes}
use Rattle.state_media.specs.declared.Span.{Span}
use Rattle.state_media.specs.Links.{label_of, span_is}
use Rattle.state_kept.specs.Kept.{LabelIs}
use Rattle.state_kept.proofs.Labels.{label_is}
use Rattle.state_kept.proofs.Lists.{long-more}
use Rattle.state_kept.proofs.Calls.{first_call, count-new, count_long}
use Rattle.state_whole.specs.declared.Whole.{Whole}
use Rattle.state_whole.specs.Whole.{World, Mirrors}
use Rattle.state_whole.proofs.Quiet.{pushed}
use Rattle.state_whole.proofs.Media.{cc-go, newest-there}

-- ---- the machine

-- the medium goes, and its call is counted
abbrev pub counted : (label : List ℕ) → List State.Media → State → State
counted label ms s = set_calls (count_at (call_index label s.kept.calls) label s.kept.calls) (set_media ms s)

-- and this is written of it
abbrev pub text_of : (apostrophes : Bool) → (label : List ℕ) → List Call → List ℕ
text_of apostrophes label cs = call_text (address_of apostrophes label) (suc (call_index label cs)) (times_at (call_index label cs) (count_at (call_index label cs) label cs))

record Called (t : Turn) (s u : State) : Type 0 where
  pub newest : State.Media
  pub others : List State.Media
  pub span : State.Span
  pub label : List ℕ
  pub media-are : s.media ≡ newest ∷ others
  pub span-is : newest.label_id ≡ some span
  pub label-there : str_of t.text span ≡ go label
  pub then_is : (if s.flags.alt then counted label others s else push (text_of s.fixed.apostrophes label s.kept.calls) (counted label others s)) ≡ u

need-there : {A : Type 0} (o : Option A) (a : A) → need o ≡ go a → o ≡ some a
need-there none a p = never p
need-there (some b) a p = cc

called : (t : Turn) (s u : State) → call_note t s ≡ go u → Called t s u
unfolding call_note
called t s u p =
    let last : List State.Media → List ℕ → State = λ ms label. (if s.flags.alt then counted label ms s else push (text_of s.fixed.apostrophes label s.kept.calls) (counted label ms s)) in
    let f = newest-there s u (λ (m, ms). need m.label_id >>= λ q. str_of t.text q >>= λ label. go (last ms label)) p in
    let g = first_goes (need f.0.label_id) (λ q. str_of t.text q >>= λ label. go (last f.1 label)) u f.3 in
    let h = first_goes (str_of t.text g.0) (λ label. go (last f.1 label)) u g.2 in
    record { newest = f.0; others = f.1; span = g.0; label = h.0; media-are = f.2; span-is = need-there f.0.label_id g.0 g.1; label-there = h.1; then_is = cc-go {a = last f.1 h.0} h.2 }

-- whether it is written or not, the same is kept
pub kept-is : (x : Bool) (t : List ℕ) (z u : State) → (if x then z else push t z) ≡ u → u.kept ≡ z.kept
kept-is true t z u p = ap (λ (v : State). v.kept) (sym p)
kept-is false t z u p = ap (λ (v : State). v.kept) (sym p) ∙ (pushed t z).kept

pub counted-there : (i : ℕ) (label : List ℕ) (cs : List Call) → i ≤ length cs → i < length (count_at i label cs)
counted-there i label cs h =
    elim (dec_lt i (length cs)) [
      | yes q ↦ (let x = count_long i label cs q in omega arith)
      | no q ↦ (let e : i ≡ length cs = omega arith in let x : length (count_at i label cs) ≡ length cs + 1 = rw e (ap length (count-new label cs) ∙ long-more cs (first_call label)) in omega arith)
    ]

-- ---- the code

held_low : (end n : ℕ) → end ≡ min n no_room → end ≤ region_size → n ≤ region_size
held_low end n p h = omega arith

-- what the code knows of the newest medium's slice is what the machine does
labelled : {text : List ℕ} {b : Whole} {w : World} {m : State.Media} {ms : List State.Media} (s : State) → Mirrors text b w s → b.links.end ≤ region_size → s.media ≡ m ∷ ms → label_of b.links.media.label_id ≡ m.label_id
labelled {b = b} s y h p = let x = y.links.newest (held_low _ _ y.links.end h) in (rw p at x).label_id

pub record KnownCall (p : Span) (text : List ℕ) (s u : State) : Type 0 where
  pub newest : State.Media
  pub others : List State.Media
  pub label : List ℕ
  pub media-are : s.media ≡ newest ∷ others
  pub label-there : LabelIs text p.from.0 p.to.0 label
  pub then_is : (if s.flags.alt then counted label others s else push (text_of s.fixed.apostrophes label s.kept.calls) (counted label others s)) ≡ u

pub known : {text : List ℕ} {b : Whole} {w : World} {p : Span} (t : Turn) (s u : State) → b.links.media.label_id ≡ Some p → t.text ≡ text → b.links.end ≤ region_size → Mirrors text b w s → call_note t s ≡ go u → KnownCall p text s u
known {text} {p = p} t s u e v h y q =
    let c = called t s u q in
    let x : label_of (Some p) ≡ c.newest.label_id = ap label_of (sym e) ∙ labelled s y h c.media-are in
    let z : some (span_is p) ≡ some c.span = x ∙ c.span-is in
    let i : span_is p ≡ c.span = cc in
    let l : str_of text (span_is p) ≡ go c.label = ap (λ (a : List ℕ). str_of a (span_is p)) (sym v) ∙ ap (str_of t.text) i ∙ c.label-there in
    record { newest = c.newest; others = c.others; label = c.label; media-are = c.media-are; label-there = label_is text (span_is p) c.label l; then_is = c.then_is }

pub unlabelled : {text : List ℕ} {b : Whole} {w : World} (t : Turn) (s u : State) → b.links.media.label_id ≡ None → b.links.end ≤ region_size → Mirrors text b w s → call_note t s ≡ go u → ⊥
unlabelled t s u e h y q =
    let c = called t s u q in
    let x : none ≡ some c.span = ap label_of (sym e) ∙ labelled s y h c.media-are ∙ c.span-is in
    let z : ◌≡◌ {A = ℕ} 0 1 = cc in
    omega arith
