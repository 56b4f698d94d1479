-- The walk's events as those of the pass for 4. Assumes nothing.
use Rattle.std.proofs.Common.{◌≡◌, sym, ap, ◌∙◌, Bool, List, ℕ, ◌+◌, ◌*◌, ◌/◌, ◌<◌, arith, eqb, length, get_or, Some, true, false, not}
use borrow.Author.Tests.{not-true, not-false}
use Rattle.event.specs.declared.Event.{Event}
use Rattle.event.specs.Event.{is_enter, event_at}
use Rattle.event.proofs.Laws.{kind-read, name-read}
use Rattle.check_nesting.specs.declared.stack.Nesting.{Nesting}
use Rattle.check_nesting.specs.Tag.{tags_of}
use Rattle.check_nesting.specs.Pass.{nest_of}
use Rattle.check_nesting.specs.Moved.{Advances}
use Rattle.check_nesting.proofs.Laws.{Inv, walk-stops, walk-goes}

module _ {b : List ℕ} {v : Nesting} {i count : ℕ} (x : Inv b v i) (l : count ≡ length b / 20) (h : i < count) {e : Event} (p : e ≡ event_at b i) where
  more : i < length b / 20
  more = omega arith

  kind-here : is_enter e ≡ eqb (get_or b (i * 20) 0) 0
  kind-here =
      let m : 20 * i + 0 ≡ i * 20 = omega arith in
      let r : get_or b (i * 20) 0 ≡ e.kind = (rw m at (kind-read b i)) ∙ ap (λ (x : Event). x.kind) (sym p) in
      ap (λ (x : ℕ). eqb x 0) (sym r)

  name-here : get_or b (i * 20 + 1) 0 ≡ e.name
  name-here =
      let m : 20 * i + 1 ≡ i * 20 + 1 = omega arith in
      (rw m at (name-read b i)) ∙ ap (λ (x : Event). x.name) (sym p)

  module _ {y : Bool} (k : y ≡ is_enter e) (r : Bool) (w : Nesting) (o : Advances y v e.name r w) where
    pub nest-stops : not r ≡ true → Some i ≡ nest_of (tags_of b)
    nest-stops z = walk-stops x more name-here (k ∙ kind-here) r w o (not-true r z)

    pub nest-goes : not r ≡ false → Inv b w (i + 1)
    nest-goes z = walk-goes x more name-here (k ∙ kind-here) r w o (not-false r z)
