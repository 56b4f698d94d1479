-- Texts written one behind the other are one text written. Assumes nothing.
use mathlib.Core.Path.{◌≡◌, refl, sym, ap, ◌∙◌}
use mathlib.Core.List.{List, [], ◌∷◌, ◌++◌}
use Prim.Native.Nat.{ℕ}
use Prim.Native.String.{String}
use lib.Dec.{T}
use Rattle.machine.specs.State.{State}
use Rattle.machine.specs.Set.{set_captures}
use Rattle.machine.specs.Buffers.{push, write, end_line, end_line_if_needed}
use Rattle.machine.proofs.Pushes.{push-none, push-both}
use Rattle.machine_clean.specs.Clean.{Valid, Clean}
use Rattle.machine_clean.specs.Ours.{plain}
use Rattle.machine_clean.specs.Section.{Appends}
use Rattle.machine_clean.proofs.Valid.{none-valid, joined, text}
use Rattle.machine_clean.proofs.Texts.{ending-valid}
use Rattle.machine_clean.proofs.Pushed.{pushed, needed-valid}

-- ---- the newest buffer is the page or a capture

kept_in : (b : List ℕ) (cs : List (List ℕ)) (s : State) → (push b (set_captures cs s)).kept ≡ s.kept
unfolding push
kept_in b [] s = refl
kept_in b (c ∷ cs) s = refl

-- ---- so writing goes on

pub wholly : (s : State) → Appends s s
wholly s = record { text = []; valid = none-valid; is = sym (push-none s) }

module _ {s u : State} (a : Appends s u) where
  pub behind : {b : List ℕ} → Valid b → Appends s (push b u)
  behind {b} v = record { text = a.text ++ b; valid = joined a.valid v; is = ap (push b) a.is ∙ push-both a.text b s }

  pub behind-text : (t : String) → T (plain t) → Appends s (write t u)
  behind-text t p = behind (text t p)

  pub behind-line : Appends s (end_line u)
  unfolding end_line
  behind-line = behind (ending-valid u.fixed.ending)

  pub behind-line-if : Appends s (end_line_if_needed u)
  unfolding end_line_if_needed
  behind-line-if = behind (needed-valid u)

  pub same_kept : u.kept ≡ s.kept
  same_kept = ap (λ (x : State). x.kept) a.is ∙ kept_in a.text s.captures s

  pub still-clean : Clean s → Clean u
  still-clean c = rw a.is (pushed c a.valid)
