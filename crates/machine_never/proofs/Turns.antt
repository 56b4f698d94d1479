-- A turn's values are right, by what is kept and by what its event's element holds. Assumes nothing.
use mathlib.Core.Path.{◌≡◌, refl, sym}
use mathlib.Core.Bool.{true, false}
use mathlib.Core.List.{List, [], ◌∷◌}
use Prim.Native.Nat.{ℕ}
use native.Mathlib.Omega.{arith}
use lib.Dec.{eqb}
use borrow.Author.Tests.{eqb-true}
use Rattle.lent.specs.Bytes.{one_of}
use Rattle.event.specs.declared.Event.{Event}
use Rattle.event.specs.Event.{is_enter}
use Rattle.check_rules.specs.Rules.{Meets}
use Rattle.machine.specs.declared.Options.{Options}
use Rattle.machine.specs.State.{State}
use Rattle.machine.specs.Turn.{Turn}
use Rattle.machine.specs.Text.{code_of}
use Rattle.machine.specs.Words.{reference, resume_code}
use Rattle.machine.specs.Handlers.{command_of}
use Rattle.machine_clean.specs.Clean.{Clean, Valid, All, empty, more}
use Rattle.machine_clean.proofs.CodeText.{code-valid}
use Rattle.machine_clean.proofs.Safe.{reads}
use Rattle.machine_shape.specs.Kinds.{row_of}
use Rattle.machine_shape.specs.Right.{Right, Sought, Defines, Notes, Calls}
use Rattle.machine_shape.specs.Pass.{turn_at}
use Rattle.machine_shape.proofs.Run.{decide}
use Rattle.machine_never.specs.Needs as needs
use Rattle.machine_never.specs.Needs.{Fact}
use Rattle.machine_never.proofs.Rights.{right-enter, right-exit, right-11, right-18, right-23, right-26, right-27, right-28, right-33, right-45, right-46, right-53, right-62, right-63}
use Rattle.machine_never.proofs.Static.{fact-slices, fact-starts, fact-begins, fact-refers}
use Rattle.machine_never.proofs.Readable.{name_below}
use Rattle.machine_never.proofs.Steady.{Steady}

-- captured code is UTF-8
code-right : (t : Turn) (s : State) → Clean s → Right resume_code t s
unfolding Right
code-right t s k c cs e = let v = first s.captures k.captures c cs e in (code_of s.table.aligns c, reads (code-valid s.table.aligns v))
  where
    first : (l : List (List ℕ)) → All Valid l → (c : List ℕ) (cs : List (List ℕ)) → l ≡ c ∷ cs → Valid c
    first l empty c cs e = let z : ◌≡◌ {A = ℕ} 0 1 = cc in absurd (omega arith)
    first l (more {a} v vs) c cs e = let i : a ≡ c = cc in rw (sym i) v

-- what an exit may ask beside
pub record Answers (t : Turn) (s : State) : Type 0 where
  pub looks : t.event.name ≡ 23 → Fact needs.looks t
  pub follows : Fact needs.follows t
  pub link : t.event.name ≡ 45 → Sought t s
  pub image : t.event.name ≡ 46 → Sought t s
  pub defines : t.event.name ≡ 53 → Defines t s
  pub calls : t.event.name ≡ 62 → Calls t s
  pub notes : t.event.name ≡ 63 → Notes t s

module _ (text events : List ℕ) (meets : Meets text events) (o : Options) (p : ℕ) (before : List Event) (e : Event) (es : List Event) (s : State) (k : Steady text events meets p before (e ∷ es) s) where
  abbrev turn : Turn
  turn = turn_at text o p before e es

  enter-named : is_enter e ≡ true → command_of turn ≡ (row_of e.name).enter
  unfolding command_of
  enter-named x = rw x refl

  pub enter-right : is_enter e ≡ true → Right (command_of turn) turn s
  enter-right x = rw (enter-named x) (right-enter turn e.name (name_below text events meets p before e es k.here) s)

  module _ (x : is_enter e ≡ false) (answers : Answers turn s) where
    exit_named : (n : ℕ) → e.name ≡ n → command_of turn ≡ (row_of n).exit
    unfolding command_of
    exit_named n i = rw (x, i) refl

    as-named : (n : ℕ) → eqb e.name n ≡ true → (e.name ≡ n → Right (row_of n).exit turn s) → Right (command_of turn) turn s
    as-named n b f = let i = eqb-true e.name n b in rw (exit_named n i) (f i)

    marker-right : e.name ≡ 11 → Right reference turn s
    unfolding Right
    marker-right i m q = fact-refers text events meets o p before e es k.here x s.fixed.names i m (k.marker m q)

    last : one_of (11 ∷ 18 ∷ 23 ∷ 26 ∷ 27 ∷ 28 ∷ 33 ∷ 45 ∷ 46 ∷ 53 ∷ 62 ∷ 63 ∷ []) e.name ≡ false → Right (command_of turn) turn s
    last a = rw (exit_named e.name refl) (right-exit turn e.name (name_below text events meets p before e es k.here) a (fact-slices text events meets o p before e es k.here x) s)

    pub leave-right : Right (command_of turn) turn s
    leave-right =
        decide (eqb e.name 11) (λ b. as-named 11 b (λ i. right-11 turn s (marker-right i)))
        (λ b₁. decide (eqb e.name 18) (λ b. as-named 18 b (λ i. right-18 turn s (fact-begins text events meets o p before e es k.here x i)))
        (λ b₂. decide (eqb e.name 23) (λ b. as-named 23 b (λ i. right-23 turn s (answers.looks i)))
        (λ b₃. decide (eqb e.name 26) (λ b. as-named 26 b (λ i. right-26 turn s (fact-starts text events meets o p before e es k.here x i)))
        (λ b₄. decide (eqb e.name 27) (λ b. as-named 27 b (λ i. right-27 turn s answers.follows))
        (λ b₅. decide (eqb e.name 28) (λ b. as-named 28 b (λ i. right-28 turn s answers.follows))
        (λ b₆. decide (eqb e.name 33) (λ b. as-named 33 b (λ i. right-33 turn s (code-right turn s k.clean)))
        (λ b₇. decide (eqb e.name 45) (λ b. as-named 45 b (λ i. right-45 turn s (answers.link i)))
        (λ b₈. decide (eqb e.name 46) (λ b. as-named 46 b (λ i. right-46 turn s (answers.image i)))
        (λ b₉. decide (eqb e.name 53) (λ b. as-named 53 b (λ i. right-53 turn s (answers.defines i)))
        (λ c₁. decide (eqb e.name 62) (λ b. as-named 62 b (λ i. right-62 turn s (answers.calls i)))
        (λ c₂. decide (eqb e.name 63) (λ b. as-named 63 b (λ i. right-63 turn s (answers.notes i)))
        (λ c₃. last (rw (b₁, b₂, b₃, b₄, b₅, b₆, b₇, b₈, b₉, c₁, c₂, c₃) refl)))))))))))))
