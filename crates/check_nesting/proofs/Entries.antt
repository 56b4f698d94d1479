-- The tables say what the rules say: tests that antt computes, for every state and name. Assumes nothing.
use Rattle.std.proofs.Common.{Option, Some, None, ◌≡◌, refl, sym, Bool, true, false, ◌&&◌, List, [], ◌∷◌, ℕ, ◌+◌, ◌*◌, ◌/◌, ◌%◌, ◌<◌, arith, T, eqb, leb, ltb, eqb→eq, leb→le, ltb→lt, length, get_or}
use mathlib.Core.List.{cons≢nil, head-eq_of_cons-eq, tail-eq_of_cons-eq}
use native.Mathlib.Decide.{ℕ_discrete}
use Rattle.lent.proofs.Computed.{and_left, and_right, all_below, computed}
use Rattle.check_nesting.specs.declared.Entry.{Entry}
use Rattle.check_nesting.specs.Grammar.{Item-discrete, name_count}
use Rattle.check_nesting.specs.Pass.{Rest, Rest-discrete, Turn, refused, entered, turn, may_end}
use Rattle.check_nesting.specs.Tables.{state, IsState, Enters, looked, flag, Tables}

-- ---- what may come next can be compared

abbrev joined : {A : Type 0} {x y : A} {xs ys : List A} → Dec (x ≡ y) → Dec (xs ≡ ys) → Dec (x ∷ xs ≡ y ∷ ys)
joined (yes p) (yes q) = yes (λ i. p i ∷ q i)
joined (yes p) (no n) = no (λ e. n (tail-eq_of_cons-eq e))
joined (no n) (yes q) = no (λ e. n (head-eq_of_cons-eq e))
joined (no n) (no m) = no (λ e. n (head-eq_of_cons-eq e))

abbrev lists : {A : Type 0} → Discrete A → Discrete (List A)
lists d [] [] = yes refl
lists d [] (y ∷ ys) = no (λ e. cons≢nil (sym e))
lists d (x ∷ xs) [] = no (λ e. cons≢nil e)
lists d (x ∷ xs) (y ∷ ys) = joined (d x y) (lists d xs ys)

unfoldable pub rests : Discrete Rest
unfolding ℕ_discrete
rests = Rest-discrete (lists (Item-discrete (lists ℕ_discrete)))

abbrev decided : {A : Type 0} → Dec A → Bool
decided (yes p) = true
decided (no n) = false

holds : {A : Type 0} (d : Dec A) → T (decided d) → A
holds (yes p) t = p
holds (no n) t = absurd t

-- ---- the tests

abbrev is : Rest → ℕ → Bool
is r x = ltb x 48 && decided (rests (state x) r)

is_state : (r : Rest) (x : ℕ) → T (is r x) → IsState r x
is_state r x t = (ltb→lt x 48 (and_left (ltb x 48) (decided (rests (state x) r)) t), holds (rests (state x) r) (and_right (ltb x 48) (decided (rests (state x) r)) t))

abbrev enters_by : Turn → Option Entry → Bool
enters_by refused None = true
enters_by refused (Some x) = false
enters_by (entered inside behind) None = false
enters_by (entered inside behind) (Some x) = is inside x.inside && is behind x.behind

enters-by : (t : Turn) (e : Option Entry) → T (enters_by t e) → Enters t e
enters-by refused None p = tt
enters-by refused (Some x) p = p
enters-by (entered inside behind) None p = p
enters-by (entered inside behind) (Some x) p =
    (is_state inside x.inside (and_left (is inside x.inside) (is behind x.behind) p), is_state behind x.behind (and_right (is inside x.inside) (is behind x.behind) p))

module _ (ss es : List ℕ) where
  -- all names to a state
  abbrev pub right : ℕ → Bool
  right k = enters_by (turn (state (k / name_count)) (k % name_count)) (looked ss es (k / name_count) (k % name_count))

  abbrev pub placed : ℕ → Bool
  placed q = leb (get_or ss (q * 2) 0) 39

  abbrev pub flagged : ℕ → Bool
  flagged q = eqb (get_or ss (q * 2 + 1) 0) (flag (may_end (state q)))

  pub tested : length ss ≡ 96 → length es ≡ (39 + name_count) * 3 → T (all_below 48 placed) → T (all_below 48 flagged) → all_below (48 * name_count) right ≡ true → Tables ss es
  tested l m f g h =
      record {
        rows = record {
          long = l;
          places = λ q a. leb→le (get_or ss (q * 2) 0) 39 (computed placed 48 f q a);
          ends = λ q a. eqb→eq (get_or ss (q * 2 + 1) 0) (flag (may_end (state q))) (computed flagged 48 g q a);
        };
        long = m;
        agree = λ q n a b. enters-by (turn (state q) n) (looked ss es q n) (row q n a b);
      }
    where
      row : (q n : ℕ) → q < 48 → n < name_count → T (enters_by (turn (state q) n) (looked ss es q n))
      row q n a b =
          let d : (q * name_count + n) / name_count ≡ q = omega arith in
          let m : (q * name_count + n) % name_count ≡ n = omega arith in
          rw (d, m) at (computed right (48 * name_count) (rw h tt) (q * name_count + n) (omega arith))
