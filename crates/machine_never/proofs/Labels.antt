-- Laws of labels that are kept, along lists and forests. Assumes nothing.
use Rattle.std.specs.Prelude.{if◌then◌else◌, Some, None}
use mathlib.Core.Path.{◌≡◌, refl}
use mathlib.Core.Bool.{Bool, true, false, ◌||◌}
use mathlib.Core.Logic.{◌⊎◌, inl, inr}
use mathlib.Core.List.{List, [], ◌∷◌, ◌++◌}
use Prim.Native.Nat.{ℕ, ◌+◌, ◌≤◌}
use native.Mathlib.Omega.{arith}
use lib.Dec.{T, eqb}
use borrow.Author.Tests.{ne_eqb}
use Rattle.lent.specs.Bytes.{same, listed}
use Rattle.event.specs.declared.Event.{Event}
use Rattle.event.specs.Event.{is_enter}
use Rattle.normalize_identifier.specs.Identity.{identity_of}
use Rattle.normalize_identifier.specs.Search.{first_from, first_same}
use Rattle.lent.proofs.Same.{same-iff}
use Rattle.check_labels.specs.Labels.{Part, slice, label_of, identities}
use Rattle.check_nesting.specs.Grammar.{name_of, holds}
use Rattle.check_rules.specs.Elements.{Forest, nil, element, Paired}
use Rattle.check_rules.proofs.Before.{clash}
use Rattle.machine_shape.specs.Fits.{every}
use Rattle.machine_shape.specs.Grown.{Kinds, none, through, child}
use Rattle.machine_shape.specs.Pass.{behind}
use Rattle.machine_shape.proofs.Says.{both}
use Rattle.machine_shape.proofs.Calm.{every_item, kinds-taken, every-split}
use Rattle.machine_never.specs.Here.{unwind}
use Rattle.machine_never.specs.Known.{Has, HasPart, Known, AllIn}

-- ---- kept labels

abbrev pub Sub : List (List ℕ) → List (List ℕ) → Type 0
Sub ls ms = (id : List ℕ) → Has id ls → Has id ms

pub has_left : (ls ms : List (List ℕ)) → Sub ls (ls ++ ms)
has_left [] ms id h = absurd h
has_left (l ∷ ls) ms id (inl e) = inl e
has_left (l ∷ ls) ms id (inr h) = inr (has_left ls ms id h)

pub has_right : (ls ms : List (List ℕ)) → Sub ms (ls ++ ms)
has_right [] ms id h = h
has_right (l ∷ ls) ms id h = inr (has_right ls ms id h)

part-more : (text : List ℕ) (x : Part) (ls ms : List (List ℕ)) → Sub ls ms → HasPart text x ls → HasPart text x ms
part-more text (Some (from, to)) ls ms s h = s (identity_of (slice text from to)) h
part-more text None ls ms s h = tt

pub known_more : (text : List ℕ) (n : ℕ) (es : List Event) (ls ms : List (List ℕ)) → Sub ls ms → Known text n es ls → Known text n es ms
known_more text n [] ls ms s h = tt
known_more text n (e ∷ es) ls ms s h = (part-more text (label_of n e) ls ms s h.0, known_more text n es ls ms s h.1)

-- one is found by its identity
found_from : (k : ℕ) (ls : List (List ℕ)) (b : List ℕ) → Has (identity_of b) ls → first_from k ls b ≡ None → ⊥
unfolding first_from
found_from k [] b h e = h
found_from k (l ∷ ls) b h e = at (same (identity_of l) (identity_of b)) refl h (λ h q. found_from (k + 1) ls b h q) e
  where
    at : (x : Bool) → same (identity_of l) (identity_of b) ≡ x → (identity_of l ≡ identity_of b) ⊎ Has (identity_of b) ls → (Has (identity_of b) ls → first_from (k + 1) ls b ≡ None → ⊥) → (if x then Some k else first_from (k + 1) ls b) ≡ None → ⊥
    at true s h more q = let z : ◌≡◌ {A = ℕ} 0 1 = cc in omega arith
    at false s (inl i) more q = clash ((same-iff (identity_of l) (identity_of b)).1 i) s
    at false s (inr i) more q = more i q

pub has-found : (ls : List (List ℕ)) (b : List ℕ) → Has (identity_of b) ls → first_same ls b ≡ None → ⊥
unfolding first_same
has-found ls b h e = found_from 0 ls b h e

-- ---- along the list

listed-one : (text : List ℕ) (n : ℕ) (e : Event) (es : List Event) (ls : List (List ℕ)) (id : List ℕ) → HasPart text (label_of n e) ls → listed (identities n text (e ∷ es)) id ≡ true → Has id ls ⊎ (listed (identities n text es) id ≡ true)
unfolding identities
listed-one text n e es ls id h l = at (label_of n e) h l
  where
    word : (from to : ℕ) (x : Bool) → same id (identity_of (slice text from to)) ≡ x → Has (identity_of (slice text from to)) ls → (x || listed (identities n text es) id) ≡ true → Has id ls ⊎ (listed (identities n text es) id ≡ true)
    word from to true s h l = let i = (same-iff id (identity_of (slice text from to))).0 s in inl (rw i h)
    word from to false s h l = inr l

    at : (x : Part) → HasPart text x ls → listed (elim x [ Some (from, to) ↦ identity_of (slice text from to) ∷ identities n text es | None ↦ identities n text es ]) id ≡ true → Has id ls ⊎ (listed (identities n text es) id ≡ true)
    at (Some (from, to)) h l = word from to (same id (identity_of (slice text from to))) refl h l
    at None h l = inr l

pub known-listed : (text : List ℕ) (n : ℕ) (before es : List Event) (ls : List (List ℕ)) (id : List ℕ) → Known text n before ls → listed (identities n text (unwind before es)) id ≡ true → Has id ls ⊎ (listed (identities n text es) id ≡ true)
known-listed text n [] es ls id h l = inr l
known-listed text n (e ∷ before) es ls id h l =
    elim (known-listed text n before (e ∷ es) ls id h.1 l) [
      | inl i ↦ inl i
      | inr i ↦ listed-one text n e es ls id h.0 i
    ]

-- ---- along forests

pub enter-none : (n : ℕ) (e : Event) → is_enter e ≡ true → label_of n e ≡ None
unfolding label_of
enter-none n e h = rw h refl

pub other_none : (n : ℕ) (e : Event) → eqb e.name n ≡ false → label_of n e ≡ None
unfolding label_of
other_none n e h = at (is_enter e)
  where
    at : (x : Bool) → if◌then◌else◌ {A = Part} x None (if eqb e.name n then Some (e.from.0, e.to.0) else None) ≡ None
    at true = refl
    at false = rw h refl

pub own-part : (n : ℕ) (e : Event) → (label_of n e ≡ None) ⊎ (label_of n e ≡ Some (e.from.0, e.to.0))
unfolding label_of
own-part n e = at (is_enter e) (eqb e.name n)
  where
    at : (x y : Bool) → (if◌then◌else◌ {A = Part} x None (if y then Some (e.from.0, e.to.0) else None) ≡ None) ⊎ (if◌then◌else◌ {A = Part} x None (if y then Some (e.from.0, e.to.0) else None) ≡ Some (e.from.0, e.to.0))
    at true y = inl refl
    at false true = inr refl
    at false false = inl refl

pub known_over : (text : List ℕ) (n : ℕ) (f : Forest) (before : List Event) (ls : List (List ℕ)) → Paired f → AllIn text n f ls → Known text n before ls → Known text n (behind f before) ls
known_over text n nil before ls r h k = k
known_over text n (element a f z g) before ls (r, i, j) (h, hf, hg) k =
    known_over text n g (z ∷ behind f (a ∷ before)) ls j hg (h, known_over text n f (a ∷ before) ls i hf (rw (enter-none n a r.0) tt, k))

-- a set of kinds that is closed and has no n
module _ (text : List ℕ) (n : ℕ) (five : 5 ≤ n) (c : ℕ → Bool) (closed : (k : ℕ) → 5 ≤ name_of k → T (c k) → T (every_item c (holds k)) × (eqb (name_of k) n ≡ false)) (ls : List (List ℕ)) where
  pub none_in : {ks : List ℕ} {f : Forest} → Kinds ks f → T (every c ks) → AllIn text n f ls
  none_in none t = tt
  none_in (through {a} {z} {ks = ks} {ls = ms} m r d e) t =
      let p = every-split c ks ms t in
      let nz : eqb z.name n ≡ false = ne_eqb z.name n (λ q. let u = r.2 in absurd (omega arith)) in
      (rw (other_none n z nz) tt, none_in d p.0, none_in e p.1)
  none_in (child {a} {z} {k} {ls = ms} q l r w d e) t =
      let p = both (c k) (every c ms) t in
      let s = closed k l p.0 in
      let nz : eqb z.name n ≡ false = rw (r.2, q) s.1 in
      (rw (other_none n z nz) tt, none_in d (kinds-taken c w s.0), none_in e p.1)
