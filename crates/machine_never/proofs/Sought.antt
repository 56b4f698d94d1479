-- What a link, image or call seeks is what its slices name, and a definition's label is its 54's slice. Assumes nothing.
use Rattle.std.proofs.Common.{Some, None}
use mathlib.Core.Path.{◌≡◌, refl, ap, ◌∙◌}
use mathlib.Core.Bool.{Bool, true, false, not}
use mathlib.Core.Logic.{◌⊎◌, inl, inr}
use mathlib.Core.List.{List, [], ◌∷◌}
use mathlib.Core.Option.{none, some}
use Prim.Native.Nat.{ℕ}
use lib.Dec.{T, eqb}
use Rattle.lent.specs.Bytes.{one_of}
use Rattle.check_labels.specs.Labels.{Part, or_else}
use Rattle.check_nesting.specs.Grammar.{opt, name_of, holds, rules, call_label}
use Rattle.check_nesting.specs.Nests.{Takes}
use Rattle.check_rules.specs.Elements.{Forest, child_of, grandchild_of, sought_in}
use Rattle.machine_shape.specs.Fits.{every}
use Rattle.machine_shape.specs.Grown.{Kinds, none}
use Rattle.machine_shape.proofs.Says.{both, passed}
use Rattle.machine_shape.proofs.Calm.{kinds-taken}
use Rattle.machine_never.specs.Values.{Ids, ids3}
use Rattle.machine_never.specs.Ghost.{ids_over, Top, tops, child_top, grand_top, ids_tops, IsKind, AreKinds, or_that, is_part}
use Rattle.machine.specs.Turn.{span_of}
use Rattle.machine_never.proofs.Tops.{child-tops, grand-tops, ids-tops, kinds-tops, absent-in, takes_one, takes-opt, takes_none, only, one_of_two}
use Rattle.machine_never.proofs.Parts.{no-tops, one-top, ran, part-47, part-call, part-49, part-52, part-54, part-55, part-56}

or-nothing : (x : Part) → or_else x None ≡ x
or-nothing (Some (from, to)) = refl
or-nothing None = refl

is-named : (k n : ℕ) (x : Top) (b : Bool) → IsKind k x → eqb (name_of k) n ≡ b → eqb x.enter.name n ≡ b
is-named k n x b h e = rw h.named e

-- neither a resource nor a reference holds a label text
no-48-in-49 : (x : Top) → IsKind 49 x → child_of 48 x.inside ≡ None
unfolding holds rules
no-48-in-49 x h = absent-in 48 h.kinds (kinds-taken (λ k. not (eqb (name_of k) 48)) h.takes tt)

no-48-in-52 : (x : Top) → IsKind 52 x → child_of 48 x.inside ≡ None
unfolding holds rules
no-48-in-52 x h = absent-in 48 h.kinds (kinds-taken (λ k. not (eqb (name_of k) 48)) h.takes tt)

abbrev bare : Ids
bare = ids3 none none false

-- what is known of a link or image by its children
abbrev known : Part → Part → Part → Ids
known label reference resource = ids3 (or_that label none) (or_that reference none) (is_part resource)

module _ (x : Top) (h : IsKind 47 x) (is : List Ids) where
  alone : ids_tops (x ∷ []) (bare ∷ is) ≡ known (grand_top 48 (x ∷ [])) (child_top 52 (x ∷ [])) (child_top 49 (x ∷ [])) ∷ is
  alone = part-47 x bare is h ∙ rw (or-nothing (child_of 48 x.inside), is-named 47 52 x false h refl, is-named 47 49 x false h refl) refl

  with-resource : (y : Top) → IsKind 49 y → ids_tops (x ∷ y ∷ []) (bare ∷ is) ≡ known (grand_top 48 (x ∷ y ∷ [])) (child_top 52 (x ∷ y ∷ [])) (child_top 49 (x ∷ y ∷ [])) ∷ is
  with-resource y k =
      ap (ran y) (part-47 x bare is h) ∙ part-49 y (ids3 (or_that (child_of 48 x.inside) none) none false) is k
      ∙ rw (no-48-in-49 y k, or-nothing (child_of 48 x.inside), is-named 47 52 x false h refl, is-named 47 49 x false h refl, is-named 49 52 y false k refl, is-named 49 49 y true k refl) refl

  with-reference : (y : Top) → IsKind 52 y → ids_tops (x ∷ y ∷ []) (bare ∷ is) ≡ known (grand_top 48 (x ∷ y ∷ [])) (child_top 52 (x ∷ y ∷ [])) (child_top 49 (x ∷ y ∷ [])) ∷ is
  with-reference y k =
      ap (ran y) (part-47 x bare is h) ∙ part-52 y (ids3 (or_that (child_of 48 x.inside) none) none false) is k
      ∙ rw (no-48-in-52 y k, or-nothing (child_of 48 x.inside), is-named 47 52 x false h refl, is-named 47 49 x false h refl, is-named 52 52 y true k refl, is-named 52 49 y false k refl) refl

media-tops : (ks : List ℕ) (xs : List Top) → Takes (holds 45) ks → AreKinds ks xs → (is : List Ids) → ids_tops xs (bare ∷ is) ≡ known (grand_top 48 xs) (child_top 52 xs) (child_top 49 xs) ∷ is
unfolding holds rules
media-tops ks xs w h is =
    let o = takes_one (47 ∷ []) (opt (49 ∷ 52 ∷ []) ∷ []) ks w in
    let h₁ : AreKinds (47 ∷ o.1) xs = rw (o.3, only 47 o.0 o.2) at h in
    let x = one-top 47 o.1 xs h₁ in
    let ds = o.1 in
    at ds x.0 x.1 x.2 x.3 x.4 (takes-opt (49 ∷ 52 ∷ []) [] ds o.4)
  where
    two : (k : ℕ) (x : Top) (ys : List Top) → xs ≡ x ∷ ys → AreKinds (k ∷ []) ys → (y : Top) × (xs ≡ x ∷ y ∷ []) × IsKind k y
    two k x ys e h = let y = one-top k [] ys h in (y.0, e ∙ ap (λ (l : List Top). x ∷ l) (y.2 ∙ ap (λ (l : List Top). y.0 ∷ l) (no-tops y.1 y.4)), y.3)

    at : (ds : List ℕ) (x : Top) (ys : List Top) → xs ≡ x ∷ ys → IsKind 47 x → AreKinds ds ys → Takes [] ds ⊎ (k : ℕ) × (es : List ℕ) × (one_of (49 ∷ 52 ∷ []) k ≡ true) × (ds ≡ k ∷ es) × Takes [] es
        → ids_tops xs (bare ∷ is) ≡ known (grand_top 48 xs) (child_top 52 xs) (child_top 49 xs) ∷ is
    at ds x ys e h k (inl r) =
        let k₁ : AreKinds [] ys = rw (takes_none ds r) at k in
        let f : xs ≡ x ∷ [] = e ∙ ap (λ (l : List Top). x ∷ l) (no-tops ys k₁) in
        rw f (alone x h is)
    at ds x ys e h k (inr (j, es, m, p, r)) =
        elim (one_of_two 49 52 j m) [
          | inl q ↦ let k₁ : AreKinds (49 ∷ []) ys = rw (p, q, takes_none es r) at k in let y = two 49 x ys e k₁ in rw y.1 (with-resource x h is y.0 y.2)
          | inr q ↦ let k₁ : AreKinds (52 ∷ []) ys = rw (p, q, takes_none es r) at k in let y = two 52 x ys e k₁ in rw y.1 (with-reference x h is y.0 y.2)
        ]

pub media-ids : (f : Forest) {ks : List ℕ} → Kinds ks f → Takes (holds 45) ks → (is : List Ids) → ids_over f (bare ∷ is) ≡ known (grandchild_of 48 f) (child_of 52 f) (child_of 49 f) ∷ is
media-ids f {ks} c w is = ids-tops c (bare ∷ is) ∙ rw (grand-tops 48 f, child-tops 52 f, child-tops 49 f) (media-tops ks (tops f) w (kinds-tops c) is)

-- ---- calls

call-tops : (ks : List ℕ) (xs : List Top) → Takes (holds 62) ks → AreKinds ks xs → (is : List Ids) → (ids_tops xs (bare ∷ is) ≡ known (grand_top 48 xs) None None ∷ is) × (child_top 52 xs ≡ None) × (child_top 49 xs ≡ None)
unfolding holds rules
call-tops ks xs w h is =
    let o = takes_one (call_label ∷ []) [] ks w in
    let h₁ : AreKinds (call_label ∷ []) xs = rw (o.3, only call_label o.0 o.2, takes_none o.1 o.4) at h in
    let x = one-top call_label [] xs h₁ in
    let f : xs ≡ x.0 ∷ [] = x.2 ∙ ap (λ (l : List Top). x.0 ∷ l) (no-tops x.1 x.4) in
    rw f (at x.0 x.3)
  where
    at : (x : Top) → IsKind call_label x → (ids_tops (x ∷ []) (bare ∷ is) ≡ known (grand_top 48 (x ∷ [])) None None ∷ is) × (child_top 52 (x ∷ []) ≡ None) × (child_top 49 (x ∷ []) ≡ None)
    at x h = (part-call x bare is h ∙ rw (or-nothing (child_of 48 x.inside)) refl, rw (is-named call_label 52 x false h refl) refl, rw (is-named call_label 49 x false h refl) refl)

pub call-ids : (f : Forest) {ks : List ℕ} → Kinds ks f → Takes (holds 62) ks → (is : List Ids) → ids_over f (bare ∷ is) ≡ known (grandchild_of 48 f) None None ∷ is
call-ids f {ks} c w is = ids-tops c (bare ∷ is) ∙ rw (grand-tops 48 f) (call-tops ks (tops f) w (kinds-tops c) is).0

pub call-seeks : (f : Forest) {ks : List ℕ} → Kinds ks f → Takes (holds 62) ks → sought_in f ≡ grandchild_of 48 f
call-seeks f {ks} c w = let t = call-tops ks (tops f) w (kinds-tops c) [] in rw (child-tops 49 f, child-tops 52 f, t.2, t.1) refl

-- ---- definitions

-- 55 and 56 leave the label
after-label : (ks : List ℕ) (xs : List Top) → AreKinds ks xs → T (every (λ k. one_of (55 ∷ 56 ∷ []) k) ks) → (i : Ids) (is : List Ids) → (j : Ids) × (ids_tops xs (i ∷ is) ≡ j ∷ is) × (j.reference_id ≡ i.reference_id)
after-label [] [] h t i is = (i, refl, refl)
after-label [] (x ∷ xs) h t i is = absurd h
after-label (k ∷ ks) [] h t i is = absurd h
after-label (k ∷ ks) (x ∷ xs) h t i is =
    let p = both (one_of (55 ∷ 56 ∷ []) k) (every (λ k. one_of (55 ∷ 56 ∷ []) k) ks) t in
    elim (one_of_two 55 56 k (passed (one_of (55 ∷ 56 ∷ []) k) p.0)) [
      | inl e ↦ let q : IsKind 55 x = rw e at h.0 in let r = after-label ks xs h.1 p.1 (ids3 i.label_id i.reference_id true) is in (r.0, ap (ids_tops xs) (part-55 x i is q) ∙ r.1, r.2)
      | inr e ↦ let q : IsKind 56 x = rw e at h.0 in let r = after-label ks xs h.1 p.1 i is in (r.0, ap (ids_tops xs) (part-56 x i is q) ∙ r.1, r.2)
    ]

pub definition-ids : (f : Forest) {ks : List ℕ} → Kinds ks f → Takes (holds 53) ks → (is : List Ids)
    → (j : Ids) × (x : Top) × (ys : List Top) × (ids_over f (bare ∷ is) ≡ j ∷ is) × (j.reference_id ≡ some (span_of x.exit)) × (tops f ≡ x ∷ ys) × IsKind 54 x × (ls : List ℕ) × AreKinds ls ys × T (every (λ k. one_of (55 ∷ 56 ∷ []) k) ls)
unfolding holds rules
definition-ids f {ks} c w is =
    let o = takes_one (54 ∷ []) (opt (55 ∷ []) ∷ opt (56 ∷ []) ∷ []) ks w in
    let h : AreKinds (54 ∷ o.1) (tops f) = rw (o.3, only 54 o.0 o.2) at (kinds-tops c) in
    let x = one-top 54 o.1 (tops f) h in
    let t = kinds-taken (λ k. one_of (55 ∷ 56 ∷ []) k) o.4 tt in
    let a = after-label o.1 x.1 x.4 t (ids3 none (some (span_of x.0.exit)) false) is in
    (a.0, x.0, x.1, ids-tops c (bare ∷ is) ∙ ap (λ (l : List Top). ids_tops l (bare ∷ is)) x.2 ∙ ap (ids_tops x.1) (part-54 x.0 bare is x.3) ∙ a.1, a.2, x.2, x.3, o.1, x.4, t)
