-- What the slices of a link, image, call or definition are, by what it holds. Assumes nothing.
use mathlib.Core.Path.{◌≡◌, refl, ap, ◌∙◌}
use mathlib.Core.Bool.{true}
use mathlib.Core.Logic.{◌⊎◌, inl, inr}
use mathlib.Core.List.{List, [], ◌∷◌}
use mathlib.Core.Option.{Option, some}
use Prim.Native.Nat.{ℕ}
use lib.Dec.{T, eqb}
use borrow.Author.Tests.{eq-eqb}
use Rattle.lent.specs.Bytes.{one_of}
use Rattle.check_nesting.specs.Grammar.{name_of, holds, rules, call_label}
use Rattle.check_nesting.specs.Nests.{Takes}
use Rattle.check_rules.specs.Elements.{Forest, child_of}
use Rattle.machine_shape.specs.Fits.{every}
use Rattle.machine_shape.specs.Grown.{Kinds}
use Rattle.machine_shape.proofs.Says.{both, passed}
use Rattle.machine_shape.proofs.Calm.{every_item, kinds-taken}
use Rattle.machine_never.specs.Values.{Ids, ids3, effects_of}
use Rattle.machine_never.specs.Ghost.{effects_at, ids_run, ids_over, Top, tops, ids_tops, IsKind, AreKinds, or_that}
use Rattle.machine.specs.State.{Span}
use Rattle.machine.specs.Turn.{span_of}
use Rattle.machine.specs.Handlers.{rows}
use Rattle.machine.specs.OnText.{on_enter_buffer, on_exit_drop}
use Rattle.machine.specs.OnLink.{on_exit_label, on_exit_label_text, on_enter_resource, on_enter_resource_destination_string, on_exit_resource_destination_string, on_exit_resource_title_string, on_exit_reference_string}
use Rattle.machine.specs.OnDefinition.{on_exit_definition_label_string, on_enter_definition_destination_string, on_exit_definition_destination_string, on_exit_definition_title_string}
use Rattle.machine_never.proofs.Inert.{enter_effects, exit_effects, enter-effects, exit-effects, inert, all_same}
use Rattle.machine_never.proofs.Tops.{child-tops, ids-tops, kinds-tops, takes_one, takes-opt, takes_none, only, one_of_two}

-- ---- lists of children

pub no-tops : (xs : List Top) → AreKinds [] xs → xs ≡ []
no-tops [] h = refl
no-tops (x ∷ xs) h = absurd h

pub one-top : (k : ℕ) (ks : List ℕ) (xs : List Top) → AreKinds (k ∷ ks) xs → (x : Top) × (ys : List Top) × (xs ≡ x ∷ ys) × IsKind k x × AreKinds ks ys
one-top k ks [] h = absurd h
one-top k ks (x ∷ xs) h = (x, xs, refl, h.0, h.1)

-- ---- one child

abbrev pub ran : Top → List Ids → List Ids
ran x is = ids_run x.exit (effects_at x.exit) (ids_over x.inside (ids_run x.enter (effects_at x.enter) is))

ran-as : (x : Top) (k : ℕ) → IsKind k x → (is : List Ids) → ran x is ≡ ids_run x.exit (exit_effects (name_of k)) (ids_over x.inside (ids_run x.enter (enter_effects (name_of k)) is))
ran-as x k h is = rw (enter-effects x.enter (name_of k) h.pair.0 h.named, exit-effects x.exit (name_of k) h.pair.1 (h.pair.2 ∙ h.named)) refl

-- that holds no part
leaf : (x : Top) (k : ℕ) → IsKind k x → T (every_item inert (holds k)) → (is : List Ids) → ran x is ≡ ids_run x.exit (exit_effects (name_of k)) (ids_run x.enter (enter_effects (name_of k)) is)
leaf x k h t is = ran-as x k h is ∙ ap (ids_run x.exit (exit_effects (name_of k))) (all_same h.kinds (kinds-taken inert h.takes t) (ids_run x.enter (enter_effects (name_of k)) is))

module _ (x : Top) (i : Ids) (is : List Ids) where
  part-48 : IsKind 48 x → ran x (i ∷ is) ≡ ids3 (some (span_of x.exit)) i.reference_id i.led ∷ is
  unfolding effects_of rows on_enter_buffer on_exit_label on_exit_label_text on_enter_resource on_exit_drop on_enter_resource_destination_string on_exit_resource_destination_string on_exit_resource_title_string on_exit_reference_string on_exit_definition_label_string on_enter_definition_destination_string on_exit_definition_destination_string on_exit_definition_title_string holds rules
  part-48 h = leaf x 48 h tt (i ∷ is)

  part-50 : IsKind 50 x → ran x (i ∷ is) ≡ ids3 i.label_id i.reference_id true ∷ is
  unfolding effects_of rows on_enter_buffer on_exit_label on_exit_label_text on_enter_resource on_exit_drop on_enter_resource_destination_string on_exit_resource_destination_string on_exit_resource_title_string on_exit_reference_string on_exit_definition_label_string on_enter_definition_destination_string on_exit_definition_destination_string on_exit_definition_title_string holds rules
  part-50 h = leaf x 50 h tt (i ∷ is)

  part-51 : IsKind 51 x → ran x (i ∷ is) ≡ i ∷ is
  unfolding effects_of rows on_enter_buffer on_exit_label on_exit_label_text on_enter_resource on_exit_drop on_enter_resource_destination_string on_exit_resource_destination_string on_exit_resource_title_string on_exit_reference_string on_exit_definition_label_string on_enter_definition_destination_string on_exit_definition_destination_string on_exit_definition_title_string holds rules
  part-51 h = leaf x 51 h tt (i ∷ is)

  pub part-52 : IsKind 52 x → ran x (i ∷ is) ≡ ids3 i.label_id (some (span_of x.exit)) i.led ∷ is
  unfolding effects_of rows on_enter_buffer on_exit_label on_exit_label_text on_enter_resource on_exit_drop on_enter_resource_destination_string on_exit_resource_destination_string on_exit_resource_title_string on_exit_reference_string on_exit_definition_label_string on_enter_definition_destination_string on_exit_definition_destination_string on_exit_definition_title_string holds rules
  part-52 h = leaf x 52 h tt (i ∷ is)

  pub part-54 : IsKind 54 x → ran x (i ∷ is) ≡ ids3 i.label_id (some (span_of x.exit)) i.led ∷ is
  unfolding effects_of rows on_enter_buffer on_exit_label on_exit_label_text on_enter_resource on_exit_drop on_enter_resource_destination_string on_exit_resource_destination_string on_exit_resource_title_string on_exit_reference_string on_exit_definition_label_string on_enter_definition_destination_string on_exit_definition_destination_string on_exit_definition_title_string holds rules
  part-54 h = leaf x 54 h tt (i ∷ is)

  pub part-55 : IsKind 55 x → ran x (i ∷ is) ≡ ids3 i.label_id i.reference_id true ∷ is
  unfolding effects_of rows on_enter_buffer on_exit_label on_exit_label_text on_enter_resource on_exit_drop on_enter_resource_destination_string on_exit_resource_destination_string on_exit_resource_title_string on_exit_reference_string on_exit_definition_label_string on_enter_definition_destination_string on_exit_definition_destination_string on_exit_definition_title_string holds rules
  part-55 h = leaf x 55 h tt (i ∷ is)

  pub part-56 : IsKind 56 x → ran x (i ∷ is) ≡ i ∷ is
  unfolding effects_of rows on_enter_buffer on_exit_label on_exit_label_text on_enter_resource on_exit_drop on_enter_resource_destination_string on_exit_resource_destination_string on_exit_resource_title_string on_exit_reference_string on_exit_definition_label_string on_enter_definition_destination_string on_exit_definition_destination_string on_exit_definition_title_string holds rules
  part-56 h = leaf x 56 h tt (i ∷ is)

-- ---- a label, and that of a call

labelled : (f : Forest) (ks : List ℕ) → Kinds ks f → (ks ≡ []) ⊎ (ks ≡ 48 ∷ []) → (i : Ids) (is : List Ids) → ids_over f (i ∷ is) ≡ ids3 (or_that (child_of 48 f) i.label_id) i.reference_id i.led ∷ is
labelled f ks c (inl e) i is =
    let h : AreKinds [] (tops f) = rw e at (kinds-tops c) in
    let t = no-tops (tops f) h in
    ids-tops c (i ∷ is) ∙ rw (child-tops 48 f, t) refl
labelled f ks c (inr e) i is =
    let h : AreKinds (48 ∷ []) (tops f) = rw e at (kinds-tops c) in
    let o = one-top 48 [] (tops f) h in
    let t = o.2 ∙ ap (λ (l : List Top). o.0 ∷ l) (no-tops o.1 o.4) in
    let n : eqb o.0.enter.name 48 ≡ true = eq-eqb o.0.enter.name 48 o.3.named in
    ids-tops c (i ∷ is) ∙ rw (child-tops 48 f, t, n) (part-48 o.0 i is o.3)

inner-47 : (ks : List ℕ) → Takes (holds 47) ks → (ks ≡ []) ⊎ (ks ≡ 48 ∷ [])
unfolding holds rules
inner-47 ks w =
    elim (takes-opt (48 ∷ []) [] ks w) [
      | inl r ↦ inl (takes_none ks r)
      | inr (k, ds, m, e, r) ↦ inr (e ∙ rw (only 48 k m, takes_none ds r) refl)
    ]

inner-call : (ks : List ℕ) → Takes (holds call_label) ks → (ks ≡ []) ⊎ (ks ≡ 48 ∷ [])
unfolding holds rules
inner-call ks w = let o = takes_one (48 ∷ []) [] ks w in inr (o.3 ∙ rw (only 48 o.0 o.2, takes_none o.1 o.4) refl)

pub part-47 : (x : Top) (i : Ids) (is : List Ids) → IsKind 47 x → ran x (i ∷ is) ≡ ids3 (or_that (child_of 48 x.inside) i.label_id) i.reference_id i.led ∷ is
unfolding effects_of rows on_enter_buffer on_exit_label on_exit_label_text on_enter_resource on_exit_drop on_enter_resource_destination_string on_exit_resource_destination_string on_exit_resource_title_string on_exit_reference_string on_exit_definition_label_string on_enter_definition_destination_string on_exit_definition_destination_string on_exit_definition_title_string
part-47 x i is h = ran-as x 47 h (i ∷ is) ∙ labelled x.inside h.inner h.kinds (inner-47 h.inner h.takes) i is

pub part-call : (x : Top) (i : Ids) (is : List Ids) → IsKind call_label x → ran x (i ∷ is) ≡ ids3 (or_that (child_of 48 x.inside) i.label_id) i.reference_id i.led ∷ is
unfolding effects_of rows on_enter_buffer on_exit_label on_exit_label_text on_enter_resource on_exit_drop on_enter_resource_destination_string on_exit_resource_destination_string on_exit_resource_title_string on_exit_reference_string on_exit_definition_label_string on_enter_definition_destination_string on_exit_definition_destination_string on_exit_definition_title_string
part-call x i is h = ran-as x call_label h (i ∷ is) ∙ labelled x.inside h.inner h.kinds (inner-call h.inner h.takes) i is

-- ---- a resource: it leads

resource-tops : (ks : List ℕ) (xs : List Top) → AreKinds ks xs → T (every (λ k. one_of (50 ∷ 51 ∷ []) k) ks) → (l r : Option Span) (is : List Ids) → ids_tops xs (ids3 l r true ∷ is) ≡ ids3 l r true ∷ is
resource-tops [] [] h t l r is = refl
resource-tops [] (x ∷ xs) h t l r is = absurd h
resource-tops (k ∷ ks) [] h t l r is = absurd h
resource-tops (k ∷ ks) (x ∷ xs) h t l r is =
    let p = both (one_of (50 ∷ 51 ∷ []) k) (every (λ k. one_of (50 ∷ 51 ∷ []) k) ks) t in
    let one : ran x (ids3 l r true ∷ is) ≡ ids3 l r true ∷ is =
    elim (one_of_two 50 51 k (passed (one_of (50 ∷ 51 ∷ []) k) p.0)) [
      | inl e ↦ let i : IsKind 50 x = rw e at h.0 in part-50 x (ids3 l r true) is i
      | inr e ↦ let i : IsKind 51 x = rw e at h.0 in part-51 x (ids3 l r true) is i
    ] in
    ap (ids_tops xs) one ∙ resource-tops ks xs h.1 p.1 l r is

pub part-49 : (x : Top) (i : Ids) (is : List Ids) → IsKind 49 x → ran x (i ∷ is) ≡ ids3 i.label_id i.reference_id true ∷ is
unfolding effects_of rows on_enter_buffer on_exit_label on_exit_label_text on_enter_resource on_exit_drop on_enter_resource_destination_string on_exit_resource_destination_string on_exit_resource_title_string on_exit_reference_string on_exit_definition_label_string on_enter_definition_destination_string on_exit_definition_destination_string on_exit_definition_title_string holds rules
part-49 x i is h =
    ran-as x 49 h (i ∷ is) ∙ ids-tops h.kinds (ids3 i.label_id i.reference_id true ∷ is)
    ∙ resource-tops h.inner (tops x.inside) (kinds-tops h.kinds) (kinds-taken (λ k. one_of (50 ∷ 51 ∷ []) k) h.takes tt) i.label_id i.reference_id is
