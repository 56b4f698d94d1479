-- A list that nests is a forest of events whose elements hold what they may. Assumes nothing.
use mathlib.Core.Path.{◌≡◌, refl, sym, ap, ap₂, ◌∙◌}
use mathlib.Core.List.{List, [], ◌∷◌}
use Prim.Native.Nat.{ℕ, suc, max, ◌/◌, ◌≤◌}
use native.Mathlib.Omega.{arith}
use lib.ListN.{length}
use Rattle.event.specs.declared.Event.{Event}
use Rattle.event.specs.Event.{events_of}
use Rattle.check_nesting.specs.Grammar.{name_of, whole}
use Rattle.check_nesting.specs.Tag.{Tag, enter, exit, tags_of}
use Rattle.check_nesting.specs.Nests as N
use Rattle.check_nesting.specs.Nests.{Nests, Children, Takes}
use Rattle.check_rules.specs.Elements.{Forest, nil, element, list_of, Pair}
use Rattle.check_rules.proofs.Trees.{tagged, same-tags, entered, left, first}
use Rattle.machine_shape.specs.Grown.{Kinds, none, through, child, deep}

record Grown (ks : List ℕ) (tree : N.Forest) (es : List Event) (ts : List Tag) : Type 0 where
  pub forest : Forest
  pub rest : List Event
  pub same : es ≡ list_of forest rest
  pub tags-are : tagged rest ≡ ts
  pub kinds : Kinds ks forest
  pub as-deep : deep forest ≡ N.depth tree

-- an element around what it holds, and what stands behind it
around : {ks ls js : List ℕ} {cs f : N.Forest} (n : ℕ) (es : List Event) (ts : List Tag)
    → tagged es ≡ enter n ∷ N.events cs (exit n ∷ N.events f ts)
    → ((es : List Event) (ts : List Tag) → tagged es ≡ N.events cs ts → Grown ks cs es ts)
    → ((es : List Event) → tagged es ≡ N.events f ts → Grown ls f es ts)
    → ((a z : Event) (x y : Forest) → a.name ≡ n → Pair a z → Kinds ks x → Kinds ls y → Kinds js (element a x z y))
    → Grown js (N.tree n cs f) es ts
around {ks} {ls} {js} {cs} {f} n es ts p inside behind made =
    let a = first es (enter n) (N.events cs (exit n ∷ N.events f ts)) p in
    let c = inside a.1 (exit n ∷ N.events f ts) a.4 in
    let z = first c.rest (exit n) (N.events f ts) c.tags-are in
    let g = behind z.1 z.4 in
    let x = entered a.0 n a.3 in
    let y = left z.0 n z.3 in
    record {
      forest = element a.0 c.forest z.0 g.forest;
      rest = g.rest;
      same = a.2 ∙ ap (λ (l : List Event). a.0 ∷ l) (c.same ∙ ap (list_of c.forest) (z.2 ∙ ap (λ (l : List Event). z.0 ∷ l) g.same));
      tags-are = g.tags-are;
      kinds = made a.0 z.0 c.forest g.forest x.1 (x.0, y.0, y.1 ∙ sym x.1) c.kinds g.kinds;
      as-deep = ap₂ max (ap suc c.as-deep) g.as-deep;
    }

grown : {ks : List ℕ} {tree : N.Forest} → Children ks tree → (es : List Event) (ts : List Tag) → tagged es ≡ N.events tree ts → Grown ks tree es ts
grown N.none es ts p = record { forest = nil; rest = es; same = refl; tags-are = p; kinds = none; as-deep = refl }
grown (N.through {n} m c d) es ts p = around n es ts p (λ es ts q. grown c es ts q) (λ es q. grown d es ts q) (λ a z x y e r u v. through (omega arith) r u v)
grown (N.empty {n} l m d) es ts p =
    around n es ts p (λ es ts q. record { forest = nil; rest = es; same = refl; tags-are = q; kinds = none; as-deep = refl }) (λ es q. grown d es ts q) (λ a z x y e r u v. through {ks = []} (omega arith) r u v)
grown (N.child {k} l t c d) es ts p = around (name_of k) es ts p (λ es ts q. grown c es ts q) (λ es q. grown d es ts q) (λ a z x y e r u v. child e l r t u v)

none_left : (es : List Event) → tagged es ≡ [] → es ≡ []
none_left [] p = refl
none_left (x ∷ es) p = let u : ◌≡◌ {A = ℕ} 0 1 = cc in absurd (omega arith)

-- the list's forest, which the whole takes
pub record Planted (es : List Event) : Type 0 where
  pub forest : Forest
  pub kinds-of : List ℕ
  pub same : es ≡ list_of forest []
  pub kinds : Kinds kinds-of forest
  pub takes : Takes whole kinds-of
  pub shallow : deep forest ≤ 64

pub planted : (events : List ℕ) → Nests (tags_of events) → Planted (events_of events)
unfolding events_of
planted events w =
    let g = grown w.fits (events_of events) [] (sym (same-tags (length events / 20) events) ∙ w.same) in
    record { forest = g.forest; kinds-of = w.kinds; same = g.same ∙ ap (list_of g.forest) (none_left g.rest g.tags-are); kinds = g.kinds; takes = w.takes; shallow = rw g.as-deep w.deep }
