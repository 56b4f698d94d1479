-- A link's own parts, by the tree and by the walk that counts what is open. Assumes nothing.
use Rattle.std.proofs.Common.{Some, None, if◌then◌else◌, ◌≡◌, refl, sym, ◌∙◌, Bool, true, false, ◌&&◌, List, ◌∷◌, ℕ, ◌+◌, ◌-◌, ◌≤◌, arith, ne_eqb, eq-eqb, eqb, leb}
use Rattle.event.specs.declared.Event.{Event}
use Rattle.event.specs.Event.{is_enter}
use Rattle.check_labels.specs.declared.Turn.TheVariants.{On, Own, Out}
use Rattle.check_labels.specs.Labels.{Part, turn_of, own_part, or_else, sought_of}
use Rattle.check_rules.specs.Elements.{Forest, nil, element, list_of, Paired, child_of, grandchild_of, sought_in}

or-else : (x y z : Part) → or_else (or_else x y) z ≡ or_else x (or_else y z)
or-else (Some s) y z = refl
or-else None y z = refl

or_nothing_lem : (x : Part) → or_else x None ≡ x
or_nothing_lem (Some s) = refl
or_nothing_lem None = refl

module _ (n at : ℕ) where
  -- ---- one event of the walk

  module _ (d : ℕ) (e : Event) (es : List Event) where
    on : (k : ℕ) → turn_of n at d e ≡ On k → own_part n at d (e ∷ es) ≡ own_part n at k es
    unfolding own_part
    on k q = rw (own_part, q)

    thin : leb e.name 4 ≡ true → own_part n at d (e ∷ es) ≡ own_part n at d es
    unfolding turn_of
    thin p = on d (rw p)

    enters : leb e.name 4 ≡ false → is_enter e ≡ true → own_part n at d (e ∷ es) ≡ own_part n at (d + 1) es
    unfolding turn_of
    enters p q = on (d + 1) (rw (p, q))

  module _ (e : Event) (es : List Event) (p : leb e.name 4 ≡ false) (q : is_enter e ≡ false) where
    gone : own_part n at 0 (e ∷ es) ≡ None
    unfolding own_part turn_of
    gone = let r : turn_of n at 0 e ≡ Out = rw (p, q) in rw (own_part, r)

    leaves : (d : ℕ) → own_part n at (d + 1) (e ∷ es) ≡ (if eqb (d + 1) at && eqb e.name n then Some (e.from.0, e.to.0) else own_part n at d es)
    unfolding own_part turn_of
    leaves d = go (eqb (d + 1) at && eqb e.name n) refl
      where
        go : (t : Bool) → (eqb (d + 1) at && eqb e.name n) ≡ t → own_part n at (d + 1) (e ∷ es) ≡ (if t then Some (e.from.0, e.to.0) else own_part n at d es)
        go true r = let u : turn_of n at (d + 1) e ≡ Own e.from.0 e.to.0 = rw (p, q, ne_eqb (d + 1) 0 (λ z. absurd (omega arith)), r) in rw (own_part, u)
        go false r =
            let m : d + 1 - 1 ≡ d = omega arith in
            let u : turn_of n at (d + 1) e ≡ On d = rw (p, q, ne_eqb (d + 1) 0 (λ z. absurd (omega arith)), r, m) in
            on (d + 1) e es d u

  -- ---- a forest, in which d are open

  abbrev found : ℕ → Forest → Part
  found d nil = None
  found d (element a f z g) =
      if leb a.name 4 then or_else (found d f) (found d g)
      else or_else (found (d + 1) f) (if eqb (d + 1) at && eqb a.name n then Some (z.from.0, z.to.0) else found d g)

  chosen : (t : Bool) (x y r : Part) (from to : ℕ) → or_else x (if t then Some (from, to) else or_else y r) ≡ or_else (or_else x (if t then Some (from, to) else y)) r
  chosen true x y r from to = sym (or-else x (Some (from, to)) r)
  chosen false x y r from to = sym (or-else x y r)

  walk : (f : Forest) (d : ℕ) (es : List Event) → Paired f → own_part n at d (list_of f es) ≡ or_else (found d f) (own_part n at d es)
  walk nil d es p = refl
  walk (element a f z g) d es (p, q, r) = go (leb a.name 4) refl (walk f d (z ∷ list_of g es) q) (walk f (d + 1) (z ∷ list_of g es) q) (walk g d es r)
    where
      go : (t : Bool) → leb a.name 4 ≡ t
          → own_part n at d (list_of f (z ∷ list_of g es)) ≡ or_else (found d f) (own_part n at d (z ∷ list_of g es))
          → own_part n at (d + 1) (list_of f (z ∷ list_of g es)) ≡ or_else (found (d + 1) f) (own_part n at (d + 1) (z ∷ list_of g es))
          → own_part n at d (list_of g es) ≡ or_else (found d g) (own_part n at d es)
          → own_part n at d (a ∷ list_of f (z ∷ list_of g es)) ≡ or_else (found d (element a f z g)) (own_part n at d es)
      go true h u v w =
          let hz : leb z.name 4 ≡ true = rw p.2 h in
          rw h (thin d a (list_of f (z ∷ list_of g es)) h ∙ u ∙ rw (thin d z (list_of g es) hz, w, or-else (found d f) (found d g) (own_part n at d es)))
      go false h u v w =
          let hz : leb z.name 4 ≡ false = rw p.2 h in
          rw h (enters d a (list_of f (z ∷ list_of g es)) h p.0 ∙ v ∙ rw (leaves z (list_of g es) hz p.1 d, p.2, w) (chosen (eqb (d + 1) at && eqb a.name n) (found (d + 1) f) (found d g) (own_part n at d es) z.from.0 z.to.0))

  -- nothing is found deeper
  deep : (f : Forest) (d : ℕ) → at ≤ d → found d f ≡ None
  deep nil d h = refl
  deep (element a f z g) d h = go (leb a.name 4) (deep f d h) (deep f (d + 1) (omega arith)) (deep g d h)
    where
      go : (t : Bool) → found d f ≡ None → found (d + 1) f ≡ None → found d g ≡ None
          → (if t then or_else (found d f) (found d g) else or_else (found (d + 1) f) (if eqb (d + 1) at && eqb a.name n then Some (z.from.0, z.to.0) else found d g)) ≡ None
      go true u v w = rw (u, w)
      go false u v w = rw (v, ne_eqb (d + 1) at (λ q. absurd (omega arith)), w)

module _ (n : ℕ) where
  child : (d : ℕ) (f : Forest) → found n (d + 1) d f ≡ child_of n f
  child d nil = refl
  child d (element a f z g) = go (leb a.name 4) (child d f) (deep n (d + 1) f (d + 1) (omega arith)) (child d g)
    where
      go : (t : Bool) → found n (d + 1) d f ≡ child_of n f → found n (d + 1) (d + 1) f ≡ None → found n (d + 1) d g ≡ child_of n g
          → (if t then or_else (found n (d + 1) d f) (found n (d + 1) d g) else or_else (found n (d + 1) (d + 1) f) (if eqb (d + 1) (d + 1) && eqb a.name n then Some (z.from.0, z.to.0) else found n (d + 1) d g))
          ≡ (if t then or_else (child_of n f) (child_of n g) else (if eqb a.name n then Some (z.from.0, z.to.0) else child_of n g))
      go true u v w = rw (u, w)
      go false u v w = rw (v, eq-eqb (d + 1) (d + 1) refl, w)

  grandchild : (f : Forest) → found n 2 0 f ≡ grandchild_of n f
  grandchild nil = refl
  grandchild (element a f z g) = go (leb a.name 4) (grandchild f) (child 1 f) (grandchild g)
    where
      go : (t : Bool) → found n 2 0 f ≡ grandchild_of n f → found n 2 1 f ≡ child_of n f → found n 2 0 g ≡ grandchild_of n g
          → (if t then or_else (found n 2 0 f) (found n 2 0 g) else or_else (found n 2 1 f) (found n 2 0 g)) ≡ (if t then or_else (grandchild_of n f) (grandchild_of n g) else or_else (child_of n f) (grandchild_of n g))
      go true u v w = rw (u, w)
      go false u v w = rw (v, w)

-- ---- what is sought

module _ (f : Forest) (z : Event) (rest : List Event) (p : Paired f) (h : leb z.name 4 ≡ false) (x : is_enter z ≡ false) where
  own : (n at : ℕ) → own_part n at 0 (list_of f (z ∷ rest)) ≡ found n at 0 f
  own n at = walk n at f 0 (z ∷ rest) p ∙ rw (gone n at z rest h x) (or_nothing_lem (found n at 0 f))

  pub sought-is : sought_of (list_of f (z ∷ rest)) ≡ sought_in f
  unfolding sought_of
  sought-is = rw (own 49 1, own 52 1, own 48 2, child 49 0 f, child 52 0 f, grandchild 48 f)
