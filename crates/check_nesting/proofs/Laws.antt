-- A turn of the walk, over plain lists. Assumes nothing.
use Rattle.std.proofs.Common.{Option, Some, None, ◌≡◌, refl, sym, ap, ◌∙◌, Bool, true, false, ◌≢◌, inl, inr, List, [], ◌∷◌, ℕ, zero, suc, ◌+◌, ◌-◌, ◌*◌, ◌/◌, ◌≤◌, ◌<◌, add-zero, add-one, arith, length, drop, get_or, set, drop-drop, get_or-drop, get_or-set_same, get_or-set_other, ne_eqb, eqb-true, eqb}
use native.Mathlib.Nat.{sub-zero}
use borrow.Author.Tests.{eqb-false}
use Rattle.check_nesting.specs.declared.stack.Nesting.{Nesting}
use Rattle.check_nesting.specs.Tag.{Tag, enter, exit, tag_of, tags, tags_of}
use Rattle.check_nesting.specs.Pass.{Rest, turn, leave, Open, stop, go, step, nest_from, nest_of}
use Rattle.check_nesting.specs.Tables.{states, state}
use Rattle.check_nesting.specs.Moved.{newest_of, Opens, Closes, Advances}
use Rattle.check_nesting.proofs.Step.{stops, goes, closed-end, open-end, none_open, too_many, not_entered, not_left, is-left, Moves, enters, by-step}
use Rattle.check_nesting.proofs.Look.{is-refused, is-entered, stays, leaves_to}

-- ---- the open elements, newest first, of the first d entries of the arrays

abbrev pub stack_of : ℕ → List ℕ → List ℕ → List Open
stack_of zero ns bs = []
stack_of (suc d) ns bs = record { name = get_or ns d 0; behind = state (get_or bs d 0) } ∷ stack_of d ns bs

stack-length : (d : ℕ) (ns bs : List ℕ) → length (stack_of d ns bs) ≡ d
stack-length zero ns bs = refl
stack-length (suc d) ns bs = ap suc (stack-length d ns bs)

stack-kept : (d e : ℕ) (ns bs : List ℕ) (x y : ℕ) → d ≤ e → stack_of d (set ns e x) (set bs e y) ≡ stack_of d ns bs
stack-kept zero e ns bs x y h = refl
stack-kept (suc d) e ns bs x y h =
    let other : d ≢ e = λ p. omega arith in
    rw (get_or-set_other ns e d x 0 other, get_or-set_other bs e d y 0 other, stack-kept d e ns bs x y (omega arith))

-- ---- what is left, from the tag i on

abbrev pub left : List ℕ → Nesting → ℕ → Option ℕ
left b v i = nest_from 64 i (state v.here) (stack_of v.depth v.names v.behind) (tags (length b / 20 - i) (drop (i * 20) b))

-- before the tag i it is what the whole says
pub record Inv (b : List ℕ) (v : Nesting) (i : ℕ) : Type 0 where
  pub within : i ≤ length b / 20
  pub same : left b v i ≡ nest_of (tags_of b)

-- ---- a turn of the loop

module _ {b : List ℕ} {v : Nesting} {i : ℕ} (x : Inv b v i) (more : i < length b / 20) where
  abbrev kind : ℕ
  kind = get_or b (i * 20) 0

  abbrev name : ℕ
  name = get_or b (i * 20 + 1) 0

  abbrev here : List Tag
  here = tags (length b / 20 - i) (drop (i * 20) b)

  abbrev behind : List Tag
  behind = tags (length b / 20 - (i + 1)) (drop ((i + 1) * 20) b)

  abbrev os : List Open
  os = stack_of v.depth v.names v.behind

  cut : here ≡ tag_of kind name ∷ behind
  cut =
      let e : length b / 20 - i ≡ suc (length b / 20 - (i + 1)) = omega arith in
      let m : i * 20 + 20 ≡ (i + 1) * 20 = omega arith in
      rw (e, get_or-drop, add-zero, get_or-drop, drop-drop, m)

  entering : kind ≡ 0 → here ≡ enter name ∷ behind
  entering k = cut ∙ rw k

  exiting : (kind ≡ 0 → ⊥) → here ≡ exit name ∷ behind
  exiting k = cut ∙ rw (ne_eqb kind 0 k)

  abbrev top : Open
  top = newest_of v.names v.behind v.depth

  abbrev older : List Open
  older = stack_of (v.depth - 1) v.names v.behind

  newest : (v.depth ≡ 0 → ⊥) → os ≡ top ∷ older
  newest h = let e : v.depth ≡ suc (v.depth - 1) = omega arith in ap (λ (x : ℕ). stack_of x v.names v.behind) e

  refuse : (t : Tag) → here ≡ t ∷ behind → step 64 t (state v.here) os ≡ stop → Some i ≡ nest_of (tags_of b)
  refuse t p e = sym (stops 64 i t behind (state v.here) os e) ∙ (rw p at x.same)

  pass : {t : Tag} {r : Rest} {ps : List Open} → here ≡ t ∷ behind → Moves 64 t (state v.here) os (go r ps) → nest_from 64 (i + 1) r ps behind ≡ nest_of (tags_of b)
  pass p m = sym (goes i behind m) ∙ (rw p at x.same)

  unopened : kind ≡ 0 → (w : Nesting) → Opens v name false w → Some i ≡ nest_of (tags_of b)
  unopened k w (e, inl f) = refuse (enter name) (entering k) (too_many 64 name (state v.here) os (omega (arith, stack-length v.depth v.names v.behind)))
  unopened k w (e, inr a) = refuse (enter name) (entering k) (not_entered 64 name (state v.here) os (is-refused (turn (state v.here) name) a))

  is-opened : kind ≡ 0 → (w : Nesting) → Opens v name true w → Inv b w (i + 1)
  is-opened k w (y, l, d, ns, bs, a) =
      let t = is-entered v.here name (turn (state v.here) name) w.here y refl a in
      let f : v.depth < 64 = omega (arith, v.deep) in
      let m : v.depth < length v.names = omega (arith, v.names_long) in
      let n : v.depth < length v.behind = omega (arith, v.behind_long) in
      let s : stack_of (v.depth + 1) (set v.names v.depth name) (set v.behind v.depth y) ≡ record { name = name; behind = state y } ∷ os =
      rw (add-one v.depth, get_or-set_same v.names v.depth name 0 m, get_or-set_same v.behind v.depth y 0 n, stack-kept v.depth v.depth v.names v.behind name y (omega arith)) in
      record { within = omega arith; same = rw (d, ns, bs, s) (pass (entering k) (enters (rw stack-length f) t.turns)) }

  unclosed : (kind ≡ 0 → ⊥) → (w : Nesting) → Closes v name false w → Some i ≡ nest_of (tags_of b)
  unclosed k w (e, inl f) = refuse (exit name) (exiting k) (rw f (none_open 64 name (state v.here)))
  unclosed k w (e, inr a) = refuse (exit name) (exiting k) (rw (newest a.0) (not_left 64 name (state v.here) top older (stays (leave (state v.here) top name) a.1)))

  is-closed : (kind ≡ 0 → ⊥) → (w : Nesting) → Closes v name true w → Inv b w (i + 1)
  is-closed k w (h, d, ns, bs, a) =
      let t = leaves_to (leave (state v.here) top name) w.here a in
      record { within = omega arith; same = rw (d, ns, bs) (pass (exiting k) (rw (newest h) (by-step (is-left 64 name (state v.here) top older t.1)))) }

  module _ {n : ℕ} (p : get_or b (i * 20 + 1) 0 ≡ n) {y : Bool} (k : y ≡ eqb (get_or b (i * 20) 0) 0) (r : Bool) (w : Nesting) (a : Advances y v n r w) where
    here-named : Advances y v name r w
    here-named = rw p a

    pub walk-stops : r ≡ false → Some i ≡ nest_of (tags_of b)
    walk-stops z = go y k (rw z at here-named)
      where
        go : (y : Bool) → y ≡ eqb (get_or b (i * 20) 0) 0 → Advances y v name false w → Some i ≡ nest_of (tags_of b)
        go true e o = unopened (eqb-true (get_or b (i * 20) 0) 0 (sym e)) w o
        go false e o = unclosed (eqb-false (get_or b (i * 20) 0) 0 (sym e)) w o

    pub walk-goes : r ≡ true → Inv b w (i + 1)
    walk-goes z = go y k (rw z at here-named)
      where
        go : (y : Bool) → y ≡ eqb (get_or b (i * 20) 0) 0 → Advances y v name true w → Inv b w (i + 1)
        go true e o = is-opened (eqb-true (get_or b (i * 20) 0) 0 (sym e)) w o
        go false e o = is-closed (eqb-false (get_or b (i * 20) 0) 0 (sym e)) w o

module _ {b : List ℕ} {v : Nesting} {i : ℕ} (x : Inv b v i) (end : length b / 20 ≤ i) where
  none_left : tags (length b / 20 - i) (drop (i * 20) b) ≡ []
  none_left = let z : length b / 20 - i ≡ 0 = omega arith in rw z

  pub all_closed : v.depth ≡ 0 → None ≡ nest_of (tags_of b)
  all_closed e = sym (closed-end 64 i (state v.here)) ∙ (rw (none_left, e) at x.same)

  pub left_open : (v.depth ≡ 0 → ⊥) → Some (length b / 20) ≡ nest_of (tags_of b)
  left_open h =
      let p : i ≡ length b / 20 = omega (arith, x.within) in
      let s : v.depth ≡ suc (v.depth - 1) = omega arith in
      ap Some (sym p) ∙ sym (open-end 64 i (state v.here) _ (stack_of (v.depth - 1) v.names v.behind)) ∙ (rw (none_left, s) at x.same)

pub at_first : (b : List ℕ) (v : Nesting) → v.depth ≡ 0 → v.here ≡ 1 → Inv b v 0
unfolding nest_of state states
at_first b v d h = record { within = omega arith; same = rw (d, h, sub-zero) }
