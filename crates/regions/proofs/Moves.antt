-- Bytes copied to a place apart, and what that is to the regions. Assumes nothing.
use Rattle.std.proofs.Common.{◌≡◌, refl, sym, ap, ◌∙◌, Bool, true, false, not, ◌&&◌, ◌||◌, List, ◌++◌, ◌⊎◌, inl, inr, ℕ, ◌+◌, ◌-◌, ◌≤◌, ◌<◌, min, arith, le-leb, leb-true, leb, length, take, drop, length-take, length-drop, length-append, take-take, take_all, set, get_or, length-set, get_or-drop}
use Rattle.std.proofs.Math.Decide.{dec_le}
use borrow.Author.Tests.{lt-leb, not-true, not-false}
use Rattle.lent.specs.Fill.{fill}
use Rattle.lent.proofs.Laws.{byte-below, rest-behind, front-before, fill-behind, and_left, and_right, fill-before-end, fill-out, fill-cut, copied, copy-none, copy-end}
use Rattle.regions.specs.Regions.{region_at, Carries}
use Rattle.regions.specs.Private.{Apart, is_apart}
use Rattle.regions.specs.Sizes.{region_size, held_at, kept_at, no_room}

-- ---- the loop

pub record Copying (d : List ℕ) (from n at : ℕ) (e : List ℕ) (i : ℕ) : Type 0 where
  pub low : i ≤ n
  pub is : e ≡ fill d at (take i (drop from d))
  pub long : length e ≡ length d

module _ (d : List ℕ) (from n at : ℕ) where
  pub copying-none : Copying d from n at d 0
  copying-none = record { low = omega arith; is = copy-none d at (drop from d); long = refl }

  -- a byte that is still to be copied is as it was
  pub untouched : (e : List ℕ) (i : ℕ) → i < n → Apart d from n at → Copying d from n at e i → get_or e (from + i) 0 ≡ get_or d (from + i) 0
  untouched e i h a k = on a.apart
    where
      s : List ℕ
      s = take i (drop from d)

      long : length s ≡ i
      long = let x = a.source in simp (length-take, length-drop) (omega arith)

      on : (from + n ≤ at) ⊎ (at + n ≤ from) → get_or e (from + i) 0 ≡ get_or d (from + i) 0
      on (inl l) = rw k.is (byte-below d at s (from + i) (omega arith))
      on (inr l) =
          let z : from + i - 0 ≡ from + i = omega arith in
          let q : drop (from + i) (fill d at s) ≡ drop (from + i) d = rest-behind d at s (from + i) (let x = long in omega arith) in
          let zero-end : from + i + 0 ≡ from + i = omega arith in
          rw k.is (rw zero-end at (sym (get_or-drop (from + i) (fill d at s) 0 0) ∙ ap (λ (x : List ℕ). get_or x 0 0) q ∙ get_or-drop (from + i) d 0 0))

  pub copying-more : (e : List ℕ) (i : ℕ) → i < n → Apart d from n at → Copying d from n at e i → Copying d from n at (set e (at + i) (get_or e (from + i) 0)) (i + 1)
  copying-more e i h a k =
      let x = a.source in
      let y = a.target in
      let m : n ≤ length (drop from d) = simp length-drop (omega arith) in
      let q : get_or e (from + i) 0 ≡ get_or (drop from d) i 0 = untouched e i h a k ∙ sym (get_or-drop from d i 0) in
      record {
        low = omega arith;
        is = rw q (copied d at (drop from d) e i n h m y k.is);
        long = length-set e (at + i) (get_or e (from + i) 0) ∙ k.long;
      }

  pub copying-end : (e : List ℕ) (i : ℕ) → n ≤ i → Copying d from n at e i → e ≡ fill d at (take n (drop from d))
  copying-end e i h k = copy-end d at (drop from d) e i n k.low h k.is

-- ---- the test

module _ (len from n to : ℕ) where
  no_source : len < from + n → false ≡ is_apart len from n to
  unfolding is_apart
  no_source h = rw (lt-leb (from + n) len h)

  no_target : from + n ≤ len → len < to + region_size → false ≡ is_apart len from n to
  unfolding is_apart
  no_target h k = rw (le-leb (from + n) len h, lt-leb (to + region_size) len k)

  is-before : from + n ≤ len → to + region_size ≤ len → from + n ≤ to → true ≡ is_apart len from n to
  unfolding is_apart
  is-before h k l = rw (le-leb (from + n) len h, le-leb (to + region_size) len k, le-leb (from + n) to l)

  is-behind : from + n ≤ len → to + region_size ≤ len → to < from + n → leb (to + region_size) from ≡ is_apart len from n to
  unfolding is_apart
  is-behind h k l = rw (le-leb (from + n) len h, le-leb (to + region_size) len k, lt-leb (from + n) to l)

  -- as the code asks
  pub too_many : len < n → false ≡ is_apart len from n to
  too_many h = no_source (omega arith)

  pub too_far : n ≤ len → len - n < from → false ≡ is_apart len from n to
  too_far h k = no_source (omega arith)

  pub too_short : n ≤ len → from ≤ len - n → len < region_size → false ≡ is_apart len from n to
  too_short h k l = no_target (omega arith) (omega arith)

  pub too-high : n ≤ len → from ≤ len - n → region_size ≤ len → len - region_size < to → false ≡ is_apart len from n to
  too-high h k l m = no_target (omega arith) (omega arith)

  pub below : n ≤ len → from ≤ len - n → region_size ≤ len → to ≤ len - region_size → from + n ≤ to → true ≡ is_apart len from n to
  below h k l m o = is-before (omega arith) (omega arith) o

  pub above : n ≤ len → from ≤ len - n → region_size ≤ len → to ≤ len - region_size → to < from + n → leb (to + region_size) from ≡ is_apart len from n to
  above h k l m o = is-behind (omega arith) (omega arith) o

  pub apart-is : is_apart len from n to ≡ true → (from + n ≤ len) × (to + region_size ≤ len) × ((from + n ≤ to) ⊎ (to + held_at ≤ from))
  unfolding is_apart
  apart-is p =
      let a = leb (from + n) len in
      let b = leb (to + region_size) len in
      let e = leb (from + n) to || leb (to + region_size) from in
      let q = and_left (a && b) e p in
      (leb-true (from + n) len (and_left a b q), leb-true (to + region_size) len (and_right a b q), either (leb (from + n) to) refl (and_right (a && b) e p))
    where
      either : (x : Bool) → leb (from + n) to ≡ x → (x || leb (to + region_size) from) ≡ true → (from + n ≤ to) ⊎ (to + held_at ≤ from)
      either true q r = inl (leb-true (from + n) to q)
      either false q r = inr (leb-true (to + region_size) from r)

  apart-so : from + n ≤ len → to + region_size ≤ len → (from + n ≤ to) ⊎ (to + held_at ≤ from) → is_apart len from n to ≡ true
  apart-so h k (inl l) = sym (is-before h k l)
  apart-so h k (inr l) = sym (is-behind h k (omega arith)) ∙ le-leb (to + region_size) from l

-- ---- what is carried

module _ {w : List ℕ} {from n to at : ℕ} where
  pub not-apart : {x : Bool} {r : ℕ} → x ≡ is_apart (length w) from n to → not x ≡ true → Carries w from n to at w r
  not-apart {x} i p = record { carries = λ h k j o. (let q = sym (apart-so (length w) from n to h k o) ∙ sym i ∙ not-true x p in let y : ◌≡◌ {A = ℕ} 0 1 = cc in absurd (omega arith)) }

  pub too-full : region_size < at → Carries w from n to at w at
  too-full h = record {
    carries = λ a b v o.
        let l : length (region_at to w) ≡ region_size = simp (length-take, length-drop) (omega arith) in
        record { filled = record { bytes = sym (fill-out (region_at to w) at (take n (drop from w)) (omega arith)); place = omega arith }; before = refl; behind = refl };
  }

  pub too-high-up : {r : ℕ} → kept_at < to → Carries w from n to at w r
  too-high-up h = record { carries = λ a b v o. absurd (omega arith) }

  pub carried : {w' : List ℕ} {m r : ℕ} → at ≤ region_size → m ≡ min n (region_size - at) → w' ≡ fill w (to + at) (take m (drop from w)) → r ≡ min (at + n) no_room → Carries w from n to at w' r
  carried {w'} {m} {r} h i j e = record {
    carries = λ a b v o.
        let l : length (region_at to w) ≡ region_size = simp (length-take, length-drop) (omega arith) in
        let s = take n (drop from w) in
        let y : length s ≡ n = simp (length-take, length-drop) (omega arith) in
        let x : length (take m (drop from w)) ≡ m = simp (length-take, length-drop) (omega arith) in
        let z : to + at + length (take m (drop from w)) ≤ to + region_size = omega arith in
        record {
          filled = record { bytes = region l y x; place = omega arith };
          before = rw j (front-before w (to + at) (take m (drop from w)) to (omega arith));
          behind = rw j (rest-behind w (to + at) (take m (drop from w)) (to + region_size) z);
        };
  }
    where
      region : length (region_at to w) ≡ region_size → length (take n (drop from w)) ≡ n → length (take m (drop from w)) ≡ m → region_at to w' ≡ fill (region_at to w) at (take n (drop from w))
      region l y x =
          let g : take region_size (drop to w') ≡ fill (region_at to w) at (take m (drop from w)) =
          rw (j, fill-behind to w at (take m (drop from w))) (fill-before-end region_size (drop to w) at (take m (drop from w)) (omega arith)) in
          let c : take m (drop from w) ≡ take m (take n (drop from w)) = sym (take-take m n (drop from w) (omega arith)) in
          g ∙ rw c cut
        where
          cut : fill (region_at to w) at (take m (take n (drop from w))) ≡ fill (region_at to w) at (take n (drop from w))
          cut =
              elim (dec_le n (region_size - at)) [
                | yes k ↦ ap (fill (region_at to w) at) (take_all m (take n (drop from w)) (omega arith))
                | no k ↦ fill-cut (region_at to w) at m (take n (drop from w)) (omega arith) (omega arith)
              ]

pub apart-there : (w : List ℕ) (from n to at m : ℕ) {x : Bool} → x ≡ is_apart (length w) from n to → not x ≡ false → at ≤ region_size → m ≡ min n (region_size - at) → Apart w from m (to + at)
apart-there w from n to at m {x} i p h e = let q = apart-is (length w) from n to (sym i ∙ not-false x p) in let a = q.0 in let b = q.1 in record { source = omega arith; target = omega arith; apart = on q.2 }
  where
    on : (from + n ≤ to) ⊎ (to + held_at ≤ from) → (from + m ≤ to + at) ⊎ (to + at + m ≤ from)
    on (inl k) = inl (omega arith)
    on (inr k) = inr (omega arith)
