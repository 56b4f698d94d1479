-- What a byte's mark says: without one the byte stays and HTML leaves it alone, with one only & and ' stay. Assumes nothing.
use Rattle.std.proofs.Common.{if◌then◌else◌, ◌≡◌, refl, sym, ap, ◌∙◌, Bool, true, false, not, ◌&&◌, ◌||◌, ◌⊎◌, inl, inr, List, [], ◌∷◌, ℕ, ◌≤◌, arith, leb-true, le-leb, eqb-true, ne_eqb, leb, eqb, get_or}
use native.Mathlib.Decide.{dec_lt, ℕ_discrete}
use borrow.Author.Tests.{lt-leb, not-true, not-false}
use mir.Val.{bool_byte}
use Rattle.lent.specs.Bytes.{is_alnum, between}
use Rattle.lent.proofs.Laws.{and_left, and_right}
use Rattle.encode_byte.specs.declared.Escaping.{Escaping}
use Rattle.encode.specs.Encode.{encode_of}
use Rattle.url_byte.specs.Byte.{is_kept, two_alnum, stays, url_byte}
use Rattle.url_byte.specs.Private.{byte_of, is_apart, mark_of}
use Rattle.url_byte.proofs.Laws.{near, left_alone}

-- ---- tests

and-false : (a : Bool) → (a && false) ≡ false
and-false true = refl
and-false false = refl

module _ (p q r s t : Bool) where
  widen : (a b c m n : Bool) → (m ≡ true → n ≡ true) → (a || b || c || m || p || q || r || s || t) ≡ true → (a || b || c || n || p || q || r || s || t) ≡ true
  widen true b c m n f h = refl
  widen false true c m n f h = refl
  widen false false true m n f h = refl
  widen false false false true n f h = rw (f refl)
  widen false false false false true f h = refl
  widen false false false false false f h = h

  narrowed : (a b c m n : Bool) → (m ≡ false → n ≡ false) → (a || b || c || m || p || q || r || s || t) ≡ false → (a || b || c || n || p || q || r || s || t) ≡ false
  narrowed true b c m n f h = h
  narrowed false true c m n f h = h
  narrowed false false true m n f h = h
  narrowed false false false true n f h = let z : ◌≡◌ {A = ℕ} 0 1 = cc in absurd (omega arith)
  narrowed false false false false n f h = rw (f refl) h

low_end : (b : ℕ) → between 40 59 b ≡ true → between 38 59 b ≡ true
low_end b p =
    let k : 38 ≤ b = omega (arith, leb-true 40 b (and_left (leb 40 b) (leb b 59) p)) in
    rw (le-leb 38 b k) (and_right (leb 40 b) (leb b 59) p)

high_end : (b : ℕ) → between 38 39 b ≡ false → between 40 59 b ≡ false → between 38 59 b ≡ false
high_end b p q =
    elim (dec_lt b 38) [
      | yes h ↦ rw (lt-leb 38 b h)
      | no h ↦
          elim (dec_lt 59 b) [
            | yes k ↦ rw (lt-leb b 59 k) (and-false (leb 38 b))
            | no k ↦
                elim (dec_lt b 40) [
                  | yes m ↦
                      let z : true ≡ false = rw (le-leb 38 b (omega arith), le-leb b 39 (omega arith)) at p in
                      let y : ◌≡◌ {A = ℕ} 0 1 = cc in absurd (omega arith)
                  | no m ↦
                      let z : true ≡ false = rw (le-leb 40 b (omega arith), le-leb b 59 (omega arith)) at q in
                      let y : ◌≡◌ {A = ℕ} 0 1 = cc in absurd (omega arith)
                ]
          ]
    ]

-- ---- bytes

pub still_kept : (b : ℕ) → is_apart b ≡ false → is_kept b ≡ true
still_kept b p = widen (eqb b 61) (between 63 90 b) (eqb b 95) (between 97 122 b) (eqb b 126) (eqb b 33) (eqb b 35) (eqb b 36) (between 40 59 b) (between 38 59 b) (low_end b) (not-false _ p)

pub still-other : (b : ℕ) → is_apart b ≡ false → b ≡ 38 → ⊥
still-other b p e = let z : ◌≡◌ {A = ℕ} 0 1 = cc (ap is_apart e) in omega arith

pub still-another : (b : ℕ) → is_apart b ≡ false → b ≡ 39 → ⊥
still-another b p e = let z : ◌≡◌ {A = ℕ} 0 1 = cc (ap is_apart e) in omega arith

apart-kept : (b : ℕ) → is_apart b ≡ true → between 38 39 b ≡ false → is_kept b ≡ false
apart-kept b p q = narrowed (eqb b 61) (between 63 90 b) (eqb b 95) (between 97 122 b) (eqb b 126) (eqb b 33) (eqb b 35) (eqb b 36) (between 40 59 b) (between 38 59 b) (high_end b q) (not-true _ p)

two-of : (s : List ℕ) → two_alnum s ≡ (is_alnum (get_or s 0 0) && is_alnum (get_or s 1 0))
unfolding two_alnum
two-of [] = refl
two-of (a ∷ []) = sym (and-false (is_alnum a))
two-of (a ∷ b ∷ s) = refl

clear : (x : Bool) → ◌≡◌ {A = ℕ} (if x then 1 else 0) 0 → x ≡ false
clear true p = let z : ◌≡◌ {A = ℕ} 0 1 = sym p in absurd (omega arith)
clear false p = refl

raised : (x : Bool) → (◌≡◌ {A = ℕ} (if x then 1 else 0) 0 → ⊥) → x ≡ true
raised true p = refl
raised false p = absurd (p refl)

either : (a t : Bool) → (a && not t) ≡ false → (a ≡ false) ⊎ (t ≡ true)
either false t p = inl refl
either true true p = inr refl
either true false p = let z : ◌≡◌ {A = ℕ} 0 1 = cc in absurd (omega arith)

module _ (on : Escaping) (b : ℕ) (bs : List ℕ) where
  staying : stays (b ∷ bs) ≡ true → (b ≡ 37) ⊎ (is_kept b ≡ true) → (b ≡ 38 → ⊥) → (b ≡ 39 → ⊥) → encode_of on (byte_of (b ∷ bs)) ≡ b ∷ []
  unfolding byte_of url_byte encode_of
  staying p q n t = rw (p, left_alone on b q n t)

  still : is_apart b ≡ false → stays (b ∷ bs) ≡ true
  unfolding stays
  still p = rw (ne_eqb b 37 (λ e. let z : ◌≡◌ {A = ℕ} 0 1 = cc (ap is_apart e) in omega arith)) (still_kept b p)

  triple : (eqb b 37 && (is_alnum (get_or bs 0 0) && is_alnum (get_or bs 1 0))) ≡ true → stays (b ∷ bs) ≡ true
  unfolding stays
  triple p =
      let e : eqb b 37 ≡ true = and_left (eqb b 37) (is_alnum (get_or bs 0 0) && is_alnum (get_or bs 1 0)) p in
      rw e (two-of bs ∙ and_right (eqb b 37) (is_alnum (get_or bs 0 0) && is_alnum (get_or bs 1 0)) p)

  pub moved-byte : mark_of b (get_or bs 0 0) (get_or bs 1 0) ≡ 0 → encode_of on (byte_of (b ∷ bs)) ≡ b ∷ []
  unfolding mark_of
  moved-byte p =
      elim (either (is_apart b) (eqb b 37 && (is_alnum (get_or bs 0 0) && is_alnum (get_or bs 1 0))) (clear _ p)) [
        | inl q ↦ staying (still q) (inr (still_kept b q)) (still-other b q) (still-another b q)
        | inr q ↦
            let e : b ≡ 37 = eqb-true b 37 (and_left (eqb b 37) (is_alnum (get_or bs 0 0) && is_alnum (get_or bs 1 0)) q) in
            staying (triple q) (inl e) (λ n. omega arith) (λ n. omega arith)
      ]

  kept_by : is_apart b ≡ true → (x : Bool) → between 38 39 b ≡ x → is_kept b ≡ x
  kept_by p true q = near b q
  kept_by p false q = apart-kept b p q

  stays_by : is_apart b ≡ true → (eqb b 37 && (is_alnum (get_or bs 0 0) && is_alnum (get_or bs 1 0))) ≡ false → stays (b ∷ bs) ≡ between 38 39 b
  unfolding stays
  stays_by p q =
      elim (ℕ_discrete b 37) [
        | yes e ↦ let z : (is_alnum (get_or bs 0 0) && is_alnum (get_or bs 1 0)) ≡ false = rw e at q in rw e (two-of bs ∙ z)
        | no n ↦ rw (ne_eqb b 37 n) (kept_by p (between 38 39 b) refl)
      ]

  pub marked-byte : (mark_of b (get_or bs 0 0) (get_or bs 1 0) ≡ 0 → ⊥) → encode_of on (byte_of (b ∷ bs)) ≡ encode_of on (url_byte (between 38 39 b) b)
  unfolding mark_of byte_of
  marked-byte p =
      let t : Bool = eqb b 37 && (is_alnum (get_or bs 0 0) && is_alnum (get_or bs 1 0)) in
      let h : (is_apart b && not t) ≡ true = raised (is_apart b && not t) p in
      rw (stays_by (and_left (is_apart b) (not t) h) (not-true t (and_right (is_apart b) (not t) h)))

pub still-moved : (b c d : ℕ) → is_apart b ≡ false → mark_of b c d ≡ 0
unfolding mark_of
still-moved b c d p = rw p

-- ---- the code's own cases

flag : (x : Bool) → bool_byte x ≡ (if x then 1 else 0)
flag true = refl
flag false = refl

pub mark-set : (b c d : ℕ) (x y z : Bool) → x ≡ is_apart b → y ≡ is_alnum c → z ≡ is_alnum d → bool_byte (x && not (eqb b 37 && (y && z))) ≡ mark_of b c d
unfolding mark_of
mark-set b c d x y z p q r = rw (p, q, r) (flag (is_apart b && not (eqb b 37 && (is_alnum c && is_alnum d))))
