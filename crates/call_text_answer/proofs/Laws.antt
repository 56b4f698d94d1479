-- What the public calls go by, and that two results that meet a contract are equal. Assumes nothing.
use Rattle.std.proofs.Common.{◌≡◌, ◌⊎◌, Bool, true, false, not, List, [], ◌++◌, ℕ, ◌+◌, ◌-◌, ◌≤◌, ◌<◌, ltb, length, take, if◌then◌else◌, Result, Ok, Err, refl, sym, ap, ◌∙◌, ⊎_elim, inl, inr, arith, zero-add, lt-ltb, le-ltb}
use Rattle.std.specs.Result.{result_unwrap_or}
use Rattle.lent.specs.Fill.{zeros, Filled}
use Rattle.lent.proofs.Laws.{length-filled, take-fill}
use Rattle.utf8.specs.Utf8.{is_utf8}
use Rattle.call_text_answer.specs.declared.Refusal.{Refusal}
use Rattle.call_text_answer.specs.declared.Refusal.TheVariants.{TooLong, NotUtf8, NoRoom}
use Rattle.call_text_answer.specs.Written.{number_of, value_of, choose, taken_of, Tried, Wrote}

-- two results that meet a contract are equal
pub unique : {text result d e f : List ℕ} {a b : Result ℕ Refusal} → Wrote text result d e a → Wrote text result d f b → (a ≡ b) × (e ≡ f)
unique p q = (p.answer ∙ sym q.answer, p.bytes ∙ sym q.bytes)

-- ---- 1 and 2

module _ (text : List ℕ) where
  pub too_long : 64000 < length text → Err TooLong ≡ taken_of text
  unfolding taken_of
  too_long h = rw (lt-ltb 64000 (length text) h)

  module _ (h : length text ≤ 64000) (x : Bool) (p : x ≡ is_utf8 text) where
    pub taken : x ≡ true → Ok (tt {0}) ≡ taken_of text
    unfolding taken_of
    taken q = rw (le-ltb 64000 (length text) h, ← p, q)

    pub not-utf8 : x ≡ false → Err NotUtf8 ≡ taken_of text
    unfolding taken_of
    not-utf8 q = rw (le-ltb 64000 (length text) h, ← p, q)

-- ---- what is tried: refused, or appended

-- the two tests, as Bools
refused-case : (long valid : Bool) (w : Refusal) → Err w ≡ (if long then Err TooLong else (if valid then Ok (tt {0}) else Err NotUtf8))
    → ((long ≡ true) × (w ≡ TooLong)) ⊎ ((long ≡ false) × (valid ≡ false) × (w ≡ NotUtf8))
refused-case true valid w p = inl (refl, cc)
refused-case false true w p = cc
refused-case false false w p = inr (refl, refl, cc)

passed-case : (long valid : Bool) → Ok (tt {0}) ≡ (if long then Err TooLong else (if valid then Ok (tt {0}) else Err NotUtf8)) → (long ≡ false) × (valid ≡ true)
passed-case true valid p = cc
passed-case false true p = (refl, refl)
passed-case false false p = cc

module _ {text result d e : List ℕ} where
  pub refused : {w : Refusal} → Err w ≡ taken_of text → length e ≡ length d → Tried text result d e (Err w)
  unfolding taken_of choose
  refused {w} p l =
      ⊎_elim
      (λ k. record { answer = rw (k.0, k.1); long = l; front = rw k.0 })
      (λ k. record { answer = rw (k.0, k.1, k.2); long = l; front = rw (k.0, k.1) })
      (refused-case (ltb 64000 (length text)) (is_utf8 text) w p)

  module _ {end : ℕ} (p : Ok (tt {0}) ≡ taken_of text) (k : Filled d 0 result e end) where
    pub lacks : length e < end → Tried text result d e (Err NoRoom)
    unfolding taken_of choose
    lacks h =
        let y = passed-case (ltb 64000 (length text)) (is_utf8 text) p in
        let l = length-filled k in
        let m = k.place in
        let v = lt-ltb (length d) (length result) (omega arith) in
        record { answer = rw (y.0, y.1, v); long = l; front = rw (y.0, y.1, v) }

    pub fits : end ≤ length e → Tried text result d e (Ok end)
    unfolding taken_of choose
    fits h =
        let y = passed-case (ltb 64000 (length text)) (is_utf8 text) p in
        let l = length-filled k in
        let m = k.place in
        let n : end ≡ length result = omega arith in
        let i : length result ≤ length d = omega arith in
        let v = le-ltb (length d) (length result) i in
        let s : take (length result) e ≡ result = rw zero-add at (ap (take (0 + length result)) k.bytes ∙ take-fill d 0 result (omega arith)) in
        record { answer = rw (y.0, y.1, v, n); long = l; front = rw (y.0, y.1, v, n) s }

-- ---- and the rest is cleared

module _ (result d e f : List ℕ) (r : Result ℕ Refusal) (l : length e ≡ length d) (p : f ≡ take (result_unwrap_or r 0) e ++ zeros (length e - result_unwrap_or r 0)) where
  abbrev four : {A : Type 0} (long valid lacks : Bool) (a b c w : A) → A
  four long valid lacks a b c w = if long then a else (if not valid then b else (if lacks then c else w))

  none : (w : Refusal) → r ≡ Err w → f ≡ zeros (length d)
  none w a = let z : length d - 0 ≡ length d = omega arith in p ∙ rw (a, l, z)

  told : (long valid lacks : Bool) → r ≡ four long valid lacks (Err TooLong) (Err NotUtf8) (Err NoRoom) (Ok (length result))
      → take (value_of r) e ≡ four long valid lacks [] [] [] result
      → (number_of r ≡ four long valid lacks 1 2 9 0)
      × (value_of r ≡ four long valid lacks 0 0 0 (length result))
      × (f ≡ four long valid lacks (zeros (length d)) (zeros (length d)) (zeros (length d)) (result ++ zeros (length d - length result)))
  told true valid lacks a q = (rw a, rw a, none TooLong a)
  told false false lacks a q = (rw a, rw a, none NotUtf8 a)
  told false true true a q = (rw a, rw a, none NoRoom a)
  told false true false a q = let s : take (length result) e ≡ result = rw a at q in (rw a, rw a, p ∙ rw (a, l, s))

pub wrote : {text result d e f : List ℕ} {r : Result ℕ Refusal} → Tried text result d e r → f ≡ take (result_unwrap_or r 0) e ++ zeros (length e - result_unwrap_or r 0)
    → Wrote text result d f r
unfolding choose
wrote {text} {result} {d} {e} {f} {r} t p =
    let c = told result d e f r t.long p (ltb 64000 (length text)) (is_utf8 text) (ltb (length d) (length result)) t.answer t.front in
    record { answer = t.answer; number = c.0; value = c.1; bytes = c.2 }
