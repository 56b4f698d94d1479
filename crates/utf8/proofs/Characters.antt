-- UTF-8 is exactly the sequences of characters. Assumes nothing.
use Rattle.std.proofs.Common.{◌≡◌, refl, ap, ◌∙◌, ◌↔◌, List, [], ◌∷◌, ◌++◌, ℕ, zero, suc, ◌+◌, ◌-◌, ◌*◌, ◌/◌, ◌≤◌, ◌<◌, arith, T, ltb→lt, length, length-append}
use Rattle.lent.specs.Bytes.{between}
use Rattle.utf8.specs.declared.Due.{Due}
use Rattle.utf8.specs.declared.Due.TheVariants.{First, More, Wrong}
use Rattle.utf8.specs.Table.{after_first, next, is_whole}
use Rattle.utf8.specs.Utf8.{run, is_utf8, is_scalar, tail, char_of, Characters, none, one}
use Rattle.lent.proofs.Computed.{is_true, and_left, and_right, from, to}
use Rattle.utf8.proofs.Table.{lead, is_sound, is_led, sound-first, led-first}
use Rattle.utf8.proofs.Run.{never-whole, taken, continues}
use Rattle.utf8.proofs.Laws.{empty, joined}
use Rattle.utf8.proofs.Codes.{above, tails, spelled, low_scalar, Tailed, tailed, low, high, fair}
use Rattle.utf8.proofs.Chars.{due, tail-due, leaves-head, char-valid}

-- ---- tails that stand in a text are those of a code

-- the code has the head v, and its last n tails begin s
record Coded (n v : ℕ) (s : List ℕ) : Type 0 where
  code : ℕ
  rest : List ℕ
  head : above n code ≡ v
  split : tails n code ++ rest ≡ s
  whole : T (is_whole (run First rest))

-- six bits more
abbrev on : ℕ → ℕ → ℕ
on v b = v * 64 + (b - 0x80)

module _ (v b : ℕ) (l : 0x80 ≤ b) (m : b ≤ 0xBF) where
  on-above : on v b / 64 ≡ v
  on-above = omega arith

  on-tail : tail (on v b) ≡ b
  on-tail = omega arith

coded : (n v : ℕ) (s : List ℕ) → T (is_whole (run (due n) s)) → Coded n v s
coded zero v s w = record { code = v; rest = s; head = refl; split = refl; whole = w }
coded (suc n) v [] w = absurd w
coded (suc n) v (b ∷ s) w =
    let x = taken (suc n) 0x80 0xBF b s w in
    let l = from 0x80 0xBF b x.0 in
    let m = to 0x80 0xBF b x.0 in
    let y = coded n (on v b) s (rw (tail-due n) at x.1) in
    record {
      code = y.code;
      rest = y.rest;
      head = ap (λ (h : ℕ). h / 64) y.head ∙ on-above v b l m;
      split = rw (y.head, on-tail v b l m, y.split);
      whole = y.whole;
    }

-- ---- a valid text begins with a character

-- s begins with a character
record Begins (s : List ℕ) : Type 0 where
  code : ℕ
  rest : List ℕ
  is-scalar : T (is_scalar code)
  split : char_of code ++ rest ≡ s
  whole : T (is_whole (run First rest))
  shorter : length rest < length s

begun : (n c : ℕ) (s t : List ℕ) → n ≤ 3 → Tailed n c → (lead n + above n c) ∷ tails n c ++ t ≡ s → T (is_whole (run First t)) → Begins s
begun n c s t l x e w =
    record { code = c; rest = t; is-scalar = fair n c x; split = rw (spelled n c l (low n c x) (high n c x)) e; whole = w; shorter = omega (arith, length-append (tails n c) t, ap length e) }

-- two bytes and n tails
module _ (n a b : ℕ) (l : 0x80 ≤ b) (m : b ≤ 0xBF) (g : lead (suc n) ≤ a) (h : a ≤ lead (suc n) + 31) (s : List ℕ) (y : Coded n (on (a - lead (suc n)) b) s) where
  first-is : lead (suc n) + above n y.code / 64 ≡ a
  first-is = omega (arith, y.head, on-above (a - lead (suc n)) b l m)

  second_is : tail (above n y.code) ≡ b
  second_is = ap tail y.head ∙ on-tail (a - lead (suc n)) b l m

  longer : n < 3 → next (after_first a) b ≡ due n → Begins (a ∷ b ∷ s)
  longer k e =
      let t = leaves-head n y.code k (omega (arith, y.head)) (rw (first-is, second_is) e) in
      begun (suc n) y.code (a ∷ b ∷ s) y.rest k t (rw (first-is, second_is, y.split)) y.whole

begins : (a : ℕ) (s : List ℕ) (d : Due) → d ≡ after_first a → T (is_sound d) → T (is_led a d) → T (is_whole (run d s)) → Begins (a ∷ s)
begins a s First e p q w =
    let h = ltb→lt a 0x80 q in
    let z : 0 + a ≡ a = omega arith in
    begun 0 a (a ∷ s) s (omega arith) (tailed 0 a (omega arith) h (low_scalar a (omega arith))) (ap (λ (x : ℕ). x ∷ s) z) w
begins a [] (More left lo hi) e p q w = absurd w
begins a (b ∷ s) (More zero lo hi) e p q w = absurd q
begins a (b ∷ s) (More (suc n) lo hi) e p q w =
    let j = to 1 3 (suc n) (and_left (between 1 3 (suc n)) (between (lead (suc n)) (lead (suc n) + 31) a) q) in
    let u = and_right (between 1 3 (suc n)) (between (lead (suc n)) (lead (suc n) + 31) a) q in
    let k = continues (suc n) lo hi b s p w in
    let x = taken (suc n) lo hi b s w in
    longer n a b (from 0x80 0xBF b k) (to 0x80 0xBF b k) (from (lead (suc n)) (lead (suc n) + 31) a u) (to (lead (suc n)) (lead (suc n) + 31) a u) s
    (coded n (on (a - lead (suc n)) b) s (rw (tail-due n) at x.1)) j (rw (← e, is_true (between lo hi b) x.0) (tail-due n))
begins a s Wrong e p q w = absurd (never-whole s w)

-- ---- and so on to its end

sequence : (n : ℕ) (s : List ℕ) → length s ≤ n → T (is_whole (run First s)) → Characters s
sequence zero [] h v = none
sequence zero (a ∷ s) h v = absurd (omega arith)
sequence (suc n) [] h v = none
sequence (suc n) (a ∷ s) h v =
    let x = begins a s (after_first a) refl (sound-first a) (led-first a) v in
    let k = x.shorter in
    rw (← x.split) (one x.code x.is-scalar (sequence n x.rest (omega arith) x.whole))

of-characters : {s : List ℕ} → Characters s → T (is_utf8 s)
of-characters none = empty
of-characters (one c {t} p q) = joined (char_of c) t (char-valid c p) (of-characters q)

-- UTF-8 is exactly the sequences of characters
pub characters : (s : List ℕ) → T (is_utf8 s) ↔ Characters s
unfolding is_utf8
characters s = (sequence (length s) s (omega arith), of-characters)
