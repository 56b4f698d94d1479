-- Code text in general: what is trimmed, what stays, and what becomes of a pipe in a table. Assumes nothing.
use Rattle.std.specs.Prelude.{if◌then◌else◌}
use mathlib.Core.Path.{◌≡◌, refl, ap, ◌∙◌}
use mathlib.Core.Bool.{Bool, true, false, cond, not, ◌&&◌, and-false}
use mathlib.Core.List.{List, [], ◌∷◌, ◌++◌}
use Prim.Native.Nat.{ℕ, zero, suc, ◌+◌, ◌-◌}
use native.Mathlib.Omega.{arith}
use lib.Dec.{T, eqb}
use lib.ListN.{length, take, replicate, length-append}
use lib.Seq.{take_at}
use Rattle.lent.specs.Bytes.{all}
use Rattle.lent.proofs.Computed.{and_left, and_right}
use Rattle.machine.specs.Buffers.{last_or}
use Rattle.machine.specs.Text.{starts_pipe, unescape_pipes, trim_code}

-- ---- trimming

all-spaces : (n : ℕ) → all (eqb 32) (replicate n 32) ≡ true
all-spaces zero = refl
all-spaces (suc n) = all-spaces n

-- spaces alone stay, however many
pub spaces-stay : (n : ℕ) → trim_code (replicate n 32) ≡ replicate n 32
unfolding trim_code
spaces-stay zero = refl
spaces-stay (suc n) = simp (all-spaces n, and-false)

last_of : (d x : ℕ) (b : List ℕ) → last_or d (b ++ (x ∷ [])) ≡ x
last_of d x [] = refl
last_of d x (c ∷ b) = last_of c x b

-- a test that some byte fails
spaced : (x : ℕ) (b c : List ℕ) → T (not (eqb 32 x && all (eqb 32) b)) → (T (not (all (eqb 32) b)) → all (eqb 32) (b ++ c) ≡ false) → all (eqb 32) ((x ∷ b) ++ c) ≡ false
spaced x b c h f = go (eqb 32 x) h
  where
    go : (t : Bool) → T (not (t && all (eqb 32) b)) → (t && all (eqb 32) (b ++ c)) ≡ false
    go true k = f k
    go false k = refl

unspaced : (b c : List ℕ) → T (not (all (eqb 32) b)) → all (eqb 32) (b ++ c) ≡ false
unspaced [] c h = absurd h
unspaced (x ∷ b) c h = spaced x b c h (unspaced b c)

-- one space goes at each end of what has another byte in between
pub ends-go : (b : List ℕ) → T (not (all (eqb 32) b)) → trim_code (32 ∷ b ++ (32 ∷ [])) ≡ b
unfolding trim_code
ends-go b h =
    let n : length (b ++ (32 ∷ [])) - 1 ≡ length b = rw length-append (omega arith) in
    rw (last_of 32 32 b, unspaced b (32 ∷ []) h, n) (take_at b (32 ∷ []) (length b) refl)

-- what begins or ends with another byte stays
pub start-stays : (x : ℕ) (b : List ℕ) → eqb x 32 ≡ false → trim_code (x ∷ b) ≡ x ∷ b
unfolding trim_code
start-stays x b h = rw h

pub end_stays : (x : ℕ) (b : List ℕ) → eqb x 32 ≡ false → trim_code (b ++ (x ∷ [])) ≡ b ++ (x ∷ [])
unfolding trim_code
end_stays x [] h = rw h
end_stays x (y ∷ b) h = simp (last_of y x b, h, and-false)

-- ---- pipes

abbrev is_plain : ℕ → Bool
is_plain x = not (eqb x 92)

-- a byte that is no backslash stays
step : (x : ℕ) (b : List ℕ) → T (is_plain x) → unescape_pipes (x ∷ b) ≡ x ∷ unescape_pipes b
unfolding unescape_pipes
step x b h = go (eqb x 92) h
  where
    go : (t : Bool) → T (not t) → (if t && starts_pipe b then [] else x ∷ []) ++ unescape_pipes b ≡ x ∷ unescape_pipes b
    go true k = absurd k
    go false k = refl

-- \| becomes |, behind bytes that stay, and the rest goes on
pub pipe-stays : (b c : List ℕ) → T (all is_plain b) → unescape_pipes (b ++ (92 ∷ 124 ∷ c)) ≡ b ++ (124 ∷ unescape_pipes c)
unfolding unescape_pipes
pipe-stays [] c h = refl
pipe-stays (x ∷ b) c h = step x (b ++ (92 ∷ 124 ∷ c)) (and_left (is_plain x) (all is_plain b) h) ∙ ap (λ r. x ∷ r) (pipe-stays b c (and_right (is_plain x) (all is_plain b) h))

-- without a backslash all stays
pub plain-stays : (b : List ℕ) → T (all is_plain b) → unescape_pipes b ≡ b
unfolding unescape_pipes
plain-stays [] h = refl
plain-stays (x ∷ b) h = step x b (and_left (is_plain x) (all is_plain b) h) ∙ ap (λ r. x ∷ r) (plain-stays b (and_right (is_plain x) (all is_plain b) h))
