-- Code text: bytes that are cut off or taken out are characters of their own. Assumes nothing.
use Rattle.std.specs.Prelude.{if◌then◌else◌}
use mathlib.Core.Path.{◌≡◌, refl}
use mathlib.Core.Bool.{Bool, true, false, not, ◌&&◌}
use mathlib.Core.List.{List, [], ◌∷◌, ◌++◌, append-nil, append_assoc}
use mathlib.Core.Option.{Option, none, some}
use Prim.Native.Nat.{ℕ, suc, ◌-◌, ◌<◌}
use native.Mathlib.Omega.{arith}
use borrow.Author.Tests.{eqb-true}
use lib.Dec.{eqb}
use lib.ListN.{length, take, get_or}
use Rattle.lent.specs.Bytes.{all}
use Rattle.lent.proofs.Laws.{and_left, and_right}
use Rattle.utf8.specs.Utf8.{is_utf8}
use Rattle.utf8.proofs.Laws as Utf8
use Rattle.machine.specs.Buffers.{last_or}
use Rattle.machine.specs.Text.{starts_pipe, unescape_pipes, trim_code, code_of}
use Rattle.machine_clean.specs.Clean.{Valid}
use Rattle.machine_clean.proofs.Valid.{valid, holds, none-valid}

-- ---- an ASCII byte less

-- one that stands anywhere
pub less : (a : List ℕ) (b : ℕ) (c : List ℕ) → b < 0x80 → Valid (a ++ (b ∷ c)) → Valid (a ++ c)
less a b c h v = valid (a ++ c) (rw append-nil at (Utf8.replaced a b [] c (holds v) h Utf8.empty))

-- the first
pub less-first : (b : ℕ) (c : List ℕ) → b < 0x80 → Valid (b ∷ c) → Valid c
less-first b c h v = less [] b c h v

last-at : (d b : ℕ) (c : List ℕ) → get_or (b ∷ c) (length c) 0 ≡ last_or d (b ∷ c)
last-at d b [] = refl
last-at d b (x ∷ c) = last-at b x c

-- the last
pub less-last : (d : ℕ) (b : List ℕ) → last_or d b < 0x80 → Valid b → Valid (take (length b - 1) b)
less-last d [] h v = none-valid
less-last d (b ∷ c) h v =
    let e : suc (length c) - 1 ≡ length c = omega arith in
    let k : get_or (b ∷ c) (length c) 0 < 0x80 = rw (last-at d b c) h in
    rw e (valid (take (length c) (b ∷ c)) (Utf8.cut-take (b ∷ c) (holds v) (length c) (Utf8.outside-ascii (b ∷ c) (length c) (omega arith) k)))

-- ---- code text

unescaped-behind : (a b : List ℕ) → Valid (a ++ b) → Valid (a ++ unescape_pipes b)
unfolding unescape_pipes
unescaped-behind a [] v = v
unescaped-behind a (x ∷ b) v = on (eqb x 92 && starts_pipe b) refl (λ w. unescaped-behind a b w) (λ w. unescaped-behind (a ++ (x ∷ [])) b w)
  where
    on : (t : Bool) → (eqb x 92 && starts_pipe b) ≡ t → (Valid (a ++ b) → Valid (a ++ unescape_pipes b)) → (Valid ((a ++ (x ∷ [])) ++ b) → Valid ((a ++ (x ∷ [])) ++ unescape_pipes b))
        → Valid (a ++ ((if t then [] else x ∷ []) ++ unescape_pipes b))
    on true e f g = let p = eqb-true x 92 (and_left (eqb x 92) (starts_pipe b) e) in f (less a x b (omega arith) v)
    on false e f g = rw append_assoc at (g (rw append_assoc v))

trimmed : (b : List ℕ) → Valid b → Valid (trim_code b)
unfolding trim_code
trimmed [] v = v
trimmed (x ∷ b) v = on (eqb x 32 && eqb (last_or x b) 32 && not (all (eqb 32) b)) refl
  where
    on : (t : Bool) → (eqb x 32 && eqb (last_or x b) 32 && not (all (eqb 32) b)) ≡ t → Valid (if t then take (length b - 1) b else x ∷ b)
    on true e =
        let p = and_left (eqb x 32 && eqb (last_or x b) 32) (not (all (eqb 32) b)) e in
        let q = eqb-true x 32 (and_left (eqb x 32) (eqb (last_or x b) 32) p) in
        let r = eqb-true (last_or x b) 32 (and_right (eqb x 32) (eqb (last_or x b) 32) p) in
        less-last x b (omega arith) (less-first x b (omega arith) v)
    on false e = v

pub code-valid : (aligns : Option (List ℕ)) {b : List ℕ} → Valid b → Valid (code_of aligns b)
unfolding code_of
code-valid none {b} v = trimmed b v
code-valid (some aligns) {b} v = trimmed (unescape_pipes b) (unescaped-behind [] b v)

pub code-utf8 : (aligns : Option (List ℕ)) (b : List ℕ) → is_utf8 b ≡ true → is_utf8 (code_of aligns b) ≡ true
code-utf8 aligns b e = (code-valid aligns (record { utf8 = e })).utf8
