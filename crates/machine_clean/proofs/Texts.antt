-- What is written of a number, a list's start, a column, a line's end: ASCII. Assumes nothing.
use mathlib.Core.Path.{◌≡◌, refl}
use mathlib.Core.Bool.{Bool, true, false, cond}
use mathlib.Core.List.{List, [], ◌∷◌}
use Prim.Native.Nat.{ℕ, zero, suc, ◌+◌, ◌/◌, ◌%◌, ◌<◌}
use native.Mathlib.Omega.{arith}
use borrow.Author.Tests.{ltb-true}
use lib.Dec.{T, eqb, ltb, lt→ltb}
use Rattle.lent.specs.Bytes.{all}
use Rattle.lent.proofs.Computed.{and_both}
use Rattle.utf8.specs.Utf8.{is_ascii}
use Rattle.machine.specs.declared.Ending.{Ending}
use Rattle.machine.specs.declared.Ending.TheVariants.{Lf, Cr, CrLf}
use Rattle.machine.specs.Buffers.{ending_bytes}
use Rattle.machine.specs.Text.{digits_from, decimal, start_text, align_text}
use Rattle.machine.specs.Footnote.{again_text}
use Rattle.machine_clean.specs.Clean.{Valid}
use Rattle.machine_clean.proofs.Valid.{none-valid, joined, ascii, text}

pub either : (t : Bool) {a b : List ℕ} → Valid a → Valid b → Valid (cond t a b)
either true v w = v
either false v w = w

-- ---- numbers

low : (b : ℕ) (s : List ℕ) → b < 0x80 → T (all is_ascii s) → T (all is_ascii (b ∷ s))
low b s h t = and_both (is_ascii b) (all is_ascii s) (lt→ltb b 0x80 h) t

digits : (k n : ℕ) (s : List ℕ) → T (all is_ascii s) → T (all is_ascii (digits_from k n s))
unfolding digits_from
digits zero n s t = t
digits (suc k) n s t = on (ltb n 10) refl (digits k (n / 10) ((48 + n % 10) ∷ s) (low (48 + n % 10) s (omega arith) t))
  where
    on : (x : Bool) → ltb n 10 ≡ x → T (all is_ascii (digits_from k (n / 10) ((48 + n % 10) ∷ s))) → T (all is_ascii (elim x [ true ↦ (48 + n) ∷ s | false ↦ digits_from k (n / 10) ((48 + n % 10) ∷ s) ]))
    on true e h = let l = ltb-true n 10 e in low (48 + n) s (omega arith) t
    on false e h = h

pub decimal-valid : (n : ℕ) → Valid (decimal n)
unfolding decimal
decimal-valid n = ascii (decimal n) (digits (suc n) n [] tt)

-- ---- attributes

pub start-valid : (n : ℕ) → Valid (start_text n)
start-valid n = either (eqb n 1) none-valid (joined (text " start=\"" tt) (joined (decimal-valid n) (text "\"" tt)))

pub align-valid : (n : ℕ) → Valid (align_text n)
align-valid zero = none-valid
align-valid (suc zero) = text " align=\"left\"" tt
align-valid (suc (suc zero)) = text " align=\"right\"" tt
align-valid (suc (suc (suc n))) = text " align=\"center\"" tt

pub again-valid : (n : ℕ) → Valid (again_text n)
again-valid n = either (ltb 1 n) (joined (text "-" tt) (decimal-valid n)) none-valid

-- ---- line endings

pub ending-valid : (e : Ending) → Valid (ending_bytes e)
ending-valid Lf = text "\n" tt
ending-valid Cr = text "\r" tt
ending-valid CrLf = text "\r\n" tt
