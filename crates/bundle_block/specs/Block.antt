-- A block (RULES R15.1): 512 bytes, little endian, written and judged. Assumes nothing.
use Rattle.std.specs.Prelude.{Bool, true, false, ◌&&◌, List, [], ◌∷◌, ◌++◌, ℕ, ◌+◌, ◌-◌, ◌*◌, eqb, ltb, length, take, drop, Result, Ok, Err}
use Rattle.std.specs.Result.{result_and}
use Rattle.lent.specs.Bytes.{all}
use Rattle.lent.specs.Fill.{zeros}
unfoldable pub use Rattle.little.specs.Little.{little, number}
pub use Rattle.little.specs.Little.{field}
use Rattle.bundle_block.specs.declared.Refusal.{Refusal}
use Rattle.bundle_block.specs.declared.Refusal.TheVariants.{Broken, BadCheck, OtherEdition}

abbrev pub is_byte : ℕ → Bool
is_byte b = ltb b 256

-- the sum of (place + 1) times byte; the first byte stands at the place given
unfoldable pub weighed : ℕ → List ℕ → ℕ
weighed place [] = 0
weighed place (b ∷ bs) = (place + 1) * b + weighed (place + 1) bs

-- the check of bytes from place 0 on
unfoldable pub check_of : List ℕ → ℕ
check_of s = weighed 0 s

-- ---- written

-- places 0 to 507: edition u32, block number u16, kind u8, a zero byte, 500 payload bytes, zero where unused
unfoldable pub front_of : (edition block kind : ℕ) → List ℕ → List ℕ
front_of edition block kind payload = little 4 edition ++ little 2 block ++ little 1 kind ++ 0 ∷ payload ++ zeros (500 - length payload)

-- then the check, u32
unfoldable pub block_of : (edition block kind : ℕ) → List ℕ → List ℕ
block_of edition block kind payload = front_of edition block kind payload ++ little 4 (check_of (front_of edition block kind payload))

-- ---- read

-- a block's fields
abbrev pub edition_in : List ℕ → ℕ
edition_in b = field 0 4 b

abbrev pub number_in : List ℕ → ℕ
number_in b = field 4 2 b

abbrev pub kind_in : List ℕ → ℕ
kind_in b = field 6 1 b

abbrev pub zero_in : List ℕ → ℕ
zero_in b = field 7 1 b

abbrev pub payload_in : List ℕ → List ℕ
payload_in b = take 500 (drop 8 b)

abbrev pub check_in : List ℕ → ℕ
check_in b = field 508 4 b

abbrev pub is_zero : ℕ → Bool
is_zero b = eqb b 0

-- ---- judged

-- good, or what is wrong
abbrev pub Verdict : Type 0
Verdict = Result (Unit {0}) Refusal

-- good where a test holds
abbrev pub demand : Bool → Refusal → Verdict
demand true r = Ok tt
demand false r = Err r

-- the first of two verdicts that is bad
infixr 4 ◌before◌
abbrev pub ◌before◌ : Verdict → Verdict → Verdict
v before w = result_and v w

-- 11: the check is that of places 0 to 507
unfoldable pub judge_check : (block : ℕ) → List ℕ → Verdict
judge_check block b = demand (eqb (check_in b) (check_of (take 508 b))) (BadCheck block)

-- 12: the edition is that of block 0
unfoldable pub judge_edition : (edition block : ℕ) → List ℕ → Verdict
judge_edition edition block b = demand (eqb (edition_in b) edition) (OtherEdition block)

-- 10: the block's number, the kind that is due, the zero byte, and no payload behind what is used
unfoldable pub judge_order : (block kind used : ℕ) → List ℕ → Verdict
judge_order block kind used b =
    demand (eqb (number_in b) block && eqb (kind_in b) kind && eqb (zero_in b) 0 && all is_zero (drop used (payload_in b))) (Broken block)

-- one block: 11, 12, 10
unfoldable pub judge_block : (edition block kind used : ℕ) → List ℕ → Verdict
judge_block edition block kind used b = judge_check block b before judge_edition edition block b before judge_order block kind used b
