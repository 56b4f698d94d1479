-- Words that only the contracts of private functions use. Assumes nothing.
use Rattle.std.specs.Prelude.{ℕ, eqb, if◌then◌else◌}

-- the least and the greatest byte that may follow a first byte
abbrev pub second_from : ℕ → ℕ
second_from b = if eqb b 0xE0 then 0xA0 else (if eqb b 0xF0 then 0x90 else 0x80)

abbrev pub second_to : ℕ → ℕ
second_to b = if eqb b 0xED then 0x9F else (if eqb b 0xF4 then 0x8F else 0xBF)
