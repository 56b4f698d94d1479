-- What C hands over: options as bits of a number. Assumes nothing.
use Rattle.std.specs.Prelude.{Bool, ℕ, ◌/◌, ◌%◌, eqb, if◌then◌else◌}
use Rattle.character_reference.specs.declared.Names.{Names}
use Rattle.character_reference.specs.declared.Names.TheVariants.{Html4, Html5}
use Rattle.machine.specs.declared.Ending.{Ending}
use Rattle.machine.specs.declared.Ending.TheVariants.{Lf, Cr, CrLf}
use Rattle.encode_byte.specs.declared.Escaping.{Escaping}
use Rattle.encode_byte.specs.Byte.{escaping_of}
use Rattle.machine.specs.declared.Options.{Options}

-- the bit that stands for 1, 2, 4, ..
abbrev pub has_bit : (bit options : ℕ) → Bool
has_bit bit options = eqb (options / bit % 2) 1

-- bits 8 and 9: 0 LF, 1 CR, 2 CR LF, and 3, which no header names, LF
unfoldable pub ending_of : ℕ → Ending
ending_of n = if eqb n 1 then Cr else (if eqb n 2 then CrLf else Lf)

abbrev pub names_of : (html4 : Bool) → Names
names_of html4 = if html4 then Html4 else Html5

-- of the call that escapes a text
abbrev pub escaping_in : ℕ → Escaping
escaping_in n = escaping_of (has_bit 1 n) (has_bit 8 n)

unfoldable pub options_of : ℕ → Options
options_of n =
    record {
      allow_dangerous_html = has_bit 1 n;
      allow_dangerous_protocol = has_bit 2 n;
      allow_any_img_src = has_bit 4 n;
      escape_apostrophes = has_bit 8 n;
      ending = ending_of (n / 256 % 4);
      names = names_of (has_bit 65536 n);
    }
