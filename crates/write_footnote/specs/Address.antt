-- The address that the code's pair stands for. Assumes nothing.
use Rattle.std.specs.Prelude.{List, ℕ}
use Rattle.machine.specs.Footnote.{address_of}
use Rattle.write_footnote.specs.declared.Address.{Address}

abbrev pub address_text : Address → List ℕ
address_text a = address_of a.apostrophes a.label.now
