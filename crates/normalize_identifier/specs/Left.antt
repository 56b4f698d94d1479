-- What a label's bytes have left to give. Assumes nothing.
use Rattle.std.specs.Prelude.{List, ℕ}
use Rattle.normalize_identifier.specs.declared.Identity.{Identity}
use Rattle.normalize_identifier.specs.Identity.{left_at}

abbrev pub left : Identity → List ℕ
left i = left_at i.label.now i.cursor
