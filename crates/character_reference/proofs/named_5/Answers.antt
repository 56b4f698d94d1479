-- The packed table is the definition's, by computation. Assumes nothing.
use Rattle.std.proofs.Common.{refl}
use Rattle.character_reference.specs.Names.{names}
use Rattle.character_reference.specs.Reference.{names_of, named_of}
use Rattle.character_reference.specs.Table.{unpacked_from, is_packed_from}
use Rattle.character_reference.proofs.Entries.{names-ascend}
use Rattle.character_reference.proofs.named_5.Goals as goal

pub look_up-requires : goal.look_up-requires
unfolding is_packed_from unpacked_from names
look_up-requires c = record { packed = refl; ascending = names-ascend }

pub returns : goal.returns
unfolding named_of names_of unpacked_from names
returns c = c.look_up.ensures
