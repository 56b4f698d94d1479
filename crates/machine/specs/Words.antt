-- The short words that handlers are written in. Assumes nothing.
use Rattle.std.specs.Prelude.{Bool, ℕ}
use Rattle.std.proofs.Math.Option.{Option}
use Prim.Native.String.{String}
use Rattle.character_reference.specs.declared.Marker.{Marker}
use Rattle.machine.specs.Set.{Flag, alt}
use Rattle.machine.specs.Media.{Part, Id}
use Rattle.machine.specs.Test.{Test, is}
use Rattle.machine.specs.Command as C
use Rattle.machine.specs.Command.{Command, nothing, step, whether}

abbrev pub put : String → Command
put text = step (C.write (C.given (C.ours text)))

abbrev pub slice : Command
slice = step (C.write (C.made C.slice))

abbrev pub chunk : Command
chunk = step (C.write (C.made C.chunk))

abbrev pub rank : Command
rank = step (C.write C.rank)

abbrev pub start : Command
start = step (C.write C.start)

abbrev pub alignment : Command
alignment = step (C.write C.alignment)

abbrev pub line_ending : Command
line_ending = step (C.write (C.given C.line_ending))

abbrev pub line_ending_if_needed : Command
line_ending_if_needed = step (C.write (C.given C.line_ending_if_needed))

abbrev pub url : String → Command
url scheme = step (C.write (C.made (C.url scheme)))

abbrev pub show : Part → Command
show part = step (C.write (C.part part))

abbrev pub buffer : Command
buffer = step (C.capture C.buffer)

abbrev pub drop : Command
drop = step (C.capture C.drop)

abbrev pub resume_code : Command
resume_code = step (C.capture C.resume_code)

abbrev pub resume : String → String → Command
resume before after = step (C.capture (C.resume before after))

abbrev pub hold : Command
hold = step (C.setext C.hold)

abbrev pub release : Command
release = step (C.setext C.release)

abbrev pub set : Flag → Bool → Command
set flag x = step (C.mode (C.set flag x))

abbrev pub leave_image : Command
leave_image = step (C.mode C.leave_image)

abbrev pub open_container : Bool → Command
open_container x = step (C.mode (C.open_container x))

abbrev pub close_container : Command
close_container = step (C.mode C.close_container)

abbrev pub keep_rank : Command
keep_rank = step (C.wait C.keep_rank)

abbrev pub forget_rank : Command
forget_rank = step (C.wait C.forget_rank)

abbrev pub count_fence : Command
count_fence = step (C.wait C.count_fence)

abbrev pub reference : Command
reference = step (C.wait C.reference)

abbrev pub seen_data : Option Bool → Command
seen_data x = step (C.wait (C.seen_data x))

abbrev pub fences : Option ℕ → Command
fences x = step (C.wait (C.fences x))

abbrev pub marker : Marker → Command
marker m = step (C.wait (C.marker m))

abbrev pub first : Bool → Command
first x = step (C.wait (C.first x))

abbrev pub columns : Command
columns = step (C.column C.columns)

abbrev pub no_columns : Command
no_columns = step (C.column C.no_columns)

abbrev pub next_column : Command
next_column = step (C.column C.next_column)

abbrev pub first_column : Command
first_column = step (C.column C.first_column)

abbrev pub open_media : Bool → Command
open_media image = step (C.medium (C.open_media image))

abbrev pub close_media : Command
close_media = step (C.medium C.close_media)

abbrev pub empty_destination : Command
empty_destination = step (C.medium C.empty_destination)

abbrev pub seek_definition : Command
seek_definition = step (C.medium C.seek_definition)

abbrev pub store : Part → Command
store part = step (C.medium (C.store part))

abbrev pub identify : Id → Command
identify id = step (C.medium (C.identify id))

abbrev pub keep_definition : Command
keep_definition = step (C.retain C.keep_definition)

abbrev pub footnote_label : Command
footnote_label = step (C.retain C.footnote_label)

abbrev pub keep_footnote : Command
keep_footnote = step (C.retain C.keep_footnote)

abbrev pub call : Command
call = step (C.retain C.call)

-- ---- the same said shortly

abbrev pub when : Test → Command → Command
when q c = whether q c nothing

abbrev pub unless : Test → Command → Command
unless q c = whether q nothing c

-- a tag: in an image's text there is none
abbrev pub tag : String → Command
tag text = unless (is alt) (put text)
