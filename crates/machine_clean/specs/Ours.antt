-- The texts of ours in a command: `bytes` makes UTF-8 only of ASCII characters. Assumes nothing.
use Rattle.std.specs.Prelude.{Bool, true, ◌&&◌}
use Prim.Native.String.{String}
use Rattle.lent.specs.Bytes.{bytes, all}
use Rattle.utf8.specs.Utf8.{is_ascii}
use Rattle.machine.specs.Command as C
use Rattle.machine.specs.Command.{Command, nothing, step, ◌▸◌, whether, missing_cells, Step, write, capture, setext, mode, wait, column, medium, retain, Given, line_ending, line_ending_if_needed, Made, slice, chunk, url, Source, given, made, rank, start, alignment, part, Capture, buffer, drop, resume, resume_code}

abbrev pub plain : String → Bool
plain text = all is_ascii (bytes text)

-- whether all of them are ASCII
abbrev pub ours_given : Given → Bool
ours_given (C.ours text) = plain text
ours_given line_ending = true
ours_given line_ending_if_needed = true

abbrev pub ours_made : Made → Bool
ours_made slice = true
ours_made chunk = true
ours_made (url scheme) = plain scheme

abbrev pub ours_written : Source → Bool
ours_written (given x) = ours_given x
ours_written (made x) = ours_made x
ours_written rank = true
ours_written start = true
ours_written alignment = true
ours_written (part p) = true

abbrev pub ours_around : Capture → Bool
ours_around buffer = true
ours_around drop = true
ours_around (resume before after) = plain before && plain after
ours_around resume_code = true

abbrev pub ours_in : Step → Bool
ours_in (write x) = ours_written x
ours_in (capture x) = ours_around x
ours_in (setext x) = true
ours_in (mode x) = true
ours_in (wait x) = true
ours_in (column x) = true
ours_in (medium x) = true
ours_in (retain x) = true

unfoldable pub ours : Command → Bool
ours nothing = true
ours (step x) = ours_in x
ours (c ▸ d) = ours c && ours d
ours (whether q c d) = ours c && ours d
ours (missing_cells c) = ours c
