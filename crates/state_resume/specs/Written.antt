-- What is written of a capture. Assumes nothing.
use Rattle.std.specs.Prelude.{Bool, true, false, List, ◌++◌, ℕ}
use Rattle.machine.specs.Text.{unescape_pipes, trim_code}

-- between two texts
abbrev pub around : (before after c : List ℕ) → List ℕ
around before after c = before ++ c ++ after

-- \| becomes | in a table
abbrev pub pipes_in : (in_table : Bool) → List ℕ → List ℕ
pipes_in false c = c
pipes_in true c = unescape_pipes c

-- code text
abbrev pub code_in : (in_table : Bool) → List ℕ → List ℕ
code_in in_table c = trim_code (pipes_in in_table c)
