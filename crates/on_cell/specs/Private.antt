-- What the inner functions do: parts of the handlers of cells, which the machine has in one piece. Assumes nothing.
use Rattle.std.specs.Prelude.{◌≡◌, false, List, ℕ}
use Rattle.machine.specs.State.{State}
use Rattle.machine.specs.Outcome.{go}
use Rattle.machine.specs.Set.{head}
use Rattle.machine.specs.Turn.{Turn}
use Rattle.machine.specs.Test.{is, is_past_columns, test}
use Rattle.machine.specs.Command.{Command, ◌▸◌, whether}
use Rattle.machine.specs.Words.{put, alignment, line_ending_if_needed}
use Rattle.machine.specs.OnCell.{on_enter_gfm_table_cell, on_exit_gfm_table_cell}
use Rattle.machine_bounded.specs.Within.{within}
use Rattle.state_context.specs.declared.Context.{Context}
use Rattle.state_context.specs.Rel.{Rel}

abbrev pub cell_name : Command
cell_name = whether (is head) (put "<th") (put "<td")

-- a cell that is not past the columns
abbrev pub opening_cell : Command
opening_cell = line_ending_if_needed ▸ cell_name ▸ alignment ▸ put ">"

abbrev pub closing_cell : Command
closing_cell = whether (is head) (put "</th>") (put "</td>")

-- what is written for a cell that the row lacks
abbrev pub phantom_cell : Command
phantom_cell = on_enter_gfm_table_cell ▸ on_exit_gfm_table_cell

-- it is written where the next column is one of the table's
pub record AddsCell (c : Context) (captures out : List ℕ) (r : Context) (captures' out' : List ℕ) : Type 0 where
  pub adds : (t : Turn) (starts : List ℕ) (s u : State) → test is_past_columns t s ≡ go false → Rel c captures out starts s → within phantom_cell t s ≡ go u → Rel r captures' out' starts u
