-- What each command asks, and what it does, in what a stop depends on. Assumes nothing.
use Rattle.std.specs.Prelude.{List, [], ◌∷◌, ℕ, ◌≤◌, length}
use Rattle.std.proofs.Math.Option.{none, some}
use Rattle.machine.specs.State.{State}
use Rattle.machine.specs.Media as M
use Rattle.machine.specs.Command.{Step, write, capture, setext, mode, wait, column, medium, retain, Source, given, made, rank, start, alignment, part, Capture, buffer, drop, resume, resume_code, Setext, hold, release, Mode, set, leave_image, open_container, close_container, Wait, keep_rank, forget_rank, seen_data, fences, count_fence, marker, reference, first, Column, columns, no_columns, next_column, first_column, Medium, open_media, close_media, store, empty_destination, identify, seek_definition, Keep, keep_definition, footnote_label, keep_footnote, call}
use Rattle.machine_shape.specs.Facts.{wait_facts, media_facts}
use Rattle.machine_shape.specs.Shape.{Say, sure, lost, Moves, moves, Stack, changed, over, gone, Shape, Mean, all, ats, keep_all, idle}

-- facts that have to hold before, and what is done
pub record Contract : Type 0 where
  pub asks_waits : List Say
  pub asks_media : List Say
  pub does : Shape

-- a state has what is asked, and enough on each stack
pub record Ready (c : Contract) (s : State) : Type 0 where
  pub captures : c.does.captures.down ≤ length s.captures
  pub tight : c.does.tight.down ≤ length s.tight
  pub labels : c.does.labels.down ≤ length s.labels
  pub waits : Mean wait_facts c.asks_waits s s
  pub media : Mean media_facts c.asks_media s s

-- the facts with these numbers
abbrev pub asked : List ℕ → List Say
asked ks = ats ks sure (all 11 lost)

abbrev pub contract : (waits media : List ℕ) → Shape → Contract
contract ws ms x = record { asks_waits = asked ws; asks_media = asked ms; does = x }

abbrev pub does : Shape → Contract
does x = contract [] [] x

-- ---- shapes of one change

abbrev pub with_captures : Moves → Shape → Shape
with_captures m x = record { captures = m; tight = x.tight; labels = x.labels; stack = x.stack; waits = x.waits; media = x.media }

abbrev pub with_tight : Moves → Shape → Shape
with_tight m x = record { captures = x.captures; tight = m; labels = x.labels; stack = x.stack; waits = x.waits; media = x.media }

abbrev pub with_labels : Moves → Shape → Shape
with_labels m x = record { captures = x.captures; tight = x.tight; labels = m; stack = x.stack; waits = x.waits; media = x.media }

abbrev pub with_waits : List Say → Shape → Shape
with_waits ws x = record { captures = x.captures; tight = x.tight; labels = x.labels; stack = x.stack; waits = ws; media = x.media }

abbrev pub with_media : Stack → List Say → Shape → Shape
with_media k ms x = record { captures = x.captures; tight = x.tight; labels = x.labels; stack = k; waits = x.waits; media = ms }

-- these facts hold behind it, and of these nothing is known
abbrev pub turns : (sures losts : List ℕ) → List Say
turns xs ys = ats xs sure (ats ys lost keep_all)

abbrev pub waiting : (sures losts : List ℕ) → Shape
waiting xs ys = with_waits (turns xs ys) idle

abbrev pub newest : (sures losts : List ℕ) → Shape
newest xs ys = with_media changed (turns xs ys) idle

abbrev pub popped : Shape
popped = with_media gone (all 10 lost) idle

abbrev pub down1 : Moves
down1 = moves 1 0

abbrev pub up1 : Moves
up1 = moves 0 1

-- ---- steps, by groups; the facts are those of Facts.antt

-- what waits, and what is known of the newest medium: all that a text to be written asks for
abbrev pub asks_of : Source → List ℕ × List ℕ
asks_of (given x) = ([], [])
asks_of (made x) = ([], [])
asks_of rank = (0 ∷ [], [])
asks_of start = ([], [])
asks_of alignment = (9 ∷ [], [])
asks_of (part M.label) = ([], 0 ∷ 2 ∷ [])
asks_of (part M.destination) = ([], 0 ∷ 7 ∷ [])
asks_of (part M.title) = ([], 0 ∷ 7 ∷ [])

abbrev pub captures_by : Capture → Moves
captures_by buffer = up1
captures_by drop = down1
captures_by (resume before after) = down1
captures_by resume_code = down1

abbrev pub holds : Setext → Contract
holds hold = contract (2 ∷ []) (9 ∷ []) (with_captures down1 (waiting (1 ∷ []) (2 ∷ [])))
holds release = contract (1 ∷ []) (9 ∷ []) (waiting (2 ∷ []) (1 ∷ []))

abbrev pub modes : Mode → Contract
modes (set flag v) = does idle
modes leave_image = contract [] (0 ∷ []) idle
modes (open_container v) = does (with_tight up1 idle)
modes close_container = does (with_tight down1 idle)

abbrev pub waits : Wait → Contract
waits keep_rank = does (waiting (0 ∷ []) [])
waits forget_rank = does (waiting [] (0 ∷ []))
waits (seen_data none) = does (waiting [] (3 ∷ []))
waits (seen_data (some v)) = does (waiting (3 ∷ []) [])
waits (fences none) = does (waiting [] (4 ∷ []))
waits (fences (some n)) = does (waiting (4 ∷ []) [])
waits count_fence = contract (4 ∷ []) [] (waiting (4 ∷ []) [])
waits (marker m) = does (waiting (5 ∷ []) (10 ∷ []))
waits reference = contract (5 ∷ []) [] (waiting (10 ∷ []) (5 ∷ []))
waits (first v) = does (waiting (6 ∷ []) [])

abbrev pub counts : Column → Contract
counts columns = does (waiting (7 ∷ []) (8 ∷ 9 ∷ []))
counts no_columns = does (waiting [] (7 ∷ 8 ∷ 9 ∷ []))
counts next_column = does (waiting [] (8 ∷ 9 ∷ []))
counts first_column = does (waiting [] (8 ∷ 9 ∷ []))

abbrev pub knows : Medium → Contract
knows (open_media image) = contract [] (8 ∷ []) (with_media over (turns (0 ∷ 1 ∷ 3 ∷ 4 ∷ 7 ∷ 8 ∷ []) (2 ∷ 5 ∷ 6 ∷ 9 ∷ [])) idle)
knows close_media = contract [] (0 ∷ []) popped
knows (store M.label) = contract [] (0 ∷ 1 ∷ 3 ∷ 4 ∷ []) (with_captures down1 (newest (2 ∷ []) (1 ∷ 8 ∷ 9 ∷ [])))
knows (store M.destination) = contract [] (0 ∷ 3 ∷ 4 ∷ []) (with_captures down1 (newest (7 ∷ []) (3 ∷ 8 ∷ 9 ∷ [])))
knows (store M.title) = contract [] (0 ∷ 4 ∷ []) (with_captures down1 (newest [] (4 ∷ 8 ∷ 9 ∷ [])))
knows empty_destination = contract [] (0 ∷ 3 ∷ []) (newest (3 ∷ 7 ∷ []) (8 ∷ 9 ∷ []))
knows (identify M.label_id) = contract [] (0 ∷ []) (newest (5 ∷ []) (8 ∷ []))
knows (identify M.reference_id) = contract [] (0 ∷ []) (newest (6 ∷ []) (8 ∷ []))
knows seek_definition = contract [] (0 ∷ 7 ∷ []) (newest (7 ∷ []) (3 ∷ 8 ∷ 9 ∷ []))

abbrev pub keeps : Keep → Contract
keeps keep_definition = contract [] (0 ∷ 6 ∷ []) popped
keeps footnote_label = does (with_labels up1 idle)
keeps keep_footnote = does (with_captures down1 (with_labels down1 idle))
keeps call = contract [] (0 ∷ 5 ∷ []) popped

unfoldable pub act : Step → Contract
act (write x) = contract (asks_of x).0 (asks_of x).1 idle
act (capture x) = does (with_captures (captures_by x) idle)
act (setext x) = holds x
act (mode x) = modes x
act (wait x) = waits x
act (column x) = counts x
act (medium x) = knows x
act (retain x) = keeps x
