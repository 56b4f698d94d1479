-- What each kind of element asks of the state at its enter, and what it does up to its exit. Assumes nothing.
use Rattle.std.specs.Prelude.{Bool, true, ◌&&◌, List, [], ◌∷◌, ℕ, zero, suc, get_or, if◌then◌else◌}
use Rattle.lent.specs.Bytes.{one_of}
use Rattle.machine.specs.Command.{nothing}
use Rattle.machine.specs.Handlers.{Row, on, rows}
use Rattle.check_nesting.specs.Grammar.{flow, name_of, holds, whole, bullet_item, bullet_prefix, second_fence, call_label}
use Rattle.machine_shape.specs.Shape.{Say, sure, kept, lost, changed, Shape, idle, covers}
use Rattle.machine_shape.specs.Acts.{Contract, contract, with_captures, with_labels, with_waits, with_media, turns, up1}
use Rattle.machine_shape.specs.Fits.{goes, good}

-- ---- the table; the facts are those of Facts.antt

-- in a line, a marker may be used up
abbrev in_line : Shape
in_line = with_waits (turns [] (5 ∷ [])) idle

-- a block leaves nothing that waits but what a list waits for
abbrev block : Shape
block = with_waits (turns [] (0 ∷ 1 ∷ 3 ∷ 4 ∷ 5 ∷ 7 ∷ 8 ∷ 9 ∷ [])) idle

abbrev in_row : Shape
in_row = with_waits (turns [] (5 ∷ 8 ∷ 9 ∷ [])) idle

-- a part of a medium
abbrev part : (sures losts : List ℕ) → Shape
part xs ys = with_media changed (turns xs ys) in_line

pub record Line : Type 0 where
  pub kinds : List ℕ
  pub contract : Contract

abbrev line : List ℕ → (waits media : List ℕ) → Shape → Line
line ks ws ms x = record { kinds = ks; contract = contract ws ms x }

unfoldable pub lines : List Line
lines =
    line flow (2 ∷ 10 ∷ []) (8 ∷ 9 ∷ []) block
    ∷ line (23 ∷ bullet_item ∷ []) (2 ∷ 6 ∷ 10 ∷ []) (8 ∷ 9 ∷ []) block
    ∷ line (15 ∷ 39 ∷ 40 ∷ 45 ∷ 46 ∷ 62 ∷ []) [] (8 ∷ []) in_line
    ∷ line (8 ∷ 9 ∷ 10 ∷ []) [] [] (with_waits (turns (5 ∷ []) (10 ∷ [])) idle)
    ∷ line (11 ∷ []) (5 ∷ []) [] (with_waits (turns (10 ∷ []) (5 ∷ [])) idle)
    ∷ line (14 ∷ []) [] [] (with_waits (turns (0 ∷ []) (5 ∷ [])) idle)
    ∷ line (17 ∷ []) (2 ∷ []) (8 ∷ 9 ∷ []) (with_waits (turns (1 ∷ []) (2 ∷ 5 ∷ [])) idle)
    ∷ line (18 ∷ []) (1 ∷ []) (9 ∷ []) (with_waits (turns (2 ∷ []) (1 ∷ 5 ∷ [])) idle)
    ∷ line (24 ∷ bullet_prefix ∷ 25 ∷ 26 ∷ []) (6 ∷ []) [] in_line
    ∷ line (29 ∷ second_fence ∷ []) (4 ∷ []) [] in_line
    ∷ line (47 ∷ []) [] (0 ∷ 1 ∷ 3 ∷ 4 ∷ 8 ∷ []) (part (2 ∷ []) (1 ∷ 8 ∷ 9 ∷ []))
    ∷ line (call_label ∷ []) [] (0 ∷ 1 ∷ 3 ∷ 4 ∷ 8 ∷ []) (part (2 ∷ 5 ∷ []) (1 ∷ 8 ∷ 9 ∷ []))
    ∷ line (48 ∷ []) [] (0 ∷ 8 ∷ []) (part (5 ∷ []) (8 ∷ []))
    ∷ line (49 ∷ []) [] (0 ∷ 3 ∷ 4 ∷ []) (part [] (3 ∷ 4 ∷ 8 ∷ 9 ∷ []))
    ∷ line (50 ∷ 55 ∷ []) [] (0 ∷ 3 ∷ 4 ∷ []) (part [] (3 ∷ 8 ∷ 9 ∷ []))
    ∷ line (51 ∷ 56 ∷ []) [] (0 ∷ 4 ∷ []) (part [] (4 ∷ 8 ∷ 9 ∷ []))
    ∷ line (52 ∷ 54 ∷ []) [] (0 ∷ []) (part (6 ∷ []) (8 ∷ 9 ∷ []))
    ∷ line (58 ∷ 59 ∷ 60 ∷ 61 ∷ []) (7 ∷ []) (8 ∷ []) in_row
    ∷ line (64 ∷ []) [] [] (with_captures up1 (with_labels up1 in_line))
    ∷ line (65 ∷ []) [] [] (with_labels up1 in_line)
    ∷ []

abbrev by_lines : List Line → ℕ → Contract
by_lines [] k = contract [] [] in_line
by_lines (l ∷ ls) k = if one_of l.kinds k then l.contract else by_lines ls k

unfoldable pub contract_of : ℕ → Contract
unfolding lines
contract_of k = by_lines lines k

-- ---- the test

-- what is asked holds at the enter, and may be kept
abbrev pub firmly : List Say → List Say
firmly [] = []
firmly (sure ∷ xs) = sure ∷ firmly xs
firmly (kept ∷ xs) = kept ∷ firmly xs
firmly (lost ∷ xs) = kept ∷ firmly xs

abbrev pub begun : Contract → Shape
begun c = with_media idle.stack (firmly c.asks_media) (with_waits (firmly c.asks_waits) idle)

abbrev pub row_of : ℕ → Row
row_of name = get_or rows name (on nothing nothing)

-- an element of a kind that holds what it may hold does what its contract says
unfoldable pub fits : ℕ → Bool
fits k =
    goes 1 (row_of (name_of k)).enter (begun (contract_of k))
    (λ x. good contract_of 1 (holds k) x (λ y. goes 1 (row_of (name_of k)).exit y (λ z. covers z (contract_of k).does)))

abbrev pub below : ℕ → (ℕ → Bool) → Bool
below zero f = true
below (suc n) f = f n && below n f

-- the whole list is a block that adds nothing
unfoldable pub whole_fits : Bool
whole_fits = good contract_of 0 whole (begun (contract_of 20)) (λ x. covers x (contract_of 20).does)

-- 0 to 4 do nothing that a stop depends on
unfoldable pub quiet_fits : ℕ → Bool
quiet_fits n = goes 0 (row_of n).enter idle (λ x. covers x idle) && goes 0 (row_of n).exit idle (λ x. covers x idle)
