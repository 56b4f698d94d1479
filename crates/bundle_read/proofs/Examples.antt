-- The definitions run on bundles that a script packed by the rules (RULES R15) alone. Assumes nothing.
use Rattle.std.proofs.Common.{◌≡◌, refl, List, [], ◌∷◌, ◌++◌, ℕ, set, take}
use Rattle.lent.specs.Fill.{zeros}
use Rattle.bundle_block.specs.declared.Refusal.TheVariants.{Broken, BadCheck}
use Rattle.bundle_block.specs.Block.{little, number, weighed, check_of, front_of, block_of, judge_check, judge_edition, judge_order, judge_block}
use Rattle.bundle_run.specs.Run.{run_of, judge_run, held_in}
use Rattle.bundle_read.specs.Bundle.{bundle_of, judge_length, judge_header, judge_count, judge_text, judge_events, judge_bundle, text_in, events_in, says, refused, read_of}

-- edition 7 of an empty note: one block
abbrev empty : List ℕ
empty = (7 ∷ 0 ∷ 0 ∷ 0 ∷ 0 ∷ 0 ∷ 1 ∷ []) ++ zeros 501 ++ (14 ∷ 0 ∷ 0 ∷ 0 ∷ [])

-- the text `a` LF and one record, edition 0x01020304: three blocks
abbrev event : List ℕ
event = (1 ∷ 5 ∷ 0 ∷ 0 ∷ 0 ∷ 0 ∷ 0 ∷ 0 ∷ 1 ∷ []) ++ zeros 11

abbrev short : List ℕ
short =
    (4 ∷ 3 ∷ 2 ∷ 1 ∷ 0 ∷ 0 ∷ 1 ∷ 0 ∷ 2 ∷ 0 ∷ 0 ∷ 0 ∷ 1 ∷ []) ++ zeros 495 ++ (58 ∷ 0 ∷ 0 ∷ 0 ∷ [])
    ++ (4 ∷ 3 ∷ 2 ∷ 1 ∷ 1 ∷ 0 ∷ 2 ∷ 0 ∷ 97 ∷ 10 ∷ []) ++ zeros 498 ++ (244 ∷ 3 ∷ 0 ∷ 0 ∷ [])
    ++ (4 ∷ 3 ∷ 2 ∷ 1 ∷ 2 ∷ 0 ∷ 3 ∷ 0 ∷ 1 ∷ 5 ∷ 0 ∷ 0 ∷ 0 ∷ 0 ∷ 0 ∷ 0 ∷ 1 ∷ []) ++ zeros 491 ++ (127 ∷ 0 ∷ 0 ∷ 0 ∷ [])

packed : (bundle_of [] [] 7 ≡ empty) × (bundle_of (97 ∷ 10 ∷ []) event 0x01020304 ≡ short)
unfolding bundle_of block_of front_of run_of check_of weighed little
packed = (refl, refl)

read : (read_of empty ≡ says [] [] 7) × (read_of short ≡ says (97 ∷ 10 ∷ []) event 0x01020304)
unfolding read_of judge_bundle judge_length judge_header judge_count judge_text judge_events text_in events_in judge_block judge_check judge_edition judge_order judge_run held_in check_of weighed number
read = (refl, refl)

damaged : (read_of [] ≡ refused (Broken 0)) × (read_of (take 1024 short) ≡ refused (Broken 0)) × (read_of (set short 1535 1) ≡ refused (BadCheck 2))
unfolding read_of judge_bundle judge_length judge_header judge_count judge_text judge_events text_in events_in judge_block judge_check judge_edition judge_order judge_run held_in check_of weighed number
damaged = (refl, refl, refl)
