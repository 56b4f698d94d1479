-- The promise run on small notes: what a call must answer. Assumes nothing.
use Rattle.std.proofs.Common.{Ok, ◌≡◌, ◌∙◌, List, [], ◌∷◌, ◌++◌, ℕ}
use Rattle.lent.specs.Fill.{zeros}
use Rattle.bundle_block.specs.Block.{little, weighed, check_of, front_of, block_of}
use Rattle.bundle_run.specs.Run.{run_of}
use Rattle.bundle_read.specs.Bundle.{bundle_of}
use Rattle.bundle_read.proofs.Inverse.{length-bundle}
use Rattle.bundle_writer.specs.Packed.{Packed, number_of, value_of, choose, HasPacked}

-- no text and no events are one block, with zeros behind it
empty : {e : List ℕ} {r : Packed} → HasPacked [] [] 7 (zeros 600) e r → (r ≡ Ok 512) × (e ≡ (7 ∷ 0 ∷ 0 ∷ 0 ∷ 0 ∷ 0 ∷ 1 ∷ []) ++ zeros 501 ++ (14 ∷ 0 ∷ 0 ∷ 0 ∷ []) ++ zeros 88)
unfolding choose bundle_of block_of front_of run_of check_of weighed little
empty p = (p.answer, p.bytes)

-- a text that is no UTF-8 is written: two blocks, for which one byte less is no room
not-utf8 : {e : List ℕ} {r : Packed} → HasPacked (255 ∷ []) [] 0 (zeros 1024) e r → r ≡ Ok 1024
unfolding choose
not-utf8 p = p.answer ∙ rw (length-bundle (255 ∷ []) [] 0)

one-byte-less : {e : List ℕ} {r : Packed} → HasPacked (255 ∷ []) [] 0 (zeros 1023) e r → (number_of r ≡ 9) × (value_of r ≡ 0)
unfolding choose
one-byte-less p = (p.number ∙ rw (length-bundle (255 ∷ []) [] 0), p.value ∙ rw (length-bundle (255 ∷ []) [] 0))

-- 19 bytes are no whole record, which goes before the room
broken-record : {e : List ℕ} {r : Packed} → HasPacked [] (zeros 19) 0 [] e r → (number_of r ≡ 1) × (value_of r ≡ 0)
unfolding choose
broken-record p = (p.number, p.value)
