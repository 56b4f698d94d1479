-- What the code goes by on the parts of a bundle: the header, a run as long as is needed, and all of them one behind the other. Assumes nothing.
use Rattle.std.proofs.Common.{◌≡◌, sym, ◌∙◌, List, ◌++◌, ℕ, ◌+◌, ◌-◌, ◌*◌, ◌≤◌, zero-add, arith, length, take, drop, length-append, take_at}
use Rattle.lent.specs.Fill.{fill}
use Rattle.lent.specs.declared.Writer.{Writer}
use Rattle.lent.specs.Writer.{Writes}
use Rattle.lent.proofs.Laws.{take-fill}
use Rattle.lent.proofs.Writing.{then, length-written}
use Rattle.bundle_block.specs.Block.{little, block_of}
use Rattle.bundle_block.proofs.Inverse.{length-block}
use Rattle.bundle_run.specs.Run.{run_of}
use Rattle.bundle_run.proofs.Inverse.{length_run}
use Rattle.bundle_read.specs.Bundle.{blocks_for, header_of, bundle_of}
use Rattle.bundle_read.specs.Sizes.{text_room, event_room, header_kind, text_kind, event_kind}

-- a buffer of just that length
fill-whole : (b s : List ℕ) → length s ≡ length b → fill b 0 s ≡ s
unfolding fill
fill-whole b s h = take_at s (drop (0 + length s) b) (length b) h

-- what has room stands there
pub take-filled : (d s : List ℕ) → length s ≤ length d → take (length s) (fill d 0 s) ≡ s
take-filled d s h = rw zero-add at (take-fill d 0 s (rw zero-add h))

-- ---- the header

pub words-written : (x y : ℕ) {u v w : Writer} → u.at ≡ 0 → length u.bytes.now ≡ 8 → Writes (little 4 x) u v → Writes (little 4 y) v w → w.bytes.now ≡ little 4 x ++ little 4 y
unfolding little
words-written x y {u} z h p q = (then p q).filled.bytes ∙ rw z (fill-whole u.bytes.now (little 4 x ++ little 4 y) (sym h))

-- ---- a run

pub part-written : (edition kind room start : ℕ) (given : List ℕ) {n : ℕ} {u v : Writer} → n ≡ blocks_for room (length given) → Writes (run_of edition kind room start (start + n - start) given) u v
    → Writes (run_of edition kind room start (blocks_for room (length given)) given) u v
part-written edition kind room start given {n} p q = let m : start + n - start ≡ n = omega arith in rw (m, p) at q

-- ---- all of them

module _ (text events : List ℕ) (edition : ℕ) {u v : Writer} (h : u.at + 512 * (1 + blocks_for text_room (length text) + blocks_for event_room (length events)) ≤ length u.bytes.now)
    (p : Writes (block_of edition 0 header_kind (header_of text events)) u v) where
  pub text-room : v.at + 512 * blocks_for text_room (length text) ≤ length v.bytes.now
  unfolding little
  text-room =
      let a = length-block edition 0 header_kind (header_of text events) (omega arith) in
      let b = length-written p in
      let c = p.filled.place in
      omega arith

  module _ {w : Writer} (q : Writes (run_of edition text_kind text_room 1 (blocks_for text_room (length text)) text) v w) where
    pub events-room : w.at + 512 * blocks_for event_room (length events) ≤ length w.bytes.now
    unfolding little
    events-room =
        let a = length-block edition 0 header_kind (header_of text events) (omega arith) in
        let b = length_run edition text_kind text_room (omega arith) (blocks_for text_room (length text)) 1 text in
        let c = length-written p in
        let d = length-written q in
        let e = p.filled.place in
        let f = q.filled.place in
        omega arith

    pub blocks-written : {x : Writer} {middle : ℕ} → middle ≡ 1 + blocks_for text_room (length text) → Writes (run_of edition event_kind event_room middle (blocks_for event_room (length events)) events) w x
        → Writes (bundle_of text events edition) u x
    unfolding bundle_of
    blocks-written m r = then (then p q) (rw m at r)
