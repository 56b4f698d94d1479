-- A log in two parts, the first of whole blocks: what is known behind both. Assumes nothing.
use Rattle.std.proofs.Common.{◌≡◌, refl, sym, ◌∙◌, Bool, false, List, [], ◌∷◌, ◌++◌, append-nil, ℕ, zero, suc, ◌+◌, ◌*◌, ◌/◌, ◌%◌, ◌≤◌, ◌<◌, zero-add, suc-add, arith, length, take, drop, length-append, length-drop, Result, Ok, Err}
use Rattle.std.proofs.Math.Seq.{take-append-le, drop-append-le}
use Rattle.bundle_block.specs.declared.Refusal.{Refusal}
use Rattle.bundle_block.specs.Block.{edition_in}
use Rattle.replay_machine.specs.declared.Tally.{Tally}
use Rattle.replay_machine.specs.Machine.{State, start}
use Rattle.replay_machine.specs.Records.{state_of}
use Rattle.replay_log.specs.declared.Place.{Place}
use Rattle.replay_log.specs.declared.Reader.{Reader}
use Rattle.replay_log.specs.declared.Reader.TheVariants.{Empty, Going, Stopped}
use Rattle.replay_log.specs.Log.{Course, reads, stops, take_block, ◌next◌, take_blocks}
use Rattle.replay_log.specs.Stream.{course_by, Within, WithinBy, TookBlocks, first_place, GoingBehind, StoppedBehind, EmptyBehind, Behind, Gone, Steady, Took}

-- the blocks of two parts are those of the first, then those of the second from where the first leaves
pub blocks-split : (edition block m n : ℕ) (ended : Bool) (s : State) (a b : List ℕ) → length a ≡ 512 * m
    → take_blocks edition block (m + n) ended s (a ++ b) ≡ (take_blocks edition block m ended s a next λ e t. take_blocks edition (block + m) n e t b)
unfolding take_blocks
blocks-split edition block zero n ended s [] b h = let z : block + 0 ≡ block = omega arith in rw (zero-add, z)
blocks-split edition block zero n ended s (x ∷ a) b h = absurd (omega arith)
blocks-split edition block (suc m) n ended s a b h =
    let k : 512 ≤ length a = omega arith in
    let l : length (drop 512 a) ≡ 512 * m = rw length-drop (omega arith) in
    let y : block + suc m ≡ block + 1 + m = omega arith in
    rw (suc-add, take-append-le 512 a b k, drop-append-le 512 a b k, y) (on (take_block edition block ended s (take 512 a)) (λ e t. blocks-split edition (block + 1) m n e t (drop 512 a) b l))
  where
    on : (c : Course)
        → ((e : Bool) (t : State) → take_blocks edition (block + 1) (m + n) e t (drop 512 a ++ b) ≡ (take_blocks edition (block + 1) m e t (drop 512 a) next λ e' t'. take_blocks edition (block + 1 + m) n e' t' b))
        → (c next λ e t. take_blocks edition (block + 1) (m + n) e t (drop 512 a ++ b)) ≡ ((c next λ e t. take_blocks edition (block + 1) m e t (drop 512 a)) next λ e t. take_blocks edition (block + 1 + m) n e t b)
    on (reads e t) rest = rest e t
    on (stops r) rest = refl

edition-front : (p l : List ℕ) → 4 ≤ length p → edition_in (p ++ l) ≡ edition_in p
edition-front p l h = rw (take-append-le 4 p l h)

whole : (l : List ℕ) → length l % 512 ≡ 0 → length l ≡ 512 * (length l / 512)
whole l h = omega arith

-- ---- from a place on

module _ (g : Place) (staged current l staged' current' : List ℕ) (w : length l % 512 ≡ 0) {run : Result Tally Refusal} (k : TookBlocks g.edition g.block g.tally staged current l staged' current' run) where
  both-parts : (p : List ℕ) → length p ≡ 512 * g.block → take_blocks g.edition 0 g.block false start p ≡ reads g.tally.ended (state_of g.tally.count staged current)
      → take_blocks g.edition 0 (g.block + length l / 512) false start (p ++ l) ≡ course_by run staged' current'
  both-parts p h c = blocks-split g.edition 0 g.block (length l / 512) false start p l h ∙ rw (c, zero-add) (sym k.course)

  both_long : (p : List ℕ) → length p ≡ 512 * g.block → length (p ++ l) ≡ 512 * (g.block + length l / 512)
  both_long p h = let e = whole l w in rw length-append (omega arith)

  pub gone-stopped : {r : Refusal} → run ≡ Err r → Gone g staged current l staged' current' (Stopped r)
  gone-stopped {r} q =
      record {
        behind = λ p h n e c. record { blocks = g.block + length l / 512; long = both_long p h; some = n; course = rw (← e) (both-parts p h c ∙ rw q) };
        steady = tt;
      }

  pub gone-going : {t : Tally} → run ≡ Ok t → Gone g staged current l staged' current' (Going (record { edition = g.edition; block = g.block + length l / 512; tally = t }))
  gone-going {t} q =
      let x : WithinBy (g.block + length l / 512) (Ok t) = (rw q at k.within) in
      record {
        behind = λ p h n e c. record { long = both_long p h; some = n; edition = e; course = rw (← e) (both-parts p h c ∙ rw q) };
        steady = x;
      }

-- ---- from a reader on

pub steady-going : (reader : Reader) {g : Place} → reader ≡ Going g → Steady reader → Within g.block g.tally.count
steady-going reader p w = rw p at w

pub first-within : {g : Place} (l : List ℕ) → g ≡ first_place l → Within g.block g.tally.count
first-within l p = rw p (record { blocks = omega arith; few = record { shows = omega arith; differ = omega arith; first = omega arith } })

stopped-on : (l : List ℕ) → length l % 512 ≡ 0 → {r : Refusal} (p : List ℕ) → StoppedBehind p r → StoppedBehind (p ++ l) r
stopped-on l w p b =
    let e = whole l w in
    let m = b.some in
    let n = b.long in
    record {
      blocks = b.blocks + length l / 512;
      long = rw length-append (omega arith);
      some = omega arith;
      course = rw (edition-front p l (omega arith)) (blocks-split (edition_in p) 0 b.blocks (length l / 512) false start p l b.long ∙ rw b.course);
    }

module _ {reader : Reader} (staged current l staged' current' : List ℕ) (w : length l % 512 ≡ 0) where
  pub took-stopped : {r : Refusal} → reader ≡ Stopped r → Took reader staged current l staged current reader
  took-stopped q = rw q (record { behind = λ p b. stopped-on l w p b; steady = tt })

  pub took-going : {g : Place} {r : Reader} → reader ≡ Going g → Gone g staged current l staged' current' r → Took reader staged current l staged' current' r
  took-going {g} {r} q n = rw q (record { behind = λ p b. on p b; steady = n.steady })
    where
      on : (p : List ℕ) → GoingBehind p staged current g → Behind (p ++ l) staged' current' r
      on p b =
          let m = b.some in
          let h = b.long in
          n.behind p h (omega arith) (b.edition ∙ sym (edition-front p l (omega arith))) (rw b.edition b.course)

  pub took-first : {g : Place} {r : Reader} → reader ≡ Empty → g ≡ first_place l → 512 ≤ length l → Gone g staged current l staged' current' r → Took reader staged current l staged' current' r
  unfolding take_blocks
  took-first {g} {r} q e h n = rw q (record { behind = λ p b. on p b; steady = n.steady })
    where
      on : (p : List ℕ) → EmptyBehind p staged current → Behind (p ++ l) staged' current' r
      on p b =
          let m : Gone (first_place l) staged current l staged' current' r = rw (← e) n in
          let c : reads false start ≡ reads false (state_of (record { shows = 0; differ = 0; first = 0 }) staged current) = rw (b.unstaged, b.unset) in
          rw b.none (m.behind [] (omega arith) (omega arith) refl c)

  pub took-none : reader ≡ Empty → length l < 512 → Took reader staged current l staged current reader
  took-none q h = rw q (record { behind = λ p b. on l (omega arith) p b; steady = tt })
    where
      on : (l : List ℕ) → length l ≡ 0 → (p : List ℕ) → EmptyBehind p staged current → EmptyBehind (p ++ l) staged current
      on [] z p b = rw append-nil b
      on (x ∷ l) z p b = absurd (omega arith)
