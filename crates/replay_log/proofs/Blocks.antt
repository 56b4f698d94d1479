-- What the code goes by on the blocks of a log, one by one. Assumes nothing.
use Rattle.std.proofs.Common.{◌≡◌, refl, sym, ◌∙◌, Bool, ◌&&◌, List, ℕ, suc, ◌+◌, ◌-◌, ◌*◌, ◌/◌, ◌≤◌, ◌<◌, arith, eqb-true, eqb, length, take, drop, get_or, drop-drop, w8, Fits, Ok, Err, Option, Some, None, ok_or, Result}
use Rattle.std.proofs.Math.Nat.{sub-zero}
use Rattle.lent.specs.Bytes.{all}
use Rattle.lent.proofs.Laws.{and_left}
use Rattle.bundle_block.specs.declared.Refusal.{Refusal}
use Rattle.bundle_block.specs.declared.Refusal.TheVariants.{Broken}
use Rattle.bundle_block.specs.Block.{Verdict, number_in, kind_in, zero_in, payload_in, is_zero, ◌before◌, judge_check, judge_edition, judge_order, judge_block}
use Rattle.bundle_block.proofs.Block.{both-good, demanded}
use Rattle.replay_record.proofs.Fields.{two_bytes}
use Rattle.replay_machine.specs.declared.Count.{Count}
use Rattle.replay_machine.specs.declared.Tally.{Tally}
use Rattle.replay_machine.specs.Machine.{State}
use Rattle.replay_machine.specs.Records.{Came, goes, broken, take_records, Few, state_of, came_by}
use Rattle.replay_machine.proofs.Takes.{few-records}
use Rattle.replay_log.specs.Log.{Course, reads, stops, in_block, take_block, ◌next◌, take_blocks}
use Rattle.replay_log.specs.Stream.{course_by, Within, WithinBy, TookBlock, TookBlocks}

-- ---- a payload

pub payload-came : (index : ℕ) {c : Came} (came : Option Tally) (staged current : List ℕ) {r : Result Tally Refusal} → came_by came staged current ≡ c → r ≡ ok_or came (Broken index) → course_by r staged current ≡ in_block index c
payload-came index (Some t) staged current p q = rw (q, ← p)
payload-came index None staged current p q = rw (q, ← p)

-- ---- one block

-- a block past 65,535 can't have its number
pub index-small : (edition index kind used : ℕ) (b : List ℕ) {v : Verdict} → length b ≡ 512 → ((k : ℕ) → Fits w8 (get_or b k 0)) → v ≡ judge_block edition index kind used b → v ≡ Ok tt → index < 65536
unfolding judge_block judge_order
index-small edition index kind used b h f p q =
    let g = (both-good (judge_check index b) (judge_edition edition index b before judge_order index kind used b) (sym p ∙ q)).1 in
    let o = (both-good (judge_edition edition index b) (judge_order index kind used b) g).1 in
    let a = demanded (eqb (number_in b) index && eqb (kind_in b) kind && eqb (zero_in b) 0 && all is_zero (drop used (payload_in b))) (Broken index) o in
    let x = and_left (eqb (number_in b) index && eqb (kind_in b) kind && eqb (zero_in b) 0) (all is_zero (drop used (payload_in b))) a in
    let y = and_left (eqb (number_in b) index && eqb (kind_in b) kind) (eqb (zero_in b) 0) x in
    let n = eqb-true (number_in b) index (and_left (eqb (number_in b) index) (eqb (kind_in b) kind) y) in
    let t = two_bytes b 4 (omega arith) in
    omega (arith, f 4, f 5)

pub few-small : (index : ℕ) {c : Count} → Within index c → index < 65536 → Few 2031585 c
few-small index w h =
    let a = w.few.shows in
    let b = w.few.differ in
    let d = w.few.first in
    record { shows = omega arith; differ = omega arith; first = omega arith }

module _ (edition index : ℕ) (t : Tally) (staged current b : List ℕ) {v : Verdict} (j : v ≡ judge_block edition index 4 496 b) where
  pub took-bad : {r : Refusal} → v ≡ Err r → TookBlock edition index t staged current b staged current (Err r)
  unfolding take_block
  took-bad q = record { course = rw (← j, q); within = tt }

  module _ (g : v ≡ Ok tt) (h : length b ≡ 512) (f : (k : ℕ) → Fits w8 (get_or b k 0)) (w : Within index t.count) where
    within_block : (r : Result Tally Refusal) (staged' current' : List ℕ) → course_by r staged' current' ≡ in_block index (take_records 31 t.ended (state_of t.count staged current) (payload_in b)) → WithinBy (index + 1) r
    within_block (Err r) staged' current' p = tt
    within_block (Ok n) staged' current' p = on (take_records 31 t.ended (state_of t.count staged current) (payload_in b)) refl p
      where
        on : (c : Came) → c ≡ take_records 31 t.ended (state_of t.count staged current) (payload_in b) → reads n.ended (state_of n.count staged' current') ≡ in_block index c → Within (index + 1) n.count
        on (goes e s) q k =
            let x : goes n.ended (state_of n.count staged' current') ≡ goes e s = cc in
            let i = index-small edition index 4 496 b h f j g in
            let m : 31 * (index + 1) ≡ 31 * index + 31 = omega arith in
            record { blocks = omega arith; few = rw m (few-records (31 * index) 31 t.ended n.ended (state_of t.count staged current) (state_of n.count staged' current') (payload_in b) w.few (x ∙ q)) }
        on broken q k = let z : ◌≡◌ {A = ℕ} 0 1 = cc in absurd (omega arith)

    pub took-good : {r : Result Tally Refusal} (staged' current' : List ℕ) → course_by r staged' current' ≡ in_block index (take_records 31 t.ended (state_of t.count staged current) (take (508 - 8) (drop 8 b))) → TookBlock edition index t staged current b staged' current' r
    unfolding take_block
    took-good {r} staged' current' p = record { course = rw (← j, g) p; within = within_block r staged' current' p }

-- ---- a run of them

module _ (edition index number i : ℕ) (l : List ℕ) (t : Tally) (staged current : List ℕ) {total : Course} (run : Result Tally Refusal) (staged' current' : List ℕ) (h : i < number)
    (k : TookBlock edition (index + i) t staged current (take (512 * i + 512 - 512 * i) (drop (512 * i) l)) staged' current' run)
    (p : take_blocks edition (index + i) (number - i) t.ended (state_of t.count staged current) (drop (512 * i) l) ≡ total) where
  turn : (course_by run staged' current' next λ e s. take_blocks edition (index + (i + 1)) (number - (i + 1)) e s (drop (512 * (i + 1)) l)) ≡ total
  unfolding take_blocks
  turn =
      let n : number - i ≡ suc (number - (i + 1)) = omega arith in
      let m : 512 * i + 512 - 512 * i ≡ 512 = omega arith in
      let x : index + i + 1 ≡ index + (i + 1) = omega arith in
      let y : 512 * (i + 1) ≡ 512 * i + 512 = omega arith in
      let q = rw (n, drop-drop 512 (512 * i) l, x) at p in
      rw (k.course, m, y) q

  pub blocks-stop : {r : Refusal} → run ≡ Err r → stops r ≡ total
  blocks-stop q = rw q at turn

  pub blocks-next : {n : Tally} → run ≡ Ok n → take_blocks edition (index + (i + 1)) (number - (i + 1)) n.ended (state_of n.count staged' current') (drop (512 * (i + 1)) l) ≡ total
  blocks-next q = rw q at turn

  pub within-next : {n : Tally} → run ≡ Ok n → Within (index + (i + 1)) n.count
  within-next {n} q =
      let x : index + (i + 1) ≡ index + i + 1 = omega arith in
      let w : WithinBy (index + i + 1) (Ok n) = (rw q at k.within) in
      rw x w

pub blocks-all : (edition index number : ℕ) (ended : Bool) (s : State) (l : List ℕ) → take_blocks edition (index + 0) (number - 0) ended s (drop (512 * 0) l) ≡ take_blocks edition index number ended s l
blocks-all edition index number ended s l = let z : index + 0 ≡ index = omega arith in rw (sub-zero, z)

pub within_all : (index : ℕ) {c : Count} → Within index c → Within (index + 0) c
within_all index w = let z : index + 0 ≡ index = omega arith in rw z w

module _ (edition index : ℕ) (t₀ : Tally) (staged₀ current₀ l staged current : List ℕ) where
  pub took-stop : {r : Refusal} → stops r ≡ take_blocks edition index (length l / 512) t₀.ended (state_of t₀.count staged₀ current₀) l → TookBlocks edition index t₀ staged₀ current₀ l staged current (Err r)
  took-stop p = record { course = p; within = tt }

  pub took-all : (i : ℕ) (t : Tally) → length l / 512 ≤ i → i ≤ length l / 512
      → take_blocks edition (index + i) (length l / 512 - i) t.ended (state_of t.count staged current) (drop (512 * i) l) ≡ take_blocks edition index (length l / 512) t₀.ended (state_of t₀.count staged₀ current₀) l
      → Within (index + i) t.count → TookBlocks edition index t₀ staged₀ current₀ l staged current (Ok t)
  unfolding take_blocks
  took-all i t h k p w =
      let n : length l / 512 - i ≡ 0 = omega arith in
      let m : i ≡ length l / 512 = omega arith in
      record { course = rw n at p; within = rw (← m) w }
