-- The call's answer is the plain machine's on the log's actions, one by one; and no log has a block 65,536. Assumes nothing.
use Rattle.std.proofs.Common.{◌≡◌, refl, ◌∙◌, Bool, true, false, List, [], ◌++◌, append-nil, ℕ, zero, suc, ◌+◌, ◌/◌, ◌≤◌, arith, length, take, drop, get_or, w8, Fits, Ok, Err}
use Rattle.bundle_block.specs.Block.{Verdict, field, payload_in, judge_block}
use Rattle.bundle_read.specs.Bundle.{judge_length}
use Rattle.replay_machine.specs.Machine.{State, start, run}
use Rattle.replay_machine.specs.Records.{Came, goes, broken, take_records}
use Rattle.replay_log.specs.Log.{Course, reads, stops, unless, in_block, take_block, ◌next◌, take_blocks, course_of, says, meant_by, after_length, replay_of}
use Rattle.replay_log.proofs.Blocks.{index-small}
use Rattle.replay_told.specs.Told.{actions_in, actions_of}
use Rattle.replay_told.proofs.Machine.{run-both, ended-none, ended-first, ran}

-- a block that goes on
block_goes : (edition k : ℕ) (ended e : Bool) (s t : State) (b : List ℕ) → reads e t ≡ take_block edition k ended s b → goes e t ≡ take_records 31 ended s (payload_in b)
unfolding take_block
block_goes edition k ended e s t b p = on (judge_block edition k 4 496 b) (take_records 31 ended s (payload_in b)) p
  where
    on : (v : Verdict) (c : Came) → reads e t ≡ unless v (in_block k c) → goes e t ≡ c
    on (Ok o) (goes x y) q = cc
    on (Ok o) broken q = let z : ◌≡◌ {A = ℕ} 0 1 = cc in absurd (omega arith)
    on (Err r) c q = let z : ◌≡◌ {A = ℕ} 0 1 = cc in absurd (omega arith)

-- behind the zeros no record acts
ended-blocks : (edition k n : ℕ) (s s' : State) (e : Bool) (l : List ℕ) → reads e s' ≡ take_blocks edition k n true s l → (s' ≡ s) × (actions_of n l ≡ [])
unfolding take_blocks actions_of
ended-blocks edition k zero s s' e l p = (cc, refl)
ended-blocks edition k (suc n) s s' e l p = on (take_block edition k true s (take 512 l)) refl p (λ t q. ended-blocks edition (k + 1) n t s' e (drop 512 l) q)
  where
    on : (c : Course) → c ≡ take_block edition k true s (take 512 l) → reads e s' ≡ (c next λ x t. take_blocks edition (k + 1) n x t (drop 512 l))
        → ((t : State) → reads e s' ≡ take_blocks edition (k + 1) n true t (drop 512 l) → (s' ≡ t) × (actions_of n (drop 512 l) ≡ [])) → (s' ≡ s) × (actions_in 31 (payload_in (take 512 l)) ++ actions_of n (drop 512 l) ≡ [])
    on (stops r) q h f = let z : ◌≡◌ {A = ℕ} 0 1 = cc in absurd (omega arith)
    on (reads x t) q h f =
        let g = block_goes edition k true x s t (take 512 l) q in
        let a = ended-none 31 s t x (payload_in (take 512 l)) g in
        let i = f t (rw (← a.1) h) in
        (i.0 ∙ a.0, rw (ended-first 30 s t x (payload_in (take 512 l)) g) i.1)

ran-blocks : (edition k n : ℕ) (s s' : State) (e : Bool) (l : List ℕ) → reads e s' ≡ take_blocks edition k n false s l → s' ≡ run (actions_of n l) s
unfolding take_blocks actions_of run
ran-blocks edition k zero s s' e l p = cc
ran-blocks edition k (suc n) s s' e l p = on (take_block edition k false s (take 512 l)) refl p (λ t q. ran-blocks edition (k + 1) n t s' e (drop 512 l) q)
  where
    on : (c : Course) → c ≡ take_block edition k false s (take 512 l) → reads e s' ≡ (c next λ x t. take_blocks edition (k + 1) n x t (drop 512 l))
        → ((t : State) → reads e s' ≡ take_blocks edition (k + 1) n false t (drop 512 l) → s' ≡ run (actions_of n (drop 512 l)) t) → s' ≡ run (actions_in 31 (payload_in (take 512 l)) ++ actions_of n (drop 512 l)) s
    on (stops r) q h f = let z : ◌≡◌ {A = ℕ} 0 1 = cc in absurd (omega arith)
    on (reads false t) q h f =
        let g = ran 31 s t false (payload_in (take 512 l)) (block_goes edition k false false s t (take 512 l) q) in
        rw (run-both (actions_in 31 (payload_in (take 512 l))) (actions_of n (drop 512 l)) s, ← g) (f t h)
    on (reads true t) q h f =
        let g = ran 31 s t true (payload_in (take 512 l)) (block_goes edition k false true s t (take 512 l) q) in
        let i = ended-blocks edition (k + 1) n t s' e (drop 512 l) h in
        rw (i.1, append-nil) (i.0 ∙ g)

-- what a log says is what the plain machine comes to on its actions
pub plain : (log : List ℕ) (shows differ first : ℕ) → replay_of log ≡ says shows differ first → (run (actions_of (length log / 512) log) start).count ≡ record { shows = shows; differ = differ; first = first }
unfolding replay_of
plain log shows differ first p = on (judge_length log) (course_of log) refl p
  where
    on : (v : Verdict) (c : Course) → c ≡ course_of log → after_length v (meant_by c) ≡ says shows differ first → (run (actions_of (length log / 512) log) start).count ≡ record { shows = shows; differ = differ; first = first }
    on (Err r) c q h = let z : ◌≡◌ {A = ℕ} 0 1 = cc in absurd (omega arith)
    on (Ok o) (stops r) q h = let z : ◌≡◌ {A = ℕ} 0 1 = cc in absurd (omega arith)
    on (Ok o) (reads e s) q h =
        let a : s.count.shows ≡ shows = cc in
        let b : s.count.differ ≡ differ = cc in
        let d : s.count.first ≡ first = cc in
        rw (← ran-blocks (field 0 4 log) 0 (length log / 512) start s e log q, a, b, d)

-- block 65,536 can't have its number: no block there goes on
pub no-such-block : (edition k : ℕ) (ended e : Bool) (s t : State) (b : List ℕ) → length b ≡ 512 → ((i : ℕ) → Fits w8 (get_or b i 0)) → 65536 ≤ k → reads e t ≡ take_block edition k ended s b → ⊥
unfolding take_block
no-such-block edition k ended e s t b h f m p = on (judge_block edition k 4 496 b) refl p
  where
    on : (v : Verdict) → v ≡ judge_block edition k 4 496 b → reads e t ≡ unless v (in_block k (take_records 31 ended s (payload_in b))) → ⊥
    on (Ok o) q g = let i = index-small edition k 4 496 b h f q refl in omega arith
    on (Err r) q g = let z : ◌≡◌ {A = ℕ} 0 1 = cc in omega arith
