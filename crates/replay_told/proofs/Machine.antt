-- What a user wants to hear of the machine: right shows, stages without a swap, and one log behind another. Assumes nothing.
use Rattle.std.proofs.Common.{if◌then◌else◌, ◌≡◌, refl, ◌∙◌, Bool, true, false, List, [], ◌∷◌, ◌++◌, ℕ, zero, suc, arith, eq-eqb, ltb-true, ltb-false, eqb-true, eqb, ltb, length, take, drop, set, get_or, length-set, get_or-set_same, get_or-set_other}
use borrow.Author.Tests.{eqb-false}
use Rattle.std.proofs.Math.Seq.{set_out}
use Rattle.replay_record.specs.declared.Action.{Action}
use Rattle.replay_record.specs.declared.Action.TheVariants.{Stage, Swap, Show}
use Rattle.replay_record.specs.declared.Record.{Record}
use Rattle.replay_record.specs.declared.Record.TheVariants.{Does, End, Faulty}
use Rattle.replay_record.specs.Record.{record_of}
use Rattle.replay_machine.specs.Machine.{State, start, swap, act, run}
use Rattle.replay_machine.specs.Records.{goes, ◌then◌, takes, take_records}
use Rattle.replay_told.specs.Told.{before, actions_in, RightNow, Right, SwapsNot, Unswapped, Alike}
use Rattle.replay_machine.proofs.Takes.{no-goes}

-- ---- one log behind another

-- the second's from the state that the first leaves
pub run-both : (a b : List Action) (s : State) → run (a ++ b) s ≡ run b (run a s)
unfolding run
run-both [] b s = refl
run-both (x ∷ a) b s = run-both a b (act x s)

-- ---- if every show carries the edition then current, none differs

right_kept : (a : Action) (s : State) → RightNow a s → (act a s).count.differ ≡ s.count.differ
unfolding act
right_kept (Stage note edition) s r = refl
right_kept (Swap note) s r = on (eqb (get_or s.staged note 0) 0)
  where
    on : (b : Bool) → (if b then s else record { staged = set s.staged note 0; current = set s.current note (get_or s.staged note 0); count = s.count }).count.differ ≡ s.count.differ
    on true = refl
    on false = refl
right_kept (Show note edition) s r = rw (eq-eqb (get_or s.current note 0) edition r)

right-all : (a : List Action) (s : State) → Right a s → (run a s).count.differ ≡ s.count.differ
unfolding run
right-all [] s r = refl
right-all (x ∷ a) s r = right-all a (act x s) r.1 ∙ right_kept x s r.0

pub none-differs : (a : List Action) → Right a start → (run a start).count.differ ≡ 0
none-differs a r = right-all a start r

-- ---- a stage without a swap changes no show

-- a number set at the same place of two tables that agree there
set-alike : (l m : List ℕ) (i v k : ℕ) → length l ≡ length m → get_or l k 0 ≡ get_or m k 0 → get_or (set l i v) k 0 ≡ get_or (set m i v) k 0
set-alike l m i v k h e = on (eqb k i) refl (ltb i (length l)) refl
  where
    on : (b : Bool) → eqb k i ≡ b → (c : Bool) → ltb i (length l) ≡ c → get_or (set l i v) k 0 ≡ get_or (set m i v) k 0
    on true p true q =
        let x = eqb-true k i p in
        let y = ltb-true i (length l) q in
        rw (x, get_or-set_same l i v 0 y, get_or-set_same m i v 0 (omega arith))
    on true p false q =
        let y = ltb-false i (length l) q in
        rw (set_out l i v y, set_out m i v (omega arith)) e
    on false p c q = rw (get_or-set_other l i k v 0 (eqb-false k i p), get_or-set_other m i k v 0 (eqb-false k i p)) e

swap_alike : (note n : ℕ) (s t : State) → (n ≡ note → ⊥) → Alike note s t → Alike note (swap n s) (swap n t)
swap_alike note n s t h a = rw (← a.staged n h) (on (eqb (get_or s.staged n 0) 0))
  where
    on : (b : Bool)
        → Alike note (if b then s else record { staged = set s.staged n 0; current = set s.current n (get_or s.staged n 0); count = s.count })
        (if b then t else record { staged = set t.staged n 0; current = set t.current n (get_or s.staged n 0); count = t.count })
    on true = a
    on false =
        record {
          current = rw a.current;
          shows = a.shows;
          differ = a.differ;
          long = rw (length-set, length-set) a.long;
          staged = λ k q. set-alike s.staged t.staged n 0 k a.long (a.staged k q);
        }

act-alike : (note : ℕ) (a : Action) (s t : State) → SwapsNot note a → Alike note s t → Alike note (act a s) (act a t)
unfolding act
act-alike note (Stage n edition) s t h a =
    record {
      current = a.current;
      shows = a.shows;
      differ = a.differ;
      long = rw (length-set, length-set) a.long;
      staged = λ k q. set-alike s.staged t.staged n edition k a.long (a.staged k q);
    }
act-alike note (Swap n) s t h a =
    let b = swap_alike note n s t h a in
    record { current = b.current; shows = b.shows; differ = b.differ; long = b.long; staged = b.staged }
act-alike note (Show n edition) s t h a =
    record {
      current = a.current;
      shows = rw a.shows;
      differ = rw (a.current, a.differ);
      long = a.long;
      staged = a.staged;
    }

run-alike : (note : ℕ) (a : List Action) (s t : State) → Unswapped note a → Alike note s t → Alike note (run a s) (run a t)
unfolding run
run-alike note [] s t u a = a
run-alike note (x ∷ more) s t u a = run-alike note more (act x s) (act x t) u.1 (act-alike note x s t u.0 a)

stage-alike : (note edition : ℕ) (s : State) → Alike note (act (Stage note edition) s) s
unfolding act
stage-alike note edition s =
    record { current = refl; shows = refl; differ = refl; long = rw length-set; staged = λ k q. get_or-set_other s.staged note k edition 0 q }

-- as many shows, and as many that differ, with the stage as without it
pub unswapped : (note edition : ℕ) (a : List Action) (s : State) → Unswapped note a
    → ((run (Stage note edition ∷ a) s).count.shows ≡ (run a s).count.shows) × ((run (Stage note edition ∷ a) s).count.differ ≡ (run a s).count.differ)
unfolding run
unswapped note edition a s u = let e = run-alike note a (act (Stage note edition) s) s u (stage-alike note edition s) in (e.shows, e.differ)

-- ---- the records of a log that is not refused are run, those before the zeros

pub ended-none : (n : ℕ) (s s' : State) (e : Bool) (l : List ℕ) → goes e s' ≡ take_records n true s l → (s' ≡ s) × (e ≡ true)
unfolding take_records
ended-none zero s s' e l p = (cc, cc)
ended-none (suc n) s s' e l p = on (record_of (take 16 l)) p (ended-none n s s' e (drop 16 l))
  where
    on : (r : Record) → goes e s' ≡ (takes r true s then λ x t. take_records n x t (drop 16 l)) → (goes e s' ≡ take_records n true s (drop 16 l) → (s' ≡ s) × (e ≡ true)) → (s' ≡ s) × (e ≡ true)
    on (Does a) q f = no-goes q
    on End q f = f q
    on Faulty q f = no-goes q

-- and the first of them is zero
pub ended-first : (n : ℕ) (s s' : State) (e : Bool) (l : List ℕ) → goes e s' ≡ take_records (suc n) true s l → actions_in (suc n) l ≡ []
unfolding take_records actions_in
ended-first n s s' e l p = on (record_of (take 16 l)) p
  where
    on : (r : Record) → goes e s' ≡ (takes r true s then λ x t. take_records n x t (drop 16 l)) → before r (actions_in n (drop 16 l)) ≡ []
    on (Does a) q = no-goes q
    on End q = refl
    on Faulty q = no-goes q

pub ran : (n : ℕ) (s s' : State) (e : Bool) (l : List ℕ) → goes e s' ≡ take_records n false s l → s' ≡ run (actions_in n l) s
unfolding take_records actions_in run
ran zero s s' e l p = cc
ran (suc n) s s' e l p = on (record_of (take 16 l)) p (λ t q. ran n t s' e (drop 16 l) q)
  where
    on : (r : Record) → goes e s' ≡ (takes r false s then λ x t. take_records n x t (drop 16 l)) → ((t : State) → goes e s' ≡ take_records n false t (drop 16 l) → s' ≡ run (actions_in n (drop 16 l)) t)
        → s' ≡ run (before r (actions_in n (drop 16 l))) s
    on (Does a) q f = f (act a s) q
    on End q f = (ended-none n s s' e (drop 16 l) q).0
    on Faulty q f = no-goes q
