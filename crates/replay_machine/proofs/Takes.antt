-- What the code goes by on a run of records, one by one. Assumes nothing.
use Rattle.std.proofs.Common.{◌≡◌, refl, Bool, true, false, List, ℕ, zero, suc, ◌+◌, ◌-◌, ◌≤◌, ◌<◌, arith, take, drop, drop-drop, Option, Some, None, ◌*◌}
use Rattle.replay_record.specs.declared.Record.{Record}
use Rattle.replay_record.specs.declared.Record.TheVariants.{Does, End, Faulty}
use Rattle.replay_record.specs.Record.{record_of}
use Rattle.replay_machine.specs.declared.Tally.{Tally}
use Rattle.replay_machine.specs.Machine.{State, act}
use Rattle.replay_machine.specs.Records.{Came, goes, broken, ◌then◌, takes, take_records, Few, came_by}
use Rattle.replay_machine.proofs.Acts.{few-act}

-- ---- one record

pub no-goes : {A : Type 0} {ended : Bool} {s : State} → goes ended s ≡ broken → A
no-goes p = let z : ◌≡◌ {A = ℕ} 0 1 = cc in absurd (omega arith)

few-takes : (n : ℕ) (r : Record) (ended ended' : Bool) (s s' : State) → Few n s.count → goes ended' s' ≡ takes r ended s → Few (n + 1) s'.count
few-takes n (Does a) false ended' s s' f p = let e : s' ≡ act a s = cc in rw e (few-act n a s f)
few-takes n (Does a) true ended' s s' f p = no-goes p
few-takes n End ended ended' s s' f p =
    let e : s' ≡ s = cc in
    let a = f.shows in
    let b = f.differ in
    let d = f.first in
    rw e (record { shows = omega arith; differ = omega arith; first = omega arith })
few-takes n Faulty ended ended' s s' f p = no-goes p

-- ---- a run of them

module _ (number i : ℕ) (l : List ℕ) (ended : Bool) (s : State) {total : Came} {r : Record} (step : Option Tally) (staged current : List ℕ) (h : i < number) (j : r ≡ record_of (take (16 * i + 16 - 16 * i) (drop (16 * i) l)))
    (t : came_by step staged current ≡ takes r ended s) (p : take_records (number - i) ended s (drop (16 * i) l) ≡ total) where
  turn : (came_by step staged current then λ ended' s'. take_records (number - (i + 1)) ended' s' (drop (16 * (i + 1)) l)) ≡ total
  unfolding take_records
  turn =
      let n : number - i ≡ suc (number - (i + 1)) = omega arith in
      let k : 16 * i + 16 - 16 * i ≡ 16 = omega arith in
      let m : 16 * (i + 1) ≡ 16 * i + 16 = omega arith in
      let q = rw (n, drop-drop 16 (16 * i) l) at p in
      rw (t, j, k, m) q

  pub records-broken : step ≡ None → broken ≡ total
  records-broken q = rw q at turn

  pub records-next : {next : Tally} → step ≡ Some next → take_records (number - (i + 1)) next.ended (record { staged = staged; current = current; count = next.count }) (drop (16 * (i + 1)) l) ≡ total
  records-next q = rw q at turn

  pub few-next : (m : ℕ) {next : Tally} → step ≡ Some next → Few (m + i) s.count → Few (m + (i + 1)) next.count
  few-next m {next} q f =
      let e : m + (i + 1) ≡ m + i + 1 = omega arith in
      rw e (few-takes (m + i) r ended next.ended s (record { staged = staged; current = current; count = next.count }) f (rw q at t))

pub records-end : (number i : ℕ) (ended : Bool) (s : State) (l : List ℕ) {total : Came} → number ≤ i → take_records (number - i) ended s l ≡ total → goes ended s ≡ total
unfolding take_records
records-end number i ended s l h p = let n : number - i ≡ 0 = omega arith in rw n at p

pub few-records : (n j : ℕ) (ended ended' : Bool) (s s' : State) (l : List ℕ) → Few n s.count → goes ended' s' ≡ take_records j ended s l → Few (n + j) s'.count
unfolding take_records
few-records n zero ended ended' s s' l f p =
    let e : s' ≡ s = cc in
    let z : n + 0 ≡ n = omega arith in
    rw (e, z) f
few-records n (suc j) ended ended' s s' l f p = on (takes (record_of (take 16 l)) ended s) refl p (λ e t g k. few-records (n + 1) j e ended' t s' (drop 16 l) g k)
  where
    on : (c : Came) → c ≡ takes (record_of (take 16 l)) ended s → goes ended' s' ≡ (c then λ e t. take_records j e t (drop 16 l))
        → ((e : Bool) (t : State) → Few (n + 1) t.count → goes ended' s' ≡ take_records j e t (drop 16 l) → Few (n + 1 + j) s'.count) → Few (n + suc j) s'.count
    on (goes e t) q k rest =
        let m : n + suc j ≡ n + 1 + j = omega arith in
        rw m (rest e t (few-takes n (record_of (take 16 l)) ended e s t f q) k)
    on broken q k rest = no-goes k
