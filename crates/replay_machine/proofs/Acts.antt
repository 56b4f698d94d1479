-- What the code goes by where a record acts: counts, and the two tables. Assumes nothing.
use Rattle.std.proofs.Common.{if◌then◌else◌, ◌≡◌, ap, Bool, true, false, List, ℕ, ◌+◌, ◌≤◌, arith, eqb, set, get_or}
use Rattle.replay_record.specs.declared.Action.{Action}
use Rattle.replay_record.specs.declared.Action.TheVariants.{Stage, Swap, Show}
use Rattle.replay_machine.specs.declared.Count.{Count}
use Rattle.replay_machine.specs.Machine.{State, counted, showed, swap, act}
use Rattle.replay_machine.specs.Records.{Few, state_of}

-- ---- counts

module _ (c : Count) where
  pub showed-first : (b : Bool) {n : ℕ} {d : Count} → d ≡ showed b c → Few n c → d.first ≤ n
  showed-first b p f = rw p f.first

-- ---- the tables

module _ {a : Action} (note : ℕ) {i : ℕ} (c : Count) {r : Count} (staged current : List ℕ) where
  pub stage-acted : (edition : ℕ) → a ≡ Stage note edition → i ≡ note → r ≡ counted c → state_of r (set staged i edition) current ≡ act a (state_of c staged current)
  unfolding act
  stage-acted edition p q k = rw (p, q, k)

  pub swap-acted : {staged' current' : List ℕ} → a ≡ Swap note → i ≡ note → ((x : Count) → state_of x staged' current' ≡ swap i (state_of x staged current)) → r ≡ counted c
      → state_of r staged' current' ≡ act a (state_of c staged current)
  unfolding act
  swap-acted {staged'} {current'} p q f k =
      let e : state_of c staged' current' ≡ swap note (state_of c staged current) = rw (← q) (f c) in
      rw (p, k) (ap (λ (x : State). state_of (counted x.count) x.staged x.current) e)

  pub show-acted : (edition : ℕ) {d : Count} → a ≡ Show note edition → i ≡ note → d ≡ showed (eqb (get_or current i 0) edition) c → r ≡ counted d → state_of r staged current ≡ act a (state_of c staged current)
  unfolding act
  show-acted edition p q k m = rw (p, m, k, q)

-- ---- no count grows by more than one

one_more : (b : Bool) (x n : ℕ) → x ≤ n → (if b then x + 1 else x) ≤ n + 1
one_more true x n h = omega arith
one_more false x n h = omega arith

not_more : (b : Bool) (x n : ℕ) → x ≤ n → (if b then x else x + 1) ≤ n + 1
not_more true x n h = omega arith
not_more false x n h = omega arith

few-counted : (n : ℕ) (c : Count) → Few n c → Few (n + 1) (counted c)
few-counted n c f =
    let a = f.shows in
    let b = f.differ in
    record { shows = omega arith; differ = omega arith; first = one_more (eqb c.differ 0) c.first n f.first }

few-showed : (n : ℕ) (b : Bool) (c : Count) → Few n c → Few (n + 1) (counted (showed b c))
few-showed n b c f =
    let a = f.shows in
    record { shows = omega arith; differ = not_more b c.differ n f.differ; first = one_more (eqb (showed b c).differ 0) c.first n f.first }

few-swapped : (n note : ℕ) (b : Bool) (s t : State) → Few n s.count → Few n t.count → Few (n + 1) (counted (if b then s else t).count)
few-swapped n note true s t f g = few-counted n s.count f
few-swapped n note false s t f g = few-counted n t.count g

pub few-act : (n : ℕ) (a : Action) (s : State) → Few n s.count → Few (n + 1) (act a s).count
unfolding act
few-act n (Stage note edition) s f = few-counted n s.count f
few-act n (Swap note) s f =
    few-swapped n note (eqb (get_or s.staged note 0) 0) s
    (record { staged = set s.staged note 0; current = set s.current note (get_or s.staged note 0); count = s.count }) f f
few-act n (Show note edition) s f = few-showed n (eqb (get_or s.current note 0) edition) s.count f
