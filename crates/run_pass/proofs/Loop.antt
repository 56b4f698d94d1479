-- The loop of a pass, step by step. Assumes nothing.
use Rattle.std.proofs.Common.{ap, not, is_some, Some, None, Ok, Err, is_none, ◌≡◌, refl, sym, ◌∙◌, Bool, true, false, List, [], ◌++◌, ℕ, ◌+◌, ◌-◌, ◌/◌, ◌≤◌, ◌<◌, arith, length, take, drop}
use Rattle.std.specs.Prelude.{Option as CodeOption}
use Rattle.std.proofs.Math.Option.{some}
use Rattle.regions.specs.Sizes.{region_size, work_size}
use Rattle.event.specs.declared.EventIndex.{EventIndex}
use Rattle.event.specs.Event.{event_at}
use Rattle.machine.specs.declared.Options.{Options}
use Rattle.machine.specs.Turn.{Turn}
use Rattle.machine.specs.Totals.{over}
use Rattle.state_whole.specs.declared.Whole.{Whole}
use Rattle.state_whole.specs.Whole.{World}
use Rattle.state_whole.proofs.Parts.{front_long, as_long}
use Rattle.dispatch_turns.specs.Loud.{Turned}
use Rattle.dispatch_turns.specs.Passing.{turns_left, stays_inside, turn_at}
use Rattle.dispatch_turns.proofs.Passing.{left_end, run-over, run_on}
use Rattle.state_whole.specs.declared.Shortage.{Shortage}
use Rattle.state_whole.specs.declared.Shortage.TheVariants as S
use Rattle.state_whole.specs.Lacking.{refusal_of, Lacks}
use Rattle.run_next.specs.Reach.{Reaches, wanted}
use Rattle.run_next.specs.Walks.{Steps}
use Rattle.run_next.proofs.Turned.{turned}
use Rattle.run_answer.specs.declared.Full.TheVariants as F
use Rattle.run_pass.specs.Passing.{Refuses, Passes}
use Rattle.run_pass.specs.Private.{full_of, Stays}

-- ---- a turn

starts-so : {text events : List ℕ} {room : ℕ} {ts : List Turn} {b : Whole} {w : World} → Reaches text events room ts ts b w b w
starts-so = record { reaches = λ rest s v y g. (s, y, g, refl) }

module _ (definitions : Bool) {text events : List ℕ} (o : Options) {room : ℕ} {before : List Turn} {b : Whole} {w : World} (inside : Bool) (i : ℕ) {r : Whole} {w' : World} (h : i < length events / 20)
    (x : Reaches text events room before (turns_left definitions text events o inside i) b w r w') where
  module _ (p : wanted definitions inside (event_at events i) ≡ true) {q : Whole} {w'' : World} (k : Turned text events o i r w' q w'') (l : length w''.out ≡ length w'.out) where
    goes_by : Lacks q room None → Reaches text events room before (turns_left definitions text events o (stays_inside inside (event_at events i)) (i + 1)) b w q w''
    goes_by n = record {
      reaches = λ rest s v y g.
          let a = turned definitions o inside i h x p k rest s v y g in
          let c = l ∙ a.5.long in
          let e = n.lacks text w'' a.1 c a.2 in
          let z = run_on (length events / 20) (over room) (turn_at text events o i) (turns_left definitions text events o (stays_inside inside (event_at events i)) (i + 1) ++ rest) a.0 a.1 a.3 e in
          (a.1, record { built = a.2; long = c; roomy = e }, a.4, a.6 ∙ z);
    }

    refuses-at : {lack : CodeOption Shortage} (number : ℕ) → Lacks q room lack → refusal_of lack ≡ some number → Refuses text events room before b w number i
    unfolding turn_at
    refuses-at number n m = record {
      refuses = λ rest s v y g.
          let a = turned definitions o inside i h x p k rest s v y g in
          let c = l ∙ a.5.long in
          let e = n.lacks text w'' a.1 c a.2 ∙ m in
          a.6 ∙ run-over (length events / 20) (over room) (turn_at text events o i) (turns_left definitions text events o (stays_inside inside (event_at events i)) (i + 1) ++ rest) a.0 a.1 a.3 number e;
    }

ends_so : (definitions : Bool) {text events : List ℕ} (o : Options) {room : ℕ} {before : List Turn} {b : Whole} {w : World} (inside : Bool) (i : ℕ) {r : Whole} {w' : World} → length events / 20 ≤ i
    → Reaches text events room before (turns_left definitions text events o inside i) b w r w' → Reaches text events room before [] b w r w'
ends_so definitions {text} {events} o inside i h x = let z = left_end definitions text events o inside i h in rw (← z) x

-- the work bytes are as long where the captures' part of them is
pub lent-long : (captures work : List ℕ) → length captures ≡ length (take region_size work) → length work ≡ work_size → length (captures ++ drop region_size work) ≡ work_size
lent-long captures work p l = as_long captures work (p ∙ front_long work l) l

pub lent_same : (captures work : List ℕ) {n : ℕ} → length captures ≡ length (take region_size work) → length work ≡ work_size → length work ≡ n → length (captures ++ drop region_size work) ≡ n
lent_same captures work p l q = lent-long captures work p l ∙ sym l ∙ q

-- ---- steps

no-clash : {A : Type 0} → true ≡ false → A
no-clash z = let y : ◌≡◌ {A = ℕ} 0 1 = cc in absurd (omega arith)

module _ {first : Bool} {text events : List ℕ} {o : Options} where
  steps-start : {b : Whole} {w : World} → Steps first text events o b w false 0 b w
  steps-start = record { reached = starts-so; long = refl }

  pub stays-start : {b : Whole} {w : World} → Stays first text events o b w false 0 None b w
  stays-start = record { on = λ z. steps-start; past = no-clash; over = no-clash }

  pub all-steps : {b : Whole} {w : World} {inside : Bool} {i : ℕ} {r : Whole} {w' : World} → length events / 20 ≤ i → Steps first text events o b w inside i r w' → Passes first text events o b w (Ok r) w'
  all-steps {inside = inside} {i} h x = record { passes = ends_so first o inside i h x.reached }

  module _ {b : Whole} {w : World} {inside : Bool} {i : ℕ} {r : Whole} {w' : World} (h : i < length events / 20) (k : Steps first text events o b w inside i r w') where
    module _ {next : Bool} (m : next ≡ stays_inside inside (event_at events i)) (l : wanted first inside (event_at events i) ≡ true) {u : Whole} {w'' : World} (t : Turned text events o i r w' u w'') (n : length w''.out ≡ length w'.out) where
      stepped : Lacks u (length w''.out) None → Steps first text events o b w next (i + 1) u w''
      stepped a = rw m (record { reached = goes_by first o inside i h k.reached l t n (rw (← (n ∙ k.long)) a); long = n ∙ k.long })

      refused-here : {lack : CodeOption Shortage} (number : ℕ) → Lacks u (length w''.out) lack → refusal_of lack ≡ some number → Refuses text events (length w.out) (turns_left first text events o false 0) b w number i
      refused-here {lack} number a e = let z : Lacks u (length w.out) lack = rw (← (n ∙ k.long)) a in refuses-at first o inside i h k.reached l t n {lack = lack} number z e

      on-if : (lack : CodeOption Shortage) → Lacks u (length w''.out) lack → is_none lack ≡ true → Steps first text events o b w next (i + 1) u w''
      on-if None a z = stepped a
      on-if (Some S.Work) a z = no-clash (sym z)
      on-if (Some S.Page) a z = no-clash (sym z)

      over-if : (lack : CodeOption Shortage) → Lacks u (length w''.out) lack → is_none lack ≡ false → Passes first text events o b w (Err (full_of lack (record { 0 = i }))) w''
      over-if None a z = no-clash z
      over-if (Some S.Work) a z = record { passes = refused-here 8 a refl }
      over-if (Some S.Page) a z = record { passes = refused-here 9 a refl }

      -- the event is done
      pub stays : {lack : CodeOption Shortage} → Lacks u (length w''.out) lack → Stays first text events o b w next (i + 1) lack u w''
      stays {lack} a = record { on = on-if lack a; past = λ z. omega arith; over = λ z. let e : i + 1 - 1 ≡ i = omega arith in rw e (over-if lack a z) }

-- ---- what lacks room

-- what a test of it says
pub told-so : (o : CodeOption Shortage) (t : Bool) {x : Bool} → is_some o ≡ not t → t ≡ x → is_none o ≡ x
told-so o true p q = ap not p ∙ q
told-so o false p q = ap not p ∙ q

module _ {lack : CodeOption Shortage} {place : EventIndex} where
  pub full-work : lack ≡ Some S.Work → F.Work place ≡ full_of lack place
  full-work p = rw p

  pub full-none : lack ≡ None → F.Page place ≡ full_of lack place
  full-none p = rw p

  pub full-page : lack ≡ Some S.Page → F.Page place ≡ full_of lack place
  full-page p = rw p
