-- What is known where the machine goes on within the code's tables. Assumes nothing.
use mathlib.Core.Path.{◌≡◌, refl}
use mathlib.Core.Bool.{Bool, true, false, ◌&&◌}
use mathlib.Core.List.{List}
use Prim.Native.Nat.{ℕ, ◌≤◌}
use native.Mathlib.Omega.{arith}
use borrow.Author.Tests.{leb-true}
use lib.Dec.{leb}
use lib.ListN.{length}
use Rattle.lent.proofs.Laws.{and_left, and_right}
use Rattle.machine.specs.Outcome.{Outcome, stop, go, ◌>>=◌}
use Rattle.machine.specs.State.{State}
use Rattle.machine.specs.Buffers.{push}
use Rattle.machine.specs.Turn.{Turn}
use Rattle.machine.specs.Command.{step, write, Source, text_of}
use Rattle.machine.proofs.Outcomes.{never, first_goes}
use Rattle.machine_bounded.specs.Within.{countable, fitting, fitting_only, one, within}

-- a command that is not made of others: its turn was right, the machine went on, and the tables hold what came
pub record Done (right : Bool) (o : Outcome State) (u : State) : Type 0 where
  pub turn : right ≡ true
  pub went : o ≡ go u
  pub fits : fitting u ≡ true

pub done : (right : Bool) (o : Outcome State) (u : State) → one right o ≡ go u → Done right o u
done false o u p = never p
done true stop u p = never p
done true (go v) u p = on (fitting v) refl p
  where
    on : (x : Bool) → fitting v ≡ x → elim x [ true ↦ go v | false ↦ stop ] ≡ go u → Done true (go v) u
    on true q r = let e : v ≡ u = cc in record { turn = refl; went = r; fits = rw (← e) q }
    on false q r = never r

-- a text that is written: it was there, and it was pushed
pub wrote : (x : Source) (t : Turn) (s u : State) → within (step (write x)) t s ≡ go u → (b : List ℕ) × (text_of x t s ≡ go b) × (push b s ≡ u)
unfolding within
wrote x t s u p =
    let r = first_goes (text_of x t s) (λ b. go (push b s)) u (done true (text_of x t s >>= λ b. go (push b s)) u p).went in
    (r.0, r.1, (let z = r.2 in cc))

pub record Fits (s : State) : Type 0 where
  pub captures : length s.captures ≤ 64
  pub tight : length s.tight ≤ 64
  pub media : length s.media ≤ 64
  pub labels : length s.labels ≤ 64
  pub definitions : length s.kept.definitions ≤ 128
  pub footnotes : length s.kept.footnotes ≤ 64
  pub calls : length s.kept.calls ≤ 64
  pub times : countable s.kept.calls ≡ true

-- ((((((a && b) && c) && d) && e) && f) && g) && h
split : (a b : Bool) → (a && b) ≡ true → (a ≡ true) × (b ≡ true)
split a b p = (and_left a b p, and_right a b p)

pub fits : (s : State) → fitting s ≡ true → Fits s
unfolding fitting
fits s p =
    let a = leb (length s.captures) 64 in
    let b = leb (length s.tight) 64 in
    let c = leb (length s.media) 64 in
    let d = leb (length s.labels) 64 in
    let e = leb (length s.kept.definitions) 128 in
    let f = leb (length s.kept.footnotes) 64 in
    let g = leb (length s.kept.calls) 64 in
    let h = countable s.kept.calls in
    let p1 = split (a && b && c && d && e && f && g) h p in
    let p2 = split (a && b && c && d && e && f) g p1.0 in
    let p3 = split (a && b && c && d && e) f p2.0 in
    let p4 = split (a && b && c && d) e p3.0 in
    let p5 = split (a && b && c) d p4.0 in
    let p6 = split (a && b) c p5.0 in
    let p7 = split a b p6.0 in
    record {
      captures = leb-true (length s.captures) 64 p7.0;
      tight = leb-true (length s.tight) 64 p7.1;
      media = leb-true (length s.media) 64 p6.1;
      labels = leb-true (length s.labels) 64 p5.1;
      definitions = leb-true (length s.kept.definitions) 128 p4.1;
      footnotes = leb-true (length s.kept.footnotes) 64 p3.1;
      calls = leb-true (length s.kept.calls) 64 p2.1;
      times = p1.1;
    }
