-- Commands that leave the sizes of what is held and kept as they are, so that there is room behind them where there was before. Assumes nothing.
use mathlib.Core.Path.{◌≡◌, refl}
use mathlib.Core.Bool.{true}
use mathlib.Core.List.{List}
use Prim.Native.Nat.{ℕ, ◌≤◌}
use native.Mathlib.Omega.{arith}
use Rattle.machine.specs.Outcome.{go}
use Rattle.machine.specs.State.{State}
use Rattle.machine.specs.Turn.{Turn}
use Rattle.machine.specs.Totals.{held, kept, most_total}
use Rattle.machine.specs.Command.{Command, ◌▸◌}
use Rattle.machine.proofs.Outcomes.{first_goes}
use Rattle.machine_bounded.specs.Within.{within}
use Rattle.state_whole.specs.declared.Whole.{Whole}
use Rattle.state_whole.specs.Quiet.{is_quiet}
use Rattle.state_whole.specs.Whole.{World, Mirrors, Held, Handles, OnPage, with_out, with_work}
use Rattle.state_whole.proofs.Quiet.{rests}

pub record Steady (d : Command) : Type 0 where
  pub held : (t : Turn) (s u : State) → within d t s ≡ go u → held u ≡ held s
  pub kept : (t : Turn) (s u : State) → within d t s ≡ go u → kept u ≡ kept s

pub quiet-steady : (d : Command) → is_quiet d ≡ true → Steady d
unfolding held kept
quiet-steady d q = record {
  held = λ t s u p. (let e = (rests d q t s).leaves u p in let m = e.media in let x = e.setext in rw (m, x));
  kept = λ t s u p. (let e = (rests d q t s).leaves u p in let m = e.kept in rw m);
}

pub room_in : {text : List ℕ} {b : Whole} {w : World} {s : State} → Held b → Mirrors text b w s → held s ≤ most_total
room_in a y = let e = y.links.end in omega arith

pub room_out : {text : List ℕ} {b : Whole} {w : World} {s : State} → Mirrors text b w s → held s ≤ most_total → Held b
room_out y h = let e = y.links.end in omega arith

pub then-steady : {text : List ℕ} {View : Turn → Type 0} {d e : Command} {b r q : Whole} {w w' w'' : World} → Steady d → Handles text Held View d b w r w' → Handles text Held View e r w' q w'' → Handles text Held View (d ▸ e) b w q w''
unfolding within
then-steady {d = d} {e = e} z k l = record {
  handles = λ t s u v a y p.
      let f = first_goes (within d t s) (λ x. within e t x) u p in
      let y' = k.handles t s f.0 v a y f.1 in
      let h = z.held t s f.0 f.1 in
      let i = room_in a y in
      l.handles t f.0 u v (room_out y' (omega arith)) y' f.2;
}

pub then-steady-page : {View : Turn → Type 0} {d e : Command} {b r q : Whole} {work out work' out' work'' out'' : List ℕ} → Steady d → OnPage Held View d b work out r work' out' → OnPage Held View e r work' out' q work'' out'' → OnPage Held View (d ▸ e) b work out q work'' out''
then-steady-page {work' = work'} {out' = out'} z k l = record { on-page = λ text w i j. then-steady z (k.on-page text w i j) (l.on-page text (with_out out' (with_work work' w)) refl refl) }
