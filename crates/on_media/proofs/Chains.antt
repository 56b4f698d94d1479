-- One after the other, where what is held and kept has room before and so behind. Assumes nothing.
use mathlib.Core.Path.{refl}
use mathlib.Core.List.{List}
use Prim.Native.Nat.{ℕ, ◌≤◌}
use native.Mathlib.Omega.{arith}
use Rattle.machine.specs.State.{State}
use Rattle.machine.specs.Turn.{Turn}
use Rattle.machine.specs.Totals.{held, kept, most_total}
use Rattle.machine.specs.Command.{Command, ◌▸◌}
use Rattle.machine.proofs.Outcomes.{first_goes}
use Rattle.machine_bounded.specs.Within.{within}
use Rattle.state_whole.specs.declared.Whole.{Whole}
use Rattle.state_whole.specs.Whole.{World, Mirrors, Handles, OnPage, with_out, with_work}
use Rattle.write_held.proofs.Steady.{Steady, room_in, room_out}
use Rattle.on_definition.specs.Definitions.{Known}
use Rattle.on_definition.proofs.Seeks.{kept-room}
use Rattle.on_media.specs.Parts.{OnShown}

known_out : {text : List ℕ} {b : Whole} {w : World} {s : State} → Mirrors text b w s → held s ≤ most_total → kept s ≤ most_total → Known b
known_out y h k = let e = y.kept.end in record { held = room_out y h; kept = omega arith }

pub then-known : {text : List ℕ} {View : Turn → Type 0} {d e : Command} {b r q : Whole} {w w' w'' : World} → Steady d → Handles text Known View d b w r w' → Handles text Known View e r w' q w'' → Handles text Known View (d ▸ e) b w q w''
unfolding within
then-known {d = d} {e = e} z k l = record {
  handles = λ t s u v a y p.
      let f = first_goes (within d t s) (λ x. within e t x) u p in
      let y' = k.handles t s f.0 v a y f.1 in
      let h = z.held t s f.0 f.1 in
      let i = z.kept t s f.0 f.1 in
      let m = room_in a.held y in
      let n = kept-room a y in
      l.handles t f.0 u v (known_out y' (omega arith) (omega arith)) y' f.2;
}

pub then-shown : {View : Turn → Type 0} {d e : Command} {b r q : Whole} {work out definitions work' out' work'' out'' : List ℕ} → Steady d → OnShown Known View d b work out definitions r work' out' → OnShown Known View e r work' out' definitions q work'' out''
    → OnShown Known View (d ▸ e) b work out definitions q work'' out''
then-shown {work' = work'} {out' = out'} z k l = record { on-shown = λ text w i j f. then-known z (k.on-shown text w i j f) (l.on-shown text (with_out out' (with_work work' w)) refl refl f) }

-- ---- what needs less, or sees less

pub narrowed : {text : List ℕ} {N M : Whole → Type 0} {View Wide : Turn → Type 0} {d : Command} {b r : Whole} {w w' : World} → ((t : Turn) → View t → Wide t) → (M b → N b) → Handles text N Wide d b w r w' → Handles text M View d b w r w'
narrowed f g k = record { handles = λ t s u v a y p. k.handles t s u (f t v) (g a) y p }

pub page-shown : {N : Whole → Type 0} {View Wide : Turn → Type 0} {d : Command} {b r : Whole} {work out definitions work' out' : List ℕ} → ((t : Turn) → View t → Wide t) → (Known b → N b) → OnPage N Wide d b work out r work' out' → OnShown Known View d b work out definitions r work' out'
page-shown f g k = record { on-shown = λ text w i j h. narrowed f g (k.on-page text w i j) }
