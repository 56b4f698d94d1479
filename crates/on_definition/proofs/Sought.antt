-- What the machine does where it seeks a definition; what is held does not grow by it. Assumes nothing.
use Rattle.std.proofs.Common.{Some, None}
use mathlib.Core.Path.{◌≡◌, refl, sym, ap, ◌∙◌}
use mathlib.Core.Bool.{true}
use mathlib.Core.List.{List, ◌∷◌}
use mathlib.Core.Option.{Option, none, some}
use Prim.Native.Nat.{ℕ}
use native.Mathlib.Omega.{arith}
use Rattle.normalize_identifier.specs.Search.{Found, first_same}
use Rattle.machine.specs.State as State
use Rattle.machine.specs.State.{State, no_destination, own, defined}
use Rattle.machine.specs.Outcome.{go, ◌>>=◌}
use Rattle.machine.specs.Set.{set_media, set_destination}
use Rattle.machine.specs.Turn.{Turn}
use Rattle.machine.specs.Media.{label_of, destination_of, defined_at, definition_labels, own_of, newest_media, on_newest, seek}
use Rattle.machine.specs.Totals.{size, media_sizes, held, kept}
use Rattle.machine.specs.Command.{exec}
use Rattle.machine.specs.Words.{seek_definition}
use Rattle.machine.proofs.Outcomes.{never, first_goes}
use Rattle.machine_bounded.specs.Within.{within}
use Rattle.machine_bounded.proofs.Bounds.{done}
use Rattle.state_whole.proofs.Media.{cc-go, newest-there}
use Rattle.write_held.proofs.Steady.{Steady}
use Rattle.on_definition.specs.Private.{Sought}

pub record SoughtIs (t : Turn) (s u : State) : Type 0 where
  pub newest : State.Media
  pub others : List State.Media
  pub to : State.Destination
  pub media-is : s.media ≡ newest ∷ others
  pub sought : Sought t s newest to
  pub then_is : set_media (set_destination to newest ∷ others) s ≡ u

onto : (s u : State) (m : State.Media) (ms : List State.Media) (d : State.Destination) → s.media ≡ m ∷ ms → on_newest (set_destination d) s ≡ go u → set_media (set_destination d m ∷ ms) s ≡ u
unfolding on_newest newest_media
onto s u m ms d q p = let j : go (set_media (set_destination d m ∷ ms) s) ≡ go u = rw q at p in cc-go j

pub sought-there : (t : Turn) (s u : State) → within seek_definition t s ≡ go u → SoughtIs t s u
unfolding within exec seek
sought-there t s u p =
    let ds = s.kept.definitions in
    let g = (done true (seek t s) u p).went in
    let f = newest-there s u (λ (m, ms). label_of t m.reference_id m.label_id >>= λ sought. destination_of ds m.destination sought >>= λ d. on_newest (set_destination d) s) g in
    let h = first_goes (label_of t f.0.reference_id f.0.label_id) (λ sought. destination_of ds f.0.destination sought >>= λ d. on_newest (set_destination d) s) u f.3 in
    let i = first_goes (destination_of ds f.0.destination h.0) (λ d. on_newest (set_destination d) s) u h.2 in
    record { newest = f.0; others = f.1; to = i.0; media-is = f.2; sought = record { label = h.0; label_is = h.1; leads = i.1 }; then_is = onto s u f.0 f.1 i.0 f.2 i.2 }

-- ---- of the destinations only its own has a size, and that stays

found-size : (f : Found) (d : State.Destination) → defined_at f ≡ go d → size (own_of d) ≡ 0
found-size (Some k) d p = let e : defined k ≡ d = cc in rw (← e)
found-size None d p = never p

lead-size : (ds : List State.Definition) (x : State.Destination) (o : Option (List ℕ)) (d : State.Destination) → destination_of ds x o ≡ go d → size (own_of d) ≡ size (own_of x)
lead-size ds no_destination (some b) d p = found-size (first_same (definition_labels ds) b) d p
lead-size ds no_destination none d p = let e : no_destination ≡ d = cc in rw (← e)
lead-size ds (own b) o d p = let e : own b ≡ d = cc in rw (← e)
lead-size ds (defined k) o d p = let e : defined k ≡ d = cc in rw (← e)

held-led : (s : State) (m : State.Media) (ms : List State.Media) (d : State.Destination) → s.media ≡ m ∷ ms → size (own_of d) ≡ size (own_of m.destination) → held (set_media (set_destination d m ∷ ms) s) ≡ held s
unfolding held
held-led s m ms d q e = let z : media_sizes s.media ≡ media_sizes (m ∷ ms) = ap media_sizes q in omega arith

kept-led : (s : State) (x : List State.Media) → kept (set_media x s) ≡ kept s
unfolding kept
kept-led s x = refl

pub seek-steady : Steady seek_definition
seek-steady = record {
  held = λ t s u p.
      let h = sought-there t s u p in
      let e = held-led s h.newest h.others h.to h.media-is (lead-size s.kept.definitions h.newest.destination h.sought.label h.to h.sought.leads) in
      ap held (sym h.then_is) ∙ e;
  kept = λ t s u p. (let h = sought-there t s u p in ap kept (sym h.then_is) ∙ kept-led s (set_destination h.to h.newest ∷ h.others));
}
