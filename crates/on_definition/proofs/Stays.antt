-- A medium is led where it has no destination, and else stays. Assumes nothing.
use mathlib.Core.Path.{◌≡◌, refl}
use mathlib.Core.List.{List}
use mathlib.Core.Option.{Option}
use Prim.Native.Nat.{ℕ}
use Rattle.regions.specs.Sizes.{held_at}
use Rattle.machine.specs.State as State
use Rattle.machine.specs.State.{State, no_destination, own, defined}
use Rattle.machine.specs.Outcome.{go}
use Rattle.machine.specs.Media.{destination_of}
use Rattle.machine.specs.Totals.{kept}
use Rattle.machine.specs.Words.{seek_definition}
use Rattle.regions.specs.Regions.{region_at}
use Rattle.state_media.specs.declared.Piece.{Piece}
use Rattle.state_media.specs.declared.Destination.{Destination}
use Rattle.state_media.specs.declared.Destination.TheVariants as D
use Rattle.state_media.specs.Links.{DestinationIs}
use Rattle.state_whole.specs.declared.Whole.{Whole}
use Rattle.on_definition.specs.Definitions.{Known, FromDefinitions}
use Rattle.on_definition.specs.Private.{SeeksLabel}
use Rattle.on_definition.proofs.Sought.{sought-there}
use Rattle.on_definition.proofs.Seeks.{newest-is, unled}

-- ---- where it has no destination of its own

nowhere-is : (region : List ℕ) (end : ℕ) (d : State.Destination) → DestinationIs region end D.Nowhere d → d ≡ no_destination
nowhere-is region end no_destination k = refl
nowhere-is region end (own c) k = absurd k
nowhere-is region end (defined n) k = absurd k

own-stays : (region : List ℕ) (end : ℕ) (p : Piece) (x : State.Destination) (ds : List State.Definition) (o : Option (List ℕ)) (d : State.Destination) → DestinationIs region end (D.Own p) x → destination_of ds x o ≡ go d → x ≡ d
own-stays region end p no_destination ds o d k q = absurd k
own-stays region end p (own c) ds o d k q = cc
own-stays region end p (defined n) ds o d k q = absurd k

defined-stays : (region : List ℕ) (end i : ℕ) (x : State.Destination) (ds : List State.Definition) (o : Option (List ℕ)) (d : State.Destination) → DestinationIs region end (D.Defined i) x → destination_of ds x o ≡ go d → x ≡ d
defined-stays region end i no_destination ds o d k q = absurd k
defined-stays region end i (own c) ds o d k q = absurd k
defined-stays region end i (defined n) ds o d k q = cc

module _ {b : Whole} {text definitions : List ℕ} where
  pub seeks-nowhere : {r : Whole} → b.links.media.destination ≡ D.Nowhere → SeeksLabel b text definitions r → FromDefinitions Known seek_definition b text definitions r
  seeks-nowhere e k = record {
    from-definitions = λ w i. record {
      handles = λ t s u v a y p.
          let h = sought-there t s u p in
          let n = (newest-is a.held y h.media-is).destination in
          let z = nowhere-is (region_at held_at w.work) b.links.end h.newest.destination (rw e at n) in
          rw (← h.then_is) (k.seeks t w s h.newest h.others h.to v.text-is i a y h.media-is z h.sought);
    };
  }

  pub stays-own : {q : Piece} → b.links.media.destination ≡ D.Own q → FromDefinitions Known seek_definition b text definitions b
  stays-own {q} e = record {
    from-definitions = λ w i. record {
      handles = λ t s u v a y p.
          let h = sought-there t s u p in
          let n = (newest-is a.held y h.media-is).destination in
          let z = own-stays (region_at held_at w.work) b.links.end q h.newest.destination s.kept.definitions h.sought.label h.to (rw e at n) h.sought.leads in
          rw (← h.then_is) (unled h.newest h.others h.to h.media-is z y);
    };
  }

  pub stays-defined : {j : ℕ} → b.links.media.destination ≡ D.Defined j → FromDefinitions Known seek_definition b text definitions b
  stays-defined {j} e = record {
    from-definitions = λ w i. record {
      handles = λ t s u v a y p.
          let h = sought-there t s u p in
          let n = (newest-is a.held y h.media-is).destination in
          let z = defined-stays (region_at held_at w.work) b.links.end j h.newest.destination s.kept.definitions h.sought.label h.to (rw e at n) h.sought.leads in
          rw (← h.then_is) (unled h.newest h.others h.to h.media-is z y);
    };
  }
