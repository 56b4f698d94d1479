-- Which title is shown: its own, or its definition's. Assumes nothing.
use mathlib.Core.Path.{◌≡◌, refl, ap, ◌∙◌}
use mathlib.Core.List.{List, ◌∷◌}
use mathlib.Core.Option.{Option, none, some}
use Prim.Native.Nat.{ℕ}
use native.Mathlib.Omega.{arith}
use lib.ListN.{get_elem?}
use Rattle.regions.specs.Sizes.{held_at}
use Rattle.machine.specs.State as State
use Rattle.machine.specs.State.{State, no_destination, own, defined}
use Rattle.machine.specs.Outcome.{go, ◌>>=◌, need}
use Rattle.machine.specs.Buffers.{push}
use Rattle.machine.specs.Turn.{Turn}
use Rattle.machine.specs.Media.{title, part_text, title_of, title_text, or_none}
use Rattle.machine.specs.Words.{show}
use Rattle.regions.specs.Regions.{region_at}
use Rattle.machine.specs.declared.Options.{Options}
use Rattle.machine.proofs.Outcomes.{first_goes}
use Rattle.state_media.specs.declared.Piece.{Piece}
use Rattle.state_media.specs.declared.Destination.{Destination}
use Rattle.state_media.specs.declared.Destination.TheVariants as D
use Rattle.state_media.specs.Links.{DestinationIs}
use Rattle.state_whole.specs.declared.Whole.{Whole}
use Rattle.state_whole.specs.Whole.{World, Mirrors}
use Rattle.on_definition.specs.Definitions.{Known}
use Rattle.on_definition.proofs.Seeks.{newest-is}
use Rattle.on_media.specs.Parts.{OnShown}
use Rattle.on_media.specs.Private.{ShowsOwnTitle, ShowsKeptTitle}
use Rattle.on_media.proofs.Shows.{shown-there}

-- ---- whichever

title-bytes : (o : Options) (ds : List State.Definition) (m : State.Media) (c : List ℕ) → part_text title o ds m ≡ go c → (x : Option (List ℕ)) × (title_of ds m.destination m.title ≡ go x) × (or_none x title_text ≡ c)
unfolding part_text
title-bytes o ds m c p = let f = first_goes (title_of ds m.destination m.title) (λ x. go (or_none x title_text)) c p in let z : or_none f.0 title_text ≡ c = (let e = f.2 in cc) in (f.0, f.1, z)

nowhere-title : (region : List ℕ) (end : ℕ) (ds : List State.Definition) (d : State.Destination) (ours x : Option (List ℕ)) → DestinationIs region end D.Nowhere d → title_of ds d ours ≡ go x → ours ≡ x
nowhere-title region end ds no_destination ours x k q = cc
nowhere-title region end ds (own c) ours x k q = absurd k
nowhere-title region end ds (defined n) ours x k q = absurd k

own-title : (region : List ℕ) (end : ℕ) (p : Piece) (ds : List State.Definition) (d : State.Destination) (ours x : Option (List ℕ)) → DestinationIs region end (D.Own p) d → title_of ds d ours ≡ go x → ours ≡ x
own-title region end p ds no_destination ours x k q = absurd k
own-title region end p ds (own c) ours x k q = cc
own-title region end p ds (defined n) ours x k q = absurd k

need-title : (ds : List State.Definition) (n : ℕ) (x : Option (List ℕ)) → (need (get_elem? ds n) >>= λ d. go d.title) ≡ go x → (d : State.Definition) × (get_elem? ds n ≡ some d) × (d.title ≡ x)
need-title ds n x p = on (get_elem? ds n) refl p
  where
    on : (o : Option State.Definition) → get_elem? ds n ≡ o → (need o >>= λ d. go d.title) ≡ go x → (d : State.Definition) × (get_elem? ds n ≡ some d) × (d.title ≡ x)
    on none q r = let z : ◌≡◌ {A = ℕ} 0 1 = cc in absurd (omega arith)
    on (some d) q r = let z : d.title ≡ x = cc in (d, q, z)

defined-title : (region : List ℕ) (end i : ℕ) (ds : List State.Definition) (d : State.Destination) (ours x : Option (List ℕ)) → DestinationIs region end (D.Defined i) d → title_of ds d ours ≡ go x → (e : State.Definition) × (get_elem? ds i ≡ some e) × (e.title ≡ x)
defined-title region end i ds no_destination ours x k q = absurd k
defined-title region end i ds (own c) ours x k q = absurd k
defined-title region end i ds (defined n) ours x k q = rw k (need-title ds n x q)

module _ {View : Turn → Type 0} {b r : Whole} {work out definitions work' out' : List ℕ} where
  ours : ((text : List ℕ) (w : World) (t : Turn) (s : State) (m : State.Media) (ms : List State.Media) (x : Option (List ℕ)) → Known b → Mirrors text b w s → s.media ≡ m ∷ ms → title_of s.kept.definitions m.destination m.title ≡ go x → m.title ≡ x)
      → ShowsOwnTitle b work out r work' out' → OnShown Known View (show title) b work out definitions r work' out'
  ours same k = record {
    on-shown = λ text w i j f. record {
      handles = λ t s u v a y p.
          let h = shown-there title t s u p in
          let z = title-bytes t.options s.kept.definitions h.newest h.bytes h.bytes-are in
          let e = same text w t s h.newest h.others z.0 a y h.media-is z.1 in
          let g : push (or_none h.newest.title title_text) s ≡ u = ap (λ (o : Option (List ℕ)). push (or_none o title_text) s) e ∙ ap (λ (c : List ℕ). push c s) z.2 ∙ h.then_is in
          rw (← g) (k.shows text w s h.newest h.others i j a.held y h.media-is);
    };
  }

  pub title-nowhere : b.links.media.destination ≡ D.Nowhere → ShowsOwnTitle b work out r work' out' → OnShown Known View (show title) b work out definitions r work' out'
  title-nowhere e k = ours (λ text w t s m ms x a y q p. (let d = (newest-is a.held y q).destination in nowhere-title (region_at held_at w.work) b.links.end s.kept.definitions m.destination m.title x (rw e at d) p)) k

  pub title-own : {n : Piece} → b.links.media.destination ≡ D.Own n → ShowsOwnTitle b work out r work' out' → OnShown Known View (show title) b work out definitions r work' out'
  title-own {n} e k = ours (λ text w t s m ms x a y q p. (let d = (newest-is a.held y q).destination in own-title (region_at held_at w.work) b.links.end n s.kept.definitions m.destination m.title x (rw e at d) p)) k

  pub title-defined : {n : ℕ} → b.links.media.destination ≡ D.Defined n → ShowsKeptTitle n b work out definitions r work' out' → OnShown Known View (show title) b work out definitions r work' out'
  title-defined {n} e k = record {
    on-shown = λ text w i j f. record {
      handles = λ t s u v a y p.
          let h = shown-there title t s u p in
          let z = title-bytes t.options s.kept.definitions h.newest h.bytes h.bytes-are in
          let d = (newest-is a.held y h.media-is).destination in
          let c = defined-title (region_at held_at w.work) b.links.end n s.kept.definitions h.newest.destination h.newest.title z.0 (rw e at d) z.1 in
          let g : push (or_none c.0.title title_text) s ≡ u = ap (λ (o : Option (List ℕ)). push (or_none o title_text) s) c.2 ∙ ap (λ (c : List ℕ). push c s) z.2 ∙ h.then_is in
          rw (← g) (k.shows text w s c.0 i j f a y c.1);
    };
  }
