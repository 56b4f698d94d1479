-- Where a medium leads, as the machine and the code show it. Assumes nothing.
use Rattle.std.specs.Prelude.{if◌then◌else◌}
use mathlib.Core.Path.{◌≡◌, refl, sym, ap, ◌∙◌}
use mathlib.Core.Bool.{Bool, true, false, ◌&&◌, ◌||◌}
use mathlib.Core.List.{List, [], ◌∷◌}
use mathlib.Core.Option.{Option, none, some}
use Prim.Native.Nat.{ℕ}
use native.Mathlib.Omega.{arith}
use lib.ListN.{length, get_or, get_elem?}
use Rattle.regions.specs.Sizes.{held_at, kept_at}
use Rattle.encode.specs.Encode.{encode_of}
use Rattle.normalize_uri.specs.Url.{normalize_of}
use Rattle.sanitize_uri.specs.Url.{sanitize_of}
use Rattle.sanitize_uri.specs.Protocols.{link_schemes, image_schemes, is_allowed, sanitize_with_protocols_of}
use Rattle.machine.specs.declared.Options.{Options}
use Rattle.machine.specs.State as State
use Rattle.machine.specs.State.{State, no_destination, own, defined}
use Rattle.machine.specs.Outcome.{go, ◌>>=◌, need}
use Rattle.machine.specs.Buffers.{push}
use Rattle.machine.specs.Turn.{Turn, url_of}
use Rattle.machine.specs.Media.{destination, part_text, destination_text, or_none}
use Rattle.machine.specs.Words.{show}
use Rattle.machine.proofs.Outcomes.{never}
use Rattle.regions.specs.Regions.{region_at}
use Rattle.state_media.specs.declared.Piece.{Piece}
use Rattle.state_media.specs.declared.Destination.{Destination}
use Rattle.state_media.specs.declared.Destination.TheVariants as D
use Rattle.state_media.specs.Links.{PieceIs, DestinationIs, IsImage}
use Rattle.state_kept.specs.Kept as Kept
use Rattle.state_kept.specs.Kept.{column, or_empty}
use Rattle.state_kept.specs.Sizes.{definition_rows}
use Rattle.state_whole.specs.declared.Whole.{Whole}
use Rattle.state_whole.specs.Whole.{World, Mirrors}
use Rattle.on_definition.specs.Definitions.{Known}
use Rattle.on_definition.proofs.Seeks.{newest-is, kept-room}
use Rattle.on_media.specs.Parts.{Chooses, OnShown}
use Rattle.on_media.specs.Private.{WritesPiece}
use Rattle.on_media.proofs.Writes.{unwritten}
use Rattle.on_media.proofs.Shows.{shown-there}

-- ---- where it leads

nowhere-bytes : (region : List ℕ) (end : ℕ) (o : Options) (ds : List State.Definition) (m : State.Media) (c : List ℕ) → DestinationIs region end D.Nowhere m.destination → part_text destination o ds m ≡ go c → [] ≡ c
unfolding part_text
nowhere-bytes region end o ds m c k p = on m.destination k p
  where
    on : (d : State.Destination) → DestinationIs region end D.Nowhere d → destination_text o m.image ds d ≡ go c → [] ≡ c
    on no_destination x q = cc
    on (own e) x q = absurd x
    on (defined n) x q = absurd x

own-bytes : (region : List ℕ) (end : ℕ) (p : Piece) (o : Options) (ds : List State.Definition) (m : State.Media) (c : List ℕ) → DestinationIs region end (D.Own p) m.destination → part_text destination o ds m ≡ go c → (e : List ℕ) × PieceIs region end p e × (url_of o m.image e ≡ c)
unfolding part_text
own-bytes region end p o ds m c k q = on m.destination k q
  where
    on : (d : State.Destination) → DestinationIs region end (D.Own p) d → destination_text o m.image ds d ≡ go c → (e : List ℕ) × PieceIs region end p e × (url_of o m.image e ≡ c)
    on no_destination x r = absurd x
    on (own e) x r = let z : url_of o m.image e ≡ c = cc in (e, x, z)
    on (defined n) x r = absurd x

-- no bytes make no URL
sanitize-none : (apostrophes : Bool) → sanitize_of apostrophes [] ≡ []
unfolding sanitize_of encode_of normalize_of
sanitize-none apostrophes = refl

either-none : (x : Bool) (a c : List ℕ) → a ≡ [] → c ≡ [] → (if x then a else c) ≡ []
either-none true a c p q = p
either-none false a c p q = q

url-none : (o : Options) (image : Bool) → url_of o image [] ≡ []
unfolding url_of sanitize_with_protocols_of
url-none o image =
    let schemes = if image then image_schemes else link_schemes in
    let safe = sanitize_of o.escape_apostrophes [] in
    let none = sanitize-none o.escape_apostrophes in
    either-none (o.allow_dangerous_protocol || (o.allow_any_img_src && image)) safe (if is_allowed schemes [] then safe else []) none (either-none (is_allowed schemes []) safe [] none refl)

url-or-none : (o : Options) (image : Bool) (x : Option (List ℕ)) → url_of o image (or_empty x) ≡ or_none x (url_of o image)
url-or-none o image none = url-none o image
url-or-none o image (some c) = refl

pub needed-at : (ds : List State.Definition) (k : ℕ) (f : State.Definition → List ℕ) (c : List ℕ) → (need (get_elem? ds k) >>= λ d. go (f d)) ≡ go c → (d : State.Definition) × (get_elem? ds k ≡ some d) × (f d ≡ c)
needed-at ds k f c p = on (get_elem? ds k) refl p
  where
    on : (o : Option State.Definition) → get_elem? ds k ≡ o → (need o >>= λ d. go (f d)) ≡ go c → (d : State.Definition) × (get_elem? ds k ≡ some d) × (f d ≡ c)
    on none q r = never r
    on (some d) q r = let z : f d ≡ c = cc in (d, q, z)

defined-bytes : (region : List ℕ) (end i : ℕ) (o : Options) (ds : List State.Definition) (m : State.Media) (c : List ℕ) → DestinationIs region end (D.Defined i) m.destination → part_text destination o ds m ≡ go c
    → (d : State.Definition) × (get_elem? ds i ≡ some d) × (url_of o m.image (or_empty d.destination) ≡ c)
unfolding part_text
defined-bytes region end i o ds m c k q = on m.destination k q
  where
    at : (n : ℕ) → i ≡ n → destination_text o m.image ds (defined n) ≡ go c → (d : State.Definition) × (get_elem? ds n ≡ some d) × (url_of o m.image (or_empty d.destination) ≡ c)
    at n x r = let f = needed-at ds n (λ d. or_none d.destination (url_of o m.image)) c r in (f.0, f.1, url-or-none o m.image f.0.destination ∙ f.2)

    on : (d : State.Destination) → DestinationIs region end (D.Defined i) d → destination_text o m.image ds d ≡ go c → (d : State.Definition) × (get_elem? ds i ≡ some d) × (url_of o m.image (or_empty d.destination) ≡ c)
    on no_destination x r = absurd x
    on (own e) x r = absurd x
    on (defined n) x r = rw x (at n x r)

-- under the code's options, and by what it knows of the newest
url-same : {o : Options} {b : Whole} {image : Bool} → IsImage b.links image → (text : List ℕ) (w : World) (t : Turn) (s : State) (m : State.Media) (ms : List State.Media) (c : List ℕ) → Chooses o t → Mirrors text b w s → s.media ≡ m ∷ ms → url_of o image c ≡ url_of t.options m.image c
url-same {o} is text w t s m ms c v y q = ap (λ (x : Bool). url_of o x c) (is.is (region_at held_at w.work) s m ms q y.links) ∙ ap (λ (x : Options). url_of x m.image c) (sym v.options-is)

module _ {o : Options} {b : Whole} {work out definitions : List ℕ} where
  pub leads-nowhere : b.links.media.destination ≡ D.Nowhere → OnShown Known (Chooses o) (show destination) b work out definitions b work out
  leads-nowhere e = record {
    on-shown = λ text w i j f. record {
      handles = λ t s u v a y p.
          let h = shown-there destination t s u p in
          let x = (newest-is a.held y h.media-is).destination in
          let z = nowhere-bytes (region_at held_at w.work) b.links.end t.options s.kept.definitions h.newest h.bytes (rw e at x) h.bytes-are in
          let q : push [] s ≡ u = ap (λ (c : List ℕ). push c s) z ∙ h.then_is in
          rw (← q) (unwritten i j y);
    };
  }

  module _ {image : Bool} {r : Whole} {work' out' : List ℕ} (is : IsImage b.links image) where
    pub leads-own : {p : Piece} → b.links.media.destination ≡ D.Own p → WritesPiece (url_of o image) held_at p.place p.length b work out r work' out' → OnShown Known (Chooses o) (show destination) b work out definitions r work' out'
    leads-own {p} e k = record {
      on-shown = λ text w i j f. record {
        handles = λ t s u v a y q.
            let h = shown-there destination t s u q in
            let x = (newest-is a.held y h.media-is).destination in
            let z = own-bytes (region_at held_at w.work) b.links.end p t.options s.kept.definitions h.newest h.bytes (rw e at x) h.bytes-are in
            let g : push (url_of o image z.0) s ≡ u = ap (λ (c : List ℕ). push c s) (url-same is text w t s h.newest h.others z.0 v y h.media-is ∙ z.2) ∙ h.then_is in
            rw (← g) (k.writes text z.0 w s i j (omega arith) (omega arith) z.1.inside z.1.bytes y);
      };
    }

    pub leads-defined : {n place m : ℕ} → b.links.media.destination ≡ D.Defined n → place ≡ get_or (column definition_rows 2 definitions) n 0 → m ≡ get_or (column definition_rows 3 definitions) n 0 → WritesPiece (url_of o image) kept_at place m b work out r work' out'
        → OnShown Known (Chooses o) (show destination) b work out definitions r work' out'
    leads-defined {n} {place} {m} e pl ln k = record {
      on-shown = λ text w i j f. record {
        handles = λ t s u v a y q.
            let h = shown-there destination t s u q in
            let x = (newest-is a.held y h.media-is).destination in
            let z = defined-bytes (region_at held_at w.work) b.links.end n t.options s.kept.definitions h.newest h.bytes (rw e at x) h.bytes-are in
            let d = ((y.kept.definitions (kept-room a y)).each n z.0 z.1).destination in
            let c = or_empty z.0.destination in
            let d' : Kept.Piece (region_at kept_at w.work) b.kept.end place m c = rw (pl, ln, ← f) d in
            let g : push (url_of o image c) s ≡ u = ap (λ (c : List ℕ). push c s) (url-same is text w t s h.newest h.others c v y h.media-is ∙ z.2) ∙ h.then_is in
            let l = d'.below in
            let room = a.kept in
            rw (← g) (k.writes text c w s i j (omega arith) (omega arith) (omega arith) d'.bytes y);
      };
    }
