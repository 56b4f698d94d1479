-- The code finds the definition that the machine seeks. Assumes nothing.
use Rattle.std.specs.Option.{option_or}
use Rattle.std.proofs.Common.{Some, None, ◌≡◌, refl, sym, ap, ◌∙◌, List, ◌∷◌, ℕ, ◌≤◌, arith}
use Rattle.std.specs.Prelude.{Option as CodeOption}
use Rattle.std.proofs.Math.Option.{Option, none, some}
use Rattle.regions.specs.Sizes.{held_at}
use Rattle.normalize_identifier.specs.Search.{Found, first_same}
use Rattle.machine.specs.State as State
use Rattle.machine.specs.State.{State, no_destination, defined}
use Rattle.machine.specs.Outcome.{go, ◌>>=◌}
use Rattle.machine.specs.Set.{set_media, set_destination}
use Rattle.machine.specs.Turn.{Turn, str_of}
use Rattle.machine.specs.Media as M
use Rattle.machine.specs.Media.{defined_at, definition_labels}
use Rattle.machine.specs.Totals.{kept, most_total}
use Rattle.machine.proofs.Outcomes.{never, first_goes}
use Rattle.regions.specs.Regions.{region_at}
use Rattle.state_media.specs.declared.Links.{Links}
use Rattle.state_media.specs.declared.Span.{Span}
use Rattle.state_media.specs.declared.Destination.{Destination}
use Rattle.state_media.specs.Links.{MediaIs, Leads, span_is, label_of}
use Rattle.state_kept.specs.Clauses.{FindsDefinition}
use Rattle.state_kept.proofs.Labels.{label_is}
use Rattle.state_whole.specs.declared.Whole.{Whole}
use Rattle.state_whole.specs.Whole.{World, Mirrors, Held, with_links}
use Rattle.state_whole.proofs.Parts.{rel-alike, keeps_same}
use Rattle.write_held.proofs.Steady.{room_in}
use Rattle.on_definition.specs.Definitions.{Known}
use Rattle.on_definition.specs.Private.{SeeksAt, SeeksLabel, sought_of}

module _ {text : List ℕ} {b : Whole} {w : World} {s : State} where
  -- what is known of the newest medium, where there is room
  pub newest-is : {m : State.Media} {ms : List State.Media} → Held b → Mirrors text b w s → s.media ≡ m ∷ ms → MediaIs (region_at held_at w.work) b.links.end b.links.media m
  newest-is a y q = let x = y.links.newest (room_in a y) in rw q at x

  pub kept-room : Known b → Mirrors text b w s → kept s ≤ most_total
  kept-room a y = let e = y.kept.end in let h = a.kept in omega arith

  -- led where it leads already
  pub unled : (m : State.Media) (ms : List State.Media) (d : State.Destination) → s.media ≡ m ∷ ms → m.destination ≡ d → Mirrors text b w s → Mirrors text b w (set_media (set_destination d m ∷ ms) s)
  unled m ms d q i y =
      let e : set_media (set_destination d m ∷ ms) s ≡ s = ap (λ (x : State.Destination). set_media (set_destination x m ∷ ms) s) (sym i) ∙ ap (λ (x : List State.Media). set_media x s) (sym q) in
      rw e y

  led : {k : ℕ} {l : Links} (m : State.Media) (ms : List State.Media) → Leads k b.links l → s.media ≡ m ∷ ms → m.destination ≡ no_destination → Mirrors text b w s → Mirrors text (with_links l b) w (set_media (set_destination (defined k) m ∷ ms) s)
  led m ms k q i y = record {
    long = y.long;
    places = y.places;
    context = rel-alike (record { page = refl; captures = refl; flags = refl; rank = refl; seen = refl; fences = refl; marker = refl; first = refl; tight = refl; table = refl; fixed = refl }) y.context;
    links = k.leads (region_at held_at w.work) s m ms q i y.links;
    kept = keeps_same refl refl y.kept;
  }

-- ---- at a slice

module _ {p : Span} {b : Whole} {text definitions : List ℕ} {f : Found} (k : FindsDefinition b.kept text p.from.0 p.to.0 definitions f) where
  found-is : (w : World) (s : State) (label : List ℕ) → w.tables.definitions ≡ definitions → Known b → Mirrors text b w s → str_of text (span_is p) ≡ go label → f ≡ first_same (definition_labels s.kept.definitions) label
  found-is w s label i a y l = let k' = rw (← i) at k in k'.finds y.kept (kept-room a y) (label_is text (span_is p) label l)

  pub seeks-nothing : f ≡ None → SeeksAt p b text definitions b
  seeks-nothing e = record {
    seeks = λ w s m ms label d i a y q n l g.
        let h : first_same (definition_labels s.kept.definitions) label ≡ None = sym (found-is w s label i a y l) ∙ e in
        never (rw h at g);
  }

  pub seeks-found : {n : ℕ} {l : Links} → f ≡ Some n → Leads n b.links l → SeeksAt p b text definitions (with_links l b)
  seeks-found {n} e leads = record {
    seeks = λ w s m ms label d i a y q o l g.
        let h : first_same (definition_labels s.kept.definitions) label ≡ Some n = sym (found-is w s label i a y l) ∙ e in
        let g' : go (defined n) ≡ go d = rw h at g in
        let z : defined n ≡ d = cc in
        rw (← z) (led m ms leads q o y);
  }

-- ---- at the label that is sought

unset : {X : Type 0} {p : Span} → None ≡ Some p → X
unset e = let z : ◌≡◌ {A = ℕ} 0 1 = cc in absurd (omega arith)

str-some : (t : Turn) (q : State.Span) (o : Option (List ℕ)) → (str_of t.text q >>= λ c. go (some c)) ≡ go o → (c : List ℕ) × (str_of t.text q ≡ go c) × (o ≡ some c)
str-some t q o k = let f = first_goes (str_of t.text q) (λ c. go (some c)) o k in let z : some f.0 ≡ o = (let e = f.2 in cc) in (f.0, f.1, sym z)

sought-span : (t : Turn) (r l : CodeOption Span) (x y : Option State.Span) (p : Span) (o : Option (List ℕ)) → option_or r l ≡ Some p → label_of r ≡ x → label_of l ≡ y → M.label_of t x y ≡ go o → (c : List ℕ) × (str_of t.text (span_is p) ≡ go c) × (o ≡ some c)
sought-span t None None x y p o e i j k = unset e
sought-span t None (Some q) x y p o e i j k = let z : q ≡ p = cc in let k' = rw (← i, ← j, z) at k in str-some t (span_is p) o k'
sought-span t (Some q) l x y p o e i j k = let z : q ≡ p = cc in let k' = rw (← i, z) at k in str-some t (span_is p) o k'

sought-none : (t : Turn) (r l : CodeOption Span) (x y : Option State.Span) (o : Option (List ℕ)) → option_or r l ≡ None → label_of r ≡ x → label_of l ≡ y → M.label_of t x y ≡ go o → o ≡ none
sought-none t None None x y o e i j k = let k' = rw (← i, ← j) at k in (cc)
sought-none t None (Some q) x y o e i j k = unset (sym e)
sought-none t (Some q) l x y o e i j k = unset (sym e)

module _ {b : Whole} {text definitions : List ℕ} {x : CodeOption Span} (is : x ≡ sought_of b.links.media) where
  pub seeks-unset : x ≡ None → SeeksLabel b text definitions b
  seeks-unset e = record {
    seeks = λ t w s m ms d v i a y q n h.
        let k = newest-is a.held y q in
        let z = sought-none t b.links.media.reference_id b.links.media.label_id m.reference_id m.label_id h.label (sym is ∙ e) k.reference_id k.label_id h.label_is in
        let g : go no_destination ≡ go d = (let g0 = h.leads in rw (n, z) at g0) in
        let c : no_destination ≡ d = cc in
        unled m ms d q (n ∙ c) y;
  }

  pub seeks-is : {p : Span} {r : Whole} → x ≡ Some p → SeeksAt p b text definitions r → SeeksLabel b text definitions r
  seeks-is {p} e f = record {
    seeks = λ t w s m ms d v i a y q n h.
        let k = newest-is a.held y q in
        let z = sought-span t b.links.media.reference_id b.links.media.label_id m.reference_id m.label_id p h.label (sym is ∙ e) k.reference_id k.label_id h.label_is in
        let g : defined_at (first_same (definition_labels s.kept.definitions) z.0) ≡ go d = (let g0 = h.leads in rw (n, z.2) at g0) in
        f.seeks w s m ms z.0 d i a y q n (ap (λ (c : List ℕ). str_of c (span_is p)) (sym v) ∙ z.1) g;
  }
