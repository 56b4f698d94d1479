-- The code keeps the definition that the machine keeps. Assumes nothing.
use Rattle.std.proofs.Common.{Some, None, ◌≡◌, refl, sym, ap, ◌∙◌, true, List, ◌∷◌, ℕ, min, ◌+◌, ◌≤◌, ◌<◌, arith, length, take}
use Rattle.std.specs.Prelude.{Option as CodeOption}
use Rattle.std.proofs.Math.Option.{Option, none, some}
use Rattle.regions.specs.Sizes.{region_size, held_at, kept_at}
use Rattle.machine.specs.State as State
use Rattle.machine.specs.State.{State}
use Rattle.machine.specs.Outcome.{go, ◌>>=◌, need}
use Rattle.machine.specs.Set.{set_media, add_definition}
use Rattle.machine.specs.Turn.{Turn, str_of}
use Rattle.machine.specs.Media.{own_of, define}
use Rattle.machine.specs.Command.{◌▸◌, exec}
use Rattle.machine.specs.Words.{keep_definition, drop}
use Rattle.machine.proofs.Outcomes.{first_goes}
use Rattle.machine_bounded.specs.Within.{within}
use Rattle.machine_bounded.proofs.Bounds.{done, fits}
use Rattle.regions.specs.Regions.{region_at}
use Rattle.state_context.specs.declared.Context.{Context}
use Rattle.state_context.specs.Rel.{Ends}
use Rattle.state_media.specs.declared.Links.{Links}
use Rattle.state_media.specs.declared.Piece as Links
use Rattle.state_media.specs.declared.Span.{Span}
use Rattle.state_media.specs.Links.{Linked, Closes, span_is, label_of}
use Rattle.state_kept.specs.declared.Kept.{Kept}
use Rattle.state_kept.specs.Kept.{Piece, InTables}
use Rattle.state_kept.specs.Clauses.{KeepsDefinition}
use Rattle.state_kept.proofs.Labels.{label_is}
use Rattle.state_kept.proofs.Lists.{long-more, part_same}
use Rattle.state_whole.specs.declared.Whole.{Whole}
use Rattle.state_whole.specs.Whole.{Roomy, with_links, with_kept, with_context}
use Rattle.state_whole.proofs.Parts.{Alike, rel-alike, linked-same, keeps_same}
use Rattle.state_whole.proofs.Media.{cc-go, newest-there}
use Rattle.write_held.proofs.Steady.{quiet-steady, room_in, room_out}
use Rattle.on_link.proofs.Lifted.{lifts-ends}
use Rattle.on_definition.specs.Definitions.{Reads, OnDefinitions}
use Rattle.on_definition.specs.Private.{own_piece, text_piece, word_of, KeepsNewest, KeepsAt}
use Rattle.on_definition.proofs.Seeks.{newest-is}
use Rattle.on_definition.proofs.Pieces.{destination-piece, title-piece}

-- ---- the machine

abbrev with_definition : (label : List ℕ) → State.Media → List State.Media → State → State
with_definition label m ms s = add_definition (record { label = label; destination = own_of m.destination; title = m.title }) (set_media ms s)

record DefinedIs (t : Turn) (s u : State) : Type 0 where
  pub newest : State.Media
  pub others : List State.Media
  pub span : State.Span
  pub label : List ℕ
  pub media-is : s.media ≡ newest ∷ others
  pub span-is : newest.reference_id ≡ some span
  pub label-there : str_of t.text span ≡ go label
  pub then_is : with_definition label newest others s ≡ u

needed : {A : Type 0} (o : Option A) (a : A) → need o ≡ go a → o ≡ some a
needed none a p = let z : ◌≡◌ {A = ℕ} 0 1 = cc in absurd (omega arith)
needed (some b) a p = cc

defined-there : (t : Turn) (s u : State) → define t s ≡ go u → DefinedIs t s u
unfolding define
defined-there t s u p =
    let f = newest-there s u (λ (m, ms). need m.reference_id >>= λ q. str_of t.text q >>= λ label. go (with_definition label m ms s)) p in
    let g = first_goes (need f.0.reference_id) (λ q. str_of t.text q >>= λ label. go (with_definition label f.0 f.1 s)) u f.3 in
    let h = first_goes (str_of t.text g.0) (λ label. go (with_definition label f.0 f.1 s)) u g.2 in
    record { newest = f.0; others = f.1; span = g.0; label = h.0; media-is = f.2; span-is = needed f.0.reference_id g.0 g.1; label-there = h.1; then_is = cc-go {a = with_definition h.0 f.0 f.1 s} h.2 }

alike-definition : (label : List ℕ) (m : State.Media) (ms : List State.Media) (s : State) → Alike s (with_definition label m ms s)
alike-definition label m ms s = record { page = refl; captures = refl; flags = refl; rank = refl; seen = refl; fences = refl; marker = refl; first = refl; tight = refl; table = refl; fixed = refl }

-- ---- numbers, apart

fewer : (n m : ℕ) → m ≡ n + 1 → m ≤ 128 → n < 128
fewer n m p h = omega arith

at_least : {n m : ℕ} → n ≡ m → m ≤ n
at_least p = omega arith

before-kept : 0 + region_size ≤ kept_at
before-kept = omega arith

below-kept : region_size + region_size ≤ kept_at
below-kept = omega arith

-- ---- the code

unset : {X : Type 0} {l : CodeOption Span} {o : Option State.Span} {p : State.Span} → label_of l ≡ o → l ≡ None → o ≡ some p → X
unset k e q = let k' = rw e at k in let z : ◌≡◌ {A = ℕ} 0 1 = cc in absurd (omega arith)

span_same : {l : CodeOption Span} {o : Option State.Span} {q : State.Span} {p : Span} → label_of l ≡ o → l ≡ Some p → o ≡ some q → q ≡ span_is p
span_same k e i = let k' = rw e at k in (cc)

pub not-labelled : {b : Whole} {text work definitions : List ℕ} → b.links.media.reference_id ≡ None → KeepsNewest b text work definitions b work definitions
unfolding within exec
not-labelled e = record {
  keeps = λ w i j. record {
    handles = λ t s u v a y p.
        let h = defined-there t s u (done true (define t s) u p).went in
        unset (newest-is a y h.media-is).reference_id e h.span-is;
  };
}

pub keeps-at : {p : Span} {b : Whole} {text work definitions work' definitions' : List ℕ} {k : Kept} {l : Links}
    → KeepsDefinition b.kept text p.from.0 p.to.0 (region_size + min (own_piece b.links.media.destination).place region_size) (own_piece b.links.media.destination).length (region_size + min (text_piece b.links.media.title).place region_size) (word_of b.links.media.title) work definitions k work' definitions'
    → Closes b.links l → length work' ≡ length work → KeepsAt p b text work definitions (with_links l (with_kept k b)) work' definitions'
unfolding within exec
keeps-at {p} {b} {text} {work} {definitions} {work'} {definitions'} {k} {l} c closes n = record {
  keeps = λ e. record {
    keeps = λ w i j. record {
      handles = λ t s u v a y q.
          let g = done true (define t s) u q in
          let h = defined-there t s u g.went in
          let m = h.newest in
          let z = set_media h.others s in
          let new : State.Definition = record { label = h.label; destination = own_of m.destination; title = m.title } in
          let x = newest-is a y h.media-is in
          let f = h.then_is in
          let few = fewer (length s.kept.definitions) _ (long-more s.kept.definitions new) (fits (with_definition h.label m h.others s) (rw (← f) at g.fits)).definitions in
          let span = span_same x.reference_id e h.span-is in
          let is = label_is text (span_is p) h.label (ap (λ (a : List ℕ). str_of a (span_is p)) (sym v.text-is) ∙ ap (str_of t.text) (sym span) ∙ h.label-there) in
          let c' = rw (← i, ← j) at c in
          let kept : InTables b.kept text (region_at kept_at w.work) w.tables z = keeps_same refl refl y.kept in
          let st = c'.keeps new {s = z} (at_least y.long) kept is (destination-piece w.work b.links.end b.links.media.destination m.destination x.destination) (title-piece w.work b.links.end b.links.media.title m.title x.title) few in
          let e1 : take region_size work' ≡ take region_size w.work = part_same 0 region_size kept_at w.work work' before-kept st.before in
          let e2 : region_at held_at work' ≡ region_at held_at w.work = part_same region_size region_size kept_at w.work work' below-kept st.before in
          let links : Linked l (region_at held_at work') z = rw e2 (closes.closes (region_at held_at w.work) s m h.others h.media-is a y.links) in
          rw (← f) (record {
            long = n ∙ ap length (sym i) ∙ y.long;
            places = y.places;
            context = rel-alike (alike-definition h.label m h.others s) (rw e1 y.context);
            links = linked-same refl refl links;
            kept = st.keeps;
          });
    };
  };
}

pub keeps-labelled : {p : Span} {b r : Whole} {text work definitions work' definitions' : List ℕ} → b.links.media.reference_id ≡ Some p → KeepsAt p b text work definitions r work' definitions' → KeepsNewest b text work definitions r work' definitions'
keeps-labelled e k = k.keeps e

-- the capture goes first
pub dropped-first : {b r : Whole} {x : Context} {text work starts definitions work' definitions' : List ℕ} → Ends drop b.context starts x → KeepsNewest (with_context x b) text work definitions r work' definitions' → OnDefinitions Roomy (drop ▸ keep_definition) b text work starts definitions r work' definitions'
unfolding within
dropped-first {b} {x = x} {text = text} k l = record {
  on-definitions = λ w i j d. record {
    handles = λ t s u v a y p.
        let f = first_goes (within drop t s) (λ z. within keep_definition t z) u p in
        let y' = ((lifts-ends {View = Reads text} refl k).from-starts text w j).handles t s f.0 v a y f.1 in
        let h = (quiet-steady drop refl).held t s f.0 f.1 in
        let m = room_in a.held y in
        (l.keeps w i d).handles t f.0 u v (room_out y' (omega arith)) y' f.2;
  };
}

-- by what the code found of the pieces
pub keeps-pieces : {p : Span} {b : Whole} {text work definitions work' definitions' : List ℕ} {k : Kept} {l : Links} {d title : Links.Piece} {word place title_place : ℕ} → d ≡ own_piece b.links.media.destination → title ≡ text_piece b.links.media.title
    → word ≡ word_of b.links.media.title → place ≡ min d.place region_size → title_place ≡ min title.place region_size
    → KeepsDefinition b.kept text p.from.0 p.to.0 (region_size + place) d.length (region_size + title_place) word work definitions k work' definitions' → Closes b.links l → length work' ≡ length work
    → KeepsAt p b text work definitions (with_links l (with_kept k b)) work' definitions'
keeps-pieces e1 e2 e3 e4 e5 k c n = keeps-at (rw (e4, e5, e1, e2, e3) at k) c n
