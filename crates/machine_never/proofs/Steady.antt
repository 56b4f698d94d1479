-- What every turn keeps: the place, the slices of open media and footnotes, the marker, UTF-8. Assumes nothing.
use mathlib.Core.Path.{◌≡◌, refl, sym, ap, ◌∙◌}
use mathlib.Core.Bool.{Bool, true, false, ◌&&◌}
use mathlib.Core.List.{List, ◌∷◌}
use mathlib.Core.Option.{some}
use Prim.Native.Nat.{ℕ, suc, ◌+◌}
use native.Mathlib.Numerals.{add-one}
use lib.Dec.{T, eqb}
use borrow.Author.Tests.{eqb-true}
use Rattle.event.specs.declared.Event.{Event}
use Rattle.event.specs.Event.{is_enter, event_at, events_of}
use Rattle.character_reference.specs.declared.Marker.{Marker}
use Rattle.character_reference.specs.declared.Marker.TheVariants.{Named, Decimal, Hexadecimal}
use Rattle.check_rules.specs.Elements.{Forest, list_of, Pair}
use Rattle.check_rules.specs.Rules.{Meets, Exits, Marks, is_marker}
use Rattle.check_rules.proofs.Before.{marks_stay, marks-named, marks-decimal, marks-hexadecimal}
use Rattle.machine.specs.declared.Options.{Options}
use Rattle.machine.specs.Outcome.{go}
use Rattle.machine.specs.State.{State}
use Rattle.machine.specs.Turn.{Turn}
use Rattle.machine.specs.Command.{Command}
use Rattle.machine.specs.Handlers.{command_in, command_of}
use Rattle.machine_bounded.specs.Within.{within}
use Rattle.machine_clean.proofs.Within.{within-exec}
use Rattle.machine_clean.specs.Clean.{Clean}
use Rattle.machine_clean.proofs.Commands.{keeps}
use Rattle.machine_clean.proofs.Handlers.{command-ours}
use Rattle.machine_shape.specs.Acts.{Ready}
use Rattle.machine_shape.specs.Kinds.{contract_of, row_of}
use Rattle.machine_shape.specs.Grown.{Kinds}
use Rattle.machine_shape.specs.Pass.{placed, behind, turn_at}
use Rattle.machine_shape.proofs.Says.{both}
use Rattle.machine_shape.proofs.Test.{computed}
use Rattle.machine_shape.proofs.Passes.{Between}
use Rattle.machine_never.specs.Values.{ids_in, Values, values, Effect, do_to, effects_of, tracks}
use Rattle.machine_never.specs.Ghost.{effects_at, ids_run, ids_of, Prefix, all_effects}
use Rattle.machine_never.specs.Here.{Here}
use Rattle.machine_never.proofs.Tracked.{tracked}
use Rattle.machine_never.proofs.Ids.{ids-run, prefix-run, ids-behind}
use Rattle.machine_never.proofs.Inert.{exit_effects, all-track, enter-effects, exit-effects, definition-same}
use Rattle.machine_never.proofs.Here.{here-next, here-over, is_at}
use Rattle.machine_never.proofs.Names.{unmarked, enters, leaves}
use Rattle.machine_never.proofs.Readable.{ReadAll, labels_run, labels-run, name_below, spans-there}
use Rattle.machine_never.proofs.Marked.{between-media, labels-of, marker-kept, marks-10, marks-8, marks-9, no-marker, ready-unmarked}
use Rattle.check_nesting.specs.Grammar.{name_count}

-- ---- what is kept

module _ (text events : List ℕ) (meets : Meets text events) where
  pub record Steady (p : ℕ) (before es : List Event) (s : State) : Type 0 where
    pub here : Here (events_of events) p before es
    pub ids : Prefix (ids_in s.media) (ids_of before)
    pub marker : (m : Marker) → s.waiting.marker ≡ some m → Marks events p m
    pub read : ReadAll text s.labels
    pub clean : Clean s

  module _ (o : Options) (p : ℕ) (before : List Event) (e : Event) (es : List Event) (s u : State) (h : Here (events_of events) p before (e ∷ es)) where
    abbrev t : Turn
    t = turn_at text o p before e es

    command-is : command_of t ≡ command_in (is_enter e) (row_of e.name)
    unfolding command_of
    command-is = refl

    tracks-it : T (tracks (command_of t))
    unfolding command_of
    tracks-it =
        let q = both (tracks (row_of e.name).enter) (tracks (row_of e.name).exit) (computed (λ n. tracks (row_of n).enter && tracks (row_of n).exit) name_count all-track e.name (name_below text events meets p before e es h)) in
        at (is_enter e) q.0 q.1
      where
        at : (x : Bool) → T (tracks (row_of e.name).enter) → T (tracks (row_of e.name).exit) → T (tracks (command_in x (row_of e.name)))
        at true a b = a
        at false a b = b

    -- a turn does to the values what its event's effects say
    pub did : within (command_of t) t s ≡ go u → values u ≡ do_to text e (effects_at e) (values s)
    did w = tracked (command_of t) t s u tracks-it (within-exec (command_of t) t s u w) ∙ ap (λ (c : Command). do_to text e (effects_of c) (values s)) command-is

    -- the marker is that of the newest marker event
    newest : (v : Values) → ((m : Marker) → v.marker ≡ some m → Marks events p m) → (m : Marker) → (do_to text e (effects_at e) v).marker ≡ some m → Marks events (suc p) m
    newest v k m q = at (is_enter e) refl
      where
        is : event_at events p ≡ e
        is = is_at text events meets p before e es h

        stays : is_marker e ≡ false → T (all_effects unmarked (effects_at e)) → Marks events (suc p) m
        stays i j = rw (sym (add-one p)) (marks_stay events p m (rw is i) (k m (marker-kept text e (effects_at e) v m j q)))

        by : (n : ℕ) (w : Marker) → e.name ≡ n → is_enter e ≡ false → (Exits n (event_at events p) → Marks events (p + 1) w) → ((v : Values) → (do_to text e (exit_effects n) v).marker ≡ some w) → Marks events (suc p) m
        by n w i x f g =
            let c : some w ≡ some m = sym (g v) ∙ ap (λ (l : List Effect). (do_to text e l v).marker) (sym (exit-effects e n x i)) ∙ q in
            let d : w ≡ m = cc in
            rw (sym (add-one p), sym d) (f (rw is (x, i)))

        exits : (a b c : Bool) → eqb e.name 8 ≡ a → eqb e.name 9 ≡ b → eqb e.name 10 ≡ c → is_enter e ≡ false → Marks events (suc p) m
        exits true b c ea eb ec x = by 8 Named (eqb-true e.name 8 ea) x (marks-named events p) (marks-8 text e)
        exits false true c ea eb ec x = by 9 Decimal (eqb-true e.name 9 eb) x (marks-decimal events p) (marks-9 text e)
        exits false false true ea eb ec x = by 10 Hexadecimal (eqb-true e.name 10 ec) x (marks-hexadecimal events p) (marks-10 text e)
        exits false false false ea eb ec x =
            stays (rw (x, ea, eb, ec) refl) (rw (exit-effects e e.name x refl) ((leaves e.name (name_below text events meets p before e es h)).marked (rw (ea, eb, ec) refl)))

        at : (x : Bool) → is_enter e ≡ x → Marks events (suc p) m
        at true x = stays (rw x refl) (rw (enter-effects e e.name x refl) (enters e.name (name_below text events meets p before e es h)).marked)
        at false x = exits (eqb e.name 8) (eqb e.name 9) (eqb e.name 10) refl refl refl x

    pub steady-turn : Steady p before (e ∷ es) s → within (command_of t) t s ≡ go u → Steady (suc p) (e ∷ before) es u
    unfolding ids_of
    steady-turn k w =
        let d = did w in
        let i : ids_in u.media ≡ ids_run e (effects_at e) (ids_in s.media) = ap (λ (v : Values). v.ids) d ∙ ids-run text e (effects_at e) (values s) in
        let l : u.labels ≡ labels_run e (effects_at e) s.labels = ap (λ (v : Values). v.labels) d ∙ labels-of text e (effects_at e) (values s) in
        record {
          here = here-next p before e es h;
          ids = rw i (prefix-run e (effects_at e) (ids_in s.media) (ids_of before) k.ids);
          marker = λ m q. newest (values s) k.marker m (sym (ap (λ (v : Values). v.marker) d) ∙ q);
          read = rw l (labels-run text e (effects_at e) s.labels (spans-there text events meets p before e es h) k.read);
          clean = keeps (command_of t) (command-ours t) t s u k.clean (within-exec (command_of t) t s u w);
        }

  -- outside of definitions in the first pass
  pub steady-skip : (p : ℕ) (before : List Event) (e : Event) (es : List Event) (s : State) → Between s → Steady p before (e ∷ es) s → Steady (suc p) (e ∷ before) es s
  steady-skip p before e es s b k =
      record {
        here = here-next p before e es k.here;
        ids = rw (between-media s b) tt;
        marker = λ m q. no-marker s.waiting.marker m (ready-unmarked s b.ready_for) q;
        read = k.read;
        clean = k.clean;
      }

  -- over a definition in the second
  pub steady-over : (p : ℕ) (before : List Event) (a : Event) (f : Forest) (z : Event) (es : List Event) (s : State) {ks : List ℕ} → a.name ≡ 53 → Pair a z → Kinds ks f → Ready (contract_of 53) s
      → Steady p before (a ∷ list_of f (z ∷ es)) s → Steady (suc (placed f (suc p))) (z ∷ behind f (a ∷ before)) es s
  unfolding ids_of
  steady-over p before a f z es s n r c b k =
      let i : ids_of (z ∷ behind f (a ∷ before)) ≡ ids_of before = ap (ids_run z (effects_at z)) (ids-behind f (a ∷ before)) ∙ definition-same a z f n r c (ids_of before) in
      record {
        here = here-next (placed f (suc p)) (behind f (a ∷ before)) z es (here-over f (suc p) (a ∷ before) (z ∷ es) (here-next p before a (list_of f (z ∷ es)) k.here));
        ids = rw i k.ids;
        marker = λ m q. no-marker s.waiting.marker m (ready-unmarked s b) q;
        read = k.read;
        clean = k.clean;
      }
