-- The first pass outside of definitions, and over each of them. Assumes nothing.
use Rattle.std.specs.Prelude.{if◌then◌else◌}
use mathlib.Core.Path.{◌≡◌, refl, sym, ap, ◌∙◌}
use mathlib.Core.Bool.{Bool, true, false}
use mathlib.Core.Logic.{inl}
use mathlib.Core.List.{List, [], ◌∷◌, ◌++◌}
use mathlib.Core.Option.{some}
use Prim.Native.Nat.{ℕ, suc, ◌≤◌}
use native.Mathlib.Omega.{arith}
use lib.Dec.{eqb}
use borrow.Author.Tests.{eq-eqb}
use lib.ListN.{length, length-append}
use Rattle.event.specs.declared.Event.{Event}
use Rattle.event.specs.Event.{is_enter, events_of}
use Rattle.normalize_identifier.specs.Identity.{identity_of}
use Rattle.check_labels.specs.Labels.{identities}
use Rattle.check_nesting.specs.Grammar.{holds}
use Rattle.check_nesting.specs.Nests.{Takes}
use Rattle.check_rules.specs.Elements.{Forest, Pair}
use Rattle.check_rules.specs.Rules.{Meets}
use Rattle.check_rules.proofs.Before.{clash}
use Rattle.machine.specs.declared.Options.{Options}
use Rattle.machine.specs.Outcome.{go}
use Rattle.machine.specs.State.{State, Span, Definition}
use Rattle.machine.specs.Turn.{Turn, span_of}
use Rattle.machine.specs.Media.{definition_labels}
use Rattle.machine.specs.Command.{exec}
use Rattle.machine.specs.Handlers.{rows, command_of}
use Rattle.machine.specs.OnDefinition.{on_enter_definition, on_exit_definition}
use Rattle.machine_clean.proofs.Within.{within-exec}
use Rattle.machine_shape.specs.Kinds.{row_of}
use Rattle.machine_shape.specs.Grown.{Kinds}
use Rattle.machine_shape.specs.Pass.{placed, behind, turn_at}
use Rattle.machine_shape.specs.Right.{Defines}
use Rattle.machine_shape.proofs.Calm.{paired}
use Rattle.machine_shape.proofs.Run.{RightAt, Took, exit-command}
use Rattle.machine_shape.proofs.Passes.{First, Rests}
use Rattle.machine_never.specs.Values as Val
use Rattle.machine_never.specs.Values.{Ids, ids3, is_led, ids_in, Values, values, add_referred, do_to, text_of, effects_of}
use Rattle.machine_never.specs.Ghost.{ids_of, Prefix}
use Rattle.machine_never.specs.Known.{Has, Known}
use Rattle.machine_never.proofs.Inert.{enter_effects, exit_effects, enter-effects, exit-effects}
use Rattle.machine_never.proofs.Sought.{definition-ids}
use Rattle.machine_never.proofs.Static.{behind-some}
use Rattle.machine_never.proofs.Labels.{has_left, has_right, known_more, known_over, other_none, enter-none}
use Rattle.machine_never.proofs.Known.{definition-known}
use Rattle.machine_never.proofs.Count.{exits}
use Rattle.machine_never.proofs.Names.{enters}
use Rattle.machine_never.proofs.Readable.{Reads, ReadIds, name_below, ids-read}
use Rattle.machine_never.proofs.Steady.{did, steady-turn, steady-skip}
use Rattle.machine_never.proofs.Turns.{enter-right, leave-right}
use Rattle.machine_never.proofs.Ask.{opened}
use Rattle.machine_never.proofs.Definitions.{media-there, Outside, Inside, inside-turn, inside-kept}
use Rattle.machine_never.proofs.Second.{Second}

definitions-long : (ds : List Definition) → length (definition_labels ds) ≡ length ds
definitions-long [] = refl
definitions-long (d ∷ ds) = ap suc (definitions-long ds)

other-exits : (n : ℕ) (e : Event) (es : List Event) → eqb e.name n ≡ false → exits n (e ∷ es) ≡ exits n es
other-exits n e es h = at (is_enter e)
  where
    at : (x : Bool) → (if x then exits n es else (if eqb e.name n then suc (exits n es) else exits n es)) ≡ exits n es
    at true = refl
    at false = rw h refl

prefix-reads : (text : List ℕ) (i : Ids) (is js : List Ids) → Prefix (i ∷ is) js → ReadIds text js → (q : Span) → i.reference_id ≡ some q → Reads text q
prefix-reads text i is [] p r q e = absurd p
prefix-reads text i is (j ∷ js) p r q e = r.1 q (sym (ap (λ (x : Ids). x.reference_id) p.0) ∙ e)

-- what the exit of a definition does
defines-53 : (text : List ℕ) (e : Event) (v : Values) → do_to text e (exit_effects 53) v ≡ record { ids = Val.ids_step e Val.defines v.ids; labels = v.labels; marker = v.marker; defined = add_referred text v.ids v.defined; noted = v.noted; calls = v.calls }
unfolding effects_of rows on_exit_definition
defines-53 text e v = refl

pushes-53 : enter_effects 53 ≡ Val.pushes ∷ []
unfolding effects_of rows on_enter_definition
pushes-53 = refl

module _ (text events : List ℕ) (meets : Meets text events) (few : length (identities 65 text (events_of events)) ≤ 64) (o : Options) where
  abbrev Out : ℕ → List Event → List Event → State → Type 0
  Out = Outside text events meets

  abbrev In : ℕ → List Event → State → ℕ → List Event → List Event → State → Type 0
  In = Inside text events meets

  abbrev Inv : ℕ → List Event → List Event → State → Type 0
  Inv = Second text events meets few

  abbrev pub Rest : State → Type 0
  Rest v = Rests text o Out Inv In v

  -- ---- the exit of a definition

  module _ (p : ℕ) (before : List Event) (a : Event) (f : Forest) (z : Event) (es : List Event) (s v : State) {ks : List ℕ} (n : a.name ≡ 53) (r : Pair a z) (w : Takes (holds 53) ks) (c : Kinds ks f) (h : In p before s (placed f (suc p)) (behind f (a ∷ before)) (z ∷ es) v) where
    abbrev P₂ : ℕ
    P₂ = placed f (suc p)

    abbrev Before₂ : List Event
    Before₂ = behind f (a ∷ before)

    abbrev turn : Turn
    turn = turn_at text o P₂ Before₂ z es

    z53 : z.name ≡ 53
    z53 = r.2 ∙ n

    one_less : exits 53 (z ∷ es) ≡ suc (exits 53 es)
    one_less = rw (r.1, z53) refl

    defines-right : Defines turn v
    defines-right m ms q e i =
        let k : Prefix (ids_in (m ∷ ms)) (ids_of Before₂) = rw e at h.steady.ids in
        let y = prefix-reads text (ids3 m.label_id m.reference_id (is_led m.destination)) (ids_in ms) (ids_of Before₂) k (ids-read text events meets P₂ Before₂ (z ∷ es) h.steady.here) q i in
        ((text_of text q, y), omega (arith, h.defined.room, one_less, definitions-long v.kept.definitions))

    not-53 : {X : Type 0} (k : ℕ) → z.name ≡ k → eqb 53 k ≡ false → X
    not-53 k e x = clash (eq-eqb 53 k (sym z53 ∙ e)) x

    leaves-right : RightAt text o Rest P₂ Before₂ z es v
    leaves-right =
        leave-right text events meets o P₂ Before₂ z es v h.steady r.1
        (record { looks = λ i. not-53 23 i refl; follows = behind-some f a before; link = λ i. not-53 45 i refl; image = λ i. not-53 46 i refl; defines = λ i. defines-right; calls = λ i. not-53 62 i refl; notes = λ i. not-53 63 i refl })

    -- its label is kept
    label_kept : (x : State) → Took text o Rest P₂ Before₂ z es v x → Out (suc P₂) (z ∷ Before₂) es x
    label_kept x t =
        let d = did text events meets o P₂ Before₂ z es v x h.steady.here t ∙ ap (λ (l : List Val.Effect). do_to text z l (values v)) (exit-effects z 53 r.1 z53) ∙ defines-53 text z (values v) in
        let ec = exit-command text o Rest P₂ Before₂ z es r.1 ∙ ap (λ (k : ℕ). (row_of k).exit) z53 in
        let ex : exec (row_of 53).exit turn v ≡ go x = rw ec at (within-exec (command_of turn) turn v x t) in
        let m = media-there turn v x ex in
        let g = definition-ids f c w (ids_of before) in
        let top : ids_of Before₂ ≡ g.0 ∷ ids_of before = opened text events meets P₂ before a f z es h.steady.here r c 53 n pushes-53 ∙ g.3 in
        let k : Prefix (ids_in (m.0 ∷ m.1)) (g.0 ∷ ids_of before) = rw (m.2, top) at h.steady.ids in
        let rf : m.0.reference_id ≡ some (span_of g.1.exit) = ap (λ (y : Ids). y.reference_id) k.0 ∙ g.4 in
        let ad : add_referred text (ids_in v.media) (values v).defined ≡ (values v).defined ++ (text_of text (span_of g.1.exit) ∷ []) = rw (m.2, rf) refl in
        let df : (values x).defined ≡ (values v).defined ++ (text_of text (span_of g.1.exit) ∷ []) = ap (λ (y : Values). y.defined) d ∙ ad in
        let ls = (values v).defined ++ (text_of text (span_of g.1.exit) ∷ []) in
        let hs : Has (identity_of (text_of text (span_of g.1.exit))) ls = has_right (values v).defined (text_of text (span_of g.1.exit) ∷ []) (identity_of (text_of text (span_of g.1.exit))) (inl refl) in
        let kb : Known text 54 (a ∷ before) ls = (rw (enter-none 54 a r.0) tt, known_more text 54 before (values v).defined ls (has_left (values v).defined (text_of text (span_of g.1.exit) ∷ [])) h.defined.known) in
        let kf = known_over text 54 f (a ∷ before) ls (paired c) (definition-known text f g.1 g.2 g.7 ls (paired c) g.5 g.6 g.8 g.9 hs) kb in
        let kz : Known text 54 (z ∷ Before₂) ls = (rw (other_none 54 z (rw z53 refl)) tt, kf) in
        record {
          steady = steady-turn text events meets o P₂ Before₂ z es v x h.steady.here h.steady t;
          defined = record {
            known = rw df kz;
            room = rw df (simp length-append (omega (arith, h.defined.room, one_less)));
            unnoted = ap (λ (y : Values). y.noted) d ∙ h.defined.unnoted;
            uncalled = ap (λ (y : Values). y.calls) d ∙ h.defined.uncalled;
          };
        }

  pub first-kept : First text o Out Inv In
  first-kept =
      record {
        skips = λ p before e es s n m b h. record {
          steady = steady-skip text events meets p before e es s b h.steady;
          defined = record { known = (rw (other_none 54 e m) tt, h.defined.known); room = omega (arith, h.defined.room, other-exits 53 e es n); unnoted = h.defined.unnoted; uncalled = h.defined.uncalled };
        };
        enters = λ p before e es s x h. enter-right text events meets o p before e es s h.steady x;
        entered = λ p before e es s u x n b h t.
            let l = enters e.name (name_below text events meets p before e es h.steady.here) in
            record {
              steady = steady-turn text events meets o p before e es s u h.steady.here h.steady t;
              defined = inside-turn text events meets o Rest before p before e es s u h.steady.here (rw (enter-effects e e.name x refl) l.defines-not) (rw (enter-effects e e.name x refl) l.notes-not) (rw (enter-effects e e.name x refl) l.calls-not) t h.defined;
            };
        inside = λ p before s. inside-kept text events meets o Rest p before s;
        leaves = λ p before a f z es s v n r w c h. leaves-right p before a f z es s v n r w c h;
        left = λ p before a f z es s v x n r w c b h t. label_kept p before a f z es s v n r w c h x t;
      }
