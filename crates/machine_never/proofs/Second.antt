-- The second pass: every turn's values are right, and what is kept for it stays. Assumes nothing.
use Rattle.std.proofs.Common.{None}
use mathlib.Core.Path.{◌≡◌, refl, sym, ap, ◌∙◌}
use mathlib.Core.Bool.{true, false}
use mathlib.Core.List.{List, [], ◌∷◌, ◌++◌}
use mathlib.Core.Option.{none, some}
use Prim.Native.Nat.{ℕ, suc, ◌≤◌}
use native.Mathlib.Omega.{arith}
use lib.Dec.{eqb}
use borrow.Author.Tests.{eq-eqb}
use lib.ListN.{length}
use Rattle.lent.specs.Bytes.{listed}
use Rattle.event.specs.declared.Event.{Event}
use Rattle.event.specs.Event.{is_enter, events_of}
use Rattle.normalize_identifier.specs.Identity.{identity_of}
use Rattle.check_labels.specs.Labels.{label_of, identities}
use Rattle.check_nesting.specs.Grammar.{name_of, holds, rules}
use Rattle.check_nesting.specs.Nests.{Takes}
use Rattle.check_rules.specs.Elements.{Forest, nil, element, list_of, Pair, grandchild_of}
use Rattle.check_rules.specs.Rules.{Meets}
use Rattle.check_rules.proofs.Before.{clash}
use Rattle.machine.specs.declared.Options.{Options}
use Rattle.machine.specs.State.{State, Span, Footnote}
use Rattle.machine.specs.Turn.{Turn}
use Rattle.machine.specs.Media.{definition_labels}
use Rattle.machine.specs.Section.{footnote_labels}
use Rattle.machine.specs.Footnote.{call_index, count_at}
use Rattle.machine_shape.specs.Acts.{Ready}
use Rattle.machine_shape.specs.Kinds.{contract_of}
use Rattle.machine_shape.specs.Grown.{Kinds, Element, thin, thick}
use Rattle.machine_shape.specs.Pass.{placed, behind, turn_at}
use Rattle.machine_shape.specs.Right.{Sought, Notes, Calls}
use Rattle.machine_shape.proofs.Calm.{any_kind, any-items, paired}
use Rattle.machine_shape.proofs.Run.{RightAt, Took}
use Rattle.machine_shape.proofs.Forest.{Kept}
use Rattle.machine_never.specs.Values.{Ids, ids3, is_led, ids_in, Values, values, text_of}
use Rattle.machine_never.specs.Ghost.{ids_of, Prefix, or_that}
use Rattle.machine_never.specs.Here.{Here}
use Rattle.machine_never.specs.Known.{Has, Known}
use Rattle.machine_never.specs.Tally.{Tally}
use Rattle.machine_never.proofs.Here.{there}
use Rattle.machine_never.proofs.Static.{behind-some, looks-back}
use Rattle.machine_never.proofs.Labels.{known_over, other_none, enter-none}
use Rattle.machine_never.proofs.Known.{definition-no-65}
use Rattle.machine_never.proofs.Count.{exits, exits-forest}
use Rattle.machine_never.proofs.Readable.{ReadIds, ReadAll, name_below, ids-read}
use Rattle.machine_never.proofs.Tally.{tally-counted, tally-few, tally-more}
use Rattle.machine_never.proofs.Steady.{Steady, did, steady-turn, steady-over}
use Rattle.machine_never.proofs.Turns.{Answers, enter-right, leave-right}
use Rattle.machine_never.proofs.Ask.{kind-of, media-top, image-top, media-sought, call-top, call-listed}
use Rattle.machine_never.proofs.Pursued.{texts, Footed, footed-turn, tally-turn, defined-turn}

placed-more : (f : Forest) (p : ℕ) → p ≤ placed f p
placed-more nil p = omega arith
placed-more (element a f z g) p = let i = placed-more f (suc p) in let j = placed-more g (suc (placed f (suc p))) in omega arith

notes-long : (fs : List Footnote) → length (footnote_labels fs) ≡ length fs
notes-long [] = refl
notes-long (f ∷ fs) = ap suc (notes-long fs)

as-link : {ks : List ℕ} → Takes (holds 46) ks → Takes (holds 45) ks
unfolding holds rules
as-link w = w

module _ (text events : List ℕ) (meets : Meets text events) (few : length (identities 65 text (events_of events)) ≤ 64) where
  abbrev notable : List (List ℕ)
  notable = identities 65 text (events_of events)

  pub record Second (p : ℕ) (before es : List Event) (s : State) : Type 0 where
    pub steady : Steady text events meets p before es s
    pub finds : (id : List ℕ) → listed (identities 54 text (events_of events)) id ≡ true → Has id (definition_labels s.kept.definitions)
    pub footed : Footed text before es (values s)
    pub tally : Tally notable p s.kept.calls

  module _ (o : Options) (Q : State → Type 0) where
    -- a turn keeps it, where a call is of a footnote
    turn-kept : (p : ℕ) (before : List Event) (e : Event) (es : List Event) (s u : State) → eqb e.name 53 ≡ false
        → (is_enter e ≡ false → e.name ≡ 62 → (i : Ids) (is : List Ids) (q : Span) → ids_in s.media ≡ i ∷ is → i.label_id ≡ some q → listed notable (identity_of (text_of text q)) ≡ true)
        → Second p before (e ∷ es) s → Took text o Q p before e es s u → Second (suc p) (e ∷ before) es u
    turn-kept p before e es s u n k h w =
        let l = name_below text events meets p before e es h.steady.here in
        let d = did text events meets o p before e es s u h.steady.here w in
        let c : definition_labels u.kept.definitions ≡ definition_labels s.kept.definitions = ap (λ (v : Values). v.defined) d ∙ defined-turn text e (values s) l n in
        let y = tally-turn notable text p e (values s) l k h.tally in
        let z = footed-turn text before e es (values s) l h.footed in
        record {
          steady = steady-turn text events meets o p before e es s u h.steady.here h.steady w;
          finds = λ id i. rw c (h.finds id i);
          footed = rw d z;
          tally = rw (ap (λ (v : Values). v.calls) d) y;
        }

    -- ---- at the exit of an element

    module _ (p : ℕ) (before : List Event) (a : Event) (f : Forest) (z : Event) (es : List Event) (s : State) (h : Second (placed f (suc p)) (behind f (a ∷ before)) (z ∷ es) s) where
      abbrev P₂ : ℕ
      P₂ = placed f (suc p)

      abbrev Before₂ : List Event
      Before₂ = behind f (a ∷ before)

      abbrev turn : Turn
      turn = turn_at text o P₂ Before₂ z es

      here : Here (events_of events) P₂ Before₂ (z ∷ es)
      here = h.steady.here

      readable : ReadIds text (ids_of Before₂)
      readable = ids-read text events meets P₂ Before₂ (z ∷ es) here

      notes-right : z.name ≡ 63 → is_enter z ≡ false → Notes turn s
      notes-right n x q ps e =
          let r : ReadAll text (q ∷ ps) = rw e at h.steady.read in
          let m : exits 63 (z ∷ es) ≡ suc (exits 63 es) = rw (x, n) refl in
          ((text_of text q, r.0), omega (arith, h.footed.room, notes-long s.kept.footnotes))

      module _ (r : Pair a z) {ks : List ℕ} (c : Kinds ks f) where
        link-right : a.name ≡ 45 → Takes (holds 45) ks → Sought turn s
        link-right n w = media-sought text events meets P₂ before a f z es here r c turn s refl (rw n refl) (media-top text events meets P₂ before a f z es here r c n w) h.steady.ids readable h.finds

        image-right : a.name ≡ 46 → Takes (holds 46) ks → Sought turn s
        image-right n w = media-sought text events meets P₂ before a f z es here r c turn s refl (rw n refl) (image-top text events meets P₂ before a f z es here r c n (as-link w)) h.steady.ids readable h.finds

        called : a.name ≡ 62 → Takes (holds 62) ks → (i : Ids) (is : List Ids) (q : Span) → ids_in s.media ≡ i ∷ is → i.label_id ≡ some q → listed notable (identity_of (text_of text q)) ≡ true
        called n w i is q e l =
            let t = call-top text events meets P₂ before a f z es here r c n w in
            let k : Prefix (i ∷ is) (ids3 (or_that (grandchild_of 48 f) none) none false ∷ ids_of before) = rw (e, t) at h.steady.ids in
            let j : or_that (grandchild_of 48 f) none ≡ some q = sym (ap (λ (x : Ids). x.label_id) k.0) ∙ l in
            call-listed text events meets P₂ before a f z es here r c n w q j

        calls-right : a.name ≡ 62 → Takes (holds 62) ks → Calls turn s
        calls-right n w m ms q e l =
            let i : ids_in s.media ≡ ids3 m.label_id m.reference_id (is_led m.destination) ∷ ids_in ms = rw e refl in
            let y = called n w (ids3 m.label_id m.reference_id (is_led m.destination)) (ids_in ms) q i l in
            let t = call-top text events meets P₂ before a f z es here r c n w in
            let g : ReadIds text (ids3 (or_that (grandchild_of 48 f) none) none false ∷ ids_of before) = rw t at readable in
            let k : Prefix (ids_in (m ∷ ms)) (ids3 (or_that (grandchild_of 48 f) none) none false ∷ ids_of before) = rw (e, t) at h.steady.ids in
            let j : or_that (grandchild_of 48 f) none ≡ some q = sym (ap (λ (x : Ids). x.label_id) k.0) ∙ l in
            let b = there text events meets P₂ Before₂ z es here in
            let v = tally-few notable (suc P₂) (count_at (call_index (text_of text q) s.kept.calls) (text_of text q) s.kept.calls) few (omega (arith, b, meets.sizes.most)) (tally-counted notable P₂ (text_of text q) s.kept.calls y h.tally) in
            (text_of text q, g.0 q j, record { calls = v.0; times = v.1 })

      not-thin : {X : Type 0} (n : ℕ) → a.name ≤ 4 → z.name ≡ a.name → z.name ≡ n → 5 ≤ n → X
      not-thin n m e i l = absurd (omega arith)

      answers : Element any_kind a f z → eqb a.name 53 ≡ false → Answers turn s
      answers (thin {ks} m r c) n =
          record {
            looks = λ i. not-thin 23 m r.2 i (omega arith);
            follows = behind-some f a before;
            link = λ i. not-thin 45 m r.2 i (omega arith);
            image = λ i. not-thin 46 m r.2 i (omega arith);
            defines = λ i. not-thin 53 m r.2 i (omega arith);
            calls = λ i. not-thin 62 m r.2 i (omega arith);
            notes = λ i. not-thin 63 m r.2 i (omega arith);
          }
      answers (thick j {ks} k e l r w c) n =
          record {
            looks = λ i. looks-back f a before (paired c) r.0;
            follows = behind-some f a before;
            link = λ i. let b : name_of j ≡ 45 = sym e ∙ sym r.2 ∙ i in let q = kind-of j 45 b refl in let w₂ : Takes (holds 45) ks = rw q at w in link-right r c (e ∙ b) w₂;
            image = λ i. let b : name_of j ≡ 46 = sym e ∙ sym r.2 ∙ i in let q = kind-of j 46 b refl in let w₂ : Takes (holds 46) ks = rw q at w in image-right r c (e ∙ b) w₂;
            defines = λ i. clash (eq-eqb a.name 53 (sym r.2 ∙ i)) n;
            calls = λ i. let b : name_of j ≡ 62 = sym e ∙ sym r.2 ∙ i in let q = kind-of j 62 b refl in let w₂ : Takes (holds 62) ks = rw q at w in calls-right r c (e ∙ b) w₂;
            notes = λ i. notes-right i r.1;
          }

      pub leaves-right : Element any_kind a f z → eqb a.name 53 ≡ false → RightAt text o Q P₂ Before₂ z es s
      leaves-right x n = leave-right text events meets o P₂ Before₂ z es s h.steady (exit-of x) (answers x n)
        where
          exit-of : Element any_kind a f z → is_enter z ≡ false
          exit-of (thin m r c) = r.1
          exit-of (thick j k e l r w c) = r.1

      pub left-kept : (u : State) → Element any_kind a f z → eqb a.name 53 ≡ false → Took text o Q P₂ Before₂ z es s u → Second (suc P₂) (z ∷ Before₂) es u
      left-kept u (thin m r c) n t = turn-kept P₂ Before₂ z es s u (rw r.2 n) (λ x i. not-thin 62 m r.2 i (omega arith)) h t
      left-kept u (thick j {ks} k e l r w c) n t =
          turn-kept P₂ Before₂ z es s u (rw r.2 n)
          (λ x i. let b : name_of j ≡ 62 = sym e ∙ sym r.2 ∙ i in let q = kind-of j 62 b refl in let w₂ : Takes (holds 62) ks = rw q at w in called r c (e ∙ b) w₂) h t

    -- ---- over a definition

    over-kept : (p : ℕ) (before : List Event) (a : Event) (f : Forest) (z : Event) (es : List Event) (s : State) {ks : List ℕ} → a.name ≡ 53 → Pair a z → Takes (holds 53) ks → Kinds ks f → Ready (contract_of 53) s
        → Second p before (a ∷ list_of f (z ∷ es)) s → Second (suc (placed f (suc p))) (z ∷ behind f (a ∷ before)) es s
    over-kept p before a f z es s n r w c b h =
        let za : label_of 65 z ≡ None = other_none 65 z (rw (r.2, n) refl) in
        let ka : Known text 65 (a ∷ before) ((values s).noted ++ texts text (values s).labels) = (rw (enter-none 65 a r.0) tt, h.footed.known) in
        let e₁ : exits 63 (a ∷ list_of f (z ∷ es)) ≡ exits 63 (list_of f (z ∷ es)) = rw r.0 refl in
        let e₂ = exits-forest 63 f (z ∷ es) (paired c) in
        let e₃ : exits 63 (z ∷ es) ≡ exits 63 es = rw (r.1, r.2, n) refl in
        let m = placed-more f (suc p) in
        record {
          steady = steady-over text events meets p before a f z es s n r c b h.steady;
          finds = h.finds;
          footed = record { known = (rw za tt, known_over text 65 f (a ∷ before) ((values s).noted ++ texts text (values s).labels) (paired c) (definition-no-65 text ((values s).noted ++ texts text (values s).labels) w c) ka); room = omega (arith, h.footed.room) };
          tally = tally-more notable p (suc (placed f (suc p))) s.kept.calls (omega arith) h.tally;
        }

    pub second-kept : Kept text o Q false any_kind Second
    second-kept =
        record {
          closed = λ k l t. any-items (holds k);
          enters = λ p before e es s x h. enter-right text events meets o p before e es s h.steady x;
          entered = λ p before e es s u x n h t. turn-kept p before e es s u n (λ y. clash x y) h t;
          leaves = λ p before a f z es s x n h. leaves-right p before a f z es s h x n;
          left = λ p before a f z es s u x n h t. left-kept p before a f z es s h u x n t;
          over = λ p before a f z es s d n r w c b h. over-kept p before a f z es s n r w c b h;
        }
