-- What the second pass keeps beside: definitions that are sought, footnotes that are called. Assumes nothing.
use Rattle.std.proofs.Common.{Some, None}
use mathlib.Core.Path.{◌≡◌, refl}
use mathlib.Core.Bool.{true, false}
use mathlib.Core.Logic.{◌⊎◌, inl, inr}
use mathlib.Core.List.{List, [], ◌∷◌, ◌++◌, append_assoc}
use mathlib.Core.Option.{Option, none, some}
use Prim.Native.Nat.{ℕ, suc, ◌+◌, ◌≤◌, ◌<◌}
use native.Mathlib.Omega.{arith}
use lib.Dec.{T, eqb}
use borrow.Author.Tests.{eqb-true}
use lib.ListN.{length, length-append}
use Rattle.lent.specs.Bytes.{listed}
use Rattle.event.specs.declared.Event.{Event}
use Rattle.event.specs.Event.{is_enter}
use Rattle.normalize_identifier.specs.Identity.{identity_of}
use Rattle.check_labels.specs.Labels.{Part, label_of}
use Rattle.machine.specs.State.{Span}
use Rattle.machine.specs.Turn.{span_of}
use Rattle.machine.specs.Handlers.{rows}
use Rattle.machine.specs.Footnote.{call_index, count_at}
use Rattle.machine.specs.OnFootnote.{on_exit_gfm_footnote_call, on_exit_gfm_footnote_definition, on_exit_gfm_footnote_definition_label_string}
use Rattle.machine_shape.proofs.Run.{decide}
use Rattle.machine_never.specs.Values.{Ids, Values, notes, add_call, do_to, text_of, effects_of}
use Rattle.machine_never.specs.Ghost.{effects_at, all_effects}
use Rattle.machine_never.specs.Known.{Has, HasPart, Known}
use Rattle.machine_never.specs.Tally.{Tally}
use Rattle.machine_never.proofs.Inert.{exit_effects, enter-effects, exit-effects}
use Rattle.machine_never.proofs.Labels.{Sub, has_right, known_more, other_none, own-part, enter-none}
use Rattle.machine_never.proofs.Count.{exits}
use Rattle.machine_never.proofs.Names.{unnoting, uncalling, enters, leaves}
use Rattle.machine_never.proofs.Tally.{tally-counted, tally-more}
use Rattle.machine_never.proofs.Left.{calls-kept, defined-kept, labels-kept, noted-kept}
use Rattle.check_nesting.specs.Grammar.{name_count}

-- ---- footnotes: each label of one is kept, or waits for its end

abbrev pub texts : List ℕ → List Span → List (List ℕ)
texts text [] = []
texts text (p ∷ ps) = text_of text p ∷ texts text ps

pub record Footed (text : List ℕ) (before es : List Event) (v : Values) : Type 0 where
  pub known : Known text 65 before (v.noted ++ texts text v.labels)
  pub room : length v.noted + exits 63 es ≤ 64

more-in : (x : List ℕ) (ls ms : List (List ℕ)) → Sub (ls ++ ms) (ls ++ (x ∷ ms))
more-in x [] ms id h = inr h
more-in x (l ∷ ls) ms id (inl e) = inl e
more-in x (l ∷ ls) ms id (inr h) = inr (more-in x ls ms id h)

new_in : (x : List ℕ) (ls ms : List (List ℕ)) → Has (identity_of x) (ls ++ (x ∷ ms))
new_in x ls ms = has_right ls (x ∷ ms) (identity_of x) (inl refl)

module _ (text : List ℕ) (before : List Event) (e : Event) (es : List Event) (v : Values) where
  -- where nothing is done to them
  same-footed : label_of 65 e ≡ None → exits 63 (e ∷ es) ≡ exits 63 es → T (all_effects unnoting (effects_at e)) → Footed text before (e ∷ es) v → Footed text (e ∷ before) es (do_to text e (effects_at e) v)
  same-footed n x t h =
      record {
        known = (rw n tt, rw (noted-kept text e (effects_at e) v t, labels-kept text e (effects_at e) v t) h.known);
        room = rw (noted-kept text e (effects_at e) v t) (omega (arith, h.room));
      }

  -- a label
  label-footed : e.name ≡ 65 → is_enter e ≡ false → Footed text before (e ∷ es) v → Footed text (e ∷ before) es (do_to text e (exit_effects 65) v)
  unfolding effects_of rows on_exit_gfm_footnote_definition_label_string
  label-footed n x h =
      let y : exits 63 (e ∷ es) ≡ exits 63 es = rw (x, n) refl in
      record {
        known = (part (label_of 65 e) (own-part 65 e), known_more text 65 before (v.noted ++ texts text v.labels) (v.noted ++ (text_of text (span_of e) ∷ texts text v.labels)) (more-in (text_of text (span_of e)) v.noted (texts text v.labels)) h.known);
        room = omega (arith, h.room);
      }
    where
      part : (y : Part) → (y ≡ None) ⊎ (y ≡ Some (e.from.0, e.to.0)) → HasPart text y (v.noted ++ (text_of text (span_of e) ∷ texts text v.labels))
      part y (inl q) = rw q tt
      part y (inr q) = rw q (new_in (text_of text (span_of e)) v.noted (texts text v.labels))

  -- a body
  body-footed : e.name ≡ 63 → is_enter e ≡ false → Footed text before (e ∷ es) v → Footed text (e ∷ before) es (do_to text e (exit_effects 63) v)
  unfolding effects_of rows on_exit_gfm_footnote_definition
  body-footed n x h =
      let y : exits 63 (e ∷ es) ≡ suc (exits 63 es) = rw (x, n) refl in
      let z : label_of 65 e ≡ None = other_none 65 e (rw n refl) in
      at v.labels refl y z
    where
      at : (ps : List Span) → v.labels ≡ ps → exits 63 (e ∷ es) ≡ suc (exits 63 es) → label_of 65 e ≡ None → Footed text (e ∷ before) es (do_to text e (notes ∷ []) v)
      at [] q y z = record { known = (rw z tt, rw q (rw q at h.known)); room = rw q (omega (arith, h.room)) }
      at (p ∷ ps) q y z =
          let k : Known text 65 before (v.noted ++ (text_of text p ∷ texts text ps)) = rw q at h.known in
          record { known = (rw z tt, rw (q, append_assoc) k); room = rw q (simp length-append (omega (arith, h.room))) }

-- ---- a turn

pub footed-turn : (text : List ℕ) (before : List Event) (e : Event) (es : List Event) (v : Values) → e.name < name_count → Footed text before (e ∷ es) v → Footed text (e ∷ before) es (do_to text e (effects_at e) v)
footed-turn text before e es v l h = decide (is_enter e) entered exited
  where
    entered : is_enter e ≡ true → Footed text (e ∷ before) es (do_to text e (effects_at e) v)
    entered x = same-footed text before e es v (enter-none 65 e x) (rw x refl) (rw (enter-effects e e.name x refl) (enters e.name l).notes-not) h

    exited : is_enter e ≡ false → Footed text (e ∷ before) es (do_to text e (effects_at e) v)
    exited x =
        decide (eqb e.name 63) (λ b. let n = eqb-true e.name 63 b in rw (exit-effects e 63 x n) (body-footed text before e es v n x h))
        (λ b₁. decide (eqb e.name 65) (λ b. let n = eqb-true e.name 65 b in rw (exit-effects e 65 x n) (label-footed text before e es v n x h))
        (λ b₂. same-footed text before e es v (other_none 65 e b₂) (rw (x, b₁) refl) (rw (exit-effects e e.name x refl) ((leaves e.name l).notes-not (rw (b₁, b₂) refl))) h))

called-62 : (text : List ℕ) (e : Event) (v : Values) → (do_to text e (exit_effects 62) v).calls ≡ add_call text v.ids v.calls
unfolding effects_of rows on_exit_gfm_footnote_call
called-62 text e v = refl

-- a call: of the newest medium's label
pub tally-turn : (ids : List (List ℕ)) (text : List ℕ) (p : ℕ) (e : Event) (v : Values) → e.name < name_count → (is_enter e ≡ false → e.name ≡ 62 → (i : Ids) (is : List Ids) (q : Span) → v.ids ≡ i ∷ is → i.label_id ≡ some q → listed ids (identity_of (text_of text q)) ≡ true)
    → Tally ids p v.calls → Tally ids (suc p) (do_to text e (effects_at e) v).calls
tally-turn ids text p e v l k h = decide (is_enter e) (λ x. same (rw (enter-effects e e.name x refl) (enters e.name l).calls-not)) (λ x. decide (eqb e.name 62) (λ b. let n = eqb-true e.name 62 b in rw (exit-effects e 62 x n) (called (k x n))) (λ b. same (rw (exit-effects e e.name x refl) ((leaves e.name l).calls-not b))))
  where
    same : T (all_effects uncalling (effects_at e)) → Tally ids (suc p) (do_to text e (effects_at e) v).calls
    same t = rw (calls-kept text e (effects_at e) v t) (tally-more ids p (suc p) v.calls (omega arith) h)

    called : ((i : Ids) (is : List Ids) (q : Span) → v.ids ≡ i ∷ is → i.label_id ≡ some q → listed ids (identity_of (text_of text q)) ≡ true) → Tally ids (suc p) (do_to text e (exit_effects 62) v).calls
    called k = rw (called-62 text e v) (add v.ids k)
      where
        by : (i : Ids) (o : Option Span) → i.label_id ≡ o → ((q : Span) → o ≡ some q → listed ids (identity_of (text_of text q)) ≡ true) → Tally ids (suc p) (elim o [ none ↦ v.calls | some p ↦ count_at (call_index (text_of text p) v.calls) (text_of text p) v.calls ])
        by i none e k = tally-more ids p (suc p) v.calls (omega arith) h
        by i (some q) e k = tally-counted ids p (text_of text q) v.calls (k q refl) h

        add : (is : List Ids) → ((i : Ids) (js : List Ids) (q : Span) → is ≡ i ∷ js → i.label_id ≡ some q → listed ids (identity_of (text_of text q)) ≡ true) → Tally ids (suc p) (add_call text is v.calls)
        add [] k = tally-more ids p (suc p) v.calls (omega arith) h
        add (i ∷ is) k = by i i.label_id refl (λ q e. k i is q refl e)

pub defined-turn : (text : List ℕ) (e : Event) (v : Values) → e.name < name_count → eqb e.name 53 ≡ false → (do_to text e (effects_at e) v).defined ≡ v.defined
defined-turn text e v l n = decide (is_enter e) (λ x. defined-kept text e (effects_at e) v (rw (enter-effects e e.name x refl) (enters e.name l).defines-not)) (λ x. defined-kept text e (effects_at e) v (rw (exit-effects e e.name x refl) ((leaves e.name l).defines-not n)))
