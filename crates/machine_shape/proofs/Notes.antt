-- Commands that keep a definition or a footnote, and that count a call. Assumes nothing.
use Rattle.std.specs.Prelude.{if◌then◌else◌}
use mathlib.Core.Path.{◌≡◌, refl}
use mathlib.Core.Bool.{Bool, true, false}
use mathlib.Core.List.{List, [], ◌∷◌, ◌++◌}
use Prim.Native.Nat.{ℕ, suc, ◌≤◌, ◌<◌}
use native.Mathlib.Omega.{arith}
use lib.Dec.{T}
use lib.ListN.{length, length-append}
use Rattle.machine.specs.Outcome.{go, ◌>>=◌, need}
use Rattle.machine.specs.State.{State, Span, Media, Definition}
use Rattle.machine.specs.Set.{set_captures, set_media, set_labels, add_definition, add_footnote, set_calls}
use Rattle.machine.specs.Buffers.{◌▹◌, push}
use Rattle.machine.specs.Turn.{Turn, span_of, str_of}
use Rattle.machine.specs.Media.{own_of, define}
use Rattle.machine.specs.Footnote.{address_of, split_labels, keep, call_index, count_at, times_at, call_text, call_note}
use Rattle.machine.specs.Command.{exec}
use Rattle.machine.specs.Words.{keep_definition, footnote_label, keep_footnote, call}
use Rattle.machine_shape.specs.Facts.{is_set, of_top}
use Rattle.machine_shape.specs.Shape.{Rel, idle}
use Rattle.machine_shape.specs.Acts.{with_captures, with_labels, popped, up1, down1}
use Rattle.machine_shape.specs.Right.{Few, Counted, Right}
use Rattle.machine_shape.proofs.Rel.{rel-idle, rel-after}
use Rattle.machine_shape.proofs.Done.{Done, done-bind, done-need, done-take, done-newest, rel-labels, pushed, done-set}
use Rattle.machine_shape.proofs.Media.{media-gone}
use Rattle.machine_shape.proofs.Writes.{taken}

pub done-label : (t : Turn) (s : State) → Done (exec footnote_label t s) true (with_labels up1 idle) s
unfolding exec
done-label t s = done-set (with_labels up1 idle) s (set_labels (span_of t.event ∷ s.labels) s) (rel-labels (span_of t.event ∷ s.labels) up1 s (omega arith)) refl

more : {A : Type 0} (xs : List A) (x : A) (n : ℕ) → length xs < n → length (xs ++ (x ∷ [])) ≤ n
more xs x n h = simp length-append (omega arith)

module _ (t : Turn) (s : State) where
  pub done-define : T (of_top (λ m. true) s.media) → T (of_top (λ m. is_set m.reference_id) s.media) → Right keep_definition t s → Done (exec keep_definition t s) true popped s
  unfolding exec define Right
  done-define h q r =
      done-newest true popped s (λ (m, ms). need m.reference_id >>= λ p. str_of t.text p >>= λ b. go (add_definition (record { label = b; destination = own_of m.destination; title = m.title }) (set_media ms s))) h
      (λ m ms e. done-need true popped s m.reference_id (λ p. str_of t.text p >>= λ b. go (add_definition (record { label = b; destination = own_of m.destination; title = m.title }) (set_media ms s))) (rw e at q)
      (λ p i. let z = r m ms p e i in
      done-bind true popped s (str_of t.text p) (λ b. go (add_definition (record { label = b; destination = own_of m.destination; title = m.title }) (set_media ms s))) z.0.0 z.0.1
      (kept m ms e (record { label = z.0.0; destination = own_of m.destination; title = m.title }) z.1)))
    where
      kept : (m : Media) (ms : List Media) → s.media ≡ m ∷ ms → (d : Definition) → length s.kept.definitions < 128 → Done (go (add_definition d (set_media ms s))) true popped s
      kept m ms e d l =
          let g = media-gone s m ms e in
          let n : length s.kept.definitions ≤ length (s.kept.definitions ++ (d ∷ [])) = simp length-append (omega arith) in
          record {
            state = add_definition d (set_media ms s);
            goes = refl;
            order = refl;
            rel = record { captures = g.captures; tight = g.tight; labels = g.labels; stack = g.stack; defined = n; waits = g.waits; media = g.media };
            few = λ f. record { definitions = more s.kept.definitions d 128 l; footnotes = f.footnotes; calls = f.calls; times = f.times };
          }

  pub done-note : 1 ≤ length s.captures → 1 ≤ length s.labels → Right keep_footnote t s → Done (exec keep_footnote t s) true (with_captures down1 (with_labels down1 idle)) s
  unfolding exec keep Right
  done-note l k r =
      done-take true (with_captures down1 (with_labels down1 idle)) s (λ (body, u). split_labels u.labels >>= λ (p, ps). str_of t.text p >>= λ b. go (add_footnote (record { label = b; body = body }) (set_labels ps u))) l
      (λ c cs e. at c cs e s.labels refl k)
    where
      at : (c : List ℕ) (cs : List (List ℕ)) → s.captures ≡ c ∷ cs → (ls : List Span) → s.labels ≡ ls → 1 ≤ length ls
          → Done (split_labels ls >>= λ (p, ps). str_of t.text p >>= λ b. go (add_footnote (record { label = b; body = c }) (set_labels ps (set_captures cs s)))) true (with_captures down1 (with_labels down1 idle)) s
      at c cs e [] i k = absurd (omega arith)
      at c cs e (p ∷ ps) i k =
          let z = r p ps i in
          let j = rel-idle s in
          done-bind true (with_captures down1 (with_labels down1 idle)) s (str_of t.text p) (λ b. go (add_footnote (record { label = b; body = c }) (set_labels ps (set_captures cs s)))) z.0.0 z.0.1
          (record {
            state = add_footnote (record { label = z.0.0; body = c }) (set_labels ps (set_captures cs s));
            goes = refl;
            order = refl;
            rel = record { captures = taken s c cs e; tight = j.tight; labels = rw i (omega arith); stack = j.stack; defined = j.defined; waits = j.waits; media = j.media };
            few = λ f. record { definitions = f.definitions; footnotes = more s.kept.footnotes (record { label = z.0.0; body = c }) 64 z.1; calls = f.calls; times = f.times };
          })

  pub done-call : T (of_top (λ m. true) s.media) → T (of_top (λ m. is_set m.label_id) s.media) → Right call t s → Done (exec call t s) true popped s
  unfolding exec call_note Right
  done-call h q r =
      done-newest true popped s (λ (m, ms). need m.label_id >>= λ p. str_of t.text p >>= λ label. go (noted ms label)) h
      (λ m ms e. done-need true popped s m.label_id (λ p. str_of t.text p >>= λ label. go (noted ms label)) (rw e at q)
      (λ p i. let z = r m ms p e i in
      done-bind true popped s (str_of t.text p) (λ label. go (noted ms label)) z.0 z.1 (counted m ms e z.0 z.2 s.flags.alt)))
    where
      calls : List Media → List ℕ → State
      calls ms label = s ▹ set_media ms ▹ set_calls (count_at (call_index label s.kept.calls) label s.kept.calls)

      noted : List Media → List ℕ → State
      noted ms label =
          let index = call_index label s.kept.calls in
          let us = count_at index label s.kept.calls in
          let u = s ▹ set_media ms ▹ set_calls us in
          if u.flags.alt then u else push (call_text (address_of s.fixed.apostrophes label) (suc index) (times_at index us)) u

      gone : (m : Media) (ms : List Media) → s.media ≡ m ∷ ms → (label : List ℕ) → Rel popped s (calls ms label)
      gone m ms e label = let g = media-gone s m ms e in record { captures = g.captures; tight = g.tight; labels = g.labels; stack = g.stack; defined = g.defined; waits = g.waits; media = g.media }

      few : (ms : List Media) (label : List ℕ) → Counted label s.kept.calls → Few s.kept → Few (calls ms label).kept
      few ms label z f = record { definitions = f.definitions; footnotes = f.footnotes; calls = z.calls; times = z.times }

      counted : (m : Media) (ms : List Media) → s.media ≡ m ∷ ms → (label : List ℕ) → Counted label s.kept.calls → (x : Bool)
          → Done (go (if x then calls ms label else push (call_text (address_of s.fixed.apostrophes label) (suc (call_index label s.kept.calls)) (times_at (call_index label s.kept.calls) (count_at (call_index label s.kept.calls) label s.kept.calls))) (calls ms label))) true popped s
      counted m ms e label z true = record { state = calls ms label; goes = refl; order = refl; rel = gone m ms e label; few = few ms label z }
      counted m ms e label z false =
          let b = call_text (address_of s.fixed.apostrophes label) (suc (call_index label s.kept.calls)) (times_at (call_index label s.kept.calls) (count_at (call_index label s.kept.calls) label s.kept.calls)) in
          let p = pushed b (calls ms label) in
          record { state = push b (calls ms label); goes = refl; order = refl; rel = rel-after popped s (calls ms label) (push b (calls ms label)) (gone m ms e label) p.rel; few = λ f. rw p.kept (few ms label z f) }
