-- What each command does to the values. Assumes nothing.
use Rattle.std.specs.Prelude.{if◌then◌else◌, Some, None}
use mathlib.Core.Path.{◌≡◌, refl, sym, ◌∙◌}
use mathlib.Core.Bool.{Bool, true, false, ◌||◌}
use mathlib.Core.List.{List, [], ◌∷◌, ◌++◌}
use mathlib.Core.Option.{Option, none, some}
use Prim.Native.Nat.{ℕ, zero, suc}
use lib.Dec.{T}
use Rattle.event.specs.declared.Event.{Event}
use Rattle.character_reference.specs.Reference.{reference_for}
use Rattle.normalize_identifier.specs.Search.{Found, first_same}
use Rattle.machine.specs.Outcome.{Outcome, go, ◌>>=◌, need}
use Rattle.machine.specs.State.{State, Span, Destination, no_destination, own, defined, Media}
use Rattle.machine.specs.Set.{set_captures, set_media, set_destination, set_marker, set_labels, set_flag, alt, add_definition, add_footnote, set_calls}
use Rattle.machine.specs.Buffers.{◌▹◌, push, push_encoded, open_capture, take_capture}
use Rattle.machine.specs.Turn.{Turn, str_of, own_str}
use Rattle.machine.specs.Media as M
use Rattle.machine.specs.Media.{newest_media, on_newest, with_part, any_image, leave_alt, definition_labels, label_of, defined_at, destination_of, seek, own_of, define}
use Rattle.machine.specs.Footnote.{address_of, split_labels, keep, call_index, count_at, times_at, call_text, call_note}
use Rattle.machine.specs.Command.{repeat, exec}
use Rattle.machine.specs.Words.{reference, buffer, store, leave_image, seek_definition, keep_definition, keep_footnote, call}
use Rattle.machine.proofs.Outcomes.{never, first_goes, need-goes}
use Rattle.machine_shape.specs.Facts.{is_set}
use Rattle.machine_never.specs.Values.{is_led, Values, values, Effect, does_to, do_to, effects_of, is_none}
use Rattle.machine_never.proofs.Came.{read, same-go, pushed, took-values, on-newest, labels-add, notes-add, via, via-need, via-newest, via-take, via-label}

pub none_done : (text : List ℕ) (e : Event) (xs : List Effect) (v : Values) → T (is_none xs) → do_to text e xs v ≡ v
none_done text e [] v t = refl
none_done text e (x ∷ xs) v t = absurd t

pub done-both : (text : List ℕ) (e : Event) (xs ys : List Effect) (v : Values) → do_to text e (xs ++ ys) v ≡ do_to text e ys (do_to text e xs v)
done-both text e [] ys v = refl
done-both text e (x ∷ xs) ys v = done-both text e xs ys (does_to text e x v)

pub repeated : (n : ℕ) (F : State → Outcome State) (s u : State) → ((s u : State) → F s ≡ go u → values u ≡ values s) → repeat n F s ≡ go u → values u ≡ values s
repeated zero F s u k h = same-go s u (values s) h refl
repeated (suc n) F s u k h = let r = first_goes (F s) (λ w. repeat n F w) _ h in repeated n F r.0 u k r.2 ∙ k s r.0 r.1

module _ (t : Turn) (s u : State) where
  -- what is read and written
  pub wrote : (o : Outcome (List ℕ)) (f : List ℕ → List ℕ) → (o >>= λ b. go (push (f b) s)) ≡ go u → values u ≡ values s
  wrote o f h = let r = first_goes o (λ b. go (push (f b) s)) _ h in same-go (push (f r.0) s) u (values s) r.2 (pushed (f r.0) s)

  pub encoded : (b : List ℕ) (w : State) (v : Values) → ◌≡◌ {A = Outcome State} (go (push_encoded b w)) (go u) → values w ≡ v → values u ≡ v
  unfolding push_encoded
  encoded b w v h k = same-go (push _ w) u v h (pushed _ w ∙ k)

  pub reference-done : exec reference t s ≡ go u → values u ≡ do_to t.text t.event (effects_of reference) (values s)
  unfolding exec effects_of
  reference-done h =
      let a = need-goes s.waiting.marker (λ m. own_str t >>= λ b. need (reference_for s.fixed.names m b) >>= λ c. go (push_encoded c (set_marker none s))) _ h in
      let b = first_goes (own_str t) (λ b. need (reference_for s.fixed.names a.0 b) >>= λ c. go (push_encoded c (set_marker none s))) _ a.2 in
      let c = need-goes (reference_for s.fixed.names a.0 b.0) (λ c. go (push_encoded c (set_marker none s))) _ b.2 in
      encoded c.0 (set_marker none s) (values (set_marker none s)) c.2 refl

  pub taken : (f : List ℕ × State → Outcome State) → (take_capture s >>= f) ≡ go u → (v : Values) → ((r : List ℕ × State) → values r.1 ≡ values s → f r ≡ go u → values u ≡ v) → values u ≡ v
  taken f h v k = let r = first_goes (take_capture s) f _ h in k r.0 (took-values s r.0 r.1) r.2

  pub stored : (part : M.Part) → exec (store part) t s ≡ go u → (v : Values) → ((b : List ℕ) (m : Media) (ms : List Media) → s.media ≡ m ∷ ms → values (set_media (with_part part b m ∷ ms) s) ≡ v) → values u ≡ v
  unfolding exec
  stored part h v k =
      via-take s u (λ (b, w). on_newest (with_part part b) w) h
      (λ c cs q. on-newest (with_part part c) (set_captures cs s) u v q (λ m ms e. k c m ms e))

  led-by : (d : Destination) (sought : Option (List ℕ)) (r : Destination) → destination_of s.kept.definitions d sought ≡ go r → is_led r ≡ (is_led d || is_set sought)
  led-by no_destination none r h = let e : no_destination ≡ r = cc in rw (sym e) refl
  led-by no_destination (some b) r h = at (first_same (definition_labels s.kept.definitions) b) h
    where
      at : (f : Found) → defined_at f ≡ go r → is_led r ≡ true
      at (Some k) q = let e : defined k ≡ r = cc in rw (sym e) refl
      at None q = never q
  led-by (own b) sought r h = let e : own b ≡ r = cc in rw (sym e) refl
  led-by (defined k) sought r h = let e : defined k ≡ r = cc in rw (sym e) refl

  set-by : (p q : Option Span) (r : Option (List ℕ)) → label_of t p q ≡ go r → is_set r ≡ (is_set p || is_set q)
  set-by (some p) q r h = let a = first_goes (str_of t.text p) (λ b. go (some b)) _ h in let e : some a.0 ≡ r = cc in rw (sym e) refl
  set-by none (some q) r h = let a = first_goes (str_of t.text q) (λ b. go (some b)) _ h in let e : some a.0 ≡ r = cc in rw (sym e) refl
  set-by none none r h = let e : none ≡ r = cc in rw (sym e) refl

  pub seek-done : exec seek_definition t s ≡ go u → values u ≡ do_to t.text t.event (effects_of seek_definition) (values s)
  unfolding exec seek effects_of
  seek-done h =
      via-newest s u (λ (m, ms). label_of t m.reference_id m.label_id >>= λ sought. destination_of s.kept.definitions m.destination sought >>= λ d. on_newest (set_destination d) s) h
      (λ m ms i a. via (label_of t m.reference_id m.label_id) (λ sought. destination_of s.kept.definitions m.destination sought >>= λ d. on_newest (set_destination d) s) a
      (λ sought p b. via (destination_of s.kept.definitions m.destination sought) (λ d. on_newest (set_destination d) s) b
      (λ d q c. on-newest (set_destination d) s u (do_to t.text t.event (effects_of seek_definition) (values s)) c
      (λ n ns e. let j : n ≡ m = cc in let w : ns ≡ ms = cc in rw (i, j, w, led-by m.destination sought d q, set-by m.reference_id m.label_id sought p) refl))))

  pub buffer-done : exec buffer t s ≡ go u → values u ≡ values s
  unfolding exec open_capture
  buffer-done h = same-go (set_captures ([] ∷ s.captures) s) u (values s) h refl

  pub leave-done : exec leave_image t s ≡ go u → values u ≡ values s
  unfolding exec leave_alt
  leave-done h = let r = first_goes (newest_media s) (λ (m, ms). go (set_flag alt (any_image ms) s)) _ h in same-go (set_flag alt (any_image r.0.1) s) u (values s) r.2 refl

  pub define-done : exec keep_definition t s ≡ go u → values u ≡ do_to t.text t.event (effects_of keep_definition) (values s)
  unfolding exec define effects_of
  define-done h =
      via-newest s u (λ (m, ms). need m.reference_id >>= λ p. str_of t.text p >>= λ b. go (add_definition (record { label = b; destination = own_of m.destination; title = m.title }) (set_media ms s))) h
      (λ m ms i a. via-need m.reference_id (λ p. str_of t.text p >>= λ b. go (add_definition (record { label = b; destination = own_of m.destination; title = m.title }) (set_media ms s))) a
      (λ p j b. via (str_of t.text p) (λ b. go (add_definition (record { label = b; destination = own_of m.destination; title = m.title }) (set_media ms s))) b
      (λ l k c. same-go (add_definition (record { label = l; destination = own_of m.destination; title = m.title }) (set_media ms s)) u (do_to t.text t.event (effects_of keep_definition) (values s)) c
      (rw (i, j, labels-add s.kept.definitions (record { label = l; destination = own_of m.destination; title = m.title }), read t.text p l k) refl))))

  pub note-done : exec keep_footnote t s ≡ go u → values u ≡ do_to t.text t.event (effects_of keep_footnote) (values s)
  unfolding exec keep effects_of
  note-done h =
      via-take s u (λ (body, w). split_labels w.labels >>= λ (p, ps). str_of t.text p >>= λ b. go (add_footnote (record { label = b; body = body }) (set_labels ps w))) h
      (λ c cs q. via-label s u (λ (p, ps). str_of t.text p >>= λ b. go (add_footnote (record { label = b; body = c }) (set_labels ps (set_captures cs s)))) q
      (λ p ps e a. via (str_of t.text p) (λ b. go (add_footnote (record { label = b; body = c }) (set_labels ps (set_captures cs s)))) a
      (λ l k b. same-go (add_footnote (record { label = l; body = c }) (set_labels ps (set_captures cs s))) u (do_to t.text t.event (effects_of keep_footnote) (values s)) b
      (rw (e, notes-add s.kept.footnotes (record { label = l; body = c }), read t.text p l k) refl))))

  pub call-done : exec call t s ≡ go u → values u ≡ do_to t.text t.event (effects_of call) (values s)
  unfolding exec call_note effects_of
  call-done h =
      via-newest s u (λ (m, ms). need m.label_id >>= λ p. str_of t.text p >>= λ label. go (noted ms label)) h
      (λ m ms i a. via-need m.label_id (λ p. str_of t.text p >>= λ label. go (noted ms label)) a
      (λ p j b. via (str_of t.text p) (λ label. go (noted ms label)) b
      (λ l k c. same-go (noted ms l) u (do_to t.text t.event (effects_of call) (values s)) c
      (noted-values ms l s.flags.alt ∙ rw (i, j, read t.text p l k) refl))))
    where
      calls : List Media → List ℕ → State
      calls ms label = s ▹ set_media ms ▹ set_calls (count_at (call_index label s.kept.calls) label s.kept.calls)

      noted : List Media → List ℕ → State
      noted ms label =
          let index = call_index label s.kept.calls in
          let us = count_at index label s.kept.calls in
          let w = s ▹ set_media ms ▹ set_calls us in
          if w.flags.alt then w else push (call_text (address_of s.fixed.apostrophes label) (suc index) (times_at index us)) w

      noted-values : (ms : List Media) (label : List ℕ) (x : Bool)
          → values (if x then calls ms label else push (call_text (address_of s.fixed.apostrophes label) (suc (call_index label s.kept.calls)) (times_at (call_index label s.kept.calls) (count_at (call_index label s.kept.calls) label s.kept.calls))) (calls ms label)) ≡ values (calls ms label)
      noted-values ms label true = refl
      noted-values ms label false = pushed _ (calls ms label)
