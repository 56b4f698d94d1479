-- Commands that write, and those that open, drop or pour a capture. Assumes nothing.
use mathlib.Core.Path.{◌≡◌, refl, ap}
use mathlib.Core.Bool.{Bool, true}
use mathlib.Core.List.{List, [], ◌∷◌, ◌++◌}
use mathlib.Core.Option.{Option, none, some}
use Prim.Native.Nat.{ℕ, ◌+◌, ◌≤◌}
use Prim.Native.String.{String}
use native.Mathlib.Omega.{arith}
use lib.Dec.{T, eqb, eqb→eq}
use borrow.Author.Tests.{eq-eqb}
use lib.ListN.{length, get_elem?}
use Rattle.lent.specs.Bytes.{bytes}
use Rattle.character_reference.specs.Reference.{reference_for}
use Rattle.machine.specs.Outcome.{Outcome, go, ◌>>=◌, need}
use Rattle.machine.specs.State.{State, Media}
use Rattle.machine.specs.Set.{set_captures, set_setext, set_marker}
use Rattle.machine.specs.Buffers.{push, push_encoded, open_capture}
use Rattle.machine.specs.Turn.{Turn, as_str, own_str}
use Rattle.machine.specs.Text.{decimal, align_text, code_of}
use Rattle.machine.specs.Media.{newest_media, split_media, Part, label, destination, title, part_text}
use Rattle.machine.specs.Totals.{size, media_sizes, held}
use Rattle.machine.specs.Command.{write, Source, given, made, rank, start, alignment, part, given_text, made_of, text_of, perform, exec}
use Rattle.machine.specs.Words.{reference, buffer, drop, resume, resume_code, hold, release}
use Rattle.machine_shape.specs.Facts.{is_set, of_top}
use Rattle.machine_shape.specs.Shape.{Shape, Moved, Rel, idle}
use Rattle.machine_shape.specs.Acts.{Ready, act, with_captures, waiting, up1, down1}
use Rattle.machine_shape.specs.Right.{Goes, Told, Right}
use Rattle.machine_shape.proofs.Says.{passed}
use Rattle.machine_shape.proofs.Rel.{rel-idle}
use Rattle.machine_shape.proofs.Done.{Done, done-bind, done-need, done-take, rel-captures, done-push, done-encoded, done-set}
use Rattle.machine_shape.proofs.Waits.{setext-set, setext-none, marker-none, aligned}
use Rattle.machine_shape.proofs.Media.{written-label, written-destination, written-title}

-- ---- writing

said : {A : Type 0} (o : Outcome A) (f : A → List ℕ) → Goes o → Goes (o >>= λ a. go (f a))
said {A} o f r = (f r.0, ap (λ (x : Outcome A). x >>= λ a. go (f a)) r.1)

set : {A : Type 0} (o : Option A) (f : A → Outcome (List ℕ)) → T (is_set o) → ((a : A) → o ≡ some a → Goes (f a)) → Goes (need o >>= f)
set none f h k = absurd h
set (some a) f h k = k a refl

topped : (s : State) (f : Media × List Media → Outcome (List ℕ)) → T (of_top (λ m. true) s.media) → ((m : Media) (ms : List Media) → s.media ≡ m ∷ ms → Goes (f (m, ms))) → Goes (newest_media s >>= f)
unfolding newest_media
topped s f h k = at s.media refl h
  where
    at : (ms : List Media) → s.media ≡ ms → T (of_top (λ m. true) ms) → Goes (split_media ms >>= f)
    at [] e h = absurd h
    at (m ∷ ms) e h = k m ms e

module _ (t : Turn) (s : State) where
  part-goes : (p : Part) → Ready (act (write (part p))) s → Goes (text_of (part p) t s)
  unfolding act
  part-goes label q = topped s (λ (m, ms). part_text label t.options s.kept.definitions m) q.media.0 (λ m ms e. written-label t.options s.kept.definitions m (rw e at q.media.1.1.0))
  part-goes destination q = topped s (λ (m, ms). part_text destination t.options s.kept.definitions m) q.media.0 (λ m ms e. written-destination t.options s.kept.definitions m (rw e at q.media.1.1.1.1.1.1.1.0))
  part-goes title q = topped s (λ (m, ms). part_text title t.options s.kept.definitions m) q.media.0 (λ m ms e. written-title t.options s.kept.definitions m (rw e at q.media.1.1.1.1.1.1.1.0))

  -- there is a text
  text-goes : (x : Source) → Ready (act (write x)) s → Told x t → Goes (text_of x t s)
  unfolding act
  text-goes (given x) q r = (given_text x s, refl)
  text-goes (made x) q r = said (own_str t) (made_of x t s) r
  text-goes rank q r = set s.waiting.rank (λ n. go (decimal n)) q.waits.0 (λ n e. (decimal n, refl))
  text-goes start q r = r
  text-goes alignment q r =
      let a = aligned s.table q.waits.1.1.1.1.1.1.1.1.1.0 in
      set s.table.aligns (λ aligns. need (get_elem? aligns s.table.column) >>= λ a. go (align_text a)) a.0
      (λ xs e. set (get_elem? xs s.table.column) (λ a. go (align_text a)) (a.1 xs e) (λ x p. (align_text x, refl)))
  text-goes (part p) q r = part-goes p q

  pub done-write : (x : Source) → Ready (act (write x)) s → Told x t → Done (perform (write x) t s) true idle s
  done-write x q r = let g = text-goes x q r in done-bind true idle s (text_of x t s) (λ b. go (push b s)) g.0 g.1 (done-push idle g.0 s s (rel-idle s) refl)

  pub done-reference : T (is_set s.waiting.marker) → Right reference t s → Done (exec reference t s) true (waiting (10 ∷ []) (5 ∷ [])) s
  unfolding exec Right
  done-reference h r =
      done-need true (waiting (10 ∷ []) (5 ∷ [])) s s.waiting.marker (λ m. own_str t >>= λ b. need (reference_for s.fixed.names m b) >>= λ c. go (push_encoded c (set_marker none s))) h
      (λ m e. let q = r m e in
      done-bind true (waiting (10 ∷ []) (5 ∷ [])) s (own_str t) (λ b. need (reference_for s.fixed.names m b) >>= λ c. go (push_encoded c (set_marker none s))) q.0 q.1
      (done-bind true (waiting (10 ∷ []) (5 ∷ [])) s (need (reference_for s.fixed.names m q.0)) (λ c. go (push_encoded c (set_marker none s))) q.2 (ap need q.3)
      (done-encoded (waiting (10 ∷ []) (5 ∷ [])) q.2 s (set_marker none s) (marker-none s) refl)))

-- ---- captures

pub taken : (s : State) (c : List ℕ) (cs : List (List ℕ)) → s.captures ≡ c ∷ cs → Moved down1 (length s.captures) (length cs)
taken s c cs e = rw e (omega arith)

rel-taken : (s : State) (c : List ℕ) (cs : List (List ℕ)) → s.captures ≡ c ∷ cs → Rel (with_captures down1 idle) s (set_captures cs s)
rel-taken s c cs e = rel-captures s.page cs down1 s (taken s c cs e)

pub with-order : {o : Outcome State} {x : Shape} {s : State} {ok : Bool} → ok ≡ true → Done o true x s → Done o ok x s
with-order e d = record { state = d.state; goes = d.goes; order = e; rel = d.rel; few = d.few }

module _ (t : Turn) (s : State) where
  pub done-buffer : Done (exec buffer t s) true (with_captures up1 idle) s
  unfolding exec open_capture
  done-buffer = done-set (with_captures up1 idle) s (set_captures ([] ∷ s.captures) s) (rel-captures s.page ([] ∷ s.captures) up1 s (omega arith)) refl

  module _ (l : 1 ≤ length s.captures) where
    pub done-drop : Done (exec drop t s) true (with_captures down1 idle) s
    unfolding exec
    done-drop = done-take true (with_captures down1 idle) s (λ (b, u). go u) l (λ c cs e. done-set (with_captures down1 idle) s (set_captures cs s) (rel-taken s c cs e) refl)

    pub done-resume : (before after : String) → Done (exec (resume before after) t s) true (with_captures down1 idle) s
    unfolding exec
    done-resume before after =
        done-take true (with_captures down1 idle) s (λ (b, u). go (push (bytes before ++ b ++ bytes after) u)) l
        (λ c cs e. done-push (with_captures down1 idle) (bytes before ++ c ++ bytes after) s (set_captures cs s) (rel-taken s c cs e) refl)

    pub done-code : Right resume_code t s → Done (exec resume_code t s) true (with_captures down1 idle) s
    unfolding exec Right
    done-code r =
        done-take true (with_captures down1 idle) s (λ (b, u). as_str (code_of u.table.aligns b) >>= λ code. go (push code u)) l
        (λ c cs e. let q = r c cs e in
        done-bind true (with_captures down1 idle) s (as_str (code_of s.table.aligns c)) (λ code. go (push code (set_captures cs s))) q.0 q.1
        (done-push (with_captures down1 idle) q.0 s (set_captures cs s) (rel-taken s c cs e) refl))

    pub done-hold : T (eqb (size s.waiting.setext) 0) → T (eqb (media_sizes s.media) 0) → Done (exec hold t s) (eqb (held s) 0) (with_captures down1 (waiting (1 ∷ []) (2 ∷ []))) s
    unfolding exec held
    done-hold q h =
        let i = eqb→eq (size s.waiting.setext) 0 q in
        let j = eqb→eq (media_sizes s.media) 0 h in
        with-order (eq-eqb (size s.waiting.setext + media_sizes s.media) 0 (omega arith))
        (done-take true (with_captures down1 (waiting (1 ∷ []) (2 ∷ []))) s (λ (b, u). go (set_setext (some b) u)) l
        (λ c cs e. let r = setext-set s c in
        done-set (with_captures down1 (waiting (1 ∷ []) (2 ∷ []))) s (set_setext (some c) (set_captures cs s))
        (record { captures = taken s c cs e; tight = r.tight; labels = r.labels; stack = r.stack; defined = r.defined; waits = r.waits; media = r.media }) refl))

  pub done-release : T (is_set s.waiting.setext) → T (eqb (media_sizes s.media) 0) → Done (exec release t s) (eqb (media_sizes s.media) 0) (waiting (2 ∷ []) (1 ∷ [])) s
  unfolding exec
  done-release h q =
      with-order (passed (eqb (media_sizes s.media) 0) q)
      (done-need true (waiting (2 ∷ []) (1 ∷ [])) s s.waiting.setext (λ b. go (push b (set_setext none s))) h
      (λ b e. done-push (waiting (2 ∷ []) (1 ∷ [])) b s (set_setext none s) (setext-none s) refl))
