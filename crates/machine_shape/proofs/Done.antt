-- That a command goes on to a state of a shape, and the ways in which one is reached. Assumes nothing.
use mathlib.Core.Path.{◌≡◌, refl, ap, ◌∙◌}
use mathlib.Core.Bool.{Bool, true}
use mathlib.Core.List.{List, [], ◌∷◌, ◌++◌}
use mathlib.Core.Option.{Option, none, some}
use Prim.Native.Nat.{ℕ, ◌+◌, ◌≤◌}
use native.Mathlib.Omega.{arith}
use lib.Dec.{T}
use lib.ListN.{length}
use Rattle.machine.specs.declared.Flags.{Flags}
use Rattle.machine.specs.Outcome.{Outcome, go, ◌>>=◌, need}
use Rattle.machine.specs.State.{State, Span, Media, Waiting, Table}
use Rattle.machine.specs.Set.{set_page, set_captures, set_media, set_tight, set_labels, set_flags, set_waiting, set_table}
use Rattle.machine.specs.Buffers.{push_to, push, push_encoded, take_from, take_capture}
use Rattle.machine.specs.Media.{split_media, newest_media}
use Rattle.machine_shape.specs.Facts.{is_set, wait_facts, media_facts, of_top}
use Rattle.machine_shape.specs.Shape.{Say, Moves, Stack, Shape, Moved, Over, Mean, Rel, idle}
use Rattle.machine_shape.specs.Acts.{with_captures, with_tight, with_labels, with_waits, with_media}
use Rattle.machine_shape.specs.Right.{Few}
use Rattle.machine_shape.proofs.Rel.{rel-idle, rel-after}

pub record Done (o : Outcome State) (ordered : Bool) (x : Shape) (s : State) : Type 0 where
  pub state : State
  pub goes : o ≡ go state
  pub order : ordered ≡ true
  pub rel : Rel x s state
  pub few : Few s.kept → Few state.kept

-- ---- ways to it

module _ {A : Type 0} (ok : Bool) (x : Shape) (s : State) where
  pub done-bind : (o : Outcome A) (f : A → Outcome State) (a : A) → o ≡ go a → Done (f a) ok x s → Done (o >>= f) ok x s
  done-bind o f a e d = record { state = d.state; goes = ap (λ (p : Outcome A). p >>= f) e ∙ d.goes; order = d.order; rel = d.rel; few = d.few }

  pub done-need : (o : Option A) (f : A → Outcome State) → T (is_set o) → ((a : A) → o ≡ some a → Done (f a) ok x s) → Done (need o >>= f) ok x s
  done-need none f t k = absurd t
  done-need (some a) f t k = k a refl

module _ (ok : Bool) (x : Shape) (s : State) where
  pub done-take : (f : List ℕ × State → Outcome State) → 1 ≤ length s.captures → ((c : List ℕ) (cs : List (List ℕ)) → s.captures ≡ c ∷ cs → Done (f (c, set_captures cs s)) ok x s) → Done (take_capture s >>= f) ok x s
  unfolding take_capture
  done-take f l k = at s.captures refl l
    where
      at : (cs : List (List ℕ)) → s.captures ≡ cs → 1 ≤ length cs → Done (take_from cs s >>= f) ok x s
      at [] e l = absurd (omega arith)
      at (c ∷ cs) e l = k c cs e

  pub done-newest : (f : Media × List Media → Outcome State) → T (of_top (λ m. true) s.media) → ((m : Media) (ms : List Media) → s.media ≡ m ∷ ms → Done (f (m, ms)) ok x s) → Done (newest_media s >>= f) ok x s
  unfolding newest_media
  done-newest f t k = at s.media refl t
    where
      at : (ms : List Media) → s.media ≡ ms → T (of_top (λ m. true) ms) → Done (split_media ms >>= f) ok x s
      at [] e t = absurd t
      at (m ∷ ms) e t = k m ms e

-- ---- states of one change

pub rel-captures : (p : List ℕ) (cs : List (List ℕ)) (m : Moves) (s : State) → Moved m (length s.captures) (length cs) → Rel (with_captures m idle) s (set_page p (set_captures cs s))
rel-captures p cs m s h = let i = rel-idle s in record { captures = h; tight = i.tight; labels = i.labels; stack = i.stack; defined = i.defined; waits = i.waits; media = i.media }

pub rel-tight : (ts : List Bool) (m : Moves) (s : State) → Moved m (length s.tight) (length ts) → Rel (with_tight m idle) s (set_tight ts s)
rel-tight ts m s h = let i = rel-idle s in record { captures = i.captures; tight = h; labels = i.labels; stack = i.stack; defined = i.defined; waits = i.waits; media = i.media }

pub rel-labels : (ps : List Span) (m : Moves) (s : State) → Moved m (length s.labels) (length ps) → Rel (with_labels m idle) s (set_labels ps s)
rel-labels ps m s h = let i = rel-idle s in record { captures = i.captures; tight = i.tight; labels = h; stack = i.stack; defined = i.defined; waits = i.waits; media = i.media }

pub rel-flags : (f : Flags) (s : State) → Rel idle s (set_flags f s)
rel-flags f s = let i = rel-idle s in record { captures = i.captures; tight = i.tight; labels = i.labels; stack = i.stack; defined = i.defined; waits = i.waits; media = i.media }

pub rel-waits : (w : Waiting) (t : Table) (xs : List Say) (s : State) → Mean wait_facts xs s (set_table t (set_waiting w s)) → Rel (with_waits xs idle) s (set_table t (set_waiting w s))
rel-waits w t xs s h = let i = rel-idle s in record { captures = i.captures; tight = i.tight; labels = i.labels; stack = i.stack; defined = i.defined; waits = h; media = i.media }

pub rel-media : (k : Stack) (xs : List Say) (ms : List Media) (s : State) → Over k s.media ms → Mean media_facts xs s (set_media ms s) → Rel (with_media k xs idle) s (set_media ms s)
rel-media k xs ms s o h = let i = rel-idle s in record { captures = i.captures; tight = i.tight; labels = i.labels; stack = o; defined = i.defined; waits = i.waits; media = h }

-- ---- what is written changes nothing else

pub record Pushed (s u : State) : Type 0 where
  pub rel : Rel idle s u
  pub kept : u.kept ≡ s.kept

pub pushed : (b : List ℕ) (s : State) → Pushed s (push b s)
unfolding push
pushed b s = at s.captures refl
  where
    at : (cs : List (List ℕ)) → s.captures ≡ cs → Pushed s (push_to cs b s)
    at [] e = record { rel = rel-captures (s.page ++ b) s.captures _ s refl; kept = refl }
    at (c ∷ cs) e = record { rel = rel-captures s.page ((c ++ b) ∷ cs) _ s (ap (λ (l : List (List ℕ)). length l + 0) e); kept = refl }

pub done-push : (x : Shape) (b : List ℕ) (s u : State) → Rel x s u → u.kept ≡ s.kept → Done (go (push b u)) true x s
done-push x b s u h e =
    let p = pushed b u in
    record { state = push b u; goes = refl; order = refl; rel = rel-after x s u (push b u) h p.rel; few = λ f. rw (p.kept ∙ e) f }

pub done-encoded : (x : Shape) (b : List ℕ) (s u : State) → Rel x s u → u.kept ≡ s.kept → Done (go (push_encoded b u)) true x s
unfolding push_encoded
done-encoded x b s u h e = done-push x _ s u h e

pub done-set : (x : Shape) (s u : State) → Rel x s u → u.kept ≡ s.kept → Done (go u) true x s
done-set x s u h e = record { state = u; goes = refl; order = refl; rel = h; few = λ f. rw e f }
