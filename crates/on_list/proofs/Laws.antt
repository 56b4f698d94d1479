-- The questions that the handlers of lists ask. Assumes nothing.
use mathlib.Core.Path.{◌≡◌, refl, sym, ap, ap₂, ◌∙◌}
use mathlib.Core.Bool.{Bool, true, false, not, ◌&&◌, or-false}
use mathlib.Core.List.{List, [], ◌∷◌}
use mathlib.Core.Option.{Option, none, some}
use Prim.Native.Nat.{ℕ}
use Prim.Native.String.{String}
use lib.Dec.{eqb}
use Rattle.lent.specs.Bytes.{bytes}
use Rattle.event.specs.declared.Event.{Event}
use Rattle.event.specs.Event as Event
use Rattle.event.specs.Event.{named}
use Rattle.machine.specs.Outcome.{go, ◌>>=◌, need}
use Rattle.machine.specs.Turn.{Turn, look_back}
use Rattle.machine.specs.Test.{is_ordered, is_loose, is_tight, is_tight_paragraph, is_empty_item, tight_of, test}
use Rattle.machine.specs.Command.{whether}
use Rattle.machine.specs.Words.{put, line_ending, open_container, close_container}
use Rattle.machine.specs.OnList.{on_exit_list}
use Rattle.machine.proofs.Outcomes.{never, first_goes}
use Rattle.state_context.specs.declared.Context.{Context}
use Rattle.state_context.specs.Rel.{Any, Keeps, Sets, Pushes, Tells}
use Rattle.state_context.proofs.Commands.{any, seq, sets, puts, whether-yes, whether-no}
use Rattle.on_list.specs.Lists.{IsOrdered, OpensList, LooksBack, PushesByOrder}

-- ---- the list's event

tells-ordered : {c : Context} {x : Bool} → Tells (IsOrdered x) is_ordered c x
unfolding test
tells-ordered = record { tells = λ t w o b s y v r p. (let q : named (21 ∷ []) t.event ≡ y = cc in sym q ∙ v.ordered-is) }

module _ {yes no : List ℕ} {c r : Context} {w o w' o' : List ℕ} {x : Bool} where
  pub pushes-yes : x ≡ true → Pushes yes c w o r w' o' → PushesByOrder x yes no c w o r w' o'
  pushes-yes h k = record { pushes = λ a b p q. whether-yes tells-ordered h (puts (rw p k)) }

  pub pushes-no : x ≡ false → Pushes no c w o r w' o' → PushesByOrder x yes no c w o r w' o'
  pushes-no h k = record { pushes = λ a b p q. whether-no tells-ordered h (puts (rw q k)) }

pub by_order : {a b : String} {c r : Context} {w o w' o' : List ℕ} {x : Bool} → PushesByOrder x (bytes a) (bytes b) c w o r w' o' → Keeps (IsOrdered x) (whether is_ordered (put a) (put b)) c w o r w' o'
by_order {a} {b} k = k.pushes a b refl refl

pub exits-list : {c line r q : Context} {w o w' o' w'' o'' : List ℕ} {x : Bool} → Sets close_container c line → Keeps Any line_ending line w o r w' o' → PushesByOrder x (bytes "</ol>") (bytes "</ul>") r w' o' q w'' o''
    → Keeps (IsOrdered x) on_exit_list c w o q w'' o''
unfolding on_exit_list
exits-list k l m = seq (sets k) (seq (any l) (by_order m))

tells-loose : {c : Context} {x y : Bool} → Tells (OpensList x y) is_loose c y
unfolding test
tells-loose = record { tells = λ t w o b s z v r p. (let q : Event.is_loose t.event ≡ z = cc in sym q ∙ v.loose-is) }

pub opens-container : {c r : Context} {w o : List ℕ} {x : Bool} (loose : Bool) → Sets (open_container (not loose)) c r → Keeps (OpensList x loose) (whether is_loose (open_container false) (open_container true)) c w o r w o
opens-container true k = whether-yes tells-loose refl (sets k)
opens-container false k = whether-no tells-loose refl (sets k)

-- ---- the look back

needed : {A : Type 0} (o : Option A) (a : A) → need o ≡ go a → o ≡ some a
needed none a p = never p
needed (some b) a p = let e : b ≡ a = cc in ap some e

-- where it is asked it finds an event, whose name is told
asked : {n : ℕ} (t : Turn) (f : Event → Bool) (y : Bool) → LooksBack n t → (need (look_back 0 t.before) >>= λ e. go (f e)) ≡ go y → (e : Event) × (e.name ≡ n) × (f e ≡ y)
asked t f y v p =
    let g = first_goes (need (look_back 0 t.before)) (λ e. go (f e)) y p in
    let q = g.2 in
    (g.0, v.behind-is g.0 (needed (look_back 0 t.before) g.0 g.1), cc)

named-so : (k : ℕ) {n : ℕ} (e : Event) → e.name ≡ n → named (k ∷ []) e ≡ eqb n k
named-so k e p = rw (p, or-false)

module _ {c : Context} {n : ℕ} where
  pub tells-tight : {x : Bool} → Tells Any is_tight c x → Tells (LooksBack n) is_tight_paragraph c (x && eqb n 12)
  unfolding test
  tells-tight {x} a = record {
    tells = λ t w o b s y v r p.
        let g = asked t (λ e. tight_of s.tight && named (12 ∷ []) e) y v p in
        let k : tight_of s.tight ≡ x = a.tells t w o b s (tight_of s.tight) (record {}) r refl in
        sym g.2 ∙ ap₂ ◌&&◌ k (named-so 12 g.0 g.1);
  }

  pub tells-empty : Tells (LooksBack n) is_empty_item c (eqb n 24)
  unfolding test
  tells-empty = record { tells = λ t w o b s y v r p. (let g = asked t (λ e. named (24 ∷ []) e) y v p in sym g.2 ∙ named-so 24 g.0 g.1) }
