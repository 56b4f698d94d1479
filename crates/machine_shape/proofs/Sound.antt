-- The law: a command whose shape goes on does not stop within the code's tables, and its state has the new shape. Assumes nothing.
use mathlib.Core.Path.{◌≡◌, refl, ap, ◌∙◌}
use mathlib.Core.Bool.{Bool, true, false}
use mathlib.Core.List.{List, [], ◌∷◌}
use mathlib.Core.Option.{Option, none, some}
use Prim.Native.Nat.{ℕ, zero, suc, ◌+◌, ◌-◌, ◌≤◌}
use native.Mathlib.Omega.{arith}
use lib.Dec.{T}
use borrow.Author.Tests.{le-leb}
use lib.ListN.{length}
use Rattle.machine.specs.Outcome.{Outcome, go, ◌>>=◌, need}
use Rattle.machine.specs.State.{State}
use Rattle.machine.specs.Turn.{Turn}
use Rattle.machine.specs.Test.{test}
use Rattle.machine.specs.Command.{Command, nothing, step, ◌▸◌, whether, missing_cells, perform, repeat}
use Rattle.machine_bounded.specs.Within.{fitting, fitting_only, one, in_order, within}
use Rattle.machine_shape.specs.Facts.{wait_facts, is_set}
use Rattle.machine_shape.specs.Shape.{Shape, Rel, Low, seq, covers}
use Rattle.machine_shape.specs.Acts.{Contract, Ready, act}
use Rattle.machine_shape.specs.Fits.{small, meets, steps, waits_for, any_cell, goes}
use Rattle.machine_shape.specs.Right.{Few, Right}
use Rattle.machine_shape.proofs.Says.{each, mean-sure}
use Rattle.machine_shape.proofs.Rel.{rel-later, rel-less, ready, low}
use Rattle.machine_shape.proofs.Done.{Done}
use Rattle.machine_shape.proofs.Steps.{done-step}
use Rattle.machine_shape.proofs.Ways.{Way, way}

-- it goes on, to a state whose shape passes a test and whose stacks have m at most
pub record Sound (m : ℕ) (o : Outcome State) (f : Shape → Bool) (b : State) : Type 0 where
  pub state : State
  pub goes : o ≡ go state
  pub shape : Shape
  pub rel : Rel shape b state
  pub fine : T (f shape)
  pub low : Low m state
  pub few : Few state.kept

pub fits_in : (n : ℕ) (s : State) → n ≤ 64 → Low n s → Few s.kept → fitting s ≡ true
unfolding fitting
fits_in n s h l f =
    rw (le-leb (length s.captures) 64 (omega (arith, l.captures)), le-leb (length s.tight) 64 (omega (arith, l.tight)), le-leb (length s.media) 64 (omega (arith, l.media)), le-leb (length s.labels) 64 (omega (arith, l.labels)), le-leb (length s.kept.definitions) 128 f.definitions, le-leb (length s.kept.footnotes) 64 f.footnotes, le-leb (length s.kept.calls) 64 f.calls, f.times) refl

in_one : (ok : Bool) (o : Outcome State) (u : State) → ok ≡ true → o ≡ go u → fitting u ≡ true → one ok o ≡ go u
in_one ok o u p q r = rw (p, q, fitting_only, r) refl

-- each stack of b has k at most, and n more have room
module _ (n k : ℕ) (room : k + n ≤ 64) (b : State) (base : Low k b) where
  pub stepped : (c : Contract) (x : Shape) (f : Shape → Bool) (s : State) (o : Outcome State) (ok : Bool) → T (steps n x c f) → Rel x b s → Few s.kept → (Ready c s → Done o ok c.does s) → Sound (k + n) (one ok o) f b
  stepped c x f s o ok g h w d =
      let p = each (meets x c ∷ small n (seq x c.does) ∷ f (seq x c.does) ∷ []) g in
      let e = d (ready x c b s p.0 h) in
      let r = rel-later x c.does b s e.state h e.rel in
      let z = e.few w in
      let l = low n k (seq x c.does) b e.state p.1.0 r base in
      record { state = e.state; goes = in_one ok o e.state e.order e.goes (fits_in (k + n) e.state room l z); shape = seq x c.does; rel = r; fine = p.1.1.0; low = l; few = z }

  -- as often as it is asked
  repeated : (w : Shape) (F : State → Outcome State) → ((s : State) → Rel w b s → Low (k + n) s → Few s.kept → Sound (k + n) (F s) (λ y. covers y w) b) → (m : ℕ) (s : State) → Rel w b s → Low (k + n) s → Few s.kept
      → (u : State) × (repeat m F s ≡ go u) × Rel w b u × Low (k + n) u × Few u.kept
  repeated w F i zero s h l f = (s, refl, h, l, f)
  repeated w F i (suc m) s h l f =
      let r = i s h l f in
      let q = repeated w F i m r.state (rel-less r.shape w b r.state r.fine r.rel) r.low r.few in
      (q.0, ap (λ (o : Outcome State). o >>= λ u. repeat m F u) r.goes ∙ q.1, q.2, q.3, q.4)

  cells : (w : Shape) (F : State → Outcome State) (f : Shape → Bool) (s : State) (o : Option (List ℕ)) → T (is_set o) → T (f w) → ((u : State) → Rel w b u → Low (k + n) u → Few u.kept → Sound (k + n) (F u) (λ y. covers y w) b) → Rel w b s → Low (k + n) s → Few s.kept
      → Sound (k + n) (need o >>= λ aligns. repeat (length aligns - s.table.column) F s) f b
  cells w F f s none i t j h l z = absurd i
  cells w F f s (some xs) i t j h l z =
      let q = repeated w F j (length xs - s.table.column) s h l z in
      record { state = q.0; goes = q.1; shape = w; rel = q.2; fine = t; low = q.3; few = q.4 }

  chosen : (q : Outcome Bool) (c d : Outcome State) (F : Shape → Bool) (f g : Shape → Bool) (s : State) → (w : Way q f g b s) → (T (f w.shape) → Sound (k + n) c F b) → (T (g w.shape) → Sound (k + n) d F b) → Sound (k + n) (q >>= elim [ true ↦ c | false ↦ d ]) F b
  chosen q c d F f g s w i j = at w.answer w.goes w.fine
    where
      at : (r : Bool) → q ≡ go r → T (elim r [ true ↦ f w.shape | false ↦ g w.shape ]) → Sound (k + n) (q >>= elim [ true ↦ c | false ↦ d ]) F b
      at true e t = let r = i t in record { state = r.state; goes = ap (λ (p : Outcome Bool). p >>= elim [ true ↦ c | false ↦ d ]) e ∙ r.goes; shape = r.shape; rel = r.rel; fine = r.fine; low = r.low; few = r.few }
      at false e t = let r = j t in record { state = r.state; goes = ap (λ (p : Outcome Bool). p >>= elim [ true ↦ c | false ↦ d ]) e ∙ r.goes; shape = r.shape; rel = r.rel; fine = r.fine; low = r.low; few = r.few }

  pub sound : (c : Command) (t : Turn) (x : Shape) (f : Shape → Bool) (s : State) → T (goes n c x f) → Rel x b s → Low (k + n) s → Few s.kept → Right c t s → Sound (k + n) (within c t s) f b
  unfolding goes within Right
  sound nothing t x f s g h l w r = record { state = s; goes = in_one true (go s) s refl refl (fits_in (k + n) s room l w); shape = x; rel = h; fine = g; low = l; few = w }
  sound (step a) t x f s g h l w r = stepped (act a) x f s (perform a t s) (in_order a s) g h w (λ q. done-step t s a q r)
  sound (c ▸ d) t x f s g h l w r =
      let i = sound c t x (λ y. goes n d y f) s g h l w r.0 in
      let j = sound d t i.shape f i.state i.fine i.rel i.low i.few (r.1 i.state i.goes) in
      record { state = j.state; goes = ap (λ (o : Outcome State). o >>= λ u. within d t u) i.goes ∙ j.goes; shape = j.shape; rel = j.rel; fine = j.fine; low = j.low; few = j.few }
  sound (whether q c d) t x f s g h l w r =
      let p = way t x (λ y. goes n c y f) (λ y. goes n d y f) b s h q g r.0 in
      chosen (test q t s) (within c t s) (within d t s) f (λ y. goes n c y f) (λ y. goes n d y f) s p (λ i. sound c t p.shape f s i p.rel l w r.1) (λ i. sound d t p.shape f s i p.rel l w r.2)
  sound (missing_cells c) t x f s g h l w r =
      let p = each (waits_for 7 x ∷ covers x (any_cell x) ∷ goes n c (any_cell x) (λ y. covers y (any_cell x)) ∷ f (any_cell x) ∷ []) g in
      cells (any_cell x) (λ u. within c t u) f s s.table.aligns (mean-sure b s wait_facts x.waits 7 p.0 h.waits) p.1.1.1.0 (λ u i j v. sound c t (any_cell x) (λ y. covers y (any_cell x)) u p.1.1.0 i j v (r u)) (rel-less x (any_cell x) b s p.1.0 h) l w
