-- The rank of a heading: kept, and written. Assumes nothing.
use Rattle.std.specs.Prelude.{Some, None}
use Rattle.std.specs.Prelude.{if◌then◌else◌, ◌⊎◌}
use Rattle.std.proofs.Common.{inl, inr, ◌+◌}
use mathlib.Core.Path.{◌≡◌, sym, ap, ◌∙◌}
use mathlib.Core.Bool.{true, ◌&&◌}
use mathlib.Core.List.{List}
use mathlib.Core.Option.{Option, none, some}
use Prim.Native.Nat.{ℕ, ◌-◌, ◌≤◌, ◌<◌}
use native.Mathlib.Omega.{arith}
use borrow.Author.Tests.{leb-true}
use lib.Dec.{leb}
use lib.ListN.{length, take, drop, length-take, length-drop}
use Rattle.lent.proofs.Laws.{and_left, and_right}
use Rattle.event.specs.declared.Event.{Event}
use Rattle.machine.specs.State.{State}
use Rattle.machine.specs.Outcome.{go, ◌>>=◌, need}
use Rattle.machine.specs.Set.{set_rank}
use Rattle.machine.specs.Buffers.{push}
use Rattle.machine.specs.Text.{decimal}
use Rattle.machine.specs.Turn.{Turn, span_of, slice_of}
use Rattle.machine.specs.Command.{exec}
use Rattle.machine.specs.Words.{rank, keep_rank}
use Rattle.machine.proofs.Outcomes.{never, first_goes, joins}
use Rattle.machine_bounded.specs.Within.{within}
use Rattle.machine_bounded.proofs.Bounds.{done}
use Rattle.state_buffers.specs.declared.Buffers.{Buffers}
use Rattle.state_buffers.specs.Stand as Stand
use Rattle.state_context.specs.declared.Context.{Context}
use Rattle.state_context.specs.Rel.{Any, Sees, Keeps, SetsFor, Ranks}
use Rattle.state_context.proofs.Laws.{with_buffers, rel-buffers, pushed}
use Rattle.state_context.proofs.Slices.{passed}

-- ---- kept

module _ (text : List ℕ) (e : Event) where
  -- the slice is of the text
  record Sliced (b : List ℕ) : Type 0 where
    pub ordered : e.from.0 ≤ e.to.0
    pub inside : e.to.0 ≤ length text
    pub long : e.to.0 - e.from.0 ≡ length b

  sliced : (b : List ℕ) → slice_of text (span_of e) ≡ go b → Sliced b
  unfolding slice_of
  sliced b p =
      let from = e.from.0 in
      let to = e.to.0 in
      let g = passed (leb from to && leb to (length text)) p in
      let i : from ≤ to = leb-true from to (and_left (leb from to) (leb to (length text)) g.0) in
      let j : to ≤ length text = leb-true to (length text) (and_right (leb from to) (leb to (length text)) g.0) in
      let k : length (take (to - from) (drop from text)) ≡ to - from = simp (length-take, length-drop) (omega arith) in
      record { ordered = i; inside = j; long = sym k ∙ ap length g.1 }

  own-slice : (t : Turn) (b : List ℕ) → Sees text e t → slice_of t.text (span_of t.event) ≡ go b → Sliced b
  own-slice t b v p = sliced b (rw (v.text-is, v.event-is) at p)

  -- and its length is kept
  kept : (t : Turn) (s u : State) → Sees text e t → within keep_rank t s ≡ go u → (b : List ℕ) × Sliced b × (set_rank (some (length b)) s ≡ u)
  unfolding exec within
  kept t s u v p =
      let q = (done true (slice_of t.text (span_of t.event) >>= λ b. go (set_rank (some (length b)) s)) u p).went in
      let f = first_goes (slice_of t.text (span_of t.event)) (λ b. go (set_rank (some (length b)) s)) u q in
      (f.0, own-slice t f.0 v f.1, (let z = f.2 in cc))

  module _ {c : Context} where
    pub no-rank-kept : (e.to.0 < e.from.0) ⊎ (length text < e.to.0) → SetsFor (Sees text e) keep_rank c c
    no-rank-kept h = record { sets = λ w o. record { keeps = λ t b s u v x p. (let k = (kept t s u v p).1 in absurd (elim h [ inl y ↦ omega (arith, k.ordered) | inr y ↦ omega (arith, k.inside) ])) } }

    pub keeps-rank : {r : Context} {n : ℕ} → n + e.from.0 ≡ e.to.0 → Ranks (Some n) c r → SetsFor (Sees text e) keep_rank c r
    keeps-rank {n = n} h q = record {
      sets = λ w o. record {
        keeps = λ t b s u v x p.
            let k = kept t s u v p in
            let i : n ≡ length k.0 = omega (arith, k.1.long) in
            rw (← k.2, ← i) (q.ranks w o b s x);
      };
    }

-- ---- written

writes : (x : Option ℕ) (s u : State) (n : ℕ) → some n ≡ x → (need x >>= λ n. go (push (decimal n) s)) ≡ go u → push (decimal n) s ≡ u
writes none s u n h p = never p
writes (some m) s u n h p = let i : n ≡ m = cc in rw i (cc)

ranked : (t : Turn) (s u : State) → within rank t s ≡ go u → (need s.waiting.rank >>= λ n. go (push (decimal n) s)) ≡ go u
unfolding exec within
ranked t s u p = sym (joins (need s.waiting.rank) decimal (λ b. go (push b s))) ∙ (done true _ u p).went

stays : {X : Type 0} (x : Option ℕ) (s u : State) → none ≡ x → (need x >>= λ n. go (push (decimal n) s)) ≡ go u → X
stays none s u h p = never p
stays (some m) s u h p = let z : ◌≡◌ {A = ℕ} 0 1 = cc in absurd (omega arith)

module _ {c : Context} {w o : List ℕ} where
  -- with no rank the machine stops
  pub no-rank : c.rank ≡ None → Keeps Any rank c w o c w o
  unfolding exec within
  no-rank q = record {
    keeps = λ t b s u v x p. stays s.waiting.rank s u (rw q at x.waits.rank) (ranked t s u p);
  }

  pub writes-rank : (n : ℕ) → c.rank ≡ Some n → {x : Buffers} {w' o' : List ℕ} → Stand.Keeps (push (decimal n)) c.buffers w o x w' o' → Keeps Any rank c w o (with_buffers x c) w' o'
  unfolding exec within
  writes-rank n q k = record {
    keeps = λ t b s u v x p.
        let j = writes s.waiting.rank s u n (rw q at x.waits.rank) (ranked t s u p) in
        rw (← j) (rel-buffers x (pushed (decimal n) s) (k.keeps b s x.stand));
  }
