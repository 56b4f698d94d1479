-- The attribute of a list's start, which the event's slice says. Assumes nothing.
use Rattle.std.specs.Prelude.{if◌then◌else◌, ◌⊎◌}
use mathlib.Core.Path.{◌≡◌, refl, sym, ◌∙◌}
use mathlib.Core.Bool.{Bool, true, false, ◌&&◌}
use mathlib.Core.List.{List}
use Prim.Native.Nat.{ℕ, ◌-◌, ◌≤◌, ◌<◌}
use native.Mathlib.Omega.{arith}
use borrow.Author.Tests.{leb-true}
use lib.Dec.{leb}
use lib.ListN.{length, take, drop}
use Rattle.lent.proofs.Laws.{and_left, and_right}
use Rattle.utf8.specs.Utf8.{is_utf8}
use Rattle.event.specs.declared.Event.{Event}
use Rattle.machine.specs.State.{State}
use Rattle.machine.specs.Outcome.{stop, go, ◌>>=◌}
use Rattle.machine.specs.Buffers.{push}
use Rattle.machine.specs.Text.{start_of}
use Rattle.machine.specs.Turn.{Turn, span_of, slice_of, as_str, str_of, own_str}
use Rattle.machine.specs.Command.{exec}
use Rattle.machine.specs.Words.{start}
use Rattle.machine.proofs.Outcomes.{first_goes}
use Rattle.machine_bounded.specs.Within.{within}
use Rattle.machine_bounded.proofs.Bounds.{done}
use Rattle.state_buffers.specs.declared.Buffers.{Buffers}
use Rattle.write_pieces.specs.Pieces.{PushesStart}
use Rattle.state_context.specs.declared.Context.{Context}
use Rattle.state_context.specs.Rel.{Sees, Keeps}
use Rattle.state_context.proofs.Laws.{with_buffers, rel-buffers, pushed}
use Rattle.state_context.proofs.Slices.{Sliced, own-slice, no-slice}

module _ (text : List ℕ) (e : Event) where
  record Started (s u : State) : Type 0 where
    pub part : List ℕ
    pub value : List ℕ
    pub is-part : Sliced text e part
    pub is-value : start_of part ≡ go value
    pub came : push value s ≡ u

  started : (t : Turn) (s u : State) → Sees text e t → within start t s ≡ go u → Started s u
  unfolding exec within
  started t s u v p =
      let q = (done true (own_str t >>= start_of >>= λ b. go (push b s)) u p).went in
      let f = first_goes (own_str t >>= start_of) (λ b. go (push b s)) u q in
      let g = first_goes (own_str t) start_of f.0 f.1 in
      let h = f.2 in
      record { part = g.0; value = f.0; is-part = own-slice text e t g.0 v g.1; is-value = g.2; came = cc }

  module _ {c : Context} {w o : List ℕ} where
    pub no-start : (e.to.0 < e.from.0) ⊎ (length text < e.to.0) → Keeps (Sees text e) start c w o c w o
    no-start h = record { keeps = λ t b s u v x p. absurd (no-slice h (started t s u v p).is-part) }

    pub starts : {z : List ℕ} {x : Buffers} {w' o' : List ℕ} → z ≡ take (e.to.0 - e.from.0) (drop e.from.0 text) → PushesStart z c.buffers w o x w' o' → Keeps (Sees text e) start c w o (with_buffers x c) w' o'
    starts {z} i k = record {
      keeps = λ t b s u v y p.
          let f = started t s u v p in
          let q : start_of z ≡ go f.value = rw (i, ← f.is-part.bytes) f.is-value in
          rw (← f.came) (rel-buffers y (pushed f.value s) ((k.pushes f.value q).keeps b s y.stand));
    }
