-- The table of the relation: opened, closed, its columns counted and asked. Assumes nothing.
use mathlib.Core.Path.{◌≡◌, refl, sym, ap, ◌∙◌}
use mathlib.Core.Bool.{true, false}
use mathlib.Core.Option.{none, some}
use Prim.Native.Nat.{ℕ, zero, suc, ◌+◌, ◌≤◌, ◌<◌}
use native.Mathlib.Omega.{arith}
use Rattle.event.specs.declared.Event.{Event}
use Rattle.event.specs.Event.{columns_of, alignments_from, alignments_of}
use Rattle.machine.specs.State as State
use Rattle.machine.specs.State.{State}
use Rattle.machine.specs.Outcome.{go}
use Rattle.machine.specs.Set.{set_aligns}
use Rattle.machine.specs.Turn.{Turn}
use Rattle.machine.specs.Command.{Command, exec}
use Rattle.machine.specs.Words.{columns, no_columns, next_column, first_column}
use Rattle.machine_bounded.specs.Within.{one, within}
use Rattle.machine_bounded.proofs.Bounds.{done}
use Rattle.state_context.specs.declared.Table.{Table}
use Rattle.state_context.specs.declared.Context.{Context}
use Rattle.state_context.specs.Rel.{Sets, SetsFor, Tabled, enter_of}
use Rattle.state_context.proofs.Plain.{stands, setting}
use Rattle.on_table.specs.Table.{IsEvent}

-- ---- the table alone

abbrev with_table : Table → Context → Context
with_table x c = record { buffers = c.buffers; word = c.word; rank = c.rank; tight = c.tight; table = x }

abbrev columned : ℕ → Context → Context
columned n c = with_table (record { inside = c.table.inside; extra = c.table.extra; column = n }) c

-- the columns are those of the event's extra field, whatever else it holds
from-extra : (column n : ℕ) (e : Event) → alignments_from column n (enter_of e.extra) ≡ alignments_from column n e
unfolding alignments_from
from-extra column zero e = refl
from-extra column (suc n) e = rw (from-extra (column + 1) n e)

of-extra : (e : Event) → alignments_of (enter_of e.extra) ≡ alignments_of e
unfolding alignments_of
of-extra e = from-extra 0 (columns_of e) e

module _ {c : Context} where
  pub opened : (e : Event) → SetsFor (IsEvent e) columns c (with_table (record { inside = true; extra = e.extra; column = c.table.column }) c)
  unfolding exec within
  opened e = record {
    sets = λ w o. record {
      keeps = λ t b s u v x p.
          let g = (done true (go (set_aligns (some (alignments_of t.event)) s)) u p).went in
          let q : set_aligns (some (alignments_of t.event)) s ≡ u = cc in
          let i : some (alignments_of (enter_of e.extra)) ≡ some (alignments_of t.event) = ap some (of-extra e ∙ ap alignments_of (sym v.event-is)) in
          rw (← q) (record {
            stand = stands x.stand refl refl;
            flags = x.flags;
            waits = x.waits;
            tight = x.tight;
            table = record { aligns = i; column = x.table.column };
            fixed = x.fixed;
          });
    };
  }

  -- a command that sets the machine's table
  tabling : {d : Command} (y : Table) (f : State.Table → State.Table)
      → ((t : Turn) (s : State) → within d t s ≡ one true (go (record { page = s.page; captures = s.captures; media = s.media; tight = s.tight; labels = s.labels; flags = s.flags; waiting = s.waiting; table = f s.table; kept = s.kept; fixed = s.fixed })))
      → ((a : State.Table) → Tabled c.table a → Tabled y (f a))
      → Sets d c (with_table y c)
  tabling y f e k =
      setting (λ s. record { page = s.page; captures = s.captures; media = s.media; tight = s.tight; labels = s.labels; flags = s.flags; waiting = s.waiting; table = f s.table; kept = s.kept; fixed = s.fixed }) e
      (λ w o b s i r. record { stand = stands r.stand refl refl; flags = r.flags; waits = r.waits; tight = r.tight; table = k s.table r.table; fixed = r.fixed })

  pub closed : Sets no_columns c (with_table (record { inside = false; extra = c.table.extra; column = c.table.column }) c)
  unfolding exec within
  closed = tabling _ (λ a. record { aligns = none; column = a.column }) (λ t s. refl) (λ a x. record { aligns = refl; column = x.column })

  pub first-again : Sets first_column c (columned 0 c)
  unfolding exec within
  first-again = tabling _ (λ a. record { aligns = a.aligns; column = 0 }) (λ t s. refl) (λ a x. record { aligns = x.aligns; column = omega arith })

  pub counts : c.table.column ≤ 255 → Sets next_column c (columned (c.table.column + 1) c)
  unfolding exec within
  counts h = tabling _ (λ a. record { aligns = a.aligns; column = suc a.column }) (λ t s. refl) (λ a x. record { aligns = x.aligns; column = omega (arith, x.column) })

  pub counts-no-more : 255 < c.table.column → Sets next_column c c
  unfolding exec within
  counts-no-more h = tabling c.table (λ a. record { aligns = a.aligns; column = suc a.column }) (λ t s. refl) (λ a x. record { aligns = x.aligns; column = omega (arith, x.column) })
