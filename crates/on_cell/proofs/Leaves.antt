-- Commands that leave the table of the machine as it is. Assumes nothing.
use Rattle.std.specs.Prelude.{if◌then◌else◌}
use mathlib.Core.Path.{◌≡◌, sym, ap, ◌∙◌}
use mathlib.Core.Bool.{Bool, true, false}
use mathlib.Core.List.{List}
use Prim.Native.Nat.{ℕ}
use Prim.Native.String.{String}
use Rattle.lent.specs.Bytes.{bytes}
use Rattle.machine.specs.State.{State}
use Rattle.machine.specs.Outcome.{go}
use Rattle.machine.specs.Buffers.{push, ending_if_needed}
use Rattle.machine.specs.Text.{align_text}
use Rattle.machine.specs.Turn.{Turn}
use Rattle.machine.specs.Test.{Test, test}
use Rattle.machine.specs.Command.{Command, ◌▸◌, whether, exec}
use Rattle.machine.specs.Words.{put, alignment, line_ending_if_needed}
use Rattle.machine.proofs.Outcomes.{first_goes}
use Rattle.machine_bounded.specs.Within.{within}
use Rattle.machine_bounded.proofs.Bounds.{done}
use Rattle.state_context.proofs.Laws.{pushed}
use Rattle.on_table.proofs.Asked.{went-aligned}

pub record Leaves (d : Command) : Type 0 where
  pub leaves : (t : Turn) (s u : State) → within d t s ≡ go u → u.table ≡ s.table

pub leaves-seq : {d e : Command} → Leaves d → Leaves e → Leaves (d ▸ e)
unfolding within
leaves-seq {d} {e} k l = record {
  leaves = λ t s u p.
      let f = first_goes (within d t s) (λ y. within e t y) u p in
      l.leaves t f.0 u f.2 ∙ k.leaves t s f.0 f.1;
}

pub leaves-whether : {q : Test} {d e : Command} → Leaves d → Leaves e → Leaves (whether q d e)
unfolding within
leaves-whether {q} {d} {e} k l = record {
  leaves = λ t s u p.
      let f = first_goes (test q t s) (elim [ true ↦ within d t s | false ↦ within e t s ]) u p in
      on t s u f.0 f.2;
}
  where
    on : (t : Turn) (s u : State) (x : Bool) → elim x [ true ↦ within d t s | false ↦ within e t s ] ≡ go u → u.table ≡ s.table
    on t s u true p = k.leaves t s u p
    on t s u false p = l.leaves t s u p

-- a text is appended
appended : (b : List ℕ) (s u : State) → go (push b s) ≡ go u → u.table ≡ s.table
appended b s u p = let q : push b s ≡ u = cc in ap (λ (v : State). v.table) (sym q) ∙ (pushed b s).table

pub leaves-put : {text : String} → Leaves (put text)
unfolding exec within
leaves-put {text} = record { leaves = λ t s u p. appended (bytes text) s u (done true (go (push (bytes text) s)) u p).went }

pub leaves-line : Leaves line_ending_if_needed
unfolding exec within
leaves-line = record { leaves = λ t s u p. appended (ending_if_needed s) s u (done true (go (push (ending_if_needed s) s)) u p).went }

pub leaves-alignment : Leaves alignment
leaves-alignment = record { leaves = λ t s u p. (let g = went-aligned t s u p in appended (align_text g.one) s u g.pushed-so) }
