-- What is asked of the table that is open. Outside of one the machine stops. Assumes nothing.
use Rattle.std.specs.Prelude.{if◌then◌else◌}
use mathlib.Core.Path.{◌≡◌, refl, sym, ap, ◌∙◌}
use mathlib.Core.Bool.{Bool, true, false}
use mathlib.Core.List.{List, [], ◌∷◌}
use mathlib.Core.Option.{Option, none, some}
use Prim.Native.Nat.{ℕ, zero, suc, ◌-◌, ◌≤◌, ◌<◌}
use native.Mathlib.Omega.{arith}
use borrow.Author.Tests.{le-leb, lt-leb, leb-true, leb-false}
use lib.Dec.{leb}
use lib.ListN.{length, get_elem?}
use Rattle.event.specs.Event.{columns_of, alignments_of}
use Rattle.event.proofs.Laws.{length-alignments}
use Rattle.machine.specs.State as State
use Rattle.machine.specs.State.{State}
use Rattle.machine.specs.Outcome.{go, ◌>>=◌, need}
use Rattle.machine.specs.Buffers.{push}
use Rattle.machine.specs.Text.{align_text}
use Rattle.machine.specs.Turn.{Turn}
use Rattle.machine.specs.Test.{is_past_columns, test}
use Rattle.machine.specs.Command as C
use Rattle.machine.specs.Words.{alignment}
use Rattle.machine.proofs.Outcomes.{need-goes}
use Rattle.state_buffers.specs.declared.Buffers.{Buffers}
use Rattle.machine_bounded.specs.Within.{within}
use Rattle.machine_bounded.proofs.Bounds.{wrote}
use Rattle.write_pieces.specs.Pieces.{PushesAlign}
use Rattle.state_context.specs.declared.Table.{Table}
use Rattle.state_context.specs.declared.Context.{Context}
use Rattle.state_context.specs.Rel.{Any, Keeps, Tells, Tabled, aligns_of, enter_of}
use Rattle.state_context.proofs.Laws.{with_buffers, rel-buffers, pushed}
use Rattle.on_table.specs.Table.{Lacks}

there : {A : Type 0} (l : List A) (i : ℕ) (a : A) → get_elem? l i ≡ some a → i < length l
there [] i a p = let z : ◌≡◌ {A = ℕ} 0 1 = cc in absurd (omega arith)
there (x ∷ l) zero a p = omega arith
there (x ∷ l) (suc i) a p = let h = there l i a p in omega arith

-- in a table: its columns are those that the extra field has, and few
record Known (t : Table) (aligns : List ℕ) : Type 0 where
  pub are : alignments_of (enter_of t.extra) ≡ aligns
  pub many : length aligns ≡ columns_of (enter_of t.extra)
  pub few : length aligns < 256

known : (t : Table) (aligns : List ℕ) → aligns_of t ≡ some aligns → Known t aligns
known t aligns p = on t.inside p
  where
    on : (x : Bool) → (if x then some (alignments_of (enter_of t.extra)) else none) ≡ some aligns → Known t aligns
    on false q = let z : ◌≡◌ {A = ℕ} 0 1 = cc in absurd (omega arith)
    on true q =
        let e : alignments_of (enter_of t.extra) ≡ aligns = cc in
        let n : length aligns ≡ columns_of (enter_of t.extra) = ap length (sym e) ∙ length-alignments (enter_of t.extra) in
        record { are = e; many = n; few = omega arith }

-- the answer does not change where the count stands
asked : (b : Table) (n : ℕ) (a : State.Table) (aligns : List ℕ) → n ≡ columns_of (enter_of b.extra) → Tabled b a → a.aligns ≡ some aligns → leb (length aligns) a.column ≡ leb n b.column
asked b n a aligns e x p = on (leb n b.column) refl
  where
    k : Known b aligns
    k = known b aligns (x.aligns ∙ p)

    on : (y : Bool) → leb n b.column ≡ y → leb (length aligns) a.column ≡ y
    on true q = le-leb (length aligns) a.column (omega (arith, leb-true n b.column q, k.many, k.few, x.column))
    on false q = lt-leb (length aligns) a.column (omega (arith, leb-false n b.column q, k.many, k.few, x.column))

module _ {c : Context} where
  pub tells-past : (n : ℕ) → n ≡ columns_of (enter_of c.table.extra) → Tells Any is_past_columns c (leb n c.table.column)
  unfolding test
  tells-past n e = record {
    tells = λ t w o b s y v x p.
        let f = need-goes s.table.aligns (λ (aligns : List ℕ). go (leb (length aligns) s.table.column)) y p in
        let g = f.2 in
        let q : leb (length f.0) s.table.column ≡ y = cc in
        sym q ∙ asked c.table n s.table f.0 e x.table f.1;
  }

  pub lacking : (m : ℕ) → m ≡ columns_of (enter_of c.table.extra) - c.table.column → Lacks c m
  lacking m e = record {
    lacks = λ w o b aligns s x p.
        let k = known c.table aligns (x.table.aligns ∙ p) in
        omega (arith, k.many, k.few, x.table.column);
  }

-- ---- a column's alignment

-- what the machine pushed, where it went on
pub record Aligned (s u : State) : Type 0 where
  pub aligns : List ℕ
  pub aligns-are : s.table.aligns ≡ some aligns
  pub one : ℕ
  pub one-is : get_elem? aligns s.table.column ≡ some one
  pub pushed-so : go (push (align_text one) s) ≡ go u

pub went-aligned : (t : Turn) (s u : State) → within alignment t s ≡ go u → Aligned s u
went-aligned t s u p =
    let d = wrote C.alignment t s u p in
    let f = need-goes s.table.aligns (λ (aligns : List ℕ). need (get_elem? aligns s.table.column) >>= λ a. go (align_text a)) d.0 d.1 in
    let g = need-goes (get_elem? f.0 s.table.column) (λ a. go (align_text a)) d.0 f.2 in
    let z : align_text g.0 ≡ d.0 = (let y = g.2 in cc) in
    record { aligns = f.0; aligns-are = f.1; one = g.0; one-is = g.1; pushed-so = ap (λ (l : List ℕ). go (push l s)) z ∙ ap go d.2 }

pub aligned : {c : Context} {w o w' o' : List ℕ} {x : Buffers} → PushesAlign c.table.extra c.table.column c.buffers w o x w' o' → Keeps Any alignment c w o (with_buffers x c) w' o'
aligned {c} k = record {
  keeps = λ t b s u v r p.
      let g = went-aligned t s u p in
      let z = g.pushed-so in
      let q : push (align_text g.one) s ≡ u = cc in
      let n = known c.table g.aligns (r.table.aligns ∙ g.aligns-are) in
      let i : c.table.column ≡ s.table.column = omega (arith, there g.aligns s.table.column g.one g.one-is, n.few, r.table.column) in
      let j : get_elem? (alignments_of (enter_of c.table.extra)) c.table.column ≡ some g.one = rw (n.are, i) g.one-is in
      rw (← q) (rel-buffers r (pushed (align_text g.one) s) ((k.pushes g.one j).keeps b s r.stand));
}
