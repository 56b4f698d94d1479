-- Cells that a row lacks: one, and all of them. Assumes nothing.
use mathlib.Core.Path.{◌≡◌, sym, ap, ◌∙◌}
use mathlib.Core.Bool.{true, false}
use mathlib.Core.List.{List}
use mathlib.Core.Option.{some}
use Prim.Native.Nat.{ℕ, suc, ◌-◌, ◌≤◌, ◌<◌}
use native.Mathlib.Omega.{arith}
use borrow.Author.Tests.{lt-leb}
use lib.ListN.{length}
use Rattle.machine.specs.State.{State}
use Rattle.machine.specs.Outcome.{go, need}
use Rattle.machine.specs.Set.{set_column}
use Rattle.machine.specs.Turn.{Turn}
use Rattle.machine.specs.Test.{Test, is_past_columns, test}
use Rattle.machine.specs.Command.{Command, ◌▸◌, whether, missing_cells, repeat, exec}
use Rattle.machine.specs.Words.{put, alignment, line_ending_if_needed, next_column, buffer, drop}
use Rattle.machine.specs.OnCell.{on_enter_gfm_table_cell, on_exit_gfm_table_cell}
use Rattle.machine.proofs.Outcomes.{first_goes, need-goes}
use Rattle.machine_bounded.specs.Within.{within}
use Rattle.machine_bounded.proofs.Bounds.{done}
use Rattle.state_context.specs.declared.Context.{Context}
use Rattle.state_context.specs.Rel.{Rel, Any, Keeps, Sets}
use Rattle.on_table.specs.Table.{Lacks}
use Rattle.on_cell.specs.Private.{cell_name, opening_cell, closing_cell, phantom_cell, AddsCell}
use Rattle.on_cell.proofs.Leaves.{leaves-seq, leaves-whether, leaves-put, leaves-line, leaves-alignment}

-- ---- one cell

-- the way that the machine goes in a column of the table: no capture is opened or taken off
record Way (t : Turn) (s u : State) : Type 0 where
  pub opened : State
  pub closed : State
  pub opens : within opening_cell t s ≡ go opened
  pub closes : within closing_cell t opened ≡ go closed
  pub counts : within next_column t closed ≡ go u
  pub table : closed.table ≡ s.table

answered-no : (q : Test) (d e : Command) (t : Turn) (s u : State) → test q t s ≡ go false → within (whether q d e) t s ≡ go u → within e t s ≡ go u
unfolding within
answered-no q d e t s u a p = rw a at p

still : (t : Turn) (s u : State) → u.table ≡ s.table → test is_past_columns t s ≡ go false → test is_past_columns t u ≡ go false
unfolding test
still t s u e p = rw e p

way : (t : Turn) (s u : State) → test is_past_columns t s ≡ go false → within phantom_cell t s ≡ go u → Way t s u
unfolding within on_enter_gfm_table_cell on_exit_gfm_table_cell
way t s u a p =
    let f = first_goes (within on_enter_gfm_table_cell t s) (λ y. within on_exit_gfm_table_cell t y) u p in
    let i = answered-no is_past_columns buffer opening_cell t s f.0 a f.1 in
    let l = (leaves-seq leaves-line (leaves-seq (leaves-whether (leaves-put {text = "<th"}) (leaves-put {text = "<td"})) (leaves-seq leaves-alignment (leaves-put {text = ">"})))).leaves t s f.0 i in
    let g = first_goes (within (whether is_past_columns drop closing_cell) t f.0) (λ y. within next_column t y) u f.2 in
    let j = answered-no is_past_columns drop closing_cell t f.0 g.0 (still t s f.0 l a) g.1 in
    let m = (leaves-whether (leaves-put {text = "</th>"}) (leaves-put {text = "</td>"})).leaves t f.0 g.0 j in
    record { opened = f.0; closed = g.0; opens = i; closes = j; counts = g.2; table = m ∙ l }

-- one command and then another
goes_on : (d e : Command) (t : Turn) (s y u : State) → within d t s ≡ go y → within e t y ≡ go u → within (d ▸ e) t s ≡ go u
unfolding within
goes_on d e t s y u p q = rw p q

-- the last two of a cell's texts together
ends_so : (t : Turn) (s y u : State) → within opening_cell t s ≡ go y → within closing_cell t y ≡ go u → within (line_ending_if_needed ▸ cell_name ▸ alignment ▸ put ">" ▸ closing_cell) t s ≡ go u
unfolding within
ends_so t s y u p q =
    let f = first_goes (within line_ending_if_needed t s) (λ z. within (cell_name ▸ alignment ▸ put ">") t z) y p in
    let g = first_goes (within cell_name t f.0) (λ z. within (alignment ▸ put ">") t z) y f.2 in
    let h = first_goes (within alignment t g.0) (λ z. within (put ">") t z) y g.2 in
    goes_on line_ending_if_needed (cell_name ▸ alignment ▸ put ">" ▸ closing_cell) t s f.0 u f.1
    (goes_on cell_name (alignment ▸ put ">" ▸ closing_cell) t f.0 g.0 u g.1 (goes_on alignment (put ">" ▸ closing_cell) t g.0 h.0 u h.1 (goes_on (put ">") closing_cell t h.0 y u h.2 q)))

pub adds : {c q z : Context} {w o w'' o'' : List ℕ} → Keeps Any (line_ending_if_needed ▸ cell_name ▸ alignment ▸ put ">" ▸ closing_cell) c w o q w'' o'' → Sets next_column q z → AddsCell c w o z w'' o''
adds {w'' = w''} {o'' = o''} k m = record {
  adds = λ t b s u a x p.
      let y = way t s u a p in
      let j = k.keeps t b s y.closed (record {}) x (ends_so t s y.opened y.closed y.opens y.closes) in
      (m.sets w'' o'').keeps t b y.closed u (record {}) j y.counts;
}

-- the machine's table behind it
counted : (t : Turn) (s u : State) → within next_column t s ≡ go u → u ≡ set_column (suc s.table.column) s
unfolding exec within
counted t s u p = let d = (done true (go (set_column (suc s.table.column) s)) u p).went in let q : set_column (suc s.table.column) s ≡ u = cc in sym q

-- ---- all of them

-- on the way to u: the cells that are left, and the machine's state here
pub record Midway (t : Turn) (b : List ℕ) (u : State) (r : Context) (w o : List ℕ) (left : ℕ) : Type 0 where
  pub state : State
  pub rel : Rel r w o b state
  pub aligns : List ℕ
  pub aligns-are : state.table.aligns ≡ some aligns
  pub left_is : left ≡ length aligns - state.table.column
  pub rest : repeat left (λ v. within phantom_cell t v) state ≡ go u

pub record Left (c : Context) (w o : List ℕ) (r : Context) (w' o' : List ℕ) (left : ℕ) : Type 0 where
  pub midway : (t : Turn) (b : List ℕ) (s u : State) → Rel c w o b s → within (missing_cells phantom_cell) t s ≡ go u → Midway t b u r w' o' left

pub all_left : {c : Context} {w o : List ℕ} {left : ℕ} → Lacks c left → Left c w o c w o left
unfolding within
all_left {c} {w} {o} {left} k = record {
  midway = λ t b s u x p.
      let f = need-goes s.table.aligns (λ (aligns : List ℕ). repeat (length aligns - s.table.column) (λ v. within phantom_cell t v) s) u p in
      let a = f.1 in
      let e = k.lacks w o b f.0 s x a in
      record { state = s; rel = x; aligns = f.0; aligns-are = a; left_is = e; rest = rw e f.2 };
}

-- a column that the row lacks is one of the table's
in_table : (t : Turn) (s : State) (aligns : List ℕ) → s.table.aligns ≡ some aligns → s.table.column < length aligns → test is_past_columns t s ≡ go false
unfolding test
in_table t s aligns p h = rw p (ap go (lt-leb (length aligns) s.table.column h))

after_one : {t : Turn} {b : List ℕ} {u : State} {r q : Context} {w o w' o' : List ℕ} (k : ℕ) → AddsCell r w o q w' o' → Midway t b u r w o (suc k) → Midway t b u q w' o' k
after_one {t} {b} {u} k x m =
    let s = m.state in
    let n = m.left_is in
    let a = in_table t s m.aligns m.aligns-are (omega arith) in
    let f = first_goes (within phantom_cell t s) (λ v. repeat k (λ y. within phantom_cell t y) v) u m.rest in
    let y = way t s f.0 a f.1 in
    let e = counted t y.closed f.0 y.counts in
    let i : f.0.table.aligns ≡ some m.aligns = rw (e, y.table) m.aligns-are in
    let j : f.0.table.column ≡ suc s.table.column = rw (e, y.table) in
    record { state = f.0; rel = x.adds t b s f.0 a m.rel f.1; aligns = m.aligns; aligns-are = i; left_is = omega arith; rest = f.2 }

pub one_less : {c r q : Context} {w o w' o' w'' o'' : List ℕ} {left less : ℕ} → Left c w o r w' o' left → left ≡ suc less → AddsCell r w' o' q w'' o'' → Left c w o q w'' o'' less
one_less {left = left} {less = less} k h x = record {
  midway = λ t b s u y p.
      let e : left ≡ suc less = omega arith in
      after_one less x (rw e at (k.midway t b s u y p));
}

pub none_left : {c r : Context} {w o w' o' : List ℕ} {left : ℕ} → Left c w o r w' o' left → left ≤ 0 → Keeps Any (missing_cells phantom_cell) c w o r w' o'
none_left {left = left} k h = record {
  keeps = λ t b s u v x p.
      let e : left ≡ 0 = omega arith in
      let m = k.midway t b s u x p in
      let z : go m.state ≡ go u = rw e at m.rest in
      let q : m.state ≡ u = cc in
      rw (← q) m.rel;
}
