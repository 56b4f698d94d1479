-- A question tells what it tells of the stacks: only the one whether a cell is past the columns does. Assumes nothing.
use mathlib.Core.Path.{◌≡◌, refl, ap}
use mathlib.Core.Bool.{Bool, true, false, not, ◌&&◌}
use mathlib.Core.List.{List}
use mathlib.Core.Option.{Option, none, some}
use Prim.Native.Nat.{ℕ}
use lib.Dec.{T, leb}
use lib.ListN.{length, get_or}
use Rattle.machine.specs.Outcome.{Outcome, stop, go, ◌>>=◌, need}
use Rattle.machine.specs.State.{State}
use Rattle.machine.specs.Turn.{Turn}
use Rattle.machine.specs.Test.{Test, is, is_tight, is_in_container, is_image, has_rank, has_seen_data, is_first_fence, is_fenced_once, is_fence_missing, is_first_marker, is_past_columns, is_ordered, is_loose, is_underlined_by_dashes, is_last, is_html_allowed, is_behind_fence, is_behind_definition, is_tight_paragraph, is_empty_item, test}
use Rattle.machine_clean.proofs.Safe.{Safe, stops, goes}
use Rattle.machine_shape.specs.Facts.{is_past, is_within}
use Rattle.machine_shape.specs.Shape.{lost, Shape}
use Rattle.machine_shape.specs.Fits.{is_sure, known, waits_for, ways}
use Rattle.machine_shape.proofs.Says.{both, mean-sure, mean-known}
use Rattle.machine_frame.proofs.Holds.{cell_facts, Holds}

module _ (t : Turn) (x : Shape) (f g : Shape → Bool) (b s : State) (h : Holds x b s) where
  -- with an answer, what is known then
  abbrev pub Way : Bool → Type 0
  Way r = (y : Shape) × Holds y b s × T (elim r [ true ↦ f y | false ↦ g y ])

  either : (r : Bool) → T (f x && g x) → Way r
  either true w = (x, h, (both (f x) (g x) w).0)
  either false w = (x, h, (both (f x) (g x) w).1)

  plain : (o : Outcome Bool) → T (f x && g x) → Safe Way o
  plain stop w = stops
  plain (go r) w = goes (either r w)

  asked : (p : Bool) (o : Outcome Bool) → T (p && (f x && g x)) → Safe Way o
  asked p o w = plain o (both p (f x && g x) w).1

  holds-known : (k : ℕ) → T (get_or cell_facts k (λ s. true) s) → Holds (known k x) b s
  holds-known k i = record { buffers = h.buffers; tight = h.tight; labels = h.labels; stack = h.stack; waits = mean-known b s cell_facts x.waits k i h.waits }

  ranked : (o : Outcome Bool) → T (f (known 0 x) && g x) → Safe Way o
  ranked stop w = stops
  ranked (go true) w = goes (known 0 x, holds-known 0 tt, (both (f (known 0 x)) (g x) w).0)
  ranked (go false) w = goes (x, h, (both (f (known 0 x)) (g x) w).1)

  waits : (k : ℕ) → T (waits_for k x) → T (get_or cell_facts k (λ s. true) s)
  waits k i = mean-sure b s cell_facts x.waits k i h.waits

  -- past the columns or not
  cell : (r p q : Bool) → is_past s.table ≡ r → is_within s.table ≡ not r → waits_for 8 x ≡ p → waits_for 9 x ≡ q → T (elim p [ true ↦ f x | false ↦ elim q [ true ↦ g x | false ↦ f (known 8 x) && g (known 9 x) ] ]) → Way r
  cell true true q e d i j w = (x, h, w)
  cell true false true e d i j w = let z : T (is_within s.table) = waits 9 (rw j tt) in absurd (rw d at z)
  cell true false false e d i j w = (known 8 x, holds-known 8 (rw e tt), (both (f (known 8 x)) (g (known 9 x)) w).0)
  cell false true q e d i j w = let z : T (is_past s.table) = waits 8 (rw i tt) in absurd (rw e at z)
  cell false false true e d i j w = (x, h, w)
  cell false false false e d i j w = (known 9 x, holds-known 9 (rw d tt), (both (f (known 8 x)) (g (known 9 x)) w).1)

  columns : (o : Option (List ℕ)) → s.table.aligns ≡ o → T (elim (waits_for 8 x) [ true ↦ f x | false ↦ elim (waits_for 9 x) [ true ↦ g x | false ↦ f (known 8 x) && g (known 9 x) ] ])
      → Safe Way (need o >>= λ aligns. go (leb (length aligns) s.table.column))
  columns none e w = stops
  columns (some xs) e w =
      goes (cell (leb (length xs) s.table.column) (waits_for 8 x) (waits_for 9 x)
      (ap (λ (o : Option (List ℕ)). elim o [ none ↦ false | some aligns ↦ leb (length aligns) s.table.column ]) e)
      (ap (λ (o : Option (List ℕ)). elim o [ none ↦ false | some aligns ↦ not (leb (length aligns) s.table.column) ]) e) refl refl w)

  pub way : (q : Test) → T (ways q x f g) → Safe Way (test q t s)
  unfolding ways test
  way (is flag) w = plain (test (is flag) t s) w
  way is_tight w = plain (test is_tight t s) w
  way is_in_container w = plain (test is_in_container t s) w
  way is_image w = asked (is_sure (get_or x.media 0 lost)) (test is_image t s) w
  way has_rank w = ranked (test has_rank t s) w
  way has_seen_data w = asked (waits_for 3 x) (test has_seen_data t s) w
  way is_first_fence w = asked (waits_for 4 x) (test is_first_fence t s) w
  way is_fenced_once w = plain (test is_fenced_once t s) w
  way is_fence_missing w = plain (test is_fence_missing t s) w
  way is_first_marker w = asked (waits_for 6 x) (test is_first_marker t s) w
  way is_past_columns w = columns s.table.aligns refl (both (waits_for 7 x) (elim (waits_for 8 x) [ true ↦ f x | false ↦ elim (waits_for 9 x) [ true ↦ g x | false ↦ f (known 8 x) && g (known 9 x) ] ]) w).1
  way is_ordered w = plain (test is_ordered t s) w
  way is_loose w = plain (test is_loose t s) w
  way is_underlined_by_dashes w = plain (test is_underlined_by_dashes t s) w
  way is_last w = plain (test is_last t s) w
  way is_html_allowed w = plain (test is_html_allowed t s) w
  way is_behind_fence w = plain (test is_behind_fence t s) w
  way is_behind_definition w = plain (test is_behind_definition t s) w
  way is_tight_paragraph w = plain (test is_tight_paragraph t s) w
  way is_empty_item w = plain (test is_empty_item t s) w
