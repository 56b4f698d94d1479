-- A footnote's label is opened. Assumes nothing.
use Rattle.std.proofs.Common.{◌≡◌, sym, ◌∙◌, List, [], ◌∷◌, ℕ, ◌+◌, ◌≤◌, ◌<◌, arith, length}
use Rattle.machine.specs.State.{Span}
use Rattle.machine.specs.Totals.{kept}
use Rattle.state_kept.specs.declared.Kept.{Kept}
use Rattle.state_kept.specs.Kept.{OpenLabels, Opened}
use Rattle.state_kept.specs.Clauses.{OpensLabel}
use Rattle.state_kept.specs.Private.{set_row, SetsRow}
use Rattle.state_kept.proofs.Rows.{long-row, row-own, row_other}
use Rattle.state_kept.specs.Sizes.{note_rows, label_words}

abbrev pub with_labels : ℕ → Kept → Kept
with_labels n k = record { end = k.end; definitions = k.definitions; footnotes = k.footnotes; calls = k.calls; labels = n }

-- rows below the new one are as they were
open_stays : (table : List ℕ) (i a b : ℕ) (ps : List Span) → i < note_rows → length ps ≤ i → OpenLabels table ps → OpenLabels (set_row note_rows i 0 (a ∷ b ∷ []) table) ps
open_stays table i a b [] h l o = o
open_stays table i a b (p ∷ ps) h l o = (
  row_other note_rows i 0 (a ∷ b ∷ []) table h (omega arith) (length ps) (omega arith) ∙ o.0,
  row_other note_rows i 1 (a ∷ b ∷ []) table h (omega arith) (length ps) (omega arith) ∙ o.1,
  open_stays table i a b ps h (omega arith) o.2,
)

module _ {table : List ℕ} {i : ℕ} {ps : List Span} (a b : ℕ) where
  open_more : length table ≡ label_words → i < note_rows → Opened table i ps → Opened (set_row note_rows i 0 (a ∷ b ∷ []) table) (i + 1) (record { from = a; to = b } ∷ ps)
  open_more e h o =
      let m : length ps ≡ i = sym o.rows in
      record {
        rows = omega (arith, o.rows);
        few = omega arith;
        each = (rw m (row-own note_rows i 0 (a ∷ b ∷ []) table h (omega arith) (omega arith)), rw m (row-own note_rows i 1 (a ∷ b ∷ []) table h (omega arith) (omega arith)), open_stays table i a b ps h (omega arith) o.each);
      }

module _ {k : Kept} {from to : ℕ} {labels : List ℕ} where
  pub opens-short : (length labels ≡ label_words → ⊥) → OpensLabel k from to labels k labels
  opens-short h = record { opens = λ t l. absurd (h t.long.labels) }

  pub opens-full : note_rows ≤ k.labels → OpensLabel k from to labels k labels
  opens-full h = record { opens = λ t l. absurd (omega (arith, t.labels.rows)) }

  pub opens-label : {labels' : List ℕ} → (length labels ≡ label_words) → k.labels < note_rows → SetsRow note_rows k.labels (from ∷ to ∷ []) labels labels' → OpensLabel k from to labels (with_labels (k.labels + 1) k) labels'
  unfolding kept
  opens-label e h r = record {
    opens = λ t l. rw (r.row h (sym e)) (record {
      long = record { definitions = t.long.definitions; footnotes = t.long.footnotes; calls = t.long.calls; labels = long-row note_rows k.labels 0 (from ∷ to ∷ []) labels ∙ t.long.labels };
      end = t.end;
      definitions = t.definitions;
      footnotes = t.footnotes;
      calls = t.calls;
      labels = open_more from to t.long.labels h t.labels;
    });
  }
