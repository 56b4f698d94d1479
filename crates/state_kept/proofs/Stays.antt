-- Definitions and footnotes when bytes are appended behind the kept ones: those that stand stay, and one more is added. Assumes nothing.
use Rattle.std.proofs.Common.{◌≡◌, sym, ap, ◌∙◌, List, [], ◌∷◌, ◌++◌, ◌⊎◌, inl, inr, ℕ, ◌+◌, ◌≤◌, ◌<◌, arith, length, take, get_or}
use Rattle.std.proofs.Math.Option.{some}
use Rattle.std.proofs.Math.ListN.{get_elem?}
use Rattle.normalize_identifier.specs.Identity.{identity_of}
use Rattle.signature.specs.declared.Signature.{Signature}
use Rattle.signature.specs.Signature.{signature_of}
use Rattle.machine.specs.State.{Definition, Footnote}
use Rattle.state_kept.specs.Kept.{column, LabelIs, Piece, Optional, or_empty, DefinitionIs, Definitions, Footnotes}
use Rattle.state_kept.specs.Private.{set_row}
use Rattle.state_kept.proofs.Lists.{index-low, one_more, long-more}
use Rattle.state_kept.proofs.Rows.{long-column, row-column, row-own, row_other}
use Rattle.state_kept.proofs.Labels.{labels-more, signs-more, definition-labels-more, footnote-labels-more, definition-labels-long, footnote-labels-long}
use Rattle.state_kept.proofs.Pieces.{piece-stays, optional-stays}
use Rattle.state_kept.specs.Sizes.{definition_rows, note_rows, definition_words, footnote_words}

module _ (region region' : List ℕ) (end end' : ℕ) (same : take end region' ≡ take end region) (le : end ≤ end') where
  definition-stays : {table : List ℕ} {k : ℕ} {d : Definition} → DefinitionIs table region end k d → DefinitionIs table region' end' k d
  definition-stays {table} {k} {d} i = record {
    destination = piece-stays region region' end end' same le i.destination;
    title = optional-stays region region' end end' same le (get_or (column definition_rows 2 table) k 0 + get_or (column definition_rows 3 table) k 0) (get_or (column definition_rows 4 table) k 0) d.title i.title;
  }

  module _ {text table : List ℕ} {count : ℕ} where
    pub definitions-stay : {ds : List Definition} → Definitions text table region end count ds → Definitions text table region' end' count ds
    definitions-stay t = record { rows = t.rows; labels = t.labels; signed = t.signed; each = λ k d p. definition-stays (t.each k d p) }

    pub footnotes-stay : {fs : List Footnote} → Footnotes text table region end count fs → Footnotes text table region' end' count fs
    footnotes-stay t = record { rows = t.rows; labels = t.labels; signed = t.signed; each = λ k f p. piece-stays region region' end end' same le (t.each k f p) }

    pub footnotes-more : {fs : List Footnote} (f : Footnote) {a b n : ℕ} (s : Signature) → length table ≡ footnote_words → count < note_rows → LabelIs text a b f.label → s ≡ signature_of (identity_of f.label) → Piece region' end' end n f.body → Footnotes text table region end count fs
        → Footnotes text (set_row note_rows count 0 (a ∷ b ∷ end ∷ n ∷ s.first ∷ s.second ∷ []) table) region' end' (count + 1) (fs ++ (f ∷ []))
    footnotes-more {fs} f {a} {b} {n} s e h l g new t = record {
      rows = ap (λ (m : ℕ). m + 1) t.rows ∙ sym (long-more fs f);
      labels = rw (row-column note_rows count 0 words table h (omega arith), row-column note_rows count 1 words table h (omega arith), footnote-labels-more fs f)
          (labels-more (rw (long-column note_rows 0 table (omega arith)) h) (rw (long-column note_rows 1 table (omega arith)) h) l t.labels);
      signed = rw (row-column note_rows count 4 words table h (omega arith), row-column note_rows count 5 words table h (omega arith), footnote-labels-more fs f)
          (signs-more f.label s (t.rows ∙ sym (footnote-labels-long fs)) (rw (long-column note_rows 4 table (omega arith)) h) (rw (long-column note_rows 5 table (omega arith)) h) g t.signed);
      each = λ j g p. on j g (one_more fs f j g p);
    }
      where
        words : List ℕ
        words = a ∷ b ∷ end ∷ n ∷ s.first ∷ s.second ∷ []

        on : (j : ℕ) (g : Footnote) → (get_elem? fs j ≡ some g) ⊎ ((j ≡ length fs) × (f ≡ g))
            → Piece region' end' (get_or (column note_rows 2 (set_row note_rows count 0 words table)) j 0) (get_or (column note_rows 3 (set_row note_rows count 0 words table)) j 0) g.body
        on j g (inl q) =
            let x : j < count = (let y = index-low fs j g q in omega (arith, t.rows)) in
            rw (row_other note_rows count 2 words table h (omega arith) j x, row_other note_rows count 3 words table h (omega arith) j x) (piece-stays region region' end end' same le (t.each j g q))
        on j g (inr q) =
            let y : j ≡ count = q.0 ∙ sym t.rows in
            rw (← q.1, y, row-own note_rows count 2 words table h (omega arith) (omega arith), row-own note_rows count 3 words table h (omega arith) (omega arith)) new

    pub definitions-more : {ds : List Definition} (d : Definition) {a b n : ℕ} (title : ℕ) (s : Signature) → length table ≡ definition_words → count < definition_rows → LabelIs text a b d.label → s ≡ signature_of (identity_of d.label)
        → Piece region' end' end n (or_empty d.destination) → Optional region' end' (end + n) title d.title → Definitions text table region end count ds
        → Definitions text (set_row definition_rows count 0 (a ∷ b ∷ end ∷ n ∷ title ∷ s.first ∷ s.second ∷ []) table) region' end' (count + 1) (ds ++ (d ∷ []))
    definitions-more {ds} d {a} {b} {n} title s e h l g new new_title t = record {
      rows = ap (λ (m : ℕ). m + 1) t.rows ∙ sym (long-more ds d);
      labels = rw (row-column definition_rows count 0 words table h (omega arith), row-column definition_rows count 1 words table h (omega arith), definition-labels-more ds d)
          (labels-more (rw (long-column definition_rows 0 table (omega arith)) h) (rw (long-column definition_rows 1 table (omega arith)) h) l t.labels);
      signed = rw (row-column definition_rows count 5 words table h (omega arith), row-column definition_rows count 6 words table h (omega arith), definition-labels-more ds d)
          (signs-more d.label s (t.rows ∙ sym (definition-labels-long ds)) (rw (long-column definition_rows 5 table (omega arith)) h) (rw (long-column definition_rows 6 table (omega arith)) h) g t.signed);
      each = λ j g p. on j g (one_more ds d j g p);
    }
      where
        words : List ℕ
        words = a ∷ b ∷ end ∷ n ∷ title ∷ s.first ∷ s.second ∷ []

        fits : definition_words ≤ length table
        fits = omega arith

        on : (j : ℕ) (g : Definition) → (get_elem? ds j ≡ some g) ⊎ ((j ≡ length ds) × (d ≡ g)) → DefinitionIs (set_row definition_rows count 0 words table) region' end' j g
        on j g (inl q) =
            let x : j < count = (let y = index-low ds j g q in omega (arith, t.rows)) in
            let i = definition-stays (t.each j g q) in
            let r2 = row_other definition_rows count 2 words table h (omega arith) j x in
            let r3 = row_other definition_rows count 3 words table h (omega arith) j x in
            let r4 = row_other definition_rows count 4 words table h (omega arith) j x in
            record { destination = rw (r2, r3) i.destination; title = rw (r2, r3, r4) i.title }
        on j g (inr q) =
            let y : j ≡ count = q.0 ∙ sym t.rows in
            let r2 = row-own definition_rows count 2 words table h (omega arith) fits in
            let r3 = row-own definition_rows count 3 words table h (omega arith) fits in
            let r4 = row-own definition_rows count 4 words table h (omega arith) fits in
            rw (← q.1, y) (record { destination = rw (r2, r3) new; title = rw (r2, r3, r4) new_title })
