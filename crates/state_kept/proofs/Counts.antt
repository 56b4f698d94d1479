-- The table of calls when one is counted. Assumes nothing.
use Rattle.std.proofs.Common.{◌≡◌, sym, ap, ◌∙◌, List, [], ◌∷◌, ◌++◌, ◌⊎◌, inl, inr, ℕ, ◌+◌, ◌*◌, ◌-◌, ◌≤◌, ◌<◌, arith, length, take, drop, set, get_or, length-set, length-take, get_or-set_same, get_or-set_other}
use Rattle.std.proofs.Math.Option.{some}
use Rattle.std.proofs.Math.ListN.{get_elem?}
use Rattle.normalize_identifier.specs.Identity.{identity_of}
use Rattle.signature.specs.declared.Signature.{Signature}
use Rattle.signature.specs.Signature.{signature_of}
use Rattle.machine.specs.State.{State, Call}
use Rattle.machine.specs.Set.{set_calls}
use Rattle.machine.specs.Footnote.{count_at, times_at}
use Rattle.machine.specs.Totals.{kept}
use Rattle.state_kept.specs.declared.Kept.{Kept}
use Rattle.state_kept.specs.Kept.{column, LabelIs, Calls, tables, InTables}
use Rattle.state_kept.specs.Clauses.{CountsCall, TellsTimes}
use Rattle.state_kept.specs.Private.{set_row, SetsRow}
use Rattle.state_kept.proofs.Lists.{at-index, index-low, one_more, long-more}
use Rattle.state_kept.proofs.Rows.{word, long-column, own-column, before-column, behind-column, long-row, row-column, row-own, row_other}
use Rattle.state_kept.proofs.Labels.{labels-more, signs-more, call-labels-more, call-labels-long}
use Rattle.state_kept.proofs.Calls.{first_call, count-new, count-labels, count_long, count-each, times-are}
use Rattle.state_kept.specs.Sizes.{note_rows, call_words}

abbrev pub with_calls : ℕ → Kept → Kept
with_calls n k = record { end = k.end; definitions = k.definitions; footnotes = k.footnotes; calls = n; labels = k.labels }

calls-set : {k : Kept} {text region d f calls l : List ℕ} {s : State} (calls' : List ℕ) {cs : List Call} {n : ℕ} → length calls' ≡ call_words → Calls text calls' n cs → InTables k text region (tables d f calls l) s
    → InTables (with_calls n k) text region (tables d f calls' l) (set_calls cs s)
unfolding kept
calls-set calls' e c t = record {
  long = record { definitions = t.long.definitions; footnotes = t.long.footnotes; calls = e; labels = t.long.labels };
  end = t.end;
  definitions = t.definitions;
  footnotes = t.footnotes;
  calls = c;
  labels = t.labels;
}

module _ {text table : List ℕ} {count : ℕ} {cs : List Call} (t : Calls text table count cs) where
  pub times-word : (i : ℕ) → i < length cs → get_or (column note_rows 2 table) i 0 ≡ times_at i cs
  times-word i h = let q = at-index cs i h in t.each i q.0 q.1 ∙ sym (times-are cs i q.0 q.1)

  few : count ≤ note_rows
  few = let x = t.labels.places.starts-long in let y = length-take note_rows table in omega arith

  -- behind the last
  calls-new : {from to : ℕ} (label : List ℕ) (s : Signature) → length table ≡ call_words → count < note_rows → LabelIs text from to label → s ≡ signature_of (identity_of label)
      → Calls text (set_row note_rows count 0 (from ∷ to ∷ 1 ∷ s.first ∷ s.second ∷ []) table) (count + 1) (cs ++ (first_call label ∷ []))
  calls-new {from} {to} label s e h l g = record {
    rows = ap (λ (n : ℕ). n + 1) t.rows ∙ sym (long-more cs (first_call label));
    labels = rw (row-column note_rows count 0 words table h (omega arith), row-column note_rows count 1 words table h (omega arith), call-labels-more cs (first_call label))
        (labels-more (rw (long-column note_rows 0 table (omega arith)) h) (rw (long-column note_rows 1 table (omega arith)) h) l t.labels);
    signed = rw (row-column note_rows count 3 words table h (omega arith), row-column note_rows count 4 words table h (omega arith), call-labels-more cs (first_call label))
        (signs-more label s (t.rows ∙ sym (call-labels-long cs)) (rw (long-column note_rows 3 table (omega arith)) h) (rw (long-column note_rows 4 table (omega arith)) h) g t.signed);
    each = λ j c p. on j c (one_more cs (first_call label) j c p);
  }
    where
      words : List ℕ
      words = from ∷ to ∷ 1 ∷ s.first ∷ s.second ∷ []

      on : (j : ℕ) (c : Call) → (get_elem? cs j ≡ some c) ⊎ ((j ≡ length cs) × (first_call label ≡ c)) → get_or (column note_rows 2 (set_row note_rows count 0 words table)) j 0 ≡ c.times
      on j c (inl q) = let x = index-low cs j c q in let y = t.rows in row_other note_rows count 2 words table h (omega arith) j (omega arith) ∙ t.each j c q
      on j c (inr q) = let y : j ≡ count = q.0 ∙ sym t.rows in rw y (row-own note_rows count 2 words table h (omega arith) (omega arith)) ∙ ap (λ (x : Call). x.times) q.1

  -- once more
  calls-more : (i : ℕ) (label : List ℕ) → length table ≡ call_words → i < count → Calls text (set table (2 * note_rows + i) (times_at i cs + 1)) count (count_at i label cs)
  calls-more i label e h =
      let x = few in
      let z : i < length cs = omega (arith, t.rows) in
      let y : i < note_rows = omega arith in
      record {
        rows = t.rows ∙ sym (count_long i label cs z);
        labels = rw (before-column note_rows 2 i (times_at i cs + 1) table y 0 (omega arith), before-column note_rows 2 i (times_at i cs + 1) table y 1 (omega arith), count-labels i label cs z) t.labels;
        signed = rw (behind-column note_rows 2 i (times_at i cs + 1) table y 3 (omega arith), behind-column note_rows 2 i (times_at i cs + 1) table y 4 (omega arith), count-labels i label cs z) t.signed;
        each = λ j c p. rw (own-column note_rows 2 i (times_at i cs + 1) table y) (on j c y (count-each i label cs j c z p));
      }
    where
      on : (j : ℕ) (c : Call) → i < note_rows → ((j ≡ i → ⊥) × (get_elem? cs j ≡ some c)) ⊎ ((j ≡ i) × (c.times ≡ times_at i cs + 1)) → get_or (set (column note_rows 2 table) i (times_at i cs + 1)) j 0 ≡ c.times
      on j c y (inl q) = get_or-set_other (column note_rows 2 table) i j (times_at i cs + 1) 0 q.0 ∙ t.each j c q.1
      on j c y (inr q) =
          let m : length (column note_rows 2 table) ≡ note_rows = long-column note_rows 2 table (omega arith) in
          let g : get_or (set (column note_rows 2 table) i (times_at i cs + 1)) i 0 ≡ times_at i cs + 1 = get_or-set_same (column note_rows 2 table) i (times_at i cs + 1) 0 (omega arith) in
          rw q.0 g ∙ sym q.1

-- ---- what the code does

module _ {k : Kept} {index from to : ℕ} {text calls : List ℕ} where
  pub counts-short : (length calls ≡ call_words → ⊥) → CountsCall k index text from to calls k calls
  counts-short h = record { counts = λ t l i m q. absurd (h t.long.calls) }

  pub counts-full : note_rows ≤ index → CountsCall k index text from to calls k calls
  counts-full h = record { counts = λ t l i m q. absurd (omega arith) }

  pub counts-many : index < note_rows → index < k.calls → 0x1_0000_0000 ≤ get_or calls (2 * note_rows + index) 0 → CountsCall k index text from to calls k calls
  counts-many g h n = record {
    counts = λ t l i m q. (let e = word note_rows 2 index calls g in let z = times-word t.calls index (omega (arith, t.calls.rows)) in absurd (omega arith));
  }

  pub counts-more : index < note_rows → index < k.calls → CountsCall k index text from to calls k (set calls (2 * note_rows + index) (get_or calls (2 * note_rows + index) 0 + 1))
  counts-more g h = record {
    counts = λ {label = label} {s = s} t l i m q.
        let e : get_or calls (2 * note_rows + index) 0 ≡ times_at index s.kept.calls = sym (word note_rows 2 index calls g) ∙ times-word t.calls index (omega (arith, t.calls.rows)) in
        rw e (calls-set (set calls (2 * note_rows + index) (times_at index s.kept.calls + 1)) (length-set calls (2 * note_rows + index) (times_at index s.kept.calls + 1) ∙ t.long.calls) (calls-more t.calls index label t.long.calls h) t);
  }

  pub counts-new : {part calls' : List ℕ} {x : Signature} → index < note_rows → k.calls ≤ index → part ≡ take (to - from) (drop from text) → x ≡ signature_of (identity_of part)
      → SetsRow note_rows index (from ∷ to ∷ 1 ∷ x.first ∷ x.second ∷ []) calls calls' → CountsCall k index text from to calls (with_calls (index + 1) k) calls'
  counts-new {calls' = calls'} {x = x} g h ep ex r = record {
    counts = λ {label = label} {s = s} t l i m q.
        let e : index ≡ k.calls = omega (arith, t.calls.rows) in
        let z : index ≡ length s.kept.calls = omega (arith, t.calls.rows) in
        let n : count_at index label s.kept.calls ≡ s.kept.calls ++ (first_call label ∷ []) = rw z (count-new label s.kept.calls) in
        let words : List ℕ = from ∷ to ∷ 1 ∷ x.first ∷ x.second ∷ [] in
        let v : calls' ≡ set_row note_rows k.calls 0 words calls = rw (← e) (r.row g (sym t.long.calls)) in
        let si : x ≡ signature_of (identity_of label) = ex ∙ ap (λ (y : List ℕ). signature_of (identity_of y)) (ep ∙ l.is) in
        rw (v, n, e)
        (calls-set (set_row note_rows k.calls 0 words calls) (long-row note_rows k.calls 0 words calls ∙ t.long.calls) (calls-new t.calls label x t.long.calls (omega arith) l si) t);
  }

pub tells-times : {calls : List ℕ} {index r : ℕ} → r ≡ get_or (column note_rows 2 calls) index 0 → TellsTimes calls index r
tells-times {index = index} e = record { tells = λ t h. e ∙ times-word t.calls index h }
