-- A footnote is kept. Assumes nothing.
use Rattle.std.proofs.Common.{◌≡◌, refl, sym, ap, ◌∙◌, List, [], ◌∷◌, ℕ, ◌+◌, ◌-◌, ◌≤◌, ◌<◌, min, arith, length, take, drop, get_or}
use Rattle.regions.specs.Sizes.{region_size, kept_at, no_room}
use Rattle.normalize_identifier.specs.Identity.{identity_of}
use Rattle.signature.specs.declared.Signature.{Signature}
use Rattle.signature.specs.Signature.{signature_of}
use Rattle.regions.specs.Regions.{region_at, Carries}
use Rattle.machine.specs.State.{State, Span, Footnote}
use Rattle.machine.specs.Totals.{kept, most_total}
use Rattle.state_kept.specs.declared.Kept.{Kept}
use Rattle.state_kept.specs.Kept.{column, LabelIs, Opened, tables, InTables}
use Rattle.state_kept.specs.Clauses.{KeepsFootnote}
use Rattle.state_kept.specs.Private.{SetsRow}
use Rattle.state_kept.proofs.Rows.{long-row}
use Rattle.state_kept.proofs.Opens.{with_labels}
use Rattle.state_kept.proofs.Grows.{kept-footnote, long-region, front, end_is, appended, carrying}
use Rattle.state_kept.proofs.Stays.{definitions-stay, footnotes-more}
use Rattle.state_kept.specs.Sizes.{note_rows}

-- where the end is in the region it is the total
pub low : {k : Kept} {text region d f c l : List ℕ} {s : State} → InTables k text region (tables d f c l) s → k.end ≤ region_size → kept s ≤ most_total
low t h = omega (arith, t.end)

closed : {table : List ℕ} {count : ℕ} {p : Span} {ps : List Span} → Opened table count (p ∷ ps) → Opened table (count - 1) ps
closed o = let x = o.rows in let y = o.few in record { rows = omega arith; few = omega arith; each = o.each.2 }

module _ {k : Kept} {from n : ℕ} {text work footnotes labels : List ℕ} where
  pub footnote-none : {r : Kept} → k.labels ≡ 0 → KeepsFootnote k text from n work footnotes labels r work footnotes
  footnote-none h = record { keeps = λ w t e l p m. absurd (let x = ap length e in omega (arith, t.labels.rows)) }

  pub footnote-full : {r : Kept} → k.end ≤ region_size → note_rows ≤ k.footnotes → KeepsFootnote k text from n work footnotes labels r work footnotes
  footnote-full h g = record { keeps = λ w t e l p m. absurd (let x = (t.footnotes (low t h)).rows in omega arith) }

  pub footnote-over : region_size < k.end → KeepsFootnote k text from n work footnotes labels (with_labels (k.labels - 1) k) work footnotes
  footnote-over h = record {
    keeps = λ {body = body} {label = label} {ps = ps} {s = s} w t e l p m.
        let x = kept-footnote (record { label = label; body = body }) ps s in
        let y = t.end in
        record {
          keeps = record {
            long = t.long;
            end = omega arith;
            definitions = λ g. absurd (omega arith);
            footnotes = λ g. absurd (omega arith);
            calls = t.calls;
            labels = closed (rw e at t.labels);
          };
          before = refl;
        };
  }

  pub footnote-kept : {end a b : ℕ} {part : List ℕ} {sign : Signature} {work' footnotes' : List ℕ} → k.end ≤ region_size → k.footnotes < note_rows → Carries work from n kept_at k.end work' end
      → a ≡ get_or (column note_rows 0 labels) (k.labels - 1) 0 → b ≡ get_or (column note_rows 1 labels) (k.labels - 1) 0 → part ≡ take (b - a) (drop a text) → sign ≡ signature_of (identity_of part)
      → SetsRow note_rows k.footnotes (a ∷ b ∷ k.end ∷ n ∷ sign.first ∷ sign.second ∷ []) footnotes footnotes'
      → KeepsFootnote k text from n work footnotes labels (record { end = end; definitions = k.definitions; footnotes = k.footnotes + 1; calls = k.calls; labels = k.labels - 1 }) work' footnotes'
  footnote-kept {end} {a} {b} {part} {sign} {work'} {footnotes'} h g c ea eb el es r = record {
    keeps = λ {body = body} {label = label} {p = p} {ps = ps} {s = s} w t e l pc m.
        let f : Footnote = record { label = label; body = body } in
        let x = kept-footnote f ps s in
        let y = t.end in
        let q = carrying w pc c in
        let o : Opened labels k.labels (p ∷ ps) = rw e at t.labels in
        let i : k.labels - 1 ≡ length ps = omega (arith, o.rows) in
        let pa : p.from ≡ a = sym o.each.0 ∙ sym (rw i at ea) in
        let pb : p.to ≡ b = sym o.each.1 ∙ sym (rw i at eb) in
        let v : footnotes' ≡ _ = r.row g (sym t.long.footnotes) in
        let la : LabelIs text a b label = rw (pa, pb) at l in
        let si : sign ≡ signature_of (identity_of label) = es ∙ ap (λ (x : List ℕ). signature_of (identity_of x)) (el ∙ la.is) in
        let lr = long-region work w in
        let ei : end ≡ min (kept s + length body) no_room = end_is q.filled lr (kept s) y in
        let le : k.end ≤ end = omega arith in
        record {
          keeps = record {
            long = record { definitions = t.long.definitions; footnotes = ap length v ∙ long-row note_rows k.footnotes 0 (a ∷ b ∷ k.end ∷ n ∷ sign.first ∷ sign.second ∷ []) footnotes ∙ t.long.footnotes; calls = t.long.calls; labels = t.long.labels };
            end = omega arith;
            definitions = λ z. definitions-stay (region_at kept_at work) (region_at kept_at work') k.end end (front q.filled k.end (omega arith)) le (t.definitions (low t h));
            footnotes = λ z. rw v (footnotes-more (region_at kept_at work) (region_at kept_at work') k.end end (front q.filled k.end (omega arith)) le f sign t.long.footnotes g la si
                (appended q.filled lr n pc.long (omega (arith, pc.long))) (t.footnotes (low t h)));
            calls = t.calls;
            labels = closed o;
          };
          before = q.before;
        };
  }
