-- What is found in the tables is found in the machine's lists. Assumes nothing.
use Rattle.std.proofs.Common.{Some, None, ◌≡◌, ap, ◌∙◌, List, ℕ, ◌+◌, ◌-◌, ◌*◌, length, take, drop, unwrap_or, refl}
use Rattle.signature.specs.declared.Columns.{Columns}
use Rattle.signature.specs.Signed.{Finds}
use Rattle.machine.specs.Footnote.{at_or}
use Rattle.state_kept.specs.declared.Kept.{Kept}
use Rattle.state_kept.specs.Clauses.{FindsCall, FindsDefinition, FindsFootnote}
use Rattle.state_kept.specs.Private.{Cut, FindsLabel}
use Rattle.state_kept.specs.Sizes.{definition_rows, note_rows}
use Rattle.normalize_identifier.specs.Search.{Found}

-- by the columns as the code cut them
label-found : {text label table : List ℕ} {columns : Columns} {from to rows first n : ℕ} {r : Found} → Cut table rows first columns → label ≡ take (to - from) (drop from text)
    → Finds text columns.starts.now columns.ends.now columns.firsts.now columns.seconds.now n label r → FindsLabel text from to table rows first (first + rows) n r
label-found c e f = record { finds = λ t s l. (let g = rw (c.starts, c.ends, c.firsts, c.seconds, e, t.are, l.is) at f.finds in g s) }

or-behind : (n : ℕ) (f : Found) → unwrap_or f n ≡ at_or n f
or-behind n None = refl
or-behind n (Some k) = refl

module _ {k : Kept} {text table label : List ℕ} {columns : Columns} {from to : ℕ} {found : Found} (l : label ≡ take (to - from) (drop from text)) where
  pub call-found : {i : ℕ} → Cut table note_rows (3 * note_rows) columns → Finds text columns.starts.now columns.ends.now columns.firsts.now columns.seconds.now k.calls label found → i ≡ unwrap_or found k.calls → FindsCall k text from to table i
  call-found c f e = record {
    finds = λ {s = s} t i. e ∙ ap (unwrap_or found) t.calls.rows ∙ or-behind (length s.kept.calls) found ∙ ap (at_or (length s.kept.calls)) ((label-found c l f).finds t.calls.labels t.calls.signed i);
  }

  pub definition-found : Cut table definition_rows (5 * definition_rows) columns → Finds text columns.starts.now columns.ends.now columns.firsts.now columns.seconds.now k.definitions label found → FindsDefinition k text from to table found
  definition-found c f = record { finds = λ t m i. (let d = t.definitions m in (label-found c l f).finds d.labels d.signed i) }

  pub footnote-found : Cut table note_rows (4 * note_rows) columns → Finds text columns.starts.now columns.ends.now columns.firsts.now columns.seconds.now k.footnotes label found → FindsFootnote k text from to table found
  footnote-found c f = record { finds = λ t m i. (let d = t.footnotes m in (label-found c l f).finds d.labels d.signed i) }
