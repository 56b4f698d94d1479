-- For callers: what is read back from the tables. Assumes nothing.
use Rattle.std.proofs.Common.{◌≡◌, ap, ◌∙◌, List, [], ◌∷◌, ℕ, zero, suc, ◌-◌, ◌≤◌, ◌<◌, arith, length, take, drop, get_or, length-take, get_or-take}
use Rattle.std.proofs.Math.Option.{some}
use Rattle.std.proofs.Math.ListN.{get_elem?}
use Rattle.regions.specs.Sizes.{region_size}
use Rattle.normalize_identifier.specs.Search.{parts, labels_of}
use Rattle.machine.specs.State.{State, Definition, Footnote, Call}
use Rattle.machine.specs.Footnote.{call_labels}
use Rattle.machine.specs.Totals.{kept, most_total}
use Rattle.state_kept.specs.declared.Kept.{Kept}
use Rattle.state_kept.specs.Kept.{column, LabelIs, Labels, Piece, DefinitionIs, tables, InTables}
use Rattle.state_kept.proofs.Lists.{index-low}
use Rattle.state_kept.specs.Sizes.{note_rows}

-- ---- labels

parts_at : (text xs ys : List ℕ) (i : ℕ) (label : List ℕ) → get_elem? (parts text xs ys) i ≡ some label → take (get_or ys i 0 - get_or xs i 0) (drop (get_or xs i 0) text) ≡ label
unfolding parts
parts_at text [] ys i label p = absurd (let h = index-low [] i label p in omega arith)
parts_at text (x ∷ xs) [] i label p = absurd (let h = index-low [] i label p in omega arith)
parts_at text (x ∷ xs) (y ∷ ys) zero label p = cc
parts_at text (x ∷ xs) (y ∷ ys) (suc i) label p = parts_at text xs ys i label p

few-parts : (text xs ys : List ℕ) → length (parts text xs ys) ≤ length xs
unfolding parts
few-parts text [] ys = omega arith
few-parts text (x ∷ xs) [] = omega arith
few-parts text (x ∷ xs) (y ∷ ys) = let h = few-parts text xs ys in omega arith

pub label_at : {text from to : List ℕ} {count : ℕ} {labels : List (List ℕ)} (i : ℕ) (label : List ℕ) → Labels text from to count labels → get_elem? labels i ≡ some label → LabelIs text (get_or from i 0) (get_or to i 0) label
unfolding labels_of
label_at {text} {from} {to} {count} {labels} i label r p =
    let q : get_elem? (parts text (take count from) (take count to)) i ≡ some label = ap (λ (l : List (List ℕ)). get_elem? l i) r.are ∙ p in
    let a = index-low (parts text (take count from) (take count to)) i label q in
    let b = few-parts text (take count from) (take count to) in
    let c = length-take count from in
    let h : i < count = omega arith in
    let e = parts_at text (take count from) (take count to) i label q in
    record { ordered = r.places.ordered i h; inside = r.places.inside i h; is = rw (get_or-take count from i 0 h, get_or-take count to i 0 h) at e }

call-label-at : (cs : List Call) (i : ℕ) (c : Call) → get_elem? cs i ≡ some c → get_elem? (call_labels cs) i ≡ some c.label
call-label-at [] i c p = absurd (let h = index-low [] i c p in omega arith)
call-label-at (x ∷ cs) zero c p = let e : x ≡ c = cc in ap (λ (y : Call). some y.label) e
call-label-at (x ∷ cs) (suc i) c p = call-label-at cs i c p

-- ---- rows

module _ {k : Kept} {text region d f c l : List ℕ} {s : State} (t : InTables k text region (tables d f c l) s) where
  pub call-label : (i : ℕ) (x : Call) → get_elem? s.kept.calls i ≡ some x → LabelIs text (get_or (column note_rows 0 c) i 0) (get_or (column note_rows 1 c) i 0) x.label
  call-label i x p = label_at i x.label t.calls.labels (call-label-at s.kept.calls i x p)

  pub definition-is : kept s ≤ most_total → (i : ℕ) (x : Definition) → get_elem? s.kept.definitions i ≡ some x → DefinitionIs d region k.end i x
  definition-is h i x p = (t.definitions h).each i x p

  pub body_is : kept s ≤ most_total → (i : ℕ) (x : Footnote) → get_elem? s.kept.footnotes i ≡ some x → Piece region k.end (get_or (column note_rows 2 f) i 0) (get_or (column note_rows 3 f) i 0) x.body
  body_is h i x p = (t.footnotes h).each i x p

  -- the pieces' end lies in their region
  pub end_low : kept s ≤ most_total → k.end ≤ region_size
  end_low h = omega (arith, t.end)
