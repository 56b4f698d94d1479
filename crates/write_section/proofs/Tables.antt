-- The label and the body of a call, out of the tables. Assumes nothing.
use Rattle.std.proofs.Common.{Some, None, ◌≡◌, refl, sym, ap, ◌∙◌, List, [], ◌∷◌, ℕ, zero, suc, ◌+◌, ◌-◌, ◌≤◌, ◌<◌, arith, length, take, drop, get_or, length-take, get_or-take}
use Rattle.std.proofs.Math.Option.{Option, none, some}
use Rattle.std.proofs.Math.ListN.{get_elem?}
use Rattle.regions.specs.Sizes.{region_size, kept_at, work_size}
use Rattle.normalize_identifier.specs.Search.{Found, parts, labels_of}
use Rattle.machine.specs.declared.Fixed.{Fixed}
use Rattle.machine.specs.Outcome.{go, ◌>>=◌, need}
use Rattle.machine.specs.State.{State, Footnote, Call}
use Rattle.machine.specs.Footnote.{call_labels}
use Rattle.machine.specs.Section.{footnote_at, body_of}
use Rattle.machine.specs.Totals.{kept, most_total}
use Rattle.machine.proofs.Outcomes.{never}
use Rattle.state_kept.specs.declared.Kept.{Kept}
use Rattle.state_kept.specs.Kept.{column, LabelIs, Labels}
use Rattle.state_kept.proofs.Lists.{index-low}
use Rattle.state_kept.proofs.Calls.{times-are}
use Rattle.state_kept.specs.Clauses.{FindsFootnote, TellsTimes}
use Rattle.state_kept.proofs.Start.{region-piece}
use Rattle.state_kept.specs.Sizes.{note_rows}
use Rattle.write_section.specs.Pages.{item_page}
use Rattle.write_section.specs.Clauses.{Writes, There, WritesFound, WritesCall}

-- ---- labels

part_at : (text xs ys : List ℕ) (i : ℕ) → i < length xs → i < length ys → get_elem? (parts text xs ys) i ≡ some (take (get_or ys i 0 - get_or xs i 0) (drop (get_or xs i 0) text))
unfolding parts
part_at text [] ys i h k = absurd (omega arith)
part_at text (x ∷ xs) [] i h k = absurd (omega arith)
part_at text (x ∷ xs) (y ∷ ys) zero h k = refl
part_at text (x ∷ xs) (y ∷ ys) (suc i) h k = part_at text xs ys i (omega arith) (omega arith)

label_at : (cs : List Call) (i : ℕ) (c : Call) → get_elem? cs i ≡ some c → get_elem? (call_labels cs) i ≡ some c.label
label_at [] i c p = let z : ◌≡◌ {A = Option (List ℕ)} none (some c.label) = cc in z
label_at (x ∷ cs) zero c p = let e : x ≡ c = cc in ap (λ (y : Call). some y.label) e
label_at (x ∷ cs) (suc i) c p = label_at cs i c p

same_some : {a b : List ℕ} → some a ≡ some b → a ≡ b
same_some p = cc

label_of : {text from to : List ℕ} {n : ℕ} (cs : List Call) (i : ℕ) {c : Call} → n ≡ length cs → Labels text from to n (call_labels cs) → get_elem? cs i ≡ some c → LabelIs text (get_or from i 0) (get_or to i 0) c.label
unfolding labels_of
label_of {text} {from} {to} {n} cs i {c} e l p =
    let h : i < n = (let x = index-low cs i c p in omega arith) in
    let a = length-take n from in
    let b = length-take n to in
    let x = l.places.starts-long in
    let y = l.places.ends-long in
    let q = part_at text (take n from) (take n to) i (omega arith) (omega arith) in
    let r = rw (get_or-take n from i 0 h, get_or-take n to i 0 h) at q in
    record { ordered = l.places.ordered i h; inside = l.places.inside i h; is = same_some (sym r ∙ ap (λ (t : List (List ℕ)). get_elem? t i) l.are ∙ label_at cs i c p) }

-- ---- a body

body_at : (fs : List Footnote) (j : ℕ) (body : List ℕ) → (need (get_elem? fs j) >>= λ f. go f.body) ≡ go body → (f : Footnote) × (get_elem? fs j ≡ some f) × (f.body ≡ body)
body_at fs j body p = on (get_elem? fs j) refl p
  where
    on : (o : Option Footnote) → get_elem? fs j ≡ o → (need o >>= λ f. go f.body) ≡ go body → (f : Footnote) × (get_elem? fs j ≡ some f) × (f.body ≡ body)
    on none e q = never q
    on (some f) e q = (f, e, cc)

module _ {fixed : Fixed} {label work footnotes : List ℕ} {times j at : ℕ} {d : List ℕ} where
  pub work-short : (length work ≡ work_size → ⊥) → WritesFound fixed label times work footnotes j d at d at
  work-short h = record { writes = λ l e p. absurd (h l) }

  module _ {place : ℕ} (a : place ≡ get_or (column note_rows 2 footnotes) j 0) where
    pub place-outside : region_size < place → WritesFound fixed label times work footnotes j d at d at
    place-outside h = record { writes = λ l e p. absurd (omega (arith, p.below)) }

    module _ {n : ℕ} (b : n ≡ get_or (column note_rows 3 footnotes) j 0) where
      pub length-outside : region_size - place < n → WritesFound fixed label times work footnotes j d at d at
      length-outside h = record { writes = λ l e p. absurd (omega (arith, p.below)) }

      pub body-there : {f : List ℕ} {r : ℕ} → Writes (item_page fixed label times (take (kept_at + place + n - (kept_at + place)) (drop (kept_at + place) work))) d at f r
          → WritesFound fixed label times work footnotes j d at f r
      body-there w = record {
        writes = λ {body} l e p.
            let m : kept_at + place + n - (kept_at + place) ≡ n = omega arith in
            let q = region-piece kept_at e p in
            let x : take n (drop (kept_at + place) work) ≡ body = rw (a, b) q.bytes in
            rw (m, x) at w;
      }

-- ---- a call

item-same : (fixed : Fixed) (label label' : List ℕ) (times times' : ℕ) (body body' : List ℕ) {d e : List ℕ} {at r : ℕ} → label ≡ label' → times ≡ times' → body ≡ body'
    → Writes (item_page fixed label times body) d at e r → Writes (item_page fixed label' times' body') d at e r
item-same fixed label label' times times' body body' a b c w = rw (← a, ← b, ← c) w

module _ {k : Kept} {text work footnotes calls : List ℕ} {from to : ℕ} (i : ℕ) (a : from ≡ get_or (column note_rows 0 calls) i 0) (b : to ≡ get_or (column note_rows 1 calls) i 0) {s : State} (t : There k text work footnotes calls s) {c : Call} (p : get_elem? s.kept.calls i ≡ some c) where
  call-label : LabelIs text from to c.label
  call-label = rw (a, b) (label_of s.kept.calls i t.keeps.calls.rows t.keeps.calls.labels p)

  kept-fits : kept s ≤ most_total
  kept-fits = let x = t.keeps.end in let y = t.fits in omega arith

  body-found : {found : Found} {body : List ℕ} → FindsFootnote k text from to footnotes found → body_of c.label s.kept.footnotes ≡ go body
      → (footnote_at s.kept.footnotes found >>= λ f. go f.body) ≡ go body
  body-found g q = rw (g.finds t.keeps kept-fits call-label) q

module _ {k : Kept} {fixed : Fixed} {text work footnotes calls : List ℕ} {i at from to : ℕ} {d : List ℕ} (a : from ≡ get_or (column note_rows 0 calls) i 0) (b : to ≡ get_or (column note_rows 1 calls) i 0) where
  pub called-unordered : to < from → WritesCall k fixed text work footnotes calls i d at d at
  called-unordered h = record { writes = λ t p q. absurd (omega (arith, (call-label i a b t p).ordered)) }

  pub called-outside : length text < to → WritesCall k fixed text work footnotes calls i d at d at
  called-outside h = record { writes = λ t p q. absurd (omega (arith, (call-label i a b t p).inside)) }

  module _ {found : Found} (g : FindsFootnote k text from to footnotes found) where
    pub called-nothing : found ≡ None → WritesCall k fixed text work footnotes calls i d at d at
    called-nothing h = record { writes = λ t p q. (let z = rw h at (body-found i a b t p g q) in never z) }

    pub called-found : {times j r : ℕ} {f : List ℕ} → found ≡ Some j → TellsTimes calls i times → WritesFound fixed (take (to - from) (drop from text)) times work footnotes j d at f r
        → WritesCall k fixed text work footnotes calls i d at f r
    called-found {times} {j} h n w = record {
      writes = λ {s} {c} {body} t p q.
          let (f, e, o) = body_at s.kept.footnotes j body (rw h at (body-found i a b t p g q)) in
          let piece = (t.keeps.footnotes (kept-fits i a b t p)).each j f e in
          let v = n.tells t.keeps (index-low s.kept.calls i c p) ∙ times-are s.kept.calls i c p in
          item-same fixed (take (to - from) (drop from text)) c.label times c.times f.body body (call-label i a b t p).is v o (w.writes t.long t.fits piece);
    }
