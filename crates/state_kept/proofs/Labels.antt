-- Labels of the text by their places: one more behind the last. Assumes nothing.
use Rattle.std.proofs.Common.{if◌then◌else◌, ◌≡◌, refl, ap, ◌∙◌, Bool, true, false, ◌&&◌, List, [], ◌∷◌, ◌++◌, ℕ, suc, ◌+◌, ◌-◌, ◌<◌, arith, add-one, leb-true, leb, length, take, drop, set, get_or, length-set, length-take, length-append, take-suc-set, get_or-set_same, get_or-set_other}
use Rattle.std.proofs.Math.Decide.{dec_lt}
use Rattle.std.proofs.Math.ListN.{get_or-append}
use Rattle.std.proofs.Math.Seq.{get_or-append_seam}
use Rattle.lent.proofs.Laws.{and_left, and_right}
use Rattle.utf8.specs.Utf8.{is_utf8}
use Rattle.normalize_identifier.specs.Identity.{identity_of}
use Rattle.normalize_identifier.specs.Search as Search
use Rattle.normalize_identifier.specs.Search.{parts, labels_of}
use Rattle.signature.specs.declared.Signature.{Signature}
use Rattle.signature.specs.Signature.{signature_of}
use Rattle.signature.specs.Signed.{Signs}
use Rattle.machine.specs.Outcome.{Outcome, stop, go, ◌>>=◌}
use Rattle.machine.specs.State.{Span, Definition, Footnote, Call}
use Rattle.machine.specs.Turn.{slice_of, as_str, str_of}
use Rattle.machine.specs.Media.{definition_labels}
use Rattle.machine.specs.Footnote.{call_labels}
use Rattle.machine.specs.Section.{footnote_labels}
use Rattle.machine.proofs.Outcomes.{never}
use Rattle.state_kept.specs.Kept.{LabelIs, Labels}

-- ---- the machine's slices

slice_is : (text : List ℕ) (p : Span) (label : List ℕ) → slice_of text p ≡ go label → LabelIs text p.from p.to label
unfolding slice_of
slice_is text p label q = on (leb p.from p.to && leb p.to (length text)) refl q
  where
    on : (x : Bool) → (leb p.from p.to && leb p.to (length text)) ≡ x → (if x then go (take (p.to - p.from) (drop p.from text)) else stop) ≡ go label → LabelIs text p.from p.to label
    on true i r = record {
      ordered = leb-true p.from p.to (and_left (leb p.from p.to) (leb p.to (length text)) i);
      inside = leb-true p.to (length text) (and_right (leb p.from p.to) (leb p.to (length text)) i);
      is = cc;
    }
    on false i r = never r

pub str-is : (b label : List ℕ) → as_str b ≡ go label → b ≡ label
unfolding as_str
str-is b label q = on (is_utf8 b) q
  where
    on : (x : Bool) → (if x then go b else stop) ≡ go label → b ≡ label
    on true r = cc
    on false r = never r

pub label_is : (text : List ℕ) (p : Span) (label : List ℕ) → str_of text p ≡ go label → LabelIs text p.from p.to label
unfolding str_of
label_is text p label q = on (slice_of text p) refl q
  where
    on : (o : Outcome (List ℕ)) → slice_of text p ≡ o → (o >>= as_str) ≡ go label → LabelIs text p.from p.to label
    on stop e r = never r
    on (go b) e r = slice_is text p label (e ∙ ap go (str-is b label r))

-- ---- one more label

parts_more : (text xs ys : List ℕ) (a b : ℕ) → length xs ≡ length ys → parts text (xs ++ (a ∷ [])) (ys ++ (b ∷ [])) ≡ parts text xs ys ++ (take (b - a) (drop a text) ∷ [])
unfolding parts
parts_more text [] [] a b h = refl
parts_more text [] (y ∷ ys) a b h = absurd (omega arith)
parts_more text (x ∷ xs) [] a b h = absurd (omega arith)
parts_more text (x ∷ xs) (y ∷ ys) a b h = ap (λ (t : List (List ℕ)). take (y - x) (drop x text) ∷ t) (parts_more text xs ys a b (omega arith))

module _ {text from to label : List ℕ} {count a b : ℕ} {labels : List (List ℕ)} (h : count < length from) (k : count < length to) (l : LabelIs text a b label) (r : Labels text from to count labels) where
  -- a word of the new row, or of an old one
  word-new : (xs : List ℕ) (v j : ℕ) → count < length xs → j ≡ count → get_or (set xs count v) j 0 ≡ v
  word-new xs v j i e = rw e (get_or-set_same xs count v 0 i)

  word-old : (xs : List ℕ) (v j : ℕ) → j < count → get_or (set xs count v) j 0 ≡ get_or xs j 0
  word-old xs v j i = get_or-set_other xs count j v 0 (λ e. omega arith)

  labels-more-are : labels_of text (set from count a) (set to count b) (count + 1) ≡ labels ++ (label ∷ [])
  unfolding labels_of
  labels-more-are =
      let e : length (take count from) ≡ length (take count to) = simp length-take (omega arith) in
      let x : parts text (take count from) (take count to) ≡ labels = r.are in
      rw (add-one, take-suc-set from count a h, take-suc-set to count b k, parts_more text (take count from) (take count to) a b e, x, l.is)

  labels-more-places : Search.Table text (set from count a) (set to count b) (count + 1)
  labels-more-places = record {
    starts-long = rw length-set (omega arith);
    ends-long = rw length-set (omega arith);
    ordered = λ j i. elim (dec_lt j count) [
      | yes q ↦ rw (word-old from a j q, word-old to b j q) (r.places.ordered j q)
      | no q ↦ (let e : j ≡ count = omega arith in rw (word-new from a j h e, word-new to b j k e) l.ordered)
    ];
    inside = λ j i. elim (dec_lt j count) [
      | yes q ↦ rw (word-old to b j q) (r.places.inside j q)
      | no q ↦ (let e : j ≡ count = omega arith in rw (word-new to b j k e) l.inside)
    ];
  }

  pub labels-more : Labels text (set from count a) (set to count b) (count + 1) (labels ++ (label ∷ []))
  labels-more = record { places = labels-more-places; are = labels-more-are }

-- ---- one more signature

module _ {firsts seconds : List ℕ} {labels : List (List ℕ)} {count : ℕ} (label : List ℕ) (s : Signature) where
  pub signs-more : count ≡ length labels → count < length firsts → count < length seconds → s ≡ signature_of (identity_of label) → Signs firsts seconds labels
      → Signs (set firsts count s.first) (set seconds count s.second) (labels ++ (label ∷ []))
  signs-more m h i e r = record {
    signs = λ k j. elim (dec_lt k count) [
      | yes q ↦ (let l : k < length labels = omega arith in
          rw (get_or-set_other firsts count k s.first 0 (λ z. omega arith), get_or-set_other seconds count k s.second 0 (λ z. omega arith), get_or-append labels (label ∷ []) [] k l) (r.signs k l))
      | no q ↦ (let x = length-append labels (label ∷ []) in
          let z : k ≡ length labels = omega arith in
          rw (z, m, get_or-set_same firsts (length labels) s.first 0 (omega arith), get_or-set_same seconds (length labels) s.second 0 (omega arith), get_or-append_seam labels label [] []) e)
    ];
  }

-- ---- of each list that has labels

pub definition-labels-long : (ds : List Definition) → length (definition_labels ds) ≡ length ds
definition-labels-long [] = refl
definition-labels-long (d ∷ ds) = ap suc (definition-labels-long ds)

pub footnote-labels-long : (fs : List Footnote) → length (footnote_labels fs) ≡ length fs
footnote-labels-long [] = refl
footnote-labels-long (f ∷ fs) = ap suc (footnote-labels-long fs)

pub call-labels-long : (cs : List Call) → length (call_labels cs) ≡ length cs
call-labels-long [] = refl
call-labels-long (c ∷ cs) = ap suc (call-labels-long cs)

pub definition-labels-more : (ds : List Definition) (d : Definition) → definition_labels (ds ++ (d ∷ [])) ≡ definition_labels ds ++ (d.label ∷ [])
definition-labels-more [] d = refl
definition-labels-more (x ∷ ds) d = ap (λ (t : List (List ℕ)). x.label ∷ t) (definition-labels-more ds d)

pub footnote-labels-more : (fs : List Footnote) (f : Footnote) → footnote_labels (fs ++ (f ∷ [])) ≡ footnote_labels fs ++ (f.label ∷ [])
footnote-labels-more [] f = refl
footnote-labels-more (x ∷ fs) f = ap (λ (t : List (List ℕ)). x.label ∷ t) (footnote-labels-more fs f)

pub call-labels-more : (cs : List Call) (c : Call) → call_labels (cs ++ (c ∷ [])) ≡ call_labels cs ++ (c.label ∷ [])
call-labels-more [] c = refl
call-labels-more (x ∷ cs) c = ap (λ (t : List (List ℕ)). x.label ∷ t) (call-labels-more cs c)
