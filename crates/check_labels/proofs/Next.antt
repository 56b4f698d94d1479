-- The way from one label of a definition to the next. Assumes nothing.
use Rattle.std.proofs.Common.{◌≡◌, refl, sym, ◌∙◌, Bool, true, false, not, true≢false, List, ℕ, ◌+◌, ◌/◌, ◌<◌, ◌≤◌, arith, eqb, length, drop, ne_eqb, eqb-true}
use borrow.Author.Tests.{eqb-false, not-true, not-false}
use Rattle.lent.specs.Bytes.{same, listed}
use Rattle.event.specs.declared.Event.{Event}
use Rattle.event.specs.Event.{event_at, events_of}
use Rattle.event.proofs.Laws.{events-next}
use Rattle.normalize_identifier.specs.Identity.{identity_of}
use Rattle.signature.specs.declared.Signature.{Signature}
use Rattle.signature.specs.Signature.{signature_of}
use Rattle.check_labels.specs.Labels.{slice, identities}
use Rattle.check_labels.specs.Signature.{Signed, Reached, Signing, Signs, Puts, Skips}
use Rattle.check_labels.specs.Next.{Labelled, IsLabel, IsPlain}
use Rattle.check_labels.proofs.Signatures.{reached-other, reached-more, label-there, label-below, signing-other, signing-put, skipped}
use Rattle.check_labels.proofs.Steps.{label-enter, label-other, label-here, listed_found, listed-other, listed-end}

-- ---- one event

module _ (b : List ℕ) (n i : ℕ) {x : ℕ} (p : x ≡ (event_at b i).name) where
  pub no_label : (x ≡ n → ⊥) → IsLabel b n i (eqb x n)
  no_label m = rw (ne_eqb x n m) (record { yes = λ t. absurd (true≢false (sym t)); no = λ t. label-other n (event_at b i) (λ z. m (p ∙ z)) })

  pub by_kind : {k : ℕ} → x ≡ n → k ≡ (event_at b i).kind → IsLabel b n i (not (eqb k 0))
  by_kind {k} m r =
      record {
        yes = λ t. label-here n (event_at b i) (λ z. eqb-false k 0 (not-true (eqb k 0) t) (r ∙ z)) (sym p ∙ m);
        no = λ t. label-enter n (event_at b i) (sym r ∙ eqb-true k 0 (not-false (eqb k 0) t));
      }

-- ---- signatures

module _ (b : List ℕ) (i : ℕ) {x : ℕ} (p : x ≡ (event_at b i).name) where
  pub by_name : (x ≡ 54 → ⊥) → IsPlain b i (not (eqb x 65))
  by_name m =
      record {
        definition = λ t. label-other 54 (event_at b i) (λ z. m (p ∙ z));
        footnote = λ t. label-other 65 (event_at b i) (λ z. eqb-false x 65 (not-true (eqb x 65) t) (p ∙ z));
      }

module _ (text b : List ℕ) (n i k : ℕ) (signatures : List ℕ) (h : i < length b / 20) {t : Bool} (u : IsLabel b n i t) where
  pub signs-none : t ≡ false → Signs text b n i k signatures k signatures
  signs-none e = record { signs = λ s. signing-other s h (u.no e) }

  pub signs-put : t ≡ true → {after : List ℕ} → Puts text (event_at b i) k signatures after → Signs text b n i k signatures (k + 1) after
  signs-put e p = record { signs = λ s. signing-put s h (u.yes e) p }

module _ {text b signatures : List ℕ} {i k count : ℕ} {t : Bool} (u : IsPlain b i t) (e : t ≡ true) (q : count ≡ length b / 20) (h : i < count) where
  pub plain-definition : Signing text b 54 i k signatures → Signing text b 54 (i + 1) k signatures
  plain-definition s = signing-other s (omega arith) (u.definition e)

  pub plain-footnote : Signing text b 65 i k signatures → Signing text b 65 (i + 1) k signatures
  plain-footnote s = signing-other s (omega arith) (u.footnote e)

-- ---- the search

-- before the event i, the k-th label: the label is among those left exactly when it is among all
pub record Searching (text b : List ℕ) (n : ℕ) (label : List ℕ) (i k : ℕ) : Type 0 where
  pub rest : listed (identities n text (drop i (events_of b))) (identity_of label) ≡ listed (identities n text (events_of b)) (identity_of label)
  pub reached : Reached text b n i k

module _ {text b : List ℕ} {n : ℕ} {label : List ℕ} {i k count : ℕ} (w : Searching text b n label i k) (q : count ≡ length b / 20) (h : i < count) {u : Bool} (o : IsLabel b n i u) where
  pub search-other : not u ≡ true → Searching text b n label (i + 1) k
  unfolding identities
  search-other e =
      let l : i < length b / 20 = omega arith in
      let f = o.no (not-true u e) in
      record { rest = rw (events-next b i l, identities, f) at w.rest; reached = reached-other w.reached l f }

  module _ (e : not u ≡ false) where
    here : Labelled b n i
    here = o.yes (not-false u e)

    -- where the label at i is another
    search-unlike : same (identity_of label) (identity_of (slice text (event_at b i).from.0 (event_at b i).to.0)) ≡ false → Searching text b n label (i + 1) (k + 1)
    search-unlike d = record { rest = listed-other text b n (identity_of label) q h w.rest refl refl here d; reached = reached-more w.reached (omega arith) here }

    pub search-skipped : {signatures : List ℕ} {s : Signature} {t : Bool} → Signed text b n signatures → Skips signatures k s t → t ≡ true → s ≡ signature_of (identity_of label) → Searching text b n label (i + 1) (k + 1)
    search-skipped a d t m =
        let l : i < length b / 20 = omega arith in
        search-unlike (skipped label (identity_of (slice text (event_at b i).from.0 (event_at b i).to.0)) a (label-below w.reached l here) (label-there w.reached l here) d t m)

    module _ {v : Event} (g : v ≡ event_at b i) {l : List ℕ} {t : Bool} (p : l ≡ slice text v.from.0 v.to.0) (c : t ≡ same (identity_of label) (identity_of l)) where
      compared : t ≡ same (identity_of label) (identity_of (slice text (event_at b i).from.0 (event_at b i).to.0))
      compared = c ∙ rw (p, g)

      pub search-found : t ≡ true → true ≡ listed (identities n text (events_of b)) (identity_of label)
      search-found z = listed_found text b n (identity_of label) q h w.rest refl refl here refl compared z

      pub search-differs : t ≡ false → Searching text b n label (i + 1) (k + 1)
      search-differs z = search-unlike (sym compared ∙ z)

pub search-end : {text b : List ℕ} {n : ℕ} {label : List ℕ} {i k count : ℕ} → Searching text b n label i k → count ≡ length b / 20 → count ≤ i → false ≡ listed (identities n text (events_of b)) (identity_of label)
search-end {text} {b} {n} {label} w q h = listed-end text b n (identity_of label) q h w.rest
