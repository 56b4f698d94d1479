-- Why signatures are right, and why labels that differ in theirs need not be compared. Assumes nothing.
use Rattle.std.proofs.Common.{None, ◌≡◌, refl, sym, ap, ◌∙◌, Bool, true, false, List, [], ◌∷◌, ℕ, ◌+◌, ◌-◌, ◌/◌, ◌<◌, ◌≤◌, arith, length, drop, get_or, length-drop, get_or-drop, drop-drop, below_more}
use Rattle.lent.specs.Bytes.{same}
use Rattle.event.specs.Event.{event_at, events_of}
use Rattle.event.proofs.Laws.{events-next, events-end}
use Rattle.normalize_identifier.specs.Identity.{identity_of}
use Rattle.signature.specs.declared.Signature.{Signature}
use Rattle.signature.specs.Signature.{signature_of}
use Rattle.signature.proofs.Laws.{unequal, two}
use Rattle.check_labels.specs.Labels.{slice, label_of, identities}
use Rattle.check_labels.specs.Signature.{words_at, SignedTo, Signed, Reached, Signing, Puts, Skips}
use Rattle.check_labels.specs.Next.{Labelled}

-- ---- the labels that are left

-- what a rest of a list starts with
module _ (ids rest : List (List ℕ)) (k : ℕ) (x : List ℕ) (p : drop k ids ≡ x ∷ rest) where
  first-left : get_or ids k [] ≡ x
  first-left =
      let z : k + 0 ≡ k = omega arith in
      let q : get_or ids k [] ≡ get_or (drop k ids) 0 [] = rw z at (sym (get_or-drop k ids 0 [])) in
      q ∙ ap (λ (l : List (List ℕ)). get_or l 0 []) p

  more_left : rest ≡ drop (k + 1) ids
  more_left = ap (λ (l : List (List ℕ)). drop 1 l) (sym p) ∙ drop-drop 1 k ids

  below : k < length ids
  below = omega (arith, sym (length-drop k ids) ∙ ap length p)

pub reached-none : (text b : List ℕ) (n : ℕ) → Reached text b n 0 0
reached-none text b n = record { left = refl; few = omega arith }

module _ {text b : List ℕ} {n i k : ℕ} (r : Reached text b n i k) (h : i < length b / 20) where
  pub reached-other : label_of n (event_at b i) ≡ None → Reached text b n (i + 1) k
  unfolding identities
  reached-other e =
      let m = r.few in
      record { left = rw (events-next b i h, identities, e) at r.left; few = omega arith }

  module _ (f : Labelled b n i) where
    starts : drop k (identities n text (events_of b)) ≡ identity_of (slice text (event_at b i).from.0 (event_at b i).to.0) ∷ identities n text (drop (i + 1) (events_of b))
    unfolding identities
    starts = sym r.left ∙ rw (events-next b i h, identities, f)

    pub reached-more : Reached text b n (i + 1) (k + 1)
    reached-more =
        let m = r.few in
        record { left = more_left (identities n text (events_of b)) (identities n text (drop (i + 1) (events_of b))) k (identity_of (slice text (event_at b i).from.0 (event_at b i).to.0)) starts; few = omega arith }

    pub label-there : get_or (identities n text (events_of b)) k [] ≡ identity_of (slice text (event_at b i).from.0 (event_at b i).to.0)
    label-there = first-left (identities n text (events_of b)) (identities n text (drop (i + 1) (events_of b))) k (identity_of (slice text (event_at b i).from.0 (event_at b i).to.0)) starts

    pub label-below : k < length (identities n text (events_of b))
    label-below = below (identities n text (events_of b)) (identities n text (drop (i + 1) (events_of b))) k (identity_of (slice text (event_at b i).from.0 (event_at b i).to.0)) starts

-- ---- all of them signed, one by one

module _ {text b signatures : List ℕ} {n i k : ℕ} (s : Signing text b n i k signatures) where
  pub signing-other : i < length b / 20 → label_of n (event_at b i) ≡ None → Signing text b n (i + 1) k signatures
  signing-other h e = record { reached = reached-other s.reached h e; signed = s.signed }

  pub signing-put : i < length b / 20 → Labelled b n i → {after : List ℕ} → Puts text (event_at b i) k signatures after → Signing text b n (i + 1) (k + 1) after
  signing-put h f {after} p =
      let l = p.long in
      record {
        reached = reached-more s.reached h f;
        signed = record {
          right = below_more (λ (j : ℕ). j < length after / 2 → words_at after j ≡ signature_of (get_or (identities n text (events_of b)) j [])) k
              (λ j w y. p.others j w ∙ s.signed.right j w (omega arith))
              (λ y. p.here (omega arith) ∙ ap signature_of (sym (label-there s.reached h f)));
        };
      }

  pub signing_end : {count : ℕ} → count ≡ length b / 20 → count ≤ i → Signed text b n signatures
  unfolding identities
  signing_end q h =
      let z : [] ≡ drop k (identities n text (events_of b)) = rw (events-end b i (omega arith), identities) at s.reached.left in
      let l : length (identities n text (events_of b)) - k ≡ 0 = sym (length-drop k (identities n text (events_of b))) ∙ ap length (sym z) in
      record { right = λ j y. s.signed.right j (omega arith) }

-- ---- labels that are passed over

-- so they are other labels
pub skipped : {ids : List (List ℕ)} {signatures : List ℕ} (label x : List ℕ) {k : ℕ} {s : Signature} {r : Bool} → SignedTo (length ids) ids signatures → k < length ids → get_or ids k [] ≡ x
    → Skips signatures k s r → r ≡ true → s ≡ signature_of (identity_of label) → same (identity_of label) x ≡ false
skipped label x {k} a h g d j m =
    unequal (identity_of label) x (λ e. two x (identity_of label) d.differs j m (a.right k h (d.inside j) ∙ ap signature_of g) (sym e))
