-- Only links, images and calls need a definition. Assumes nothing.
use Rattle.std.proofs.Common.{◌≡◌, refl, sym, Bool, true, false, List, [], ◌∷◌, ℕ, ◌+◌, ◌/◌, ◌<◌, eqb, length, drop, ne_eqb, eqb-true}
use borrow.Author.Tests.{eqb-false}
use Rattle.lent.specs.Bytes.{one_of}
use Rattle.event.specs.Event.{event_at, events_of}
use Rattle.check_labels.specs.Labels.{identities, label_holds}
use Rattle.check_labels.specs.Uses.{Seeks, Other, IsUse, FirstFrom}
use Rattle.check_labels.proofs.Steps.{defined-none, holds-exit, holds-medium, holds-other, first_more}

-- ---- one event

module _ (b : List ℕ) (i : ℕ) {x : ℕ} (p : x ≡ (event_at b i).name) where
  pub use-other : {r : Bool} → Other x r → r ≡ true → IsUse b i false
  use-other {r} o h = record { holds = λ q text. go text (eqb (event_at b i).kind 0) refl }
    where
      n : (x ≡ 45 → ⊥) × (x ≡ 46 → ⊥) × (x ≡ 62 → ⊥)
      n = o.none h

      go : (text : List ℕ) (t : Bool) → eqb (event_at b i).kind 0 ≡ t → true ≡ label_holds text (events_of b) (event_at b i) (drop (i + 1) (events_of b))
      go text true k = holds-other text b (event_at b i) (drop (i + 1) (events_of b)) refl (eqb-true (event_at b i).kind 0 k) p refl (rw (ne_eqb x 45 n.0, ne_eqb x 46 n.1)) n.2
      go text false k = holds-exit text b (event_at b i) (drop (i + 1) (events_of b)) refl (eqb-false (event_at b i).kind 0 k)

  module _ {k : ℕ} (r : k ≡ (event_at b i).kind) where
    pub use-exit : (k ≡ 0 → ⊥) → IsUse b i false
    use-exit m = record { holds = λ q text. holds-exit text b (event_at b i) (drop (i + 1) (events_of b)) r m }

    module _ (m : k ≡ 0) {u : Bool} (o : u ≡ one_of (45 ∷ 46 ∷ []) x) where
      pub use-medium : u ≡ true → {t : Bool} → Seeks (drop (i + 1) (events_of b)) t → IsUse b i t
      use-medium y s =
          record {
            holds = λ q text. holds-medium text b (event_at b i) (drop (i + 1) (events_of b)) r m p o y (sym (s.none q)) (defined-none text (identities 54 text (events_of b)) refl);
          }

      pub use-call : u ≡ false → IsUse b i (eqb x 62)
      use-call y = record { holds = λ q text. holds-other text b (event_at b i) (drop (i + 1) (events_of b)) r m p o y (eqb-false x 62 q) }

-- ---- an event that is no use

pub use-more : (text b : List ℕ) {i count : ℕ} → FirstFrom text b i → count ≡ length b / 20 → {t : Bool} → i < count → IsUse b i t → t ≡ false → FirstFrom text b (i + 1)
use-more text b p q h u e = first_more text b q p h (u.holds e text) refl
