-- A definition is kept: its destination, and its title behind it. Assumes nothing.
use Rattle.std.proofs.Common.{◌≡◌, refl, sym, ap, ◌∙◌, List, [], ◌∷◌, ℕ, ◌+◌, ◌-◌, ◌≤◌, ◌<◌, min, arith, length, take, drop}
use Rattle.regions.specs.Sizes.{region_size, kept_at, work_size, no_room}
use Rattle.normalize_identifier.specs.Identity.{identity_of}
use Rattle.signature.specs.declared.Signature.{Signature}
use Rattle.signature.specs.Signature.{signature_of}
use Rattle.regions.specs.Regions.{region_at, Carries}
use Rattle.machine.specs.Totals.{kept}
use Rattle.state_kept.specs.declared.Kept.{Kept}
use Rattle.state_kept.specs.Kept.{Piece, Optional, or_empty}
use Rattle.state_kept.specs.Clauses.{KeepsDefinition}
use Rattle.state_kept.specs.Private.{SetsRow, CarriesTitle}
use Rattle.state_kept.proofs.Rows.{long-row}
use Rattle.state_kept.proofs.Pieces.{piece-stays}
use Rattle.state_kept.proofs.Grows.{kept-definition, long-region, front, end_is, appended, Carrying, carrying, title-carrying, optional-before, title-appended}
use Rattle.state_kept.proofs.Stays.{definitions-more, footnotes-stay}
use Rattle.state_kept.proofs.Keeping.{low}
use Rattle.state_kept.specs.Sizes.{definition_rows}

module _ {k : Kept} {from to place n title_place title : ℕ} {text work definitions : List ℕ} where
  pub definition-full : {r : Kept} → k.end ≤ region_size → definition_rows ≤ k.definitions → KeepsDefinition k text from to place n title_place title work definitions r work definitions
  definition-full h g = record { keeps = λ d w t l p o m. absurd (let x = (t.definitions (low t h)).rows in omega arith) }

  pub definition-over : region_size < k.end → KeepsDefinition k text from to place n title_place title work definitions k work definitions
  definition-over h = record {
    keeps = λ d {s = s} w t l p o m.
        let x = kept-definition d s in
        let y = t.end in
        record {
          keeps = record { long = t.long; end = omega arith; definitions = λ g. absurd (omega arith); footnotes = λ g. absurd (omega arith); calls = t.calls; labels = t.labels };
          before = refl;
        };
  }

  pub definition-kept : {middle end : ℕ} {part : List ℕ} {sign : Signature} {between work' definitions' : List ℕ} → k.end ≤ region_size → k.definitions < definition_rows → length between ≡ length work → Carries work place n kept_at k.end between middle
      → CarriesTitle between title_place title middle work' end → part ≡ take (to - from) (drop from text) → sign ≡ signature_of (identity_of part)
      → SetsRow definition_rows k.definitions (from ∷ to ∷ k.end ∷ n ∷ title ∷ sign.first ∷ sign.second ∷ []) definitions definitions'
      → KeepsDefinition k text from to place n title_place title work definitions (record { end = end; definitions = k.definitions + 1; footnotes = k.footnotes; calls = k.calls; labels = k.labels }) work' definitions'
  definition-kept {middle} {end} {part} {sign} {between} {work'} {definitions'} h g same c ct el es r = record {
    keeps = λ d {s = s} w t l p o m.
        let x = kept-definition d s in
        let y = t.end in
        let first : Carrying work k.end (or_empty d.destination) between middle = carrying w p c in
        let there : Optional between kept_at title_place title d.title = optional-before work between first.before title_place title d.title o in
        let w₁ : work_size ≤ length between = omega arith in
        let second : Carrying between middle (or_empty d.title) work' end = title-carrying w₁ title d.title there ct in
        let l₁ = long-region work w in
        let l₂ = long-region between w₁ in
        let e₁ : middle ≡ min (kept s + length (or_empty d.destination)) no_room = end_is first.filled l₁ (kept s) y in
        let e₂ : end ≡ min (kept s + length (or_empty d.destination) + length (or_empty d.title)) no_room = end_is second.filled l₂ (kept s + length (or_empty d.destination)) e₁ in
        let v : definitions' ≡ _ = r.row g (sym t.long.definitions) in
        let stays = front second.filled k.end (omega arith) ∙ front first.filled k.end (omega arith) in
        let pl = p.long in
        let si : sign ≡ signature_of (identity_of d.label) = es ∙ ap (λ (x : List ℕ). signature_of (identity_of x)) (el ∙ l.is) in
        record {
          keeps = record {
            long = record { definitions = ap length v ∙ long-row definition_rows k.definitions 0 (from ∷ to ∷ k.end ∷ n ∷ title ∷ sign.first ∷ sign.second ∷ []) definitions ∙ t.long.definitions; footnotes = t.long.footnotes; calls = t.long.calls; labels = t.long.labels };
            end = omega arith;
            definitions = λ z.
                let q : middle ≡ k.end + n = omega arith in
                let new : Piece (region_at kept_at work') end k.end n (or_empty d.destination) =
                piece-stays (region_at kept_at between) (region_at kept_at work') middle end (front second.filled middle (omega arith)) (omega arith) (appended first.filled l₁ n pl (omega arith)) in
                let new_title : Optional (region_at kept_at work') end middle title d.title = title-appended between title_place title d.title l₂ there second.filled (omega arith) in
                rw v (definitions-more (region_at kept_at work) (region_at kept_at work') k.end end stays (omega arith) d title sign t.long.definitions g l si new (rw q at new_title) (t.definitions (low t h)));
            footnotes = λ z. footnotes-stay (region_at kept_at work) (region_at kept_at work') k.end end stays (omega arith) (t.footnotes (low t h));
            calls = t.calls;
            labels = t.labels;
          };
          before = second.before ∙ first.before;
        };
  }
