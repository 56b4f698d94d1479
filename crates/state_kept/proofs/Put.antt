-- Rows as the code writes them, and a title carried. Assumes nothing.
use Rattle.std.proofs.Common.{◌≡◌, refl, List, ℕ, ◌-◌, arith, drop}
use Rattle.regions.specs.Regions.{Carries}
use Rattle.regions.specs.Sizes.{kept_at}
use Rattle.state_kept.specs.Private.{set_row, CarriesTitle}

-- what is left to write of a row
abbrev pub Writing : (n i k : ℕ) (words table before : List ℕ) → Type 0
Writing n i k words table before = set_row n i k (drop k words) table ≡ set_row n i 0 words before

module _ {w : List ℕ} {place title at : ℕ} where
  pub no-title : title ≡ 0 → CarriesTitle w place title at w at
  no-title h = record { missing = λ e. (refl, refl); there = λ e. absurd (omega arith) }

  pub some-title : {w' : List ℕ} {r : ℕ} → (title ≡ 0 → ⊥) → Carries w place (title - 1) kept_at at w' r → CarriesTitle w place title at w' r
  some-title h c = record { missing = λ e. absurd (h e); there = λ {n} e. (let z : n ≡ title - 1 = omega arith in rw z c) }
