-- Said for inner functions, no part of what encoding means. Assumes nothing.
use Rattle.std.specs.Prelude.{◌≡◌, Bool, ℕ}

-- whether a closure, by the answers that it may give, answers as f does
abbrev pub IsTest : (ℕ → Bool → Type 0) → (ℕ → Bool) → Type 0
IsTest gives f = (b : ℕ) (x : Bool) → gives b x → x ≡ f b
