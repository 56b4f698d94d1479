-- Calls so far: each of a footnote, each once, and no more in all than events. Assumes nothing.
use Rattle.std.specs.Prelude.{◌≡◌, true, List, [], ◌∷◌, ℕ, ◌+◌, ◌≤◌}
use Rattle.lent.specs.Bytes.{listed}
use Rattle.normalize_identifier.specs.Identity.{identity_of}
use Rattle.machine.specs.State.{Call}
use Rattle.machine.specs.Footnote.{call_labels}
use Rattle.machine_never.specs.Known.{Has}

abbrev pub AllListed : List (List ℕ) → List Call → Type 0
AllListed ids [] = Unit {0}
AllListed ids (c ∷ cs) = (listed ids (identity_of c.label) ≡ true) × AllListed ids cs

abbrev pub AllApart : List Call → Type 0
AllApart [] = Unit {0}
AllApart (c ∷ cs) = (Has (identity_of c.label) (call_labels cs) → ⊥) × AllApart cs

abbrev pub times : List Call → ℕ
times [] = 0
times (c ∷ cs) = c.times + times cs

pub record Tally (ids : List (List ℕ)) (n : ℕ) (cs : List Call) : Type 0 where
  pub each : AllListed ids cs
  pub apart : AllApart cs
  pub total : times cs ≤ n
