-- What the footnote section asks for, and what it does: it only writes. Assumes nothing.
use Rattle.std.specs.Prelude.{◌≡◌, List, ℕ, None}
use Rattle.normalize_identifier.specs.Search.{first_same}
use Rattle.machine.specs.State.{State, Footnote, Call}
use Rattle.machine.specs.Buffers.{push}
use Rattle.machine.specs.Section.{footnote_labels}
use Rattle.machine_clean.specs.Clean.{Valid, All}

-- u is s with a text behind its newest buffer
pub record Appends (s u : State) : Type 0 where
  pub text : List ℕ
  pub valid : Valid text
  pub is : u ≡ push text s

-- a call's label is that of a footnote
pub record Noted (fs : List Footnote) (c : Call) : Type 0 where
  pub found : first_same (footnote_labels fs) c.label ≡ None → ⊥

-- every call's is
abbrev pub Called : State → Type 0
Called s = All (Noted s.kept.footnotes) s.kept.calls
