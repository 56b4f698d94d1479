-- What the reads of the input come to: no part of the promise. Assumes nothing.
use Rattle.std.specs.Prelude.{◌≡◌, Bool, true, false, List, ℕ, T}
use Rattle.bundle_parts.specs.declared.Reader.{Reader}
use Rattle.bundle_parts.specs.Feed.{stand_of, start_of, feed_of}
use Rattle.bundle_parts.specs.Parts.{fed_of}
use Rattle.notepage.specs.declared.Turn.{Turn}
use Rattle.notepage.specs.declared.Input.{Input}
use Rattle.notepage.specs.declared.Input.TheVariants.{Again, Some, End, Failed}

-- parts have come, by which the reader and the buffers, which held t and e, stand where they do
pub record Came (t e : List ℕ) (r : Reader) (t' e' : List ℕ) : Type 0 where
  pub parts : List (List ℕ)
  pub stands : stand_of r t' e' ≡ fed_of (start_of t e) parts

-- one part more has come, or nothing has changed
pub record CameMore (r : Reader) (t e : List ℕ) (r' : Reader) (t' e' : List ℕ) : Type 0 where
  pub part : List ℕ
  pub stands : stand_of r' t' e' ≡ feed_of (stand_of r t e) part

pub record Stayed (r : Reader) (t e : List ℕ) (r' : Reader) (t' e' : List ℕ) : Type 0 where
  pub reader : r' ≡ r
  pub text : t' ≡ t
  pub events : e' ≡ e

abbrev pub TurnedBy : Input → Reader → (t e : List ℕ) → Reader → (t' e' : List ℕ) → Type 0
TurnedBy Some r t e r' t' e' = CameMore r t e r' t' e'
TurnedBy Again r t e r' t' e' = Stayed r t e r' t' e'
TurnedBy End r t e r' t' e' = Stayed r t e r' t' e'
TurnedBy Failed r t e r' t' e' = Stayed r t e r' t' e'

abbrev pub Turned : Reader → (t e t' e' : List ℕ) → Turn → Type 0
Turned r t e t' e' turn = TurnedBy turn.input r t e turn.reader t' e'

-- all reads together
abbrev pub CameBy : Input → (t e : List ℕ) → Reader → (t' e' : List ℕ) → Type 0
CameBy End t e r t' e' = Came t e r t' e'
CameBy Some t e r t' e' = T true
CameBy Again t e r t' e' = T true
CameBy Failed t e r t' e' = T true

abbrev pub CameTo : (t e t' e' : List ℕ) → Turn → Type 0
CameTo t e t' e' turn = CameBy turn.input t e turn.reader t' e'

abbrev pub no_bytes : Input → Bool
no_bytes Some = false
no_bytes Again = true
no_bytes End = true
no_bytes Failed = true
