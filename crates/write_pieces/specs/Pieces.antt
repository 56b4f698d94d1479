-- What is pushed where the machine goes on. Assumes nothing.
use Rattle.std.specs.Prelude.{◌≡◌, Bool, false, List, ◌++◌, ℕ}
use Rattle.std.proofs.Math.Option.{some}
use Rattle.std.proofs.Math.ListN.{get_elem?}
use Rattle.lent.specs.Bytes.{bytes}
use Rattle.encode_byte.specs.declared.Escaping.{Escaping}
use Rattle.encode.specs.Encode.{encode_of}
use Rattle.character_reference.specs.declared.Marker.{Marker}
use Rattle.character_reference.specs.declared.Names.{Names}
use Rattle.character_reference.specs.Reference.{reference_for}
use Rattle.event.specs.declared.Event.{Event}
use Rattle.event.specs.Event.{alignments_of}
use Rattle.machine.specs.declared.Options.{Options}
use Rattle.machine.specs.Outcome.{go}
use Rattle.machine.specs.Buffers.{push}
use Rattle.machine.specs.Text.{start_of, align_text}
use Rattle.machine.specs.Turn.{url_of}
use Rattle.state_buffers.specs.declared.Buffers.{Buffers}
use Rattle.state_buffers.specs.Stand.{Keeps}

-- an address behind `mailto:`, whatever the other options are
pub record PushesMail (apostrophes : Bool) (s : List ℕ) (b : Buffers) (captures out : List ℕ) (r : Buffers) (captures' out' : List ℕ) : Type 0 where
  pub pushes : (o : Options) → o.escape_apostrophes ≡ apostrophes → Keeps (push (url_of o false (bytes "mailto:" ++ s))) b captures out r captures' out'

-- a character reference's text
pub record PushesReference (names : Names) (m : Marker) (s : List ℕ) (escaping : Escaping) (b : Buffers) (captures out : List ℕ) (r : Buffers) (captures' out' : List ℕ) : Type 0 where
  pub pushes : (v : List ℕ) → reference_for names m s ≡ some v → Keeps (push (encode_of escaping v)) b captures out r captures' out'

-- the attribute of a list that starts with the item value s
pub record PushesStart (s : List ℕ) (b : Buffers) (captures out : List ℕ) (r : Buffers) (captures' out' : List ℕ) : Type 0 where
  pub pushes : (v : List ℕ) → start_of s ≡ go v → Keeps (push v) b captures out r captures' out'

-- the enter of a table: of its fields the extra one alone matters
abbrev pub enter_of : (extra : ℕ) → Event
enter_of extra = record { kind = 0; name = 57; before = 0; after = 0; from = record { 0 = 0 }; to = record { 0 = 0 }; extra = extra }

-- the attribute of a cell in a column of that table
pub record PushesAlign (extra column : ℕ) (b : Buffers) (captures out : List ℕ) (r : Buffers) (captures' out' : List ℕ) : Type 0 where
  pub pushes : (a : ℕ) → get_elem? (alignments_of (enter_of extra)) column ≡ some a → Keeps (push (align_text a)) b captures out r captures' out'
