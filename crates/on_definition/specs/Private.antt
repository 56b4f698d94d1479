-- What the inner functions answer and do: no part of a promise. Assumes nothing.
use Rattle.std.specs.Prelude.{Option as CodeOption, Some, None}
use Rattle.std.specs.Option.{option_or}
use Rattle.std.specs.Prelude.{◌≡◌, List, ◌∷◌, ℕ, suc, min}
use Rattle.std.proofs.Math.Option.{Option}
use Rattle.regions.specs.Sizes.{region_size}
use Rattle.machine.specs.State as State
use Rattle.machine.specs.State.{State, no_destination}
use Rattle.machine.specs.Outcome.{go}
use Rattle.machine.specs.Set.{set_media, set_destination}
use Rattle.machine.specs.Turn.{Turn, str_of}
use Rattle.machine.specs.Media as M
use Rattle.machine.specs.Media.{destination_of, defined_at, definition_labels}
use Rattle.machine.specs.Words.{keep_definition}
use Rattle.normalize_identifier.specs.Search.{first_same}
use Rattle.state_media.specs.declared.Piece.{Piece}
use Rattle.state_media.specs.declared.Span.{Span}
use Rattle.state_media.specs.declared.Destination.{Destination}
use Rattle.state_media.specs.declared.Destination.TheVariants as D
use Rattle.state_media.specs.declared.Media.{Media}
use Rattle.state_media.specs.Links.{span_is, label_of}
use Rattle.state_whole.specs.declared.Whole.{Whole}
use Rattle.state_whole.specs.Whole.{World, Mirrors, Held, Handles, with_work}
use Rattle.on_definition.specs.Definitions.{Known, Reads, with_definitions}

-- ---- sought

abbrev pub sought_of : Media → CodeOption Span
sought_of m = option_or m.reference_id m.label_id

-- the newest medium leads to the definition of this slice
pub record SeeksAt (p : Span) (b : Whole) (text definitions : List ℕ) (r : Whole) : Type 0 where
  pub seeks : (w : World) (s : State) (m : State.Media) (ms : List State.Media) (label : List ℕ) (d : State.Destination) → w.tables.definitions ≡ definitions → Known b → Mirrors text b w s → s.media ≡ m ∷ ms → m.destination ≡ no_destination
      → str_of text (span_is p) ≡ go label → defined_at (first_same (definition_labels s.kept.definitions) label) ≡ go d → Mirrors text r w (set_media (set_destination d m ∷ ms) s)

-- where the machine goes with the label that is sought
pub record Sought (t : Turn) (s : State) (m : State.Media) (d : State.Destination) : Type 0 where
  pub label : Option (List ℕ)
  pub label_is : M.label_of t m.reference_id m.label_id ≡ go label
  pub leads : destination_of s.kept.definitions m.destination label ≡ go d

-- of its label, where it has one
pub record SeeksLabel (b : Whole) (text definitions : List ℕ) (r : Whole) : Type 0 where
  pub seeks : (t : Turn) (w : World) (s : State) (m : State.Media) (ms : List State.Media) (d : State.Destination) → t.text ≡ text → w.tables.definitions ≡ definitions → Known b → Mirrors text b w s → s.media ≡ m ∷ ms → m.destination ≡ no_destination
      → Sought t s m d → Mirrors text r w (set_media (set_destination d m ∷ ms) s)

-- ---- kept

abbrev no_piece : Piece
no_piece = record { place = 0; length = 0 }

abbrev pub own_piece : Destination → Piece
own_piece D.Nowhere = no_piece
own_piece (D.Own p) = p
own_piece (D.Defined k) = no_piece

abbrev pub text_piece : CodeOption Piece → Piece
text_piece None = no_piece
text_piece (Some p) = p

abbrev pub word_of : CodeOption Piece → ℕ
word_of None = 0
word_of (Some p) = suc (min p.length region_size)

-- the newest medium is kept, and closed
pub record KeepsNewest (b : Whole) (text work definitions : List ℕ) (r : Whole) (work' definitions' : List ℕ) : Type 0 where
  pub keeps : (w : World) → w.work ≡ work → w.tables.definitions ≡ definitions → Handles text Held (Reads text) keep_definition b w r (with_definitions definitions' (with_work work' w))

-- under this slice
pub record KeepsAt (p : Span) (b : Whole) (text work definitions : List ℕ) (r : Whole) (work' definitions' : List ℕ) : Type 0 where
  pub keeps : b.links.media.reference_id ≡ Some p → KeepsNewest b text work definitions r work' definitions'
