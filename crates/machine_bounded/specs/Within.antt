-- The machine within the tables that the code has: it stops too where a table is full, and where a part would be held out of order. Assumes nothing.
use Rattle.std.specs.Prelude.{◌≡◌, Bool, true, false, ◌&&◌, List, [], ◌∷◌, ℕ, ◌+◌, ◌-◌, eqb, leb, ltb, length}
use Rattle.std.proofs.Math.Option.{Option, none, some}
use Rattle.machine.specs.Outcome.{Outcome, stop, go, ◌>>=◌, need}
use Rattle.machine.specs.State.{State, Media, Call, Destination, no_destination, own, defined}
use Rattle.machine.specs.Turn.{Turn}
use Rattle.machine.specs.Media.{Part, label, destination, title, own_of}
use Rattle.machine.specs.Test.{test}
use Rattle.machine.specs.Command.{Command, nothing, step, ◌▸◌, whether, missing_cells, Step, write, capture, setext, mode, wait, column, medium, retain, Setext, hold, release, Medium, open_media, close_media, store, empty_destination, identify, seek_definition, repeat, perform, exec}
use Rattle.machine.specs.Handlers.{command_of}
use Rattle.machine.specs.Totals.{size, media_sizes, held}

-- no call is made so often that its count has no place
abbrev pub countable : List Call → Bool
countable [] = true
countable (c ∷ cs) = ltb c.times 0x1_0000_0000 && countable cs

-- the code's tables hold it
unfoldable pub fitting : State → Bool
fitting s =
    leb (length s.captures) 64
    && leb (length s.tight) 64
    && leb (length s.media) 64
    && leb (length s.labels) 64
    && leb (length s.kept.definitions) 128
    && leb (length s.kept.footnotes) 64
    && leb (length s.kept.calls) 64
    && countable s.kept.calls

-- of a medium's parts, one and those that are held behind it
abbrev pub parts_from : Part → Media → ℕ
parts_from label m = size m.label + size (own_of m.destination) + size m.title
parts_from destination m = size (own_of m.destination) + size m.title
parts_from title m = size m.title

abbrev pub of_newest : (Media → ℕ) → List Media → ℕ
of_newest f [] = 0
of_newest f (m ∷ ms) = f m

abbrev pub is_unset : {A : Type 0} → Option A → Bool
is_unset none = true
is_unset (some a) = false

abbrev pub is_nowhere : Destination → Bool
is_nowhere no_destination = true
is_nowhere (own b) = false
is_nowhere (defined k) = false

-- nothing is known of a medium but whether it is an image
abbrev pub is_bare : Media → Bool
is_bare m = is_unset m.label_id && is_unset m.label && is_unset m.reference_id && is_nowhere m.destination && is_unset m.title

abbrev pub newest_is_bare : List Media → Bool
newest_is_bare [] = true
newest_is_bare (m ∷ ms) = is_bare m

-- a command that is not made of others, where its turn is right
abbrev pub fitting_only : Outcome State → Outcome State
fitting_only stop = stop
fitting_only (go u) = elim (fitting u) [ true ↦ go u | false ↦ stop ]

abbrev pub one : (ordered : Bool) → Outcome State → Outcome State
one true o = fitting_only o
one false o = stop

-- a setext heading's text is held where nothing is, and given back where no medium holds anything
abbrev pub setext_order : Setext → State → Bool
setext_order hold s = eqb (held s) 0
setext_order release s = eqb (media_sizes s.media) 0

-- a part is held behind all that is held; a medium is opened in one of which nothing is known
abbrev pub medium_order : Medium → List Media → Bool
medium_order (open_media image) ms = newest_is_bare ms
medium_order close_media ms = true
medium_order (store part) ms = eqb (of_newest (parts_from part) ms) 0
medium_order empty_destination ms = eqb (of_newest (λ m. size (own_of m.destination)) ms) 0
medium_order (identify id) ms = true
medium_order seek_definition ms = true

abbrev pub in_order : Step → State → Bool
in_order (write x) s = true
in_order (capture x) s = true
in_order (setext x) s = setext_order x s
in_order (mode x) s = true
in_order (wait x) s = true
in_order (column x) s = true
in_order (medium x) s = medium_order x s.media
in_order (retain x) s = true

unfoldable pub within : Command → Turn → State → Outcome State
within nothing t s = one true (go s)
within (step x) t s = one (in_order x s) (perform x t s)
within (c ▸ d) t s = within c t s >>= λ u. within d t u
within (whether q c d) t s = test q t s >>= elim [ true ↦ within c t s | false ↦ within d t s ]
within (missing_cells c) t s = need s.table.aligns >>= λ aligns. repeat (length aligns - s.table.column) (λ u. within c t u) s

-- it goes on through all these turns
pub data Goes : List Turn → State → State → Type 0 where
  ends : (s : State) → Goes [] s s
  turns : (t : Turn) {ts : List Turn} {s u v : State} → within (command_of t) t s ≡ go u → Goes ts u v → Goes (t ∷ ts) s v
