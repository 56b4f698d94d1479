-- How open media and a waiting setext text stand in the code's state and in the held bytes. Assumes nothing.
use Rattle.std.specs.Prelude.{◌≡◌, Bool, true, List, [], ◌∷◌, ℕ, min, ◌+◌, ◌≤◌, ◌<◌, length, take, drop}
use Rattle.std.specs.Prelude.{Option as CodeOption, Some, None}
use Rattle.std.proofs.Math.Option.{Option, none, some}
use Rattle.regions.specs.Sizes.{region_size, held_at, kept_at, work_size, no_room}
use Rattle.machine.specs.State as State
use Rattle.machine.specs.State.{State, no_destination, own, defined}
use Rattle.machine.specs.Set.{set_media, set_destination, set_setext}
use Rattle.machine.specs.Media.{new_media, Part, with_part, Id, with_id, any_image, own_of}
use Rattle.machine.specs.Totals.{size, media_sizes, held, most_total}
use Rattle.machine_bounded.specs.Within.{newest_is_bare, parts_from}
use Rattle.packed.specs.Tight.{Tightened}
use Rattle.regions.specs.Regions.{region_at}
use Rattle.state_media.specs.declared.Piece.{Piece}
use Rattle.state_media.specs.declared.Span.{Span}
use Rattle.state_media.specs.declared.Destination.{Destination}
use Rattle.state_media.specs.declared.Destination.TheVariants as D
use Rattle.state_media.specs.declared.Media.{Media}
use Rattle.state_media.specs.declared.Links.{Links}

-- ---- the parts of a medium

abbrev pub span_is : Span → State.Span
span_is p = record { from = p.from.0; to = p.to.0 }

abbrev pub label_of : CodeOption Span → Option State.Span
label_of None = none
label_of (Some p) = some (span_is p)

-- below the end where it is not empty
pub record PieceIs (region : List ℕ) (end : ℕ) (p : Piece) (b : List ℕ) : Type 0 where
  pub long : p.length ≡ length b
  pub inside : p.place + p.length ≤ region_size
  pub below : 0 < p.length → p.place + p.length ≤ end
  pub bytes : take p.length (drop p.place region) ≡ b

abbrev pub TextIs : (region : List ℕ) → (end : ℕ) → CodeOption Piece → Option (List ℕ) → Type 0
TextIs region end None none = Unit
TextIs region end None (some b) = ⊥
TextIs region end (Some p) none = ⊥
TextIs region end (Some p) (some b) = PieceIs region end p b

abbrev pub DestinationIs : (region : List ℕ) → (end : ℕ) → Destination → State.Destination → Type 0
DestinationIs region end D.Nowhere no_destination = Unit
DestinationIs region end D.Nowhere (own b) = ⊥
DestinationIs region end D.Nowhere (defined k) = ⊥
DestinationIs region end (D.Own p) no_destination = ⊥
DestinationIs region end (D.Own p) (own b) = PieceIs region end p b
DestinationIs region end (D.Own p) (defined k) = ⊥
DestinationIs region end (D.Defined i) no_destination = ⊥
DestinationIs region end (D.Defined i) (own b) = ⊥
DestinationIs region end (D.Defined i) (defined k) = i ≡ k

pub record MediaIs (region : List ℕ) (end : ℕ) (x : Media) (m : State.Media) : Type 0 where
  pub label_id : label_of x.label_id ≡ m.label_id
  pub label : TextIs region end x.label m.label
  pub reference_id : label_of x.reference_id ≡ m.reference_id
  pub destination : DestinationIs region end x.destination m.destination
  pub title : TextIs region end x.title m.title

-- ---- all of them

abbrev pub images_of : List State.Media → List Bool
images_of [] = []
images_of (m ∷ ms) = m.image ∷ images_of ms

-- nothing is known of them but whether they are images
abbrev pub bares : List Bool → List State.Media
bares [] = []
bares (i ∷ is) = new_media i ∷ bares is

abbrev pub OthersBare : List State.Media → Type 0
OthersBare [] = Unit
OthersBare (m ∷ ms) = ms ≡ bares (images_of ms)

abbrev pub NewestIs : (region : List ℕ) → (end : ℕ) → Media → List State.Media → Type 0
NewestIs region end x [] = Unit
NewestIs region end x (m ∷ ms) = MediaIs region end x m

-- Where the held bytes have no room, the end says so, and no more is known.
pub record Linked (l : Links) (region : List ℕ) (s : State) : Type 0 where
  pub long : length region ≡ region_size
  pub images : Tightened l.images (images_of s.media)
  pub others : OthersBare s.media
  pub end : l.end ≡ min (held s) no_room
  pub newest : held s ≤ most_total → NewestIs region l.end l.media s.media
  pub setext : held s ≤ most_total → TextIs region (size s.waiting.setext) l.setext s.waiting.setext

-- ---- what a function does

pub record Opens (image : Bool) (l r : Links) : Type 0 where
  pub opens : (region : List ℕ) (s : State) → length s.media < 64 → newest_is_bare s.media ≡ true → Linked l region s → Linked r region (set_media (new_media image ∷ s.media) s)

pub record Closes (l r : Links) : Type 0 where
  pub closes : (region : List ℕ) (s : State) (m : State.Media) (ms : List State.Media) → s.media ≡ m ∷ ms → l.end ≤ region_size → Linked l region s → Linked r region (set_media ms s)

pub record IsImage (l : Links) (r : Bool) : Type 0 where
  pub is : (region : List ℕ) (s : State) (m : State.Media) (ms : List State.Media) → s.media ≡ m ∷ ms → Linked l region s → r ≡ m.image

pub record AnyOlderImage (l : Links) (r : Bool) : Type 0 where
  pub is : (region : List ℕ) (s : State) (m : State.Media) (ms : List State.Media) → s.media ≡ m ∷ ms → Linked l region s → r ≡ any_image ms

pub record Identifies (id : Id) (p : Span) (l r : Links) : Type 0 where
  pub identifies : (region : List ℕ) (s : State) (m : State.Media) (ms : List State.Media) → s.media ≡ m ∷ ms → Linked l region s → Linked r region (set_media (with_id id (span_is p) m ∷ ms) s)

-- its own, and empty
pub record Empties (l r : Links) : Type 0 where
  pub empties : (region : List ℕ) (s : State) (m : State.Media) (ms : List State.Media) → s.media ≡ m ∷ ms → size (own_of m.destination) ≡ 0 → Linked l region s
      → Linked r region (set_media (set_destination (own []) m ∷ ms) s)

-- to the definition at an index
pub record Leads (k : ℕ) (l r : Links) : Type 0 where
  pub leads : (region : List ℕ) (s : State) (m : State.Media) (ms : List State.Media) → s.media ≡ m ∷ ms → m.destination ≡ no_destination → Linked l region s
      → Linked r region (set_media (set_destination (defined k) m ∷ ms) s)

-- the work bytes outside the held ones are as they were
pub record Around (w w' : List ℕ) : Type 0 where
  pub before : take region_size w' ≡ take region_size w
  pub behind : drop kept_at w' ≡ drop kept_at w

pub record Stores (part : Part) (from n : ℕ) (l : Links) (w : List ℕ) (r : Links) (w' : List ℕ) : Type 0 where
  pub stores : (s : State) (m : State.Media) (ms : List State.Media) → s.media ≡ m ∷ ms → parts_from part m ≡ 0 → length w ≡ work_size → from + n ≤ region_size → Linked l (region_at held_at w) s
      → Linked r (region_at held_at w') (set_media (with_part part (take n (drop from w)) m ∷ ms) s) × Around w w'

pub record Holds (from n : ℕ) (l : Links) (w : List ℕ) (r : Links) (w' : List ℕ) : Type 0 where
  pub holds : (s : State) → held s ≡ 0 → length w ≡ work_size → from + n ≤ region_size → Linked l (region_at held_at w) s
      → Linked r (region_at held_at w') (set_setext (some (take n (drop from w))) s) × Around w w'

pub record Releases (l r : Links) : Type 0 where
  pub releases : (region : List ℕ) (s : State) → media_sizes s.media ≡ 0 → l.end ≤ region_size → Linked l region s → Linked r region (set_setext none s)

-- ---- before the first event

abbrev pub no_media : Links
no_media =
    record {
      images = record { bits = 0; count = 0 };
      media = record { label_id = None; label = None; reference_id = None; destination = D.Nowhere; title = None };
      end = 0;
      setext = None;
    }
