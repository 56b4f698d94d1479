-- The rules for a text and its events (RULES R3 to R8), as a reader has them: facts about events, their places and elements, and no pass. Assumes nothing.
use Rattle.std.specs.Prelude.{◌≡◌, Bool, true, false, ◌||◌, List, [], ◌∷◌, ◌++◌, ℕ, ◌+◌, ◌%◌, ◌≤◌, ◌<◌, eqb, length, take, if◌then◌else◌, Ok, Err}
use Rattle.utf8.specs.Utf8.{Characters}
use Rattle.event.specs.declared.Event.{Event}
use Rattle.event.specs.Event.{record_size, count_of, is_enter, named, event_at, events_of}
use Rattle.character_reference.specs.declared.Marker.{Marker}
use Rattle.character_reference.specs.declared.Marker.TheVariants.{Named, Decimal, Hexadecimal}
use Rattle.character_reference.specs.Reference.{reference_of, is_some}
use Rattle.check_nesting.specs.Tag.{Tag, tags_of, open_behind}
use Rattle.check_nesting.specs.Nests.{NestsWithin, Nests}
use Rattle.check_fields.specs.Rules.{FieldsMeet}
use Rattle.check_slices.specs.Slices.{is_ending, is_item_value, is_level, is_underline, part}
use Rattle.check_labels.specs.Labels.{identities, is_defined}
use Rattle.check_rules.specs.Elements.{Forest, ElementAt, sought_in}
use Rattle.check_list.specs.declared.Refusal.TheVariants.{WrongLength, NotUtf8, Field, Nested, Slice, Count, Label}
use Rattle.check_list.specs.Checked.{Checked, event}

-- 1: a text of up to 64,000 bytes, and up to 3,200 events, in whole records
pub record SizesMeet (text events : List ℕ) : Type 0 where
  pub short : length text ≤ 64000
  pub whole : length events % record_size ≡ 0
  pub most : count_of events ≤ 3200

-- ---- 5: slices, by what stands before an event

-- an enter of an n, and the exit of one
abbrev pub Enters : ℕ → Event → Type 0
Enters n e = (is_enter e ≡ true) × (e.name ≡ n)

abbrev pub Exits : ℕ → Event → Type 0
Exits n e = (is_enter e ≡ false) × (e.name ≡ n)

-- the exit of a marker of a character reference
abbrev pub is_marker : Event → Bool
is_marker e = if is_enter e then false else eqb e.name 8 || eqb e.name 9 || eqb e.name 10

module _ (events : List ℕ) where
  -- the event k comes after an n: no other marker stands between the two
  pub record After (n k : ℕ) : Type 0 where
    pub at : ℕ
    pub before : at < k
    pub marker : Exits n (event_at events at)
    pub newest : (j : ℕ) → at < j → j < k → is_marker (event_at events j) ≡ false

  -- after 10, after 9, or else
  abbrev pub Marks : ℕ → Marker → Type 0
  Marks k Hexadecimal = After 10 k
  Marks k Decimal = After 9 k
  Marks k Named = (After 10 k → ⊥) × (After 9 k → ⊥)

  -- no 14 before it in its 13: behind each earlier one a 13 begins
  abbrev pub FirstSequence : ℕ → Type 0
  FirstSequence k = (j : ℕ) → j < k → Exits 14 (event_at events j) → (a : ℕ) × (j < a) × (a < k) × Enters 13 (event_at events a)

  module _ (text : List ℕ) where
    -- the slice of an event
    abbrev pub slice_at : ℕ → List ℕ
    slice_at k = let e = event_at events k in part text e.from.0 e.to.0

    pub record SliceMeets (k : ℕ) : Type 0 where
      pub ending : Exits 3 (event_at events k) → is_ending (slice_at k) ≡ true
      pub blank : Exits 4 (event_at events k) → is_ending (slice_at k) ≡ true
      pub value : Exits 26 (event_at events k) → is_item_value (slice_at k) ≡ true
      pub level : Exits 14 (event_at events k) → FirstSequence k → is_level (slice_at k) ≡ true
      pub underline : Exits 18 (event_at events k) → is_underline (slice_at k) ≡ true
      pub reference : Exits 11 (event_at events k) → (m : Marker) → Marks k m → is_some (reference_of m (slice_at k)) ≡ true

-- ---- 6: how many

-- the enters of an n
abbrev pub enters : ℕ → List Event → ℕ
enters n [] = 0
enters n (e ∷ es) = if is_enter e then (if eqb e.name n then enters n es + 1 else enters n es) else enters n es

pub record CountsMeet (es : List Event) : Type 0 where
  pub definitions : enters 53 es ≤ 128
  pub footnotes : enters 63 es ≤ 64

-- ---- 7: labels

-- what the element that an event begins seeks is defined
pub record LabelMeets (text : List ℕ) (es : List Event) (e : Event) (inside : Forest) : Type 0 where
  pub media : is_enter e ≡ true → named (45 ∷ 46 ∷ []) e ≡ true → is_defined text (identities 54 text es) (sought_in inside) ≡ true
  pub call : is_enter e ≡ true → named (62 ∷ []) e ≡ true → is_defined text (identities 65 text es) (sought_in inside) ≡ true

-- ---- all of them

abbrev pub FieldMeets : (text events : List ℕ) → ℕ → Type 0
FieldMeets text events k = FieldsMeet text (event_at events k)

abbrev pub LabelAt : (text events : List ℕ) → ℕ → Type 0
LabelAt text events k = (inside : Forest) → ElementAt (events_of events) k (event_at events k) inside → LabelMeets text (events_of events) (event_at events k) inside

-- every event meets a rule
abbrev pub Each : List ℕ → (ℕ → Type 0) → Type 0
Each events Rule = (k : ℕ) → k < count_of events → Rule k

pub record Meets (text events : List ℕ) : Type 0 where
  pub sizes : SizesMeet text events  -- 1
  pub characters : Characters text  -- 2
  pub fields : Each events (FieldMeets text events)  -- 3
  pub nests : Nests (tags_of events)  -- 4
  pub slices : Each events (SliceMeets events text)  -- 5
  pub counts : CountsMeet (events_of events)  -- 6
  pub labels : Each events (LabelAt text events)  -- 7

-- the first event that breaks a rule
pub record Earliest (events : List ℕ) (Rule : ℕ → Type 0) (i : ℕ) : Type 0 where
  pub within : i < count_of events
  pub breaks : Rule i → ⊥
  pub before : (k : ℕ) → k < i → Rule k

-- the first events up to i are not too many, and with the event i they are
pub record TooMany (es : List Event) (i : ℕ) : Type 0 where
  pub within : i < length es
  pub before : CountsMeet (take i es)
  pub breaks : CountsMeet (take (i + 1) es) → ⊥

-- the first events of a list are in order: some list that goes on from them nests, however deep, and none of them is the 65th open
pub record InOrder (ts : List Tag) : Type 0 where
  pub more : List Tag
  pub most : ℕ
  pub nests : NestsWithin most (ts ++ more)
  pub few : (k : ℕ) → open_behind 0 (take k ts) ≤ 64

-- the first events up to i are in order, and with the event i they are not; at the end, elements are left open
pub record Misplaced (ts : List Tag) (i : ℕ) : Type 0 where
  pub within : i ≤ length ts
  pub before : InOrder (take i ts)
  pub fault : i < length ts → InOrder (take (i + 1) ts) → ⊥
  pub breaks : Nests ts → ⊥

-- ---- what the checker's answer says: all rules are met, or the lowest number whose rule is broken, and the first event that breaks it

pub data Says (text events : List ℕ) : Checked → Type 0 where
  all-met : Meets text events → Says text events (Ok tt)
  first : (SizesMeet text events → ⊥) → Says text events (Err WrongLength)
  second : SizesMeet text events → (Characters text → ⊥) → Says text events (Err NotUtf8)
  third : {i : ℕ} → SizesMeet text events → Characters text → Earliest events (FieldMeets text events) i → Says text events (Err (Field (event i)))
  fourth : {i : ℕ} → SizesMeet text events → Characters text → Each events (FieldMeets text events) → Misplaced (tags_of events) i → Says text events (Err (Nested (event i)))
  fifth : {i : ℕ} → SizesMeet text events → Characters text → Each events (FieldMeets text events) → Nests (tags_of events) → Earliest events (SliceMeets events text) i → Says text events (Err (Slice (event i)))
  sixth : {i : ℕ} → SizesMeet text events → Characters text → Each events (FieldMeets text events) → Nests (tags_of events) → Each events (SliceMeets events text) → TooMany (events_of events) i
      → Says text events (Err (Count (event i)))
  seventh : {i : ℕ} → SizesMeet text events → Characters text → Each events (FieldMeets text events) → Nests (tags_of events) → Each events (SliceMeets events text) → CountsMeet (events_of events)
      → Earliest events (LabelAt text events) i
      → Says text events (Err (Label (event i)))
