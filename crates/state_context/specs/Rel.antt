-- How the machine's state stands in the code's, and what a function does that keeps it so. Assumes nothing.
use Rattle.std.specs.Prelude.{◌≡◌, Bool, true, false, not, List, [], ◌∷◌, ℕ, zero, suc, min, ◌≤◌, eqb, length, if◌then◌else◌}
use Rattle.std.specs.Prelude.{Option as CodeOption, Some, None}
use Rattle.std.proofs.Math.Option.{Option, none, some}
use Prim.Native.String.{String}
use Rattle.lent.specs.Bytes.{bytes}
use Rattle.encode_byte.specs.declared.Escaping.{Escaping}
use Rattle.encode_byte.specs.Byte.{escaping_of}
use Rattle.event.specs.declared.Event.{Event}
use Rattle.event.specs.Event.{named, alignments_of}
use Rattle.character_reference.specs.declared.Marker.{Marker}
use Rattle.character_reference.specs.declared.Marker.TheVariants.{Named, Hexadecimal, Decimal}
use Rattle.character_reference.specs.declared.Names.{Names}
use Rattle.character_reference.specs.declared.Names.TheVariants.{Html4, Html5}
use Rattle.machine.specs.declared.Flags.{Flags}
use Rattle.machine.specs.Set.{Flag, slurp, encode, raw, alt, head, set_rank, set_marker}
use Rattle.machine.specs.State as State
use Rattle.machine.specs.State.{State, start}
use Rattle.machine.specs.declared.Ending.{Ending}
use Rattle.machine.specs.declared.Ending.TheVariants.{Lf, Cr, CrLf}
use Rattle.machine.specs.declared.Fixed.{Fixed}
use Rattle.machine.specs.Outcome.{go}
use Rattle.machine.specs.Buffers.{push}
use Rattle.machine.specs.Turn.{Turn, just_before, is_after_definition}
use Rattle.machine.specs.Test.{Test, test}
use Rattle.machine.specs.Command.{Command}
use Rattle.machine.specs.Words.{tag}
use Rattle.machine_bounded.specs.Within.{within}
use Rattle.packed.specs.Tight.{Tightened}
use Rattle.packed.specs.Word.{digit_of}
use Rattle.state_buffers.specs.Stand.{Stand}
use Rattle.state_context.specs.declared.Table.{Table}
use Rattle.state_context.specs.declared.Context.{Context}

-- ---- the parts

-- the machine's option of the code's
abbrev pub rank_of : CodeOption ℕ → Option ℕ
rank_of None = none
rank_of (Some n) = some n

abbrev pub answer_of : CodeOption Bool → Option Bool
answer_of None = none
answer_of (Some x) = some x

abbrev pub mark_of : CodeOption Marker → Option Marker
mark_of None = none
mark_of (Some m) = some m

-- ---- the word: each flag, each answer that waits and each choice that a build never changes is a digit of it

abbrev pub place_of : Flag → ℕ
place_of slurp = 0
place_of encode = 1
place_of raw = 2
place_of alt = 3
place_of head = 4

abbrev pub is_on : (word : ℕ) → Flag → Bool
is_on word f = not (eqb (digit_of (place_of f) word) 0)

abbrev pub flags_of : (word : ℕ) → Flags
flags_of word = record { slurp = is_on word slurp; encode = is_on word encode; raw = is_on word raw; alt = is_on word alt; head = is_on word head }

abbrev pub answer_digit : Option Bool → ℕ
answer_digit none = 0
answer_digit (some true) = 1
answer_digit (some false) = 2

-- counted up to two: no handler asks for more
abbrev pub fences_digit : Option ℕ → ℕ
fences_digit none = 0
fences_digit (some zero) = 1
fences_digit (some (suc zero)) = 2
fences_digit (some (suc (suc n))) = 3

abbrev pub mark_digit : Option Marker → ℕ
mark_digit none = 0
mark_digit (some Named) = 1
mark_digit (some Decimal) = 2
mark_digit (some Hexadecimal) = 3

-- behind the flags, what waits; a setext heading's text stands among the held bytes
pub record Waits (word : ℕ) (number : CodeOption ℕ) (a : State.Waiting) : Type 0 where
  pub rank : rank_of number ≡ a.rank
  pub seen : digit_of 5 word ≡ answer_digit a.seen
  pub fences : digit_of 6 word ≡ fences_digit a.fences
  pub marker : digit_of 7 word ≡ mark_digit a.marker
  pub first : digit_of 8 word ≡ answer_digit a.first

-- and behind these, what never changes
abbrev pub ending_at : (digit : ℕ) → Ending
ending_at zero = Lf
ending_at (suc zero) = Cr
ending_at (suc (suc n)) = CrLf

abbrev pub names_at : (digit : ℕ) → Names
names_at zero = Html4
names_at (suc n) = Html5

abbrev pub apostrophes_at : (digit : ℕ) → Bool
apostrophes_at zero = false
apostrophes_at (suc n) = true

abbrev pub ending_in : (word : ℕ) → Ending
ending_in word = ending_at (digit_of 9 word)

abbrev pub names_in : (word : ℕ) → Names
names_in word = names_at (digit_of 10 word)

abbrev pub apostrophes_in : (word : ℕ) → Bool
apostrophes_in word = apostrophes_at (digit_of 11 word)

abbrev pub fixed_in : (word : ℕ) → Fixed
fixed_in word = record { ending = ending_in word; names = names_in word; apostrophes = apostrophes_in word }

-- how what is pushed is escaped: by the flag and the choice together
abbrev pub escaping_in : (word : ℕ) → Escaping
escaping_in word = escaping_of (is_on word encode) (apostrophes_in word)

-- ---- the table, and all together

-- in a table: the alignments that its enter's extra field holds
abbrev pub enter_of : (extra : ℕ) → Event
enter_of extra = record { kind = 0; name = 57; before = 0; after = 0; from = record { 0 = 0 }; to = record { 0 = 0 }; extra = extra }

abbrev pub aligns_of : Table → Option (List ℕ)
aligns_of t = if t.inside then some (alignments_of (enter_of t.extra)) else none

-- columns are counted up to 256: no table has more
pub record Tabled (t : Table) (a : State.Table) : Type 0 where
  pub aligns : aligns_of t ≡ a.aligns
  pub column : t.column ≡ min 256 a.column

pub record Rel (c : Context) (captures out starts : List ℕ) (s : State) : Type 0 where
  pub stand : Stand c.buffers captures starts out s
  pub flags : flags_of c.word ≡ s.flags
  pub waits : Waits c.word c.rank s.waiting
  pub tight : Tightened c.tight s.tight
  pub table : Tabled c.table s.table
  pub fixed : fixed_in c.word ≡ s.fixed

-- ---- what a function does

-- any turn, and one in which this event of this text is handled
pub record Any (t : Turn) : Type 0 where

pub record Sees (text : List ℕ) (e : Event) (t : Turn) : Type 0 where
  pub text-is : t.text ≡ text
  pub event-is : t.event ≡ e

-- one before which a fence ends, or none does
pub record FenceBefore (x : Bool) (t : Turn) : Type 0 where
  pub fence-is : (e : Event) → just_before t.before ≡ some e → named (29 ∷ []) e ≡ x

-- one in which dangerous HTML is allowed or not, and the last one or not
pub record HtmlAllowed (x : Bool) (t : Turn) : Type 0 where
  pub allowed-is : t.options.allow_dangerous_html ≡ x

pub record IsLast (x : Bool) (t : Turn) : Type 0 where
  pub last-is : t.last ≡ x

-- one of a line ending, behind a definition or not
pub record SeesEnding (text : List ℕ) (e : Event) (x : Bool) (t : Turn) : Type 0 where
  pub sees : Sees text e t
  pub behind-is : is_after_definition t.before ≡ x

-- where the machine goes on with a command, the code goes with it
pub record Keeps (View : Turn → Type 0) (d : Command) (c : Context) (captures out : List ℕ) (r : Context) (captures' out' : List ℕ) : Type 0 where
  pub keeps : (t : Turn) (starts : List ℕ) (s u : State) → View t → Rel c captures out starts s → within d t s ≡ go u → Rel r captures' out' starts u

-- the same where no buffer lacks room: what takes a capture off needs its bytes
pub record Takes (View : Turn → Type 0) (d : Command) (c : Context) (captures starts out : List ℕ) (r : Context) (captures' out' : List ℕ) : Type 0 where
  pub takes : (t : Turn) (s u : State) → View t → c.buffers.end ≤ length captures → Rel c captures out starts s → within d t s ≡ go u → Rel r captures' out' starts u

-- the same with the table of starts, which has 64 places
pub record Opens (View : Turn → Type 0) (d : Command) (c : Context) (captures starts out : List ℕ) (r : Context) (captures' starts' out' : List ℕ) : Type 0 where
  pub opens : (t : Turn) (s u : State) → View t → length starts ≡ 64 → Rel c captures out starts s → within d t s ≡ go u → Rel r captures' out' starts' u

-- the same without a byte
pub record Sets (d : Command) (c r : Context) : Type 0 where
  pub sets : (captures out : List ℕ) → Keeps Any d c captures out r captures out

pub record SetsFor (View : Turn → Type 0) (d : Command) (c r : Context) : Type 0 where
  pub sets : (captures out : List ℕ) → Keeps View d c captures out r captures out

pub record Begins (d : Command) (c : Context) (starts : List ℕ) (r : Context) (starts' : List ℕ) : Type 0 where
  pub begins : (captures out : List ℕ) → Opens Any d c captures starts out r captures starts' out

pub record Ends (d : Command) (c : Context) (starts : List ℕ) (r : Context) : Type 0 where
  pub ends : (captures out : List ℕ) → Takes Any d c captures starts out r captures out

-- Where the machine goes on with a command, the code goes with it: where the captures have room and the table of starts its 64 places.
pub record Turns (View : Turn → Type 0) (d : Command) (c : Context) (captures starts out : List ℕ) (r : Context) (captures' starts' out' : List ℕ) : Type 0 where
  pub turns : (t : Turn) (s u : State) → View t → c.buffers.end ≤ length captures → length starts ≡ 64 → Rel c captures out starts s → within d t s ≡ go u → Rel r captures' out' starts' u

-- a capture is taken off and another opened, without a byte
pub record Renews (d : Command) (c : Context) (starts : List ℕ) (r : Context) (starts' : List ℕ) : Type 0 where
  pub renews : (captures out : List ℕ) → Turns Any d c captures starts out r captures starts' out

-- a text is appended
pub record Pushes (text : List ℕ) (c : Context) (captures out : List ℕ) (r : Context) (captures' out' : List ℕ) : Type 0 where
  pub pushes : (starts : List ℕ) (s : State) → Rel c captures out starts s → Rel r captures' out' starts (push text s)

-- a tag is, but for the text of an image
pub record PushesTag (text : List ℕ) (c : Context) (captures out : List ℕ) (r : Context) (captures' out' : List ℕ) : Type 0 where
  pub tags : (name : String) → bytes name ≡ text → Keeps Any (tag name) c captures out r captures' out'

-- the state before the first event is the machine's
pub record Begun (fixed : Fixed) (r : Context) : Type 0 where
  pub begun : (captures out starts : List ℕ) → Rel r captures out starts (start fixed)

-- the answer to a question
pub record Tells (View : Turn → Type 0) (q : Test) (c : Context) (x : Bool) : Type 0 where
  pub tells : (t : Turn) (captures out starts : List ℕ) (s : State) (y : Bool) → View t → Rel c captures out starts s → test q t s ≡ go y → y ≡ x

-- another rank waits, or none
pub record Ranks (x : CodeOption ℕ) (c r : Context) : Type 0 where
  pub ranks : (captures out starts : List ℕ) (s : State) → Rel c captures out starts s → Rel r captures out starts (set_rank (rank_of x) s)

-- the marker that waits
pub record MarkIs (c : Context) (x : CodeOption Marker) : Type 0 where
  pub mark-is : (captures out starts : List ℕ) (s : State) → Rel c captures out starts s → mark_of x ≡ s.waiting.marker

-- none waits any more
pub record ForgetsMarker (c r : Context) : Type 0 where
  pub forgets : (captures out starts : List ℕ) (s : State) → Rel c captures out starts s → Rel r captures out starts (set_marker none s)
