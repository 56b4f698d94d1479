-- How the page and the captures of the machine stand in the lent buffers. Assumes nothing.
use Rattle.std.specs.Prelude.{◌≡◌, Bool, true, false, List, [], ◌∷◌, ◌++◌, ℕ, suc, ◌≤◌, ◌<◌, length, take, get_or}
use Rattle.std.specs.Borrow.{MutBor}
use Rattle.lent.specs.Fill.{past, Filled}
use Rattle.machine.specs.declared.Ending.{Ending}
use Rattle.machine.specs.State.{State}
use Rattle.machine.specs.Set.{set_captures}
use Rattle.machine.specs.Buffers.{push, end_line, end_line_if_needed, open_capture}
use Rattle.state_buffers.specs.declared.Buffers.{Buffers}

-- a buffer holds a text up to a place, which is past its end where the text is too long
pub record Holds (d : List ℕ) (at : ℕ) (s : List ℕ) : Type 0 where
  pub place : at ≡ past d 0 s
  pub bytes : length s ≤ length d → take (length s) d ≡ s

-- the captures one behind the other, the oldest first
abbrev pub flat : List (List ℕ) → List ℕ
flat [] = []
flat (c ∷ cs) = flat cs ++ c

-- where each capture below the newest starts, newest first
abbrev pub Saved : (starts : List ℕ) → List (List ℕ) → Type 0
Saved starts [] = Unit
Saved starts (c ∷ cs) = (get_or starts (suc (length cs)) 0 ≡ length (flat cs)) × Saved starts cs

-- and where the newest one does
abbrev pub Starts : (starts : List ℕ) → (start : ℕ) → List (List ℕ) → Type 0
Starts starts start [] = Unit
Starts starts start (c ∷ cs) = (start ≡ length (flat cs)) × Saved starts cs

-- Where something has no room, that is known, and no more.
pub record Stand (b : Buffers) (captures starts out : List ℕ) (s : State) : Type 0 where
  pub page : Holds out b.page s.page
  pub flat-is : Holds captures b.end (flat s.captures)
  pub depth : b.depth ≡ length s.captures
  pub starts-are : length (flat s.captures) ≤ length captures → Starts starts b.start s.captures

-- the code goes from b to r as f does
pub record Keeps (f : State → State) (b : Buffers) (captures out : List ℕ) (r : Buffers) (captures' out' : List ℕ) : Type 0 where
  pub keeps : (starts : List ℕ) (s : State) → Stand b captures starts out s → Stand r captures' starts out' (f s)

-- what a call appends to a buffer, whichever it is and wherever it ends, is pushed
abbrev pub PushesBy : (post : MutBor (List ℕ) → (at r : ℕ) → MutBor (List ℕ) → Type 0) → (b : Buffers) → (captures out : List ℕ) → (r : Buffers) → (captures' out' : List ℕ) → Type 0
PushesBy post b captures out r captures' out' =
    (t : List ℕ) → ((w w' : MutBor (List ℕ)) (at n : ℕ) → post w at n w' → Filled w.now at t w'.now n) → Keeps (push t) b captures out r captures' out'

-- the same, where the line ending is the machine's
pub record KeepsBy (ending : Ending) (f : State → State) (b : Buffers) (captures out : List ℕ) (r : Buffers) (captures' out' : List ℕ) : Type 0 where
  pub keeps : (starts : List ℕ) (s : State) → ending ≡ s.fixed.ending → Stand b captures starts out s → Stand r captures' starts out' (f s)

-- a line ending, always or where it is needed
abbrev pub end_line_by : (always : Bool) → State → State
end_line_by true s = end_line s
end_line_by false s = end_line_if_needed s

-- a capture is opened, where the table of starts has a place for it
abbrev pub Opens : (b : Buffers) → (starts : List ℕ) → (r : Buffers) → (starts' : List ℕ) → Type 0
Opens b starts r starts' =
    (captures out : List ℕ) (s : State) → length s.captures < length starts → Stand b captures starts out s → Stand r captures starts' out (open_capture s)

-- the newest capture c is taken off, where no capture lacks room
abbrev pub Drops : (b : Buffers) → (starts : List ℕ) → (r : Buffers) → Type 0
Drops b starts r =
    (captures out c : List ℕ) (cs : List (List ℕ)) (s : State) → s.captures ≡ c ∷ cs → b.end ≤ length captures → Stand b captures starts out s
    → Stand r captures starts out (set_captures cs s)

-- and written, as f has it
abbrev pub Resumes : (List ℕ → List ℕ) → (b : Buffers) → (starts captures out : List ℕ) → (r : Buffers) → (captures' out' : List ℕ) → Type 0
Resumes f b starts captures out r captures' out' =
    (c : List ℕ) (cs : List (List ℕ)) (s : State) → s.captures ≡ c ∷ cs → b.end ≤ length captures → Stand b captures starts out s
    → Stand r captures' starts out' (push (f c) (set_captures cs s))
