-- A shape: how a state differs from an earlier one, in what a stop depends on. Assumes nothing.
use Rattle.std.specs.Prelude.{◌≡◌, Bool, true, false, ◌&&◌, List, [], ◌∷◌, ℕ, zero, suc, ◌+◌, ◌≤◌, T, eqb, length}
use Rattle.machine.specs.State.{State, Media}
use Rattle.machine_shape.specs.Facts.{wait_facts, media_facts, defined?}

-- ---- shapes

-- of a fact: it holds; it holds if it did before; nothing is known
pub data Say : Type 0 where
  sure kept lost : Say

-- how often a stack was popped and pushed
pub record Moves : Type 0 where
  pub down : ℕ
  pub up : ℕ

-- the media are the same; the newest is another; there is one more; there is one less; nothing is known
pub data Stack : Type 0 where
  still changed over gone unknown : Stack

pub record Shape : Type 0 where
  pub captures : Moves
  pub tight : Moves
  pub labels : Moves
  pub stack : Stack
  pub waits : List Say
  pub media : List Say

-- ---- what a shape says of an earlier state b and a later s

abbrev pub Moved : Moves → ℕ → ℕ → Type 0
Moved m before after = before + m.up ≡ after + m.down

abbrev pub Over : Stack → List Media → List Media → Type 0
Over still bs ms = ms ≡ bs
Over changed bs ms = (b m : Media) × (rest : List Media) × (bs ≡ b ∷ rest) × (ms ≡ m ∷ rest)
Over over bs ms = (m : Media) × (ms ≡ m ∷ bs)
Over gone bs ms = (m : Media) × (bs ≡ m ∷ ms)
Over unknown bs ms = Unit {0}

abbrev pub Says : Say → Bool → Bool → Type 0
Says sure x y = T y
Says kept x y = T x → T y
Says lost x y = Unit {0}

abbrev pub Mean : List (State → Bool) → List Say → State → State → Type 0
Mean [] xs b s = Unit {0}
Mean (f ∷ fs) [] b s = Unit {0}
Mean (f ∷ fs) (x ∷ xs) b s = Says x (f b) (f s) × Mean fs xs b s

pub record Rel (x : Shape) (b s : State) : Type 0 where
  pub captures : Moved x.captures (length b.captures) (length s.captures)
  pub tight : Moved x.tight (length b.tight) (length s.tight)
  pub labels : Moved x.labels (length b.labels) (length s.labels)
  pub stack : Over x.stack b.media s.media
  pub defined : defined? b ≤ defined? s
  pub waits : Mean wait_facts x.waits b s
  pub media : Mean media_facts x.media b s

-- ---- made

abbrev pub moves : ℕ → ℕ → Moves
moves d u = record { down = d; up = u }

abbrev pub all : ℕ → Say → List Say
all zero a = []
all (suc n) a = a ∷ all n a

-- at one place another
abbrev pub at : ℕ → Say → List Say → List Say
at k a [] = []
at zero a (x ∷ xs) = a ∷ xs
at (suc k) a (x ∷ xs) = x ∷ at k a xs

abbrev pub ats : List ℕ → Say → List Say → List Say
ats [] a xs = xs
ats (k ∷ ks) a xs = at k a (ats ks a xs)

abbrev pub keep_all : List Say
keep_all = kept ∷ kept ∷ kept ∷ kept ∷ kept ∷ kept ∷ kept ∷ kept ∷ kept ∷ kept ∷ kept ∷ []

abbrev pub idle : Shape
idle = record { captures = moves 0 0; tight = moves 0 0; labels = moves 0 0; stack = still; waits = keep_all; media = keep_all }

-- ---- one after the other

abbrev pub sum : Moves → Moves → Moves
sum m n = moves (m.down + n.down) (m.up + n.up)

abbrev pub later : Say → Say → Say
later a sure = sure
later a kept = a
later a lost = lost

abbrev pub laters : List Say → List Say → List Say
laters [] ys = []
laters (x ∷ xs) [] = []
laters (x ∷ xs) (y ∷ ys) = later x y ∷ laters xs ys

abbrev pub stacked : Stack → Stack → Stack
stacked still y = y
stacked changed still = changed
stacked changed changed = changed
stacked changed over = unknown
stacked changed gone = gone
stacked changed unknown = unknown
stacked over still = over
stacked over changed = over
stacked over over = unknown
stacked over gone = still
stacked over unknown = unknown
stacked gone still = gone
stacked gone changed = unknown
stacked gone over = unknown
stacked gone gone = unknown
stacked gone unknown = unknown
stacked unknown y = unknown

-- what was pushed and popped leaves what lies below as it was
abbrev pub media_later : Stack → Stack → List Say → List Say → List Say
media_later still y xs ys = laters xs ys
media_later changed y xs ys = laters xs ys
media_later over still xs ys = laters xs ys
media_later over changed xs ys = laters xs ys
media_later over over xs ys = laters xs ys
media_later over gone xs ys = keep_all
media_later over unknown xs ys = laters xs ys
media_later gone y xs ys = laters xs ys
media_later unknown y xs ys = laters xs ys

abbrev pub seq : Shape → Shape → Shape
seq x y =
    record {
      captures = sum x.captures y.captures;
      tight = sum x.tight y.tight;
      labels = sum x.labels y.labels;
      stack = stacked x.stack y.stack;
      waits = laters x.waits y.waits;
      media = media_later x.stack y.stack x.media y.media;
    }

-- ---- tests

abbrev pub covers1 : Say → Say → Bool
covers1 sure y = true
covers1 kept sure = false
covers1 kept kept = true
covers1 kept lost = true
covers1 lost sure = false
covers1 lost kept = false
covers1 lost lost = true

abbrev pub covers_all : List Say → List Say → Bool
covers_all xs [] = true
covers_all [] (y ∷ ys) = false
covers_all (x ∷ xs) (y ∷ ys) = covers1 x y && covers_all xs ys

abbrev pub is_as : Stack → Stack → Bool
is_as still still = true
is_as still changed = false
is_as still over = false
is_as still gone = false
is_as still unknown = false
is_as changed still = false
is_as changed changed = true
is_as changed over = false
is_as changed gone = false
is_as changed unknown = false
is_as over y = false
is_as gone y = false
is_as unknown y = false

abbrev pub equal : Moves → Moves → Bool
equal m n = eqb (m.up + n.down) (n.up + m.down)

-- all of them
abbrev pub all_of : List Bool → Bool
all_of [] = true
all_of (b ∷ bs) = b && all_of bs

-- what the first says gives what the second says
abbrev pub covers : Shape → Shape → Bool
covers x y =
    all_of
    (equal x.captures y.captures
    ∷ equal x.tight y.tight
    ∷ equal x.labels y.labels
    ∷ is_as x.stack y.stack
    ∷ covers_all x.waits y.waits
    ∷ covers_all x.media y.media
    ∷ [])

-- no stack has more than n
pub record Low (n : ℕ) (s : State) : Type 0 where
  pub captures : length s.captures ≤ n
  pub tight : length s.tight ≤ n
  pub media : length s.media ≤ n
  pub labels : length s.labels ≤ n
