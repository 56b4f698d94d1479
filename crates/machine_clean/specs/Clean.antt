-- A state of the machine in which every buffer is UTF-8. Assumes nothing.
use Rattle.std.specs.Prelude.{◌≡◌, true, List, [], ◌∷◌, ℕ}
use Rattle.std.proofs.Math.Option.{Option, none, some}
use Rattle.utf8.specs.Utf8.{is_utf8}
use Rattle.machine.specs.State.{State, Destination, no_destination, own, defined, Media, Definition, Footnote, Call, Kept}

-- a text that is UTF-8
pub record Valid (b : List ℕ) : Type 0 where
  pub utf8 : is_utf8 b ≡ true

-- P holds of each
pub data All {A : Type 0} (P : A → Type 0) : List A → Type 0 where
  empty : All P []
  more : {a : A} {l : List A} → P a → All P l → All P (a ∷ l)

-- where there is a text it is
pub data Maybe : Option (List ℕ) → Type 0 where
  missing : Maybe none
  there : {b : List ℕ} → Valid b → Maybe (some b)

-- ---- what is held

pub data CleanDestination : Destination → Type 0 where
  nowhere : CleanDestination no_destination
  ours : {b : List ℕ} → Valid b → CleanDestination (own b)
  theirs : {k : ℕ} → CleanDestination (defined k)

pub record CleanMedia (m : Media) : Type 0 where
  pub label : Maybe m.label
  pub destination : CleanDestination m.destination
  pub title : Maybe m.title

-- ---- what is kept

pub record CleanDefinition (d : Definition) : Type 0 where
  pub label : Valid d.label
  pub destination : Maybe d.destination
  pub title : Maybe d.title

pub record CleanFootnote (f : Footnote) : Type 0 where
  pub label : Valid f.label
  pub body : Valid f.body

pub record CleanCall (c : Call) : Type 0 where
  pub label : Valid c.label

pub record CleanKept (k : Kept) : Type 0 where
  pub definitions : All CleanDefinition k.definitions
  pub footnotes : All CleanFootnote k.footnotes
  pub calls : All CleanCall k.calls

-- ---- the state

pub record Clean (s : State) : Type 0 where
  pub page : Valid s.page
  pub captures : All Valid s.captures
  pub media : All CleanMedia s.media
  pub setext : Maybe s.waiting.setext
  pub kept : CleanKept s.kept
