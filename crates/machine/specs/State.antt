-- The machine's state: the fields of CompileContext in their own words. It knows no limits. Assumes nothing.
use Rattle.std.specs.Prelude.{Bool, true, false, List, [], ℕ}
use Rattle.std.proofs.Math.Option.{Option, none}
use Rattle.character_reference.specs.declared.Marker.{Marker}
use Rattle.machine.specs.declared.Flags.{Flags}
use Rattle.machine.specs.declared.Fixed.{Fixed}

-- a slice of the text
pub record Span : Type 0 where
  pub from : ℕ
  pub to : ℕ

-- where a link leads: nowhere, to what it says itself, or to the definition at an index
pub data Destination : Type 0 where
  no_destination : Destination
  own : List ℕ → Destination
  defined : ℕ → Destination

-- an open link, image, footnote call or, in the first pass, definition
pub record Media : Type 0 where
  pub image : Bool
  pub label_id : Option Span
  pub label : Option (List ℕ)
  pub reference_id : Option Span
  pub destination : Destination
  pub title : Option (List ℕ)

-- A label is kept as it stands in the text: two are the same if their identities are.
pub record Definition : Type 0 where
  pub label : List ℕ
  pub destination : Option (List ℕ)
  pub title : Option (List ℕ)

pub record Footnote : Type 0 where
  pub label : List ℕ
  pub body : List ℕ

pub record Call : Type 0 where
  pub label : List ℕ
  pub times : ℕ

-- what a later event of the same element asks for
pub record Waiting : Type 0 where
  pub rank : Option ℕ  -- of an atx heading
  pub setext : Option (List ℕ)  -- text of a setext heading
  pub seen : Option Bool  -- raw flow: whether there was data
  pub fences : Option ℕ  -- raw flow: how many
  pub marker : Option Marker  -- of a character reference
  pub first : Option Bool  -- list: whether the first marker is due

pub record Table : Type 0 where
  pub aligns : Option (List ℕ)  -- one for each column, in a table
  pub column : ℕ

-- what is kept to the end
pub record Kept : Type 0 where
  pub definitions : List Definition  -- in order
  pub footnotes : List Footnote  -- as they end
  pub calls : List Call  -- by first call

pub record State : Type 0 where
  pub page : List ℕ
  pub captures : List (List ℕ)  -- open buffers above the page, newest first
  pub media : List Media  -- newest first
  pub tight : List Bool  -- containers, newest first
  pub labels : List Span  -- of open footnotes, newest first
  pub flags : Flags
  pub waiting : Waiting
  pub table : Table
  pub kept : Kept
  pub fixed : Fixed  -- which never changes

unfoldable pub start : Fixed → State
start fixed =
    record {
      page = [];
      captures = [];
      media = [];
      tight = [];
      labels = [];
      flags = record { slurp = false; encode = true; raw = false; alt = false; head = false };
      waiting = record { rank = none; setext = none; seen = none; fences = none; marker = none; first = none };
      table = record { aligns = none; column = 0 };
      kept = record { definitions = []; footnotes = []; calls = [] };
      fixed = fixed;
    }
