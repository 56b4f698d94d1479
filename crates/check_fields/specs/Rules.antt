-- RULES R4 for one event, as facts: what `fields_hold` decides. Assumes nothing.
use Rattle.std.specs.Prelude.{◌≡◌, false, List, ℕ, ◌+◌, ◌*◌, ◌^◌, ◌≤◌, ◌<◌, length}
use Rattle.utf8.specs.Utf8.{inside}
use Rattle.event.specs.declared.Event.{Event}
use Rattle.event.specs.Event.{columns_of}

-- 1 to 24 columns, two bits each from bit 8, and no bit past the last
pub record TableMeets (e : Event) : Type 0 where
  pub one : 1 ≤ columns_of e
  pub most : columns_of e ≤ 24
  pub past : e.extra < 2 ^ (8 + 2 * columns_of e)

-- extra is 0, but on the enter of a list or a table
pub record ExtraMeets (e : Event) : Type 0 where
  pub ordered : e.name ≡ 21 → e.extra ≤ 1
  pub unordered : e.name ≡ 22 → e.extra ≤ 1
  pub table : e.name ≡ 57 → TableMeets e
  pub other : (e.name ≡ 21 → ⊥) → (e.name ≡ 22 → ⊥) → (e.name ≡ 57 → ⊥) → e.extra ≡ 0

-- on an enter these four are 0, and extra is as it may be
pub record EnterMeets (e : Event) : Type 0 where
  pub from : e.from.0 ≡ 0
  pub to : e.to.0 ≡ 0
  pub before : e.before ≡ 0
  pub after : e.after ≡ 0
  pub extra : ExtraMeets e

-- virtual spaces: up to 3 on each side of a code chunk, and none elsewhere
pub record SpacesMeet (e : Event) : Type 0 where
  pub chunk : e.name ≡ 32 → (e.before ≤ 3) × (e.after ≤ 3)
  pub other : (e.name ≡ 32 → ⊥) → (e.before ≡ 0) × (e.after ≡ 0)

-- an exit holds a slice of the text, cut inside no character
pub record ExitMeets (text : List ℕ) (e : Event) : Type 0 where
  pub extra : e.extra ≡ 0
  pub spaces : SpacesMeet e
  pub ordered : e.from.0 ≤ e.to.0
  pub within : e.to.0 ≤ length text
  pub from : inside text e.from.0 ≡ false
  pub to : inside text e.to.0 ≡ false

-- kind 0 is an enter, 1 an exit; names are 0 to 65
pub record FieldsMeet (text : List ℕ) (e : Event) : Type 0 where
  pub kind : e.kind ≤ 1
  pub name : e.name ≤ 65
  pub enter : e.kind ≡ 0 → EnterMeets e
  pub exit : e.kind ≡ 1 → ExitMeets text e
