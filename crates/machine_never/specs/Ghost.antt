-- What the events alone tell of the open media: their slices, along a list and along a forest. Assumes nothing.
use Rattle.std.specs.Prelude.{◌≡◌, Bool, true, false, ◌&&◌, List, [], ◌∷◌, ◌++◌, ℕ, ◌≤◌, eqb, leb, if◌then◌else◌, Some, None}
use Rattle.std.proofs.Math.Option.{Option, some}
use Rattle.event.specs.declared.Event.{Event}
use Rattle.event.specs.Event.{is_enter}
use Rattle.check_labels.specs.Labels.{Part, or_else}
use Rattle.check_nesting.specs.Grammar.{name_of, holds}
use Rattle.check_nesting.specs.Nests.{Takes}
use Rattle.check_rules.specs.Elements.{Forest, nil, element, Pair, child_of}
use Rattle.machine.specs.State.{Span}
use Rattle.machine.specs.Handlers.{command_in}
use Rattle.machine_shape.specs.Kinds.{row_of}
use Rattle.machine_shape.specs.Grown.{Kinds}
use Rattle.machine_never.specs.Values.{Ids, Effect, pushes, pops, names, refers, leads, seeks, defines, labels, notes, calls, unmarks, marks, ids_step, effects_of}

-- ---- along a list

abbrev pub effects_at : Event → List Effect
effects_at e = effects_of (command_in (is_enter e) (row_of e.name))

abbrev pub ids_run : Event → List Effect → List Ids → List Ids
ids_run e [] is = is
ids_run e (x ∷ xs) is = ids_run e xs (ids_step e x is)

-- behind these events, newest first
unfoldable pub ids_of : List Event → List Ids
ids_of [] = []
ids_of (e ∷ es) = ids_run e (effects_at e) (ids_of es)

-- the first is the beginning of the second
abbrev pub Prefix : List Ids → List Ids → Type 0
Prefix [] js = Unit {0}
Prefix (i ∷ is) [] = ⊥
Prefix (i ∷ is) (j ∷ js) = (i ≡ j) × Prefix is js

-- ---- along a forest

abbrev pub ids_over : Forest → List Ids → List Ids
ids_over nil is = is
ids_over (element a f z g) is = ids_over g (ids_run z (effects_at z) (ids_over f (ids_run a (effects_at a) is)))

-- ---- an element's children, those in 0 to 4 among them

pub record Top : Type 0 where
  pub enter : Event
  pub inside : Forest
  pub exit : Event

abbrev pub tops : Forest → List Top
tops nil = []
tops (element a f z g) = if leb a.name 4 then tops f ++ tops g else record { enter = a; inside = f; exit = z } ∷ tops g

abbrev pub child_top : ℕ → List Top → Part
child_top n [] = None
child_top n (x ∷ xs) = if eqb x.enter.name n then Some (x.exit.from.0, x.exit.to.0) else child_top n xs

abbrev pub grand_top : ℕ → List Top → Part
grand_top n [] = None
grand_top n (x ∷ xs) = or_else (child_of n x.inside) (grand_top n xs)

abbrev pub ids_tops : List Top → List Ids → List Ids
ids_tops [] is = is
ids_tops (x ∷ xs) is = ids_tops xs (ids_run x.exit (effects_at x.exit) (ids_over x.inside (ids_run x.enter (effects_at x.enter) is)))

pub record IsKind (k : ℕ) (x : Top) : Type 0 where
  pub named : x.enter.name ≡ name_of k
  pub five : 5 ≤ name_of k
  pub pair : Pair x.enter x.exit
  pub inner : List ℕ
  pub takes : Takes (holds k) inner
  pub kinds : Kinds inner x.inside

abbrev pub AreKinds : List ℕ → List Top → Type 0
AreKinds [] [] = Unit {0}
AreKinds [] (x ∷ xs) = ⊥
AreKinds (k ∷ ks) [] = ⊥
AreKinds (k ∷ ks) (x ∷ xs) = IsKind k x × AreKinds ks xs

-- a part's slice, or what was there
abbrev pub or_that : Part → Option Span → Option Span
or_that (Some (from, to)) o = some (record { from = from; to = to })
or_that None o = o

abbrev pub is_part : Part → Bool
is_part (Some (from, to)) = true
is_part None = false

-- ---- tests of effects

abbrev pub off : Effect → Bool
off pushes = false
off pops = false
off names = false
off refers = false
off leads = false
off seeks = false
off defines = false
off labels = true
off notes = true
off calls = false
off unmarks = true
off (marks m) = true

-- it changes the newest at most
abbrev pub only_top : Effect → Bool
only_top pushes = false
only_top pops = false
only_top names = true
only_top refers = true
only_top leads = true
only_top seeks = true
only_top defines = false
only_top labels = true
only_top notes = true
only_top calls = false
only_top unmarks = true
only_top (marks m) = true

abbrev pub popping : Effect → Bool
popping pushes = false
popping pops = true
popping names = false
popping refers = false
popping leads = false
popping seeks = false
popping defines = true
popping labels = false
popping notes = false
popping calls = true
popping unmarks = false
popping (marks m) = false

abbrev pub all_effects : (Effect → Bool) → List Effect → Bool
all_effects f [] = true
all_effects f (x ∷ xs) = f x && all_effects f xs

abbrev pub is_push : List Effect → Bool
is_push [] = false
is_push (pushes ∷ xs) = all_effects off xs
is_push (pops ∷ xs) = false
is_push (names ∷ xs) = false
is_push (refers ∷ xs) = false
is_push (leads ∷ xs) = false
is_push (seeks ∷ xs) = false
is_push (defines ∷ xs) = false
is_push (labels ∷ xs) = false
is_push (notes ∷ xs) = false
is_push (calls ∷ xs) = false
is_push (unmarks ∷ xs) = false
is_push (marks m ∷ xs) = false

abbrev pub pops_last : List Effect → Bool
pops_last [] = false
pops_last (x ∷ []) = popping x
pops_last (x ∷ y ∷ ys) = only_top x && pops_last (y ∷ ys)
