-- What the handlers of lists are told of a turn, and what their parts do. Assumes nothing.
use Rattle.std.specs.Prelude.{◌≡◌, Bool, List, [], ◌∷◌, ℕ}
use Rattle.std.proofs.Math.Option.{some}
use Prim.Native.String.{String}
use Rattle.lent.specs.Bytes.{bytes}
use Rattle.event.specs.declared.Event.{Event}
use Rattle.event.specs.Event.{named, is_loose}
use Rattle.machine.specs.Turn.{Turn, look_back}
use Rattle.machine.specs.Test.{is_ordered}
use Rattle.machine.specs.Command.{whether}
use Rattle.machine.specs.Words.{put}
use Rattle.state_context.specs.declared.Context.{Context}
use Rattle.state_context.specs.Rel.{Keeps}

-- a turn of an ordered list or of another
pub record IsOrdered (x : Bool) (t : Turn) : Type 0 where
  pub ordered-is : named (21 ∷ []) t.event ≡ x

-- and whether it is loose
pub record OpensList (x loose : Bool) (t : Turn) : Type 0 where
  pub ordered : IsOrdered x t
  pub loose-is : is_loose t.event ≡ loose

-- one whose look back finds an event of this name, where it finds one
pub record LooksBack (name : ℕ) (t : Turn) : Type 0 where
  pub behind-is : (e : Event) → look_back 0 t.before ≡ some e → e.name ≡ name

-- one text is appended for an ordered list, another for any other
pub record PushesByOrder (x : Bool) (yes no : List ℕ) (c : Context) (captures out : List ℕ) (r : Context) (captures' out' : List ℕ) : Type 0 where
  pub pushes : (a b : String) → bytes a ≡ yes → bytes b ≡ no → Keeps (IsOrdered x) (whether is_ordered (put a) (put b)) c captures out r captures' out'
