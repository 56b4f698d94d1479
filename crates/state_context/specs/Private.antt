-- What the inner functions make of the state: no part of a promise. Assumes nothing.
use Rattle.std.specs.Prelude.{◌≡◌, Bool, ℕ, ◌<◌}
use Rattle.machine.specs.Set.{Flag}
use Rattle.machine.specs.Test.{is}
use Rattle.machine.specs.Words.{set}
use Rattle.machine.specs.declared.Fixed.{Fixed}
use Rattle.packed.specs.Word.{digit_of, Placed}
use Rattle.state_context.specs.declared.Context.{Context}
use Rattle.state_context.specs.Rel.{Any, Sets, Tells, place_of, fixed_in}

-- with another word
abbrev pub with_word : ℕ → Context → Context
with_word x c = record { buffers = c.buffers; word = x; rank = c.rank; tight = c.tight; table = c.table }

-- the flag at a place is set, or asked for
pub record SetsFlag (place : ℕ) (x : Bool) (c r : Context) : Type 0 where
  pub sets-flag : (f : Flag) → place_of f ≡ place → Sets (set f x) c r

pub record TellsFlag (place : ℕ) (c : Context) (x : Bool) : Type 0 where
  pub tells-flag : (f : Flag) → place_of f ≡ place → Tells Any (is f) c x

-- one digit of the word is another
pub record Digit (place x : ℕ) (c r : Context) : Type 0 where
  pub word : ℕ
  pub placed : Placed place x c.word word
  pub is : r ≡ with_word word c

-- the word before the first event: HTML is encoded, no answer waits, and what never changes stands there
pub record Starts (fixed : Fixed) (word : ℕ) : Type 0 where
  pub begins : (j : ℕ) → j < 9 → digit_of j word ≡ digit_of j 4
  pub holds : fixed_in word ≡ fixed
