-- A step of the machine: it goes on, or it stops where the Rust would panic. Assumes nothing.
use Rattle.std.proofs.Math.Option.{Option, none, some}

pub data Outcome (A : Type 0) : Type 0 where
  stop : Outcome A
  go : A → Outcome A

infixl 20 ◌>>=◌
abbrev pub ◌>>=◌ : {A B : Type 0} → Outcome A → (A → Outcome B) → Outcome B
◌>>=◌ stop f = stop
◌>>=◌ (go a) f = f a

-- `unwrap` and `expect`
abbrev pub need : {A : Type 0} → Option A → Outcome A
need none = stop
need (some a) = go a
