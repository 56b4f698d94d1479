-- Handlers that open or take off a capture in one branch only: the weaker contract of both. Assumes nothing.
use mathlib.Core.Path.{◌≡◌, ◌∙◌}
use mathlib.Core.Bool.{Bool, true, false}
use mathlib.Core.List.{List}
use Prim.Native.Nat.{ℕ}
use Rattle.machine.specs.Turn.{Turn}
use Rattle.machine.specs.Test.{Test, test}
use Rattle.machine.specs.Command.{Command, whether}
use Rattle.machine.proofs.Outcomes.{first_goes}
use Rattle.machine_bounded.specs.Within.{within}
use Rattle.state_context.specs.declared.Context.{Context}
use Rattle.state_context.specs.Rel.{Keeps, Takes, Opens, Ends, Tells}

module _ {View : Turn → Type 0} where
  pub opens-none : {d : Command} {c r : Context} {w o w' o' : List ℕ} {st : List ℕ} → Keeps View d c w o r w' o' → Opens View d c w st o r w' st o'
  opens-none {st = st} k = record { opens = λ t s u v l x p. k.keeps t st s u v x p }

  pub takes_none : {d : Command} {c r : Context} {w o w' o' : List ℕ} {st : List ℕ} → Keeps View d c w o r w' o' → Takes View d c w st o r w' o'
  takes_none {st = st} k = record { takes = λ t s u v l x p. k.keeps t st s u v x p }

  pub ends : {d : Command} {c r : Context} {w o st : List ℕ} → Ends d c st r → Takes View d c w st o r w o
  ends {w = w} {o = o} k = record { takes = λ t s u v l x p. (k.ends w o).takes t s u (record {}) l x p }

  module _ {q : Test} {d e : Command} {c r : Context} {w o st w' o' : List ℕ} {x : Bool} where
    pub opens-yes : {st' : List ℕ} → Tells View q c x → x ≡ true → Opens View d c w st o r w' st' o' → Opens View (whether q d e) c w st o r w' st' o'
    unfolding within
    opens-yes a h k = record {
      opens = λ t s u v l y p.
          let f = first_goes (test q t s) (elim [ true ↦ within d t s | false ↦ within e t s ]) u p in
          let z : f.0 ≡ true = a.tells t w o st s f.0 v y f.1 ∙ h in
          k.opens t s u v l y (rw z at f.2);
    }

    pub takes-yes : Tells View q c x → x ≡ true → Takes View d c w st o r w' o' → Takes View (whether q d e) c w st o r w' o'
    unfolding within
    takes-yes a h k = record {
      takes = λ t s u v l y p.
          let f = first_goes (test q t s) (elim [ true ↦ within d t s | false ↦ within e t s ]) u p in
          let z : f.0 ≡ true = a.tells t w o st s f.0 v y f.1 ∙ h in
          k.takes t s u v l y (rw z at f.2);
    }
