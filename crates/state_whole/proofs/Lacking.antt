-- The totals and the page, by the places behind them. Assumes nothing.
use Rattle.std.specs.Prelude.{Option as CodeOption, Some, None}
use mathlib.Core.Path.{◌≡◌, refl, ap}
use mathlib.Core.List.{List, [], ◌∷◌}
use Prim.Native.Nat.{ℕ, min, ◌+◌, ◌≤◌, ◌<◌}
use native.Mathlib.Omega.{arith}
use borrow.Author.Tests.{lt-ltb, le-ltb}
use lib.Dec.{ltb}
use lib.ListN.{length, length-append}
use Rattle.regions.specs.Sizes.{region_size, no_room}
use Rattle.state_buffers.specs.Stand.{flat}
use Rattle.machine.specs.State.{State}
use Rattle.machine.specs.Totals.{sizes, captured, held, kept, over, most_total}
use Rattle.state_whole.specs.declared.Whole.{Whole}
use Rattle.state_whole.specs.Whole.{World, Mirrors}
use Rattle.state_whole.proofs.Parts.{front_long}
use Rattle.state_whole.specs.declared.Shortage.{Shortage}
use Rattle.state_whole.specs.declared.Shortage.TheVariants as S
use Rattle.state_whole.specs.Lacking.{refusal_of, Lacks}

flat-long : (cs : List (List ℕ)) → length (flat cs) ≡ sizes cs
flat-long [] = refl
flat-long (c ∷ cs) = let a = length-append (flat cs) c in let b = flat-long cs in omega arith

-- where each stands
pub record Places (b : Whole) (room : ℕ) (s : State) : Type 0 where
  pub captures : b.context.buffers.end ≡ min (captured s) no_room
  pub held-is : b.links.end ≡ min (held s) no_room
  pub kept-is : b.kept.end ≡ min (kept s) no_room
  pub page : b.context.buffers.page ≡ min (length s.page) (room + 1)

pub placed : (text : List ℕ) (b : Whole) (w : World) (s : State) (room : ℕ) → length w.out ≡ room → Mirrors text b w s → Places b room s
unfolding captured
placed text b w s room h y =
    let n = front_long w.work y.long in
    let f = flat-long s.captures in
    let p = y.context.stand.flat-is.place in
    let q = y.context.stand.page.place in
    record { captures = omega arith; held-is = y.links.end; kept-is = y.kept.end; page = omega arith }

module _ {b : Whole} {room : ℕ} where
  lacking : (r : CodeOption Shortage) → ((s : State) → Places b room s → over room s ≡ refusal_of r) → Lacks b room r
  lacking r k = record { lacks = λ text w s h y. k s (placed text b w s room h y) }

  pub captures-lack : region_size < b.context.buffers.end → Lacks b room (Some S.Work)
  unfolding over
  captures-lack h = lacking (Some S.Work) (λ s p. (let e = p.captures in rw (lt-ltb most_total (captured s) (omega arith))))

  pub held-lacks : b.context.buffers.end ≤ region_size → region_size < b.links.end → Lacks b room (Some S.Work)
  unfolding over
  held-lacks g h = lacking (Some S.Work) (λ s p. (let d = p.captures in let e = p.held-is in rw (le-ltb most_total (captured s) (omega arith), lt-ltb most_total (held s) (omega arith))))

  pub kept-lacks : b.context.buffers.end ≤ region_size → b.links.end ≤ region_size → region_size < b.kept.end → Lacks b room (Some S.Work)
  unfolding over
  kept-lacks f g h = lacking (Some S.Work) (λ s p. (let c = p.captures in let d = p.held-is in let e = p.kept-is in rw (le-ltb most_total (captured s) (omega arith), le-ltb most_total (held s) (omega arith), lt-ltb most_total (kept s) (omega arith))))

  module _ (f : b.context.buffers.end ≤ region_size) (g : b.links.end ≤ region_size) (h : b.kept.end ≤ region_size) where
    pub page-lacks : room < b.context.buffers.page → Lacks b room (Some S.Page)
    unfolding over
    page-lacks k = lacking (Some S.Page) (λ s p. (let c = p.captures in let d = p.held-is in let e = p.kept-is in let q = p.page in
        rw (le-ltb most_total (captured s) (omega arith), le-ltb most_total (held s) (omega arith), le-ltb most_total (kept s) (omega arith), lt-ltb room (length s.page) (omega arith))))

    pub none-lacks : b.context.buffers.page ≤ room → Lacks b room None
    unfolding over
    none-lacks k = lacking None (λ s p. (let c = p.captures in let d = p.held-is in let e = p.kept-is in let q = p.page in
        rw (le-ltb most_total (captured s) (omega arith), le-ltb most_total (held s) (omega arith), le-ltb most_total (kept s) (omega arith), le-ltb room (length s.page) (omega arith))))
