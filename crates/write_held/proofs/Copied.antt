-- A URL appended to the captures from a copy of bytes that stand behind them. Assumes nothing.
use mathlib.Core.Path.{◌≡◌, ◌∙◌}
use mathlib.Core.Bool.{Bool}
use mathlib.Core.List.{List, ◌++◌}
use Prim.Native.Nat.{ℕ, ◌+◌, ◌-◌, ◌≤◌}
use native.Mathlib.Omega.{arith}
use lib.ListN.{length, take, drop, length-take, length-drop}
use lib.Seq.{take_at, drop_at}
use Rattle.lent.specs.Fill.{Filled}
use Rattle.lent.proofs.Laws.{take-fill, length-filled}
use Rattle.regions.specs.Sizes.{region_size}
use Rattle.machine.specs.declared.Options.{Options}
use Rattle.machine.specs.Turn.{url_of}
use Rattle.write_held.specs.Private.{Part, Appended}

-- the captures changed and what stood behind them
apart : {w v s : List ℕ} {at r : ℕ} → region_size ≤ length w → Filled (take region_size w) at s v r → Appended w at s (v ++ drop region_size w) r
apart {w} {v} h f =
    let l : length v ≡ region_size = length-filled f ∙ simp length-take (omega arith) in
    record { filled = rw (take_at v (drop region_size w) region_size l) f; behind = drop_at v (drop region_size w) region_size l }

-- a copy of n bytes
copied : {d e : List ℕ} {m : ℕ} (s : List ℕ) (n : ℕ) → length s ≡ n → n ≤ length d → Filled d 0 s e m → take n e ≡ s
copied {d} s n l h f = let z : 0 + length s ≡ n = omega arith in rw f.bytes (rw z at (take-fill d 0 s (omega arith)))

pub url-by : {w d e v : List ℕ} {from n at m r : ℕ} (o : Options) (image : Bool) → Part w from n (length d) → Filled d 0 (take (from + n - from) (drop from w)) e m
    → Filled (take region_size w) at (url_of o image (take (n - 0) e)) v r → Appended w at (url_of o image (take n (drop from w))) (v ++ drop region_size w) r
url-by {w} {d} {e} {from = from} {n = n} o image p f g =
    let x = p.low in
    let y = p.high in
    let z : from + n - from ≡ n = omega arith in
    let u : n - 0 ≡ n = omega arith in
    let l : length (take n (drop from w)) ≡ n = simp (length-take, length-drop) (omega arith) in
    let q : take n e ≡ take n (drop from w) = copied (take n (drop from w)) n l p.few (rw z at f) in
    apart (omega arith) (rw (u, q) at g)
