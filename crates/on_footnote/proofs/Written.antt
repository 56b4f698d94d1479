-- A call written to the newest buffer: the captures are the first of the work bytes. Assumes nothing.
use Rattle.std.proofs.Common.{◌⊎◌, inl, inr}
use mathlib.Core.Path.{◌≡◌, ◌∙◌}
use mathlib.Core.Bool.{Bool}
use mathlib.Core.List.{List, ◌++◌}
use Prim.Native.Nat.{ℕ, suc, ◌+◌, ◌-◌, ◌≤◌, ◌<◌}
use native.Mathlib.Omega.{arith}
use lib.ListN.{length, take, drop, length-take}
use lib.Seq.{take_at, drop_at}
use Rattle.regions.specs.Sizes.{region_size}
use Rattle.machine.specs.Buffers.{push}
use Rattle.machine.specs.Footnote.{address_of, call_text}
use Rattle.state_buffers.specs.declared.Buffers.{Buffers}
use Rattle.state_buffers.specs.Stand as Stand
use Rattle.on_footnote.specs.Private.{WritesCall}

module _ {apostrophes : Bool} {b : Buffers} {text work out : List ℕ} {from to index times : ℕ} where
  pub nowhere : (to < from) ⊎ (length text < to) → WritesCall apostrophes b text from to index times work out b work out
  nowhere h = record { writes = λ label l i n. absurd (elim h [ inl x ↦ omega (arith, l.ordered) | inr x ↦ omega (arith, l.inside) ]) }

  pub short : length work < region_size → WritesCall apostrophes b text from to index times work out b work out
  short h = record { writes = λ label l i n. absurd (omega arith) }

  pub full : 64 ≤ index → WritesCall apostrophes b text from to index times work out b work out
  full h = record { writes = λ label l i n. absurd (omega arith) }

  pub written : {z : List ℕ} {r : Buffers} {captures out' : List ℕ} → z ≡ take (to - from) (drop from text) → length captures ≡ length (take region_size work) → Stand.Keeps (push (call_text (address_of apostrophes z) (index + 1) times)) b (take region_size work) out r captures out'
      → WritesCall apostrophes b text from to index times work out r (captures ++ drop region_size work) out'
  written {captures = captures} q e k = record {
    writes = λ label l i n.
        let a : length captures ≡ region_size = e ∙ simp length-take (omega arith) in
        let m : index + 1 ≡ suc index = omega arith in
        let k' = rw (q, l.is, m) at k in
        record { keeps = rw (take_at captures (drop region_size work) region_size a) k'; behind = drop_at captures (drop region_size work) region_size a };
  }
