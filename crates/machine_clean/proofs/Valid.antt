-- Texts that are UTF-8: what is joined of them, and what is ASCII. Assumes nothing.
use mathlib.Core.List.{List, [], ◌++◌}
use Prim.Native.Nat.{ℕ, zero, suc}
use Prim.Native.String.{String}
use lib.Dec.{T}
use lib.ListN.{replicate}
use Rattle.lent.specs.Bytes.{bytes, all}
use Rattle.lent.proofs.Computed.{is_true}
use Rattle.utf8.specs.Utf8.{is_utf8, is_ascii}
use Rattle.utf8.proofs.Laws as Utf8
use Rattle.machine_clean.specs.Clean.{Valid}
use Rattle.machine_clean.specs.Ours.{plain}

pub valid : (b : List ℕ) → T (is_utf8 b) → Valid b
valid b t = record { utf8 = is_true (is_utf8 b) t }

pub holds : {b : List ℕ} → Valid b → T (is_utf8 b)
holds v = rw v.utf8 tt

pub none-valid : Valid []
none-valid = valid [] Utf8.empty

pub joined : {a b : List ℕ} → Valid a → Valid b → Valid (a ++ b)
joined {a} {b} v w = valid (a ++ b) (Utf8.joined a b (holds v) (holds w))

-- ---- ASCII

pub ascii : (b : List ℕ) → T (all is_ascii b) → Valid b
ascii b t = valid b (Utf8.ascii-valid b t)

-- a text of ours
pub text : (t : String) → T (plain t) → Valid (bytes t)
text t p = ascii (bytes t) p

pub spaces : (n : ℕ) → Valid (replicate n 32)
spaces n = ascii (replicate n 32) (go n)
  where
    go : (n : ℕ) → T (all is_ascii (replicate n 32))
    go zero = tt
    go (suc n) = go n
