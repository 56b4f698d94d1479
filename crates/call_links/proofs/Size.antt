-- A sanitized URL is short: far below what a u32 holds. Assumes nothing.
use mathlib.Core.Bool.{Bool}
use mathlib.Core.List.{List}
use Prim.Native.Nat.{ℕ, ◌*◌, ◌≤◌}
use native.Mathlib.Omega.{arith}
use lib.ListN.{length, take, length-take}
use Rattle.sanitize_uri.specs.Protocols.{link_schemes}
use Rattle.call_links_answer.specs.Links.{link_of}
use Rattle.call_room.specs.Room.{most_sanitized}
use Rattle.call_room.proofs.Urls.{listed-most}

pub link-short : (on : Bool) (s : List ℕ) (n : ℕ) → length (link_of on (take n s)) ≤ most_sanitized * n
link-short on s n = omega (arith, listed-most on link_schemes (take n s), length-take n s)
