-- Captures opened and taken off. Assumes nothing.
use mathlib.Core.Path.{◌≡◌, refl, sym, ap, ◌∙◌}
use mathlib.Core.Logic.{◌≢◌}
use mathlib.Core.List.{List, [], ◌∷◌, ◌++◌, append-nil}
use Prim.Native.Nat.{ℕ, suc, ◌+◌, ◌-◌, ◌≤◌, ◌<◌}
use native.Mathlib.Omega.{arith}
use lib.ListN.{length, take, get_or, set, length-append, get_or-eq_default}
use lib.Seq.{get_or-set_same, get_or-set_other, take-take, take_at}
use Rattle.machine.specs.Buffers.{open_capture}
use Rattle.state_buffers.specs.declared.Buffers.{Buffers}
use Rattle.state_buffers.specs.Stand.{Holds, flat, Saved, Starts, Opens, Drops}
use Rattle.state_buffers.proofs.Laws.{holds-place, holds_fits}

-- ---- opened

-- a start above theirs changes none
saved-below : (starts : List ℕ) (n x : ℕ) (cs : List (List ℕ)) → length cs < n → Saved starts cs → Saved (set starts n x) cs
saved-below starts n x [] h s = tt
saved-below starts n x (c ∷ cs) h s =
    let o : suc (length cs) ≢ n = λ p. (omega arith) in
    (get_or-set_other starts n (suc (length cs)) x 0 o ∙ s.0, saved-below starts n x cs (omega arith) s.1)

-- the newest one's start is saved
saved-newest : (starts : List ℕ) (start : ℕ) (cs : List (List ℕ)) → length cs < length starts → Starts starts start cs → Saved (set starts (length cs) start) cs
saved-newest starts start [] h s = tt
saved-newest starts start (c ∷ cs) h s = (get_or-set_same starts (suc (length cs)) start 0 h ∙ s.0, saved-below starts (suc (length cs)) start cs (omega arith) s.1)

module _ (b : Buffers) (starts : List ℕ) where
  abbrev opened : Buffers
  opened = record { page = b.page; end = b.end; start = b.end; depth = b.depth + 1 }

  pub opens : b.depth < length starts → Opens b starts opened (set starts b.depth b.start)
  unfolding open_capture
  opens h captures out s k x =
      let d = x.depth in
      let n = append-nil (flat s.captures) in
      record {
        page = x.page;
        flat-is = rw n x.flat-is;
        depth = omega arith;
        starts-are = λ l. (let m : length (flat s.captures) ≤ length captures = rw n at l in (holds-place x.flat-is m, rw d (saved-newest starts b.start s.captures k (x.starts-are m))));
      }

  pub opens_not : length starts ≤ b.depth → Opens b starts b starts
  opens_not h captures out s k x = let d = x.depth in absurd (omega arith)

-- ---- taken off

-- what stands before the newest capture
pub below : {d : List ℕ} (u c : List ℕ) {p start : ℕ} → Holds d p (u ++ c) → p ≤ length d → start ≡ length u → Holds d start u
below {d} u c {p} {start} h l e =
    let n = length-append u c in
    let q = holds-place h (holds_fits h l) in
    let t = h.bytes (holds_fits h l) in
    record {
      place = omega arith;
      bytes = λ k. sym (take-take (length u) (length (u ++ c)) d (omega arith)) ∙ ap (take (length u)) t ∙ take_at u c (length u) refl;
    }

starts-below : (starts : List ℕ) (cs : List (List ℕ)) → Saved starts cs → Starts starts (get_or starts (length cs) 0) cs
starts-below starts [] s = tt
starts-below starts (c ∷ cs) s = s

module _ (b : Buffers) (starts : List ℕ) where
  abbrev dropped : ℕ → Buffers
  dropped start = record { page = b.page; end = b.start; start = start; depth = b.depth - 1 }

  pub drops : (start : ℕ) → start ≡ get_or starts (b.depth - 1) 0 → Drops b starts (dropped start)
  drops start p captures out c cs s q l x =
      let d = x.depth ∙ ap length q in
      let f = rw q at x.flat-is in
      let k = (rw q at x.starts-are) (holds_fits f l) in
      let e : b.depth - 1 ≡ length cs = omega arith in
      record {
        page = x.page;
        flat-is = below (flat cs) c f l k.0;
        depth = e;
        starts-are = λ h. (rw (p, e) (starts-below starts cs k.1));
      }

  pub drops-not : b.depth ≡ 0 → Drops b starts b
  drops-not p captures out c cs s q l x = let d = x.depth ∙ ap length q in absurd (omega arith)

pub start-there : (starts : List ℕ) (i : ℕ) → length starts ≤ i → 0 ≡ get_or starts i 0
start-there starts i h = sym (get_or-eq_default starts 0 h)
