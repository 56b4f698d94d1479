-- All stacks level: which kinds leave them so, and what the frame lemma says of it. Assumes nothing.
use mathlib.Core.Path.{◌≡◌, refl, sym, ap, ◌∙◌}
use mathlib.Core.Bool.{Bool, true, false, not, ◌&&◌, ◌||◌}
use mathlib.Core.List.{List, [], ◌∷◌, ◌++◌}
use Prim.Native.Nat.{ℕ, zero, suc, ◌≤◌}
use native.Mathlib.Omega.{arith}
use lib.Dec.{T, eqb, eqb→eq}
use lib.ListN.{length, length-append, drop}
use Rattle.check_nesting.specs.Grammar.{name_of, kind_count}
use Rattle.machine.specs.State.{State, Media}
use Rattle.machine.specs.Buffers.{push_to, push}
use Rattle.machine_shape.specs.Shape.{Moves, Stack, still, changed, over, gone, unknown, Over, idle, all_of}
use Rattle.machine_shape.specs.Kinds.{lines, contract_of, below}
use Rattle.machine_shape.proofs.Says.{both, each}
use Rattle.machine_shape.proofs.Test.{computed, kind-below}
use Rattle.machine_shape.proofs.Calm.{then}
use Rattle.machine_frame.specs.Framed.{Framed, is_framed}
use Rattle.machine_frame.proofs.Stacks.{Same, Grew, grew_none, grew-order}
use Rattle.machine_frame.proofs.Holds.{buffers_of, Does}

-- ---- all stacks level

pub record Level (n : ℕ) (s u : State) : Type 0 where
  pub buffers : Grew (buffers_of s) (buffers_of u)
  pub tight : u.tight ≡ s.tight
  pub labels : u.labels ≡ s.labels
  pub media : drop n u.media ≡ drop n s.media

pub level-start : (n : ℕ) (s : State) → Level n s s
level-start n s = record { buffers = grew_none (buffers_of s) (buffers_of s) refl; tight = refl; labels = refl; media = refl }

pub level-later : (n : ℕ) (s u v : State) → Level n s u → Level n u v → Level n s v
level-later n s u v h k = record { buffers = grew-order.joins (buffers_of s) (buffers_of u) (buffers_of v) h.buffers k.buffers; tight = k.tight ∙ h.tight; labels = k.labels ∙ h.labels; media = k.media ∙ h.media }

pub level-more : (n : ℕ) (s u : State) → Level 0 s u → Level n s u
level-more n s u h = record { buffers = h.buffers; tight = h.tight; labels = h.labels; media = ap (drop n) h.media }

pub level-idle : (n : ℕ) (s u : State) → Does idle s u → Level n s u
level-idle n s u d = record { buffers = d.buffers; tight = d.tight; labels = d.labels; media = ap (drop n) d.stack }

-- ---- which kinds leave them so

abbrev flat : Moves → Bool
flat m = eqb m.down 0 && eqb m.up 0

-- the newest alone may be another
abbrev lies : ℕ → Stack → Bool
lies n still = true
lies zero changed = false
lies (suc n) changed = true
lies n over = false
lies n gone = false
lies n unknown = false

abbrev is_level : ℕ → ℕ → Bool
is_level n k = let x = (contract_of k).does in all_of (flat x.captures ∷ flat x.tight ∷ flat x.labels ∷ lies n x.stack ∷ [])

abbrev agrees : ℕ → ℕ → Bool
agrees n k = not (is_framed n k) || is_level n k

all-agree : (n : ℕ) → T (below kind_count (agrees n))
unfolding contract_of lines
all-agree zero = tt
all-agree (suc n) = tt

flat-at : {A : Type 0} (R : List A → List A → Type 0) (m : Moves) (xs ys : List A) → T (flat m) → R (drop m.down xs) (drop m.up ys) → R xs ys
flat-at R m xs ys t r = let p = both (eqb m.down 0) (eqb m.up 0) t in rw (eqb→eq m.down 0 p.0, eqb→eq m.up 0 p.1) at r

lies_at : (n : ℕ) (x : Stack) (bs ms : List Media) → T (lies n x) → Over x bs ms → drop n ms ≡ drop n bs
lies_at n still bs ms t h = ap (drop n) h
lies_at zero changed bs ms t h = absurd t
lies_at (suc n) changed bs ms t (b, m, r, p, q) = ap (drop (suc n)) q ∙ sym (ap (drop (suc n)) p)
lies_at n over bs ms t h = absurd t
lies_at n gone bs ms t h = absurd t
lies_at n unknown bs ms t h = absurd t

pub level-does : (n k : ℕ) (s u : State) → 5 ≤ name_of k → T (is_framed n k) → Does (contract_of k).does s u → Level n s u
level-does n k s u l t d =
    let x = (contract_of k).does in
    let p = each (flat x.captures ∷ flat x.tight ∷ flat x.labels ∷ lies n x.stack ∷ []) (then (is_framed n k) (is_level n k) (computed (agrees n) kind_count (all-agree n) k (kind-below k l)) t) in
    record {
      buffers = flat-at Grew x.captures (buffers_of s) (buffers_of u) p.0 d.buffers;
      tight = flat-at Same x.tight s.tight u.tight p.1.0 d.tight;
      labels = flat-at Same x.labels s.labels u.labels p.1.1.0 d.labels;
      media = lies_at n x.stack s.media u.media p.1.1.1.0 d.stack;
    }

-- ---- as it is said

behind-all : (xs ys : List (List ℕ)) (p q : List ℕ) → xs ++ (p ∷ []) ≡ ys ++ (q ∷ []) → (xs ≡ ys) × (p ≡ q)
behind-all [] [] p q e = (refl, cc)
behind-all [] (y ∷ ys) p q e = let l = simp length-append at (ap length e) in absurd (omega arith)
behind-all (x ∷ xs) [] p q e = let l = simp length-append at (ap length e) in absurd (omega arith)
behind-all (x ∷ xs) (y ∷ ys) p q e =
    let i : x ≡ y = cc in
    let r = behind-all xs ys p q (cc) in
    (rw (i, r.0) refl, r.1)

pub said : (n : ℕ) (s u : State) → Level n s u → Framed n s u
unfolding push
said n s u h =
    let b = at s.captures refl in
    record { grown = h.buffers.0; page = b.0; captures = b.1; tight = h.tight; labels = h.labels; media = h.media }
  where
    at : (cs : List (List ℕ)) → s.captures ≡ cs → (u.page ≡ (push_to cs h.buffers.0 s).page) × (u.captures ≡ (push_to cs h.buffers.0 s).captures)
    at [] e = let r = behind-all u.captures [] u.page (s.page ++ h.buffers.0) (rw e at h.buffers.1) in (r.1, r.0 ∙ sym e)
    at (c ∷ cs) e = let r = behind-all u.captures ((c ++ h.buffers.0) ∷ cs) u.page s.page (rw e at h.buffers.1) in (r.1, r.0)
