-- What is written stands for the machine's push. Assumes nothing.
use mathlib.Core.Path.{◌≡◌, refl, sym, ◌∙◌}
use mathlib.Core.List.{List, [], ◌∷◌, ◌++◌, append_assoc}
use Prim.Native.Nat.{ℕ, ◌≤◌, ◌<◌}
use native.Mathlib.Omega.{arith}
use lib.ListN.{length, length-append}
use Rattle.lent.specs.Fill.{Filled}
use Rattle.lent.proofs.Laws.{both}
use Rattle.machine.specs.State.{State}
use Rattle.machine.specs.Set.{set_captures}
use Rattle.machine.specs.Buffers.{push}
use Rattle.state_buffers.specs.declared.Buffers.{Buffers}
use Rattle.state_buffers.specs.Stand.{flat, Stand, Drops, Resumes}
use Rattle.state_buffers.proofs.Laws.{holds-place, holds_fits, holds-bytes, more, with_page, with_end, push-nil, push-cons}
use Rattle.state_resume.specs.Written.{around}
use Rattle.state_resume.specs.Private.{part, Grown}
use Rattle.state_resume.proofs.Parts.{part-is, holds-grown, grown-more}

-- ---- the newest capture

module _ (b : Buffers) (captures starts out c : List ℕ) (cs : List (List ℕ)) (s : State) (q : s.captures ≡ c ∷ cs) (l : b.end ≤ length captures) (x : Stand b captures starts out s) where
  starts-at : b.start ≡ length (flat cs)
  starts-at = let f = rw q at x.flat-is in ((rw q at x.starts-are) (holds_fits f l)).0

  pub newest : part captures b.start b.end ≡ c
  newest = part-is captures (flat cs) c b.start b.end (holds-bytes (rw q at x.flat-is) l) starts-at

  pub ordered : b.start ≤ b.end
  ordered =
      let f = rw q at x.flat-is in
      let p = holds-place f (holds_fits f l) in
      let n = length-append (flat cs) c in
      let e = starts-at in
      omega arith

-- ---- written, as f has it

module _ (f : List ℕ → List ℕ) (b : Buffers) (captures starts out : List ℕ) where
  pub disordered : b.end < b.start → Resumes f b starts captures out b captures out
  disordered h c cs s q l x = let o = ordered b captures starts out c cs s q l x in absurd (omega arith)

  pub outside : length captures < b.end → Resumes f b starts captures out b captures out
  outside h c cs s q l x = absurd (omega arith)

  module _ (r : Buffers) (k : Drops b starts r) where
    -- with no capture left, what the captures' bytes are is no matter
    pub on-page : (e g : List ℕ) (n : ℕ) → r.depth ≡ 0 → length e ≡ length captures → Filled out r.page (f (part captures b.start b.end)) g n
        → Resumes f b starts captures out (with_page n r) e g
    on-page e g n d m h c cs s q l x = go cs q
      where
        go : (cs : List (List ℕ)) → s.captures ≡ c ∷ cs → Stand (with_page n r) e starts g (push (f c) (set_captures cs s))
        go [] q =
            let y = k captures out c [] s q l x in
            let p = y.flat-is.place in
            rw (push-nil (f c) (set_captures [] s) refl) (record {
              page = more y.page (rw (newest b captures starts out c [] s q l x) at h);
              flat-is = record { place = omega arith; bytes = λ o. refl };
              depth = y.depth;
              starts-are = λ o. tt;
            })
        go (a ∷ below) q = let y = k captures out c (a ∷ below) s q l x in let z = y.depth in absurd (omega arith)

    pub in-capture : (e : List ℕ) (n : ℕ) → (r.depth ≡ 0 → ⊥) → Grown captures b.start (f (part captures b.start b.end)) e n
        → Resumes f b starts captures out (with_end n r) e out
    in-capture e n d h c cs s q l x = go cs q
      where
        go : (cs : List (List ℕ)) → s.captures ≡ c ∷ cs → Stand (with_end n r) e starts out (push (f c) (set_captures cs s))
        go [] q = let y = k captures out c [] s q l x in absurd (d y.depth)
        go (a ∷ below) q =
            let y = k captures out c (a ∷ below) s q l x in
            let o = ordered b captures starts out c (a ∷ below) s q l x in
            let w = starts-at b captures starts out c (a ∷ below) s q l x in
            let p : r.end ≡ b.start = holds-place y.flat-is (omega arith) ∙ sym w in
            let v : Grown captures r.end (f c) e n = rw (p, ← newest b captures starts out c (a ∷ below) s q l x) h in
            rw (push-cons (f c) (set_captures (a ∷ below) s) a below refl) (record {
              page = y.page;
              flat-is = rw (← append_assoc) (holds-grown y.flat-is v);
              depth = y.depth;
              starts-are = λ z. (y.starts-are (omega arith));
            })

-- ---- between two texts

module _ (b : Buffers) (captures starts out before after : List ℕ) where
  pub around-disordered : b.end < b.start → Resumes (around before after) b starts captures out b captures out
  around-disordered = disordered (around before after) b captures starts out

  pub around-outside : length captures < b.end → Resumes (around before after) b starts captures out b captures out
  around-outside = outside (around before after) b captures starts out

  module _ (r : Buffers) (k : Drops b starts r) where
    pub around-page : {e f g : List ℕ} {l m n : ℕ} → r.depth ≡ 0 → Filled out r.page before e l → Filled e l (part captures b.start b.end) f m → Filled f m after g n
        → Resumes (around before after) b starts captures out (with_page n r) captures g
    around-page {g = g} {n = n} d x y z = on-page (around before after) b captures starts out r k captures g n d refl (both (both x y) z)

    pub around-capture : {e f : List ℕ} {m n : ℕ} → (r.depth ≡ 0 → ⊥) → Grown captures b.start (before ++ part captures b.start b.end) e m → Filled e m after f n
        → Resumes (around before after) b starts captures out (with_end n r) f out
    around-capture {f = f} {n = n} d x y = in-capture (around before after) b captures starts out r k f n d (grown-more x y)
