-- What a push does to buffers in which the machine's stand. Assumes nothing.
use mathlib.Core.Path.{◌≡◌, refl, ap, ◌∙◌}
use mathlib.Core.List.{List, [], ◌∷◌, ◌++◌, append_assoc}
use Prim.Native.Nat.{ℕ, ◌+◌, ◌≤◌, ◌<◌}
use native.Mathlib.Omega.{arith}
use lib.ListN.{length, take, length-append}
use Rattle.lent.specs.Fill.{Filled}
use Rattle.lent.proofs.Laws.{length-filled, take-fill}
use Rattle.machine.specs.State.{State}
use Rattle.machine.specs.Buffers.{push}
use Rattle.machine.specs.Set.{set_page, set_captures}
use Rattle.state_buffers.specs.declared.Buffers.{Buffers}
use Rattle.state_buffers.specs.Stand.{Holds, flat, Stand, Keeps}

-- ---- a buffer that holds a text

module _ {d s : List ℕ} {p : ℕ} (h : Holds d p s) where
  pub holds-place : length s ≤ length d → p ≡ length s
  holds-place l = let q = h.place in omega arith

  pub holds_fits : p ≤ length d → length s ≤ length d
  holds_fits l = let q = h.place in omega arith

  pub holds-bytes : p ≤ length d → take p d ≡ s
  holds-bytes l = let e = holds-place (holds_fits l) in rw e (h.bytes (holds_fits l))

  -- where the text is too long, more of it changes nothing
  pub holds-full : (t : List ℕ) → length d < p → Holds d p (s ++ t)
  holds-full t l =
      let q = h.place in
      let n = length-append s t in
      record { place = omega arith; bytes = λ k. absurd (omega arith) }

pub more : {d e s t : List ℕ} {p r : ℕ} → Holds d p s → Filled d p t e r → Holds e r (s ++ t)
more {d} {e} {s} {t} {p} {r} h f =
    let l = length-filled f in
    let n = length-append s t in
    let q = h.place in
    let x = f.place in
    record { place = omega arith; bytes = λ k. bytes-more (omega arith) }
  where
    bytes-more : length s + length t ≤ length d → take (length (s ++ t)) e ≡ s ++ t
    bytes-more k =
        let z = holds-place h (omega arith) in
        let b : take p d ≡ s = holds-bytes h (omega arith) in
        let w : p + length t ≤ length d = omega arith in
        rw (length-append s t, ← z, f.bytes) (take-fill d p t w ∙ ap (λ (x : List ℕ). x ++ t) b)

-- ---- a push

abbrev pub with_page : ℕ → Buffers → Buffers
with_page n b = record { page = n; end = b.end; start = b.start; depth = b.depth }

abbrev pub with_end : ℕ → Buffers → Buffers
with_end n b = record { page = b.page; end = n; start = b.start; depth = b.depth }

pub push-nil : (t : List ℕ) (s : State) → s.captures ≡ [] → push t s ≡ set_page (s.page ++ t) s
unfolding push
push-nil t s e = rw e

pub push-cons : (t : List ℕ) (s : State) (c : List ℕ) (cs : List (List ℕ)) → s.captures ≡ c ∷ cs → push t s ≡ set_captures ((c ++ t) ∷ cs) s
unfolding push
push-cons t s c cs e = rw e

module _ (b : Buffers) (captures out t : List ℕ) where
  pub push-page : (e : List ℕ) (r : ℕ) → b.depth ≡ 0 → Filled out b.page t e r → Keeps (push t) b captures out (with_page r b) captures e
  push-page e r d f = record { keeps = λ starts s x. go starts s x s.captures refl }
    where
      go : (starts : List ℕ) (s : State) → Stand b captures starts out s → (cs : List (List ℕ)) → s.captures ≡ cs → Stand (with_page r b) captures starts e (push t s)
      go starts s x [] p = rw (push-nil t s p) (record { page = more x.page f; flat-is = x.flat-is; depth = x.depth; starts-are = x.starts-are })
      go starts s x (c ∷ cs) p = let q = x.depth in let l = ap length p in absurd (omega arith)

  pub push-capture : (e : List ℕ) (r : ℕ) → (b.depth ≡ 0 → ⊥) → Filled captures b.end t e r → Keeps (push t) b captures out (with_end r b) e out
  push-capture e r d f = record { keeps = λ starts s x. go starts s x s.captures refl }
    where
      go : (starts : List ℕ) (s : State) → Stand b captures starts out s → (cs : List (List ℕ)) → s.captures ≡ cs → Stand (with_end r b) e starts out (push t s)
      go starts s x [] p = absurd (d (x.depth ∙ ap length p))
      go starts s x (c ∷ cs) p =
          let l = length-filled f in
          let m = length-append c t in
          let n = length-append (flat cs) c in
          let n' = length-append (flat cs) (c ++ t) in
          rw (push-cons t s c cs p) (record {
            page = x.page;
            flat-is = rw (← append_assoc) (more (rw p at x.flat-is) f);
            depth = x.depth ∙ ap length p;
            starts-are = λ h. (let k = rw p at x.starts-are in k (omega arith));
          })
