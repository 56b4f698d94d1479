-- Bytes that are moved ahead, past those that are meant: what is appended next covers them. Assumes nothing.
use Rattle.std.proofs.Common.{◌≡◌, sym, ap, ◌∙◌, List, [], ◌∷◌, ◌++◌, append-nil, ℕ, zero, suc, ◌+◌, ◌-◌, ◌≤◌, ◌<◌, arith, length, take, drop, length-take, length-drop, length-append, take-append-drop, take_all}
use Rattle.lent.specs.Fill.{fill, past, Filled}
use Rattle.lent.specs.Private.{Ahead}
use Rattle.lent.proofs.Laws.{fill-empty, fill_suc, fill-zero, fill_none, fill-fill, length-fill, both, none, length-filled}

-- what is filled twice from one place on holds the second, if that is as long
fill-again : (d : List ℕ) (at : ℕ) (s t : List ℕ) → length s ≤ length t → fill (fill d at s) at t ≡ fill d at t
fill-again [] at s t h = rw (fill-empty, fill-empty)
fill-again (x ∷ d) (suc at) s t h = rw (fill_suc, fill_suc, fill_suc, fill-again d at s t h)
fill-again (x ∷ d) zero [] t h = rw fill_none
fill-again (x ∷ d) zero (b ∷ s) [] h = absurd (omega arith)
fill-again (x ∷ d) zero (b ∷ s) (y ∷ t) h = rw (fill-zero, fill-zero, fill-zero, fill-again d zero s t (omega arith))

module _ (d : List ℕ) (at k : ℕ) (s : List ℕ) (h : at + length s ≤ length d) (m : k ≤ length s) where
  cut : fill d at s ≡ fill (fill d at (take k s)) (at + k) (drop k s)
  cut =
      let l : length (take k s) ≡ k = simp length-take (omega arith) in
      let p : past d at (take k s) ≡ at + k = omega arith in
      ap (fill d at) (sym (take-append-drop k s)) ∙ sym (fill-fill d at (take k s) (drop k s)) ∙ rw p

  fill-over : (t : List ℕ) → length s ≤ k + length t → fill (fill d at s) (at + k) t ≡ fill d at (take k s ++ t)
  fill-over t n =
      let l : length (take k s) ≡ k = simp length-take (omega arith) in
      let p : past d at (take k s) ≡ at + k = omega arith in
      let q : length (drop k s) ≤ length t = simp length-drop (omega arith) in
      let z : fill (fill d at (take k s)) (past d at (take k s)) t ≡ fill d at (take k s ++ t) = fill-fill d at (take k s) t in
      ap (λ (x : List ℕ). fill x (at + k) t) cut ∙ fill-again (fill d at (take k s)) (at + k) (drop k s) t q ∙ (rw p at z)

-- nothing moved ahead, or all of s
pub ahead-exact : {d e s : List ℕ} {at r n : ℕ} → Filled d at s e r → Ahead d at s n e r
ahead-exact p = record { next = λ t f q h x. both p x; long = length-filled p }

pub ahead-cut : {d e : List ℕ} {at r n : ℕ} (k : ℕ) (s : List ℕ) → Filled d at (take (k - 0) (drop 0 s)) e r → Ahead d at (take k s) n e r
ahead-cut k s p = let z : k - 0 ≡ k = omega arith in ahead-exact (rw z at p)

pub ahead-over : (d e s : List ℕ) (at k n : ℕ) → 0 < n → length s ≡ n → k ≤ n → n ≤ length d - at → e ≡ fill d at s → Ahead d at (take k s) (n - k) e (at + k)
ahead-over d e s at k n o l m h p =
    let g : at + length s ≤ length d = omega arith in
    let a : length e ≡ length d = ap length p ∙ length-fill d at s in
    let b : length (take k s) ≡ k = simp length-take (omega arith) in
    record {
      next = λ t f q y x.
          let c = length-append (take k s) t in
          let x' = x.place in
          record {
            bytes = x.bytes ∙ ap (λ (z : List ℕ). fill z (at + k) t) p ∙ fill-over d at k s g (omega arith) t (omega arith);
            place = omega arith;
          };
      long = a;
    }

-- through a block that holds what s does
pub ahead-moved : (d e f s : List ℕ) (at k n : ℕ) → 0 < n → length s ≡ n → k ≤ n → n ≤ length d - at → f ≡ s → e ≡ fill d at (take n f) → Ahead d at (take k s) (n - k) e (at + k)
ahead-moved d e f s at k n o q m h x y =
    let w : length s ≤ n = omega arith in
    ahead-over d e s at k n o q m h (y ∙ ap (λ (l : List ℕ). fill d at (take n l)) x ∙ ap (fill d at) (take_all n s w))

-- what follows: nothing where nothing was moved ahead, or a text that is long enough
pub ahead-end : {d e s : List ℕ} {at r : ℕ} (n : ℕ) → n ≡ 0 → Ahead d at s n e r → Filled d at s e r
ahead-end {d} {e} {s} {at} {r} n z a = rw append-nil at (a.next [] e r (omega arith) (none e r))

pub ahead_more : {d e f s t u : List ℕ} {at r q n : ℕ} → u ≡ s ++ t → Ahead d at s n e r → n ≤ length t → Filled e r t f q → Filled d at u f q
ahead_more {f = f} {t = t} {q = q} z a h x = rw z (a.next t f q h x)
