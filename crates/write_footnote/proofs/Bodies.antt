-- How a body ends, looked at from its end. Assumes nothing.
use Rattle.std.proofs.Common.{◌≡◌, refl, sym, ◌∙◌, Bool, true, false, ◌&&◌, List, [], ◌∷◌, ◌++◌, ℕ, zero, suc, ◌+◌, ◌-◌, ◌≤◌, ◌<◌, arith, lt-ltb, le-ltb, eqb, length, take, drop, get_or, length-take, take-suc}
use Rattle.std.proofs.Math.Bool.{and-true, and_assoc}
use Rattle.std.proofs.Math.Seq.{take-length}
use Rattle.lent.specs.Bytes.{bytes}
use Rattle.lent.specs.Bytes as B
use Rattle.lent.proofs.Laws.{next}
use Rattle.machine.specs.Buffers.{is_eol}
use Rattle.machine.specs.Section.{end_behind, body_end, ends_paragraph}

-- ---- by the last byte

module _ (b : ℕ) where
  snoc-eol : (s : List ℕ) → is_eol b ≡ true → body_end (s ++ (b ∷ [])) ≡ body_end s
  unfolding body_end
  snoc-eol [] p = rw p
  snoc-eol (x ∷ s) p = rw (snoc-eol s p)

  snoc-other : (s : List ℕ) → is_eol b ≡ false → body_end (s ++ (b ∷ [])) ≡ suc (length s)
  unfolding body_end
  snoc-other [] p = rw p
  snoc-other (x ∷ s) p = rw (snoc-other s p)

pub end-start : (l : List ℕ) → body_end (take (length l) l) ≡ body_end l
end-start l = rw take-length

module _ (l : List ℕ) (i w : ℕ) (e : body_end (take i l) ≡ w) where
  module _ (x : Bool) (z : 0 < i) (h : i ≤ length l) (q : x ≡ is_eol (get_or l (i - 1) 0)) where
    cut : take i l ≡ take (i - 1) l ++ (get_or l (i - 1) 0 ∷ [])
    cut =
        let k : i - 1 < length l = omega arith in
        let m : suc (i - 1) ≡ i = omega arith in
        rw m at (take-suc l (i - 1) 0 k)

    pub end-eol : x ≡ true → body_end (take (i - 1) l) ≡ w
    end-eol p = sym (rw cut (snoc-eol (get_or l (i - 1) 0) (take (i - 1) l) (sym q ∙ p))) ∙ e

    pub end-found : x ≡ false → i ≡ w
    end-found p =
        let m : length (take (i - 1) l) ≡ i - 1 = rw length-take (omega arith) in
        let f : body_end (take i l) ≡ suc (length (take (i - 1) l)) = rw cut (snoc-other (get_or l (i - 1) 0) (take (i - 1) l) (sym q ∙ p)) in
        omega arith

  pub end_none : i ≤ 0 → 0 ≡ w
  unfolding body_end
  end_none h = let p : i ≡ 0 = omega arith in rw p at e

-- ---- a paragraph

behind-inside : (b n k : ℕ) (x : Bool) → is_eol b ≡ x → n ≤ k → end_behind b n ≤ suc k
behind-inside b zero k true p h = rw p (omega arith)
behind-inside b zero k false p h = rw p (omega arith)
behind-inside b (suc n) k x p h = omega arith

end-inside : (l : List ℕ) → body_end l ≤ length l
unfolding body_end
end-inside [] = omega arith
end-inside (b ∷ l) = behind-inside b (body_end l) (length l) (is_eol b) refl (end-inside l)

module _ (l : List ℕ) (n : ℕ) (e : n ≡ body_end l) where
  pub close-inside : 3 < n → n - 4 + 4 ≤ length l
  close-inside h = let k = end-inside l in omega arith

  pub too_short : n ≤ 3 → false ≡ ends_paragraph l
  unfolding ends_paragraph
  too_short h = rw (← e, le-ltb 3 n h)

  pub by-close : (x : Bool) → 3 < n → x ≡ B.same (take 4 (drop (n - 4) l)) (bytes "</p>") → x ≡ ends_paragraph l
  unfolding ends_paragraph
  by-close x h q = rw (← e, lt-ltb 3 n h) q

pub four_bytes : (l : List ℕ) (i : ℕ) → i + 4 ≤ length l
    → (eqb (get_or l i 0) 60 && eqb (get_or l (i + 1) 0) 47 && eqb (get_or l (i + 2) 0) 112 && eqb (get_or l (i + 3) 0) 62) ≡ B.same (take 4 (drop i l)) (bytes "</p>")
four_bytes l i h =
    let a : i + 1 + 1 ≡ i + 2 = omega arith in
    let b : i + 2 + 1 ≡ i + 3 = omega arith in
    let h₀ : i < length l = omega arith in
    let h₁ : i + 1 < length l = omega arith in
    let h₂ : i + 2 < length l = omega arith in
    let h₃ : i + 3 < length l = omega arith in
    rw (next l i h₀, next l (i + 1) h₁, a, next l (i + 2) h₂, b, next l (i + 3) h₃, and-true) (simp and_assoc)
