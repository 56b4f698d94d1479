-- A call and a backreference, piece by piece. Assumes nothing.
use Rattle.std.proofs.Common.{if◌then◌else◌, ◌≡◌, refl, List, [], ◌++◌, append_assoc, ℕ, zero, suc, ◌+◌, ◌≤◌, ◌<◌, arith, add-one, lt-ltb, le-ltb, ltb}
use Rattle.lent.specs.Bytes.{bytes}
use Rattle.lent.specs.Fill.{Filled}
use Rattle.lent.proofs.Laws.{none, both, same}
use Rattle.machine.specs.Text.{decimal}
use Rattle.machine.specs.Footnote.{again_text, call_text}
use Rattle.machine.specs.Section.{arrow, sup_text, backreference, backreferences}
use Rattle.write_footnote.specs.Pieces.{call_href, call_id, call_number, back_href, back_text, back_end, next_reference}

-- ---- pieces, by any texts

three : (a b c d e f g h : List ℕ) → a ++ b ++ c ++ d ++ e ++ f ++ g ++ h ≡ (a ++ b) ++ (c ++ d ++ e) ++ (f ++ g ++ h)
three a b c d e f g h = simp append_assoc

two : (a b c d e f g : List ℕ) → a ++ b ++ c ++ d ++ e ++ f ++ g ≡ (a ++ b ++ c) ++ (d ++ e ++ f ++ g)
two a b c d e f g = simp append_assoc

-- ---- a call

module _ {d e f : List ℕ} {at p r : ℕ} where
  pub href-put : (a : List ℕ) → Filled d at (bytes "<sup><a href=\"#user-content-fn-") e p → Filled e p a f r → Filled d at (call_href a) f r
  unfolding call_href
  href-put a x y = both x y

module _ {d e f g : List ℕ} {at p q r : ℕ} where
  pub id-put : (a : List ℕ) (n : ℕ) → Filled d at (bytes "\" id=\"user-content-fnref-") e p → Filled e p a f q → Filled f q (again_text n) g r → Filled d at (call_id a n) g r
  unfolding call_id
  id-put a n x y z = both (both x y) z

  pub number_put : (n : ℕ) → Filled d at (bytes "\" data-footnote-ref=\"\" aria-describedby=\"footnote-label\">") e p → Filled e p (decimal n) f q → Filled f q (bytes "</a></sup>") g r
      → Filled d at (call_number n) g r
  unfolding call_number
  number_put n x y z = both (both x y) z

  pub call-put : (a : List ℕ) (n times : ℕ) → Filled d at (call_href a) e p → Filled e p (call_id a times) f q → Filled f q (call_number n) g r → Filled d at (call_text a n times) g r
  unfolding call_text call_href call_id call_number
  call-put a n times x y z =
      same
      (three (bytes "<sup><a href=\"#user-content-fn-") a (bytes "\" id=\"user-content-fnref-") a (again_text times)
      (bytes "\" data-footnote-ref=\"\" aria-describedby=\"footnote-label\">") (decimal n) (bytes "</a></sup>"))
      (both (both x y) z)

-- ---- the times

module _ (n : ℕ) where
  -- nothing for the first time
  pub first-time : (d s : List ℕ) (at : ℕ) → n ≤ 1 → Filled d at (if ltb 1 n then s else []) d at
  first-time d s at h = rw (le-ltb 1 n h) (none d at)

  pub again : {d e f : List ℕ} {at p r : ℕ} → 1 < n → Filled d at (bytes "-") e p → Filled e p (decimal n) f r → Filled d at (again_text n) f r
  again h x y = rw (lt-ltb 1 n h) (both x y)

  pub sup : {d e f g : List ℕ} {at p q r : ℕ} → 1 < n → Filled d at (bytes "<sup>") e p → Filled e p (decimal n) f q → Filled f q (bytes "</sup>") g r → Filled d at (sup_text n) g r
  sup h x y z = rw (lt-ltb 1 n h) (both (both x y) z)

-- ---- a backreference

module _ {d e f g : List ℕ} {at p q r : ℕ} where
  pub back-href-put : (a : List ℕ) (n : ℕ) → Filled d at (bytes "<a href=\"#user-content-fnref-") e p → Filled e p a f q → Filled f q (again_text n) g r → Filled d at (back_href a n) g r
  unfolding back_href
  back-href-put a n x y z = both (both x y) z

  pub back-end-put : (n : ℕ) → Filled d at back_text e p → Filled e p (sup_text n) f q → Filled f q (bytes "</a>") g r → Filled d at (back_end n) g r
  unfolding back_end
  back-end-put n x y z = both (both x y) z

module _ {d e f : List ℕ} {at p r : ℕ} (a : List ℕ) (n : ℕ) where
  pub back-put : Filled d at (back_href a n) e p → Filled e p (back_end n) f r → Filled d at (backreference a n) f r
  unfolding backreference back_href back_end
  back-put x y =
      same
      (two (bytes "<a href=\"#user-content-fnref-") a (again_text n)
      (bytes "\" data-footnote-backref=\"\" aria-label=\"Back to content\" class=\"data-footnote-backref\">") arrow (sup_text n) (bytes "</a>"))
      (both x y)

  pub next-later : 1 < n → Filled d at (bytes " ") e p → Filled e p (backreference a n) f r → Filled d at (next_reference a n) f r
  unfolding next_reference
  next-later h x y = rw (lt-ltb 1 n h) (both x y)

pub next-first : {d e : List ℕ} {at r : ℕ} (a : List ℕ) (n : ℕ) → n ≤ 1 → Filled d at (backreference a n) e r → Filled d at (next_reference a n) e r
unfolding next_reference
next-first a n h x = rw (le-ltb 1 n h) x

-- ---- one for each call

pub no-reference : (d : List ℕ) (at : ℕ) (a : List ℕ) → Filled d at (backreferences a 0) d at
unfolding backreferences
no-reference d at a = none d at

references-more : (a : List ℕ) (i : ℕ) → backreferences a (suc i) ≡ backreferences a i ++ next_reference a (suc i)
unfolding backreferences next_reference
references-more a zero = refl
references-more a (suc i) = rw (lt-ltb 1 (suc (suc i)) (omega arith)) (append_assoc (backreferences a (suc i)) (bytes " ") (backreference a (suc (suc i))))

pub reference-more : {d e f : List ℕ} {at p r : ℕ} (a : List ℕ) (i : ℕ) → Filled d at (backreferences a i) e p → Filled e p (next_reference a (i + 1)) f r → Filled d at (backreferences a (i + 1)) f r
reference-more a i x y = rw (add-one, references-more a i) (both x (rw add-one at y))

pub reference-last : {d e : List ℕ} {at r : ℕ} (a : List ℕ) (i times : ℕ) → i ≤ times → times ≤ i → Filled d at (backreferences a i) e r → Filled d at (backreferences a times) e r
reference-last a i times h k x = let p : i ≡ times = omega arith in rw p at x
