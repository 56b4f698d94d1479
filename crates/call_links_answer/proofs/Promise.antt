-- The answer, and what it leaves in the buffers, make the promise; two results that meet it are equal. Assumes nothing.
use Rattle.std.proofs.Common.{◌≡◌, Bool, true, false, not, List, ℕ, ltb, length, if◌then◌else◌, Result, Ok, Err, refl, sym, ap, ◌∙◌}
use Rattle.utf8.specs.Utf8.{is_utf8}
use Rattle.call_links_answer.specs.declared.Refusal.{Refusal}
use Rattle.call_links_answer.specs.declared.Refusal.TheVariants.{WrongSize, WrongEnd, NotUtf8, Cut, NoRoom}
use Rattle.call_links_answer.specs.Links.{links_from, ordered, uncut, fitting, joined, lengths_of}
use Rattle.call_links_answer.specs.Listed.{number_of, value_of, choose, Lists, left}

-- two results that meet the promise are equal
pub unique : {on : Bool} {text ends d l e m e' m' : List ℕ} {r s : Result ℕ Refusal} → Lists on text ends d l e m r → Lists on text ends d l e' m' s → (r ≡ s) × (e ≡ e') × (m ≡ m')
unique p q = (p.answer ∙ sym q.answer, p.bytes ∙ sym q.bytes, p.lengths ∙ sym q.lengths)

-- ---- what the answer says of the buffers is the promise

abbrev picked : {A : Type 0} → (x y z u v w : Bool) (i j n : ℕ) (a : A) (b : ℕ → A) (c : A) (d g : ℕ → A) (h : A) → A
picked x y z u v w i j n a b c d g h = if x then a else (if y then a else (if z then b i else (if not u then c else (if v then d j else (if w then g n else h)))))

picked-map : {A B : Type 0} (f : A → B) (x y z u v w : Bool) (i j n : ℕ) (a : A) (b : ℕ → A) (c : A) (d g : ℕ → A) (h : A)
    → f (picked x y z u v w i j n a b c d g h) ≡ picked x y z u v w i j n (f a) (λ k. f (b k)) (f c) (λ k. f (d k)) (λ k. f (g k)) (f h)
picked-map f true y z u v w i j n a b c d g h = refl
picked-map f false true z u v w i j n a b c d g h = refl
picked-map f false false true u v w i j n a b c d g h = refl
picked-map f false false false false v w i j n a b c d g h = refl
picked-map f false false false true true w i j n a b c d g h = refl
picked-map f false false false true false true i j n a b c d g h = refl
picked-map f false false false true false false i j n a b c d g h = refl

module _ (on : Bool) (text ends : List ℕ) (room places : ℕ) where
  choose-map : {A B : Type 0} (f : A → B) (a : A) (b : ℕ → A) (c : A) (d g : ℕ → A) (h : A)
      → f (choose on text ends room places a b c d g h) ≡ choose on text ends room places (f a) (λ k. f (b k)) (f c) (λ k. f (d k)) (λ k. f (g k)) (f h)
  unfolding choose
  choose-map f a b c d g h =
      picked-map f (ltb 64000 (length text)) (ltb places (length ends)) (ltb (ordered (length text) 0 ends) (length ends)) (is_utf8 text) (ltb (uncut text ends) (length ends))
      (ltb (fitting room (links_from on text 0 ends)) (length ends)) (ordered (length text) 0 ends) (uncut text ends) (fitting room (links_from on text 0 ends)) a b c d g h

  abbrev pub answer_of : Result ℕ Refusal
  answer_of = choose on text ends room places (Err WrongSize) (λ k. Err (WrongEnd k)) (Err NotUtf8) (λ k. Err (Cut k)) (λ k. Err (NoRoom k)) (Ok (length (joined (links_from on text 0 ends))))

  told-by : {A : Type 0} (f : Result ℕ Refusal → A) {r : Result ℕ Refusal} → r ≡ answer_of
      → f r ≡ choose on text ends room places (f (Err WrongSize)) (λ k. f (Err (WrongEnd k))) (f (Err NotUtf8)) (λ k. f (Err (Cut k))) (λ k. f (Err (NoRoom k))) (f (Ok (length (joined (links_from on text 0 ends)))))
  told-by f p = ap f p ∙ choose-map f (Err WrongSize) (λ k. Err (WrongEnd k)) (Err NotUtf8) (λ k. Err (Cut k)) (λ k. Err (NoRoom k)) (Ok (length (joined (links_from on text 0 ends))))

pub told : {on : Bool} {text ends d l e m : List ℕ} {r : Result ℕ Refusal} → r ≡ answer_of on text ends (length d) (length l) → e ≡ left d (joined (links_from on text 0 ends)) r → m ≡ left l (lengths_of (links_from on text 0 ends)) r
    → Lists on text ends d l e m r
told {on} {text} {ends} {d} {l} p q s =
    record {
      answer = p;
      number = told-by on text ends (length d) (length l) number_of p;
      value = told-by on text ends (length d) (length l) value_of p;
      bytes = q ∙ told-by on text ends (length d) (length l) (left d (joined (links_from on text 0 ends))) p;
      lengths = s ∙ told-by on text ends (length d) (length l) (left l (lengths_of (links_from on text 0 ends))) p;
    }
