-- From what is taken to the answer. Assumes nothing.
use Rattle.std.proofs.Common.{◌≡◌, Bool, true, false, not, List, ℕ, ◌≤◌, ◌<◌, ltb, length, if◌then◌else◌, Result, Ok, Err, refl, sym, ◌∙◌, lt-ltb, le-ltb, ltb-false}
use Rattle.utf8.specs.Utf8.{is_utf8}
use Rattle.call_links_answer.specs.declared.Refusal.{Refusal}
use Rattle.call_links_answer.specs.declared.Refusal.TheVariants.{WrongSize, WrongEnd, NotUtf8, Cut, NoRoom}
use Rattle.call_links_answer.specs.Links.{links_from, ordered, uncut, fitting, joined}
use Rattle.call_links_answer.specs.Listed.{choose, Lists, taken_of, Refuses}
use Rattle.call_links_answer.proofs.Promise.{answer_of, told}

abbrev taking : {A : Type 0} → (x y z u v : Bool) (n m : ℕ) → Result A Refusal → Result A Refusal
taking x y z u v n m w =
    if x then Err WrongSize
    else (if y then Err WrongSize
    else (if z then Err (WrongEnd n)
    else (if not u then Err NotUtf8
    else (if v then Err (Cut m)
    else w))))

refused-case : (x y z u v : Bool) (n m : ℕ) (t : Result ℕ Refusal) (w : Refusal) → taking x y z u v n m (Ok (tt {0})) ≡ Err w → Err w ≡ taking x y z u v n m t
refused-case true y z u v n m t w p = cc
refused-case false true z u v n m t w p = cc
refused-case false false true u v n m t w p = cc
refused-case false false false false v n m t w p = cc
refused-case false false false true true n m t w p = cc
refused-case false false false true false n m t w p = cc

pub refused : {on : Bool} {text ends d l e m : List ℕ} {t : Result (Unit {0}) Refusal} {w : Refusal} {r : Result ℕ Refusal} → t ≡ taken_of text ends (length l) → t ≡ Err w → Refuses d l (Err w) e m r → Lists on text ends d l e m r
unfolding taken_of choose
refused {on} {text} {ends} {d} {l} {w = w} {r = r} p q h =
    let c =
    refused-case (ltb 64000 (length text)) (ltb (length l) (length ends)) (ltb (ordered (length text) 0 ends) (length ends)) (is_utf8 text) (ltb (uncut text ends) (length ends))
    (ordered (length text) 0 ends) (uncut text ends)
    (if ltb (fitting (length d) (links_from on text 0 ends)) (length ends) then Err (NoRoom (fitting (length d) (links_from on text 0 ends))) else Ok (length (joined (links_from on text 0 ends))))
    w (sym p ∙ q)
    in
    told (h.answer ∙ c) (rw h.answer h.bytes) (rw h.answer h.lengths)

-- ---- a list that is taken

pub record Good (text ends : List ℕ) (places : ℕ) : Type 0 where
  pub short : length text ≤ 64000
  pub enough : length ends ≤ places
  pub order : length ends ≤ ordered (length text) 0 ends
  pub valid : is_utf8 text ≡ true
  pub whole : length ends ≤ uncut text ends

yes-case : (x y z u v : Bool) (n m : ℕ) → taking x y z u v n m (Ok (tt {0})) ≡ Ok tt → (x ≡ false) × (y ≡ false) × (z ≡ false) × (u ≡ true) × (v ≡ false)
yes-case true y z u v n m p = cc
yes-case false true z u v n m p = cc
yes-case false false true u v n m p = cc
yes-case false false false false v n m p = cc
yes-case false false false true true n m p = cc
yes-case false false false true false n m p = (refl, refl, refl, refl, refl)

module _ (text ends : List ℕ) (places : ℕ) (p : taken_of text ends places ≡ Ok tt) where
  pub good : Good text ends places
  unfolding taken_of
  good =
      let c =
      yes-case (ltb 64000 (length text)) (ltb places (length ends)) (ltb (ordered (length text) 0 ends) (length ends)) (is_utf8 text) (ltb (uncut text ends) (length ends))
      (ordered (length text) 0 ends) (uncut text ends) p
      in
      record {
        short = ltb-false 64000 (length text) c.0;
        enough = ltb-false places (length ends) c.1;
        order = ltb-false (ordered (length text) 0 ends) (length ends) c.2;
        valid = c.3;
        whole = ltb-false (uncut text ends) (length ends) c.4;
      }

  -- room alone decides
  module _ (on : Bool) (room : ℕ) where
    pub none_answers : {k : ℕ} → k ≡ fitting room (links_from on text 0 ends) → k < length ends → Err (NoRoom k) ≡ answer_of on text ends room places
    unfolding choose
    none_answers {k} q h =
        let g = good in
        rw (
          le-ltb 64000 (length text) g.short,
          le-ltb places (length ends) g.enough,
          le-ltb (ordered (length text) 0 ends) (length ends) g.order,
          g.valid,
          le-ltb (uncut text ends) (length ends) g.whole,
          ← q,
          lt-ltb k (length ends) h,
        )

    pub all-answer : length ends ≤ fitting room (links_from on text 0 ends) → Ok (length (joined (links_from on text 0 ends))) ≡ answer_of on text ends room places
    unfolding choose
    all-answer h =
        let g = good in
        rw (
          le-ltb 64000 (length text) g.short,
          le-ltb places (length ends) g.enough,
          le-ltb (ordered (length text) 0 ends) (length ends) g.order,
          g.valid,
          le-ltb (uncut text ends) (length ends) g.whole,
          le-ltb (fitting room (links_from on text 0 ends)) (length ends) h,
        )
