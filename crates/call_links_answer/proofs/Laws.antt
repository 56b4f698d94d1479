-- What is taken, and what is refused. Assumes nothing.
use Rattle.std.proofs.Common.{◌≡◌, Bool, true, false, not, List, ℕ, ◌≤◌, ◌<◌, length, Ok, Err, Some, None, position, Option, sym, ◌∙◌, lt-ltb, le-ltb}
use Rattle.utf8.specs.Utf8.{is_utf8, inside}
use Rattle.call_links_answer.specs.declared.Refusal.TheVariants.{WrongSize, WrongEnd, NotUtf8, Cut}
use Rattle.call_links_answer.specs.Links.{ordered, uncut}
use Rattle.call_links_answer.specs.Listed.{taken_of}
use Rattle.call_links_answer.proofs.Counts.{some-cut, none-cut}

module _ (text ends : List ℕ) (places : ℕ) where
  pub too_long : 64000 < length text → Err WrongSize ≡ taken_of text ends places
  unfolding taken_of
  too_long h = rw (lt-ltb 64000 (length text) h)

  module _ (h : length text ≤ 64000) where
    pub too_few : places < length ends → Err WrongSize ≡ taken_of text ends places
    unfolding taken_of
    too_few k = rw (le-ltb 64000 (length text) h, lt-ltb places (length ends) k)

    module _ (k : length ends ≤ places) {n : ℕ} (p : n ≡ ordered (length text) 0 ends) where
      pub end-wrong : n < length ends → Err (WrongEnd n) ≡ taken_of text ends places
      unfolding taken_of
      end-wrong l = rw (le-ltb 64000 (length text) h, le-ltb places (length ends) k, ← p, lt-ltb n (length ends) l)

      module _ (l : length ends ≤ n) {x : Bool} (q : x ≡ is_utf8 text) where
        pub not-utf8 : not x ≡ true → Err NotUtf8 ≡ taken_of text ends places
        unfolding taken_of
        not-utf8 t = rw (le-ltb 64000 (length text) h, le-ltb places (length ends) k, ← p, le-ltb n (length ends) l, ← q, t)

        module _ (t : not x ≡ false) {o : Option ℕ} (s : o ≡ position (λ e. inside text e) ends) where
          pub cut : {m : ℕ} → o ≡ Some m → Err (Cut m) ≡ taken_of text ends places
          unfolding taken_of
          cut {m} v =
              let u = some-cut text ends (sym v ∙ s) in
              rw (le-ltb 64000 (length text) h, le-ltb places (length ends) k, ← p, le-ltb n (length ends) l, ← q, t, ← u.0, lt-ltb m (length ends) u.1)

          pub taken : o ≡ None → Ok (tt {0}) ≡ taken_of text ends places
          unfolding taken_of
          taken v = rw (le-ltb 64000 (length text) h, le-ltb places (length ends) k, ← p, le-ltb n (length ends) l, ← q, t, le-ltb (uncut text ends) (length ends) (none-cut text ends (sym v ∙ s)))
