-- The call that takes a list of links (RULES R22): its answer, the answer's numbers, and both buffers afterwards. Assumes nothing.
use Rattle.std.specs.Prelude.{◌≡◌, Bool, not, List, ◌++◌, ℕ, ◌-◌, ltb, length, take, if◌then◌else◌, Result, Ok, Err}
use Rattle.lent.specs.Fill.{zeros}
use Rattle.utf8.specs.Utf8.{is_utf8}
use Rattle.call_links_answer.specs.declared.Refusal.{Refusal}
use Rattle.call_links_answer.specs.declared.Refusal.TheVariants.{WrongSize, WrongEnd, NotUtf8, Cut, NoRoom}
unfoldable pub use Rattle.call_links_answer.specs.Links.{links_from, ordered, uncut, fitting}
pub use Rattle.call_links_answer.specs.Links.{link_of, joined, lengths_of}

-- a refusal's number, and its place: the URL's index, or 0
abbrev pub refusal_number : Refusal → ℕ
refusal_number WrongSize = 1
refusal_number (WrongEnd k) = 1
refusal_number NotUtf8 = 2
refusal_number (Cut k) = 3
refusal_number (NoRoom k) = 9

abbrev pub refusal_place : Refusal → ℕ
refusal_place WrongSize = 0
refusal_place (WrongEnd k) = k
refusal_place NotUtf8 = 0
refusal_place (Cut k) = k
refusal_place (NoRoom k) = k

-- the number: 0 for an answer, else the refusal's
abbrev pub number_of : Result ℕ Refusal → ℕ
number_of (Ok n) = 0
number_of (Err r) = refusal_number r

-- the length of all bytes, or the refusal's place
abbrev pub value_of : Result ℕ Refusal → ℕ
value_of (Ok n) = n
value_of (Err r) = refusal_place r

-- one of six, for `room` bytes and `places` lengths: 1 before 2 before 3 before 9, each over the whole list, before the result
unfoldable pub choose : {A : Type 0} → (apostrophes : Bool) (text ends : List ℕ) (room places : ℕ) → (size : A) (end : ℕ → A) (other : A) (cut none : ℕ → A) (written : A) → A
choose apostrophes text ends room places size end other cut none written =
    if ltb 64000 (length text) then size
    else (if ltb places (length ends) then size
    else (if ltb (ordered (length text) 0 ends) (length ends) then end (ordered (length text) 0 ends)
    else (if not (is_utf8 text) then other
    else (if ltb (uncut text ends) (length ends) then cut (uncut text ends)
    else (if ltb (fitting room (links_from apostrophes text 0 ends)) (length ends) then none (fitting room (links_from apostrophes text 0 ends))
    else written)))))

-- a buffer d with s in front and zeros behind
abbrev pub filled : (d s : List ℕ) → List ℕ
filled d s = s ++ zeros (length d - length s)

-- a call with this text and these ends, with apostrophes escaped or not, on the output d and the lengths l, answered r and left e and m
pub record Lists (apostrophes : Bool) (text ends d l e m : List ℕ) (r : Result ℕ Refusal) : Type 0 where
  pub answer : r ≡ choose apostrophes text ends (length d) (length l) (Err WrongSize) (λ k. Err (WrongEnd k)) (Err NotUtf8) (λ k. Err (Cut k)) (λ k. Err (NoRoom k)) (Ok (length (joined (links_from apostrophes text 0 ends))))
  pub number : number_of r ≡ choose apostrophes text ends (length d) (length l) 1 (λ k. 1) 2 (λ k. 3) (λ k. 9) 0
  pub value : value_of r ≡ choose apostrophes text ends (length d) (length l) 0 (λ k. k) 0 (λ k. k) (λ k. k) (length (joined (links_from apostrophes text 0 ends)))
  pub bytes : e
      ≡ choose apostrophes text ends (length d) (length l) (zeros (length d)) (λ k. zeros (length d)) (zeros (length d)) (λ k. zeros (length d)) (λ k. zeros (length d))
      (filled d (joined (links_from apostrophes text 0 ends)))
  pub lengths : m
      ≡ choose apostrophes text ends (length d) (length l) (zeros (length l)) (λ k. zeros (length l)) (zeros (length l)) (λ k. zeros (length l)) (λ k. zeros (length l))
      (filled l (lengths_of (links_from apostrophes text 0 ends)))

-- ---- said for the inner functions, no part of the promise

-- 1, 2 and 3 alone
unfoldable pub taken_of : (text ends : List ℕ) (places : ℕ) → Result (Unit {0}) Refusal
taken_of text ends places =
    if ltb 64000 (length text) then Err WrongSize
    else (if ltb places (length ends) then Err WrongSize
    else (if ltb (ordered (length text) 0 ends) (length ends) then Err (WrongEnd (ordered (length text) 0 ends))
    else (if not (is_utf8 text) then Err NotUtf8
    else (if ltb (uncut text ends) (length ends) then Err (Cut (uncut text ends))
    else Ok tt))))

-- what an answer leaves in a buffer d, where s is what is written
abbrev pub left : (d s : List ℕ) → Result ℕ Refusal → List ℕ
left d s (Ok n) = filled d s
left d s (Err r) = zeros (length d)

-- a refusal leaves nothing in both
pub record Refuses (d l : List ℕ) (w : Result ℕ Refusal) (e m : List ℕ) (r : Result ℕ Refusal) : Type 0 where
  pub answer : r ≡ w
  pub bytes : e ≡ zeros (length d)
  pub lengths : m ≡ zeros (length l)

-- both buffers hold what is written up to these places
pub record Finishes (d l : List ℕ) (end count : ℕ) (e m : List ℕ) (r : Result ℕ Refusal) : Type 0 where
  pub answer : r ≡ Ok end
  pub bytes : e ≡ take end d ++ zeros (length d - end)
  pub lengths : m ≡ take count l ++ zeros (length l - count)
