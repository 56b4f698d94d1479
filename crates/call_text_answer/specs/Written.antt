-- Calls that write a text (RULES R7.7): their answers, the answers' numbers, and every byte afterwards. Assumes nothing.
use Rattle.std.specs.Prelude.{◌≡◌, not, List, [], ◌++◌, ℕ, ◌-◌, ltb, length, take, if◌then◌else◌, Result, Ok, Err}
use Rattle.lent.specs.Fill.{zeros}
use Rattle.utf8.specs.Utf8.{is_utf8}
use Rattle.call_text_answer.specs.declared.Refusal.{Refusal}
use Rattle.call_text_answer.specs.declared.Refusal.TheVariants.{TooLong, NotUtf8, NoRoom}

abbrev pub refusal_number : Refusal → ℕ
refusal_number TooLong = 1
refusal_number NotUtf8 = 2
refusal_number NoRoom = 9

-- the number: 0 for an answer, else the refusal's
abbrev pub number_of : Result ℕ Refusal → ℕ
number_of (Ok n) = 0
number_of (Err r) = refusal_number r

-- the length, or the refusal's place
abbrev pub value_of : Result ℕ Refusal → ℕ
value_of (Ok n) = n
value_of (Err r) = 0

-- one of four, for a buffer of room bytes: 1 before 2 before 9, before the result
unfoldable pub choose : {A : Type 0} → (text result : List ℕ) (room : ℕ) → (long other none written : A) → A
choose text result room long other none written =
    if ltb 64000 (length text) then long
    else (if not (is_utf8 text) then other
    else (if ltb room (length result) then none
    else written))

-- a call with this text and this result, on the buffer d, answered r and left e
pub record Wrote (text result d e : List ℕ) (r : Result ℕ Refusal) : Type 0 where
  pub answer : r ≡ choose text result (length d) (Err TooLong) (Err NotUtf8) (Err NoRoom) (Ok (length result))
  pub number : number_of r ≡ choose text result (length d) 1 2 9 0
  pub value : value_of r ≡ choose text result (length d) 0 0 0 (length result)
  pub bytes : e ≡ choose text result (length d) (zeros (length d)) (zeros (length d)) (zeros (length d)) (result ++ zeros (length d - length result))

-- ---- said for the inner functions, no part of the promise

-- 1 and 2 alone
unfoldable pub taken_of : List ℕ → Result (Unit {0}) Refusal
taken_of text = if ltb 64000 (length text) then Err TooLong else (if is_utf8 text then Ok tt else Err NotUtf8)

-- the answer is the promise's; an answer that is a length has the result in front of e, and what is behind it is still to be cleared
pub record Tried (text result d e : List ℕ) (r : Result ℕ Refusal) : Type 0 where
  pub answer : r ≡ choose text result (length d) (Err TooLong) (Err NotUtf8) (Err NoRoom) (Ok (length result))
  pub long : length e ≡ length d
  pub front : take (value_of r) e ≡ choose text result (length d) [] [] [] result
