-- The call that percent-encodes a URL (RULES R7.7, R11.7): its answers, their numbers, and every byte afterwards. Assumes nothing.
use Rattle.std.specs.Prelude.{◌≡◌, List, ◌++◌, ℕ, ◌-◌, length, Result, Ok, Err}
use Rattle.lent.specs.Fill.{zeros}
use Rattle.normalize_uri.specs.Url.{normalize_of}
use Rattle.normalize_visits.specs.Visits.{visits_of}
use Rattle.call_text_answer.specs.declared.Refusal.{Refusal}
use Rattle.call_text_answer.specs.declared.Refusal.TheVariants.{TooLong, NotUtf8, NoRoom}
use Rattle.call_text_answer.specs.Written.{refusal_number, choose}
use Rattle.call_normalize.specs.declared.Url.{Url}

-- the number: 0 for an answer, else the refusal's
abbrev pub number_of : Result Url Refusal → ℕ
number_of (Ok u) = 0
number_of (Err r) = refusal_number r

-- the length, or the refusal's place
abbrev pub value_of : Result Url Refusal → ℕ
value_of (Ok u) = u.length
value_of (Err r) = 0

-- how many characters were visited
abbrev pub visits_in : Result Url Refusal → ℕ
visits_in (Ok u) = u.visits
visits_in (Err r) = 0

-- one of four: as for the calls that write a text
abbrev pub chosen : {A : Type 0} → (url : List ℕ) (room : ℕ) → (long other none written : A) → A
chosen url room long other none written = choose url (normalize_of url) room long other none written

-- a call with this URL, on the buffer d, answered r and left e
pub record HasNormalized (url d e : List ℕ) (r : Result Url Refusal) : Type 0 where
  pub answer : r ≡ chosen url (length d) (Err TooLong) (Err NotUtf8) (Err NoRoom) (Ok (record { length = length (normalize_of url); visits = visits_of url }))
  pub number : number_of r ≡ chosen url (length d) 1 2 9 0
  pub value : value_of r ≡ chosen url (length d) 0 0 0 (length (normalize_of url))
  pub visits : visits_in r ≡ chosen url (length d) 0 0 0 (visits_of url)
  pub bytes : e ≡ chosen url (length d) (zeros (length d)) (zeros (length d)) (zeros (length d)) (normalize_of url ++ zeros (length d - length (normalize_of url)))
