-- Answers as C can hold them: the number of RULES R7.1 and the value of each. Assumes nothing.
use Rattle.std.specs.Prelude.{◌≡◌, Bool, ℕ, Result, Some, None, is_some}
use Rattle.bundle_read.specs.Read.{Answer}
use Rattle.bundle_read.specs.Read as R
use Rattle.bundle_parts.specs.Feed.{Progress}
use Rattle.bundle_writer.specs.Packed.{Packed}
use Rattle.bundle_writer.specs.Packed as P
use Rattle.check_list.specs.Checked as C
use Rattle.check_list.specs.Checked.{Checked}
use Rattle.call_build_answer.specs.Built.{Built}
use Rattle.call_build_answer.specs.Built as B
use Rattle.call_text_answer.specs.declared.Refusal as T
use Rattle.call_text_answer.specs.Written as W
use Rattle.call_normalize.specs.declared.Url.{Url}
use Rattle.call_normalize.specs.Normalized as N
use Rattle.call_links_answer.specs.declared.Refusal as K
use Rattle.call_links_answer.specs.Listed as L
use Rattle.exports.specs.declared.NotepageAnswer.{NotepageAnswer}
use Rattle.exports.specs.declared.NotepageNormalized.{NotepageNormalized}
use Rattle.exports.specs.declared.NotepageRead.{NotepageRead}

-- the call's own promise holds of an answer, and C is told that answer
pub record Told {A T : Type 0} (promise : A → Type 0) (tell : A → T) (r : T) : Type 0 where
  pub answer : A
  pub meets : promise answer
  pub tells : r ≡ tell answer

abbrev pub of_written : Result ℕ T.Refusal → NotepageAnswer
of_written w = record { number = W.number_of w; value = W.value_of w }

abbrev pub of_normalized : Result Url T.Refusal → NotepageNormalized
of_normalized n = record { number = N.number_of n; value = N.value_of n; visits = N.visits_in n }

abbrev pub of_listed : Result ℕ K.Refusal → NotepageAnswer
of_listed r = record { number = L.number_of r; value = L.value_of r }

abbrev pub of_checked : Checked → NotepageAnswer
of_checked c = record { number = C.number_of c; value = C.place_of c }

abbrev pub of_built : Built → NotepageAnswer
of_built b = record { number = B.number_of b; value = B.value_of b }

abbrev pub of_packed : Packed → NotepageAnswer
of_packed p = record { number = P.number_of p; value = P.value_of p }

abbrev pub of_read : Answer → NotepageRead
of_read a = record { number = R.number_of a; edition = R.edition_of a; value = R.value_of a; events = R.events_of a }

-- 255 while more is wanted
abbrev pub of_progress : Progress → NotepageRead
of_progress None = record { number = 255; edition = 0; value = 0; events = 0 }
of_progress (Some a) = of_read a

abbrev pub is_done : Progress → Bool
is_done p = is_some p
