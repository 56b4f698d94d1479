-- The page and the captures above it: what `push`, `buffer`, `resume` and the line endings do. Assumes nothing.
use Rattle.std.specs.Prelude.{Bool, true, false, List, [], ◌∷◌, ◌++◌, ℕ, if◌then◌else◌}
use Prim.Native.String.{String}
use Rattle.lent.specs.Bytes.{bytes, one_of}
use Rattle.encode_byte.specs.declared.Escaping.{Escaping}
use Rattle.encode_byte.specs.Byte.{escaping_of}
use Rattle.encode.specs.Encode.{encode_of}
use Rattle.machine.specs.declared.Ending.{Ending}
use Rattle.machine.specs.declared.Ending.TheVariants.{Lf, Cr, CrLf}
use Rattle.machine.specs.Outcome.{Outcome, stop, go}
use Rattle.machine.specs.State.{State}
use Rattle.machine.specs.Set.{set_page, set_captures}

-- s ▹ f ▹ g: first f, then g
infixl 15 ◌▹◌
abbrev pub ◌▹◌ : {A B : Type 0} → A → (A → B) → B
a ▹ f = f a

-- ---- writing

abbrev pub push_to : List (List ℕ) → List ℕ → State → State
push_to [] b s = set_page (s.page ++ b) s
push_to (c ∷ cs) b s = set_captures ((c ++ b) ∷ cs) s

-- appends to the newest capture, or to the page
unfoldable pub push : List ℕ → State → State
push b s = push_to s.captures b s

-- a text of ours
abbrev pub write : String → State → State
write text s = push (bytes text) s

-- RULES R12.2: encoded where the flag says so, and then apostrophes too, where the build wants it
abbrev pub escaping_now : State → Escaping
escaping_now s = escaping_of s.flags.encode s.fixed.apostrophes

abbrev pub encoded : List ℕ → State → List ℕ
encoded b s = encode_of (escaping_now s) b

unfoldable pub push_encoded : List ℕ → State → State
push_encoded b s = push (encoded b s) s

-- ---- captures

unfoldable pub open_capture : State → State
open_capture s = set_captures ([] ∷ s.captures) s

abbrev pub take_from : List (List ℕ) → State → Outcome (List ℕ × State)
take_from [] s = stop
take_from (c ∷ cs) s = go (c, set_captures cs s)

-- takes the newest capture. On the page itself the Rust would go on without a buffer and panic at the next push
unfoldable pub take_capture : State → Outcome (List ℕ × State)
take_capture s = take_from s.captures s

-- ---- line endings

abbrev pub ending_bytes : Ending → List ℕ
ending_bytes Lf = bytes "\n"
ending_bytes Cr = bytes "\r"
ending_bytes CrLf = bytes "\r\n"

-- LF and CR
abbrev pub is_eol : ℕ → Bool
is_eol b = one_of (bytes "\n\r") b

-- the last byte, or d
abbrev pub last_or : ℕ → List ℕ → ℕ
last_or d [] = d
last_or d (b ∷ bs) = last_or b bs

abbrev pub newest_of : List ℕ → List (List ℕ) → List ℕ
newest_of page [] = page
newest_of page (c ∷ cs) = c

abbrev pub ending_text : State → List ℕ
ending_text s = ending_bytes s.fixed.ending

unfoldable pub end_line : State → State
end_line s = push (ending_text s) s

-- a line ending, unless the buffer is empty or ends in one
unfoldable pub ending_if_needed : State → List ℕ
ending_if_needed s = if is_eol (last_or 10 (newest_of s.page s.captures)) then [] else ending_text s

unfoldable pub end_line_if_needed : State → State
end_line_if_needed s = push (ending_if_needed s) s
