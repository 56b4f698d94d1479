-- Refusals 8 and 9 with their places, and what just fits. The answers are read off RULES R7.6 and R8.3 by hand. Assumes nothing.
use mathlib.Core.Bool.{◌&&◌}
use mathlib.Core.List.{List, [], ◌∷◌, ◌++◌}
use Prim.Native.Nat.{ℕ}
use lib.Dec.{T}
use lib.ListN.{replicate}
use Rattle.lent.specs.Bytes.{bytes}
use Rattle.event.specs.declared.Event.{Event}
use Rattle.machine.specs.declared.Ending.TheVariants.{Lf}
use Rattle.machine.proofs.Running.{running}
use Rattle.machine.proofs.Answers.{fits, fills, refuses, off, enter, exit, enter_with}

-- a text of n letters; its slices are told apart by their lengths alone
abbrev letters : ℕ → List ℕ
letters n = replicate n 97

-- room enough
abbrev wide : ℕ
wide = 65536

abbrev data_of : ℕ → List Event
data_of n = enter 5 ∷ exit 5 0 n ∷ []

abbrev element : ℕ → List Event → List Event
element name es = (enter name ∷ es) ++ (exit name 0 1 ∷ [])

-- ---- 9: the page is longer than the output

paragraph : List Event
paragraph = element 12 (data_of 1) ++ (enter 3 ∷ exit 3 1 2 ∷ [])

page-9 :
    T (fits (off Lf) 9 (bytes "a\n") paragraph (bytes "<p>a</p>\n")
    && refuses (off Lf) 8 (bytes "a\n") paragraph 9 5
    && refuses (off Lf) 7 (bytes "a\n") paragraph 9 3
    && refuses (off Lf) 4 (bytes "a\n") paragraph 9 3
    && refuses (off Lf) 3 (bytes "a\n") paragraph 9 2
    && refuses (off Lf) 2 (bytes "a\n") paragraph 9 0
    && refuses (off Lf) 0 (bytes "a\n") paragraph 9 0
    && fits (off Lf) 0 [] [] [])
unfolding running paragraph
page-9 = tt

-- what is captured is no part of the page until it is written there
heading : ℕ → List Event
heading n = element 13 (enter 14 ∷ exit 14 0 1 ∷ [] ++ element 15 (data_of n))

capture-9 :
    T (fits (off Lf) 10 (letters 1) (heading 1) (bytes "<h1>a</h1>")
    && refuses (off Lf) 9 (letters 1) (heading 1) 9 7
    && refuses (off Lf) 4 (letters 1) (heading 1) 9 6
    && refuses (off Lf) 3 (letters 1) (heading 1) 9 2)
unfolding running heading
capture-9 = tt

-- the page is in no total
long-page : T (fits (off Lf) wide (letters 16385) (element 12 (data_of 16385)) (bytes "<p>" ++ letters 16385 ++ bytes "</p>"))
unfolding running
long-page = tt

-- ---- 8: captures

heading-8 :
    T (fits (off Lf) wide (letters 16384) (heading 16384) (bytes "<h1>" ++ letters 16384 ++ bytes "</h1>")
    && refuses (off Lf) wide (letters 16385) (heading 16385) 8 5)
unfolding running heading
heading-8 = tt

-- as it is captured, encoded: 3,277 times five bytes
encoded-8 : T (refuses (off Lf) wide (replicate 3277 38) (heading 3277) 8 5)
unfolding running heading
encoded-8 = tt

-- all open ones together: a link's label in a heading's text. The link is then written to the heading's text, with 15 bytes around its label
linked : ℕ → ℕ → List Event
linked n m =
    element 13 (enter 14 ∷ exit 14 0 1 ∷ [] ++ element 15 (data_of n ++ element 45 (element 47 (element 48 (data_of m)) ++ element 49 [])))

together-8 :
    T (refuses (off Lf) wide (letters 10000) (linked 10000 6385) 8 10
    && refuses (off Lf) wide (letters 10000) (linked 10000 6384) 8 15
    && refuses (off Lf) wide (letters 10000) (linked 10000 6370) 8 15
    && fits (off Lf) wide (letters 10000) (linked 10000 6369) (bytes "<h1>" ++ letters 10000 ++ bytes "<a href=\"\">" ++ letters 6369 ++ bytes "</a></h1>"))
unfolding running linked
together-8 = tt

-- one that will be dropped counts while it is open: a fence's meta, a reference string, the labels of definitions, a cell past the columns
dropped-8 :
    T (refuses (off Lf) wide (letters 16385) (element 28 (element 29 (element 31 (data_of 16385)))) 8 4
    && refuses (off Lf) wide (letters 16385) (element 12 (element 45 (element 47 [] ++ element 52 (data_of 16385)))) 8 6
    && refuses (off Lf) wide (letters 16385) (element 53 (element 54 (data_of 16385))) 8 3
    && refuses (off Lf) wide (letters 16385) (element 63 (element 64 (element 65 (data_of 16385)))) 8 4
    && refuses (off Lf) wide (letters 16385) (enter_with 57 1 ∷ enter 58 ∷ enter 60 ∷ enter 61 ∷ exit 61 0 0 ∷ element 61 (data_of 16385)) 8 7)
unfolding running
dropped-8 = tt

setext : ℕ → List Event
setext n = element 16 (element 17 (data_of n) ++ element 18 [])

setext-8 :
    T (fits (off Lf) wide (letters 16384) (setext 16384) (bytes "<h1>" ++ letters 16384 ++ bytes "</h1>")
    && refuses (off Lf) wide (letters 16385) (setext 16385) 8 3)
unfolding running setext
setext-8 = tt

-- ---- 8: held

-- label, destination and title of a link
link : ℕ → ℕ → ℕ → List Event
link a b c = element 12 (element 45 (element 47 (element 48 (data_of a)) ++ element 49 (element 50 (data_of b) ++ element 51 (data_of c))))

link-8 :
    T (fits (off Lf) wide (letters 8000) (link 8000 8000 384) (bytes "<p><a href=\"" ++ letters 8000 ++ bytes "\" title=\"" ++ letters 384 ++ bytes "\">" ++ letters 8000 ++ bytes "</a></p>")
    && refuses (off Lf) wide (letters 8000) (link 8000 8000 385) 8 16
    && refuses (off Lf) wide (letters 8385) (link 8000 8385 0) 8 12)
unfolding running link
link-8 = tt

-- a definition's destination and title are held until its exit
definition : ℕ → ℕ → List Event
definition b c = element 53 (element 54 (data_of 1) ++ element 55 (data_of b) ++ element 56 (data_of c))

definition-8 :
    T (fits (off Lf) wide (letters 8192) (definition 8192 8192) []
    && refuses (off Lf) wide (letters 8193) (definition 8192 8193) 8 12)
unfolding running definition
definition-8 = tt

-- ---- 8: kept

-- of equal definitions each
definitions-8 :
    T (fits (off Lf) wide (letters 8192) (definition 8192 8192 ++ definition 0 0) []
    && refuses (off Lf) wide (letters 8192) (definition 8192 8192 ++ definition 1 0) 8 27
    && refuses (off Lf) wide (letters 8192) (definition 8192 8192 ++ definition 0 1) 8 27)
unfolding running definition
definitions-8 = tt

-- a footnote that nobody calls: its body has seven bytes around the text
footnote : List Event → List Event
footnote es = element 63 (element 64 (element 65 []) ++ es)

footnotes-8 :
    T (fits (off Lf) wide (letters 16377) (footnote (element 12 (data_of 16377)) ++ footnote []) []
    && refuses (off Lf) wide (letters 16378) (footnote (element 12 (data_of 16378))) 8 8
    && refuses (off Lf) wide (letters 16382) (footnote (element 12 (data_of 16382))) 8 7
    && refuses (off Lf) wide (letters 16377) (footnote (element 12 (data_of 16377)) ++ footnote (element 19 [])) 8 17
    && refuses (off Lf) wide (letters 8192) (definition 8192 8192 ++ footnote (element 19 [])) 8 21)
unfolding running footnote definition
footnotes-8 = tt

-- ---- the running order

-- definitions' pass first: its refusal wins over an earlier event's
order :
    T (refuses (off Lf) 0 (letters 16385) (element 12 (data_of 1) ++ definition 16385 0) 8 11
    && refuses (off Lf) wide (letters 16385) (heading 16385 ++ definition 16385 0) 8 15
    && refuses (off Lf) 0 (letters 16384) (element 12 (data_of 1) ++ definition 16384 0) 9 0)
unfolding running heading definition
order = tt

-- in the footnote section the number of events is the place: the crate's page for this list has 133 bytes before the section, 414 with it
called : List Event
called = element 12 (element 62 (element 47 (element 48 (data_of 1)))) ++ footnote []

section-9 :
    T (refuses (off Lf) 132 (letters 1) called 9 9
    && refuses (off Lf) 133 (letters 1) called 9 16
    && refuses (off Lf) 413 (letters 1) called 9 16
    && fills (off Lf) 414 (letters 1) called)
unfolding running called footnote
section-9 = tt
