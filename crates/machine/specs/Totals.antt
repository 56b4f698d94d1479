-- The three totals of RULES R8.3, as functions of the state, and when they or the page are too large. Assumes nothing.
use Rattle.std.specs.Prelude.{◌||◌, List, [], ◌∷◌, ℕ, ◌+◌, ltb, length, if◌then◌else◌}
use Rattle.std.proofs.Math.Option.{Option, none, some}
use Rattle.machine.specs.State.{State, Media, Definition, Footnote}
use Rattle.machine.specs.Media.{own_of}

abbrev pub size : Option (List ℕ) → ℕ
size none = 0
size (some b) = length b

abbrev pub sizes : List (List ℕ) → ℕ
sizes [] = 0
sizes (c ∷ cs) = length c + sizes cs

abbrev pub media_sizes : List Media → ℕ
media_sizes [] = 0
media_sizes (m ∷ ms) = size m.label + size (own_of m.destination) + size m.title + media_sizes ms

abbrev pub definition_sizes : List Definition → ℕ
definition_sizes [] = 0
definition_sizes (d ∷ ds) = size d.destination + size d.title + definition_sizes ds

abbrev pub footnote_sizes : List Footnote → ℕ
footnote_sizes [] = 0
footnote_sizes (f ∷ fs) = length f.body + footnote_sizes fs

-- every open buffer but the page
unfoldable pub captured : State → ℕ
captured s = sizes s.captures

-- what open media hold of their own, and a setext text that waits
unfoldable pub held : State → ℕ
held s = size s.waiting.setext + media_sizes s.media

-- of definitions destination and title, of footnotes the body
unfoldable pub kept : State → ℕ
kept s = definition_sizes s.kept.definitions + footnote_sizes s.kept.footnotes

-- no total may be larger
abbrev pub most_total : ℕ
most_total = 16384

-- 8: a total is over it; 9: the page has more than room bytes
unfoldable pub over : (room : ℕ) → State → Option ℕ
over room s =
    if ltb most_total (captured s) || ltb most_total (held s) || ltb most_total (kept s) then some 8
    else (if ltb room (length s.page) then some 9
    else none)
