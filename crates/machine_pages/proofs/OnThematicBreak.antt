-- Thematic breaks: pages of the crate markdown 1.0.0. Made by tools/machine_pages. Assumes nothing.
use mathlib.Core.List.{[], ◌∷◌}
use lib.Dec.{T}
use Rattle.machine.specs.declared.Ending.TheVariants.{Lf}
use Rattle.machine.proofs.Running.{running}
use Rattle.machine.proofs.Answers.{shows, off, enter, exit}

v1 : T (shows (off Lf) ("***" ∷ []) (enter 19 ∷ enter 0 ∷ exit 0 0 3 ∷ exit 19 0 3 ∷ []) ("<hr />" ∷ []))
unfolding running
v1 = tt

v2 : T (shows (off Lf) ("---\n" ∷ []) (enter 19 ∷ enter 0 ∷ exit 0 0 3 ∷ exit 19 0 3 ∷ enter 3 ∷ exit 3 3 4 ∷ []) ("<hr />\n" ∷ []))
unfolding running
v2 = tt

v3 : T (shows (off Lf) ("* * *\n_ _ _\n" ∷ []) (enter 19 ∷ enter 0 ∷ exit 0 0 1 ∷ enter 1 ∷ exit 1 1 2 ∷ enter 0 ∷ exit 0 2 3 ∷ enter 1 ∷ exit 1 3 4 ∷ enter 0 ∷ exit 0 4 5 ∷ exit 19 0 5 ∷ enter 3 ∷ exit 3 5 6 ∷ enter 19 ∷ enter 0 ∷ exit 0 6 7 ∷ enter 1 ∷ exit 1 7 8 ∷ enter 0 ∷ exit 0 8 9 ∷ enter 1 ∷ exit 1 9 10 ∷ enter 0 ∷ exit 0 10 11 ∷ exit 19 6 11 ∷ enter 3 ∷ exit 3 11 12 ∷ []) ("<hr />\n<hr />\n" ∷ []))
unfolding running
v3 = tt

v4 : T (shows (off Lf) ("- - -" ∷ []) (enter 19 ∷ enter 0 ∷ exit 0 0 1 ∷ enter 1 ∷ exit 1 1 2 ∷ enter 0 ∷ exit 0 2 3 ∷ enter 1 ∷ exit 1 3 4 ∷ enter 0 ∷ exit 0 4 5 ∷ exit 19 0 5 ∷ []) ("<hr />" ∷ []))
unfolding running
v4 = tt

v5 : T (shows (off Lf) ("a\n***\nb" ∷ []) (enter 12 ∷ enter 5 ∷ exit 5 0 1 ∷ exit 12 0 1 ∷ enter 3 ∷ exit 3 1 2 ∷ enter 19 ∷ enter 0 ∷ exit 0 2 5 ∷ exit 19 2 5 ∷ enter 3 ∷ exit 3 5 6 ∷ enter 12 ∷ enter 5 ∷ exit 5 6 7 ∷ exit 12 6 7 ∷ []) ("<p>a</p>\n<hr />\n<p>b</p>" ∷ []))
unfolding running
v5 = tt
