-- Paragraphs, blank lines and NUL: pages of the crate markdown 1.0.0. Made by tools/machine_pages. Assumes nothing.
use mathlib.Core.List.{[], ◌∷◌}
use lib.Dec.{T}
use Rattle.machine.specs.declared.Ending.TheVariants.{Lf}
use Rattle.machine.proofs.Running.{running}
use Rattle.machine.proofs.Answers.{shows, off, enter, exit}

v1 : T (shows (off Lf) ([]) ([]) ([]))
unfolding running
v1 = tt

v2 : T (shows (off Lf) ("\n" ∷ []) (enter 4 ∷ exit 4 0 1 ∷ []) ([]))
unfolding running
v2 = tt

v3 : T (shows (off Lf) ("\n\n" ∷ []) (enter 4 ∷ exit 4 0 1 ∷ enter 4 ∷ exit 4 1 2 ∷ []) ([]))
unfolding running
v3 = tt

v4 : T (shows (off Lf) (" \n" ∷ []) (enter 1 ∷ exit 1 0 1 ∷ enter 4 ∷ exit 4 1 2 ∷ []) ([]))
unfolding running
v4 = tt

v5 : T (shows (off Lf) ("a" ∷ []) (enter 12 ∷ enter 5 ∷ exit 5 0 1 ∷ exit 12 0 1 ∷ []) ("<p>a</p>" ∷ []))
unfolding running
v5 = tt

v6 : T (shows (off Lf) ("a\n" ∷ []) (enter 12 ∷ enter 5 ∷ exit 5 0 1 ∷ exit 12 0 1 ∷ enter 3 ∷ exit 3 1 2 ∷ []) ("<p>a</p>\n" ∷ []))
unfolding running
v6 = tt

v7 : T (shows (off Lf) ("a\n\n" ∷ []) (enter 12 ∷ enter 5 ∷ exit 5 0 1 ∷ exit 12 0 1 ∷ enter 3 ∷ exit 3 1 2 ∷ enter 4 ∷ exit 4 2 3 ∷ []) ("<p>a</p>\n" ∷ []))
unfolding running
v7 = tt

v8 : T (shows (off Lf) ("a\r\nb\r\n" ∷ []) (enter 12 ∷ enter 5 ∷ exit 5 0 1 ∷ enter 3 ∷ exit 3 1 3 ∷ enter 5 ∷ exit 5 3 4 ∷ exit 12 0 4 ∷ enter 3 ∷ exit 3 4 6 ∷ []) ("<p>a\r\nb</p>\r\n" ∷ []))
unfolding running
v8 = tt

v9 : T (shows (off Lf) ("a\rb\r" ∷ []) (enter 12 ∷ enter 5 ∷ exit 5 0 1 ∷ enter 3 ∷ exit 3 1 2 ∷ enter 5 ∷ exit 5 2 3 ∷ exit 12 0 3 ∷ enter 3 ∷ exit 3 3 4 ∷ []) ("<p>a\rb</p>\r" ∷ []))
unfolding running
v9 = tt

v10 : T (shows (off Lf) ("ï»¿a" ∷ []) (enter 0 ∷ exit 0 0 3 ∷ enter 12 ∷ enter 5 ∷ exit 5 3 4 ∷ exit 12 3 4 ∷ []) ("<p>a</p>" ∷ []))
unfolding running
v10 = tt

v11 : T (shows (off Lf) ("\0" ∷ []) (enter 12 ∷ enter 5 ∷ exit 5 0 1 ∷ exit 12 0 1 ∷ []) ("<p>ï¿½</p>" ∷ []))
unfolding running
v11 = tt

v12 : T (shows (off Lf) ("a\0b" ∷ []) (enter 12 ∷ enter 5 ∷ exit 5 0 3 ∷ exit 12 0 3 ∷ []) ("<p>aï¿½b</p>" ∷ []))
unfolding running
v12 = tt
