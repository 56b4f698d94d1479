-- Definitions and references: pages of the crate markdown 1.0.0. Made by tools/machine_pages. Assumes nothing.
use mathlib.Core.List.{[], ◌∷◌}
use lib.Dec.{T}
use Rattle.machine.specs.declared.Ending.TheVariants.{Lf}
use Rattle.machine.proofs.Running.{running}
use Rattle.machine.proofs.Answers.{shows, off, protocol, images, on, quoted, quoted_on, enter, exit, enter_with}

v1 : T (shows (off Lf) ("[a]\n\n[a]: b" ∷ []) (enter 12 ∷ enter 45 ∷ enter 47 ∷ enter 0 ∷ enter 0 ∷ exit 0 0 1 ∷ exit 0 0 1 ∷ enter 48 ∷ enter 5 ∷ exit 5 1 2 ∷ exit 48 1 2 ∷ enter 0 ∷ enter 0 ∷ exit 0 2 3 ∷ exit 0 2 3 ∷ exit 47 0 3 ∷ exit 45 0 3 ∷ exit 12 0 3 ∷ enter 3 ∷ exit 3 3 4 ∷ enter 4 ∷ exit 4 4 5 ∷ enter 53 ∷ enter 0 ∷ enter 0 ∷ exit 0 5 6 ∷ enter 54 ∷ enter 5 ∷ exit 5 6 7 ∷ exit 54 6 7 ∷ enter 0 ∷ exit 0 7 8 ∷ exit 0 5 8 ∷ enter 0 ∷ exit 0 8 9 ∷ enter 1 ∷ exit 1 9 10 ∷ enter 0 ∷ enter 0 ∷ enter 55 ∷ enter 5 ∷ exit 5 10 11 ∷ exit 55 10 11 ∷ exit 0 10 11 ∷ exit 0 10 11 ∷ exit 53 5 11 ∷ []) ("<p><a href=\"b\">a</a></p>\n" ∷ []))
unfolding running
v1 = tt

v2 : T (shows (off Lf) ("[a][]\n\n[a]: b" ∷ []) (enter 12 ∷ enter 45 ∷ enter 47 ∷ enter 0 ∷ enter 0 ∷ exit 0 0 1 ∷ exit 0 0 1 ∷ enter 48 ∷ enter 5 ∷ exit 5 1 2 ∷ exit 48 1 2 ∷ enter 0 ∷ enter 0 ∷ exit 0 2 3 ∷ exit 0 2 3 ∷ exit 47 0 3 ∷ enter 0 ∷ enter 0 ∷ exit 0 3 4 ∷ enter 0 ∷ exit 0 4 5 ∷ exit 0 3 5 ∷ exit 45 0 5 ∷ exit 12 0 5 ∷ enter 3 ∷ exit 3 5 6 ∷ enter 4 ∷ exit 4 6 7 ∷ enter 53 ∷ enter 0 ∷ enter 0 ∷ exit 0 7 8 ∷ enter 54 ∷ enter 5 ∷ exit 5 8 9 ∷ exit 54 8 9 ∷ enter 0 ∷ exit 0 9 10 ∷ exit 0 7 10 ∷ enter 0 ∷ exit 0 10 11 ∷ enter 1 ∷ exit 1 11 12 ∷ enter 0 ∷ enter 0 ∷ enter 55 ∷ enter 5 ∷ exit 5 12 13 ∷ exit 55 12 13 ∷ exit 0 12 13 ∷ exit 0 12 13 ∷ exit 53 7 13 ∷ []) ("<p><a href=\"b\">a</a></p>\n" ∷ []))
unfolding running
v2 = tt

v3 : T (shows (off Lf) ("[b][a]\n\n[a]: c 'd'" ∷ []) (enter 12 ∷ enter 45 ∷ enter 47 ∷ enter 0 ∷ enter 0 ∷ exit 0 0 1 ∷ exit 0 0 1 ∷ enter 48 ∷ enter 5 ∷ exit 5 1 2 ∷ exit 48 1 2 ∷ enter 0 ∷ enter 0 ∷ exit 0 2 3 ∷ exit 0 2 3 ∷ exit 47 0 3 ∷ enter 0 ∷ enter 0 ∷ exit 0 3 4 ∷ enter 52 ∷ enter 5 ∷ exit 5 4 5 ∷ exit 52 4 5 ∷ enter 0 ∷ exit 0 5 6 ∷ exit 0 3 6 ∷ exit 45 0 6 ∷ exit 12 0 6 ∷ enter 3 ∷ exit 3 6 7 ∷ enter 4 ∷ exit 4 7 8 ∷ enter 53 ∷ enter 0 ∷ enter 0 ∷ exit 0 8 9 ∷ enter 54 ∷ enter 5 ∷ exit 5 9 10 ∷ exit 54 9 10 ∷ enter 0 ∷ exit 0 10 11 ∷ exit 0 8 11 ∷ enter 0 ∷ exit 0 11 12 ∷ enter 1 ∷ exit 1 12 13 ∷ enter 0 ∷ enter 0 ∷ enter 55 ∷ enter 5 ∷ exit 5 13 14 ∷ exit 55 13 14 ∷ exit 0 13 14 ∷ exit 0 13 14 ∷ enter 1 ∷ exit 1 14 15 ∷ enter 0 ∷ enter 0 ∷ exit 0 15 16 ∷ enter 56 ∷ enter 5 ∷ exit 5 16 17 ∷ exit 56 16 17 ∷ enter 0 ∷ exit 0 17 18 ∷ exit 0 15 18 ∷ exit 53 8 18 ∷ []) ("<p><a href=\"c\" title=\"d\">b</a></p>\n" ∷ []))
unfolding running
v3 = tt

v4 : T (shows (off Lf) ("[A]\n\n[a]: <b> \"c\"" ∷ []) (enter 12 ∷ enter 45 ∷ enter 47 ∷ enter 0 ∷ enter 0 ∷ exit 0 0 1 ∷ exit 0 0 1 ∷ enter 48 ∷ enter 5 ∷ exit 5 1 2 ∷ exit 48 1 2 ∷ enter 0 ∷ enter 0 ∷ exit 0 2 3 ∷ exit 0 2 3 ∷ exit 47 0 3 ∷ exit 45 0 3 ∷ exit 12 0 3 ∷ enter 3 ∷ exit 3 3 4 ∷ enter 4 ∷ exit 4 4 5 ∷ enter 53 ∷ enter 0 ∷ enter 0 ∷ exit 0 5 6 ∷ enter 54 ∷ enter 5 ∷ exit 5 6 7 ∷ exit 54 6 7 ∷ enter 0 ∷ exit 0 7 8 ∷ exit 0 5 8 ∷ enter 0 ∷ exit 0 8 9 ∷ enter 1 ∷ exit 1 9 10 ∷ enter 0 ∷ enter 0 ∷ enter 0 ∷ exit 0 10 11 ∷ enter 55 ∷ enter 5 ∷ exit 5 11 12 ∷ exit 55 11 12 ∷ enter 0 ∷ exit 0 12 13 ∷ exit 0 10 13 ∷ exit 0 10 13 ∷ enter 1 ∷ exit 1 13 14 ∷ enter 0 ∷ enter 0 ∷ exit 0 14 15 ∷ enter 56 ∷ enter 5 ∷ exit 5 15 16 ∷ exit 56 15 16 ∷ enter 0 ∷ exit 0 16 17 ∷ exit 0 14 17 ∷ exit 53 5 17 ∷ []) ("<p><a href=\"b\" title=\"c\">A</a></p>\n" ∷ []))
unfolding running
v4 = tt

v5 : T (shows (off Lf) ("[a b]\n\n[a  b]: c" ∷ []) (enter 12 ∷ enter 45 ∷ enter 47 ∷ enter 0 ∷ enter 0 ∷ exit 0 0 1 ∷ exit 0 0 1 ∷ enter 48 ∷ enter 5 ∷ exit 5 1 4 ∷ exit 48 1 4 ∷ enter 0 ∷ enter 0 ∷ exit 0 4 5 ∷ exit 0 4 5 ∷ exit 47 0 5 ∷ exit 45 0 5 ∷ exit 12 0 5 ∷ enter 3 ∷ exit 3 5 6 ∷ enter 4 ∷ exit 4 6 7 ∷ enter 53 ∷ enter 0 ∷ enter 0 ∷ exit 0 7 8 ∷ enter 54 ∷ enter 5 ∷ exit 5 8 12 ∷ exit 54 8 12 ∷ enter 0 ∷ exit 0 12 13 ∷ exit 0 7 13 ∷ enter 0 ∷ exit 0 13 14 ∷ enter 1 ∷ exit 1 14 15 ∷ enter 0 ∷ enter 0 ∷ enter 55 ∷ enter 5 ∷ exit 5 15 16 ∷ exit 55 15 16 ∷ exit 0 15 16 ∷ exit 0 15 16 ∷ exit 53 7 16 ∷ []) ("<p><a href=\"c\">a b</a></p>\n" ∷ []))
unfolding running
v5 = tt

v6 : T (shows (off Lf) ("[a\nb]\n\n[a b]: c" ∷ []) (enter 12 ∷ enter 45 ∷ enter 47 ∷ enter 0 ∷ enter 0 ∷ exit 0 0 1 ∷ exit 0 0 1 ∷ enter 48 ∷ enter 5 ∷ exit 5 1 2 ∷ enter 3 ∷ exit 3 2 3 ∷ enter 5 ∷ exit 5 3 4 ∷ exit 48 1 4 ∷ enter 0 ∷ enter 0 ∷ exit 0 4 5 ∷ exit 0 4 5 ∷ exit 47 0 5 ∷ exit 45 0 5 ∷ exit 12 0 5 ∷ enter 3 ∷ exit 3 5 6 ∷ enter 4 ∷ exit 4 6 7 ∷ enter 53 ∷ enter 0 ∷ enter 0 ∷ exit 0 7 8 ∷ enter 54 ∷ enter 5 ∷ exit 5 8 11 ∷ exit 54 8 11 ∷ enter 0 ∷ exit 0 11 12 ∷ exit 0 7 12 ∷ enter 0 ∷ exit 0 12 13 ∷ enter 1 ∷ exit 1 13 14 ∷ enter 0 ∷ enter 0 ∷ enter 55 ∷ enter 5 ∷ exit 5 14 15 ∷ exit 55 14 15 ∷ exit 0 14 15 ∷ exit 0 14 15 ∷ exit 53 7 15 ∷ []) ("<p><a href=\"c\">a\nb</a></p>\n" ∷ []))
unfolding running
v6 = tt

v7 : T (shows (off Lf) ("[ a b ]\n\n[a b]: c" ∷ []) (enter 12 ∷ enter 5 ∷ exit 5 0 7 ∷ exit 12 0 7 ∷ enter 3 ∷ exit 3 7 8 ∷ enter 4 ∷ exit 4 8 9 ∷ enter 53 ∷ enter 0 ∷ enter 0 ∷ exit 0 9 10 ∷ enter 54 ∷ enter 5 ∷ exit 5 10 13 ∷ exit 54 10 13 ∷ enter 0 ∷ exit 0 13 14 ∷ exit 0 9 14 ∷ enter 0 ∷ exit 0 14 15 ∷ enter 1 ∷ exit 1 15 16 ∷ enter 0 ∷ enter 0 ∷ enter 55 ∷ enter 5 ∷ exit 5 16 17 ∷ exit 55 16 17 ∷ exit 0 16 17 ∷ exit 0 16 17 ∷ exit 53 9 17 ∷ []) ("<p>[ a b ]</p>\n" ∷ []))
unfolding running
v7 = tt

v8 : T (shows (off Lf) ("[a]: b\n[a]: c\n[a]" ∷ []) (enter 53 ∷ enter 0 ∷ enter 0 ∷ exit 0 0 1 ∷ enter 54 ∷ enter 5 ∷ exit 5 1 2 ∷ exit 54 1 2 ∷ enter 0 ∷ exit 0 2 3 ∷ exit 0 0 3 ∷ enter 0 ∷ exit 0 3 4 ∷ enter 1 ∷ exit 1 4 5 ∷ enter 0 ∷ enter 0 ∷ enter 55 ∷ enter 5 ∷ exit 5 5 6 ∷ exit 55 5 6 ∷ exit 0 5 6 ∷ exit 0 5 6 ∷ exit 53 0 6 ∷ enter 3 ∷ exit 3 6 7 ∷ enter 53 ∷ enter 0 ∷ enter 0 ∷ exit 0 7 8 ∷ enter 54 ∷ enter 5 ∷ exit 5 8 9 ∷ exit 54 8 9 ∷ enter 0 ∷ exit 0 9 10 ∷ exit 0 7 10 ∷ enter 0 ∷ exit 0 10 11 ∷ enter 1 ∷ exit 1 11 12 ∷ enter 0 ∷ enter 0 ∷ enter 55 ∷ enter 5 ∷ exit 5 12 13 ∷ exit 55 12 13 ∷ exit 0 12 13 ∷ exit 0 12 13 ∷ exit 53 7 13 ∷ enter 3 ∷ exit 3 13 14 ∷ enter 12 ∷ enter 45 ∷ enter 47 ∷ enter 0 ∷ enter 0 ∷ exit 0 14 15 ∷ exit 0 14 15 ∷ enter 48 ∷ enter 5 ∷ exit 5 15 16 ∷ exit 48 15 16 ∷ enter 0 ∷ enter 0 ∷ exit 0 16 17 ∷ exit 0 16 17 ∷ exit 47 14 17 ∷ exit 45 14 17 ∷ exit 12 14 17 ∷ []) ("<p><a href=\"b\">a</a></p>" ∷ []))
unfolding running
v8 = tt

v9 : T (shows (off Lf) ("[a]: b" ∷ []) (enter 53 ∷ enter 0 ∷ enter 0 ∷ exit 0 0 1 ∷ enter 54 ∷ enter 5 ∷ exit 5 1 2 ∷ exit 54 1 2 ∷ enter 0 ∷ exit 0 2 3 ∷ exit 0 0 3 ∷ enter 0 ∷ exit 0 3 4 ∷ enter 1 ∷ exit 1 4 5 ∷ enter 0 ∷ enter 0 ∷ enter 55 ∷ enter 5 ∷ exit 5 5 6 ∷ exit 55 5 6 ∷ exit 0 5 6 ∷ exit 0 5 6 ∷ exit 53 0 6 ∷ []) ([]))
unfolding running
v9 = tt

v10 : T (shows (off Lf) ("[a]: b \"c\nd\"\n" ∷ []) (enter 53 ∷ enter 0 ∷ enter 0 ∷ exit 0 0 1 ∷ enter 54 ∷ enter 5 ∷ exit 5 1 2 ∷ exit 54 1 2 ∷ enter 0 ∷ exit 0 2 3 ∷ exit 0 0 3 ∷ enter 0 ∷ exit 0 3 4 ∷ enter 1 ∷ exit 1 4 5 ∷ enter 0 ∷ enter 0 ∷ enter 55 ∷ enter 5 ∷ exit 5 5 6 ∷ exit 55 5 6 ∷ exit 0 5 6 ∷ exit 0 5 6 ∷ enter 1 ∷ exit 1 6 7 ∷ enter 0 ∷ enter 0 ∷ exit 0 7 8 ∷ enter 56 ∷ enter 5 ∷ exit 5 8 9 ∷ enter 3 ∷ exit 3 9 10 ∷ enter 5 ∷ exit 5 10 11 ∷ exit 56 8 11 ∷ enter 0 ∷ exit 0 11 12 ∷ exit 0 7 12 ∷ exit 53 0 12 ∷ enter 3 ∷ exit 3 12 13 ∷ []) ([]))
unfolding running
v10 = tt

v11 : T (shows (off Lf) ("[a]: b\n\"c\"\ne [a]" ∷ []) (enter 53 ∷ enter 0 ∷ enter 0 ∷ exit 0 0 1 ∷ enter 54 ∷ enter 5 ∷ exit 5 1 2 ∷ exit 54 1 2 ∷ enter 0 ∷ exit 0 2 3 ∷ exit 0 0 3 ∷ enter 0 ∷ exit 0 3 4 ∷ enter 1 ∷ exit 1 4 5 ∷ enter 0 ∷ enter 0 ∷ enter 55 ∷ enter 5 ∷ exit 5 5 6 ∷ exit 55 5 6 ∷ exit 0 5 6 ∷ exit 0 5 6 ∷ enter 3 ∷ exit 3 6 7 ∷ enter 0 ∷ enter 0 ∷ exit 0 7 8 ∷ enter 56 ∷ enter 5 ∷ exit 5 8 9 ∷ exit 56 8 9 ∷ enter 0 ∷ exit 0 9 10 ∷ exit 0 7 10 ∷ exit 53 0 10 ∷ enter 3 ∷ exit 3 10 11 ∷ enter 12 ∷ enter 5 ∷ exit 5 11 13 ∷ enter 45 ∷ enter 47 ∷ enter 0 ∷ enter 0 ∷ exit 0 13 14 ∷ exit 0 13 14 ∷ enter 48 ∷ enter 5 ∷ exit 5 14 15 ∷ exit 48 14 15 ∷ enter 0 ∷ enter 0 ∷ exit 0 15 16 ∷ exit 0 15 16 ∷ exit 47 13 16 ∷ exit 45 13 16 ∷ exit 12 11 16 ∷ []) ("<p>e <a href=\"b\" title=\"c\">a</a></p>" ∷ []))
unfolding running
v11 = tt

v12 : T (shows (off Lf) ("[a]:\nb\n" ∷ []) (enter 53 ∷ enter 0 ∷ enter 0 ∷ exit 0 0 1 ∷ enter 54 ∷ enter 5 ∷ exit 5 1 2 ∷ exit 54 1 2 ∷ enter 0 ∷ exit 0 2 3 ∷ exit 0 0 3 ∷ enter 0 ∷ exit 0 3 4 ∷ enter 3 ∷ exit 3 4 5 ∷ enter 0 ∷ enter 0 ∷ enter 55 ∷ enter 5 ∷ exit 5 5 6 ∷ exit 55 5 6 ∷ exit 0 5 6 ∷ exit 0 5 6 ∷ exit 53 0 6 ∷ enter 3 ∷ exit 3 6 7 ∷ []) ([]))
unfolding running
v12 = tt

v13 : T (shows (off Lf) ("[\na\n]: b\n\n[a]" ∷ []) (enter 53 ∷ enter 0 ∷ enter 0 ∷ exit 0 0 1 ∷ enter 54 ∷ enter 3 ∷ exit 3 1 2 ∷ enter 5 ∷ exit 5 2 3 ∷ enter 3 ∷ exit 3 3 4 ∷ exit 54 1 4 ∷ enter 0 ∷ exit 0 4 5 ∷ exit 0 0 5 ∷ enter 0 ∷ exit 0 5 6 ∷ enter 1 ∷ exit 1 6 7 ∷ enter 0 ∷ enter 0 ∷ enter 55 ∷ enter 5 ∷ exit 5 7 8 ∷ exit 55 7 8 ∷ exit 0 7 8 ∷ exit 0 7 8 ∷ exit 53 0 8 ∷ enter 3 ∷ exit 3 8 9 ∷ enter 4 ∷ exit 4 9 10 ∷ enter 12 ∷ enter 45 ∷ enter 47 ∷ enter 0 ∷ enter 0 ∷ exit 0 10 11 ∷ exit 0 10 11 ∷ enter 48 ∷ enter 5 ∷ exit 5 11 12 ∷ exit 48 11 12 ∷ enter 0 ∷ enter 0 ∷ exit 0 12 13 ∷ exit 0 12 13 ∷ exit 47 10 13 ∷ exit 45 10 13 ∷ exit 12 10 13 ∷ []) ("<p><a href=\"b\">a</a></p>" ∷ []))
unfolding running
v13 = tt

v14 : T (shows (off Lf) ("[a\\]b]: c\n\n[a\\]b]" ∷ []) (enter 53 ∷ enter 0 ∷ enter 0 ∷ exit 0 0 1 ∷ enter 54 ∷ enter 5 ∷ exit 5 1 2 ∷ enter 0 ∷ enter 0 ∷ exit 0 2 3 ∷ enter 6 ∷ exit 6 3 4 ∷ exit 0 2 4 ∷ enter 5 ∷ exit 5 4 5 ∷ exit 54 1 5 ∷ enter 0 ∷ exit 0 5 6 ∷ exit 0 0 6 ∷ enter 0 ∷ exit 0 6 7 ∷ enter 1 ∷ exit 1 7 8 ∷ enter 0 ∷ enter 0 ∷ enter 55 ∷ enter 5 ∷ exit 5 8 9 ∷ exit 55 8 9 ∷ exit 0 8 9 ∷ exit 0 8 9 ∷ exit 53 0 9 ∷ enter 3 ∷ exit 3 9 10 ∷ enter 4 ∷ exit 4 10 11 ∷ enter 12 ∷ enter 45 ∷ enter 47 ∷ enter 0 ∷ enter 0 ∷ exit 0 11 12 ∷ exit 0 11 12 ∷ enter 48 ∷ enter 5 ∷ exit 5 12 13 ∷ enter 0 ∷ enter 0 ∷ exit 0 13 14 ∷ enter 6 ∷ exit 6 14 15 ∷ exit 0 13 15 ∷ enter 5 ∷ exit 5 15 16 ∷ exit 48 12 16 ∷ enter 0 ∷ enter 0 ∷ exit 0 16 17 ∷ exit 0 16 17 ∷ exit 47 11 17 ∷ exit 45 11 17 ∷ exit 12 11 17 ∷ []) ("<p><a href=\"c\">a]b</a></p>" ∷ []))
unfolding running
v14 = tt

v15 : T (shows (off Lf) ("[a]: <>\n[a]" ∷ []) (enter 53 ∷ enter 0 ∷ enter 0 ∷ exit 0 0 1 ∷ enter 54 ∷ enter 5 ∷ exit 5 1 2 ∷ exit 54 1 2 ∷ enter 0 ∷ exit 0 2 3 ∷ exit 0 0 3 ∷ enter 0 ∷ exit 0 3 4 ∷ enter 1 ∷ exit 1 4 5 ∷ enter 0 ∷ enter 0 ∷ enter 0 ∷ exit 0 5 6 ∷ enter 0 ∷ exit 0 6 7 ∷ exit 0 5 7 ∷ exit 0 5 7 ∷ exit 53 0 7 ∷ enter 3 ∷ exit 3 7 8 ∷ enter 12 ∷ enter 45 ∷ enter 47 ∷ enter 0 ∷ enter 0 ∷ exit 0 8 9 ∷ exit 0 8 9 ∷ enter 48 ∷ enter 5 ∷ exit 5 9 10 ∷ exit 48 9 10 ∷ enter 0 ∷ enter 0 ∷ exit 0 10 11 ∷ exit 0 10 11 ∷ exit 47 8 11 ∷ exit 45 8 11 ∷ exit 12 8 11 ∷ []) ("<p><a href=\"\">a</a></p>" ∷ []))
unfolding running
v15 = tt

v16 : T (shows (off Lf) ("[a]: <b c>\n[a]" ∷ []) (enter 53 ∷ enter 0 ∷ enter 0 ∷ exit 0 0 1 ∷ enter 54 ∷ enter 5 ∷ exit 5 1 2 ∷ exit 54 1 2 ∷ enter 0 ∷ exit 0 2 3 ∷ exit 0 0 3 ∷ enter 0 ∷ exit 0 3 4 ∷ enter 1 ∷ exit 1 4 5 ∷ enter 0 ∷ enter 0 ∷ enter 0 ∷ exit 0 5 6 ∷ enter 55 ∷ enter 5 ∷ exit 5 6 9 ∷ exit 55 6 9 ∷ enter 0 ∷ exit 0 9 10 ∷ exit 0 5 10 ∷ exit 0 5 10 ∷ exit 53 0 10 ∷ enter 3 ∷ exit 3 10 11 ∷ enter 12 ∷ enter 45 ∷ enter 47 ∷ enter 0 ∷ enter 0 ∷ exit 0 11 12 ∷ exit 0 11 12 ∷ enter 48 ∷ enter 5 ∷ exit 5 12 13 ∷ exit 48 12 13 ∷ enter 0 ∷ enter 0 ∷ exit 0 13 14 ∷ exit 0 13 14 ∷ exit 47 11 14 ∷ exit 45 11 14 ∷ exit 12 11 14 ∷ []) ("<p><a href=\"b%20c\">a</a></p>" ∷ []))
unfolding running
v16 = tt

v17 : T (shows (off Lf) ("[a]: b (c)\n\n![a]" ∷ []) (enter 53 ∷ enter 0 ∷ enter 0 ∷ exit 0 0 1 ∷ enter 54 ∷ enter 5 ∷ exit 5 1 2 ∷ exit 54 1 2 ∷ enter 0 ∷ exit 0 2 3 ∷ exit 0 0 3 ∷ enter 0 ∷ exit 0 3 4 ∷ enter 1 ∷ exit 1 4 5 ∷ enter 0 ∷ enter 0 ∷ enter 55 ∷ enter 5 ∷ exit 5 5 6 ∷ exit 55 5 6 ∷ exit 0 5 6 ∷ exit 0 5 6 ∷ enter 1 ∷ exit 1 6 7 ∷ enter 0 ∷ enter 0 ∷ exit 0 7 8 ∷ enter 56 ∷ enter 5 ∷ exit 5 8 9 ∷ exit 56 8 9 ∷ enter 0 ∷ exit 0 9 10 ∷ exit 0 7 10 ∷ exit 53 0 10 ∷ enter 3 ∷ exit 3 10 11 ∷ enter 4 ∷ exit 4 11 12 ∷ enter 12 ∷ enter 46 ∷ enter 47 ∷ enter 0 ∷ enter 0 ∷ exit 0 12 13 ∷ enter 0 ∷ exit 0 13 14 ∷ exit 0 12 14 ∷ enter 48 ∷ enter 5 ∷ exit 5 14 15 ∷ exit 48 14 15 ∷ enter 0 ∷ enter 0 ∷ exit 0 15 16 ∷ exit 0 15 16 ∷ exit 47 12 16 ∷ exit 46 12 16 ∷ exit 12 12 16 ∷ []) ("<p><img src=\"b\" alt=\"a\" title=\"c\" /></p>" ∷ []))
unfolding running
v17 = tt

v18 : T (shows (off Lf) ("![a][b]\n\n[b]: c" ∷ []) (enter 12 ∷ enter 46 ∷ enter 47 ∷ enter 0 ∷ enter 0 ∷ exit 0 0 1 ∷ enter 0 ∷ exit 0 1 2 ∷ exit 0 0 2 ∷ enter 48 ∷ enter 5 ∷ exit 5 2 3 ∷ exit 48 2 3 ∷ enter 0 ∷ enter 0 ∷ exit 0 3 4 ∷ exit 0 3 4 ∷ exit 47 0 4 ∷ enter 0 ∷ enter 0 ∷ exit 0 4 5 ∷ enter 52 ∷ enter 5 ∷ exit 5 5 6 ∷ exit 52 5 6 ∷ enter 0 ∷ exit 0 6 7 ∷ exit 0 4 7 ∷ exit 46 0 7 ∷ exit 12 0 7 ∷ enter 3 ∷ exit 3 7 8 ∷ enter 4 ∷ exit 4 8 9 ∷ enter 53 ∷ enter 0 ∷ enter 0 ∷ exit 0 9 10 ∷ enter 54 ∷ enter 5 ∷ exit 5 10 11 ∷ exit 54 10 11 ∷ enter 0 ∷ exit 0 11 12 ∷ exit 0 9 12 ∷ enter 0 ∷ exit 0 12 13 ∷ enter 1 ∷ exit 1 13 14 ∷ enter 0 ∷ enter 0 ∷ enter 55 ∷ enter 5 ∷ exit 5 14 15 ∷ exit 55 14 15 ∷ exit 0 14 15 ∷ exit 0 14 15 ∷ exit 53 9 15 ∷ []) ("<p><img src=\"c\" alt=\"a\" /></p>\n" ∷ []))
unfolding running
v18 = tt

v19 : T (shows (off Lf) ("> [a]: b\n\n[a]" ∷ []) (enter 20 ∷ enter 2 ∷ enter 0 ∷ exit 0 0 1 ∷ enter 1 ∷ exit 1 1 2 ∷ exit 2 0 2 ∷ enter 53 ∷ enter 0 ∷ enter 0 ∷ exit 0 2 3 ∷ enter 54 ∷ enter 5 ∷ exit 5 3 4 ∷ exit 54 3 4 ∷ enter 0 ∷ exit 0 4 5 ∷ exit 0 2 5 ∷ enter 0 ∷ exit 0 5 6 ∷ enter 1 ∷ exit 1 6 7 ∷ enter 0 ∷ enter 0 ∷ enter 55 ∷ enter 5 ∷ exit 5 7 8 ∷ exit 55 7 8 ∷ exit 0 7 8 ∷ exit 0 7 8 ∷ exit 53 2 8 ∷ exit 20 0 8 ∷ enter 3 ∷ exit 3 8 9 ∷ enter 4 ∷ exit 4 9 10 ∷ enter 12 ∷ enter 45 ∷ enter 47 ∷ enter 0 ∷ enter 0 ∷ exit 0 10 11 ∷ exit 0 10 11 ∷ enter 48 ∷ enter 5 ∷ exit 5 11 12 ∷ exit 48 11 12 ∷ enter 0 ∷ enter 0 ∷ exit 0 12 13 ∷ exit 0 12 13 ∷ exit 47 10 13 ∷ exit 45 10 13 ∷ exit 12 10 13 ∷ []) ("<blockquote>\n</blockquote>\n<p><a href=\"b\">a</a></p>" ∷ []))
unfolding running
v19 = tt

v20 : T (shows (off Lf) ("- [a]: b\n  [c]: d\n\n  [a][c]" ∷ []) (enter_with 22 1 ∷ enter 23 ∷ enter 24 ∷ enter 25 ∷ exit 25 0 1 ∷ enter 1 ∷ exit 1 1 2 ∷ exit 24 0 2 ∷ enter 53 ∷ enter 0 ∷ enter 0 ∷ exit 0 2 3 ∷ enter 54 ∷ enter 5 ∷ exit 5 3 4 ∷ exit 54 3 4 ∷ enter 0 ∷ exit 0 4 5 ∷ exit 0 2 5 ∷ enter 0 ∷ exit 0 5 6 ∷ enter 1 ∷ exit 1 6 7 ∷ enter 0 ∷ enter 0 ∷ enter 55 ∷ enter 5 ∷ exit 5 7 8 ∷ exit 55 7 8 ∷ exit 0 7 8 ∷ exit 0 7 8 ∷ exit 53 2 8 ∷ enter 3 ∷ exit 3 8 9 ∷ enter 1 ∷ exit 1 9 11 ∷ enter 53 ∷ enter 0 ∷ enter 0 ∷ exit 0 11 12 ∷ enter 54 ∷ enter 5 ∷ exit 5 12 13 ∷ exit 54 12 13 ∷ enter 0 ∷ exit 0 13 14 ∷ exit 0 11 14 ∷ enter 0 ∷ exit 0 14 15 ∷ enter 1 ∷ exit 1 15 16 ∷ enter 0 ∷ enter 0 ∷ enter 55 ∷ enter 5 ∷ exit 5 16 17 ∷ exit 55 16 17 ∷ exit 0 16 17 ∷ exit 0 16 17 ∷ exit 53 11 17 ∷ enter 3 ∷ exit 3 17 18 ∷ enter 4 ∷ exit 4 18 19 ∷ enter 1 ∷ exit 1 19 21 ∷ enter 12 ∷ enter 45 ∷ enter 47 ∷ enter 0 ∷ enter 0 ∷ exit 0 21 22 ∷ exit 0 21 22 ∷ enter 48 ∷ enter 5 ∷ exit 5 22 23 ∷ exit 48 22 23 ∷ enter 0 ∷ enter 0 ∷ exit 0 23 24 ∷ exit 0 23 24 ∷ exit 47 21 24 ∷ enter 0 ∷ enter 0 ∷ exit 0 24 25 ∷ enter 52 ∷ enter 5 ∷ exit 5 25 26 ∷ exit 52 25 26 ∷ enter 0 ∷ exit 0 26 27 ∷ exit 0 24 27 ∷ exit 45 21 27 ∷ exit 12 21 27 ∷ exit 23 0 27 ∷ exit 22 0 27 ∷ []) ("<ul>\n<li>\n<p><a href=\"d\">a</a></p>\n</li>\n</ul>" ∷ []))
unfolding running
v20 = tt

v21 : T (shows (off Lf) ("a\n[a]: b" ∷ []) (enter 12 ∷ enter 5 ∷ exit 5 0 1 ∷ enter 3 ∷ exit 3 1 2 ∷ enter 5 ∷ exit 5 2 8 ∷ exit 12 0 8 ∷ []) ("<p>a\n[a]: b</p>" ∷ []))
unfolding running
v21 = tt

v22 : T (shows (off Lf) ("[a]: b\n# [a]" ∷ []) (enter 53 ∷ enter 0 ∷ enter 0 ∷ exit 0 0 1 ∷ enter 54 ∷ enter 5 ∷ exit 5 1 2 ∷ exit 54 1 2 ∷ enter 0 ∷ exit 0 2 3 ∷ exit 0 0 3 ∷ enter 0 ∷ exit 0 3 4 ∷ enter 1 ∷ exit 1 4 5 ∷ enter 0 ∷ enter 0 ∷ enter 55 ∷ enter 5 ∷ exit 5 5 6 ∷ exit 55 5 6 ∷ exit 0 5 6 ∷ exit 0 5 6 ∷ exit 53 0 6 ∷ enter 3 ∷ exit 3 6 7 ∷ enter 13 ∷ enter 14 ∷ exit 14 7 8 ∷ enter 1 ∷ exit 1 8 9 ∷ enter 15 ∷ enter 45 ∷ enter 47 ∷ enter 0 ∷ enter 0 ∷ exit 0 9 10 ∷ exit 0 9 10 ∷ enter 48 ∷ enter 5 ∷ exit 5 10 11 ∷ exit 48 10 11 ∷ enter 0 ∷ enter 0 ∷ exit 0 11 12 ∷ exit 0 11 12 ∷ exit 47 9 12 ∷ exit 45 9 12 ∷ exit 15 9 12 ∷ exit 13 7 12 ∷ []) ("<h1><a href=\"b\">a</a></h1>" ∷ []))
unfolding running
v22 = tt

v23 : T (shows (off Lf) ("[a]: b\n\n\n[a]" ∷ []) (enter 53 ∷ enter 0 ∷ enter 0 ∷ exit 0 0 1 ∷ enter 54 ∷ enter 5 ∷ exit 5 1 2 ∷ exit 54 1 2 ∷ enter 0 ∷ exit 0 2 3 ∷ exit 0 0 3 ∷ enter 0 ∷ exit 0 3 4 ∷ enter 1 ∷ exit 1 4 5 ∷ enter 0 ∷ enter 0 ∷ enter 55 ∷ enter 5 ∷ exit 5 5 6 ∷ exit 55 5 6 ∷ exit 0 5 6 ∷ exit 0 5 6 ∷ exit 53 0 6 ∷ enter 3 ∷ exit 3 6 7 ∷ enter 4 ∷ exit 4 7 8 ∷ enter 4 ∷ exit 4 8 9 ∷ enter 12 ∷ enter 45 ∷ enter 47 ∷ enter 0 ∷ enter 0 ∷ exit 0 9 10 ∷ exit 0 9 10 ∷ enter 48 ∷ enter 5 ∷ exit 5 10 11 ∷ exit 48 10 11 ∷ enter 0 ∷ enter 0 ∷ exit 0 11 12 ∷ exit 0 11 12 ∷ exit 47 9 12 ∷ exit 45 9 12 ∷ exit 12 9 12 ∷ []) ("<p><a href=\"b\">a</a></p>" ∷ []))
unfolding running
v23 = tt

v24 : T (shows (off Lf) ("[a]: &quot;\\b&amp; '&lt;&quot;'\n\n[a]" ∷ []) (enter 53 ∷ enter 0 ∷ enter 0 ∷ exit 0 0 1 ∷ enter 54 ∷ enter 5 ∷ exit 5 1 2 ∷ exit 54 1 2 ∷ enter 0 ∷ exit 0 2 3 ∷ exit 0 0 3 ∷ enter 0 ∷ exit 0 3 4 ∷ enter 1 ∷ exit 1 4 5 ∷ enter 0 ∷ enter 0 ∷ enter 55 ∷ enter 7 ∷ enter 8 ∷ exit 8 5 6 ∷ enter 11 ∷ exit 11 6 10 ∷ enter 0 ∷ exit 0 10 11 ∷ exit 7 5 11 ∷ enter 5 ∷ exit 5 11 13 ∷ enter 7 ∷ enter 8 ∷ exit 8 13 14 ∷ enter 11 ∷ exit 11 14 17 ∷ enter 0 ∷ exit 0 17 18 ∷ exit 7 13 18 ∷ exit 55 5 18 ∷ exit 0 5 18 ∷ exit 0 5 18 ∷ enter 1 ∷ exit 1 18 19 ∷ enter 0 ∷ enter 0 ∷ exit 0 19 20 ∷ enter 56 ∷ enter 7 ∷ enter 8 ∷ exit 8 20 21 ∷ enter 11 ∷ exit 11 21 23 ∷ enter 0 ∷ exit 0 23 24 ∷ exit 7 20 24 ∷ enter 7 ∷ enter 8 ∷ exit 8 24 25 ∷ enter 11 ∷ exit 11 25 29 ∷ enter 0 ∷ exit 0 29 30 ∷ exit 7 24 30 ∷ exit 56 20 30 ∷ enter 0 ∷ exit 0 30 31 ∷ exit 0 19 31 ∷ exit 53 0 31 ∷ enter 3 ∷ exit 3 31 32 ∷ enter 4 ∷ exit 4 32 33 ∷ enter 12 ∷ enter 45 ∷ enter 47 ∷ enter 0 ∷ enter 0 ∷ exit 0 33 34 ∷ exit 0 33 34 ∷ enter 48 ∷ enter 5 ∷ exit 5 34 35 ∷ exit 48 34 35 ∷ enter 0 ∷ enter 0 ∷ exit 0 35 36 ∷ exit 0 35 36 ∷ exit 47 33 36 ∷ exit 45 33 36 ∷ exit 12 33 36 ∷ []) ("<p><a href=\"%22%5Cb&amp;\" title=\"&lt;&quot;\">a</a></p>" ∷ []))
unfolding running
v24 = tt

v25 : T (shows (off Lf) ("[*a*]\n\n[*a*]: b" ∷ []) (enter 12 ∷ enter 45 ∷ enter 47 ∷ enter 0 ∷ enter 0 ∷ exit 0 0 1 ∷ exit 0 0 1 ∷ enter 48 ∷ enter 39 ∷ enter 0 ∷ exit 0 1 2 ∷ enter 0 ∷ enter 5 ∷ exit 5 2 3 ∷ exit 0 2 3 ∷ enter 0 ∷ exit 0 3 4 ∷ exit 39 1 4 ∷ exit 48 1 4 ∷ enter 0 ∷ enter 0 ∷ exit 0 4 5 ∷ exit 0 4 5 ∷ exit 47 0 5 ∷ exit 45 0 5 ∷ exit 12 0 5 ∷ enter 3 ∷ exit 3 5 6 ∷ enter 4 ∷ exit 4 6 7 ∷ enter 53 ∷ enter 0 ∷ enter 0 ∷ exit 0 7 8 ∷ enter 54 ∷ enter 5 ∷ exit 5 8 11 ∷ exit 54 8 11 ∷ enter 0 ∷ exit 0 11 12 ∷ exit 0 7 12 ∷ enter 0 ∷ exit 0 12 13 ∷ enter 1 ∷ exit 1 13 14 ∷ enter 0 ∷ enter 0 ∷ enter 55 ∷ enter 5 ∷ exit 5 14 15 ∷ exit 55 14 15 ∷ exit 0 14 15 ∷ exit 0 14 15 ∷ exit 53 7 15 ∷ []) ("<p><a href=\"b\"><em>a</em></a></p>\n" ∷ []))
unfolding running
v25 = tt

v26 : T (shows (off Lf) ("[a`b`]\n\n[a`b`]: c" ∷ []) (enter 12 ∷ enter 45 ∷ enter 47 ∷ enter 0 ∷ enter 0 ∷ exit 0 0 1 ∷ exit 0 0 1 ∷ enter 48 ∷ enter 5 ∷ exit 5 1 2 ∷ enter 33 ∷ enter 0 ∷ exit 0 2 3 ∷ enter 34 ∷ exit 34 3 4 ∷ enter 0 ∷ exit 0 4 5 ∷ exit 33 2 5 ∷ exit 48 1 5 ∷ enter 0 ∷ enter 0 ∷ exit 0 5 6 ∷ exit 0 5 6 ∷ exit 47 0 6 ∷ exit 45 0 6 ∷ exit 12 0 6 ∷ enter 3 ∷ exit 3 6 7 ∷ enter 4 ∷ exit 4 7 8 ∷ enter 53 ∷ enter 0 ∷ enter 0 ∷ exit 0 8 9 ∷ enter 54 ∷ enter 5 ∷ exit 5 9 13 ∷ exit 54 9 13 ∷ enter 0 ∷ exit 0 13 14 ∷ exit 0 8 14 ∷ enter 0 ∷ exit 0 14 15 ∷ enter 1 ∷ exit 1 15 16 ∷ enter 0 ∷ enter 0 ∷ enter 55 ∷ enter 5 ∷ exit 5 16 17 ∷ exit 55 16 17 ∷ exit 0 16 17 ∷ exit 0 16 17 ∷ exit 53 8 17 ∷ []) ("<p><a href=\"c\">a<code>b</code></a></p>\n" ∷ []))
unfolding running
v26 = tt

v27 : T (shows (off Lf) ("[a][b][c]\n\n[b]: d\n[c]: e" ∷ []) (enter 12 ∷ enter 45 ∷ enter 47 ∷ enter 0 ∷ enter 0 ∷ exit 0 0 1 ∷ exit 0 0 1 ∷ enter 48 ∷ enter 5 ∷ exit 5 1 2 ∷ exit 48 1 2 ∷ enter 0 ∷ enter 0 ∷ exit 0 2 3 ∷ exit 0 2 3 ∷ exit 47 0 3 ∷ enter 0 ∷ enter 0 ∷ exit 0 3 4 ∷ enter 52 ∷ enter 5 ∷ exit 5 4 5 ∷ exit 52 4 5 ∷ enter 0 ∷ exit 0 5 6 ∷ exit 0 3 6 ∷ exit 45 0 6 ∷ enter 45 ∷ enter 47 ∷ enter 0 ∷ enter 0 ∷ exit 0 6 7 ∷ exit 0 6 7 ∷ enter 48 ∷ enter 5 ∷ exit 5 7 8 ∷ exit 48 7 8 ∷ enter 0 ∷ enter 0 ∷ exit 0 8 9 ∷ exit 0 8 9 ∷ exit 47 6 9 ∷ exit 45 6 9 ∷ exit 12 0 9 ∷ enter 3 ∷ exit 3 9 10 ∷ enter 4 ∷ exit 4 10 11 ∷ enter 53 ∷ enter 0 ∷ enter 0 ∷ exit 0 11 12 ∷ enter 54 ∷ enter 5 ∷ exit 5 12 13 ∷ exit 54 12 13 ∷ enter 0 ∷ exit 0 13 14 ∷ exit 0 11 14 ∷ enter 0 ∷ exit 0 14 15 ∷ enter 1 ∷ exit 1 15 16 ∷ enter 0 ∷ enter 0 ∷ enter 55 ∷ enter 5 ∷ exit 5 16 17 ∷ exit 55 16 17 ∷ exit 0 16 17 ∷ exit 0 16 17 ∷ exit 53 11 17 ∷ enter 3 ∷ exit 3 17 18 ∷ enter 53 ∷ enter 0 ∷ enter 0 ∷ exit 0 18 19 ∷ enter 54 ∷ enter 5 ∷ exit 5 19 20 ∷ exit 54 19 20 ∷ enter 0 ∷ exit 0 20 21 ∷ exit 0 18 21 ∷ enter 0 ∷ exit 0 21 22 ∷ enter 1 ∷ exit 1 22 23 ∷ enter 0 ∷ enter 0 ∷ enter 55 ∷ enter 5 ∷ exit 5 23 24 ∷ exit 55 23 24 ∷ exit 0 23 24 ∷ exit 0 23 24 ∷ exit 53 18 24 ∷ []) ("<p><a href=\"d\">a</a><a href=\"e\">c</a></p>\n" ∷ []))
unfolding running
v27 = tt

v28 : T (shows (off Lf) ("[a] [b]\n\n[a]: x\n[b]: y" ∷ []) (enter 12 ∷ enter 45 ∷ enter 47 ∷ enter 0 ∷ enter 0 ∷ exit 0 0 1 ∷ exit 0 0 1 ∷ enter 48 ∷ enter 5 ∷ exit 5 1 2 ∷ exit 48 1 2 ∷ enter 0 ∷ enter 0 ∷ exit 0 2 3 ∷ exit 0 2 3 ∷ exit 47 0 3 ∷ exit 45 0 3 ∷ enter 5 ∷ exit 5 3 4 ∷ enter 45 ∷ enter 47 ∷ enter 0 ∷ enter 0 ∷ exit 0 4 5 ∷ exit 0 4 5 ∷ enter 48 ∷ enter 5 ∷ exit 5 5 6 ∷ exit 48 5 6 ∷ enter 0 ∷ enter 0 ∷ exit 0 6 7 ∷ exit 0 6 7 ∷ exit 47 4 7 ∷ exit 45 4 7 ∷ exit 12 0 7 ∷ enter 3 ∷ exit 3 7 8 ∷ enter 4 ∷ exit 4 8 9 ∷ enter 53 ∷ enter 0 ∷ enter 0 ∷ exit 0 9 10 ∷ enter 54 ∷ enter 5 ∷ exit 5 10 11 ∷ exit 54 10 11 ∷ enter 0 ∷ exit 0 11 12 ∷ exit 0 9 12 ∷ enter 0 ∷ exit 0 12 13 ∷ enter 1 ∷ exit 1 13 14 ∷ enter 0 ∷ enter 0 ∷ enter 55 ∷ enter 5 ∷ exit 5 14 15 ∷ exit 55 14 15 ∷ exit 0 14 15 ∷ exit 0 14 15 ∷ exit 53 9 15 ∷ enter 3 ∷ exit 3 15 16 ∷ enter 53 ∷ enter 0 ∷ enter 0 ∷ exit 0 16 17 ∷ enter 54 ∷ enter 5 ∷ exit 5 17 18 ∷ exit 54 17 18 ∷ enter 0 ∷ exit 0 18 19 ∷ exit 0 16 19 ∷ enter 0 ∷ exit 0 19 20 ∷ enter 1 ∷ exit 1 20 21 ∷ enter 0 ∷ enter 0 ∷ enter 55 ∷ enter 5 ∷ exit 5 21 22 ∷ exit 55 21 22 ∷ exit 0 21 22 ∷ exit 0 21 22 ∷ exit 53 16 22 ∷ []) ("<p><a href=\"x\">a</a> <a href=\"y\">b</a></p>\n" ∷ []))
unfolding running
v28 = tt

v29 : T (shows (off Lf) ("[![a](b) c]\n\n[![a](b) c]: d" ∷ []) (enter 12 ∷ enter 5 ∷ exit 5 0 1 ∷ enter 46 ∷ enter 47 ∷ enter 0 ∷ enter 0 ∷ exit 0 1 2 ∷ enter 0 ∷ exit 0 2 3 ∷ exit 0 1 3 ∷ enter 48 ∷ enter 5 ∷ exit 5 3 4 ∷ exit 48 3 4 ∷ enter 0 ∷ enter 0 ∷ exit 0 4 5 ∷ exit 0 4 5 ∷ exit 47 1 5 ∷ enter 49 ∷ enter 0 ∷ exit 0 5 6 ∷ enter 0 ∷ enter 0 ∷ enter 50 ∷ enter 5 ∷ exit 5 6 7 ∷ exit 50 6 7 ∷ exit 0 6 7 ∷ exit 0 6 7 ∷ enter 0 ∷ exit 0 7 8 ∷ exit 49 5 8 ∷ exit 46 1 8 ∷ enter 5 ∷ exit 5 8 11 ∷ exit 12 0 11 ∷ enter 3 ∷ exit 3 11 12 ∷ enter 4 ∷ exit 4 12 13 ∷ enter 12 ∷ enter 5 ∷ exit 5 13 14 ∷ enter 46 ∷ enter 47 ∷ enter 0 ∷ enter 0 ∷ exit 0 14 15 ∷ enter 0 ∷ exit 0 15 16 ∷ exit 0 14 16 ∷ enter 48 ∷ enter 5 ∷ exit 5 16 17 ∷ exit 48 16 17 ∷ enter 0 ∷ enter 0 ∷ exit 0 17 18 ∷ exit 0 17 18 ∷ exit 47 14 18 ∷ enter 49 ∷ enter 0 ∷ exit 0 18 19 ∷ enter 0 ∷ enter 0 ∷ enter 50 ∷ enter 5 ∷ exit 5 19 20 ∷ exit 50 19 20 ∷ exit 0 19 20 ∷ exit 0 19 20 ∷ enter 0 ∷ exit 0 20 21 ∷ exit 49 18 21 ∷ exit 46 14 21 ∷ enter 5 ∷ exit 5 21 27 ∷ exit 12 13 27 ∷ []) ("<p>[<img src=\"b\" alt=\"a\" /> c]</p>\n<p>[<img src=\"b\" alt=\"a\" /> c]: d</p>" ∷ []))
unfolding running
v29 = tt

v30 : T (shows (off Lf) ("![![a](b) c]\n\n[![a](b) c]: d" ∷ []) (enter 12 ∷ enter 5 ∷ exit 5 0 2 ∷ enter 46 ∷ enter 47 ∷ enter 0 ∷ enter 0 ∷ exit 0 2 3 ∷ enter 0 ∷ exit 0 3 4 ∷ exit 0 2 4 ∷ enter 48 ∷ enter 5 ∷ exit 5 4 5 ∷ exit 48 4 5 ∷ enter 0 ∷ enter 0 ∷ exit 0 5 6 ∷ exit 0 5 6 ∷ exit 47 2 6 ∷ enter 49 ∷ enter 0 ∷ exit 0 6 7 ∷ enter 0 ∷ enter 0 ∷ enter 50 ∷ enter 5 ∷ exit 5 7 8 ∷ exit 50 7 8 ∷ exit 0 7 8 ∷ exit 0 7 8 ∷ enter 0 ∷ exit 0 8 9 ∷ exit 49 6 9 ∷ exit 46 2 9 ∷ enter 5 ∷ exit 5 9 12 ∷ exit 12 0 12 ∷ enter 3 ∷ exit 3 12 13 ∷ enter 4 ∷ exit 4 13 14 ∷ enter 12 ∷ enter 5 ∷ exit 5 14 15 ∷ enter 46 ∷ enter 47 ∷ enter 0 ∷ enter 0 ∷ exit 0 15 16 ∷ enter 0 ∷ exit 0 16 17 ∷ exit 0 15 17 ∷ enter 48 ∷ enter 5 ∷ exit 5 17 18 ∷ exit 48 17 18 ∷ enter 0 ∷ enter 0 ∷ exit 0 18 19 ∷ exit 0 18 19 ∷ exit 47 15 19 ∷ enter 49 ∷ enter 0 ∷ exit 0 19 20 ∷ enter 0 ∷ enter 0 ∷ enter 50 ∷ enter 5 ∷ exit 5 20 21 ∷ exit 50 20 21 ∷ exit 0 20 21 ∷ exit 0 20 21 ∷ enter 0 ∷ exit 0 21 22 ∷ exit 49 19 22 ∷ exit 46 15 22 ∷ enter 5 ∷ exit 5 22 28 ∷ exit 12 14 28 ∷ []) ("<p>![<img src=\"b\" alt=\"a\" /> c]</p>\n<p>[<img src=\"b\" alt=\"a\" /> c]: d</p>" ∷ []))
unfolding running
v30 = tt

v31 : T (shows (off Lf) ("![[a](b) c]\n\n[[a](b) c]: d" ∷ []) (enter 12 ∷ enter 5 ∷ exit 5 0 2 ∷ enter 45 ∷ enter 47 ∷ enter 0 ∷ enter 0 ∷ exit 0 2 3 ∷ exit 0 2 3 ∷ enter 48 ∷ enter 5 ∷ exit 5 3 4 ∷ exit 48 3 4 ∷ enter 0 ∷ enter 0 ∷ exit 0 4 5 ∷ exit 0 4 5 ∷ exit 47 2 5 ∷ enter 49 ∷ enter 0 ∷ exit 0 5 6 ∷ enter 0 ∷ enter 0 ∷ enter 50 ∷ enter 5 ∷ exit 5 6 7 ∷ exit 50 6 7 ∷ exit 0 6 7 ∷ exit 0 6 7 ∷ enter 0 ∷ exit 0 7 8 ∷ exit 49 5 8 ∷ exit 45 2 8 ∷ enter 5 ∷ exit 5 8 11 ∷ exit 12 0 11 ∷ enter 3 ∷ exit 3 11 12 ∷ enter 4 ∷ exit 4 12 13 ∷ enter 12 ∷ enter 5 ∷ exit 5 13 14 ∷ enter 45 ∷ enter 47 ∷ enter 0 ∷ enter 0 ∷ exit 0 14 15 ∷ exit 0 14 15 ∷ enter 48 ∷ enter 5 ∷ exit 5 15 16 ∷ exit 48 15 16 ∷ enter 0 ∷ enter 0 ∷ exit 0 16 17 ∷ exit 0 16 17 ∷ exit 47 14 17 ∷ enter 49 ∷ enter 0 ∷ exit 0 17 18 ∷ enter 0 ∷ enter 0 ∷ enter 50 ∷ enter 5 ∷ exit 5 18 19 ∷ exit 50 18 19 ∷ exit 0 18 19 ∷ exit 0 18 19 ∷ enter 0 ∷ exit 0 19 20 ∷ exit 49 17 20 ∷ exit 45 14 20 ∷ enter 5 ∷ exit 5 20 26 ∷ exit 12 13 26 ∷ []) ("<p>![<a href=\"b\">a</a> c]</p>\n<p>[<a href=\"b\">a</a> c]: d</p>" ∷ []))
unfolding running
v31 = tt

v32 : T (shows (off Lf) ("[![a](b) c][]\n\n[![a](b) c]: d" ∷ []) (enter 12 ∷ enter 5 ∷ exit 5 0 1 ∷ enter 46 ∷ enter 47 ∷ enter 0 ∷ enter 0 ∷ exit 0 1 2 ∷ enter 0 ∷ exit 0 2 3 ∷ exit 0 1 3 ∷ enter 48 ∷ enter 5 ∷ exit 5 3 4 ∷ exit 48 3 4 ∷ enter 0 ∷ enter 0 ∷ exit 0 4 5 ∷ exit 0 4 5 ∷ exit 47 1 5 ∷ enter 49 ∷ enter 0 ∷ exit 0 5 6 ∷ enter 0 ∷ enter 0 ∷ enter 50 ∷ enter 5 ∷ exit 5 6 7 ∷ exit 50 6 7 ∷ exit 0 6 7 ∷ exit 0 6 7 ∷ enter 0 ∷ exit 0 7 8 ∷ exit 49 5 8 ∷ exit 46 1 8 ∷ enter 5 ∷ exit 5 8 13 ∷ exit 12 0 13 ∷ enter 3 ∷ exit 3 13 14 ∷ enter 4 ∷ exit 4 14 15 ∷ enter 12 ∷ enter 5 ∷ exit 5 15 16 ∷ enter 46 ∷ enter 47 ∷ enter 0 ∷ enter 0 ∷ exit 0 16 17 ∷ enter 0 ∷ exit 0 17 18 ∷ exit 0 16 18 ∷ enter 48 ∷ enter 5 ∷ exit 5 18 19 ∷ exit 48 18 19 ∷ enter 0 ∷ enter 0 ∷ exit 0 19 20 ∷ exit 0 19 20 ∷ exit 47 16 20 ∷ enter 49 ∷ enter 0 ∷ exit 0 20 21 ∷ enter 0 ∷ enter 0 ∷ enter 50 ∷ enter 5 ∷ exit 5 21 22 ∷ exit 50 21 22 ∷ exit 0 21 22 ∷ exit 0 21 22 ∷ enter 0 ∷ exit 0 22 23 ∷ exit 49 20 23 ∷ exit 46 16 23 ∷ enter 5 ∷ exit 5 23 29 ∷ exit 12 15 29 ∷ []) ("<p>[<img src=\"b\" alt=\"a\" /> c][]</p>\n<p>[<img src=\"b\" alt=\"a\" /> c]: d</p>" ∷ []))
unfolding running
v32 = tt

v33 : T (shows (off Lf) ("[a [^b] c]\n\n[a [^b] c]: d\n[^b]: e" ∷ []) (enter 12 ∷ enter 5 ∷ exit 5 0 3 ∷ enter 62 ∷ enter 47 ∷ enter 0 ∷ enter 0 ∷ exit 0 3 4 ∷ enter 0 ∷ exit 0 4 5 ∷ exit 0 3 5 ∷ enter 48 ∷ enter 5 ∷ exit 5 5 6 ∷ exit 48 5 6 ∷ enter 0 ∷ enter 0 ∷ exit 0 6 7 ∷ exit 0 6 7 ∷ exit 47 3 7 ∷ exit 62 3 7 ∷ enter 5 ∷ exit 5 7 10 ∷ exit 12 0 10 ∷ enter 3 ∷ exit 3 10 11 ∷ enter 4 ∷ exit 4 11 12 ∷ enter 12 ∷ enter 5 ∷ exit 5 12 15 ∷ enter 62 ∷ enter 47 ∷ enter 0 ∷ enter 0 ∷ exit 0 15 16 ∷ enter 0 ∷ exit 0 16 17 ∷ exit 0 15 17 ∷ enter 48 ∷ enter 5 ∷ exit 5 17 18 ∷ exit 48 17 18 ∷ enter 0 ∷ enter 0 ∷ exit 0 18 19 ∷ exit 0 18 19 ∷ exit 47 15 19 ∷ exit 62 15 19 ∷ enter 5 ∷ exit 5 19 25 ∷ exit 12 12 25 ∷ enter 3 ∷ exit 3 25 26 ∷ enter 63 ∷ enter 64 ∷ enter 0 ∷ enter 0 ∷ exit 0 26 27 ∷ enter 0 ∷ exit 0 27 28 ∷ enter 65 ∷ enter 5 ∷ exit 5 28 29 ∷ exit 65 28 29 ∷ enter 0 ∷ exit 0 29 30 ∷ exit 0 26 30 ∷ enter 0 ∷ exit 0 30 31 ∷ enter 1 ∷ exit 1 31 32 ∷ exit 64 26 32 ∷ enter 12 ∷ enter 5 ∷ exit 5 32 33 ∷ exit 12 32 33 ∷ exit 63 26 33 ∷ []) ("<p>[a <sup><a href=\"#user-content-fn-b\" id=\"user-content-fnref-b\" data-footnote-ref=\"\" aria-describedby=\"footnote-label\">1</a></sup> c]</p>\n<p>[a <sup><a href=\"#user-content-fn-b\" id=\"user-content-fnr" ∷ "ef-b-2\" data-footnote-ref=\"\" aria-describedby=\"footnote-label\">1</a></sup> c]: d</p>\n<section data-footnotes=\"\" class=\"footnotes\"><h2 id=\"footnote-label\" class=\"sr-only\">Footnotes</h2>\n<ol>\n<li id=\"us" ∷ "er-content-fn-b\">\n<p>e <a href=\"#user-content-fnref-b\" data-footnote-backref=\"\" aria-label=\"Back to content\" class=\"data-footnote-backref\">â\u{86}©</a> <a href=\"#user-content-fnref-b-2\" data-footnote-backr" ∷ "ef=\"\" aria-label=\"Back to content\" class=\"data-footnote-backref\">â\u{86}©<sup>2</sup></a></p>\n</li>\n</ol>\n</section>\n" ∷ []))
unfolding running
v33 = tt

v34 : T (shows (off Lf) ("[a]: javascript:b\n\n[a] ![a]" ∷ []) (enter 53 ∷ enter 0 ∷ enter 0 ∷ exit 0 0 1 ∷ enter 54 ∷ enter 5 ∷ exit 5 1 2 ∷ exit 54 1 2 ∷ enter 0 ∷ exit 0 2 3 ∷ exit 0 0 3 ∷ enter 0 ∷ exit 0 3 4 ∷ enter 1 ∷ exit 1 4 5 ∷ enter 0 ∷ enter 0 ∷ enter 55 ∷ enter 5 ∷ exit 5 5 17 ∷ exit 55 5 17 ∷ exit 0 5 17 ∷ exit 0 5 17 ∷ exit 53 0 17 ∷ enter 3 ∷ exit 3 17 18 ∷ enter 4 ∷ exit 4 18 19 ∷ enter 12 ∷ enter 45 ∷ enter 47 ∷ enter 0 ∷ enter 0 ∷ exit 0 19 20 ∷ exit 0 19 20 ∷ enter 48 ∷ enter 5 ∷ exit 5 20 21 ∷ exit 48 20 21 ∷ enter 0 ∷ enter 0 ∷ exit 0 21 22 ∷ exit 0 21 22 ∷ exit 47 19 22 ∷ exit 45 19 22 ∷ enter 5 ∷ exit 5 22 23 ∷ enter 46 ∷ enter 47 ∷ enter 0 ∷ enter 0 ∷ exit 0 23 24 ∷ enter 0 ∷ exit 0 24 25 ∷ exit 0 23 25 ∷ enter 48 ∷ enter 5 ∷ exit 5 25 26 ∷ exit 48 25 26 ∷ enter 0 ∷ enter 0 ∷ exit 0 26 27 ∷ exit 0 26 27 ∷ exit 47 23 27 ∷ exit 46 23 27 ∷ exit 12 19 27 ∷ []) ("<p><a href=\"\">a</a> <img src=\"\" alt=\"a\" /></p>" ∷ []))
unfolding running
v34 = tt

v35 : T (shows (protocol Lf) ("[a]: javascript:b\n\n[a] ![a]" ∷ []) (enter 53 ∷ enter 0 ∷ enter 0 ∷ exit 0 0 1 ∷ enter 54 ∷ enter 5 ∷ exit 5 1 2 ∷ exit 54 1 2 ∷ enter 0 ∷ exit 0 2 3 ∷ exit 0 0 3 ∷ enter 0 ∷ exit 0 3 4 ∷ enter 1 ∷ exit 1 4 5 ∷ enter 0 ∷ enter 0 ∷ enter 55 ∷ enter 5 ∷ exit 5 5 17 ∷ exit 55 5 17 ∷ exit 0 5 17 ∷ exit 0 5 17 ∷ exit 53 0 17 ∷ enter 3 ∷ exit 3 17 18 ∷ enter 4 ∷ exit 4 18 19 ∷ enter 12 ∷ enter 45 ∷ enter 47 ∷ enter 0 ∷ enter 0 ∷ exit 0 19 20 ∷ exit 0 19 20 ∷ enter 48 ∷ enter 5 ∷ exit 5 20 21 ∷ exit 48 20 21 ∷ enter 0 ∷ enter 0 ∷ exit 0 21 22 ∷ exit 0 21 22 ∷ exit 47 19 22 ∷ exit 45 19 22 ∷ enter 5 ∷ exit 5 22 23 ∷ enter 46 ∷ enter 47 ∷ enter 0 ∷ enter 0 ∷ exit 0 23 24 ∷ enter 0 ∷ exit 0 24 25 ∷ exit 0 23 25 ∷ enter 48 ∷ enter 5 ∷ exit 5 25 26 ∷ exit 48 25 26 ∷ enter 0 ∷ enter 0 ∷ exit 0 26 27 ∷ exit 0 26 27 ∷ exit 47 23 27 ∷ exit 46 23 27 ∷ exit 12 19 27 ∷ []) ("<p><a href=\"javascript:b\">a</a> <img src=\"javascript:b\" alt=\"a\" /></p>" ∷ []))
unfolding running
v35 = tt

v36 : T (shows (images Lf) ("[a]: javascript:b\n\n[a] ![a]" ∷ []) (enter 53 ∷ enter 0 ∷ enter 0 ∷ exit 0 0 1 ∷ enter 54 ∷ enter 5 ∷ exit 5 1 2 ∷ exit 54 1 2 ∷ enter 0 ∷ exit 0 2 3 ∷ exit 0 0 3 ∷ enter 0 ∷ exit 0 3 4 ∷ enter 1 ∷ exit 1 4 5 ∷ enter 0 ∷ enter 0 ∷ enter 55 ∷ enter 5 ∷ exit 5 5 17 ∷ exit 55 5 17 ∷ exit 0 5 17 ∷ exit 0 5 17 ∷ exit 53 0 17 ∷ enter 3 ∷ exit 3 17 18 ∷ enter 4 ∷ exit 4 18 19 ∷ enter 12 ∷ enter 45 ∷ enter 47 ∷ enter 0 ∷ enter 0 ∷ exit 0 19 20 ∷ exit 0 19 20 ∷ enter 48 ∷ enter 5 ∷ exit 5 20 21 ∷ exit 48 20 21 ∷ enter 0 ∷ enter 0 ∷ exit 0 21 22 ∷ exit 0 21 22 ∷ exit 47 19 22 ∷ exit 45 19 22 ∷ enter 5 ∷ exit 5 22 23 ∷ enter 46 ∷ enter 47 ∷ enter 0 ∷ enter 0 ∷ exit 0 23 24 ∷ enter 0 ∷ exit 0 24 25 ∷ exit 0 23 25 ∷ enter 48 ∷ enter 5 ∷ exit 5 25 26 ∷ exit 48 25 26 ∷ enter 0 ∷ enter 0 ∷ exit 0 26 27 ∷ exit 0 26 27 ∷ exit 47 23 27 ∷ exit 46 23 27 ∷ exit 12 19 27 ∷ []) ("<p><a href=\"\">a</a> <img src=\"javascript:b\" alt=\"a\" /></p>" ∷ []))
unfolding running
v36 = tt

v37 : T (shows (on Lf) ("[a]: javascript:b\n\n[a] ![a]" ∷ []) (enter 53 ∷ enter 0 ∷ enter 0 ∷ exit 0 0 1 ∷ enter 54 ∷ enter 5 ∷ exit 5 1 2 ∷ exit 54 1 2 ∷ enter 0 ∷ exit 0 2 3 ∷ exit 0 0 3 ∷ enter 0 ∷ exit 0 3 4 ∷ enter 1 ∷ exit 1 4 5 ∷ enter 0 ∷ enter 0 ∷ enter 55 ∷ enter 5 ∷ exit 5 5 17 ∷ exit 55 5 17 ∷ exit 0 5 17 ∷ exit 0 5 17 ∷ exit 53 0 17 ∷ enter 3 ∷ exit 3 17 18 ∷ enter 4 ∷ exit 4 18 19 ∷ enter 12 ∷ enter 45 ∷ enter 47 ∷ enter 0 ∷ enter 0 ∷ exit 0 19 20 ∷ exit 0 19 20 ∷ enter 48 ∷ enter 5 ∷ exit 5 20 21 ∷ exit 48 20 21 ∷ enter 0 ∷ enter 0 ∷ exit 0 21 22 ∷ exit 0 21 22 ∷ exit 47 19 22 ∷ exit 45 19 22 ∷ enter 5 ∷ exit 5 22 23 ∷ enter 46 ∷ enter 47 ∷ enter 0 ∷ enter 0 ∷ exit 0 23 24 ∷ enter 0 ∷ exit 0 24 25 ∷ exit 0 23 25 ∷ enter 48 ∷ enter 5 ∷ exit 5 25 26 ∷ exit 48 25 26 ∷ enter 0 ∷ enter 0 ∷ exit 0 26 27 ∷ exit 0 26 27 ∷ exit 47 23 27 ∷ exit 46 23 27 ∷ exit 12 19 27 ∷ []) ("<p><a href=\"javascript:b\">a</a> <img src=\"javascript:b\" alt=\"a\" /></p>" ∷ []))
unfolding running
v37 = tt

v38 : T (shows (off Lf) ("[a]: b\r\n[c]: d\r\n\r\n[a][c]" ∷ []) (enter 53 ∷ enter 0 ∷ enter 0 ∷ exit 0 0 1 ∷ enter 54 ∷ enter 5 ∷ exit 5 1 2 ∷ exit 54 1 2 ∷ enter 0 ∷ exit 0 2 3 ∷ exit 0 0 3 ∷ enter 0 ∷ exit 0 3 4 ∷ enter 1 ∷ exit 1 4 5 ∷ enter 0 ∷ enter 0 ∷ enter 55 ∷ enter 5 ∷ exit 5 5 6 ∷ exit 55 5 6 ∷ exit 0 5 6 ∷ exit 0 5 6 ∷ exit 53 0 6 ∷ enter 3 ∷ exit 3 6 8 ∷ enter 53 ∷ enter 0 ∷ enter 0 ∷ exit 0 8 9 ∷ enter 54 ∷ enter 5 ∷ exit 5 9 10 ∷ exit 54 9 10 ∷ enter 0 ∷ exit 0 10 11 ∷ exit 0 8 11 ∷ enter 0 ∷ exit 0 11 12 ∷ enter 1 ∷ exit 1 12 13 ∷ enter 0 ∷ enter 0 ∷ enter 55 ∷ enter 5 ∷ exit 5 13 14 ∷ exit 55 13 14 ∷ exit 0 13 14 ∷ exit 0 13 14 ∷ exit 53 8 14 ∷ enter 3 ∷ exit 3 14 16 ∷ enter 4 ∷ exit 4 16 18 ∷ enter 12 ∷ enter 45 ∷ enter 47 ∷ enter 0 ∷ enter 0 ∷ exit 0 18 19 ∷ exit 0 18 19 ∷ enter 48 ∷ enter 5 ∷ exit 5 19 20 ∷ exit 48 19 20 ∷ enter 0 ∷ enter 0 ∷ exit 0 20 21 ∷ exit 0 20 21 ∷ exit 47 18 21 ∷ enter 0 ∷ enter 0 ∷ exit 0 21 22 ∷ enter 52 ∷ enter 5 ∷ exit 5 22 23 ∷ exit 52 22 23 ∷ enter 0 ∷ exit 0 23 24 ∷ exit 0 21 24 ∷ exit 45 18 24 ∷ exit 12 18 24 ∷ []) ("<p><a href=\"d\">a</a></p>" ∷ []))
unfolding running
v38 = tt

v39 : T (shows (off Lf) ("[a]: b\n\n[a]: c\n\n[a] x [A][]" ∷ []) (enter 53 ∷ enter 0 ∷ enter 0 ∷ exit 0 0 1 ∷ enter 54 ∷ enter 5 ∷ exit 5 1 2 ∷ exit 54 1 2 ∷ enter 0 ∷ exit 0 2 3 ∷ exit 0 0 3 ∷ enter 0 ∷ exit 0 3 4 ∷ enter 1 ∷ exit 1 4 5 ∷ enter 0 ∷ enter 0 ∷ enter 55 ∷ enter 5 ∷ exit 5 5 6 ∷ exit 55 5 6 ∷ exit 0 5 6 ∷ exit 0 5 6 ∷ exit 53 0 6 ∷ enter 3 ∷ exit 3 6 7 ∷ enter 4 ∷ exit 4 7 8 ∷ enter 53 ∷ enter 0 ∷ enter 0 ∷ exit 0 8 9 ∷ enter 54 ∷ enter 5 ∷ exit 5 9 10 ∷ exit 54 9 10 ∷ enter 0 ∷ exit 0 10 11 ∷ exit 0 8 11 ∷ enter 0 ∷ exit 0 11 12 ∷ enter 1 ∷ exit 1 12 13 ∷ enter 0 ∷ enter 0 ∷ enter 55 ∷ enter 5 ∷ exit 5 13 14 ∷ exit 55 13 14 ∷ exit 0 13 14 ∷ exit 0 13 14 ∷ exit 53 8 14 ∷ enter 3 ∷ exit 3 14 15 ∷ enter 4 ∷ exit 4 15 16 ∷ enter 12 ∷ enter 45 ∷ enter 47 ∷ enter 0 ∷ enter 0 ∷ exit 0 16 17 ∷ exit 0 16 17 ∷ enter 48 ∷ enter 5 ∷ exit 5 17 18 ∷ exit 48 17 18 ∷ enter 0 ∷ enter 0 ∷ exit 0 18 19 ∷ exit 0 18 19 ∷ exit 47 16 19 ∷ exit 45 16 19 ∷ enter 5 ∷ exit 5 19 22 ∷ enter 45 ∷ enter 47 ∷ enter 0 ∷ enter 0 ∷ exit 0 22 23 ∷ exit 0 22 23 ∷ enter 48 ∷ enter 5 ∷ exit 5 23 24 ∷ exit 48 23 24 ∷ enter 0 ∷ enter 0 ∷ exit 0 24 25 ∷ exit 0 24 25 ∷ exit 47 22 25 ∷ enter 0 ∷ enter 0 ∷ exit 0 25 26 ∷ enter 0 ∷ exit 0 26 27 ∷ exit 0 25 27 ∷ exit 45 22 27 ∷ exit 12 16 27 ∷ []) ("<p><a href=\"b\">a</a> x <a href=\"b\">A</a></p>" ∷ []))
unfolding running
v39 = tt

v40 : T (shows (off Lf) ("[a]\n\n[a]: b\n" ∷ []) (enter 12 ∷ enter 45 ∷ enter 47 ∷ enter 0 ∷ enter 0 ∷ exit 0 0 1 ∷ exit 0 0 1 ∷ enter 48 ∷ enter 5 ∷ exit 5 1 2 ∷ exit 48 1 2 ∷ enter 0 ∷ enter 0 ∷ exit 0 2 3 ∷ exit 0 2 3 ∷ exit 47 0 3 ∷ exit 45 0 3 ∷ exit 12 0 3 ∷ enter 3 ∷ exit 3 3 4 ∷ enter 4 ∷ exit 4 4 5 ∷ enter 53 ∷ enter 0 ∷ enter 0 ∷ exit 0 5 6 ∷ enter 54 ∷ enter 5 ∷ exit 5 6 7 ∷ exit 54 6 7 ∷ enter 0 ∷ exit 0 7 8 ∷ exit 0 5 8 ∷ enter 0 ∷ exit 0 8 9 ∷ enter 1 ∷ exit 1 9 10 ∷ enter 0 ∷ enter 0 ∷ enter 55 ∷ enter 5 ∷ exit 5 10 11 ∷ exit 55 10 11 ∷ exit 0 10 11 ∷ exit 0 10 11 ∷ exit 53 5 11 ∷ enter 3 ∷ exit 3 11 12 ∷ []) ("<p><a href=\"b\">a</a></p>\n" ∷ []))
unfolding running
v40 = tt

v41 : T (shows (off Lf) ("[a]\n\n[a]: b\n\n" ∷ []) (enter 12 ∷ enter 45 ∷ enter 47 ∷ enter 0 ∷ enter 0 ∷ exit 0 0 1 ∷ exit 0 0 1 ∷ enter 48 ∷ enter 5 ∷ exit 5 1 2 ∷ exit 48 1 2 ∷ enter 0 ∷ enter 0 ∷ exit 0 2 3 ∷ exit 0 2 3 ∷ exit 47 0 3 ∷ exit 45 0 3 ∷ exit 12 0 3 ∷ enter 3 ∷ exit 3 3 4 ∷ enter 4 ∷ exit 4 4 5 ∷ enter 53 ∷ enter 0 ∷ enter 0 ∷ exit 0 5 6 ∷ enter 54 ∷ enter 5 ∷ exit 5 6 7 ∷ exit 54 6 7 ∷ enter 0 ∷ exit 0 7 8 ∷ exit 0 5 8 ∷ enter 0 ∷ exit 0 8 9 ∷ enter 1 ∷ exit 1 9 10 ∷ enter 0 ∷ enter 0 ∷ enter 55 ∷ enter 5 ∷ exit 5 10 11 ∷ exit 55 10 11 ∷ exit 0 10 11 ∷ exit 0 10 11 ∷ exit 53 5 11 ∷ enter 3 ∷ exit 3 11 12 ∷ enter 4 ∷ exit 4 12 13 ∷ []) ("<p><a href=\"b\">a</a></p>\n" ∷ []))
unfolding running
v41 = tt

v42 : T (shows (off Lf) ("   [a]: b\n   [a]\n" ∷ []) (enter 53 ∷ enter 1 ∷ exit 1 0 3 ∷ enter 0 ∷ enter 0 ∷ exit 0 3 4 ∷ enter 54 ∷ enter 5 ∷ exit 5 4 5 ∷ exit 54 4 5 ∷ enter 0 ∷ exit 0 5 6 ∷ exit 0 3 6 ∷ enter 0 ∷ exit 0 6 7 ∷ enter 1 ∷ exit 1 7 8 ∷ enter 0 ∷ enter 0 ∷ enter 55 ∷ enter 5 ∷ exit 5 8 9 ∷ exit 55 8 9 ∷ exit 0 8 9 ∷ exit 0 8 9 ∷ exit 53 0 9 ∷ enter 3 ∷ exit 3 9 10 ∷ enter 12 ∷ enter 1 ∷ exit 1 10 13 ∷ enter 45 ∷ enter 47 ∷ enter 0 ∷ enter 0 ∷ exit 0 13 14 ∷ exit 0 13 14 ∷ enter 48 ∷ enter 5 ∷ exit 5 14 15 ∷ exit 48 14 15 ∷ enter 0 ∷ enter 0 ∷ exit 0 15 16 ∷ exit 0 15 16 ∷ exit 47 13 16 ∷ exit 45 13 16 ∷ exit 12 10 16 ∷ enter 3 ∷ exit 3 16 17 ∷ []) ("<p><a href=\"b\">a</a></p>\n" ∷ []))
unfolding running
v42 = tt

v43 : T (shows (off Lf) ("[a]: b 'c' d\n[a]" ∷ []) (enter 12 ∷ enter 5 ∷ exit 5 0 12 ∷ enter 3 ∷ exit 3 12 13 ∷ enter 5 ∷ exit 5 13 16 ∷ exit 12 0 16 ∷ []) ("<p>[a]: b 'c' d\n[a]</p>" ∷ []))
unfolding running
v43 = tt

v44 : T (shows (quoted Lf) ("[a]: b 'c' d\n[a]" ∷ []) (enter 12 ∷ enter 5 ∷ exit 5 0 12 ∷ enter 3 ∷ exit 3 12 13 ∷ enter 5 ∷ exit 5 13 16 ∷ exit 12 0 16 ∷ []) ("<p>[a]: b &#39;c&#39; d\n[a]</p>" ∷ []))
unfolding running
v44 = tt

v45 : T (shows (quoted_on Lf) ("[a]: b 'c' d\n[a]" ∷ []) (enter 12 ∷ enter 5 ∷ exit 5 0 12 ∷ enter 3 ∷ exit 3 12 13 ∷ enter 5 ∷ exit 5 13 16 ∷ exit 12 0 16 ∷ []) ("<p>[a]: b &#39;c&#39; d\n[a]</p>" ∷ []))
unfolding running
v45 = tt

v46 : T (shows (off Lf) ("[a]: b\n===\n[a]" ∷ []) (enter 53 ∷ enter 0 ∷ enter 0 ∷ exit 0 0 1 ∷ enter 54 ∷ enter 5 ∷ exit 5 1 2 ∷ exit 54 1 2 ∷ enter 0 ∷ exit 0 2 3 ∷ exit 0 0 3 ∷ enter 0 ∷ exit 0 3 4 ∷ enter 1 ∷ exit 1 4 5 ∷ enter 0 ∷ enter 0 ∷ enter 55 ∷ enter 5 ∷ exit 5 5 6 ∷ exit 55 5 6 ∷ exit 0 5 6 ∷ exit 0 5 6 ∷ exit 53 0 6 ∷ enter 3 ∷ exit 3 6 7 ∷ enter 12 ∷ enter 5 ∷ exit 5 7 10 ∷ enter 3 ∷ exit 3 10 11 ∷ enter 45 ∷ enter 47 ∷ enter 0 ∷ enter 0 ∷ exit 0 11 12 ∷ exit 0 11 12 ∷ enter 48 ∷ enter 5 ∷ exit 5 12 13 ∷ exit 48 12 13 ∷ enter 0 ∷ enter 0 ∷ exit 0 13 14 ∷ exit 0 13 14 ∷ exit 47 11 14 ∷ exit 45 11 14 ∷ exit 12 7 14 ∷ []) ("<p>===\n<a href=\"b\">a</a></p>" ∷ []))
unfolding running
v46 = tt

v47 : T (shows (off Lf) ("[a]: b\n'c'\n===\n[a]" ∷ []) (enter 53 ∷ enter 0 ∷ enter 0 ∷ exit 0 0 1 ∷ enter 54 ∷ enter 5 ∷ exit 5 1 2 ∷ exit 54 1 2 ∷ enter 0 ∷ exit 0 2 3 ∷ exit 0 0 3 ∷ enter 0 ∷ exit 0 3 4 ∷ enter 1 ∷ exit 1 4 5 ∷ enter 0 ∷ enter 0 ∷ enter 55 ∷ enter 5 ∷ exit 5 5 6 ∷ exit 55 5 6 ∷ exit 0 5 6 ∷ exit 0 5 6 ∷ enter 3 ∷ exit 3 6 7 ∷ enter 0 ∷ enter 0 ∷ exit 0 7 8 ∷ enter 56 ∷ enter 5 ∷ exit 5 8 9 ∷ exit 56 8 9 ∷ enter 0 ∷ exit 0 9 10 ∷ exit 0 7 10 ∷ exit 53 0 10 ∷ enter 3 ∷ exit 3 10 11 ∷ enter 12 ∷ enter 5 ∷ exit 5 11 14 ∷ enter 3 ∷ exit 3 14 15 ∷ enter 45 ∷ enter 47 ∷ enter 0 ∷ enter 0 ∷ exit 0 15 16 ∷ exit 0 15 16 ∷ enter 48 ∷ enter 5 ∷ exit 5 16 17 ∷ exit 48 16 17 ∷ enter 0 ∷ enter 0 ∷ exit 0 17 18 ∷ exit 0 17 18 ∷ exit 47 15 18 ∷ exit 45 15 18 ∷ exit 12 11 18 ∷ []) ("<p>===\n<a href=\"b\" title=\"c\">a</a></p>" ∷ []))
unfolding running
v47 = tt

v48 : T (shows (off Lf) ("![a]\n\n[a]: javascript:b" ∷ []) (enter 12 ∷ enter 46 ∷ enter 47 ∷ enter 0 ∷ enter 0 ∷ exit 0 0 1 ∷ enter 0 ∷ exit 0 1 2 ∷ exit 0 0 2 ∷ enter 48 ∷ enter 5 ∷ exit 5 2 3 ∷ exit 48 2 3 ∷ enter 0 ∷ enter 0 ∷ exit 0 3 4 ∷ exit 0 3 4 ∷ exit 47 0 4 ∷ exit 46 0 4 ∷ exit 12 0 4 ∷ enter 3 ∷ exit 3 4 5 ∷ enter 4 ∷ exit 4 5 6 ∷ enter 53 ∷ enter 0 ∷ enter 0 ∷ exit 0 6 7 ∷ enter 54 ∷ enter 5 ∷ exit 5 7 8 ∷ exit 54 7 8 ∷ enter 0 ∷ exit 0 8 9 ∷ exit 0 6 9 ∷ enter 0 ∷ exit 0 9 10 ∷ enter 1 ∷ exit 1 10 11 ∷ enter 0 ∷ enter 0 ∷ enter 55 ∷ enter 5 ∷ exit 5 11 23 ∷ exit 55 11 23 ∷ exit 0 11 23 ∷ exit 0 11 23 ∷ exit 53 6 23 ∷ []) ("<p><img src=\"\" alt=\"a\" /></p>\n" ∷ []))
unfolding running
v48 = tt

v49 : T (shows (protocol Lf) ("![a]\n\n[a]: javascript:b" ∷ []) (enter 12 ∷ enter 46 ∷ enter 47 ∷ enter 0 ∷ enter 0 ∷ exit 0 0 1 ∷ enter 0 ∷ exit 0 1 2 ∷ exit 0 0 2 ∷ enter 48 ∷ enter 5 ∷ exit 5 2 3 ∷ exit 48 2 3 ∷ enter 0 ∷ enter 0 ∷ exit 0 3 4 ∷ exit 0 3 4 ∷ exit 47 0 4 ∷ exit 46 0 4 ∷ exit 12 0 4 ∷ enter 3 ∷ exit 3 4 5 ∷ enter 4 ∷ exit 4 5 6 ∷ enter 53 ∷ enter 0 ∷ enter 0 ∷ exit 0 6 7 ∷ enter 54 ∷ enter 5 ∷ exit 5 7 8 ∷ exit 54 7 8 ∷ enter 0 ∷ exit 0 8 9 ∷ exit 0 6 9 ∷ enter 0 ∷ exit 0 9 10 ∷ enter 1 ∷ exit 1 10 11 ∷ enter 0 ∷ enter 0 ∷ enter 55 ∷ enter 5 ∷ exit 5 11 23 ∷ exit 55 11 23 ∷ exit 0 11 23 ∷ exit 0 11 23 ∷ exit 53 6 23 ∷ []) ("<p><img src=\"javascript:b\" alt=\"a\" /></p>\n" ∷ []))
unfolding running
v49 = tt

v50 : T (shows (images Lf) ("![a]\n\n[a]: javascript:b" ∷ []) (enter 12 ∷ enter 46 ∷ enter 47 ∷ enter 0 ∷ enter 0 ∷ exit 0 0 1 ∷ enter 0 ∷ exit 0 1 2 ∷ exit 0 0 2 ∷ enter 48 ∷ enter 5 ∷ exit 5 2 3 ∷ exit 48 2 3 ∷ enter 0 ∷ enter 0 ∷ exit 0 3 4 ∷ exit 0 3 4 ∷ exit 47 0 4 ∷ exit 46 0 4 ∷ exit 12 0 4 ∷ enter 3 ∷ exit 3 4 5 ∷ enter 4 ∷ exit 4 5 6 ∷ enter 53 ∷ enter 0 ∷ enter 0 ∷ exit 0 6 7 ∷ enter 54 ∷ enter 5 ∷ exit 5 7 8 ∷ exit 54 7 8 ∷ enter 0 ∷ exit 0 8 9 ∷ exit 0 6 9 ∷ enter 0 ∷ exit 0 9 10 ∷ enter 1 ∷ exit 1 10 11 ∷ enter 0 ∷ enter 0 ∷ enter 55 ∷ enter 5 ∷ exit 5 11 23 ∷ exit 55 11 23 ∷ exit 0 11 23 ∷ exit 0 11 23 ∷ exit 53 6 23 ∷ []) ("<p><img src=\"javascript:b\" alt=\"a\" /></p>\n" ∷ []))
unfolding running
v50 = tt

v51 : T (shows (on Lf) ("![a]\n\n[a]: javascript:b" ∷ []) (enter 12 ∷ enter 46 ∷ enter 47 ∷ enter 0 ∷ enter 0 ∷ exit 0 0 1 ∷ enter 0 ∷ exit 0 1 2 ∷ exit 0 0 2 ∷ enter 48 ∷ enter 5 ∷ exit 5 2 3 ∷ exit 48 2 3 ∷ enter 0 ∷ enter 0 ∷ exit 0 3 4 ∷ exit 0 3 4 ∷ exit 47 0 4 ∷ exit 46 0 4 ∷ exit 12 0 4 ∷ enter 3 ∷ exit 3 4 5 ∷ enter 4 ∷ exit 4 5 6 ∷ enter 53 ∷ enter 0 ∷ enter 0 ∷ exit 0 6 7 ∷ enter 54 ∷ enter 5 ∷ exit 5 7 8 ∷ exit 54 7 8 ∷ enter 0 ∷ exit 0 8 9 ∷ exit 0 6 9 ∷ enter 0 ∷ exit 0 9 10 ∷ enter 1 ∷ exit 1 10 11 ∷ enter 0 ∷ enter 0 ∷ enter 55 ∷ enter 5 ∷ exit 5 11 23 ∷ exit 55 11 23 ∷ exit 0 11 23 ∷ exit 0 11 23 ∷ exit 53 6 23 ∷ []) ("<p><img src=\"javascript:b\" alt=\"a\" /></p>\n" ∷ []))
unfolding running
v51 = tt

v52 : T (shows (off Lf) ("[a]\n\n[a]: b \"\"" ∷ []) (enter 12 ∷ enter 45 ∷ enter 47 ∷ enter 0 ∷ enter 0 ∷ exit 0 0 1 ∷ exit 0 0 1 ∷ enter 48 ∷ enter 5 ∷ exit 5 1 2 ∷ exit 48 1 2 ∷ enter 0 ∷ enter 0 ∷ exit 0 2 3 ∷ exit 0 2 3 ∷ exit 47 0 3 ∷ exit 45 0 3 ∷ exit 12 0 3 ∷ enter 3 ∷ exit 3 3 4 ∷ enter 4 ∷ exit 4 4 5 ∷ enter 53 ∷ enter 0 ∷ enter 0 ∷ exit 0 5 6 ∷ enter 54 ∷ enter 5 ∷ exit 5 6 7 ∷ exit 54 6 7 ∷ enter 0 ∷ exit 0 7 8 ∷ exit 0 5 8 ∷ enter 0 ∷ exit 0 8 9 ∷ enter 1 ∷ exit 1 9 10 ∷ enter 0 ∷ enter 0 ∷ enter 55 ∷ enter 5 ∷ exit 5 10 11 ∷ exit 55 10 11 ∷ exit 0 10 11 ∷ exit 0 10 11 ∷ enter 1 ∷ exit 1 11 12 ∷ enter 0 ∷ enter 0 ∷ exit 0 12 13 ∷ enter 0 ∷ exit 0 13 14 ∷ exit 0 12 14 ∷ exit 53 5 14 ∷ []) ("<p><a href=\"b\">a</a></p>\n" ∷ []))
unfolding running
v52 = tt

v53 : T (shows (off Lf) ("[a]: b \"c\"\n\n![a] [a] [A][a] [x](y)" ∷ []) (enter 53 ∷ enter 0 ∷ enter 0 ∷ exit 0 0 1 ∷ enter 54 ∷ enter 5 ∷ exit 5 1 2 ∷ exit 54 1 2 ∷ enter 0 ∷ exit 0 2 3 ∷ exit 0 0 3 ∷ enter 0 ∷ exit 0 3 4 ∷ enter 1 ∷ exit 1 4 5 ∷ enter 0 ∷ enter 0 ∷ enter 55 ∷ enter 5 ∷ exit 5 5 6 ∷ exit 55 5 6 ∷ exit 0 5 6 ∷ exit 0 5 6 ∷ enter 1 ∷ exit 1 6 7 ∷ enter 0 ∷ enter 0 ∷ exit 0 7 8 ∷ enter 56 ∷ enter 5 ∷ exit 5 8 9 ∷ exit 56 8 9 ∷ enter 0 ∷ exit 0 9 10 ∷ exit 0 7 10 ∷ exit 53 0 10 ∷ enter 3 ∷ exit 3 10 11 ∷ enter 4 ∷ exit 4 11 12 ∷ enter 12 ∷ enter 46 ∷ enter 47 ∷ enter 0 ∷ enter 0 ∷ exit 0 12 13 ∷ enter 0 ∷ exit 0 13 14 ∷ exit 0 12 14 ∷ enter 48 ∷ enter 5 ∷ exit 5 14 15 ∷ exit 48 14 15 ∷ enter 0 ∷ enter 0 ∷ exit 0 15 16 ∷ exit 0 15 16 ∷ exit 47 12 16 ∷ exit 46 12 16 ∷ enter 5 ∷ exit 5 16 17 ∷ enter 45 ∷ enter 47 ∷ enter 0 ∷ enter 0 ∷ exit 0 17 18 ∷ exit 0 17 18 ∷ enter 48 ∷ enter 5 ∷ exit 5 18 19 ∷ exit 48 18 19 ∷ enter 0 ∷ enter 0 ∷ exit 0 19 20 ∷ exit 0 19 20 ∷ exit 47 17 20 ∷ exit 45 17 20 ∷ enter 5 ∷ exit 5 20 21 ∷ enter 45 ∷ enter 47 ∷ enter 0 ∷ enter 0 ∷ exit 0 21 22 ∷ exit 0 21 22 ∷ enter 48 ∷ enter 5 ∷ exit 5 22 23 ∷ exit 48 22 23 ∷ enter 0 ∷ enter 0 ∷ exit 0 23 24 ∷ exit 0 23 24 ∷ exit 47 21 24 ∷ enter 0 ∷ enter 0 ∷ exit 0 24 25 ∷ enter 52 ∷ enter 5 ∷ exit 5 25 26 ∷ exit 52 25 26 ∷ enter 0 ∷ exit 0 26 27 ∷ exit 0 24 27 ∷ exit 45 21 27 ∷ enter 5 ∷ exit 5 27 28 ∷ enter 45 ∷ enter 47 ∷ enter 0 ∷ enter 0 ∷ exit 0 28 29 ∷ exit 0 28 29 ∷ enter 48 ∷ enter 5 ∷ exit 5 29 30 ∷ exit 48 29 30 ∷ enter 0 ∷ enter 0 ∷ exit 0 30 31 ∷ exit 0 30 31 ∷ exit 47 28 31 ∷ enter 49 ∷ enter 0 ∷ exit 0 31 32 ∷ enter 0 ∷ enter 0 ∷ enter 50 ∷ enter 5 ∷ exit 5 32 33 ∷ exit 50 32 33 ∷ exit 0 32 33 ∷ exit 0 32 33 ∷ enter 0 ∷ exit 0 33 34 ∷ exit 49 31 34 ∷ exit 45 28 34 ∷ exit 12 12 34 ∷ []) ("<p><img src=\"b\" alt=\"a\" title=\"c\" /> <a href=\"b\" title=\"c\">a</a> <a href=\"b\" title=\"c\">A</a> <a href=\"y\">x</a></p>" ∷ []))
unfolding running
v53 = tt

v54 : T (shows (off Lf) ("[a][b]\n\n[a]: c\n[b]: d" ∷ []) (enter 12 ∷ enter 45 ∷ enter 47 ∷ enter 0 ∷ enter 0 ∷ exit 0 0 1 ∷ exit 0 0 1 ∷ enter 48 ∷ enter 5 ∷ exit 5 1 2 ∷ exit 48 1 2 ∷ enter 0 ∷ enter 0 ∷ exit 0 2 3 ∷ exit 0 2 3 ∷ exit 47 0 3 ∷ enter 0 ∷ enter 0 ∷ exit 0 3 4 ∷ enter 52 ∷ enter 5 ∷ exit 5 4 5 ∷ exit 52 4 5 ∷ enter 0 ∷ exit 0 5 6 ∷ exit 0 3 6 ∷ exit 45 0 6 ∷ exit 12 0 6 ∷ enter 3 ∷ exit 3 6 7 ∷ enter 4 ∷ exit 4 7 8 ∷ enter 53 ∷ enter 0 ∷ enter 0 ∷ exit 0 8 9 ∷ enter 54 ∷ enter 5 ∷ exit 5 9 10 ∷ exit 54 9 10 ∷ enter 0 ∷ exit 0 10 11 ∷ exit 0 8 11 ∷ enter 0 ∷ exit 0 11 12 ∷ enter 1 ∷ exit 1 12 13 ∷ enter 0 ∷ enter 0 ∷ enter 55 ∷ enter 5 ∷ exit 5 13 14 ∷ exit 55 13 14 ∷ exit 0 13 14 ∷ exit 0 13 14 ∷ exit 53 8 14 ∷ enter 3 ∷ exit 3 14 15 ∷ enter 53 ∷ enter 0 ∷ enter 0 ∷ exit 0 15 16 ∷ enter 54 ∷ enter 5 ∷ exit 5 16 17 ∷ exit 54 16 17 ∷ enter 0 ∷ exit 0 17 18 ∷ exit 0 15 18 ∷ enter 0 ∷ exit 0 18 19 ∷ enter 1 ∷ exit 1 19 20 ∷ enter 0 ∷ enter 0 ∷ enter 55 ∷ enter 5 ∷ exit 5 20 21 ∷ exit 55 20 21 ∷ exit 0 20 21 ∷ exit 0 20 21 ∷ exit 53 15 21 ∷ []) ("<p><a href=\"d\">a</a></p>\n" ∷ []))
unfolding running
v54 = tt

v55 : T (shows (off Lf) ("[a]: b 'c'\n[a]: d 'e'\n\n[a]" ∷ []) (enter 53 ∷ enter 0 ∷ enter 0 ∷ exit 0 0 1 ∷ enter 54 ∷ enter 5 ∷ exit 5 1 2 ∷ exit 54 1 2 ∷ enter 0 ∷ exit 0 2 3 ∷ exit 0 0 3 ∷ enter 0 ∷ exit 0 3 4 ∷ enter 1 ∷ exit 1 4 5 ∷ enter 0 ∷ enter 0 ∷ enter 55 ∷ enter 5 ∷ exit 5 5 6 ∷ exit 55 5 6 ∷ exit 0 5 6 ∷ exit 0 5 6 ∷ enter 1 ∷ exit 1 6 7 ∷ enter 0 ∷ enter 0 ∷ exit 0 7 8 ∷ enter 56 ∷ enter 5 ∷ exit 5 8 9 ∷ exit 56 8 9 ∷ enter 0 ∷ exit 0 9 10 ∷ exit 0 7 10 ∷ exit 53 0 10 ∷ enter 3 ∷ exit 3 10 11 ∷ enter 53 ∷ enter 0 ∷ enter 0 ∷ exit 0 11 12 ∷ enter 54 ∷ enter 5 ∷ exit 5 12 13 ∷ exit 54 12 13 ∷ enter 0 ∷ exit 0 13 14 ∷ exit 0 11 14 ∷ enter 0 ∷ exit 0 14 15 ∷ enter 1 ∷ exit 1 15 16 ∷ enter 0 ∷ enter 0 ∷ enter 55 ∷ enter 5 ∷ exit 5 16 17 ∷ exit 55 16 17 ∷ exit 0 16 17 ∷ exit 0 16 17 ∷ enter 1 ∷ exit 1 17 18 ∷ enter 0 ∷ enter 0 ∷ exit 0 18 19 ∷ enter 56 ∷ enter 5 ∷ exit 5 19 20 ∷ exit 56 19 20 ∷ enter 0 ∷ exit 0 20 21 ∷ exit 0 18 21 ∷ exit 53 11 21 ∷ enter 3 ∷ exit 3 21 22 ∷ enter 4 ∷ exit 4 22 23 ∷ enter 12 ∷ enter 45 ∷ enter 47 ∷ enter 0 ∷ enter 0 ∷ exit 0 23 24 ∷ exit 0 23 24 ∷ enter 48 ∷ enter 5 ∷ exit 5 24 25 ∷ exit 48 24 25 ∷ enter 0 ∷ enter 0 ∷ exit 0 25 26 ∷ exit 0 25 26 ∷ exit 47 23 26 ∷ exit 45 23 26 ∷ exit 12 23 26 ∷ []) ("<p><a href=\"b\" title=\"c\">a</a></p>" ∷ []))
unfolding running
v55 = tt

v56 : T (shows (off Lf) ("- a\n\n  [a]: b\n\n  [c]: d\n\n  e\n- f" ∷ []) (enter_with 22 1 ∷ enter 23 ∷ enter 24 ∷ enter 25 ∷ exit 25 0 1 ∷ enter 1 ∷ exit 1 1 2 ∷ exit 24 0 2 ∷ enter 12 ∷ enter 5 ∷ exit 5 2 3 ∷ exit 12 2 3 ∷ enter 3 ∷ exit 3 3 4 ∷ enter 4 ∷ exit 4 4 5 ∷ enter 1 ∷ exit 1 5 7 ∷ enter 53 ∷ enter 0 ∷ enter 0 ∷ exit 0 7 8 ∷ enter 54 ∷ enter 5 ∷ exit 5 8 9 ∷ exit 54 8 9 ∷ enter 0 ∷ exit 0 9 10 ∷ exit 0 7 10 ∷ enter 0 ∷ exit 0 10 11 ∷ enter 1 ∷ exit 1 11 12 ∷ enter 0 ∷ enter 0 ∷ enter 55 ∷ enter 5 ∷ exit 5 12 13 ∷ exit 55 12 13 ∷ exit 0 12 13 ∷ exit 0 12 13 ∷ exit 53 7 13 ∷ enter 3 ∷ exit 3 13 14 ∷ enter 4 ∷ exit 4 14 15 ∷ enter 1 ∷ exit 1 15 17 ∷ enter 53 ∷ enter 0 ∷ enter 0 ∷ exit 0 17 18 ∷ enter 54 ∷ enter 5 ∷ exit 5 18 19 ∷ exit 54 18 19 ∷ enter 0 ∷ exit 0 19 20 ∷ exit 0 17 20 ∷ enter 0 ∷ exit 0 20 21 ∷ enter 1 ∷ exit 1 21 22 ∷ enter 0 ∷ enter 0 ∷ enter 55 ∷ enter 5 ∷ exit 5 22 23 ∷ exit 55 22 23 ∷ exit 0 22 23 ∷ exit 0 22 23 ∷ exit 53 17 23 ∷ enter 3 ∷ exit 3 23 24 ∷ enter 4 ∷ exit 4 24 25 ∷ enter 1 ∷ exit 1 25 27 ∷ enter 12 ∷ enter 5 ∷ exit 5 27 28 ∷ exit 12 27 28 ∷ exit 23 0 28 ∷ enter 3 ∷ exit 3 28 29 ∷ enter 23 ∷ enter 24 ∷ enter 25 ∷ exit 25 29 30 ∷ enter 1 ∷ exit 1 30 31 ∷ exit 24 29 31 ∷ enter 12 ∷ enter 5 ∷ exit 5 31 32 ∷ exit 12 31 32 ∷ exit 23 29 32 ∷ exit 22 0 32 ∷ []) ("<ul>\n<li>\n<p>a</p>\n<p>e</p>\n</li>\n<li>\n<p>f</p>\n</li>\n</ul>" ∷ []))
unfolding running
v56 = tt
