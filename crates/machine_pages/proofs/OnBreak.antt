-- Hard breaks: pages of the crate markdown 1.0.0. Made by tools/machine_pages. Assumes nothing.
use mathlib.Core.List.{[], ◌∷◌}
use lib.Dec.{T}
use Rattle.machine.specs.declared.Ending.TheVariants.{Lf}
use Rattle.machine.proofs.Running.{running}
use Rattle.machine.proofs.Answers.{shows, off, enter, exit}

v1 : T (shows (off Lf) ("a  \nb" ∷ []) (enter 12 ∷ enter 5 ∷ exit 5 0 1 ∷ enter 42 ∷ exit 42 1 3 ∷ enter 3 ∷ exit 3 3 4 ∷ enter 5 ∷ exit 5 4 5 ∷ exit 12 0 5 ∷ []) ("<p>a<br />\nb</p>" ∷ []))
unfolding running
v1 = tt

v2 : T (shows (off Lf) ("a\\\nb" ∷ []) (enter 12 ∷ enter 5 ∷ exit 5 0 1 ∷ enter 41 ∷ exit 41 1 2 ∷ enter 3 ∷ exit 3 2 3 ∷ enter 5 ∷ exit 5 3 4 ∷ exit 12 0 4 ∷ []) ("<p>a<br />\nb</p>" ∷ []))
unfolding running
v2 = tt

v3 : T (shows (off Lf) ("a   \r\nb" ∷ []) (enter 12 ∷ enter 5 ∷ exit 5 0 1 ∷ enter 42 ∷ exit 42 1 4 ∷ enter 3 ∷ exit 3 4 6 ∷ enter 5 ∷ exit 5 6 7 ∷ exit 12 0 7 ∷ []) ("<p>a<br />\r\nb</p>" ∷ []))
unfolding running
v3 = tt

v4 : T (shows (off Lf) ("*a  \nb*" ∷ []) (enter 12 ∷ enter 39 ∷ enter 0 ∷ exit 0 0 1 ∷ enter 0 ∷ enter 5 ∷ exit 5 1 2 ∷ enter 42 ∷ exit 42 2 4 ∷ enter 3 ∷ exit 3 4 5 ∷ enter 5 ∷ exit 5 5 6 ∷ exit 0 1 6 ∷ enter 0 ∷ exit 0 6 7 ∷ exit 39 0 7 ∷ exit 12 0 7 ∷ []) ("<p><em>a<br />\nb</em></p>" ∷ []))
unfolding running
v4 = tt

v5 : T (shows (off Lf) ("a  " ∷ []) (enter 12 ∷ enter 5 ∷ exit 5 0 1 ∷ enter 1 ∷ exit 1 1 3 ∷ exit 12 0 3 ∷ []) ("<p>a</p>" ∷ []))
unfolding running
v5 = tt

v6 : T (shows (off Lf) ("a\\" ∷ []) (enter 12 ∷ enter 5 ∷ exit 5 0 2 ∷ exit 12 0 2 ∷ []) ("<p>a\\</p>" ∷ []))
unfolding running
v6 = tt

v7 : T (shows (off Lf) ("# a\\" ∷ []) (enter 13 ∷ enter 14 ∷ exit 14 0 1 ∷ enter 1 ∷ exit 1 1 2 ∷ enter 15 ∷ enter 5 ∷ exit 5 2 4 ∷ exit 15 2 4 ∷ exit 13 0 4 ∷ []) ("<h1>a\\</h1>" ∷ []))
unfolding running
v7 = tt

v8 : T (shows (off Lf) ("[a  \nb](c)" ∷ []) (enter 12 ∷ enter 45 ∷ enter 47 ∷ enter 0 ∷ enter 0 ∷ exit 0 0 1 ∷ exit 0 0 1 ∷ enter 48 ∷ enter 5 ∷ exit 5 1 2 ∷ enter 42 ∷ exit 42 2 4 ∷ enter 3 ∷ exit 3 4 5 ∷ enter 5 ∷ exit 5 5 6 ∷ exit 48 1 6 ∷ enter 0 ∷ enter 0 ∷ exit 0 6 7 ∷ exit 0 6 7 ∷ exit 47 0 7 ∷ enter 49 ∷ enter 0 ∷ exit 0 7 8 ∷ enter 0 ∷ enter 0 ∷ enter 50 ∷ enter 5 ∷ exit 5 8 9 ∷ exit 50 8 9 ∷ exit 0 8 9 ∷ exit 0 8 9 ∷ enter 0 ∷ exit 0 9 10 ∷ exit 49 7 10 ∷ exit 45 0 10 ∷ exit 12 0 10 ∷ []) ("<p><a href=\"c\">a<br />\nb</a></p>" ∷ []))
unfolding running
v8 = tt

v9 : T (shows (off Lf) ("![a  \nb](c)" ∷ []) (enter 12 ∷ enter 46 ∷ enter 47 ∷ enter 0 ∷ enter 0 ∷ exit 0 0 1 ∷ enter 0 ∷ exit 0 1 2 ∷ exit 0 0 2 ∷ enter 48 ∷ enter 5 ∷ exit 5 2 3 ∷ enter 42 ∷ exit 42 3 5 ∷ enter 3 ∷ exit 3 5 6 ∷ enter 5 ∷ exit 5 6 7 ∷ exit 48 2 7 ∷ enter 0 ∷ enter 0 ∷ exit 0 7 8 ∷ exit 0 7 8 ∷ exit 47 0 8 ∷ enter 49 ∷ enter 0 ∷ exit 0 8 9 ∷ enter 0 ∷ enter 0 ∷ enter 50 ∷ enter 5 ∷ exit 5 9 10 ∷ exit 50 9 10 ∷ exit 0 9 10 ∷ exit 0 9 10 ∷ enter 0 ∷ exit 0 10 11 ∷ exit 49 8 11 ∷ exit 46 0 11 ∷ exit 12 0 11 ∷ []) ("<p><img src=\"c\" alt=\"a\nb\" /></p>" ∷ []))
unfolding running
v9 = tt

v10 : T (shows (off Lf) ("> a  \n> b" ∷ []) (enter 20 ∷ enter 2 ∷ enter 0 ∷ exit 0 0 1 ∷ enter 1 ∷ exit 1 1 2 ∷ exit 2 0 2 ∷ enter 12 ∷ enter 5 ∷ exit 5 2 3 ∷ enter 42 ∷ exit 42 3 5 ∷ enter 3 ∷ exit 3 5 6 ∷ enter 2 ∷ enter 0 ∷ exit 0 6 7 ∷ enter 1 ∷ exit 1 7 8 ∷ exit 2 6 8 ∷ enter 5 ∷ exit 5 8 9 ∷ exit 12 2 9 ∷ exit 20 0 9 ∷ []) ("<blockquote>\n<p>a<br />\nb</p>\n</blockquote>" ∷ []))
unfolding running
v10 = tt

v11 : T (shows (off Lf) ("- a\\\n  b" ∷ []) (enter 22 ∷ enter 23 ∷ enter 24 ∷ enter 25 ∷ exit 25 0 1 ∷ enter 1 ∷ exit 1 1 2 ∷ exit 24 0 2 ∷ enter 12 ∷ enter 5 ∷ exit 5 2 3 ∷ enter 41 ∷ exit 41 3 4 ∷ enter 3 ∷ exit 3 4 5 ∷ enter 1 ∷ exit 1 5 7 ∷ enter 5 ∷ exit 5 7 8 ∷ exit 12 2 8 ∷ exit 23 0 8 ∷ exit 22 0 8 ∷ []) ("<ul>\n<li>a<br />\nb</li>\n</ul>" ∷ []))
unfolding running
v11 = tt

v12 : T (shows (off Lf) ("![a\\\nb](c)" ∷ []) (enter 12 ∷ enter 46 ∷ enter 47 ∷ enter 0 ∷ enter 0 ∷ exit 0 0 1 ∷ enter 0 ∷ exit 0 1 2 ∷ exit 0 0 2 ∷ enter 48 ∷ enter 5 ∷ exit 5 2 3 ∷ enter 41 ∷ exit 41 3 4 ∷ enter 3 ∷ exit 3 4 5 ∷ enter 5 ∷ exit 5 5 6 ∷ exit 48 2 6 ∷ enter 0 ∷ enter 0 ∷ exit 0 6 7 ∷ exit 0 6 7 ∷ exit 47 0 7 ∷ enter 49 ∷ enter 0 ∷ exit 0 7 8 ∷ enter 0 ∷ enter 0 ∷ enter 50 ∷ enter 5 ∷ exit 5 8 9 ∷ exit 50 8 9 ∷ exit 0 8 9 ∷ exit 0 8 9 ∷ enter 0 ∷ exit 0 9 10 ∷ exit 49 7 10 ∷ exit 46 0 10 ∷ exit 12 0 10 ∷ []) ("<p><img src=\"c\" alt=\"a\nb\" /></p>" ∷ []))
unfolding running
v12 = tt

v13 : T (shows (off Lf) ("[a\\\nb](c)" ∷ []) (enter 12 ∷ enter 45 ∷ enter 47 ∷ enter 0 ∷ enter 0 ∷ exit 0 0 1 ∷ exit 0 0 1 ∷ enter 48 ∷ enter 5 ∷ exit 5 1 2 ∷ enter 41 ∷ exit 41 2 3 ∷ enter 3 ∷ exit 3 3 4 ∷ enter 5 ∷ exit 5 4 5 ∷ exit 48 1 5 ∷ enter 0 ∷ enter 0 ∷ exit 0 5 6 ∷ exit 0 5 6 ∷ exit 47 0 6 ∷ enter 49 ∷ enter 0 ∷ exit 0 6 7 ∷ enter 0 ∷ enter 0 ∷ enter 50 ∷ enter 5 ∷ exit 5 7 8 ∷ exit 50 7 8 ∷ exit 0 7 8 ∷ exit 0 7 8 ∷ enter 0 ∷ exit 0 8 9 ∷ exit 49 6 9 ∷ exit 45 0 9 ∷ exit 12 0 9 ∷ []) ("<p><a href=\"c\">a<br />\nb</a></p>" ∷ []))
unfolding running
v13 = tt
