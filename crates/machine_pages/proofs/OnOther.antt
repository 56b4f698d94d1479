-- Names 0 to 4 where no note has them: pages of the crate markdown 1.0.0. Made by tools/machine_pages. Assumes nothing.
use mathlib.Core.List.{[], ◌∷◌}
use lib.Dec.{T}
use Rattle.machine.specs.declared.Ending.TheVariants.{Lf, Cr, CrLf}
use Rattle.machine.proofs.Running.{running}
use Rattle.machine.proofs.Answers.{shows, off, enter, exit, enter_with}

v1 : T (shows (off Lf) ("a" ∷ []) (enter 0 ∷ enter 12 ∷ enter 5 ∷ exit 5 0 1 ∷ exit 12 0 1 ∷ exit 0 0 1 ∷ []) ("<p>a</p>" ∷ []))
unfolding running
v1 = tt

v2 : T (shows (off Lf) ("a\n" ∷ []) (enter 12 ∷ enter 0 ∷ enter 5 ∷ exit 5 0 1 ∷ exit 0 0 1 ∷ exit 12 0 1 ∷ enter 0 ∷ enter 3 ∷ exit 3 1 2 ∷ exit 0 1 2 ∷ []) ("<p>a</p>\n" ∷ []))
unfolding running
v2 = tt

v3 : T (shows (off Lf) ("- a" ∷ []) (enter 22 ∷ enter 23 ∷ enter 24 ∷ enter 25 ∷ exit 25 0 1 ∷ exit 24 0 2 ∷ enter 12 ∷ enter 5 ∷ exit 5 2 3 ∷ exit 12 2 3 ∷ enter 0 ∷ exit 0 3 3 ∷ exit 23 0 3 ∷ exit 22 0 3 ∷ []) ("<ul>\n<li>a\n</li>\n</ul>" ∷ []))
unfolding running
v3 = tt

v4 : T (shows (off Cr) ("- a" ∷ []) (enter 22 ∷ enter 23 ∷ enter 24 ∷ enter 25 ∷ exit 25 0 1 ∷ exit 24 0 2 ∷ enter 12 ∷ enter 5 ∷ exit 5 2 3 ∷ exit 12 2 3 ∷ enter 0 ∷ exit 0 3 3 ∷ exit 23 0 3 ∷ exit 22 0 3 ∷ []) ("<ul>\r<li>a\r</li>\r</ul>" ∷ []))
unfolding running
v4 = tt

v5 : T (shows (off CrLf) ("- a" ∷ []) (enter 22 ∷ enter 23 ∷ enter 24 ∷ enter 25 ∷ exit 25 0 1 ∷ exit 24 0 2 ∷ enter 12 ∷ enter 5 ∷ exit 5 2 3 ∷ exit 12 2 3 ∷ enter 0 ∷ exit 0 3 3 ∷ exit 23 0 3 ∷ exit 22 0 3 ∷ []) ("<ul>\r\n<li>a\r\n</li>\r\n</ul>" ∷ []))
unfolding running
v5 = tt

v6 : T (shows (off Lf) ("- a" ∷ []) (enter 22 ∷ enter 23 ∷ enter 24 ∷ enter 25 ∷ exit 25 0 1 ∷ exit 24 0 2 ∷ enter 0 ∷ enter 12 ∷ enter 5 ∷ exit 5 2 3 ∷ exit 12 2 3 ∷ exit 0 2 3 ∷ exit 23 0 3 ∷ exit 22 0 3 ∷ []) ("<ul>\n<li>a\n</li>\n</ul>" ∷ []))
unfolding running
v6 = tt

v7 : T (shows (off Cr) ("- a" ∷ []) (enter 22 ∷ enter 23 ∷ enter 24 ∷ enter 25 ∷ exit 25 0 1 ∷ exit 24 0 2 ∷ enter 0 ∷ enter 12 ∷ enter 5 ∷ exit 5 2 3 ∷ exit 12 2 3 ∷ exit 0 2 3 ∷ exit 23 0 3 ∷ exit 22 0 3 ∷ []) ("<ul>\r<li>a\r</li>\r</ul>" ∷ []))
unfolding running
v7 = tt

v8 : T (shows (off CrLf) ("- a" ∷ []) (enter 22 ∷ enter 23 ∷ enter 24 ∷ enter 25 ∷ exit 25 0 1 ∷ exit 24 0 2 ∷ enter 0 ∷ enter 12 ∷ enter 5 ∷ exit 5 2 3 ∷ exit 12 2 3 ∷ exit 0 2 3 ∷ exit 23 0 3 ∷ exit 22 0 3 ∷ []) ("<ul>\r\n<li>a\r\n</li>\r\n</ul>" ∷ []))
unfolding running
v8 = tt

v9 : T (shows (off Lf) ("- a" ∷ []) (enter_with 22 1 ∷ enter 23 ∷ enter 24 ∷ enter 25 ∷ exit 25 0 1 ∷ exit 24 0 2 ∷ enter 12 ∷ enter 5 ∷ exit 5 2 3 ∷ exit 12 2 3 ∷ enter 1 ∷ exit 1 3 3 ∷ exit 23 0 3 ∷ exit 22 0 3 ∷ []) ("<ul>\n<li>\n<p>a</p>\n</li>\n</ul>" ∷ []))
unfolding running
v9 = tt

v10 : T (shows (off Cr) ("- a" ∷ []) (enter_with 22 1 ∷ enter 23 ∷ enter 24 ∷ enter 25 ∷ exit 25 0 1 ∷ exit 24 0 2 ∷ enter 12 ∷ enter 5 ∷ exit 5 2 3 ∷ exit 12 2 3 ∷ enter 1 ∷ exit 1 3 3 ∷ exit 23 0 3 ∷ exit 22 0 3 ∷ []) ("<ul>\r<li>\r<p>a</p>\r</li>\r</ul>" ∷ []))
unfolding running
v10 = tt

v11 : T (shows (off CrLf) ("- a" ∷ []) (enter_with 22 1 ∷ enter 23 ∷ enter 24 ∷ enter 25 ∷ exit 25 0 1 ∷ exit 24 0 2 ∷ enter 12 ∷ enter 5 ∷ exit 5 2 3 ∷ exit 12 2 3 ∷ enter 1 ∷ exit 1 3 3 ∷ exit 23 0 3 ∷ exit 22 0 3 ∷ []) ("<ul>\r\n<li>\r\n<p>a</p>\r\n</li>\r\n</ul>" ∷ []))
unfolding running
v11 = tt

v12 : T (shows (off Lf) ("- a\n" ∷ []) (enter 22 ∷ enter 23 ∷ enter 24 ∷ enter 25 ∷ exit 25 0 1 ∷ exit 24 0 2 ∷ enter 12 ∷ enter 5 ∷ exit 5 2 3 ∷ exit 12 2 3 ∷ enter 4 ∷ exit 4 3 4 ∷ enter 2 ∷ exit 2 4 4 ∷ enter 1 ∷ enter 0 ∷ exit 0 4 4 ∷ exit 1 4 4 ∷ exit 23 0 4 ∷ exit 22 0 4 ∷ []) ("<ul>\n<li>a</li>\n</ul>" ∷ []))
unfolding running
v12 = tt

v13 : T (shows (off Lf) ("\n" ∷ []) (enter 4 ∷ exit 4 0 1 ∷ enter 0 ∷ exit 0 1 1 ∷ []) ([]))
unfolding running
v13 = tt

v14 : T (shows (off Lf) ("a\n" ∷ []) (enter 12 ∷ enter 5 ∷ exit 5 0 1 ∷ exit 12 0 1 ∷ enter 4 ∷ exit 4 1 2 ∷ []) ("<p>a</p>\n" ∷ []))
unfolding running
v14 = tt

v15 : T (shows (off Lf) ("a\n" ∷ []) (enter 20 ∷ enter 12 ∷ enter 5 ∷ exit 5 0 1 ∷ exit 12 0 1 ∷ enter 4 ∷ exit 4 1 2 ∷ exit 20 0 2 ∷ []) ("<blockquote>\n<p>a</p>\n</blockquote>" ∷ []))
unfolding running
v15 = tt

v16 : T (shows (off Lf) ("a\r\n" ∷ []) (enter 12 ∷ enter 5 ∷ exit 5 0 1 ∷ enter 3 ∷ exit 3 1 3 ∷ exit 12 0 3 ∷ []) ("<p>a\r\n</p>" ∷ []))
unfolding running
v16 = tt

v17 : T (shows (off Lf) ("a\rb\n" ∷ []) (enter 12 ∷ enter 5 ∷ exit 5 0 1 ∷ enter 3 ∷ exit 3 1 2 ∷ enter 5 ∷ exit 5 2 3 ∷ exit 12 0 3 ∷ enter 4 ∷ exit 4 3 4 ∷ enter 19 ∷ exit 19 4 4 ∷ []) ("<p>a\rb</p>\r<hr />" ∷ []))
unfolding running
v17 = tt

v18 : T (shows (off Lf) ("\r\n" ∷ []) (enter 20 ∷ enter 19 ∷ exit 19 0 0 ∷ enter 4 ∷ exit 4 0 2 ∷ exit 20 0 2 ∷ []) ("<blockquote>\r\n<hr />\r\n</blockquote>" ∷ []))
unfolding running
v18 = tt
