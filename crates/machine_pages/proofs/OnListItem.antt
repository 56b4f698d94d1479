-- Lists: pages of the crate markdown 1.0.0. Made by tools/machine_pages. Assumes nothing.
use mathlib.Core.List.{[], ◌∷◌}
use lib.Dec.{T}
use Rattle.machine.specs.declared.Ending.TheVariants.{Lf, Cr, CrLf}
use Rattle.machine.proofs.Running.{running}
use Rattle.machine.proofs.Answers.{shows, off, html, on, enter, exit, enter_with, exit_with}

v1 : T (shows (off Lf) ("- a" ∷ []) (enter 22 ∷ enter 23 ∷ enter 24 ∷ enter 25 ∷ exit 25 0 1 ∷ enter 1 ∷ exit 1 1 2 ∷ exit 24 0 2 ∷ enter 12 ∷ enter 5 ∷ exit 5 2 3 ∷ exit 12 2 3 ∷ exit 23 0 3 ∷ exit 22 0 3 ∷ []) ("<ul>\n<li>a</li>\n</ul>" ∷ []))
unfolding running
v1 = tt

v2 : T (shows (off Cr) ("- a" ∷ []) (enter 22 ∷ enter 23 ∷ enter 24 ∷ enter 25 ∷ exit 25 0 1 ∷ enter 1 ∷ exit 1 1 2 ∷ exit 24 0 2 ∷ enter 12 ∷ enter 5 ∷ exit 5 2 3 ∷ exit 12 2 3 ∷ exit 23 0 3 ∷ exit 22 0 3 ∷ []) ("<ul>\r<li>a</li>\r</ul>" ∷ []))
unfolding running
v2 = tt

v3 : T (shows (off CrLf) ("- a" ∷ []) (enter 22 ∷ enter 23 ∷ enter 24 ∷ enter 25 ∷ exit 25 0 1 ∷ enter 1 ∷ exit 1 1 2 ∷ exit 24 0 2 ∷ enter 12 ∷ enter 5 ∷ exit 5 2 3 ∷ exit 12 2 3 ∷ exit 23 0 3 ∷ exit 22 0 3 ∷ []) ("<ul>\r\n<li>a</li>\r\n</ul>" ∷ []))
unfolding running
v3 = tt

v4 : T (shows (off Lf) ("- a\n- b" ∷ []) (enter 22 ∷ enter 23 ∷ enter 24 ∷ enter 25 ∷ exit 25 0 1 ∷ enter 1 ∷ exit 1 1 2 ∷ exit 24 0 2 ∷ enter 12 ∷ enter 5 ∷ exit 5 2 3 ∷ exit 12 2 3 ∷ exit 23 0 3 ∷ enter 3 ∷ exit 3 3 4 ∷ enter 23 ∷ enter 24 ∷ enter 25 ∷ exit 25 4 5 ∷ enter 1 ∷ exit 1 5 6 ∷ exit 24 4 6 ∷ enter 12 ∷ enter 5 ∷ exit 5 6 7 ∷ exit 12 6 7 ∷ exit 23 4 7 ∷ exit 22 0 7 ∷ []) ("<ul>\n<li>a</li>\n<li>b</li>\n</ul>" ∷ []))
unfolding running
v4 = tt

v5 : T (shows (off Lf) ("- a\n\n- b" ∷ []) (enter_with 22 1 ∷ enter 23 ∷ enter 24 ∷ enter 25 ∷ exit 25 0 1 ∷ enter 1 ∷ exit 1 1 2 ∷ exit 24 0 2 ∷ enter 12 ∷ enter 5 ∷ exit 5 2 3 ∷ exit 12 2 3 ∷ enter 3 ∷ exit 3 3 4 ∷ exit 23 0 4 ∷ enter 4 ∷ exit 4 4 5 ∷ enter 23 ∷ enter 24 ∷ enter 25 ∷ exit 25 5 6 ∷ enter 1 ∷ exit 1 6 7 ∷ exit 24 5 7 ∷ enter 12 ∷ enter 5 ∷ exit 5 7 8 ∷ exit 12 7 8 ∷ exit 23 5 8 ∷ exit 22 0 8 ∷ []) ("<ul>\n<li>\n<p>a</p>\n</li>\n<li>\n<p>b</p>\n</li>\n</ul>" ∷ []))
unfolding running
v5 = tt

v6 : T (shows (off Lf) ("- a\n  - b\n    - c\n" ∷ []) (enter 22 ∷ enter 23 ∷ enter 24 ∷ enter 25 ∷ exit 25 0 1 ∷ enter 1 ∷ exit 1 1 2 ∷ exit 24 0 2 ∷ enter 12 ∷ enter 5 ∷ exit 5 2 3 ∷ exit 12 2 3 ∷ enter 3 ∷ exit 3 3 4 ∷ enter 1 ∷ exit 1 4 6 ∷ enter 22 ∷ enter 23 ∷ enter 24 ∷ enter 25 ∷ exit 25 6 7 ∷ enter 1 ∷ exit 1 7 8 ∷ exit 24 6 8 ∷ enter 12 ∷ enter 5 ∷ exit 5 8 9 ∷ exit 12 8 9 ∷ enter 3 ∷ exit 3 9 10 ∷ enter 1 ∷ exit 1 10 12 ∷ enter 1 ∷ exit 1 12 14 ∷ enter 22 ∷ enter 23 ∷ enter 24 ∷ enter 25 ∷ exit 25 14 15 ∷ enter 1 ∷ exit 1 15 16 ∷ exit 24 14 16 ∷ enter 12 ∷ enter 5 ∷ exit 5 16 17 ∷ exit 12 16 17 ∷ exit 23 14 17 ∷ exit 22 14 17 ∷ exit 23 6 17 ∷ exit 22 6 17 ∷ exit 23 0 17 ∷ exit 22 0 17 ∷ enter 3 ∷ exit 3 17 18 ∷ []) ("<ul>\n<li>a\n<ul>\n<li>b\n<ul>\n<li>c</li>\n</ul>\n</li>\n</ul>\n</li>\n</ul>\n" ∷ []))
unfolding running
v6 = tt

v7 : T (shows (off Lf) ("1. a\n2. b" ∷ []) (enter 21 ∷ enter 23 ∷ enter 24 ∷ enter 26 ∷ exit 26 0 1 ∷ enter 25 ∷ exit 25 1 2 ∷ enter 1 ∷ exit 1 2 3 ∷ exit 24 0 3 ∷ enter 12 ∷ enter 5 ∷ exit 5 3 4 ∷ exit 12 3 4 ∷ exit 23 0 4 ∷ enter 3 ∷ exit 3 4 5 ∷ enter 23 ∷ enter 24 ∷ enter 26 ∷ exit 26 5 6 ∷ enter 25 ∷ exit 25 6 7 ∷ enter 1 ∷ exit 1 7 8 ∷ exit 24 5 8 ∷ enter 12 ∷ enter 5 ∷ exit 5 8 9 ∷ exit 12 8 9 ∷ exit 23 5 9 ∷ exit 21 0 9 ∷ []) ("<ol>\n<li>a</li>\n<li>b</li>\n</ol>" ∷ []))
unfolding running
v7 = tt

v8 : T (shows (off Lf) ("007. a\n" ∷ []) (enter 21 ∷ enter 23 ∷ enter 24 ∷ enter 26 ∷ exit 26 0 3 ∷ enter 25 ∷ exit 25 3 4 ∷ enter 1 ∷ exit 1 4 5 ∷ exit 24 0 5 ∷ enter 12 ∷ enter 5 ∷ exit 5 5 6 ∷ exit 12 5 6 ∷ exit 23 0 6 ∷ exit 21 0 6 ∷ enter 3 ∷ exit 3 6 7 ∷ []) ("<ol start=\"7\">\n<li>a</li>\n</ol>\n" ∷ []))
unfolding running
v8 = tt

v9 : T (shows (off Lf) ("0. a" ∷ []) (enter 21 ∷ enter 23 ∷ enter 24 ∷ enter 26 ∷ exit 26 0 1 ∷ enter 25 ∷ exit 25 1 2 ∷ enter 1 ∷ exit 1 2 3 ∷ exit 24 0 3 ∷ enter 12 ∷ enter 5 ∷ exit 5 3 4 ∷ exit 12 3 4 ∷ exit 23 0 4 ∷ exit 21 0 4 ∷ []) ("<ol start=\"0\">\n<li>a</li>\n</ol>" ∷ []))
unfolding running
v9 = tt

v10 : T (shows (off Cr) ("0. a" ∷ []) (enter 21 ∷ enter 23 ∷ enter 24 ∷ enter 26 ∷ exit 26 0 1 ∷ enter 25 ∷ exit 25 1 2 ∷ enter 1 ∷ exit 1 2 3 ∷ exit 24 0 3 ∷ enter 12 ∷ enter 5 ∷ exit 5 3 4 ∷ exit 12 3 4 ∷ exit 23 0 4 ∷ exit 21 0 4 ∷ []) ("<ol start=\"0\">\r<li>a</li>\r</ol>" ∷ []))
unfolding running
v10 = tt

v11 : T (shows (off CrLf) ("0. a" ∷ []) (enter 21 ∷ enter 23 ∷ enter 24 ∷ enter 26 ∷ exit 26 0 1 ∷ enter 25 ∷ exit 25 1 2 ∷ enter 1 ∷ exit 1 2 3 ∷ exit 24 0 3 ∷ enter 12 ∷ enter 5 ∷ exit 5 3 4 ∷ exit 12 3 4 ∷ exit 23 0 4 ∷ exit 21 0 4 ∷ []) ("<ol start=\"0\">\r\n<li>a</li>\r\n</ol>" ∷ []))
unfolding running
v11 = tt

v12 : T (shows (off Lf) ("1) a\n2) b\n" ∷ []) (enter 21 ∷ enter 23 ∷ enter 24 ∷ enter 26 ∷ exit 26 0 1 ∷ enter 25 ∷ exit 25 1 2 ∷ enter 1 ∷ exit 1 2 3 ∷ exit 24 0 3 ∷ enter 12 ∷ enter 5 ∷ exit 5 3 4 ∷ exit 12 3 4 ∷ exit 23 0 4 ∷ enter 3 ∷ exit 3 4 5 ∷ enter 23 ∷ enter 24 ∷ enter 26 ∷ exit 26 5 6 ∷ enter 25 ∷ exit 25 6 7 ∷ enter 1 ∷ exit 1 7 8 ∷ exit 24 5 8 ∷ enter 12 ∷ enter 5 ∷ exit 5 8 9 ∷ exit 12 8 9 ∷ exit 23 5 9 ∷ exit 21 0 9 ∷ enter 3 ∷ exit 3 9 10 ∷ []) ("<ol>\n<li>a</li>\n<li>b</li>\n</ol>\n" ∷ []))
unfolding running
v12 = tt

v13 : T (shows (off Lf) ("123456789. a" ∷ []) (enter 21 ∷ enter 23 ∷ enter 24 ∷ enter 26 ∷ exit 26 0 9 ∷ enter 25 ∷ exit 25 9 10 ∷ enter 1 ∷ exit 1 10 11 ∷ exit 24 0 11 ∷ enter 12 ∷ enter 5 ∷ exit 5 11 12 ∷ exit 12 11 12 ∷ exit 23 0 12 ∷ exit 21 0 12 ∷ []) ("<ol start=\"123456789\">\n<li>a</li>\n</ol>" ∷ []))
unfolding running
v13 = tt

v14 : T (shows (off Cr) ("123456789. a" ∷ []) (enter 21 ∷ enter 23 ∷ enter 24 ∷ enter 26 ∷ exit 26 0 9 ∷ enter 25 ∷ exit 25 9 10 ∷ enter 1 ∷ exit 1 10 11 ∷ exit 24 0 11 ∷ enter 12 ∷ enter 5 ∷ exit 5 11 12 ∷ exit 12 11 12 ∷ exit 23 0 12 ∷ exit 21 0 12 ∷ []) ("<ol start=\"123456789\">\r<li>a</li>\r</ol>" ∷ []))
unfolding running
v14 = tt

v15 : T (shows (off CrLf) ("123456789. a" ∷ []) (enter 21 ∷ enter 23 ∷ enter 24 ∷ enter 26 ∷ exit 26 0 9 ∷ enter 25 ∷ exit 25 9 10 ∷ enter 1 ∷ exit 1 10 11 ∷ exit 24 0 11 ∷ enter 12 ∷ enter 5 ∷ exit 5 11 12 ∷ exit 12 11 12 ∷ exit 23 0 12 ∷ exit 21 0 12 ∷ []) ("<ol start=\"123456789\">\r\n<li>a</li>\r\n</ol>" ∷ []))
unfolding running
v15 = tt

v16 : T (shows (off Lf) ("1. a\n   1. b\n2. c" ∷ []) (enter 21 ∷ enter 23 ∷ enter 24 ∷ enter 26 ∷ exit 26 0 1 ∷ enter 25 ∷ exit 25 1 2 ∷ enter 1 ∷ exit 1 2 3 ∷ exit 24 0 3 ∷ enter 12 ∷ enter 5 ∷ exit 5 3 4 ∷ exit 12 3 4 ∷ enter 3 ∷ exit 3 4 5 ∷ enter 1 ∷ exit 1 5 8 ∷ enter 21 ∷ enter 23 ∷ enter 24 ∷ enter 26 ∷ exit 26 8 9 ∷ enter 25 ∷ exit 25 9 10 ∷ enter 1 ∷ exit 1 10 11 ∷ exit 24 8 11 ∷ enter 12 ∷ enter 5 ∷ exit 5 11 12 ∷ exit 12 11 12 ∷ exit 23 8 12 ∷ exit 21 8 12 ∷ exit 23 0 12 ∷ enter 3 ∷ exit 3 12 13 ∷ enter 23 ∷ enter 24 ∷ enter 26 ∷ exit 26 13 14 ∷ enter 25 ∷ exit 25 14 15 ∷ enter 1 ∷ exit 1 15 16 ∷ exit 24 13 16 ∷ enter 12 ∷ enter 5 ∷ exit 5 16 17 ∷ exit 12 16 17 ∷ exit 23 13 17 ∷ exit 21 0 17 ∷ []) ("<ol>\n<li>a\n<ol>\n<li>b</li>\n</ol>\n</li>\n<li>c</li>\n</ol>" ∷ []))
unfolding running
v16 = tt

v17 : T (shows (off Lf) ("*" ∷ []) (enter 22 ∷ enter 23 ∷ enter 24 ∷ enter 25 ∷ exit 25 0 1 ∷ exit 24 0 1 ∷ exit 23 0 1 ∷ exit 22 0 1 ∷ []) ("<ul>\n<li></li>\n</ul>" ∷ []))
unfolding running
v17 = tt

v18 : T (shows (off Cr) ("*" ∷ []) (enter 22 ∷ enter 23 ∷ enter 24 ∷ enter 25 ∷ exit 25 0 1 ∷ exit 24 0 1 ∷ exit 23 0 1 ∷ exit 22 0 1 ∷ []) ("<ul>\r<li></li>\r</ul>" ∷ []))
unfolding running
v18 = tt

v19 : T (shows (off CrLf) ("*" ∷ []) (enter 22 ∷ enter 23 ∷ enter 24 ∷ enter 25 ∷ exit 25 0 1 ∷ exit 24 0 1 ∷ exit 23 0 1 ∷ exit 22 0 1 ∷ []) ("<ul>\r\n<li></li>\r\n</ul>" ∷ []))
unfolding running
v19 = tt

v20 : T (shows (off Lf) ("-\n" ∷ []) (enter 22 ∷ enter 23 ∷ enter 24 ∷ enter 25 ∷ exit 25 0 1 ∷ exit 24 0 1 ∷ exit 23 0 1 ∷ exit 22 0 1 ∷ enter 4 ∷ exit 4 1 2 ∷ []) ("<ul>\n<li></li>\n</ul>\n" ∷ []))
unfolding running
v20 = tt

v21 : T (shows (off Lf) ("-\n\n" ∷ []) (enter 22 ∷ enter 23 ∷ enter 24 ∷ enter 25 ∷ exit 25 0 1 ∷ exit 24 0 1 ∷ exit 23 0 1 ∷ exit 22 0 1 ∷ enter 4 ∷ exit 4 1 2 ∷ enter 4 ∷ exit 4 2 3 ∷ []) ("<ul>\n<li></li>\n</ul>\n" ∷ []))
unfolding running
v21 = tt

v22 : T (shows (off Lf) ("-\n  a" ∷ []) (enter 22 ∷ enter 23 ∷ enter 24 ∷ enter 25 ∷ exit 25 0 1 ∷ exit 24 0 1 ∷ enter 4 ∷ exit 4 1 2 ∷ enter 1 ∷ exit 1 2 4 ∷ enter 12 ∷ enter 5 ∷ exit 5 4 5 ∷ exit 12 4 5 ∷ exit 23 0 5 ∷ exit 22 0 5 ∷ []) ("<ul>\n<li>a</li>\n</ul>" ∷ []))
unfolding running
v22 = tt

v23 : T (shows (off Lf) ("-\n\n  a" ∷ []) (enter 22 ∷ enter 23 ∷ enter 24 ∷ enter 25 ∷ exit 25 0 1 ∷ exit 24 0 1 ∷ exit 23 0 1 ∷ exit 22 0 1 ∷ enter 4 ∷ exit 4 1 2 ∷ enter 4 ∷ exit 4 2 3 ∷ enter 12 ∷ enter 1 ∷ exit 1 3 5 ∷ enter 5 ∷ exit 5 5 6 ∷ exit 12 3 6 ∷ []) ("<ul>\n<li></li>\n</ul>\n<p>a</p>" ∷ []))
unfolding running
v23 = tt

v24 : T (shows (off Lf) ("- a\n\n  b" ∷ []) (enter_with 22 1 ∷ enter 23 ∷ enter 24 ∷ enter 25 ∷ exit 25 0 1 ∷ enter 1 ∷ exit 1 1 2 ∷ exit 24 0 2 ∷ enter 12 ∷ enter 5 ∷ exit 5 2 3 ∷ exit 12 2 3 ∷ enter 3 ∷ exit 3 3 4 ∷ enter 4 ∷ exit 4 4 5 ∷ enter 1 ∷ exit 1 5 7 ∷ enter 12 ∷ enter 5 ∷ exit 5 7 8 ∷ exit 12 7 8 ∷ exit 23 0 8 ∷ exit 22 0 8 ∷ []) ("<ul>\n<li>\n<p>a</p>\n<p>b</p>\n</li>\n</ul>" ∷ []))
unfolding running
v24 = tt

v25 : T (shows (off Lf) ("- a\n\n\n- b" ∷ []) (enter_with 22 1 ∷ enter 23 ∷ enter 24 ∷ enter 25 ∷ exit 25 0 1 ∷ enter 1 ∷ exit 1 1 2 ∷ exit 24 0 2 ∷ enter 12 ∷ enter 5 ∷ exit 5 2 3 ∷ exit 12 2 3 ∷ enter 3 ∷ exit 3 3 4 ∷ enter 4 ∷ exit 4 4 5 ∷ exit 23 0 5 ∷ enter 4 ∷ exit 4 5 6 ∷ enter 23 ∷ enter 24 ∷ enter 25 ∷ exit 25 6 7 ∷ enter 1 ∷ exit 1 7 8 ∷ exit 24 6 8 ∷ enter 12 ∷ enter 5 ∷ exit 5 8 9 ∷ exit 12 8 9 ∷ exit 23 6 9 ∷ exit 22 0 9 ∷ []) ("<ul>\n<li>\n<p>a</p>\n</li>\n<li>\n<p>b</p>\n</li>\n</ul>" ∷ []))
unfolding running
v25 = tt

v26 : T (shows (off Lf) ("-\n-\n-" ∷ []) (enter 22 ∷ enter 23 ∷ enter 24 ∷ enter 25 ∷ exit 25 0 1 ∷ exit 24 0 1 ∷ exit 23 0 1 ∷ enter 4 ∷ exit 4 1 2 ∷ enter 23 ∷ enter 24 ∷ enter 25 ∷ exit 25 2 3 ∷ exit 24 2 3 ∷ exit 23 2 3 ∷ enter 4 ∷ exit 4 3 4 ∷ enter 23 ∷ enter 24 ∷ enter 25 ∷ exit 25 4 5 ∷ exit 24 4 5 ∷ exit 23 4 5 ∷ exit 22 0 5 ∷ []) ("<ul>\n<li></li>\n<li></li>\n<li></li>\n</ul>" ∷ []))
unfolding running
v26 = tt

v27 : T (shows (off Lf) ("- \n- a" ∷ []) (enter 22 ∷ enter 23 ∷ enter 24 ∷ enter 25 ∷ exit 25 0 1 ∷ exit 24 0 1 ∷ enter 1 ∷ exit 1 1 2 ∷ exit 23 0 2 ∷ enter 4 ∷ exit 4 2 3 ∷ enter 23 ∷ enter 24 ∷ enter 25 ∷ exit 25 3 4 ∷ enter 1 ∷ exit 1 4 5 ∷ exit 24 3 5 ∷ enter 12 ∷ enter 5 ∷ exit 5 5 6 ∷ exit 12 5 6 ∷ exit 23 3 6 ∷ exit 22 0 6 ∷ []) ("<ul>\n<li></li>\n<li>a</li>\n</ul>" ∷ []))
unfolding running
v27 = tt

v28 : T (shows (off Lf) ("-   \n- a" ∷ []) (enter 22 ∷ enter 23 ∷ enter 24 ∷ enter 25 ∷ exit 25 0 1 ∷ exit 24 0 1 ∷ enter 1 ∷ exit 1 1 4 ∷ exit 23 0 4 ∷ enter 4 ∷ exit 4 4 5 ∷ enter 23 ∷ enter 24 ∷ enter 25 ∷ exit 25 5 6 ∷ enter 1 ∷ exit 1 6 7 ∷ exit 24 5 7 ∷ enter 12 ∷ enter 5 ∷ exit 5 7 8 ∷ exit 12 7 8 ∷ exit 23 5 8 ∷ exit 22 0 8 ∷ []) ("<ul>\n<li></li>\n<li>a</li>\n</ul>" ∷ []))
unfolding running
v28 = tt

v29 : T (shows (off Lf) ("* a\n+ b\n- c" ∷ []) (enter 22 ∷ enter 23 ∷ enter 24 ∷ enter 25 ∷ exit 25 0 1 ∷ enter 1 ∷ exit 1 1 2 ∷ exit 24 0 2 ∷ enter 12 ∷ enter 5 ∷ exit 5 2 3 ∷ exit 12 2 3 ∷ exit 23 0 3 ∷ exit 22 0 3 ∷ enter 3 ∷ exit 3 3 4 ∷ enter 22 ∷ enter 23 ∷ enter 24 ∷ enter 25 ∷ exit 25 4 5 ∷ enter 1 ∷ exit 1 5 6 ∷ exit 24 4 6 ∷ enter 12 ∷ enter 5 ∷ exit 5 6 7 ∷ exit 12 6 7 ∷ exit 23 4 7 ∷ exit 22 4 7 ∷ enter 3 ∷ exit 3 7 8 ∷ enter 22 ∷ enter 23 ∷ enter 24 ∷ enter 25 ∷ exit 25 8 9 ∷ enter 1 ∷ exit 1 9 10 ∷ exit 24 8 10 ∷ enter 12 ∷ enter 5 ∷ exit 5 10 11 ∷ exit 12 10 11 ∷ exit 23 8 11 ∷ exit 22 8 11 ∷ []) ("<ul>\n<li>a</li>\n</ul>\n<ul>\n<li>b</li>\n</ul>\n<ul>\n<li>c</li>\n</ul>" ∷ []))
unfolding running
v29 = tt

v30 : T (shows (off Lf) ("- a\n  > b\n  ```\n  c\n  ```" ∷ []) (enter 22 ∷ enter 23 ∷ enter 24 ∷ enter 25 ∷ exit 25 0 1 ∷ enter 1 ∷ exit 1 1 2 ∷ exit 24 0 2 ∷ enter 12 ∷ enter 5 ∷ exit 5 2 3 ∷ exit 12 2 3 ∷ enter 3 ∷ exit 3 3 4 ∷ enter 1 ∷ exit 1 4 6 ∷ enter 20 ∷ enter 2 ∷ enter 0 ∷ exit 0 6 7 ∷ enter 1 ∷ exit 1 7 8 ∷ exit 2 6 8 ∷ enter 12 ∷ enter 5 ∷ exit 5 8 9 ∷ exit 12 8 9 ∷ exit 20 6 9 ∷ enter 3 ∷ exit 3 9 10 ∷ enter 1 ∷ exit 1 10 12 ∷ enter 28 ∷ enter 29 ∷ enter 0 ∷ exit 0 12 15 ∷ exit 29 12 15 ∷ enter 3 ∷ exit 3 15 16 ∷ enter 1 ∷ exit 1 16 18 ∷ enter 32 ∷ exit 32 18 19 ∷ enter 3 ∷ exit 3 19 20 ∷ enter 1 ∷ exit 1 20 22 ∷ enter 29 ∷ enter 0 ∷ exit 0 22 25 ∷ exit 29 22 25 ∷ exit 28 12 25 ∷ exit 23 0 25 ∷ exit 22 0 25 ∷ []) ("<ul>\n<li>a\n<blockquote>\n<p>b</p>\n</blockquote>\n<pre><code>c\n</code></pre>\n</li>\n</ul>" ∷ []))
unfolding running
v30 = tt

v31 : T (shows (off Lf) ("- ```\n  a\n" ∷ []) (enter 22 ∷ enter 23 ∷ enter 24 ∷ enter 25 ∷ exit 25 0 1 ∷ enter 1 ∷ exit 1 1 2 ∷ exit 24 0 2 ∷ enter 28 ∷ enter 29 ∷ enter 0 ∷ exit 0 2 5 ∷ exit 29 2 5 ∷ enter 3 ∷ exit 3 5 6 ∷ enter 1 ∷ exit 1 6 8 ∷ enter 32 ∷ exit 32 8 9 ∷ enter 3 ∷ exit 3 9 10 ∷ exit 28 2 10 ∷ exit 23 0 10 ∷ exit 22 0 10 ∷ []) ("<ul>\n<li>\n<pre><code>a\n\n</code></pre>\n</li>\n</ul>" ∷ []))
unfolding running
v31 = tt

v32 : T (shows (off Lf) ("- ```\n" ∷ []) (enter 22 ∷ enter 23 ∷ enter 24 ∷ enter 25 ∷ exit 25 0 1 ∷ enter 1 ∷ exit 1 1 2 ∷ exit 24 0 2 ∷ enter 28 ∷ enter 29 ∷ enter 0 ∷ exit 0 2 5 ∷ exit 29 2 5 ∷ enter 3 ∷ exit 3 5 6 ∷ exit 28 2 6 ∷ exit 23 0 6 ∷ exit 22 0 6 ∷ []) ("<ul>\n<li>\n<pre><code>\n</code></pre>\n</li>\n</ul>" ∷ []))
unfolding running
v32 = tt

v33 : T (shows (off Lf) ("- # a\n- b\n  =\n" ∷ []) (enter 22 ∷ enter 23 ∷ enter 24 ∷ enter 25 ∷ exit 25 0 1 ∷ enter 1 ∷ exit 1 1 2 ∷ exit 24 0 2 ∷ enter 13 ∷ enter 14 ∷ exit 14 2 3 ∷ enter 1 ∷ exit 1 3 4 ∷ enter 15 ∷ enter 5 ∷ exit 5 4 5 ∷ exit 15 4 5 ∷ exit 13 2 5 ∷ exit 23 0 5 ∷ enter 3 ∷ exit 3 5 6 ∷ enter 23 ∷ enter 24 ∷ enter 25 ∷ exit 25 6 7 ∷ enter 1 ∷ exit 1 7 8 ∷ exit 24 6 8 ∷ enter 16 ∷ enter 17 ∷ enter 5 ∷ exit 5 8 9 ∷ exit 17 8 9 ∷ enter 3 ∷ exit 3 9 10 ∷ enter 1 ∷ exit 1 10 12 ∷ enter 0 ∷ enter 18 ∷ exit 18 12 13 ∷ exit 0 12 13 ∷ exit 16 8 13 ∷ exit 23 6 13 ∷ exit 22 0 13 ∷ enter 3 ∷ exit 3 13 14 ∷ []) ("<ul>\n<li>\n<h1>a</h1>\n</li>\n<li>\n<h1>b</h1>\n</li>\n</ul>\n" ∷ []))
unfolding running
v33 = tt

v34 : T (shows (off Lf) ("- a\n 1. b\n" ∷ []) (enter 22 ∷ enter 23 ∷ enter 24 ∷ enter 25 ∷ exit 25 0 1 ∷ enter 1 ∷ exit 1 1 2 ∷ exit 24 0 2 ∷ enter 12 ∷ enter 5 ∷ exit 5 2 3 ∷ exit 12 2 3 ∷ exit 23 0 3 ∷ exit 22 0 3 ∷ enter 3 ∷ exit 3 3 4 ∷ enter 21 ∷ enter 23 ∷ enter 1 ∷ exit 1 4 5 ∷ enter 24 ∷ enter 26 ∷ exit 26 5 6 ∷ enter 25 ∷ exit 25 6 7 ∷ enter 1 ∷ exit 1 7 8 ∷ exit 24 5 8 ∷ enter 12 ∷ enter 5 ∷ exit 5 8 9 ∷ exit 12 8 9 ∷ exit 23 4 9 ∷ exit 21 4 9 ∷ enter 3 ∷ exit 3 9 10 ∷ []) ("<ul>\n<li>a</li>\n</ul>\n<ol>\n<li>b</li>\n</ol>\n" ∷ []))
unfolding running
v34 = tt

v35 : T (shows (off Lf) ("- - a\n" ∷ []) (enter 22 ∷ enter 23 ∷ enter 24 ∷ enter 25 ∷ exit 25 0 1 ∷ enter 1 ∷ exit 1 1 2 ∷ exit 24 0 2 ∷ enter 22 ∷ enter 23 ∷ enter 24 ∷ enter 25 ∷ exit 25 2 3 ∷ enter 1 ∷ exit 1 3 4 ∷ exit 24 2 4 ∷ enter 12 ∷ enter 5 ∷ exit 5 4 5 ∷ exit 12 4 5 ∷ exit 23 2 5 ∷ exit 22 2 5 ∷ exit 23 0 5 ∷ exit 22 0 5 ∷ enter 3 ∷ exit 3 5 6 ∷ []) ("<ul>\n<li>\n<ul>\n<li>a</li>\n</ul>\n</li>\n</ul>\n" ∷ []))
unfolding running
v35 = tt

v36 : T (shows (off Lf) ("- 1. - a" ∷ []) (enter 22 ∷ enter 23 ∷ enter 24 ∷ enter 25 ∷ exit 25 0 1 ∷ enter 1 ∷ exit 1 1 2 ∷ exit 24 0 2 ∷ enter 21 ∷ enter 23 ∷ enter 24 ∷ enter 26 ∷ exit 26 2 3 ∷ enter 25 ∷ exit 25 3 4 ∷ enter 1 ∷ exit 1 4 5 ∷ exit 24 2 5 ∷ enter 22 ∷ enter 23 ∷ enter 24 ∷ enter 25 ∷ exit 25 5 6 ∷ enter 1 ∷ exit 1 6 7 ∷ exit 24 5 7 ∷ enter 12 ∷ enter 5 ∷ exit 5 7 8 ∷ exit 12 7 8 ∷ exit 23 5 8 ∷ exit 22 5 8 ∷ exit 23 2 8 ∷ exit 21 2 8 ∷ exit 23 0 8 ∷ exit 22 0 8 ∷ []) ("<ul>\n<li>\n<ol>\n<li>\n<ul>\n<li>a</li>\n</ul>\n</li>\n</ol>\n</li>\n</ul>" ∷ []))
unfolding running
v36 = tt

v37 : T (shows (off Cr) ("- 1. - a" ∷ []) (enter 22 ∷ enter 23 ∷ enter 24 ∷ enter 25 ∷ exit 25 0 1 ∷ enter 1 ∷ exit 1 1 2 ∷ exit 24 0 2 ∷ enter 21 ∷ enter 23 ∷ enter 24 ∷ enter 26 ∷ exit 26 2 3 ∷ enter 25 ∷ exit 25 3 4 ∷ enter 1 ∷ exit 1 4 5 ∷ exit 24 2 5 ∷ enter 22 ∷ enter 23 ∷ enter 24 ∷ enter 25 ∷ exit 25 5 6 ∷ enter 1 ∷ exit 1 6 7 ∷ exit 24 5 7 ∷ enter 12 ∷ enter 5 ∷ exit 5 7 8 ∷ exit 12 7 8 ∷ exit 23 5 8 ∷ exit 22 5 8 ∷ exit 23 2 8 ∷ exit 21 2 8 ∷ exit 23 0 8 ∷ exit 22 0 8 ∷ []) ("<ul>\r<li>\r<ol>\r<li>\r<ul>\r<li>a</li>\r</ul>\r</li>\r</ol>\r</li>\r</ul>" ∷ []))
unfolding running
v37 = tt

v38 : T (shows (off CrLf) ("- 1. - a" ∷ []) (enter 22 ∷ enter 23 ∷ enter 24 ∷ enter 25 ∷ exit 25 0 1 ∷ enter 1 ∷ exit 1 1 2 ∷ exit 24 0 2 ∷ enter 21 ∷ enter 23 ∷ enter 24 ∷ enter 26 ∷ exit 26 2 3 ∷ enter 25 ∷ exit 25 3 4 ∷ enter 1 ∷ exit 1 4 5 ∷ exit 24 2 5 ∷ enter 22 ∷ enter 23 ∷ enter 24 ∷ enter 25 ∷ exit 25 5 6 ∷ enter 1 ∷ exit 1 6 7 ∷ exit 24 5 7 ∷ enter 12 ∷ enter 5 ∷ exit 5 7 8 ∷ exit 12 7 8 ∷ exit 23 5 8 ∷ exit 22 5 8 ∷ exit 23 2 8 ∷ exit 21 2 8 ∷ exit 23 0 8 ∷ exit 22 0 8 ∷ []) ("<ul>\r\n<li>\r\n<ol>\r\n<li>\r\n<ul>\r\n<li>a</li>\r\n</ul>\r\n</li>\r\n</ol>\r\n</li>\r\n</ul>" ∷ []))
unfolding running
v38 = tt

v39 : T (shows (off Lf) ("-     a\n\n      b" ∷ []) (enter_with 22 1 ∷ enter 23 ∷ enter 24 ∷ enter 25 ∷ exit 25 0 1 ∷ enter 1 ∷ exit 1 1 2 ∷ exit 24 0 2 ∷ enter 27 ∷ enter 1 ∷ exit 1 2 6 ∷ enter 32 ∷ exit 32 6 7 ∷ exit 27 2 7 ∷ enter 3 ∷ exit 3 7 8 ∷ enter 4 ∷ exit 4 8 9 ∷ enter 1 ∷ exit 1 9 11 ∷ enter 27 ∷ enter 1 ∷ exit 1 11 15 ∷ enter 32 ∷ exit 32 15 16 ∷ exit 27 11 16 ∷ exit 23 0 16 ∷ exit 22 0 16 ∷ []) ("<ul>\n<li>\n<pre><code>a\n</code></pre>\n<pre><code>b\n</code></pre>\n</li>\n</ul>" ∷ []))
unfolding running
v39 = tt

v40 : T (shows (off Lf) ("-\ta\n\tb\n\n\t\tc" ∷ []) (enter_with 22 1 ∷ enter 23 ∷ enter 24 ∷ enter 25 ∷ exit 25 0 1 ∷ enter 1 ∷ exit 1 1 2 ∷ exit 24 0 2 ∷ enter 12 ∷ enter 5 ∷ exit 5 2 3 ∷ enter 3 ∷ exit 3 3 4 ∷ enter 1 ∷ exit 1 4 5 ∷ enter 1 ∷ exit 1 5 5 ∷ enter 5 ∷ exit 5 4 6 ∷ exit 12 2 6 ∷ enter 3 ∷ exit 3 6 7 ∷ enter 4 ∷ exit 4 7 8 ∷ enter 1 ∷ exit 1 8 9 ∷ enter 27 ∷ enter 1 ∷ exit 1 9 10 ∷ enter 32 ∷ exit_with 32 10 11 2 0 ∷ exit 27 9 11 ∷ exit 23 0 11 ∷ exit 22 0 11 ∷ []) ("<ul>\n<li>\n<p>a\n\tb</p>\n<pre><code>  c\n</code></pre>\n</li>\n</ul>" ∷ []))
unfolding running
v40 = tt

v41 : T (shows (off Lf) ("1.\ta\n\n\tb" ∷ []) (enter_with 21 1 ∷ enter 23 ∷ enter 24 ∷ enter 26 ∷ exit 26 0 1 ∷ enter 25 ∷ exit 25 1 2 ∷ enter 1 ∷ exit 1 2 3 ∷ exit 24 0 3 ∷ enter 12 ∷ enter 5 ∷ exit 5 3 4 ∷ exit 12 3 4 ∷ enter 3 ∷ exit 3 4 5 ∷ enter 4 ∷ exit 4 5 6 ∷ enter 1 ∷ exit 1 6 7 ∷ enter 12 ∷ enter 1 ∷ exit 1 7 7 ∷ enter 5 ∷ exit 5 6 8 ∷ exit 12 7 8 ∷ exit 23 0 8 ∷ exit 21 0 8 ∷ []) ("<ol>\n<li>\n<p>a</p>\n<p>\tb</p>\n</li>\n</ol>" ∷ []))
unfolding running
v41 = tt

v42 : T (shows (off Lf) ("- a\nb\n" ∷ []) (enter 22 ∷ enter 23 ∷ enter 24 ∷ enter 25 ∷ exit 25 0 1 ∷ enter 1 ∷ exit 1 1 2 ∷ exit 24 0 2 ∷ enter 12 ∷ enter 5 ∷ exit 5 2 3 ∷ enter 3 ∷ exit 3 3 4 ∷ enter 5 ∷ exit 5 4 5 ∷ exit 12 2 5 ∷ exit 23 0 5 ∷ exit 22 0 5 ∷ enter 3 ∷ exit 3 5 6 ∷ []) ("<ul>\n<li>a\nb</li>\n</ul>\n" ∷ []))
unfolding running
v42 = tt

v43 : T (shows (off Lf) ("- > a\nb\n" ∷ []) (enter 22 ∷ enter 23 ∷ enter 24 ∷ enter 25 ∷ exit 25 0 1 ∷ enter 1 ∷ exit 1 1 2 ∷ exit 24 0 2 ∷ enter 20 ∷ enter 2 ∷ enter 0 ∷ exit 0 2 3 ∷ enter 1 ∷ exit 1 3 4 ∷ exit 2 2 4 ∷ enter 12 ∷ enter 5 ∷ exit 5 4 5 ∷ enter 3 ∷ exit 3 5 6 ∷ enter 5 ∷ exit 5 6 7 ∷ exit 12 4 7 ∷ exit 20 2 7 ∷ exit 23 0 7 ∷ exit 22 0 7 ∷ enter 3 ∷ exit 3 7 8 ∷ []) ("<ul>\n<li>\n<blockquote>\n<p>a\nb</p>\n</blockquote>\n</li>\n</ul>\n" ∷ []))
unfolding running
v43 = tt

v44 : T (shows (off Lf) ("> - a\n> - b\n" ∷ []) (enter 20 ∷ enter 2 ∷ enter 0 ∷ exit 0 0 1 ∷ enter 1 ∷ exit 1 1 2 ∷ exit 2 0 2 ∷ enter 22 ∷ enter 23 ∷ enter 24 ∷ enter 25 ∷ exit 25 2 3 ∷ enter 1 ∷ exit 1 3 4 ∷ exit 24 2 4 ∷ enter 12 ∷ enter 5 ∷ exit 5 4 5 ∷ exit 12 4 5 ∷ exit 23 2 5 ∷ enter 3 ∷ exit 3 5 6 ∷ enter 2 ∷ enter 0 ∷ exit 0 6 7 ∷ enter 1 ∷ exit 1 7 8 ∷ exit 2 6 8 ∷ enter 23 ∷ enter 24 ∷ enter 25 ∷ exit 25 8 9 ∷ enter 1 ∷ exit 1 9 10 ∷ exit 24 8 10 ∷ enter 12 ∷ enter 5 ∷ exit 5 10 11 ∷ exit 12 10 11 ∷ exit 23 8 11 ∷ exit 22 2 11 ∷ exit 20 0 11 ∷ enter 3 ∷ exit 3 11 12 ∷ []) ("<blockquote>\n<ul>\n<li>a</li>\n<li>b</li>\n</ul>\n</blockquote>\n" ∷ []))
unfolding running
v44 = tt

v45 : T (shows (off Lf) ("> - a\nb" ∷ []) (enter 20 ∷ enter 2 ∷ enter 0 ∷ exit 0 0 1 ∷ enter 1 ∷ exit 1 1 2 ∷ exit 2 0 2 ∷ enter 22 ∷ enter 23 ∷ enter 24 ∷ enter 25 ∷ exit 25 2 3 ∷ enter 1 ∷ exit 1 3 4 ∷ exit 24 2 4 ∷ enter 12 ∷ enter 5 ∷ exit 5 4 5 ∷ enter 3 ∷ exit 3 5 6 ∷ enter 5 ∷ exit 5 6 7 ∷ exit 12 4 7 ∷ exit 23 2 7 ∷ exit 22 2 7 ∷ exit 20 0 7 ∷ []) ("<blockquote>\n<ul>\n<li>a\nb</li>\n</ul>\n</blockquote>" ∷ []))
unfolding running
v45 = tt

v46 : T (shows (off Lf) ("> 1. a\n>\n> 2. b" ∷ []) (enter 20 ∷ enter 2 ∷ enter 0 ∷ exit 0 0 1 ∷ enter 1 ∷ exit 1 1 2 ∷ exit 2 0 2 ∷ enter_with 21 1 ∷ enter 23 ∷ enter 24 ∷ enter 26 ∷ exit 26 2 3 ∷ enter 25 ∷ exit 25 3 4 ∷ enter 1 ∷ exit 1 4 5 ∷ exit 24 2 5 ∷ enter 12 ∷ enter 5 ∷ exit 5 5 6 ∷ exit 12 5 6 ∷ enter 3 ∷ exit 3 6 7 ∷ enter 2 ∷ enter 0 ∷ exit 0 7 8 ∷ exit 2 7 8 ∷ exit 23 2 8 ∷ enter 4 ∷ exit 4 8 9 ∷ enter 2 ∷ enter 0 ∷ exit 0 9 10 ∷ enter 1 ∷ exit 1 10 11 ∷ exit 2 9 11 ∷ enter 23 ∷ enter 24 ∷ enter 26 ∷ exit 26 11 12 ∷ enter 25 ∷ exit 25 12 13 ∷ enter 1 ∷ exit 1 13 14 ∷ exit 24 11 14 ∷ enter 12 ∷ enter 5 ∷ exit 5 14 15 ∷ exit 12 14 15 ∷ exit 23 11 15 ∷ exit 21 2 15 ∷ exit 20 0 15 ∷ []) ("<blockquote>\n<ol>\n<li>\n<p>a</p>\n</li>\n<li>\n<p>b</p>\n</li>\n</ol>\n</blockquote>" ∷ []))
unfolding running
v46 = tt

v47 : T (shows (off Lf) ("- a\n- \n- b" ∷ []) (enter 22 ∷ enter 23 ∷ enter 24 ∷ enter 25 ∷ exit 25 0 1 ∷ enter 1 ∷ exit 1 1 2 ∷ exit 24 0 2 ∷ enter 12 ∷ enter 5 ∷ exit 5 2 3 ∷ exit 12 2 3 ∷ exit 23 0 3 ∷ enter 3 ∷ exit 3 3 4 ∷ enter 23 ∷ enter 24 ∷ enter 25 ∷ exit 25 4 5 ∷ exit 24 4 5 ∷ enter 1 ∷ exit 1 5 6 ∷ exit 23 4 6 ∷ enter 4 ∷ exit 4 6 7 ∷ enter 23 ∷ enter 24 ∷ enter 25 ∷ exit 25 7 8 ∷ enter 1 ∷ exit 1 8 9 ∷ exit 24 7 9 ∷ enter 12 ∷ enter 5 ∷ exit 5 9 10 ∷ exit 12 9 10 ∷ exit 23 7 10 ∷ exit 22 0 10 ∷ []) ("<ul>\n<li>a</li>\n<li></li>\n<li>b</li>\n</ul>" ∷ []))
unfolding running
v47 = tt

v48 : T (shows (off Lf) ("- [a]: b\n" ∷ []) (enter 22 ∷ enter 23 ∷ enter 24 ∷ enter 25 ∷ exit 25 0 1 ∷ enter 1 ∷ exit 1 1 2 ∷ exit 24 0 2 ∷ enter 53 ∷ enter 0 ∷ enter 0 ∷ exit 0 2 3 ∷ enter 54 ∷ enter 5 ∷ exit 5 3 4 ∷ exit 54 3 4 ∷ enter 0 ∷ exit 0 4 5 ∷ exit 0 2 5 ∷ enter 0 ∷ exit 0 5 6 ∷ enter 1 ∷ exit 1 6 7 ∷ enter 0 ∷ enter 0 ∷ enter 55 ∷ enter 5 ∷ exit 5 7 8 ∷ exit 55 7 8 ∷ exit 0 7 8 ∷ exit 0 7 8 ∷ exit 53 2 8 ∷ exit 23 0 8 ∷ exit 22 0 8 ∷ enter 3 ∷ exit 3 8 9 ∷ []) ("<ul>\n<li></li>\n</ul>\n" ∷ []))
unfolding running
v48 = tt

v49 : T (shows (off Lf) ("- a\n\n  [a]: b\n" ∷ []) (enter_with 22 1 ∷ enter 23 ∷ enter 24 ∷ enter 25 ∷ exit 25 0 1 ∷ enter 1 ∷ exit 1 1 2 ∷ exit 24 0 2 ∷ enter 12 ∷ enter 5 ∷ exit 5 2 3 ∷ exit 12 2 3 ∷ enter 3 ∷ exit 3 3 4 ∷ enter 4 ∷ exit 4 4 5 ∷ enter 1 ∷ exit 1 5 7 ∷ enter 53 ∷ enter 0 ∷ enter 0 ∷ exit 0 7 8 ∷ enter 54 ∷ enter 5 ∷ exit 5 8 9 ∷ exit 54 8 9 ∷ enter 0 ∷ exit 0 9 10 ∷ exit 0 7 10 ∷ enter 0 ∷ exit 0 10 11 ∷ enter 1 ∷ exit 1 11 12 ∷ enter 0 ∷ enter 0 ∷ enter 55 ∷ enter 5 ∷ exit 5 12 13 ∷ exit 55 12 13 ∷ exit 0 12 13 ∷ exit 0 12 13 ∷ exit 53 7 13 ∷ exit 23 0 13 ∷ exit 22 0 13 ∷ enter 3 ∷ exit 3 13 14 ∷ []) ("<ul>\n<li>\n<p>a</p>\n</li>\n</ul>\n" ∷ []))
unfolding running
v49 = tt

v50 : T (shows (off Lf) ("- [a]: b\n- c [a]" ∷ []) (enter 22 ∷ enter 23 ∷ enter 24 ∷ enter 25 ∷ exit 25 0 1 ∷ enter 1 ∷ exit 1 1 2 ∷ exit 24 0 2 ∷ enter 53 ∷ enter 0 ∷ enter 0 ∷ exit 0 2 3 ∷ enter 54 ∷ enter 5 ∷ exit 5 3 4 ∷ exit 54 3 4 ∷ enter 0 ∷ exit 0 4 5 ∷ exit 0 2 5 ∷ enter 0 ∷ exit 0 5 6 ∷ enter 1 ∷ exit 1 6 7 ∷ enter 0 ∷ enter 0 ∷ enter 55 ∷ enter 5 ∷ exit 5 7 8 ∷ exit 55 7 8 ∷ exit 0 7 8 ∷ exit 0 7 8 ∷ exit 53 2 8 ∷ exit 23 0 8 ∷ enter 3 ∷ exit 3 8 9 ∷ enter 23 ∷ enter 24 ∷ enter 25 ∷ exit 25 9 10 ∷ enter 1 ∷ exit 1 10 11 ∷ exit 24 9 11 ∷ enter 12 ∷ enter 5 ∷ exit 5 11 13 ∷ enter 45 ∷ enter 47 ∷ enter 0 ∷ enter 0 ∷ exit 0 13 14 ∷ exit 0 13 14 ∷ enter 48 ∷ enter 5 ∷ exit 5 14 15 ∷ exit 48 14 15 ∷ enter 0 ∷ enter 0 ∷ exit 0 15 16 ∷ exit 0 15 16 ∷ exit 47 13 16 ∷ exit 45 13 16 ∷ exit 12 11 16 ∷ exit 23 9 16 ∷ exit 22 0 16 ∷ []) ("<ul>\n<li></li>\n<li>c <a href=\"b\">a</a></li>\n</ul>" ∷ []))
unfolding running
v50 = tt

v51 : T (shows (off Lf) ("- a\n  [^a]: b\n" ∷ []) (enter 22 ∷ enter 23 ∷ enter 24 ∷ enter 25 ∷ exit 25 0 1 ∷ enter 1 ∷ exit 1 1 2 ∷ exit 24 0 2 ∷ enter 12 ∷ enter 5 ∷ exit 5 2 3 ∷ exit 12 2 3 ∷ enter 3 ∷ exit 3 3 4 ∷ enter 1 ∷ exit 1 4 6 ∷ enter 63 ∷ enter 64 ∷ enter 0 ∷ enter 0 ∷ exit 0 6 7 ∷ enter 0 ∷ exit 0 7 8 ∷ enter 65 ∷ enter 5 ∷ exit 5 8 9 ∷ exit 65 8 9 ∷ enter 0 ∷ exit 0 9 10 ∷ exit 0 6 10 ∷ enter 0 ∷ exit 0 10 11 ∷ enter 1 ∷ exit 1 11 12 ∷ exit 64 6 12 ∷ enter 12 ∷ enter 5 ∷ exit 5 12 13 ∷ exit 12 12 13 ∷ exit 63 6 13 ∷ exit 23 0 13 ∷ exit 22 0 13 ∷ enter 3 ∷ exit 3 13 14 ∷ []) ("<ul>\n<li>a</li>\n</ul>\n" ∷ []))
unfolding running
v51 = tt

v52 : T (shows (off Lf) ("* > \n* a" ∷ []) (enter 22 ∷ enter 23 ∷ enter 24 ∷ enter 25 ∷ exit 25 0 1 ∷ enter 1 ∷ exit 1 1 2 ∷ exit 24 0 2 ∷ enter 20 ∷ enter 2 ∷ enter 0 ∷ exit 0 2 3 ∷ enter 1 ∷ exit 1 3 4 ∷ exit 2 2 4 ∷ exit 20 2 4 ∷ exit 23 0 4 ∷ enter 4 ∷ exit 4 4 5 ∷ enter 23 ∷ enter 24 ∷ enter 25 ∷ exit 25 5 6 ∷ enter 1 ∷ exit 1 6 7 ∷ exit 24 5 7 ∷ enter 12 ∷ enter 5 ∷ exit 5 7 8 ∷ exit 12 7 8 ∷ exit 23 5 8 ∷ exit 22 0 8 ∷ []) ("<ul>\n<li>\n<blockquote>\n</blockquote>\n</li>\n<li>a</li>\n</ul>" ∷ []))
unfolding running
v52 = tt

v53 : T (shows (off Lf) ("* >\n\n* a" ∷ []) (enter_with 22 1 ∷ enter 23 ∷ enter 24 ∷ enter 25 ∷ exit 25 0 1 ∷ enter 1 ∷ exit 1 1 2 ∷ exit 24 0 2 ∷ enter 20 ∷ enter 2 ∷ enter 0 ∷ exit 0 2 3 ∷ exit 2 2 3 ∷ exit 20 2 3 ∷ enter 4 ∷ exit 4 3 4 ∷ exit 23 0 4 ∷ enter 4 ∷ exit 4 4 5 ∷ enter 23 ∷ enter 24 ∷ enter 25 ∷ exit 25 5 6 ∷ enter 1 ∷ exit 1 6 7 ∷ exit 24 5 7 ∷ enter 12 ∷ enter 5 ∷ exit 5 7 8 ∷ exit 12 7 8 ∷ exit 23 5 8 ∷ exit 22 0 8 ∷ []) ("<ul>\n<li>\n<blockquote>\n</blockquote>\n</li>\n<li>\n<p>a</p>\n</li>\n</ul>" ∷ []))
unfolding running
v53 = tt

v54 : T (shows (off Lf) ("* > a\n  >\n* b" ∷ []) (enter 22 ∷ enter 23 ∷ enter 24 ∷ enter 25 ∷ exit 25 0 1 ∷ enter 1 ∷ exit 1 1 2 ∷ exit 24 0 2 ∷ enter 20 ∷ enter 2 ∷ enter 0 ∷ exit 0 2 3 ∷ enter 1 ∷ exit 1 3 4 ∷ exit 2 2 4 ∷ enter 12 ∷ enter 5 ∷ exit 5 4 5 ∷ exit 12 4 5 ∷ enter 3 ∷ exit 3 5 6 ∷ enter 1 ∷ exit 1 6 8 ∷ enter 2 ∷ enter 0 ∷ exit 0 8 9 ∷ exit 2 8 9 ∷ exit 20 2 9 ∷ exit 23 0 9 ∷ enter 4 ∷ exit 4 9 10 ∷ enter 23 ∷ enter 24 ∷ enter 25 ∷ exit 25 10 11 ∷ enter 1 ∷ exit 1 11 12 ∷ exit 24 10 12 ∷ enter 12 ∷ enter 5 ∷ exit 5 12 13 ∷ exit 12 12 13 ∷ exit 23 10 13 ∷ exit 22 0 13 ∷ []) ("<ul>\n<li>\n<blockquote>\n<p>a</p>\n</blockquote>\n</li>\n<li>b</li>\n</ul>" ∷ []))
unfolding running
v54 = tt

v55 : T (shows (off Lf) ("- a\n-" ∷ []) (enter 22 ∷ enter 23 ∷ enter 24 ∷ enter 25 ∷ exit 25 0 1 ∷ enter 1 ∷ exit 1 1 2 ∷ exit 24 0 2 ∷ enter 12 ∷ enter 5 ∷ exit 5 2 3 ∷ exit 12 2 3 ∷ exit 23 0 3 ∷ enter 3 ∷ exit 3 3 4 ∷ enter 23 ∷ enter 24 ∷ enter 25 ∷ exit 25 4 5 ∷ exit 24 4 5 ∷ exit 23 4 5 ∷ exit 22 0 5 ∷ []) ("<ul>\n<li>a</li>\n<li></li>\n</ul>" ∷ []))
unfolding running
v55 = tt

v56 : T (shows (off Lf) ("- a\n\n-\n\n- b" ∷ []) (enter_with 22 1 ∷ enter 23 ∷ enter 24 ∷ enter 25 ∷ exit 25 0 1 ∷ enter 1 ∷ exit 1 1 2 ∷ exit 24 0 2 ∷ enter 12 ∷ enter 5 ∷ exit 5 2 3 ∷ exit 12 2 3 ∷ enter 3 ∷ exit 3 3 4 ∷ exit 23 0 4 ∷ enter 4 ∷ exit 4 4 5 ∷ enter 23 ∷ enter 24 ∷ enter 25 ∷ exit 25 5 6 ∷ exit 24 5 6 ∷ exit 23 5 6 ∷ enter 4 ∷ exit 4 6 7 ∷ enter 4 ∷ exit 4 7 8 ∷ enter 23 ∷ enter 24 ∷ enter 25 ∷ exit 25 8 9 ∷ enter 1 ∷ exit 1 9 10 ∷ exit 24 8 10 ∷ enter 12 ∷ enter 5 ∷ exit 5 10 11 ∷ exit 12 10 11 ∷ exit 23 8 11 ∷ exit 22 0 11 ∷ []) ("<ul>\n<li>\n<p>a</p>\n</li>\n<li></li>\n<li>\n<p>b</p>\n</li>\n</ul>" ∷ []))
unfolding running
v56 = tt

v57 : T (shows (off Lf) ("- <div>\n- b" ∷ []) (enter 22 ∷ enter 23 ∷ enter 24 ∷ enter 25 ∷ exit 25 0 1 ∷ enter 1 ∷ exit 1 1 2 ∷ exit 24 0 2 ∷ enter 35 ∷ enter 36 ∷ exit 36 2 7 ∷ exit 35 2 7 ∷ exit 23 0 7 ∷ enter 3 ∷ exit 3 7 8 ∷ enter 23 ∷ enter 24 ∷ enter 25 ∷ exit 25 8 9 ∷ enter 1 ∷ exit 1 9 10 ∷ exit 24 8 10 ∷ enter 12 ∷ enter 5 ∷ exit 5 10 11 ∷ exit 12 10 11 ∷ exit 23 8 11 ∷ exit 22 0 11 ∷ []) ("<ul>\n<li>\n&lt;div&gt;\n</li>\n<li>b</li>\n</ul>" ∷ []))
unfolding running
v57 = tt

v58 : T (shows (html Lf) ("- <div>\n- b" ∷ []) (enter 22 ∷ enter 23 ∷ enter 24 ∷ enter 25 ∷ exit 25 0 1 ∷ enter 1 ∷ exit 1 1 2 ∷ exit 24 0 2 ∷ enter 35 ∷ enter 36 ∷ exit 36 2 7 ∷ exit 35 2 7 ∷ exit 23 0 7 ∷ enter 3 ∷ exit 3 7 8 ∷ enter 23 ∷ enter 24 ∷ enter 25 ∷ exit 25 8 9 ∷ enter 1 ∷ exit 1 9 10 ∷ exit 24 8 10 ∷ enter 12 ∷ enter 5 ∷ exit 5 10 11 ∷ exit 12 10 11 ∷ exit 23 8 11 ∷ exit 22 0 11 ∷ []) ("<ul>\n<li>\n<div>\n</li>\n<li>b</li>\n</ul>" ∷ []))
unfolding running
v58 = tt

v59 : T (shows (on Lf) ("- <div>\n- b" ∷ []) (enter 22 ∷ enter 23 ∷ enter 24 ∷ enter 25 ∷ exit 25 0 1 ∷ enter 1 ∷ exit 1 1 2 ∷ exit 24 0 2 ∷ enter 35 ∷ enter 36 ∷ exit 36 2 7 ∷ exit 35 2 7 ∷ exit 23 0 7 ∷ enter 3 ∷ exit 3 7 8 ∷ enter 23 ∷ enter 24 ∷ enter 25 ∷ exit 25 8 9 ∷ enter 1 ∷ exit 1 9 10 ∷ exit 24 8 10 ∷ enter 12 ∷ enter 5 ∷ exit 5 10 11 ∷ exit 12 10 11 ∷ exit 23 8 11 ∷ exit 22 0 11 ∷ []) ("<ul>\n<li>\n<div>\n</li>\n<li>b</li>\n</ul>" ∷ []))
unfolding running
v59 = tt

v60 : T (shows (off Lf) ("- a\n  ***\n- b" ∷ []) (enter 22 ∷ enter 23 ∷ enter 24 ∷ enter 25 ∷ exit 25 0 1 ∷ enter 1 ∷ exit 1 1 2 ∷ exit 24 0 2 ∷ enter 12 ∷ enter 5 ∷ exit 5 2 3 ∷ exit 12 2 3 ∷ enter 3 ∷ exit 3 3 4 ∷ enter 1 ∷ exit 1 4 6 ∷ enter 19 ∷ enter 0 ∷ exit 0 6 9 ∷ exit 19 6 9 ∷ exit 23 0 9 ∷ enter 3 ∷ exit 3 9 10 ∷ enter 23 ∷ enter 24 ∷ enter 25 ∷ exit 25 10 11 ∷ enter 1 ∷ exit 1 11 12 ∷ exit 24 10 12 ∷ enter 12 ∷ enter 5 ∷ exit 5 12 13 ∷ exit 12 12 13 ∷ exit 23 10 13 ∷ exit 22 0 13 ∷ []) ("<ul>\n<li>a\n<hr />\n</li>\n<li>b</li>\n</ul>" ∷ []))
unfolding running
v60 = tt

v61 : T (shows (off Lf) ("1. a\n\n\n2. b\n\n" ∷ []) (enter_with 21 1 ∷ enter 23 ∷ enter 24 ∷ enter 26 ∷ exit 26 0 1 ∷ enter 25 ∷ exit 25 1 2 ∷ enter 1 ∷ exit 1 2 3 ∷ exit 24 0 3 ∷ enter 12 ∷ enter 5 ∷ exit 5 3 4 ∷ exit 12 3 4 ∷ enter 3 ∷ exit 3 4 5 ∷ enter 4 ∷ exit 4 5 6 ∷ exit 23 0 6 ∷ enter 4 ∷ exit 4 6 7 ∷ enter 23 ∷ enter 24 ∷ enter 26 ∷ exit 26 7 8 ∷ enter 25 ∷ exit 25 8 9 ∷ enter 1 ∷ exit 1 9 10 ∷ exit 24 7 10 ∷ enter 12 ∷ enter 5 ∷ exit 5 10 11 ∷ exit 12 10 11 ∷ enter 3 ∷ exit 3 11 12 ∷ exit 23 7 12 ∷ exit 21 0 12 ∷ enter 4 ∷ exit 4 12 13 ∷ []) ("<ol>\n<li>\n<p>a</p>\n</li>\n<li>\n<p>b</p>\n</li>\n</ol>\n" ∷ []))
unfolding running
v61 = tt

v62 : T (shows (off Lf) ("- a\n    - b\n\n    - c\n- d" ∷ []) (enter 22 ∷ enter 23 ∷ enter 24 ∷ enter 25 ∷ exit 25 0 1 ∷ enter 1 ∷ exit 1 1 2 ∷ exit 24 0 2 ∷ enter 12 ∷ enter 5 ∷ exit 5 2 3 ∷ exit 12 2 3 ∷ enter 3 ∷ exit 3 3 4 ∷ enter 1 ∷ exit 1 4 6 ∷ enter_with 22 1 ∷ enter 23 ∷ enter 1 ∷ exit 1 6 8 ∷ enter 24 ∷ enter 25 ∷ exit 25 8 9 ∷ enter 1 ∷ exit 1 9 10 ∷ exit 24 8 10 ∷ enter 12 ∷ enter 5 ∷ exit 5 10 11 ∷ exit 12 10 11 ∷ enter 3 ∷ exit 3 11 12 ∷ exit 23 6 12 ∷ enter 4 ∷ exit 4 12 13 ∷ enter 1 ∷ exit 1 13 15 ∷ enter 23 ∷ enter 1 ∷ exit 1 15 17 ∷ enter 24 ∷ enter 25 ∷ exit 25 17 18 ∷ enter 1 ∷ exit 1 18 19 ∷ exit 24 17 19 ∷ enter 12 ∷ enter 5 ∷ exit 5 19 20 ∷ exit 12 19 20 ∷ exit 23 15 20 ∷ exit 22 6 20 ∷ exit 23 0 20 ∷ enter 3 ∷ exit 3 20 21 ∷ enter 23 ∷ enter 24 ∷ enter 25 ∷ exit 25 21 22 ∷ enter 1 ∷ exit 1 22 23 ∷ exit 24 21 23 ∷ enter 12 ∷ enter 5 ∷ exit 5 23 24 ∷ exit 12 23 24 ∷ exit 23 21 24 ∷ exit 22 0 24 ∷ []) ("<ul>\n<li>a\n<ul>\n<li>\n<p>b</p>\n</li>\n<li>\n<p>c</p>\n</li>\n</ul>\n</li>\n<li>d</li>\n</ul>" ∷ []))
unfolding running
v62 = tt

v63 : T (shows (off Lf) ("- 1. a\n- b" ∷ []) (enter 22 ∷ enter 23 ∷ enter 24 ∷ enter 25 ∷ exit 25 0 1 ∷ enter 1 ∷ exit 1 1 2 ∷ exit 24 0 2 ∷ enter 21 ∷ enter 23 ∷ enter 24 ∷ enter 26 ∷ exit 26 2 3 ∷ enter 25 ∷ exit 25 3 4 ∷ enter 1 ∷ exit 1 4 5 ∷ exit 24 2 5 ∷ enter 12 ∷ enter 5 ∷ exit 5 5 6 ∷ exit 12 5 6 ∷ exit 23 2 6 ∷ exit 21 2 6 ∷ exit 23 0 6 ∷ enter 3 ∷ exit 3 6 7 ∷ enter 23 ∷ enter 24 ∷ enter 25 ∷ exit 25 7 8 ∷ enter 1 ∷ exit 1 8 9 ∷ exit 24 7 9 ∷ enter 12 ∷ enter 5 ∷ exit 5 9 10 ∷ exit 12 9 10 ∷ exit 23 7 10 ∷ exit 22 0 10 ∷ []) ("<ul>\n<li>\n<ol>\n<li>a</li>\n</ol>\n</li>\n<li>b</li>\n</ul>" ∷ []))
unfolding running
v63 = tt

v64 : T (shows (off Lf) ("3. - a\n4. b" ∷ []) (enter 21 ∷ enter 23 ∷ enter 24 ∷ enter 26 ∷ exit 26 0 1 ∷ enter 25 ∷ exit 25 1 2 ∷ enter 1 ∷ exit 1 2 3 ∷ exit 24 0 3 ∷ enter 22 ∷ enter 23 ∷ enter 24 ∷ enter 25 ∷ exit 25 3 4 ∷ enter 1 ∷ exit 1 4 5 ∷ exit 24 3 5 ∷ enter 12 ∷ enter 5 ∷ exit 5 5 6 ∷ exit 12 5 6 ∷ exit 23 3 6 ∷ exit 22 3 6 ∷ exit 23 0 6 ∷ enter 3 ∷ exit 3 6 7 ∷ enter 23 ∷ enter 24 ∷ enter 26 ∷ exit 26 7 8 ∷ enter 25 ∷ exit 25 8 9 ∷ enter 1 ∷ exit 1 9 10 ∷ exit 24 7 10 ∷ enter 12 ∷ enter 5 ∷ exit 5 10 11 ∷ exit 12 10 11 ∷ exit 23 7 11 ∷ exit 21 0 11 ∷ []) ("<ol start=\"3\">\n<li>\n<ul>\n<li>a</li>\n</ul>\n</li>\n<li>b</li>\n</ol>" ∷ []))
unfolding running
v64 = tt

v65 : T (shows (off Lf) ("- a\n\n  1. b\n\n  2. c\n- d" ∷ []) (enter_with 22 1 ∷ enter 23 ∷ enter 24 ∷ enter 25 ∷ exit 25 0 1 ∷ enter 1 ∷ exit 1 1 2 ∷ exit 24 0 2 ∷ enter 12 ∷ enter 5 ∷ exit 5 2 3 ∷ exit 12 2 3 ∷ enter 3 ∷ exit 3 3 4 ∷ enter 4 ∷ exit 4 4 5 ∷ enter 1 ∷ exit 1 5 7 ∷ enter_with 21 1 ∷ enter 23 ∷ enter 24 ∷ enter 26 ∷ exit 26 7 8 ∷ enter 25 ∷ exit 25 8 9 ∷ enter 1 ∷ exit 1 9 10 ∷ exit 24 7 10 ∷ enter 12 ∷ enter 5 ∷ exit 5 10 11 ∷ exit 12 10 11 ∷ enter 3 ∷ exit 3 11 12 ∷ exit 23 7 12 ∷ enter 4 ∷ exit 4 12 13 ∷ enter 1 ∷ exit 1 13 15 ∷ enter 23 ∷ enter 24 ∷ enter 26 ∷ exit 26 15 16 ∷ enter 25 ∷ exit 25 16 17 ∷ enter 1 ∷ exit 1 17 18 ∷ exit 24 15 18 ∷ enter 12 ∷ enter 5 ∷ exit 5 18 19 ∷ exit 12 18 19 ∷ exit 23 15 19 ∷ exit 21 7 19 ∷ exit 23 0 19 ∷ enter 3 ∷ exit 3 19 20 ∷ enter 23 ∷ enter 24 ∷ enter 25 ∷ exit 25 20 21 ∷ enter 1 ∷ exit 1 21 22 ∷ exit 24 20 22 ∷ enter 12 ∷ enter 5 ∷ exit 5 22 23 ∷ exit 12 22 23 ∷ exit 23 20 23 ∷ exit 22 0 23 ∷ []) ("<ul>\n<li>\n<p>a</p>\n<ol>\n<li>\n<p>b</p>\n</li>\n<li>\n<p>c</p>\n</li>\n</ol>\n</li>\n<li>\n<p>d</p>\n</li>\n</ul>" ∷ []))
unfolding running
v65 = tt

v66 : T (shows (off Lf) ("1. a\n\n   b\n2. c" ∷ []) (enter_with 21 1 ∷ enter 23 ∷ enter 24 ∷ enter 26 ∷ exit 26 0 1 ∷ enter 25 ∷ exit 25 1 2 ∷ enter 1 ∷ exit 1 2 3 ∷ exit 24 0 3 ∷ enter 12 ∷ enter 5 ∷ exit 5 3 4 ∷ exit 12 3 4 ∷ enter 3 ∷ exit 3 4 5 ∷ enter 4 ∷ exit 4 5 6 ∷ enter 1 ∷ exit 1 6 9 ∷ enter 12 ∷ enter 5 ∷ exit 5 9 10 ∷ exit 12 9 10 ∷ exit 23 0 10 ∷ enter 3 ∷ exit 3 10 11 ∷ enter 23 ∷ enter 24 ∷ enter 26 ∷ exit 26 11 12 ∷ enter 25 ∷ exit 25 12 13 ∷ enter 1 ∷ exit 1 13 14 ∷ exit 24 11 14 ∷ enter 12 ∷ enter 5 ∷ exit 5 14 15 ∷ exit 12 14 15 ∷ exit 23 11 15 ∷ exit 21 0 15 ∷ []) ("<ol>\n<li>\n<p>a</p>\n<p>b</p>\n</li>\n<li>\n<p>c</p>\n</li>\n</ol>" ∷ []))
unfolding running
v66 = tt

v67 : T (shows (off Lf) ("- a\n- b\n\n\n  c" ∷ []) (enter_with 22 1 ∷ enter 23 ∷ enter 24 ∷ enter 25 ∷ exit 25 0 1 ∷ enter 1 ∷ exit 1 1 2 ∷ exit 24 0 2 ∷ enter 12 ∷ enter 5 ∷ exit 5 2 3 ∷ exit 12 2 3 ∷ exit 23 0 3 ∷ enter 3 ∷ exit 3 3 4 ∷ enter 23 ∷ enter 24 ∷ enter 25 ∷ exit 25 4 5 ∷ enter 1 ∷ exit 1 5 6 ∷ exit 24 4 6 ∷ enter 12 ∷ enter 5 ∷ exit 5 6 7 ∷ exit 12 6 7 ∷ enter 3 ∷ exit 3 7 8 ∷ enter 4 ∷ exit 4 8 9 ∷ enter 4 ∷ exit 4 9 10 ∷ enter 1 ∷ exit 1 10 12 ∷ enter 12 ∷ enter 5 ∷ exit 5 12 13 ∷ exit 12 12 13 ∷ exit 23 4 13 ∷ exit 22 0 13 ∷ []) ("<ul>\n<li>\n<p>a</p>\n</li>\n<li>\n<p>b</p>\n<p>c</p>\n</li>\n</ul>" ∷ []))
unfolding running
v67 = tt

v68 : T (shows (off Lf) ("10. a\n11. b" ∷ []) (enter 21 ∷ enter 23 ∷ enter 24 ∷ enter 26 ∷ exit 26 0 2 ∷ enter 25 ∷ exit 25 2 3 ∷ enter 1 ∷ exit 1 3 4 ∷ exit 24 0 4 ∷ enter 12 ∷ enter 5 ∷ exit 5 4 5 ∷ exit 12 4 5 ∷ exit 23 0 5 ∷ enter 3 ∷ exit 3 5 6 ∷ enter 23 ∷ enter 24 ∷ enter 26 ∷ exit 26 6 8 ∷ enter 25 ∷ exit 25 8 9 ∷ enter 1 ∷ exit 1 9 10 ∷ exit 24 6 10 ∷ enter 12 ∷ enter 5 ∷ exit 5 10 11 ∷ exit 12 10 11 ∷ exit 23 6 11 ∷ exit 21 0 11 ∷ []) ("<ol start=\"10\">\n<li>a</li>\n<li>b</li>\n</ol>" ∷ []))
unfolding running
v68 = tt

v69 : T (shows (off Lf) ("-\n  # a\n- b" ∷ []) (enter 22 ∷ enter 23 ∷ enter 24 ∷ enter 25 ∷ exit 25 0 1 ∷ exit 24 0 1 ∷ enter 4 ∷ exit 4 1 2 ∷ enter 1 ∷ exit 1 2 4 ∷ enter 13 ∷ enter 14 ∷ exit 14 4 5 ∷ enter 1 ∷ exit 1 5 6 ∷ enter 15 ∷ enter 5 ∷ exit 5 6 7 ∷ exit 15 6 7 ∷ exit 13 4 7 ∷ exit 23 0 7 ∷ enter 3 ∷ exit 3 7 8 ∷ enter 23 ∷ enter 24 ∷ enter 25 ∷ exit 25 8 9 ∷ enter 1 ∷ exit 1 9 10 ∷ exit 24 8 10 ∷ enter 12 ∷ enter 5 ∷ exit 5 10 11 ∷ exit 12 10 11 ∷ exit 23 8 11 ∷ exit 22 0 11 ∷ []) ("<ul>\n<li>\n<h1>a</h1>\n</li>\n<li>b</li>\n</ul>" ∷ []))
unfolding running
v69 = tt

v70 : T (shows (off Lf) ("- ***\n- a" ∷ []) (enter 22 ∷ enter 23 ∷ enter 24 ∷ enter 25 ∷ exit 25 0 1 ∷ enter 1 ∷ exit 1 1 2 ∷ exit 24 0 2 ∷ enter 19 ∷ enter 0 ∷ exit 0 2 5 ∷ exit 19 2 5 ∷ exit 23 0 5 ∷ enter 3 ∷ exit 3 5 6 ∷ enter 23 ∷ enter 24 ∷ enter 25 ∷ exit 25 6 7 ∷ enter 1 ∷ exit 1 7 8 ∷ exit 24 6 8 ∷ enter 12 ∷ enter 5 ∷ exit 5 8 9 ∷ exit 12 8 9 ∷ exit 23 6 9 ∷ exit 22 0 9 ∷ []) ("<ul>\n<li>\n<hr />\n</li>\n<li>a</li>\n</ul>" ∷ []))
unfolding running
v70 = tt

v71 : T (shows (off Lf) ("- a\n  b\n- c" ∷ []) (enter 22 ∷ enter 23 ∷ enter 24 ∷ enter 25 ∷ exit 25 0 1 ∷ enter 1 ∷ exit 1 1 2 ∷ exit 24 0 2 ∷ enter 12 ∷ enter 5 ∷ exit 5 2 3 ∷ enter 3 ∷ exit 3 3 4 ∷ enter 1 ∷ exit 1 4 6 ∷ enter 5 ∷ exit 5 6 7 ∷ exit 12 2 7 ∷ exit 23 0 7 ∷ enter 3 ∷ exit 3 7 8 ∷ enter 23 ∷ enter 24 ∷ enter 25 ∷ exit 25 8 9 ∷ enter 1 ∷ exit 1 9 10 ∷ exit 24 8 10 ∷ enter 12 ∷ enter 5 ∷ exit 5 10 11 ∷ exit 12 10 11 ∷ exit 23 8 11 ∷ exit 22 0 11 ∷ []) ("<ul>\n<li>a\nb</li>\n<li>c</li>\n</ul>" ∷ []))
unfolding running
v71 = tt

v72 : T (shows (off Lf) ("- a\n  * b\n  * c\n- d\n" ∷ []) (enter 22 ∷ enter 23 ∷ enter 24 ∷ enter 25 ∷ exit 25 0 1 ∷ enter 1 ∷ exit 1 1 2 ∷ exit 24 0 2 ∷ enter 12 ∷ enter 5 ∷ exit 5 2 3 ∷ exit 12 2 3 ∷ enter 3 ∷ exit 3 3 4 ∷ enter 1 ∷ exit 1 4 6 ∷ enter 22 ∷ enter 23 ∷ enter 24 ∷ enter 25 ∷ exit 25 6 7 ∷ enter 1 ∷ exit 1 7 8 ∷ exit 24 6 8 ∷ enter 12 ∷ enter 5 ∷ exit 5 8 9 ∷ exit 12 8 9 ∷ exit 23 6 9 ∷ enter 3 ∷ exit 3 9 10 ∷ enter 1 ∷ exit 1 10 12 ∷ enter 23 ∷ enter 24 ∷ enter 25 ∷ exit 25 12 13 ∷ enter 1 ∷ exit 1 13 14 ∷ exit 24 12 14 ∷ enter 12 ∷ enter 5 ∷ exit 5 14 15 ∷ exit 12 14 15 ∷ exit 23 12 15 ∷ exit 22 6 15 ∷ exit 23 0 15 ∷ enter 3 ∷ exit 3 15 16 ∷ enter 23 ∷ enter 24 ∷ enter 25 ∷ exit 25 16 17 ∷ enter 1 ∷ exit 1 17 18 ∷ exit 24 16 18 ∷ enter 12 ∷ enter 5 ∷ exit 5 18 19 ∷ exit 12 18 19 ∷ exit 23 16 19 ∷ exit 22 0 19 ∷ enter 3 ∷ exit 3 19 20 ∷ []) ("<ul>\n<li>a\n<ul>\n<li>b</li>\n<li>c</li>\n</ul>\n</li>\n<li>d</li>\n</ul>\n" ∷ []))
unfolding running
v72 = tt
