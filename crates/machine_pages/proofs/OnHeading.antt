-- Headings of both kinds: pages of the crate markdown 1.0.0. Made by tools/machine_pages. Assumes nothing.
use mathlib.Core.List.{[], ◌∷◌}
use lib.Dec.{T}
use Rattle.machine.specs.declared.Ending.TheVariants.{Lf}
use Rattle.machine.proofs.Running.{running}
use Rattle.machine.proofs.Answers.{shows, off, enter, exit}

v1 : T (shows (off Lf) ("# a" ∷ []) (enter 13 ∷ enter 14 ∷ exit 14 0 1 ∷ enter 1 ∷ exit 1 1 2 ∷ enter 15 ∷ enter 5 ∷ exit 5 2 3 ∷ exit 15 2 3 ∷ exit 13 0 3 ∷ []) ("<h1>a</h1>" ∷ []))
unfolding running
v1 = tt

v2 : T (shows (off Lf) ("# a #" ∷ []) (enter 13 ∷ enter 14 ∷ exit 14 0 1 ∷ enter 1 ∷ exit 1 1 2 ∷ enter 15 ∷ enter 5 ∷ exit 5 2 3 ∷ exit 15 2 3 ∷ enter 1 ∷ exit 1 3 4 ∷ enter 14 ∷ exit 14 4 5 ∷ exit 13 0 5 ∷ []) ("<h1>a</h1>" ∷ []))
unfolding running
v2 = tt

v3 : T (shows (off Lf) ("## a *b* ## \n" ∷ []) (enter 13 ∷ enter 14 ∷ exit 14 0 2 ∷ enter 1 ∷ exit 1 2 3 ∷ enter 15 ∷ enter 5 ∷ exit 5 3 5 ∷ enter 39 ∷ enter 0 ∷ exit 0 5 6 ∷ enter 0 ∷ enter 5 ∷ exit 5 6 7 ∷ exit 0 6 7 ∷ enter 0 ∷ exit 0 7 8 ∷ exit 39 5 8 ∷ exit 15 3 8 ∷ enter 1 ∷ exit 1 8 9 ∷ enter 14 ∷ exit 14 9 11 ∷ enter 1 ∷ exit 1 11 12 ∷ exit 13 0 12 ∷ enter 3 ∷ exit 3 12 13 ∷ []) ("<h2>a <em>b</em></h2>\n" ∷ []))
unfolding running
v3 = tt

v4 : T (shows (off Lf) ("#\n" ∷ []) (enter 13 ∷ enter 14 ∷ exit 14 0 1 ∷ exit 13 0 1 ∷ enter 3 ∷ exit 3 1 2 ∷ []) ("<h1></h1>\n" ∷ []))
unfolding running
v4 = tt

v5 : T (shows (off Lf) ("#######\n" ∷ []) (enter 12 ∷ enter 5 ∷ exit 5 0 7 ∷ exit 12 0 7 ∷ enter 3 ∷ exit 3 7 8 ∷ []) ("<p>#######</p>\n" ∷ []))
unfolding running
v5 = tt

v6 : T (shows (off Lf) ("# \n" ∷ []) (enter 13 ∷ enter 14 ∷ exit 14 0 1 ∷ enter 1 ∷ exit 1 1 2 ∷ exit 13 0 2 ∷ enter 3 ∷ exit 3 2 3 ∷ []) ("<h1></h1>\n" ∷ []))
unfolding running
v6 = tt

v7 : T (shows (off Lf) ("###### a\nb" ∷ []) (enter 13 ∷ enter 14 ∷ exit 14 0 6 ∷ enter 1 ∷ exit 1 6 7 ∷ enter 15 ∷ enter 5 ∷ exit 5 7 8 ∷ exit 15 7 8 ∷ exit 13 0 8 ∷ enter 3 ∷ exit 3 8 9 ∷ enter 12 ∷ enter 5 ∷ exit 5 9 10 ∷ exit 12 9 10 ∷ []) ("<h6>a</h6>\n<p>b</p>" ∷ []))
unfolding running
v7 = tt

v8 : T (shows (off Lf) ("#\ta\t#\t" ∷ []) (enter 13 ∷ enter 14 ∷ exit 14 0 1 ∷ enter 1 ∷ exit 1 1 2 ∷ enter 15 ∷ enter 5 ∷ exit 5 2 3 ∷ exit 15 2 3 ∷ enter 1 ∷ exit 1 3 4 ∷ enter 14 ∷ exit 14 4 5 ∷ enter 1 ∷ exit 1 5 6 ∷ exit 13 0 6 ∷ []) ("<h1>a</h1>" ∷ []))
unfolding running
v8 = tt

v9 : T (shows (off Lf) ("#a" ∷ []) (enter 12 ∷ enter 5 ∷ exit 5 0 2 ∷ exit 12 0 2 ∷ []) ("<p>#a</p>" ∷ []))
unfolding running
v9 = tt

v10 : T (shows (off Lf) ("a\n=" ∷ []) (enter 16 ∷ enter 17 ∷ enter 5 ∷ exit 5 0 1 ∷ exit 17 0 1 ∷ enter 3 ∷ exit 3 1 2 ∷ enter 0 ∷ enter 18 ∷ exit 18 2 3 ∷ exit 0 2 3 ∷ exit 16 0 3 ∷ []) ("<h1>a</h1>" ∷ []))
unfolding running
v10 = tt

v11 : T (shows (off Lf) ("a\n-\n" ∷ []) (enter 16 ∷ enter 17 ∷ enter 5 ∷ exit 5 0 1 ∷ exit 17 0 1 ∷ enter 3 ∷ exit 3 1 2 ∷ enter 0 ∷ enter 18 ∷ exit 18 2 3 ∷ exit 0 2 3 ∷ exit 16 0 3 ∷ enter 3 ∷ exit 3 3 4 ∷ []) ("<h2>a</h2>\n" ∷ []))
unfolding running
v11 = tt

v12 : T (shows (off Lf) ("a\nb\n===\n" ∷ []) (enter 16 ∷ enter 17 ∷ enter 5 ∷ exit 5 0 1 ∷ enter 3 ∷ exit 3 1 2 ∷ enter 5 ∷ exit 5 2 3 ∷ exit 17 0 3 ∷ enter 3 ∷ exit 3 3 4 ∷ enter 0 ∷ enter 18 ∷ exit 18 4 7 ∷ exit 0 4 7 ∷ exit 16 0 7 ∷ enter 3 ∷ exit 3 7 8 ∷ []) ("<h1>a\nb</h1>\n" ∷ []))
unfolding running
v12 = tt

v13 : T (shows (off Lf) ("a *b\nc* d\n---" ∷ []) (enter 16 ∷ enter 17 ∷ enter 5 ∷ exit 5 0 2 ∷ enter 39 ∷ enter 0 ∷ exit 0 2 3 ∷ enter 0 ∷ enter 5 ∷ exit 5 3 4 ∷ enter 3 ∷ exit 3 4 5 ∷ enter 5 ∷ exit 5 5 6 ∷ exit 0 3 6 ∷ enter 0 ∷ exit 0 6 7 ∷ exit 39 2 7 ∷ enter 5 ∷ exit 5 7 9 ∷ exit 17 0 9 ∷ enter 3 ∷ exit 3 9 10 ∷ enter 0 ∷ enter 18 ∷ exit 18 10 13 ∷ exit 0 10 13 ∷ exit 16 0 13 ∷ []) ("<h2>a <em>b\nc</em> d</h2>" ∷ []))
unfolding running
v13 = tt

v14 : T (shows (off Lf) ("  a  \n  ==  " ∷ []) (enter 16 ∷ enter 17 ∷ enter 1 ∷ exit 1 0 2 ∷ enter 5 ∷ exit 5 2 3 ∷ enter 1 ∷ exit 1 3 5 ∷ exit 17 0 5 ∷ enter 3 ∷ exit 3 5 6 ∷ enter 0 ∷ enter 1 ∷ exit 1 6 8 ∷ enter 18 ∷ exit 18 8 10 ∷ enter 1 ∷ exit 1 10 12 ∷ exit 0 6 12 ∷ exit 16 0 12 ∷ []) ("<h1>a</h1>" ∷ []))
unfolding running
v14 = tt

v15 : T (shows (off Lf) ("> a\n> =" ∷ []) (enter 20 ∷ enter 2 ∷ enter 0 ∷ exit 0 0 1 ∷ enter 1 ∷ exit 1 1 2 ∷ exit 2 0 2 ∷ enter 16 ∷ enter 17 ∷ enter 5 ∷ exit 5 2 3 ∷ exit 17 2 3 ∷ enter 3 ∷ exit 3 3 4 ∷ enter 2 ∷ enter 0 ∷ exit 0 4 5 ∷ enter 1 ∷ exit 1 5 6 ∷ exit 2 4 6 ∷ enter 0 ∷ enter 18 ∷ exit 18 6 7 ∷ exit 0 6 7 ∷ exit 16 2 7 ∷ exit 20 0 7 ∷ []) ("<blockquote>\n<h1>a</h1>\n</blockquote>" ∷ []))
unfolding running
v15 = tt

v16 : T (shows (off Lf) ("- a\n  =" ∷ []) (enter 22 ∷ enter 23 ∷ enter 24 ∷ enter 25 ∷ exit 25 0 1 ∷ enter 1 ∷ exit 1 1 2 ∷ exit 24 0 2 ∷ enter 16 ∷ enter 17 ∷ enter 5 ∷ exit 5 2 3 ∷ exit 17 2 3 ∷ enter 3 ∷ exit 3 3 4 ∷ enter 1 ∷ exit 1 4 6 ∷ enter 0 ∷ enter 18 ∷ exit 18 6 7 ∷ exit 0 6 7 ∷ exit 16 2 7 ∷ exit 23 0 7 ∷ exit 22 0 7 ∷ []) ("<ul>\n<li>\n<h1>a</h1>\n</li>\n</ul>" ∷ []))
unfolding running
v16 = tt

v17 : T (shows (off Lf) ("a\n=\nb\n-\n" ∷ []) (enter 16 ∷ enter 17 ∷ enter 5 ∷ exit 5 0 1 ∷ exit 17 0 1 ∷ enter 3 ∷ exit 3 1 2 ∷ enter 0 ∷ enter 18 ∷ exit 18 2 3 ∷ exit 0 2 3 ∷ exit 16 0 3 ∷ enter 3 ∷ exit 3 3 4 ∷ enter 16 ∷ enter 17 ∷ enter 5 ∷ exit 5 4 5 ∷ exit 17 4 5 ∷ enter 3 ∷ exit 3 5 6 ∷ enter 0 ∷ enter 18 ∷ exit 18 6 7 ∷ exit 0 6 7 ∷ exit 16 4 7 ∷ enter 3 ∷ exit 3 7 8 ∷ []) ("<h1>a</h1>\n<h2>b</h2>\n" ∷ []))
unfolding running
v17 = tt

v18 : T (shows (off Lf) ("[a]: b\n=" ∷ []) (enter 53 ∷ enter 0 ∷ enter 0 ∷ exit 0 0 1 ∷ enter 54 ∷ enter 5 ∷ exit 5 1 2 ∷ exit 54 1 2 ∷ enter 0 ∷ exit 0 2 3 ∷ exit 0 0 3 ∷ enter 0 ∷ exit 0 3 4 ∷ enter 1 ∷ exit 1 4 5 ∷ enter 0 ∷ enter 0 ∷ enter 55 ∷ enter 5 ∷ exit 5 5 6 ∷ exit 55 5 6 ∷ exit 0 5 6 ∷ exit 0 5 6 ∷ exit 53 0 6 ∷ enter 3 ∷ exit 3 6 7 ∷ enter 12 ∷ enter 5 ∷ exit 5 7 8 ∷ exit 12 7 8 ∷ []) ("<p>=</p>" ∷ []))
unfolding running
v18 = tt

v19 : T (shows (off Lf) ("[a]: b\nc\n=" ∷ []) (enter 53 ∷ enter 0 ∷ enter 0 ∷ exit 0 0 1 ∷ enter 54 ∷ enter 5 ∷ exit 5 1 2 ∷ exit 54 1 2 ∷ enter 0 ∷ exit 0 2 3 ∷ exit 0 0 3 ∷ enter 0 ∷ exit 0 3 4 ∷ enter 1 ∷ exit 1 4 5 ∷ enter 0 ∷ enter 0 ∷ enter 55 ∷ enter 5 ∷ exit 5 5 6 ∷ exit 55 5 6 ∷ exit 0 5 6 ∷ exit 0 5 6 ∷ exit 53 0 6 ∷ enter 3 ∷ exit 3 6 7 ∷ enter 16 ∷ enter 17 ∷ enter 5 ∷ exit 5 7 8 ∷ exit 17 7 8 ∷ enter 3 ∷ exit 3 8 9 ∷ enter 0 ∷ enter 18 ∷ exit 18 9 10 ∷ exit 0 9 10 ∷ exit 16 7 10 ∷ []) ("<h1>c</h1>" ∷ []))
unfolding running
v19 = tt

v20 : T (shows (off Lf) ("# a\n# b\n" ∷ []) (enter 13 ∷ enter 14 ∷ exit 14 0 1 ∷ enter 1 ∷ exit 1 1 2 ∷ enter 15 ∷ enter 5 ∷ exit 5 2 3 ∷ exit 15 2 3 ∷ exit 13 0 3 ∷ enter 3 ∷ exit 3 3 4 ∷ enter 13 ∷ enter 14 ∷ exit 14 4 5 ∷ enter 1 ∷ exit 1 5 6 ∷ enter 15 ∷ enter 5 ∷ exit 5 6 7 ∷ exit 15 6 7 ∷ exit 13 4 7 ∷ enter 3 ∷ exit 3 7 8 ∷ []) ("<h1>a</h1>\n<h1>b</h1>\n" ∷ []))
unfolding running
v20 = tt

v21 : T (shows (off Lf) ("###### a ######\n## b" ∷ []) (enter 13 ∷ enter 14 ∷ exit 14 0 6 ∷ enter 1 ∷ exit 1 6 7 ∷ enter 15 ∷ enter 5 ∷ exit 5 7 8 ∷ exit 15 7 8 ∷ enter 1 ∷ exit 1 8 9 ∷ enter 14 ∷ exit 14 9 15 ∷ exit 13 0 15 ∷ enter 3 ∷ exit 3 15 16 ∷ enter 13 ∷ enter 14 ∷ exit 14 16 18 ∷ enter 1 ∷ exit 1 18 19 ∷ enter 15 ∷ enter 5 ∷ exit 5 19 20 ∷ exit 15 19 20 ∷ exit 13 16 20 ∷ []) ("<h6>a</h6>\n<h2>b</h2>" ∷ []))
unfolding running
v21 = tt

v22 : T (shows (off Lf) ("# `a` [b](c)\n" ∷ []) (enter 13 ∷ enter 14 ∷ exit 14 0 1 ∷ enter 1 ∷ exit 1 1 2 ∷ enter 15 ∷ enter 33 ∷ enter 0 ∷ exit 0 2 3 ∷ enter 34 ∷ exit 34 3 4 ∷ enter 0 ∷ exit 0 4 5 ∷ exit 33 2 5 ∷ enter 5 ∷ exit 5 5 6 ∷ enter 45 ∷ enter 47 ∷ enter 0 ∷ enter 0 ∷ exit 0 6 7 ∷ exit 0 6 7 ∷ enter 48 ∷ enter 5 ∷ exit 5 7 8 ∷ exit 48 7 8 ∷ enter 0 ∷ enter 0 ∷ exit 0 8 9 ∷ exit 0 8 9 ∷ exit 47 6 9 ∷ enter 49 ∷ enter 0 ∷ exit 0 9 10 ∷ enter 0 ∷ enter 0 ∷ enter 50 ∷ enter 5 ∷ exit 5 10 11 ∷ exit 50 10 11 ∷ exit 0 10 11 ∷ exit 0 10 11 ∷ enter 0 ∷ exit 0 11 12 ∷ exit 49 9 12 ∷ exit 45 6 12 ∷ exit 15 2 12 ∷ exit 13 0 12 ∷ enter 3 ∷ exit 3 12 13 ∷ []) ("<h1><code>a</code> <a href=\"c\">b</a></h1>\n" ∷ []))
unfolding running
v22 = tt

v23 : T (shows (off Lf) ("a\n=\n\n\nb" ∷ []) (enter 16 ∷ enter 17 ∷ enter 5 ∷ exit 5 0 1 ∷ exit 17 0 1 ∷ enter 3 ∷ exit 3 1 2 ∷ enter 0 ∷ enter 18 ∷ exit 18 2 3 ∷ exit 0 2 3 ∷ exit 16 0 3 ∷ enter 3 ∷ exit 3 3 4 ∷ enter 4 ∷ exit 4 4 5 ∷ enter 4 ∷ exit 4 5 6 ∷ enter 12 ∷ enter 5 ∷ exit 5 6 7 ∷ exit 12 6 7 ∷ []) ("<h1>a</h1>\n<p>b</p>" ∷ []))
unfolding running
v23 = tt

v24 : T (shows (off Lf) ("> a\n> -\n> b" ∷ []) (enter 20 ∷ enter 2 ∷ enter 0 ∷ exit 0 0 1 ∷ enter 1 ∷ exit 1 1 2 ∷ exit 2 0 2 ∷ enter 16 ∷ enter 17 ∷ enter 5 ∷ exit 5 2 3 ∷ exit 17 2 3 ∷ enter 3 ∷ exit 3 3 4 ∷ enter 2 ∷ enter 0 ∷ exit 0 4 5 ∷ enter 1 ∷ exit 1 5 6 ∷ exit 2 4 6 ∷ enter 0 ∷ enter 18 ∷ exit 18 6 7 ∷ exit 0 6 7 ∷ exit 16 2 7 ∷ enter 3 ∷ exit 3 7 8 ∷ enter 2 ∷ enter 0 ∷ exit 0 8 9 ∷ enter 1 ∷ exit 1 9 10 ∷ exit 2 8 10 ∷ enter 12 ∷ enter 5 ∷ exit 5 10 11 ∷ exit 12 10 11 ∷ exit 20 0 11 ∷ []) ("<blockquote>\n<h2>a</h2>\n<p>b</p>\n</blockquote>" ∷ []))
unfolding running
v24 = tt
