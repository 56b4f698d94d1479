-- Links with resources: pages of the crate markdown 1.0.0. Made by tools/machine_pages. Assumes nothing.
use mathlib.Core.List.{[], ◌∷◌}
use lib.Dec.{T}
use Rattle.machine.specs.declared.Ending.TheVariants.{Lf}
use Rattle.machine.proofs.Running.{running}
use Rattle.machine.proofs.Answers.{shows, off, html, protocol, on, enter, exit}

v1 : T (shows (off Lf) ("[a](b)" ∷ []) (enter 12 ∷ enter 45 ∷ enter 47 ∷ enter 0 ∷ enter 0 ∷ exit 0 0 1 ∷ exit 0 0 1 ∷ enter 48 ∷ enter 5 ∷ exit 5 1 2 ∷ exit 48 1 2 ∷ enter 0 ∷ enter 0 ∷ exit 0 2 3 ∷ exit 0 2 3 ∷ exit 47 0 3 ∷ enter 49 ∷ enter 0 ∷ exit 0 3 4 ∷ enter 0 ∷ enter 0 ∷ enter 50 ∷ enter 5 ∷ exit 5 4 5 ∷ exit 50 4 5 ∷ exit 0 4 5 ∷ exit 0 4 5 ∷ enter 0 ∷ exit 0 5 6 ∷ exit 49 3 6 ∷ exit 45 0 6 ∷ exit 12 0 6 ∷ []) ("<p><a href=\"b\">a</a></p>" ∷ []))
unfolding running
v1 = tt

v2 : T (shows (off Lf) ("[a](<b c>)" ∷ []) (enter 12 ∷ enter 45 ∷ enter 47 ∷ enter 0 ∷ enter 0 ∷ exit 0 0 1 ∷ exit 0 0 1 ∷ enter 48 ∷ enter 5 ∷ exit 5 1 2 ∷ exit 48 1 2 ∷ enter 0 ∷ enter 0 ∷ exit 0 2 3 ∷ exit 0 2 3 ∷ exit 47 0 3 ∷ enter 49 ∷ enter 0 ∷ exit 0 3 4 ∷ enter 0 ∷ enter 0 ∷ enter 0 ∷ exit 0 4 5 ∷ enter 50 ∷ enter 5 ∷ exit 5 5 8 ∷ exit 50 5 8 ∷ enter 0 ∷ exit 0 8 9 ∷ exit 0 4 9 ∷ exit 0 4 9 ∷ enter 0 ∷ exit 0 9 10 ∷ exit 49 3 10 ∷ exit 45 0 10 ∷ exit 12 0 10 ∷ []) ("<p><a href=\"b%20c\">a</a></p>" ∷ []))
unfolding running
v2 = tt

v3 : T (shows (off Lf) ("[a](b \"c\")" ∷ []) (enter 12 ∷ enter 45 ∷ enter 47 ∷ enter 0 ∷ enter 0 ∷ exit 0 0 1 ∷ exit 0 0 1 ∷ enter 48 ∷ enter 5 ∷ exit 5 1 2 ∷ exit 48 1 2 ∷ enter 0 ∷ enter 0 ∷ exit 0 2 3 ∷ exit 0 2 3 ∷ exit 47 0 3 ∷ enter 49 ∷ enter 0 ∷ exit 0 3 4 ∷ enter 0 ∷ enter 0 ∷ enter 50 ∷ enter 5 ∷ exit 5 4 5 ∷ exit 50 4 5 ∷ exit 0 4 5 ∷ exit 0 4 5 ∷ enter 1 ∷ exit 1 5 6 ∷ enter 0 ∷ enter 0 ∷ exit 0 6 7 ∷ enter 51 ∷ enter 5 ∷ exit 5 7 8 ∷ exit 51 7 8 ∷ enter 0 ∷ exit 0 8 9 ∷ exit 0 6 9 ∷ enter 0 ∷ exit 0 9 10 ∷ exit 49 3 10 ∷ exit 45 0 10 ∷ exit 12 0 10 ∷ []) ("<p><a href=\"b\" title=\"c\">a</a></p>" ∷ []))
unfolding running
v3 = tt

v4 : T (shows (off Lf) ("[a](b 'c&amp;\"d')" ∷ []) (enter 12 ∷ enter 45 ∷ enter 47 ∷ enter 0 ∷ enter 0 ∷ exit 0 0 1 ∷ exit 0 0 1 ∷ enter 48 ∷ enter 5 ∷ exit 5 1 2 ∷ exit 48 1 2 ∷ enter 0 ∷ enter 0 ∷ exit 0 2 3 ∷ exit 0 2 3 ∷ exit 47 0 3 ∷ enter 49 ∷ enter 0 ∷ exit 0 3 4 ∷ enter 0 ∷ enter 0 ∷ enter 50 ∷ enter 5 ∷ exit 5 4 5 ∷ exit 50 4 5 ∷ exit 0 4 5 ∷ exit 0 4 5 ∷ enter 1 ∷ exit 1 5 6 ∷ enter 0 ∷ enter 0 ∷ exit 0 6 7 ∷ enter 51 ∷ enter 5 ∷ exit 5 7 8 ∷ enter 7 ∷ enter 8 ∷ exit 8 8 9 ∷ enter 11 ∷ exit 11 9 12 ∷ enter 0 ∷ exit 0 12 13 ∷ exit 7 8 13 ∷ enter 5 ∷ exit 5 13 15 ∷ exit 51 7 15 ∷ enter 0 ∷ exit 0 15 16 ∷ exit 0 6 16 ∷ enter 0 ∷ exit 0 16 17 ∷ exit 49 3 17 ∷ exit 45 0 17 ∷ exit 12 0 17 ∷ []) ("<p><a href=\"b\" title=\"c&amp;&quot;d\">a</a></p>" ∷ []))
unfolding running
v4 = tt

v5 : T (shows (off Lf) ("[a](b (c\nd))" ∷ []) (enter 12 ∷ enter 45 ∷ enter 47 ∷ enter 0 ∷ enter 0 ∷ exit 0 0 1 ∷ exit 0 0 1 ∷ enter 48 ∷ enter 5 ∷ exit 5 1 2 ∷ exit 48 1 2 ∷ enter 0 ∷ enter 0 ∷ exit 0 2 3 ∷ exit 0 2 3 ∷ exit 47 0 3 ∷ enter 49 ∷ enter 0 ∷ exit 0 3 4 ∷ enter 0 ∷ enter 0 ∷ enter 50 ∷ enter 5 ∷ exit 5 4 5 ∷ exit 50 4 5 ∷ exit 0 4 5 ∷ exit 0 4 5 ∷ enter 1 ∷ exit 1 5 6 ∷ enter 0 ∷ enter 0 ∷ exit 0 6 7 ∷ enter 51 ∷ enter 5 ∷ exit 5 7 8 ∷ enter 3 ∷ exit 3 8 9 ∷ enter 5 ∷ exit 5 9 10 ∷ exit 51 7 10 ∷ enter 0 ∷ exit 0 10 11 ∷ exit 0 6 11 ∷ enter 0 ∷ exit 0 11 12 ∷ exit 49 3 12 ∷ exit 45 0 12 ∷ exit 12 0 12 ∷ []) ("<p><a href=\"b\" title=\"c\nd\">a</a></p>" ∷ []))
unfolding running
v5 = tt

v6 : T (shows (off Lf) ("[a]()" ∷ []) (enter 12 ∷ enter 45 ∷ enter 47 ∷ enter 0 ∷ enter 0 ∷ exit 0 0 1 ∷ exit 0 0 1 ∷ enter 48 ∷ enter 5 ∷ exit 5 1 2 ∷ exit 48 1 2 ∷ enter 0 ∷ enter 0 ∷ exit 0 2 3 ∷ exit 0 2 3 ∷ exit 47 0 3 ∷ enter 49 ∷ enter 0 ∷ exit 0 3 4 ∷ enter 0 ∷ exit 0 4 5 ∷ exit 49 3 5 ∷ exit 45 0 5 ∷ exit 12 0 5 ∷ []) ("<p><a href=\"\">a</a></p>" ∷ []))
unfolding running
v6 = tt

v7 : T (shows (off Lf) ("[](b)" ∷ []) (enter 12 ∷ enter 45 ∷ enter 47 ∷ enter 0 ∷ enter 0 ∷ exit 0 0 1 ∷ exit 0 0 1 ∷ enter 48 ∷ exit 48 1 1 ∷ enter 0 ∷ enter 0 ∷ exit 0 1 2 ∷ exit 0 1 2 ∷ exit 47 0 2 ∷ enter 49 ∷ enter 0 ∷ exit 0 2 3 ∷ enter 0 ∷ enter 0 ∷ enter 50 ∷ enter 5 ∷ exit 5 3 4 ∷ exit 50 3 4 ∷ exit 0 3 4 ∷ exit 0 3 4 ∷ enter 0 ∷ exit 0 4 5 ∷ exit 49 2 5 ∷ exit 45 0 5 ∷ exit 12 0 5 ∷ []) ("<p><a href=\"b\"></a></p>" ∷ []))
unfolding running
v7 = tt

v8 : T (shows (off Lf) ("[]()" ∷ []) (enter 12 ∷ enter 45 ∷ enter 47 ∷ enter 0 ∷ enter 0 ∷ exit 0 0 1 ∷ exit 0 0 1 ∷ enter 48 ∷ exit 48 1 1 ∷ enter 0 ∷ enter 0 ∷ exit 0 1 2 ∷ exit 0 1 2 ∷ exit 47 0 2 ∷ enter 49 ∷ enter 0 ∷ exit 0 2 3 ∷ enter 0 ∷ exit 0 3 4 ∷ exit 49 2 4 ∷ exit 45 0 4 ∷ exit 12 0 4 ∷ []) ("<p><a href=\"\"></a></p>" ∷ []))
unfolding running
v8 = tt

v9 : T (shows (off Lf) ("[a](<>)" ∷ []) (enter 12 ∷ enter 45 ∷ enter 47 ∷ enter 0 ∷ enter 0 ∷ exit 0 0 1 ∷ exit 0 0 1 ∷ enter 48 ∷ enter 5 ∷ exit 5 1 2 ∷ exit 48 1 2 ∷ enter 0 ∷ enter 0 ∷ exit 0 2 3 ∷ exit 0 2 3 ∷ exit 47 0 3 ∷ enter 49 ∷ enter 0 ∷ exit 0 3 4 ∷ enter 0 ∷ enter 0 ∷ enter 0 ∷ exit 0 4 5 ∷ enter 0 ∷ exit 0 5 6 ∷ exit 0 4 6 ∷ exit 0 4 6 ∷ enter 0 ∷ exit 0 6 7 ∷ exit 49 3 7 ∷ exit 45 0 7 ∷ exit 12 0 7 ∷ []) ("<p><a href=\"\">a</a></p>" ∷ []))
unfolding running
v9 = tt

v10 : T (shows (off Lf) ("[a](\nb\n\"c\"\n)" ∷ []) (enter 12 ∷ enter 45 ∷ enter 47 ∷ enter 0 ∷ enter 0 ∷ exit 0 0 1 ∷ exit 0 0 1 ∷ enter 48 ∷ enter 5 ∷ exit 5 1 2 ∷ exit 48 1 2 ∷ enter 0 ∷ enter 0 ∷ exit 0 2 3 ∷ exit 0 2 3 ∷ exit 47 0 3 ∷ enter 49 ∷ enter 0 ∷ exit 0 3 4 ∷ enter 3 ∷ exit 3 4 5 ∷ enter 0 ∷ enter 0 ∷ enter 50 ∷ enter 5 ∷ exit 5 5 6 ∷ exit 50 5 6 ∷ exit 0 5 6 ∷ exit 0 5 6 ∷ enter 3 ∷ exit 3 6 7 ∷ enter 0 ∷ enter 0 ∷ exit 0 7 8 ∷ enter 51 ∷ enter 5 ∷ exit 5 8 9 ∷ exit 51 8 9 ∷ enter 0 ∷ exit 0 9 10 ∷ exit 0 7 10 ∷ enter 3 ∷ exit 3 10 11 ∷ enter 0 ∷ exit 0 11 12 ∷ exit 49 3 12 ∷ exit 45 0 12 ∷ exit 12 0 12 ∷ []) ("<p><a href=\"b\" title=\"c\">a</a></p>" ∷ []))
unfolding running
v10 = tt

v11 : T (shows (off Lf) ("[a](b\\)c)" ∷ []) (enter 12 ∷ enter 45 ∷ enter 47 ∷ enter 0 ∷ enter 0 ∷ exit 0 0 1 ∷ exit 0 0 1 ∷ enter 48 ∷ enter 5 ∷ exit 5 1 2 ∷ exit 48 1 2 ∷ enter 0 ∷ enter 0 ∷ exit 0 2 3 ∷ exit 0 2 3 ∷ exit 47 0 3 ∷ enter 49 ∷ enter 0 ∷ exit 0 3 4 ∷ enter 0 ∷ enter 0 ∷ enter 50 ∷ enter 5 ∷ exit 5 4 5 ∷ enter 0 ∷ enter 0 ∷ exit 0 5 6 ∷ enter 6 ∷ exit 6 6 7 ∷ exit 0 5 7 ∷ enter 5 ∷ exit 5 7 8 ∷ exit 50 4 8 ∷ exit 0 4 8 ∷ exit 0 4 8 ∷ enter 0 ∷ exit 0 8 9 ∷ exit 49 3 9 ∷ exit 45 0 9 ∷ exit 12 0 9 ∷ []) ("<p><a href=\"b)c\">a</a></p>" ∷ []))
unfolding running
v11 = tt

v12 : T (shows (off Lf) ("[a](b(c)d)" ∷ []) (enter 12 ∷ enter 45 ∷ enter 47 ∷ enter 0 ∷ enter 0 ∷ exit 0 0 1 ∷ exit 0 0 1 ∷ enter 48 ∷ enter 5 ∷ exit 5 1 2 ∷ exit 48 1 2 ∷ enter 0 ∷ enter 0 ∷ exit 0 2 3 ∷ exit 0 2 3 ∷ exit 47 0 3 ∷ enter 49 ∷ enter 0 ∷ exit 0 3 4 ∷ enter 0 ∷ enter 0 ∷ enter 50 ∷ enter 5 ∷ exit 5 4 9 ∷ exit 50 4 9 ∷ exit 0 4 9 ∷ exit 0 4 9 ∷ enter 0 ∷ exit 0 9 10 ∷ exit 49 3 10 ∷ exit 45 0 10 ∷ exit 12 0 10 ∷ []) ("<p><a href=\"b(c)d\">a</a></p>" ∷ []))
unfolding running
v12 = tt

v13 : T (shows (off Lf) ("[a](&quot;\\\"b)" ∷ []) (enter 12 ∷ enter 45 ∷ enter 47 ∷ enter 0 ∷ enter 0 ∷ exit 0 0 1 ∷ exit 0 0 1 ∷ enter 48 ∷ enter 5 ∷ exit 5 1 2 ∷ exit 48 1 2 ∷ enter 0 ∷ enter 0 ∷ exit 0 2 3 ∷ exit 0 2 3 ∷ exit 47 0 3 ∷ enter 49 ∷ enter 0 ∷ exit 0 3 4 ∷ enter 0 ∷ enter 0 ∷ enter 50 ∷ enter 7 ∷ enter 8 ∷ exit 8 4 5 ∷ enter 11 ∷ exit 11 5 9 ∷ enter 0 ∷ exit 0 9 10 ∷ exit 7 4 10 ∷ enter 0 ∷ enter 0 ∷ exit 0 10 11 ∷ enter 6 ∷ exit 6 11 12 ∷ exit 0 10 12 ∷ enter 5 ∷ exit 5 12 13 ∷ exit 50 4 13 ∷ exit 0 4 13 ∷ exit 0 4 13 ∷ enter 0 ∷ exit 0 13 14 ∷ exit 49 3 14 ∷ exit 45 0 14 ∷ exit 12 0 14 ∷ []) ("<p><a href=\"%22%22b\">a</a></p>" ∷ []))
unfolding running
v13 = tt

v14 : T (shows (off Lf) ("[a](javascript:b)" ∷ []) (enter 12 ∷ enter 45 ∷ enter 47 ∷ enter 0 ∷ enter 0 ∷ exit 0 0 1 ∷ exit 0 0 1 ∷ enter 48 ∷ enter 5 ∷ exit 5 1 2 ∷ exit 48 1 2 ∷ enter 0 ∷ enter 0 ∷ exit 0 2 3 ∷ exit 0 2 3 ∷ exit 47 0 3 ∷ enter 49 ∷ enter 0 ∷ exit 0 3 4 ∷ enter 0 ∷ enter 0 ∷ enter 50 ∷ enter 5 ∷ exit 5 4 16 ∷ exit 50 4 16 ∷ exit 0 4 16 ∷ exit 0 4 16 ∷ enter 0 ∷ exit 0 16 17 ∷ exit 49 3 17 ∷ exit 45 0 17 ∷ exit 12 0 17 ∷ []) ("<p><a href=\"\">a</a></p>" ∷ []))
unfolding running
v14 = tt

v15 : T (shows (protocol Lf) ("[a](javascript:b)" ∷ []) (enter 12 ∷ enter 45 ∷ enter 47 ∷ enter 0 ∷ enter 0 ∷ exit 0 0 1 ∷ exit 0 0 1 ∷ enter 48 ∷ enter 5 ∷ exit 5 1 2 ∷ exit 48 1 2 ∷ enter 0 ∷ enter 0 ∷ exit 0 2 3 ∷ exit 0 2 3 ∷ exit 47 0 3 ∷ enter 49 ∷ enter 0 ∷ exit 0 3 4 ∷ enter 0 ∷ enter 0 ∷ enter 50 ∷ enter 5 ∷ exit 5 4 16 ∷ exit 50 4 16 ∷ exit 0 4 16 ∷ exit 0 4 16 ∷ enter 0 ∷ exit 0 16 17 ∷ exit 49 3 17 ∷ exit 45 0 17 ∷ exit 12 0 17 ∷ []) ("<p><a href=\"javascript:b\">a</a></p>" ∷ []))
unfolding running
v15 = tt

v16 : T (shows (on Lf) ("[a](javascript:b)" ∷ []) (enter 12 ∷ enter 45 ∷ enter 47 ∷ enter 0 ∷ enter 0 ∷ exit 0 0 1 ∷ exit 0 0 1 ∷ enter 48 ∷ enter 5 ∷ exit 5 1 2 ∷ exit 48 1 2 ∷ enter 0 ∷ enter 0 ∷ exit 0 2 3 ∷ exit 0 2 3 ∷ exit 47 0 3 ∷ enter 49 ∷ enter 0 ∷ exit 0 3 4 ∷ enter 0 ∷ enter 0 ∷ enter 50 ∷ enter 5 ∷ exit 5 4 16 ∷ exit 50 4 16 ∷ exit 0 4 16 ∷ exit 0 4 16 ∷ enter 0 ∷ exit 0 16 17 ∷ exit 49 3 17 ∷ exit 45 0 17 ∷ exit 12 0 17 ∷ []) ("<p><a href=\"javascript:b\">a</a></p>" ∷ []))
unfolding running
v16 = tt

v17 : T (shows (off Lf) ("[a](JAVASCRIPT:b)" ∷ []) (enter 12 ∷ enter 45 ∷ enter 47 ∷ enter 0 ∷ enter 0 ∷ exit 0 0 1 ∷ exit 0 0 1 ∷ enter 48 ∷ enter 5 ∷ exit 5 1 2 ∷ exit 48 1 2 ∷ enter 0 ∷ enter 0 ∷ exit 0 2 3 ∷ exit 0 2 3 ∷ exit 47 0 3 ∷ enter 49 ∷ enter 0 ∷ exit 0 3 4 ∷ enter 0 ∷ enter 0 ∷ enter 50 ∷ enter 5 ∷ exit 5 4 16 ∷ exit 50 4 16 ∷ exit 0 4 16 ∷ exit 0 4 16 ∷ enter 0 ∷ exit 0 16 17 ∷ exit 49 3 17 ∷ exit 45 0 17 ∷ exit 12 0 17 ∷ []) ("<p><a href=\"\">a</a></p>" ∷ []))
unfolding running
v17 = tt

v18 : T (shows (protocol Lf) ("[a](JAVASCRIPT:b)" ∷ []) (enter 12 ∷ enter 45 ∷ enter 47 ∷ enter 0 ∷ enter 0 ∷ exit 0 0 1 ∷ exit 0 0 1 ∷ enter 48 ∷ enter 5 ∷ exit 5 1 2 ∷ exit 48 1 2 ∷ enter 0 ∷ enter 0 ∷ exit 0 2 3 ∷ exit 0 2 3 ∷ exit 47 0 3 ∷ enter 49 ∷ enter 0 ∷ exit 0 3 4 ∷ enter 0 ∷ enter 0 ∷ enter 50 ∷ enter 5 ∷ exit 5 4 16 ∷ exit 50 4 16 ∷ exit 0 4 16 ∷ exit 0 4 16 ∷ enter 0 ∷ exit 0 16 17 ∷ exit 49 3 17 ∷ exit 45 0 17 ∷ exit 12 0 17 ∷ []) ("<p><a href=\"JAVASCRIPT:b\">a</a></p>" ∷ []))
unfolding running
v18 = tt

v19 : T (shows (on Lf) ("[a](JAVASCRIPT:b)" ∷ []) (enter 12 ∷ enter 45 ∷ enter 47 ∷ enter 0 ∷ enter 0 ∷ exit 0 0 1 ∷ exit 0 0 1 ∷ enter 48 ∷ enter 5 ∷ exit 5 1 2 ∷ exit 48 1 2 ∷ enter 0 ∷ enter 0 ∷ exit 0 2 3 ∷ exit 0 2 3 ∷ exit 47 0 3 ∷ enter 49 ∷ enter 0 ∷ exit 0 3 4 ∷ enter 0 ∷ enter 0 ∷ enter 50 ∷ enter 5 ∷ exit 5 4 16 ∷ exit 50 4 16 ∷ exit 0 4 16 ∷ exit 0 4 16 ∷ enter 0 ∷ exit 0 16 17 ∷ exit 49 3 17 ∷ exit 45 0 17 ∷ exit 12 0 17 ∷ []) ("<p><a href=\"JAVASCRIPT:b\">a</a></p>" ∷ []))
unfolding running
v19 = tt

v20 : T (shows (off Lf) ("[a](:x)" ∷ []) (enter 12 ∷ enter 45 ∷ enter 47 ∷ enter 0 ∷ enter 0 ∷ exit 0 0 1 ∷ exit 0 0 1 ∷ enter 48 ∷ enter 5 ∷ exit 5 1 2 ∷ exit 48 1 2 ∷ enter 0 ∷ enter 0 ∷ exit 0 2 3 ∷ exit 0 2 3 ∷ exit 47 0 3 ∷ enter 49 ∷ enter 0 ∷ exit 0 3 4 ∷ enter 0 ∷ enter 0 ∷ enter 50 ∷ enter 5 ∷ exit 5 4 6 ∷ exit 50 4 6 ∷ exit 0 4 6 ∷ exit 0 4 6 ∷ enter 0 ∷ exit 0 6 7 ∷ exit 49 3 7 ∷ exit 45 0 7 ∷ exit 12 0 7 ∷ []) ("<p><a href=\"\">a</a></p>" ∷ []))
unfolding running
v20 = tt

v21 : T (shows (protocol Lf) ("[a](:x)" ∷ []) (enter 12 ∷ enter 45 ∷ enter 47 ∷ enter 0 ∷ enter 0 ∷ exit 0 0 1 ∷ exit 0 0 1 ∷ enter 48 ∷ enter 5 ∷ exit 5 1 2 ∷ exit 48 1 2 ∷ enter 0 ∷ enter 0 ∷ exit 0 2 3 ∷ exit 0 2 3 ∷ exit 47 0 3 ∷ enter 49 ∷ enter 0 ∷ exit 0 3 4 ∷ enter 0 ∷ enter 0 ∷ enter 50 ∷ enter 5 ∷ exit 5 4 6 ∷ exit 50 4 6 ∷ exit 0 4 6 ∷ exit 0 4 6 ∷ enter 0 ∷ exit 0 6 7 ∷ exit 49 3 7 ∷ exit 45 0 7 ∷ exit 12 0 7 ∷ []) ("<p><a href=\":x\">a</a></p>" ∷ []))
unfolding running
v21 = tt

v22 : T (shows (on Lf) ("[a](:x)" ∷ []) (enter 12 ∷ enter 45 ∷ enter 47 ∷ enter 0 ∷ enter 0 ∷ exit 0 0 1 ∷ exit 0 0 1 ∷ enter 48 ∷ enter 5 ∷ exit 5 1 2 ∷ exit 48 1 2 ∷ enter 0 ∷ enter 0 ∷ exit 0 2 3 ∷ exit 0 2 3 ∷ exit 47 0 3 ∷ enter 49 ∷ enter 0 ∷ exit 0 3 4 ∷ enter 0 ∷ enter 0 ∷ enter 50 ∷ enter 5 ∷ exit 5 4 6 ∷ exit 50 4 6 ∷ exit 0 4 6 ∷ exit 0 4 6 ∷ enter 0 ∷ exit 0 6 7 ∷ exit 49 3 7 ∷ exit 45 0 7 ∷ exit 12 0 7 ∷ []) ("<p><a href=\":x\">a</a></p>" ∷ []))
unfolding running
v22 = tt

v23 : T (shows (off Lf) ("[a](a?b:c)" ∷ []) (enter 12 ∷ enter 45 ∷ enter 47 ∷ enter 0 ∷ enter 0 ∷ exit 0 0 1 ∷ exit 0 0 1 ∷ enter 48 ∷ enter 5 ∷ exit 5 1 2 ∷ exit 48 1 2 ∷ enter 0 ∷ enter 0 ∷ exit 0 2 3 ∷ exit 0 2 3 ∷ exit 47 0 3 ∷ enter 49 ∷ enter 0 ∷ exit 0 3 4 ∷ enter 0 ∷ enter 0 ∷ enter 50 ∷ enter 5 ∷ exit 5 4 9 ∷ exit 50 4 9 ∷ exit 0 4 9 ∷ exit 0 4 9 ∷ enter 0 ∷ exit 0 9 10 ∷ exit 49 3 10 ∷ exit 45 0 10 ∷ exit 12 0 10 ∷ []) ("<p><a href=\"a?b:c\">a</a></p>" ∷ []))
unfolding running
v23 = tt

v24 : T (shows (off Lf) ("[a](a/b:c)" ∷ []) (enter 12 ∷ enter 45 ∷ enter 47 ∷ enter 0 ∷ enter 0 ∷ exit 0 0 1 ∷ exit 0 0 1 ∷ enter 48 ∷ enter 5 ∷ exit 5 1 2 ∷ exit 48 1 2 ∷ enter 0 ∷ enter 0 ∷ exit 0 2 3 ∷ exit 0 2 3 ∷ exit 47 0 3 ∷ enter 49 ∷ enter 0 ∷ exit 0 3 4 ∷ enter 0 ∷ enter 0 ∷ enter 50 ∷ enter 5 ∷ exit 5 4 9 ∷ exit 50 4 9 ∷ exit 0 4 9 ∷ exit 0 4 9 ∷ enter 0 ∷ exit 0 9 10 ∷ exit 49 3 10 ∷ exit 45 0 10 ∷ exit 12 0 10 ∷ []) ("<p><a href=\"a/b:c\">a</a></p>" ∷ []))
unfolding running
v24 = tt

v25 : T (shows (off Lf) ("[a](a#b:c)" ∷ []) (enter 12 ∷ enter 45 ∷ enter 47 ∷ enter 0 ∷ enter 0 ∷ exit 0 0 1 ∷ exit 0 0 1 ∷ enter 48 ∷ enter 5 ∷ exit 5 1 2 ∷ exit 48 1 2 ∷ enter 0 ∷ enter 0 ∷ exit 0 2 3 ∷ exit 0 2 3 ∷ exit 47 0 3 ∷ enter 49 ∷ enter 0 ∷ exit 0 3 4 ∷ enter 0 ∷ enter 0 ∷ enter 50 ∷ enter 5 ∷ exit 5 4 9 ∷ exit 50 4 9 ∷ exit 0 4 9 ∷ exit 0 4 9 ∷ enter 0 ∷ exit 0 9 10 ∷ exit 49 3 10 ∷ exit 45 0 10 ∷ exit 12 0 10 ∷ []) ("<p><a href=\"a#b:c\">a</a></p>" ∷ []))
unfolding running
v25 = tt

v26 : T (shows (off Lf) ("[a](http:b)" ∷ []) (enter 12 ∷ enter 45 ∷ enter 47 ∷ enter 0 ∷ enter 0 ∷ exit 0 0 1 ∷ exit 0 0 1 ∷ enter 48 ∷ enter 5 ∷ exit 5 1 2 ∷ exit 48 1 2 ∷ enter 0 ∷ enter 0 ∷ exit 0 2 3 ∷ exit 0 2 3 ∷ exit 47 0 3 ∷ enter 49 ∷ enter 0 ∷ exit 0 3 4 ∷ enter 0 ∷ enter 0 ∷ enter 50 ∷ enter 5 ∷ exit 5 4 10 ∷ exit 50 4 10 ∷ exit 0 4 10 ∷ exit 0 4 10 ∷ enter 0 ∷ exit 0 10 11 ∷ exit 49 3 11 ∷ exit 45 0 11 ∷ exit 12 0 11 ∷ []) ("<p><a href=\"http:b\">a</a></p>" ∷ []))
unfolding running
v26 = tt

v27 : T (shows (off Lf) ("[a](ircs:b)" ∷ []) (enter 12 ∷ enter 45 ∷ enter 47 ∷ enter 0 ∷ enter 0 ∷ exit 0 0 1 ∷ exit 0 0 1 ∷ enter 48 ∷ enter 5 ∷ exit 5 1 2 ∷ exit 48 1 2 ∷ enter 0 ∷ enter 0 ∷ exit 0 2 3 ∷ exit 0 2 3 ∷ exit 47 0 3 ∷ enter 49 ∷ enter 0 ∷ exit 0 3 4 ∷ enter 0 ∷ enter 0 ∷ enter 50 ∷ enter 5 ∷ exit 5 4 10 ∷ exit 50 4 10 ∷ exit 0 4 10 ∷ exit 0 4 10 ∷ enter 0 ∷ exit 0 10 11 ∷ exit 49 3 11 ∷ exit 45 0 11 ∷ exit 12 0 11 ∷ []) ("<p><a href=\"ircs:b\">a</a></p>" ∷ []))
unfolding running
v27 = tt

v28 : T (shows (off Lf) ("[a](%20%zz%%20%2)" ∷ []) (enter 12 ∷ enter 45 ∷ enter 47 ∷ enter 0 ∷ enter 0 ∷ exit 0 0 1 ∷ exit 0 0 1 ∷ enter 48 ∷ enter 5 ∷ exit 5 1 2 ∷ exit 48 1 2 ∷ enter 0 ∷ enter 0 ∷ exit 0 2 3 ∷ exit 0 2 3 ∷ exit 47 0 3 ∷ enter 49 ∷ enter 0 ∷ exit 0 3 4 ∷ enter 0 ∷ enter 0 ∷ enter 50 ∷ enter 5 ∷ exit 5 4 16 ∷ exit 50 4 16 ∷ exit 0 4 16 ∷ exit 0 4 16 ∷ enter 0 ∷ exit 0 16 17 ∷ exit 49 3 17 ∷ exit 45 0 17 ∷ exit 12 0 17 ∷ []) ("<p><a href=\"%20%zz%25%20%252\">a</a></p>" ∷ []))
unfolding running
v28 = tt

v29 : T (shows (off Lf) ("[a](Ã©ð\u{9f}\u{98}\u{80})" ∷ []) (enter 12 ∷ enter 45 ∷ enter 47 ∷ enter 0 ∷ enter 0 ∷ exit 0 0 1 ∷ exit 0 0 1 ∷ enter 48 ∷ enter 5 ∷ exit 5 1 2 ∷ exit 48 1 2 ∷ enter 0 ∷ enter 0 ∷ exit 0 2 3 ∷ exit 0 2 3 ∷ exit 47 0 3 ∷ enter 49 ∷ enter 0 ∷ exit 0 3 4 ∷ enter 0 ∷ enter 0 ∷ enter 50 ∷ enter 5 ∷ exit 5 4 10 ∷ exit 50 4 10 ∷ exit 0 4 10 ∷ exit 0 4 10 ∷ enter 0 ∷ exit 0 10 11 ∷ exit 49 3 11 ∷ exit 45 0 11 ∷ exit 12 0 11 ∷ []) ("<p><a href=\"%C3%A9%F0%9F%98%80\">a</a></p>" ∷ []))
unfolding running
v29 = tt

v30 : T (shows (off Lf) ("[a](b \"c&lt;\0\")" ∷ []) (enter 12 ∷ enter 45 ∷ enter 47 ∷ enter 0 ∷ enter 0 ∷ exit 0 0 1 ∷ exit 0 0 1 ∷ enter 48 ∷ enter 5 ∷ exit 5 1 2 ∷ exit 48 1 2 ∷ enter 0 ∷ enter 0 ∷ exit 0 2 3 ∷ exit 0 2 3 ∷ exit 47 0 3 ∷ enter 49 ∷ enter 0 ∷ exit 0 3 4 ∷ enter 0 ∷ enter 0 ∷ enter 50 ∷ enter 5 ∷ exit 5 4 5 ∷ exit 50 4 5 ∷ exit 0 4 5 ∷ exit 0 4 5 ∷ enter 1 ∷ exit 1 5 6 ∷ enter 0 ∷ enter 0 ∷ exit 0 6 7 ∷ enter 51 ∷ enter 5 ∷ exit 5 7 8 ∷ enter 7 ∷ enter 8 ∷ exit 8 8 9 ∷ enter 11 ∷ exit 11 9 11 ∷ enter 0 ∷ exit 0 11 12 ∷ exit 7 8 12 ∷ enter 5 ∷ exit 5 12 13 ∷ exit 51 7 13 ∷ enter 0 ∷ exit 0 13 14 ∷ exit 0 6 14 ∷ enter 0 ∷ exit 0 14 15 ∷ exit 49 3 15 ∷ exit 45 0 15 ∷ exit 12 0 15 ∷ []) ("<p><a href=\"b\" title=\"c&lt;ï¿½\">a</a></p>" ∷ []))
unfolding running
v30 = tt

v31 : T (shows (off Lf) ("[a\\]b](c)" ∷ []) (enter 12 ∷ enter 45 ∷ enter 47 ∷ enter 0 ∷ enter 0 ∷ exit 0 0 1 ∷ exit 0 0 1 ∷ enter 48 ∷ enter 5 ∷ exit 5 1 2 ∷ enter 0 ∷ enter 0 ∷ exit 0 2 3 ∷ enter 6 ∷ exit 6 3 4 ∷ exit 0 2 4 ∷ enter 5 ∷ exit 5 4 5 ∷ exit 48 1 5 ∷ enter 0 ∷ enter 0 ∷ exit 0 5 6 ∷ exit 0 5 6 ∷ exit 47 0 6 ∷ enter 49 ∷ enter 0 ∷ exit 0 6 7 ∷ enter 0 ∷ enter 0 ∷ enter 50 ∷ enter 5 ∷ exit 5 7 8 ∷ exit 50 7 8 ∷ exit 0 7 8 ∷ exit 0 7 8 ∷ enter 0 ∷ exit 0 8 9 ∷ exit 49 6 9 ∷ exit 45 0 9 ∷ exit 12 0 9 ∷ []) ("<p><a href=\"c\">a]b</a></p>" ∷ []))
unfolding running
v31 = tt

v32 : T (shows (off Lf) ("[[a]](b)" ∷ []) (enter 12 ∷ enter 45 ∷ enter 47 ∷ enter 0 ∷ enter 0 ∷ exit 0 0 1 ∷ exit 0 0 1 ∷ enter 48 ∷ enter 5 ∷ exit 5 1 4 ∷ exit 48 1 4 ∷ enter 0 ∷ enter 0 ∷ exit 0 4 5 ∷ exit 0 4 5 ∷ exit 47 0 5 ∷ enter 49 ∷ enter 0 ∷ exit 0 5 6 ∷ enter 0 ∷ enter 0 ∷ enter 50 ∷ enter 5 ∷ exit 5 6 7 ∷ exit 50 6 7 ∷ exit 0 6 7 ∷ exit 0 6 7 ∷ enter 0 ∷ exit 0 7 8 ∷ exit 49 5 8 ∷ exit 45 0 8 ∷ exit 12 0 8 ∷ []) ("<p><a href=\"b\">[a]</a></p>" ∷ []))
unfolding running
v32 = tt

v33 : T (shows (off Lf) ("[a [b](c) d](e)" ∷ []) (enter 12 ∷ enter 5 ∷ exit 5 0 3 ∷ enter 45 ∷ enter 47 ∷ enter 0 ∷ enter 0 ∷ exit 0 3 4 ∷ exit 0 3 4 ∷ enter 48 ∷ enter 5 ∷ exit 5 4 5 ∷ exit 48 4 5 ∷ enter 0 ∷ enter 0 ∷ exit 0 5 6 ∷ exit 0 5 6 ∷ exit 47 3 6 ∷ enter 49 ∷ enter 0 ∷ exit 0 6 7 ∷ enter 0 ∷ enter 0 ∷ enter 50 ∷ enter 5 ∷ exit 5 7 8 ∷ exit 50 7 8 ∷ exit 0 7 8 ∷ exit 0 7 8 ∷ enter 0 ∷ exit 0 8 9 ∷ exit 49 6 9 ∷ exit 45 3 9 ∷ enter 5 ∷ exit 5 9 15 ∷ exit 12 0 15 ∷ []) ("<p>[a <a href=\"c\">b</a> d](e)</p>" ∷ []))
unfolding running
v33 = tt

v34 : T (shows (off Lf) ("[a](b\n)" ∷ []) (enter 12 ∷ enter 45 ∷ enter 47 ∷ enter 0 ∷ enter 0 ∷ exit 0 0 1 ∷ exit 0 0 1 ∷ enter 48 ∷ enter 5 ∷ exit 5 1 2 ∷ exit 48 1 2 ∷ enter 0 ∷ enter 0 ∷ exit 0 2 3 ∷ exit 0 2 3 ∷ exit 47 0 3 ∷ enter 49 ∷ enter 0 ∷ exit 0 3 4 ∷ enter 0 ∷ enter 0 ∷ enter 50 ∷ enter 5 ∷ exit 5 4 5 ∷ exit 50 4 5 ∷ exit 0 4 5 ∷ exit 0 4 5 ∷ enter 3 ∷ exit 3 5 6 ∷ enter 0 ∷ exit 0 6 7 ∷ exit 49 3 7 ∷ exit 45 0 7 ∷ exit 12 0 7 ∷ []) ("<p><a href=\"b\">a</a></p>" ∷ []))
unfolding running
v34 = tt

v35 : T (shows (off Lf) ("> [a](b\n> \"c\")" ∷ []) (enter 20 ∷ enter 2 ∷ enter 0 ∷ exit 0 0 1 ∷ enter 1 ∷ exit 1 1 2 ∷ exit 2 0 2 ∷ enter 12 ∷ enter 45 ∷ enter 47 ∷ enter 0 ∷ enter 0 ∷ exit 0 2 3 ∷ exit 0 2 3 ∷ enter 48 ∷ enter 5 ∷ exit 5 3 4 ∷ exit 48 3 4 ∷ enter 0 ∷ enter 0 ∷ exit 0 4 5 ∷ exit 0 4 5 ∷ exit 47 2 5 ∷ enter 49 ∷ enter 0 ∷ exit 0 5 6 ∷ enter 0 ∷ enter 0 ∷ enter 50 ∷ enter 5 ∷ exit 5 6 7 ∷ exit 50 6 7 ∷ exit 0 6 7 ∷ exit 0 6 7 ∷ enter 3 ∷ exit 3 7 8 ∷ enter 2 ∷ enter 0 ∷ exit 0 8 9 ∷ enter 1 ∷ exit 1 9 10 ∷ exit 2 8 10 ∷ enter 0 ∷ enter 0 ∷ exit 0 10 11 ∷ enter 51 ∷ enter 5 ∷ exit 5 11 12 ∷ exit 51 11 12 ∷ enter 0 ∷ exit 0 12 13 ∷ exit 0 10 13 ∷ enter 0 ∷ exit 0 13 14 ∷ exit 49 5 14 ∷ exit 45 2 14 ∷ exit 12 2 14 ∷ exit 20 0 14 ∷ []) ("<blockquote>\n<p><a href=\"b\" title=\"c\">a</a></p>\n</blockquote>" ∷ []))
unfolding running
v35 = tt

v36 : T (shows (off Lf) ("- [a](b\n  \"c\n  d\")" ∷ []) (enter 22 ∷ enter 23 ∷ enter 24 ∷ enter 25 ∷ exit 25 0 1 ∷ enter 1 ∷ exit 1 1 2 ∷ exit 24 0 2 ∷ enter 12 ∷ enter 45 ∷ enter 47 ∷ enter 0 ∷ enter 0 ∷ exit 0 2 3 ∷ exit 0 2 3 ∷ enter 48 ∷ enter 5 ∷ exit 5 3 4 ∷ exit 48 3 4 ∷ enter 0 ∷ enter 0 ∷ exit 0 4 5 ∷ exit 0 4 5 ∷ exit 47 2 5 ∷ enter 49 ∷ enter 0 ∷ exit 0 5 6 ∷ enter 0 ∷ enter 0 ∷ enter 50 ∷ enter 5 ∷ exit 5 6 7 ∷ exit 50 6 7 ∷ exit 0 6 7 ∷ exit 0 6 7 ∷ enter 3 ∷ exit 3 7 8 ∷ enter 1 ∷ exit 1 8 10 ∷ enter 0 ∷ enter 0 ∷ exit 0 10 11 ∷ enter 51 ∷ enter 5 ∷ exit 5 11 12 ∷ enter 3 ∷ exit 3 12 13 ∷ enter 1 ∷ exit 1 13 15 ∷ enter 5 ∷ exit 5 15 16 ∷ exit 51 11 16 ∷ enter 0 ∷ exit 0 16 17 ∷ exit 0 10 17 ∷ enter 0 ∷ exit 0 17 18 ∷ exit 49 5 18 ∷ exit 45 2 18 ∷ exit 12 2 18 ∷ exit 23 0 18 ∷ exit 22 0 18 ∷ []) ("<ul>\n<li><a href=\"b\" title=\"c\nd\">a</a></li>\n</ul>" ∷ []))
unfolding running
v36 = tt

v37 : T (shows (off Lf) ("[a](b \"\")" ∷ []) (enter 12 ∷ enter 45 ∷ enter 47 ∷ enter 0 ∷ enter 0 ∷ exit 0 0 1 ∷ exit 0 0 1 ∷ enter 48 ∷ enter 5 ∷ exit 5 1 2 ∷ exit 48 1 2 ∷ enter 0 ∷ enter 0 ∷ exit 0 2 3 ∷ exit 0 2 3 ∷ exit 47 0 3 ∷ enter 49 ∷ enter 0 ∷ exit 0 3 4 ∷ enter 0 ∷ enter 0 ∷ enter 50 ∷ enter 5 ∷ exit 5 4 5 ∷ exit 50 4 5 ∷ exit 0 4 5 ∷ exit 0 4 5 ∷ enter 1 ∷ exit 1 5 6 ∷ enter 0 ∷ enter 0 ∷ exit 0 6 7 ∷ enter 0 ∷ exit 0 7 8 ∷ exit 0 6 8 ∷ enter 0 ∷ exit 0 8 9 ∷ exit 49 3 9 ∷ exit 45 0 9 ∷ exit 12 0 9 ∷ []) ("<p><a href=\"b\">a</a></p>" ∷ []))
unfolding running
v37 = tt

v38 : T (shows (off Lf) ("[a](<b> \"c\") [d](e)" ∷ []) (enter 12 ∷ enter 45 ∷ enter 47 ∷ enter 0 ∷ enter 0 ∷ exit 0 0 1 ∷ exit 0 0 1 ∷ enter 48 ∷ enter 5 ∷ exit 5 1 2 ∷ exit 48 1 2 ∷ enter 0 ∷ enter 0 ∷ exit 0 2 3 ∷ exit 0 2 3 ∷ exit 47 0 3 ∷ enter 49 ∷ enter 0 ∷ exit 0 3 4 ∷ enter 0 ∷ enter 0 ∷ enter 0 ∷ exit 0 4 5 ∷ enter 50 ∷ enter 5 ∷ exit 5 5 6 ∷ exit 50 5 6 ∷ enter 0 ∷ exit 0 6 7 ∷ exit 0 4 7 ∷ exit 0 4 7 ∷ enter 1 ∷ exit 1 7 8 ∷ enter 0 ∷ enter 0 ∷ exit 0 8 9 ∷ enter 51 ∷ enter 5 ∷ exit 5 9 10 ∷ exit 51 9 10 ∷ enter 0 ∷ exit 0 10 11 ∷ exit 0 8 11 ∷ enter 0 ∷ exit 0 11 12 ∷ exit 49 3 12 ∷ exit 45 0 12 ∷ enter 5 ∷ exit 5 12 13 ∷ enter 45 ∷ enter 47 ∷ enter 0 ∷ enter 0 ∷ exit 0 13 14 ∷ exit 0 13 14 ∷ enter 48 ∷ enter 5 ∷ exit 5 14 15 ∷ exit 48 14 15 ∷ enter 0 ∷ enter 0 ∷ exit 0 15 16 ∷ exit 0 15 16 ∷ exit 47 13 16 ∷ enter 49 ∷ enter 0 ∷ exit 0 16 17 ∷ enter 0 ∷ enter 0 ∷ enter 50 ∷ enter 5 ∷ exit 5 17 18 ∷ exit 50 17 18 ∷ exit 0 17 18 ∷ exit 0 17 18 ∷ enter 0 ∷ exit 0 18 19 ∷ exit 49 16 19 ∷ exit 45 13 19 ∷ exit 12 0 19 ∷ []) ("<p><a href=\"b\" title=\"c\">a</a> <a href=\"e\">d</a></p>" ∷ []))
unfolding running
v38 = tt

v39 : T (shows (off Lf) ("[a](irc:x \"y\")" ∷ []) (enter 12 ∷ enter 45 ∷ enter 47 ∷ enter 0 ∷ enter 0 ∷ exit 0 0 1 ∷ exit 0 0 1 ∷ enter 48 ∷ enter 5 ∷ exit 5 1 2 ∷ exit 48 1 2 ∷ enter 0 ∷ enter 0 ∷ exit 0 2 3 ∷ exit 0 2 3 ∷ exit 47 0 3 ∷ enter 49 ∷ enter 0 ∷ exit 0 3 4 ∷ enter 0 ∷ enter 0 ∷ enter 50 ∷ enter 5 ∷ exit 5 4 9 ∷ exit 50 4 9 ∷ exit 0 4 9 ∷ exit 0 4 9 ∷ enter 1 ∷ exit 1 9 10 ∷ enter 0 ∷ enter 0 ∷ exit 0 10 11 ∷ enter 51 ∷ enter 5 ∷ exit 5 11 12 ∷ exit 51 11 12 ∷ enter 0 ∷ exit 0 12 13 ∷ exit 0 10 13 ∷ enter 0 ∷ exit 0 13 14 ∷ exit 49 3 14 ∷ exit 45 0 14 ∷ exit 12 0 14 ∷ []) ("<p><a href=\"irc:x\" title=\"y\">a</a></p>" ∷ []))
unfolding running
v39 = tt

v40 : T (shows (off Lf) ("[&](& \"&\")" ∷ []) (enter 12 ∷ enter 45 ∷ enter 47 ∷ enter 0 ∷ enter 0 ∷ exit 0 0 1 ∷ exit 0 0 1 ∷ enter 48 ∷ enter 5 ∷ exit 5 1 2 ∷ exit 48 1 2 ∷ enter 0 ∷ enter 0 ∷ exit 0 2 3 ∷ exit 0 2 3 ∷ exit 47 0 3 ∷ enter 49 ∷ enter 0 ∷ exit 0 3 4 ∷ enter 0 ∷ enter 0 ∷ enter 50 ∷ enter 5 ∷ exit 5 4 5 ∷ exit 50 4 5 ∷ exit 0 4 5 ∷ exit 0 4 5 ∷ enter 1 ∷ exit 1 5 6 ∷ enter 0 ∷ enter 0 ∷ exit 0 6 7 ∷ enter 51 ∷ enter 5 ∷ exit 5 7 8 ∷ exit 51 7 8 ∷ enter 0 ∷ exit 0 8 9 ∷ exit 0 6 9 ∷ enter 0 ∷ exit 0 9 10 ∷ exit 49 3 10 ∷ exit 45 0 10 ∷ exit 12 0 10 ∷ []) ("<p><a href=\"&amp;\" title=\"&amp;\">&amp;</a></p>" ∷ []))
unfolding running
v40 = tt

v41 : T (shows (off Lf) ("[a](b) & <b>" ∷ []) (enter 12 ∷ enter 45 ∷ enter 47 ∷ enter 0 ∷ enter 0 ∷ exit 0 0 1 ∷ exit 0 0 1 ∷ enter 48 ∷ enter 5 ∷ exit 5 1 2 ∷ exit 48 1 2 ∷ enter 0 ∷ enter 0 ∷ exit 0 2 3 ∷ exit 0 2 3 ∷ exit 47 0 3 ∷ enter 49 ∷ enter 0 ∷ exit 0 3 4 ∷ enter 0 ∷ enter 0 ∷ enter 50 ∷ enter 5 ∷ exit 5 4 5 ∷ exit 50 4 5 ∷ exit 0 4 5 ∷ exit 0 4 5 ∷ enter 0 ∷ exit 0 5 6 ∷ exit 49 3 6 ∷ exit 45 0 6 ∷ enter 5 ∷ exit 5 6 9 ∷ enter 37 ∷ enter 38 ∷ exit 38 9 12 ∷ exit 37 9 12 ∷ exit 12 0 12 ∷ []) ("<p><a href=\"b\">a</a> &amp; &lt;b&gt;</p>" ∷ []))
unfolding running
v41 = tt

v42 : T (shows (html Lf) ("[a](b) & <b>" ∷ []) (enter 12 ∷ enter 45 ∷ enter 47 ∷ enter 0 ∷ enter 0 ∷ exit 0 0 1 ∷ exit 0 0 1 ∷ enter 48 ∷ enter 5 ∷ exit 5 1 2 ∷ exit 48 1 2 ∷ enter 0 ∷ enter 0 ∷ exit 0 2 3 ∷ exit 0 2 3 ∷ exit 47 0 3 ∷ enter 49 ∷ enter 0 ∷ exit 0 3 4 ∷ enter 0 ∷ enter 0 ∷ enter 50 ∷ enter 5 ∷ exit 5 4 5 ∷ exit 50 4 5 ∷ exit 0 4 5 ∷ exit 0 4 5 ∷ enter 0 ∷ exit 0 5 6 ∷ exit 49 3 6 ∷ exit 45 0 6 ∷ enter 5 ∷ exit 5 6 9 ∷ enter 37 ∷ enter 38 ∷ exit 38 9 12 ∷ exit 37 9 12 ∷ exit 12 0 12 ∷ []) ("<p><a href=\"b\">a</a> &amp; <b></p>" ∷ []))
unfolding running
v42 = tt

v43 : T (shows (on Lf) ("[a](b) & <b>" ∷ []) (enter 12 ∷ enter 45 ∷ enter 47 ∷ enter 0 ∷ enter 0 ∷ exit 0 0 1 ∷ exit 0 0 1 ∷ enter 48 ∷ enter 5 ∷ exit 5 1 2 ∷ exit 48 1 2 ∷ enter 0 ∷ enter 0 ∷ exit 0 2 3 ∷ exit 0 2 3 ∷ exit 47 0 3 ∷ enter 49 ∷ enter 0 ∷ exit 0 3 4 ∷ enter 0 ∷ enter 0 ∷ enter 50 ∷ enter 5 ∷ exit 5 4 5 ∷ exit 50 4 5 ∷ exit 0 4 5 ∷ exit 0 4 5 ∷ enter 0 ∷ exit 0 5 6 ∷ exit 49 3 6 ∷ exit 45 0 6 ∷ enter 5 ∷ exit 5 6 9 ∷ enter 37 ∷ enter 38 ∷ exit 38 9 12 ∷ exit 37 9 12 ∷ exit 12 0 12 ∷ []) ("<p><a href=\"b\">a</a> &amp; <b></p>" ∷ []))
unfolding running
v43 = tt
