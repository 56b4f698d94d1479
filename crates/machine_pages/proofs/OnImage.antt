-- Images: pages of the crate markdown 1.0.0. Made by tools/machine_pages. Assumes nothing.
use mathlib.Core.List.{[], ◌∷◌}
use lib.Dec.{T}
use Rattle.machine.specs.declared.Ending.TheVariants.{Lf}
use Rattle.machine.proofs.Running.{running}
use Rattle.machine.proofs.Answers.{shows, off, html, protocol, images, on, enter, exit}

v1 : T (shows (off Lf) ("![a](b)" ∷ []) (enter 12 ∷ enter 46 ∷ enter 47 ∷ enter 0 ∷ enter 0 ∷ exit 0 0 1 ∷ enter 0 ∷ exit 0 1 2 ∷ exit 0 0 2 ∷ enter 48 ∷ enter 5 ∷ exit 5 2 3 ∷ exit 48 2 3 ∷ enter 0 ∷ enter 0 ∷ exit 0 3 4 ∷ exit 0 3 4 ∷ exit 47 0 4 ∷ enter 49 ∷ enter 0 ∷ exit 0 4 5 ∷ enter 0 ∷ enter 0 ∷ enter 50 ∷ enter 5 ∷ exit 5 5 6 ∷ exit 50 5 6 ∷ exit 0 5 6 ∷ exit 0 5 6 ∷ enter 0 ∷ exit 0 6 7 ∷ exit 49 4 7 ∷ exit 46 0 7 ∷ exit 12 0 7 ∷ []) ("<p><img src=\"b\" alt=\"a\" /></p>" ∷ []))
unfolding running
v1 = tt

v2 : T (shows (off Lf) ("![](b)" ∷ []) (enter 12 ∷ enter 46 ∷ enter 47 ∷ enter 0 ∷ enter 0 ∷ exit 0 0 1 ∷ enter 0 ∷ exit 0 1 2 ∷ exit 0 0 2 ∷ enter 48 ∷ exit 48 2 2 ∷ enter 0 ∷ enter 0 ∷ exit 0 2 3 ∷ exit 0 2 3 ∷ exit 47 0 3 ∷ enter 49 ∷ enter 0 ∷ exit 0 3 4 ∷ enter 0 ∷ enter 0 ∷ enter 50 ∷ enter 5 ∷ exit 5 4 5 ∷ exit 50 4 5 ∷ exit 0 4 5 ∷ exit 0 4 5 ∷ enter 0 ∷ exit 0 5 6 ∷ exit 49 3 6 ∷ exit 46 0 6 ∷ exit 12 0 6 ∷ []) ("<p><img src=\"b\" alt=\"\" /></p>" ∷ []))
unfolding running
v2 = tt

v3 : T (shows (off Lf) ("![]()" ∷ []) (enter 12 ∷ enter 46 ∷ enter 47 ∷ enter 0 ∷ enter 0 ∷ exit 0 0 1 ∷ enter 0 ∷ exit 0 1 2 ∷ exit 0 0 2 ∷ enter 48 ∷ exit 48 2 2 ∷ enter 0 ∷ enter 0 ∷ exit 0 2 3 ∷ exit 0 2 3 ∷ exit 47 0 3 ∷ enter 49 ∷ enter 0 ∷ exit 0 3 4 ∷ enter 0 ∷ exit 0 4 5 ∷ exit 49 3 5 ∷ exit 46 0 5 ∷ exit 12 0 5 ∷ []) ("<p><img src=\"\" alt=\"\" /></p>" ∷ []))
unfolding running
v3 = tt

v4 : T (shows (off Lf) ("![*a*](b)" ∷ []) (enter 12 ∷ enter 46 ∷ enter 47 ∷ enter 0 ∷ enter 0 ∷ exit 0 0 1 ∷ enter 0 ∷ exit 0 1 2 ∷ exit 0 0 2 ∷ enter 48 ∷ enter 39 ∷ enter 0 ∷ exit 0 2 3 ∷ enter 0 ∷ enter 5 ∷ exit 5 3 4 ∷ exit 0 3 4 ∷ enter 0 ∷ exit 0 4 5 ∷ exit 39 2 5 ∷ exit 48 2 5 ∷ enter 0 ∷ enter 0 ∷ exit 0 5 6 ∷ exit 0 5 6 ∷ exit 47 0 6 ∷ enter 49 ∷ enter 0 ∷ exit 0 6 7 ∷ enter 0 ∷ enter 0 ∷ enter 50 ∷ enter 5 ∷ exit 5 7 8 ∷ exit 50 7 8 ∷ exit 0 7 8 ∷ exit 0 7 8 ∷ enter 0 ∷ exit 0 8 9 ∷ exit 49 6 9 ∷ exit 46 0 9 ∷ exit 12 0 9 ∷ []) ("<p><img src=\"b\" alt=\"a\" /></p>" ∷ []))
unfolding running
v4 = tt

v5 : T (shows (off Lf) ("![`a`](b)" ∷ []) (enter 12 ∷ enter 46 ∷ enter 47 ∷ enter 0 ∷ enter 0 ∷ exit 0 0 1 ∷ enter 0 ∷ exit 0 1 2 ∷ exit 0 0 2 ∷ enter 48 ∷ enter 33 ∷ enter 0 ∷ exit 0 2 3 ∷ enter 34 ∷ exit 34 3 4 ∷ enter 0 ∷ exit 0 4 5 ∷ exit 33 2 5 ∷ exit 48 2 5 ∷ enter 0 ∷ enter 0 ∷ exit 0 5 6 ∷ exit 0 5 6 ∷ exit 47 0 6 ∷ enter 49 ∷ enter 0 ∷ exit 0 6 7 ∷ enter 0 ∷ enter 0 ∷ enter 50 ∷ enter 5 ∷ exit 5 7 8 ∷ exit 50 7 8 ∷ exit 0 7 8 ∷ exit 0 7 8 ∷ enter 0 ∷ exit 0 8 9 ∷ exit 49 6 9 ∷ exit 46 0 9 ∷ exit 12 0 9 ∷ []) ("<p><img src=\"b\" alt=\"a\" /></p>" ∷ []))
unfolding running
v5 = tt

v6 : T (shows (off Lf) ("![<b>](c)" ∷ []) (enter 12 ∷ enter 46 ∷ enter 47 ∷ enter 0 ∷ enter 0 ∷ exit 0 0 1 ∷ enter 0 ∷ exit 0 1 2 ∷ exit 0 0 2 ∷ enter 48 ∷ enter 37 ∷ enter 38 ∷ exit 38 2 5 ∷ exit 37 2 5 ∷ exit 48 2 5 ∷ enter 0 ∷ enter 0 ∷ exit 0 5 6 ∷ exit 0 5 6 ∷ exit 47 0 6 ∷ enter 49 ∷ enter 0 ∷ exit 0 6 7 ∷ enter 0 ∷ enter 0 ∷ enter 50 ∷ enter 5 ∷ exit 5 7 8 ∷ exit 50 7 8 ∷ exit 0 7 8 ∷ exit 0 7 8 ∷ enter 0 ∷ exit 0 8 9 ∷ exit 49 6 9 ∷ exit 46 0 9 ∷ exit 12 0 9 ∷ []) ("<p><img src=\"c\" alt=\"&lt;b&gt;\" /></p>" ∷ []))
unfolding running
v6 = tt

v7 : T (shows (html Lf) ("![<b>](c)" ∷ []) (enter 12 ∷ enter 46 ∷ enter 47 ∷ enter 0 ∷ enter 0 ∷ exit 0 0 1 ∷ enter 0 ∷ exit 0 1 2 ∷ exit 0 0 2 ∷ enter 48 ∷ enter 37 ∷ enter 38 ∷ exit 38 2 5 ∷ exit 37 2 5 ∷ exit 48 2 5 ∷ enter 0 ∷ enter 0 ∷ exit 0 5 6 ∷ exit 0 5 6 ∷ exit 47 0 6 ∷ enter 49 ∷ enter 0 ∷ exit 0 6 7 ∷ enter 0 ∷ enter 0 ∷ enter 50 ∷ enter 5 ∷ exit 5 7 8 ∷ exit 50 7 8 ∷ exit 0 7 8 ∷ exit 0 7 8 ∷ enter 0 ∷ exit 0 8 9 ∷ exit 49 6 9 ∷ exit 46 0 9 ∷ exit 12 0 9 ∷ []) ("<p><img src=\"c\" alt=\"<b>\" /></p>" ∷ []))
unfolding running
v7 = tt

v8 : T (shows (on Lf) ("![<b>](c)" ∷ []) (enter 12 ∷ enter 46 ∷ enter 47 ∷ enter 0 ∷ enter 0 ∷ exit 0 0 1 ∷ enter 0 ∷ exit 0 1 2 ∷ exit 0 0 2 ∷ enter 48 ∷ enter 37 ∷ enter 38 ∷ exit 38 2 5 ∷ exit 37 2 5 ∷ exit 48 2 5 ∷ enter 0 ∷ enter 0 ∷ exit 0 5 6 ∷ exit 0 5 6 ∷ exit 47 0 6 ∷ enter 49 ∷ enter 0 ∷ exit 0 6 7 ∷ enter 0 ∷ enter 0 ∷ enter 50 ∷ enter 5 ∷ exit 5 7 8 ∷ exit 50 7 8 ∷ exit 0 7 8 ∷ exit 0 7 8 ∷ enter 0 ∷ exit 0 8 9 ∷ exit 49 6 9 ∷ exit 46 0 9 ∷ exit 12 0 9 ∷ []) ("<p><img src=\"c\" alt=\"<b>\" /></p>" ∷ []))
unfolding running
v8 = tt

v9 : T (shows (off Lf) ("![a](data:b)" ∷ []) (enter 12 ∷ enter 46 ∷ enter 47 ∷ enter 0 ∷ enter 0 ∷ exit 0 0 1 ∷ enter 0 ∷ exit 0 1 2 ∷ exit 0 0 2 ∷ enter 48 ∷ enter 5 ∷ exit 5 2 3 ∷ exit 48 2 3 ∷ enter 0 ∷ enter 0 ∷ exit 0 3 4 ∷ exit 0 3 4 ∷ exit 47 0 4 ∷ enter 49 ∷ enter 0 ∷ exit 0 4 5 ∷ enter 0 ∷ enter 0 ∷ enter 50 ∷ enter 5 ∷ exit 5 5 11 ∷ exit 50 5 11 ∷ exit 0 5 11 ∷ exit 0 5 11 ∷ enter 0 ∷ exit 0 11 12 ∷ exit 49 4 12 ∷ exit 46 0 12 ∷ exit 12 0 12 ∷ []) ("<p><img src=\"\" alt=\"a\" /></p>" ∷ []))
unfolding running
v9 = tt

v10 : T (shows (protocol Lf) ("![a](data:b)" ∷ []) (enter 12 ∷ enter 46 ∷ enter 47 ∷ enter 0 ∷ enter 0 ∷ exit 0 0 1 ∷ enter 0 ∷ exit 0 1 2 ∷ exit 0 0 2 ∷ enter 48 ∷ enter 5 ∷ exit 5 2 3 ∷ exit 48 2 3 ∷ enter 0 ∷ enter 0 ∷ exit 0 3 4 ∷ exit 0 3 4 ∷ exit 47 0 4 ∷ enter 49 ∷ enter 0 ∷ exit 0 4 5 ∷ enter 0 ∷ enter 0 ∷ enter 50 ∷ enter 5 ∷ exit 5 5 11 ∷ exit 50 5 11 ∷ exit 0 5 11 ∷ exit 0 5 11 ∷ enter 0 ∷ exit 0 11 12 ∷ exit 49 4 12 ∷ exit 46 0 12 ∷ exit 12 0 12 ∷ []) ("<p><img src=\"data:b\" alt=\"a\" /></p>" ∷ []))
unfolding running
v10 = tt

v11 : T (shows (images Lf) ("![a](data:b)" ∷ []) (enter 12 ∷ enter 46 ∷ enter 47 ∷ enter 0 ∷ enter 0 ∷ exit 0 0 1 ∷ enter 0 ∷ exit 0 1 2 ∷ exit 0 0 2 ∷ enter 48 ∷ enter 5 ∷ exit 5 2 3 ∷ exit 48 2 3 ∷ enter 0 ∷ enter 0 ∷ exit 0 3 4 ∷ exit 0 3 4 ∷ exit 47 0 4 ∷ enter 49 ∷ enter 0 ∷ exit 0 4 5 ∷ enter 0 ∷ enter 0 ∷ enter 50 ∷ enter 5 ∷ exit 5 5 11 ∷ exit 50 5 11 ∷ exit 0 5 11 ∷ exit 0 5 11 ∷ enter 0 ∷ exit 0 11 12 ∷ exit 49 4 12 ∷ exit 46 0 12 ∷ exit 12 0 12 ∷ []) ("<p><img src=\"data:b\" alt=\"a\" /></p>" ∷ []))
unfolding running
v11 = tt

v12 : T (shows (on Lf) ("![a](data:b)" ∷ []) (enter 12 ∷ enter 46 ∷ enter 47 ∷ enter 0 ∷ enter 0 ∷ exit 0 0 1 ∷ enter 0 ∷ exit 0 1 2 ∷ exit 0 0 2 ∷ enter 48 ∷ enter 5 ∷ exit 5 2 3 ∷ exit 48 2 3 ∷ enter 0 ∷ enter 0 ∷ exit 0 3 4 ∷ exit 0 3 4 ∷ exit 47 0 4 ∷ enter 49 ∷ enter 0 ∷ exit 0 4 5 ∷ enter 0 ∷ enter 0 ∷ enter 50 ∷ enter 5 ∷ exit 5 5 11 ∷ exit 50 5 11 ∷ exit 0 5 11 ∷ exit 0 5 11 ∷ enter 0 ∷ exit 0 11 12 ∷ exit 49 4 12 ∷ exit 46 0 12 ∷ exit 12 0 12 ∷ []) ("<p><img src=\"data:b\" alt=\"a\" /></p>" ∷ []))
unfolding running
v12 = tt

v13 : T (shows (off Lf) ("![a](http:b \"c\")" ∷ []) (enter 12 ∷ enter 46 ∷ enter 47 ∷ enter 0 ∷ enter 0 ∷ exit 0 0 1 ∷ enter 0 ∷ exit 0 1 2 ∷ exit 0 0 2 ∷ enter 48 ∷ enter 5 ∷ exit 5 2 3 ∷ exit 48 2 3 ∷ enter 0 ∷ enter 0 ∷ exit 0 3 4 ∷ exit 0 3 4 ∷ exit 47 0 4 ∷ enter 49 ∷ enter 0 ∷ exit 0 4 5 ∷ enter 0 ∷ enter 0 ∷ enter 50 ∷ enter 5 ∷ exit 5 5 11 ∷ exit 50 5 11 ∷ exit 0 5 11 ∷ exit 0 5 11 ∷ enter 1 ∷ exit 1 11 12 ∷ enter 0 ∷ enter 0 ∷ exit 0 12 13 ∷ enter 51 ∷ enter 5 ∷ exit 5 13 14 ∷ exit 51 13 14 ∷ enter 0 ∷ exit 0 14 15 ∷ exit 0 12 15 ∷ enter 0 ∷ exit 0 15 16 ∷ exit 49 4 16 ∷ exit 46 0 16 ∷ exit 12 0 16 ∷ []) ("<p><img src=\"http:b\" alt=\"a\" title=\"c\" /></p>" ∷ []))
unfolding running
v13 = tt

v14 : T (shows (off Lf) ("[![a](b)](c)" ∷ []) (enter 12 ∷ enter 45 ∷ enter 47 ∷ enter 0 ∷ enter 0 ∷ exit 0 0 1 ∷ exit 0 0 1 ∷ enter 48 ∷ enter 46 ∷ enter 47 ∷ enter 0 ∷ enter 0 ∷ exit 0 1 2 ∷ enter 0 ∷ exit 0 2 3 ∷ exit 0 1 3 ∷ enter 48 ∷ enter 5 ∷ exit 5 3 4 ∷ exit 48 3 4 ∷ enter 0 ∷ enter 0 ∷ exit 0 4 5 ∷ exit 0 4 5 ∷ exit 47 1 5 ∷ enter 49 ∷ enter 0 ∷ exit 0 5 6 ∷ enter 0 ∷ enter 0 ∷ enter 50 ∷ enter 5 ∷ exit 5 6 7 ∷ exit 50 6 7 ∷ exit 0 6 7 ∷ exit 0 6 7 ∷ enter 0 ∷ exit 0 7 8 ∷ exit 49 5 8 ∷ exit 46 1 8 ∷ exit 48 1 8 ∷ enter 0 ∷ enter 0 ∷ exit 0 8 9 ∷ exit 0 8 9 ∷ exit 47 0 9 ∷ enter 49 ∷ enter 0 ∷ exit 0 9 10 ∷ enter 0 ∷ enter 0 ∷ enter 50 ∷ enter 5 ∷ exit 5 10 11 ∷ exit 50 10 11 ∷ exit 0 10 11 ∷ exit 0 10 11 ∷ enter 0 ∷ exit 0 11 12 ∷ exit 49 9 12 ∷ exit 45 0 12 ∷ exit 12 0 12 ∷ []) ("<p><a href=\"c\"><img src=\"b\" alt=\"a\" /></a></p>" ∷ []))
unfolding running
v14 = tt

v15 : T (shows (off Lf) ("![[a](b)](c)" ∷ []) (enter 12 ∷ enter 46 ∷ enter 47 ∷ enter 0 ∷ enter 0 ∷ exit 0 0 1 ∷ enter 0 ∷ exit 0 1 2 ∷ exit 0 0 2 ∷ enter 48 ∷ enter 45 ∷ enter 47 ∷ enter 0 ∷ enter 0 ∷ exit 0 2 3 ∷ exit 0 2 3 ∷ enter 48 ∷ enter 5 ∷ exit 5 3 4 ∷ exit 48 3 4 ∷ enter 0 ∷ enter 0 ∷ exit 0 4 5 ∷ exit 0 4 5 ∷ exit 47 2 5 ∷ enter 49 ∷ enter 0 ∷ exit 0 5 6 ∷ enter 0 ∷ enter 0 ∷ enter 50 ∷ enter 5 ∷ exit 5 6 7 ∷ exit 50 6 7 ∷ exit 0 6 7 ∷ exit 0 6 7 ∷ enter 0 ∷ exit 0 7 8 ∷ exit 49 5 8 ∷ exit 45 2 8 ∷ exit 48 2 8 ∷ enter 0 ∷ enter 0 ∷ exit 0 8 9 ∷ exit 0 8 9 ∷ exit 47 0 9 ∷ enter 49 ∷ enter 0 ∷ exit 0 9 10 ∷ enter 0 ∷ enter 0 ∷ enter 50 ∷ enter 5 ∷ exit 5 10 11 ∷ exit 50 10 11 ∷ exit 0 10 11 ∷ exit 0 10 11 ∷ enter 0 ∷ exit 0 11 12 ∷ exit 49 9 12 ∷ exit 46 0 12 ∷ exit 12 0 12 ∷ []) ("<p><img src=\"c\" alt=\"a\" /></p>" ∷ []))
unfolding running
v15 = tt

v16 : T (shows (off Lf) ("![![a](b)](c)" ∷ []) (enter 12 ∷ enter 46 ∷ enter 47 ∷ enter 0 ∷ enter 0 ∷ exit 0 0 1 ∷ enter 0 ∷ exit 0 1 2 ∷ exit 0 0 2 ∷ enter 48 ∷ enter 46 ∷ enter 47 ∷ enter 0 ∷ enter 0 ∷ exit 0 2 3 ∷ enter 0 ∷ exit 0 3 4 ∷ exit 0 2 4 ∷ enter 48 ∷ enter 5 ∷ exit 5 4 5 ∷ exit 48 4 5 ∷ enter 0 ∷ enter 0 ∷ exit 0 5 6 ∷ exit 0 5 6 ∷ exit 47 2 6 ∷ enter 49 ∷ enter 0 ∷ exit 0 6 7 ∷ enter 0 ∷ enter 0 ∷ enter 50 ∷ enter 5 ∷ exit 5 7 8 ∷ exit 50 7 8 ∷ exit 0 7 8 ∷ exit 0 7 8 ∷ enter 0 ∷ exit 0 8 9 ∷ exit 49 6 9 ∷ exit 46 2 9 ∷ exit 48 2 9 ∷ enter 0 ∷ enter 0 ∷ exit 0 9 10 ∷ exit 0 9 10 ∷ exit 47 0 10 ∷ enter 49 ∷ enter 0 ∷ exit 0 10 11 ∷ enter 0 ∷ enter 0 ∷ enter 50 ∷ enter 5 ∷ exit 5 11 12 ∷ exit 50 11 12 ∷ exit 0 11 12 ∷ exit 0 11 12 ∷ enter 0 ∷ exit 0 12 13 ∷ exit 49 10 13 ∷ exit 46 0 13 ∷ exit 12 0 13 ∷ []) ("<p><img src=\"c\" alt=\"a\" /></p>" ∷ []))
unfolding running
v16 = tt

v17 : T (shows (off Lf) ("![a ![b *c*](d) *e*](f) *g*" ∷ []) (enter 12 ∷ enter 46 ∷ enter 47 ∷ enter 0 ∷ enter 0 ∷ exit 0 0 1 ∷ enter 0 ∷ exit 0 1 2 ∷ exit 0 0 2 ∷ enter 48 ∷ enter 5 ∷ exit 5 2 4 ∷ enter 46 ∷ enter 47 ∷ enter 0 ∷ enter 0 ∷ exit 0 4 5 ∷ enter 0 ∷ exit 0 5 6 ∷ exit 0 4 6 ∷ enter 48 ∷ enter 5 ∷ exit 5 6 8 ∷ enter 39 ∷ enter 0 ∷ exit 0 8 9 ∷ enter 0 ∷ enter 5 ∷ exit 5 9 10 ∷ exit 0 9 10 ∷ enter 0 ∷ exit 0 10 11 ∷ exit 39 8 11 ∷ exit 48 6 11 ∷ enter 0 ∷ enter 0 ∷ exit 0 11 12 ∷ exit 0 11 12 ∷ exit 47 4 12 ∷ enter 49 ∷ enter 0 ∷ exit 0 12 13 ∷ enter 0 ∷ enter 0 ∷ enter 50 ∷ enter 5 ∷ exit 5 13 14 ∷ exit 50 13 14 ∷ exit 0 13 14 ∷ exit 0 13 14 ∷ enter 0 ∷ exit 0 14 15 ∷ exit 49 12 15 ∷ exit 46 4 15 ∷ enter 5 ∷ exit 5 15 16 ∷ enter 39 ∷ enter 0 ∷ exit 0 16 17 ∷ enter 0 ∷ enter 5 ∷ exit 5 17 18 ∷ exit 0 17 18 ∷ enter 0 ∷ exit 0 18 19 ∷ exit 39 16 19 ∷ exit 48 2 19 ∷ enter 0 ∷ enter 0 ∷ exit 0 19 20 ∷ exit 0 19 20 ∷ exit 47 0 20 ∷ enter 49 ∷ enter 0 ∷ exit 0 20 21 ∷ enter 0 ∷ enter 0 ∷ enter 50 ∷ enter 5 ∷ exit 5 21 22 ∷ exit 50 21 22 ∷ exit 0 21 22 ∷ exit 0 21 22 ∷ enter 0 ∷ exit 0 22 23 ∷ exit 49 20 23 ∷ exit 46 0 23 ∷ enter 5 ∷ exit 5 23 24 ∷ enter 39 ∷ enter 0 ∷ exit 0 24 25 ∷ enter 0 ∷ enter 5 ∷ exit 5 25 26 ∷ exit 0 25 26 ∷ enter 0 ∷ exit 0 26 27 ∷ exit 39 24 27 ∷ exit 12 0 27 ∷ []) ("<p><img src=\"f\" alt=\"a b c e\" /> <em>g</em></p>" ∷ []))
unfolding running
v17 = tt

v18 : T (shows (off Lf) ("![[a ![b](c)](d) *e*](f)" ∷ []) (enter 12 ∷ enter 46 ∷ enter 47 ∷ enter 0 ∷ enter 0 ∷ exit 0 0 1 ∷ enter 0 ∷ exit 0 1 2 ∷ exit 0 0 2 ∷ enter 48 ∷ enter 45 ∷ enter 47 ∷ enter 0 ∷ enter 0 ∷ exit 0 2 3 ∷ exit 0 2 3 ∷ enter 48 ∷ enter 5 ∷ exit 5 3 5 ∷ enter 46 ∷ enter 47 ∷ enter 0 ∷ enter 0 ∷ exit 0 5 6 ∷ enter 0 ∷ exit 0 6 7 ∷ exit 0 5 7 ∷ enter 48 ∷ enter 5 ∷ exit 5 7 8 ∷ exit 48 7 8 ∷ enter 0 ∷ enter 0 ∷ exit 0 8 9 ∷ exit 0 8 9 ∷ exit 47 5 9 ∷ enter 49 ∷ enter 0 ∷ exit 0 9 10 ∷ enter 0 ∷ enter 0 ∷ enter 50 ∷ enter 5 ∷ exit 5 10 11 ∷ exit 50 10 11 ∷ exit 0 10 11 ∷ exit 0 10 11 ∷ enter 0 ∷ exit 0 11 12 ∷ exit 49 9 12 ∷ exit 46 5 12 ∷ exit 48 3 12 ∷ enter 0 ∷ enter 0 ∷ exit 0 12 13 ∷ exit 0 12 13 ∷ exit 47 2 13 ∷ enter 49 ∷ enter 0 ∷ exit 0 13 14 ∷ enter 0 ∷ enter 0 ∷ enter 50 ∷ enter 5 ∷ exit 5 14 15 ∷ exit 50 14 15 ∷ exit 0 14 15 ∷ exit 0 14 15 ∷ enter 0 ∷ exit 0 15 16 ∷ exit 49 13 16 ∷ exit 45 2 16 ∷ enter 5 ∷ exit 5 16 17 ∷ enter 39 ∷ enter 0 ∷ exit 0 17 18 ∷ enter 0 ∷ enter 5 ∷ exit 5 18 19 ∷ exit 0 18 19 ∷ enter 0 ∷ exit 0 19 20 ∷ exit 39 17 20 ∷ exit 48 2 20 ∷ enter 0 ∷ enter 0 ∷ exit 0 20 21 ∷ exit 0 20 21 ∷ exit 47 0 21 ∷ enter 49 ∷ enter 0 ∷ exit 0 21 22 ∷ enter 0 ∷ enter 0 ∷ enter 50 ∷ enter 5 ∷ exit 5 22 23 ∷ exit 50 22 23 ∷ exit 0 22 23 ∷ exit 0 22 23 ∷ enter 0 ∷ exit 0 23 24 ∷ exit 49 21 24 ∷ exit 46 0 24 ∷ exit 12 0 24 ∷ []) ("<p><img src=\"f\" alt=\"a b e\" /></p>" ∷ []))
unfolding running
v18 = tt

v19 : T (shows (off Lf) ("[![a](b) ![c](d)](e)" ∷ []) (enter 12 ∷ enter 45 ∷ enter 47 ∷ enter 0 ∷ enter 0 ∷ exit 0 0 1 ∷ exit 0 0 1 ∷ enter 48 ∷ enter 46 ∷ enter 47 ∷ enter 0 ∷ enter 0 ∷ exit 0 1 2 ∷ enter 0 ∷ exit 0 2 3 ∷ exit 0 1 3 ∷ enter 48 ∷ enter 5 ∷ exit 5 3 4 ∷ exit 48 3 4 ∷ enter 0 ∷ enter 0 ∷ exit 0 4 5 ∷ exit 0 4 5 ∷ exit 47 1 5 ∷ enter 49 ∷ enter 0 ∷ exit 0 5 6 ∷ enter 0 ∷ enter 0 ∷ enter 50 ∷ enter 5 ∷ exit 5 6 7 ∷ exit 50 6 7 ∷ exit 0 6 7 ∷ exit 0 6 7 ∷ enter 0 ∷ exit 0 7 8 ∷ exit 49 5 8 ∷ exit 46 1 8 ∷ enter 5 ∷ exit 5 8 9 ∷ enter 46 ∷ enter 47 ∷ enter 0 ∷ enter 0 ∷ exit 0 9 10 ∷ enter 0 ∷ exit 0 10 11 ∷ exit 0 9 11 ∷ enter 48 ∷ enter 5 ∷ exit 5 11 12 ∷ exit 48 11 12 ∷ enter 0 ∷ enter 0 ∷ exit 0 12 13 ∷ exit 0 12 13 ∷ exit 47 9 13 ∷ enter 49 ∷ enter 0 ∷ exit 0 13 14 ∷ enter 0 ∷ enter 0 ∷ enter 50 ∷ enter 5 ∷ exit 5 14 15 ∷ exit 50 14 15 ∷ exit 0 14 15 ∷ exit 0 14 15 ∷ enter 0 ∷ exit 0 15 16 ∷ exit 49 13 16 ∷ exit 46 9 16 ∷ exit 48 1 16 ∷ enter 0 ∷ enter 0 ∷ exit 0 16 17 ∷ exit 0 16 17 ∷ exit 47 0 17 ∷ enter 49 ∷ enter 0 ∷ exit 0 17 18 ∷ enter 0 ∷ enter 0 ∷ enter 50 ∷ enter 5 ∷ exit 5 18 19 ∷ exit 50 18 19 ∷ exit 0 18 19 ∷ exit 0 18 19 ∷ enter 0 ∷ exit 0 19 20 ∷ exit 49 17 20 ∷ exit 45 0 20 ∷ exit 12 0 20 ∷ []) ("<p><a href=\"e\"><img src=\"b\" alt=\"a\" /> <img src=\"d\" alt=\"c\" /></a></p>" ∷ []))
unfolding running
v19 = tt

v20 : T (shows (off Lf) ("![a[^b]c](d)\n\n[^b]: e" ∷ []) (enter 12 ∷ enter 46 ∷ enter 47 ∷ enter 0 ∷ enter 0 ∷ exit 0 0 1 ∷ enter 0 ∷ exit 0 1 2 ∷ exit 0 0 2 ∷ enter 48 ∷ enter 5 ∷ exit 5 2 3 ∷ enter 62 ∷ enter 47 ∷ enter 0 ∷ enter 0 ∷ exit 0 3 4 ∷ enter 0 ∷ exit 0 4 5 ∷ exit 0 3 5 ∷ enter 48 ∷ enter 5 ∷ exit 5 5 6 ∷ exit 48 5 6 ∷ enter 0 ∷ enter 0 ∷ exit 0 6 7 ∷ exit 0 6 7 ∷ exit 47 3 7 ∷ exit 62 3 7 ∷ enter 5 ∷ exit 5 7 8 ∷ exit 48 2 8 ∷ enter 0 ∷ enter 0 ∷ exit 0 8 9 ∷ exit 0 8 9 ∷ exit 47 0 9 ∷ enter 49 ∷ enter 0 ∷ exit 0 9 10 ∷ enter 0 ∷ enter 0 ∷ enter 50 ∷ enter 5 ∷ exit 5 10 11 ∷ exit 50 10 11 ∷ exit 0 10 11 ∷ exit 0 10 11 ∷ enter 0 ∷ exit 0 11 12 ∷ exit 49 9 12 ∷ exit 46 0 12 ∷ exit 12 0 12 ∷ enter 3 ∷ exit 3 12 13 ∷ enter 4 ∷ exit 4 13 14 ∷ enter 63 ∷ enter 64 ∷ enter 0 ∷ enter 0 ∷ exit 0 14 15 ∷ enter 0 ∷ exit 0 15 16 ∷ enter 65 ∷ enter 5 ∷ exit 5 16 17 ∷ exit 65 16 17 ∷ enter 0 ∷ exit 0 17 18 ∷ exit 0 14 18 ∷ enter 0 ∷ exit 0 18 19 ∷ enter 1 ∷ exit 1 19 20 ∷ exit 64 14 20 ∷ enter 12 ∷ enter 5 ∷ exit 5 20 21 ∷ exit 12 20 21 ∷ exit 63 14 21 ∷ []) ("<p><img src=\"d\" alt=\"ac\" /></p>\n<section data-footnotes=\"\" class=\"footnotes\"><h2 id=\"footnote-label\" class=\"sr-only\">Footnotes</h2>\n<ol>\n<li id=\"user-content-fn-b\">\n<p>e <a href=\"#user-content-fnref-b" ∷ "\" data-footnote-backref=\"\" aria-label=\"Back to content\" class=\"data-footnote-backref\">â\u{86}©</a></p>\n</li>\n</ol>\n</section>\n" ∷ []))
unfolding running
v20 = tt

v21 : T (shows (off Lf) ("[a[^b]c](d)\n\n[^b]: e" ∷ []) (enter 12 ∷ enter 5 ∷ exit 5 0 2 ∷ enter 62 ∷ enter 47 ∷ enter 0 ∷ enter 0 ∷ exit 0 2 3 ∷ enter 0 ∷ exit 0 3 4 ∷ exit 0 2 4 ∷ enter 48 ∷ enter 5 ∷ exit 5 4 5 ∷ exit 48 4 5 ∷ enter 0 ∷ enter 0 ∷ exit 0 5 6 ∷ exit 0 5 6 ∷ exit 47 2 6 ∷ exit 62 2 6 ∷ enter 5 ∷ exit 5 6 11 ∷ exit 12 0 11 ∷ enter 3 ∷ exit 3 11 12 ∷ enter 4 ∷ exit 4 12 13 ∷ enter 63 ∷ enter 64 ∷ enter 0 ∷ enter 0 ∷ exit 0 13 14 ∷ enter 0 ∷ exit 0 14 15 ∷ enter 65 ∷ enter 5 ∷ exit 5 15 16 ∷ exit 65 15 16 ∷ enter 0 ∷ exit 0 16 17 ∷ exit 0 13 17 ∷ enter 0 ∷ exit 0 17 18 ∷ enter 1 ∷ exit 1 18 19 ∷ exit 64 13 19 ∷ enter 12 ∷ enter 5 ∷ exit 5 19 20 ∷ exit 12 19 20 ∷ exit 63 13 20 ∷ []) ("<p>[a<sup><a href=\"#user-content-fn-b\" id=\"user-content-fnref-b\" data-footnote-ref=\"\" aria-describedby=\"footnote-label\">1</a></sup>c](d)</p>\n<section data-footnotes=\"\" class=\"footnotes\"><h2 id=\"footno" ∷ "te-label\" class=\"sr-only\">Footnotes</h2>\n<ol>\n<li id=\"user-content-fn-b\">\n<p>e <a href=\"#user-content-fnref-b\" data-footnote-backref=\"\" aria-label=\"Back to content\" class=\"data-footnote-backref\">â\u{86}©</" ∷ "a></p>\n</li>\n</ol>\n</section>\n" ∷ []))
unfolding running
v21 = tt

v22 : T (shows (off Lf) ("![&amp;\\*](b)" ∷ []) (enter 12 ∷ enter 46 ∷ enter 47 ∷ enter 0 ∷ enter 0 ∷ exit 0 0 1 ∷ enter 0 ∷ exit 0 1 2 ∷ exit 0 0 2 ∷ enter 48 ∷ enter 7 ∷ enter 8 ∷ exit 8 2 3 ∷ enter 11 ∷ exit 11 3 6 ∷ enter 0 ∷ exit 0 6 7 ∷ exit 7 2 7 ∷ enter 0 ∷ enter 0 ∷ exit 0 7 8 ∷ enter 6 ∷ exit 6 8 9 ∷ exit 0 7 9 ∷ exit 48 2 9 ∷ enter 0 ∷ enter 0 ∷ exit 0 9 10 ∷ exit 0 9 10 ∷ exit 47 0 10 ∷ enter 49 ∷ enter 0 ∷ exit 0 10 11 ∷ enter 0 ∷ enter 0 ∷ enter 50 ∷ enter 5 ∷ exit 5 11 12 ∷ exit 50 11 12 ∷ exit 0 11 12 ∷ exit 0 11 12 ∷ enter 0 ∷ exit 0 12 13 ∷ exit 49 10 13 ∷ exit 46 0 13 ∷ exit 12 0 13 ∷ []) ("<p><img src=\"b\" alt=\"&amp;*\" /></p>" ∷ []))
unfolding running
v22 = tt

v23 : T (shows (off Lf) ("![a\nb](c)" ∷ []) (enter 12 ∷ enter 46 ∷ enter 47 ∷ enter 0 ∷ enter 0 ∷ exit 0 0 1 ∷ enter 0 ∷ exit 0 1 2 ∷ exit 0 0 2 ∷ enter 48 ∷ enter 5 ∷ exit 5 2 3 ∷ enter 3 ∷ exit 3 3 4 ∷ enter 5 ∷ exit 5 4 5 ∷ exit 48 2 5 ∷ enter 0 ∷ enter 0 ∷ exit 0 5 6 ∷ exit 0 5 6 ∷ exit 47 0 6 ∷ enter 49 ∷ enter 0 ∷ exit 0 6 7 ∷ enter 0 ∷ enter 0 ∷ enter 50 ∷ enter 5 ∷ exit 5 7 8 ∷ exit 50 7 8 ∷ exit 0 7 8 ∷ exit 0 7 8 ∷ enter 0 ∷ exit 0 8 9 ∷ exit 49 6 9 ∷ exit 46 0 9 ∷ exit 12 0 9 ∷ []) ("<p><img src=\"c\" alt=\"a\nb\" /></p>" ∷ []))
unfolding running
v23 = tt

v24 : T (shows (off Lf) ("![a `b` **c** <https://d.e>](f \"g\")" ∷ []) (enter 12 ∷ enter 46 ∷ enter 47 ∷ enter 0 ∷ enter 0 ∷ exit 0 0 1 ∷ enter 0 ∷ exit 0 1 2 ∷ exit 0 0 2 ∷ enter 48 ∷ enter 5 ∷ exit 5 2 4 ∷ enter 33 ∷ enter 0 ∷ exit 0 4 5 ∷ enter 34 ∷ exit 34 5 6 ∷ enter 0 ∷ exit 0 6 7 ∷ exit 33 4 7 ∷ enter 5 ∷ exit 5 7 8 ∷ enter 40 ∷ enter 0 ∷ exit 0 8 10 ∷ enter 0 ∷ enter 5 ∷ exit 5 10 11 ∷ exit 0 10 11 ∷ enter 0 ∷ exit 0 11 13 ∷ exit 40 8 13 ∷ enter 5 ∷ exit 5 13 14 ∷ enter 0 ∷ enter 0 ∷ exit 0 14 15 ∷ enter 44 ∷ exit 44 15 26 ∷ enter 0 ∷ exit 0 26 27 ∷ exit 0 14 27 ∷ exit 48 2 27 ∷ enter 0 ∷ enter 0 ∷ exit 0 27 28 ∷ exit 0 27 28 ∷ exit 47 0 28 ∷ enter 49 ∷ enter 0 ∷ exit 0 28 29 ∷ enter 0 ∷ enter 0 ∷ enter 50 ∷ enter 5 ∷ exit 5 29 30 ∷ exit 50 29 30 ∷ exit 0 29 30 ∷ exit 0 29 30 ∷ enter 1 ∷ exit 1 30 31 ∷ enter 0 ∷ enter 0 ∷ exit 0 31 32 ∷ enter 51 ∷ enter 5 ∷ exit 5 32 33 ∷ exit 51 32 33 ∷ enter 0 ∷ exit 0 33 34 ∷ exit 0 31 34 ∷ enter 0 ∷ exit 0 34 35 ∷ exit 49 28 35 ∷ exit 46 0 35 ∷ exit 12 0 35 ∷ []) ("<p><img src=\"f\" alt=\"a b c https://d.e\" title=\"g\" /></p>" ∷ []))
unfolding running
v24 = tt

v25 : T (shows (off Lf) ("![![a]](b)\n\n[a]: c" ∷ []) (enter 12 ∷ enter 46 ∷ enter 47 ∷ enter 0 ∷ enter 0 ∷ exit 0 0 1 ∷ enter 0 ∷ exit 0 1 2 ∷ exit 0 0 2 ∷ enter 48 ∷ enter 46 ∷ enter 47 ∷ enter 0 ∷ enter 0 ∷ exit 0 2 3 ∷ enter 0 ∷ exit 0 3 4 ∷ exit 0 2 4 ∷ enter 48 ∷ enter 5 ∷ exit 5 4 5 ∷ exit 48 4 5 ∷ enter 0 ∷ enter 0 ∷ exit 0 5 6 ∷ exit 0 5 6 ∷ exit 47 2 6 ∷ exit 46 2 6 ∷ exit 48 2 6 ∷ enter 0 ∷ enter 0 ∷ exit 0 6 7 ∷ exit 0 6 7 ∷ exit 47 0 7 ∷ enter 49 ∷ enter 0 ∷ exit 0 7 8 ∷ enter 0 ∷ enter 0 ∷ enter 50 ∷ enter 5 ∷ exit 5 8 9 ∷ exit 50 8 9 ∷ exit 0 8 9 ∷ exit 0 8 9 ∷ enter 0 ∷ exit 0 9 10 ∷ exit 49 7 10 ∷ exit 46 0 10 ∷ exit 12 0 10 ∷ enter 3 ∷ exit 3 10 11 ∷ enter 4 ∷ exit 4 11 12 ∷ enter 53 ∷ enter 0 ∷ enter 0 ∷ exit 0 12 13 ∷ enter 54 ∷ enter 5 ∷ exit 5 13 14 ∷ exit 54 13 14 ∷ enter 0 ∷ exit 0 14 15 ∷ exit 0 12 15 ∷ enter 0 ∷ exit 0 15 16 ∷ enter 1 ∷ exit 1 16 17 ∷ enter 0 ∷ enter 0 ∷ enter 55 ∷ enter 5 ∷ exit 5 17 18 ∷ exit 55 17 18 ∷ exit 0 17 18 ∷ exit 0 17 18 ∷ exit 53 12 18 ∷ []) ("<p><img src=\"b\" alt=\"a\" /></p>\n" ∷ []))
unfolding running
v25 = tt

v26 : T (shows (off Lf) ("[![a]][b]\n\n[a]: c\n[b]: d" ∷ []) (enter 12 ∷ enter 45 ∷ enter 47 ∷ enter 0 ∷ enter 0 ∷ exit 0 0 1 ∷ exit 0 0 1 ∷ enter 48 ∷ enter 46 ∷ enter 47 ∷ enter 0 ∷ enter 0 ∷ exit 0 1 2 ∷ enter 0 ∷ exit 0 2 3 ∷ exit 0 1 3 ∷ enter 48 ∷ enter 5 ∷ exit 5 3 4 ∷ exit 48 3 4 ∷ enter 0 ∷ enter 0 ∷ exit 0 4 5 ∷ exit 0 4 5 ∷ exit 47 1 5 ∷ exit 46 1 5 ∷ exit 48 1 5 ∷ enter 0 ∷ enter 0 ∷ exit 0 5 6 ∷ exit 0 5 6 ∷ exit 47 0 6 ∷ enter 0 ∷ enter 0 ∷ exit 0 6 7 ∷ enter 52 ∷ enter 5 ∷ exit 5 7 8 ∷ exit 52 7 8 ∷ enter 0 ∷ exit 0 8 9 ∷ exit 0 6 9 ∷ exit 45 0 9 ∷ exit 12 0 9 ∷ enter 3 ∷ exit 3 9 10 ∷ enter 4 ∷ exit 4 10 11 ∷ enter 53 ∷ enter 0 ∷ enter 0 ∷ exit 0 11 12 ∷ enter 54 ∷ enter 5 ∷ exit 5 12 13 ∷ exit 54 12 13 ∷ enter 0 ∷ exit 0 13 14 ∷ exit 0 11 14 ∷ enter 0 ∷ exit 0 14 15 ∷ enter 1 ∷ exit 1 15 16 ∷ enter 0 ∷ enter 0 ∷ enter 55 ∷ enter 5 ∷ exit 5 16 17 ∷ exit 55 16 17 ∷ exit 0 16 17 ∷ exit 0 16 17 ∷ exit 53 11 17 ∷ enter 3 ∷ exit 3 17 18 ∷ enter 53 ∷ enter 0 ∷ enter 0 ∷ exit 0 18 19 ∷ enter 54 ∷ enter 5 ∷ exit 5 19 20 ∷ exit 54 19 20 ∷ enter 0 ∷ exit 0 20 21 ∷ exit 0 18 21 ∷ enter 0 ∷ exit 0 21 22 ∷ enter 1 ∷ exit 1 22 23 ∷ enter 0 ∷ enter 0 ∷ enter 55 ∷ enter 5 ∷ exit 5 23 24 ∷ exit 55 23 24 ∷ exit 0 23 24 ∷ exit 0 23 24 ∷ exit 53 18 24 ∷ []) ("<p><a href=\"d\"><img src=\"c\" alt=\"a\" /></a></p>\n" ∷ []))
unfolding running
v26 = tt

v27 : T (shows (off Lf) ("[![a]]\n\n[a]: c" ∷ []) (enter 12 ∷ enter 5 ∷ exit 5 0 1 ∷ enter 46 ∷ enter 47 ∷ enter 0 ∷ enter 0 ∷ exit 0 1 2 ∷ enter 0 ∷ exit 0 2 3 ∷ exit 0 1 3 ∷ enter 48 ∷ enter 5 ∷ exit 5 3 4 ∷ exit 48 3 4 ∷ enter 0 ∷ enter 0 ∷ exit 0 4 5 ∷ exit 0 4 5 ∷ exit 47 1 5 ∷ exit 46 1 5 ∷ enter 5 ∷ exit 5 5 6 ∷ exit 12 0 6 ∷ enter 3 ∷ exit 3 6 7 ∷ enter 4 ∷ exit 4 7 8 ∷ enter 53 ∷ enter 0 ∷ enter 0 ∷ exit 0 8 9 ∷ enter 54 ∷ enter 5 ∷ exit 5 9 10 ∷ exit 54 9 10 ∷ enter 0 ∷ exit 0 10 11 ∷ exit 0 8 11 ∷ enter 0 ∷ exit 0 11 12 ∷ enter 1 ∷ exit 1 12 13 ∷ enter 0 ∷ enter 0 ∷ enter 55 ∷ enter 5 ∷ exit 5 13 14 ∷ exit 55 13 14 ∷ exit 0 13 14 ∷ exit 0 13 14 ∷ exit 53 8 14 ∷ []) ("<p>[<img src=\"c\" alt=\"a\" />]</p>\n" ∷ []))
unfolding running
v27 = tt

v28 : T (shows (off Lf) ("![![![a](b) *c*](d) *e*](f) *g*" ∷ []) (enter 12 ∷ enter 46 ∷ enter 47 ∷ enter 0 ∷ enter 0 ∷ exit 0 0 1 ∷ enter 0 ∷ exit 0 1 2 ∷ exit 0 0 2 ∷ enter 48 ∷ enter 46 ∷ enter 47 ∷ enter 0 ∷ enter 0 ∷ exit 0 2 3 ∷ enter 0 ∷ exit 0 3 4 ∷ exit 0 2 4 ∷ enter 48 ∷ enter 46 ∷ enter 47 ∷ enter 0 ∷ enter 0 ∷ exit 0 4 5 ∷ enter 0 ∷ exit 0 5 6 ∷ exit 0 4 6 ∷ enter 48 ∷ enter 5 ∷ exit 5 6 7 ∷ exit 48 6 7 ∷ enter 0 ∷ enter 0 ∷ exit 0 7 8 ∷ exit 0 7 8 ∷ exit 47 4 8 ∷ enter 49 ∷ enter 0 ∷ exit 0 8 9 ∷ enter 0 ∷ enter 0 ∷ enter 50 ∷ enter 5 ∷ exit 5 9 10 ∷ exit 50 9 10 ∷ exit 0 9 10 ∷ exit 0 9 10 ∷ enter 0 ∷ exit 0 10 11 ∷ exit 49 8 11 ∷ exit 46 4 11 ∷ enter 5 ∷ exit 5 11 12 ∷ enter 39 ∷ enter 0 ∷ exit 0 12 13 ∷ enter 0 ∷ enter 5 ∷ exit 5 13 14 ∷ exit 0 13 14 ∷ enter 0 ∷ exit 0 14 15 ∷ exit 39 12 15 ∷ exit 48 4 15 ∷ enter 0 ∷ enter 0 ∷ exit 0 15 16 ∷ exit 0 15 16 ∷ exit 47 2 16 ∷ enter 49 ∷ enter 0 ∷ exit 0 16 17 ∷ enter 0 ∷ enter 0 ∷ enter 50 ∷ enter 5 ∷ exit 5 17 18 ∷ exit 50 17 18 ∷ exit 0 17 18 ∷ exit 0 17 18 ∷ enter 0 ∷ exit 0 18 19 ∷ exit 49 16 19 ∷ exit 46 2 19 ∷ enter 5 ∷ exit 5 19 20 ∷ enter 39 ∷ enter 0 ∷ exit 0 20 21 ∷ enter 0 ∷ enter 5 ∷ exit 5 21 22 ∷ exit 0 21 22 ∷ enter 0 ∷ exit 0 22 23 ∷ exit 39 20 23 ∷ exit 48 2 23 ∷ enter 0 ∷ enter 0 ∷ exit 0 23 24 ∷ exit 0 23 24 ∷ exit 47 0 24 ∷ enter 49 ∷ enter 0 ∷ exit 0 24 25 ∷ enter 0 ∷ enter 0 ∷ enter 50 ∷ enter 5 ∷ exit 5 25 26 ∷ exit 50 25 26 ∷ exit 0 25 26 ∷ exit 0 25 26 ∷ enter 0 ∷ exit 0 26 27 ∷ exit 49 24 27 ∷ exit 46 0 27 ∷ enter 5 ∷ exit 5 27 28 ∷ enter 39 ∷ enter 0 ∷ exit 0 28 29 ∷ enter 0 ∷ enter 5 ∷ exit 5 29 30 ∷ exit 0 29 30 ∷ enter 0 ∷ exit 0 30 31 ∷ exit 39 28 31 ∷ exit 12 0 31 ∷ []) ("<p><img src=\"f\" alt=\"a c e\" /> <em>g</em></p>" ∷ []))
unfolding running
v28 = tt

v29 : T (shows (off Lf) ("![a](javascript:b)" ∷ []) (enter 12 ∷ enter 46 ∷ enter 47 ∷ enter 0 ∷ enter 0 ∷ exit 0 0 1 ∷ enter 0 ∷ exit 0 1 2 ∷ exit 0 0 2 ∷ enter 48 ∷ enter 5 ∷ exit 5 2 3 ∷ exit 48 2 3 ∷ enter 0 ∷ enter 0 ∷ exit 0 3 4 ∷ exit 0 3 4 ∷ exit 47 0 4 ∷ enter 49 ∷ enter 0 ∷ exit 0 4 5 ∷ enter 0 ∷ enter 0 ∷ enter 50 ∷ enter 5 ∷ exit 5 5 17 ∷ exit 50 5 17 ∷ exit 0 5 17 ∷ exit 0 5 17 ∷ enter 0 ∷ exit 0 17 18 ∷ exit 49 4 18 ∷ exit 46 0 18 ∷ exit 12 0 18 ∷ []) ("<p><img src=\"\" alt=\"a\" /></p>" ∷ []))
unfolding running
v29 = tt

v30 : T (shows (protocol Lf) ("![a](javascript:b)" ∷ []) (enter 12 ∷ enter 46 ∷ enter 47 ∷ enter 0 ∷ enter 0 ∷ exit 0 0 1 ∷ enter 0 ∷ exit 0 1 2 ∷ exit 0 0 2 ∷ enter 48 ∷ enter 5 ∷ exit 5 2 3 ∷ exit 48 2 3 ∷ enter 0 ∷ enter 0 ∷ exit 0 3 4 ∷ exit 0 3 4 ∷ exit 47 0 4 ∷ enter 49 ∷ enter 0 ∷ exit 0 4 5 ∷ enter 0 ∷ enter 0 ∷ enter 50 ∷ enter 5 ∷ exit 5 5 17 ∷ exit 50 5 17 ∷ exit 0 5 17 ∷ exit 0 5 17 ∷ enter 0 ∷ exit 0 17 18 ∷ exit 49 4 18 ∷ exit 46 0 18 ∷ exit 12 0 18 ∷ []) ("<p><img src=\"javascript:b\" alt=\"a\" /></p>" ∷ []))
unfolding running
v30 = tt

v31 : T (shows (images Lf) ("![a](javascript:b)" ∷ []) (enter 12 ∷ enter 46 ∷ enter 47 ∷ enter 0 ∷ enter 0 ∷ exit 0 0 1 ∷ enter 0 ∷ exit 0 1 2 ∷ exit 0 0 2 ∷ enter 48 ∷ enter 5 ∷ exit 5 2 3 ∷ exit 48 2 3 ∷ enter 0 ∷ enter 0 ∷ exit 0 3 4 ∷ exit 0 3 4 ∷ exit 47 0 4 ∷ enter 49 ∷ enter 0 ∷ exit 0 4 5 ∷ enter 0 ∷ enter 0 ∷ enter 50 ∷ enter 5 ∷ exit 5 5 17 ∷ exit 50 5 17 ∷ exit 0 5 17 ∷ exit 0 5 17 ∷ enter 0 ∷ exit 0 17 18 ∷ exit 49 4 18 ∷ exit 46 0 18 ∷ exit 12 0 18 ∷ []) ("<p><img src=\"javascript:b\" alt=\"a\" /></p>" ∷ []))
unfolding running
v31 = tt

v32 : T (shows (on Lf) ("![a](javascript:b)" ∷ []) (enter 12 ∷ enter 46 ∷ enter 47 ∷ enter 0 ∷ enter 0 ∷ exit 0 0 1 ∷ enter 0 ∷ exit 0 1 2 ∷ exit 0 0 2 ∷ enter 48 ∷ enter 5 ∷ exit 5 2 3 ∷ exit 48 2 3 ∷ enter 0 ∷ enter 0 ∷ exit 0 3 4 ∷ exit 0 3 4 ∷ exit 47 0 4 ∷ enter 49 ∷ enter 0 ∷ exit 0 4 5 ∷ enter 0 ∷ enter 0 ∷ enter 50 ∷ enter 5 ∷ exit 5 5 17 ∷ exit 50 5 17 ∷ exit 0 5 17 ∷ exit 0 5 17 ∷ enter 0 ∷ exit 0 17 18 ∷ exit 49 4 18 ∷ exit 46 0 18 ∷ exit 12 0 18 ∷ []) ("<p><img src=\"javascript:b\" alt=\"a\" /></p>" ∷ []))
unfolding running
v32 = tt

v33 : T (shows (off Lf) ("![a](irc:b)" ∷ []) (enter 12 ∷ enter 46 ∷ enter 47 ∷ enter 0 ∷ enter 0 ∷ exit 0 0 1 ∷ enter 0 ∷ exit 0 1 2 ∷ exit 0 0 2 ∷ enter 48 ∷ enter 5 ∷ exit 5 2 3 ∷ exit 48 2 3 ∷ enter 0 ∷ enter 0 ∷ exit 0 3 4 ∷ exit 0 3 4 ∷ exit 47 0 4 ∷ enter 49 ∷ enter 0 ∷ exit 0 4 5 ∷ enter 0 ∷ enter 0 ∷ enter 50 ∷ enter 5 ∷ exit 5 5 10 ∷ exit 50 5 10 ∷ exit 0 5 10 ∷ exit 0 5 10 ∷ enter 0 ∷ exit 0 10 11 ∷ exit 49 4 11 ∷ exit 46 0 11 ∷ exit 12 0 11 ∷ []) ("<p><img src=\"\" alt=\"a\" /></p>" ∷ []))
unfolding running
v33 = tt

v34 : T (shows (protocol Lf) ("![a](irc:b)" ∷ []) (enter 12 ∷ enter 46 ∷ enter 47 ∷ enter 0 ∷ enter 0 ∷ exit 0 0 1 ∷ enter 0 ∷ exit 0 1 2 ∷ exit 0 0 2 ∷ enter 48 ∷ enter 5 ∷ exit 5 2 3 ∷ exit 48 2 3 ∷ enter 0 ∷ enter 0 ∷ exit 0 3 4 ∷ exit 0 3 4 ∷ exit 47 0 4 ∷ enter 49 ∷ enter 0 ∷ exit 0 4 5 ∷ enter 0 ∷ enter 0 ∷ enter 50 ∷ enter 5 ∷ exit 5 5 10 ∷ exit 50 5 10 ∷ exit 0 5 10 ∷ exit 0 5 10 ∷ enter 0 ∷ exit 0 10 11 ∷ exit 49 4 11 ∷ exit 46 0 11 ∷ exit 12 0 11 ∷ []) ("<p><img src=\"irc:b\" alt=\"a\" /></p>" ∷ []))
unfolding running
v34 = tt

v35 : T (shows (images Lf) ("![a](irc:b)" ∷ []) (enter 12 ∷ enter 46 ∷ enter 47 ∷ enter 0 ∷ enter 0 ∷ exit 0 0 1 ∷ enter 0 ∷ exit 0 1 2 ∷ exit 0 0 2 ∷ enter 48 ∷ enter 5 ∷ exit 5 2 3 ∷ exit 48 2 3 ∷ enter 0 ∷ enter 0 ∷ exit 0 3 4 ∷ exit 0 3 4 ∷ exit 47 0 4 ∷ enter 49 ∷ enter 0 ∷ exit 0 4 5 ∷ enter 0 ∷ enter 0 ∷ enter 50 ∷ enter 5 ∷ exit 5 5 10 ∷ exit 50 5 10 ∷ exit 0 5 10 ∷ exit 0 5 10 ∷ enter 0 ∷ exit 0 10 11 ∷ exit 49 4 11 ∷ exit 46 0 11 ∷ exit 12 0 11 ∷ []) ("<p><img src=\"irc:b\" alt=\"a\" /></p>" ∷ []))
unfolding running
v35 = tt

v36 : T (shows (on Lf) ("![a](irc:b)" ∷ []) (enter 12 ∷ enter 46 ∷ enter 47 ∷ enter 0 ∷ enter 0 ∷ exit 0 0 1 ∷ enter 0 ∷ exit 0 1 2 ∷ exit 0 0 2 ∷ enter 48 ∷ enter 5 ∷ exit 5 2 3 ∷ exit 48 2 3 ∷ enter 0 ∷ enter 0 ∷ exit 0 3 4 ∷ exit 0 3 4 ∷ exit 47 0 4 ∷ enter 49 ∷ enter 0 ∷ exit 0 4 5 ∷ enter 0 ∷ enter 0 ∷ enter 50 ∷ enter 5 ∷ exit 5 5 10 ∷ exit 50 5 10 ∷ exit 0 5 10 ∷ exit 0 5 10 ∷ enter 0 ∷ exit 0 10 11 ∷ exit 49 4 11 ∷ exit 46 0 11 ∷ exit 12 0 11 ∷ []) ("<p><img src=\"irc:b\" alt=\"a\" /></p>" ∷ []))
unfolding running
v36 = tt

v37 : T (shows (off Lf) ("![a](http:b)" ∷ []) (enter 12 ∷ enter 46 ∷ enter 47 ∷ enter 0 ∷ enter 0 ∷ exit 0 0 1 ∷ enter 0 ∷ exit 0 1 2 ∷ exit 0 0 2 ∷ enter 48 ∷ enter 5 ∷ exit 5 2 3 ∷ exit 48 2 3 ∷ enter 0 ∷ enter 0 ∷ exit 0 3 4 ∷ exit 0 3 4 ∷ exit 47 0 4 ∷ enter 49 ∷ enter 0 ∷ exit 0 4 5 ∷ enter 0 ∷ enter 0 ∷ enter 50 ∷ enter 5 ∷ exit 5 5 11 ∷ exit 50 5 11 ∷ exit 0 5 11 ∷ exit 0 5 11 ∷ enter 0 ∷ exit 0 11 12 ∷ exit 49 4 12 ∷ exit 46 0 12 ∷ exit 12 0 12 ∷ []) ("<p><img src=\"http:b\" alt=\"a\" /></p>" ∷ []))
unfolding running
v37 = tt

v38 : T (shows (off Lf) ("![*a* `b` **c**\n<d>](e)" ∷ []) (enter 12 ∷ enter 46 ∷ enter 47 ∷ enter 0 ∷ enter 0 ∷ exit 0 0 1 ∷ enter 0 ∷ exit 0 1 2 ∷ exit 0 0 2 ∷ enter 48 ∷ enter 39 ∷ enter 0 ∷ exit 0 2 3 ∷ enter 0 ∷ enter 5 ∷ exit 5 3 4 ∷ exit 0 3 4 ∷ enter 0 ∷ exit 0 4 5 ∷ exit 39 2 5 ∷ enter 5 ∷ exit 5 5 6 ∷ enter 33 ∷ enter 0 ∷ exit 0 6 7 ∷ enter 34 ∷ exit 34 7 8 ∷ enter 0 ∷ exit 0 8 9 ∷ exit 33 6 9 ∷ enter 5 ∷ exit 5 9 10 ∷ enter 40 ∷ enter 0 ∷ exit 0 10 12 ∷ enter 0 ∷ enter 5 ∷ exit 5 12 13 ∷ exit 0 12 13 ∷ enter 0 ∷ exit 0 13 15 ∷ exit 40 10 15 ∷ enter 3 ∷ exit 3 15 16 ∷ enter 37 ∷ enter 38 ∷ exit 38 16 19 ∷ exit 37 16 19 ∷ exit 48 2 19 ∷ enter 0 ∷ enter 0 ∷ exit 0 19 20 ∷ exit 0 19 20 ∷ exit 47 0 20 ∷ enter 49 ∷ enter 0 ∷ exit 0 20 21 ∷ enter 0 ∷ enter 0 ∷ enter 50 ∷ enter 5 ∷ exit 5 21 22 ∷ exit 50 21 22 ∷ exit 0 21 22 ∷ exit 0 21 22 ∷ enter 0 ∷ exit 0 22 23 ∷ exit 49 20 23 ∷ exit 46 0 23 ∷ exit 12 0 23 ∷ []) ("<p><img src=\"e\" alt=\"a b c\n&lt;d&gt;\" /></p>" ∷ []))
unfolding running
v38 = tt

v39 : T (shows (html Lf) ("![*a* `b` **c**\n<d>](e)" ∷ []) (enter 12 ∷ enter 46 ∷ enter 47 ∷ enter 0 ∷ enter 0 ∷ exit 0 0 1 ∷ enter 0 ∷ exit 0 1 2 ∷ exit 0 0 2 ∷ enter 48 ∷ enter 39 ∷ enter 0 ∷ exit 0 2 3 ∷ enter 0 ∷ enter 5 ∷ exit 5 3 4 ∷ exit 0 3 4 ∷ enter 0 ∷ exit 0 4 5 ∷ exit 39 2 5 ∷ enter 5 ∷ exit 5 5 6 ∷ enter 33 ∷ enter 0 ∷ exit 0 6 7 ∷ enter 34 ∷ exit 34 7 8 ∷ enter 0 ∷ exit 0 8 9 ∷ exit 33 6 9 ∷ enter 5 ∷ exit 5 9 10 ∷ enter 40 ∷ enter 0 ∷ exit 0 10 12 ∷ enter 0 ∷ enter 5 ∷ exit 5 12 13 ∷ exit 0 12 13 ∷ enter 0 ∷ exit 0 13 15 ∷ exit 40 10 15 ∷ enter 3 ∷ exit 3 15 16 ∷ enter 37 ∷ enter 38 ∷ exit 38 16 19 ∷ exit 37 16 19 ∷ exit 48 2 19 ∷ enter 0 ∷ enter 0 ∷ exit 0 19 20 ∷ exit 0 19 20 ∷ exit 47 0 20 ∷ enter 49 ∷ enter 0 ∷ exit 0 20 21 ∷ enter 0 ∷ enter 0 ∷ enter 50 ∷ enter 5 ∷ exit 5 21 22 ∷ exit 50 21 22 ∷ exit 0 21 22 ∷ exit 0 21 22 ∷ enter 0 ∷ exit 0 22 23 ∷ exit 49 20 23 ∷ exit 46 0 23 ∷ exit 12 0 23 ∷ []) ("<p><img src=\"e\" alt=\"a b c\n<d>\" /></p>" ∷ []))
unfolding running
v39 = tt

v40 : T (shows (on Lf) ("![*a* `b` **c**\n<d>](e)" ∷ []) (enter 12 ∷ enter 46 ∷ enter 47 ∷ enter 0 ∷ enter 0 ∷ exit 0 0 1 ∷ enter 0 ∷ exit 0 1 2 ∷ exit 0 0 2 ∷ enter 48 ∷ enter 39 ∷ enter 0 ∷ exit 0 2 3 ∷ enter 0 ∷ enter 5 ∷ exit 5 3 4 ∷ exit 0 3 4 ∷ enter 0 ∷ exit 0 4 5 ∷ exit 39 2 5 ∷ enter 5 ∷ exit 5 5 6 ∷ enter 33 ∷ enter 0 ∷ exit 0 6 7 ∷ enter 34 ∷ exit 34 7 8 ∷ enter 0 ∷ exit 0 8 9 ∷ exit 33 6 9 ∷ enter 5 ∷ exit 5 9 10 ∷ enter 40 ∷ enter 0 ∷ exit 0 10 12 ∷ enter 0 ∷ enter 5 ∷ exit 5 12 13 ∷ exit 0 12 13 ∷ enter 0 ∷ exit 0 13 15 ∷ exit 40 10 15 ∷ enter 3 ∷ exit 3 15 16 ∷ enter 37 ∷ enter 38 ∷ exit 38 16 19 ∷ exit 37 16 19 ∷ exit 48 2 19 ∷ enter 0 ∷ enter 0 ∷ exit 0 19 20 ∷ exit 0 19 20 ∷ exit 47 0 20 ∷ enter 49 ∷ enter 0 ∷ exit 0 20 21 ∷ enter 0 ∷ enter 0 ∷ enter 50 ∷ enter 5 ∷ exit 5 21 22 ∷ exit 50 21 22 ∷ exit 0 21 22 ∷ exit 0 21 22 ∷ enter 0 ∷ exit 0 22 23 ∷ exit 49 20 23 ∷ exit 46 0 23 ∷ exit 12 0 23 ∷ []) ("<p><img src=\"e\" alt=\"a b c\n<d>\" /></p>" ∷ []))
unfolding running
v40 = tt

v41 : T (shows (off Lf) ("![a](b) *c*" ∷ []) (enter 12 ∷ enter 46 ∷ enter 47 ∷ enter 0 ∷ enter 0 ∷ exit 0 0 1 ∷ enter 0 ∷ exit 0 1 2 ∷ exit 0 0 2 ∷ enter 48 ∷ enter 5 ∷ exit 5 2 3 ∷ exit 48 2 3 ∷ enter 0 ∷ enter 0 ∷ exit 0 3 4 ∷ exit 0 3 4 ∷ exit 47 0 4 ∷ enter 49 ∷ enter 0 ∷ exit 0 4 5 ∷ enter 0 ∷ enter 0 ∷ enter 50 ∷ enter 5 ∷ exit 5 5 6 ∷ exit 50 5 6 ∷ exit 0 5 6 ∷ exit 0 5 6 ∷ enter 0 ∷ exit 0 6 7 ∷ exit 49 4 7 ∷ exit 46 0 7 ∷ enter 5 ∷ exit 5 7 8 ∷ enter 39 ∷ enter 0 ∷ exit 0 8 9 ∷ enter 0 ∷ enter 5 ∷ exit 5 9 10 ∷ exit 0 9 10 ∷ enter 0 ∷ exit 0 10 11 ∷ exit 39 8 11 ∷ exit 12 0 11 ∷ []) ("<p><img src=\"b\" alt=\"a\" /> <em>c</em></p>" ∷ []))
unfolding running
v41 = tt

v42 : T (shows (off Lf) ("![](b \"c\") ![d](e)" ∷ []) (enter 12 ∷ enter 46 ∷ enter 47 ∷ enter 0 ∷ enter 0 ∷ exit 0 0 1 ∷ enter 0 ∷ exit 0 1 2 ∷ exit 0 0 2 ∷ enter 48 ∷ exit 48 2 2 ∷ enter 0 ∷ enter 0 ∷ exit 0 2 3 ∷ exit 0 2 3 ∷ exit 47 0 3 ∷ enter 49 ∷ enter 0 ∷ exit 0 3 4 ∷ enter 0 ∷ enter 0 ∷ enter 50 ∷ enter 5 ∷ exit 5 4 5 ∷ exit 50 4 5 ∷ exit 0 4 5 ∷ exit 0 4 5 ∷ enter 1 ∷ exit 1 5 6 ∷ enter 0 ∷ enter 0 ∷ exit 0 6 7 ∷ enter 51 ∷ enter 5 ∷ exit 5 7 8 ∷ exit 51 7 8 ∷ enter 0 ∷ exit 0 8 9 ∷ exit 0 6 9 ∷ enter 0 ∷ exit 0 9 10 ∷ exit 49 3 10 ∷ exit 46 0 10 ∷ enter 5 ∷ exit 5 10 11 ∷ enter 46 ∷ enter 47 ∷ enter 0 ∷ enter 0 ∷ exit 0 11 12 ∷ enter 0 ∷ exit 0 12 13 ∷ exit 0 11 13 ∷ enter 48 ∷ enter 5 ∷ exit 5 13 14 ∷ exit 48 13 14 ∷ enter 0 ∷ enter 0 ∷ exit 0 14 15 ∷ exit 0 14 15 ∷ exit 47 11 15 ∷ enter 49 ∷ enter 0 ∷ exit 0 15 16 ∷ enter 0 ∷ enter 0 ∷ enter 50 ∷ enter 5 ∷ exit 5 16 17 ∷ exit 50 16 17 ∷ exit 0 16 17 ∷ exit 0 16 17 ∷ enter 0 ∷ exit 0 17 18 ∷ exit 49 15 18 ∷ exit 46 11 18 ∷ exit 12 0 18 ∷ []) ("<p><img src=\"b\" alt=\"\" title=\"c\" /> <img src=\"e\" alt=\"d\" /></p>" ∷ []))
unfolding running
v42 = tt
