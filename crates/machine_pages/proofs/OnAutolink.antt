-- Autolinks: pages of the crate markdown 1.0.0. Made by tools/machine_pages. Assumes nothing.
use mathlib.Core.List.{[], ◌∷◌}
use lib.Dec.{T}
use Rattle.machine.specs.declared.Ending.TheVariants.{Lf}
use Rattle.machine.proofs.Running.{running}
use Rattle.machine.proofs.Answers.{shows, off, protocol, on, enter, exit}

v1 : T (shows (off Lf) ("<a@b.c>" ∷ []) (enter 12 ∷ enter 0 ∷ enter 0 ∷ exit 0 0 1 ∷ enter 43 ∷ exit 43 1 6 ∷ enter 0 ∷ exit 0 6 7 ∷ exit 0 0 7 ∷ exit 12 0 7 ∷ []) ("<p><a href=\"mailto:a@b.c\">a@b.c</a></p>" ∷ []))
unfolding running
v1 = tt

v2 : T (shows (off Lf) ("<https://a.b/?c=d&e#f>" ∷ []) (enter 12 ∷ enter 0 ∷ enter 0 ∷ exit 0 0 1 ∷ enter 44 ∷ exit 44 1 21 ∷ enter 0 ∷ exit 0 21 22 ∷ exit 0 0 22 ∷ exit 12 0 22 ∷ []) ("<p><a href=\"https://a.b/?c=d&amp;e#f\">https://a.b/?c=d&amp;e#f</a></p>" ∷ []))
unfolding running
v2 = tt

v3 : T (shows (off Lf) ("<javascript:alert(1)>" ∷ []) (enter 12 ∷ enter 0 ∷ enter 0 ∷ exit 0 0 1 ∷ enter 44 ∷ exit 44 1 20 ∷ enter 0 ∷ exit 0 20 21 ∷ exit 0 0 21 ∷ exit 12 0 21 ∷ []) ("<p><a href=\"\">javascript:alert(1)</a></p>" ∷ []))
unfolding running
v3 = tt

v4 : T (shows (protocol Lf) ("<javascript:alert(1)>" ∷ []) (enter 12 ∷ enter 0 ∷ enter 0 ∷ exit 0 0 1 ∷ enter 44 ∷ exit 44 1 20 ∷ enter 0 ∷ exit 0 20 21 ∷ exit 0 0 21 ∷ exit 12 0 21 ∷ []) ("<p><a href=\"javascript:alert(1)\">javascript:alert(1)</a></p>" ∷ []))
unfolding running
v4 = tt

v5 : T (shows (on Lf) ("<javascript:alert(1)>" ∷ []) (enter 12 ∷ enter 0 ∷ enter 0 ∷ exit 0 0 1 ∷ enter 44 ∷ exit 44 1 20 ∷ enter 0 ∷ exit 0 20 21 ∷ exit 0 0 21 ∷ exit 12 0 21 ∷ []) ("<p><a href=\"javascript:alert(1)\">javascript:alert(1)</a></p>" ∷ []))
unfolding running
v5 = tt

v6 : T (shows (off Lf) ("<irc:a>" ∷ []) (enter 12 ∷ enter 0 ∷ enter 0 ∷ exit 0 0 1 ∷ enter 44 ∷ exit 44 1 6 ∷ enter 0 ∷ exit 0 6 7 ∷ exit 0 0 7 ∷ exit 12 0 7 ∷ []) ("<p><a href=\"irc:a\">irc:a</a></p>" ∷ []))
unfolding running
v6 = tt

v7 : T (shows (off Lf) ("<HTTP:x>" ∷ []) (enter 12 ∷ enter 0 ∷ enter 0 ∷ exit 0 0 1 ∷ enter 44 ∷ exit 44 1 7 ∷ enter 0 ∷ exit 0 7 8 ∷ exit 0 0 8 ∷ exit 12 0 8 ∷ []) ("<p><a href=\"HTTP:x\">HTTP:x</a></p>" ∷ []))
unfolding running
v7 = tt

v8 : T (shows (off Lf) ("<xmpp:a>" ∷ []) (enter 12 ∷ enter 0 ∷ enter 0 ∷ exit 0 0 1 ∷ enter 44 ∷ exit 44 1 7 ∷ enter 0 ∷ exit 0 7 8 ∷ exit 0 0 8 ∷ exit 12 0 8 ∷ []) ("<p><a href=\"xmpp:a\">xmpp:a</a></p>" ∷ []))
unfolding running
v8 = tt

v9 : T (shows (off Lf) ("<MAILTO:a@b.c>" ∷ []) (enter 12 ∷ enter 0 ∷ enter 0 ∷ exit 0 0 1 ∷ enter 44 ∷ exit 44 1 13 ∷ enter 0 ∷ exit 0 13 14 ∷ exit 0 0 14 ∷ exit 12 0 14 ∷ []) ("<p><a href=\"MAILTO:a@b.c\">MAILTO:a@b.c</a></p>" ∷ []))
unfolding running
v9 = tt

v10 : T (shows (off Lf) ("<a+b@c.d>" ∷ []) (enter 12 ∷ enter 0 ∷ enter 0 ∷ exit 0 0 1 ∷ enter 43 ∷ exit 43 1 8 ∷ enter 0 ∷ exit 0 8 9 ∷ exit 0 0 9 ∷ exit 12 0 9 ∷ []) ("<p><a href=\"mailto:a+b@c.d\">a+b@c.d</a></p>" ∷ []))
unfolding running
v10 = tt

v11 : T (shows (off Lf) ("<x-y:z>" ∷ []) (enter 12 ∷ enter 0 ∷ enter 0 ∷ exit 0 0 1 ∷ enter 44 ∷ exit 44 1 6 ∷ enter 0 ∷ exit 0 6 7 ∷ exit 0 0 7 ∷ exit 12 0 7 ∷ []) ("<p><a href=\"\">x-y:z</a></p>" ∷ []))
unfolding running
v11 = tt

v12 : T (shows (protocol Lf) ("<x-y:z>" ∷ []) (enter 12 ∷ enter 0 ∷ enter 0 ∷ exit 0 0 1 ∷ enter 44 ∷ exit 44 1 6 ∷ enter 0 ∷ exit 0 6 7 ∷ exit 0 0 7 ∷ exit 12 0 7 ∷ []) ("<p><a href=\"x-y:z\">x-y:z</a></p>" ∷ []))
unfolding running
v12 = tt

v13 : T (shows (on Lf) ("<x-y:z>" ∷ []) (enter 12 ∷ enter 0 ∷ enter 0 ∷ exit 0 0 1 ∷ enter 44 ∷ exit 44 1 6 ∷ enter 0 ∷ exit 0 6 7 ∷ exit 0 0 7 ∷ exit 12 0 7 ∷ []) ("<p><a href=\"x-y:z\">x-y:z</a></p>" ∷ []))
unfolding running
v13 = tt

v14 : T (shows (off Lf) ("[<https://a.b>](c)" ∷ []) (enter 12 ∷ enter 45 ∷ enter 47 ∷ enter 0 ∷ enter 0 ∷ exit 0 0 1 ∷ exit 0 0 1 ∷ enter 48 ∷ enter 0 ∷ enter 0 ∷ exit 0 1 2 ∷ enter 44 ∷ exit 44 2 13 ∷ enter 0 ∷ exit 0 13 14 ∷ exit 0 1 14 ∷ exit 48 1 14 ∷ enter 0 ∷ enter 0 ∷ exit 0 14 15 ∷ exit 0 14 15 ∷ exit 47 0 15 ∷ enter 49 ∷ enter 0 ∷ exit 0 15 16 ∷ enter 0 ∷ enter 0 ∷ enter 50 ∷ enter 5 ∷ exit 5 16 17 ∷ exit 50 16 17 ∷ exit 0 16 17 ∷ exit 0 16 17 ∷ enter 0 ∷ exit 0 17 18 ∷ exit 49 15 18 ∷ exit 45 0 18 ∷ exit 12 0 18 ∷ []) ("<p><a href=\"c\"><a href=\"https://a.b\">https://a.b</a></a></p>" ∷ []))
unfolding running
v14 = tt

v15 : T (shows (off Lf) ("![<https://a.b>](c)" ∷ []) (enter 12 ∷ enter 46 ∷ enter 47 ∷ enter 0 ∷ enter 0 ∷ exit 0 0 1 ∷ enter 0 ∷ exit 0 1 2 ∷ exit 0 0 2 ∷ enter 48 ∷ enter 0 ∷ enter 0 ∷ exit 0 2 3 ∷ enter 44 ∷ exit 44 3 14 ∷ enter 0 ∷ exit 0 14 15 ∷ exit 0 2 15 ∷ exit 48 2 15 ∷ enter 0 ∷ enter 0 ∷ exit 0 15 16 ∷ exit 0 15 16 ∷ exit 47 0 16 ∷ enter 49 ∷ enter 0 ∷ exit 0 16 17 ∷ enter 0 ∷ enter 0 ∷ enter 50 ∷ enter 5 ∷ exit 5 17 18 ∷ exit 50 17 18 ∷ exit 0 17 18 ∷ exit 0 17 18 ∷ enter 0 ∷ exit 0 18 19 ∷ exit 49 16 19 ∷ exit 46 0 19 ∷ exit 12 0 19 ∷ []) ("<p><img src=\"c\" alt=\"https://a.b\" /></p>" ∷ []))
unfolding running
v15 = tt

v16 : T (shows (off Lf) ("![<a@b.c>](c)" ∷ []) (enter 12 ∷ enter 46 ∷ enter 47 ∷ enter 0 ∷ enter 0 ∷ exit 0 0 1 ∷ enter 0 ∷ exit 0 1 2 ∷ exit 0 0 2 ∷ enter 48 ∷ enter 0 ∷ enter 0 ∷ exit 0 2 3 ∷ enter 43 ∷ exit 43 3 8 ∷ enter 0 ∷ exit 0 8 9 ∷ exit 0 2 9 ∷ exit 48 2 9 ∷ enter 0 ∷ enter 0 ∷ exit 0 9 10 ∷ exit 0 9 10 ∷ exit 47 0 10 ∷ enter 49 ∷ enter 0 ∷ exit 0 10 11 ∷ enter 0 ∷ enter 0 ∷ enter 50 ∷ enter 5 ∷ exit 5 11 12 ∷ exit 50 11 12 ∷ exit 0 11 12 ∷ exit 0 11 12 ∷ enter 0 ∷ exit 0 12 13 ∷ exit 49 10 13 ∷ exit 46 0 13 ∷ exit 12 0 13 ∷ []) ("<p><img src=\"c\" alt=\"a@b.c\" /></p>" ∷ []))
unfolding running
v16 = tt

v17 : T (shows (off Lf) ("<https://Ã©.b/%20%zz%2>" ∷ []) (enter 12 ∷ enter 0 ∷ enter 0 ∷ exit 0 0 1 ∷ enter 44 ∷ exit 44 1 22 ∷ enter 0 ∷ exit 0 22 23 ∷ exit 0 0 23 ∷ exit 12 0 23 ∷ []) ("<p><a href=\"https://%C3%A9.b/%20%zz%252\">https://Ã©.b/%20%zz%2</a></p>" ∷ []))
unfolding running
v17 = tt

v18 : T (shows (off Lf) ("<http://a.b/Ã©?c&d>" ∷ []) (enter 12 ∷ enter 0 ∷ enter 0 ∷ exit 0 0 1 ∷ enter 44 ∷ exit 44 1 18 ∷ enter 0 ∷ exit 0 18 19 ∷ exit 0 0 19 ∷ exit 12 0 19 ∷ []) ("<p><a href=\"http://a.b/%C3%A9?c&amp;d\">http://a.b/Ã©?c&amp;d</a></p>" ∷ []))
unfolding running
v18 = tt

v19 : T (shows (off Lf) ("<data:x>" ∷ []) (enter 12 ∷ enter 0 ∷ enter 0 ∷ exit 0 0 1 ∷ enter 44 ∷ exit 44 1 7 ∷ enter 0 ∷ exit 0 7 8 ∷ exit 0 0 8 ∷ exit 12 0 8 ∷ []) ("<p><a href=\"\">data:x</a></p>" ∷ []))
unfolding running
v19 = tt

v20 : T (shows (protocol Lf) ("<data:x>" ∷ []) (enter 12 ∷ enter 0 ∷ enter 0 ∷ exit 0 0 1 ∷ enter 44 ∷ exit 44 1 7 ∷ enter 0 ∷ exit 0 7 8 ∷ exit 0 0 8 ∷ exit 12 0 8 ∷ []) ("<p><a href=\"data:x\">data:x</a></p>" ∷ []))
unfolding running
v20 = tt

v21 : T (shows (on Lf) ("<data:x>" ∷ []) (enter 12 ∷ enter 0 ∷ enter 0 ∷ exit 0 0 1 ∷ enter 44 ∷ exit 44 1 7 ∷ enter 0 ∷ exit 0 7 8 ∷ exit 0 0 8 ∷ exit 12 0 8 ∷ []) ("<p><a href=\"data:x\">data:x</a></p>" ∷ []))
unfolding running
v21 = tt

v22 : T (shows (off Lf) ("![a <b@c.d> e](f) <g@h.i>" ∷ []) (enter 12 ∷ enter 46 ∷ enter 47 ∷ enter 0 ∷ enter 0 ∷ exit 0 0 1 ∷ enter 0 ∷ exit 0 1 2 ∷ exit 0 0 2 ∷ enter 48 ∷ enter 5 ∷ exit 5 2 4 ∷ enter 0 ∷ enter 0 ∷ exit 0 4 5 ∷ enter 43 ∷ exit 43 5 10 ∷ enter 0 ∷ exit 0 10 11 ∷ exit 0 4 11 ∷ enter 5 ∷ exit 5 11 13 ∷ exit 48 2 13 ∷ enter 0 ∷ enter 0 ∷ exit 0 13 14 ∷ exit 0 13 14 ∷ exit 47 0 14 ∷ enter 49 ∷ enter 0 ∷ exit 0 14 15 ∷ enter 0 ∷ enter 0 ∷ enter 50 ∷ enter 5 ∷ exit 5 15 16 ∷ exit 50 15 16 ∷ exit 0 15 16 ∷ exit 0 15 16 ∷ enter 0 ∷ exit 0 16 17 ∷ exit 49 14 17 ∷ exit 46 0 17 ∷ enter 5 ∷ exit 5 17 18 ∷ enter 0 ∷ enter 0 ∷ exit 0 18 19 ∷ enter 43 ∷ exit 43 19 24 ∷ enter 0 ∷ exit 0 24 25 ∷ exit 0 18 25 ∷ exit 12 0 25 ∷ []) ("<p><img src=\"f\" alt=\"a b@c.d e\" /> <a href=\"mailto:g@h.i\">g@h.i</a></p>" ∷ []))
unfolding running
v22 = tt
