-- Emphasis and strong: pages of the crate markdown 1.0.0. Made by tools/machine_pages. Assumes nothing.
use mathlib.Core.List.{[], ◌∷◌}
use lib.Dec.{T}
use Rattle.machine.specs.declared.Ending.TheVariants.{Lf}
use Rattle.machine.proofs.Running.{running}
use Rattle.machine.proofs.Answers.{shows, off, enter, exit}

v1 : T (shows (off Lf) ("*a*" ∷ []) (enter 12 ∷ enter 39 ∷ enter 0 ∷ exit 0 0 1 ∷ enter 0 ∷ enter 5 ∷ exit 5 1 2 ∷ exit 0 1 2 ∷ enter 0 ∷ exit 0 2 3 ∷ exit 39 0 3 ∷ exit 12 0 3 ∷ []) ("<p><em>a</em></p>" ∷ []))
unfolding running
v1 = tt

v2 : T (shows (off Lf) ("**a**" ∷ []) (enter 12 ∷ enter 40 ∷ enter 0 ∷ exit 0 0 2 ∷ enter 0 ∷ enter 5 ∷ exit 5 2 3 ∷ exit 0 2 3 ∷ enter 0 ∷ exit 0 3 5 ∷ exit 40 0 5 ∷ exit 12 0 5 ∷ []) ("<p><strong>a</strong></p>" ∷ []))
unfolding running
v2 = tt

v3 : T (shows (off Lf) ("***a***" ∷ []) (enter 12 ∷ enter 39 ∷ enter 0 ∷ exit 0 0 1 ∷ enter 0 ∷ enter 40 ∷ enter 0 ∷ exit 0 1 3 ∷ enter 0 ∷ enter 5 ∷ exit 5 3 4 ∷ exit 0 3 4 ∷ enter 0 ∷ exit 0 4 6 ∷ exit 40 1 6 ∷ exit 0 1 6 ∷ enter 0 ∷ exit 0 6 7 ∷ exit 39 0 7 ∷ exit 12 0 7 ∷ []) ("<p><em><strong>a</strong></em></p>" ∷ []))
unfolding running
v3 = tt

v4 : T (shows (off Lf) ("*a **b** c*" ∷ []) (enter 12 ∷ enter 39 ∷ enter 0 ∷ exit 0 0 1 ∷ enter 0 ∷ enter 5 ∷ exit 5 1 3 ∷ enter 40 ∷ enter 0 ∷ exit 0 3 5 ∷ enter 0 ∷ enter 5 ∷ exit 5 5 6 ∷ exit 0 5 6 ∷ enter 0 ∷ exit 0 6 8 ∷ exit 40 3 8 ∷ enter 5 ∷ exit 5 8 10 ∷ exit 0 1 10 ∷ enter 0 ∷ exit 0 10 11 ∷ exit 39 0 11 ∷ exit 12 0 11 ∷ []) ("<p><em>a <strong>b</strong> c</em></p>" ∷ []))
unfolding running
v4 = tt

v5 : T (shows (off Lf) ("_a_b" ∷ []) (enter 12 ∷ enter 5 ∷ exit 5 0 4 ∷ exit 12 0 4 ∷ []) ("<p>_a_b</p>" ∷ []))
unfolding running
v5 = tt

v6 : T (shows (off Lf) ("**a*" ∷ []) (enter 12 ∷ enter 5 ∷ exit 5 0 1 ∷ enter 39 ∷ enter 0 ∷ exit 0 1 2 ∷ enter 0 ∷ enter 5 ∷ exit 5 2 3 ∷ exit 0 2 3 ∷ enter 0 ∷ exit 0 3 4 ∷ exit 39 1 4 ∷ exit 12 0 4 ∷ []) ("<p>*<em>a</em></p>" ∷ []))
unfolding running
v6 = tt

v7 : T (shows (off Lf) ("*a\nb*" ∷ []) (enter 12 ∷ enter 39 ∷ enter 0 ∷ exit 0 0 1 ∷ enter 0 ∷ enter 5 ∷ exit 5 1 2 ∷ enter 3 ∷ exit 3 2 3 ∷ enter 5 ∷ exit 5 3 4 ∷ exit 0 1 4 ∷ enter 0 ∷ exit 0 4 5 ∷ exit 39 0 5 ∷ exit 12 0 5 ∷ []) ("<p><em>a\nb</em></p>" ∷ []))
unfolding running
v7 = tt

v8 : T (shows (off Lf) ("a*b*c" ∷ []) (enter 12 ∷ enter 5 ∷ exit 5 0 1 ∷ enter 39 ∷ enter 0 ∷ exit 0 1 2 ∷ enter 0 ∷ enter 5 ∷ exit 5 2 3 ∷ exit 0 2 3 ∷ enter 0 ∷ exit 0 3 4 ∷ exit 39 1 4 ∷ enter 5 ∷ exit 5 4 5 ∷ exit 12 0 5 ∷ []) ("<p>a<em>b</em>c</p>" ∷ []))
unfolding running
v8 = tt

v9 : T (shows (off Lf) ("**a *b* c**" ∷ []) (enter 12 ∷ enter 40 ∷ enter 0 ∷ exit 0 0 2 ∷ enter 0 ∷ enter 5 ∷ exit 5 2 4 ∷ enter 39 ∷ enter 0 ∷ exit 0 4 5 ∷ enter 0 ∷ enter 5 ∷ exit 5 5 6 ∷ exit 0 5 6 ∷ enter 0 ∷ exit 0 6 7 ∷ exit 39 4 7 ∷ enter 5 ∷ exit 5 7 9 ∷ exit 0 2 9 ∷ enter 0 ∷ exit 0 9 11 ∷ exit 40 0 11 ∷ exit 12 0 11 ∷ []) ("<p><strong>a <em>b</em> c</strong></p>" ∷ []))
unfolding running
v9 = tt

v10 : T (shows (off Lf) ("*[a](b)*" ∷ []) (enter 12 ∷ enter 39 ∷ enter 0 ∷ exit 0 0 1 ∷ enter 0 ∷ enter 45 ∷ enter 47 ∷ enter 0 ∷ enter 0 ∷ exit 0 1 2 ∷ exit 0 1 2 ∷ enter 48 ∷ enter 5 ∷ exit 5 2 3 ∷ exit 48 2 3 ∷ enter 0 ∷ enter 0 ∷ exit 0 3 4 ∷ exit 0 3 4 ∷ exit 47 1 4 ∷ enter 49 ∷ enter 0 ∷ exit 0 4 5 ∷ enter 0 ∷ enter 0 ∷ enter 50 ∷ enter 5 ∷ exit 5 5 6 ∷ exit 50 5 6 ∷ exit 0 5 6 ∷ exit 0 5 6 ∷ enter 0 ∷ exit 0 6 7 ∷ exit 49 4 7 ∷ exit 45 1 7 ∷ exit 0 1 7 ∷ enter 0 ∷ exit 0 7 8 ∷ exit 39 0 8 ∷ exit 12 0 8 ∷ []) ("<p><em><a href=\"b\">a</a></em></p>" ∷ []))
unfolding running
v10 = tt

v11 : T (shows (off Lf) ("[*a*](b)" ∷ []) (enter 12 ∷ enter 45 ∷ enter 47 ∷ enter 0 ∷ enter 0 ∷ exit 0 0 1 ∷ exit 0 0 1 ∷ enter 48 ∷ enter 39 ∷ enter 0 ∷ exit 0 1 2 ∷ enter 0 ∷ enter 5 ∷ exit 5 2 3 ∷ exit 0 2 3 ∷ enter 0 ∷ exit 0 3 4 ∷ exit 39 1 4 ∷ exit 48 1 4 ∷ enter 0 ∷ enter 0 ∷ exit 0 4 5 ∷ exit 0 4 5 ∷ exit 47 0 5 ∷ enter 49 ∷ enter 0 ∷ exit 0 5 6 ∷ enter 0 ∷ enter 0 ∷ enter 50 ∷ enter 5 ∷ exit 5 6 7 ∷ exit 50 6 7 ∷ exit 0 6 7 ∷ exit 0 6 7 ∷ enter 0 ∷ exit 0 7 8 ∷ exit 49 5 8 ∷ exit 45 0 8 ∷ exit 12 0 8 ∷ []) ("<p><a href=\"b\"><em>a</em></a></p>" ∷ []))
unfolding running
v11 = tt

v12 : T (shows (off Lf) ("*a`*`b*" ∷ []) (enter 12 ∷ enter 39 ∷ enter 0 ∷ exit 0 0 1 ∷ enter 0 ∷ enter 5 ∷ exit 5 1 2 ∷ enter 33 ∷ enter 0 ∷ exit 0 2 3 ∷ enter 34 ∷ exit 34 3 4 ∷ enter 0 ∷ exit 0 4 5 ∷ exit 33 2 5 ∷ enter 5 ∷ exit 5 5 6 ∷ exit 0 1 6 ∷ enter 0 ∷ exit 0 6 7 ∷ exit 39 0 7 ∷ exit 12 0 7 ∷ []) ("<p><em>a<code>*</code>b</em></p>" ∷ []))
unfolding running
v12 = tt

v13 : T (shows (off Lf) ("____a____" ∷ []) (enter 12 ∷ enter 40 ∷ enter 0 ∷ exit 0 0 2 ∷ enter 0 ∷ enter 40 ∷ enter 0 ∷ exit 0 2 4 ∷ enter 0 ∷ enter 5 ∷ exit 5 4 5 ∷ exit 0 4 5 ∷ enter 0 ∷ exit 0 5 7 ∷ exit 40 2 7 ∷ exit 0 2 7 ∷ enter 0 ∷ exit 0 7 9 ∷ exit 40 0 9 ∷ exit 12 0 9 ∷ []) ("<p><strong><strong>a</strong></strong></p>" ∷ []))
unfolding running
v13 = tt

v14 : T (shows (off Lf) ("*a **b*c** d" ∷ []) (enter 12 ∷ enter 39 ∷ enter 0 ∷ exit 0 0 1 ∷ enter 0 ∷ enter 5 ∷ exit 5 1 6 ∷ exit 0 1 6 ∷ enter 0 ∷ exit 0 6 7 ∷ exit 39 0 7 ∷ enter 5 ∷ exit 5 7 12 ∷ exit 12 0 12 ∷ []) ("<p><em>a **b</em>c** d</p>" ∷ []))
unfolding running
v14 = tt
