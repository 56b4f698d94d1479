-- Code text: pages of the crate markdown 1.0.0. Made by tools/machine_pages. Assumes nothing.
use mathlib.Core.List.{[], ◌∷◌}
use lib.Dec.{T}
use Rattle.machine.specs.declared.Ending.TheVariants.{Lf}
use Rattle.machine.proofs.Running.{running}
use Rattle.machine.proofs.Answers.{shows, off, enter, exit}

v1 : T (shows (off Lf) ("`a`" ∷ []) (enter 12 ∷ enter 33 ∷ enter 0 ∷ exit 0 0 1 ∷ enter 34 ∷ exit 34 1 2 ∷ enter 0 ∷ exit 0 2 3 ∷ exit 33 0 3 ∷ exit 12 0 3 ∷ []) ("<p><code>a</code></p>" ∷ []))
unfolding running
v1 = tt

v2 : T (shows (off Lf) ("` a `" ∷ []) (enter 12 ∷ enter 33 ∷ enter 0 ∷ exit 0 0 1 ∷ enter 34 ∷ exit 34 1 4 ∷ enter 0 ∷ exit 0 4 5 ∷ exit 33 0 5 ∷ exit 12 0 5 ∷ []) ("<p><code>a</code></p>" ∷ []))
unfolding running
v2 = tt

v3 : T (shows (off Lf) ("`  `" ∷ []) (enter 12 ∷ enter 33 ∷ enter 0 ∷ exit 0 0 1 ∷ enter 34 ∷ exit 34 1 3 ∷ enter 0 ∷ exit 0 3 4 ∷ exit 33 0 4 ∷ exit 12 0 4 ∷ []) ("<p><code>  </code></p>" ∷ []))
unfolding running
v3 = tt

v4 : T (shows (off Lf) ("`   `" ∷ []) (enter 12 ∷ enter 33 ∷ enter 0 ∷ exit 0 0 1 ∷ enter 34 ∷ exit 34 1 4 ∷ enter 0 ∷ exit 0 4 5 ∷ exit 33 0 5 ∷ exit 12 0 5 ∷ []) ("<p><code>   </code></p>" ∷ []))
unfolding running
v4 = tt

v5 : T (shows (off Lf) ("`` a`b ``" ∷ []) (enter 12 ∷ enter 33 ∷ enter 0 ∷ exit 0 0 2 ∷ enter 34 ∷ exit 34 2 4 ∷ enter 34 ∷ exit 34 4 5 ∷ enter 34 ∷ exit 34 5 7 ∷ enter 0 ∷ exit 0 7 9 ∷ exit 33 0 9 ∷ exit 12 0 9 ∷ []) ("<p><code>a`b</code></p>" ∷ []))
unfolding running
v5 = tt

v6 : T (shows (off Lf) ("`a\nb`" ∷ []) (enter 12 ∷ enter 33 ∷ enter 0 ∷ exit 0 0 1 ∷ enter 34 ∷ exit 34 1 2 ∷ enter 3 ∷ exit 3 2 3 ∷ enter 34 ∷ exit 34 3 4 ∷ enter 0 ∷ exit 0 4 5 ∷ exit 33 0 5 ∷ exit 12 0 5 ∷ []) ("<p><code>a b</code></p>" ∷ []))
unfolding running
v6 = tt

v7 : T (shows (off Lf) ("`a  b`" ∷ []) (enter 12 ∷ enter 33 ∷ enter 0 ∷ exit 0 0 1 ∷ enter 34 ∷ exit 34 1 5 ∷ enter 0 ∷ exit 0 5 6 ∷ exit 33 0 6 ∷ exit 12 0 6 ∷ []) ("<p><code>a  b</code></p>" ∷ []))
unfolding running
v7 = tt

v8 : T (shows (off Lf) ("`\na\n`" ∷ []) (enter 12 ∷ enter 33 ∷ enter 0 ∷ exit 0 0 1 ∷ enter 3 ∷ exit 3 1 2 ∷ enter 34 ∷ exit 34 2 3 ∷ enter 3 ∷ exit 3 3 4 ∷ enter 0 ∷ exit 0 4 5 ∷ exit 33 0 5 ∷ exit 12 0 5 ∷ []) ("<p><code>a</code></p>" ∷ []))
unfolding running
v8 = tt

v9 : T (shows (off Lf) ("`a\\`" ∷ []) (enter 12 ∷ enter 33 ∷ enter 0 ∷ exit 0 0 1 ∷ enter 34 ∷ exit 34 1 3 ∷ enter 0 ∷ exit 0 3 4 ∷ exit 33 0 4 ∷ exit 12 0 4 ∷ []) ("<p><code>a\\</code></p>" ∷ []))
unfolding running
v9 = tt

v10 : T (shows (off Lf) ("` \n `" ∷ []) (enter 12 ∷ enter 33 ∷ enter 0 ∷ exit 0 0 1 ∷ enter 34 ∷ exit 34 1 2 ∷ enter 3 ∷ exit 3 2 3 ∷ enter 34 ∷ exit 34 3 4 ∷ enter 0 ∷ exit 0 4 5 ∷ exit 33 0 5 ∷ exit 12 0 5 ∷ []) ("<p><code>   </code></p>" ∷ []))
unfolding running
v10 = tt

v11 : T (shows (off Lf) ("`&<>\"\0`" ∷ []) (enter 12 ∷ enter 33 ∷ enter 0 ∷ exit 0 0 1 ∷ enter 34 ∷ exit 34 1 6 ∷ enter 0 ∷ exit 0 6 7 ∷ exit 33 0 7 ∷ exit 12 0 7 ∷ []) ("<p><code>&amp;&lt;&gt;&quot;ï¿½</code></p>" ∷ []))
unfolding running
v11 = tt

v12 : T (shows (off Lf) ("> `a\n> b`" ∷ []) (enter 20 ∷ enter 2 ∷ enter 0 ∷ exit 0 0 1 ∷ enter 1 ∷ exit 1 1 2 ∷ exit 2 0 2 ∷ enter 12 ∷ enter 33 ∷ enter 0 ∷ exit 0 2 3 ∷ enter 34 ∷ exit 34 3 4 ∷ enter 3 ∷ exit 3 4 5 ∷ enter 2 ∷ enter 0 ∷ exit 0 5 6 ∷ enter 1 ∷ exit 1 6 7 ∷ exit 2 5 7 ∷ enter 34 ∷ exit 34 7 8 ∷ enter 0 ∷ exit 0 8 9 ∷ exit 33 2 9 ∷ exit 12 2 9 ∷ exit 20 0 9 ∷ []) ("<blockquote>\n<p><code>a b</code></p>\n</blockquote>" ∷ []))
unfolding running
v12 = tt

v13 : T (shows (off Lf) ("- `a\n  b`" ∷ []) (enter 22 ∷ enter 23 ∷ enter 24 ∷ enter 25 ∷ exit 25 0 1 ∷ enter 1 ∷ exit 1 1 2 ∷ exit 24 0 2 ∷ enter 12 ∷ enter 33 ∷ enter 0 ∷ exit 0 2 3 ∷ enter 34 ∷ exit 34 3 4 ∷ enter 3 ∷ exit 3 4 5 ∷ enter 1 ∷ exit 1 5 7 ∷ enter 34 ∷ exit 34 7 8 ∷ enter 0 ∷ exit 0 8 9 ∷ exit 33 2 9 ∷ exit 12 2 9 ∷ exit 23 0 9 ∷ exit 22 0 9 ∷ []) ("<ul>\n<li><code>a b</code></li>\n</ul>" ∷ []))
unfolding running
v13 = tt

v14 : T (shows (off Lf) ("`a\r\nb`" ∷ []) (enter 12 ∷ enter 33 ∷ enter 0 ∷ exit 0 0 1 ∷ enter 34 ∷ exit 34 1 2 ∷ enter 3 ∷ exit 3 2 4 ∷ enter 34 ∷ exit 34 4 5 ∷ enter 0 ∷ exit 0 5 6 ∷ exit 33 0 6 ∷ exit 12 0 6 ∷ []) ("<p><code>a b</code></p>" ∷ []))
unfolding running
v14 = tt

v15 : T (shows (off Lf) ("` a`" ∷ []) (enter 12 ∷ enter 33 ∷ enter 0 ∷ exit 0 0 1 ∷ enter 34 ∷ exit 34 1 3 ∷ enter 0 ∷ exit 0 3 4 ∷ exit 33 0 4 ∷ exit 12 0 4 ∷ []) ("<p><code> a</code></p>" ∷ []))
unfolding running
v15 = tt

v16 : T (shows (off Lf) ("`a `" ∷ []) (enter 12 ∷ enter 33 ∷ enter 0 ∷ exit 0 0 1 ∷ enter 34 ∷ exit 34 1 3 ∷ enter 0 ∷ exit 0 3 4 ∷ exit 33 0 4 ∷ exit 12 0 4 ∷ []) ("<p><code>a </code></p>" ∷ []))
unfolding running
v16 = tt

v17 : T (shows (off Lf) ("`  a  `" ∷ []) (enter 12 ∷ enter 33 ∷ enter 0 ∷ exit 0 0 1 ∷ enter 34 ∷ exit 34 1 6 ∷ enter 0 ∷ exit 0 6 7 ∷ exit 33 0 7 ∷ exit 12 0 7 ∷ []) ("<p><code> a </code></p>" ∷ []))
unfolding running
v17 = tt

v18 : T (shows (off Lf) ("`a\\|b`" ∷ []) (enter 12 ∷ enter 33 ∷ enter 0 ∷ exit 0 0 1 ∷ enter 34 ∷ exit 34 1 5 ∷ enter 0 ∷ exit 0 5 6 ∷ exit 33 0 6 ∷ exit 12 0 6 ∷ []) ("<p><code>a\\|b</code></p>" ∷ []))
unfolding running
v18 = tt

v19 : T (shows (off Lf) ("![`a`](b) `c`" ∷ []) (enter 12 ∷ enter 46 ∷ enter 47 ∷ enter 0 ∷ enter 0 ∷ exit 0 0 1 ∷ enter 0 ∷ exit 0 1 2 ∷ exit 0 0 2 ∷ enter 48 ∷ enter 33 ∷ enter 0 ∷ exit 0 2 3 ∷ enter 34 ∷ exit 34 3 4 ∷ enter 0 ∷ exit 0 4 5 ∷ exit 33 2 5 ∷ exit 48 2 5 ∷ enter 0 ∷ enter 0 ∷ exit 0 5 6 ∷ exit 0 5 6 ∷ exit 47 0 6 ∷ enter 49 ∷ enter 0 ∷ exit 0 6 7 ∷ enter 0 ∷ enter 0 ∷ enter 50 ∷ enter 5 ∷ exit 5 7 8 ∷ exit 50 7 8 ∷ exit 0 7 8 ∷ exit 0 7 8 ∷ enter 0 ∷ exit 0 8 9 ∷ exit 49 6 9 ∷ exit 46 0 9 ∷ enter 5 ∷ exit 5 9 10 ∷ enter 33 ∷ enter 0 ∷ exit 0 10 11 ∷ enter 34 ∷ exit 34 11 12 ∷ enter 0 ∷ exit 0 12 13 ∷ exit 33 10 13 ∷ exit 12 0 13 ∷ []) ("<p><img src=\"b\" alt=\"a\" /> <code>c</code></p>" ∷ []))
unfolding running
v19 = tt

v20 : T (shows (off Lf) ("`a`b`c`" ∷ []) (enter 12 ∷ enter 33 ∷ enter 0 ∷ exit 0 0 1 ∷ enter 34 ∷ exit 34 1 2 ∷ enter 0 ∷ exit 0 2 3 ∷ exit 33 0 3 ∷ enter 5 ∷ exit 5 3 4 ∷ enter 33 ∷ enter 0 ∷ exit 0 4 5 ∷ enter 34 ∷ exit 34 5 6 ∷ enter 0 ∷ exit 0 6 7 ∷ exit 33 4 7 ∷ exit 12 0 7 ∷ []) ("<p><code>a</code>b<code>c</code></p>" ∷ []))
unfolding running
v20 = tt
