-- Block quotes: pages of the crate markdown 1.0.0. Made by tools/machine_pages. Assumes nothing.
use mathlib.Core.List.{[], ◌∷◌}
use lib.Dec.{T}
use Rattle.machine.specs.declared.Ending.TheVariants.{Lf, Cr, CrLf}
use Rattle.machine.proofs.Running.{running}
use Rattle.machine.proofs.Answers.{shows, off, enter, exit, exit_with}

v1 : T (shows (off Lf) ("> a" ∷ []) (enter 20 ∷ enter 2 ∷ enter 0 ∷ exit 0 0 1 ∷ enter 1 ∷ exit 1 1 2 ∷ exit 2 0 2 ∷ enter 12 ∷ enter 5 ∷ exit 5 2 3 ∷ exit 12 2 3 ∷ exit 20 0 3 ∷ []) ("<blockquote>\n<p>a</p>\n</blockquote>" ∷ []))
unfolding running
v1 = tt

v2 : T (shows (off Cr) ("> a" ∷ []) (enter 20 ∷ enter 2 ∷ enter 0 ∷ exit 0 0 1 ∷ enter 1 ∷ exit 1 1 2 ∷ exit 2 0 2 ∷ enter 12 ∷ enter 5 ∷ exit 5 2 3 ∷ exit 12 2 3 ∷ exit 20 0 3 ∷ []) ("<blockquote>\r<p>a</p>\r</blockquote>" ∷ []))
unfolding running
v2 = tt

v3 : T (shows (off CrLf) ("> a" ∷ []) (enter 20 ∷ enter 2 ∷ enter 0 ∷ exit 0 0 1 ∷ enter 1 ∷ exit 1 1 2 ∷ exit 2 0 2 ∷ enter 12 ∷ enter 5 ∷ exit 5 2 3 ∷ exit 12 2 3 ∷ exit 20 0 3 ∷ []) ("<blockquote>\r\n<p>a</p>\r\n</blockquote>" ∷ []))
unfolding running
v3 = tt

v4 : T (shows (off Lf) ("> a\nb" ∷ []) (enter 20 ∷ enter 2 ∷ enter 0 ∷ exit 0 0 1 ∷ enter 1 ∷ exit 1 1 2 ∷ exit 2 0 2 ∷ enter 12 ∷ enter 5 ∷ exit 5 2 3 ∷ enter 3 ∷ exit 3 3 4 ∷ enter 5 ∷ exit 5 4 5 ∷ exit 12 2 5 ∷ exit 20 0 5 ∷ []) ("<blockquote>\n<p>a\nb</p>\n</blockquote>" ∷ []))
unfolding running
v4 = tt

v5 : T (shows (off Lf) (">a\n>\n> b" ∷ []) (enter 20 ∷ enter 2 ∷ enter 0 ∷ exit 0 0 1 ∷ exit 2 0 1 ∷ enter 12 ∷ enter 5 ∷ exit 5 1 2 ∷ exit 12 1 2 ∷ enter 3 ∷ exit 3 2 3 ∷ enter 2 ∷ enter 0 ∷ exit 0 3 4 ∷ exit 2 3 4 ∷ enter 4 ∷ exit 4 4 5 ∷ enter 2 ∷ enter 0 ∷ exit 0 5 6 ∷ enter 1 ∷ exit 1 6 7 ∷ exit 2 5 7 ∷ enter 12 ∷ enter 5 ∷ exit 5 7 8 ∷ exit 12 7 8 ∷ exit 20 0 8 ∷ []) ("<blockquote>\n<p>a</p>\n<p>b</p>\n</blockquote>" ∷ []))
unfolding running
v5 = tt

v6 : T (shows (off Lf) ("> > a\n> b\nc" ∷ []) (enter 20 ∷ enter 2 ∷ enter 0 ∷ exit 0 0 1 ∷ enter 1 ∷ exit 1 1 2 ∷ exit 2 0 2 ∷ enter 20 ∷ enter 2 ∷ enter 0 ∷ exit 0 2 3 ∷ enter 1 ∷ exit 1 3 4 ∷ exit 2 2 4 ∷ enter 12 ∷ enter 5 ∷ exit 5 4 5 ∷ enter 3 ∷ exit 3 5 6 ∷ enter 2 ∷ enter 0 ∷ exit 0 6 7 ∷ enter 1 ∷ exit 1 7 8 ∷ exit 2 6 8 ∷ enter 5 ∷ exit 5 8 9 ∷ enter 3 ∷ exit 3 9 10 ∷ enter 5 ∷ exit 5 10 11 ∷ exit 12 4 11 ∷ exit 20 2 11 ∷ exit 20 0 11 ∷ []) ("<blockquote>\n<blockquote>\n<p>a\nb\nc</p>\n</blockquote>\n</blockquote>" ∷ []))
unfolding running
v6 = tt

v7 : T (shows (off Lf) (">\n" ∷ []) (enter 20 ∷ enter 2 ∷ enter 0 ∷ exit 0 0 1 ∷ exit 2 0 1 ∷ exit 20 0 1 ∷ enter 4 ∷ exit 4 1 2 ∷ []) ("<blockquote>\n</blockquote>\n" ∷ []))
unfolding running
v7 = tt

v8 : T (shows (off Lf) ("> \n> " ∷ []) (enter 20 ∷ enter 2 ∷ enter 0 ∷ exit 0 0 1 ∷ enter 1 ∷ exit 1 1 2 ∷ exit 2 0 2 ∷ enter 4 ∷ exit 4 2 3 ∷ enter 2 ∷ enter 0 ∷ exit 0 3 4 ∷ enter 1 ∷ exit 1 4 5 ∷ exit 2 3 5 ∷ exit 20 0 5 ∷ []) ("<blockquote>\n</blockquote>" ∷ []))
unfolding running
v8 = tt

v9 : T (shows (off Lf) ("> a\n\n> b" ∷ []) (enter 20 ∷ enter 2 ∷ enter 0 ∷ exit 0 0 1 ∷ enter 1 ∷ exit 1 1 2 ∷ exit 2 0 2 ∷ enter 12 ∷ enter 5 ∷ exit 5 2 3 ∷ exit 12 2 3 ∷ exit 20 0 3 ∷ enter 3 ∷ exit 3 3 4 ∷ enter 4 ∷ exit 4 4 5 ∷ enter 20 ∷ enter 2 ∷ enter 0 ∷ exit 0 5 6 ∷ enter 1 ∷ exit 1 6 7 ∷ exit 2 5 7 ∷ enter 12 ∷ enter 5 ∷ exit 5 7 8 ∷ exit 12 7 8 ∷ exit 20 5 8 ∷ []) ("<blockquote>\n<p>a</p>\n</blockquote>\n<blockquote>\n<p>b</p>\n</blockquote>" ∷ []))
unfolding running
v9 = tt

v10 : T (shows (off Lf) ("> # a\n> - b\n>   c" ∷ []) (enter 20 ∷ enter 2 ∷ enter 0 ∷ exit 0 0 1 ∷ enter 1 ∷ exit 1 1 2 ∷ exit 2 0 2 ∷ enter 13 ∷ enter 14 ∷ exit 14 2 3 ∷ enter 1 ∷ exit 1 3 4 ∷ enter 15 ∷ enter 5 ∷ exit 5 4 5 ∷ exit 15 4 5 ∷ exit 13 2 5 ∷ enter 3 ∷ exit 3 5 6 ∷ enter 2 ∷ enter 0 ∷ exit 0 6 7 ∷ enter 1 ∷ exit 1 7 8 ∷ exit 2 6 8 ∷ enter 22 ∷ enter 23 ∷ enter 24 ∷ enter 25 ∷ exit 25 8 9 ∷ enter 1 ∷ exit 1 9 10 ∷ exit 24 8 10 ∷ enter 12 ∷ enter 5 ∷ exit 5 10 11 ∷ enter 3 ∷ exit 3 11 12 ∷ enter 2 ∷ enter 0 ∷ exit 0 12 13 ∷ enter 1 ∷ exit 1 13 14 ∷ exit 2 12 14 ∷ enter 1 ∷ exit 1 14 16 ∷ enter 5 ∷ exit 5 16 17 ∷ exit 12 10 17 ∷ exit 23 8 17 ∷ exit 22 8 17 ∷ exit 20 0 17 ∷ []) ("<blockquote>\n<h1>a</h1>\n<ul>\n<li>b\nc</li>\n</ul>\n</blockquote>" ∷ []))
unfolding running
v10 = tt

v11 : T (shows (off Lf) (">\t\ta" ∷ []) (enter 20 ∷ enter 2 ∷ enter 0 ∷ exit 0 0 1 ∷ enter 1 ∷ exit 1 1 2 ∷ exit 2 0 2 ∷ enter 27 ∷ enter 1 ∷ exit 1 2 3 ∷ enter 32 ∷ exit_with 32 3 4 2 0 ∷ exit 27 2 4 ∷ exit 20 0 4 ∷ []) ("<blockquote>\n<pre><code>  a\n</code></pre>\n</blockquote>" ∷ []))
unfolding running
v11 = tt

v12 : T (shows (off Cr) (">\t\ta" ∷ []) (enter 20 ∷ enter 2 ∷ enter 0 ∷ exit 0 0 1 ∷ enter 1 ∷ exit 1 1 2 ∷ exit 2 0 2 ∷ enter 27 ∷ enter 1 ∷ exit 1 2 3 ∷ enter 32 ∷ exit_with 32 3 4 2 0 ∷ exit 27 2 4 ∷ exit 20 0 4 ∷ []) ("<blockquote>\r<pre><code>  a\r</code></pre>\r</blockquote>" ∷ []))
unfolding running
v12 = tt

v13 : T (shows (off CrLf) (">\t\ta" ∷ []) (enter 20 ∷ enter 2 ∷ enter 0 ∷ exit 0 0 1 ∷ enter 1 ∷ exit 1 1 2 ∷ exit 2 0 2 ∷ enter 27 ∷ enter 1 ∷ exit 1 2 3 ∷ enter 32 ∷ exit_with 32 3 4 2 0 ∷ exit 27 2 4 ∷ exit 20 0 4 ∷ []) ("<blockquote>\r\n<pre><code>  a\r\n</code></pre>\r\n</blockquote>" ∷ []))
unfolding running
v13 = tt

v14 : T (shows (off Lf) ("> ```\n> a\n" ∷ []) (enter 20 ∷ enter 2 ∷ enter 0 ∷ exit 0 0 1 ∷ enter 1 ∷ exit 1 1 2 ∷ exit 2 0 2 ∷ enter 28 ∷ enter 29 ∷ enter 0 ∷ exit 0 2 5 ∷ exit 29 2 5 ∷ enter 3 ∷ exit 3 5 6 ∷ enter 2 ∷ enter 0 ∷ exit 0 6 7 ∷ enter 1 ∷ exit 1 7 8 ∷ exit 2 6 8 ∷ enter 32 ∷ exit 32 8 9 ∷ enter 3 ∷ exit 3 9 10 ∷ exit 28 2 10 ∷ exit 20 0 10 ∷ []) ("<blockquote>\n<pre><code>a\n\n</code></pre>\n</blockquote>" ∷ []))
unfolding running
v14 = tt

v15 : T (shows (off Lf) ("> ```\na" ∷ []) (enter 20 ∷ enter 2 ∷ enter 0 ∷ exit 0 0 1 ∷ enter 1 ∷ exit 1 1 2 ∷ exit 2 0 2 ∷ enter 28 ∷ enter 29 ∷ enter 0 ∷ exit 0 2 5 ∷ exit 29 2 5 ∷ exit 28 2 5 ∷ exit 20 0 5 ∷ enter 3 ∷ exit 3 5 6 ∷ enter 12 ∷ enter 5 ∷ exit 5 6 7 ∷ exit 12 6 7 ∷ []) ("<blockquote>\n<pre><code></code></pre>\n</blockquote>\n<p>a</p>" ∷ []))
unfolding running
v15 = tt

v16 : T (shows (off Lf) (">     a\n>\n>     b" ∷ []) (enter 20 ∷ enter 2 ∷ enter 0 ∷ exit 0 0 1 ∷ enter 1 ∷ exit 1 1 2 ∷ exit 2 0 2 ∷ enter 27 ∷ enter 1 ∷ exit 1 2 6 ∷ enter 32 ∷ exit 32 6 7 ∷ exit 27 2 7 ∷ enter 3 ∷ exit 3 7 8 ∷ enter 2 ∷ enter 0 ∷ exit 0 8 9 ∷ exit 2 8 9 ∷ enter 4 ∷ exit 4 9 10 ∷ enter 2 ∷ enter 0 ∷ exit 0 10 11 ∷ enter 1 ∷ exit 1 11 12 ∷ exit 2 10 12 ∷ enter 27 ∷ enter 1 ∷ exit 1 12 16 ∷ enter 32 ∷ exit 32 16 17 ∷ exit 27 12 17 ∷ exit 20 0 17 ∷ []) ("<blockquote>\n<pre><code>a\n</code></pre>\n<pre><code>b\n</code></pre>\n</blockquote>" ∷ []))
unfolding running
v16 = tt

v17 : T (shows (off Lf) ("> ```\n" ∷ []) (enter 20 ∷ enter 2 ∷ enter 0 ∷ exit 0 0 1 ∷ enter 1 ∷ exit 1 1 2 ∷ exit 2 0 2 ∷ enter 28 ∷ enter 29 ∷ enter 0 ∷ exit 0 2 5 ∷ exit 29 2 5 ∷ enter 3 ∷ exit 3 5 6 ∷ exit 28 2 6 ∷ exit 20 0 6 ∷ []) ("<blockquote>\n<pre><code>\n</code></pre>\n</blockquote>" ∷ []))
unfolding running
v17 = tt
