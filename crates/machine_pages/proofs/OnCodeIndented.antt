-- Indented code, with tabs: pages of the crate markdown 1.0.0. Made by tools/machine_pages. Assumes nothing.
use mathlib.Core.List.{[], ◌∷◌}
use lib.Dec.{T}
use Rattle.machine.specs.declared.Ending.TheVariants.{Lf, Cr, CrLf}
use Rattle.machine.proofs.Running.{running}
use Rattle.machine.proofs.Answers.{shows, off, enter, exit, enter_with, exit_with}

v1 : T (shows (off Lf) ("    a" ∷ []) (enter 27 ∷ enter 1 ∷ exit 1 0 4 ∷ enter 32 ∷ exit 32 4 5 ∷ exit 27 0 5 ∷ []) ("<pre><code>a\n</code></pre>" ∷ []))
unfolding running
v1 = tt

v2 : T (shows (off Cr) ("    a" ∷ []) (enter 27 ∷ enter 1 ∷ exit 1 0 4 ∷ enter 32 ∷ exit 32 4 5 ∷ exit 27 0 5 ∷ []) ("<pre><code>a\r</code></pre>" ∷ []))
unfolding running
v2 = tt

v3 : T (shows (off CrLf) ("    a" ∷ []) (enter 27 ∷ enter 1 ∷ exit 1 0 4 ∷ enter 32 ∷ exit 32 4 5 ∷ exit 27 0 5 ∷ []) ("<pre><code>a\r\n</code></pre>" ∷ []))
unfolding running
v3 = tt

v4 : T (shows (off Lf) ("    a\n\n    b\n" ∷ []) (enter 27 ∷ enter 1 ∷ exit 1 0 4 ∷ enter 32 ∷ exit 32 4 5 ∷ enter 3 ∷ exit 3 5 6 ∷ enter 3 ∷ exit 3 6 7 ∷ enter 1 ∷ exit 1 7 11 ∷ enter 32 ∷ exit 32 11 12 ∷ exit 27 0 12 ∷ enter 3 ∷ exit 3 12 13 ∷ []) ("<pre><code>a\n\nb\n</code></pre>\n" ∷ []))
unfolding running
v4 = tt

v5 : T (shows (off Lf) ("\ta" ∷ []) (enter 27 ∷ enter 1 ∷ exit 1 0 1 ∷ enter 32 ∷ exit 32 1 2 ∷ exit 27 0 2 ∷ []) ("<pre><code>a\n</code></pre>" ∷ []))
unfolding running
v5 = tt

v6 : T (shows (off Cr) ("\ta" ∷ []) (enter 27 ∷ enter 1 ∷ exit 1 0 1 ∷ enter 32 ∷ exit 32 1 2 ∷ exit 27 0 2 ∷ []) ("<pre><code>a\r</code></pre>" ∷ []))
unfolding running
v6 = tt

v7 : T (shows (off CrLf) ("\ta" ∷ []) (enter 27 ∷ enter 1 ∷ exit 1 0 1 ∷ enter 32 ∷ exit 32 1 2 ∷ exit 27 0 2 ∷ []) ("<pre><code>a\r\n</code></pre>" ∷ []))
unfolding running
v7 = tt

v8 : T (shows (off Lf) (" \ta\n  \tb" ∷ []) (enter 27 ∷ enter 1 ∷ exit 1 0 2 ∷ enter 32 ∷ exit 32 2 3 ∷ enter 3 ∷ exit 3 3 4 ∷ enter 1 ∷ exit 1 4 7 ∷ enter 32 ∷ exit 32 7 8 ∷ exit 27 0 8 ∷ []) ("<pre><code>a\nb\n</code></pre>" ∷ []))
unfolding running
v8 = tt

v9 : T (shows (off Lf) ("    a\n      b\n   c" ∷ []) (enter 27 ∷ enter 1 ∷ exit 1 0 4 ∷ enter 32 ∷ exit 32 4 5 ∷ enter 3 ∷ exit 3 5 6 ∷ enter 1 ∷ exit 1 6 10 ∷ enter 32 ∷ exit 32 10 13 ∷ exit 27 0 13 ∷ enter 3 ∷ exit 3 13 14 ∷ enter 12 ∷ enter 1 ∷ exit 1 14 17 ∷ enter 5 ∷ exit 5 17 18 ∷ exit 12 14 18 ∷ []) ("<pre><code>a\n  b\n</code></pre>\n<p>c</p>" ∷ []))
unfolding running
v9 = tt

v10 : T (shows (off Lf) ("  \t a\n\n\n    b" ∷ []) (enter 27 ∷ enter 1 ∷ exit 1 0 3 ∷ enter 32 ∷ exit 32 3 5 ∷ enter 3 ∷ exit 3 5 6 ∷ enter 3 ∷ exit 3 6 7 ∷ enter 3 ∷ exit 3 7 8 ∷ enter 1 ∷ exit 1 8 12 ∷ enter 32 ∷ exit 32 12 13 ∷ exit 27 0 13 ∷ []) ("<pre><code> a\n\n\nb\n</code></pre>" ∷ []))
unfolding running
v10 = tt

v11 : T (shows (off Lf) ("-\t\ta" ∷ []) (enter 22 ∷ enter 23 ∷ enter 24 ∷ enter 25 ∷ exit 25 0 1 ∷ enter 1 ∷ exit 1 1 2 ∷ exit 24 0 2 ∷ enter 27 ∷ enter 1 ∷ exit 1 2 3 ∷ enter 32 ∷ exit_with 32 3 4 2 0 ∷ exit 27 2 4 ∷ exit 23 0 4 ∷ exit 22 0 4 ∷ []) ("<ul>\n<li>\n<pre><code>  a\n</code></pre>\n</li>\n</ul>" ∷ []))
unfolding running
v11 = tt

v12 : T (shows (off Cr) ("-\t\ta" ∷ []) (enter 22 ∷ enter 23 ∷ enter 24 ∷ enter 25 ∷ exit 25 0 1 ∷ enter 1 ∷ exit 1 1 2 ∷ exit 24 0 2 ∷ enter 27 ∷ enter 1 ∷ exit 1 2 3 ∷ enter 32 ∷ exit_with 32 3 4 2 0 ∷ exit 27 2 4 ∷ exit 23 0 4 ∷ exit 22 0 4 ∷ []) ("<ul>\r<li>\r<pre><code>  a\r</code></pre>\r</li>\r</ul>" ∷ []))
unfolding running
v12 = tt

v13 : T (shows (off CrLf) ("-\t\ta" ∷ []) (enter 22 ∷ enter 23 ∷ enter 24 ∷ enter 25 ∷ exit 25 0 1 ∷ enter 1 ∷ exit 1 1 2 ∷ exit 24 0 2 ∷ enter 27 ∷ enter 1 ∷ exit 1 2 3 ∷ enter 32 ∷ exit_with 32 3 4 2 0 ∷ exit 27 2 4 ∷ exit 23 0 4 ∷ exit 22 0 4 ∷ []) ("<ul>\r\n<li>\r\n<pre><code>  a\r\n</code></pre>\r\n</li>\r\n</ul>" ∷ []))
unfolding running
v13 = tt

v14 : T (shows (off Lf) ("- \ta\n\n \t b" ∷ []) (enter_with 22 1 ∷ enter 23 ∷ enter 24 ∷ enter 25 ∷ exit 25 0 1 ∷ enter 1 ∷ exit 1 1 3 ∷ exit 24 0 3 ∷ enter 12 ∷ enter 5 ∷ exit 5 3 4 ∷ exit 12 3 4 ∷ enter 3 ∷ exit 3 4 5 ∷ enter 4 ∷ exit 4 5 6 ∷ enter 1 ∷ exit 1 6 8 ∷ enter 12 ∷ enter 1 ∷ exit 1 8 8 ∷ enter 5 ∷ exit 5 8 10 ∷ exit 12 8 10 ∷ exit 23 0 10 ∷ exit 22 0 10 ∷ []) ("<ul>\n<li>\n<p>a</p>\n<p> b</p>\n</li>\n</ul>" ∷ []))
unfolding running
v14 = tt

v15 : T (shows (off Lf) (">\ta\n>\t\tb" ∷ []) (enter 20 ∷ enter 2 ∷ enter 0 ∷ exit 0 0 1 ∷ enter 1 ∷ exit 1 1 2 ∷ exit 2 0 2 ∷ enter 12 ∷ enter 1 ∷ exit 1 2 2 ∷ enter 5 ∷ exit 5 1 3 ∷ enter 3 ∷ exit 3 3 4 ∷ enter 2 ∷ enter 0 ∷ exit 0 4 5 ∷ enter 1 ∷ exit 1 5 6 ∷ exit 2 4 6 ∷ enter 1 ∷ exit 1 6 6 ∷ enter 5 ∷ exit 5 6 8 ∷ exit 12 2 8 ∷ exit 20 0 8 ∷ []) ("<blockquote>\n<p>\ta\n\tb</p>\n</blockquote>" ∷ []))
unfolding running
v15 = tt

v16 : T (shows (off Lf) (">     a\n>\tb" ∷ []) (enter 20 ∷ enter 2 ∷ enter 0 ∷ exit 0 0 1 ∷ enter 1 ∷ exit 1 1 2 ∷ exit 2 0 2 ∷ enter 27 ∷ enter 1 ∷ exit 1 2 6 ∷ enter 32 ∷ exit 32 6 7 ∷ exit 27 2 7 ∷ enter 3 ∷ exit 3 7 8 ∷ enter 2 ∷ enter 0 ∷ exit 0 8 9 ∷ enter 1 ∷ exit 1 9 10 ∷ exit 2 8 10 ∷ enter 12 ∷ enter 1 ∷ exit 1 10 10 ∷ enter 5 ∷ exit 5 9 11 ∷ exit 12 10 11 ∷ exit 20 0 11 ∷ []) ("<blockquote>\n<pre><code>a\n</code></pre>\n<p>\tb</p>\n</blockquote>" ∷ []))
unfolding running
v16 = tt

v17 : T (shows (off Lf) ("- a\n\n\tb\n\n\t\tc\n" ∷ []) (enter_with 22 1 ∷ enter 23 ∷ enter 24 ∷ enter 25 ∷ exit 25 0 1 ∷ enter 1 ∷ exit 1 1 2 ∷ exit 24 0 2 ∷ enter 12 ∷ enter 5 ∷ exit 5 2 3 ∷ exit 12 2 3 ∷ enter 3 ∷ exit 3 3 4 ∷ enter 4 ∷ exit 4 4 5 ∷ enter 1 ∷ exit 1 5 6 ∷ enter 12 ∷ enter 1 ∷ exit 1 6 6 ∷ enter 5 ∷ exit 5 5 7 ∷ exit 12 6 7 ∷ enter 3 ∷ exit 3 7 8 ∷ enter 4 ∷ exit 4 8 9 ∷ enter 1 ∷ exit 1 9 10 ∷ enter 27 ∷ enter 1 ∷ exit 1 10 11 ∷ enter 32 ∷ exit_with 32 11 12 2 0 ∷ exit 27 10 12 ∷ exit 23 0 12 ∷ exit 22 0 12 ∷ enter 3 ∷ exit 3 12 13 ∷ []) ("<ul>\n<li>\n<p>a</p>\n<p>\tb</p>\n<pre><code>  c\n</code></pre>\n</li>\n</ul>\n" ∷ []))
unfolding running
v17 = tt

v18 : T (shows (off Lf) ("- \t\ta" ∷ []) (enter 22 ∷ enter 23 ∷ enter 24 ∷ enter 25 ∷ exit 25 0 1 ∷ enter 1 ∷ exit 1 1 2 ∷ exit 24 0 2 ∷ enter 27 ∷ enter 1 ∷ exit 1 2 4 ∷ enter 32 ∷ exit_with 32 4 5 2 0 ∷ exit 27 2 5 ∷ exit 23 0 5 ∷ exit 22 0 5 ∷ []) ("<ul>\n<li>\n<pre><code>  a\n</code></pre>\n</li>\n</ul>" ∷ []))
unfolding running
v18 = tt

v19 : T (shows (off Cr) ("- \t\ta" ∷ []) (enter 22 ∷ enter 23 ∷ enter 24 ∷ enter 25 ∷ exit 25 0 1 ∷ enter 1 ∷ exit 1 1 2 ∷ exit 24 0 2 ∷ enter 27 ∷ enter 1 ∷ exit 1 2 4 ∷ enter 32 ∷ exit_with 32 4 5 2 0 ∷ exit 27 2 5 ∷ exit 23 0 5 ∷ exit 22 0 5 ∷ []) ("<ul>\r<li>\r<pre><code>  a\r</code></pre>\r</li>\r</ul>" ∷ []))
unfolding running
v19 = tt

v20 : T (shows (off CrLf) ("- \t\ta" ∷ []) (enter 22 ∷ enter 23 ∷ enter 24 ∷ enter 25 ∷ exit 25 0 1 ∷ enter 1 ∷ exit 1 1 2 ∷ exit 24 0 2 ∷ enter 27 ∷ enter 1 ∷ exit 1 2 4 ∷ enter 32 ∷ exit_with 32 4 5 2 0 ∷ exit 27 2 5 ∷ exit 23 0 5 ∷ exit 22 0 5 ∷ []) ("<ul>\r\n<li>\r\n<pre><code>  a\r\n</code></pre>\r\n</li>\r\n</ul>" ∷ []))
unfolding running
v20 = tt

v21 : T (shows (off Lf) ("-  \ta" ∷ []) (enter 22 ∷ enter 23 ∷ enter 24 ∷ enter 25 ∷ exit 25 0 1 ∷ enter 1 ∷ exit 1 1 4 ∷ exit 24 0 4 ∷ enter 12 ∷ enter 5 ∷ exit 5 4 5 ∷ exit 12 4 5 ∷ exit 23 0 5 ∷ exit 22 0 5 ∷ []) ("<ul>\n<li>a</li>\n</ul>" ∷ []))
unfolding running
v21 = tt

v22 : T (shows (off Cr) ("-  \ta" ∷ []) (enter 22 ∷ enter 23 ∷ enter 24 ∷ enter 25 ∷ exit 25 0 1 ∷ enter 1 ∷ exit 1 1 4 ∷ exit 24 0 4 ∷ enter 12 ∷ enter 5 ∷ exit 5 4 5 ∷ exit 12 4 5 ∷ exit 23 0 5 ∷ exit 22 0 5 ∷ []) ("<ul>\r<li>a</li>\r</ul>" ∷ []))
unfolding running
v22 = tt

v23 : T (shows (off CrLf) ("-  \ta" ∷ []) (enter 22 ∷ enter 23 ∷ enter 24 ∷ enter 25 ∷ exit 25 0 1 ∷ enter 1 ∷ exit 1 1 4 ∷ exit 24 0 4 ∷ enter 12 ∷ enter 5 ∷ exit 5 4 5 ∷ exit 12 4 5 ∷ exit 23 0 5 ∷ exit 22 0 5 ∷ []) ("<ul>\r\n<li>a</li>\r\n</ul>" ∷ []))
unfolding running
v23 = tt

v24 : T (shows (off Lf) (">  \ta" ∷ []) (enter 20 ∷ enter 2 ∷ enter 0 ∷ exit 0 0 1 ∷ enter 1 ∷ exit 1 1 2 ∷ exit 2 0 2 ∷ enter 12 ∷ enter 1 ∷ exit 1 2 4 ∷ enter 5 ∷ exit 5 4 5 ∷ exit 12 2 5 ∷ exit 20 0 5 ∷ []) ("<blockquote>\n<p>a</p>\n</blockquote>" ∷ []))
unfolding running
v24 = tt

v25 : T (shows (off Cr) (">  \ta" ∷ []) (enter 20 ∷ enter 2 ∷ enter 0 ∷ exit 0 0 1 ∷ enter 1 ∷ exit 1 1 2 ∷ exit 2 0 2 ∷ enter 12 ∷ enter 1 ∷ exit 1 2 4 ∷ enter 5 ∷ exit 5 4 5 ∷ exit 12 2 5 ∷ exit 20 0 5 ∷ []) ("<blockquote>\r<p>a</p>\r</blockquote>" ∷ []))
unfolding running
v25 = tt

v26 : T (shows (off CrLf) (">  \ta" ∷ []) (enter 20 ∷ enter 2 ∷ enter 0 ∷ exit 0 0 1 ∷ enter 1 ∷ exit 1 1 2 ∷ exit 2 0 2 ∷ enter 12 ∷ enter 1 ∷ exit 1 2 4 ∷ enter 5 ∷ exit 5 4 5 ∷ exit 12 2 5 ∷ exit 20 0 5 ∷ []) ("<blockquote>\r\n<p>a</p>\r\n</blockquote>" ∷ []))
unfolding running
v26 = tt

v27 : T (shows (off Lf) ("1.  \ta\n\n\t  b" ∷ []) (enter_with 21 1 ∷ enter 23 ∷ enter 24 ∷ enter 26 ∷ exit 26 0 1 ∷ enter 25 ∷ exit 25 1 2 ∷ enter 1 ∷ exit 1 2 3 ∷ exit 24 0 3 ∷ enter 27 ∷ enter 1 ∷ exit 1 3 5 ∷ enter 32 ∷ exit_with 32 5 6 1 0 ∷ exit 27 3 6 ∷ enter 3 ∷ exit 3 6 7 ∷ enter 4 ∷ exit 4 7 8 ∷ enter 1 ∷ exit 1 8 9 ∷ enter 12 ∷ enter 1 ∷ exit 1 9 10 ∷ enter 5 ∷ exit 5 10 12 ∷ exit 12 9 12 ∷ exit 23 0 12 ∷ exit 21 0 12 ∷ []) ("<ol>\n<li>\n<pre><code> a\n</code></pre>\n<p> b</p>\n</li>\n</ol>" ∷ []))
unfolding running
v27 = tt
