-- Containers in containers: pages of the crate markdown 1.0.0. Made by tools/machine_pages. Assumes nothing.
use mathlib.Core.List.{[], ◌∷◌}
use lib.Dec.{T}
use Rattle.machine.specs.declared.Ending.TheVariants.{Lf}
use Rattle.machine.proofs.Running.{running}
use Rattle.machine.proofs.Answers.{shows, off, enter, exit, enter_with}

v1 : T (shows (off Lf) ("- a\n\n  - b\n\n    > c\n    > - d\n    >\n    >   [^x]\n\n[^x]: e\n" ∷ []) (enter_with 22 1 ∷ enter 23 ∷ enter 24 ∷ enter 25 ∷ exit 25 0 1 ∷ enter 1 ∷ exit 1 1 2 ∷ exit 24 0 2 ∷ enter 12 ∷ enter 5 ∷ exit 5 2 3 ∷ exit 12 2 3 ∷ enter 3 ∷ exit 3 3 4 ∷ enter 4 ∷ exit 4 4 5 ∷ enter 1 ∷ exit 1 5 7 ∷ enter_with 22 1 ∷ enter 23 ∷ enter 24 ∷ enter 25 ∷ exit 25 7 8 ∷ enter 1 ∷ exit 1 8 9 ∷ exit 24 7 9 ∷ enter 12 ∷ enter 5 ∷ exit 5 9 10 ∷ exit 12 9 10 ∷ enter 3 ∷ exit 3 10 11 ∷ enter 4 ∷ exit 4 11 12 ∷ enter 1 ∷ exit 1 12 14 ∷ enter 1 ∷ exit 1 14 16 ∷ enter 20 ∷ enter 2 ∷ enter 0 ∷ exit 0 16 17 ∷ enter 1 ∷ exit 1 17 18 ∷ exit 2 16 18 ∷ enter 12 ∷ enter 5 ∷ exit 5 18 19 ∷ exit 12 18 19 ∷ enter 3 ∷ exit 3 19 20 ∷ enter 1 ∷ exit 1 20 22 ∷ enter 1 ∷ exit 1 22 24 ∷ enter 2 ∷ enter 0 ∷ exit 0 24 25 ∷ enter 1 ∷ exit 1 25 26 ∷ exit 2 24 26 ∷ enter_with 22 1 ∷ enter 23 ∷ enter 24 ∷ enter 25 ∷ exit 25 26 27 ∷ enter 1 ∷ exit 1 27 28 ∷ exit 24 26 28 ∷ enter 12 ∷ enter 5 ∷ exit 5 28 29 ∷ exit 12 28 29 ∷ enter 3 ∷ exit 3 29 30 ∷ enter 1 ∷ exit 1 30 32 ∷ enter 1 ∷ exit 1 32 34 ∷ enter 2 ∷ enter 0 ∷ exit 0 34 35 ∷ exit 2 34 35 ∷ enter 4 ∷ exit 4 35 36 ∷ enter 1 ∷ exit 1 36 38 ∷ enter 1 ∷ exit 1 38 40 ∷ enter 2 ∷ enter 0 ∷ exit 0 40 41 ∷ enter 1 ∷ exit 1 41 42 ∷ exit 2 40 42 ∷ enter 1 ∷ exit 1 42 44 ∷ enter 12 ∷ enter 62 ∷ enter 47 ∷ enter 0 ∷ enter 0 ∷ exit 0 44 45 ∷ enter 0 ∷ exit 0 45 46 ∷ exit 0 44 46 ∷ enter 48 ∷ enter 5 ∷ exit 5 46 47 ∷ exit 48 46 47 ∷ enter 0 ∷ enter 0 ∷ exit 0 47 48 ∷ exit 0 47 48 ∷ exit 47 44 48 ∷ exit 62 44 48 ∷ exit 12 44 48 ∷ exit 23 26 48 ∷ exit 22 26 48 ∷ exit 20 16 48 ∷ enter 3 ∷ exit 3 48 49 ∷ exit 23 7 49 ∷ exit 22 7 49 ∷ exit 23 0 49 ∷ exit 22 0 49 ∷ enter 4 ∷ exit 4 49 50 ∷ enter 63 ∷ enter 64 ∷ enter 0 ∷ enter 0 ∷ exit 0 50 51 ∷ enter 0 ∷ exit 0 51 52 ∷ enter 65 ∷ enter 5 ∷ exit 5 52 53 ∷ exit 65 52 53 ∷ enter 0 ∷ exit 0 53 54 ∷ exit 0 50 54 ∷ enter 0 ∷ exit 0 54 55 ∷ enter 1 ∷ exit 1 55 56 ∷ exit 64 50 56 ∷ enter 12 ∷ enter 5 ∷ exit 5 56 57 ∷ exit 12 56 57 ∷ exit 63 50 57 ∷ enter 3 ∷ exit 3 57 58 ∷ []) ("<ul>\n<li>\n<p>a</p>\n<ul>\n<li>\n<p>b</p>\n<blockquote>\n<p>c</p>\n<ul>\n<li>\n<p>d</p>\n<p><sup><a href=\"#user-content-fn-x\" id=\"user-content-fnref-x\" data-footnote-ref=\"\" aria-describedby=\"footnote-label\">1</" ∷ "a></sup></p>\n</li>\n</ul>\n</blockquote>\n</li>\n</ul>\n</li>\n</ul>\n<section data-footnotes=\"\" class=\"footnotes\"><h2 id=\"footnote-label\" class=\"sr-only\">Footnotes</h2>\n<ol>\n<li id=\"user-content-fn-x\">\n<p>e" ∷ " <a href=\"#user-content-fnref-x\" data-footnote-backref=\"\" aria-label=\"Back to content\" class=\"data-footnote-backref\">â\u{86}©</a></p>\n</li>\n</ol>\n</section>\n" ∷ []))
unfolding running
v1 = tt

v2 : T (shows (off Lf) ("> - > - > - a\nb\nc\n" ∷ []) (enter 20 ∷ enter 2 ∷ enter 0 ∷ exit 0 0 1 ∷ enter 1 ∷ exit 1 1 2 ∷ exit 2 0 2 ∷ enter 22 ∷ enter 23 ∷ enter 24 ∷ enter 25 ∷ exit 25 2 3 ∷ enter 1 ∷ exit 1 3 4 ∷ exit 24 2 4 ∷ enter 20 ∷ enter 2 ∷ enter 0 ∷ exit 0 4 5 ∷ enter 1 ∷ exit 1 5 6 ∷ exit 2 4 6 ∷ enter 22 ∷ enter 23 ∷ enter 24 ∷ enter 25 ∷ exit 25 6 7 ∷ enter 1 ∷ exit 1 7 8 ∷ exit 24 6 8 ∷ enter 20 ∷ enter 2 ∷ enter 0 ∷ exit 0 8 9 ∷ enter 1 ∷ exit 1 9 10 ∷ exit 2 8 10 ∷ enter 22 ∷ enter 23 ∷ enter 24 ∷ enter 25 ∷ exit 25 10 11 ∷ enter 1 ∷ exit 1 11 12 ∷ exit 24 10 12 ∷ enter 12 ∷ enter 5 ∷ exit 5 12 13 ∷ enter 3 ∷ exit 3 13 14 ∷ enter 5 ∷ exit 5 14 15 ∷ enter 3 ∷ exit 3 15 16 ∷ enter 5 ∷ exit 5 16 17 ∷ exit 12 12 17 ∷ exit 23 10 17 ∷ exit 22 10 17 ∷ exit 20 8 17 ∷ exit 23 6 17 ∷ exit 22 6 17 ∷ exit 20 4 17 ∷ exit 23 2 17 ∷ exit 22 2 17 ∷ exit 20 0 17 ∷ enter 3 ∷ exit 3 17 18 ∷ []) ("<blockquote>\n<ul>\n<li>\n<blockquote>\n<ul>\n<li>\n<blockquote>\n<ul>\n<li>a\nb\nc</li>\n</ul>\n</blockquote>\n</li>\n</ul>\n</blockquote>\n</li>\n</ul>\n</blockquote>\n" ∷ []))
unfolding running
v2 = tt

v3 : T (shows (off Lf) ("1. > ```\n   > a\n   > ```\n   b\n2. c" ∷ []) (enter 21 ∷ enter 23 ∷ enter 24 ∷ enter 26 ∷ exit 26 0 1 ∷ enter 25 ∷ exit 25 1 2 ∷ enter 1 ∷ exit 1 2 3 ∷ exit 24 0 3 ∷ enter 20 ∷ enter 2 ∷ enter 0 ∷ exit 0 3 4 ∷ enter 1 ∷ exit 1 4 5 ∷ exit 2 3 5 ∷ enter 28 ∷ enter 29 ∷ enter 0 ∷ exit 0 5 8 ∷ exit 29 5 8 ∷ enter 3 ∷ exit 3 8 9 ∷ enter 1 ∷ exit 1 9 12 ∷ enter 2 ∷ enter 0 ∷ exit 0 12 13 ∷ enter 1 ∷ exit 1 13 14 ∷ exit 2 12 14 ∷ enter 32 ∷ exit 32 14 15 ∷ enter 3 ∷ exit 3 15 16 ∷ enter 1 ∷ exit 1 16 19 ∷ enter 2 ∷ enter 0 ∷ exit 0 19 20 ∷ enter 1 ∷ exit 1 20 21 ∷ exit 2 19 21 ∷ enter 29 ∷ enter 0 ∷ exit 0 21 24 ∷ exit 29 21 24 ∷ exit 28 5 24 ∷ exit 20 3 24 ∷ enter 3 ∷ exit 3 24 25 ∷ enter 1 ∷ exit 1 25 28 ∷ enter 12 ∷ enter 5 ∷ exit 5 28 29 ∷ exit 12 28 29 ∷ exit 23 0 29 ∷ enter 3 ∷ exit 3 29 30 ∷ enter 23 ∷ enter 24 ∷ enter 26 ∷ exit 26 30 31 ∷ enter 25 ∷ exit 25 31 32 ∷ enter 1 ∷ exit 1 32 33 ∷ exit 24 30 33 ∷ enter 12 ∷ enter 5 ∷ exit 5 33 34 ∷ exit 12 33 34 ∷ exit 23 30 34 ∷ exit 21 0 34 ∷ []) ("<ol>\n<li>\n<blockquote>\n<pre><code>a\n</code></pre>\n</blockquote>\nb</li>\n<li>c</li>\n</ol>" ∷ []))
unfolding running
v3 = tt

v4 : T (shows (off Lf) ("- a\n  | b |\n  | - |\n" ∷ []) (enter 22 ∷ enter 23 ∷ enter 24 ∷ enter 25 ∷ exit 25 0 1 ∷ enter 1 ∷ exit 1 1 2 ∷ exit 24 0 2 ∷ enter 12 ∷ enter 5 ∷ exit 5 2 3 ∷ exit 12 2 3 ∷ enter 3 ∷ exit 3 3 4 ∷ enter 1 ∷ exit 1 4 6 ∷ enter_with 57 1 ∷ enter 58 ∷ enter 60 ∷ enter 61 ∷ enter 0 ∷ exit 0 6 7 ∷ enter 1 ∷ exit 1 7 8 ∷ enter 0 ∷ enter 5 ∷ exit 5 8 9 ∷ exit 0 8 9 ∷ enter 1 ∷ exit 1 9 10 ∷ enter 0 ∷ exit 0 10 11 ∷ exit 61 6 11 ∷ exit 60 6 11 ∷ enter 3 ∷ exit 3 11 12 ∷ enter 1 ∷ exit 1 12 14 ∷ enter 0 ∷ enter 0 ∷ enter 0 ∷ exit 0 14 15 ∷ enter 1 ∷ exit 1 15 16 ∷ enter 0 ∷ enter 0 ∷ exit 0 16 17 ∷ exit 0 16 17 ∷ enter 1 ∷ exit 1 17 18 ∷ enter 0 ∷ exit 0 18 19 ∷ exit 0 14 19 ∷ exit 0 14 19 ∷ exit 58 6 19 ∷ exit 57 6 19 ∷ exit 23 0 19 ∷ exit 22 0 19 ∷ enter 3 ∷ exit 3 19 20 ∷ []) ("<ul>\n<li>a\n<table>\n<thead>\n<tr>\n<th>b</th>\n</tr>\n</thead>\n</table>\n</li>\n</ul>\n" ∷ []))
unfolding running
v4 = tt

v5 : T (shows (off Lf) ("> [a]: b\n> c\n" ∷ []) (enter 20 ∷ enter 2 ∷ enter 0 ∷ exit 0 0 1 ∷ enter 1 ∷ exit 1 1 2 ∷ exit 2 0 2 ∷ enter 53 ∷ enter 0 ∷ enter 0 ∷ exit 0 2 3 ∷ enter 54 ∷ enter 5 ∷ exit 5 3 4 ∷ exit 54 3 4 ∷ enter 0 ∷ exit 0 4 5 ∷ exit 0 2 5 ∷ enter 0 ∷ exit 0 5 6 ∷ enter 1 ∷ exit 1 6 7 ∷ enter 0 ∷ enter 0 ∷ enter 55 ∷ enter 5 ∷ exit 5 7 8 ∷ exit 55 7 8 ∷ exit 0 7 8 ∷ exit 0 7 8 ∷ exit 53 2 8 ∷ enter 3 ∷ exit 3 8 9 ∷ enter 2 ∷ enter 0 ∷ exit 0 9 10 ∷ enter 1 ∷ exit 1 10 11 ∷ exit 2 9 11 ∷ enter 12 ∷ enter 5 ∷ exit 5 11 12 ∷ exit 12 11 12 ∷ exit 20 0 12 ∷ enter 3 ∷ exit 3 12 13 ∷ []) ("<blockquote>\n<p>c</p>\n</blockquote>\n" ∷ []))
unfolding running
v5 = tt

v6 : T (shows (off Lf) ("> - [a]: b\n>   > [c]: d\n\n[a][c]" ∷ []) (enter 20 ∷ enter 2 ∷ enter 0 ∷ exit 0 0 1 ∷ enter 1 ∷ exit 1 1 2 ∷ exit 2 0 2 ∷ enter 22 ∷ enter 23 ∷ enter 24 ∷ enter 25 ∷ exit 25 2 3 ∷ enter 1 ∷ exit 1 3 4 ∷ exit 24 2 4 ∷ enter 53 ∷ enter 0 ∷ enter 0 ∷ exit 0 4 5 ∷ enter 54 ∷ enter 5 ∷ exit 5 5 6 ∷ exit 54 5 6 ∷ enter 0 ∷ exit 0 6 7 ∷ exit 0 4 7 ∷ enter 0 ∷ exit 0 7 8 ∷ enter 1 ∷ exit 1 8 9 ∷ enter 0 ∷ enter 0 ∷ enter 55 ∷ enter 5 ∷ exit 5 9 10 ∷ exit 55 9 10 ∷ exit 0 9 10 ∷ exit 0 9 10 ∷ exit 53 4 10 ∷ enter 3 ∷ exit 3 10 11 ∷ enter 2 ∷ enter 0 ∷ exit 0 11 12 ∷ enter 1 ∷ exit 1 12 13 ∷ exit 2 11 13 ∷ enter 1 ∷ exit 1 13 15 ∷ enter 20 ∷ enter 2 ∷ enter 0 ∷ exit 0 15 16 ∷ enter 1 ∷ exit 1 16 17 ∷ exit 2 15 17 ∷ enter 53 ∷ enter 0 ∷ enter 0 ∷ exit 0 17 18 ∷ enter 54 ∷ enter 5 ∷ exit 5 18 19 ∷ exit 54 18 19 ∷ enter 0 ∷ exit 0 19 20 ∷ exit 0 17 20 ∷ enter 0 ∷ exit 0 20 21 ∷ enter 1 ∷ exit 1 21 22 ∷ enter 0 ∷ enter 0 ∷ enter 55 ∷ enter 5 ∷ exit 5 22 23 ∷ exit 55 22 23 ∷ exit 0 22 23 ∷ exit 0 22 23 ∷ exit 53 17 23 ∷ exit 20 15 23 ∷ exit 23 2 23 ∷ exit 22 2 23 ∷ exit 20 0 23 ∷ enter 3 ∷ exit 3 23 24 ∷ enter 4 ∷ exit 4 24 25 ∷ enter 12 ∷ enter 45 ∷ enter 47 ∷ enter 0 ∷ enter 0 ∷ exit 0 25 26 ∷ exit 0 25 26 ∷ enter 48 ∷ enter 5 ∷ exit 5 26 27 ∷ exit 48 26 27 ∷ enter 0 ∷ enter 0 ∷ exit 0 27 28 ∷ exit 0 27 28 ∷ exit 47 25 28 ∷ enter 0 ∷ enter 0 ∷ exit 0 28 29 ∷ enter 52 ∷ enter 5 ∷ exit 5 29 30 ∷ exit 52 29 30 ∷ enter 0 ∷ exit 0 30 31 ∷ exit 0 28 31 ∷ exit 45 25 31 ∷ exit 12 25 31 ∷ []) ("<blockquote>\n<ul>\n<li>\n<blockquote>\n</blockquote>\n</li>\n</ul>\n</blockquote>\n<p><a href=\"d\">a</a></p>" ∷ []))
unfolding running
v6 = tt

v7 : T (shows (off Lf) ("- a\n  - [a]: b\n- c" ∷ []) (enter 22 ∷ enter 23 ∷ enter 24 ∷ enter 25 ∷ exit 25 0 1 ∷ enter 1 ∷ exit 1 1 2 ∷ exit 24 0 2 ∷ enter 12 ∷ enter 5 ∷ exit 5 2 3 ∷ exit 12 2 3 ∷ enter 3 ∷ exit 3 3 4 ∷ enter 1 ∷ exit 1 4 6 ∷ enter 22 ∷ enter 23 ∷ enter 24 ∷ enter 25 ∷ exit 25 6 7 ∷ enter 1 ∷ exit 1 7 8 ∷ exit 24 6 8 ∷ enter 53 ∷ enter 0 ∷ enter 0 ∷ exit 0 8 9 ∷ enter 54 ∷ enter 5 ∷ exit 5 9 10 ∷ exit 54 9 10 ∷ enter 0 ∷ exit 0 10 11 ∷ exit 0 8 11 ∷ enter 0 ∷ exit 0 11 12 ∷ enter 1 ∷ exit 1 12 13 ∷ enter 0 ∷ enter 0 ∷ enter 55 ∷ enter 5 ∷ exit 5 13 14 ∷ exit 55 13 14 ∷ exit 0 13 14 ∷ exit 0 13 14 ∷ exit 53 8 14 ∷ exit 23 6 14 ∷ exit 22 6 14 ∷ exit 23 0 14 ∷ enter 3 ∷ exit 3 14 15 ∷ enter 23 ∷ enter 24 ∷ enter 25 ∷ exit 25 15 16 ∷ enter 1 ∷ exit 1 16 17 ∷ exit 24 15 17 ∷ enter 12 ∷ enter 5 ∷ exit 5 17 18 ∷ exit 12 17 18 ∷ exit 23 15 18 ∷ exit 22 0 18 ∷ []) ("<ul>\n<li>a\n<ul>\n<li></li>\n</ul>\n</li>\n<li>c</li>\n</ul>" ∷ []))
unfolding running
v7 = tt

v8 : T (shows (off Lf) ("- a\n\n  [a]: b\n\n- c" ∷ []) (enter_with 22 1 ∷ enter 23 ∷ enter 24 ∷ enter 25 ∷ exit 25 0 1 ∷ enter 1 ∷ exit 1 1 2 ∷ exit 24 0 2 ∷ enter 12 ∷ enter 5 ∷ exit 5 2 3 ∷ exit 12 2 3 ∷ enter 3 ∷ exit 3 3 4 ∷ enter 4 ∷ exit 4 4 5 ∷ enter 1 ∷ exit 1 5 7 ∷ enter 53 ∷ enter 0 ∷ enter 0 ∷ exit 0 7 8 ∷ enter 54 ∷ enter 5 ∷ exit 5 8 9 ∷ exit 54 8 9 ∷ enter 0 ∷ exit 0 9 10 ∷ exit 0 7 10 ∷ enter 0 ∷ exit 0 10 11 ∷ enter 1 ∷ exit 1 11 12 ∷ enter 0 ∷ enter 0 ∷ enter 55 ∷ enter 5 ∷ exit 5 12 13 ∷ exit 55 12 13 ∷ exit 0 12 13 ∷ exit 0 12 13 ∷ exit 53 7 13 ∷ enter 3 ∷ exit 3 13 14 ∷ exit 23 0 14 ∷ enter 4 ∷ exit 4 14 15 ∷ enter 23 ∷ enter 24 ∷ enter 25 ∷ exit 25 15 16 ∷ enter 1 ∷ exit 1 16 17 ∷ exit 24 15 17 ∷ enter 12 ∷ enter 5 ∷ exit 5 17 18 ∷ exit 12 17 18 ∷ exit 23 15 18 ∷ exit 22 0 18 ∷ []) ("<ul>\n<li>\n<p>a</p>\n</li>\n<li>\n<p>c</p>\n</li>\n</ul>" ∷ []))
unfolding running
v8 = tt

v9 : T (shows (off Lf) ("- [a]: b\n\n- [c]: d\n" ∷ []) (enter_with 22 1 ∷ enter 23 ∷ enter 24 ∷ enter 25 ∷ exit 25 0 1 ∷ enter 1 ∷ exit 1 1 2 ∷ exit 24 0 2 ∷ enter 53 ∷ enter 0 ∷ enter 0 ∷ exit 0 2 3 ∷ enter 54 ∷ enter 5 ∷ exit 5 3 4 ∷ exit 54 3 4 ∷ enter 0 ∷ exit 0 4 5 ∷ exit 0 2 5 ∷ enter 0 ∷ exit 0 5 6 ∷ enter 1 ∷ exit 1 6 7 ∷ enter 0 ∷ enter 0 ∷ enter 55 ∷ enter 5 ∷ exit 5 7 8 ∷ exit 55 7 8 ∷ exit 0 7 8 ∷ exit 0 7 8 ∷ exit 53 2 8 ∷ enter 3 ∷ exit 3 8 9 ∷ exit 23 0 9 ∷ enter 4 ∷ exit 4 9 10 ∷ enter 23 ∷ enter 24 ∷ enter 25 ∷ exit 25 10 11 ∷ enter 1 ∷ exit 1 11 12 ∷ exit 24 10 12 ∷ enter 53 ∷ enter 0 ∷ enter 0 ∷ exit 0 12 13 ∷ enter 54 ∷ enter 5 ∷ exit 5 13 14 ∷ exit 54 13 14 ∷ enter 0 ∷ exit 0 14 15 ∷ exit 0 12 15 ∷ enter 0 ∷ exit 0 15 16 ∷ enter 1 ∷ exit 1 16 17 ∷ enter 0 ∷ enter 0 ∷ enter 55 ∷ enter 5 ∷ exit 5 17 18 ∷ exit 55 17 18 ∷ exit 0 17 18 ∷ exit 0 17 18 ∷ exit 53 12 18 ∷ exit 23 10 18 ∷ exit 22 0 18 ∷ enter 3 ∷ exit 3 18 19 ∷ []) ("<ul>\n<li></li>\n<li></li>\n</ul>\n" ∷ []))
unfolding running
v9 = tt

v10 : T (shows (off Lf) ("- a\n  [a]: b" ∷ []) (enter 22 ∷ enter 23 ∷ enter 24 ∷ enter 25 ∷ exit 25 0 1 ∷ enter 1 ∷ exit 1 1 2 ∷ exit 24 0 2 ∷ enter 12 ∷ enter 5 ∷ exit 5 2 3 ∷ enter 3 ∷ exit 3 3 4 ∷ enter 1 ∷ exit 1 4 6 ∷ enter 5 ∷ exit 5 6 12 ∷ exit 12 2 12 ∷ exit 23 0 12 ∷ exit 22 0 12 ∷ []) ("<ul>\n<li>a\n[a]: b</li>\n</ul>" ∷ []))
unfolding running
v10 = tt

v11 : T (shows (off Lf) ("- # a\n\n  [a]: b\n- c" ∷ []) (enter_with 22 1 ∷ enter 23 ∷ enter 24 ∷ enter 25 ∷ exit 25 0 1 ∷ enter 1 ∷ exit 1 1 2 ∷ exit 24 0 2 ∷ enter 13 ∷ enter 14 ∷ exit 14 2 3 ∷ enter 1 ∷ exit 1 3 4 ∷ enter 15 ∷ enter 5 ∷ exit 5 4 5 ∷ exit 15 4 5 ∷ exit 13 2 5 ∷ enter 3 ∷ exit 3 5 6 ∷ enter 4 ∷ exit 4 6 7 ∷ enter 1 ∷ exit 1 7 9 ∷ enter 53 ∷ enter 0 ∷ enter 0 ∷ exit 0 9 10 ∷ enter 54 ∷ enter 5 ∷ exit 5 10 11 ∷ exit 54 10 11 ∷ enter 0 ∷ exit 0 11 12 ∷ exit 0 9 12 ∷ enter 0 ∷ exit 0 12 13 ∷ enter 1 ∷ exit 1 13 14 ∷ enter 0 ∷ enter 0 ∷ enter 55 ∷ enter 5 ∷ exit 5 14 15 ∷ exit 55 14 15 ∷ exit 0 14 15 ∷ exit 0 14 15 ∷ exit 53 9 15 ∷ exit 23 0 15 ∷ enter 3 ∷ exit 3 15 16 ∷ enter 23 ∷ enter 24 ∷ enter 25 ∷ exit 25 16 17 ∷ enter 1 ∷ exit 1 17 18 ∷ exit 24 16 18 ∷ enter 12 ∷ enter 5 ∷ exit 5 18 19 ∷ exit 12 18 19 ∷ exit 23 16 19 ∷ exit 22 0 19 ∷ []) ("<ul>\n<li>\n<h1>a</h1>\n</li>\n<li>\n<p>c</p>\n</li>\n</ul>" ∷ []))
unfolding running
v11 = tt

v12 : T (shows (off Lf) ("- a\n- [^b]: c\n- d [^b]" ∷ []) (enter 22 ∷ enter 23 ∷ enter 24 ∷ enter 25 ∷ exit 25 0 1 ∷ enter 1 ∷ exit 1 1 2 ∷ exit 24 0 2 ∷ enter 12 ∷ enter 5 ∷ exit 5 2 3 ∷ exit 12 2 3 ∷ exit 23 0 3 ∷ enter 3 ∷ exit 3 3 4 ∷ enter 23 ∷ enter 24 ∷ enter 25 ∷ exit 25 4 5 ∷ enter 1 ∷ exit 1 5 6 ∷ exit 24 4 6 ∷ enter 63 ∷ enter 64 ∷ enter 0 ∷ enter 0 ∷ exit 0 6 7 ∷ enter 0 ∷ exit 0 7 8 ∷ enter 65 ∷ enter 5 ∷ exit 5 8 9 ∷ exit 65 8 9 ∷ enter 0 ∷ exit 0 9 10 ∷ exit 0 6 10 ∷ enter 0 ∷ exit 0 10 11 ∷ enter 1 ∷ exit 1 11 12 ∷ exit 64 6 12 ∷ enter 12 ∷ enter 5 ∷ exit 5 12 13 ∷ exit 12 12 13 ∷ exit 63 6 13 ∷ exit 23 4 13 ∷ enter 3 ∷ exit 3 13 14 ∷ enter 23 ∷ enter 24 ∷ enter 25 ∷ exit 25 14 15 ∷ enter 1 ∷ exit 1 15 16 ∷ exit 24 14 16 ∷ enter 12 ∷ enter 5 ∷ exit 5 16 18 ∷ enter 62 ∷ enter 47 ∷ enter 0 ∷ enter 0 ∷ exit 0 18 19 ∷ enter 0 ∷ exit 0 19 20 ∷ exit 0 18 20 ∷ enter 48 ∷ enter 5 ∷ exit 5 20 21 ∷ exit 48 20 21 ∷ enter 0 ∷ enter 0 ∷ exit 0 21 22 ∷ exit 0 21 22 ∷ exit 47 18 22 ∷ exit 62 18 22 ∷ exit 12 16 22 ∷ exit 23 14 22 ∷ exit 22 0 22 ∷ []) ("<ul>\n<li>a</li>\n<li></li>\n<li>d <sup><a href=\"#user-content-fn-b\" id=\"user-content-fnref-b\" data-footnote-ref=\"\" aria-describedby=\"footnote-label\">1</a></sup></li>\n</ul>\n<section data-footnotes=\"\" cla" ∷ "ss=\"footnotes\"><h2 id=\"footnote-label\" class=\"sr-only\">Footnotes</h2>\n<ol>\n<li id=\"user-content-fn-b\">\n<p>c <a href=\"#user-content-fnref-b\" data-footnote-backref=\"\" aria-label=\"Back to content\" class=" ∷ "\"data-footnote-backref\">â\u{86}©</a></p>\n</li>\n</ol>\n</section>\n" ∷ []))
unfolding running
v12 = tt

v13 : T (shows (off Lf) ("- [^b]: c\n\n  d\n- e" ∷ []) (enter_with 22 1 ∷ enter 23 ∷ enter 24 ∷ enter 25 ∷ exit 25 0 1 ∷ enter 1 ∷ exit 1 1 2 ∷ exit 24 0 2 ∷ enter 63 ∷ enter 64 ∷ enter 0 ∷ enter 0 ∷ exit 0 2 3 ∷ enter 0 ∷ exit 0 3 4 ∷ enter 65 ∷ enter 5 ∷ exit 5 4 5 ∷ exit 65 4 5 ∷ enter 0 ∷ exit 0 5 6 ∷ exit 0 2 6 ∷ enter 0 ∷ exit 0 6 7 ∷ enter 1 ∷ exit 1 7 8 ∷ exit 64 2 8 ∷ enter 12 ∷ enter 5 ∷ exit 5 8 9 ∷ exit 12 8 9 ∷ enter 3 ∷ exit 3 9 10 ∷ exit 63 2 10 ∷ enter 4 ∷ exit 4 10 11 ∷ enter 1 ∷ exit 1 11 13 ∷ enter 12 ∷ enter 5 ∷ exit 5 13 14 ∷ exit 12 13 14 ∷ exit 23 0 14 ∷ enter 3 ∷ exit 3 14 15 ∷ enter 23 ∷ enter 24 ∷ enter 25 ∷ exit 25 15 16 ∷ enter 1 ∷ exit 1 16 17 ∷ exit 24 15 17 ∷ enter 12 ∷ enter 5 ∷ exit 5 17 18 ∷ exit 12 17 18 ∷ exit 23 15 18 ∷ exit 22 0 18 ∷ []) ("<ul>\n<li>\n<p>d</p>\n</li>\n<li>\n<p>e</p>\n</li>\n</ul>" ∷ []))
unfolding running
v13 = tt

v14 : T (shows (off Lf) ("1. [a]: b\n2. [c]: d\n" ∷ []) (enter 21 ∷ enter 23 ∷ enter 24 ∷ enter 26 ∷ exit 26 0 1 ∷ enter 25 ∷ exit 25 1 2 ∷ enter 1 ∷ exit 1 2 3 ∷ exit 24 0 3 ∷ enter 53 ∷ enter 0 ∷ enter 0 ∷ exit 0 3 4 ∷ enter 54 ∷ enter 5 ∷ exit 5 4 5 ∷ exit 54 4 5 ∷ enter 0 ∷ exit 0 5 6 ∷ exit 0 3 6 ∷ enter 0 ∷ exit 0 6 7 ∷ enter 1 ∷ exit 1 7 8 ∷ enter 0 ∷ enter 0 ∷ enter 55 ∷ enter 5 ∷ exit 5 8 9 ∷ exit 55 8 9 ∷ exit 0 8 9 ∷ exit 0 8 9 ∷ exit 53 3 9 ∷ exit 23 0 9 ∷ enter 3 ∷ exit 3 9 10 ∷ enter 23 ∷ enter 24 ∷ enter 26 ∷ exit 26 10 11 ∷ enter 25 ∷ exit 25 11 12 ∷ enter 1 ∷ exit 1 12 13 ∷ exit 24 10 13 ∷ enter 53 ∷ enter 0 ∷ enter 0 ∷ exit 0 13 14 ∷ enter 54 ∷ enter 5 ∷ exit 5 14 15 ∷ exit 54 14 15 ∷ enter 0 ∷ exit 0 15 16 ∷ exit 0 13 16 ∷ enter 0 ∷ exit 0 16 17 ∷ enter 1 ∷ exit 1 17 18 ∷ enter 0 ∷ enter 0 ∷ enter 55 ∷ enter 5 ∷ exit 5 18 19 ∷ exit 55 18 19 ∷ exit 0 18 19 ∷ exit 0 18 19 ∷ exit 53 13 19 ∷ exit 23 10 19 ∷ exit 21 0 19 ∷ enter 3 ∷ exit 3 19 20 ∷ []) ("<ol>\n<li></li>\n<li></li>\n</ol>\n" ∷ []))
unfolding running
v14 = tt

v15 : T (shows (off Lf) (">\n> a\n>\n\n" ∷ []) (enter 20 ∷ enter 2 ∷ enter 0 ∷ exit 0 0 1 ∷ exit 2 0 1 ∷ enter 4 ∷ exit 4 1 2 ∷ enter 2 ∷ enter 0 ∷ exit 0 2 3 ∷ enter 1 ∷ exit 1 3 4 ∷ exit 2 2 4 ∷ enter 12 ∷ enter 5 ∷ exit 5 4 5 ∷ exit 12 4 5 ∷ enter 3 ∷ exit 3 5 6 ∷ enter 2 ∷ enter 0 ∷ exit 0 6 7 ∷ exit 2 6 7 ∷ exit 20 0 7 ∷ enter 4 ∷ exit 4 7 8 ∷ enter 4 ∷ exit 4 8 9 ∷ []) ("<blockquote>\n<p>a</p>\n</blockquote>\n" ∷ []))
unfolding running
v15 = tt

v16 : T (shows (off Lf) ("> a\n>\n" ∷ []) (enter 20 ∷ enter 2 ∷ enter 0 ∷ exit 0 0 1 ∷ enter 1 ∷ exit 1 1 2 ∷ exit 2 0 2 ∷ enter 12 ∷ enter 5 ∷ exit 5 2 3 ∷ exit 12 2 3 ∷ enter 3 ∷ exit 3 3 4 ∷ enter 2 ∷ enter 0 ∷ exit 0 4 5 ∷ exit 2 4 5 ∷ exit 20 0 5 ∷ enter 4 ∷ exit 4 5 6 ∷ []) ("<blockquote>\n<p>a</p>\n</blockquote>\n" ∷ []))
unfolding running
v16 = tt

v17 : T (shows (off Lf) ("- a\n\n" ∷ []) (enter 22 ∷ enter 23 ∷ enter 24 ∷ enter 25 ∷ exit 25 0 1 ∷ enter 1 ∷ exit 1 1 2 ∷ exit 24 0 2 ∷ enter 12 ∷ enter 5 ∷ exit 5 2 3 ∷ exit 12 2 3 ∷ enter 3 ∷ exit 3 3 4 ∷ exit 23 0 4 ∷ exit 22 0 4 ∷ enter 4 ∷ exit 4 4 5 ∷ []) ("<ul>\n<li>a</li>\n</ul>\n" ∷ []))
unfolding running
v17 = tt

v18 : T (shows (off Lf) ("```\na\n```\n\n" ∷ []) (enter 28 ∷ enter 29 ∷ enter 0 ∷ exit 0 0 3 ∷ exit 29 0 3 ∷ enter 3 ∷ exit 3 3 4 ∷ enter 32 ∷ exit 32 4 5 ∷ enter 3 ∷ exit 3 5 6 ∷ enter 29 ∷ enter 0 ∷ exit 0 6 9 ∷ exit 29 6 9 ∷ exit 28 0 9 ∷ enter 3 ∷ exit 3 9 10 ∷ enter 4 ∷ exit 4 10 11 ∷ []) ("<pre><code>a\n</code></pre>\n" ∷ []))
unfolding running
v18 = tt

v19 : T (shows (off Lf) ("> ```\n> a\n\nb" ∷ []) (enter 20 ∷ enter 2 ∷ enter 0 ∷ exit 0 0 1 ∷ enter 1 ∷ exit 1 1 2 ∷ exit 2 0 2 ∷ enter 28 ∷ enter 29 ∷ enter 0 ∷ exit 0 2 5 ∷ exit 29 2 5 ∷ enter 3 ∷ exit 3 5 6 ∷ enter 2 ∷ enter 0 ∷ exit 0 6 7 ∷ enter 1 ∷ exit 1 7 8 ∷ exit 2 6 8 ∷ enter 32 ∷ exit 32 8 9 ∷ exit 28 2 9 ∷ exit 20 0 9 ∷ enter 3 ∷ exit 3 9 10 ∷ enter 4 ∷ exit 4 10 11 ∷ enter 12 ∷ enter 5 ∷ exit 5 11 12 ∷ exit 12 11 12 ∷ []) ("<blockquote>\n<pre><code>a\n</code></pre>\n</blockquote>\n<p>b</p>" ∷ []))
unfolding running
v19 = tt

v20 : T (shows (off Lf) ("- > ```\n  > a\n\nb\n" ∷ []) (enter 22 ∷ enter 23 ∷ enter 24 ∷ enter 25 ∷ exit 25 0 1 ∷ enter 1 ∷ exit 1 1 2 ∷ exit 24 0 2 ∷ enter 20 ∷ enter 2 ∷ enter 0 ∷ exit 0 2 3 ∷ enter 1 ∷ exit 1 3 4 ∷ exit 2 2 4 ∷ enter 28 ∷ enter 29 ∷ enter 0 ∷ exit 0 4 7 ∷ exit 29 4 7 ∷ enter 3 ∷ exit 3 7 8 ∷ enter 1 ∷ exit 1 8 10 ∷ enter 2 ∷ enter 0 ∷ exit 0 10 11 ∷ enter 1 ∷ exit 1 11 12 ∷ exit 2 10 12 ∷ enter 32 ∷ exit 32 12 13 ∷ exit 28 4 13 ∷ exit 20 2 13 ∷ enter 3 ∷ exit 3 13 14 ∷ exit 23 0 14 ∷ exit 22 0 14 ∷ enter 4 ∷ exit 4 14 15 ∷ enter 12 ∷ enter 5 ∷ exit 5 15 16 ∷ exit 12 15 16 ∷ enter 3 ∷ exit 3 16 17 ∷ []) ("<ul>\n<li>\n<blockquote>\n<pre><code>a\n</code></pre>\n</blockquote>\n</li>\n</ul>\n<p>b</p>\n" ∷ []))
unfolding running
v20 = tt

v21 : T (shows (off Lf) ("- a\n  ```\n" ∷ []) (enter 22 ∷ enter 23 ∷ enter 24 ∷ enter 25 ∷ exit 25 0 1 ∷ enter 1 ∷ exit 1 1 2 ∷ exit 24 0 2 ∷ enter 12 ∷ enter 5 ∷ exit 5 2 3 ∷ exit 12 2 3 ∷ enter 3 ∷ exit 3 3 4 ∷ enter 1 ∷ exit 1 4 6 ∷ enter 28 ∷ enter 29 ∷ enter 0 ∷ exit 0 6 9 ∷ exit 29 6 9 ∷ enter 3 ∷ exit 3 9 10 ∷ exit 28 6 10 ∷ exit 23 0 10 ∷ exit 22 0 10 ∷ []) ("<ul>\n<li>a\n<pre><code>\n</code></pre>\n</li>\n</ul>" ∷ []))
unfolding running
v21 = tt

v22 : T (shows (off Lf) ("> > ```\n> > a\n> b\n" ∷ []) (enter 20 ∷ enter 2 ∷ enter 0 ∷ exit 0 0 1 ∷ enter 1 ∷ exit 1 1 2 ∷ exit 2 0 2 ∷ enter 20 ∷ enter 2 ∷ enter 0 ∷ exit 0 2 3 ∷ enter 1 ∷ exit 1 3 4 ∷ exit 2 2 4 ∷ enter 28 ∷ enter 29 ∷ enter 0 ∷ exit 0 4 7 ∷ exit 29 4 7 ∷ enter 3 ∷ exit 3 7 8 ∷ enter 2 ∷ enter 0 ∷ exit 0 8 9 ∷ enter 1 ∷ exit 1 9 10 ∷ exit 2 8 10 ∷ enter 2 ∷ enter 0 ∷ exit 0 10 11 ∷ enter 1 ∷ exit 1 11 12 ∷ exit 2 10 12 ∷ enter 32 ∷ exit 32 12 13 ∷ exit 28 4 13 ∷ exit 20 2 13 ∷ enter 3 ∷ exit 3 13 14 ∷ enter 2 ∷ enter 0 ∷ exit 0 14 15 ∷ enter 1 ∷ exit 1 15 16 ∷ exit 2 14 16 ∷ enter 12 ∷ enter 5 ∷ exit 5 16 17 ∷ exit 12 16 17 ∷ exit 20 0 17 ∷ enter 3 ∷ exit 3 17 18 ∷ []) ("<blockquote>\n<blockquote>\n<pre><code>a\n</code></pre>\n</blockquote>\n<p>b</p>\n</blockquote>\n" ∷ []))
unfolding running
v22 = tt
