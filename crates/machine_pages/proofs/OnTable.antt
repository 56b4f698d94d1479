-- Tables: pages of the crate markdown 1.0.0. Made by tools/machine_pages. Assumes nothing.
use mathlib.Core.List.{[], ◌∷◌}
use lib.Dec.{T}
use Rattle.machine.specs.declared.Ending.TheVariants.{Lf}
use Rattle.machine.proofs.Running.{running}
use Rattle.machine.proofs.Answers.{shows, off, html, on, enter, exit, enter_with}

v1 : T (shows (off Lf) ("| a |\n| - |" ∷ []) (enter_with 57 1 ∷ enter 58 ∷ enter 60 ∷ enter 61 ∷ enter 0 ∷ exit 0 0 1 ∷ enter 1 ∷ exit 1 1 2 ∷ enter 0 ∷ enter 5 ∷ exit 5 2 3 ∷ exit 0 2 3 ∷ enter 1 ∷ exit 1 3 4 ∷ enter 0 ∷ exit 0 4 5 ∷ exit 61 0 5 ∷ exit 60 0 5 ∷ enter 3 ∷ exit 3 5 6 ∷ enter 0 ∷ enter 0 ∷ enter 0 ∷ exit 0 6 7 ∷ enter 1 ∷ exit 1 7 8 ∷ enter 0 ∷ enter 0 ∷ exit 0 8 9 ∷ exit 0 8 9 ∷ enter 1 ∷ exit 1 9 10 ∷ enter 0 ∷ exit 0 10 11 ∷ exit 0 6 11 ∷ exit 0 6 11 ∷ exit 58 0 11 ∷ exit 57 0 11 ∷ []) ("<table>\n<thead>\n<tr>\n<th>a</th>\n</tr>\n</thead>\n</table>" ∷ []))
unfolding running
v1 = tt

v2 : T (shows (off Lf) ("a | b\n-|-\nc | d\n" ∷ []) (enter_with 57 2 ∷ enter 58 ∷ enter 60 ∷ enter 61 ∷ enter 0 ∷ enter 5 ∷ exit 5 0 1 ∷ exit 0 0 1 ∷ enter 1 ∷ exit 1 1 2 ∷ exit 61 0 2 ∷ enter 61 ∷ enter 0 ∷ exit 0 2 3 ∷ enter 1 ∷ exit 1 3 4 ∷ enter 0 ∷ enter 5 ∷ exit 5 4 5 ∷ exit 0 4 5 ∷ exit 61 2 5 ∷ exit 60 0 5 ∷ enter 3 ∷ exit 3 5 6 ∷ enter 0 ∷ enter 0 ∷ enter 0 ∷ enter 0 ∷ exit 0 6 7 ∷ exit 0 6 7 ∷ exit 0 6 7 ∷ enter 0 ∷ enter 0 ∷ exit 0 7 8 ∷ enter 0 ∷ enter 0 ∷ exit 0 8 9 ∷ exit 0 8 9 ∷ exit 0 7 9 ∷ exit 0 6 9 ∷ exit 58 0 9 ∷ enter 3 ∷ exit 3 9 10 ∷ enter 59 ∷ enter 60 ∷ enter 61 ∷ enter 0 ∷ enter 5 ∷ exit 5 10 11 ∷ exit 0 10 11 ∷ enter 1 ∷ exit 1 11 12 ∷ exit 61 10 12 ∷ enter 61 ∷ enter 0 ∷ exit 0 12 13 ∷ enter 1 ∷ exit 1 13 14 ∷ enter 0 ∷ enter 5 ∷ exit 5 14 15 ∷ exit 0 14 15 ∷ exit 61 12 15 ∷ exit 60 10 15 ∷ exit 59 10 15 ∷ exit 57 0 15 ∷ enter 3 ∷ exit 3 15 16 ∷ []) ("<table>\n<thead>\n<tr>\n<th>a</th>\n<th>b</th>\n</tr>\n</thead>\n<tbody>\n<tr>\n<td>c</td>\n<td>d</td>\n</tr>\n</tbody>\n</table>\n" ∷ []))
unfolding running
v2 = tt

v3 : T (shows (off Lf) ("| a | b |\n| :- | -: |\n| c |\n| d | e | f |\n" ∷ []) (enter_with 57 2306 ∷ enter 58 ∷ enter 60 ∷ enter 61 ∷ enter 0 ∷ exit 0 0 1 ∷ enter 1 ∷ exit 1 1 2 ∷ enter 0 ∷ enter 5 ∷ exit 5 2 3 ∷ exit 0 2 3 ∷ enter 1 ∷ exit 1 3 4 ∷ exit 61 0 4 ∷ enter 61 ∷ enter 0 ∷ exit 0 4 5 ∷ enter 1 ∷ exit 1 5 6 ∷ enter 0 ∷ enter 5 ∷ exit 5 6 7 ∷ exit 0 6 7 ∷ enter 1 ∷ exit 1 7 8 ∷ enter 0 ∷ exit 0 8 9 ∷ exit 61 4 9 ∷ exit 60 0 9 ∷ enter 3 ∷ exit 3 9 10 ∷ enter 0 ∷ enter 0 ∷ enter 0 ∷ exit 0 10 11 ∷ enter 1 ∷ exit 1 11 12 ∷ enter 0 ∷ enter 0 ∷ exit 0 12 13 ∷ enter 0 ∷ exit 0 13 14 ∷ exit 0 12 14 ∷ enter 1 ∷ exit 1 14 15 ∷ exit 0 10 15 ∷ enter 0 ∷ enter 0 ∷ exit 0 15 16 ∷ enter 1 ∷ exit 1 16 17 ∷ enter 0 ∷ enter 0 ∷ exit 0 17 18 ∷ enter 0 ∷ exit 0 18 19 ∷ exit 0 17 19 ∷ enter 1 ∷ exit 1 19 20 ∷ enter 0 ∷ exit 0 20 21 ∷ exit 0 15 21 ∷ exit 0 10 21 ∷ exit 58 0 21 ∷ enter 3 ∷ exit 3 21 22 ∷ enter 59 ∷ enter 60 ∷ enter 61 ∷ enter 0 ∷ exit 0 22 23 ∷ enter 1 ∷ exit 1 23 24 ∷ enter 0 ∷ enter 5 ∷ exit 5 24 25 ∷ exit 0 24 25 ∷ enter 1 ∷ exit 1 25 26 ∷ enter 0 ∷ exit 0 26 27 ∷ exit 61 22 27 ∷ exit 60 22 27 ∷ enter 3 ∷ exit 3 27 28 ∷ enter 60 ∷ enter 61 ∷ enter 0 ∷ exit 0 28 29 ∷ enter 1 ∷ exit 1 29 30 ∷ enter 0 ∷ enter 5 ∷ exit 5 30 31 ∷ exit 0 30 31 ∷ enter 1 ∷ exit 1 31 32 ∷ exit 61 28 32 ∷ enter 61 ∷ enter 0 ∷ exit 0 32 33 ∷ enter 1 ∷ exit 1 33 34 ∷ enter 0 ∷ enter 5 ∷ exit 5 34 35 ∷ exit 0 34 35 ∷ enter 1 ∷ exit 1 35 36 ∷ exit 61 32 36 ∷ enter 61 ∷ enter 0 ∷ exit 0 36 37 ∷ enter 1 ∷ exit 1 37 38 ∷ enter 0 ∷ enter 5 ∷ exit 5 38 39 ∷ exit 0 38 39 ∷ enter 1 ∷ exit 1 39 40 ∷ enter 0 ∷ exit 0 40 41 ∷ exit 61 36 41 ∷ exit 60 28 41 ∷ exit 59 22 41 ∷ exit 57 0 41 ∷ enter 3 ∷ exit 3 41 42 ∷ []) ("<table>\n<thead>\n<tr>\n<th align=\"left\">a</th>\n<th align=\"right\">b</th>\n</tr>\n</thead>\n<tbody>\n<tr>\n<td align=\"left\">c</td>\n<td align=\"right\"></td>\n</tr>\n<tr>\n<td align=\"left\">d</td>\n<td align=\"right\">e" ∷ "</td>\n</tr>\n</tbody>\n</table>\n" ∷ []))
unfolding running
v3 = tt

v4 : T (shows (off Lf) ("| a |\n|:-:|\n| `b\\|c` | d |" ∷ []) (enter_with 57 769 ∷ enter 58 ∷ enter 60 ∷ enter 61 ∷ enter 0 ∷ exit 0 0 1 ∷ enter 1 ∷ exit 1 1 2 ∷ enter 0 ∷ enter 5 ∷ exit 5 2 3 ∷ exit 0 2 3 ∷ enter 1 ∷ exit 1 3 4 ∷ enter 0 ∷ exit 0 4 5 ∷ exit 61 0 5 ∷ exit 60 0 5 ∷ enter 3 ∷ exit 3 5 6 ∷ enter 0 ∷ enter 0 ∷ enter 0 ∷ exit 0 6 7 ∷ enter 0 ∷ enter 0 ∷ exit 0 7 8 ∷ enter 0 ∷ exit 0 8 9 ∷ enter 0 ∷ exit 0 9 10 ∷ exit 0 7 10 ∷ enter 0 ∷ exit 0 10 11 ∷ exit 0 6 11 ∷ exit 0 6 11 ∷ exit 58 0 11 ∷ enter 3 ∷ exit 3 11 12 ∷ enter 59 ∷ enter 60 ∷ enter 61 ∷ enter 0 ∷ exit 0 12 13 ∷ enter 1 ∷ exit 1 13 14 ∷ enter 0 ∷ enter 33 ∷ enter 0 ∷ exit 0 14 15 ∷ enter 34 ∷ exit 34 15 19 ∷ enter 0 ∷ exit 0 19 20 ∷ exit 33 14 20 ∷ exit 0 14 20 ∷ enter 1 ∷ exit 1 20 21 ∷ exit 61 12 21 ∷ enter 61 ∷ enter 0 ∷ exit 0 21 22 ∷ enter 1 ∷ exit 1 22 23 ∷ enter 0 ∷ enter 5 ∷ exit 5 23 24 ∷ exit 0 23 24 ∷ enter 1 ∷ exit 1 24 25 ∷ enter 0 ∷ exit 0 25 26 ∷ exit 61 21 26 ∷ exit 60 12 26 ∷ exit 59 12 26 ∷ exit 57 0 26 ∷ []) ("<table>\n<thead>\n<tr>\n<th align=\"center\">a</th>\n</tr>\n</thead>\n<tbody>\n<tr>\n<td align=\"center\"><code>b|c</code></td>\n</tr>\n</tbody>\n</table>" ∷ []))
unfolding running
v4 = tt

v5 : T (shows (off Lf) ("|a|\n|-|\n|[^b]|[^b]|\n\n[^b]: c" ∷ []) (enter_with 57 1 ∷ enter 58 ∷ enter 60 ∷ enter 61 ∷ enter 0 ∷ exit 0 0 1 ∷ enter 0 ∷ enter 5 ∷ exit 5 1 2 ∷ exit 0 1 2 ∷ enter 0 ∷ exit 0 2 3 ∷ exit 61 0 3 ∷ exit 60 0 3 ∷ enter 3 ∷ exit 3 3 4 ∷ enter 0 ∷ enter 0 ∷ enter 0 ∷ exit 0 4 5 ∷ enter 0 ∷ enter 0 ∷ exit 0 5 6 ∷ exit 0 5 6 ∷ enter 0 ∷ exit 0 6 7 ∷ exit 0 4 7 ∷ exit 0 4 7 ∷ exit 58 0 7 ∷ enter 3 ∷ exit 3 7 8 ∷ enter 59 ∷ enter 60 ∷ enter 61 ∷ enter 0 ∷ exit 0 8 9 ∷ enter 0 ∷ enter 62 ∷ enter 47 ∷ enter 0 ∷ enter 0 ∷ exit 0 9 10 ∷ enter 0 ∷ exit 0 10 11 ∷ exit 0 9 11 ∷ enter 48 ∷ enter 5 ∷ exit 5 11 12 ∷ exit 48 11 12 ∷ enter 0 ∷ enter 0 ∷ exit 0 12 13 ∷ exit 0 12 13 ∷ exit 47 9 13 ∷ exit 62 9 13 ∷ exit 0 9 13 ∷ exit 61 8 13 ∷ enter 61 ∷ enter 0 ∷ exit 0 13 14 ∷ enter 0 ∷ enter 62 ∷ enter 47 ∷ enter 0 ∷ enter 0 ∷ exit 0 14 15 ∷ enter 0 ∷ exit 0 15 16 ∷ exit 0 14 16 ∷ enter 48 ∷ enter 5 ∷ exit 5 16 17 ∷ exit 48 16 17 ∷ enter 0 ∷ enter 0 ∷ exit 0 17 18 ∷ exit 0 17 18 ∷ exit 47 14 18 ∷ exit 62 14 18 ∷ exit 0 14 18 ∷ enter 0 ∷ exit 0 18 19 ∷ exit 61 13 19 ∷ exit 60 8 19 ∷ exit 59 8 19 ∷ exit 57 0 19 ∷ enter 3 ∷ exit 3 19 20 ∷ enter 4 ∷ exit 4 20 21 ∷ enter 63 ∷ enter 64 ∷ enter 0 ∷ enter 0 ∷ exit 0 21 22 ∷ enter 0 ∷ exit 0 22 23 ∷ enter 65 ∷ enter 5 ∷ exit 5 23 24 ∷ exit 65 23 24 ∷ enter 0 ∷ exit 0 24 25 ∷ exit 0 21 25 ∷ enter 0 ∷ exit 0 25 26 ∷ enter 1 ∷ exit 1 26 27 ∷ exit 64 21 27 ∷ enter 12 ∷ enter 5 ∷ exit 5 27 28 ∷ exit 12 27 28 ∷ exit 63 21 28 ∷ []) ("<table>\n<thead>\n<tr>\n<th>a</th>\n</tr>\n</thead>\n<tbody>\n<tr>\n<td><sup><a href=\"#user-content-fn-b\" id=\"user-content-fnref-b\" data-footnote-ref=\"\" aria-describedby=\"footnote-label\">1</a></sup></td>\n</tr" ∷ ">\n</tbody>\n</table>\n<section data-footnotes=\"\" class=\"footnotes\"><h2 id=\"footnote-label\" class=\"sr-only\">Footnotes</h2>\n<ol>\n<li id=\"user-content-fn-b\">\n<p>c <a href=\"#user-content-fnref-b\" data-footn" ∷ "ote-backref=\"\" aria-label=\"Back to content\" class=\"data-footnote-backref\">â\u{86}©</a> <a href=\"#user-content-fnref-b-2\" data-footnote-backref=\"\" aria-label=\"Back to content\" class=\"data-footnote-backref\">" ∷ "â\u{86}©<sup>2</sup></a></p>\n</li>\n</ol>\n</section>\n" ∷ []))
unfolding running
v5 = tt

v6 : T (shows (off Lf) ("a|b\n:-|:-:\n`c\\|d`|*e*\n\nf" ∷ []) (enter_with 57 3330 ∷ enter 58 ∷ enter 60 ∷ enter 61 ∷ enter 0 ∷ enter 5 ∷ exit 5 0 1 ∷ exit 0 0 1 ∷ exit 61 0 1 ∷ enter 61 ∷ enter 0 ∷ exit 0 1 2 ∷ enter 0 ∷ enter 5 ∷ exit 5 2 3 ∷ exit 0 2 3 ∷ exit 61 1 3 ∷ exit 60 0 3 ∷ enter 3 ∷ exit 3 3 4 ∷ enter 0 ∷ enter 0 ∷ enter 0 ∷ enter 0 ∷ exit 0 4 5 ∷ enter 0 ∷ exit 0 5 6 ∷ exit 0 4 6 ∷ exit 0 4 6 ∷ enter 0 ∷ enter 0 ∷ exit 0 6 7 ∷ enter 0 ∷ enter 0 ∷ exit 0 7 8 ∷ enter 0 ∷ exit 0 8 9 ∷ enter 0 ∷ exit 0 9 10 ∷ exit 0 7 10 ∷ exit 0 6 10 ∷ exit 0 4 10 ∷ exit 58 0 10 ∷ exit 57 0 10 ∷ enter 3 ∷ exit 3 10 11 ∷ enter 12 ∷ enter 33 ∷ enter 0 ∷ exit 0 11 12 ∷ enter 34 ∷ exit 34 12 16 ∷ enter 0 ∷ exit 0 16 17 ∷ exit 33 11 17 ∷ enter 5 ∷ exit 5 17 18 ∷ enter 39 ∷ enter 0 ∷ exit 0 18 19 ∷ enter 0 ∷ enter 5 ∷ exit 5 19 20 ∷ exit 0 19 20 ∷ enter 0 ∷ exit 0 20 21 ∷ exit 39 18 21 ∷ exit 12 11 21 ∷ enter 3 ∷ exit 3 21 22 ∷ enter 4 ∷ exit 4 22 23 ∷ enter 12 ∷ enter 5 ∷ exit 5 23 24 ∷ exit 12 23 24 ∷ []) ("<table>\n<thead>\n<tr>\n<th align=\"left\">a</th>\n<th align=\"center\">b</th>\n</tr>\n</thead>\n</table>\n<p><code>c\\|d</code>|<em>e</em></p>\n<p>f</p>" ∷ []))
unfolding running
v6 = tt

v7 : T (shows (off Lf) ("> | a |\n> | - |\n> | b |" ∷ []) (enter 20 ∷ enter 2 ∷ enter 0 ∷ exit 0 0 1 ∷ enter 1 ∷ exit 1 1 2 ∷ exit 2 0 2 ∷ enter_with 57 1 ∷ enter 58 ∷ enter 60 ∷ enter 61 ∷ enter 0 ∷ exit 0 2 3 ∷ enter 1 ∷ exit 1 3 4 ∷ enter 0 ∷ enter 5 ∷ exit 5 4 5 ∷ exit 0 4 5 ∷ enter 1 ∷ exit 1 5 6 ∷ enter 0 ∷ exit 0 6 7 ∷ exit 61 2 7 ∷ exit 60 2 7 ∷ enter 3 ∷ exit 3 7 8 ∷ enter 2 ∷ enter 0 ∷ exit 0 8 9 ∷ enter 1 ∷ exit 1 9 10 ∷ exit 2 8 10 ∷ enter 0 ∷ enter 0 ∷ enter 0 ∷ exit 0 10 11 ∷ enter 1 ∷ exit 1 11 12 ∷ enter 0 ∷ enter 0 ∷ exit 0 12 13 ∷ exit 0 12 13 ∷ enter 1 ∷ exit 1 13 14 ∷ enter 0 ∷ exit 0 14 15 ∷ exit 0 10 15 ∷ exit 0 10 15 ∷ exit 58 2 15 ∷ enter 3 ∷ exit 3 15 16 ∷ enter 2 ∷ enter 0 ∷ exit 0 16 17 ∷ enter 1 ∷ exit 1 17 18 ∷ exit 2 16 18 ∷ enter 59 ∷ enter 60 ∷ enter 61 ∷ enter 0 ∷ exit 0 18 19 ∷ enter 1 ∷ exit 1 19 20 ∷ enter 0 ∷ enter 5 ∷ exit 5 20 21 ∷ exit 0 20 21 ∷ enter 1 ∷ exit 1 21 22 ∷ enter 0 ∷ exit 0 22 23 ∷ exit 61 18 23 ∷ exit 60 18 23 ∷ exit 59 18 23 ∷ exit 57 2 23 ∷ exit 20 0 23 ∷ []) ("<blockquote>\n<table>\n<thead>\n<tr>\n<th>a</th>\n</tr>\n</thead>\n<tbody>\n<tr>\n<td>b</td>\n</tr>\n</tbody>\n</table>\n</blockquote>" ∷ []))
unfolding running
v7 = tt

v8 : T (shows (off Lf) ("- | a |\n  | - |\n  | b |\n" ∷ []) (enter 22 ∷ enter 23 ∷ enter 24 ∷ enter 25 ∷ exit 25 0 1 ∷ enter 1 ∷ exit 1 1 2 ∷ exit 24 0 2 ∷ enter_with 57 1 ∷ enter 58 ∷ enter 60 ∷ enter 61 ∷ enter 0 ∷ exit 0 2 3 ∷ enter 1 ∷ exit 1 3 4 ∷ enter 0 ∷ enter 5 ∷ exit 5 4 5 ∷ exit 0 4 5 ∷ enter 1 ∷ exit 1 5 6 ∷ enter 0 ∷ exit 0 6 7 ∷ exit 61 2 7 ∷ exit 60 2 7 ∷ enter 3 ∷ exit 3 7 8 ∷ enter 1 ∷ exit 1 8 10 ∷ enter 0 ∷ enter 0 ∷ enter 0 ∷ exit 0 10 11 ∷ enter 1 ∷ exit 1 11 12 ∷ enter 0 ∷ enter 0 ∷ exit 0 12 13 ∷ exit 0 12 13 ∷ enter 1 ∷ exit 1 13 14 ∷ enter 0 ∷ exit 0 14 15 ∷ exit 0 10 15 ∷ exit 0 10 15 ∷ exit 58 2 15 ∷ enter 3 ∷ exit 3 15 16 ∷ enter 1 ∷ exit 1 16 18 ∷ enter 59 ∷ enter 60 ∷ enter 61 ∷ enter 0 ∷ exit 0 18 19 ∷ enter 1 ∷ exit 1 19 20 ∷ enter 0 ∷ enter 5 ∷ exit 5 20 21 ∷ exit 0 20 21 ∷ enter 1 ∷ exit 1 21 22 ∷ enter 0 ∷ exit 0 22 23 ∷ exit 61 18 23 ∷ exit 60 18 23 ∷ exit 59 18 23 ∷ exit 57 2 23 ∷ exit 23 0 23 ∷ exit 22 0 23 ∷ enter 3 ∷ exit 3 23 24 ∷ []) ("<ul>\n<li>\n<table>\n<thead>\n<tr>\n<th>a</th>\n</tr>\n</thead>\n<tbody>\n<tr>\n<td>b</td>\n</tr>\n</tbody>\n</table>\n</li>\n</ul>\n" ∷ []))
unfolding running
v8 = tt

v9 : T (shows (off Lf) ("| a |\n| - |\n\nb" ∷ []) (enter_with 57 1 ∷ enter 58 ∷ enter 60 ∷ enter 61 ∷ enter 0 ∷ exit 0 0 1 ∷ enter 1 ∷ exit 1 1 2 ∷ enter 0 ∷ enter 5 ∷ exit 5 2 3 ∷ exit 0 2 3 ∷ enter 1 ∷ exit 1 3 4 ∷ enter 0 ∷ exit 0 4 5 ∷ exit 61 0 5 ∷ exit 60 0 5 ∷ enter 3 ∷ exit 3 5 6 ∷ enter 0 ∷ enter 0 ∷ enter 0 ∷ exit 0 6 7 ∷ enter 1 ∷ exit 1 7 8 ∷ enter 0 ∷ enter 0 ∷ exit 0 8 9 ∷ exit 0 8 9 ∷ enter 1 ∷ exit 1 9 10 ∷ enter 0 ∷ exit 0 10 11 ∷ exit 0 6 11 ∷ exit 0 6 11 ∷ exit 58 0 11 ∷ exit 57 0 11 ∷ enter 3 ∷ exit 3 11 12 ∷ enter 4 ∷ exit 4 12 13 ∷ enter 12 ∷ enter 5 ∷ exit 5 13 14 ∷ exit 12 13 14 ∷ []) ("<table>\n<thead>\n<tr>\n<th>a</th>\n</tr>\n</thead>\n</table>\n<p>b</p>" ∷ []))
unfolding running
v9 = tt

v10 : T (shows (off Lf) ("| a |\n| - |\nb\n# c" ∷ []) (enter_with 57 1 ∷ enter 58 ∷ enter 60 ∷ enter 61 ∷ enter 0 ∷ exit 0 0 1 ∷ enter 1 ∷ exit 1 1 2 ∷ enter 0 ∷ enter 5 ∷ exit 5 2 3 ∷ exit 0 2 3 ∷ enter 1 ∷ exit 1 3 4 ∷ enter 0 ∷ exit 0 4 5 ∷ exit 61 0 5 ∷ exit 60 0 5 ∷ enter 3 ∷ exit 3 5 6 ∷ enter 0 ∷ enter 0 ∷ enter 0 ∷ exit 0 6 7 ∷ enter 1 ∷ exit 1 7 8 ∷ enter 0 ∷ enter 0 ∷ exit 0 8 9 ∷ exit 0 8 9 ∷ enter 1 ∷ exit 1 9 10 ∷ enter 0 ∷ exit 0 10 11 ∷ exit 0 6 11 ∷ exit 0 6 11 ∷ exit 58 0 11 ∷ enter 3 ∷ exit 3 11 12 ∷ enter 59 ∷ enter 60 ∷ enter 61 ∷ enter 0 ∷ enter 5 ∷ exit 5 12 13 ∷ exit 0 12 13 ∷ exit 61 12 13 ∷ exit 60 12 13 ∷ exit 59 12 13 ∷ exit 57 0 13 ∷ enter 3 ∷ exit 3 13 14 ∷ enter 13 ∷ enter 14 ∷ exit 14 14 15 ∷ enter 1 ∷ exit 1 15 16 ∷ enter 15 ∷ enter 5 ∷ exit 5 16 17 ∷ exit 15 16 17 ∷ exit 13 14 17 ∷ []) ("<table>\n<thead>\n<tr>\n<th>a</th>\n</tr>\n</thead>\n<tbody>\n<tr>\n<td>b</td>\n</tr>\n</tbody>\n</table>\n<h1>c</h1>" ∷ []))
unfolding running
v10 = tt

v11 : T (shows (off Lf) ("| |\n|-|" ∷ []) (enter_with 57 1 ∷ enter 58 ∷ enter 60 ∷ enter 61 ∷ enter 0 ∷ exit 0 0 1 ∷ enter 1 ∷ exit 1 1 2 ∷ enter 0 ∷ exit 0 2 3 ∷ exit 61 0 3 ∷ exit 60 0 3 ∷ enter 3 ∷ exit 3 3 4 ∷ enter 0 ∷ enter 0 ∷ enter 0 ∷ exit 0 4 5 ∷ enter 0 ∷ enter 0 ∷ exit 0 5 6 ∷ exit 0 5 6 ∷ enter 0 ∷ exit 0 6 7 ∷ exit 0 4 7 ∷ exit 0 4 7 ∷ exit 58 0 7 ∷ exit 57 0 7 ∷ []) ("<table>\n<thead>\n<tr>\n<th></th>\n</tr>\n</thead>\n</table>" ∷ []))
unfolding running
v11 = tt

v12 : T (shows (off Lf) ("a\n:-" ∷ []) (enter_with 57 257 ∷ enter 58 ∷ enter 60 ∷ enter 61 ∷ enter 0 ∷ enter 5 ∷ exit 5 0 1 ∷ exit 0 0 1 ∷ exit 61 0 1 ∷ exit 60 0 1 ∷ enter 3 ∷ exit 3 1 2 ∷ enter 0 ∷ enter 0 ∷ enter 0 ∷ enter 0 ∷ exit 0 2 3 ∷ enter 0 ∷ exit 0 3 4 ∷ exit 0 2 4 ∷ exit 0 2 4 ∷ exit 0 2 4 ∷ exit 58 0 4 ∷ exit 57 0 4 ∷ []) ("<table>\n<thead>\n<tr>\n<th align=\"left\">a</th>\n</tr>\n</thead>\n</table>" ∷ []))
unfolding running
v12 = tt

v13 : T (shows (off Lf) ("|a|b|\n|-|-|\n||\n|c" ∷ []) (enter_with 57 2 ∷ enter 58 ∷ enter 60 ∷ enter 61 ∷ enter 0 ∷ exit 0 0 1 ∷ enter 0 ∷ enter 5 ∷ exit 5 1 2 ∷ exit 0 1 2 ∷ exit 61 0 2 ∷ enter 61 ∷ enter 0 ∷ exit 0 2 3 ∷ enter 0 ∷ enter 5 ∷ exit 5 3 4 ∷ exit 0 3 4 ∷ enter 0 ∷ exit 0 4 5 ∷ exit 61 2 5 ∷ exit 60 0 5 ∷ enter 3 ∷ exit 3 5 6 ∷ enter 0 ∷ enter 0 ∷ enter 0 ∷ exit 0 6 7 ∷ enter 0 ∷ enter 0 ∷ exit 0 7 8 ∷ exit 0 7 8 ∷ exit 0 6 8 ∷ enter 0 ∷ enter 0 ∷ exit 0 8 9 ∷ enter 0 ∷ enter 0 ∷ exit 0 9 10 ∷ exit 0 9 10 ∷ enter 0 ∷ exit 0 10 11 ∷ exit 0 8 11 ∷ exit 0 6 11 ∷ exit 58 0 11 ∷ enter 3 ∷ exit 3 11 12 ∷ enter 59 ∷ enter 60 ∷ enter 61 ∷ enter 0 ∷ exit 0 12 13 ∷ enter 0 ∷ exit 0 13 14 ∷ exit 61 12 14 ∷ exit 60 12 14 ∷ enter 3 ∷ exit 3 14 15 ∷ enter 60 ∷ enter 61 ∷ enter 0 ∷ exit 0 15 16 ∷ enter 0 ∷ enter 5 ∷ exit 5 16 17 ∷ exit 0 16 17 ∷ exit 61 15 17 ∷ exit 60 15 17 ∷ exit 59 12 17 ∷ exit 57 0 17 ∷ []) ("<table>\n<thead>\n<tr>\n<th>a</th>\n<th>b</th>\n</tr>\n</thead>\n<tbody>\n<tr>\n<td></td>\n<td></td>\n</tr>\n<tr>\n<td>c</td>\n<td></td>\n</tr>\n</tbody>\n</table>" ∷ []))
unfolding running
v13 = tt

v14 : T (shows (off Lf) ("| a |\r\n| - |\r\n| b |\r\n" ∷ []) (enter_with 57 1 ∷ enter 58 ∷ enter 60 ∷ enter 61 ∷ enter 0 ∷ exit 0 0 1 ∷ enter 1 ∷ exit 1 1 2 ∷ enter 0 ∷ enter 5 ∷ exit 5 2 3 ∷ exit 0 2 3 ∷ enter 1 ∷ exit 1 3 4 ∷ enter 0 ∷ exit 0 4 5 ∷ exit 61 0 5 ∷ exit 60 0 5 ∷ enter 3 ∷ exit 3 5 7 ∷ enter 0 ∷ enter 0 ∷ enter 0 ∷ exit 0 7 8 ∷ enter 1 ∷ exit 1 8 9 ∷ enter 0 ∷ enter 0 ∷ exit 0 9 10 ∷ exit 0 9 10 ∷ enter 1 ∷ exit 1 10 11 ∷ enter 0 ∷ exit 0 11 12 ∷ exit 0 7 12 ∷ exit 0 7 12 ∷ exit 58 0 12 ∷ enter 3 ∷ exit 3 12 14 ∷ enter 59 ∷ enter 60 ∷ enter 61 ∷ enter 0 ∷ exit 0 14 15 ∷ enter 1 ∷ exit 1 15 16 ∷ enter 0 ∷ enter 5 ∷ exit 5 16 17 ∷ exit 0 16 17 ∷ enter 1 ∷ exit 1 17 18 ∷ enter 0 ∷ exit 0 18 19 ∷ exit 61 14 19 ∷ exit 60 14 19 ∷ exit 59 14 19 ∷ exit 57 0 19 ∷ enter 3 ∷ exit 3 19 21 ∷ []) ("<table>\r\n<thead>\r\n<tr>\r\n<th>a</th>\r\n</tr>\r\n</thead>\r\n<tbody>\r\n<tr>\r\n<td>b</td>\r\n</tr>\r\n</tbody>\r\n</table>\r\n" ∷ []))
unfolding running
v14 = tt

v15 : T (shows (off Lf) ("| ![a](b) | [c](d) |\n|-|-|\n| <b> | &amp; |" ∷ []) (enter_with 57 2 ∷ enter 58 ∷ enter 60 ∷ enter 61 ∷ enter 0 ∷ exit 0 0 1 ∷ enter 1 ∷ exit 1 1 2 ∷ enter 0 ∷ enter 46 ∷ enter 47 ∷ enter 0 ∷ enter 0 ∷ exit 0 2 3 ∷ enter 0 ∷ exit 0 3 4 ∷ exit 0 2 4 ∷ enter 48 ∷ enter 5 ∷ exit 5 4 5 ∷ exit 48 4 5 ∷ enter 0 ∷ enter 0 ∷ exit 0 5 6 ∷ exit 0 5 6 ∷ exit 47 2 6 ∷ enter 49 ∷ enter 0 ∷ exit 0 6 7 ∷ enter 0 ∷ enter 0 ∷ enter 50 ∷ enter 5 ∷ exit 5 7 8 ∷ exit 50 7 8 ∷ exit 0 7 8 ∷ exit 0 7 8 ∷ enter 0 ∷ exit 0 8 9 ∷ exit 49 6 9 ∷ exit 46 2 9 ∷ exit 0 2 9 ∷ enter 1 ∷ exit 1 9 10 ∷ exit 61 0 10 ∷ enter 61 ∷ enter 0 ∷ exit 0 10 11 ∷ enter 1 ∷ exit 1 11 12 ∷ enter 0 ∷ enter 45 ∷ enter 47 ∷ enter 0 ∷ enter 0 ∷ exit 0 12 13 ∷ exit 0 12 13 ∷ enter 48 ∷ enter 5 ∷ exit 5 13 14 ∷ exit 48 13 14 ∷ enter 0 ∷ enter 0 ∷ exit 0 14 15 ∷ exit 0 14 15 ∷ exit 47 12 15 ∷ enter 49 ∷ enter 0 ∷ exit 0 15 16 ∷ enter 0 ∷ enter 0 ∷ enter 50 ∷ enter 5 ∷ exit 5 16 17 ∷ exit 50 16 17 ∷ exit 0 16 17 ∷ exit 0 16 17 ∷ enter 0 ∷ exit 0 17 18 ∷ exit 49 15 18 ∷ exit 45 12 18 ∷ exit 0 12 18 ∷ enter 1 ∷ exit 1 18 19 ∷ enter 0 ∷ exit 0 19 20 ∷ exit 61 10 20 ∷ exit 60 0 20 ∷ enter 3 ∷ exit 3 20 21 ∷ enter 0 ∷ enter 0 ∷ enter 0 ∷ exit 0 21 22 ∷ enter 0 ∷ enter 0 ∷ exit 0 22 23 ∷ exit 0 22 23 ∷ exit 0 21 23 ∷ enter 0 ∷ enter 0 ∷ exit 0 23 24 ∷ enter 0 ∷ enter 0 ∷ exit 0 24 25 ∷ exit 0 24 25 ∷ enter 0 ∷ exit 0 25 26 ∷ exit 0 23 26 ∷ exit 0 21 26 ∷ exit 58 0 26 ∷ enter 3 ∷ exit 3 26 27 ∷ enter 59 ∷ enter 60 ∷ enter 61 ∷ enter 0 ∷ exit 0 27 28 ∷ enter 1 ∷ exit 1 28 29 ∷ enter 0 ∷ enter 37 ∷ enter 38 ∷ exit 38 29 32 ∷ exit 37 29 32 ∷ exit 0 29 32 ∷ enter 1 ∷ exit 1 32 33 ∷ exit 61 27 33 ∷ enter 61 ∷ enter 0 ∷ exit 0 33 34 ∷ enter 1 ∷ exit 1 34 35 ∷ enter 0 ∷ enter 7 ∷ enter 8 ∷ exit 8 35 36 ∷ enter 11 ∷ exit 11 36 39 ∷ enter 0 ∷ exit 0 39 40 ∷ exit 7 35 40 ∷ exit 0 35 40 ∷ enter 1 ∷ exit 1 40 41 ∷ enter 0 ∷ exit 0 41 42 ∷ exit 61 33 42 ∷ exit 60 27 42 ∷ exit 59 27 42 ∷ exit 57 0 42 ∷ []) ("<table>\n<thead>\n<tr>\n<th><img src=\"b\" alt=\"a\" /></th>\n<th><a href=\"d\">c</a></th>\n</tr>\n</thead>\n<tbody>\n<tr>\n<td>&lt;b&gt;</td>\n<td>&amp;</td>\n</tr>\n</tbody>\n</table>" ∷ []))
unfolding running
v15 = tt

v16 : T (shows (html Lf) ("| ![a](b) | [c](d) |\n|-|-|\n| <b> | &amp; |" ∷ []) (enter_with 57 2 ∷ enter 58 ∷ enter 60 ∷ enter 61 ∷ enter 0 ∷ exit 0 0 1 ∷ enter 1 ∷ exit 1 1 2 ∷ enter 0 ∷ enter 46 ∷ enter 47 ∷ enter 0 ∷ enter 0 ∷ exit 0 2 3 ∷ enter 0 ∷ exit 0 3 4 ∷ exit 0 2 4 ∷ enter 48 ∷ enter 5 ∷ exit 5 4 5 ∷ exit 48 4 5 ∷ enter 0 ∷ enter 0 ∷ exit 0 5 6 ∷ exit 0 5 6 ∷ exit 47 2 6 ∷ enter 49 ∷ enter 0 ∷ exit 0 6 7 ∷ enter 0 ∷ enter 0 ∷ enter 50 ∷ enter 5 ∷ exit 5 7 8 ∷ exit 50 7 8 ∷ exit 0 7 8 ∷ exit 0 7 8 ∷ enter 0 ∷ exit 0 8 9 ∷ exit 49 6 9 ∷ exit 46 2 9 ∷ exit 0 2 9 ∷ enter 1 ∷ exit 1 9 10 ∷ exit 61 0 10 ∷ enter 61 ∷ enter 0 ∷ exit 0 10 11 ∷ enter 1 ∷ exit 1 11 12 ∷ enter 0 ∷ enter 45 ∷ enter 47 ∷ enter 0 ∷ enter 0 ∷ exit 0 12 13 ∷ exit 0 12 13 ∷ enter 48 ∷ enter 5 ∷ exit 5 13 14 ∷ exit 48 13 14 ∷ enter 0 ∷ enter 0 ∷ exit 0 14 15 ∷ exit 0 14 15 ∷ exit 47 12 15 ∷ enter 49 ∷ enter 0 ∷ exit 0 15 16 ∷ enter 0 ∷ enter 0 ∷ enter 50 ∷ enter 5 ∷ exit 5 16 17 ∷ exit 50 16 17 ∷ exit 0 16 17 ∷ exit 0 16 17 ∷ enter 0 ∷ exit 0 17 18 ∷ exit 49 15 18 ∷ exit 45 12 18 ∷ exit 0 12 18 ∷ enter 1 ∷ exit 1 18 19 ∷ enter 0 ∷ exit 0 19 20 ∷ exit 61 10 20 ∷ exit 60 0 20 ∷ enter 3 ∷ exit 3 20 21 ∷ enter 0 ∷ enter 0 ∷ enter 0 ∷ exit 0 21 22 ∷ enter 0 ∷ enter 0 ∷ exit 0 22 23 ∷ exit 0 22 23 ∷ exit 0 21 23 ∷ enter 0 ∷ enter 0 ∷ exit 0 23 24 ∷ enter 0 ∷ enter 0 ∷ exit 0 24 25 ∷ exit 0 24 25 ∷ enter 0 ∷ exit 0 25 26 ∷ exit 0 23 26 ∷ exit 0 21 26 ∷ exit 58 0 26 ∷ enter 3 ∷ exit 3 26 27 ∷ enter 59 ∷ enter 60 ∷ enter 61 ∷ enter 0 ∷ exit 0 27 28 ∷ enter 1 ∷ exit 1 28 29 ∷ enter 0 ∷ enter 37 ∷ enter 38 ∷ exit 38 29 32 ∷ exit 37 29 32 ∷ exit 0 29 32 ∷ enter 1 ∷ exit 1 32 33 ∷ exit 61 27 33 ∷ enter 61 ∷ enter 0 ∷ exit 0 33 34 ∷ enter 1 ∷ exit 1 34 35 ∷ enter 0 ∷ enter 7 ∷ enter 8 ∷ exit 8 35 36 ∷ enter 11 ∷ exit 11 36 39 ∷ enter 0 ∷ exit 0 39 40 ∷ exit 7 35 40 ∷ exit 0 35 40 ∷ enter 1 ∷ exit 1 40 41 ∷ enter 0 ∷ exit 0 41 42 ∷ exit 61 33 42 ∷ exit 60 27 42 ∷ exit 59 27 42 ∷ exit 57 0 42 ∷ []) ("<table>\n<thead>\n<tr>\n<th><img src=\"b\" alt=\"a\" /></th>\n<th><a href=\"d\">c</a></th>\n</tr>\n</thead>\n<tbody>\n<tr>\n<td><b></td>\n<td>&amp;</td>\n</tr>\n</tbody>\n</table>" ∷ []))
unfolding running
v16 = tt

v17 : T (shows (on Lf) ("| ![a](b) | [c](d) |\n|-|-|\n| <b> | &amp; |" ∷ []) (enter_with 57 2 ∷ enter 58 ∷ enter 60 ∷ enter 61 ∷ enter 0 ∷ exit 0 0 1 ∷ enter 1 ∷ exit 1 1 2 ∷ enter 0 ∷ enter 46 ∷ enter 47 ∷ enter 0 ∷ enter 0 ∷ exit 0 2 3 ∷ enter 0 ∷ exit 0 3 4 ∷ exit 0 2 4 ∷ enter 48 ∷ enter 5 ∷ exit 5 4 5 ∷ exit 48 4 5 ∷ enter 0 ∷ enter 0 ∷ exit 0 5 6 ∷ exit 0 5 6 ∷ exit 47 2 6 ∷ enter 49 ∷ enter 0 ∷ exit 0 6 7 ∷ enter 0 ∷ enter 0 ∷ enter 50 ∷ enter 5 ∷ exit 5 7 8 ∷ exit 50 7 8 ∷ exit 0 7 8 ∷ exit 0 7 8 ∷ enter 0 ∷ exit 0 8 9 ∷ exit 49 6 9 ∷ exit 46 2 9 ∷ exit 0 2 9 ∷ enter 1 ∷ exit 1 9 10 ∷ exit 61 0 10 ∷ enter 61 ∷ enter 0 ∷ exit 0 10 11 ∷ enter 1 ∷ exit 1 11 12 ∷ enter 0 ∷ enter 45 ∷ enter 47 ∷ enter 0 ∷ enter 0 ∷ exit 0 12 13 ∷ exit 0 12 13 ∷ enter 48 ∷ enter 5 ∷ exit 5 13 14 ∷ exit 48 13 14 ∷ enter 0 ∷ enter 0 ∷ exit 0 14 15 ∷ exit 0 14 15 ∷ exit 47 12 15 ∷ enter 49 ∷ enter 0 ∷ exit 0 15 16 ∷ enter 0 ∷ enter 0 ∷ enter 50 ∷ enter 5 ∷ exit 5 16 17 ∷ exit 50 16 17 ∷ exit 0 16 17 ∷ exit 0 16 17 ∷ enter 0 ∷ exit 0 17 18 ∷ exit 49 15 18 ∷ exit 45 12 18 ∷ exit 0 12 18 ∷ enter 1 ∷ exit 1 18 19 ∷ enter 0 ∷ exit 0 19 20 ∷ exit 61 10 20 ∷ exit 60 0 20 ∷ enter 3 ∷ exit 3 20 21 ∷ enter 0 ∷ enter 0 ∷ enter 0 ∷ exit 0 21 22 ∷ enter 0 ∷ enter 0 ∷ exit 0 22 23 ∷ exit 0 22 23 ∷ exit 0 21 23 ∷ enter 0 ∷ enter 0 ∷ exit 0 23 24 ∷ enter 0 ∷ enter 0 ∷ exit 0 24 25 ∷ exit 0 24 25 ∷ enter 0 ∷ exit 0 25 26 ∷ exit 0 23 26 ∷ exit 0 21 26 ∷ exit 58 0 26 ∷ enter 3 ∷ exit 3 26 27 ∷ enter 59 ∷ enter 60 ∷ enter 61 ∷ enter 0 ∷ exit 0 27 28 ∷ enter 1 ∷ exit 1 28 29 ∷ enter 0 ∷ enter 37 ∷ enter 38 ∷ exit 38 29 32 ∷ exit 37 29 32 ∷ exit 0 29 32 ∷ enter 1 ∷ exit 1 32 33 ∷ exit 61 27 33 ∷ enter 61 ∷ enter 0 ∷ exit 0 33 34 ∷ enter 1 ∷ exit 1 34 35 ∷ enter 0 ∷ enter 7 ∷ enter 8 ∷ exit 8 35 36 ∷ enter 11 ∷ exit 11 36 39 ∷ enter 0 ∷ exit 0 39 40 ∷ exit 7 35 40 ∷ exit 0 35 40 ∷ enter 1 ∷ exit 1 40 41 ∷ enter 0 ∷ exit 0 41 42 ∷ exit 61 33 42 ∷ exit 60 27 42 ∷ exit 59 27 42 ∷ exit 57 0 42 ∷ []) ("<table>\n<thead>\n<tr>\n<th><img src=\"b\" alt=\"a\" /></th>\n<th><a href=\"d\">c</a></th>\n</tr>\n</thead>\n<tbody>\n<tr>\n<td><b></td>\n<td>&amp;</td>\n</tr>\n</tbody>\n</table>" ∷ []))
unfolding running
v17 = tt

v18 : T (shows (off Lf) ("|a|\n|-|\n|\\||" ∷ []) (enter_with 57 1 ∷ enter 58 ∷ enter 60 ∷ enter 61 ∷ enter 0 ∷ exit 0 0 1 ∷ enter 0 ∷ enter 5 ∷ exit 5 1 2 ∷ exit 0 1 2 ∷ enter 0 ∷ exit 0 2 3 ∷ exit 61 0 3 ∷ exit 60 0 3 ∷ enter 3 ∷ exit 3 3 4 ∷ enter 0 ∷ enter 0 ∷ enter 0 ∷ exit 0 4 5 ∷ enter 0 ∷ enter 0 ∷ exit 0 5 6 ∷ exit 0 5 6 ∷ enter 0 ∷ exit 0 6 7 ∷ exit 0 4 7 ∷ exit 0 4 7 ∷ exit 58 0 7 ∷ enter 3 ∷ exit 3 7 8 ∷ enter 59 ∷ enter 60 ∷ enter 61 ∷ enter 0 ∷ exit 0 8 9 ∷ enter 0 ∷ enter 0 ∷ enter 0 ∷ exit 0 9 10 ∷ enter 6 ∷ exit 6 10 11 ∷ exit 0 9 11 ∷ exit 0 9 11 ∷ enter 0 ∷ exit 0 11 12 ∷ exit 61 8 12 ∷ exit 60 8 12 ∷ exit 59 8 12 ∷ exit 57 0 12 ∷ []) ("<table>\n<thead>\n<tr>\n<th>a</th>\n</tr>\n</thead>\n<tbody>\n<tr>\n<td>|</td>\n</tr>\n</tbody>\n</table>" ∷ []))
unfolding running
v18 = tt

v19 : T (shows (off Lf) ("|a|\n|-|\n|`\\|`|`a\\\\|b`|" ∷ []) (enter_with 57 1 ∷ enter 58 ∷ enter 60 ∷ enter 61 ∷ enter 0 ∷ exit 0 0 1 ∷ enter 0 ∷ enter 5 ∷ exit 5 1 2 ∷ exit 0 1 2 ∷ enter 0 ∷ exit 0 2 3 ∷ exit 61 0 3 ∷ exit 60 0 3 ∷ enter 3 ∷ exit 3 3 4 ∷ enter 0 ∷ enter 0 ∷ enter 0 ∷ exit 0 4 5 ∷ enter 0 ∷ enter 0 ∷ exit 0 5 6 ∷ exit 0 5 6 ∷ enter 0 ∷ exit 0 6 7 ∷ exit 0 4 7 ∷ exit 0 4 7 ∷ exit 58 0 7 ∷ enter 3 ∷ exit 3 7 8 ∷ enter 59 ∷ enter 60 ∷ enter 61 ∷ enter 0 ∷ exit 0 8 9 ∷ enter 0 ∷ enter 33 ∷ enter 0 ∷ exit 0 9 10 ∷ enter 34 ∷ exit 34 10 12 ∷ enter 0 ∷ exit 0 12 13 ∷ exit 33 9 13 ∷ exit 0 9 13 ∷ exit 61 8 13 ∷ enter 61 ∷ enter 0 ∷ exit 0 13 14 ∷ enter 0 ∷ enter 5 ∷ exit 5 14 16 ∷ enter 0 ∷ enter 0 ∷ exit 0 16 17 ∷ enter 6 ∷ exit 6 17 18 ∷ exit 0 16 18 ∷ exit 0 14 18 ∷ exit 61 13 18 ∷ enter 61 ∷ enter 0 ∷ exit 0 18 19 ∷ enter 0 ∷ enter 5 ∷ exit 5 19 21 ∷ exit 0 19 21 ∷ enter 0 ∷ exit 0 21 22 ∷ exit 61 18 22 ∷ exit 60 8 22 ∷ exit 59 8 22 ∷ exit 57 0 22 ∷ []) ("<table>\n<thead>\n<tr>\n<th>a</th>\n</tr>\n</thead>\n<tbody>\n<tr>\n<td><code>|</code></td>\n</tr>\n</tbody>\n</table>" ∷ []))
unfolding running
v19 = tt

v20 : T (shows (off Lf) ("| [a] |\n| --- |\n| [a] | [a] |\n\n[a]: b" ∷ []) (enter_with 57 1 ∷ enter 58 ∷ enter 60 ∷ enter 61 ∷ enter 0 ∷ exit 0 0 1 ∷ enter 1 ∷ exit 1 1 2 ∷ enter 0 ∷ enter 45 ∷ enter 47 ∷ enter 0 ∷ enter 0 ∷ exit 0 2 3 ∷ exit 0 2 3 ∷ enter 48 ∷ enter 5 ∷ exit 5 3 4 ∷ exit 48 3 4 ∷ enter 0 ∷ enter 0 ∷ exit 0 4 5 ∷ exit 0 4 5 ∷ exit 47 2 5 ∷ exit 45 2 5 ∷ exit 0 2 5 ∷ enter 1 ∷ exit 1 5 6 ∷ enter 0 ∷ exit 0 6 7 ∷ exit 61 0 7 ∷ exit 60 0 7 ∷ enter 3 ∷ exit 3 7 8 ∷ enter 0 ∷ enter 0 ∷ enter 0 ∷ exit 0 8 9 ∷ enter 1 ∷ exit 1 9 10 ∷ enter 0 ∷ enter 0 ∷ exit 0 10 13 ∷ exit 0 10 13 ∷ enter 1 ∷ exit 1 13 14 ∷ enter 0 ∷ exit 0 14 15 ∷ exit 0 8 15 ∷ exit 0 8 15 ∷ exit 58 0 15 ∷ enter 3 ∷ exit 3 15 16 ∷ enter 59 ∷ enter 60 ∷ enter 61 ∷ enter 0 ∷ exit 0 16 17 ∷ enter 1 ∷ exit 1 17 18 ∷ enter 0 ∷ enter 45 ∷ enter 47 ∷ enter 0 ∷ enter 0 ∷ exit 0 18 19 ∷ exit 0 18 19 ∷ enter 48 ∷ enter 5 ∷ exit 5 19 20 ∷ exit 48 19 20 ∷ enter 0 ∷ enter 0 ∷ exit 0 20 21 ∷ exit 0 20 21 ∷ exit 47 18 21 ∷ exit 45 18 21 ∷ exit 0 18 21 ∷ enter 1 ∷ exit 1 21 22 ∷ exit 61 16 22 ∷ enter 61 ∷ enter 0 ∷ exit 0 22 23 ∷ enter 1 ∷ exit 1 23 24 ∷ enter 0 ∷ enter 45 ∷ enter 47 ∷ enter 0 ∷ enter 0 ∷ exit 0 24 25 ∷ exit 0 24 25 ∷ enter 48 ∷ enter 5 ∷ exit 5 25 26 ∷ exit 48 25 26 ∷ enter 0 ∷ enter 0 ∷ exit 0 26 27 ∷ exit 0 26 27 ∷ exit 47 24 27 ∷ exit 45 24 27 ∷ exit 0 24 27 ∷ enter 1 ∷ exit 1 27 28 ∷ enter 0 ∷ exit 0 28 29 ∷ exit 61 22 29 ∷ exit 60 16 29 ∷ exit 59 16 29 ∷ exit 57 0 29 ∷ enter 3 ∷ exit 3 29 30 ∷ enter 4 ∷ exit 4 30 31 ∷ enter 53 ∷ enter 0 ∷ enter 0 ∷ exit 0 31 32 ∷ enter 54 ∷ enter 5 ∷ exit 5 32 33 ∷ exit 54 32 33 ∷ enter 0 ∷ exit 0 33 34 ∷ exit 0 31 34 ∷ enter 0 ∷ exit 0 34 35 ∷ enter 1 ∷ exit 1 35 36 ∷ enter 0 ∷ enter 0 ∷ enter 55 ∷ enter 5 ∷ exit 5 36 37 ∷ exit 55 36 37 ∷ exit 0 36 37 ∷ exit 0 36 37 ∷ exit 53 31 37 ∷ []) ("<table>\n<thead>\n<tr>\n<th><a href=\"b\">a</a></th>\n</tr>\n</thead>\n<tbody>\n<tr>\n<td><a href=\"b\">a</a></td>\n</tr>\n</tbody>\n</table>\n" ∷ []))
unfolding running
v20 = tt

v21 : T (shows (off Lf) ("a\n| b |\n| - |" ∷ []) (enter 12 ∷ enter 5 ∷ exit 5 0 1 ∷ exit 12 0 1 ∷ enter 3 ∷ exit 3 1 2 ∷ enter_with 57 1 ∷ enter 58 ∷ enter 60 ∷ enter 61 ∷ enter 0 ∷ exit 0 2 3 ∷ enter 1 ∷ exit 1 3 4 ∷ enter 0 ∷ enter 5 ∷ exit 5 4 5 ∷ exit 0 4 5 ∷ enter 1 ∷ exit 1 5 6 ∷ enter 0 ∷ exit 0 6 7 ∷ exit 61 2 7 ∷ exit 60 2 7 ∷ enter 3 ∷ exit 3 7 8 ∷ enter 0 ∷ enter 0 ∷ enter 0 ∷ exit 0 8 9 ∷ enter 1 ∷ exit 1 9 10 ∷ enter 0 ∷ enter 0 ∷ exit 0 10 11 ∷ exit 0 10 11 ∷ enter 1 ∷ exit 1 11 12 ∷ enter 0 ∷ exit 0 12 13 ∷ exit 0 8 13 ∷ exit 0 8 13 ∷ exit 58 2 13 ∷ exit 57 2 13 ∷ []) ("<p>a</p>\n<table>\n<thead>\n<tr>\n<th>b</th>\n</tr>\n</thead>\n</table>" ∷ []))
unfolding running
v21 = tt

v22 : T (shows (off Lf) ("| a |\n | - |\n  | b |\n> c" ∷ []) (enter_with 57 1 ∷ enter 58 ∷ enter 60 ∷ enter 61 ∷ enter 0 ∷ exit 0 0 1 ∷ enter 1 ∷ exit 1 1 2 ∷ enter 0 ∷ enter 5 ∷ exit 5 2 3 ∷ exit 0 2 3 ∷ enter 1 ∷ exit 1 3 4 ∷ enter 0 ∷ exit 0 4 5 ∷ exit 61 0 5 ∷ exit 60 0 5 ∷ enter 3 ∷ exit 3 5 6 ∷ enter 0 ∷ enter 0 ∷ enter 1 ∷ exit 1 6 7 ∷ enter 0 ∷ exit 0 7 8 ∷ enter 1 ∷ exit 1 8 9 ∷ enter 0 ∷ enter 0 ∷ exit 0 9 10 ∷ exit 0 9 10 ∷ enter 1 ∷ exit 1 10 11 ∷ enter 0 ∷ exit 0 11 12 ∷ exit 0 6 12 ∷ exit 0 6 12 ∷ exit 58 0 12 ∷ enter 3 ∷ exit 3 12 13 ∷ enter 59 ∷ enter 60 ∷ enter 61 ∷ enter 1 ∷ exit 1 13 15 ∷ enter 0 ∷ exit 0 15 16 ∷ enter 1 ∷ exit 1 16 17 ∷ enter 0 ∷ enter 5 ∷ exit 5 17 18 ∷ exit 0 17 18 ∷ enter 1 ∷ exit 1 18 19 ∷ enter 0 ∷ exit 0 19 20 ∷ exit 61 13 20 ∷ exit 60 13 20 ∷ exit 59 13 20 ∷ exit 57 0 20 ∷ enter 3 ∷ exit 3 20 21 ∷ enter 20 ∷ enter 2 ∷ enter 0 ∷ exit 0 21 22 ∷ enter 1 ∷ exit 1 22 23 ∷ exit 2 21 23 ∷ enter 12 ∷ enter 5 ∷ exit 5 23 24 ∷ exit 12 23 24 ∷ exit 20 21 24 ∷ []) ("<table>\n<thead>\n<tr>\n<th>a</th>\n</tr>\n</thead>\n<tbody>\n<tr>\n<td>b</td>\n</tr>\n</tbody>\n</table>\n<blockquote>\n<p>c</p>\n</blockquote>" ∷ []))
unfolding running
v22 = tt

v23 : T (shows (off Lf) ("|a|\n|-|\n|`b|" ∷ []) (enter_with 57 1 ∷ enter 58 ∷ enter 60 ∷ enter 61 ∷ enter 0 ∷ exit 0 0 1 ∷ enter 0 ∷ enter 5 ∷ exit 5 1 2 ∷ exit 0 1 2 ∷ enter 0 ∷ exit 0 2 3 ∷ exit 61 0 3 ∷ exit 60 0 3 ∷ enter 3 ∷ exit 3 3 4 ∷ enter 0 ∷ enter 0 ∷ enter 0 ∷ exit 0 4 5 ∷ enter 0 ∷ enter 0 ∷ exit 0 5 6 ∷ exit 0 5 6 ∷ enter 0 ∷ exit 0 6 7 ∷ exit 0 4 7 ∷ exit 0 4 7 ∷ exit 58 0 7 ∷ enter 3 ∷ exit 3 7 8 ∷ enter 59 ∷ enter 60 ∷ enter 61 ∷ enter 0 ∷ exit 0 8 9 ∷ enter 0 ∷ enter 5 ∷ exit 5 9 11 ∷ exit 0 9 11 ∷ enter 0 ∷ exit 0 11 12 ∷ exit 61 8 12 ∷ exit 60 8 12 ∷ exit 59 8 12 ∷ exit 57 0 12 ∷ []) ("<table>\n<thead>\n<tr>\n<th>a</th>\n</tr>\n</thead>\n<tbody>\n<tr>\n<td>`b</td>\n</tr>\n</tbody>\n</table>" ∷ []))
unfolding running
v23 = tt

v24 : T (shows (off Lf) ("|x|\n|-|\n| [^a] | [^a] | [^b] |\n| [^b] |\n\n[^a]: p\n[^b]: q" ∷ []) (enter_with 57 1 ∷ enter 58 ∷ enter 60 ∷ enter 61 ∷ enter 0 ∷ exit 0 0 1 ∷ enter 0 ∷ enter 5 ∷ exit 5 1 2 ∷ exit 0 1 2 ∷ enter 0 ∷ exit 0 2 3 ∷ exit 61 0 3 ∷ exit 60 0 3 ∷ enter 3 ∷ exit 3 3 4 ∷ enter 0 ∷ enter 0 ∷ enter 0 ∷ exit 0 4 5 ∷ enter 0 ∷ enter 0 ∷ exit 0 5 6 ∷ exit 0 5 6 ∷ enter 0 ∷ exit 0 6 7 ∷ exit 0 4 7 ∷ exit 0 4 7 ∷ exit 58 0 7 ∷ enter 3 ∷ exit 3 7 8 ∷ enter 59 ∷ enter 60 ∷ enter 61 ∷ enter 0 ∷ exit 0 8 9 ∷ enter 1 ∷ exit 1 9 10 ∷ enter 0 ∷ enter 62 ∷ enter 47 ∷ enter 0 ∷ enter 0 ∷ exit 0 10 11 ∷ enter 0 ∷ exit 0 11 12 ∷ exit 0 10 12 ∷ enter 48 ∷ enter 5 ∷ exit 5 12 13 ∷ exit 48 12 13 ∷ enter 0 ∷ enter 0 ∷ exit 0 13 14 ∷ exit 0 13 14 ∷ exit 47 10 14 ∷ exit 62 10 14 ∷ exit 0 10 14 ∷ enter 1 ∷ exit 1 14 15 ∷ exit 61 8 15 ∷ enter 61 ∷ enter 0 ∷ exit 0 15 16 ∷ enter 1 ∷ exit 1 16 17 ∷ enter 0 ∷ enter 62 ∷ enter 47 ∷ enter 0 ∷ enter 0 ∷ exit 0 17 18 ∷ enter 0 ∷ exit 0 18 19 ∷ exit 0 17 19 ∷ enter 48 ∷ enter 5 ∷ exit 5 19 20 ∷ exit 48 19 20 ∷ enter 0 ∷ enter 0 ∷ exit 0 20 21 ∷ exit 0 20 21 ∷ exit 47 17 21 ∷ exit 62 17 21 ∷ exit 0 17 21 ∷ enter 1 ∷ exit 1 21 22 ∷ exit 61 15 22 ∷ enter 61 ∷ enter 0 ∷ exit 0 22 23 ∷ enter 1 ∷ exit 1 23 24 ∷ enter 0 ∷ enter 62 ∷ enter 47 ∷ enter 0 ∷ enter 0 ∷ exit 0 24 25 ∷ enter 0 ∷ exit 0 25 26 ∷ exit 0 24 26 ∷ enter 48 ∷ enter 5 ∷ exit 5 26 27 ∷ exit 48 26 27 ∷ enter 0 ∷ enter 0 ∷ exit 0 27 28 ∷ exit 0 27 28 ∷ exit 47 24 28 ∷ exit 62 24 28 ∷ exit 0 24 28 ∷ enter 1 ∷ exit 1 28 29 ∷ enter 0 ∷ exit 0 29 30 ∷ exit 61 22 30 ∷ exit 60 8 30 ∷ enter 3 ∷ exit 3 30 31 ∷ enter 60 ∷ enter 61 ∷ enter 0 ∷ exit 0 31 32 ∷ enter 1 ∷ exit 1 32 33 ∷ enter 0 ∷ enter 62 ∷ enter 47 ∷ enter 0 ∷ enter 0 ∷ exit 0 33 34 ∷ enter 0 ∷ exit 0 34 35 ∷ exit 0 33 35 ∷ enter 48 ∷ enter 5 ∷ exit 5 35 36 ∷ exit 48 35 36 ∷ enter 0 ∷ enter 0 ∷ exit 0 36 37 ∷ exit 0 36 37 ∷ exit 47 33 37 ∷ exit 62 33 37 ∷ exit 0 33 37 ∷ enter 1 ∷ exit 1 37 38 ∷ enter 0 ∷ exit 0 38 39 ∷ exit 61 31 39 ∷ exit 60 31 39 ∷ exit 59 8 39 ∷ exit 57 0 39 ∷ enter 3 ∷ exit 3 39 40 ∷ enter 4 ∷ exit 4 40 41 ∷ enter 63 ∷ enter 64 ∷ enter 0 ∷ enter 0 ∷ exit 0 41 42 ∷ enter 0 ∷ exit 0 42 43 ∷ enter 65 ∷ enter 5 ∷ exit 5 43 44 ∷ exit 65 43 44 ∷ enter 0 ∷ exit 0 44 45 ∷ exit 0 41 45 ∷ enter 0 ∷ exit 0 45 46 ∷ enter 1 ∷ exit 1 46 47 ∷ exit 64 41 47 ∷ enter 12 ∷ enter 5 ∷ exit 5 47 48 ∷ exit 12 47 48 ∷ exit 63 41 48 ∷ enter 3 ∷ exit 3 48 49 ∷ enter 63 ∷ enter 64 ∷ enter 0 ∷ enter 0 ∷ exit 0 49 50 ∷ enter 0 ∷ exit 0 50 51 ∷ enter 65 ∷ enter 5 ∷ exit 5 51 52 ∷ exit 65 51 52 ∷ enter 0 ∷ exit 0 52 53 ∷ exit 0 49 53 ∷ enter 0 ∷ exit 0 53 54 ∷ enter 1 ∷ exit 1 54 55 ∷ exit 64 49 55 ∷ enter 12 ∷ enter 5 ∷ exit 5 55 56 ∷ exit 12 55 56 ∷ exit 63 49 56 ∷ []) ("<table>\n<thead>\n<tr>\n<th>x</th>\n</tr>\n</thead>\n<tbody>\n<tr>\n<td><sup><a href=\"#user-content-fn-a\" id=\"user-content-fnref-a\" data-footnote-ref=\"\" aria-describedby=\"footnote-label\">1</a></sup></td>\n</tr" ∷ ">\n<tr>\n<td><sup><a href=\"#user-content-fn-b\" id=\"user-content-fnref-b-2\" data-footnote-ref=\"\" aria-describedby=\"footnote-label\">2</a></sup></td>\n</tr>\n</tbody>\n</table>\n<section data-footnotes=\"\" clas" ∷ "s=\"footnotes\"><h2 id=\"footnote-label\" class=\"sr-only\">Footnotes</h2>\n<ol>\n<li id=\"user-content-fn-a\">\n<p>p <a href=\"#user-content-fnref-a\" data-footnote-backref=\"\" aria-label=\"Back to content\" class=\"" ∷ "data-footnote-backref\">â\u{86}©</a> <a href=\"#user-content-fnref-a-2\" data-footnote-backref=\"\" aria-label=\"Back to content\" class=\"data-footnote-backref\">â\u{86}©<sup>2</sup></a></p>\n</li>\n<li id=\"user-content-" ∷ "fn-b\">\n<p>q <a href=\"#user-content-fnref-b\" data-footnote-backref=\"\" aria-label=\"Back to content\" class=\"data-footnote-backref\">â\u{86}©</a> <a href=\"#user-content-fnref-b-2\" data-footnote-backref=\"\" aria-" ∷ "label=\"Back to content\" class=\"data-footnote-backref\">â\u{86}©<sup>2</sup></a></p>\n</li>\n</ol>\n</section>\n" ∷ []))
unfolding running
v24 = tt

v25 : T (shows (off Lf) ("|a|a|a|a|a|a|a|a|a|a|a|a|a|a|a|a|a|a|a|a|a|a|a|a|\n|-|:-|-:|:-:|-|-|-|-|-|-|-|-|-|-|-|-|-|-|-|-|-|-|-|-:|\n" ∷ []) (enter_with 57 36028797019022360 ∷ enter 58 ∷ enter 60 ∷ enter 61 ∷ enter 0 ∷ exit 0 0 1 ∷ enter 0 ∷ enter 5 ∷ exit 5 1 2 ∷ exit 0 1 2 ∷ exit 61 0 2 ∷ enter 61 ∷ enter 0 ∷ exit 0 2 3 ∷ enter 0 ∷ enter 5 ∷ exit 5 3 4 ∷ exit 0 3 4 ∷ exit 61 2 4 ∷ enter 61 ∷ enter 0 ∷ exit 0 4 5 ∷ enter 0 ∷ enter 5 ∷ exit 5 5 6 ∷ exit 0 5 6 ∷ exit 61 4 6 ∷ enter 61 ∷ enter 0 ∷ exit 0 6 7 ∷ enter 0 ∷ enter 5 ∷ exit 5 7 8 ∷ exit 0 7 8 ∷ exit 61 6 8 ∷ enter 61 ∷ enter 0 ∷ exit 0 8 9 ∷ enter 0 ∷ enter 5 ∷ exit 5 9 10 ∷ exit 0 9 10 ∷ exit 61 8 10 ∷ enter 61 ∷ enter 0 ∷ exit 0 10 11 ∷ enter 0 ∷ enter 5 ∷ exit 5 11 12 ∷ exit 0 11 12 ∷ exit 61 10 12 ∷ enter 61 ∷ enter 0 ∷ exit 0 12 13 ∷ enter 0 ∷ enter 5 ∷ exit 5 13 14 ∷ exit 0 13 14 ∷ exit 61 12 14 ∷ enter 61 ∷ enter 0 ∷ exit 0 14 15 ∷ enter 0 ∷ enter 5 ∷ exit 5 15 16 ∷ exit 0 15 16 ∷ exit 61 14 16 ∷ enter 61 ∷ enter 0 ∷ exit 0 16 17 ∷ enter 0 ∷ enter 5 ∷ exit 5 17 18 ∷ exit 0 17 18 ∷ exit 61 16 18 ∷ enter 61 ∷ enter 0 ∷ exit 0 18 19 ∷ enter 0 ∷ enter 5 ∷ exit 5 19 20 ∷ exit 0 19 20 ∷ exit 61 18 20 ∷ enter 61 ∷ enter 0 ∷ exit 0 20 21 ∷ enter 0 ∷ enter 5 ∷ exit 5 21 22 ∷ exit 0 21 22 ∷ exit 61 20 22 ∷ enter 61 ∷ enter 0 ∷ exit 0 22 23 ∷ enter 0 ∷ enter 5 ∷ exit 5 23 24 ∷ exit 0 23 24 ∷ exit 61 22 24 ∷ enter 61 ∷ enter 0 ∷ exit 0 24 25 ∷ enter 0 ∷ enter 5 ∷ exit 5 25 26 ∷ exit 0 25 26 ∷ exit 61 24 26 ∷ enter 61 ∷ enter 0 ∷ exit 0 26 27 ∷ enter 0 ∷ enter 5 ∷ exit 5 27 28 ∷ exit 0 27 28 ∷ exit 61 26 28 ∷ enter 61 ∷ enter 0 ∷ exit 0 28 29 ∷ enter 0 ∷ enter 5 ∷ exit 5 29 30 ∷ exit 0 29 30 ∷ exit 61 28 30 ∷ enter 61 ∷ enter 0 ∷ exit 0 30 31 ∷ enter 0 ∷ enter 5 ∷ exit 5 31 32 ∷ exit 0 31 32 ∷ exit 61 30 32 ∷ enter 61 ∷ enter 0 ∷ exit 0 32 33 ∷ enter 0 ∷ enter 5 ∷ exit 5 33 34 ∷ exit 0 33 34 ∷ exit 61 32 34 ∷ enter 61 ∷ enter 0 ∷ exit 0 34 35 ∷ enter 0 ∷ enter 5 ∷ exit 5 35 36 ∷ exit 0 35 36 ∷ exit 61 34 36 ∷ enter 61 ∷ enter 0 ∷ exit 0 36 37 ∷ enter 0 ∷ enter 5 ∷ exit 5 37 38 ∷ exit 0 37 38 ∷ exit 61 36 38 ∷ enter 61 ∷ enter 0 ∷ exit 0 38 39 ∷ enter 0 ∷ enter 5 ∷ exit 5 39 40 ∷ exit 0 39 40 ∷ exit 61 38 40 ∷ enter 61 ∷ enter 0 ∷ exit 0 40 41 ∷ enter 0 ∷ enter 5 ∷ exit 5 41 42 ∷ exit 0 41 42 ∷ exit 61 40 42 ∷ enter 61 ∷ enter 0 ∷ exit 0 42 43 ∷ enter 0 ∷ enter 5 ∷ exit 5 43 44 ∷ exit 0 43 44 ∷ exit 61 42 44 ∷ enter 61 ∷ enter 0 ∷ exit 0 44 45 ∷ enter 0 ∷ enter 5 ∷ exit 5 45 46 ∷ exit 0 45 46 ∷ exit 61 44 46 ∷ enter 61 ∷ enter 0 ∷ exit 0 46 47 ∷ enter 0 ∷ enter 5 ∷ exit 5 47 48 ∷ exit 0 47 48 ∷ enter 0 ∷ exit 0 48 49 ∷ exit 61 46 49 ∷ exit 60 0 49 ∷ enter 3 ∷ exit 3 49 50 ∷ enter 0 ∷ enter 0 ∷ enter 0 ∷ exit 0 50 51 ∷ enter 0 ∷ enter 0 ∷ exit 0 51 52 ∷ exit 0 51 52 ∷ exit 0 50 52 ∷ enter 0 ∷ enter 0 ∷ exit 0 52 53 ∷ enter 0 ∷ enter 0 ∷ exit 0 53 54 ∷ enter 0 ∷ exit 0 54 55 ∷ exit 0 53 55 ∷ exit 0 52 55 ∷ enter 0 ∷ enter 0 ∷ exit 0 55 56 ∷ enter 0 ∷ enter 0 ∷ exit 0 56 57 ∷ enter 0 ∷ exit 0 57 58 ∷ exit 0 56 58 ∷ exit 0 55 58 ∷ enter 0 ∷ enter 0 ∷ exit 0 58 59 ∷ enter 0 ∷ enter 0 ∷ exit 0 59 60 ∷ enter 0 ∷ exit 0 60 61 ∷ enter 0 ∷ exit 0 61 62 ∷ exit 0 59 62 ∷ exit 0 58 62 ∷ enter 0 ∷ enter 0 ∷ exit 0 62 63 ∷ enter 0 ∷ enter 0 ∷ exit 0 63 64 ∷ exit 0 63 64 ∷ exit 0 62 64 ∷ enter 0 ∷ enter 0 ∷ exit 0 64 65 ∷ enter 0 ∷ enter 0 ∷ exit 0 65 66 ∷ exit 0 65 66 ∷ exit 0 64 66 ∷ enter 0 ∷ enter 0 ∷ exit 0 66 67 ∷ enter 0 ∷ enter 0 ∷ exit 0 67 68 ∷ exit 0 67 68 ∷ exit 0 66 68 ∷ enter 0 ∷ enter 0 ∷ exit 0 68 69 ∷ enter 0 ∷ enter 0 ∷ exit 0 69 70 ∷ exit 0 69 70 ∷ exit 0 68 70 ∷ enter 0 ∷ enter 0 ∷ exit 0 70 71 ∷ enter 0 ∷ enter 0 ∷ exit 0 71 72 ∷ exit 0 71 72 ∷ exit 0 70 72 ∷ enter 0 ∷ enter 0 ∷ exit 0 72 73 ∷ enter 0 ∷ enter 0 ∷ exit 0 73 74 ∷ exit 0 73 74 ∷ exit 0 72 74 ∷ enter 0 ∷ enter 0 ∷ exit 0 74 75 ∷ enter 0 ∷ enter 0 ∷ exit 0 75 76 ∷ exit 0 75 76 ∷ exit 0 74 76 ∷ enter 0 ∷ enter 0 ∷ exit 0 76 77 ∷ enter 0 ∷ enter 0 ∷ exit 0 77 78 ∷ exit 0 77 78 ∷ exit 0 76 78 ∷ enter 0 ∷ enter 0 ∷ exit 0 78 79 ∷ enter 0 ∷ enter 0 ∷ exit 0 79 80 ∷ exit 0 79 80 ∷ exit 0 78 80 ∷ enter 0 ∷ enter 0 ∷ exit 0 80 81 ∷ enter 0 ∷ enter 0 ∷ exit 0 81 82 ∷ exit 0 81 82 ∷ exit 0 80 82 ∷ enter 0 ∷ enter 0 ∷ exit 0 82 83 ∷ enter 0 ∷ enter 0 ∷ exit 0 83 84 ∷ exit 0 83 84 ∷ exit 0 82 84 ∷ enter 0 ∷ enter 0 ∷ exit 0 84 85 ∷ enter 0 ∷ enter 0 ∷ exit 0 85 86 ∷ exit 0 85 86 ∷ exit 0 84 86 ∷ enter 0 ∷ enter 0 ∷ exit 0 86 87 ∷ enter 0 ∷ enter 0 ∷ exit 0 87 88 ∷ exit 0 87 88 ∷ exit 0 86 88 ∷ enter 0 ∷ enter 0 ∷ exit 0 88 89 ∷ enter 0 ∷ enter 0 ∷ exit 0 89 90 ∷ exit 0 89 90 ∷ exit 0 88 90 ∷ enter 0 ∷ enter 0 ∷ exit 0 90 91 ∷ enter 0 ∷ enter 0 ∷ exit 0 91 92 ∷ exit 0 91 92 ∷ exit 0 90 92 ∷ enter 0 ∷ enter 0 ∷ exit 0 92 93 ∷ enter 0 ∷ enter 0 ∷ exit 0 93 94 ∷ exit 0 93 94 ∷ exit 0 92 94 ∷ enter 0 ∷ enter 0 ∷ exit 0 94 95 ∷ enter 0 ∷ enter 0 ∷ exit 0 95 96 ∷ exit 0 95 96 ∷ exit 0 94 96 ∷ enter 0 ∷ enter 0 ∷ exit 0 96 97 ∷ enter 0 ∷ enter 0 ∷ exit 0 97 98 ∷ exit 0 97 98 ∷ exit 0 96 98 ∷ enter 0 ∷ enter 0 ∷ exit 0 98 99 ∷ enter 0 ∷ enter 0 ∷ exit 0 99 100 ∷ exit 0 99 100 ∷ exit 0 98 100 ∷ enter 0 ∷ enter 0 ∷ exit 0 100 101 ∷ enter 0 ∷ enter 0 ∷ exit 0 101 102 ∷ enter 0 ∷ exit 0 102 103 ∷ exit 0 101 103 ∷ enter 0 ∷ exit 0 103 104 ∷ exit 0 100 104 ∷ exit 0 50 104 ∷ exit 58 0 104 ∷ exit 57 0 104 ∷ enter 3 ∷ exit 3 104 105 ∷ []) ("<table>\n<thead>\n<tr>\n<th>a</th>\n<th align=\"left\">a</th>\n<th align=\"right\">a</th>\n<th align=\"center\">a</th>\n<th>a</th>\n<th>a</th>\n<th>a</th>\n<th>a</th>\n<th>a</th>\n<th>a</th>\n<th>a</th>\n<th>a</th>\n<th>a" ∷ "</th>\n<th>a</th>\n<th>a</th>\n<th>a</th>\n<th>a</th>\n<th>a</th>\n<th>a</th>\n<th>a</th>\n<th>a</th>\n<th>a</th>\n<th>a</th>\n<th align=\"right\">a</th>\n</tr>\n</thead>\n</table>\n" ∷ []))
unfolding running
v25 = tt

v26 : T (shows (off Lf) ("|a|b|c|\n|:-|-:|:-:|\n|d|e|f|\n|g|h|i|j|\n" ∷ []) (enter_with 57 14595 ∷ enter 58 ∷ enter 60 ∷ enter 61 ∷ enter 0 ∷ exit 0 0 1 ∷ enter 0 ∷ enter 5 ∷ exit 5 1 2 ∷ exit 0 1 2 ∷ exit 61 0 2 ∷ enter 61 ∷ enter 0 ∷ exit 0 2 3 ∷ enter 0 ∷ enter 5 ∷ exit 5 3 4 ∷ exit 0 3 4 ∷ exit 61 2 4 ∷ enter 61 ∷ enter 0 ∷ exit 0 4 5 ∷ enter 0 ∷ enter 5 ∷ exit 5 5 6 ∷ exit 0 5 6 ∷ enter 0 ∷ exit 0 6 7 ∷ exit 61 4 7 ∷ exit 60 0 7 ∷ enter 3 ∷ exit 3 7 8 ∷ enter 0 ∷ enter 0 ∷ enter 0 ∷ exit 0 8 9 ∷ enter 0 ∷ enter 0 ∷ exit 0 9 10 ∷ enter 0 ∷ exit 0 10 11 ∷ exit 0 9 11 ∷ exit 0 8 11 ∷ enter 0 ∷ enter 0 ∷ exit 0 11 12 ∷ enter 0 ∷ enter 0 ∷ exit 0 12 13 ∷ enter 0 ∷ exit 0 13 14 ∷ exit 0 12 14 ∷ exit 0 11 14 ∷ enter 0 ∷ enter 0 ∷ exit 0 14 15 ∷ enter 0 ∷ enter 0 ∷ exit 0 15 16 ∷ enter 0 ∷ exit 0 16 17 ∷ enter 0 ∷ exit 0 17 18 ∷ exit 0 15 18 ∷ enter 0 ∷ exit 0 18 19 ∷ exit 0 14 19 ∷ exit 0 8 19 ∷ exit 58 0 19 ∷ enter 3 ∷ exit 3 19 20 ∷ enter 59 ∷ enter 60 ∷ enter 61 ∷ enter 0 ∷ exit 0 20 21 ∷ enter 0 ∷ enter 5 ∷ exit 5 21 22 ∷ exit 0 21 22 ∷ exit 61 20 22 ∷ enter 61 ∷ enter 0 ∷ exit 0 22 23 ∷ enter 0 ∷ enter 5 ∷ exit 5 23 24 ∷ exit 0 23 24 ∷ exit 61 22 24 ∷ enter 61 ∷ enter 0 ∷ exit 0 24 25 ∷ enter 0 ∷ enter 5 ∷ exit 5 25 26 ∷ exit 0 25 26 ∷ enter 0 ∷ exit 0 26 27 ∷ exit 61 24 27 ∷ exit 60 20 27 ∷ enter 3 ∷ exit 3 27 28 ∷ enter 60 ∷ enter 61 ∷ enter 0 ∷ exit 0 28 29 ∷ enter 0 ∷ enter 5 ∷ exit 5 29 30 ∷ exit 0 29 30 ∷ exit 61 28 30 ∷ enter 61 ∷ enter 0 ∷ exit 0 30 31 ∷ enter 0 ∷ enter 5 ∷ exit 5 31 32 ∷ exit 0 31 32 ∷ exit 61 30 32 ∷ enter 61 ∷ enter 0 ∷ exit 0 32 33 ∷ enter 0 ∷ enter 5 ∷ exit 5 33 34 ∷ exit 0 33 34 ∷ exit 61 32 34 ∷ enter 61 ∷ enter 0 ∷ exit 0 34 35 ∷ enter 0 ∷ enter 5 ∷ exit 5 35 36 ∷ exit 0 35 36 ∷ enter 0 ∷ exit 0 36 37 ∷ exit 61 34 37 ∷ exit 60 28 37 ∷ exit 59 20 37 ∷ exit 57 0 37 ∷ enter 3 ∷ exit 3 37 38 ∷ []) ("<table>\n<thead>\n<tr>\n<th align=\"left\">a</th>\n<th align=\"right\">b</th>\n<th align=\"center\">c</th>\n</tr>\n</thead>\n<tbody>\n<tr>\n<td align=\"left\">d</td>\n<td align=\"right\">e</td>\n<td align=\"center\">f</td>\n<" ∷ "/tr>\n<tr>\n<td align=\"left\">g</td>\n<td align=\"right\">h</td>\n<td align=\"center\">i</td>\n</tr>\n</tbody>\n</table>\n" ∷ []))
unfolding running
v26 = tt

v27 : T (shows (off Lf) ("|a|\n|-|\n|b|*c*|\n|d|`e`|\n\nf" ∷ []) (enter_with 57 1 ∷ enter 58 ∷ enter 60 ∷ enter 61 ∷ enter 0 ∷ exit 0 0 1 ∷ enter 0 ∷ enter 5 ∷ exit 5 1 2 ∷ exit 0 1 2 ∷ enter 0 ∷ exit 0 2 3 ∷ exit 61 0 3 ∷ exit 60 0 3 ∷ enter 3 ∷ exit 3 3 4 ∷ enter 0 ∷ enter 0 ∷ enter 0 ∷ exit 0 4 5 ∷ enter 0 ∷ enter 0 ∷ exit 0 5 6 ∷ exit 0 5 6 ∷ enter 0 ∷ exit 0 6 7 ∷ exit 0 4 7 ∷ exit 0 4 7 ∷ exit 58 0 7 ∷ enter 3 ∷ exit 3 7 8 ∷ enter 59 ∷ enter 60 ∷ enter 61 ∷ enter 0 ∷ exit 0 8 9 ∷ enter 0 ∷ enter 5 ∷ exit 5 9 10 ∷ exit 0 9 10 ∷ exit 61 8 10 ∷ enter 61 ∷ enter 0 ∷ exit 0 10 11 ∷ enter 0 ∷ enter 39 ∷ enter 0 ∷ exit 0 11 12 ∷ enter 0 ∷ enter 5 ∷ exit 5 12 13 ∷ exit 0 12 13 ∷ enter 0 ∷ exit 0 13 14 ∷ exit 39 11 14 ∷ exit 0 11 14 ∷ enter 0 ∷ exit 0 14 15 ∷ exit 61 10 15 ∷ exit 60 8 15 ∷ enter 3 ∷ exit 3 15 16 ∷ enter 60 ∷ enter 61 ∷ enter 0 ∷ exit 0 16 17 ∷ enter 0 ∷ enter 5 ∷ exit 5 17 18 ∷ exit 0 17 18 ∷ exit 61 16 18 ∷ enter 61 ∷ enter 0 ∷ exit 0 18 19 ∷ enter 0 ∷ enter 33 ∷ enter 0 ∷ exit 0 19 20 ∷ enter 34 ∷ exit 34 20 21 ∷ enter 0 ∷ exit 0 21 22 ∷ exit 33 19 22 ∷ exit 0 19 22 ∷ enter 0 ∷ exit 0 22 23 ∷ exit 61 18 23 ∷ exit 60 16 23 ∷ exit 59 8 23 ∷ exit 57 0 23 ∷ enter 3 ∷ exit 3 23 24 ∷ enter 4 ∷ exit 4 24 25 ∷ enter 12 ∷ enter 5 ∷ exit 5 25 26 ∷ exit 12 25 26 ∷ []) ("<table>\n<thead>\n<tr>\n<th>a</th>\n</tr>\n</thead>\n<tbody>\n<tr>\n<td>b</td>\n</tr>\n<tr>\n<td>d</td>\n</tr>\n</tbody>\n</table>\n<p>f</p>" ∷ []))
unfolding running
v27 = tt

v28 : T (shows (off Lf) ("|a|\n|-|\n|b|![c](d)|\n" ∷ []) (enter_with 57 1 ∷ enter 58 ∷ enter 60 ∷ enter 61 ∷ enter 0 ∷ exit 0 0 1 ∷ enter 0 ∷ enter 5 ∷ exit 5 1 2 ∷ exit 0 1 2 ∷ enter 0 ∷ exit 0 2 3 ∷ exit 61 0 3 ∷ exit 60 0 3 ∷ enter 3 ∷ exit 3 3 4 ∷ enter 0 ∷ enter 0 ∷ enter 0 ∷ exit 0 4 5 ∷ enter 0 ∷ enter 0 ∷ exit 0 5 6 ∷ exit 0 5 6 ∷ enter 0 ∷ exit 0 6 7 ∷ exit 0 4 7 ∷ exit 0 4 7 ∷ exit 58 0 7 ∷ enter 3 ∷ exit 3 7 8 ∷ enter 59 ∷ enter 60 ∷ enter 61 ∷ enter 0 ∷ exit 0 8 9 ∷ enter 0 ∷ enter 5 ∷ exit 5 9 10 ∷ exit 0 9 10 ∷ exit 61 8 10 ∷ enter 61 ∷ enter 0 ∷ exit 0 10 11 ∷ enter 0 ∷ enter 46 ∷ enter 47 ∷ enter 0 ∷ enter 0 ∷ exit 0 11 12 ∷ enter 0 ∷ exit 0 12 13 ∷ exit 0 11 13 ∷ enter 48 ∷ enter 5 ∷ exit 5 13 14 ∷ exit 48 13 14 ∷ enter 0 ∷ enter 0 ∷ exit 0 14 15 ∷ exit 0 14 15 ∷ exit 47 11 15 ∷ enter 49 ∷ enter 0 ∷ exit 0 15 16 ∷ enter 0 ∷ enter 0 ∷ enter 50 ∷ enter 5 ∷ exit 5 16 17 ∷ exit 50 16 17 ∷ exit 0 16 17 ∷ exit 0 16 17 ∷ enter 0 ∷ exit 0 17 18 ∷ exit 49 15 18 ∷ exit 46 11 18 ∷ exit 0 11 18 ∷ enter 0 ∷ exit 0 18 19 ∷ exit 61 10 19 ∷ exit 60 8 19 ∷ exit 59 8 19 ∷ exit 57 0 19 ∷ enter 3 ∷ exit 3 19 20 ∷ []) ("<table>\n<thead>\n<tr>\n<th>a</th>\n</tr>\n</thead>\n<tbody>\n<tr>\n<td>b</td>\n</tr>\n</tbody>\n</table>\n" ∷ []))
unfolding running
v28 = tt

v29 : T (shows (off Lf) ("`a\\|b`\n\n|a|\n|-|\n|`c\\|d`|\n\n`e\\|f`" ∷ []) (enter 12 ∷ enter 33 ∷ enter 0 ∷ exit 0 0 1 ∷ enter 34 ∷ exit 34 1 5 ∷ enter 0 ∷ exit 0 5 6 ∷ exit 33 0 6 ∷ exit 12 0 6 ∷ enter 3 ∷ exit 3 6 7 ∷ enter 4 ∷ exit 4 7 8 ∷ enter_with 57 1 ∷ enter 58 ∷ enter 60 ∷ enter 61 ∷ enter 0 ∷ exit 0 8 9 ∷ enter 0 ∷ enter 5 ∷ exit 5 9 10 ∷ exit 0 9 10 ∷ enter 0 ∷ exit 0 10 11 ∷ exit 61 8 11 ∷ exit 60 8 11 ∷ enter 3 ∷ exit 3 11 12 ∷ enter 0 ∷ enter 0 ∷ enter 0 ∷ exit 0 12 13 ∷ enter 0 ∷ enter 0 ∷ exit 0 13 14 ∷ exit 0 13 14 ∷ enter 0 ∷ exit 0 14 15 ∷ exit 0 12 15 ∷ exit 0 12 15 ∷ exit 58 8 15 ∷ enter 3 ∷ exit 3 15 16 ∷ enter 59 ∷ enter 60 ∷ enter 61 ∷ enter 0 ∷ exit 0 16 17 ∷ enter 0 ∷ enter 33 ∷ enter 0 ∷ exit 0 17 18 ∷ enter 34 ∷ exit 34 18 22 ∷ enter 0 ∷ exit 0 22 23 ∷ exit 33 17 23 ∷ exit 0 17 23 ∷ enter 0 ∷ exit 0 23 24 ∷ exit 61 16 24 ∷ exit 60 16 24 ∷ exit 59 16 24 ∷ exit 57 8 24 ∷ enter 3 ∷ exit 3 24 25 ∷ enter 4 ∷ exit 4 25 26 ∷ enter 12 ∷ enter 33 ∷ enter 0 ∷ exit 0 26 27 ∷ enter 34 ∷ exit 34 27 31 ∷ enter 0 ∷ exit 0 31 32 ∷ exit 33 26 32 ∷ exit 12 26 32 ∷ []) ("<p><code>a\\|b</code></p>\n<table>\n<thead>\n<tr>\n<th>a</th>\n</tr>\n</thead>\n<tbody>\n<tr>\n<td><code>c|d</code></td>\n</tr>\n</tbody>\n</table>\n<p><code>e\\|f</code></p>" ∷ []))
unfolding running
v29 = tt

v30 : T (shows (off Lf) ("|a|\n|-|\n\n|b|\n|-|\n|c|" ∷ []) (enter_with 57 1 ∷ enter 58 ∷ enter 60 ∷ enter 61 ∷ enter 0 ∷ exit 0 0 1 ∷ enter 0 ∷ enter 5 ∷ exit 5 1 2 ∷ exit 0 1 2 ∷ enter 0 ∷ exit 0 2 3 ∷ exit 61 0 3 ∷ exit 60 0 3 ∷ enter 3 ∷ exit 3 3 4 ∷ enter 0 ∷ enter 0 ∷ enter 0 ∷ exit 0 4 5 ∷ enter 0 ∷ enter 0 ∷ exit 0 5 6 ∷ exit 0 5 6 ∷ enter 0 ∷ exit 0 6 7 ∷ exit 0 4 7 ∷ exit 0 4 7 ∷ exit 58 0 7 ∷ exit 57 0 7 ∷ enter 3 ∷ exit 3 7 8 ∷ enter 4 ∷ exit 4 8 9 ∷ enter_with 57 1 ∷ enter 58 ∷ enter 60 ∷ enter 61 ∷ enter 0 ∷ exit 0 9 10 ∷ enter 0 ∷ enter 5 ∷ exit 5 10 11 ∷ exit 0 10 11 ∷ enter 0 ∷ exit 0 11 12 ∷ exit 61 9 12 ∷ exit 60 9 12 ∷ enter 3 ∷ exit 3 12 13 ∷ enter 0 ∷ enter 0 ∷ enter 0 ∷ exit 0 13 14 ∷ enter 0 ∷ enter 0 ∷ exit 0 14 15 ∷ exit 0 14 15 ∷ enter 0 ∷ exit 0 15 16 ∷ exit 0 13 16 ∷ exit 0 13 16 ∷ exit 58 9 16 ∷ enter 3 ∷ exit 3 16 17 ∷ enter 59 ∷ enter 60 ∷ enter 61 ∷ enter 0 ∷ exit 0 17 18 ∷ enter 0 ∷ enter 5 ∷ exit 5 18 19 ∷ exit 0 18 19 ∷ enter 0 ∷ exit 0 19 20 ∷ exit 61 17 20 ∷ exit 60 17 20 ∷ exit 59 17 20 ∷ exit 57 9 20 ∷ []) ("<table>\n<thead>\n<tr>\n<th>a</th>\n</tr>\n</thead>\n</table>\n<table>\n<thead>\n<tr>\n<th>b</th>\n</tr>\n</thead>\n<tbody>\n<tr>\n<td>c</td>\n</tr>\n</tbody>\n</table>" ∷ []))
unfolding running
v30 = tt

v31 : T (shows (off Lf) ("- |a|\n  |-|\n  |b|\n- c" ∷ []) (enter 22 ∷ enter 23 ∷ enter 24 ∷ enter 25 ∷ exit 25 0 1 ∷ enter 1 ∷ exit 1 1 2 ∷ exit 24 0 2 ∷ enter_with 57 1 ∷ enter 58 ∷ enter 60 ∷ enter 61 ∷ enter 0 ∷ exit 0 2 3 ∷ enter 0 ∷ enter 5 ∷ exit 5 3 4 ∷ exit 0 3 4 ∷ enter 0 ∷ exit 0 4 5 ∷ exit 61 2 5 ∷ exit 60 2 5 ∷ enter 3 ∷ exit 3 5 6 ∷ enter 1 ∷ exit 1 6 8 ∷ enter 0 ∷ enter 0 ∷ enter 0 ∷ exit 0 8 9 ∷ enter 0 ∷ enter 0 ∷ exit 0 9 10 ∷ exit 0 9 10 ∷ enter 0 ∷ exit 0 10 11 ∷ exit 0 8 11 ∷ exit 0 8 11 ∷ exit 58 2 11 ∷ enter 3 ∷ exit 3 11 12 ∷ enter 1 ∷ exit 1 12 14 ∷ enter 59 ∷ enter 60 ∷ enter 61 ∷ enter 0 ∷ exit 0 14 15 ∷ enter 0 ∷ enter 5 ∷ exit 5 15 16 ∷ exit 0 15 16 ∷ enter 0 ∷ exit 0 16 17 ∷ exit 61 14 17 ∷ exit 60 14 17 ∷ exit 59 14 17 ∷ exit 57 2 17 ∷ exit 23 0 17 ∷ enter 3 ∷ exit 3 17 18 ∷ enter 23 ∷ enter 24 ∷ enter 25 ∷ exit 25 18 19 ∷ enter 1 ∷ exit 1 19 20 ∷ exit 24 18 20 ∷ enter 12 ∷ enter 5 ∷ exit 5 20 21 ∷ exit 12 20 21 ∷ exit 23 18 21 ∷ exit 22 0 21 ∷ []) ("<ul>\n<li>\n<table>\n<thead>\n<tr>\n<th>a</th>\n</tr>\n</thead>\n<tbody>\n<tr>\n<td>b</td>\n</tr>\n</tbody>\n</table>\n</li>\n<li>c</li>\n</ul>" ∷ []))
unfolding running
v31 = tt

v32 : T (shows (off Lf) ("|` a `|\n|-|\n|` \\| `|" ∷ []) (enter_with 57 1 ∷ enter 58 ∷ enter 60 ∷ enter 61 ∷ enter 0 ∷ exit 0 0 1 ∷ enter 0 ∷ enter 33 ∷ enter 0 ∷ exit 0 1 2 ∷ enter 34 ∷ exit 34 2 5 ∷ enter 0 ∷ exit 0 5 6 ∷ exit 33 1 6 ∷ exit 0 1 6 ∷ enter 0 ∷ exit 0 6 7 ∷ exit 61 0 7 ∷ exit 60 0 7 ∷ enter 3 ∷ exit 3 7 8 ∷ enter 0 ∷ enter 0 ∷ enter 0 ∷ exit 0 8 9 ∷ enter 0 ∷ enter 0 ∷ exit 0 9 10 ∷ exit 0 9 10 ∷ enter 0 ∷ exit 0 10 11 ∷ exit 0 8 11 ∷ exit 0 8 11 ∷ exit 58 0 11 ∷ enter 3 ∷ exit 3 11 12 ∷ enter 59 ∷ enter 60 ∷ enter 61 ∷ enter 0 ∷ exit 0 12 13 ∷ enter 0 ∷ enter 33 ∷ enter 0 ∷ exit 0 13 14 ∷ enter 34 ∷ exit 34 14 18 ∷ enter 0 ∷ exit 0 18 19 ∷ exit 33 13 19 ∷ exit 0 13 19 ∷ enter 0 ∷ exit 0 19 20 ∷ exit 61 12 20 ∷ exit 60 12 20 ∷ exit 59 12 20 ∷ exit 57 0 20 ∷ []) ("<table>\n<thead>\n<tr>\n<th><code>a</code></th>\n</tr>\n</thead>\n<tbody>\n<tr>\n<td><code>|</code></td>\n</tr>\n</tbody>\n</table>" ∷ []))
unfolding running
v32 = tt

v33 : T (shows (off Lf) ("|a|b|\n|-|-|\n|c\n\n|d|\n|-|\n|e|" ∷ []) (enter_with 57 2 ∷ enter 58 ∷ enter 60 ∷ enter 61 ∷ enter 0 ∷ exit 0 0 1 ∷ enter 0 ∷ enter 5 ∷ exit 5 1 2 ∷ exit 0 1 2 ∷ exit 61 0 2 ∷ enter 61 ∷ enter 0 ∷ exit 0 2 3 ∷ enter 0 ∷ enter 5 ∷ exit 5 3 4 ∷ exit 0 3 4 ∷ enter 0 ∷ exit 0 4 5 ∷ exit 61 2 5 ∷ exit 60 0 5 ∷ enter 3 ∷ exit 3 5 6 ∷ enter 0 ∷ enter 0 ∷ enter 0 ∷ exit 0 6 7 ∷ enter 0 ∷ enter 0 ∷ exit 0 7 8 ∷ exit 0 7 8 ∷ exit 0 6 8 ∷ enter 0 ∷ enter 0 ∷ exit 0 8 9 ∷ enter 0 ∷ enter 0 ∷ exit 0 9 10 ∷ exit 0 9 10 ∷ enter 0 ∷ exit 0 10 11 ∷ exit 0 8 11 ∷ exit 0 6 11 ∷ exit 58 0 11 ∷ enter 3 ∷ exit 3 11 12 ∷ enter 59 ∷ enter 60 ∷ enter 61 ∷ enter 0 ∷ exit 0 12 13 ∷ enter 0 ∷ enter 5 ∷ exit 5 13 14 ∷ exit 0 13 14 ∷ exit 61 12 14 ∷ exit 60 12 14 ∷ exit 59 12 14 ∷ exit 57 0 14 ∷ enter 3 ∷ exit 3 14 15 ∷ enter 4 ∷ exit 4 15 16 ∷ enter_with 57 1 ∷ enter 58 ∷ enter 60 ∷ enter 61 ∷ enter 0 ∷ exit 0 16 17 ∷ enter 0 ∷ enter 5 ∷ exit 5 17 18 ∷ exit 0 17 18 ∷ enter 0 ∷ exit 0 18 19 ∷ exit 61 16 19 ∷ exit 60 16 19 ∷ enter 3 ∷ exit 3 19 20 ∷ enter 0 ∷ enter 0 ∷ enter 0 ∷ exit 0 20 21 ∷ enter 0 ∷ enter 0 ∷ exit 0 21 22 ∷ exit 0 21 22 ∷ enter 0 ∷ exit 0 22 23 ∷ exit 0 20 23 ∷ exit 0 20 23 ∷ exit 58 16 23 ∷ enter 3 ∷ exit 3 23 24 ∷ enter 59 ∷ enter 60 ∷ enter 61 ∷ enter 0 ∷ exit 0 24 25 ∷ enter 0 ∷ enter 5 ∷ exit 5 25 26 ∷ exit 0 25 26 ∷ enter 0 ∷ exit 0 26 27 ∷ exit 61 24 27 ∷ exit 60 24 27 ∷ exit 59 24 27 ∷ exit 57 16 27 ∷ []) ("<table>\n<thead>\n<tr>\n<th>a</th>\n<th>b</th>\n</tr>\n</thead>\n<tbody>\n<tr>\n<td>c</td>\n<td></td>\n</tr>\n</tbody>\n</table>\n<table>\n<thead>\n<tr>\n<th>d</th>\n</tr>\n</thead>\n<tbody>\n<tr>\n<td>e</td>\n</tr>\n</tbody" ∷ ">\n</table>" ∷ []))
unfolding running
v33 = tt
