-- Lists, tables, media and footnotes that no note gives: pages of the crate markdown 1.0.0. Made by tools/machine_pages. Assumes nothing.
use mathlib.Core.List.{[], ◌∷◌}
use lib.Dec.{T}
use Rattle.machine.specs.declared.Ending.TheVariants.{Lf, Cr, CrLf}
use Rattle.machine.proofs.Running.{running}
use Rattle.machine.proofs.Answers.{shows, off, html, on, enter, exit, enter_with}

v1 : T (shows (off Lf) ("7" ∷ []) (enter 21 ∷ enter 23 ∷ enter 24 ∷ enter 26 ∷ exit 26 0 1 ∷ enter 25 ∷ exit 25 0 0 ∷ exit 24 0 1 ∷ exit 23 0 1 ∷ enter 23 ∷ enter 24 ∷ enter 26 ∷ exit 26 0 1 ∷ enter 25 ∷ exit 25 0 0 ∷ exit 24 0 1 ∷ exit 23 0 1 ∷ exit 21 0 1 ∷ []) ("<ol start=\"7\">\n<li></li>\n<li></li>\n</ol>" ∷ []))
unfolding running
v1 = tt

v2 : T (shows (off Cr) ("7" ∷ []) (enter 21 ∷ enter 23 ∷ enter 24 ∷ enter 26 ∷ exit 26 0 1 ∷ enter 25 ∷ exit 25 0 0 ∷ exit 24 0 1 ∷ exit 23 0 1 ∷ enter 23 ∷ enter 24 ∷ enter 26 ∷ exit 26 0 1 ∷ enter 25 ∷ exit 25 0 0 ∷ exit 24 0 1 ∷ exit 23 0 1 ∷ exit 21 0 1 ∷ []) ("<ol start=\"7\">\r<li></li>\r<li></li>\r</ol>" ∷ []))
unfolding running
v2 = tt

v3 : T (shows (off CrLf) ("7" ∷ []) (enter 21 ∷ enter 23 ∷ enter 24 ∷ enter 26 ∷ exit 26 0 1 ∷ enter 25 ∷ exit 25 0 0 ∷ exit 24 0 1 ∷ exit 23 0 1 ∷ enter 23 ∷ enter 24 ∷ enter 26 ∷ exit 26 0 1 ∷ enter 25 ∷ exit 25 0 0 ∷ exit 24 0 1 ∷ exit 23 0 1 ∷ exit 21 0 1 ∷ []) ("<ol start=\"7\">\r\n<li></li>\r\n<li></li>\r\n</ol>" ∷ []))
unfolding running
v3 = tt

v4 : T (shows (off Lf) ("0" ∷ []) (enter_with 21 1 ∷ enter 23 ∷ enter 24 ∷ enter 26 ∷ exit 26 0 1 ∷ enter 25 ∷ exit 25 0 0 ∷ exit 24 0 1 ∷ enter 12 ∷ exit 12 0 0 ∷ exit 23 0 1 ∷ exit 21 0 1 ∷ []) ("<ol start=\"0\">\n<li>\n<p></p>\n</li>\n</ol>" ∷ []))
unfolding running
v4 = tt

v5 : T (shows (off Cr) ("0" ∷ []) (enter_with 21 1 ∷ enter 23 ∷ enter 24 ∷ enter 26 ∷ exit 26 0 1 ∷ enter 25 ∷ exit 25 0 0 ∷ exit 24 0 1 ∷ enter 12 ∷ exit 12 0 0 ∷ exit 23 0 1 ∷ exit 21 0 1 ∷ []) ("<ol start=\"0\">\r<li>\r<p></p>\r</li>\r</ol>" ∷ []))
unfolding running
v5 = tt

v6 : T (shows (off CrLf) ("0" ∷ []) (enter_with 21 1 ∷ enter 23 ∷ enter 24 ∷ enter 26 ∷ exit 26 0 1 ∷ enter 25 ∷ exit 25 0 0 ∷ exit 24 0 1 ∷ enter 12 ∷ exit 12 0 0 ∷ exit 23 0 1 ∷ exit 21 0 1 ∷ []) ("<ol start=\"0\">\r\n<li>\r\n<p></p>\r\n</li>\r\n</ol>" ∷ []))
unfolding running
v6 = tt

v7 : T (shows (off Lf) ("000000001" ∷ []) (enter 21 ∷ enter 23 ∷ enter 24 ∷ enter 26 ∷ exit 26 0 9 ∷ enter 25 ∷ exit 25 0 0 ∷ exit 24 0 9 ∷ exit 23 0 9 ∷ exit 21 0 9 ∷ []) ("<ol>\n<li></li>\n</ol>" ∷ []))
unfolding running
v7 = tt

v8 : T (shows (off Cr) ("000000001" ∷ []) (enter 21 ∷ enter 23 ∷ enter 24 ∷ enter 26 ∷ exit 26 0 9 ∷ enter 25 ∷ exit 25 0 0 ∷ exit 24 0 9 ∷ exit 23 0 9 ∷ exit 21 0 9 ∷ []) ("<ol>\r<li></li>\r</ol>" ∷ []))
unfolding running
v8 = tt

v9 : T (shows (off CrLf) ("000000001" ∷ []) (enter 21 ∷ enter 23 ∷ enter 24 ∷ enter 26 ∷ exit 26 0 9 ∷ enter 25 ∷ exit 25 0 0 ∷ exit 24 0 9 ∷ exit 23 0 9 ∷ exit 21 0 9 ∷ []) ("<ol>\r\n<li></li>\r\n</ol>" ∷ []))
unfolding running
v9 = tt

v10 : T (shows (off Lf) ("999999999" ∷ []) (enter 21 ∷ enter 23 ∷ enter 24 ∷ enter 26 ∷ exit 26 0 9 ∷ enter 25 ∷ exit 25 0 0 ∷ exit 24 0 9 ∷ enter 19 ∷ exit 19 0 0 ∷ exit 23 0 9 ∷ exit 21 0 9 ∷ []) ("<ol start=\"999999999\">\n<li>\n<hr />\n</li>\n</ol>" ∷ []))
unfolding running
v10 = tt

v11 : T (shows (off Cr) ("999999999" ∷ []) (enter 21 ∷ enter 23 ∷ enter 24 ∷ enter 26 ∷ exit 26 0 9 ∷ enter 25 ∷ exit 25 0 0 ∷ exit 24 0 9 ∷ enter 19 ∷ exit 19 0 0 ∷ exit 23 0 9 ∷ exit 21 0 9 ∷ []) ("<ol start=\"999999999\">\r<li>\r<hr />\r</li>\r</ol>" ∷ []))
unfolding running
v11 = tt

v12 : T (shows (off CrLf) ("999999999" ∷ []) (enter 21 ∷ enter 23 ∷ enter 24 ∷ enter 26 ∷ exit 26 0 9 ∷ enter 25 ∷ exit 25 0 0 ∷ exit 24 0 9 ∷ enter 19 ∷ exit 19 0 0 ∷ exit 23 0 9 ∷ exit 21 0 9 ∷ []) ("<ol start=\"999999999\">\r\n<li>\r\n<hr />\r\n</li>\r\n</ol>" ∷ []))
unfolding running
v12 = tt

v13 : T (shows (off Lf) ("a" ∷ []) (enter_with 57 514 ∷ enter 58 ∷ enter 60 ∷ exit 60 0 0 ∷ exit 58 0 0 ∷ enter 59 ∷ enter 60 ∷ enter 61 ∷ enter 5 ∷ exit 5 0 1 ∷ exit 61 0 1 ∷ enter 61 ∷ exit 61 0 0 ∷ enter 61 ∷ enter 5 ∷ exit 5 0 1 ∷ exit 61 0 1 ∷ exit 60 0 1 ∷ exit 59 0 1 ∷ exit 57 0 1 ∷ []) ("<table>\n<thead>\n<tr>\n<th align=\"right\"></th>\n<th></th>\n</tr>\n</thead><tbody>\n<tr>\n<td align=\"right\">a</td>\n<td></td>\n</tr>\n</tbody>\n</table>" ∷ []))
unfolding running
v13 = tt

v14 : T (shows (off Cr) ("a" ∷ []) (enter_with 57 514 ∷ enter 58 ∷ enter 60 ∷ exit 60 0 0 ∷ exit 58 0 0 ∷ enter 59 ∷ enter 60 ∷ enter 61 ∷ enter 5 ∷ exit 5 0 1 ∷ exit 61 0 1 ∷ enter 61 ∷ exit 61 0 0 ∷ enter 61 ∷ enter 5 ∷ exit 5 0 1 ∷ exit 61 0 1 ∷ exit 60 0 1 ∷ exit 59 0 1 ∷ exit 57 0 1 ∷ []) ("<table>\r<thead>\r<tr>\r<th align=\"right\"></th>\r<th></th>\r</tr>\r</thead><tbody>\r<tr>\r<td align=\"right\">a</td>\r<td></td>\r</tr>\r</tbody>\r</table>" ∷ []))
unfolding running
v14 = tt

v15 : T (shows (off CrLf) ("a" ∷ []) (enter_with 57 514 ∷ enter 58 ∷ enter 60 ∷ exit 60 0 0 ∷ exit 58 0 0 ∷ enter 59 ∷ enter 60 ∷ enter 61 ∷ enter 5 ∷ exit 5 0 1 ∷ exit 61 0 1 ∷ enter 61 ∷ exit 61 0 0 ∷ enter 61 ∷ enter 5 ∷ exit 5 0 1 ∷ exit 61 0 1 ∷ exit 60 0 1 ∷ exit 59 0 1 ∷ exit 57 0 1 ∷ []) ("<table>\r\n<thead>\r\n<tr>\r\n<th align=\"right\"></th>\r\n<th></th>\r\n</tr>\r\n</thead><tbody>\r\n<tr>\r\n<td align=\"right\">a</td>\r\n<td></td>\r\n</tr>\r\n</tbody>\r\n</table>" ∷ []))
unfolding running
v15 = tt

v16 : T (shows (off Lf) ("a" ∷ []) (enter_with 57 58371 ∷ enter 58 ∷ enter 60 ∷ enter 61 ∷ exit 61 0 0 ∷ exit 60 0 0 ∷ exit 58 0 0 ∷ exit 57 0 0 ∷ enter_with 57 1 ∷ enter 58 ∷ enter 60 ∷ exit 60 0 0 ∷ exit 58 0 0 ∷ enter 59 ∷ enter 60 ∷ exit 60 0 0 ∷ enter 60 ∷ enter 61 ∷ enter 61 ∷ exit 61 0 0 ∷ exit 60 0 0 ∷ exit 59 0 0 ∷ exit 57 0 0 ∷ []) ("<table>\n<thead>\n<tr>\n<th></th>\n<th align=\"left\"></th>\n<th align=\"right\"></th>\n</tr>\n</thead>\n</table>\n<table>\n<thead>\n<tr>\n<th></th>\n</tr>\n</thead><tbody>\n<tr>\n<td></td>\n</tr>\n<tr>\n<td>\n<td></td>\n</tr" ∷ ">\n</tbody>\n</table>" ∷ []))
unfolding running
v16 = tt

v17 : T (shows (off Cr) ("a" ∷ []) (enter_with 57 58371 ∷ enter 58 ∷ enter 60 ∷ enter 61 ∷ exit 61 0 0 ∷ exit 60 0 0 ∷ exit 58 0 0 ∷ exit 57 0 0 ∷ enter_with 57 1 ∷ enter 58 ∷ enter 60 ∷ exit 60 0 0 ∷ exit 58 0 0 ∷ enter 59 ∷ enter 60 ∷ exit 60 0 0 ∷ enter 60 ∷ enter 61 ∷ enter 61 ∷ exit 61 0 0 ∷ exit 60 0 0 ∷ exit 59 0 0 ∷ exit 57 0 0 ∷ []) ("<table>\r<thead>\r<tr>\r<th></th>\r<th align=\"left\"></th>\r<th align=\"right\"></th>\r</tr>\r</thead>\r</table>\r<table>\r<thead>\r<tr>\r<th></th>\r</tr>\r</thead><tbody>\r<tr>\r<td></td>\r</tr>\r<tr>\r<td>\r<td></td>\r</tr" ∷ ">\r</tbody>\r</table>" ∷ []))
unfolding running
v17 = tt

v18 : T (shows (off CrLf) ("a" ∷ []) (enter_with 57 58371 ∷ enter 58 ∷ enter 60 ∷ enter 61 ∷ exit 61 0 0 ∷ exit 60 0 0 ∷ exit 58 0 0 ∷ exit 57 0 0 ∷ enter_with 57 1 ∷ enter 58 ∷ enter 60 ∷ exit 60 0 0 ∷ exit 58 0 0 ∷ enter 59 ∷ enter 60 ∷ exit 60 0 0 ∷ enter 60 ∷ enter 61 ∷ enter 61 ∷ exit 61 0 0 ∷ exit 60 0 0 ∷ exit 59 0 0 ∷ exit 57 0 0 ∷ []) ("<table>\r\n<thead>\r\n<tr>\r\n<th></th>\r\n<th align=\"left\"></th>\r\n<th align=\"right\"></th>\r\n</tr>\r\n</thead>\r\n</table>\r\n<table>\r\n<thead>\r\n<tr>\r\n<th></th>\r\n</tr>\r\n</thead><tbody>\r\n<tr>\r\n<td></td>\r\n</tr>\r\n<tr>\r\n" ∷ "<td>\r\n<td></td>\r\n</tr>\r\n</tbody>\r\n</table>" ∷ []))
unfolding running
v18 = tt

v19 : T (shows (off Lf) ("a" ∷ []) (enter 12 ∷ enter 45 ∷ enter 47 ∷ exit 47 0 0 ∷ exit 45 0 0 ∷ enter 46 ∷ enter 47 ∷ exit 47 0 0 ∷ exit 46 0 0 ∷ exit 12 0 0 ∷ []) ("<p><a href=\"\"></a><img src=\"\" alt=\"\" /></p>" ∷ []))
unfolding running
v19 = tt

v20 : T (shows (off Lf) ("ab" ∷ []) (enter 12 ∷ enter 45 ∷ enter 47 ∷ enter 48 ∷ enter 5 ∷ exit 5 0 1 ∷ exit 48 0 1 ∷ exit 47 0 1 ∷ enter 49 ∷ enter 51 ∷ enter 5 ∷ exit 5 1 2 ∷ exit 51 1 2 ∷ exit 49 1 2 ∷ exit 45 0 2 ∷ exit 12 0 2 ∷ []) ("<p><a href=\"\" title=\"b\">a</a></p>" ∷ []))
unfolding running
v20 = tt

v21 : T (shows (off Lf) ("ab" ∷ []) (enter 12 ∷ enter 46 ∷ enter 47 ∷ enter 48 ∷ enter 5 ∷ exit 5 0 1 ∷ exit 48 0 1 ∷ exit 47 0 1 ∷ enter 49 ∷ exit 49 1 2 ∷ exit 46 0 2 ∷ exit 12 0 2 ∷ []) ("<p><img src=\"\" alt=\"a\" /></p>" ∷ []))
unfolding running
v21 = tt

v22 : T (shows (off Lf) ("ab" ∷ []) (enter 53 ∷ enter 54 ∷ exit 54 0 1 ∷ enter 56 ∷ enter 5 ∷ exit 5 1 2 ∷ exit 56 1 2 ∷ exit 53 0 2 ∷ enter 12 ∷ enter 45 ∷ enter 47 ∷ enter 48 ∷ enter 5 ∷ exit 5 0 1 ∷ exit 48 0 1 ∷ exit 47 0 1 ∷ exit 45 0 1 ∷ exit 12 0 1 ∷ []) ("<p><a href=\"\" title=\"b\">a</a></p>" ∷ []))
unfolding running
v22 = tt

v23 : T (shows (off Lf) ("ab" ∷ []) (enter 53 ∷ enter 54 ∷ exit 54 0 1 ∷ exit 53 0 2 ∷ enter 12 ∷ enter 46 ∷ enter 47 ∷ enter 48 ∷ enter 5 ∷ exit 5 0 1 ∷ exit 48 0 1 ∷ exit 47 0 1 ∷ exit 46 0 1 ∷ exit 12 0 1 ∷ []) ("<p><img src=\"\" alt=\"a\" /></p>" ∷ []))
unfolding running
v23 = tt

v24 : T (shows (off Lf) ("ab" ∷ []) (enter 12 ∷ enter 45 ∷ enter 47 ∷ enter 48 ∷ exit 48 0 1 ∷ exit 47 0 1 ∷ enter 52 ∷ enter 5 ∷ exit 5 1 2 ∷ exit 52 1 2 ∷ exit 45 0 2 ∷ exit 12 0 2 ∷ enter 53 ∷ enter 54 ∷ enter 5 ∷ exit 5 1 2 ∷ exit 54 1 2 ∷ enter 55 ∷ enter 5 ∷ exit 5 0 1 ∷ exit 55 0 1 ∷ exit 53 0 2 ∷ []) ("<p><a href=\"a\"></a></p>" ∷ []))
unfolding running
v24 = tt

v25 : T (shows (off Lf) ("a&" ∷ []) (enter 0 ∷ enter 53 ∷ enter 54 ∷ exit 54 0 1 ∷ enter 0 ∷ enter 55 ∷ enter 5 ∷ exit 5 1 2 ∷ exit 55 1 2 ∷ exit 0 1 2 ∷ exit 53 0 2 ∷ exit 0 0 2 ∷ enter 12 ∷ enter 5 ∷ exit 5 1 2 ∷ enter 45 ∷ enter 47 ∷ enter 48 ∷ exit 48 0 1 ∷ exit 47 0 1 ∷ exit 45 0 1 ∷ exit 12 0 2 ∷ []) ("<p>&amp;<a href=\"&amp;\"></a></p>" ∷ []))
unfolding running
v25 = tt

v26 : T (shows (off Lf) ("a\nb" ∷ []) (enter 63 ∷ enter 3 ∷ exit 3 1 2 ∷ enter 64 ∷ enter 65 ∷ exit 65 0 1 ∷ exit 64 0 1 ∷ enter 3 ∷ exit 3 1 2 ∷ enter 12 ∷ enter 5 ∷ exit 5 2 3 ∷ exit 12 2 3 ∷ exit 63 0 3 ∷ enter 3 ∷ exit 3 1 2 ∷ enter 12 ∷ enter 62 ∷ enter 47 ∷ enter 48 ∷ enter 5 ∷ exit 5 0 1 ∷ exit 48 0 1 ∷ exit 47 0 1 ∷ exit 62 0 1 ∷ enter 5 ∷ exit 5 2 3 ∷ exit 12 0 3 ∷ []) ("<p><sup><a href=\"#user-content-fn-a\" id=\"user-content-fnref-a\" data-footnote-ref=\"\" aria-describedby=\"footnote-label\">1</a></sup>b</p>\n<section data-footnotes=\"\" class=\"footnotes\"><h2 id=\"footnote-lab" ∷ "el\" class=\"sr-only\">Footnotes</h2>\n<ol>\n<li id=\"user-content-fn-a\">\n\n<p>b <a href=\"#user-content-fnref-a\" data-footnote-backref=\"\" aria-label=\"Back to content\" class=\"data-footnote-backref\">â\u{86}©</a></p" ∷ ">\n</li>\n</ol>\n</section>\n" ∷ []))
unfolding running
v26 = tt

v27 : T (shows (off Lf) ("a\n" ∷ []) (enter 53 ∷ enter 54 ∷ exit 54 0 1 ∷ exit 53 0 1 ∷ enter 3 ∷ exit 3 1 2 ∷ enter 12 ∷ enter 5 ∷ exit 5 0 1 ∷ exit 12 0 1 ∷ enter 3 ∷ exit 3 1 2 ∷ enter 53 ∷ enter 54 ∷ exit 54 0 1 ∷ exit 53 0 1 ∷ enter 4 ∷ exit 4 1 2 ∷ enter 3 ∷ exit 3 1 2 ∷ []) ("<p>a</p>\n\n" ∷ []))
unfolding running
v27 = tt

v28 : T (shows (off Lf) ("a\n" ∷ []) (enter 63 ∷ enter 64 ∷ enter 65 ∷ exit 65 0 1 ∷ exit 64 0 1 ∷ exit 63 0 1 ∷ enter 12 ∷ enter 62 ∷ enter 47 ∷ enter 48 ∷ exit 48 0 1 ∷ exit 47 0 1 ∷ exit 62 0 1 ∷ exit 12 0 1 ∷ []) ("<p><sup><a href=\"#user-content-fn-a\" id=\"user-content-fnref-a\" data-footnote-ref=\"\" aria-describedby=\"footnote-label\">1</a></sup></p>\n<section data-footnotes=\"\" class=\"footnotes\"><h2 id=\"footnote-labe" ∷ "l\" class=\"sr-only\">Footnotes</h2>\n<ol>\n<li id=\"user-content-fn-a\">\n<a href=\"#user-content-fnref-a\" data-footnote-backref=\"\" aria-label=\"Back to content\" class=\"data-footnote-backref\">â\u{86}©</a>\n</li>\n</o" ∷ "l>\n</section>\n" ∷ []))
unfolding running
v28 = tt

v29 : T (shows (off Cr) ("a\n" ∷ []) (enter 63 ∷ enter 64 ∷ enter 65 ∷ exit 65 0 1 ∷ exit 64 0 1 ∷ exit 63 0 1 ∷ enter 12 ∷ enter 62 ∷ enter 47 ∷ enter 48 ∷ exit 48 0 1 ∷ exit 47 0 1 ∷ exit 62 0 1 ∷ exit 12 0 1 ∷ []) ("<p><sup><a href=\"#user-content-fn-a\" id=\"user-content-fnref-a\" data-footnote-ref=\"\" aria-describedby=\"footnote-label\">1</a></sup></p>\r<section data-footnotes=\"\" class=\"footnotes\"><h2 id=\"footnote-labe" ∷ "l\" class=\"sr-only\">Footnotes</h2>\r<ol>\r<li id=\"user-content-fn-a\">\r<a href=\"#user-content-fnref-a\" data-footnote-backref=\"\" aria-label=\"Back to content\" class=\"data-footnote-backref\">â\u{86}©</a>\r</li>\r</o" ∷ "l>\r</section>\r" ∷ []))
unfolding running
v29 = tt

v30 : T (shows (off CrLf) ("a\n" ∷ []) (enter 63 ∷ enter 64 ∷ enter 65 ∷ exit 65 0 1 ∷ exit 64 0 1 ∷ exit 63 0 1 ∷ enter 12 ∷ enter 62 ∷ enter 47 ∷ enter 48 ∷ exit 48 0 1 ∷ exit 47 0 1 ∷ exit 62 0 1 ∷ exit 12 0 1 ∷ []) ("<p><sup><a href=\"#user-content-fn-a\" id=\"user-content-fnref-a\" data-footnote-ref=\"\" aria-describedby=\"footnote-label\">1</a></sup></p>\r\n<section data-footnotes=\"\" class=\"footnotes\"><h2 id=\"footnote-lab" ∷ "el\" class=\"sr-only\">Footnotes</h2>\r\n<ol>\r\n<li id=\"user-content-fn-a\">\r\n<a href=\"#user-content-fnref-a\" data-footnote-backref=\"\" aria-label=\"Back to content\" class=\"data-footnote-backref\">â\u{86}©</a>\r\n</li" ∷ ">\r\n</ol>\r\n</section>\r\n" ∷ []))
unfolding running
v30 = tt

v31 : T (shows (off Lf) ("a\n" ∷ []) (enter 63 ∷ enter 64 ∷ enter 65 ∷ exit 65 0 1 ∷ exit 64 0 1 ∷ enter 35 ∷ enter 36 ∷ exit 36 1 2 ∷ exit 35 1 2 ∷ exit 63 0 2 ∷ enter 12 ∷ enter 62 ∷ enter 47 ∷ enter 48 ∷ exit 48 0 1 ∷ exit 47 0 1 ∷ exit 62 0 1 ∷ exit 12 0 1 ∷ []) ("<p><sup><a href=\"#user-content-fn-a\" id=\"user-content-fnref-a\" data-footnote-ref=\"\" aria-describedby=\"footnote-label\">1</a></sup></p>\n<section data-footnotes=\"\" class=\"footnotes\"><h2 id=\"footnote-labe" ∷ "l\" class=\"sr-only\">Footnotes</h2>\n<ol>\n<li id=\"user-content-fn-a\">\n\n<a href=\"#user-content-fnref-a\" data-footnote-backref=\"\" aria-label=\"Back to content\" class=\"data-footnote-backref\">â\u{86}©</a>\n</li>\n</" ∷ "ol>\n</section>\n" ∷ []))
unfolding running
v31 = tt

v32 : T (shows (off Cr) ("a\n" ∷ []) (enter 63 ∷ enter 64 ∷ enter 65 ∷ exit 65 0 1 ∷ exit 64 0 1 ∷ enter 35 ∷ enter 36 ∷ exit 36 1 2 ∷ exit 35 1 2 ∷ exit 63 0 2 ∷ enter 12 ∷ enter 62 ∷ enter 47 ∷ enter 48 ∷ exit 48 0 1 ∷ exit 47 0 1 ∷ exit 62 0 1 ∷ exit 12 0 1 ∷ []) ("<p><sup><a href=\"#user-content-fn-a\" id=\"user-content-fnref-a\" data-footnote-ref=\"\" aria-describedby=\"footnote-label\">1</a></sup></p>\r<section data-footnotes=\"\" class=\"footnotes\"><h2 id=\"footnote-labe" ∷ "l\" class=\"sr-only\">Footnotes</h2>\r<ol>\r<li id=\"user-content-fn-a\">\r\n<a href=\"#user-content-fnref-a\" data-footnote-backref=\"\" aria-label=\"Back to content\" class=\"data-footnote-backref\">â\u{86}©</a>\r</li>\r</" ∷ "ol>\r</section>\r" ∷ []))
unfolding running
v32 = tt

v33 : T (shows (off CrLf) ("a\n" ∷ []) (enter 63 ∷ enter 64 ∷ enter 65 ∷ exit 65 0 1 ∷ exit 64 0 1 ∷ enter 35 ∷ enter 36 ∷ exit 36 1 2 ∷ exit 35 1 2 ∷ exit 63 0 2 ∷ enter 12 ∷ enter 62 ∷ enter 47 ∷ enter 48 ∷ exit 48 0 1 ∷ exit 47 0 1 ∷ exit 62 0 1 ∷ exit 12 0 1 ∷ []) ("<p><sup><a href=\"#user-content-fn-a\" id=\"user-content-fnref-a\" data-footnote-ref=\"\" aria-describedby=\"footnote-label\">1</a></sup></p>\r\n<section data-footnotes=\"\" class=\"footnotes\"><h2 id=\"footnote-lab" ∷ "el\" class=\"sr-only\">Footnotes</h2>\r\n<ol>\r\n<li id=\"user-content-fn-a\">\r\n\n<a href=\"#user-content-fnref-a\" data-footnote-backref=\"\" aria-label=\"Back to content\" class=\"data-footnote-backref\">â\u{86}©</a>\r\n</l" ∷ "i>\r\n</ol>\r\n</section>\r\n" ∷ []))
unfolding running
v33 = tt

v34 : T (shows (off Lf) ("a </p>\n\n" ∷ []) (enter 63 ∷ enter 64 ∷ enter 65 ∷ exit 65 0 1 ∷ exit 64 0 1 ∷ enter 35 ∷ enter 36 ∷ exit 36 2 8 ∷ exit 35 2 8 ∷ exit 63 0 8 ∷ enter 12 ∷ enter 62 ∷ enter 47 ∷ enter 48 ∷ exit 48 0 1 ∷ exit 47 0 1 ∷ exit 62 0 1 ∷ exit 12 0 1 ∷ []) ("<p><sup><a href=\"#user-content-fn-a\" id=\"user-content-fnref-a\" data-footnote-ref=\"\" aria-describedby=\"footnote-label\">1</a></sup></p>\n<section data-footnotes=\"\" class=\"footnotes\"><h2 id=\"footnote-labe" ∷ "l\" class=\"sr-only\">Footnotes</h2>\n<ol>\n<li id=\"user-content-fn-a\">\n&lt;/p&gt;\n\n<a href=\"#user-content-fnref-a\" data-footnote-backref=\"\" aria-label=\"Back to content\" class=\"data-footnote-backref\">â\u{86}©</" ∷ "a>\n</li>\n</ol>\n</section>\n" ∷ []))
unfolding running
v34 = tt

v35 : T (shows (html Lf) ("a </p>\n\n" ∷ []) (enter 63 ∷ enter 64 ∷ enter 65 ∷ exit 65 0 1 ∷ exit 64 0 1 ∷ enter 35 ∷ enter 36 ∷ exit 36 2 8 ∷ exit 35 2 8 ∷ exit 63 0 8 ∷ enter 12 ∷ enter 62 ∷ enter 47 ∷ enter 48 ∷ exit 48 0 1 ∷ exit 47 0 1 ∷ exit 62 0 1 ∷ exit 12 0 1 ∷ []) ("<p><sup><a href=\"#user-content-fn-a\" id=\"user-content-fnref-a\" data-footnote-ref=\"\" aria-describedby=\"footnote-label\">1</a></sup></p>\n<section data-footnotes=\"\" class=\"footnotes\"><h2 id=\"footnote-labe" ∷ "l\" class=\"sr-only\">Footnotes</h2>\n<ol>\n<li id=\"user-content-fn-a\">\n <a href=\"#user-content-fnref-a\" data-footnote-backref=\"\" aria-label=\"Back to content\" class=\"data-footnote-backref\">â\u{86}©</a></p>\n\n</l" ∷ "i>\n</ol>\n</section>\n" ∷ []))
unfolding running
v35 = tt

v36 : T (shows (on Lf) ("a </p>\n\n" ∷ []) (enter 63 ∷ enter 64 ∷ enter 65 ∷ exit 65 0 1 ∷ exit 64 0 1 ∷ enter 35 ∷ enter 36 ∷ exit 36 2 8 ∷ exit 35 2 8 ∷ exit 63 0 8 ∷ enter 12 ∷ enter 62 ∷ enter 47 ∷ enter 48 ∷ exit 48 0 1 ∷ exit 47 0 1 ∷ exit 62 0 1 ∷ exit 12 0 1 ∷ []) ("<p><sup><a href=\"#user-content-fn-a\" id=\"user-content-fnref-a\" data-footnote-ref=\"\" aria-describedby=\"footnote-label\">1</a></sup></p>\n<section data-footnotes=\"\" class=\"footnotes\"><h2 id=\"footnote-labe" ∷ "l\" class=\"sr-only\">Footnotes</h2>\n<ol>\n<li id=\"user-content-fn-a\">\n <a href=\"#user-content-fnref-a\" data-footnote-backref=\"\" aria-label=\"Back to content\" class=\"data-footnote-backref\">â\u{86}©</a></p>\n\n</l" ∷ "i>\n</ol>\n</section>\n" ∷ []))
unfolding running
v36 = tt

v37 : T (shows (off Cr) ("a </p>\n\n" ∷ []) (enter 63 ∷ enter 64 ∷ enter 65 ∷ exit 65 0 1 ∷ exit 64 0 1 ∷ enter 35 ∷ enter 36 ∷ exit 36 2 8 ∷ exit 35 2 8 ∷ exit 63 0 8 ∷ enter 12 ∷ enter 62 ∷ enter 47 ∷ enter 48 ∷ exit 48 0 1 ∷ exit 47 0 1 ∷ exit 62 0 1 ∷ exit 12 0 1 ∷ []) ("<p><sup><a href=\"#user-content-fn-a\" id=\"user-content-fnref-a\" data-footnote-ref=\"\" aria-describedby=\"footnote-label\">1</a></sup></p>\r<section data-footnotes=\"\" class=\"footnotes\"><h2 id=\"footnote-labe" ∷ "l\" class=\"sr-only\">Footnotes</h2>\r<ol>\r<li id=\"user-content-fn-a\">\r&lt;/p&gt;\n\n<a href=\"#user-content-fnref-a\" data-footnote-backref=\"\" aria-label=\"Back to content\" class=\"data-footnote-backref\">â\u{86}©</" ∷ "a>\r</li>\r</ol>\r</section>\r" ∷ []))
unfolding running
v37 = tt

v38 : T (shows (off CrLf) ("a </p>\n\n" ∷ []) (enter 63 ∷ enter 64 ∷ enter 65 ∷ exit 65 0 1 ∷ exit 64 0 1 ∷ enter 35 ∷ enter 36 ∷ exit 36 2 8 ∷ exit 35 2 8 ∷ exit 63 0 8 ∷ enter 12 ∷ enter 62 ∷ enter 47 ∷ enter 48 ∷ exit 48 0 1 ∷ exit 47 0 1 ∷ exit 62 0 1 ∷ exit 12 0 1 ∷ []) ("<p><sup><a href=\"#user-content-fn-a\" id=\"user-content-fnref-a\" data-footnote-ref=\"\" aria-describedby=\"footnote-label\">1</a></sup></p>\r\n<section data-footnotes=\"\" class=\"footnotes\"><h2 id=\"footnote-lab" ∷ "el\" class=\"sr-only\">Footnotes</h2>\r\n<ol>\r\n<li id=\"user-content-fn-a\">\r\n&lt;/p&gt;\n\n<a href=\"#user-content-fnref-a\" data-footnote-backref=\"\" aria-label=\"Back to content\" class=\"data-footnote-backref\">â" ∷ "\u{86}©</a>\r\n</li>\r\n</ol>\r\n</section>\r\n" ∷ []))
unfolding running
v38 = tt

v39 : T (shows (off Lf) ("a </p>." ∷ []) (enter 63 ∷ enter 64 ∷ enter 65 ∷ exit 65 0 1 ∷ exit 64 0 1 ∷ enter 35 ∷ enter 36 ∷ exit 36 2 7 ∷ exit 35 2 7 ∷ exit 63 0 7 ∷ enter 12 ∷ enter 62 ∷ enter 47 ∷ enter 48 ∷ exit 48 0 1 ∷ exit 47 0 1 ∷ exit 62 0 1 ∷ exit 12 0 1 ∷ []) ("<p><sup><a href=\"#user-content-fn-a\" id=\"user-content-fnref-a\" data-footnote-ref=\"\" aria-describedby=\"footnote-label\">1</a></sup></p>\n<section data-footnotes=\"\" class=\"footnotes\"><h2 id=\"footnote-labe" ∷ "l\" class=\"sr-only\">Footnotes</h2>\n<ol>\n<li id=\"user-content-fn-a\">\n&lt;/p&gt;.\n<a href=\"#user-content-fnref-a\" data-footnote-backref=\"\" aria-label=\"Back to content\" class=\"data-footnote-backref\">â\u{86}©</" ∷ "a>\n</li>\n</ol>\n</section>\n" ∷ []))
unfolding running
v39 = tt

v40 : T (shows (html Lf) ("a </p>." ∷ []) (enter 63 ∷ enter 64 ∷ enter 65 ∷ exit 65 0 1 ∷ exit 64 0 1 ∷ enter 35 ∷ enter 36 ∷ exit 36 2 7 ∷ exit 35 2 7 ∷ exit 63 0 7 ∷ enter 12 ∷ enter 62 ∷ enter 47 ∷ enter 48 ∷ exit 48 0 1 ∷ exit 47 0 1 ∷ exit 62 0 1 ∷ exit 12 0 1 ∷ []) ("<p><sup><a href=\"#user-content-fn-a\" id=\"user-content-fnref-a\" data-footnote-ref=\"\" aria-describedby=\"footnote-label\">1</a></sup></p>\n<section data-footnotes=\"\" class=\"footnotes\"><h2 id=\"footnote-labe" ∷ "l\" class=\"sr-only\">Footnotes</h2>\n<ol>\n<li id=\"user-content-fn-a\">\n</p>.\n<a href=\"#user-content-fnref-a\" data-footnote-backref=\"\" aria-label=\"Back to content\" class=\"data-footnote-backref\">â\u{86}©</a>\n</l" ∷ "i>\n</ol>\n</section>\n" ∷ []))
unfolding running
v40 = tt

v41 : T (shows (on Lf) ("a </p>." ∷ []) (enter 63 ∷ enter 64 ∷ enter 65 ∷ exit 65 0 1 ∷ exit 64 0 1 ∷ enter 35 ∷ enter 36 ∷ exit 36 2 7 ∷ exit 35 2 7 ∷ exit 63 0 7 ∷ enter 12 ∷ enter 62 ∷ enter 47 ∷ enter 48 ∷ exit 48 0 1 ∷ exit 47 0 1 ∷ exit 62 0 1 ∷ exit 12 0 1 ∷ []) ("<p><sup><a href=\"#user-content-fn-a\" id=\"user-content-fnref-a\" data-footnote-ref=\"\" aria-describedby=\"footnote-label\">1</a></sup></p>\n<section data-footnotes=\"\" class=\"footnotes\"><h2 id=\"footnote-labe" ∷ "l\" class=\"sr-only\">Footnotes</h2>\n<ol>\n<li id=\"user-content-fn-a\">\n</p>.\n<a href=\"#user-content-fnref-a\" data-footnote-backref=\"\" aria-label=\"Back to content\" class=\"data-footnote-backref\">â\u{86}©</a>\n</l" ∷ "i>\n</ol>\n</section>\n" ∷ []))
unfolding running
v41 = tt

v42 : T (shows (off Cr) ("a </p>." ∷ []) (enter 63 ∷ enter 64 ∷ enter 65 ∷ exit 65 0 1 ∷ exit 64 0 1 ∷ enter 35 ∷ enter 36 ∷ exit 36 2 7 ∷ exit 35 2 7 ∷ exit 63 0 7 ∷ enter 12 ∷ enter 62 ∷ enter 47 ∷ enter 48 ∷ exit 48 0 1 ∷ exit 47 0 1 ∷ exit 62 0 1 ∷ exit 12 0 1 ∷ []) ("<p><sup><a href=\"#user-content-fn-a\" id=\"user-content-fnref-a\" data-footnote-ref=\"\" aria-describedby=\"footnote-label\">1</a></sup></p>\r<section data-footnotes=\"\" class=\"footnotes\"><h2 id=\"footnote-labe" ∷ "l\" class=\"sr-only\">Footnotes</h2>\r<ol>\r<li id=\"user-content-fn-a\">\r&lt;/p&gt;.\r<a href=\"#user-content-fnref-a\" data-footnote-backref=\"\" aria-label=\"Back to content\" class=\"data-footnote-backref\">â\u{86}©</" ∷ "a>\r</li>\r</ol>\r</section>\r" ∷ []))
unfolding running
v42 = tt

v43 : T (shows (off CrLf) ("a </p>." ∷ []) (enter 63 ∷ enter 64 ∷ enter 65 ∷ exit 65 0 1 ∷ exit 64 0 1 ∷ enter 35 ∷ enter 36 ∷ exit 36 2 7 ∷ exit 35 2 7 ∷ exit 63 0 7 ∷ enter 12 ∷ enter 62 ∷ enter 47 ∷ enter 48 ∷ exit 48 0 1 ∷ exit 47 0 1 ∷ exit 62 0 1 ∷ exit 12 0 1 ∷ []) ("<p><sup><a href=\"#user-content-fn-a\" id=\"user-content-fnref-a\" data-footnote-ref=\"\" aria-describedby=\"footnote-label\">1</a></sup></p>\r\n<section data-footnotes=\"\" class=\"footnotes\"><h2 id=\"footnote-lab" ∷ "el\" class=\"sr-only\">Footnotes</h2>\r\n<ol>\r\n<li id=\"user-content-fn-a\">\r\n&lt;/p&gt;.\r\n<a href=\"#user-content-fnref-a\" data-footnote-backref=\"\" aria-label=\"Back to content\" class=\"data-footnote-backref\">" ∷ "â\u{86}©</a>\r\n</li>\r\n</ol>\r\n</section>\r\n" ∷ []))
unfolding running
v43 = tt

v44 : T (shows (off Lf) ("a" ∷ []) (enter 63 ∷ enter 64 ∷ enter 65 ∷ exit 65 0 1 ∷ exit 64 0 1 ∷ enter 63 ∷ enter 64 ∷ enter 65 ∷ exit 65 0 1 ∷ exit 64 0 1 ∷ enter 19 ∷ exit 19 0 0 ∷ exit 63 0 1 ∷ enter 12 ∷ exit 12 0 0 ∷ exit 63 0 1 ∷ enter 12 ∷ enter 62 ∷ enter 47 ∷ enter 48 ∷ exit 48 0 1 ∷ exit 47 0 1 ∷ exit 62 0 1 ∷ exit 12 0 1 ∷ []) ("<p><sup><a href=\"#user-content-fn-a\" id=\"user-content-fnref-a\" data-footnote-ref=\"\" aria-describedby=\"footnote-label\">1</a></sup></p>\n<section data-footnotes=\"\" class=\"footnotes\"><h2 id=\"footnote-labe" ∷ "l\" class=\"sr-only\">Footnotes</h2>\n<ol>\n<li id=\"user-content-fn-a\">\n<hr />\n<a href=\"#user-content-fnref-a\" data-footnote-backref=\"\" aria-label=\"Back to content\" class=\"data-footnote-backref\">â\u{86}©</a>\n</" ∷ "li>\n</ol>\n</section>\n" ∷ []))
unfolding running
v44 = tt

v45 : T (shows (off Cr) ("a" ∷ []) (enter 63 ∷ enter 64 ∷ enter 65 ∷ exit 65 0 1 ∷ exit 64 0 1 ∷ enter 63 ∷ enter 64 ∷ enter 65 ∷ exit 65 0 1 ∷ exit 64 0 1 ∷ enter 19 ∷ exit 19 0 0 ∷ exit 63 0 1 ∷ enter 12 ∷ exit 12 0 0 ∷ exit 63 0 1 ∷ enter 12 ∷ enter 62 ∷ enter 47 ∷ enter 48 ∷ exit 48 0 1 ∷ exit 47 0 1 ∷ exit 62 0 1 ∷ exit 12 0 1 ∷ []) ("<p><sup><a href=\"#user-content-fn-a\" id=\"user-content-fnref-a\" data-footnote-ref=\"\" aria-describedby=\"footnote-label\">1</a></sup></p>\r<section data-footnotes=\"\" class=\"footnotes\"><h2 id=\"footnote-labe" ∷ "l\" class=\"sr-only\">Footnotes</h2>\r<ol>\r<li id=\"user-content-fn-a\">\r<hr />\r<a href=\"#user-content-fnref-a\" data-footnote-backref=\"\" aria-label=\"Back to content\" class=\"data-footnote-backref\">â\u{86}©</a>\r</" ∷ "li>\r</ol>\r</section>\r" ∷ []))
unfolding running
v45 = tt

v46 : T (shows (off CrLf) ("a" ∷ []) (enter 63 ∷ enter 64 ∷ enter 65 ∷ exit 65 0 1 ∷ exit 64 0 1 ∷ enter 63 ∷ enter 64 ∷ enter 65 ∷ exit 65 0 1 ∷ exit 64 0 1 ∷ enter 19 ∷ exit 19 0 0 ∷ exit 63 0 1 ∷ enter 12 ∷ exit 12 0 0 ∷ exit 63 0 1 ∷ enter 12 ∷ enter 62 ∷ enter 47 ∷ enter 48 ∷ exit 48 0 1 ∷ exit 47 0 1 ∷ exit 62 0 1 ∷ exit 12 0 1 ∷ []) ("<p><sup><a href=\"#user-content-fn-a\" id=\"user-content-fnref-a\" data-footnote-ref=\"\" aria-describedby=\"footnote-label\">1</a></sup></p>\r\n<section data-footnotes=\"\" class=\"footnotes\"><h2 id=\"footnote-lab" ∷ "el\" class=\"sr-only\">Footnotes</h2>\r\n<ol>\r\n<li id=\"user-content-fn-a\">\r\n<hr />\r\n<a href=\"#user-content-fnref-a\" data-footnote-backref=\"\" aria-label=\"Back to content\" class=\"data-footnote-backref\">â\u{86}©</" ∷ "a>\r\n</li>\r\n</ol>\r\n</section>\r\n" ∷ []))
unfolding running
v46 = tt

v47 : T (shows (off Lf) ("a" ∷ []) (enter 22 ∷ enter 23 ∷ enter 24 ∷ enter 25 ∷ exit 25 0 0 ∷ exit 24 0 0 ∷ enter 12 ∷ exit 12 0 0 ∷ enter 63 ∷ enter 64 ∷ enter 65 ∷ exit 65 0 1 ∷ exit 64 0 1 ∷ enter 12 ∷ exit 12 0 0 ∷ exit 63 0 1 ∷ exit 23 0 1 ∷ exit 22 0 1 ∷ enter 12 ∷ enter 62 ∷ enter 47 ∷ enter 48 ∷ exit 48 0 1 ∷ exit 47 0 1 ∷ exit 62 0 1 ∷ exit 12 0 1 ∷ []) ("<ul>\n<li></li>\n</ul>\n<p><sup><a href=\"#user-content-fn-a\" id=\"user-content-fnref-a\" data-footnote-ref=\"\" aria-describedby=\"footnote-label\">1</a></sup></p>\n<section data-footnotes=\"\" class=\"footnotes\">" ∷ "<h2 id=\"footnote-label\" class=\"sr-only\">Footnotes</h2>\n<ol>\n<li id=\"user-content-fn-a\">\n<p> <a href=\"#user-content-fnref-a\" data-footnote-backref=\"\" aria-label=\"Back to content\" class=\"data-footnote-b" ∷ "ackref\">â\u{86}©</a></p>\n</li>\n</ol>\n</section>\n" ∷ []))
unfolding running
v47 = tt

v48 : T (shows (off Cr) ("a" ∷ []) (enter 22 ∷ enter 23 ∷ enter 24 ∷ enter 25 ∷ exit 25 0 0 ∷ exit 24 0 0 ∷ enter 12 ∷ exit 12 0 0 ∷ enter 63 ∷ enter 64 ∷ enter 65 ∷ exit 65 0 1 ∷ exit 64 0 1 ∷ enter 12 ∷ exit 12 0 0 ∷ exit 63 0 1 ∷ exit 23 0 1 ∷ exit 22 0 1 ∷ enter 12 ∷ enter 62 ∷ enter 47 ∷ enter 48 ∷ exit 48 0 1 ∷ exit 47 0 1 ∷ exit 62 0 1 ∷ exit 12 0 1 ∷ []) ("<ul>\r<li></li>\r</ul>\r<p><sup><a href=\"#user-content-fn-a\" id=\"user-content-fnref-a\" data-footnote-ref=\"\" aria-describedby=\"footnote-label\">1</a></sup></p>\r<section data-footnotes=\"\" class=\"footnotes\">" ∷ "<h2 id=\"footnote-label\" class=\"sr-only\">Footnotes</h2>\r<ol>\r<li id=\"user-content-fn-a\">\r<p> <a href=\"#user-content-fnref-a\" data-footnote-backref=\"\" aria-label=\"Back to content\" class=\"data-footnote-b" ∷ "ackref\">â\u{86}©</a></p>\r</li>\r</ol>\r</section>\r" ∷ []))
unfolding running
v48 = tt

v49 : T (shows (off CrLf) ("a" ∷ []) (enter 22 ∷ enter 23 ∷ enter 24 ∷ enter 25 ∷ exit 25 0 0 ∷ exit 24 0 0 ∷ enter 12 ∷ exit 12 0 0 ∷ enter 63 ∷ enter 64 ∷ enter 65 ∷ exit 65 0 1 ∷ exit 64 0 1 ∷ enter 12 ∷ exit 12 0 0 ∷ exit 63 0 1 ∷ exit 23 0 1 ∷ exit 22 0 1 ∷ enter 12 ∷ enter 62 ∷ enter 47 ∷ enter 48 ∷ exit 48 0 1 ∷ exit 47 0 1 ∷ exit 62 0 1 ∷ exit 12 0 1 ∷ []) ("<ul>\r\n<li></li>\r\n</ul>\r\n<p><sup><a href=\"#user-content-fn-a\" id=\"user-content-fnref-a\" data-footnote-ref=\"\" aria-describedby=\"footnote-label\">1</a></sup></p>\r\n<section data-footnotes=\"\" class=\"footnot" ∷ "es\"><h2 id=\"footnote-label\" class=\"sr-only\">Footnotes</h2>\r\n<ol>\r\n<li id=\"user-content-fn-a\">\r\n<p> <a href=\"#user-content-fnref-a\" data-footnote-backref=\"\" aria-label=\"Back to content\" class=\"data-foo" ∷ "tnote-backref\">â\u{86}©</a></p>\r\n</li>\r\n</ol>\r\n</section>\r\n" ∷ []))
unfolding running
v49 = tt

v50 : T (shows (off Lf) ("a" ∷ []) (enter 22 ∷ enter 23 ∷ enter 24 ∷ enter 25 ∷ exit 25 0 0 ∷ exit 24 0 0 ∷ enter 12 ∷ exit 12 0 0 ∷ enter 53 ∷ enter 54 ∷ exit 54 0 1 ∷ exit 53 0 1 ∷ exit 23 0 1 ∷ exit 22 0 1 ∷ []) ("<ul>\n<li></li>\n</ul>" ∷ []))
unfolding running
v50 = tt

v51 : T (shows (off Cr) ("a" ∷ []) (enter 22 ∷ enter 23 ∷ enter 24 ∷ enter 25 ∷ exit 25 0 0 ∷ exit 24 0 0 ∷ enter 12 ∷ exit 12 0 0 ∷ enter 53 ∷ enter 54 ∷ exit 54 0 1 ∷ exit 53 0 1 ∷ exit 23 0 1 ∷ exit 22 0 1 ∷ []) ("<ul>\r<li></li>\r</ul>" ∷ []))
unfolding running
v51 = tt

v52 : T (shows (off CrLf) ("a" ∷ []) (enter 22 ∷ enter 23 ∷ enter 24 ∷ enter 25 ∷ exit 25 0 0 ∷ exit 24 0 0 ∷ enter 12 ∷ exit 12 0 0 ∷ enter 53 ∷ enter 54 ∷ exit 54 0 1 ∷ exit 53 0 1 ∷ exit 23 0 1 ∷ exit 22 0 1 ∷ []) ("<ul>\r\n<li></li>\r\n</ul>" ∷ []))
unfolding running
v52 = tt

v53 : T (shows (off Lf) ("a." ∷ []) (enter 12 ∷ enter 46 ∷ enter 47 ∷ enter 48 ∷ enter 46 ∷ enter 47 ∷ enter 48 ∷ enter 39 ∷ enter 5 ∷ exit 5 0 1 ∷ exit 39 0 1 ∷ exit 48 0 1 ∷ exit 47 0 1 ∷ enter 49 ∷ exit 49 1 2 ∷ exit 46 0 2 ∷ enter 39 ∷ exit 39 0 0 ∷ enter 62 ∷ enter 47 ∷ enter 48 ∷ exit 48 0 1 ∷ exit 47 0 1 ∷ exit 62 0 1 ∷ enter 43 ∷ exit 43 0 1 ∷ exit 48 0 2 ∷ exit 47 0 2 ∷ enter 49 ∷ exit 49 1 2 ∷ exit 46 0 2 ∷ enter 39 ∷ exit 39 0 0 ∷ enter 62 ∷ enter 47 ∷ enter 48 ∷ exit 48 0 1 ∷ exit 47 0 1 ∷ exit 62 0 1 ∷ exit 12 0 2 ∷ enter 63 ∷ enter 64 ∷ enter 65 ∷ exit 65 0 1 ∷ exit 64 0 1 ∷ exit 63 0 1 ∷ []) ("<p><img src=\"\" alt=\"aa\" /><em></em><sup><a href=\"#user-content-fn-a\" id=\"user-content-fnref-a-2\" data-footnote-ref=\"\" aria-describedby=\"footnote-label\">1</a></sup></p>\n<section data-footnotes=\"\" class" ∷ "=\"footnotes\"><h2 id=\"footnote-label\" class=\"sr-only\">Footnotes</h2>\n<ol>\n<li id=\"user-content-fn-a\">\n<a href=\"#user-content-fnref-a\" data-footnote-backref=\"\" aria-label=\"Back to content\" class=\"data-f" ∷ "ootnote-backref\">â\u{86}©</a> <a href=\"#user-content-fnref-a-2\" data-footnote-backref=\"\" aria-label=\"Back to content\" class=\"data-footnote-backref\">â\u{86}©<sup>2</sup></a>\n</li>\n</ol>\n</section>\n" ∷ []))
unfolding running
v53 = tt

v54 : T (shows (off Cr) ("a." ∷ []) (enter 12 ∷ enter 46 ∷ enter 47 ∷ enter 48 ∷ enter 46 ∷ enter 47 ∷ enter 48 ∷ enter 39 ∷ enter 5 ∷ exit 5 0 1 ∷ exit 39 0 1 ∷ exit 48 0 1 ∷ exit 47 0 1 ∷ enter 49 ∷ exit 49 1 2 ∷ exit 46 0 2 ∷ enter 39 ∷ exit 39 0 0 ∷ enter 62 ∷ enter 47 ∷ enter 48 ∷ exit 48 0 1 ∷ exit 47 0 1 ∷ exit 62 0 1 ∷ enter 43 ∷ exit 43 0 1 ∷ exit 48 0 2 ∷ exit 47 0 2 ∷ enter 49 ∷ exit 49 1 2 ∷ exit 46 0 2 ∷ enter 39 ∷ exit 39 0 0 ∷ enter 62 ∷ enter 47 ∷ enter 48 ∷ exit 48 0 1 ∷ exit 47 0 1 ∷ exit 62 0 1 ∷ exit 12 0 2 ∷ enter 63 ∷ enter 64 ∷ enter 65 ∷ exit 65 0 1 ∷ exit 64 0 1 ∷ exit 63 0 1 ∷ []) ("<p><img src=\"\" alt=\"aa\" /><em></em><sup><a href=\"#user-content-fn-a\" id=\"user-content-fnref-a-2\" data-footnote-ref=\"\" aria-describedby=\"footnote-label\">1</a></sup></p>\r<section data-footnotes=\"\" class" ∷ "=\"footnotes\"><h2 id=\"footnote-label\" class=\"sr-only\">Footnotes</h2>\r<ol>\r<li id=\"user-content-fn-a\">\r<a href=\"#user-content-fnref-a\" data-footnote-backref=\"\" aria-label=\"Back to content\" class=\"data-f" ∷ "ootnote-backref\">â\u{86}©</a> <a href=\"#user-content-fnref-a-2\" data-footnote-backref=\"\" aria-label=\"Back to content\" class=\"data-footnote-backref\">â\u{86}©<sup>2</sup></a>\r</li>\r</ol>\r</section>\r" ∷ []))
unfolding running
v54 = tt

v55 : T (shows (off CrLf) ("a." ∷ []) (enter 12 ∷ enter 46 ∷ enter 47 ∷ enter 48 ∷ enter 46 ∷ enter 47 ∷ enter 48 ∷ enter 39 ∷ enter 5 ∷ exit 5 0 1 ∷ exit 39 0 1 ∷ exit 48 0 1 ∷ exit 47 0 1 ∷ enter 49 ∷ exit 49 1 2 ∷ exit 46 0 2 ∷ enter 39 ∷ exit 39 0 0 ∷ enter 62 ∷ enter 47 ∷ enter 48 ∷ exit 48 0 1 ∷ exit 47 0 1 ∷ exit 62 0 1 ∷ enter 43 ∷ exit 43 0 1 ∷ exit 48 0 2 ∷ exit 47 0 2 ∷ enter 49 ∷ exit 49 1 2 ∷ exit 46 0 2 ∷ enter 39 ∷ exit 39 0 0 ∷ enter 62 ∷ enter 47 ∷ enter 48 ∷ exit 48 0 1 ∷ exit 47 0 1 ∷ exit 62 0 1 ∷ exit 12 0 2 ∷ enter 63 ∷ enter 64 ∷ enter 65 ∷ exit 65 0 1 ∷ exit 64 0 1 ∷ exit 63 0 1 ∷ []) ("<p><img src=\"\" alt=\"aa\" /><em></em><sup><a href=\"#user-content-fn-a\" id=\"user-content-fnref-a-2\" data-footnote-ref=\"\" aria-describedby=\"footnote-label\">1</a></sup></p>\r\n<section data-footnotes=\"\" clas" ∷ "s=\"footnotes\"><h2 id=\"footnote-label\" class=\"sr-only\">Footnotes</h2>\r\n<ol>\r\n<li id=\"user-content-fn-a\">\r\n<a href=\"#user-content-fnref-a\" data-footnote-backref=\"\" aria-label=\"Back to content\" class=\"da" ∷ "ta-footnote-backref\">â\u{86}©</a> <a href=\"#user-content-fnref-a-2\" data-footnote-backref=\"\" aria-label=\"Back to content\" class=\"data-footnote-backref\">â\u{86}©<sup>2</sup></a>\r\n</li>\r\n</ol>\r\n</section>\r\n" ∷ []))
unfolding running
v55 = tt

v56 : T (shows (off Lf) ("a" ∷ []) (enter_with 57 1 ∷ enter 58 ∷ enter 60 ∷ enter 61 ∷ enter 62 ∷ enter 47 ∷ enter 48 ∷ exit 48 0 1 ∷ exit 47 0 1 ∷ exit 62 0 1 ∷ exit 61 0 1 ∷ enter 61 ∷ enter 62 ∷ enter 47 ∷ enter 48 ∷ exit 48 0 1 ∷ exit 47 0 1 ∷ exit 62 0 1 ∷ exit 61 0 1 ∷ exit 60 0 1 ∷ exit 58 0 1 ∷ exit 57 0 1 ∷ enter 63 ∷ enter 64 ∷ enter 65 ∷ exit 65 0 1 ∷ exit 64 0 1 ∷ exit 63 0 1 ∷ []) ("<table>\n<thead>\n<tr>\n<th><sup><a href=\"#user-content-fn-a\" id=\"user-content-fnref-a\" data-footnote-ref=\"\" aria-describedby=\"footnote-label\">1</a></sup></th>\n</tr>\n</thead>\n</table>\n<section data-footn" ∷ "otes=\"\" class=\"footnotes\"><h2 id=\"footnote-label\" class=\"sr-only\">Footnotes</h2>\n<ol>\n<li id=\"user-content-fn-a\">\n<a href=\"#user-content-fnref-a\" data-footnote-backref=\"\" aria-label=\"Back to content\" " ∷ "class=\"data-footnote-backref\">â\u{86}©</a> <a href=\"#user-content-fnref-a-2\" data-footnote-backref=\"\" aria-label=\"Back to content\" class=\"data-footnote-backref\">â\u{86}©<sup>2</sup></a>\n</li>\n</ol>\n</section>\n" ∷ []))
unfolding running
v56 = tt

v57 : T (shows (off Cr) ("a" ∷ []) (enter_with 57 1 ∷ enter 58 ∷ enter 60 ∷ enter 61 ∷ enter 62 ∷ enter 47 ∷ enter 48 ∷ exit 48 0 1 ∷ exit 47 0 1 ∷ exit 62 0 1 ∷ exit 61 0 1 ∷ enter 61 ∷ enter 62 ∷ enter 47 ∷ enter 48 ∷ exit 48 0 1 ∷ exit 47 0 1 ∷ exit 62 0 1 ∷ exit 61 0 1 ∷ exit 60 0 1 ∷ exit 58 0 1 ∷ exit 57 0 1 ∷ enter 63 ∷ enter 64 ∷ enter 65 ∷ exit 65 0 1 ∷ exit 64 0 1 ∷ exit 63 0 1 ∷ []) ("<table>\r<thead>\r<tr>\r<th><sup><a href=\"#user-content-fn-a\" id=\"user-content-fnref-a\" data-footnote-ref=\"\" aria-describedby=\"footnote-label\">1</a></sup></th>\r</tr>\r</thead>\r</table>\r<section data-footn" ∷ "otes=\"\" class=\"footnotes\"><h2 id=\"footnote-label\" class=\"sr-only\">Footnotes</h2>\r<ol>\r<li id=\"user-content-fn-a\">\r<a href=\"#user-content-fnref-a\" data-footnote-backref=\"\" aria-label=\"Back to content\" " ∷ "class=\"data-footnote-backref\">â\u{86}©</a> <a href=\"#user-content-fnref-a-2\" data-footnote-backref=\"\" aria-label=\"Back to content\" class=\"data-footnote-backref\">â\u{86}©<sup>2</sup></a>\r</li>\r</ol>\r</section>\r" ∷ []))
unfolding running
v57 = tt

v58 : T (shows (off CrLf) ("a" ∷ []) (enter_with 57 1 ∷ enter 58 ∷ enter 60 ∷ enter 61 ∷ enter 62 ∷ enter 47 ∷ enter 48 ∷ exit 48 0 1 ∷ exit 47 0 1 ∷ exit 62 0 1 ∷ exit 61 0 1 ∷ enter 61 ∷ enter 62 ∷ enter 47 ∷ enter 48 ∷ exit 48 0 1 ∷ exit 47 0 1 ∷ exit 62 0 1 ∷ exit 61 0 1 ∷ exit 60 0 1 ∷ exit 58 0 1 ∷ exit 57 0 1 ∷ enter 63 ∷ enter 64 ∷ enter 65 ∷ exit 65 0 1 ∷ exit 64 0 1 ∷ exit 63 0 1 ∷ []) ("<table>\r\n<thead>\r\n<tr>\r\n<th><sup><a href=\"#user-content-fn-a\" id=\"user-content-fnref-a\" data-footnote-ref=\"\" aria-describedby=\"footnote-label\">1</a></sup></th>\r\n</tr>\r\n</thead>\r\n</table>\r\n<section dat" ∷ "a-footnotes=\"\" class=\"footnotes\"><h2 id=\"footnote-label\" class=\"sr-only\">Footnotes</h2>\r\n<ol>\r\n<li id=\"user-content-fn-a\">\r\n<a href=\"#user-content-fnref-a\" data-footnote-backref=\"\" aria-label=\"Back to" ∷ " content\" class=\"data-footnote-backref\">â\u{86}©</a> <a href=\"#user-content-fnref-a-2\" data-footnote-backref=\"\" aria-label=\"Back to content\" class=\"data-footnote-backref\">â\u{86}©<sup>2</sup></a>\r\n</li>\r\n</ol>\r" ∷ "\n</section>\r\n" ∷ []))
unfolding running
v58 = tt

v59 : T (shows (off Lf) ("a=\n" ∷ []) (enter 22 ∷ enter 23 ∷ enter 24 ∷ enter 25 ∷ exit 25 0 0 ∷ exit 24 0 0 ∷ enter 16 ∷ enter 17 ∷ enter 5 ∷ exit 5 0 1 ∷ exit 17 0 1 ∷ enter 18 ∷ exit 18 1 2 ∷ exit 16 0 2 ∷ exit 23 0 2 ∷ exit 22 0 2 ∷ enter 3 ∷ exit 3 2 3 ∷ []) ("<ul>\n<li>\n<h1>a</h1>\n</li>\n</ul>\n" ∷ []))
unfolding running
v59 = tt
