-- Footnotes: pages of the crate markdown 1.0.0. Made by tools/machine_pages. Assumes nothing.
use mathlib.Core.List.{[], ◌∷◌}
use lib.Dec.{T}
use Rattle.machine.specs.declared.Ending.TheVariants.{Lf}
use Rattle.machine.proofs.Running.{running}
use Rattle.machine.proofs.Answers.{shows, off, html, on, enter, exit, enter_with}

v1 : T (shows (off Lf) ("[^a]\n\n[^a]: b" ∷ []) (enter 12 ∷ enter 62 ∷ enter 47 ∷ enter 0 ∷ enter 0 ∷ exit 0 0 1 ∷ enter 0 ∷ exit 0 1 2 ∷ exit 0 0 2 ∷ enter 48 ∷ enter 5 ∷ exit 5 2 3 ∷ exit 48 2 3 ∷ enter 0 ∷ enter 0 ∷ exit 0 3 4 ∷ exit 0 3 4 ∷ exit 47 0 4 ∷ exit 62 0 4 ∷ exit 12 0 4 ∷ enter 3 ∷ exit 3 4 5 ∷ enter 4 ∷ exit 4 5 6 ∷ enter 63 ∷ enter 64 ∷ enter 0 ∷ enter 0 ∷ exit 0 6 7 ∷ enter 0 ∷ exit 0 7 8 ∷ enter 65 ∷ enter 5 ∷ exit 5 8 9 ∷ exit 65 8 9 ∷ enter 0 ∷ exit 0 9 10 ∷ exit 0 6 10 ∷ enter 0 ∷ exit 0 10 11 ∷ enter 1 ∷ exit 1 11 12 ∷ exit 64 6 12 ∷ enter 12 ∷ enter 5 ∷ exit 5 12 13 ∷ exit 12 12 13 ∷ exit 63 6 13 ∷ []) ("<p><sup><a href=\"#user-content-fn-a\" id=\"user-content-fnref-a\" data-footnote-ref=\"\" aria-describedby=\"footnote-label\">1</a></sup></p>\n<section data-footnotes=\"\" class=\"footnotes\"><h2 id=\"footnote-labe" ∷ "l\" class=\"sr-only\">Footnotes</h2>\n<ol>\n<li id=\"user-content-fn-a\">\n<p>b <a href=\"#user-content-fnref-a\" data-footnote-backref=\"\" aria-label=\"Back to content\" class=\"data-footnote-backref\">â\u{86}©</a></p>\n" ∷ "</li>\n</ol>\n</section>\n" ∷ []))
unfolding running
v1 = tt

v2 : T (shows (off Lf) ("[^a]: b\n\n[^a]" ∷ []) (enter 63 ∷ enter 64 ∷ enter 0 ∷ enter 0 ∷ exit 0 0 1 ∷ enter 0 ∷ exit 0 1 2 ∷ enter 65 ∷ enter 5 ∷ exit 5 2 3 ∷ exit 65 2 3 ∷ enter 0 ∷ exit 0 3 4 ∷ exit 0 0 4 ∷ enter 0 ∷ exit 0 4 5 ∷ enter 1 ∷ exit 1 5 6 ∷ exit 64 0 6 ∷ enter 12 ∷ enter 5 ∷ exit 5 6 7 ∷ exit 12 6 7 ∷ enter 3 ∷ exit 3 7 8 ∷ exit 63 0 8 ∷ enter 4 ∷ exit 4 8 9 ∷ enter 12 ∷ enter 62 ∷ enter 47 ∷ enter 0 ∷ enter 0 ∷ exit 0 9 10 ∷ enter 0 ∷ exit 0 10 11 ∷ exit 0 9 11 ∷ enter 48 ∷ enter 5 ∷ exit 5 11 12 ∷ exit 48 11 12 ∷ enter 0 ∷ enter 0 ∷ exit 0 12 13 ∷ exit 0 12 13 ∷ exit 47 9 13 ∷ exit 62 9 13 ∷ exit 12 9 13 ∷ []) ("<p><sup><a href=\"#user-content-fn-a\" id=\"user-content-fnref-a\" data-footnote-ref=\"\" aria-describedby=\"footnote-label\">1</a></sup></p>\n<section data-footnotes=\"\" class=\"footnotes\"><h2 id=\"footnote-labe" ∷ "l\" class=\"sr-only\">Footnotes</h2>\n<ol>\n<li id=\"user-content-fn-a\">\n<p>b <a href=\"#user-content-fnref-a\" data-footnote-backref=\"\" aria-label=\"Back to content\" class=\"data-footnote-backref\">â\u{86}©</a></p>\n" ∷ "</li>\n</ol>\n</section>\n" ∷ []))
unfolding running
v2 = tt

v3 : T (shows (off Lf) ("[^a][^a] [^b]\n\n[^a]: x\n[^b]: y\n" ∷ []) (enter 12 ∷ enter 62 ∷ enter 47 ∷ enter 0 ∷ enter 0 ∷ exit 0 0 1 ∷ enter 0 ∷ exit 0 1 2 ∷ exit 0 0 2 ∷ enter 48 ∷ enter 5 ∷ exit 5 2 3 ∷ exit 48 2 3 ∷ enter 0 ∷ enter 0 ∷ exit 0 3 4 ∷ exit 0 3 4 ∷ exit 47 0 4 ∷ exit 62 0 4 ∷ enter 62 ∷ enter 47 ∷ enter 0 ∷ enter 0 ∷ exit 0 4 5 ∷ enter 0 ∷ exit 0 5 6 ∷ exit 0 4 6 ∷ enter 48 ∷ enter 5 ∷ exit 5 6 7 ∷ exit 48 6 7 ∷ enter 0 ∷ enter 0 ∷ exit 0 7 8 ∷ exit 0 7 8 ∷ exit 47 4 8 ∷ exit 62 4 8 ∷ enter 5 ∷ exit 5 8 9 ∷ enter 62 ∷ enter 47 ∷ enter 0 ∷ enter 0 ∷ exit 0 9 10 ∷ enter 0 ∷ exit 0 10 11 ∷ exit 0 9 11 ∷ enter 48 ∷ enter 5 ∷ exit 5 11 12 ∷ exit 48 11 12 ∷ enter 0 ∷ enter 0 ∷ exit 0 12 13 ∷ exit 0 12 13 ∷ exit 47 9 13 ∷ exit 62 9 13 ∷ exit 12 0 13 ∷ enter 3 ∷ exit 3 13 14 ∷ enter 4 ∷ exit 4 14 15 ∷ enter 63 ∷ enter 64 ∷ enter 0 ∷ enter 0 ∷ exit 0 15 16 ∷ enter 0 ∷ exit 0 16 17 ∷ enter 65 ∷ enter 5 ∷ exit 5 17 18 ∷ exit 65 17 18 ∷ enter 0 ∷ exit 0 18 19 ∷ exit 0 15 19 ∷ enter 0 ∷ exit 0 19 20 ∷ enter 1 ∷ exit 1 20 21 ∷ exit 64 15 21 ∷ enter 12 ∷ enter 5 ∷ exit 5 21 22 ∷ exit 12 21 22 ∷ exit 63 15 22 ∷ enter 3 ∷ exit 3 22 23 ∷ enter 63 ∷ enter 64 ∷ enter 0 ∷ enter 0 ∷ exit 0 23 24 ∷ enter 0 ∷ exit 0 24 25 ∷ enter 65 ∷ enter 5 ∷ exit 5 25 26 ∷ exit 65 25 26 ∷ enter 0 ∷ exit 0 26 27 ∷ exit 0 23 27 ∷ enter 0 ∷ exit 0 27 28 ∷ enter 1 ∷ exit 1 28 29 ∷ exit 64 23 29 ∷ enter 12 ∷ enter 5 ∷ exit 5 29 30 ∷ exit 12 29 30 ∷ exit 63 23 30 ∷ enter 3 ∷ exit 3 30 31 ∷ []) ("<p><sup><a href=\"#user-content-fn-a\" id=\"user-content-fnref-a\" data-footnote-ref=\"\" aria-describedby=\"footnote-label\">1</a></sup><sup><a href=\"#user-content-fn-a\" id=\"user-content-fnref-a-2\" data-foot" ∷ "note-ref=\"\" aria-describedby=\"footnote-label\">1</a></sup> <sup><a href=\"#user-content-fn-b\" id=\"user-content-fnref-b\" data-footnote-ref=\"\" aria-describedby=\"footnote-label\">2</a></sup></p>\n<section da" ∷ "ta-footnotes=\"\" class=\"footnotes\"><h2 id=\"footnote-label\" class=\"sr-only\">Footnotes</h2>\n<ol>\n<li id=\"user-content-fn-a\">\n<p>x <a href=\"#user-content-fnref-a\" data-footnote-backref=\"\" aria-label=\"Back" ∷ " to content\" class=\"data-footnote-backref\">â\u{86}©</a> <a href=\"#user-content-fnref-a-2\" data-footnote-backref=\"\" aria-label=\"Back to content\" class=\"data-footnote-backref\">â\u{86}©<sup>2</sup></a></p>\n</li>\n<" ∷ "li id=\"user-content-fn-b\">\n<p>y <a href=\"#user-content-fnref-b\" data-footnote-backref=\"\" aria-label=\"Back to content\" class=\"data-footnote-backref\">â\u{86}©</a></p>\n</li>\n</ol>\n</section>\n" ∷ []))
unfolding running
v3 = tt

v4 : T (shows (off Lf) ("[^a]\n\n[^a]:\n    b\n\n    c\n" ∷ []) (enter 12 ∷ enter 62 ∷ enter 47 ∷ enter 0 ∷ enter 0 ∷ exit 0 0 1 ∷ enter 0 ∷ exit 0 1 2 ∷ exit 0 0 2 ∷ enter 48 ∷ enter 5 ∷ exit 5 2 3 ∷ exit 48 2 3 ∷ enter 0 ∷ enter 0 ∷ exit 0 3 4 ∷ exit 0 3 4 ∷ exit 47 0 4 ∷ exit 62 0 4 ∷ exit 12 0 4 ∷ enter 3 ∷ exit 3 4 5 ∷ enter 4 ∷ exit 4 5 6 ∷ enter 63 ∷ enter 64 ∷ enter 0 ∷ enter 0 ∷ exit 0 6 7 ∷ enter 0 ∷ exit 0 7 8 ∷ enter 65 ∷ enter 5 ∷ exit 5 8 9 ∷ exit 65 8 9 ∷ enter 0 ∷ exit 0 9 10 ∷ exit 0 6 10 ∷ enter 0 ∷ exit 0 10 11 ∷ exit 64 6 11 ∷ enter 4 ∷ exit 4 11 12 ∷ enter 1 ∷ exit 1 12 16 ∷ enter 12 ∷ enter 5 ∷ exit 5 16 17 ∷ exit 12 16 17 ∷ enter 3 ∷ exit 3 17 18 ∷ enter 4 ∷ exit 4 18 19 ∷ enter 1 ∷ exit 1 19 23 ∷ enter 12 ∷ enter 5 ∷ exit 5 23 24 ∷ exit 12 23 24 ∷ exit 63 6 24 ∷ enter 3 ∷ exit 3 24 25 ∷ []) ("<p><sup><a href=\"#user-content-fn-a\" id=\"user-content-fnref-a\" data-footnote-ref=\"\" aria-describedby=\"footnote-label\">1</a></sup></p>\n<section data-footnotes=\"\" class=\"footnotes\"><h2 id=\"footnote-labe" ∷ "l\" class=\"sr-only\">Footnotes</h2>\n<ol>\n<li id=\"user-content-fn-a\">\n<p>b</p>\n<p>c <a href=\"#user-content-fnref-a\" data-footnote-backref=\"\" aria-label=\"Back to content\" class=\"data-footnote-backref\">â\u{86}©" ∷ "</a></p>\n</li>\n</ol>\n</section>\n" ∷ []))
unfolding running
v4 = tt

v5 : T (shows (off Lf) ("[^a]\n\n[^a]: b\n\n    - c\n    - d\n" ∷ []) (enter 12 ∷ enter 62 ∷ enter 47 ∷ enter 0 ∷ enter 0 ∷ exit 0 0 1 ∷ enter 0 ∷ exit 0 1 2 ∷ exit 0 0 2 ∷ enter 48 ∷ enter 5 ∷ exit 5 2 3 ∷ exit 48 2 3 ∷ enter 0 ∷ enter 0 ∷ exit 0 3 4 ∷ exit 0 3 4 ∷ exit 47 0 4 ∷ exit 62 0 4 ∷ exit 12 0 4 ∷ enter 3 ∷ exit 3 4 5 ∷ enter 4 ∷ exit 4 5 6 ∷ enter 63 ∷ enter 64 ∷ enter 0 ∷ enter 0 ∷ exit 0 6 7 ∷ enter 0 ∷ exit 0 7 8 ∷ enter 65 ∷ enter 5 ∷ exit 5 8 9 ∷ exit 65 8 9 ∷ enter 0 ∷ exit 0 9 10 ∷ exit 0 6 10 ∷ enter 0 ∷ exit 0 10 11 ∷ enter 1 ∷ exit 1 11 12 ∷ exit 64 6 12 ∷ enter 12 ∷ enter 5 ∷ exit 5 12 13 ∷ exit 12 12 13 ∷ enter 3 ∷ exit 3 13 14 ∷ enter 4 ∷ exit 4 14 15 ∷ enter 1 ∷ exit 1 15 19 ∷ enter 22 ∷ enter 23 ∷ enter 24 ∷ enter 25 ∷ exit 25 19 20 ∷ enter 1 ∷ exit 1 20 21 ∷ exit 24 19 21 ∷ enter 12 ∷ enter 5 ∷ exit 5 21 22 ∷ exit 12 21 22 ∷ exit 23 19 22 ∷ enter 3 ∷ exit 3 22 23 ∷ enter 1 ∷ exit 1 23 27 ∷ enter 23 ∷ enter 24 ∷ enter 25 ∷ exit 25 27 28 ∷ enter 1 ∷ exit 1 28 29 ∷ exit 24 27 29 ∷ enter 12 ∷ enter 5 ∷ exit 5 29 30 ∷ exit 12 29 30 ∷ exit 23 27 30 ∷ exit 22 19 30 ∷ exit 63 6 30 ∷ enter 3 ∷ exit 3 30 31 ∷ []) ("<p><sup><a href=\"#user-content-fn-a\" id=\"user-content-fnref-a\" data-footnote-ref=\"\" aria-describedby=\"footnote-label\">1</a></sup></p>\n<section data-footnotes=\"\" class=\"footnotes\"><h2 id=\"footnote-labe" ∷ "l\" class=\"sr-only\">Footnotes</h2>\n<ol>\n<li id=\"user-content-fn-a\">\n<p>b</p>\n<ul>\n<li>c</li>\n<li>d</li>\n</ul>\n<a href=\"#user-content-fnref-a\" data-footnote-backref=\"\" aria-label=\"Back to content\" class" ∷ "=\"data-footnote-backref\">â\u{86}©</a>\n</li>\n</ol>\n</section>\n" ∷ []))
unfolding running
v5 = tt

v6 : T (shows (off Lf) ("[^a]\n\n[^a]: > b\nc" ∷ []) (enter 12 ∷ enter 62 ∷ enter 47 ∷ enter 0 ∷ enter 0 ∷ exit 0 0 1 ∷ enter 0 ∷ exit 0 1 2 ∷ exit 0 0 2 ∷ enter 48 ∷ enter 5 ∷ exit 5 2 3 ∷ exit 48 2 3 ∷ enter 0 ∷ enter 0 ∷ exit 0 3 4 ∷ exit 0 3 4 ∷ exit 47 0 4 ∷ exit 62 0 4 ∷ exit 12 0 4 ∷ enter 3 ∷ exit 3 4 5 ∷ enter 4 ∷ exit 4 5 6 ∷ enter 63 ∷ enter 64 ∷ enter 0 ∷ enter 0 ∷ exit 0 6 7 ∷ enter 0 ∷ exit 0 7 8 ∷ enter 65 ∷ enter 5 ∷ exit 5 8 9 ∷ exit 65 8 9 ∷ enter 0 ∷ exit 0 9 10 ∷ exit 0 6 10 ∷ enter 0 ∷ exit 0 10 11 ∷ enter 1 ∷ exit 1 11 12 ∷ exit 64 6 12 ∷ enter 20 ∷ enter 2 ∷ enter 0 ∷ exit 0 12 13 ∷ enter 1 ∷ exit 1 13 14 ∷ exit 2 12 14 ∷ enter 12 ∷ enter 5 ∷ exit 5 14 15 ∷ enter 3 ∷ exit 3 15 16 ∷ enter 5 ∷ exit 5 16 17 ∷ exit 12 14 17 ∷ exit 20 12 17 ∷ exit 63 6 17 ∷ []) ("<p><sup><a href=\"#user-content-fn-a\" id=\"user-content-fnref-a\" data-footnote-ref=\"\" aria-describedby=\"footnote-label\">1</a></sup></p>\n<section data-footnotes=\"\" class=\"footnotes\"><h2 id=\"footnote-labe" ∷ "l\" class=\"sr-only\">Footnotes</h2>\n<ol>\n<li id=\"user-content-fn-a\">\n<blockquote>\n<p>b\nc</p>\n</blockquote>\n<a href=\"#user-content-fnref-a\" data-footnote-backref=\"\" aria-label=\"Back to content\" class=\"da" ∷ "ta-footnote-backref\">â\u{86}©</a>\n</li>\n</ol>\n</section>\n" ∷ []))
unfolding running
v6 = tt

v7 : T (shows (off Lf) ("[^a]\n\n[^a]: [^b]\n\n[^b]: [^a]" ∷ []) (enter 12 ∷ enter 62 ∷ enter 47 ∷ enter 0 ∷ enter 0 ∷ exit 0 0 1 ∷ enter 0 ∷ exit 0 1 2 ∷ exit 0 0 2 ∷ enter 48 ∷ enter 5 ∷ exit 5 2 3 ∷ exit 48 2 3 ∷ enter 0 ∷ enter 0 ∷ exit 0 3 4 ∷ exit 0 3 4 ∷ exit 47 0 4 ∷ exit 62 0 4 ∷ exit 12 0 4 ∷ enter 3 ∷ exit 3 4 5 ∷ enter 4 ∷ exit 4 5 6 ∷ enter 63 ∷ enter 64 ∷ enter 0 ∷ enter 0 ∷ exit 0 6 7 ∷ enter 0 ∷ exit 0 7 8 ∷ enter 65 ∷ enter 5 ∷ exit 5 8 9 ∷ exit 65 8 9 ∷ enter 0 ∷ exit 0 9 10 ∷ exit 0 6 10 ∷ enter 0 ∷ exit 0 10 11 ∷ enter 1 ∷ exit 1 11 12 ∷ exit 64 6 12 ∷ enter 12 ∷ enter 62 ∷ enter 47 ∷ enter 0 ∷ enter 0 ∷ exit 0 12 13 ∷ enter 0 ∷ exit 0 13 14 ∷ exit 0 12 14 ∷ enter 48 ∷ enter 5 ∷ exit 5 14 15 ∷ exit 48 14 15 ∷ enter 0 ∷ enter 0 ∷ exit 0 15 16 ∷ exit 0 15 16 ∷ exit 47 12 16 ∷ exit 62 12 16 ∷ exit 12 12 16 ∷ enter 3 ∷ exit 3 16 17 ∷ exit 63 6 17 ∷ enter 4 ∷ exit 4 17 18 ∷ enter 63 ∷ enter 64 ∷ enter 0 ∷ enter 0 ∷ exit 0 18 19 ∷ enter 0 ∷ exit 0 19 20 ∷ enter 65 ∷ enter 5 ∷ exit 5 20 21 ∷ exit 65 20 21 ∷ enter 0 ∷ exit 0 21 22 ∷ exit 0 18 22 ∷ enter 0 ∷ exit 0 22 23 ∷ enter 1 ∷ exit 1 23 24 ∷ exit 64 18 24 ∷ enter 12 ∷ enter 62 ∷ enter 47 ∷ enter 0 ∷ enter 0 ∷ exit 0 24 25 ∷ enter 0 ∷ exit 0 25 26 ∷ exit 0 24 26 ∷ enter 48 ∷ enter 5 ∷ exit 5 26 27 ∷ exit 48 26 27 ∷ enter 0 ∷ enter 0 ∷ exit 0 27 28 ∷ exit 0 27 28 ∷ exit 47 24 28 ∷ exit 62 24 28 ∷ exit 12 24 28 ∷ exit 63 18 28 ∷ []) ("<p><sup><a href=\"#user-content-fn-a\" id=\"user-content-fnref-a\" data-footnote-ref=\"\" aria-describedby=\"footnote-label\">1</a></sup></p>\n<section data-footnotes=\"\" class=\"footnotes\"><h2 id=\"footnote-labe" ∷ "l\" class=\"sr-only\">Footnotes</h2>\n<ol>\n<li id=\"user-content-fn-a\">\n<p><sup><a href=\"#user-content-fn-b\" id=\"user-content-fnref-b\" data-footnote-ref=\"\" aria-describedby=\"footnote-label\">2</a></sup> <a " ∷ "href=\"#user-content-fnref-a\" data-footnote-backref=\"\" aria-label=\"Back to content\" class=\"data-footnote-backref\">â\u{86}©</a> <a href=\"#user-content-fnref-a-2\" data-footnote-backref=\"\" aria-label=\"Back to " ∷ "content\" class=\"data-footnote-backref\">â\u{86}©<sup>2</sup></a></p>\n</li>\n<li id=\"user-content-fn-b\">\n<p><sup><a href=\"#user-content-fn-a\" id=\"user-content-fnref-a-2\" data-footnote-ref=\"\" aria-describedby=" ∷ "\"footnote-label\">1</a></sup> <a href=\"#user-content-fnref-b\" data-footnote-backref=\"\" aria-label=\"Back to content\" class=\"data-footnote-backref\">â\u{86}©</a></p>\n</li>\n</ol>\n</section>\n" ∷ []))
unfolding running
v7 = tt

v8 : T (shows (off Lf) ("[^a]\n\n[^a]: b\n[^a]: c" ∷ []) (enter 12 ∷ enter 62 ∷ enter 47 ∷ enter 0 ∷ enter 0 ∷ exit 0 0 1 ∷ enter 0 ∷ exit 0 1 2 ∷ exit 0 0 2 ∷ enter 48 ∷ enter 5 ∷ exit 5 2 3 ∷ exit 48 2 3 ∷ enter 0 ∷ enter 0 ∷ exit 0 3 4 ∷ exit 0 3 4 ∷ exit 47 0 4 ∷ exit 62 0 4 ∷ exit 12 0 4 ∷ enter 3 ∷ exit 3 4 5 ∷ enter 4 ∷ exit 4 5 6 ∷ enter 63 ∷ enter 64 ∷ enter 0 ∷ enter 0 ∷ exit 0 6 7 ∷ enter 0 ∷ exit 0 7 8 ∷ enter 65 ∷ enter 5 ∷ exit 5 8 9 ∷ exit 65 8 9 ∷ enter 0 ∷ exit 0 9 10 ∷ exit 0 6 10 ∷ enter 0 ∷ exit 0 10 11 ∷ enter 1 ∷ exit 1 11 12 ∷ exit 64 6 12 ∷ enter 12 ∷ enter 5 ∷ exit 5 12 13 ∷ exit 12 12 13 ∷ exit 63 6 13 ∷ enter 3 ∷ exit 3 13 14 ∷ enter 63 ∷ enter 64 ∷ enter 0 ∷ enter 0 ∷ exit 0 14 15 ∷ enter 0 ∷ exit 0 15 16 ∷ enter 65 ∷ enter 5 ∷ exit 5 16 17 ∷ exit 65 16 17 ∷ enter 0 ∷ exit 0 17 18 ∷ exit 0 14 18 ∷ enter 0 ∷ exit 0 18 19 ∷ enter 1 ∷ exit 1 19 20 ∷ exit 64 14 20 ∷ enter 12 ∷ enter 5 ∷ exit 5 20 21 ∷ exit 12 20 21 ∷ exit 63 14 21 ∷ []) ("<p><sup><a href=\"#user-content-fn-a\" id=\"user-content-fnref-a\" data-footnote-ref=\"\" aria-describedby=\"footnote-label\">1</a></sup></p>\n<section data-footnotes=\"\" class=\"footnotes\"><h2 id=\"footnote-labe" ∷ "l\" class=\"sr-only\">Footnotes</h2>\n<ol>\n<li id=\"user-content-fn-a\">\n<p>b <a href=\"#user-content-fnref-a\" data-footnote-backref=\"\" aria-label=\"Back to content\" class=\"data-footnote-backref\">â\u{86}©</a></p>\n" ∷ "</li>\n</ol>\n</section>\n" ∷ []))
unfolding running
v8 = tt

v9 : T (shows (off Lf) ("[^A]\n\n[^a]: b" ∷ []) (enter 12 ∷ enter 62 ∷ enter 47 ∷ enter 0 ∷ enter 0 ∷ exit 0 0 1 ∷ enter 0 ∷ exit 0 1 2 ∷ exit 0 0 2 ∷ enter 48 ∷ enter 5 ∷ exit 5 2 3 ∷ exit 48 2 3 ∷ enter 0 ∷ enter 0 ∷ exit 0 3 4 ∷ exit 0 3 4 ∷ exit 47 0 4 ∷ exit 62 0 4 ∷ exit 12 0 4 ∷ enter 3 ∷ exit 3 4 5 ∷ enter 4 ∷ exit 4 5 6 ∷ enter 63 ∷ enter 64 ∷ enter 0 ∷ enter 0 ∷ exit 0 6 7 ∷ enter 0 ∷ exit 0 7 8 ∷ enter 65 ∷ enter 5 ∷ exit 5 8 9 ∷ exit 65 8 9 ∷ enter 0 ∷ exit 0 9 10 ∷ exit 0 6 10 ∷ enter 0 ∷ exit 0 10 11 ∷ enter 1 ∷ exit 1 11 12 ∷ exit 64 6 12 ∷ enter 12 ∷ enter 5 ∷ exit 5 12 13 ∷ exit 12 12 13 ∷ exit 63 6 13 ∷ []) ("<p><sup><a href=\"#user-content-fn-a\" id=\"user-content-fnref-a\" data-footnote-ref=\"\" aria-describedby=\"footnote-label\">1</a></sup></p>\n<section data-footnotes=\"\" class=\"footnotes\"><h2 id=\"footnote-labe" ∷ "l\" class=\"sr-only\">Footnotes</h2>\n<ol>\n<li id=\"user-content-fn-a\">\n<p>b <a href=\"#user-content-fnref-a\" data-footnote-backref=\"\" aria-label=\"Back to content\" class=\"data-footnote-backref\">â\u{86}©</a></p>\n" ∷ "</li>\n</ol>\n</section>\n" ∷ []))
unfolding running
v9 = tt

v10 : T (shows (off Lf) ("[^a&b]\n\n[^a&b]: c" ∷ []) (enter 12 ∷ enter 62 ∷ enter 47 ∷ enter 0 ∷ enter 0 ∷ exit 0 0 1 ∷ enter 0 ∷ exit 0 1 2 ∷ exit 0 0 2 ∷ enter 48 ∷ enter 5 ∷ exit 5 2 5 ∷ exit 48 2 5 ∷ enter 0 ∷ enter 0 ∷ exit 0 5 6 ∷ exit 0 5 6 ∷ exit 47 0 6 ∷ exit 62 0 6 ∷ exit 12 0 6 ∷ enter 3 ∷ exit 3 6 7 ∷ enter 4 ∷ exit 4 7 8 ∷ enter 63 ∷ enter 64 ∷ enter 0 ∷ enter 0 ∷ exit 0 8 9 ∷ enter 0 ∷ exit 0 9 10 ∷ enter 65 ∷ enter 5 ∷ exit 5 10 13 ∷ exit 65 10 13 ∷ enter 0 ∷ exit 0 13 14 ∷ exit 0 8 14 ∷ enter 0 ∷ exit 0 14 15 ∷ enter 1 ∷ exit 1 15 16 ∷ exit 64 8 16 ∷ enter 12 ∷ enter 5 ∷ exit 5 16 17 ∷ exit 12 16 17 ∷ exit 63 8 17 ∷ []) ("<p><sup><a href=\"#user-content-fn-a&amp;b\" id=\"user-content-fnref-a&amp;b\" data-footnote-ref=\"\" aria-describedby=\"footnote-label\">1</a></sup></p>\n<section data-footnotes=\"\" class=\"footnotes\"><h2 id=\"f" ∷ "ootnote-label\" class=\"sr-only\">Footnotes</h2>\n<ol>\n<li id=\"user-content-fn-a&amp;b\">\n<p>c <a href=\"#user-content-fnref-a&amp;b\" data-footnote-backref=\"\" aria-label=\"Back to content\" class=\"data-footno" ∷ "te-backref\">â\u{86}©</a></p>\n</li>\n</ol>\n</section>\n" ∷ []))
unfolding running
v10 = tt

v11 : T (shows (off Lf) ("[^a\\*b]\n\n[^a\\*b]: c" ∷ []) (enter 12 ∷ enter 62 ∷ enter 47 ∷ enter 0 ∷ enter 0 ∷ exit 0 0 1 ∷ enter 0 ∷ exit 0 1 2 ∷ exit 0 0 2 ∷ enter 48 ∷ enter 5 ∷ exit 5 2 3 ∷ enter 0 ∷ enter 0 ∷ exit 0 3 4 ∷ enter 6 ∷ exit 6 4 5 ∷ exit 0 3 5 ∷ enter 5 ∷ exit 5 5 6 ∷ exit 48 2 6 ∷ enter 0 ∷ enter 0 ∷ exit 0 6 7 ∷ exit 0 6 7 ∷ exit 47 0 7 ∷ exit 62 0 7 ∷ exit 12 0 7 ∷ enter 3 ∷ exit 3 7 8 ∷ enter 4 ∷ exit 4 8 9 ∷ enter 63 ∷ enter 64 ∷ enter 0 ∷ enter 0 ∷ exit 0 9 10 ∷ enter 0 ∷ exit 0 10 11 ∷ enter 65 ∷ enter 5 ∷ exit 5 11 12 ∷ enter 0 ∷ enter 0 ∷ exit 0 12 13 ∷ enter 6 ∷ exit 6 13 14 ∷ exit 0 12 14 ∷ enter 5 ∷ exit 5 14 15 ∷ exit 65 11 15 ∷ enter 0 ∷ exit 0 15 16 ∷ exit 0 9 16 ∷ enter 0 ∷ exit 0 16 17 ∷ enter 1 ∷ exit 1 17 18 ∷ exit 64 9 18 ∷ enter 12 ∷ enter 5 ∷ exit 5 18 19 ∷ exit 12 18 19 ∷ exit 63 9 19 ∷ []) ("<p><sup><a href=\"#user-content-fn-a%5C*b\" id=\"user-content-fnref-a%5C*b\" data-footnote-ref=\"\" aria-describedby=\"footnote-label\">1</a></sup></p>\n<section data-footnotes=\"\" class=\"footnotes\"><h2 id=\"foo" ∷ "tnote-label\" class=\"sr-only\">Footnotes</h2>\n<ol>\n<li id=\"user-content-fn-a%5C*b\">\n<p>c <a href=\"#user-content-fnref-a%5C*b\" data-footnote-backref=\"\" aria-label=\"Back to content\" class=\"data-footnote-b" ∷ "ackref\">â\u{86}©</a></p>\n</li>\n</ol>\n</section>\n" ∷ []))
unfolding running
v11 = tt

v12 : T (shows (off Lf) ("> [^a]: b\n\n[^a]" ∷ []) (enter 20 ∷ enter 2 ∷ enter 0 ∷ exit 0 0 1 ∷ enter 1 ∷ exit 1 1 2 ∷ exit 2 0 2 ∷ enter 63 ∷ enter 64 ∷ enter 0 ∷ enter 0 ∷ exit 0 2 3 ∷ enter 0 ∷ exit 0 3 4 ∷ enter 65 ∷ enter 5 ∷ exit 5 4 5 ∷ exit 65 4 5 ∷ enter 0 ∷ exit 0 5 6 ∷ exit 0 2 6 ∷ enter 0 ∷ exit 0 6 7 ∷ enter 1 ∷ exit 1 7 8 ∷ exit 64 2 8 ∷ enter 12 ∷ enter 5 ∷ exit 5 8 9 ∷ exit 12 8 9 ∷ exit 63 2 9 ∷ exit 20 0 9 ∷ enter 3 ∷ exit 3 9 10 ∷ enter 4 ∷ exit 4 10 11 ∷ enter 12 ∷ enter 62 ∷ enter 47 ∷ enter 0 ∷ enter 0 ∷ exit 0 11 12 ∷ enter 0 ∷ exit 0 12 13 ∷ exit 0 11 13 ∷ enter 48 ∷ enter 5 ∷ exit 5 13 14 ∷ exit 48 13 14 ∷ enter 0 ∷ enter 0 ∷ exit 0 14 15 ∷ exit 0 14 15 ∷ exit 47 11 15 ∷ exit 62 11 15 ∷ exit 12 11 15 ∷ []) ("<blockquote>\n</blockquote>\n<p><sup><a href=\"#user-content-fn-a\" id=\"user-content-fnref-a\" data-footnote-ref=\"\" aria-describedby=\"footnote-label\">1</a></sup></p>\n<section data-footnotes=\"\" class=\"footn" ∷ "otes\"><h2 id=\"footnote-label\" class=\"sr-only\">Footnotes</h2>\n<ol>\n<li id=\"user-content-fn-a\">\n<p>b <a href=\"#user-content-fnref-a\" data-footnote-backref=\"\" aria-label=\"Back to content\" class=\"data-foo" ∷ "tnote-backref\">â\u{86}©</a></p>\n</li>\n</ol>\n</section>\n" ∷ []))
unfolding running
v12 = tt

v13 : T (shows (off Lf) ("- [^a]: b\n\n[^a]" ∷ []) (enter 22 ∷ enter 23 ∷ enter 24 ∷ enter 25 ∷ exit 25 0 1 ∷ enter 1 ∷ exit 1 1 2 ∷ exit 24 0 2 ∷ enter 63 ∷ enter 64 ∷ enter 0 ∷ enter 0 ∷ exit 0 2 3 ∷ enter 0 ∷ exit 0 3 4 ∷ enter 65 ∷ enter 5 ∷ exit 5 4 5 ∷ exit 65 4 5 ∷ enter 0 ∷ exit 0 5 6 ∷ exit 0 2 6 ∷ enter 0 ∷ exit 0 6 7 ∷ enter 1 ∷ exit 1 7 8 ∷ exit 64 2 8 ∷ enter 12 ∷ enter 5 ∷ exit 5 8 9 ∷ exit 12 8 9 ∷ enter 3 ∷ exit 3 9 10 ∷ exit 63 2 10 ∷ exit 23 0 10 ∷ exit 22 0 10 ∷ enter 4 ∷ exit 4 10 11 ∷ enter 12 ∷ enter 62 ∷ enter 47 ∷ enter 0 ∷ enter 0 ∷ exit 0 11 12 ∷ enter 0 ∷ exit 0 12 13 ∷ exit 0 11 13 ∷ enter 48 ∷ enter 5 ∷ exit 5 13 14 ∷ exit 48 13 14 ∷ enter 0 ∷ enter 0 ∷ exit 0 14 15 ∷ exit 0 14 15 ∷ exit 47 11 15 ∷ exit 62 11 15 ∷ exit 12 11 15 ∷ []) ("<ul>\n<li></li>\n</ul>\n<p><sup><a href=\"#user-content-fn-a\" id=\"user-content-fnref-a\" data-footnote-ref=\"\" aria-describedby=\"footnote-label\">1</a></sup></p>\n<section data-footnotes=\"\" class=\"footnotes\">" ∷ "<h2 id=\"footnote-label\" class=\"sr-only\">Footnotes</h2>\n<ol>\n<li id=\"user-content-fn-a\">\n<p>b <a href=\"#user-content-fnref-a\" data-footnote-backref=\"\" aria-label=\"Back to content\" class=\"data-footnote-" ∷ "backref\">â\u{86}©</a></p>\n</li>\n</ol>\n</section>\n" ∷ []))
unfolding running
v13 = tt

v14 : T (shows (off Lf) ("[^a]: [^b]: c\n\n[^a] [^b]" ∷ []) (enter 63 ∷ enter 64 ∷ enter 0 ∷ enter 0 ∷ exit 0 0 1 ∷ enter 0 ∷ exit 0 1 2 ∷ enter 65 ∷ enter 5 ∷ exit 5 2 3 ∷ exit 65 2 3 ∷ enter 0 ∷ exit 0 3 4 ∷ exit 0 0 4 ∷ enter 0 ∷ exit 0 4 5 ∷ enter 1 ∷ exit 1 5 6 ∷ exit 64 0 6 ∷ enter 63 ∷ enter 64 ∷ enter 0 ∷ enter 0 ∷ exit 0 6 7 ∷ enter 0 ∷ exit 0 7 8 ∷ enter 65 ∷ enter 5 ∷ exit 5 8 9 ∷ exit 65 8 9 ∷ enter 0 ∷ exit 0 9 10 ∷ exit 0 6 10 ∷ enter 0 ∷ exit 0 10 11 ∷ enter 1 ∷ exit 1 11 12 ∷ exit 64 6 12 ∷ enter 12 ∷ enter 5 ∷ exit 5 12 13 ∷ exit 12 12 13 ∷ enter 3 ∷ exit 3 13 14 ∷ exit 63 6 14 ∷ exit 63 0 14 ∷ enter 4 ∷ exit 4 14 15 ∷ enter 12 ∷ enter 62 ∷ enter 47 ∷ enter 0 ∷ enter 0 ∷ exit 0 15 16 ∷ enter 0 ∷ exit 0 16 17 ∷ exit 0 15 17 ∷ enter 48 ∷ enter 5 ∷ exit 5 17 18 ∷ exit 48 17 18 ∷ enter 0 ∷ enter 0 ∷ exit 0 18 19 ∷ exit 0 18 19 ∷ exit 47 15 19 ∷ exit 62 15 19 ∷ enter 5 ∷ exit 5 19 20 ∷ enter 62 ∷ enter 47 ∷ enter 0 ∷ enter 0 ∷ exit 0 20 21 ∷ enter 0 ∷ exit 0 21 22 ∷ exit 0 20 22 ∷ enter 48 ∷ enter 5 ∷ exit 5 22 23 ∷ exit 48 22 23 ∷ enter 0 ∷ enter 0 ∷ exit 0 23 24 ∷ exit 0 23 24 ∷ exit 47 20 24 ∷ exit 62 20 24 ∷ exit 12 15 24 ∷ []) ("<p><sup><a href=\"#user-content-fn-a\" id=\"user-content-fnref-a\" data-footnote-ref=\"\" aria-describedby=\"footnote-label\">1</a></sup> <sup><a href=\"#user-content-fn-b\" id=\"user-content-fnref-b\" data-footn" ∷ "ote-ref=\"\" aria-describedby=\"footnote-label\">2</a></sup></p>\n<section data-footnotes=\"\" class=\"footnotes\"><h2 id=\"footnote-label\" class=\"sr-only\">Footnotes</h2>\n<ol>\n<li id=\"user-content-fn-a\">\n<a hre" ∷ "f=\"#user-content-fnref-a\" data-footnote-backref=\"\" aria-label=\"Back to content\" class=\"data-footnote-backref\">â\u{86}©</a>\n</li>\n<li id=\"user-content-fn-b\">\n<p>c <a href=\"#user-content-fnref-b\" data-footno" ∷ "te-backref=\"\" aria-label=\"Back to content\" class=\"data-footnote-backref\">â\u{86}©</a></p>\n</li>\n</ol>\n</section>\n" ∷ []))
unfolding running
v14 = tt

v15 : T (shows (off Lf) ("[^a]: b\n    [^c]: d\n\n[^a] [^c]" ∷ []) (enter 63 ∷ enter 64 ∷ enter 0 ∷ enter 0 ∷ exit 0 0 1 ∷ enter 0 ∷ exit 0 1 2 ∷ enter 65 ∷ enter 5 ∷ exit 5 2 3 ∷ exit 65 2 3 ∷ enter 0 ∷ exit 0 3 4 ∷ exit 0 0 4 ∷ enter 0 ∷ exit 0 4 5 ∷ enter 1 ∷ exit 1 5 6 ∷ exit 64 0 6 ∷ enter 12 ∷ enter 5 ∷ exit 5 6 7 ∷ exit 12 6 7 ∷ enter 3 ∷ exit 3 7 8 ∷ enter 1 ∷ exit 1 8 12 ∷ enter 63 ∷ enter 64 ∷ enter 0 ∷ enter 0 ∷ exit 0 12 13 ∷ enter 0 ∷ exit 0 13 14 ∷ enter 65 ∷ enter 5 ∷ exit 5 14 15 ∷ exit 65 14 15 ∷ enter 0 ∷ exit 0 15 16 ∷ exit 0 12 16 ∷ enter 0 ∷ exit 0 16 17 ∷ enter 1 ∷ exit 1 17 18 ∷ exit 64 12 18 ∷ enter 12 ∷ enter 5 ∷ exit 5 18 19 ∷ exit 12 18 19 ∷ enter 3 ∷ exit 3 19 20 ∷ exit 63 12 20 ∷ exit 63 0 20 ∷ enter 4 ∷ exit 4 20 21 ∷ enter 12 ∷ enter 62 ∷ enter 47 ∷ enter 0 ∷ enter 0 ∷ exit 0 21 22 ∷ enter 0 ∷ exit 0 22 23 ∷ exit 0 21 23 ∷ enter 48 ∷ enter 5 ∷ exit 5 23 24 ∷ exit 48 23 24 ∷ enter 0 ∷ enter 0 ∷ exit 0 24 25 ∷ exit 0 24 25 ∷ exit 47 21 25 ∷ exit 62 21 25 ∷ enter 5 ∷ exit 5 25 26 ∷ enter 62 ∷ enter 47 ∷ enter 0 ∷ enter 0 ∷ exit 0 26 27 ∷ enter 0 ∷ exit 0 27 28 ∷ exit 0 26 28 ∷ enter 48 ∷ enter 5 ∷ exit 5 28 29 ∷ exit 48 28 29 ∷ enter 0 ∷ enter 0 ∷ exit 0 29 30 ∷ exit 0 29 30 ∷ exit 47 26 30 ∷ exit 62 26 30 ∷ exit 12 21 30 ∷ []) ("<p><sup><a href=\"#user-content-fn-a\" id=\"user-content-fnref-a\" data-footnote-ref=\"\" aria-describedby=\"footnote-label\">1</a></sup> <sup><a href=\"#user-content-fn-c\" id=\"user-content-fnref-c\" data-footn" ∷ "ote-ref=\"\" aria-describedby=\"footnote-label\">2</a></sup></p>\n<section data-footnotes=\"\" class=\"footnotes\"><h2 id=\"footnote-label\" class=\"sr-only\">Footnotes</h2>\n<ol>\n<li id=\"user-content-fn-a\">\n<p>b <" ∷ "a href=\"#user-content-fnref-a\" data-footnote-backref=\"\" aria-label=\"Back to content\" class=\"data-footnote-backref\">â\u{86}©</a></p>\n</li>\n<li id=\"user-content-fn-c\">\n<p>d <a href=\"#user-content-fnref-c\" da" ∷ "ta-footnote-backref=\"\" aria-label=\"Back to content\" class=\"data-footnote-backref\">â\u{86}©</a></p>\n</li>\n</ol>\n</section>\n" ∷ []))
unfolding running
v15 = tt

v16 : T (shows (off Lf) ("# [^a]\n\n[^a]: # b" ∷ []) (enter 13 ∷ enter 14 ∷ exit 14 0 1 ∷ enter 1 ∷ exit 1 1 2 ∷ enter 15 ∷ enter 62 ∷ enter 47 ∷ enter 0 ∷ enter 0 ∷ exit 0 2 3 ∷ enter 0 ∷ exit 0 3 4 ∷ exit 0 2 4 ∷ enter 48 ∷ enter 5 ∷ exit 5 4 5 ∷ exit 48 4 5 ∷ enter 0 ∷ enter 0 ∷ exit 0 5 6 ∷ exit 0 5 6 ∷ exit 47 2 6 ∷ exit 62 2 6 ∷ exit 15 2 6 ∷ exit 13 0 6 ∷ enter 3 ∷ exit 3 6 7 ∷ enter 4 ∷ exit 4 7 8 ∷ enter 63 ∷ enter 64 ∷ enter 0 ∷ enter 0 ∷ exit 0 8 9 ∷ enter 0 ∷ exit 0 9 10 ∷ enter 65 ∷ enter 5 ∷ exit 5 10 11 ∷ exit 65 10 11 ∷ enter 0 ∷ exit 0 11 12 ∷ exit 0 8 12 ∷ enter 0 ∷ exit 0 12 13 ∷ enter 1 ∷ exit 1 13 14 ∷ exit 64 8 14 ∷ enter 13 ∷ enter 14 ∷ exit 14 14 15 ∷ enter 1 ∷ exit 1 15 16 ∷ enter 15 ∷ enter 5 ∷ exit 5 16 17 ∷ exit 15 16 17 ∷ exit 13 14 17 ∷ exit 63 8 17 ∷ []) ("<h1><sup><a href=\"#user-content-fn-a\" id=\"user-content-fnref-a\" data-footnote-ref=\"\" aria-describedby=\"footnote-label\">1</a></sup></h1>\n<section data-footnotes=\"\" class=\"footnotes\"><h2 id=\"footnote-la" ∷ "bel\" class=\"sr-only\">Footnotes</h2>\n<ol>\n<li id=\"user-content-fn-a\">\n<h1>b</h1>\n<a href=\"#user-content-fnref-a\" data-footnote-backref=\"\" aria-label=\"Back to content\" class=\"data-footnote-backref\">â\u{86}©<" ∷ "/a>\n</li>\n</ol>\n</section>\n" ∷ []))
unfolding running
v16 = tt

v17 : T (shows (off Lf) ("[^a]\n\n[^a]: | b |\n    | - |\n    | [^a] |" ∷ []) (enter 12 ∷ enter 62 ∷ enter 47 ∷ enter 0 ∷ enter 0 ∷ exit 0 0 1 ∷ enter 0 ∷ exit 0 1 2 ∷ exit 0 0 2 ∷ enter 48 ∷ enter 5 ∷ exit 5 2 3 ∷ exit 48 2 3 ∷ enter 0 ∷ enter 0 ∷ exit 0 3 4 ∷ exit 0 3 4 ∷ exit 47 0 4 ∷ exit 62 0 4 ∷ exit 12 0 4 ∷ enter 3 ∷ exit 3 4 5 ∷ enter 4 ∷ exit 4 5 6 ∷ enter 63 ∷ enter 64 ∷ enter 0 ∷ enter 0 ∷ exit 0 6 7 ∷ enter 0 ∷ exit 0 7 8 ∷ enter 65 ∷ enter 5 ∷ exit 5 8 9 ∷ exit 65 8 9 ∷ enter 0 ∷ exit 0 9 10 ∷ exit 0 6 10 ∷ enter 0 ∷ exit 0 10 11 ∷ enter 1 ∷ exit 1 11 12 ∷ exit 64 6 12 ∷ enter_with 57 1 ∷ enter 58 ∷ enter 60 ∷ enter 61 ∷ enter 0 ∷ exit 0 12 13 ∷ enter 1 ∷ exit 1 13 14 ∷ enter 0 ∷ enter 5 ∷ exit 5 14 15 ∷ exit 0 14 15 ∷ enter 1 ∷ exit 1 15 16 ∷ enter 0 ∷ exit 0 16 17 ∷ exit 61 12 17 ∷ exit 60 12 17 ∷ enter 3 ∷ exit 3 17 18 ∷ enter 1 ∷ exit 1 18 22 ∷ enter 0 ∷ enter 0 ∷ enter 0 ∷ exit 0 22 23 ∷ enter 1 ∷ exit 1 23 24 ∷ enter 0 ∷ enter 0 ∷ exit 0 24 25 ∷ exit 0 24 25 ∷ enter 1 ∷ exit 1 25 26 ∷ enter 0 ∷ exit 0 26 27 ∷ exit 0 22 27 ∷ exit 0 22 27 ∷ exit 58 12 27 ∷ enter 3 ∷ exit 3 27 28 ∷ enter 1 ∷ exit 1 28 32 ∷ enter 59 ∷ enter 60 ∷ enter 61 ∷ enter 0 ∷ exit 0 32 33 ∷ enter 1 ∷ exit 1 33 34 ∷ enter 0 ∷ enter 62 ∷ enter 47 ∷ enter 0 ∷ enter 0 ∷ exit 0 34 35 ∷ enter 0 ∷ exit 0 35 36 ∷ exit 0 34 36 ∷ enter 48 ∷ enter 5 ∷ exit 5 36 37 ∷ exit 48 36 37 ∷ enter 0 ∷ enter 0 ∷ exit 0 37 38 ∷ exit 0 37 38 ∷ exit 47 34 38 ∷ exit 62 34 38 ∷ exit 0 34 38 ∷ enter 1 ∷ exit 1 38 39 ∷ enter 0 ∷ exit 0 39 40 ∷ exit 61 32 40 ∷ exit 60 32 40 ∷ exit 59 32 40 ∷ exit 57 12 40 ∷ exit 63 6 40 ∷ []) ("<p><sup><a href=\"#user-content-fn-a\" id=\"user-content-fnref-a\" data-footnote-ref=\"\" aria-describedby=\"footnote-label\">1</a></sup></p>\n<section data-footnotes=\"\" class=\"footnotes\"><h2 id=\"footnote-labe" ∷ "l\" class=\"sr-only\">Footnotes</h2>\n<ol>\n<li id=\"user-content-fn-a\">\n<table>\n<thead>\n<tr>\n<th>b</th>\n</tr>\n</thead>\n<tbody>\n<tr>\n<td><sup><a href=\"#user-content-fn-a\" id=\"user-content-fnref-a-2\" data-fo" ∷ "otnote-ref=\"\" aria-describedby=\"footnote-label\">1</a></sup></td>\n</tr>\n</tbody>\n</table>\n<a href=\"#user-content-fnref-a\" data-footnote-backref=\"\" aria-label=\"Back to content\" class=\"data-footnote-back" ∷ "ref\">â\u{86}©</a> <a href=\"#user-content-fnref-a-2\" data-footnote-backref=\"\" aria-label=\"Back to content\" class=\"data-footnote-backref\">â\u{86}©<sup>2</sup></a>\n</li>\n</ol>\n</section>\n" ∷ []))
unfolding running
v17 = tt

v18 : T (shows (off Lf) ("[^a]\n\n[^a]:     b" ∷ []) (enter 12 ∷ enter 62 ∷ enter 47 ∷ enter 0 ∷ enter 0 ∷ exit 0 0 1 ∷ enter 0 ∷ exit 0 1 2 ∷ exit 0 0 2 ∷ enter 48 ∷ enter 5 ∷ exit 5 2 3 ∷ exit 48 2 3 ∷ enter 0 ∷ enter 0 ∷ exit 0 3 4 ∷ exit 0 3 4 ∷ exit 47 0 4 ∷ exit 62 0 4 ∷ exit 12 0 4 ∷ enter 3 ∷ exit 3 4 5 ∷ enter 4 ∷ exit 4 5 6 ∷ enter 63 ∷ enter 64 ∷ enter 0 ∷ enter 0 ∷ exit 0 6 7 ∷ enter 0 ∷ exit 0 7 8 ∷ enter 65 ∷ enter 5 ∷ exit 5 8 9 ∷ exit 65 8 9 ∷ enter 0 ∷ exit 0 9 10 ∷ exit 0 6 10 ∷ enter 0 ∷ exit 0 10 11 ∷ enter 1 ∷ exit 1 11 16 ∷ exit 64 6 16 ∷ enter 12 ∷ enter 5 ∷ exit 5 16 17 ∷ exit 12 16 17 ∷ exit 63 6 17 ∷ []) ("<p><sup><a href=\"#user-content-fn-a\" id=\"user-content-fnref-a\" data-footnote-ref=\"\" aria-describedby=\"footnote-label\">1</a></sup></p>\n<section data-footnotes=\"\" class=\"footnotes\"><h2 id=\"footnote-labe" ∷ "l\" class=\"sr-only\">Footnotes</h2>\n<ol>\n<li id=\"user-content-fn-a\">\n<p>b <a href=\"#user-content-fnref-a\" data-footnote-backref=\"\" aria-label=\"Back to content\" class=\"data-footnote-backref\">â\u{86}©</a></p>\n" ∷ "</li>\n</ol>\n</section>\n" ∷ []))
unfolding running
v18 = tt

v19 : T (shows (off Lf) ("[^a]\n\n[^a]: <p>b</p>" ∷ []) (enter 12 ∷ enter 62 ∷ enter 47 ∷ enter 0 ∷ enter 0 ∷ exit 0 0 1 ∷ enter 0 ∷ exit 0 1 2 ∷ exit 0 0 2 ∷ enter 48 ∷ enter 5 ∷ exit 5 2 3 ∷ exit 48 2 3 ∷ enter 0 ∷ enter 0 ∷ exit 0 3 4 ∷ exit 0 3 4 ∷ exit 47 0 4 ∷ exit 62 0 4 ∷ exit 12 0 4 ∷ enter 3 ∷ exit 3 4 5 ∷ enter 4 ∷ exit 4 5 6 ∷ enter 63 ∷ enter 64 ∷ enter 0 ∷ enter 0 ∷ exit 0 6 7 ∷ enter 0 ∷ exit 0 7 8 ∷ enter 65 ∷ enter 5 ∷ exit 5 8 9 ∷ exit 65 8 9 ∷ enter 0 ∷ exit 0 9 10 ∷ exit 0 6 10 ∷ enter 0 ∷ exit 0 10 11 ∷ enter 1 ∷ exit 1 11 12 ∷ exit 64 6 12 ∷ enter 35 ∷ enter 36 ∷ exit 36 12 20 ∷ exit 35 12 20 ∷ exit 63 6 20 ∷ []) ("<p><sup><a href=\"#user-content-fn-a\" id=\"user-content-fnref-a\" data-footnote-ref=\"\" aria-describedby=\"footnote-label\">1</a></sup></p>\n<section data-footnotes=\"\" class=\"footnotes\"><h2 id=\"footnote-labe" ∷ "l\" class=\"sr-only\">Footnotes</h2>\n<ol>\n<li id=\"user-content-fn-a\">\n&lt;p&gt;b&lt;/p&gt;\n<a href=\"#user-content-fnref-a\" data-footnote-backref=\"\" aria-label=\"Back to content\" class=\"data-footnote-backr" ∷ "ef\">â\u{86}©</a>\n</li>\n</ol>\n</section>\n" ∷ []))
unfolding running
v19 = tt

v20 : T (shows (html Lf) ("[^a]\n\n[^a]: <p>b</p>" ∷ []) (enter 12 ∷ enter 62 ∷ enter 47 ∷ enter 0 ∷ enter 0 ∷ exit 0 0 1 ∷ enter 0 ∷ exit 0 1 2 ∷ exit 0 0 2 ∷ enter 48 ∷ enter 5 ∷ exit 5 2 3 ∷ exit 48 2 3 ∷ enter 0 ∷ enter 0 ∷ exit 0 3 4 ∷ exit 0 3 4 ∷ exit 47 0 4 ∷ exit 62 0 4 ∷ exit 12 0 4 ∷ enter 3 ∷ exit 3 4 5 ∷ enter 4 ∷ exit 4 5 6 ∷ enter 63 ∷ enter 64 ∷ enter 0 ∷ enter 0 ∷ exit 0 6 7 ∷ enter 0 ∷ exit 0 7 8 ∷ enter 65 ∷ enter 5 ∷ exit 5 8 9 ∷ exit 65 8 9 ∷ enter 0 ∷ exit 0 9 10 ∷ exit 0 6 10 ∷ enter 0 ∷ exit 0 10 11 ∷ enter 1 ∷ exit 1 11 12 ∷ exit 64 6 12 ∷ enter 35 ∷ enter 36 ∷ exit 36 12 20 ∷ exit 35 12 20 ∷ exit 63 6 20 ∷ []) ("<p><sup><a href=\"#user-content-fn-a\" id=\"user-content-fnref-a\" data-footnote-ref=\"\" aria-describedby=\"footnote-label\">1</a></sup></p>\n<section data-footnotes=\"\" class=\"footnotes\"><h2 id=\"footnote-labe" ∷ "l\" class=\"sr-only\">Footnotes</h2>\n<ol>\n<li id=\"user-content-fn-a\">\n<p>b <a href=\"#user-content-fnref-a\" data-footnote-backref=\"\" aria-label=\"Back to content\" class=\"data-footnote-backref\">â\u{86}©</a></p>\n" ∷ "</li>\n</ol>\n</section>\n" ∷ []))
unfolding running
v20 = tt

v21 : T (shows (on Lf) ("[^a]\n\n[^a]: <p>b</p>" ∷ []) (enter 12 ∷ enter 62 ∷ enter 47 ∷ enter 0 ∷ enter 0 ∷ exit 0 0 1 ∷ enter 0 ∷ exit 0 1 2 ∷ exit 0 0 2 ∷ enter 48 ∷ enter 5 ∷ exit 5 2 3 ∷ exit 48 2 3 ∷ enter 0 ∷ enter 0 ∷ exit 0 3 4 ∷ exit 0 3 4 ∷ exit 47 0 4 ∷ exit 62 0 4 ∷ exit 12 0 4 ∷ enter 3 ∷ exit 3 4 5 ∷ enter 4 ∷ exit 4 5 6 ∷ enter 63 ∷ enter 64 ∷ enter 0 ∷ enter 0 ∷ exit 0 6 7 ∷ enter 0 ∷ exit 0 7 8 ∷ enter 65 ∷ enter 5 ∷ exit 5 8 9 ∷ exit 65 8 9 ∷ enter 0 ∷ exit 0 9 10 ∷ exit 0 6 10 ∷ enter 0 ∷ exit 0 10 11 ∷ enter 1 ∷ exit 1 11 12 ∷ exit 64 6 12 ∷ enter 35 ∷ enter 36 ∷ exit 36 12 20 ∷ exit 35 12 20 ∷ exit 63 6 20 ∷ []) ("<p><sup><a href=\"#user-content-fn-a\" id=\"user-content-fnref-a\" data-footnote-ref=\"\" aria-describedby=\"footnote-label\">1</a></sup></p>\n<section data-footnotes=\"\" class=\"footnotes\"><h2 id=\"footnote-labe" ∷ "l\" class=\"sr-only\">Footnotes</h2>\n<ol>\n<li id=\"user-content-fn-a\">\n<p>b <a href=\"#user-content-fnref-a\" data-footnote-backref=\"\" aria-label=\"Back to content\" class=\"data-footnote-backref\">â\u{86}©</a></p>\n" ∷ "</li>\n</ol>\n</section>\n" ∷ []))
unfolding running
v21 = tt

v22 : T (shows (off Lf) ("[^a]\n\n[^a]: b\n\n\n\n" ∷ []) (enter 12 ∷ enter 62 ∷ enter 47 ∷ enter 0 ∷ enter 0 ∷ exit 0 0 1 ∷ enter 0 ∷ exit 0 1 2 ∷ exit 0 0 2 ∷ enter 48 ∷ enter 5 ∷ exit 5 2 3 ∷ exit 48 2 3 ∷ enter 0 ∷ enter 0 ∷ exit 0 3 4 ∷ exit 0 3 4 ∷ exit 47 0 4 ∷ exit 62 0 4 ∷ exit 12 0 4 ∷ enter 3 ∷ exit 3 4 5 ∷ enter 4 ∷ exit 4 5 6 ∷ enter 63 ∷ enter 64 ∷ enter 0 ∷ enter 0 ∷ exit 0 6 7 ∷ enter 0 ∷ exit 0 7 8 ∷ enter 65 ∷ enter 5 ∷ exit 5 8 9 ∷ exit 65 8 9 ∷ enter 0 ∷ exit 0 9 10 ∷ exit 0 6 10 ∷ enter 0 ∷ exit 0 10 11 ∷ enter 1 ∷ exit 1 11 12 ∷ exit 64 6 12 ∷ enter 12 ∷ enter 5 ∷ exit 5 12 13 ∷ exit 12 12 13 ∷ enter 3 ∷ exit 3 13 14 ∷ enter 4 ∷ exit 4 14 15 ∷ enter 4 ∷ exit 4 15 16 ∷ exit 63 6 16 ∷ enter 4 ∷ exit 4 16 17 ∷ []) ("<p><sup><a href=\"#user-content-fn-a\" id=\"user-content-fnref-a\" data-footnote-ref=\"\" aria-describedby=\"footnote-label\">1</a></sup></p>\n<section data-footnotes=\"\" class=\"footnotes\"><h2 id=\"footnote-labe" ∷ "l\" class=\"sr-only\">Footnotes</h2>\n<ol>\n<li id=\"user-content-fn-a\">\n<p>b <a href=\"#user-content-fnref-a\" data-footnote-backref=\"\" aria-label=\"Back to content\" class=\"data-footnote-backref\">â\u{86}©</a></p>\n" ∷ "</li>\n</ol>\n</section>\n" ∷ []))
unfolding running
v22 = tt

v23 : T (shows (off Lf) ("[^a]: b" ∷ []) (enter 63 ∷ enter 64 ∷ enter 0 ∷ enter 0 ∷ exit 0 0 1 ∷ enter 0 ∷ exit 0 1 2 ∷ enter 65 ∷ enter 5 ∷ exit 5 2 3 ∷ exit 65 2 3 ∷ enter 0 ∷ exit 0 3 4 ∷ exit 0 0 4 ∷ enter 0 ∷ exit 0 4 5 ∷ enter 1 ∷ exit 1 5 6 ∷ exit 64 0 6 ∷ enter 12 ∷ enter 5 ∷ exit 5 6 7 ∷ exit 12 6 7 ∷ exit 63 0 7 ∷ []) ([]))
unfolding running
v23 = tt

v24 : T (shows (off Lf) ("[^a]\n\n[^a]:" ∷ []) (enter 12 ∷ enter 62 ∷ enter 47 ∷ enter 0 ∷ enter 0 ∷ exit 0 0 1 ∷ enter 0 ∷ exit 0 1 2 ∷ exit 0 0 2 ∷ enter 48 ∷ enter 5 ∷ exit 5 2 3 ∷ exit 48 2 3 ∷ enter 0 ∷ enter 0 ∷ exit 0 3 4 ∷ exit 0 3 4 ∷ exit 47 0 4 ∷ exit 62 0 4 ∷ exit 12 0 4 ∷ enter 3 ∷ exit 3 4 5 ∷ enter 4 ∷ exit 4 5 6 ∷ enter 63 ∷ enter 64 ∷ enter 0 ∷ enter 0 ∷ exit 0 6 7 ∷ enter 0 ∷ exit 0 7 8 ∷ enter 65 ∷ enter 5 ∷ exit 5 8 9 ∷ exit 65 8 9 ∷ enter 0 ∷ exit 0 9 10 ∷ exit 0 6 10 ∷ enter 0 ∷ exit 0 10 11 ∷ exit 64 6 11 ∷ exit 63 6 11 ∷ []) ("<p><sup><a href=\"#user-content-fn-a\" id=\"user-content-fnref-a\" data-footnote-ref=\"\" aria-describedby=\"footnote-label\">1</a></sup></p>\n<section data-footnotes=\"\" class=\"footnotes\"><h2 id=\"footnote-labe" ∷ "l\" class=\"sr-only\">Footnotes</h2>\n<ol>\n<li id=\"user-content-fn-a\">\n<a href=\"#user-content-fnref-a\" data-footnote-backref=\"\" aria-label=\"Back to content\" class=\"data-footnote-backref\">â\u{86}©</a>\n</li>\n</o" ∷ "l>\n</section>\n" ∷ []))
unfolding running
v24 = tt

v25 : T (shows (off Lf) ("[^a]\n\n[^a]:\n" ∷ []) (enter 12 ∷ enter 62 ∷ enter 47 ∷ enter 0 ∷ enter 0 ∷ exit 0 0 1 ∷ enter 0 ∷ exit 0 1 2 ∷ exit 0 0 2 ∷ enter 48 ∷ enter 5 ∷ exit 5 2 3 ∷ exit 48 2 3 ∷ enter 0 ∷ enter 0 ∷ exit 0 3 4 ∷ exit 0 3 4 ∷ exit 47 0 4 ∷ exit 62 0 4 ∷ exit 12 0 4 ∷ enter 3 ∷ exit 3 4 5 ∷ enter 4 ∷ exit 4 5 6 ∷ enter 63 ∷ enter 64 ∷ enter 0 ∷ enter 0 ∷ exit 0 6 7 ∷ enter 0 ∷ exit 0 7 8 ∷ enter 65 ∷ enter 5 ∷ exit 5 8 9 ∷ exit 65 8 9 ∷ enter 0 ∷ exit 0 9 10 ∷ exit 0 6 10 ∷ enter 0 ∷ exit 0 10 11 ∷ exit 64 6 11 ∷ exit 63 6 11 ∷ enter 4 ∷ exit 4 11 12 ∷ []) ("<p><sup><a href=\"#user-content-fn-a\" id=\"user-content-fnref-a\" data-footnote-ref=\"\" aria-describedby=\"footnote-label\">1</a></sup></p>\n<section data-footnotes=\"\" class=\"footnotes\"><h2 id=\"footnote-labe" ∷ "l\" class=\"sr-only\">Footnotes</h2>\n<ol>\n<li id=\"user-content-fn-a\">\n<a href=\"#user-content-fnref-a\" data-footnote-backref=\"\" aria-label=\"Back to content\" class=\"data-footnote-backref\">â\u{86}©</a>\n</li>\n</o" ∷ "l>\n</section>\n" ∷ []))
unfolding running
v25 = tt

v26 : T (shows (off Lf) ("- a\n  [^b]\n\n  [^b]: c\n- d" ∷ []) (enter_with 22 1 ∷ enter 23 ∷ enter 24 ∷ enter 25 ∷ exit 25 0 1 ∷ enter 1 ∷ exit 1 1 2 ∷ exit 24 0 2 ∷ enter 12 ∷ enter 5 ∷ exit 5 2 3 ∷ enter 3 ∷ exit 3 3 4 ∷ enter 1 ∷ exit 1 4 6 ∷ enter 62 ∷ enter 47 ∷ enter 0 ∷ enter 0 ∷ exit 0 6 7 ∷ enter 0 ∷ exit 0 7 8 ∷ exit 0 6 8 ∷ enter 48 ∷ enter 5 ∷ exit 5 8 9 ∷ exit 48 8 9 ∷ enter 0 ∷ enter 0 ∷ exit 0 9 10 ∷ exit 0 9 10 ∷ exit 47 6 10 ∷ exit 62 6 10 ∷ exit 12 2 10 ∷ enter 3 ∷ exit 3 10 11 ∷ enter 4 ∷ exit 4 11 12 ∷ enter 1 ∷ exit 1 12 14 ∷ enter 63 ∷ enter 64 ∷ enter 0 ∷ enter 0 ∷ exit 0 14 15 ∷ enter 0 ∷ exit 0 15 16 ∷ enter 65 ∷ enter 5 ∷ exit 5 16 17 ∷ exit 65 16 17 ∷ enter 0 ∷ exit 0 17 18 ∷ exit 0 14 18 ∷ enter 0 ∷ exit 0 18 19 ∷ enter 1 ∷ exit 1 19 20 ∷ exit 64 14 20 ∷ enter 12 ∷ enter 5 ∷ exit 5 20 21 ∷ exit 12 20 21 ∷ exit 63 14 21 ∷ exit 23 0 21 ∷ enter 3 ∷ exit 3 21 22 ∷ enter 23 ∷ enter 24 ∷ enter 25 ∷ exit 25 22 23 ∷ enter 1 ∷ exit 1 23 24 ∷ exit 24 22 24 ∷ enter 12 ∷ enter 5 ∷ exit 5 24 25 ∷ exit 12 24 25 ∷ exit 23 22 25 ∷ exit 22 0 25 ∷ []) ("<ul>\n<li>\n<p>a\n<sup><a href=\"#user-content-fn-b\" id=\"user-content-fnref-b\" data-footnote-ref=\"\" aria-describedby=\"footnote-label\">1</a></sup></p>\n</li>\n<li>\n<p>d</p>\n</li>\n</ul>\n<section data-footnote" ∷ "s=\"\" class=\"footnotes\"><h2 id=\"footnote-label\" class=\"sr-only\">Footnotes</h2>\n<ol>\n<li id=\"user-content-fn-b\">\n<p>c <a href=\"#user-content-fnref-b\" data-footnote-backref=\"\" aria-label=\"Back to content" ∷ "\" class=\"data-footnote-backref\">â\u{86}©</a></p>\n</li>\n</ol>\n</section>\n" ∷ []))
unfolding running
v26 = tt

v27 : T (shows (off Lf) ("[^a]\n\n[^a]: b\nc\n" ∷ []) (enter 12 ∷ enter 62 ∷ enter 47 ∷ enter 0 ∷ enter 0 ∷ exit 0 0 1 ∷ enter 0 ∷ exit 0 1 2 ∷ exit 0 0 2 ∷ enter 48 ∷ enter 5 ∷ exit 5 2 3 ∷ exit 48 2 3 ∷ enter 0 ∷ enter 0 ∷ exit 0 3 4 ∷ exit 0 3 4 ∷ exit 47 0 4 ∷ exit 62 0 4 ∷ exit 12 0 4 ∷ enter 3 ∷ exit 3 4 5 ∷ enter 4 ∷ exit 4 5 6 ∷ enter 63 ∷ enter 64 ∷ enter 0 ∷ enter 0 ∷ exit 0 6 7 ∷ enter 0 ∷ exit 0 7 8 ∷ enter 65 ∷ enter 5 ∷ exit 5 8 9 ∷ exit 65 8 9 ∷ enter 0 ∷ exit 0 9 10 ∷ exit 0 6 10 ∷ enter 0 ∷ exit 0 10 11 ∷ enter 1 ∷ exit 1 11 12 ∷ exit 64 6 12 ∷ enter 12 ∷ enter 5 ∷ exit 5 12 13 ∷ enter 3 ∷ exit 3 13 14 ∷ enter 5 ∷ exit 5 14 15 ∷ exit 12 12 15 ∷ exit 63 6 15 ∷ enter 3 ∷ exit 3 15 16 ∷ []) ("<p><sup><a href=\"#user-content-fn-a\" id=\"user-content-fnref-a\" data-footnote-ref=\"\" aria-describedby=\"footnote-label\">1</a></sup></p>\n<section data-footnotes=\"\" class=\"footnotes\"><h2 id=\"footnote-labe" ∷ "l\" class=\"sr-only\">Footnotes</h2>\n<ol>\n<li id=\"user-content-fn-a\">\n<p>b\nc <a href=\"#user-content-fnref-a\" data-footnote-backref=\"\" aria-label=\"Back to content\" class=\"data-footnote-backref\">â\u{86}©</a></p" ∷ ">\n</li>\n</ol>\n</section>\n" ∷ []))
unfolding running
v27 = tt

v28 : T (shows (off Lf) ("*[^a]*\n\n[^a]: b" ∷ []) (enter 12 ∷ enter 39 ∷ enter 0 ∷ exit 0 0 1 ∷ enter 0 ∷ enter 62 ∷ enter 47 ∷ enter 0 ∷ enter 0 ∷ exit 0 1 2 ∷ enter 0 ∷ exit 0 2 3 ∷ exit 0 1 3 ∷ enter 48 ∷ enter 5 ∷ exit 5 3 4 ∷ exit 48 3 4 ∷ enter 0 ∷ enter 0 ∷ exit 0 4 5 ∷ exit 0 4 5 ∷ exit 47 1 5 ∷ exit 62 1 5 ∷ exit 0 1 5 ∷ enter 0 ∷ exit 0 5 6 ∷ exit 39 0 6 ∷ exit 12 0 6 ∷ enter 3 ∷ exit 3 6 7 ∷ enter 4 ∷ exit 4 7 8 ∷ enter 63 ∷ enter 64 ∷ enter 0 ∷ enter 0 ∷ exit 0 8 9 ∷ enter 0 ∷ exit 0 9 10 ∷ enter 65 ∷ enter 5 ∷ exit 5 10 11 ∷ exit 65 10 11 ∷ enter 0 ∷ exit 0 11 12 ∷ exit 0 8 12 ∷ enter 0 ∷ exit 0 12 13 ∷ enter 1 ∷ exit 1 13 14 ∷ exit 64 8 14 ∷ enter 12 ∷ enter 5 ∷ exit 5 14 15 ∷ exit 12 14 15 ∷ exit 63 8 15 ∷ []) ("<p><em><sup><a href=\"#user-content-fn-a\" id=\"user-content-fnref-a\" data-footnote-ref=\"\" aria-describedby=\"footnote-label\">1</a></sup></em></p>\n<section data-footnotes=\"\" class=\"footnotes\"><h2 id=\"foot" ∷ "note-label\" class=\"sr-only\">Footnotes</h2>\n<ol>\n<li id=\"user-content-fn-a\">\n<p>b <a href=\"#user-content-fnref-a\" data-footnote-backref=\"\" aria-label=\"Back to content\" class=\"data-footnote-backref\">â\u{86}©" ∷ "</a></p>\n</li>\n</ol>\n</section>\n" ∷ []))
unfolding running
v28 = tt

v29 : T (shows (off Lf) ("`[^a]`\n\n[^a]: b" ∷ []) (enter 12 ∷ enter 33 ∷ enter 0 ∷ exit 0 0 1 ∷ enter 34 ∷ exit 34 1 5 ∷ enter 0 ∷ exit 0 5 6 ∷ exit 33 0 6 ∷ exit 12 0 6 ∷ enter 3 ∷ exit 3 6 7 ∷ enter 4 ∷ exit 4 7 8 ∷ enter 63 ∷ enter 64 ∷ enter 0 ∷ enter 0 ∷ exit 0 8 9 ∷ enter 0 ∷ exit 0 9 10 ∷ enter 65 ∷ enter 5 ∷ exit 5 10 11 ∷ exit 65 10 11 ∷ enter 0 ∷ exit 0 11 12 ∷ exit 0 8 12 ∷ enter 0 ∷ exit 0 12 13 ∷ enter 1 ∷ exit 1 13 14 ∷ exit 64 8 14 ∷ enter 12 ∷ enter 5 ∷ exit 5 14 15 ∷ exit 12 14 15 ∷ exit 63 8 15 ∷ []) ("<p><code>[^a]</code></p>\n" ∷ []))
unfolding running
v29 = tt

v30 : T (shows (off Lf) ("![[^a]](b)\n\n[^a]: c" ∷ []) (enter 12 ∷ enter 46 ∷ enter 47 ∷ enter 0 ∷ enter 0 ∷ exit 0 0 1 ∷ enter 0 ∷ exit 0 1 2 ∷ exit 0 0 2 ∷ enter 48 ∷ enter 62 ∷ enter 47 ∷ enter 0 ∷ enter 0 ∷ exit 0 2 3 ∷ enter 0 ∷ exit 0 3 4 ∷ exit 0 2 4 ∷ enter 48 ∷ enter 5 ∷ exit 5 4 5 ∷ exit 48 4 5 ∷ enter 0 ∷ enter 0 ∷ exit 0 5 6 ∷ exit 0 5 6 ∷ exit 47 2 6 ∷ exit 62 2 6 ∷ exit 48 2 6 ∷ enter 0 ∷ enter 0 ∷ exit 0 6 7 ∷ exit 0 6 7 ∷ exit 47 0 7 ∷ enter 49 ∷ enter 0 ∷ exit 0 7 8 ∷ enter 0 ∷ enter 0 ∷ enter 50 ∷ enter 5 ∷ exit 5 8 9 ∷ exit 50 8 9 ∷ exit 0 8 9 ∷ exit 0 8 9 ∷ enter 0 ∷ exit 0 9 10 ∷ exit 49 7 10 ∷ exit 46 0 10 ∷ exit 12 0 10 ∷ enter 3 ∷ exit 3 10 11 ∷ enter 4 ∷ exit 4 11 12 ∷ enter 63 ∷ enter 64 ∷ enter 0 ∷ enter 0 ∷ exit 0 12 13 ∷ enter 0 ∷ exit 0 13 14 ∷ enter 65 ∷ enter 5 ∷ exit 5 14 15 ∷ exit 65 14 15 ∷ enter 0 ∷ exit 0 15 16 ∷ exit 0 12 16 ∷ enter 0 ∷ exit 0 16 17 ∷ enter 1 ∷ exit 1 17 18 ∷ exit 64 12 18 ∷ enter 12 ∷ enter 5 ∷ exit 5 18 19 ∷ exit 12 18 19 ∷ exit 63 12 19 ∷ []) ("<p><img src=\"b\" alt=\"\" /></p>\n<section data-footnotes=\"\" class=\"footnotes\"><h2 id=\"footnote-label\" class=\"sr-only\">Footnotes</h2>\n<ol>\n<li id=\"user-content-fn-a\">\n<p>c <a href=\"#user-content-fnref-a\" " ∷ "data-footnote-backref=\"\" aria-label=\"Back to content\" class=\"data-footnote-backref\">â\u{86}©</a></p>\n</li>\n</ol>\n</section>\n" ∷ []))
unfolding running
v30 = tt

v31 : T (shows (off Lf) ("[[^a]](b)\n\n[^a]: c" ∷ []) (enter 12 ∷ enter 5 ∷ exit 5 0 1 ∷ enter 62 ∷ enter 47 ∷ enter 0 ∷ enter 0 ∷ exit 0 1 2 ∷ enter 0 ∷ exit 0 2 3 ∷ exit 0 1 3 ∷ enter 48 ∷ enter 5 ∷ exit 5 3 4 ∷ exit 48 3 4 ∷ enter 0 ∷ enter 0 ∷ exit 0 4 5 ∷ exit 0 4 5 ∷ exit 47 1 5 ∷ exit 62 1 5 ∷ enter 5 ∷ exit 5 5 9 ∷ exit 12 0 9 ∷ enter 3 ∷ exit 3 9 10 ∷ enter 4 ∷ exit 4 10 11 ∷ enter 63 ∷ enter 64 ∷ enter 0 ∷ enter 0 ∷ exit 0 11 12 ∷ enter 0 ∷ exit 0 12 13 ∷ enter 65 ∷ enter 5 ∷ exit 5 13 14 ∷ exit 65 13 14 ∷ enter 0 ∷ exit 0 14 15 ∷ exit 0 11 15 ∷ enter 0 ∷ exit 0 15 16 ∷ enter 1 ∷ exit 1 16 17 ∷ exit 64 11 17 ∷ enter 12 ∷ enter 5 ∷ exit 5 17 18 ∷ exit 12 17 18 ∷ exit 63 11 18 ∷ []) ("<p>[<sup><a href=\"#user-content-fn-a\" id=\"user-content-fnref-a\" data-footnote-ref=\"\" aria-describedby=\"footnote-label\">1</a></sup>](b)</p>\n<section data-footnotes=\"\" class=\"footnotes\"><h2 id=\"footnote" ∷ "-label\" class=\"sr-only\">Footnotes</h2>\n<ol>\n<li id=\"user-content-fn-a\">\n<p>c <a href=\"#user-content-fnref-a\" data-footnote-backref=\"\" aria-label=\"Back to content\" class=\"data-footnote-backref\">â\u{86}©</a>" ∷ "</p>\n</li>\n</ol>\n</section>\n" ∷ []))
unfolding running
v31 = tt

v32 : T (shows (off Lf) ("[^a]:\n\n    b\n\n[^a]\n" ∷ []) (enter 63 ∷ enter 64 ∷ enter 0 ∷ enter 0 ∷ exit 0 0 1 ∷ enter 0 ∷ exit 0 1 2 ∷ enter 65 ∷ enter 5 ∷ exit 5 2 3 ∷ exit 65 2 3 ∷ enter 0 ∷ exit 0 3 4 ∷ exit 0 0 4 ∷ enter 0 ∷ exit 0 4 5 ∷ exit 64 0 5 ∷ enter 4 ∷ exit 4 5 6 ∷ enter 4 ∷ exit 4 6 7 ∷ enter 1 ∷ exit 1 7 11 ∷ enter 12 ∷ enter 5 ∷ exit 5 11 12 ∷ exit 12 11 12 ∷ enter 3 ∷ exit 3 12 13 ∷ exit 63 0 13 ∷ enter 4 ∷ exit 4 13 14 ∷ enter 12 ∷ enter 62 ∷ enter 47 ∷ enter 0 ∷ enter 0 ∷ exit 0 14 15 ∷ enter 0 ∷ exit 0 15 16 ∷ exit 0 14 16 ∷ enter 48 ∷ enter 5 ∷ exit 5 16 17 ∷ exit 48 16 17 ∷ enter 0 ∷ enter 0 ∷ exit 0 17 18 ∷ exit 0 17 18 ∷ exit 47 14 18 ∷ exit 62 14 18 ∷ exit 12 14 18 ∷ enter 3 ∷ exit 3 18 19 ∷ []) ("<p><sup><a href=\"#user-content-fn-a\" id=\"user-content-fnref-a\" data-footnote-ref=\"\" aria-describedby=\"footnote-label\">1</a></sup></p>\n<section data-footnotes=\"\" class=\"footnotes\"><h2 id=\"footnote-labe" ∷ "l\" class=\"sr-only\">Footnotes</h2>\n<ol>\n<li id=\"user-content-fn-a\">\n<p>b <a href=\"#user-content-fnref-a\" data-footnote-backref=\"\" aria-label=\"Back to content\" class=\"data-footnote-backref\">â\u{86}©</a></p>\n" ∷ "</li>\n</ol>\n</section>\n" ∷ []))
unfolding running
v32 = tt

v33 : T (shows (off Lf) ("[^a]\n\n[^a]: [b]: c\n\n[b]" ∷ []) (enter 12 ∷ enter 62 ∷ enter 47 ∷ enter 0 ∷ enter 0 ∷ exit 0 0 1 ∷ enter 0 ∷ exit 0 1 2 ∷ exit 0 0 2 ∷ enter 48 ∷ enter 5 ∷ exit 5 2 3 ∷ exit 48 2 3 ∷ enter 0 ∷ enter 0 ∷ exit 0 3 4 ∷ exit 0 3 4 ∷ exit 47 0 4 ∷ exit 62 0 4 ∷ exit 12 0 4 ∷ enter 3 ∷ exit 3 4 5 ∷ enter 4 ∷ exit 4 5 6 ∷ enter 63 ∷ enter 64 ∷ enter 0 ∷ enter 0 ∷ exit 0 6 7 ∷ enter 0 ∷ exit 0 7 8 ∷ enter 65 ∷ enter 5 ∷ exit 5 8 9 ∷ exit 65 8 9 ∷ enter 0 ∷ exit 0 9 10 ∷ exit 0 6 10 ∷ enter 0 ∷ exit 0 10 11 ∷ enter 1 ∷ exit 1 11 12 ∷ exit 64 6 12 ∷ enter 53 ∷ enter 0 ∷ enter 0 ∷ exit 0 12 13 ∷ enter 54 ∷ enter 5 ∷ exit 5 13 14 ∷ exit 54 13 14 ∷ enter 0 ∷ exit 0 14 15 ∷ exit 0 12 15 ∷ enter 0 ∷ exit 0 15 16 ∷ enter 1 ∷ exit 1 16 17 ∷ enter 0 ∷ enter 0 ∷ enter 55 ∷ enter 5 ∷ exit 5 17 18 ∷ exit 55 17 18 ∷ exit 0 17 18 ∷ exit 0 17 18 ∷ exit 53 12 18 ∷ enter 3 ∷ exit 3 18 19 ∷ exit 63 6 19 ∷ enter 4 ∷ exit 4 19 20 ∷ enter 12 ∷ enter 45 ∷ enter 47 ∷ enter 0 ∷ enter 0 ∷ exit 0 20 21 ∷ exit 0 20 21 ∷ enter 48 ∷ enter 5 ∷ exit 5 21 22 ∷ exit 48 21 22 ∷ enter 0 ∷ enter 0 ∷ exit 0 22 23 ∷ exit 0 22 23 ∷ exit 47 20 23 ∷ exit 45 20 23 ∷ exit 12 20 23 ∷ []) ("<p><sup><a href=\"#user-content-fn-a\" id=\"user-content-fnref-a\" data-footnote-ref=\"\" aria-describedby=\"footnote-label\">1</a></sup></p>\n<p><a href=\"c\">b</a></p>\n<section data-footnotes=\"\" class=\"footnot" ∷ "es\"><h2 id=\"footnote-label\" class=\"sr-only\">Footnotes</h2>\n<ol>\n<li id=\"user-content-fn-a\">\n<a href=\"#user-content-fnref-a\" data-footnote-backref=\"\" aria-label=\"Back to content\" class=\"data-footnote-b" ∷ "ackref\">â\u{86}©</a>\n</li>\n</ol>\n</section>\n" ∷ []))
unfolding running
v33 = tt

v34 : T (shows (off Lf) ("[^a]\n\n[^a]: b\n\n    ```\n    c\n" ∷ []) (enter 12 ∷ enter 62 ∷ enter 47 ∷ enter 0 ∷ enter 0 ∷ exit 0 0 1 ∷ enter 0 ∷ exit 0 1 2 ∷ exit 0 0 2 ∷ enter 48 ∷ enter 5 ∷ exit 5 2 3 ∷ exit 48 2 3 ∷ enter 0 ∷ enter 0 ∷ exit 0 3 4 ∷ exit 0 3 4 ∷ exit 47 0 4 ∷ exit 62 0 4 ∷ exit 12 0 4 ∷ enter 3 ∷ exit 3 4 5 ∷ enter 4 ∷ exit 4 5 6 ∷ enter 63 ∷ enter 64 ∷ enter 0 ∷ enter 0 ∷ exit 0 6 7 ∷ enter 0 ∷ exit 0 7 8 ∷ enter 65 ∷ enter 5 ∷ exit 5 8 9 ∷ exit 65 8 9 ∷ enter 0 ∷ exit 0 9 10 ∷ exit 0 6 10 ∷ enter 0 ∷ exit 0 10 11 ∷ enter 1 ∷ exit 1 11 12 ∷ exit 64 6 12 ∷ enter 12 ∷ enter 5 ∷ exit 5 12 13 ∷ exit 12 12 13 ∷ enter 3 ∷ exit 3 13 14 ∷ enter 4 ∷ exit 4 14 15 ∷ enter 1 ∷ exit 1 15 19 ∷ enter 28 ∷ enter 29 ∷ enter 0 ∷ exit 0 19 22 ∷ exit 29 19 22 ∷ enter 3 ∷ exit 3 22 23 ∷ enter 1 ∷ exit 1 23 27 ∷ enter 32 ∷ exit 32 27 28 ∷ enter 3 ∷ exit 3 28 29 ∷ exit 28 19 29 ∷ exit 63 6 29 ∷ []) ("<p><sup><a href=\"#user-content-fn-a\" id=\"user-content-fnref-a\" data-footnote-ref=\"\" aria-describedby=\"footnote-label\">1</a></sup></p>\n<section data-footnotes=\"\" class=\"footnotes\"><h2 id=\"footnote-labe" ∷ "l\" class=\"sr-only\">Footnotes</h2>\n<ol>\n<li id=\"user-content-fn-a\">\n<p>b</p>\n<pre><code>c\n\n</code></pre>\n<a href=\"#user-content-fnref-a\" data-footnote-backref=\"\" aria-label=\"Back to content\" class=\"dat" ∷ "a-footnote-backref\">â\u{86}©</a>\n</li>\n</ol>\n</section>\n" ∷ []))
unfolding running
v34 = tt

v35 : T (shows (off Lf) ("[^\0]\n\n[^\0]: a" ∷ []) (enter 12 ∷ enter 62 ∷ enter 47 ∷ enter 0 ∷ enter 0 ∷ exit 0 0 1 ∷ enter 0 ∷ exit 0 1 2 ∷ exit 0 0 2 ∷ enter 48 ∷ enter 5 ∷ exit 5 2 3 ∷ exit 48 2 3 ∷ enter 0 ∷ enter 0 ∷ exit 0 3 4 ∷ exit 0 3 4 ∷ exit 47 0 4 ∷ exit 62 0 4 ∷ exit 12 0 4 ∷ enter 3 ∷ exit 3 4 5 ∷ enter 4 ∷ exit 4 5 6 ∷ enter 63 ∷ enter 64 ∷ enter 0 ∷ enter 0 ∷ exit 0 6 7 ∷ enter 0 ∷ exit 0 7 8 ∷ enter 65 ∷ enter 5 ∷ exit 5 8 9 ∷ exit 65 8 9 ∷ enter 0 ∷ exit 0 9 10 ∷ exit 0 6 10 ∷ enter 0 ∷ exit 0 10 11 ∷ enter 1 ∷ exit 1 11 12 ∷ exit 64 6 12 ∷ enter 12 ∷ enter 5 ∷ exit 5 12 13 ∷ exit 12 12 13 ∷ exit 63 6 13 ∷ []) ("<p><sup><a href=\"#user-content-fn-%00\" id=\"user-content-fnref-%00\" data-footnote-ref=\"\" aria-describedby=\"footnote-label\">1</a></sup></p>\n<section data-footnotes=\"\" class=\"footnotes\"><h2 id=\"footnote-" ∷ "label\" class=\"sr-only\">Footnotes</h2>\n<ol>\n<li id=\"user-content-fn-%00\">\n<p>a <a href=\"#user-content-fnref-%00\" data-footnote-backref=\"\" aria-label=\"Back to content\" class=\"data-footnote-backref\">â\u{86}©<" ∷ "/a></p>\n</li>\n</ol>\n</section>\n" ∷ []))
unfolding running
v35 = tt

v36 : T (shows (off Lf) ("[^a]: b\n\n[^a]: c\n\n[^a]\n[^a]" ∷ []) (enter 63 ∷ enter 64 ∷ enter 0 ∷ enter 0 ∷ exit 0 0 1 ∷ enter 0 ∷ exit 0 1 2 ∷ enter 65 ∷ enter 5 ∷ exit 5 2 3 ∷ exit 65 2 3 ∷ enter 0 ∷ exit 0 3 4 ∷ exit 0 0 4 ∷ enter 0 ∷ exit 0 4 5 ∷ enter 1 ∷ exit 1 5 6 ∷ exit 64 0 6 ∷ enter 12 ∷ enter 5 ∷ exit 5 6 7 ∷ exit 12 6 7 ∷ enter 3 ∷ exit 3 7 8 ∷ exit 63 0 8 ∷ enter 4 ∷ exit 4 8 9 ∷ enter 63 ∷ enter 64 ∷ enter 0 ∷ enter 0 ∷ exit 0 9 10 ∷ enter 0 ∷ exit 0 10 11 ∷ enter 65 ∷ enter 5 ∷ exit 5 11 12 ∷ exit 65 11 12 ∷ enter 0 ∷ exit 0 12 13 ∷ exit 0 9 13 ∷ enter 0 ∷ exit 0 13 14 ∷ enter 1 ∷ exit 1 14 15 ∷ exit 64 9 15 ∷ enter 12 ∷ enter 5 ∷ exit 5 15 16 ∷ exit 12 15 16 ∷ enter 3 ∷ exit 3 16 17 ∷ exit 63 9 17 ∷ enter 4 ∷ exit 4 17 18 ∷ enter 12 ∷ enter 62 ∷ enter 47 ∷ enter 0 ∷ enter 0 ∷ exit 0 18 19 ∷ enter 0 ∷ exit 0 19 20 ∷ exit 0 18 20 ∷ enter 48 ∷ enter 5 ∷ exit 5 20 21 ∷ exit 48 20 21 ∷ enter 0 ∷ enter 0 ∷ exit 0 21 22 ∷ exit 0 21 22 ∷ exit 47 18 22 ∷ exit 62 18 22 ∷ enter 3 ∷ exit 3 22 23 ∷ enter 62 ∷ enter 47 ∷ enter 0 ∷ enter 0 ∷ exit 0 23 24 ∷ enter 0 ∷ exit 0 24 25 ∷ exit 0 23 25 ∷ enter 48 ∷ enter 5 ∷ exit 5 25 26 ∷ exit 48 25 26 ∷ enter 0 ∷ enter 0 ∷ exit 0 26 27 ∷ exit 0 26 27 ∷ exit 47 23 27 ∷ exit 62 23 27 ∷ exit 12 18 27 ∷ []) ("<p><sup><a href=\"#user-content-fn-a\" id=\"user-content-fnref-a\" data-footnote-ref=\"\" aria-describedby=\"footnote-label\">1</a></sup>\n<sup><a href=\"#user-content-fn-a\" id=\"user-content-fnref-a-2\" data-foo" ∷ "tnote-ref=\"\" aria-describedby=\"footnote-label\">1</a></sup></p>\n<section data-footnotes=\"\" class=\"footnotes\"><h2 id=\"footnote-label\" class=\"sr-only\">Footnotes</h2>\n<ol>\n<li id=\"user-content-fn-a\">\n<p>b" ∷ " <a href=\"#user-content-fnref-a\" data-footnote-backref=\"\" aria-label=\"Back to content\" class=\"data-footnote-backref\">â\u{86}©</a> <a href=\"#user-content-fnref-a-2\" data-footnote-backref=\"\" aria-label=\"Back" ∷ " to content\" class=\"data-footnote-backref\">â\u{86}©<sup>2</sup></a></p>\n</li>\n</ol>\n</section>\n" ∷ []))
unfolding running
v36 = tt

v37 : T (shows (off Lf) ("[^a]: [^a]: c\n\n[^a]\n" ∷ []) (enter 63 ∷ enter 64 ∷ enter 0 ∷ enter 0 ∷ exit 0 0 1 ∷ enter 0 ∷ exit 0 1 2 ∷ enter 65 ∷ enter 5 ∷ exit 5 2 3 ∷ exit 65 2 3 ∷ enter 0 ∷ exit 0 3 4 ∷ exit 0 0 4 ∷ enter 0 ∷ exit 0 4 5 ∷ enter 1 ∷ exit 1 5 6 ∷ exit 64 0 6 ∷ enter 63 ∷ enter 64 ∷ enter 0 ∷ enter 0 ∷ exit 0 6 7 ∷ enter 0 ∷ exit 0 7 8 ∷ enter 65 ∷ enter 5 ∷ exit 5 8 9 ∷ exit 65 8 9 ∷ enter 0 ∷ exit 0 9 10 ∷ exit 0 6 10 ∷ enter 0 ∷ exit 0 10 11 ∷ enter 1 ∷ exit 1 11 12 ∷ exit 64 6 12 ∷ enter 12 ∷ enter 5 ∷ exit 5 12 13 ∷ exit 12 12 13 ∷ enter 3 ∷ exit 3 13 14 ∷ exit 63 6 14 ∷ exit 63 0 14 ∷ enter 4 ∷ exit 4 14 15 ∷ enter 12 ∷ enter 62 ∷ enter 47 ∷ enter 0 ∷ enter 0 ∷ exit 0 15 16 ∷ enter 0 ∷ exit 0 16 17 ∷ exit 0 15 17 ∷ enter 48 ∷ enter 5 ∷ exit 5 17 18 ∷ exit 48 17 18 ∷ enter 0 ∷ enter 0 ∷ exit 0 18 19 ∷ exit 0 18 19 ∷ exit 47 15 19 ∷ exit 62 15 19 ∷ exit 12 15 19 ∷ enter 3 ∷ exit 3 19 20 ∷ []) ("<p><sup><a href=\"#user-content-fn-a\" id=\"user-content-fnref-a\" data-footnote-ref=\"\" aria-describedby=\"footnote-label\">1</a></sup></p>\n<section data-footnotes=\"\" class=\"footnotes\"><h2 id=\"footnote-labe" ∷ "l\" class=\"sr-only\">Footnotes</h2>\n<ol>\n<li id=\"user-content-fn-a\">\n<p>c <a href=\"#user-content-fnref-a\" data-footnote-backref=\"\" aria-label=\"Back to content\" class=\"data-footnote-backref\">â\u{86}©</a></p>\n" ∷ "</li>\n</ol>\n</section>\n" ∷ []))
unfolding running
v37 = tt

v38 : T (shows (off Lf) ("[^a]\n\n[^a]: [^a]: c\n" ∷ []) (enter 12 ∷ enter 62 ∷ enter 47 ∷ enter 0 ∷ enter 0 ∷ exit 0 0 1 ∷ enter 0 ∷ exit 0 1 2 ∷ exit 0 0 2 ∷ enter 48 ∷ enter 5 ∷ exit 5 2 3 ∷ exit 48 2 3 ∷ enter 0 ∷ enter 0 ∷ exit 0 3 4 ∷ exit 0 3 4 ∷ exit 47 0 4 ∷ exit 62 0 4 ∷ exit 12 0 4 ∷ enter 3 ∷ exit 3 4 5 ∷ enter 4 ∷ exit 4 5 6 ∷ enter 63 ∷ enter 64 ∷ enter 0 ∷ enter 0 ∷ exit 0 6 7 ∷ enter 0 ∷ exit 0 7 8 ∷ enter 65 ∷ enter 5 ∷ exit 5 8 9 ∷ exit 65 8 9 ∷ enter 0 ∷ exit 0 9 10 ∷ exit 0 6 10 ∷ enter 0 ∷ exit 0 10 11 ∷ enter 1 ∷ exit 1 11 12 ∷ exit 64 6 12 ∷ enter 63 ∷ enter 64 ∷ enter 0 ∷ enter 0 ∷ exit 0 12 13 ∷ enter 0 ∷ exit 0 13 14 ∷ enter 65 ∷ enter 5 ∷ exit 5 14 15 ∷ exit 65 14 15 ∷ enter 0 ∷ exit 0 15 16 ∷ exit 0 12 16 ∷ enter 0 ∷ exit 0 16 17 ∷ enter 1 ∷ exit 1 17 18 ∷ exit 64 12 18 ∷ enter 12 ∷ enter 5 ∷ exit 5 18 19 ∷ exit 12 18 19 ∷ exit 63 12 19 ∷ exit 63 6 19 ∷ enter 3 ∷ exit 3 19 20 ∷ []) ("<p><sup><a href=\"#user-content-fn-a\" id=\"user-content-fnref-a\" data-footnote-ref=\"\" aria-describedby=\"footnote-label\">1</a></sup></p>\n<section data-footnotes=\"\" class=\"footnotes\"><h2 id=\"footnote-labe" ∷ "l\" class=\"sr-only\">Footnotes</h2>\n<ol>\n<li id=\"user-content-fn-a\">\n<p>c <a href=\"#user-content-fnref-a\" data-footnote-backref=\"\" aria-label=\"Back to content\" class=\"data-footnote-backref\">â\u{86}©</a></p>\n" ∷ "</li>\n</ol>\n</section>\n" ∷ []))
unfolding running
v38 = tt

v39 : T (shows (off Lf) ("[^a] [^b] [^a] [^b] [^a]\n\n[^b]: x\n[^a]: y" ∷ []) (enter 12 ∷ enter 62 ∷ enter 47 ∷ enter 0 ∷ enter 0 ∷ exit 0 0 1 ∷ enter 0 ∷ exit 0 1 2 ∷ exit 0 0 2 ∷ enter 48 ∷ enter 5 ∷ exit 5 2 3 ∷ exit 48 2 3 ∷ enter 0 ∷ enter 0 ∷ exit 0 3 4 ∷ exit 0 3 4 ∷ exit 47 0 4 ∷ exit 62 0 4 ∷ enter 5 ∷ exit 5 4 5 ∷ enter 62 ∷ enter 47 ∷ enter 0 ∷ enter 0 ∷ exit 0 5 6 ∷ enter 0 ∷ exit 0 6 7 ∷ exit 0 5 7 ∷ enter 48 ∷ enter 5 ∷ exit 5 7 8 ∷ exit 48 7 8 ∷ enter 0 ∷ enter 0 ∷ exit 0 8 9 ∷ exit 0 8 9 ∷ exit 47 5 9 ∷ exit 62 5 9 ∷ enter 5 ∷ exit 5 9 10 ∷ enter 62 ∷ enter 47 ∷ enter 0 ∷ enter 0 ∷ exit 0 10 11 ∷ enter 0 ∷ exit 0 11 12 ∷ exit 0 10 12 ∷ enter 48 ∷ enter 5 ∷ exit 5 12 13 ∷ exit 48 12 13 ∷ enter 0 ∷ enter 0 ∷ exit 0 13 14 ∷ exit 0 13 14 ∷ exit 47 10 14 ∷ exit 62 10 14 ∷ enter 5 ∷ exit 5 14 15 ∷ enter 62 ∷ enter 47 ∷ enter 0 ∷ enter 0 ∷ exit 0 15 16 ∷ enter 0 ∷ exit 0 16 17 ∷ exit 0 15 17 ∷ enter 48 ∷ enter 5 ∷ exit 5 17 18 ∷ exit 48 17 18 ∷ enter 0 ∷ enter 0 ∷ exit 0 18 19 ∷ exit 0 18 19 ∷ exit 47 15 19 ∷ exit 62 15 19 ∷ enter 5 ∷ exit 5 19 20 ∷ enter 62 ∷ enter 47 ∷ enter 0 ∷ enter 0 ∷ exit 0 20 21 ∷ enter 0 ∷ exit 0 21 22 ∷ exit 0 20 22 ∷ enter 48 ∷ enter 5 ∷ exit 5 22 23 ∷ exit 48 22 23 ∷ enter 0 ∷ enter 0 ∷ exit 0 23 24 ∷ exit 0 23 24 ∷ exit 47 20 24 ∷ exit 62 20 24 ∷ exit 12 0 24 ∷ enter 3 ∷ exit 3 24 25 ∷ enter 4 ∷ exit 4 25 26 ∷ enter 63 ∷ enter 64 ∷ enter 0 ∷ enter 0 ∷ exit 0 26 27 ∷ enter 0 ∷ exit 0 27 28 ∷ enter 65 ∷ enter 5 ∷ exit 5 28 29 ∷ exit 65 28 29 ∷ enter 0 ∷ exit 0 29 30 ∷ exit 0 26 30 ∷ enter 0 ∷ exit 0 30 31 ∷ enter 1 ∷ exit 1 31 32 ∷ exit 64 26 32 ∷ enter 12 ∷ enter 5 ∷ exit 5 32 33 ∷ exit 12 32 33 ∷ exit 63 26 33 ∷ enter 3 ∷ exit 3 33 34 ∷ enter 63 ∷ enter 64 ∷ enter 0 ∷ enter 0 ∷ exit 0 34 35 ∷ enter 0 ∷ exit 0 35 36 ∷ enter 65 ∷ enter 5 ∷ exit 5 36 37 ∷ exit 65 36 37 ∷ enter 0 ∷ exit 0 37 38 ∷ exit 0 34 38 ∷ enter 0 ∷ exit 0 38 39 ∷ enter 1 ∷ exit 1 39 40 ∷ exit 64 34 40 ∷ enter 12 ∷ enter 5 ∷ exit 5 40 41 ∷ exit 12 40 41 ∷ exit 63 34 41 ∷ []) ("<p><sup><a href=\"#user-content-fn-a\" id=\"user-content-fnref-a\" data-footnote-ref=\"\" aria-describedby=\"footnote-label\">1</a></sup> <sup><a href=\"#user-content-fn-b\" id=\"user-content-fnref-b\" data-footn" ∷ "ote-ref=\"\" aria-describedby=\"footnote-label\">2</a></sup> <sup><a href=\"#user-content-fn-a\" id=\"user-content-fnref-a-2\" data-footnote-ref=\"\" aria-describedby=\"footnote-label\">1</a></sup> <sup><a href=\"" ∷ "#user-content-fn-b\" id=\"user-content-fnref-b-2\" data-footnote-ref=\"\" aria-describedby=\"footnote-label\">2</a></sup> <sup><a href=\"#user-content-fn-a\" id=\"user-content-fnref-a-3\" data-footnote-ref=\"\" ar" ∷ "ia-describedby=\"footnote-label\">1</a></sup></p>\n<section data-footnotes=\"\" class=\"footnotes\"><h2 id=\"footnote-label\" class=\"sr-only\">Footnotes</h2>\n<ol>\n<li id=\"user-content-fn-a\">\n<p>y <a href=\"#user" ∷ "-content-fnref-a\" data-footnote-backref=\"\" aria-label=\"Back to content\" class=\"data-footnote-backref\">â\u{86}©</a> <a href=\"#user-content-fnref-a-2\" data-footnote-backref=\"\" aria-label=\"Back to content\" cl" ∷ "ass=\"data-footnote-backref\">â\u{86}©<sup>2</sup></a> <a href=\"#user-content-fnref-a-3\" data-footnote-backref=\"\" aria-label=\"Back to content\" class=\"data-footnote-backref\">â\u{86}©<sup>3</sup></a></p>\n</li>\n<li " ∷ "id=\"user-content-fn-b\">\n<p>x <a href=\"#user-content-fnref-b\" data-footnote-backref=\"\" aria-label=\"Back to content\" class=\"data-footnote-backref\">â\u{86}©</a> <a href=\"#user-content-fnref-b-2\" data-footnote" ∷ "-backref=\"\" aria-label=\"Back to content\" class=\"data-footnote-backref\">â\u{86}©<sup>2</sup></a></p>\n</li>\n</ol>\n</section>\n" ∷ []))
unfolding running
v39 = tt

v40 : T (shows (off Lf) ("[^a]\n\n[^a]: # b\n    c" ∷ []) (enter 12 ∷ enter 62 ∷ enter 47 ∷ enter 0 ∷ enter 0 ∷ exit 0 0 1 ∷ enter 0 ∷ exit 0 1 2 ∷ exit 0 0 2 ∷ enter 48 ∷ enter 5 ∷ exit 5 2 3 ∷ exit 48 2 3 ∷ enter 0 ∷ enter 0 ∷ exit 0 3 4 ∷ exit 0 3 4 ∷ exit 47 0 4 ∷ exit 62 0 4 ∷ exit 12 0 4 ∷ enter 3 ∷ exit 3 4 5 ∷ enter 4 ∷ exit 4 5 6 ∷ enter 63 ∷ enter 64 ∷ enter 0 ∷ enter 0 ∷ exit 0 6 7 ∷ enter 0 ∷ exit 0 7 8 ∷ enter 65 ∷ enter 5 ∷ exit 5 8 9 ∷ exit 65 8 9 ∷ enter 0 ∷ exit 0 9 10 ∷ exit 0 6 10 ∷ enter 0 ∷ exit 0 10 11 ∷ enter 1 ∷ exit 1 11 12 ∷ exit 64 6 12 ∷ enter 13 ∷ enter 14 ∷ exit 14 12 13 ∷ enter 1 ∷ exit 1 13 14 ∷ enter 15 ∷ enter 5 ∷ exit 5 14 15 ∷ exit 15 14 15 ∷ exit 13 12 15 ∷ enter 3 ∷ exit 3 15 16 ∷ enter 1 ∷ exit 1 16 20 ∷ enter 12 ∷ enter 5 ∷ exit 5 20 21 ∷ exit 12 20 21 ∷ exit 63 6 21 ∷ []) ("<p><sup><a href=\"#user-content-fn-a\" id=\"user-content-fnref-a\" data-footnote-ref=\"\" aria-describedby=\"footnote-label\">1</a></sup></p>\n<section data-footnotes=\"\" class=\"footnotes\"><h2 id=\"footnote-labe" ∷ "l\" class=\"sr-only\">Footnotes</h2>\n<ol>\n<li id=\"user-content-fn-a\">\n<h1>b</h1>\n<p>c <a href=\"#user-content-fnref-a\" data-footnote-backref=\"\" aria-label=\"Back to content\" class=\"data-footnote-backref\">â" ∷ "\u{86}©</a></p>\n</li>\n</ol>\n</section>\n" ∷ []))
unfolding running
v40 = tt

v41 : T (shows (off Lf) ("[^a]\n\n[^a]: - b\n    - c" ∷ []) (enter 12 ∷ enter 62 ∷ enter 47 ∷ enter 0 ∷ enter 0 ∷ exit 0 0 1 ∷ enter 0 ∷ exit 0 1 2 ∷ exit 0 0 2 ∷ enter 48 ∷ enter 5 ∷ exit 5 2 3 ∷ exit 48 2 3 ∷ enter 0 ∷ enter 0 ∷ exit 0 3 4 ∷ exit 0 3 4 ∷ exit 47 0 4 ∷ exit 62 0 4 ∷ exit 12 0 4 ∷ enter 3 ∷ exit 3 4 5 ∷ enter 4 ∷ exit 4 5 6 ∷ enter 63 ∷ enter 64 ∷ enter 0 ∷ enter 0 ∷ exit 0 6 7 ∷ enter 0 ∷ exit 0 7 8 ∷ enter 65 ∷ enter 5 ∷ exit 5 8 9 ∷ exit 65 8 9 ∷ enter 0 ∷ exit 0 9 10 ∷ exit 0 6 10 ∷ enter 0 ∷ exit 0 10 11 ∷ enter 1 ∷ exit 1 11 12 ∷ exit 64 6 12 ∷ enter 22 ∷ enter 23 ∷ enter 24 ∷ enter 25 ∷ exit 25 12 13 ∷ enter 1 ∷ exit 1 13 14 ∷ exit 24 12 14 ∷ enter 12 ∷ enter 5 ∷ exit 5 14 15 ∷ exit 12 14 15 ∷ exit 23 12 15 ∷ enter 3 ∷ exit 3 15 16 ∷ enter 1 ∷ exit 1 16 20 ∷ enter 23 ∷ enter 24 ∷ enter 25 ∷ exit 25 20 21 ∷ enter 1 ∷ exit 1 21 22 ∷ exit 24 20 22 ∷ enter 12 ∷ enter 5 ∷ exit 5 22 23 ∷ exit 12 22 23 ∷ exit 23 20 23 ∷ exit 22 12 23 ∷ exit 63 6 23 ∷ []) ("<p><sup><a href=\"#user-content-fn-a\" id=\"user-content-fnref-a\" data-footnote-ref=\"\" aria-describedby=\"footnote-label\">1</a></sup></p>\n<section data-footnotes=\"\" class=\"footnotes\"><h2 id=\"footnote-labe" ∷ "l\" class=\"sr-only\">Footnotes</h2>\n<ol>\n<li id=\"user-content-fn-a\">\n<ul>\n<li>b</li>\n<li>c</li>\n</ul>\n<a href=\"#user-content-fnref-a\" data-footnote-backref=\"\" aria-label=\"Back to content\" class=\"data-fo" ∷ "otnote-backref\">â\u{86}©</a>\n</li>\n</ol>\n</section>\n" ∷ []))
unfolding running
v41 = tt

v42 : T (shows (off Lf) ("[^a]\n\n[^a]: ***" ∷ []) (enter 12 ∷ enter 62 ∷ enter 47 ∷ enter 0 ∷ enter 0 ∷ exit 0 0 1 ∷ enter 0 ∷ exit 0 1 2 ∷ exit 0 0 2 ∷ enter 48 ∷ enter 5 ∷ exit 5 2 3 ∷ exit 48 2 3 ∷ enter 0 ∷ enter 0 ∷ exit 0 3 4 ∷ exit 0 3 4 ∷ exit 47 0 4 ∷ exit 62 0 4 ∷ exit 12 0 4 ∷ enter 3 ∷ exit 3 4 5 ∷ enter 4 ∷ exit 4 5 6 ∷ enter 63 ∷ enter 64 ∷ enter 0 ∷ enter 0 ∷ exit 0 6 7 ∷ enter 0 ∷ exit 0 7 8 ∷ enter 65 ∷ enter 5 ∷ exit 5 8 9 ∷ exit 65 8 9 ∷ enter 0 ∷ exit 0 9 10 ∷ exit 0 6 10 ∷ enter 0 ∷ exit 0 10 11 ∷ enter 1 ∷ exit 1 11 12 ∷ exit 64 6 12 ∷ enter 19 ∷ enter 0 ∷ exit 0 12 15 ∷ exit 19 12 15 ∷ exit 63 6 15 ∷ []) ("<p><sup><a href=\"#user-content-fn-a\" id=\"user-content-fnref-a\" data-footnote-ref=\"\" aria-describedby=\"footnote-label\">1</a></sup></p>\n<section data-footnotes=\"\" class=\"footnotes\"><h2 id=\"footnote-labe" ∷ "l\" class=\"sr-only\">Footnotes</h2>\n<ol>\n<li id=\"user-content-fn-a\">\n<hr />\n<a href=\"#user-content-fnref-a\" data-footnote-backref=\"\" aria-label=\"Back to content\" class=\"data-footnote-backref\">â\u{86}©</a>\n</" ∷ "li>\n</ol>\n</section>\n" ∷ []))
unfolding running
v42 = tt

v43 : T (shows (off Lf) ("[^a]\n\n[^a]: b\n    [^c]\n\n[^c]: d\n" ∷ []) (enter 12 ∷ enter 62 ∷ enter 47 ∷ enter 0 ∷ enter 0 ∷ exit 0 0 1 ∷ enter 0 ∷ exit 0 1 2 ∷ exit 0 0 2 ∷ enter 48 ∷ enter 5 ∷ exit 5 2 3 ∷ exit 48 2 3 ∷ enter 0 ∷ enter 0 ∷ exit 0 3 4 ∷ exit 0 3 4 ∷ exit 47 0 4 ∷ exit 62 0 4 ∷ exit 12 0 4 ∷ enter 3 ∷ exit 3 4 5 ∷ enter 4 ∷ exit 4 5 6 ∷ enter 63 ∷ enter 64 ∷ enter 0 ∷ enter 0 ∷ exit 0 6 7 ∷ enter 0 ∷ exit 0 7 8 ∷ enter 65 ∷ enter 5 ∷ exit 5 8 9 ∷ exit 65 8 9 ∷ enter 0 ∷ exit 0 9 10 ∷ exit 0 6 10 ∷ enter 0 ∷ exit 0 10 11 ∷ enter 1 ∷ exit 1 11 12 ∷ exit 64 6 12 ∷ enter 12 ∷ enter 5 ∷ exit 5 12 13 ∷ enter 3 ∷ exit 3 13 14 ∷ enter 1 ∷ exit 1 14 18 ∷ enter 62 ∷ enter 47 ∷ enter 0 ∷ enter 0 ∷ exit 0 18 19 ∷ enter 0 ∷ exit 0 19 20 ∷ exit 0 18 20 ∷ enter 48 ∷ enter 5 ∷ exit 5 20 21 ∷ exit 48 20 21 ∷ enter 0 ∷ enter 0 ∷ exit 0 21 22 ∷ exit 0 21 22 ∷ exit 47 18 22 ∷ exit 62 18 22 ∷ exit 12 12 22 ∷ enter 3 ∷ exit 3 22 23 ∷ exit 63 6 23 ∷ enter 4 ∷ exit 4 23 24 ∷ enter 63 ∷ enter 64 ∷ enter 0 ∷ enter 0 ∷ exit 0 24 25 ∷ enter 0 ∷ exit 0 25 26 ∷ enter 65 ∷ enter 5 ∷ exit 5 26 27 ∷ exit 65 26 27 ∷ enter 0 ∷ exit 0 27 28 ∷ exit 0 24 28 ∷ enter 0 ∷ exit 0 28 29 ∷ enter 1 ∷ exit 1 29 30 ∷ exit 64 24 30 ∷ enter 12 ∷ enter 5 ∷ exit 5 30 31 ∷ exit 12 30 31 ∷ exit 63 24 31 ∷ enter 3 ∷ exit 3 31 32 ∷ []) ("<p><sup><a href=\"#user-content-fn-a\" id=\"user-content-fnref-a\" data-footnote-ref=\"\" aria-describedby=\"footnote-label\">1</a></sup></p>\n<section data-footnotes=\"\" class=\"footnotes\"><h2 id=\"footnote-labe" ∷ "l\" class=\"sr-only\">Footnotes</h2>\n<ol>\n<li id=\"user-content-fn-a\">\n<p>b\n<sup><a href=\"#user-content-fn-c\" id=\"user-content-fnref-c\" data-footnote-ref=\"\" aria-describedby=\"footnote-label\">2</a></sup> <" ∷ "a href=\"#user-content-fnref-a\" data-footnote-backref=\"\" aria-label=\"Back to content\" class=\"data-footnote-backref\">â\u{86}©</a></p>\n</li>\n<li id=\"user-content-fn-c\">\n<p>d <a href=\"#user-content-fnref-c\" da" ∷ "ta-footnote-backref=\"\" aria-label=\"Back to content\" class=\"data-footnote-backref\">â\u{86}©</a></p>\n</li>\n</ol>\n</section>\n" ∷ []))
unfolding running
v43 = tt

v44 : T (shows (off Lf) ("[^a]\n\n[^a]: [^b]: c\n\n    d [^b]\n" ∷ []) (enter 12 ∷ enter 62 ∷ enter 47 ∷ enter 0 ∷ enter 0 ∷ exit 0 0 1 ∷ enter 0 ∷ exit 0 1 2 ∷ exit 0 0 2 ∷ enter 48 ∷ enter 5 ∷ exit 5 2 3 ∷ exit 48 2 3 ∷ enter 0 ∷ enter 0 ∷ exit 0 3 4 ∷ exit 0 3 4 ∷ exit 47 0 4 ∷ exit 62 0 4 ∷ exit 12 0 4 ∷ enter 3 ∷ exit 3 4 5 ∷ enter 4 ∷ exit 4 5 6 ∷ enter 63 ∷ enter 64 ∷ enter 0 ∷ enter 0 ∷ exit 0 6 7 ∷ enter 0 ∷ exit 0 7 8 ∷ enter 65 ∷ enter 5 ∷ exit 5 8 9 ∷ exit 65 8 9 ∷ enter 0 ∷ exit 0 9 10 ∷ exit 0 6 10 ∷ enter 0 ∷ exit 0 10 11 ∷ enter 1 ∷ exit 1 11 12 ∷ exit 64 6 12 ∷ enter 63 ∷ enter 64 ∷ enter 0 ∷ enter 0 ∷ exit 0 12 13 ∷ enter 0 ∷ exit 0 13 14 ∷ enter 65 ∷ enter 5 ∷ exit 5 14 15 ∷ exit 65 14 15 ∷ enter 0 ∷ exit 0 15 16 ∷ exit 0 12 16 ∷ enter 0 ∷ exit 0 16 17 ∷ enter 1 ∷ exit 1 17 18 ∷ exit 64 12 18 ∷ enter 12 ∷ enter 5 ∷ exit 5 18 19 ∷ exit 12 18 19 ∷ enter 3 ∷ exit 3 19 20 ∷ exit 63 12 20 ∷ enter 4 ∷ exit 4 20 21 ∷ enter 1 ∷ exit 1 21 25 ∷ enter 12 ∷ enter 5 ∷ exit 5 25 27 ∷ enter 62 ∷ enter 47 ∷ enter 0 ∷ enter 0 ∷ exit 0 27 28 ∷ enter 0 ∷ exit 0 28 29 ∷ exit 0 27 29 ∷ enter 48 ∷ enter 5 ∷ exit 5 29 30 ∷ exit 48 29 30 ∷ enter 0 ∷ enter 0 ∷ exit 0 30 31 ∷ exit 0 30 31 ∷ exit 47 27 31 ∷ exit 62 27 31 ∷ exit 12 25 31 ∷ exit 63 6 31 ∷ enter 3 ∷ exit 3 31 32 ∷ []) ("<p><sup><a href=\"#user-content-fn-a\" id=\"user-content-fnref-a\" data-footnote-ref=\"\" aria-describedby=\"footnote-label\">1</a></sup></p>\n<section data-footnotes=\"\" class=\"footnotes\"><h2 id=\"footnote-labe" ∷ "l\" class=\"sr-only\">Footnotes</h2>\n<ol>\n<li id=\"user-content-fn-a\">\n<p>d <sup><a href=\"#user-content-fn-b\" id=\"user-content-fnref-b\" data-footnote-ref=\"\" aria-describedby=\"footnote-label\">2</a></sup> <" ∷ "a href=\"#user-content-fnref-a\" data-footnote-backref=\"\" aria-label=\"Back to content\" class=\"data-footnote-backref\">â\u{86}©</a></p>\n</li>\n<li id=\"user-content-fn-b\">\n<p>c <a href=\"#user-content-fnref-b\" da" ∷ "ta-footnote-backref=\"\" aria-label=\"Back to content\" class=\"data-footnote-backref\">â\u{86}©</a></p>\n</li>\n</ol>\n</section>\n" ∷ []))
unfolding running
v44 = tt

v45 : T (shows (off Lf) ("[^a] ![[^a]](x) [^a]\n\n[^a]: b" ∷ []) (enter 12 ∷ enter 62 ∷ enter 47 ∷ enter 0 ∷ enter 0 ∷ exit 0 0 1 ∷ enter 0 ∷ exit 0 1 2 ∷ exit 0 0 2 ∷ enter 48 ∷ enter 5 ∷ exit 5 2 3 ∷ exit 48 2 3 ∷ enter 0 ∷ enter 0 ∷ exit 0 3 4 ∷ exit 0 3 4 ∷ exit 47 0 4 ∷ exit 62 0 4 ∷ enter 5 ∷ exit 5 4 5 ∷ enter 46 ∷ enter 47 ∷ enter 0 ∷ enter 0 ∷ exit 0 5 6 ∷ enter 0 ∷ exit 0 6 7 ∷ exit 0 5 7 ∷ enter 48 ∷ enter 62 ∷ enter 47 ∷ enter 0 ∷ enter 0 ∷ exit 0 7 8 ∷ enter 0 ∷ exit 0 8 9 ∷ exit 0 7 9 ∷ enter 48 ∷ enter 5 ∷ exit 5 9 10 ∷ exit 48 9 10 ∷ enter 0 ∷ enter 0 ∷ exit 0 10 11 ∷ exit 0 10 11 ∷ exit 47 7 11 ∷ exit 62 7 11 ∷ exit 48 7 11 ∷ enter 0 ∷ enter 0 ∷ exit 0 11 12 ∷ exit 0 11 12 ∷ exit 47 5 12 ∷ enter 49 ∷ enter 0 ∷ exit 0 12 13 ∷ enter 0 ∷ enter 0 ∷ enter 50 ∷ enter 5 ∷ exit 5 13 14 ∷ exit 50 13 14 ∷ exit 0 13 14 ∷ exit 0 13 14 ∷ enter 0 ∷ exit 0 14 15 ∷ exit 49 12 15 ∷ exit 46 5 15 ∷ enter 5 ∷ exit 5 15 16 ∷ enter 62 ∷ enter 47 ∷ enter 0 ∷ enter 0 ∷ exit 0 16 17 ∷ enter 0 ∷ exit 0 17 18 ∷ exit 0 16 18 ∷ enter 48 ∷ enter 5 ∷ exit 5 18 19 ∷ exit 48 18 19 ∷ enter 0 ∷ enter 0 ∷ exit 0 19 20 ∷ exit 0 19 20 ∷ exit 47 16 20 ∷ exit 62 16 20 ∷ exit 12 0 20 ∷ enter 3 ∷ exit 3 20 21 ∷ enter 4 ∷ exit 4 21 22 ∷ enter 63 ∷ enter 64 ∷ enter 0 ∷ enter 0 ∷ exit 0 22 23 ∷ enter 0 ∷ exit 0 23 24 ∷ enter 65 ∷ enter 5 ∷ exit 5 24 25 ∷ exit 65 24 25 ∷ enter 0 ∷ exit 0 25 26 ∷ exit 0 22 26 ∷ enter 0 ∷ exit 0 26 27 ∷ enter 1 ∷ exit 1 27 28 ∷ exit 64 22 28 ∷ enter 12 ∷ enter 5 ∷ exit 5 28 29 ∷ exit 12 28 29 ∷ exit 63 22 29 ∷ []) ("<p><sup><a href=\"#user-content-fn-a\" id=\"user-content-fnref-a\" data-footnote-ref=\"\" aria-describedby=\"footnote-label\">1</a></sup> <img src=\"x\" alt=\"\" /> <sup><a href=\"#user-content-fn-a\" id=\"user-cont" ∷ "ent-fnref-a-3\" data-footnote-ref=\"\" aria-describedby=\"footnote-label\">1</a></sup></p>\n<section data-footnotes=\"\" class=\"footnotes\"><h2 id=\"footnote-label\" class=\"sr-only\">Footnotes</h2>\n<ol>\n<li id=\"u" ∷ "ser-content-fn-a\">\n<p>b <a href=\"#user-content-fnref-a\" data-footnote-backref=\"\" aria-label=\"Back to content\" class=\"data-footnote-backref\">â\u{86}©</a> <a href=\"#user-content-fnref-a-2\" data-footnote-back" ∷ "ref=\"\" aria-label=\"Back to content\" class=\"data-footnote-backref\">â\u{86}©<sup>2</sup></a> <a href=\"#user-content-fnref-a-3\" data-footnote-backref=\"\" aria-label=\"Back to content\" class=\"data-footnote-backr" ∷ "ef\">â\u{86}©<sup>3</sup></a></p>\n</li>\n</ol>\n</section>\n" ∷ []))
unfolding running
v45 = tt

v46 : T (shows (off Lf) ("[^a/?:&%zz]\n\n[^a/?:&%zz]: b" ∷ []) (enter 12 ∷ enter 62 ∷ enter 47 ∷ enter 0 ∷ enter 0 ∷ exit 0 0 1 ∷ enter 0 ∷ exit 0 1 2 ∷ exit 0 0 2 ∷ enter 48 ∷ enter 5 ∷ exit 5 2 10 ∷ exit 48 2 10 ∷ enter 0 ∷ enter 0 ∷ exit 0 10 11 ∷ exit 0 10 11 ∷ exit 47 0 11 ∷ exit 62 0 11 ∷ exit 12 0 11 ∷ enter 3 ∷ exit 3 11 12 ∷ enter 4 ∷ exit 4 12 13 ∷ enter 63 ∷ enter 64 ∷ enter 0 ∷ enter 0 ∷ exit 0 13 14 ∷ enter 0 ∷ exit 0 14 15 ∷ enter 65 ∷ enter 5 ∷ exit 5 15 23 ∷ exit 65 15 23 ∷ enter 0 ∷ exit 0 23 24 ∷ exit 0 13 24 ∷ enter 0 ∷ exit 0 24 25 ∷ enter 1 ∷ exit 1 25 26 ∷ exit 64 13 26 ∷ enter 12 ∷ enter 5 ∷ exit 5 26 27 ∷ exit 12 26 27 ∷ exit 63 13 27 ∷ []) ("<p><sup><a href=\"#user-content-fn-a/?:&amp;%zz\" id=\"user-content-fnref-a/?:&amp;%zz\" data-footnote-ref=\"\" aria-describedby=\"footnote-label\">1</a></sup></p>\n<section data-footnotes=\"\" class=\"footnotes\"" ∷ "><h2 id=\"footnote-label\" class=\"sr-only\">Footnotes</h2>\n<ol>\n<li id=\"user-content-fn-a/?:&amp;%zz\">\n<p>b <a href=\"#user-content-fnref-a/?:&amp;%zz\" data-footnote-backref=\"\" aria-label=\"Back to content" ∷ "\" class=\"data-footnote-backref\">â\u{86}©</a></p>\n</li>\n</ol>\n</section>\n" ∷ []))
unfolding running
v46 = tt

v47 : T (shows (off Lf) ("[^AbC]\n\n[^aBc]: d" ∷ []) (enter 12 ∷ enter 62 ∷ enter 47 ∷ enter 0 ∷ enter 0 ∷ exit 0 0 1 ∷ enter 0 ∷ exit 0 1 2 ∷ exit 0 0 2 ∷ enter 48 ∷ enter 5 ∷ exit 5 2 5 ∷ exit 48 2 5 ∷ enter 0 ∷ enter 0 ∷ exit 0 5 6 ∷ exit 0 5 6 ∷ exit 47 0 6 ∷ exit 62 0 6 ∷ exit 12 0 6 ∷ enter 3 ∷ exit 3 6 7 ∷ enter 4 ∷ exit 4 7 8 ∷ enter 63 ∷ enter 64 ∷ enter 0 ∷ enter 0 ∷ exit 0 8 9 ∷ enter 0 ∷ exit 0 9 10 ∷ enter 65 ∷ enter 5 ∷ exit 5 10 13 ∷ exit 65 10 13 ∷ enter 0 ∷ exit 0 13 14 ∷ exit 0 8 14 ∷ enter 0 ∷ exit 0 14 15 ∷ enter 1 ∷ exit 1 15 16 ∷ exit 64 8 16 ∷ enter 12 ∷ enter 5 ∷ exit 5 16 17 ∷ exit 12 16 17 ∷ exit 63 8 17 ∷ []) ("<p><sup><a href=\"#user-content-fn-abc\" id=\"user-content-fnref-abc\" data-footnote-ref=\"\" aria-describedby=\"footnote-label\">1</a></sup></p>\n<section data-footnotes=\"\" class=\"footnotes\"><h2 id=\"footnote-" ∷ "label\" class=\"sr-only\">Footnotes</h2>\n<ol>\n<li id=\"user-content-fn-abc\">\n<p>d <a href=\"#user-content-fnref-abc\" data-footnote-backref=\"\" aria-label=\"Back to content\" class=\"data-footnote-backref\">â\u{86}©<" ∷ "/a></p>\n</li>\n</ol>\n</section>\n" ∷ []))
unfolding running
v47 = tt

v48 : T (shows (off Lf) ("- [^a]\n- b\n\n[^a]: - c\n\n      d\n    - e" ∷ []) (enter 22 ∷ enter 23 ∷ enter 24 ∷ enter 25 ∷ exit 25 0 1 ∷ enter 1 ∷ exit 1 1 2 ∷ exit 24 0 2 ∷ enter 12 ∷ enter 62 ∷ enter 47 ∷ enter 0 ∷ enter 0 ∷ exit 0 2 3 ∷ enter 0 ∷ exit 0 3 4 ∷ exit 0 2 4 ∷ enter 48 ∷ enter 5 ∷ exit 5 4 5 ∷ exit 48 4 5 ∷ enter 0 ∷ enter 0 ∷ exit 0 5 6 ∷ exit 0 5 6 ∷ exit 47 2 6 ∷ exit 62 2 6 ∷ exit 12 2 6 ∷ exit 23 0 6 ∷ enter 3 ∷ exit 3 6 7 ∷ enter 23 ∷ enter 24 ∷ enter 25 ∷ exit 25 7 8 ∷ enter 1 ∷ exit 1 8 9 ∷ exit 24 7 9 ∷ enter 12 ∷ enter 5 ∷ exit 5 9 10 ∷ exit 12 9 10 ∷ enter 3 ∷ exit 3 10 11 ∷ exit 23 7 11 ∷ exit 22 0 11 ∷ enter 4 ∷ exit 4 11 12 ∷ enter 63 ∷ enter 64 ∷ enter 0 ∷ enter 0 ∷ exit 0 12 13 ∷ enter 0 ∷ exit 0 13 14 ∷ enter 65 ∷ enter 5 ∷ exit 5 14 15 ∷ exit 65 14 15 ∷ enter 0 ∷ exit 0 15 16 ∷ exit 0 12 16 ∷ enter 0 ∷ exit 0 16 17 ∷ enter 1 ∷ exit 1 17 18 ∷ exit 64 12 18 ∷ enter_with 22 1 ∷ enter 23 ∷ enter 24 ∷ enter 25 ∷ exit 25 18 19 ∷ enter 1 ∷ exit 1 19 20 ∷ exit 24 18 20 ∷ enter 12 ∷ enter 5 ∷ exit 5 20 21 ∷ exit 12 20 21 ∷ enter 3 ∷ exit 3 21 22 ∷ enter 4 ∷ exit 4 22 23 ∷ enter 1 ∷ exit 1 23 27 ∷ enter 1 ∷ exit 1 27 29 ∷ enter 12 ∷ enter 5 ∷ exit 5 29 30 ∷ exit 12 29 30 ∷ exit 23 18 30 ∷ enter 3 ∷ exit 3 30 31 ∷ enter 1 ∷ exit 1 31 35 ∷ enter 23 ∷ enter 24 ∷ enter 25 ∷ exit 25 35 36 ∷ enter 1 ∷ exit 1 36 37 ∷ exit 24 35 37 ∷ enter 12 ∷ enter 5 ∷ exit 5 37 38 ∷ exit 12 37 38 ∷ exit 23 35 38 ∷ exit 22 18 38 ∷ exit 63 12 38 ∷ []) ("<ul>\n<li><sup><a href=\"#user-content-fn-a\" id=\"user-content-fnref-a\" data-footnote-ref=\"\" aria-describedby=\"footnote-label\">1</a></sup></li>\n<li>b</li>\n</ul>\n<section data-footnotes=\"\" class=\"footnote" ∷ "s\"><h2 id=\"footnote-label\" class=\"sr-only\">Footnotes</h2>\n<ol>\n<li id=\"user-content-fn-a\">\n<ul>\n<li>\n<p>c</p>\n<p>d</p>\n</li>\n<li>\n<p>e</p>\n</li>\n</ul>\n<a href=\"#user-content-fnref-a\" data-footnote-bac" ∷ "kref=\"\" aria-label=\"Back to content\" class=\"data-footnote-backref\">â\u{86}©</a>\n</li>\n</ol>\n</section>\n" ∷ []))
unfolding running
v48 = tt
