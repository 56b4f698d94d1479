-- Fenced code: pages of the crate markdown 1.0.0. Made by tools/machine_pages. Assumes nothing.
use mathlib.Core.List.{[], ◌∷◌}
use lib.Dec.{T}
use Rattle.machine.specs.declared.Ending.TheVariants.{Lf, Cr, CrLf}
use Rattle.machine.proofs.Running.{running}
use Rattle.machine.proofs.Answers.{shows, off, enter, exit, enter_with, exit_with}

v1 : T (shows (off Lf) ("```\na\n```" ∷ []) (enter 28 ∷ enter 29 ∷ enter 0 ∷ exit 0 0 3 ∷ exit 29 0 3 ∷ enter 3 ∷ exit 3 3 4 ∷ enter 32 ∷ exit 32 4 5 ∷ enter 3 ∷ exit 3 5 6 ∷ enter 29 ∷ enter 0 ∷ exit 0 6 9 ∷ exit 29 6 9 ∷ exit 28 0 9 ∷ []) ("<pre><code>a\n</code></pre>" ∷ []))
unfolding running
v1 = tt

v2 : T (shows (off Lf) ("```\n" ∷ []) (enter 28 ∷ enter 29 ∷ enter 0 ∷ exit 0 0 3 ∷ exit 29 0 3 ∷ enter 3 ∷ exit 3 3 4 ∷ exit 28 0 4 ∷ []) ("<pre><code></code></pre>\n" ∷ []))
unfolding running
v2 = tt

v3 : T (shows (off Lf) ("```" ∷ []) (enter 28 ∷ enter 29 ∷ enter 0 ∷ exit 0 0 3 ∷ exit 29 0 3 ∷ exit 28 0 3 ∷ []) ("<pre><code></code></pre>\n" ∷ []))
unfolding running
v3 = tt

v4 : T (shows (off Cr) ("```" ∷ []) (enter 28 ∷ enter 29 ∷ enter 0 ∷ exit 0 0 3 ∷ exit 29 0 3 ∷ exit 28 0 3 ∷ []) ("<pre><code></code></pre>\r" ∷ []))
unfolding running
v4 = tt

v5 : T (shows (off CrLf) ("```" ∷ []) (enter 28 ∷ enter 29 ∷ enter 0 ∷ exit 0 0 3 ∷ exit 29 0 3 ∷ exit 28 0 3 ∷ []) ("<pre><code></code></pre>\r\n" ∷ []))
unfolding running
v5 = tt

v6 : T (shows (off Lf) ("```js\na" ∷ []) (enter 28 ∷ enter 29 ∷ enter 0 ∷ exit 0 0 3 ∷ enter 30 ∷ enter 5 ∷ exit 5 3 5 ∷ exit 30 3 5 ∷ exit 29 0 5 ∷ enter 3 ∷ exit 3 5 6 ∷ enter 32 ∷ exit 32 6 7 ∷ exit 28 0 7 ∷ []) ("<pre><code class=\"language-js\">a\n</code></pre>\n" ∷ []))
unfolding running
v6 = tt

v7 : T (shows (off Lf) ("```js m&amp;n \\* x\na\n\nb\n```\n" ∷ []) (enter 28 ∷ enter 29 ∷ enter 0 ∷ exit 0 0 3 ∷ enter 30 ∷ enter 5 ∷ exit 5 3 5 ∷ exit 30 3 5 ∷ enter 1 ∷ exit 1 5 6 ∷ enter 31 ∷ enter 5 ∷ exit 5 6 7 ∷ enter 7 ∷ enter 8 ∷ exit 8 7 8 ∷ enter 11 ∷ exit 11 8 11 ∷ enter 0 ∷ exit 0 11 12 ∷ exit 7 7 12 ∷ enter 5 ∷ exit 5 12 14 ∷ enter 0 ∷ enter 0 ∷ exit 0 14 15 ∷ enter 6 ∷ exit 6 15 16 ∷ exit 0 14 16 ∷ enter 5 ∷ exit 5 16 18 ∷ exit 31 6 18 ∷ exit 29 0 18 ∷ enter 3 ∷ exit 3 18 19 ∷ enter 32 ∷ exit 32 19 20 ∷ enter 3 ∷ exit 3 20 21 ∷ enter 3 ∷ exit 3 21 22 ∷ enter 32 ∷ exit 32 22 23 ∷ enter 3 ∷ exit 3 23 24 ∷ enter 29 ∷ enter 0 ∷ exit 0 24 27 ∷ exit 29 24 27 ∷ exit 28 0 27 ∷ enter 3 ∷ exit 3 27 28 ∷ []) ("<pre><code class=\"language-js\">a\n\nb\n</code></pre>\n" ∷ []))
unfolding running
v7 = tt

v8 : T (shows (off Lf) ("~~~\n<&\"\0>\n~~~ " ∷ []) (enter 28 ∷ enter 29 ∷ enter 0 ∷ exit 0 0 3 ∷ exit 29 0 3 ∷ enter 3 ∷ exit 3 3 4 ∷ enter 32 ∷ exit 32 4 9 ∷ enter 3 ∷ exit 3 9 10 ∷ enter 29 ∷ enter 0 ∷ exit 0 10 13 ∷ enter 1 ∷ exit 1 13 14 ∷ exit 29 10 14 ∷ exit 28 0 14 ∷ []) ("<pre><code>&lt;&amp;&quot;ï¿½&gt;\n</code></pre>" ∷ []))
unfolding running
v8 = tt

v9 : T (shows (off Lf) ("  ```\n    a\n   b\n  ```" ∷ []) (enter 1 ∷ exit 1 0 2 ∷ enter 28 ∷ enter 29 ∷ enter 0 ∷ exit 0 2 5 ∷ exit 29 2 5 ∷ enter 3 ∷ exit 3 5 6 ∷ enter 1 ∷ exit 1 6 8 ∷ enter 32 ∷ exit 32 8 11 ∷ enter 3 ∷ exit 3 11 12 ∷ enter 1 ∷ exit 1 12 14 ∷ enter 32 ∷ exit 32 14 16 ∷ enter 3 ∷ exit 3 16 17 ∷ enter 29 ∷ enter 1 ∷ exit 1 17 19 ∷ enter 0 ∷ exit 0 19 22 ∷ exit 29 17 22 ∷ exit 28 2 22 ∷ []) ("<pre><code>  a\n b\n</code></pre>" ∷ []))
unfolding running
v9 = tt

v10 : T (shows (off Lf) ("- ```a b c\n  d\n\n\te\n  ```\n- f" ∷ []) (enter 22 ∷ enter 23 ∷ enter 24 ∷ enter 25 ∷ exit 25 0 1 ∷ enter 1 ∷ exit 1 1 2 ∷ exit 24 0 2 ∷ enter 28 ∷ enter 29 ∷ enter 0 ∷ exit 0 2 5 ∷ enter 30 ∷ enter 5 ∷ exit 5 5 6 ∷ exit 30 5 6 ∷ enter 1 ∷ exit 1 6 7 ∷ enter 31 ∷ enter 5 ∷ exit 5 7 10 ∷ exit 31 7 10 ∷ exit 29 2 10 ∷ enter 3 ∷ exit 3 10 11 ∷ enter 1 ∷ exit 1 11 13 ∷ enter 32 ∷ exit 32 13 14 ∷ enter 3 ∷ exit 3 14 15 ∷ enter 3 ∷ exit 3 15 16 ∷ enter 1 ∷ exit 1 16 17 ∷ enter 32 ∷ exit_with 32 17 18 2 0 ∷ enter 3 ∷ exit 3 18 19 ∷ enter 1 ∷ exit 1 19 21 ∷ enter 29 ∷ enter 0 ∷ exit 0 21 24 ∷ exit 29 21 24 ∷ exit 28 2 24 ∷ exit 23 0 24 ∷ enter 3 ∷ exit 3 24 25 ∷ enter 23 ∷ enter 24 ∷ enter 25 ∷ exit 25 25 26 ∷ enter 1 ∷ exit 1 26 27 ∷ exit 24 25 27 ∷ enter 12 ∷ enter 5 ∷ exit 5 27 28 ∷ exit 12 27 28 ∷ exit 23 25 28 ∷ exit 22 0 28 ∷ []) ("<ul>\n<li>\n<pre><code class=\"language-a\">d\n\n  e\n</code></pre>\n</li>\n<li>f</li>\n</ul>" ∷ []))
unfolding running
v10 = tt

v11 : T (shows (off Lf) ("> ```\n> a\n> ```\nb" ∷ []) (enter 20 ∷ enter 2 ∷ enter 0 ∷ exit 0 0 1 ∷ enter 1 ∷ exit 1 1 2 ∷ exit 2 0 2 ∷ enter 28 ∷ enter 29 ∷ enter 0 ∷ exit 0 2 5 ∷ exit 29 2 5 ∷ enter 3 ∷ exit 3 5 6 ∷ enter 2 ∷ enter 0 ∷ exit 0 6 7 ∷ enter 1 ∷ exit 1 7 8 ∷ exit 2 6 8 ∷ enter 32 ∷ exit 32 8 9 ∷ enter 3 ∷ exit 3 9 10 ∷ enter 2 ∷ enter 0 ∷ exit 0 10 11 ∷ enter 1 ∷ exit 1 11 12 ∷ exit 2 10 12 ∷ enter 29 ∷ enter 0 ∷ exit 0 12 15 ∷ exit 29 12 15 ∷ exit 28 2 15 ∷ exit 20 0 15 ∷ enter 3 ∷ exit 3 15 16 ∷ enter 12 ∷ enter 5 ∷ exit 5 16 17 ∷ exit 12 16 17 ∷ []) ("<blockquote>\n<pre><code>a\n</code></pre>\n</blockquote>\n<p>b</p>" ∷ []))
unfolding running
v11 = tt

v12 : T (shows (off Lf) ("> ```\n>\n> a" ∷ []) (enter 20 ∷ enter 2 ∷ enter 0 ∷ exit 0 0 1 ∷ enter 1 ∷ exit 1 1 2 ∷ exit 2 0 2 ∷ enter 28 ∷ enter 29 ∷ enter 0 ∷ exit 0 2 5 ∷ exit 29 2 5 ∷ enter 3 ∷ exit 3 5 6 ∷ enter 2 ∷ enter 0 ∷ exit 0 6 7 ∷ exit 2 6 7 ∷ enter 3 ∷ exit 3 7 8 ∷ enter 2 ∷ enter 0 ∷ exit 0 8 9 ∷ enter 1 ∷ exit 1 9 10 ∷ exit 2 8 10 ∷ enter 32 ∷ exit 32 10 11 ∷ exit 28 2 11 ∷ exit 20 0 11 ∷ []) ("<blockquote>\n<pre><code>\na\n</code></pre>\n</blockquote>" ∷ []))
unfolding running
v12 = tt

v13 : T (shows (off Lf) ("```\n\n\n```" ∷ []) (enter 28 ∷ enter 29 ∷ enter 0 ∷ exit 0 0 3 ∷ exit 29 0 3 ∷ enter 3 ∷ exit 3 3 4 ∷ enter 3 ∷ exit 3 4 5 ∷ enter 3 ∷ exit 3 5 6 ∷ enter 29 ∷ enter 0 ∷ exit 0 6 9 ∷ exit 29 6 9 ∷ exit 28 0 9 ∷ []) ("<pre><code>\n\n</code></pre>" ∷ []))
unfolding running
v13 = tt

v14 : T (shows (off Lf) ("```\n\n" ∷ []) (enter 28 ∷ enter 29 ∷ enter 0 ∷ exit 0 0 3 ∷ exit 29 0 3 ∷ enter 3 ∷ exit 3 3 4 ∷ enter 3 ∷ exit 3 4 5 ∷ exit 28 0 5 ∷ []) ("<pre><code>\n</code></pre>\n" ∷ []))
unfolding running
v14 = tt

v15 : T (shows (off Lf) ("~~~ \n~~~" ∷ []) (enter 28 ∷ enter 29 ∷ enter 0 ∷ exit 0 0 3 ∷ enter 1 ∷ exit 1 3 4 ∷ exit 29 0 4 ∷ enter 3 ∷ exit 3 4 5 ∷ enter 29 ∷ enter 0 ∷ exit 0 5 8 ∷ exit 29 5 8 ∷ exit 28 0 8 ∷ []) ("<pre><code></code></pre>" ∷ []))
unfolding running
v15 = tt

v16 : T (shows (off Lf) ("> ~~~\n> ~~~" ∷ []) (enter 20 ∷ enter 2 ∷ enter 0 ∷ exit 0 0 1 ∷ enter 1 ∷ exit 1 1 2 ∷ exit 2 0 2 ∷ enter 28 ∷ enter 29 ∷ enter 0 ∷ exit 0 2 5 ∷ exit 29 2 5 ∷ enter 3 ∷ exit 3 5 6 ∷ enter 2 ∷ enter 0 ∷ exit 0 6 7 ∷ enter 1 ∷ exit 1 7 8 ∷ exit 2 6 8 ∷ enter 29 ∷ enter 0 ∷ exit 0 8 11 ∷ exit 29 8 11 ∷ exit 28 2 11 ∷ exit 20 0 11 ∷ []) ("<blockquote>\n<pre><code></code></pre>\n</blockquote>" ∷ []))
unfolding running
v16 = tt

v17 : T (shows (off Lf) ("- ~~~\n  ~~~\n" ∷ []) (enter 22 ∷ enter 23 ∷ enter 24 ∷ enter 25 ∷ exit 25 0 1 ∷ enter 1 ∷ exit 1 1 2 ∷ exit 24 0 2 ∷ enter 28 ∷ enter 29 ∷ enter 0 ∷ exit 0 2 5 ∷ exit 29 2 5 ∷ enter 3 ∷ exit 3 5 6 ∷ enter 1 ∷ exit 1 6 8 ∷ enter 29 ∷ enter 0 ∷ exit 0 8 11 ∷ exit 29 8 11 ∷ exit 28 2 11 ∷ exit 23 0 11 ∷ exit 22 0 11 ∷ enter 3 ∷ exit 3 11 12 ∷ []) ("<ul>\n<li>\n<pre><code></code></pre>\n</li>\n</ul>\n" ∷ []))
unfolding running
v17 = tt

v18 : T (shows (off Lf) ("[^a]\n\n[^a]: ```\n    b\n" ∷ []) (enter 12 ∷ enter 62 ∷ enter 47 ∷ enter 0 ∷ enter 0 ∷ exit 0 0 1 ∷ enter 0 ∷ exit 0 1 2 ∷ exit 0 0 2 ∷ enter 48 ∷ enter 5 ∷ exit 5 2 3 ∷ exit 48 2 3 ∷ enter 0 ∷ enter 0 ∷ exit 0 3 4 ∷ exit 0 3 4 ∷ exit 47 0 4 ∷ exit 62 0 4 ∷ exit 12 0 4 ∷ enter 3 ∷ exit 3 4 5 ∷ enter 4 ∷ exit 4 5 6 ∷ enter 63 ∷ enter 64 ∷ enter 0 ∷ enter 0 ∷ exit 0 6 7 ∷ enter 0 ∷ exit 0 7 8 ∷ enter 65 ∷ enter 5 ∷ exit 5 8 9 ∷ exit 65 8 9 ∷ enter 0 ∷ exit 0 9 10 ∷ exit 0 6 10 ∷ enter 0 ∷ exit 0 10 11 ∷ enter 1 ∷ exit 1 11 12 ∷ exit 64 6 12 ∷ enter 28 ∷ enter 29 ∷ enter 0 ∷ exit 0 12 15 ∷ exit 29 12 15 ∷ enter 3 ∷ exit 3 15 16 ∷ enter 1 ∷ exit 1 16 20 ∷ enter 32 ∷ exit 32 20 21 ∷ enter 3 ∷ exit 3 21 22 ∷ exit 28 12 22 ∷ exit 63 6 22 ∷ []) ("<p><sup><a href=\"#user-content-fn-a\" id=\"user-content-fnref-a\" data-footnote-ref=\"\" aria-describedby=\"footnote-label\">1</a></sup></p>\n<section data-footnotes=\"\" class=\"footnotes\"><h2 id=\"footnote-labe" ∷ "l\" class=\"sr-only\">Footnotes</h2>\n<ol>\n<li id=\"user-content-fn-a\">\n<pre><code>b\n\n</code></pre>\n<a href=\"#user-content-fnref-a\" data-footnote-backref=\"\" aria-label=\"Back to content\" class=\"data-footnot" ∷ "e-backref\">â\u{86}©</a>\n</li>\n</ol>\n</section>\n" ∷ []))
unfolding running
v18 = tt

v19 : T (shows (off Lf) ("- a\n\n      b\n\n      c\n- d" ∷ []) (enter_with 22 1 ∷ enter 23 ∷ enter 24 ∷ enter 25 ∷ exit 25 0 1 ∷ enter 1 ∷ exit 1 1 2 ∷ exit 24 0 2 ∷ enter 12 ∷ enter 5 ∷ exit 5 2 3 ∷ exit 12 2 3 ∷ enter 3 ∷ exit 3 3 4 ∷ enter 4 ∷ exit 4 4 5 ∷ enter 1 ∷ exit 1 5 7 ∷ enter 27 ∷ enter 1 ∷ exit 1 7 11 ∷ enter 32 ∷ exit 32 11 12 ∷ enter 3 ∷ exit 3 12 13 ∷ enter 3 ∷ exit 3 13 14 ∷ enter 1 ∷ exit 1 14 16 ∷ enter 1 ∷ exit 1 16 20 ∷ enter 32 ∷ exit 32 20 21 ∷ exit 27 7 21 ∷ exit 23 0 21 ∷ enter 3 ∷ exit 3 21 22 ∷ enter 23 ∷ enter 24 ∷ enter 25 ∷ exit 25 22 23 ∷ enter 1 ∷ exit 1 23 24 ∷ exit 24 22 24 ∷ enter 12 ∷ enter 5 ∷ exit 5 24 25 ∷ exit 12 24 25 ∷ exit 23 22 25 ∷ exit 22 0 25 ∷ []) ("<ul>\n<li>\n<p>a</p>\n<pre><code>b\n\nc\n</code></pre>\n</li>\n<li>\n<p>d</p>\n</li>\n</ul>" ∷ []))
unfolding running
v19 = tt

v20 : T (shows (off Lf) ("``` a\t\nb" ∷ []) (enter 28 ∷ enter 29 ∷ enter 0 ∷ exit 0 0 3 ∷ enter 1 ∷ exit 1 3 4 ∷ enter 30 ∷ enter 5 ∷ exit 5 4 5 ∷ exit 30 4 5 ∷ enter 1 ∷ exit 1 5 6 ∷ exit 29 0 6 ∷ enter 3 ∷ exit 3 6 7 ∷ enter 32 ∷ exit 32 7 8 ∷ exit 28 0 8 ∷ []) ("<pre><code class=\"language-a\">b\n</code></pre>\n" ∷ []))
unfolding running
v20 = tt

v21 : T (shows (off Lf) ("````\n```\n````" ∷ []) (enter 28 ∷ enter 29 ∷ enter 0 ∷ exit 0 0 4 ∷ exit 29 0 4 ∷ enter 3 ∷ exit 3 4 5 ∷ enter 32 ∷ exit 32 5 8 ∷ enter 3 ∷ exit 3 8 9 ∷ enter 29 ∷ enter 0 ∷ exit 0 9 13 ∷ exit 29 9 13 ∷ exit 28 0 13 ∷ []) ("<pre><code>```\n</code></pre>" ∷ []))
unfolding running
v21 = tt

v22 : T (shows (off Lf) ("- ```\n  a\n  b" ∷ []) (enter 22 ∷ enter 23 ∷ enter 24 ∷ enter 25 ∷ exit 25 0 1 ∷ enter 1 ∷ exit 1 1 2 ∷ exit 24 0 2 ∷ enter 28 ∷ enter 29 ∷ enter 0 ∷ exit 0 2 5 ∷ exit 29 2 5 ∷ enter 3 ∷ exit 3 5 6 ∷ enter 1 ∷ exit 1 6 8 ∷ enter 32 ∷ exit 32 8 9 ∷ enter 3 ∷ exit 3 9 10 ∷ enter 1 ∷ exit 1 10 12 ∷ enter 32 ∷ exit 32 12 13 ∷ exit 28 2 13 ∷ exit 23 0 13 ∷ exit 22 0 13 ∷ []) ("<ul>\n<li>\n<pre><code>a\nb\n</code></pre>\n</li>\n</ul>" ∷ []))
unfolding running
v22 = tt

v23 : T (shows (off Lf) ("- ```\n  ```" ∷ []) (enter 22 ∷ enter 23 ∷ enter 24 ∷ enter 25 ∷ exit 25 0 1 ∷ enter 1 ∷ exit 1 1 2 ∷ exit 24 0 2 ∷ enter 28 ∷ enter 29 ∷ enter 0 ∷ exit 0 2 5 ∷ exit 29 2 5 ∷ enter 3 ∷ exit 3 5 6 ∷ enter 1 ∷ exit 1 6 8 ∷ enter 29 ∷ enter 0 ∷ exit 0 8 11 ∷ exit 29 8 11 ∷ exit 28 2 11 ∷ exit 23 0 11 ∷ exit 22 0 11 ∷ []) ("<ul>\n<li>\n<pre><code></code></pre>\n</li>\n</ul>" ∷ []))
unfolding running
v23 = tt

v24 : T (shows (off Lf) ("> ```\n> \n" ∷ []) (enter 20 ∷ enter 2 ∷ enter 0 ∷ exit 0 0 1 ∷ enter 1 ∷ exit 1 1 2 ∷ exit 2 0 2 ∷ enter 28 ∷ enter 29 ∷ enter 0 ∷ exit 0 2 5 ∷ exit 29 2 5 ∷ enter 3 ∷ exit 3 5 6 ∷ enter 2 ∷ enter 0 ∷ exit 0 6 7 ∷ enter 1 ∷ exit 1 7 8 ∷ exit 2 6 8 ∷ enter 3 ∷ exit 3 8 9 ∷ exit 28 2 9 ∷ exit 20 0 9 ∷ []) ("<blockquote>\n<pre><code>\n\n</code></pre>\n</blockquote>" ∷ []))
unfolding running
v24 = tt

v25 : T (shows (off Lf) ("> ```a\n> b\n> ```" ∷ []) (enter 20 ∷ enter 2 ∷ enter 0 ∷ exit 0 0 1 ∷ enter 1 ∷ exit 1 1 2 ∷ exit 2 0 2 ∷ enter 28 ∷ enter 29 ∷ enter 0 ∷ exit 0 2 5 ∷ enter 30 ∷ enter 5 ∷ exit 5 5 6 ∷ exit 30 5 6 ∷ exit 29 2 6 ∷ enter 3 ∷ exit 3 6 7 ∷ enter 2 ∷ enter 0 ∷ exit 0 7 8 ∷ enter 1 ∷ exit 1 8 9 ∷ exit 2 7 9 ∷ enter 32 ∷ exit 32 9 10 ∷ enter 3 ∷ exit 3 10 11 ∷ enter 2 ∷ enter 0 ∷ exit 0 11 12 ∷ enter 1 ∷ exit 1 12 13 ∷ exit 2 11 13 ∷ enter 29 ∷ enter 0 ∷ exit 0 13 16 ∷ exit 29 13 16 ∷ exit 28 2 16 ∷ exit 20 0 16 ∷ []) ("<blockquote>\n<pre><code class=\"language-a\">b\n</code></pre>\n</blockquote>" ∷ []))
unfolding running
v25 = tt

v26 : T (shows (off Lf) ("> ~~~\nb\n" ∷ []) (enter 20 ∷ enter 2 ∷ enter 0 ∷ exit 0 0 1 ∷ enter 1 ∷ exit 1 1 2 ∷ exit 2 0 2 ∷ enter 28 ∷ enter 29 ∷ enter 0 ∷ exit 0 2 5 ∷ exit 29 2 5 ∷ exit 28 2 5 ∷ exit 20 0 5 ∷ enter 3 ∷ exit 3 5 6 ∷ enter 12 ∷ enter 5 ∷ exit 5 6 7 ∷ exit 12 6 7 ∷ enter 3 ∷ exit 3 7 8 ∷ []) ("<blockquote>\n<pre><code></code></pre>\n</blockquote>\n<p>b</p>\n" ∷ []))
unfolding running
v26 = tt

v27 : T (shows (off Lf) ("- > ~~~\n  > a\n- b" ∷ []) (enter 22 ∷ enter 23 ∷ enter 24 ∷ enter 25 ∷ exit 25 0 1 ∷ enter 1 ∷ exit 1 1 2 ∷ exit 24 0 2 ∷ enter 20 ∷ enter 2 ∷ enter 0 ∷ exit 0 2 3 ∷ enter 1 ∷ exit 1 3 4 ∷ exit 2 2 4 ∷ enter 28 ∷ enter 29 ∷ enter 0 ∷ exit 0 4 7 ∷ exit 29 4 7 ∷ enter 3 ∷ exit 3 7 8 ∷ enter 1 ∷ exit 1 8 10 ∷ enter 2 ∷ enter 0 ∷ exit 0 10 11 ∷ enter 1 ∷ exit 1 11 12 ∷ exit 2 10 12 ∷ enter 32 ∷ exit 32 12 13 ∷ enter 3 ∷ exit 3 13 14 ∷ exit 28 4 14 ∷ exit 20 2 14 ∷ exit 23 0 14 ∷ enter 22 ∷ enter 23 ∷ enter 24 ∷ enter 25 ∷ exit 25 14 15 ∷ enter 1 ∷ exit 1 15 16 ∷ exit 24 14 16 ∷ enter 12 ∷ enter 5 ∷ exit 5 16 17 ∷ exit 12 16 17 ∷ exit 23 14 17 ∷ exit 22 14 17 ∷ exit 22 0 17 ∷ []) ("<ul>\n<li>\n<blockquote>\n<pre><code>a\n\n</code></pre>\n</blockquote>\n</li>\n<ul>\n<li>b</li>\n</ul>\n</ul>" ∷ []))
unfolding running
v27 = tt

v28 : T (shows (off Lf) ("```\n```\n```\na" ∷ []) (enter 28 ∷ enter 29 ∷ enter 0 ∷ exit 0 0 3 ∷ exit 29 0 3 ∷ enter 3 ∷ exit 3 3 4 ∷ enter 29 ∷ enter 0 ∷ exit 0 4 7 ∷ exit 29 4 7 ∷ exit 28 0 7 ∷ enter 3 ∷ exit 3 7 8 ∷ enter 28 ∷ enter 29 ∷ enter 0 ∷ exit 0 8 11 ∷ exit 29 8 11 ∷ enter 3 ∷ exit 3 11 12 ∷ enter 32 ∷ exit 32 12 13 ∷ exit 28 8 13 ∷ []) ("<pre><code></code></pre>\n<pre><code>a\n</code></pre>\n" ∷ []))
unfolding running
v28 = tt
