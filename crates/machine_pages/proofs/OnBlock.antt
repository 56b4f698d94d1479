-- Headings and code that no note gives: pages of the crate markdown 1.0.0. Made by tools/machine_pages. Assumes nothing.
use mathlib.Core.List.{[], ◌∷◌}
use lib.Dec.{T}
use Rattle.machine.specs.declared.Ending.TheVariants.{Lf, Cr, CrLf}
use Rattle.machine.proofs.Running.{running}
use Rattle.machine.proofs.Answers.{shows, off, html, on, enter, exit, exit_with}

v1 : T (shows (off Lf) ("#" ∷ []) (enter 13 ∷ enter 14 ∷ exit 14 0 1 ∷ exit 13 0 1 ∷ []) ("<h1></h1>" ∷ []))
unfolding running
v1 = tt

v2 : T (shows (off Lf) ("##" ∷ []) (enter 13 ∷ enter 14 ∷ exit 14 0 2 ∷ enter 14 ∷ exit 14 0 1 ∷ exit 13 0 2 ∷ []) ("<h2></h2>" ∷ []))
unfolding running
v2 = tt

v3 : T (shows (off Lf) ("a=\n" ∷ []) (enter 16 ∷ enter 17 ∷ enter 5 ∷ exit 5 0 1 ∷ exit 17 0 1 ∷ enter 18 ∷ exit 18 1 2 ∷ exit 16 0 2 ∷ enter 3 ∷ exit 3 2 3 ∷ enter 12 ∷ enter 5 ∷ exit 5 0 1 ∷ exit 12 0 1 ∷ enter 3 ∷ exit 3 2 3 ∷ []) ("<h1>a</h1>\n<p>a</p>\n" ∷ []))
unfolding running
v3 = tt

v4 : T (shows (off Lf) ("a-" ∷ []) (enter 16 ∷ enter 17 ∷ enter 5 ∷ exit 5 0 1 ∷ exit 17 0 1 ∷ enter 18 ∷ exit 18 1 2 ∷ exit 16 0 2 ∷ []) ("<h2>a</h2>" ∷ []))
unfolding running
v4 = tt

v5 : T (shows (off Lf) ("=a" ∷ []) (enter 16 ∷ enter 17 ∷ exit 17 1 1 ∷ enter 18 ∷ exit 18 0 1 ∷ exit 16 0 1 ∷ []) ("<h1></h1>" ∷ []))
unfolding running
v5 = tt

v6 : T (shows (off Lf) ([]) (enter 27 ∷ exit 27 0 0 ∷ []) ("<pre><code></code></pre>" ∷ []))
unfolding running
v6 = tt

v7 : T (shows (off Lf) ("a\n" ∷ []) (enter 27 ∷ enter 32 ∷ exit 32 1 2 ∷ exit 27 1 2 ∷ enter 12 ∷ exit 12 0 1 ∷ []) ("<pre><code>\n</code></pre>\n<p></p>" ∷ []))
unfolding running
v7 = tt

v8 : T (shows (off Cr) ("a\n" ∷ []) (enter 27 ∷ enter 32 ∷ exit 32 1 2 ∷ exit 27 1 2 ∷ enter 12 ∷ exit 12 0 1 ∷ []) ("<pre><code>\n</code></pre>\r<p></p>" ∷ []))
unfolding running
v8 = tt

v9 : T (shows (off CrLf) ("a\n" ∷ []) (enter 27 ∷ enter 32 ∷ exit 32 1 2 ∷ exit 27 1 2 ∷ enter 12 ∷ exit 12 0 1 ∷ []) ("<pre><code>\n</code></pre>\r\n<p></p>" ∷ []))
unfolding running
v9 = tt

v10 : T (shows (off Lf) ("xab" ∷ []) (enter 27 ∷ enter 32 ∷ exit_with 32 1 3 3 2 ∷ exit 27 1 3 ∷ []) ("<pre><code>   ab  \n</code></pre>" ∷ []))
unfolding running
v10 = tt

v11 : T (shows (off Cr) ("xab" ∷ []) (enter 27 ∷ enter 32 ∷ exit_with 32 1 3 3 2 ∷ exit 27 1 3 ∷ []) ("<pre><code>   ab  \r</code></pre>" ∷ []))
unfolding running
v11 = tt

v12 : T (shows (off CrLf) ("xab" ∷ []) (enter 27 ∷ enter 32 ∷ exit_with 32 1 3 3 2 ∷ exit 27 1 3 ∷ []) ("<pre><code>   ab  \r\n</code></pre>" ∷ []))
unfolding running
v12 = tt

v13 : T (shows (off Lf) ("xa&" ∷ []) (enter 28 ∷ enter 29 ∷ exit 29 0 1 ∷ enter 32 ∷ exit_with 32 1 3 1 3 ∷ exit 28 0 3 ∷ []) ("<pre><code> a&amp;   \n</code></pre>\n" ∷ []))
unfolding running
v13 = tt

v14 : T (shows (off Cr) ("xa&" ∷ []) (enter 28 ∷ enter 29 ∷ exit 29 0 1 ∷ enter 32 ∷ exit_with 32 1 3 1 3 ∷ exit 28 0 3 ∷ []) ("<pre><code> a&amp;   \r</code></pre>\r" ∷ []))
unfolding running
v14 = tt

v15 : T (shows (off CrLf) ("xa&" ∷ []) (enter 28 ∷ enter 29 ∷ exit 29 0 1 ∷ enter 32 ∷ exit_with 32 1 3 1 3 ∷ exit 28 0 3 ∷ []) ("<pre><code> a&amp;   \r\n</code></pre>\r\n" ∷ []))
unfolding running
v15 = tt

v16 : T (shows (off Lf) ("```" ∷ []) (enter 28 ∷ enter 29 ∷ exit 29 0 3 ∷ exit 28 0 3 ∷ []) ("<pre><code></code></pre>\n" ∷ []))
unfolding running
v16 = tt

v17 : T (shows (off Cr) ("```" ∷ []) (enter 28 ∷ enter 29 ∷ exit 29 0 3 ∷ exit 28 0 3 ∷ []) ("<pre><code></code></pre>\r" ∷ []))
unfolding running
v17 = tt

v18 : T (shows (off CrLf) ("```" ∷ []) (enter 28 ∷ enter 29 ∷ exit 29 0 3 ∷ exit 28 0 3 ∷ []) ("<pre><code></code></pre>\r\n" ∷ []))
unfolding running
v18 = tt

v19 : T (shows (off Lf) ("```" ∷ []) (enter 20 ∷ enter 28 ∷ enter 29 ∷ exit 29 0 3 ∷ exit 28 0 3 ∷ exit 20 0 3 ∷ []) ("<blockquote>\n<pre><code></code></pre>\n</blockquote>" ∷ []))
unfolding running
v19 = tt

v20 : T (shows (off Cr) ("```" ∷ []) (enter 20 ∷ enter 28 ∷ enter 29 ∷ exit 29 0 3 ∷ exit 28 0 3 ∷ exit 20 0 3 ∷ []) ("<blockquote>\r<pre><code></code></pre>\r</blockquote>" ∷ []))
unfolding running
v20 = tt

v21 : T (shows (off CrLf) ("```" ∷ []) (enter 20 ∷ enter 28 ∷ enter 29 ∷ exit 29 0 3 ∷ exit 28 0 3 ∷ exit 20 0 3 ∷ []) ("<blockquote>\r\n<pre><code></code></pre>\r\n</blockquote>" ∷ []))
unfolding running
v21 = tt

v22 : T (shows (off Lf) ("```" ∷ []) (enter 20 ∷ enter 28 ∷ enter 29 ∷ exit 29 0 3 ∷ enter 0 ∷ exit 0 3 3 ∷ exit 28 0 3 ∷ exit 20 0 3 ∷ []) ("<blockquote>\n<pre><code>\n</code></pre>\n</blockquote>" ∷ []))
unfolding running
v22 = tt

v23 : T (shows (off Cr) ("```" ∷ []) (enter 20 ∷ enter 28 ∷ enter 29 ∷ exit 29 0 3 ∷ enter 0 ∷ exit 0 3 3 ∷ exit 28 0 3 ∷ exit 20 0 3 ∷ []) ("<blockquote>\r<pre><code>\r</code></pre>\r</blockquote>" ∷ []))
unfolding running
v23 = tt

v24 : T (shows (off CrLf) ("```" ∷ []) (enter 20 ∷ enter 28 ∷ enter 29 ∷ exit 29 0 3 ∷ enter 0 ∷ exit 0 3 3 ∷ exit 28 0 3 ∷ exit 20 0 3 ∷ []) ("<blockquote>\r\n<pre><code>\r\n</code></pre>\r\n</blockquote>" ∷ []))
unfolding running
v24 = tt

v25 : T (shows (off Lf) ("```\n" ∷ []) (enter 20 ∷ enter 28 ∷ enter 29 ∷ exit 29 0 3 ∷ enter 3 ∷ exit 3 3 4 ∷ exit 28 0 4 ∷ exit 20 0 4 ∷ []) ("<blockquote>\n<pre><code>\n</code></pre>\n</blockquote>" ∷ []))
unfolding running
v25 = tt

v26 : T (shows (off Lf) ("```a" ∷ []) (enter 20 ∷ enter 28 ∷ enter 29 ∷ exit 29 0 3 ∷ enter 32 ∷ exit 32 3 4 ∷ exit 28 0 4 ∷ exit 20 0 4 ∷ []) ("<blockquote>\n<pre><code>a\n</code></pre>\n</blockquote>" ∷ []))
unfolding running
v26 = tt

v27 : T (shows (off Cr) ("```a" ∷ []) (enter 20 ∷ enter 28 ∷ enter 29 ∷ exit 29 0 3 ∷ enter 32 ∷ exit 32 3 4 ∷ exit 28 0 4 ∷ exit 20 0 4 ∷ []) ("<blockquote>\r<pre><code>a\r</code></pre>\r</blockquote>" ∷ []))
unfolding running
v27 = tt

v28 : T (shows (off CrLf) ("```a" ∷ []) (enter 20 ∷ enter 28 ∷ enter 29 ∷ exit 29 0 3 ∷ enter 32 ∷ exit 32 3 4 ∷ exit 28 0 4 ∷ exit 20 0 4 ∷ []) ("<blockquote>\r\n<pre><code>a\r\n</code></pre>\r\n</blockquote>" ∷ []))
unfolding running
v28 = tt

v29 : T (shows (off Lf) ("```a" ∷ []) (enter 20 ∷ enter 28 ∷ enter 29 ∷ exit 29 0 3 ∷ enter 32 ∷ exit 32 3 4 ∷ enter 29 ∷ exit 29 0 3 ∷ exit 28 0 4 ∷ exit 20 0 4 ∷ []) ("<blockquote>\n<pre><code>a\n</code></pre>\n</blockquote>" ∷ []))
unfolding running
v29 = tt

v30 : T (shows (off Cr) ("```a" ∷ []) (enter 20 ∷ enter 28 ∷ enter 29 ∷ exit 29 0 3 ∷ enter 32 ∷ exit 32 3 4 ∷ enter 29 ∷ exit 29 0 3 ∷ exit 28 0 4 ∷ exit 20 0 4 ∷ []) ("<blockquote>\r<pre><code>a\r</code></pre>\r</blockquote>" ∷ []))
unfolding running
v30 = tt

v31 : T (shows (off CrLf) ("```a" ∷ []) (enter 20 ∷ enter 28 ∷ enter 29 ∷ exit 29 0 3 ∷ enter 32 ∷ exit 32 3 4 ∷ enter 29 ∷ exit 29 0 3 ∷ exit 28 0 4 ∷ exit 20 0 4 ∷ []) ("<blockquote>\r\n<pre><code>a\r\n</code></pre>\r\n</blockquote>" ∷ []))
unfolding running
v31 = tt

v32 : T (shows (off Lf) ("a b" ∷ []) (enter 28 ∷ enter 29 ∷ enter 30 ∷ enter 5 ∷ exit 5 0 1 ∷ exit 30 0 1 ∷ enter 31 ∷ enter 5 ∷ exit 5 2 3 ∷ exit 31 2 3 ∷ exit 29 0 3 ∷ exit 28 0 3 ∷ []) ("<pre><code class=\"language-a\"></code></pre>\n" ∷ []))
unfolding running
v32 = tt

v33 : T (shows (off Cr) ("a b" ∷ []) (enter 28 ∷ enter 29 ∷ enter 30 ∷ enter 5 ∷ exit 5 0 1 ∷ exit 30 0 1 ∷ enter 31 ∷ enter 5 ∷ exit 5 2 3 ∷ exit 31 2 3 ∷ exit 29 0 3 ∷ exit 28 0 3 ∷ []) ("<pre><code class=\"language-a\"></code></pre>\r" ∷ []))
unfolding running
v33 = tt

v34 : T (shows (off CrLf) ("a b" ∷ []) (enter 28 ∷ enter 29 ∷ enter 30 ∷ enter 5 ∷ exit 5 0 1 ∷ exit 30 0 1 ∷ enter 31 ∷ enter 5 ∷ exit 5 2 3 ∷ exit 31 2 3 ∷ exit 29 0 3 ∷ exit 28 0 3 ∷ []) ("<pre><code class=\"language-a\"></code></pre>\r\n" ∷ []))
unfolding running
v34 = tt

v35 : T (shows (off Lf) ("a b" ∷ []) (enter 28 ∷ enter 29 ∷ enter 31 ∷ enter 5 ∷ exit 5 2 3 ∷ exit 31 2 3 ∷ exit 29 0 3 ∷ enter 29 ∷ exit 29 0 0 ∷ exit 28 0 3 ∷ []) ("<pre><code></code></pre>" ∷ []))
unfolding running
v35 = tt

v36 : T (shows (off Lf) ("a" ∷ []) (enter 28 ∷ enter 29 ∷ exit 29 0 0 ∷ enter 29 ∷ exit 29 0 0 ∷ exit 28 0 0 ∷ enter 27 ∷ enter 32 ∷ exit 32 0 1 ∷ exit 27 0 1 ∷ []) ("<pre><code></code></pre>\n<pre><code>a\n</code></pre>" ∷ []))
unfolding running
v36 = tt

v37 : T (shows (off Cr) ("a" ∷ []) (enter 28 ∷ enter 29 ∷ exit 29 0 0 ∷ enter 29 ∷ exit 29 0 0 ∷ exit 28 0 0 ∷ enter 27 ∷ enter 32 ∷ exit 32 0 1 ∷ exit 27 0 1 ∷ []) ("<pre><code></code></pre>\r<pre><code>a\r</code></pre>" ∷ []))
unfolding running
v37 = tt

v38 : T (shows (off CrLf) ("a" ∷ []) (enter 28 ∷ enter 29 ∷ exit 29 0 0 ∷ enter 29 ∷ exit 29 0 0 ∷ exit 28 0 0 ∷ enter 27 ∷ enter 32 ∷ exit 32 0 1 ∷ exit 27 0 1 ∷ []) ("<pre><code></code></pre>\r\n<pre><code>a\r\n</code></pre>" ∷ []))
unfolding running
v38 = tt

v39 : T (shows (off Lf) ("<" ∷ []) (enter 35 ∷ exit 35 0 0 ∷ enter 35 ∷ enter 36 ∷ exit 36 0 1 ∷ exit 35 0 1 ∷ enter 37 ∷ exit 37 0 0 ∷ []) ("&lt;" ∷ []))
unfolding running
v39 = tt

v40 : T (shows (html Lf) ("<" ∷ []) (enter 35 ∷ exit 35 0 0 ∷ enter 35 ∷ enter 36 ∷ exit 36 0 1 ∷ exit 35 0 1 ∷ enter 37 ∷ exit 37 0 0 ∷ []) ("<" ∷ []))
unfolding running
v40 = tt

v41 : T (shows (on Lf) ("<" ∷ []) (enter 35 ∷ exit 35 0 0 ∷ enter 35 ∷ enter 36 ∷ exit 36 0 1 ∷ exit 35 0 1 ∷ enter 37 ∷ exit 37 0 0 ∷ []) ("<" ∷ []))
unfolding running
v41 = tt

v42 : T (shows (off Lf) ("a=\n\nb\n" ∷ []) (enter 16 ∷ enter 17 ∷ enter 5 ∷ exit 5 0 1 ∷ exit 17 0 1 ∷ enter 18 ∷ exit 18 1 2 ∷ exit 16 0 2 ∷ enter 4 ∷ exit 4 2 3 ∷ enter 12 ∷ enter 5 ∷ exit 5 4 5 ∷ exit 12 4 5 ∷ enter 3 ∷ exit 3 5 6 ∷ []) ("<h1>a</h1>\n<p>b</p>\n" ∷ []))
unfolding running
v42 = tt

v43 : T (shows (off Lf) ("a=\n" ∷ []) (enter 20 ∷ enter 16 ∷ enter 17 ∷ enter 5 ∷ exit 5 0 1 ∷ exit 17 0 1 ∷ enter 18 ∷ exit 18 1 2 ∷ exit 16 0 2 ∷ exit 20 0 2 ∷ enter 3 ∷ exit 3 2 3 ∷ []) ("<blockquote>\n<h1>a</h1>\n</blockquote>\n" ∷ []))
unfolding running
v43 = tt

v44 : T (shows (off Lf) ("a=\n" ∷ []) (enter 16 ∷ enter 17 ∷ enter 5 ∷ exit 5 0 1 ∷ exit 17 0 1 ∷ enter 18 ∷ exit 18 1 2 ∷ exit 16 0 2 ∷ enter 28 ∷ enter 29 ∷ exit 29 0 0 ∷ enter 29 ∷ exit 29 0 0 ∷ exit 28 0 0 ∷ enter 3 ∷ exit 3 2 3 ∷ []) ("<h1>a</h1>\n<pre><code></code></pre>\n" ∷ []))
unfolding running
v44 = tt

v45 : T (shows (off Lf) ("a=\n" ∷ []) (enter 16 ∷ enter 17 ∷ enter 5 ∷ exit 5 0 1 ∷ exit 17 0 1 ∷ enter 18 ∷ exit 18 1 2 ∷ exit 16 0 2 ∷ enter 27 ∷ exit 27 0 0 ∷ enter 3 ∷ exit 3 2 3 ∷ []) ("<h1>a</h1>\n<pre><code></code></pre>\n" ∷ []))
unfolding running
v45 = tt

v46 : T (shows (off Lf) ("a" ∷ []) (enter 28 ∷ enter 29 ∷ exit 29 0 0 ∷ exit 28 0 0 ∷ enter 27 ∷ enter 32 ∷ exit 32 0 1 ∷ exit 27 0 1 ∷ []) ("<pre><code></code></pre>\n<pre><code>a\n</code></pre>" ∷ []))
unfolding running
v46 = tt

v47 : T (shows (off Cr) ("a" ∷ []) (enter 28 ∷ enter 29 ∷ exit 29 0 0 ∷ exit 28 0 0 ∷ enter 27 ∷ enter 32 ∷ exit 32 0 1 ∷ exit 27 0 1 ∷ []) ("<pre><code></code></pre>\r<pre><code>a\r</code></pre>" ∷ []))
unfolding running
v47 = tt

v48 : T (shows (off CrLf) ("a" ∷ []) (enter 28 ∷ enter 29 ∷ exit 29 0 0 ∷ exit 28 0 0 ∷ enter 27 ∷ enter 32 ∷ exit 32 0 1 ∷ exit 27 0 1 ∷ []) ("<pre><code></code></pre>\r\n<pre><code>a\r\n</code></pre>" ∷ []))
unfolding running
v48 = tt

v49 : T (shows (off Lf) ("a" ∷ []) (enter 20 ∷ enter 28 ∷ enter 29 ∷ exit 29 0 0 ∷ exit 28 0 0 ∷ enter 27 ∷ enter 32 ∷ exit 32 0 1 ∷ exit 27 0 1 ∷ exit 20 0 1 ∷ []) ("<blockquote>\n<pre><code></code></pre>\n<pre><code>a\n</code></pre>\n</blockquote>" ∷ []))
unfolding running
v49 = tt

v50 : T (shows (off Cr) ("a" ∷ []) (enter 20 ∷ enter 28 ∷ enter 29 ∷ exit 29 0 0 ∷ exit 28 0 0 ∷ enter 27 ∷ enter 32 ∷ exit 32 0 1 ∷ exit 27 0 1 ∷ exit 20 0 1 ∷ []) ("<blockquote>\r<pre><code></code></pre>\r<pre><code>a\r</code></pre>\r</blockquote>" ∷ []))
unfolding running
v50 = tt

v51 : T (shows (off CrLf) ("a" ∷ []) (enter 20 ∷ enter 28 ∷ enter 29 ∷ exit 29 0 0 ∷ exit 28 0 0 ∷ enter 27 ∷ enter 32 ∷ exit 32 0 1 ∷ exit 27 0 1 ∷ exit 20 0 1 ∷ []) ("<blockquote>\r\n<pre><code></code></pre>\r\n<pre><code>a\r\n</code></pre>\r\n</blockquote>" ∷ []))
unfolding running
v51 = tt

v52 : T (shows (off Lf) ([]) (enter 20 ∷ enter 27 ∷ exit 27 0 0 ∷ exit 20 0 0 ∷ []) ("<blockquote>\n<pre><code></code></pre>\n</blockquote>" ∷ []))
unfolding running
v52 = tt

v53 : T (shows (off Cr) ([]) (enter 20 ∷ enter 27 ∷ exit 27 0 0 ∷ exit 20 0 0 ∷ []) ("<blockquote>\r<pre><code></code></pre>\r</blockquote>" ∷ []))
unfolding running
v53 = tt

v54 : T (shows (off CrLf) ([]) (enter 20 ∷ enter 27 ∷ exit 27 0 0 ∷ exit 20 0 0 ∷ []) ("<blockquote>\r\n<pre><code></code></pre>\r\n</blockquote>" ∷ []))
unfolding running
v54 = tt

v55 : T (shows (off Lf) ([]) (enter 20 ∷ enter 28 ∷ enter 29 ∷ exit 29 0 0 ∷ enter 29 ∷ exit 29 0 0 ∷ enter 0 ∷ exit 0 0 0 ∷ exit 28 0 0 ∷ exit 20 0 0 ∷ []) ("<blockquote>\n<pre><code></code></pre>\n</blockquote>" ∷ []))
unfolding running
v55 = tt

v56 : T (shows (off Cr) ([]) (enter 20 ∷ enter 28 ∷ enter 29 ∷ exit 29 0 0 ∷ enter 29 ∷ exit 29 0 0 ∷ enter 0 ∷ exit 0 0 0 ∷ exit 28 0 0 ∷ exit 20 0 0 ∷ []) ("<blockquote>\r<pre><code></code></pre>\r</blockquote>" ∷ []))
unfolding running
v56 = tt

v57 : T (shows (off CrLf) ([]) (enter 20 ∷ enter 28 ∷ enter 29 ∷ exit 29 0 0 ∷ enter 29 ∷ exit 29 0 0 ∷ enter 0 ∷ exit 0 0 0 ∷ exit 28 0 0 ∷ exit 20 0 0 ∷ []) ("<blockquote>\r\n<pre><code></code></pre>\r\n</blockquote>" ∷ []))
unfolding running
v57 = tt
