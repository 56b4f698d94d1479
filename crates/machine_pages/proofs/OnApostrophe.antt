-- Apostrophes, escaped and not: pages of the crate markdown 1.0.0. Made by tools/machine_pages. Assumes nothing.
use mathlib.Core.List.{[], ◌∷◌}
use lib.Dec.{T}
use Rattle.machine.specs.declared.Ending.TheVariants.{Lf}
use Rattle.machine.proofs.Running.{running}
use Rattle.machine.proofs.Answers.{shows, off, html, protocol, on, quoted, quoted_on, enter, exit, enter_with}

v1 : T (shows (off Lf) ("it's *a'b* `c'd`" ∷ []) (enter 12 ∷ enter 5 ∷ exit 5 0 5 ∷ enter 39 ∷ enter 0 ∷ exit 0 5 6 ∷ enter 0 ∷ enter 5 ∷ exit 5 6 9 ∷ exit 0 6 9 ∷ enter 0 ∷ exit 0 9 10 ∷ exit 39 5 10 ∷ enter 5 ∷ exit 5 10 11 ∷ enter 33 ∷ enter 0 ∷ exit 0 11 12 ∷ enter 34 ∷ exit 34 12 15 ∷ enter 0 ∷ exit 0 15 16 ∷ exit 33 11 16 ∷ exit 12 0 16 ∷ []) ("<p>it's <em>a'b</em> <code>c'd</code></p>" ∷ []))
unfolding running
v1 = tt

v2 : T (shows (quoted Lf) ("it's *a'b* `c'd`" ∷ []) (enter 12 ∷ enter 5 ∷ exit 5 0 5 ∷ enter 39 ∷ enter 0 ∷ exit 0 5 6 ∷ enter 0 ∷ enter 5 ∷ exit 5 6 9 ∷ exit 0 6 9 ∷ enter 0 ∷ exit 0 9 10 ∷ exit 39 5 10 ∷ enter 5 ∷ exit 5 10 11 ∷ enter 33 ∷ enter 0 ∷ exit 0 11 12 ∷ enter 34 ∷ exit 34 12 15 ∷ enter 0 ∷ exit 0 15 16 ∷ exit 33 11 16 ∷ exit 12 0 16 ∷ []) ("<p>it&#39;s <em>a&#39;b</em> <code>c&#39;d</code></p>" ∷ []))
unfolding running
v2 = tt

v3 : T (shows (quoted_on Lf) ("it's *a'b* `c'd`" ∷ []) (enter 12 ∷ enter 5 ∷ exit 5 0 5 ∷ enter 39 ∷ enter 0 ∷ exit 0 5 6 ∷ enter 0 ∷ enter 5 ∷ exit 5 6 9 ∷ exit 0 6 9 ∷ enter 0 ∷ exit 0 9 10 ∷ exit 39 5 10 ∷ enter 5 ∷ exit 5 10 11 ∷ enter 33 ∷ enter 0 ∷ exit 0 11 12 ∷ enter 34 ∷ exit 34 12 15 ∷ enter 0 ∷ exit 0 15 16 ∷ exit 33 11 16 ∷ exit 12 0 16 ∷ []) ("<p>it&#39;s <em>a&#39;b</em> <code>c&#39;d</code></p>" ∷ []))
unfolding running
v3 = tt

v4 : T (shows (off Lf) ("```it's a'b\nc'd\n```" ∷ []) (enter 28 ∷ enter 29 ∷ enter 0 ∷ exit 0 0 3 ∷ enter 30 ∷ enter 5 ∷ exit 5 3 7 ∷ exit 30 3 7 ∷ enter 1 ∷ exit 1 7 8 ∷ enter 31 ∷ enter 5 ∷ exit 5 8 11 ∷ exit 31 8 11 ∷ exit 29 0 11 ∷ enter 3 ∷ exit 3 11 12 ∷ enter 32 ∷ exit 32 12 15 ∷ enter 3 ∷ exit 3 15 16 ∷ enter 29 ∷ enter 0 ∷ exit 0 16 19 ∷ exit 29 16 19 ∷ exit 28 0 19 ∷ []) ("<pre><code class=\"language-it's\">c'd\n</code></pre>" ∷ []))
unfolding running
v4 = tt

v5 : T (shows (quoted Lf) ("```it's a'b\nc'd\n```" ∷ []) (enter 28 ∷ enter 29 ∷ enter 0 ∷ exit 0 0 3 ∷ enter 30 ∷ enter 5 ∷ exit 5 3 7 ∷ exit 30 3 7 ∷ enter 1 ∷ exit 1 7 8 ∷ enter 31 ∷ enter 5 ∷ exit 5 8 11 ∷ exit 31 8 11 ∷ exit 29 0 11 ∷ enter 3 ∷ exit 3 11 12 ∷ enter 32 ∷ exit 32 12 15 ∷ enter 3 ∷ exit 3 15 16 ∷ enter 29 ∷ enter 0 ∷ exit 0 16 19 ∷ exit 29 16 19 ∷ exit 28 0 19 ∷ []) ("<pre><code class=\"language-it&#39;s\">c&#39;d\n</code></pre>" ∷ []))
unfolding running
v5 = tt

v6 : T (shows (quoted_on Lf) ("```it's a'b\nc'd\n```" ∷ []) (enter 28 ∷ enter 29 ∷ enter 0 ∷ exit 0 0 3 ∷ enter 30 ∷ enter 5 ∷ exit 5 3 7 ∷ exit 30 3 7 ∷ enter 1 ∷ exit 1 7 8 ∷ enter 31 ∷ enter 5 ∷ exit 5 8 11 ∷ exit 31 8 11 ∷ exit 29 0 11 ∷ enter 3 ∷ exit 3 11 12 ∷ enter 32 ∷ exit 32 12 15 ∷ enter 3 ∷ exit 3 15 16 ∷ enter 29 ∷ enter 0 ∷ exit 0 16 19 ∷ exit 29 16 19 ∷ exit 28 0 19 ∷ []) ("<pre><code class=\"language-it&#39;s\">c&#39;d\n</code></pre>" ∷ []))
unfolding running
v6 = tt

v7 : T (shows (off Lf) ("    a'b\n" ∷ []) (enter 27 ∷ enter 1 ∷ exit 1 0 4 ∷ enter 32 ∷ exit 32 4 7 ∷ exit 27 0 7 ∷ enter 3 ∷ exit 3 7 8 ∷ []) ("<pre><code>a'b\n</code></pre>\n" ∷ []))
unfolding running
v7 = tt

v8 : T (shows (quoted Lf) ("    a'b\n" ∷ []) (enter 27 ∷ enter 1 ∷ exit 1 0 4 ∷ enter 32 ∷ exit 32 4 7 ∷ exit 27 0 7 ∷ enter 3 ∷ exit 3 7 8 ∷ []) ("<pre><code>a&#39;b\n</code></pre>\n" ∷ []))
unfolding running
v8 = tt

v9 : T (shows (quoted_on Lf) ("    a'b\n" ∷ []) (enter 27 ∷ enter 1 ∷ exit 1 0 4 ∷ enter 32 ∷ exit 32 4 7 ∷ exit 27 0 7 ∷ enter 3 ∷ exit 3 7 8 ∷ []) ("<pre><code>a&#39;b\n</code></pre>\n" ∷ []))
unfolding running
v9 = tt

v10 : T (shows (off Lf) ("[a'b](c'd \"e'f\")" ∷ []) (enter 12 ∷ enter 45 ∷ enter 47 ∷ enter 0 ∷ enter 0 ∷ exit 0 0 1 ∷ exit 0 0 1 ∷ enter 48 ∷ enter 5 ∷ exit 5 1 4 ∷ exit 48 1 4 ∷ enter 0 ∷ enter 0 ∷ exit 0 4 5 ∷ exit 0 4 5 ∷ exit 47 0 5 ∷ enter 49 ∷ enter 0 ∷ exit 0 5 6 ∷ enter 0 ∷ enter 0 ∷ enter 50 ∷ enter 5 ∷ exit 5 6 9 ∷ exit 50 6 9 ∷ exit 0 6 9 ∷ exit 0 6 9 ∷ enter 1 ∷ exit 1 9 10 ∷ enter 0 ∷ enter 0 ∷ exit 0 10 11 ∷ enter 51 ∷ enter 5 ∷ exit 5 11 14 ∷ exit 51 11 14 ∷ enter 0 ∷ exit 0 14 15 ∷ exit 0 10 15 ∷ enter 0 ∷ exit 0 15 16 ∷ exit 49 5 16 ∷ exit 45 0 16 ∷ exit 12 0 16 ∷ []) ("<p><a href=\"c'd\" title=\"e'f\">a'b</a></p>" ∷ []))
unfolding running
v10 = tt

v11 : T (shows (quoted Lf) ("[a'b](c'd \"e'f\")" ∷ []) (enter 12 ∷ enter 45 ∷ enter 47 ∷ enter 0 ∷ enter 0 ∷ exit 0 0 1 ∷ exit 0 0 1 ∷ enter 48 ∷ enter 5 ∷ exit 5 1 4 ∷ exit 48 1 4 ∷ enter 0 ∷ enter 0 ∷ exit 0 4 5 ∷ exit 0 4 5 ∷ exit 47 0 5 ∷ enter 49 ∷ enter 0 ∷ exit 0 5 6 ∷ enter 0 ∷ enter 0 ∷ enter 50 ∷ enter 5 ∷ exit 5 6 9 ∷ exit 50 6 9 ∷ exit 0 6 9 ∷ exit 0 6 9 ∷ enter 1 ∷ exit 1 9 10 ∷ enter 0 ∷ enter 0 ∷ exit 0 10 11 ∷ enter 51 ∷ enter 5 ∷ exit 5 11 14 ∷ exit 51 11 14 ∷ enter 0 ∷ exit 0 14 15 ∷ exit 0 10 15 ∷ enter 0 ∷ exit 0 15 16 ∷ exit 49 5 16 ∷ exit 45 0 16 ∷ exit 12 0 16 ∷ []) ("<p><a href=\"c&#39;d\" title=\"e&#39;f\">a&#39;b</a></p>" ∷ []))
unfolding running
v11 = tt

v12 : T (shows (quoted_on Lf) ("[a'b](c'd \"e'f\")" ∷ []) (enter 12 ∷ enter 45 ∷ enter 47 ∷ enter 0 ∷ enter 0 ∷ exit 0 0 1 ∷ exit 0 0 1 ∷ enter 48 ∷ enter 5 ∷ exit 5 1 4 ∷ exit 48 1 4 ∷ enter 0 ∷ enter 0 ∷ exit 0 4 5 ∷ exit 0 4 5 ∷ exit 47 0 5 ∷ enter 49 ∷ enter 0 ∷ exit 0 5 6 ∷ enter 0 ∷ enter 0 ∷ enter 50 ∷ enter 5 ∷ exit 5 6 9 ∷ exit 50 6 9 ∷ exit 0 6 9 ∷ exit 0 6 9 ∷ enter 1 ∷ exit 1 9 10 ∷ enter 0 ∷ enter 0 ∷ exit 0 10 11 ∷ enter 51 ∷ enter 5 ∷ exit 5 11 14 ∷ exit 51 11 14 ∷ enter 0 ∷ exit 0 14 15 ∷ exit 0 10 15 ∷ enter 0 ∷ exit 0 15 16 ∷ exit 49 5 16 ∷ exit 45 0 16 ∷ exit 12 0 16 ∷ []) ("<p><a href=\"c&#39;d\" title=\"e&#39;f\">a&#39;b</a></p>" ∷ []))
unfolding running
v12 = tt

v13 : T (shows (off Lf) ("![a'b](c'd \"e'f\")" ∷ []) (enter 12 ∷ enter 46 ∷ enter 47 ∷ enter 0 ∷ enter 0 ∷ exit 0 0 1 ∷ enter 0 ∷ exit 0 1 2 ∷ exit 0 0 2 ∷ enter 48 ∷ enter 5 ∷ exit 5 2 5 ∷ exit 48 2 5 ∷ enter 0 ∷ enter 0 ∷ exit 0 5 6 ∷ exit 0 5 6 ∷ exit 47 0 6 ∷ enter 49 ∷ enter 0 ∷ exit 0 6 7 ∷ enter 0 ∷ enter 0 ∷ enter 50 ∷ enter 5 ∷ exit 5 7 10 ∷ exit 50 7 10 ∷ exit 0 7 10 ∷ exit 0 7 10 ∷ enter 1 ∷ exit 1 10 11 ∷ enter 0 ∷ enter 0 ∷ exit 0 11 12 ∷ enter 51 ∷ enter 5 ∷ exit 5 12 15 ∷ exit 51 12 15 ∷ enter 0 ∷ exit 0 15 16 ∷ exit 0 11 16 ∷ enter 0 ∷ exit 0 16 17 ∷ exit 49 6 17 ∷ exit 46 0 17 ∷ exit 12 0 17 ∷ []) ("<p><img src=\"c'd\" alt=\"a'b\" title=\"e'f\" /></p>" ∷ []))
unfolding running
v13 = tt

v14 : T (shows (quoted Lf) ("![a'b](c'd \"e'f\")" ∷ []) (enter 12 ∷ enter 46 ∷ enter 47 ∷ enter 0 ∷ enter 0 ∷ exit 0 0 1 ∷ enter 0 ∷ exit 0 1 2 ∷ exit 0 0 2 ∷ enter 48 ∷ enter 5 ∷ exit 5 2 5 ∷ exit 48 2 5 ∷ enter 0 ∷ enter 0 ∷ exit 0 5 6 ∷ exit 0 5 6 ∷ exit 47 0 6 ∷ enter 49 ∷ enter 0 ∷ exit 0 6 7 ∷ enter 0 ∷ enter 0 ∷ enter 50 ∷ enter 5 ∷ exit 5 7 10 ∷ exit 50 7 10 ∷ exit 0 7 10 ∷ exit 0 7 10 ∷ enter 1 ∷ exit 1 10 11 ∷ enter 0 ∷ enter 0 ∷ exit 0 11 12 ∷ enter 51 ∷ enter 5 ∷ exit 5 12 15 ∷ exit 51 12 15 ∷ enter 0 ∷ exit 0 15 16 ∷ exit 0 11 16 ∷ enter 0 ∷ exit 0 16 17 ∷ exit 49 6 17 ∷ exit 46 0 17 ∷ exit 12 0 17 ∷ []) ("<p><img src=\"c&#39;d\" alt=\"a&#39;b\" title=\"e&#39;f\" /></p>" ∷ []))
unfolding running
v14 = tt

v15 : T (shows (quoted_on Lf) ("![a'b](c'd \"e'f\")" ∷ []) (enter 12 ∷ enter 46 ∷ enter 47 ∷ enter 0 ∷ enter 0 ∷ exit 0 0 1 ∷ enter 0 ∷ exit 0 1 2 ∷ exit 0 0 2 ∷ enter 48 ∷ enter 5 ∷ exit 5 2 5 ∷ exit 48 2 5 ∷ enter 0 ∷ enter 0 ∷ exit 0 5 6 ∷ exit 0 5 6 ∷ exit 47 0 6 ∷ enter 49 ∷ enter 0 ∷ exit 0 6 7 ∷ enter 0 ∷ enter 0 ∷ enter 50 ∷ enter 5 ∷ exit 5 7 10 ∷ exit 50 7 10 ∷ exit 0 7 10 ∷ exit 0 7 10 ∷ enter 1 ∷ exit 1 10 11 ∷ enter 0 ∷ enter 0 ∷ exit 0 11 12 ∷ enter 51 ∷ enter 5 ∷ exit 5 12 15 ∷ exit 51 12 15 ∷ enter 0 ∷ exit 0 15 16 ∷ exit 0 11 16 ∷ enter 0 ∷ exit 0 16 17 ∷ exit 49 6 17 ∷ exit 46 0 17 ∷ exit 12 0 17 ∷ []) ("<p><img src=\"c&#39;d\" alt=\"a&#39;b\" title=\"e&#39;f\" /></p>" ∷ []))
unfolding running
v15 = tt

v16 : T (shows (off Lf) ("<http://a'b> <a'b@c.d>" ∷ []) (enter 12 ∷ enter 0 ∷ enter 0 ∷ exit 0 0 1 ∷ enter 44 ∷ exit 44 1 11 ∷ enter 0 ∷ exit 0 11 12 ∷ exit 0 0 12 ∷ enter 5 ∷ exit 5 12 13 ∷ enter 0 ∷ enter 0 ∷ exit 0 13 14 ∷ enter 43 ∷ exit 43 14 21 ∷ enter 0 ∷ exit 0 21 22 ∷ exit 0 13 22 ∷ exit 12 0 22 ∷ []) ("<p><a href=\"http://a'b\">http://a'b</a> <a href=\"mailto:a'b@c.d\">a'b@c.d</a></p>" ∷ []))
unfolding running
v16 = tt

v17 : T (shows (quoted Lf) ("<http://a'b> <a'b@c.d>" ∷ []) (enter 12 ∷ enter 0 ∷ enter 0 ∷ exit 0 0 1 ∷ enter 44 ∷ exit 44 1 11 ∷ enter 0 ∷ exit 0 11 12 ∷ exit 0 0 12 ∷ enter 5 ∷ exit 5 12 13 ∷ enter 0 ∷ enter 0 ∷ exit 0 13 14 ∷ enter 43 ∷ exit 43 14 21 ∷ enter 0 ∷ exit 0 21 22 ∷ exit 0 13 22 ∷ exit 12 0 22 ∷ []) ("<p><a href=\"http://a&#39;b\">http://a&#39;b</a> <a href=\"mailto:a&#39;b@c.d\">a&#39;b@c.d</a></p>" ∷ []))
unfolding running
v17 = tt

v18 : T (shows (quoted_on Lf) ("<http://a'b> <a'b@c.d>" ∷ []) (enter 12 ∷ enter 0 ∷ enter 0 ∷ exit 0 0 1 ∷ enter 44 ∷ exit 44 1 11 ∷ enter 0 ∷ exit 0 11 12 ∷ exit 0 0 12 ∷ enter 5 ∷ exit 5 12 13 ∷ enter 0 ∷ enter 0 ∷ exit 0 13 14 ∷ enter 43 ∷ exit 43 14 21 ∷ enter 0 ∷ exit 0 21 22 ∷ exit 0 13 22 ∷ exit 12 0 22 ∷ []) ("<p><a href=\"http://a&#39;b\">http://a&#39;b</a> <a href=\"mailto:a&#39;b@c.d\">a&#39;b@c.d</a></p>" ∷ []))
unfolding running
v18 = tt

v19 : T (shows (off Lf) ("[a](javascript':x) [b](javascript&#39;:x) [c](x'y:z)" ∷ []) (enter 12 ∷ enter 45 ∷ enter 47 ∷ enter 0 ∷ enter 0 ∷ exit 0 0 1 ∷ exit 0 0 1 ∷ enter 48 ∷ enter 5 ∷ exit 5 1 2 ∷ exit 48 1 2 ∷ enter 0 ∷ enter 0 ∷ exit 0 2 3 ∷ exit 0 2 3 ∷ exit 47 0 3 ∷ enter 49 ∷ enter 0 ∷ exit 0 3 4 ∷ enter 0 ∷ enter 0 ∷ enter 50 ∷ enter 5 ∷ exit 5 4 17 ∷ exit 50 4 17 ∷ exit 0 4 17 ∷ exit 0 4 17 ∷ enter 0 ∷ exit 0 17 18 ∷ exit 49 3 18 ∷ exit 45 0 18 ∷ enter 5 ∷ exit 5 18 19 ∷ enter 45 ∷ enter 47 ∷ enter 0 ∷ enter 0 ∷ exit 0 19 20 ∷ exit 0 19 20 ∷ enter 48 ∷ enter 5 ∷ exit 5 20 21 ∷ exit 48 20 21 ∷ enter 0 ∷ enter 0 ∷ exit 0 21 22 ∷ exit 0 21 22 ∷ exit 47 19 22 ∷ enter 49 ∷ enter 0 ∷ exit 0 22 23 ∷ enter 0 ∷ enter 0 ∷ enter 50 ∷ enter 5 ∷ exit 5 23 33 ∷ enter 7 ∷ enter 8 ∷ exit 8 33 34 ∷ enter 9 ∷ exit 9 34 35 ∷ enter 11 ∷ exit 11 35 37 ∷ enter 0 ∷ exit 0 37 38 ∷ exit 7 33 38 ∷ enter 5 ∷ exit 5 38 40 ∷ exit 50 23 40 ∷ exit 0 23 40 ∷ exit 0 23 40 ∷ enter 0 ∷ exit 0 40 41 ∷ exit 49 22 41 ∷ exit 45 19 41 ∷ enter 5 ∷ exit 5 41 42 ∷ enter 45 ∷ enter 47 ∷ enter 0 ∷ enter 0 ∷ exit 0 42 43 ∷ exit 0 42 43 ∷ enter 48 ∷ enter 5 ∷ exit 5 43 44 ∷ exit 48 43 44 ∷ enter 0 ∷ enter 0 ∷ exit 0 44 45 ∷ exit 0 44 45 ∷ exit 47 42 45 ∷ enter 49 ∷ enter 0 ∷ exit 0 45 46 ∷ enter 0 ∷ enter 0 ∷ enter 50 ∷ enter 5 ∷ exit 5 46 51 ∷ exit 50 46 51 ∷ exit 0 46 51 ∷ exit 0 46 51 ∷ enter 0 ∷ exit 0 51 52 ∷ exit 49 45 52 ∷ exit 45 42 52 ∷ exit 12 0 52 ∷ []) ("<p><a href=\"\">a</a> <a href=\"\">b</a> <a href=\"\">c</a></p>" ∷ []))
unfolding running
v19 = tt

v20 : T (shows (protocol Lf) ("[a](javascript':x) [b](javascript&#39;:x) [c](x'y:z)" ∷ []) (enter 12 ∷ enter 45 ∷ enter 47 ∷ enter 0 ∷ enter 0 ∷ exit 0 0 1 ∷ exit 0 0 1 ∷ enter 48 ∷ enter 5 ∷ exit 5 1 2 ∷ exit 48 1 2 ∷ enter 0 ∷ enter 0 ∷ exit 0 2 3 ∷ exit 0 2 3 ∷ exit 47 0 3 ∷ enter 49 ∷ enter 0 ∷ exit 0 3 4 ∷ enter 0 ∷ enter 0 ∷ enter 50 ∷ enter 5 ∷ exit 5 4 17 ∷ exit 50 4 17 ∷ exit 0 4 17 ∷ exit 0 4 17 ∷ enter 0 ∷ exit 0 17 18 ∷ exit 49 3 18 ∷ exit 45 0 18 ∷ enter 5 ∷ exit 5 18 19 ∷ enter 45 ∷ enter 47 ∷ enter 0 ∷ enter 0 ∷ exit 0 19 20 ∷ exit 0 19 20 ∷ enter 48 ∷ enter 5 ∷ exit 5 20 21 ∷ exit 48 20 21 ∷ enter 0 ∷ enter 0 ∷ exit 0 21 22 ∷ exit 0 21 22 ∷ exit 47 19 22 ∷ enter 49 ∷ enter 0 ∷ exit 0 22 23 ∷ enter 0 ∷ enter 0 ∷ enter 50 ∷ enter 5 ∷ exit 5 23 33 ∷ enter 7 ∷ enter 8 ∷ exit 8 33 34 ∷ enter 9 ∷ exit 9 34 35 ∷ enter 11 ∷ exit 11 35 37 ∷ enter 0 ∷ exit 0 37 38 ∷ exit 7 33 38 ∷ enter 5 ∷ exit 5 38 40 ∷ exit 50 23 40 ∷ exit 0 23 40 ∷ exit 0 23 40 ∷ enter 0 ∷ exit 0 40 41 ∷ exit 49 22 41 ∷ exit 45 19 41 ∷ enter 5 ∷ exit 5 41 42 ∷ enter 45 ∷ enter 47 ∷ enter 0 ∷ enter 0 ∷ exit 0 42 43 ∷ exit 0 42 43 ∷ enter 48 ∷ enter 5 ∷ exit 5 43 44 ∷ exit 48 43 44 ∷ enter 0 ∷ enter 0 ∷ exit 0 44 45 ∷ exit 0 44 45 ∷ exit 47 42 45 ∷ enter 49 ∷ enter 0 ∷ exit 0 45 46 ∷ enter 0 ∷ enter 0 ∷ enter 50 ∷ enter 5 ∷ exit 5 46 51 ∷ exit 50 46 51 ∷ exit 0 46 51 ∷ exit 0 46 51 ∷ enter 0 ∷ exit 0 51 52 ∷ exit 49 45 52 ∷ exit 45 42 52 ∷ exit 12 0 52 ∷ []) ("<p><a href=\"javascript':x\">a</a> <a href=\"javascript':x\">b</a> <a href=\"x'y:z\">c</a></p>" ∷ []))
unfolding running
v20 = tt

v21 : T (shows (on Lf) ("[a](javascript':x) [b](javascript&#39;:x) [c](x'y:z)" ∷ []) (enter 12 ∷ enter 45 ∷ enter 47 ∷ enter 0 ∷ enter 0 ∷ exit 0 0 1 ∷ exit 0 0 1 ∷ enter 48 ∷ enter 5 ∷ exit 5 1 2 ∷ exit 48 1 2 ∷ enter 0 ∷ enter 0 ∷ exit 0 2 3 ∷ exit 0 2 3 ∷ exit 47 0 3 ∷ enter 49 ∷ enter 0 ∷ exit 0 3 4 ∷ enter 0 ∷ enter 0 ∷ enter 50 ∷ enter 5 ∷ exit 5 4 17 ∷ exit 50 4 17 ∷ exit 0 4 17 ∷ exit 0 4 17 ∷ enter 0 ∷ exit 0 17 18 ∷ exit 49 3 18 ∷ exit 45 0 18 ∷ enter 5 ∷ exit 5 18 19 ∷ enter 45 ∷ enter 47 ∷ enter 0 ∷ enter 0 ∷ exit 0 19 20 ∷ exit 0 19 20 ∷ enter 48 ∷ enter 5 ∷ exit 5 20 21 ∷ exit 48 20 21 ∷ enter 0 ∷ enter 0 ∷ exit 0 21 22 ∷ exit 0 21 22 ∷ exit 47 19 22 ∷ enter 49 ∷ enter 0 ∷ exit 0 22 23 ∷ enter 0 ∷ enter 0 ∷ enter 50 ∷ enter 5 ∷ exit 5 23 33 ∷ enter 7 ∷ enter 8 ∷ exit 8 33 34 ∷ enter 9 ∷ exit 9 34 35 ∷ enter 11 ∷ exit 11 35 37 ∷ enter 0 ∷ exit 0 37 38 ∷ exit 7 33 38 ∷ enter 5 ∷ exit 5 38 40 ∷ exit 50 23 40 ∷ exit 0 23 40 ∷ exit 0 23 40 ∷ enter 0 ∷ exit 0 40 41 ∷ exit 49 22 41 ∷ exit 45 19 41 ∷ enter 5 ∷ exit 5 41 42 ∷ enter 45 ∷ enter 47 ∷ enter 0 ∷ enter 0 ∷ exit 0 42 43 ∷ exit 0 42 43 ∷ enter 48 ∷ enter 5 ∷ exit 5 43 44 ∷ exit 48 43 44 ∷ enter 0 ∷ enter 0 ∷ exit 0 44 45 ∷ exit 0 44 45 ∷ exit 47 42 45 ∷ enter 49 ∷ enter 0 ∷ exit 0 45 46 ∷ enter 0 ∷ enter 0 ∷ enter 50 ∷ enter 5 ∷ exit 5 46 51 ∷ exit 50 46 51 ∷ exit 0 46 51 ∷ exit 0 46 51 ∷ enter 0 ∷ exit 0 51 52 ∷ exit 49 45 52 ∷ exit 45 42 52 ∷ exit 12 0 52 ∷ []) ("<p><a href=\"javascript':x\">a</a> <a href=\"javascript':x\">b</a> <a href=\"x'y:z\">c</a></p>" ∷ []))
unfolding running
v21 = tt

v22 : T (shows (quoted_on Lf) ("[a](javascript':x) [b](javascript&#39;:x) [c](x'y:z)" ∷ []) (enter 12 ∷ enter 45 ∷ enter 47 ∷ enter 0 ∷ enter 0 ∷ exit 0 0 1 ∷ exit 0 0 1 ∷ enter 48 ∷ enter 5 ∷ exit 5 1 2 ∷ exit 48 1 2 ∷ enter 0 ∷ enter 0 ∷ exit 0 2 3 ∷ exit 0 2 3 ∷ exit 47 0 3 ∷ enter 49 ∷ enter 0 ∷ exit 0 3 4 ∷ enter 0 ∷ enter 0 ∷ enter 50 ∷ enter 5 ∷ exit 5 4 17 ∷ exit 50 4 17 ∷ exit 0 4 17 ∷ exit 0 4 17 ∷ enter 0 ∷ exit 0 17 18 ∷ exit 49 3 18 ∷ exit 45 0 18 ∷ enter 5 ∷ exit 5 18 19 ∷ enter 45 ∷ enter 47 ∷ enter 0 ∷ enter 0 ∷ exit 0 19 20 ∷ exit 0 19 20 ∷ enter 48 ∷ enter 5 ∷ exit 5 20 21 ∷ exit 48 20 21 ∷ enter 0 ∷ enter 0 ∷ exit 0 21 22 ∷ exit 0 21 22 ∷ exit 47 19 22 ∷ enter 49 ∷ enter 0 ∷ exit 0 22 23 ∷ enter 0 ∷ enter 0 ∷ enter 50 ∷ enter 5 ∷ exit 5 23 33 ∷ enter 7 ∷ enter 8 ∷ exit 8 33 34 ∷ enter 9 ∷ exit 9 34 35 ∷ enter 11 ∷ exit 11 35 37 ∷ enter 0 ∷ exit 0 37 38 ∷ exit 7 33 38 ∷ enter 5 ∷ exit 5 38 40 ∷ exit 50 23 40 ∷ exit 0 23 40 ∷ exit 0 23 40 ∷ enter 0 ∷ exit 0 40 41 ∷ exit 49 22 41 ∷ exit 45 19 41 ∷ enter 5 ∷ exit 5 41 42 ∷ enter 45 ∷ enter 47 ∷ enter 0 ∷ enter 0 ∷ exit 0 42 43 ∷ exit 0 42 43 ∷ enter 48 ∷ enter 5 ∷ exit 5 43 44 ∷ exit 48 43 44 ∷ enter 0 ∷ enter 0 ∷ exit 0 44 45 ∷ exit 0 44 45 ∷ exit 47 42 45 ∷ enter 49 ∷ enter 0 ∷ exit 0 45 46 ∷ enter 0 ∷ enter 0 ∷ enter 50 ∷ enter 5 ∷ exit 5 46 51 ∷ exit 50 46 51 ∷ exit 0 46 51 ∷ exit 0 46 51 ∷ enter 0 ∷ exit 0 51 52 ∷ exit 49 45 52 ∷ exit 45 42 52 ∷ exit 12 0 52 ∷ []) ("<p><a href=\"javascript&#39;:x\">a</a> <a href=\"javascript&#39;:x\">b</a> <a href=\"x&#39;y:z\">c</a></p>" ∷ []))
unfolding running
v22 = tt

v23 : T (shows (off Lf) ("![a](http:b'c)" ∷ []) (enter 12 ∷ enter 46 ∷ enter 47 ∷ enter 0 ∷ enter 0 ∷ exit 0 0 1 ∷ enter 0 ∷ exit 0 1 2 ∷ exit 0 0 2 ∷ enter 48 ∷ enter 5 ∷ exit 5 2 3 ∷ exit 48 2 3 ∷ enter 0 ∷ enter 0 ∷ exit 0 3 4 ∷ exit 0 3 4 ∷ exit 47 0 4 ∷ enter 49 ∷ enter 0 ∷ exit 0 4 5 ∷ enter 0 ∷ enter 0 ∷ enter 50 ∷ enter 5 ∷ exit 5 5 13 ∷ exit 50 5 13 ∷ exit 0 5 13 ∷ exit 0 5 13 ∷ enter 0 ∷ exit 0 13 14 ∷ exit 49 4 14 ∷ exit 46 0 14 ∷ exit 12 0 14 ∷ []) ("<p><img src=\"http:b'c\" alt=\"a\" /></p>" ∷ []))
unfolding running
v23 = tt

v24 : T (shows (quoted Lf) ("![a](http:b'c)" ∷ []) (enter 12 ∷ enter 46 ∷ enter 47 ∷ enter 0 ∷ enter 0 ∷ exit 0 0 1 ∷ enter 0 ∷ exit 0 1 2 ∷ exit 0 0 2 ∷ enter 48 ∷ enter 5 ∷ exit 5 2 3 ∷ exit 48 2 3 ∷ enter 0 ∷ enter 0 ∷ exit 0 3 4 ∷ exit 0 3 4 ∷ exit 47 0 4 ∷ enter 49 ∷ enter 0 ∷ exit 0 4 5 ∷ enter 0 ∷ enter 0 ∷ enter 50 ∷ enter 5 ∷ exit 5 5 13 ∷ exit 50 5 13 ∷ exit 0 5 13 ∷ exit 0 5 13 ∷ enter 0 ∷ exit 0 13 14 ∷ exit 49 4 14 ∷ exit 46 0 14 ∷ exit 12 0 14 ∷ []) ("<p><img src=\"http:b&#39;c\" alt=\"a\" /></p>" ∷ []))
unfolding running
v24 = tt

v25 : T (shows (quoted_on Lf) ("![a](http:b'c)" ∷ []) (enter 12 ∷ enter 46 ∷ enter 47 ∷ enter 0 ∷ enter 0 ∷ exit 0 0 1 ∷ enter 0 ∷ exit 0 1 2 ∷ exit 0 0 2 ∷ enter 48 ∷ enter 5 ∷ exit 5 2 3 ∷ exit 48 2 3 ∷ enter 0 ∷ enter 0 ∷ exit 0 3 4 ∷ exit 0 3 4 ∷ exit 47 0 4 ∷ enter 49 ∷ enter 0 ∷ exit 0 4 5 ∷ enter 0 ∷ enter 0 ∷ enter 50 ∷ enter 5 ∷ exit 5 5 13 ∷ exit 50 5 13 ∷ exit 0 5 13 ∷ exit 0 5 13 ∷ enter 0 ∷ exit 0 13 14 ∷ exit 49 4 14 ∷ exit 46 0 14 ∷ exit 12 0 14 ∷ []) ("<p><img src=\"http:b&#39;c\" alt=\"a\" /></p>" ∷ []))
unfolding running
v25 = tt

v26 : T (shows (off Lf) ("&#39; &#x27; [a&#39;b](c&#39;d \"e&#39;f\")" ∷ []) (enter 12 ∷ enter 7 ∷ enter 8 ∷ exit 8 0 1 ∷ enter 9 ∷ exit 9 1 2 ∷ enter 11 ∷ exit 11 2 4 ∷ enter 0 ∷ exit 0 4 5 ∷ exit 7 0 5 ∷ enter 5 ∷ exit 5 5 6 ∷ enter 7 ∷ enter 8 ∷ exit 8 6 7 ∷ enter 9 ∷ exit 9 7 8 ∷ enter 10 ∷ exit 10 8 9 ∷ enter 11 ∷ exit 11 9 11 ∷ enter 0 ∷ exit 0 11 12 ∷ exit 7 6 12 ∷ enter 5 ∷ exit 5 12 13 ∷ enter 45 ∷ enter 47 ∷ enter 0 ∷ enter 0 ∷ exit 0 13 14 ∷ exit 0 13 14 ∷ enter 48 ∷ enter 5 ∷ exit 5 14 15 ∷ enter 7 ∷ enter 8 ∷ exit 8 15 16 ∷ enter 9 ∷ exit 9 16 17 ∷ enter 11 ∷ exit 11 17 19 ∷ enter 0 ∷ exit 0 19 20 ∷ exit 7 15 20 ∷ enter 5 ∷ exit 5 20 21 ∷ exit 48 14 21 ∷ enter 0 ∷ enter 0 ∷ exit 0 21 22 ∷ exit 0 21 22 ∷ exit 47 13 22 ∷ enter 49 ∷ enter 0 ∷ exit 0 22 23 ∷ enter 0 ∷ enter 0 ∷ enter 50 ∷ enter 5 ∷ exit 5 23 24 ∷ enter 7 ∷ enter 8 ∷ exit 8 24 25 ∷ enter 9 ∷ exit 9 25 26 ∷ enter 11 ∷ exit 11 26 28 ∷ enter 0 ∷ exit 0 28 29 ∷ exit 7 24 29 ∷ enter 5 ∷ exit 5 29 30 ∷ exit 50 23 30 ∷ exit 0 23 30 ∷ exit 0 23 30 ∷ enter 1 ∷ exit 1 30 31 ∷ enter 0 ∷ enter 0 ∷ exit 0 31 32 ∷ enter 51 ∷ enter 5 ∷ exit 5 32 33 ∷ enter 7 ∷ enter 8 ∷ exit 8 33 34 ∷ enter 9 ∷ exit 9 34 35 ∷ enter 11 ∷ exit 11 35 37 ∷ enter 0 ∷ exit 0 37 38 ∷ exit 7 33 38 ∷ enter 5 ∷ exit 5 38 39 ∷ exit 51 32 39 ∷ enter 0 ∷ exit 0 39 40 ∷ exit 0 31 40 ∷ enter 0 ∷ exit 0 40 41 ∷ exit 49 22 41 ∷ exit 45 13 41 ∷ exit 12 0 41 ∷ []) ("<p>' ' <a href=\"c'd\" title=\"e'f\">a'b</a></p>" ∷ []))
unfolding running
v26 = tt

v27 : T (shows (quoted Lf) ("&#39; &#x27; [a&#39;b](c&#39;d \"e&#39;f\")" ∷ []) (enter 12 ∷ enter 7 ∷ enter 8 ∷ exit 8 0 1 ∷ enter 9 ∷ exit 9 1 2 ∷ enter 11 ∷ exit 11 2 4 ∷ enter 0 ∷ exit 0 4 5 ∷ exit 7 0 5 ∷ enter 5 ∷ exit 5 5 6 ∷ enter 7 ∷ enter 8 ∷ exit 8 6 7 ∷ enter 9 ∷ exit 9 7 8 ∷ enter 10 ∷ exit 10 8 9 ∷ enter 11 ∷ exit 11 9 11 ∷ enter 0 ∷ exit 0 11 12 ∷ exit 7 6 12 ∷ enter 5 ∷ exit 5 12 13 ∷ enter 45 ∷ enter 47 ∷ enter 0 ∷ enter 0 ∷ exit 0 13 14 ∷ exit 0 13 14 ∷ enter 48 ∷ enter 5 ∷ exit 5 14 15 ∷ enter 7 ∷ enter 8 ∷ exit 8 15 16 ∷ enter 9 ∷ exit 9 16 17 ∷ enter 11 ∷ exit 11 17 19 ∷ enter 0 ∷ exit 0 19 20 ∷ exit 7 15 20 ∷ enter 5 ∷ exit 5 20 21 ∷ exit 48 14 21 ∷ enter 0 ∷ enter 0 ∷ exit 0 21 22 ∷ exit 0 21 22 ∷ exit 47 13 22 ∷ enter 49 ∷ enter 0 ∷ exit 0 22 23 ∷ enter 0 ∷ enter 0 ∷ enter 50 ∷ enter 5 ∷ exit 5 23 24 ∷ enter 7 ∷ enter 8 ∷ exit 8 24 25 ∷ enter 9 ∷ exit 9 25 26 ∷ enter 11 ∷ exit 11 26 28 ∷ enter 0 ∷ exit 0 28 29 ∷ exit 7 24 29 ∷ enter 5 ∷ exit 5 29 30 ∷ exit 50 23 30 ∷ exit 0 23 30 ∷ exit 0 23 30 ∷ enter 1 ∷ exit 1 30 31 ∷ enter 0 ∷ enter 0 ∷ exit 0 31 32 ∷ enter 51 ∷ enter 5 ∷ exit 5 32 33 ∷ enter 7 ∷ enter 8 ∷ exit 8 33 34 ∷ enter 9 ∷ exit 9 34 35 ∷ enter 11 ∷ exit 11 35 37 ∷ enter 0 ∷ exit 0 37 38 ∷ exit 7 33 38 ∷ enter 5 ∷ exit 5 38 39 ∷ exit 51 32 39 ∷ enter 0 ∷ exit 0 39 40 ∷ exit 0 31 40 ∷ enter 0 ∷ exit 0 40 41 ∷ exit 49 22 41 ∷ exit 45 13 41 ∷ exit 12 0 41 ∷ []) ("<p>&#39; &#39; <a href=\"c&#39;d\" title=\"e&#39;f\">a&#39;b</a></p>" ∷ []))
unfolding running
v27 = tt

v28 : T (shows (quoted_on Lf) ("&#39; &#x27; [a&#39;b](c&#39;d \"e&#39;f\")" ∷ []) (enter 12 ∷ enter 7 ∷ enter 8 ∷ exit 8 0 1 ∷ enter 9 ∷ exit 9 1 2 ∷ enter 11 ∷ exit 11 2 4 ∷ enter 0 ∷ exit 0 4 5 ∷ exit 7 0 5 ∷ enter 5 ∷ exit 5 5 6 ∷ enter 7 ∷ enter 8 ∷ exit 8 6 7 ∷ enter 9 ∷ exit 9 7 8 ∷ enter 10 ∷ exit 10 8 9 ∷ enter 11 ∷ exit 11 9 11 ∷ enter 0 ∷ exit 0 11 12 ∷ exit 7 6 12 ∷ enter 5 ∷ exit 5 12 13 ∷ enter 45 ∷ enter 47 ∷ enter 0 ∷ enter 0 ∷ exit 0 13 14 ∷ exit 0 13 14 ∷ enter 48 ∷ enter 5 ∷ exit 5 14 15 ∷ enter 7 ∷ enter 8 ∷ exit 8 15 16 ∷ enter 9 ∷ exit 9 16 17 ∷ enter 11 ∷ exit 11 17 19 ∷ enter 0 ∷ exit 0 19 20 ∷ exit 7 15 20 ∷ enter 5 ∷ exit 5 20 21 ∷ exit 48 14 21 ∷ enter 0 ∷ enter 0 ∷ exit 0 21 22 ∷ exit 0 21 22 ∷ exit 47 13 22 ∷ enter 49 ∷ enter 0 ∷ exit 0 22 23 ∷ enter 0 ∷ enter 0 ∷ enter 50 ∷ enter 5 ∷ exit 5 23 24 ∷ enter 7 ∷ enter 8 ∷ exit 8 24 25 ∷ enter 9 ∷ exit 9 25 26 ∷ enter 11 ∷ exit 11 26 28 ∷ enter 0 ∷ exit 0 28 29 ∷ exit 7 24 29 ∷ enter 5 ∷ exit 5 29 30 ∷ exit 50 23 30 ∷ exit 0 23 30 ∷ exit 0 23 30 ∷ enter 1 ∷ exit 1 30 31 ∷ enter 0 ∷ enter 0 ∷ exit 0 31 32 ∷ enter 51 ∷ enter 5 ∷ exit 5 32 33 ∷ enter 7 ∷ enter 8 ∷ exit 8 33 34 ∷ enter 9 ∷ exit 9 34 35 ∷ enter 11 ∷ exit 11 35 37 ∷ enter 0 ∷ exit 0 37 38 ∷ exit 7 33 38 ∷ enter 5 ∷ exit 5 38 39 ∷ exit 51 32 39 ∷ enter 0 ∷ exit 0 39 40 ∷ exit 0 31 40 ∷ enter 0 ∷ exit 0 40 41 ∷ exit 49 22 41 ∷ exit 45 13 41 ∷ exit 12 0 41 ∷ []) ("<p>&#39; &#39; <a href=\"c&#39;d\" title=\"e&#39;f\">a&#39;b</a></p>" ∷ []))
unfolding running
v28 = tt

v29 : T (shows (off Lf) ("[a][b'c]\n\n[b'c]: d'e \"f'g\"" ∷ []) (enter 12 ∷ enter 45 ∷ enter 47 ∷ enter 0 ∷ enter 0 ∷ exit 0 0 1 ∷ exit 0 0 1 ∷ enter 48 ∷ enter 5 ∷ exit 5 1 2 ∷ exit 48 1 2 ∷ enter 0 ∷ enter 0 ∷ exit 0 2 3 ∷ exit 0 2 3 ∷ exit 47 0 3 ∷ enter 0 ∷ enter 0 ∷ exit 0 3 4 ∷ enter 52 ∷ enter 5 ∷ exit 5 4 7 ∷ exit 52 4 7 ∷ enter 0 ∷ exit 0 7 8 ∷ exit 0 3 8 ∷ exit 45 0 8 ∷ exit 12 0 8 ∷ enter 3 ∷ exit 3 8 9 ∷ enter 4 ∷ exit 4 9 10 ∷ enter 53 ∷ enter 0 ∷ enter 0 ∷ exit 0 10 11 ∷ enter 54 ∷ enter 5 ∷ exit 5 11 14 ∷ exit 54 11 14 ∷ enter 0 ∷ exit 0 14 15 ∷ exit 0 10 15 ∷ enter 0 ∷ exit 0 15 16 ∷ enter 1 ∷ exit 1 16 17 ∷ enter 0 ∷ enter 0 ∷ enter 55 ∷ enter 5 ∷ exit 5 17 20 ∷ exit 55 17 20 ∷ exit 0 17 20 ∷ exit 0 17 20 ∷ enter 1 ∷ exit 1 20 21 ∷ enter 0 ∷ enter 0 ∷ exit 0 21 22 ∷ enter 56 ∷ enter 5 ∷ exit 5 22 25 ∷ exit 56 22 25 ∷ enter 0 ∷ exit 0 25 26 ∷ exit 0 21 26 ∷ exit 53 10 26 ∷ []) ("<p><a href=\"d'e\" title=\"f'g\">a</a></p>\n" ∷ []))
unfolding running
v29 = tt

v30 : T (shows (quoted Lf) ("[a][b'c]\n\n[b'c]: d'e \"f'g\"" ∷ []) (enter 12 ∷ enter 45 ∷ enter 47 ∷ enter 0 ∷ enter 0 ∷ exit 0 0 1 ∷ exit 0 0 1 ∷ enter 48 ∷ enter 5 ∷ exit 5 1 2 ∷ exit 48 1 2 ∷ enter 0 ∷ enter 0 ∷ exit 0 2 3 ∷ exit 0 2 3 ∷ exit 47 0 3 ∷ enter 0 ∷ enter 0 ∷ exit 0 3 4 ∷ enter 52 ∷ enter 5 ∷ exit 5 4 7 ∷ exit 52 4 7 ∷ enter 0 ∷ exit 0 7 8 ∷ exit 0 3 8 ∷ exit 45 0 8 ∷ exit 12 0 8 ∷ enter 3 ∷ exit 3 8 9 ∷ enter 4 ∷ exit 4 9 10 ∷ enter 53 ∷ enter 0 ∷ enter 0 ∷ exit 0 10 11 ∷ enter 54 ∷ enter 5 ∷ exit 5 11 14 ∷ exit 54 11 14 ∷ enter 0 ∷ exit 0 14 15 ∷ exit 0 10 15 ∷ enter 0 ∷ exit 0 15 16 ∷ enter 1 ∷ exit 1 16 17 ∷ enter 0 ∷ enter 0 ∷ enter 55 ∷ enter 5 ∷ exit 5 17 20 ∷ exit 55 17 20 ∷ exit 0 17 20 ∷ exit 0 17 20 ∷ enter 1 ∷ exit 1 20 21 ∷ enter 0 ∷ enter 0 ∷ exit 0 21 22 ∷ enter 56 ∷ enter 5 ∷ exit 5 22 25 ∷ exit 56 22 25 ∷ enter 0 ∷ exit 0 25 26 ∷ exit 0 21 26 ∷ exit 53 10 26 ∷ []) ("<p><a href=\"d&#39;e\" title=\"f&#39;g\">a</a></p>\n" ∷ []))
unfolding running
v30 = tt

v31 : T (shows (quoted_on Lf) ("[a][b'c]\n\n[b'c]: d'e \"f'g\"" ∷ []) (enter 12 ∷ enter 45 ∷ enter 47 ∷ enter 0 ∷ enter 0 ∷ exit 0 0 1 ∷ exit 0 0 1 ∷ enter 48 ∷ enter 5 ∷ exit 5 1 2 ∷ exit 48 1 2 ∷ enter 0 ∷ enter 0 ∷ exit 0 2 3 ∷ exit 0 2 3 ∷ exit 47 0 3 ∷ enter 0 ∷ enter 0 ∷ exit 0 3 4 ∷ enter 52 ∷ enter 5 ∷ exit 5 4 7 ∷ exit 52 4 7 ∷ enter 0 ∷ exit 0 7 8 ∷ exit 0 3 8 ∷ exit 45 0 8 ∷ exit 12 0 8 ∷ enter 3 ∷ exit 3 8 9 ∷ enter 4 ∷ exit 4 9 10 ∷ enter 53 ∷ enter 0 ∷ enter 0 ∷ exit 0 10 11 ∷ enter 54 ∷ enter 5 ∷ exit 5 11 14 ∷ exit 54 11 14 ∷ enter 0 ∷ exit 0 14 15 ∷ exit 0 10 15 ∷ enter 0 ∷ exit 0 15 16 ∷ enter 1 ∷ exit 1 16 17 ∷ enter 0 ∷ enter 0 ∷ enter 55 ∷ enter 5 ∷ exit 5 17 20 ∷ exit 55 17 20 ∷ exit 0 17 20 ∷ exit 0 17 20 ∷ enter 1 ∷ exit 1 20 21 ∷ enter 0 ∷ enter 0 ∷ exit 0 21 22 ∷ enter 56 ∷ enter 5 ∷ exit 5 22 25 ∷ exit 56 22 25 ∷ enter 0 ∷ exit 0 25 26 ∷ exit 0 21 26 ∷ exit 53 10 26 ∷ []) ("<p><a href=\"d&#39;e\" title=\"f&#39;g\">a</a></p>\n" ∷ []))
unfolding running
v31 = tt

v32 : T (shows (off Lf) ("a[^b'c]\n\n[^b'c]: d'e" ∷ []) (enter 12 ∷ enter 5 ∷ exit 5 0 1 ∷ enter 62 ∷ enter 47 ∷ enter 0 ∷ enter 0 ∷ exit 0 1 2 ∷ enter 0 ∷ exit 0 2 3 ∷ exit 0 1 3 ∷ enter 48 ∷ enter 5 ∷ exit 5 3 6 ∷ exit 48 3 6 ∷ enter 0 ∷ enter 0 ∷ exit 0 6 7 ∷ exit 0 6 7 ∷ exit 47 1 7 ∷ exit 62 1 7 ∷ exit 12 0 7 ∷ enter 3 ∷ exit 3 7 8 ∷ enter 4 ∷ exit 4 8 9 ∷ enter 63 ∷ enter 64 ∷ enter 0 ∷ enter 0 ∷ exit 0 9 10 ∷ enter 0 ∷ exit 0 10 11 ∷ enter 65 ∷ enter 5 ∷ exit 5 11 14 ∷ exit 65 11 14 ∷ enter 0 ∷ exit 0 14 15 ∷ exit 0 9 15 ∷ enter 0 ∷ exit 0 15 16 ∷ enter 1 ∷ exit 1 16 17 ∷ exit 64 9 17 ∷ enter 12 ∷ enter 5 ∷ exit 5 17 20 ∷ exit 12 17 20 ∷ exit 63 9 20 ∷ []) ("<p>a<sup><a href=\"#user-content-fn-b'c\" id=\"user-content-fnref-b'c\" data-footnote-ref=\"\" aria-describedby=\"footnote-label\">1</a></sup></p>\n<section data-footnotes=\"\" class=\"footnotes\"><h2 id=\"footnote" ∷ "-label\" class=\"sr-only\">Footnotes</h2>\n<ol>\n<li id=\"user-content-fn-b'c\">\n<p>d'e <a href=\"#user-content-fnref-b'c\" data-footnote-backref=\"\" aria-label=\"Back to content\" class=\"data-footnote-backref\">â" ∷ "\u{86}©</a></p>\n</li>\n</ol>\n</section>\n" ∷ []))
unfolding running
v32 = tt

v33 : T (shows (quoted Lf) ("a[^b'c]\n\n[^b'c]: d'e" ∷ []) (enter 12 ∷ enter 5 ∷ exit 5 0 1 ∷ enter 62 ∷ enter 47 ∷ enter 0 ∷ enter 0 ∷ exit 0 1 2 ∷ enter 0 ∷ exit 0 2 3 ∷ exit 0 1 3 ∷ enter 48 ∷ enter 5 ∷ exit 5 3 6 ∷ exit 48 3 6 ∷ enter 0 ∷ enter 0 ∷ exit 0 6 7 ∷ exit 0 6 7 ∷ exit 47 1 7 ∷ exit 62 1 7 ∷ exit 12 0 7 ∷ enter 3 ∷ exit 3 7 8 ∷ enter 4 ∷ exit 4 8 9 ∷ enter 63 ∷ enter 64 ∷ enter 0 ∷ enter 0 ∷ exit 0 9 10 ∷ enter 0 ∷ exit 0 10 11 ∷ enter 65 ∷ enter 5 ∷ exit 5 11 14 ∷ exit 65 11 14 ∷ enter 0 ∷ exit 0 14 15 ∷ exit 0 9 15 ∷ enter 0 ∷ exit 0 15 16 ∷ enter 1 ∷ exit 1 16 17 ∷ exit 64 9 17 ∷ enter 12 ∷ enter 5 ∷ exit 5 17 20 ∷ exit 12 17 20 ∷ exit 63 9 20 ∷ []) ("<p>a<sup><a href=\"#user-content-fn-b&#39;c\" id=\"user-content-fnref-b&#39;c\" data-footnote-ref=\"\" aria-describedby=\"footnote-label\">1</a></sup></p>\n<section data-footnotes=\"\" class=\"footnotes\"><h2 id=\"" ∷ "footnote-label\" class=\"sr-only\">Footnotes</h2>\n<ol>\n<li id=\"user-content-fn-b&#39;c\">\n<p>d&#39;e <a href=\"#user-content-fnref-b&#39;c\" data-footnote-backref=\"\" aria-label=\"Back to content\" class=\"data" ∷ "-footnote-backref\">â\u{86}©</a></p>\n</li>\n</ol>\n</section>\n" ∷ []))
unfolding running
v33 = tt

v34 : T (shows (quoted_on Lf) ("a[^b'c]\n\n[^b'c]: d'e" ∷ []) (enter 12 ∷ enter 5 ∷ exit 5 0 1 ∷ enter 62 ∷ enter 47 ∷ enter 0 ∷ enter 0 ∷ exit 0 1 2 ∷ enter 0 ∷ exit 0 2 3 ∷ exit 0 1 3 ∷ enter 48 ∷ enter 5 ∷ exit 5 3 6 ∷ exit 48 3 6 ∷ enter 0 ∷ enter 0 ∷ exit 0 6 7 ∷ exit 0 6 7 ∷ exit 47 1 7 ∷ exit 62 1 7 ∷ exit 12 0 7 ∷ enter 3 ∷ exit 3 7 8 ∷ enter 4 ∷ exit 4 8 9 ∷ enter 63 ∷ enter 64 ∷ enter 0 ∷ enter 0 ∷ exit 0 9 10 ∷ enter 0 ∷ exit 0 10 11 ∷ enter 65 ∷ enter 5 ∷ exit 5 11 14 ∷ exit 65 11 14 ∷ enter 0 ∷ exit 0 14 15 ∷ exit 0 9 15 ∷ enter 0 ∷ exit 0 15 16 ∷ enter 1 ∷ exit 1 16 17 ∷ exit 64 9 17 ∷ enter 12 ∷ enter 5 ∷ exit 5 17 20 ∷ exit 12 17 20 ∷ exit 63 9 20 ∷ []) ("<p>a<sup><a href=\"#user-content-fn-b&#39;c\" id=\"user-content-fnref-b&#39;c\" data-footnote-ref=\"\" aria-describedby=\"footnote-label\">1</a></sup></p>\n<section data-footnotes=\"\" class=\"footnotes\"><h2 id=\"" ∷ "footnote-label\" class=\"sr-only\">Footnotes</h2>\n<ol>\n<li id=\"user-content-fn-b&#39;c\">\n<p>d&#39;e <a href=\"#user-content-fnref-b&#39;c\" data-footnote-backref=\"\" aria-label=\"Back to content\" class=\"data" ∷ "-footnote-backref\">â\u{86}©</a></p>\n</li>\n</ol>\n</section>\n" ∷ []))
unfolding running
v34 = tt

v35 : T (shows (off Lf) ("<b c='d'>'</b>" ∷ []) (enter 12 ∷ enter 37 ∷ enter 38 ∷ exit 38 0 9 ∷ exit 37 0 9 ∷ enter 5 ∷ exit 5 9 10 ∷ enter 37 ∷ enter 38 ∷ exit 38 10 14 ∷ exit 37 10 14 ∷ exit 12 0 14 ∷ []) ("<p>&lt;b c='d'&gt;'&lt;/b&gt;</p>" ∷ []))
unfolding running
v35 = tt

v36 : T (shows (html Lf) ("<b c='d'>'</b>" ∷ []) (enter 12 ∷ enter 37 ∷ enter 38 ∷ exit 38 0 9 ∷ exit 37 0 9 ∷ enter 5 ∷ exit 5 9 10 ∷ enter 37 ∷ enter 38 ∷ exit 38 10 14 ∷ exit 37 10 14 ∷ exit 12 0 14 ∷ []) ("<p><b c='d'>'</b></p>" ∷ []))
unfolding running
v36 = tt

v37 : T (shows (on Lf) ("<b c='d'>'</b>" ∷ []) (enter 12 ∷ enter 37 ∷ enter 38 ∷ exit 38 0 9 ∷ exit 37 0 9 ∷ enter 5 ∷ exit 5 9 10 ∷ enter 37 ∷ enter 38 ∷ exit 38 10 14 ∷ exit 37 10 14 ∷ exit 12 0 14 ∷ []) ("<p><b c='d'>'</b></p>" ∷ []))
unfolding running
v37 = tt

v38 : T (shows (quoted Lf) ("<b c='d'>'</b>" ∷ []) (enter 12 ∷ enter 37 ∷ enter 38 ∷ exit 38 0 9 ∷ exit 37 0 9 ∷ enter 5 ∷ exit 5 9 10 ∷ enter 37 ∷ enter 38 ∷ exit 38 10 14 ∷ exit 37 10 14 ∷ exit 12 0 14 ∷ []) ("<p>&lt;b c=&#39;d&#39;&gt;&#39;&lt;/b&gt;</p>" ∷ []))
unfolding running
v38 = tt

v39 : T (shows (quoted_on Lf) ("<b c='d'>'</b>" ∷ []) (enter 12 ∷ enter 37 ∷ enter 38 ∷ exit 38 0 9 ∷ exit 37 0 9 ∷ enter 5 ∷ exit 5 9 10 ∷ enter 37 ∷ enter 38 ∷ exit 38 10 14 ∷ exit 37 10 14 ∷ exit 12 0 14 ∷ []) ("<p><b c='d'>&#39;</b></p>" ∷ []))
unfolding running
v39 = tt

v40 : T (shows (off Lf) ("<div a='b'>\n'\n</div>" ∷ []) (enter 35 ∷ enter 36 ∷ exit 36 0 11 ∷ enter 3 ∷ exit 3 11 12 ∷ enter 36 ∷ exit 36 12 13 ∷ enter 3 ∷ exit 3 13 14 ∷ enter 36 ∷ exit 36 14 20 ∷ exit 35 0 20 ∷ []) ("&lt;div a='b'&gt;\n'\n&lt;/div&gt;" ∷ []))
unfolding running
v40 = tt

v41 : T (shows (html Lf) ("<div a='b'>\n'\n</div>" ∷ []) (enter 35 ∷ enter 36 ∷ exit 36 0 11 ∷ enter 3 ∷ exit 3 11 12 ∷ enter 36 ∷ exit 36 12 13 ∷ enter 3 ∷ exit 3 13 14 ∷ enter 36 ∷ exit 36 14 20 ∷ exit 35 0 20 ∷ []) ("<div a='b'>\n'\n</div>" ∷ []))
unfolding running
v41 = tt

v42 : T (shows (on Lf) ("<div a='b'>\n'\n</div>" ∷ []) (enter 35 ∷ enter 36 ∷ exit 36 0 11 ∷ enter 3 ∷ exit 3 11 12 ∷ enter 36 ∷ exit 36 12 13 ∷ enter 3 ∷ exit 3 13 14 ∷ enter 36 ∷ exit 36 14 20 ∷ exit 35 0 20 ∷ []) ("<div a='b'>\n'\n</div>" ∷ []))
unfolding running
v42 = tt

v43 : T (shows (quoted Lf) ("<div a='b'>\n'\n</div>" ∷ []) (enter 35 ∷ enter 36 ∷ exit 36 0 11 ∷ enter 3 ∷ exit 3 11 12 ∷ enter 36 ∷ exit 36 12 13 ∷ enter 3 ∷ exit 3 13 14 ∷ enter 36 ∷ exit 36 14 20 ∷ exit 35 0 20 ∷ []) ("&lt;div a=&#39;b&#39;&gt;\n&#39;\n&lt;/div&gt;" ∷ []))
unfolding running
v43 = tt

v44 : T (shows (off Lf) ("| a'b |\n|-|\n| c'd |" ∷ []) (enter_with 57 1 ∷ enter 58 ∷ enter 60 ∷ enter 61 ∷ enter 0 ∷ exit 0 0 1 ∷ enter 1 ∷ exit 1 1 2 ∷ enter 0 ∷ enter 5 ∷ exit 5 2 5 ∷ exit 0 2 5 ∷ enter 1 ∷ exit 1 5 6 ∷ enter 0 ∷ exit 0 6 7 ∷ exit 61 0 7 ∷ exit 60 0 7 ∷ enter 3 ∷ exit 3 7 8 ∷ enter 0 ∷ enter 0 ∷ enter 0 ∷ exit 0 8 9 ∷ enter 0 ∷ enter 0 ∷ exit 0 9 10 ∷ exit 0 9 10 ∷ enter 0 ∷ exit 0 10 11 ∷ exit 0 8 11 ∷ exit 0 8 11 ∷ exit 58 0 11 ∷ enter 3 ∷ exit 3 11 12 ∷ enter 59 ∷ enter 60 ∷ enter 61 ∷ enter 0 ∷ exit 0 12 13 ∷ enter 1 ∷ exit 1 13 14 ∷ enter 0 ∷ enter 5 ∷ exit 5 14 17 ∷ exit 0 14 17 ∷ enter 1 ∷ exit 1 17 18 ∷ enter 0 ∷ exit 0 18 19 ∷ exit 61 12 19 ∷ exit 60 12 19 ∷ exit 59 12 19 ∷ exit 57 0 19 ∷ []) ("<table>\n<thead>\n<tr>\n<th>a'b</th>\n</tr>\n</thead>\n<tbody>\n<tr>\n<td>c'd</td>\n</tr>\n</tbody>\n</table>" ∷ []))
unfolding running
v44 = tt

v45 : T (shows (quoted Lf) ("| a'b |\n|-|\n| c'd |" ∷ []) (enter_with 57 1 ∷ enter 58 ∷ enter 60 ∷ enter 61 ∷ enter 0 ∷ exit 0 0 1 ∷ enter 1 ∷ exit 1 1 2 ∷ enter 0 ∷ enter 5 ∷ exit 5 2 5 ∷ exit 0 2 5 ∷ enter 1 ∷ exit 1 5 6 ∷ enter 0 ∷ exit 0 6 7 ∷ exit 61 0 7 ∷ exit 60 0 7 ∷ enter 3 ∷ exit 3 7 8 ∷ enter 0 ∷ enter 0 ∷ enter 0 ∷ exit 0 8 9 ∷ enter 0 ∷ enter 0 ∷ exit 0 9 10 ∷ exit 0 9 10 ∷ enter 0 ∷ exit 0 10 11 ∷ exit 0 8 11 ∷ exit 0 8 11 ∷ exit 58 0 11 ∷ enter 3 ∷ exit 3 11 12 ∷ enter 59 ∷ enter 60 ∷ enter 61 ∷ enter 0 ∷ exit 0 12 13 ∷ enter 1 ∷ exit 1 13 14 ∷ enter 0 ∷ enter 5 ∷ exit 5 14 17 ∷ exit 0 14 17 ∷ enter 1 ∷ exit 1 17 18 ∷ enter 0 ∷ exit 0 18 19 ∷ exit 61 12 19 ∷ exit 60 12 19 ∷ exit 59 12 19 ∷ exit 57 0 19 ∷ []) ("<table>\n<thead>\n<tr>\n<th>a&#39;b</th>\n</tr>\n</thead>\n<tbody>\n<tr>\n<td>c&#39;d</td>\n</tr>\n</tbody>\n</table>" ∷ []))
unfolding running
v45 = tt

v46 : T (shows (quoted_on Lf) ("| a'b |\n|-|\n| c'd |" ∷ []) (enter_with 57 1 ∷ enter 58 ∷ enter 60 ∷ enter 61 ∷ enter 0 ∷ exit 0 0 1 ∷ enter 1 ∷ exit 1 1 2 ∷ enter 0 ∷ enter 5 ∷ exit 5 2 5 ∷ exit 0 2 5 ∷ enter 1 ∷ exit 1 5 6 ∷ enter 0 ∷ exit 0 6 7 ∷ exit 61 0 7 ∷ exit 60 0 7 ∷ enter 3 ∷ exit 3 7 8 ∷ enter 0 ∷ enter 0 ∷ enter 0 ∷ exit 0 8 9 ∷ enter 0 ∷ enter 0 ∷ exit 0 9 10 ∷ exit 0 9 10 ∷ enter 0 ∷ exit 0 10 11 ∷ exit 0 8 11 ∷ exit 0 8 11 ∷ exit 58 0 11 ∷ enter 3 ∷ exit 3 11 12 ∷ enter 59 ∷ enter 60 ∷ enter 61 ∷ enter 0 ∷ exit 0 12 13 ∷ enter 1 ∷ exit 1 13 14 ∷ enter 0 ∷ enter 5 ∷ exit 5 14 17 ∷ exit 0 14 17 ∷ enter 1 ∷ exit 1 17 18 ∷ enter 0 ∷ exit 0 18 19 ∷ exit 61 12 19 ∷ exit 60 12 19 ∷ exit 59 12 19 ∷ exit 57 0 19 ∷ []) ("<table>\n<thead>\n<tr>\n<th>a&#39;b</th>\n</tr>\n</thead>\n<tbody>\n<tr>\n<td>c&#39;d</td>\n</tr>\n</tbody>\n</table>" ∷ []))
unfolding running
v46 = tt

v47 : T (shows (off Lf) ("'\n===\n# '" ∷ []) (enter 16 ∷ enter 17 ∷ enter 5 ∷ exit 5 0 1 ∷ exit 17 0 1 ∷ enter 3 ∷ exit 3 1 2 ∷ enter 0 ∷ enter 18 ∷ exit 18 2 5 ∷ exit 0 2 5 ∷ exit 16 0 5 ∷ enter 3 ∷ exit 3 5 6 ∷ enter 13 ∷ enter 14 ∷ exit 14 6 7 ∷ enter 1 ∷ exit 1 7 8 ∷ enter 15 ∷ enter 5 ∷ exit 5 8 9 ∷ exit 15 8 9 ∷ exit 13 6 9 ∷ []) ("<h1>'</h1>\n<h1>'</h1>" ∷ []))
unfolding running
v47 = tt

v48 : T (shows (quoted Lf) ("'\n===\n# '" ∷ []) (enter 16 ∷ enter 17 ∷ enter 5 ∷ exit 5 0 1 ∷ exit 17 0 1 ∷ enter 3 ∷ exit 3 1 2 ∷ enter 0 ∷ enter 18 ∷ exit 18 2 5 ∷ exit 0 2 5 ∷ exit 16 0 5 ∷ enter 3 ∷ exit 3 5 6 ∷ enter 13 ∷ enter 14 ∷ exit 14 6 7 ∷ enter 1 ∷ exit 1 7 8 ∷ enter 15 ∷ enter 5 ∷ exit 5 8 9 ∷ exit 15 8 9 ∷ exit 13 6 9 ∷ []) ("<h1>&#39;</h1>\n<h1>&#39;</h1>" ∷ []))
unfolding running
v48 = tt

v49 : T (shows (quoted_on Lf) ("'\n===\n# '" ∷ []) (enter 16 ∷ enter 17 ∷ enter 5 ∷ exit 5 0 1 ∷ exit 17 0 1 ∷ enter 3 ∷ exit 3 1 2 ∷ enter 0 ∷ enter 18 ∷ exit 18 2 5 ∷ exit 0 2 5 ∷ exit 16 0 5 ∷ enter 3 ∷ exit 3 5 6 ∷ enter 13 ∷ enter 14 ∷ exit 14 6 7 ∷ enter 1 ∷ exit 1 7 8 ∷ enter 15 ∷ enter 5 ∷ exit 5 8 9 ∷ exit 15 8 9 ∷ exit 13 6 9 ∷ []) ("<h1>&#39;</h1>\n<h1>&#39;</h1>" ∷ []))
unfolding running
v49 = tt

v50 : T (shows (off Lf) ("> '\n\n- '\n" ∷ []) (enter 20 ∷ enter 2 ∷ enter 0 ∷ exit 0 0 1 ∷ enter 1 ∷ exit 1 1 2 ∷ exit 2 0 2 ∷ enter 12 ∷ enter 5 ∷ exit 5 2 3 ∷ exit 12 2 3 ∷ exit 20 0 3 ∷ enter 3 ∷ exit 3 3 4 ∷ enter 4 ∷ exit 4 4 5 ∷ enter 22 ∷ enter 23 ∷ enter 24 ∷ enter 25 ∷ exit 25 5 6 ∷ enter 1 ∷ exit 1 6 7 ∷ exit 24 5 7 ∷ enter 12 ∷ enter 5 ∷ exit 5 7 8 ∷ exit 12 7 8 ∷ exit 23 5 8 ∷ exit 22 5 8 ∷ enter 3 ∷ exit 3 8 9 ∷ []) ("<blockquote>\n<p>'</p>\n</blockquote>\n<ul>\n<li>'</li>\n</ul>\n" ∷ []))
unfolding running
v50 = tt

v51 : T (shows (quoted Lf) ("> '\n\n- '\n" ∷ []) (enter 20 ∷ enter 2 ∷ enter 0 ∷ exit 0 0 1 ∷ enter 1 ∷ exit 1 1 2 ∷ exit 2 0 2 ∷ enter 12 ∷ enter 5 ∷ exit 5 2 3 ∷ exit 12 2 3 ∷ exit 20 0 3 ∷ enter 3 ∷ exit 3 3 4 ∷ enter 4 ∷ exit 4 4 5 ∷ enter 22 ∷ enter 23 ∷ enter 24 ∷ enter 25 ∷ exit 25 5 6 ∷ enter 1 ∷ exit 1 6 7 ∷ exit 24 5 7 ∷ enter 12 ∷ enter 5 ∷ exit 5 7 8 ∷ exit 12 7 8 ∷ exit 23 5 8 ∷ exit 22 5 8 ∷ enter 3 ∷ exit 3 8 9 ∷ []) ("<blockquote>\n<p>&#39;</p>\n</blockquote>\n<ul>\n<li>&#39;</li>\n</ul>\n" ∷ []))
unfolding running
v51 = tt

v52 : T (shows (quoted_on Lf) ("> '\n\n- '\n" ∷ []) (enter 20 ∷ enter 2 ∷ enter 0 ∷ exit 0 0 1 ∷ enter 1 ∷ exit 1 1 2 ∷ exit 2 0 2 ∷ enter 12 ∷ enter 5 ∷ exit 5 2 3 ∷ exit 12 2 3 ∷ exit 20 0 3 ∷ enter 3 ∷ exit 3 3 4 ∷ enter 4 ∷ exit 4 4 5 ∷ enter 22 ∷ enter 23 ∷ enter 24 ∷ enter 25 ∷ exit 25 5 6 ∷ enter 1 ∷ exit 1 6 7 ∷ exit 24 5 7 ∷ enter 12 ∷ enter 5 ∷ exit 5 7 8 ∷ exit 12 7 8 ∷ exit 23 5 8 ∷ exit 22 5 8 ∷ enter 3 ∷ exit 3 8 9 ∷ []) ("<blockquote>\n<p>&#39;</p>\n</blockquote>\n<ul>\n<li>&#39;</li>\n</ul>\n" ∷ []))
unfolding running
v52 = tt
