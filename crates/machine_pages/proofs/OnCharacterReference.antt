-- Character references, escapes, plain text: pages of the crate markdown 1.0.0. Made by tools/machine_pages. Assumes nothing.
use mathlib.Core.List.{[], ◌∷◌}
use lib.Dec.{T}
use Rattle.machine.specs.declared.Ending.TheVariants.{Lf}
use Rattle.machine.proofs.Running.{running}
use Rattle.machine.proofs.Answers.{shows, off, quoted, quoted_on, enter, exit}

v1 : T (shows (off Lf) ("&amp; &lt; &gt; &quot; &nbsp;" ∷ []) (enter 12 ∷ enter 7 ∷ enter 8 ∷ exit 8 0 1 ∷ enter 11 ∷ exit 11 1 4 ∷ enter 0 ∷ exit 0 4 5 ∷ exit 7 0 5 ∷ enter 5 ∷ exit 5 5 6 ∷ enter 7 ∷ enter 8 ∷ exit 8 6 7 ∷ enter 11 ∷ exit 11 7 9 ∷ enter 0 ∷ exit 0 9 10 ∷ exit 7 6 10 ∷ enter 5 ∷ exit 5 10 11 ∷ enter 7 ∷ enter 8 ∷ exit 8 11 12 ∷ enter 11 ∷ exit 11 12 14 ∷ enter 0 ∷ exit 0 14 15 ∷ exit 7 11 15 ∷ enter 5 ∷ exit 5 15 16 ∷ enter 7 ∷ enter 8 ∷ exit 8 16 17 ∷ enter 11 ∷ exit 11 17 21 ∷ enter 0 ∷ exit 0 21 22 ∷ exit 7 16 22 ∷ enter 5 ∷ exit 5 22 23 ∷ enter 7 ∷ enter 8 ∷ exit 8 23 24 ∷ enter 11 ∷ exit 11 24 28 ∷ enter 0 ∷ exit 0 28 29 ∷ exit 7 23 29 ∷ exit 12 0 29 ∷ []) ("<p>&amp; &lt; &gt; &quot; Â\u{a0}</p>" ∷ []))
unfolding running
v1 = tt

v2 : T (shows (off Lf) ("&#35; &#x22; &#X3c;" ∷ []) (enter 12 ∷ enter 7 ∷ enter 8 ∷ exit 8 0 1 ∷ enter 9 ∷ exit 9 1 2 ∷ enter 11 ∷ exit 11 2 4 ∷ enter 0 ∷ exit 0 4 5 ∷ exit 7 0 5 ∷ enter 5 ∷ exit 5 5 6 ∷ enter 7 ∷ enter 8 ∷ exit 8 6 7 ∷ enter 9 ∷ exit 9 7 8 ∷ enter 10 ∷ exit 10 8 9 ∷ enter 11 ∷ exit 11 9 11 ∷ enter 0 ∷ exit 0 11 12 ∷ exit 7 6 12 ∷ enter 5 ∷ exit 5 12 13 ∷ enter 7 ∷ enter 8 ∷ exit 8 13 14 ∷ enter 9 ∷ exit 9 14 15 ∷ enter 10 ∷ exit 10 15 16 ∷ enter 11 ∷ exit 11 16 18 ∷ enter 0 ∷ exit 0 18 19 ∷ exit 7 13 19 ∷ exit 12 0 19 ∷ []) ("<p># &quot; &lt;</p>" ∷ []))
unfolding running
v2 = tt

v3 : T (shows (off Lf) ("&#0; &#8; &#11; &#12; &#127; &#159; &#160;" ∷ []) (enter 12 ∷ enter 7 ∷ enter 8 ∷ exit 8 0 1 ∷ enter 9 ∷ exit 9 1 2 ∷ enter 11 ∷ exit 11 2 3 ∷ enter 0 ∷ exit 0 3 4 ∷ exit 7 0 4 ∷ enter 5 ∷ exit 5 4 5 ∷ enter 7 ∷ enter 8 ∷ exit 8 5 6 ∷ enter 9 ∷ exit 9 6 7 ∷ enter 11 ∷ exit 11 7 8 ∷ enter 0 ∷ exit 0 8 9 ∷ exit 7 5 9 ∷ enter 5 ∷ exit 5 9 10 ∷ enter 7 ∷ enter 8 ∷ exit 8 10 11 ∷ enter 9 ∷ exit 9 11 12 ∷ enter 11 ∷ exit 11 12 14 ∷ enter 0 ∷ exit 0 14 15 ∷ exit 7 10 15 ∷ enter 5 ∷ exit 5 15 16 ∷ enter 7 ∷ enter 8 ∷ exit 8 16 17 ∷ enter 9 ∷ exit 9 17 18 ∷ enter 11 ∷ exit 11 18 20 ∷ enter 0 ∷ exit 0 20 21 ∷ exit 7 16 21 ∷ enter 5 ∷ exit 5 21 22 ∷ enter 7 ∷ enter 8 ∷ exit 8 22 23 ∷ enter 9 ∷ exit 9 23 24 ∷ enter 11 ∷ exit 11 24 27 ∷ enter 0 ∷ exit 0 27 28 ∷ exit 7 22 28 ∷ enter 5 ∷ exit 5 28 29 ∷ enter 7 ∷ enter 8 ∷ exit 8 29 30 ∷ enter 9 ∷ exit 9 30 31 ∷ enter 11 ∷ exit 11 31 34 ∷ enter 0 ∷ exit 0 34 35 ∷ exit 7 29 35 ∷ enter 5 ∷ exit 5 35 36 ∷ enter 7 ∷ enter 8 ∷ exit 8 36 37 ∷ enter 9 ∷ exit 9 37 38 ∷ enter 11 ∷ exit 11 38 41 ∷ enter 0 ∷ exit 0 41 42 ∷ exit 7 36 42 ∷ exit 12 0 42 ∷ []) ("<p>ï¿½ ï¿½ ï¿½ \u{c} ï¿½ ï¿½ Â\u{a0}</p>" ∷ []))
unfolding running
v3 = tt

v4 : T (shows (off Lf) ("&#xD800; &#x10FFFF; &#x110000; &#9999999;" ∷ []) (enter 12 ∷ enter 7 ∷ enter 8 ∷ exit 8 0 1 ∷ enter 9 ∷ exit 9 1 2 ∷ enter 10 ∷ exit 10 2 3 ∷ enter 11 ∷ exit 11 3 7 ∷ enter 0 ∷ exit 0 7 8 ∷ exit 7 0 8 ∷ enter 5 ∷ exit 5 8 9 ∷ enter 7 ∷ enter 8 ∷ exit 8 9 10 ∷ enter 9 ∷ exit 9 10 11 ∷ enter 10 ∷ exit 10 11 12 ∷ enter 11 ∷ exit 11 12 18 ∷ enter 0 ∷ exit 0 18 19 ∷ exit 7 9 19 ∷ enter 5 ∷ exit 5 19 20 ∷ enter 7 ∷ enter 8 ∷ exit 8 20 21 ∷ enter 9 ∷ exit 9 21 22 ∷ enter 10 ∷ exit 10 22 23 ∷ enter 11 ∷ exit 11 23 29 ∷ enter 0 ∷ exit 0 29 30 ∷ exit 7 20 30 ∷ enter 5 ∷ exit 5 30 31 ∷ enter 7 ∷ enter 8 ∷ exit 8 31 32 ∷ enter 9 ∷ exit 9 32 33 ∷ enter 11 ∷ exit 11 33 40 ∷ enter 0 ∷ exit 0 40 41 ∷ exit 7 31 41 ∷ exit 12 0 41 ∷ []) ("<p>ï¿½ ô\u{8f}¿¿ ï¿½ ï¿½</p>" ∷ []))
unfolding running
v4 = tt

v5 : T (shows (off Lf) ("&#9;&#10;&#13;" ∷ []) (enter 12 ∷ enter 7 ∷ enter 8 ∷ exit 8 0 1 ∷ enter 9 ∷ exit 9 1 2 ∷ enter 11 ∷ exit 11 2 3 ∷ enter 0 ∷ exit 0 3 4 ∷ exit 7 0 4 ∷ enter 7 ∷ enter 8 ∷ exit 8 4 5 ∷ enter 9 ∷ exit 9 5 6 ∷ enter 11 ∷ exit 11 6 8 ∷ enter 0 ∷ exit 0 8 9 ∷ exit 7 4 9 ∷ enter 7 ∷ enter 8 ∷ exit 8 9 10 ∷ enter 9 ∷ exit 9 10 11 ∷ enter 11 ∷ exit 11 11 13 ∷ enter 0 ∷ exit 0 13 14 ∷ exit 7 9 14 ∷ exit 12 0 14 ∷ []) ("<p>\t\n\r</p>" ∷ []))
unfolding running
v5 = tt

v6 : T (shows (off Lf) ("&amp" ∷ []) (enter 12 ∷ enter 5 ∷ exit 5 0 4 ∷ exit 12 0 4 ∷ []) ("<p>&amp;amp</p>" ∷ []))
unfolding running
v6 = tt

v7 : T (shows (off Lf) ("&;" ∷ []) (enter 12 ∷ enter 5 ∷ exit 5 0 2 ∷ exit 12 0 2 ∷ []) ("<p>&amp;;</p>" ∷ []))
unfolding running
v7 = tt

v8 : T (shows (off Lf) ("&#;" ∷ []) (enter 12 ∷ enter 5 ∷ exit 5 0 3 ∷ exit 12 0 3 ∷ []) ("<p>&amp;#;</p>" ∷ []))
unfolding running
v8 = tt

v9 : T (shows (off Lf) ("&#x;" ∷ []) (enter 12 ∷ enter 5 ∷ exit 5 0 4 ∷ exit 12 0 4 ∷ []) ("<p>&amp;#x;</p>" ∷ []))
unfolding running
v9 = tt

v10 : T (shows (off Lf) ("&#99999999;" ∷ []) (enter 12 ∷ enter 5 ∷ exit 5 0 11 ∷ exit 12 0 11 ∷ []) ("<p>&amp;#99999999;</p>" ∷ []))
unfolding running
v10 = tt

v11 : T (shows (off Lf) ("&#x1000000;" ∷ []) (enter 12 ∷ enter 5 ∷ exit 5 0 11 ∷ exit 12 0 11 ∷ []) ("<p>&amp;#x1000000;</p>" ∷ []))
unfolding running
v11 = tt

v12 : T (shows (off Lf) ("\\&amp; \\* \\a \\\\ \\<" ∷ []) (enter 12 ∷ enter 0 ∷ enter 0 ∷ exit 0 0 1 ∷ enter 6 ∷ exit 6 1 2 ∷ exit 0 0 2 ∷ enter 5 ∷ exit 5 2 7 ∷ enter 0 ∷ enter 0 ∷ exit 0 7 8 ∷ enter 6 ∷ exit 6 8 9 ∷ exit 0 7 9 ∷ enter 5 ∷ exit 5 9 13 ∷ enter 0 ∷ enter 0 ∷ exit 0 13 14 ∷ enter 6 ∷ exit 6 14 15 ∷ exit 0 13 15 ∷ enter 5 ∷ exit 5 15 16 ∷ enter 0 ∷ enter 0 ∷ exit 0 16 17 ∷ enter 6 ∷ exit 6 17 18 ∷ exit 0 16 18 ∷ exit 12 0 18 ∷ []) ("<p>&amp;amp; * \\a \\ &lt;</p>" ∷ []))
unfolding running
v12 = tt

v13 : T (shows (off Lf) ("\\\n" ∷ []) (enter 12 ∷ enter 5 ∷ exit 5 0 1 ∷ exit 12 0 1 ∷ enter 3 ∷ exit 3 1 2 ∷ []) ("<p>\\</p>\n" ∷ []))
unfolding running
v13 = tt

v14 : T (shows (off Lf) ("&#xFFFE; &#x1F600;" ∷ []) (enter 12 ∷ enter 7 ∷ enter 8 ∷ exit 8 0 1 ∷ enter 9 ∷ exit 9 1 2 ∷ enter 10 ∷ exit 10 2 3 ∷ enter 11 ∷ exit 11 3 7 ∷ enter 0 ∷ exit 0 7 8 ∷ exit 7 0 8 ∷ enter 5 ∷ exit 5 8 9 ∷ enter 7 ∷ enter 8 ∷ exit 8 9 10 ∷ enter 9 ∷ exit 9 10 11 ∷ enter 10 ∷ exit 10 11 12 ∷ enter 11 ∷ exit 11 12 17 ∷ enter 0 ∷ exit 0 17 18 ∷ exit 7 9 18 ∷ exit 12 0 18 ∷ []) ("<p>ï¿¾ ð\u{9f}\u{98}\u{80}</p>" ∷ []))
unfolding running
v14 = tt

v15 : T (shows (off Lf) ("&unknown;" ∷ []) (enter 12 ∷ enter 5 ∷ exit 5 0 9 ∷ exit 12 0 9 ∷ []) ("<p>&amp;unknown;</p>" ∷ []))
unfolding running
v15 = tt

v16 : T (shows (off Lf) ("Ã©ð\u{9f}\u{98}\u{80}Â\u{a0}ã\u{80}\u{80}x" ∷ []) (enter 12 ∷ enter 5 ∷ exit 5 0 12 ∷ exit 12 0 12 ∷ []) ("<p>Ã©ð\u{9f}\u{98}\u{80}Â\u{a0}ã\u{80}\u{80}x</p>" ∷ []))
unfolding running
v16 = tt

v17 : T (shows (off Lf) ("a\tb" ∷ []) (enter 12 ∷ enter 5 ∷ exit 5 0 3 ∷ exit 12 0 3 ∷ []) ("<p>a\tb</p>" ∷ []))
unfolding running
v17 = tt

v18 : T (shows (off Lf) ("aâ\u{80}¨b" ∷ []) (enter 12 ∷ enter 5 ∷ exit 5 0 5 ∷ exit 12 0 5 ∷ []) ("<p>aâ\u{80}¨b</p>" ∷ []))
unfolding running
v18 = tt

v19 : T (shows (off Lf) ("\"'<>&" ∷ []) (enter 12 ∷ enter 5 ∷ exit 5 0 5 ∷ exit 12 0 5 ∷ []) ("<p>&quot;'&lt;&gt;&amp;</p>" ∷ []))
unfolding running
v19 = tt

v20 : T (shows (quoted Lf) ("\"'<>&" ∷ []) (enter 12 ∷ enter 5 ∷ exit 5 0 5 ∷ exit 12 0 5 ∷ []) ("<p>&quot;&#39;&lt;&gt;&amp;</p>" ∷ []))
unfolding running
v20 = tt

v21 : T (shows (quoted_on Lf) ("\"'<>&" ∷ []) (enter 12 ∷ enter 5 ∷ exit 5 0 5 ∷ exit 12 0 5 ∷ []) ("<p>&quot;&#39;&lt;&gt;&amp;</p>" ∷ []))
unfolding running
v21 = tt

v22 : T (shows (off Lf) ("a\n\n\n\nb" ∷ []) (enter 12 ∷ enter 5 ∷ exit 5 0 1 ∷ exit 12 0 1 ∷ enter 3 ∷ exit 3 1 2 ∷ enter 4 ∷ exit 4 2 3 ∷ enter 4 ∷ exit 4 3 4 ∷ enter 4 ∷ exit 4 4 5 ∷ enter 12 ∷ enter 5 ∷ exit 5 5 6 ∷ exit 12 5 6 ∷ []) ("<p>a</p>\n<p>b</p>" ∷ []))
unfolding running
v22 = tt

v23 : T (shows (off Lf) ("a\r\n\r\nb" ∷ []) (enter 12 ∷ enter 5 ∷ exit 5 0 1 ∷ exit 12 0 1 ∷ enter 3 ∷ exit 3 1 3 ∷ enter 4 ∷ exit 4 3 5 ∷ enter 12 ∷ enter 5 ∷ exit 5 5 6 ∷ exit 12 5 6 ∷ []) ("<p>a</p>\r\n<p>b</p>" ∷ []))
unfolding running
v23 = tt

v24 : T (shows (off Lf) ("a\n\r\nb\r\rc" ∷ []) (enter 12 ∷ enter 5 ∷ exit 5 0 1 ∷ exit 12 0 1 ∷ enter 3 ∷ exit 3 1 2 ∷ enter 4 ∷ exit 4 2 4 ∷ enter 12 ∷ enter 5 ∷ exit 5 4 5 ∷ exit 12 4 5 ∷ enter 3 ∷ exit 3 5 6 ∷ enter 4 ∷ exit 4 6 7 ∷ enter 12 ∷ enter 5 ∷ exit 5 7 8 ∷ exit 12 7 8 ∷ []) ("<p>a</p>\n<p>b</p>\r<p>c</p>" ∷ []))
unfolding running
v24 = tt

v25 : T (shows (off Lf) ("  a\n   b\n    c" ∷ []) (enter 12 ∷ enter 1 ∷ exit 1 0 2 ∷ enter 5 ∷ exit 5 2 3 ∷ enter 3 ∷ exit 3 3 4 ∷ enter 1 ∷ exit 1 4 7 ∷ enter 5 ∷ exit 5 7 8 ∷ enter 3 ∷ exit 3 8 9 ∷ enter 1 ∷ exit 1 9 13 ∷ enter 5 ∷ exit 5 13 14 ∷ exit 12 0 14 ∷ []) ("<p>a\nb\nc</p>" ∷ []))
unfolding running
v25 = tt

v26 : T (shows (off Lf) ("a\n    b" ∷ []) (enter 12 ∷ enter 5 ∷ exit 5 0 1 ∷ enter 3 ∷ exit 3 1 2 ∷ enter 1 ∷ exit 1 2 6 ∷ enter 5 ∷ exit 5 6 7 ∷ exit 12 0 7 ∷ []) ("<p>a\nb</p>" ∷ []))
unfolding running
v26 = tt

v27 : T (shows (off Lf) ("a  \n\n\tb" ∷ []) (enter 12 ∷ enter 5 ∷ exit 5 0 1 ∷ enter 1 ∷ exit 1 1 3 ∷ exit 12 0 3 ∷ enter 3 ∷ exit 3 3 4 ∷ enter 4 ∷ exit 4 4 5 ∷ enter 27 ∷ enter 1 ∷ exit 1 5 6 ∷ enter 32 ∷ exit 32 6 7 ∷ exit 27 5 7 ∷ []) ("<p>a</p>\n<pre><code>b\n</code></pre>" ∷ []))
unfolding running
v27 = tt

v28 : T (shows (off Lf) ("&#x41;&#65;&amp;&#x42;&lt;" ∷ []) (enter 12 ∷ enter 7 ∷ enter 8 ∷ exit 8 0 1 ∷ enter 9 ∷ exit 9 1 2 ∷ enter 10 ∷ exit 10 2 3 ∷ enter 11 ∷ exit 11 3 5 ∷ enter 0 ∷ exit 0 5 6 ∷ exit 7 0 6 ∷ enter 7 ∷ enter 8 ∷ exit 8 6 7 ∷ enter 9 ∷ exit 9 7 8 ∷ enter 11 ∷ exit 11 8 10 ∷ enter 0 ∷ exit 0 10 11 ∷ exit 7 6 11 ∷ enter 7 ∷ enter 8 ∷ exit 8 11 12 ∷ enter 11 ∷ exit 11 12 15 ∷ enter 0 ∷ exit 0 15 16 ∷ exit 7 11 16 ∷ enter 7 ∷ enter 8 ∷ exit 8 16 17 ∷ enter 9 ∷ exit 9 17 18 ∷ enter 10 ∷ exit 10 18 19 ∷ enter 11 ∷ exit 11 19 21 ∷ enter 0 ∷ exit 0 21 22 ∷ exit 7 16 22 ∷ enter 7 ∷ enter 8 ∷ exit 8 22 23 ∷ enter 11 ∷ exit 11 23 25 ∷ enter 0 ∷ exit 0 25 26 ∷ exit 7 22 26 ∷ exit 12 0 26 ∷ []) ("<p>AA&amp;B&lt;</p>" ∷ []))
unfolding running
v28 = tt

v29 : T (shows (off Lf) ("[&amp;](&amp; \"&lt;\")" ∷ []) (enter 12 ∷ enter 45 ∷ enter 47 ∷ enter 0 ∷ enter 0 ∷ exit 0 0 1 ∷ exit 0 0 1 ∷ enter 48 ∷ enter 7 ∷ enter 8 ∷ exit 8 1 2 ∷ enter 11 ∷ exit 11 2 5 ∷ enter 0 ∷ exit 0 5 6 ∷ exit 7 1 6 ∷ exit 48 1 6 ∷ enter 0 ∷ enter 0 ∷ exit 0 6 7 ∷ exit 0 6 7 ∷ exit 47 0 7 ∷ enter 49 ∷ enter 0 ∷ exit 0 7 8 ∷ enter 0 ∷ enter 0 ∷ enter 50 ∷ enter 7 ∷ enter 8 ∷ exit 8 8 9 ∷ enter 11 ∷ exit 11 9 12 ∷ enter 0 ∷ exit 0 12 13 ∷ exit 7 8 13 ∷ exit 50 8 13 ∷ exit 0 8 13 ∷ exit 0 8 13 ∷ enter 1 ∷ exit 1 13 14 ∷ enter 0 ∷ enter 0 ∷ exit 0 14 15 ∷ enter 51 ∷ enter 7 ∷ enter 8 ∷ exit 8 15 16 ∷ enter 11 ∷ exit 11 16 18 ∷ enter 0 ∷ exit 0 18 19 ∷ exit 7 15 19 ∷ exit 51 15 19 ∷ enter 0 ∷ exit 0 19 20 ∷ exit 0 14 20 ∷ enter 0 ∷ exit 0 20 21 ∷ exit 49 7 21 ∷ exit 45 0 21 ∷ exit 12 0 21 ∷ []) ("<p><a href=\"&amp;\" title=\"&lt;\">&amp;</a></p>" ∷ []))
unfolding running
v29 = tt

v30 : T (shows (off Lf) ("![&lt;](&quot;)" ∷ []) (enter 12 ∷ enter 46 ∷ enter 47 ∷ enter 0 ∷ enter 0 ∷ exit 0 0 1 ∷ enter 0 ∷ exit 0 1 2 ∷ exit 0 0 2 ∷ enter 48 ∷ enter 7 ∷ enter 8 ∷ exit 8 2 3 ∷ enter 11 ∷ exit 11 3 5 ∷ enter 0 ∷ exit 0 5 6 ∷ exit 7 2 6 ∷ exit 48 2 6 ∷ enter 0 ∷ enter 0 ∷ exit 0 6 7 ∷ exit 0 6 7 ∷ exit 47 0 7 ∷ enter 49 ∷ enter 0 ∷ exit 0 7 8 ∷ enter 0 ∷ enter 0 ∷ enter 50 ∷ enter 7 ∷ enter 8 ∷ exit 8 8 9 ∷ enter 11 ∷ exit 11 9 13 ∷ enter 0 ∷ exit 0 13 14 ∷ exit 7 8 14 ∷ exit 50 8 14 ∷ exit 0 8 14 ∷ exit 0 8 14 ∷ enter 0 ∷ exit 0 14 15 ∷ exit 49 7 15 ∷ exit 46 0 15 ∷ exit 12 0 15 ∷ []) ("<p><img src=\"%22\" alt=\"&lt;\" /></p>" ∷ []))
unfolding running
v30 = tt

v31 : T (shows (off Lf) ("&amp;&lt;\n&gt;" ∷ []) (enter 12 ∷ enter 7 ∷ enter 8 ∷ exit 8 0 1 ∷ enter 11 ∷ exit 11 1 4 ∷ enter 0 ∷ exit 0 4 5 ∷ exit 7 0 5 ∷ enter 7 ∷ enter 8 ∷ exit 8 5 6 ∷ enter 11 ∷ exit 11 6 8 ∷ enter 0 ∷ exit 0 8 9 ∷ exit 7 5 9 ∷ enter 3 ∷ exit 3 9 10 ∷ enter 7 ∷ enter 8 ∷ exit 8 10 11 ∷ enter 11 ∷ exit 11 11 13 ∷ enter 0 ∷ exit 0 13 14 ∷ exit 7 10 14 ∷ exit 12 0 14 ∷ []) ("<p>&amp;&lt;\n&gt;</p>" ∷ []))
unfolding running
v31 = tt

v32 : T (shows (off Lf) ("&deg; &micro; &rarr;" ∷ []) (enter 12 ∷ enter 7 ∷ enter 8 ∷ exit 8 0 1 ∷ enter 11 ∷ exit 11 1 4 ∷ enter 0 ∷ exit 0 4 5 ∷ exit 7 0 5 ∷ enter 5 ∷ exit 5 5 6 ∷ enter 7 ∷ enter 8 ∷ exit 8 6 7 ∷ enter 11 ∷ exit 11 7 12 ∷ enter 0 ∷ exit 0 12 13 ∷ exit 7 6 13 ∷ enter 5 ∷ exit 5 13 14 ∷ enter 7 ∷ enter 8 ∷ exit 8 14 15 ∷ enter 11 ∷ exit 11 15 19 ∷ enter 0 ∷ exit 0 19 20 ∷ exit 7 14 20 ∷ exit 12 0 20 ∷ []) ("<p>Â° Âµ â\u{86}\u{92}</p>" ∷ []))
unfolding running
v32 = tt

v33 : T (shows (off Lf) ("&lang;&rang; &#x27E8; &thetasym;" ∷ []) (enter 12 ∷ enter 7 ∷ enter 8 ∷ exit 8 0 1 ∷ enter 11 ∷ exit 11 1 5 ∷ enter 0 ∷ exit 0 5 6 ∷ exit 7 0 6 ∷ enter 7 ∷ enter 8 ∷ exit 8 6 7 ∷ enter 11 ∷ exit 11 7 11 ∷ enter 0 ∷ exit 0 11 12 ∷ exit 7 6 12 ∷ enter 5 ∷ exit 5 12 13 ∷ enter 7 ∷ enter 8 ∷ exit 8 13 14 ∷ enter 9 ∷ exit 9 14 15 ∷ enter 10 ∷ exit 10 15 16 ∷ enter 11 ∷ exit 11 16 20 ∷ enter 0 ∷ exit 0 20 21 ∷ exit 7 13 21 ∷ enter 5 ∷ exit 5 21 22 ∷ enter 7 ∷ enter 8 ∷ exit 8 22 23 ∷ enter 11 ∷ exit 11 23 31 ∷ enter 0 ∷ exit 0 31 32 ∷ exit 7 22 32 ∷ exit 12 0 32 ∷ []) ("<p>â\u{9f}¨â\u{9f}© â\u{9f}¨ Ï\u{91}</p>" ∷ []))
unfolding running
v33 = tt

v34 : T (shows (off Lf) ("[&deg;](&alpha; \"&beta;\") `&deg;`" ∷ []) (enter 12 ∷ enter 45 ∷ enter 47 ∷ enter 0 ∷ enter 0 ∷ exit 0 0 1 ∷ exit 0 0 1 ∷ enter 48 ∷ enter 7 ∷ enter 8 ∷ exit 8 1 2 ∷ enter 11 ∷ exit 11 2 5 ∷ enter 0 ∷ exit 0 5 6 ∷ exit 7 1 6 ∷ exit 48 1 6 ∷ enter 0 ∷ enter 0 ∷ exit 0 6 7 ∷ exit 0 6 7 ∷ exit 47 0 7 ∷ enter 49 ∷ enter 0 ∷ exit 0 7 8 ∷ enter 0 ∷ enter 0 ∷ enter 50 ∷ enter 7 ∷ enter 8 ∷ exit 8 8 9 ∷ enter 11 ∷ exit 11 9 14 ∷ enter 0 ∷ exit 0 14 15 ∷ exit 7 8 15 ∷ exit 50 8 15 ∷ exit 0 8 15 ∷ exit 0 8 15 ∷ enter 1 ∷ exit 1 15 16 ∷ enter 0 ∷ enter 0 ∷ exit 0 16 17 ∷ enter 51 ∷ enter 7 ∷ enter 8 ∷ exit 8 17 18 ∷ enter 11 ∷ exit 11 18 22 ∷ enter 0 ∷ exit 0 22 23 ∷ exit 7 17 23 ∷ exit 51 17 23 ∷ enter 0 ∷ exit 0 23 24 ∷ exit 0 16 24 ∷ enter 0 ∷ exit 0 24 25 ∷ exit 49 7 25 ∷ exit 45 0 25 ∷ enter 5 ∷ exit 5 25 26 ∷ enter 33 ∷ enter 0 ∷ exit 0 26 27 ∷ enter 34 ∷ exit 34 27 32 ∷ enter 0 ∷ exit 0 32 33 ∷ exit 33 26 33 ∷ exit 12 0 33 ∷ []) ("<p><a href=\"%CE%B1\" title=\"Î²\">Â°</a> <code>&amp;deg;</code></p>" ∷ []))
unfolding running
v34 = tt

v35 : T (shows (off Lf) ("&zwj;&zwnj;&lrm;&rlm;&AElig;" ∷ []) (enter 12 ∷ enter 7 ∷ enter 8 ∷ exit 8 0 1 ∷ enter 11 ∷ exit 11 1 4 ∷ enter 0 ∷ exit 0 4 5 ∷ exit 7 0 5 ∷ enter 7 ∷ enter 8 ∷ exit 8 5 6 ∷ enter 11 ∷ exit 11 6 10 ∷ enter 0 ∷ exit 0 10 11 ∷ exit 7 5 11 ∷ enter 7 ∷ enter 8 ∷ exit 8 11 12 ∷ enter 11 ∷ exit 11 12 15 ∷ enter 0 ∷ exit 0 15 16 ∷ exit 7 11 16 ∷ enter 7 ∷ enter 8 ∷ exit 8 16 17 ∷ enter 11 ∷ exit 11 17 20 ∷ enter 0 ∷ exit 0 20 21 ∷ exit 7 16 21 ∷ enter 7 ∷ enter 8 ∷ exit 8 21 22 ∷ enter 11 ∷ exit 11 22 27 ∷ enter 0 ∷ exit 0 27 28 ∷ exit 7 21 28 ∷ exit 12 0 28 ∷ []) ("<p>â\u{80}\u{8d}â\u{80}\u{8c}â\u{80}\u{8e}â\u{80}\u{8f}Ã\u{86}</p>" ∷ []))
unfolding running
v35 = tt
