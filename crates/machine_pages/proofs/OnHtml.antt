-- HTML blocks and tags: pages of the crate markdown 1.0.0. Made by tools/machine_pages. Assumes nothing.
use mathlib.Core.List.{[], ◌∷◌}
use lib.Dec.{T}
use Rattle.machine.specs.declared.Ending.TheVariants.{Lf}
use Rattle.machine.proofs.Running.{running}
use Rattle.machine.proofs.Answers.{shows, off, html, on, quoted, enter, exit}

v1 : T (shows (off Lf) ("<div>\na\n</div>\n" ∷ []) (enter 35 ∷ enter 36 ∷ exit 36 0 5 ∷ enter 3 ∷ exit 3 5 6 ∷ enter 36 ∷ exit 36 6 7 ∷ enter 3 ∷ exit 3 7 8 ∷ enter 36 ∷ exit 36 8 14 ∷ exit 35 0 14 ∷ enter 3 ∷ exit 3 14 15 ∷ []) ("&lt;div&gt;\na\n&lt;/div&gt;\n" ∷ []))
unfolding running
v1 = tt

v2 : T (shows (html Lf) ("<div>\na\n</div>\n" ∷ []) (enter 35 ∷ enter 36 ∷ exit 36 0 5 ∷ enter 3 ∷ exit 3 5 6 ∷ enter 36 ∷ exit 36 6 7 ∷ enter 3 ∷ exit 3 7 8 ∷ enter 36 ∷ exit 36 8 14 ∷ exit 35 0 14 ∷ enter 3 ∷ exit 3 14 15 ∷ []) ("<div>\na\n</div>\n" ∷ []))
unfolding running
v2 = tt

v3 : T (shows (on Lf) ("<div>\na\n</div>\n" ∷ []) (enter 35 ∷ enter 36 ∷ exit 36 0 5 ∷ enter 3 ∷ exit 3 5 6 ∷ enter 36 ∷ exit 36 6 7 ∷ enter 3 ∷ exit 3 7 8 ∷ enter 36 ∷ exit 36 8 14 ∷ exit 35 0 14 ∷ enter 3 ∷ exit 3 14 15 ∷ []) ("<div>\na\n</div>\n" ∷ []))
unfolding running
v3 = tt

v4 : T (shows (off Lf) ("<!-- a -->" ∷ []) (enter 35 ∷ enter 36 ∷ exit 36 0 10 ∷ exit 35 0 10 ∷ []) ("&lt;!-- a --&gt;" ∷ []))
unfolding running
v4 = tt

v5 : T (shows (html Lf) ("<!-- a -->" ∷ []) (enter 35 ∷ enter 36 ∷ exit 36 0 10 ∷ exit 35 0 10 ∷ []) ("<!-- a -->" ∷ []))
unfolding running
v5 = tt

v6 : T (shows (on Lf) ("<!-- a -->" ∷ []) (enter 35 ∷ enter 36 ∷ exit 36 0 10 ∷ exit 35 0 10 ∷ []) ("<!-- a -->" ∷ []))
unfolding running
v6 = tt

v7 : T (shows (off Lf) ("<?a?>" ∷ []) (enter 35 ∷ enter 36 ∷ exit 36 0 5 ∷ exit 35 0 5 ∷ []) ("&lt;?a?&gt;" ∷ []))
unfolding running
v7 = tt

v8 : T (shows (html Lf) ("<?a?>" ∷ []) (enter 35 ∷ enter 36 ∷ exit 36 0 5 ∷ exit 35 0 5 ∷ []) ("<?a?>" ∷ []))
unfolding running
v8 = tt

v9 : T (shows (on Lf) ("<?a?>" ∷ []) (enter 35 ∷ enter 36 ∷ exit 36 0 5 ∷ exit 35 0 5 ∷ []) ("<?a?>" ∷ []))
unfolding running
v9 = tt

v10 : T (shows (off Lf) ("<!A b>" ∷ []) (enter 35 ∷ enter 36 ∷ exit 36 0 6 ∷ exit 35 0 6 ∷ []) ("&lt;!A b&gt;" ∷ []))
unfolding running
v10 = tt

v11 : T (shows (html Lf) ("<!A b>" ∷ []) (enter 35 ∷ enter 36 ∷ exit 36 0 6 ∷ exit 35 0 6 ∷ []) ("<!A b>" ∷ []))
unfolding running
v11 = tt

v12 : T (shows (on Lf) ("<!A b>" ∷ []) (enter 35 ∷ enter 36 ∷ exit 36 0 6 ∷ exit 35 0 6 ∷ []) ("<!A b>" ∷ []))
unfolding running
v12 = tt

v13 : T (shows (off Lf) ("<![CDATA[a]]>" ∷ []) (enter 35 ∷ enter 36 ∷ exit 36 0 13 ∷ exit 35 0 13 ∷ []) ("&lt;![CDATA[a]]&gt;" ∷ []))
unfolding running
v13 = tt

v14 : T (shows (html Lf) ("<![CDATA[a]]>" ∷ []) (enter 35 ∷ enter 36 ∷ exit 36 0 13 ∷ exit 35 0 13 ∷ []) ("<![CDATA[a]]>" ∷ []))
unfolding running
v14 = tt

v15 : T (shows (on Lf) ("<![CDATA[a]]>" ∷ []) (enter 35 ∷ enter 36 ∷ exit 36 0 13 ∷ exit 35 0 13 ∷ []) ("<![CDATA[a]]>" ∷ []))
unfolding running
v15 = tt

v16 : T (shows (off Lf) ("<script>\na\n\nb</script>\nc" ∷ []) (enter 35 ∷ enter 36 ∷ exit 36 0 8 ∷ enter 3 ∷ exit 3 8 9 ∷ enter 36 ∷ exit 36 9 10 ∷ enter 3 ∷ exit 3 10 11 ∷ enter 3 ∷ exit 3 11 12 ∷ enter 36 ∷ exit 36 12 22 ∷ exit 35 0 22 ∷ enter 3 ∷ exit 3 22 23 ∷ enter 12 ∷ enter 5 ∷ exit 5 23 24 ∷ exit 12 23 24 ∷ []) ("&lt;script&gt;\na\n\nb&lt;/script&gt;\n<p>c</p>" ∷ []))
unfolding running
v16 = tt

v17 : T (shows (html Lf) ("<script>\na\n\nb</script>\nc" ∷ []) (enter 35 ∷ enter 36 ∷ exit 36 0 8 ∷ enter 3 ∷ exit 3 8 9 ∷ enter 36 ∷ exit 36 9 10 ∷ enter 3 ∷ exit 3 10 11 ∷ enter 3 ∷ exit 3 11 12 ∷ enter 36 ∷ exit 36 12 22 ∷ exit 35 0 22 ∷ enter 3 ∷ exit 3 22 23 ∷ enter 12 ∷ enter 5 ∷ exit 5 23 24 ∷ exit 12 23 24 ∷ []) ("<script>\na\n\nb</script>\n<p>c</p>" ∷ []))
unfolding running
v17 = tt

v18 : T (shows (on Lf) ("<script>\na\n\nb</script>\nc" ∷ []) (enter 35 ∷ enter 36 ∷ exit 36 0 8 ∷ enter 3 ∷ exit 3 8 9 ∷ enter 36 ∷ exit 36 9 10 ∷ enter 3 ∷ exit 3 10 11 ∷ enter 3 ∷ exit 3 11 12 ∷ enter 36 ∷ exit 36 12 22 ∷ exit 35 0 22 ∷ enter 3 ∷ exit 3 22 23 ∷ enter 12 ∷ enter 5 ∷ exit 5 23 24 ∷ exit 12 23 24 ∷ []) ("<script>\na\n\nb</script>\n<p>c</p>" ∷ []))
unfolding running
v18 = tt

v19 : T (shows (off Lf) ("> <div>\n> a\nb" ∷ []) (enter 20 ∷ enter 2 ∷ enter 0 ∷ exit 0 0 1 ∷ enter 1 ∷ exit 1 1 2 ∷ exit 2 0 2 ∷ enter 35 ∷ enter 36 ∷ exit 36 2 7 ∷ enter 3 ∷ exit 3 7 8 ∷ enter 2 ∷ enter 0 ∷ exit 0 8 9 ∷ enter 1 ∷ exit 1 9 10 ∷ exit 2 8 10 ∷ enter 36 ∷ exit 36 10 11 ∷ exit 35 2 11 ∷ exit 20 0 11 ∷ enter 3 ∷ exit 3 11 12 ∷ enter 12 ∷ enter 5 ∷ exit 5 12 13 ∷ exit 12 12 13 ∷ []) ("<blockquote>\n&lt;div&gt;\na\n</blockquote>\n<p>b</p>" ∷ []))
unfolding running
v19 = tt

v20 : T (shows (html Lf) ("> <div>\n> a\nb" ∷ []) (enter 20 ∷ enter 2 ∷ enter 0 ∷ exit 0 0 1 ∷ enter 1 ∷ exit 1 1 2 ∷ exit 2 0 2 ∷ enter 35 ∷ enter 36 ∷ exit 36 2 7 ∷ enter 3 ∷ exit 3 7 8 ∷ enter 2 ∷ enter 0 ∷ exit 0 8 9 ∷ enter 1 ∷ exit 1 9 10 ∷ exit 2 8 10 ∷ enter 36 ∷ exit 36 10 11 ∷ exit 35 2 11 ∷ exit 20 0 11 ∷ enter 3 ∷ exit 3 11 12 ∷ enter 12 ∷ enter 5 ∷ exit 5 12 13 ∷ exit 12 12 13 ∷ []) ("<blockquote>\n<div>\na\n</blockquote>\n<p>b</p>" ∷ []))
unfolding running
v20 = tt

v21 : T (shows (on Lf) ("> <div>\n> a\nb" ∷ []) (enter 20 ∷ enter 2 ∷ enter 0 ∷ exit 0 0 1 ∷ enter 1 ∷ exit 1 1 2 ∷ exit 2 0 2 ∷ enter 35 ∷ enter 36 ∷ exit 36 2 7 ∷ enter 3 ∷ exit 3 7 8 ∷ enter 2 ∷ enter 0 ∷ exit 0 8 9 ∷ enter 1 ∷ exit 1 9 10 ∷ exit 2 8 10 ∷ enter 36 ∷ exit 36 10 11 ∷ exit 35 2 11 ∷ exit 20 0 11 ∷ enter 3 ∷ exit 3 11 12 ∷ enter 12 ∷ enter 5 ∷ exit 5 12 13 ∷ exit 12 12 13 ∷ []) ("<blockquote>\n<div>\na\n</blockquote>\n<p>b</p>" ∷ []))
unfolding running
v21 = tt

v22 : T (shows (off Lf) ("- <div>\n  a\n" ∷ []) (enter 22 ∷ enter 23 ∷ enter 24 ∷ enter 25 ∷ exit 25 0 1 ∷ enter 1 ∷ exit 1 1 2 ∷ exit 24 0 2 ∷ enter 35 ∷ enter 36 ∷ exit 36 2 7 ∷ enter 3 ∷ exit 3 7 8 ∷ enter 1 ∷ exit 1 8 10 ∷ enter 36 ∷ exit 36 10 11 ∷ exit 35 2 11 ∷ exit 23 0 11 ∷ exit 22 0 11 ∷ enter 3 ∷ exit 3 11 12 ∷ []) ("<ul>\n<li>\n&lt;div&gt;\na\n</li>\n</ul>\n" ∷ []))
unfolding running
v22 = tt

v23 : T (shows (html Lf) ("- <div>\n  a\n" ∷ []) (enter 22 ∷ enter 23 ∷ enter 24 ∷ enter 25 ∷ exit 25 0 1 ∷ enter 1 ∷ exit 1 1 2 ∷ exit 24 0 2 ∷ enter 35 ∷ enter 36 ∷ exit 36 2 7 ∷ enter 3 ∷ exit 3 7 8 ∷ enter 1 ∷ exit 1 8 10 ∷ enter 36 ∷ exit 36 10 11 ∷ exit 35 2 11 ∷ exit 23 0 11 ∷ exit 22 0 11 ∷ enter 3 ∷ exit 3 11 12 ∷ []) ("<ul>\n<li>\n<div>\na\n</li>\n</ul>\n" ∷ []))
unfolding running
v23 = tt

v24 : T (shows (on Lf) ("- <div>\n  a\n" ∷ []) (enter 22 ∷ enter 23 ∷ enter 24 ∷ enter 25 ∷ exit 25 0 1 ∷ enter 1 ∷ exit 1 1 2 ∷ exit 24 0 2 ∷ enter 35 ∷ enter 36 ∷ exit 36 2 7 ∷ enter 3 ∷ exit 3 7 8 ∷ enter 1 ∷ exit 1 8 10 ∷ enter 36 ∷ exit 36 10 11 ∷ exit 35 2 11 ∷ exit 23 0 11 ∷ exit 22 0 11 ∷ enter 3 ∷ exit 3 11 12 ∷ []) ("<ul>\n<li>\n<div>\na\n</li>\n</ul>\n" ∷ []))
unfolding running
v24 = tt

v25 : T (shows (off Lf) ("<div>\n\n*a*\n\n</div>" ∷ []) (enter 35 ∷ enter 36 ∷ exit 36 0 5 ∷ exit 35 0 5 ∷ enter 3 ∷ exit 3 5 6 ∷ enter 4 ∷ exit 4 6 7 ∷ enter 12 ∷ enter 39 ∷ enter 0 ∷ exit 0 7 8 ∷ enter 0 ∷ enter 5 ∷ exit 5 8 9 ∷ exit 0 8 9 ∷ enter 0 ∷ exit 0 9 10 ∷ exit 39 7 10 ∷ exit 12 7 10 ∷ enter 3 ∷ exit 3 10 11 ∷ enter 4 ∷ exit 4 11 12 ∷ enter 35 ∷ enter 36 ∷ exit 36 12 18 ∷ exit 35 12 18 ∷ []) ("&lt;div&gt;\n<p><em>a</em></p>\n&lt;/div&gt;" ∷ []))
unfolding running
v25 = tt

v26 : T (shows (html Lf) ("<div>\n\n*a*\n\n</div>" ∷ []) (enter 35 ∷ enter 36 ∷ exit 36 0 5 ∷ exit 35 0 5 ∷ enter 3 ∷ exit 3 5 6 ∷ enter 4 ∷ exit 4 6 7 ∷ enter 12 ∷ enter 39 ∷ enter 0 ∷ exit 0 7 8 ∷ enter 0 ∷ enter 5 ∷ exit 5 8 9 ∷ exit 0 8 9 ∷ enter 0 ∷ exit 0 9 10 ∷ exit 39 7 10 ∷ exit 12 7 10 ∷ enter 3 ∷ exit 3 10 11 ∷ enter 4 ∷ exit 4 11 12 ∷ enter 35 ∷ enter 36 ∷ exit 36 12 18 ∷ exit 35 12 18 ∷ []) ("<div>\n<p><em>a</em></p>\n</div>" ∷ []))
unfolding running
v26 = tt

v27 : T (shows (on Lf) ("<div>\n\n*a*\n\n</div>" ∷ []) (enter 35 ∷ enter 36 ∷ exit 36 0 5 ∷ exit 35 0 5 ∷ enter 3 ∷ exit 3 5 6 ∷ enter 4 ∷ exit 4 6 7 ∷ enter 12 ∷ enter 39 ∷ enter 0 ∷ exit 0 7 8 ∷ enter 0 ∷ enter 5 ∷ exit 5 8 9 ∷ exit 0 8 9 ∷ enter 0 ∷ exit 0 9 10 ∷ exit 39 7 10 ∷ exit 12 7 10 ∷ enter 3 ∷ exit 3 10 11 ∷ enter 4 ∷ exit 4 11 12 ∷ enter 35 ∷ enter 36 ∷ exit 36 12 18 ∷ exit 35 12 18 ∷ []) ("<div>\n<p><em>a</em></p>\n</div>" ∷ []))
unfolding running
v27 = tt

v28 : T (shows (off Lf) ("<x>\n" ∷ []) (enter 35 ∷ enter 36 ∷ exit 36 0 3 ∷ exit 35 0 3 ∷ enter 3 ∷ exit 3 3 4 ∷ []) ("&lt;x&gt;\n" ∷ []))
unfolding running
v28 = tt

v29 : T (shows (html Lf) ("<x>\n" ∷ []) (enter 35 ∷ enter 36 ∷ exit 36 0 3 ∷ exit 35 0 3 ∷ enter 3 ∷ exit 3 3 4 ∷ []) ("<x>\n" ∷ []))
unfolding running
v29 = tt

v30 : T (shows (on Lf) ("<x>\n" ∷ []) (enter 35 ∷ enter 36 ∷ exit 36 0 3 ∷ exit 35 0 3 ∷ enter 3 ∷ exit 3 3 4 ∷ []) ("<x>\n" ∷ []))
unfolding running
v30 = tt

v31 : T (shows (off Lf) ("<x y=\"z\" />\nb" ∷ []) (enter 35 ∷ enter 36 ∷ exit 36 0 11 ∷ enter 3 ∷ exit 3 11 12 ∷ enter 36 ∷ exit 36 12 13 ∷ exit 35 0 13 ∷ []) ("&lt;x y=&quot;z&quot; /&gt;\nb" ∷ []))
unfolding running
v31 = tt

v32 : T (shows (html Lf) ("<x y=\"z\" />\nb" ∷ []) (enter 35 ∷ enter 36 ∷ exit 36 0 11 ∷ enter 3 ∷ exit 3 11 12 ∷ enter 36 ∷ exit 36 12 13 ∷ exit 35 0 13 ∷ []) ("<x y=\"z\" />\nb" ∷ []))
unfolding running
v32 = tt

v33 : T (shows (on Lf) ("<x y=\"z\" />\nb" ∷ []) (enter 35 ∷ enter 36 ∷ exit 36 0 11 ∷ enter 3 ∷ exit 3 11 12 ∷ enter 36 ∷ exit 36 12 13 ∷ exit 35 0 13 ∷ []) ("<x y=\"z\" />\nb" ∷ []))
unfolding running
v33 = tt

v34 : T (shows (off Lf) ("a <b> c" ∷ []) (enter 12 ∷ enter 5 ∷ exit 5 0 2 ∷ enter 37 ∷ enter 38 ∷ exit 38 2 5 ∷ exit 37 2 5 ∷ enter 5 ∷ exit 5 5 7 ∷ exit 12 0 7 ∷ []) ("<p>a &lt;b&gt; c</p>" ∷ []))
unfolding running
v34 = tt

v35 : T (shows (html Lf) ("a <b> c" ∷ []) (enter 12 ∷ enter 5 ∷ exit 5 0 2 ∷ enter 37 ∷ enter 38 ∷ exit 38 2 5 ∷ exit 37 2 5 ∷ enter 5 ∷ exit 5 5 7 ∷ exit 12 0 7 ∷ []) ("<p>a <b> c</p>" ∷ []))
unfolding running
v35 = tt

v36 : T (shows (on Lf) ("a <b> c" ∷ []) (enter 12 ∷ enter 5 ∷ exit 5 0 2 ∷ enter 37 ∷ enter 38 ∷ exit 38 2 5 ∷ exit 37 2 5 ∷ enter 5 ∷ exit 5 5 7 ∷ exit 12 0 7 ∷ []) ("<p>a <b> c</p>" ∷ []))
unfolding running
v36 = tt

v37 : T (shows (off Lf) ("a <b c='d\ne'> f" ∷ []) (enter 12 ∷ enter 5 ∷ exit 5 0 2 ∷ enter 37 ∷ enter 38 ∷ exit 38 2 9 ∷ enter 3 ∷ exit 3 9 10 ∷ enter 38 ∷ exit 38 10 13 ∷ exit 37 2 13 ∷ enter 5 ∷ exit 5 13 15 ∷ exit 12 0 15 ∷ []) ("<p>a &lt;b c='d\ne'&gt; f</p>" ∷ []))
unfolding running
v37 = tt

v38 : T (shows (html Lf) ("a <b c='d\ne'> f" ∷ []) (enter 12 ∷ enter 5 ∷ exit 5 0 2 ∷ enter 37 ∷ enter 38 ∷ exit 38 2 9 ∷ enter 3 ∷ exit 3 9 10 ∷ enter 38 ∷ exit 38 10 13 ∷ exit 37 2 13 ∷ enter 5 ∷ exit 5 13 15 ∷ exit 12 0 15 ∷ []) ("<p>a <b c='d\ne'> f</p>" ∷ []))
unfolding running
v38 = tt

v39 : T (shows (on Lf) ("a <b c='d\ne'> f" ∷ []) (enter 12 ∷ enter 5 ∷ exit 5 0 2 ∷ enter 37 ∷ enter 38 ∷ exit 38 2 9 ∷ enter 3 ∷ exit 3 9 10 ∷ enter 38 ∷ exit 38 10 13 ∷ exit 37 2 13 ∷ enter 5 ∷ exit 5 13 15 ∷ exit 12 0 15 ∷ []) ("<p>a <b c='d\ne'> f</p>" ∷ []))
unfolding running
v39 = tt

v40 : T (shows (quoted Lf) ("a <b c='d\ne'> f" ∷ []) (enter 12 ∷ enter 5 ∷ exit 5 0 2 ∷ enter 37 ∷ enter 38 ∷ exit 38 2 9 ∷ enter 3 ∷ exit 3 9 10 ∷ enter 38 ∷ exit 38 10 13 ∷ exit 37 2 13 ∷ enter 5 ∷ exit 5 13 15 ∷ exit 12 0 15 ∷ []) ("<p>a &lt;b c=&#39;d\ne&#39;&gt; f</p>" ∷ []))
unfolding running
v40 = tt

v41 : T (shows (off Lf) ("a <!-- b\nc --> d" ∷ []) (enter 12 ∷ enter 5 ∷ exit 5 0 2 ∷ enter 37 ∷ enter 38 ∷ exit 38 2 8 ∷ enter 3 ∷ exit 3 8 9 ∷ enter 38 ∷ exit 38 9 14 ∷ exit 37 2 14 ∷ enter 5 ∷ exit 5 14 16 ∷ exit 12 0 16 ∷ []) ("<p>a &lt;!-- b\nc --&gt; d</p>" ∷ []))
unfolding running
v41 = tt

v42 : T (shows (html Lf) ("a <!-- b\nc --> d" ∷ []) (enter 12 ∷ enter 5 ∷ exit 5 0 2 ∷ enter 37 ∷ enter 38 ∷ exit 38 2 8 ∷ enter 3 ∷ exit 3 8 9 ∷ enter 38 ∷ exit 38 9 14 ∷ exit 37 2 14 ∷ enter 5 ∷ exit 5 14 16 ∷ exit 12 0 16 ∷ []) ("<p>a <!-- b\nc --> d</p>" ∷ []))
unfolding running
v42 = tt

v43 : T (shows (on Lf) ("a <!-- b\nc --> d" ∷ []) (enter 12 ∷ enter 5 ∷ exit 5 0 2 ∷ enter 37 ∷ enter 38 ∷ exit 38 2 8 ∷ enter 3 ∷ exit 3 8 9 ∷ enter 38 ∷ exit 38 9 14 ∷ exit 37 2 14 ∷ enter 5 ∷ exit 5 14 16 ∷ exit 12 0 16 ∷ []) ("<p>a <!-- b\nc --> d</p>" ∷ []))
unfolding running
v43 = tt

v44 : T (shows (off Lf) ("a </b> <?c?> <!D e> <![CDATA[f]]>" ∷ []) (enter 12 ∷ enter 5 ∷ exit 5 0 2 ∷ enter 37 ∷ enter 38 ∷ exit 38 2 6 ∷ exit 37 2 6 ∷ enter 5 ∷ exit 5 6 7 ∷ enter 37 ∷ enter 38 ∷ exit 38 7 12 ∷ exit 37 7 12 ∷ enter 5 ∷ exit 5 12 13 ∷ enter 37 ∷ enter 38 ∷ exit 38 13 19 ∷ exit 37 13 19 ∷ enter 5 ∷ exit 5 19 20 ∷ enter 37 ∷ enter 38 ∷ exit 38 20 33 ∷ exit 37 20 33 ∷ exit 12 0 33 ∷ []) ("<p>a &lt;/b&gt; &lt;?c?&gt; &lt;!D e&gt; &lt;![CDATA[f]]&gt;</p>" ∷ []))
unfolding running
v44 = tt

v45 : T (shows (html Lf) ("a </b> <?c?> <!D e> <![CDATA[f]]>" ∷ []) (enter 12 ∷ enter 5 ∷ exit 5 0 2 ∷ enter 37 ∷ enter 38 ∷ exit 38 2 6 ∷ exit 37 2 6 ∷ enter 5 ∷ exit 5 6 7 ∷ enter 37 ∷ enter 38 ∷ exit 38 7 12 ∷ exit 37 7 12 ∷ enter 5 ∷ exit 5 12 13 ∷ enter 37 ∷ enter 38 ∷ exit 38 13 19 ∷ exit 37 13 19 ∷ enter 5 ∷ exit 5 19 20 ∷ enter 37 ∷ enter 38 ∷ exit 38 20 33 ∷ exit 37 20 33 ∷ exit 12 0 33 ∷ []) ("<p>a </b> <?c?> <!D e> <![CDATA[f]]></p>" ∷ []))
unfolding running
v45 = tt

v46 : T (shows (on Lf) ("a </b> <?c?> <!D e> <![CDATA[f]]>" ∷ []) (enter 12 ∷ enter 5 ∷ exit 5 0 2 ∷ enter 37 ∷ enter 38 ∷ exit 38 2 6 ∷ exit 37 2 6 ∷ enter 5 ∷ exit 5 6 7 ∷ enter 37 ∷ enter 38 ∷ exit 38 7 12 ∷ exit 37 7 12 ∷ enter 5 ∷ exit 5 12 13 ∷ enter 37 ∷ enter 38 ∷ exit 38 13 19 ∷ exit 37 13 19 ∷ enter 5 ∷ exit 5 19 20 ∷ enter 37 ∷ enter 38 ∷ exit 38 20 33 ∷ exit 37 20 33 ∷ exit 12 0 33 ∷ []) ("<p>a </b> <?c?> <!D e> <![CDATA[f]]></p>" ∷ []))
unfolding running
v46 = tt

v47 : T (shows (off Lf) ("<b>a</b>\n" ∷ []) (enter 12 ∷ enter 37 ∷ enter 38 ∷ exit 38 0 3 ∷ exit 37 0 3 ∷ enter 5 ∷ exit 5 3 4 ∷ enter 37 ∷ enter 38 ∷ exit 38 4 8 ∷ exit 37 4 8 ∷ exit 12 0 8 ∷ enter 3 ∷ exit 3 8 9 ∷ []) ("<p>&lt;b&gt;a&lt;/b&gt;</p>\n" ∷ []))
unfolding running
v47 = tt

v48 : T (shows (html Lf) ("<b>a</b>\n" ∷ []) (enter 12 ∷ enter 37 ∷ enter 38 ∷ exit 38 0 3 ∷ exit 37 0 3 ∷ enter 5 ∷ exit 5 3 4 ∷ enter 37 ∷ enter 38 ∷ exit 38 4 8 ∷ exit 37 4 8 ∷ exit 12 0 8 ∷ enter 3 ∷ exit 3 8 9 ∷ []) ("<p><b>a</b></p>\n" ∷ []))
unfolding running
v48 = tt

v49 : T (shows (on Lf) ("<b>a</b>\n" ∷ []) (enter 12 ∷ enter 37 ∷ enter 38 ∷ exit 38 0 3 ∷ exit 37 0 3 ∷ enter 5 ∷ exit 5 3 4 ∷ enter 37 ∷ enter 38 ∷ exit 38 4 8 ∷ exit 37 4 8 ∷ exit 12 0 8 ∷ enter 3 ∷ exit 3 8 9 ∷ []) ("<p><b>a</b></p>\n" ∷ []))
unfolding running
v49 = tt

v50 : T (shows (off Lf) ("</p>" ∷ []) (enter 35 ∷ enter 36 ∷ exit 36 0 4 ∷ exit 35 0 4 ∷ []) ("&lt;/p&gt;" ∷ []))
unfolding running
v50 = tt

v51 : T (shows (html Lf) ("</p>" ∷ []) (enter 35 ∷ enter 36 ∷ exit 36 0 4 ∷ exit 35 0 4 ∷ []) ("</p>" ∷ []))
unfolding running
v51 = tt

v52 : T (shows (on Lf) ("</p>" ∷ []) (enter 35 ∷ enter 36 ∷ exit 36 0 4 ∷ exit 35 0 4 ∷ []) ("</p>" ∷ []))
unfolding running
v52 = tt

v53 : T (shows (off Lf) ("<p>a</p>" ∷ []) (enter 35 ∷ enter 36 ∷ exit 36 0 8 ∷ exit 35 0 8 ∷ []) ("&lt;p&gt;a&lt;/p&gt;" ∷ []))
unfolding running
v53 = tt

v54 : T (shows (html Lf) ("<p>a</p>" ∷ []) (enter 35 ∷ enter 36 ∷ exit 36 0 8 ∷ exit 35 0 8 ∷ []) ("<p>a</p>" ∷ []))
unfolding running
v54 = tt

v55 : T (shows (on Lf) ("<p>a</p>" ∷ []) (enter 35 ∷ enter 36 ∷ exit 36 0 8 ∷ exit 35 0 8 ∷ []) ("<p>a</p>" ∷ []))
unfolding running
v55 = tt

v56 : T (shows (off Lf) ("a <b\n\tc> d" ∷ []) (enter 12 ∷ enter 5 ∷ exit 5 0 2 ∷ enter 37 ∷ enter 38 ∷ exit 38 2 4 ∷ enter 3 ∷ exit 3 4 5 ∷ enter 1 ∷ exit 1 5 6 ∷ enter 38 ∷ exit 38 6 8 ∷ exit 37 2 8 ∷ enter 5 ∷ exit 5 8 10 ∷ exit 12 0 10 ∷ []) ("<p>a &lt;b\nc&gt; d</p>" ∷ []))
unfolding running
v56 = tt

v57 : T (shows (html Lf) ("a <b\n\tc> d" ∷ []) (enter 12 ∷ enter 5 ∷ exit 5 0 2 ∷ enter 37 ∷ enter 38 ∷ exit 38 2 4 ∷ enter 3 ∷ exit 3 4 5 ∷ enter 1 ∷ exit 1 5 6 ∷ enter 38 ∷ exit 38 6 8 ∷ exit 37 2 8 ∷ enter 5 ∷ exit 5 8 10 ∷ exit 12 0 10 ∷ []) ("<p>a <b\nc> d</p>" ∷ []))
unfolding running
v57 = tt

v58 : T (shows (on Lf) ("a <b\n\tc> d" ∷ []) (enter 12 ∷ enter 5 ∷ exit 5 0 2 ∷ enter 37 ∷ enter 38 ∷ exit 38 2 4 ∷ enter 3 ∷ exit 3 4 5 ∷ enter 1 ∷ exit 1 5 6 ∷ enter 38 ∷ exit 38 6 8 ∷ exit 37 2 8 ∷ enter 5 ∷ exit 5 8 10 ∷ exit 12 0 10 ∷ []) ("<p>a <b\nc> d</p>" ∷ []))
unfolding running
v58 = tt

v59 : T (shows (off Lf) ("> a <b\n> c> d" ∷ []) (enter 20 ∷ enter 2 ∷ enter 0 ∷ exit 0 0 1 ∷ enter 1 ∷ exit 1 1 2 ∷ exit 2 0 2 ∷ enter 12 ∷ enter 5 ∷ exit 5 2 4 ∷ enter 37 ∷ enter 38 ∷ exit 38 4 6 ∷ enter 3 ∷ exit 3 6 7 ∷ enter 2 ∷ enter 0 ∷ exit 0 7 8 ∷ enter 1 ∷ exit 1 8 9 ∷ exit 2 7 9 ∷ enter 38 ∷ exit 38 9 11 ∷ exit 37 4 11 ∷ enter 5 ∷ exit 5 11 13 ∷ exit 12 2 13 ∷ exit 20 0 13 ∷ []) ("<blockquote>\n<p>a &lt;b\nc&gt; d</p>\n</blockquote>" ∷ []))
unfolding running
v59 = tt

v60 : T (shows (html Lf) ("> a <b\n> c> d" ∷ []) (enter 20 ∷ enter 2 ∷ enter 0 ∷ exit 0 0 1 ∷ enter 1 ∷ exit 1 1 2 ∷ exit 2 0 2 ∷ enter 12 ∷ enter 5 ∷ exit 5 2 4 ∷ enter 37 ∷ enter 38 ∷ exit 38 4 6 ∷ enter 3 ∷ exit 3 6 7 ∷ enter 2 ∷ enter 0 ∷ exit 0 7 8 ∷ enter 1 ∷ exit 1 8 9 ∷ exit 2 7 9 ∷ enter 38 ∷ exit 38 9 11 ∷ exit 37 4 11 ∷ enter 5 ∷ exit 5 11 13 ∷ exit 12 2 13 ∷ exit 20 0 13 ∷ []) ("<blockquote>\n<p>a <b\nc> d</p>\n</blockquote>" ∷ []))
unfolding running
v60 = tt

v61 : T (shows (on Lf) ("> a <b\n> c> d" ∷ []) (enter 20 ∷ enter 2 ∷ enter 0 ∷ exit 0 0 1 ∷ enter 1 ∷ exit 1 1 2 ∷ exit 2 0 2 ∷ enter 12 ∷ enter 5 ∷ exit 5 2 4 ∷ enter 37 ∷ enter 38 ∷ exit 38 4 6 ∷ enter 3 ∷ exit 3 6 7 ∷ enter 2 ∷ enter 0 ∷ exit 0 7 8 ∷ enter 1 ∷ exit 1 8 9 ∷ exit 2 7 9 ∷ enter 38 ∷ exit 38 9 11 ∷ exit 37 4 11 ∷ enter 5 ∷ exit 5 11 13 ∷ exit 12 2 13 ∷ exit 20 0 13 ∷ []) ("<blockquote>\n<p>a <b\nc> d</p>\n</blockquote>" ∷ []))
unfolding running
v61 = tt

v62 : T (shows (off Lf) ("<!--\n\n-->" ∷ []) (enter 35 ∷ enter 36 ∷ exit 36 0 4 ∷ enter 3 ∷ exit 3 4 5 ∷ enter 3 ∷ exit 3 5 6 ∷ enter 36 ∷ exit 36 6 9 ∷ exit 35 0 9 ∷ []) ("&lt;!--\n\n--&gt;" ∷ []))
unfolding running
v62 = tt

v63 : T (shows (html Lf) ("<!--\n\n-->" ∷ []) (enter 35 ∷ enter 36 ∷ exit 36 0 4 ∷ enter 3 ∷ exit 3 4 5 ∷ enter 3 ∷ exit 3 5 6 ∷ enter 36 ∷ exit 36 6 9 ∷ exit 35 0 9 ∷ []) ("<!--\n\n-->" ∷ []))
unfolding running
v63 = tt

v64 : T (shows (on Lf) ("<!--\n\n-->" ∷ []) (enter 35 ∷ enter 36 ∷ exit 36 0 4 ∷ enter 3 ∷ exit 3 4 5 ∷ enter 3 ∷ exit 3 5 6 ∷ enter 36 ∷ exit 36 6 9 ∷ exit 35 0 9 ∷ []) ("<!--\n\n-->" ∷ []))
unfolding running
v64 = tt

v65 : T (shows (off Lf) ("  <div>\n  \0" ∷ []) (enter 35 ∷ enter 36 ∷ exit 36 0 2 ∷ enter 36 ∷ exit 36 2 7 ∷ enter 3 ∷ exit 3 7 8 ∷ enter 36 ∷ exit 36 8 11 ∷ exit 35 0 11 ∷ []) ("  &lt;div&gt;\n  ï¿½" ∷ []))
unfolding running
v65 = tt

v66 : T (shows (html Lf) ("  <div>\n  \0" ∷ []) (enter 35 ∷ enter 36 ∷ exit 36 0 2 ∷ enter 36 ∷ exit 36 2 7 ∷ enter 3 ∷ exit 3 7 8 ∷ enter 36 ∷ exit 36 8 11 ∷ exit 35 0 11 ∷ []) ("  <div>\n  ï¿½" ∷ []))
unfolding running
v66 = tt

v67 : T (shows (on Lf) ("  <div>\n  \0" ∷ []) (enter 35 ∷ enter 36 ∷ exit 36 0 2 ∷ enter 36 ∷ exit 36 2 7 ∷ enter 3 ∷ exit 3 7 8 ∷ enter 36 ∷ exit 36 8 11 ∷ exit 35 0 11 ∷ []) ("  <div>\n  ï¿½" ∷ []))
unfolding running
v67 = tt

v68 : T (shows (off Lf) ("<div>&amp;\n*a*\n</div>\n\n&" ∷ []) (enter 35 ∷ enter 36 ∷ exit 36 0 10 ∷ enter 3 ∷ exit 3 10 11 ∷ enter 36 ∷ exit 36 11 14 ∷ enter 3 ∷ exit 3 14 15 ∷ enter 36 ∷ exit 36 15 21 ∷ exit 35 0 21 ∷ enter 3 ∷ exit 3 21 22 ∷ enter 4 ∷ exit 4 22 23 ∷ enter 12 ∷ enter 5 ∷ exit 5 23 24 ∷ exit 12 23 24 ∷ []) ("&lt;div&gt;&amp;amp;\n*a*\n&lt;/div&gt;\n<p>&amp;</p>" ∷ []))
unfolding running
v68 = tt

v69 : T (shows (html Lf) ("<div>&amp;\n*a*\n</div>\n\n&" ∷ []) (enter 35 ∷ enter 36 ∷ exit 36 0 10 ∷ enter 3 ∷ exit 3 10 11 ∷ enter 36 ∷ exit 36 11 14 ∷ enter 3 ∷ exit 3 14 15 ∷ enter 36 ∷ exit 36 15 21 ∷ exit 35 0 21 ∷ enter 3 ∷ exit 3 21 22 ∷ enter 4 ∷ exit 4 22 23 ∷ enter 12 ∷ enter 5 ∷ exit 5 23 24 ∷ exit 12 23 24 ∷ []) ("<div>&amp;\n*a*\n</div>\n<p>&amp;</p>" ∷ []))
unfolding running
v69 = tt

v70 : T (shows (on Lf) ("<div>&amp;\n*a*\n</div>\n\n&" ∷ []) (enter 35 ∷ enter 36 ∷ exit 36 0 10 ∷ enter 3 ∷ exit 3 10 11 ∷ enter 36 ∷ exit 36 11 14 ∷ enter 3 ∷ exit 3 14 15 ∷ enter 36 ∷ exit 36 15 21 ∷ exit 35 0 21 ∷ enter 3 ∷ exit 3 21 22 ∷ enter 4 ∷ exit 4 22 23 ∷ enter 12 ∷ enter 5 ∷ exit 5 23 24 ∷ exit 12 23 24 ∷ []) ("<div>&amp;\n*a*\n</div>\n<p>&amp;</p>" ∷ []))
unfolding running
v70 = tt

v71 : T (shows (off Lf) ("a <b>&</b> &" ∷ []) (enter 12 ∷ enter 5 ∷ exit 5 0 2 ∷ enter 37 ∷ enter 38 ∷ exit 38 2 5 ∷ exit 37 2 5 ∷ enter 5 ∷ exit 5 5 6 ∷ enter 37 ∷ enter 38 ∷ exit 38 6 10 ∷ exit 37 6 10 ∷ enter 5 ∷ exit 5 10 12 ∷ exit 12 0 12 ∷ []) ("<p>a &lt;b&gt;&amp;&lt;/b&gt; &amp;</p>" ∷ []))
unfolding running
v71 = tt

v72 : T (shows (html Lf) ("a <b>&</b> &" ∷ []) (enter 12 ∷ enter 5 ∷ exit 5 0 2 ∷ enter 37 ∷ enter 38 ∷ exit 38 2 5 ∷ exit 37 2 5 ∷ enter 5 ∷ exit 5 5 6 ∷ enter 37 ∷ enter 38 ∷ exit 38 6 10 ∷ exit 37 6 10 ∷ enter 5 ∷ exit 5 10 12 ∷ exit 12 0 12 ∷ []) ("<p>a <b>&amp;</b> &amp;</p>" ∷ []))
unfolding running
v72 = tt

v73 : T (shows (on Lf) ("a <b>&</b> &" ∷ []) (enter 12 ∷ enter 5 ∷ exit 5 0 2 ∷ enter 37 ∷ enter 38 ∷ exit 38 2 5 ∷ exit 37 2 5 ∷ enter 5 ∷ exit 5 5 6 ∷ enter 37 ∷ enter 38 ∷ exit 38 6 10 ∷ exit 37 6 10 ∷ enter 5 ∷ exit 5 10 12 ∷ exit 12 0 12 ∷ []) ("<p>a <b>&amp;</b> &amp;</p>" ∷ []))
unfolding running
v73 = tt

v74 : T (shows (off Lf) ("<!-- & -->\n\n<b>&" ∷ []) (enter 35 ∷ enter 36 ∷ exit 36 0 10 ∷ exit 35 0 10 ∷ enter 3 ∷ exit 3 10 11 ∷ enter 4 ∷ exit 4 11 12 ∷ enter 12 ∷ enter 37 ∷ enter 38 ∷ exit 38 12 15 ∷ exit 37 12 15 ∷ enter 5 ∷ exit 5 15 16 ∷ exit 12 12 16 ∷ []) ("&lt;!-- &amp; --&gt;\n<p>&lt;b&gt;&amp;</p>" ∷ []))
unfolding running
v74 = tt

v75 : T (shows (html Lf) ("<!-- & -->\n\n<b>&" ∷ []) (enter 35 ∷ enter 36 ∷ exit 36 0 10 ∷ exit 35 0 10 ∷ enter 3 ∷ exit 3 10 11 ∷ enter 4 ∷ exit 4 11 12 ∷ enter 12 ∷ enter 37 ∷ enter 38 ∷ exit 38 12 15 ∷ exit 37 12 15 ∷ enter 5 ∷ exit 5 15 16 ∷ exit 12 12 16 ∷ []) ("<!-- & -->\n<p><b>&amp;</p>" ∷ []))
unfolding running
v75 = tt

v76 : T (shows (on Lf) ("<!-- & -->\n\n<b>&" ∷ []) (enter 35 ∷ enter 36 ∷ exit 36 0 10 ∷ exit 35 0 10 ∷ enter 3 ∷ exit 3 10 11 ∷ enter 4 ∷ exit 4 11 12 ∷ enter 12 ∷ enter 37 ∷ enter 38 ∷ exit 38 12 15 ∷ exit 37 12 15 ∷ enter 5 ∷ exit 5 15 16 ∷ exit 12 12 16 ∷ []) ("<!-- & -->\n<p><b>&amp;</p>" ∷ []))
unfolding running
v76 = tt
