-- Pieces: pages of the crate markdown 1.0.0. Made by tools/machine_pages. Assumes nothing.
use mathlib.Core.List.{[], ◌∷◌}
use lib.Dec.{T}
use Rattle.machine.specs.declared.Ending.TheVariants.{Lf, Cr, CrLf}
use Rattle.machine.proofs.Running.{running}
use Rattle.machine.proofs.Answers.{shows, off, html, on, quoted, quoted_on, enter, exit}

v1 : T (shows (off Lf) ("\r\n" ∷ []) (enter 4 ∷ exit 4 0 2 ∷ []) ([]))
unfolding running
v1 = tt

v2 : T (shows (off Lf) ("\r" ∷ []) (enter 4 ∷ exit 4 0 1 ∷ []) ([]))
unfolding running
v2 = tt

v3 : T (shows (off Lf) (" " ∷ []) (enter 1 ∷ exit 1 0 1 ∷ []) ([]))
unfolding running
v3 = tt

v4 : T (shows (off Lf) ("  " ∷ []) (enter 1 ∷ exit 1 0 2 ∷ []) ([]))
unfolding running
v4 = tt

v5 : T (shows (off Lf) ("    " ∷ []) (enter 1 ∷ exit 1 0 4 ∷ []) ([]))
unfolding running
v5 = tt

v6 : T (shows (off Lf) ("\t" ∷ []) (enter 1 ∷ exit 1 0 1 ∷ []) ([]))
unfolding running
v6 = tt

v7 : T (shows (off Lf) ("> " ∷ []) (enter 20 ∷ enter 2 ∷ enter 0 ∷ exit 0 0 1 ∷ enter 1 ∷ exit 1 1 2 ∷ exit 2 0 2 ∷ exit 20 0 2 ∷ []) ("<blockquote>\n</blockquote>" ∷ []))
unfolding running
v7 = tt

v8 : T (shows (off Cr) ("> " ∷ []) (enter 20 ∷ enter 2 ∷ enter 0 ∷ exit 0 0 1 ∷ enter 1 ∷ exit 1 1 2 ∷ exit 2 0 2 ∷ exit 20 0 2 ∷ []) ("<blockquote>\r</blockquote>" ∷ []))
unfolding running
v8 = tt

v9 : T (shows (off CrLf) ("> " ∷ []) (enter 20 ∷ enter 2 ∷ enter 0 ∷ exit 0 0 1 ∷ enter 1 ∷ exit 1 1 2 ∷ exit 2 0 2 ∷ exit 20 0 2 ∷ []) ("<blockquote>\r\n</blockquote>" ∷ []))
unfolding running
v9 = tt

v10 : T (shows (off Lf) (">" ∷ []) (enter 20 ∷ enter 2 ∷ enter 0 ∷ exit 0 0 1 ∷ exit 2 0 1 ∷ exit 20 0 1 ∷ []) ("<blockquote>\n</blockquote>" ∷ []))
unfolding running
v10 = tt

v11 : T (shows (off Cr) (">" ∷ []) (enter 20 ∷ enter 2 ∷ enter 0 ∷ exit 0 0 1 ∷ exit 2 0 1 ∷ exit 20 0 1 ∷ []) ("<blockquote>\r</blockquote>" ∷ []))
unfolding running
v11 = tt

v12 : T (shows (off CrLf) (">" ∷ []) (enter 20 ∷ enter 2 ∷ enter 0 ∷ exit 0 0 1 ∷ exit 2 0 1 ∷ exit 20 0 1 ∷ []) ("<blockquote>\r\n</blockquote>" ∷ []))
unfolding running
v12 = tt

v13 : T (shows (off Lf) ("- " ∷ []) (enter 22 ∷ enter 23 ∷ enter 24 ∷ enter 25 ∷ exit 25 0 1 ∷ exit 24 0 1 ∷ enter 1 ∷ exit 1 1 2 ∷ exit 23 0 2 ∷ exit 22 0 2 ∷ []) ("<ul>\n<li></li>\n</ul>" ∷ []))
unfolding running
v13 = tt

v14 : T (shows (off Cr) ("- " ∷ []) (enter 22 ∷ enter 23 ∷ enter 24 ∷ enter 25 ∷ exit 25 0 1 ∷ exit 24 0 1 ∷ enter 1 ∷ exit 1 1 2 ∷ exit 23 0 2 ∷ exit 22 0 2 ∷ []) ("<ul>\r<li></li>\r</ul>" ∷ []))
unfolding running
v14 = tt

v15 : T (shows (off CrLf) ("- " ∷ []) (enter 22 ∷ enter 23 ∷ enter 24 ∷ enter 25 ∷ exit 25 0 1 ∷ exit 24 0 1 ∷ enter 1 ∷ exit 1 1 2 ∷ exit 23 0 2 ∷ exit 22 0 2 ∷ []) ("<ul>\r\n<li></li>\r\n</ul>" ∷ []))
unfolding running
v15 = tt

v16 : T (shows (off Lf) ("* " ∷ []) (enter 22 ∷ enter 23 ∷ enter 24 ∷ enter 25 ∷ exit 25 0 1 ∷ exit 24 0 1 ∷ enter 1 ∷ exit 1 1 2 ∷ exit 23 0 2 ∷ exit 22 0 2 ∷ []) ("<ul>\n<li></li>\n</ul>" ∷ []))
unfolding running
v16 = tt

v17 : T (shows (off Cr) ("* " ∷ []) (enter 22 ∷ enter 23 ∷ enter 24 ∷ enter 25 ∷ exit 25 0 1 ∷ exit 24 0 1 ∷ enter 1 ∷ exit 1 1 2 ∷ exit 23 0 2 ∷ exit 22 0 2 ∷ []) ("<ul>\r<li></li>\r</ul>" ∷ []))
unfolding running
v17 = tt

v18 : T (shows (off CrLf) ("* " ∷ []) (enter 22 ∷ enter 23 ∷ enter 24 ∷ enter 25 ∷ exit 25 0 1 ∷ exit 24 0 1 ∷ enter 1 ∷ exit 1 1 2 ∷ exit 23 0 2 ∷ exit 22 0 2 ∷ []) ("<ul>\r\n<li></li>\r\n</ul>" ∷ []))
unfolding running
v18 = tt

v19 : T (shows (off Lf) ("1. " ∷ []) (enter 21 ∷ enter 23 ∷ enter 24 ∷ enter 26 ∷ exit 26 0 1 ∷ enter 25 ∷ exit 25 1 2 ∷ exit 24 0 2 ∷ enter 1 ∷ exit 1 2 3 ∷ exit 23 0 3 ∷ exit 21 0 3 ∷ []) ("<ol>\n<li></li>\n</ol>" ∷ []))
unfolding running
v19 = tt

v20 : T (shows (off Cr) ("1. " ∷ []) (enter 21 ∷ enter 23 ∷ enter 24 ∷ enter 26 ∷ exit 26 0 1 ∷ enter 25 ∷ exit 25 1 2 ∷ exit 24 0 2 ∷ enter 1 ∷ exit 1 2 3 ∷ exit 23 0 3 ∷ exit 21 0 3 ∷ []) ("<ol>\r<li></li>\r</ol>" ∷ []))
unfolding running
v20 = tt

v21 : T (shows (off CrLf) ("1. " ∷ []) (enter 21 ∷ enter 23 ∷ enter 24 ∷ enter 26 ∷ exit 26 0 1 ∷ enter 25 ∷ exit 25 1 2 ∷ exit 24 0 2 ∷ enter 1 ∷ exit 1 2 3 ∷ exit 23 0 3 ∷ exit 21 0 3 ∷ []) ("<ol>\r\n<li></li>\r\n</ol>" ∷ []))
unfolding running
v21 = tt

v22 : T (shows (off Lf) ("2) " ∷ []) (enter 21 ∷ enter 23 ∷ enter 24 ∷ enter 26 ∷ exit 26 0 1 ∷ enter 25 ∷ exit 25 1 2 ∷ exit 24 0 2 ∷ enter 1 ∷ exit 1 2 3 ∷ exit 23 0 3 ∷ exit 21 0 3 ∷ []) ("<ol start=\"2\">\n<li></li>\n</ol>" ∷ []))
unfolding running
v22 = tt

v23 : T (shows (off Cr) ("2) " ∷ []) (enter 21 ∷ enter 23 ∷ enter 24 ∷ enter 26 ∷ exit 26 0 1 ∷ enter 25 ∷ exit 25 1 2 ∷ exit 24 0 2 ∷ enter 1 ∷ exit 1 2 3 ∷ exit 23 0 3 ∷ exit 21 0 3 ∷ []) ("<ol start=\"2\">\r<li></li>\r</ol>" ∷ []))
unfolding running
v23 = tt

v24 : T (shows (off CrLf) ("2) " ∷ []) (enter 21 ∷ enter 23 ∷ enter 24 ∷ enter 26 ∷ exit 26 0 1 ∷ enter 25 ∷ exit 25 1 2 ∷ exit 24 0 2 ∷ enter 1 ∷ exit 1 2 3 ∷ exit 23 0 3 ∷ exit 21 0 3 ∷ []) ("<ol start=\"2\">\r\n<li></li>\r\n</ol>" ∷ []))
unfolding running
v24 = tt

v25 : T (shows (off Lf) ("# " ∷ []) (enter 13 ∷ enter 14 ∷ exit 14 0 1 ∷ enter 1 ∷ exit 1 1 2 ∷ exit 13 0 2 ∷ []) ("<h1></h1>" ∷ []))
unfolding running
v25 = tt

v26 : T (shows (off Lf) ("## " ∷ []) (enter 13 ∷ enter 14 ∷ exit 14 0 2 ∷ enter 1 ∷ exit 1 2 3 ∷ exit 13 0 3 ∷ []) ("<h2></h2>" ∷ []))
unfolding running
v26 = tt

v27 : T (shows (off Lf) ("~~~" ∷ []) (enter 28 ∷ enter 29 ∷ enter 0 ∷ exit 0 0 3 ∷ exit 29 0 3 ∷ exit 28 0 3 ∷ []) ("<pre><code></code></pre>\n" ∷ []))
unfolding running
v27 = tt

v28 : T (shows (off Cr) ("~~~" ∷ []) (enter 28 ∷ enter 29 ∷ enter 0 ∷ exit 0 0 3 ∷ exit 29 0 3 ∷ exit 28 0 3 ∷ []) ("<pre><code></code></pre>\r" ∷ []))
unfolding running
v28 = tt

v29 : T (shows (off CrLf) ("~~~" ∷ []) (enter 28 ∷ enter 29 ∷ enter 0 ∷ exit 0 0 3 ∷ exit 29 0 3 ∷ exit 28 0 3 ∷ []) ("<pre><code></code></pre>\r\n" ∷ []))
unfolding running
v29 = tt

v30 : T (shows (off Lf) ("`" ∷ []) (enter 12 ∷ enter 5 ∷ exit 5 0 1 ∷ exit 12 0 1 ∷ []) ("<p>`</p>" ∷ []))
unfolding running
v30 = tt

v31 : T (shows (off Lf) ("``" ∷ []) (enter 12 ∷ enter 5 ∷ exit 5 0 2 ∷ exit 12 0 2 ∷ []) ("<p>``</p>" ∷ []))
unfolding running
v31 = tt

v32 : T (shows (off Lf) ("**" ∷ []) (enter 12 ∷ enter 5 ∷ exit 5 0 2 ∷ exit 12 0 2 ∷ []) ("<p>**</p>" ∷ []))
unfolding running
v32 = tt

v33 : T (shows (off Lf) ("_" ∷ []) (enter 12 ∷ enter 5 ∷ exit 5 0 1 ∷ exit 12 0 1 ∷ []) ("<p>_</p>" ∷ []))
unfolding running
v33 = tt

v34 : T (shows (off Lf) ("[" ∷ []) (enter 12 ∷ enter 5 ∷ exit 5 0 1 ∷ exit 12 0 1 ∷ []) ("<p>[</p>" ∷ []))
unfolding running
v34 = tt

v35 : T (shows (off Lf) ("]" ∷ []) (enter 12 ∷ enter 5 ∷ exit 5 0 1 ∷ exit 12 0 1 ∷ []) ("<p>]</p>" ∷ []))
unfolding running
v35 = tt

v36 : T (shows (off Lf) ("(" ∷ []) (enter 12 ∷ enter 5 ∷ exit 5 0 1 ∷ exit 12 0 1 ∷ []) ("<p>(</p>" ∷ []))
unfolding running
v36 = tt

v37 : T (shows (off Lf) (")" ∷ []) (enter 12 ∷ enter 5 ∷ exit 5 0 1 ∷ exit 12 0 1 ∷ []) ("<p>)</p>" ∷ []))
unfolding running
v37 = tt

v38 : T (shows (off Lf) ("![" ∷ []) (enter 12 ∷ enter 5 ∷ exit 5 0 2 ∷ exit 12 0 2 ∷ []) ("<p>![</p>" ∷ []))
unfolding running
v38 = tt

v39 : T (shows (off Lf) ("[^" ∷ []) (enter 12 ∷ enter 5 ∷ exit 5 0 2 ∷ exit 12 0 2 ∷ []) ("<p>[^</p>" ∷ []))
unfolding running
v39 = tt

v40 : T (shows (off Lf) ("]:" ∷ []) (enter 12 ∷ enter 5 ∷ exit 5 0 2 ∷ exit 12 0 2 ∷ []) ("<p>]:</p>" ∷ []))
unfolding running
v40 = tt

v41 : T (shows (off Lf) ("](" ∷ []) (enter 12 ∷ enter 5 ∷ exit 5 0 2 ∷ exit 12 0 2 ∷ []) ("<p>](</p>" ∷ []))
unfolding running
v41 = tt

v42 : T (shows (off Lf) ("]()" ∷ []) (enter 12 ∷ enter 5 ∷ exit 5 0 3 ∷ exit 12 0 3 ∷ []) ("<p>]()</p>" ∷ []))
unfolding running
v42 = tt

v43 : T (shows (off Lf) ("][" ∷ []) (enter 12 ∷ enter 5 ∷ exit 5 0 2 ∷ exit 12 0 2 ∷ []) ("<p>][</p>" ∷ []))
unfolding running
v43 = tt

v44 : T (shows (off Lf) ("[a]" ∷ []) (enter 12 ∷ enter 5 ∷ exit 5 0 3 ∷ exit 12 0 3 ∷ []) ("<p>[a]</p>" ∷ []))
unfolding running
v44 = tt

v45 : T (shows (off Lf) ("[^a]" ∷ []) (enter 12 ∷ enter 5 ∷ exit 5 0 4 ∷ exit 12 0 4 ∷ []) ("<p>[^a]</p>" ∷ []))
unfolding running
v45 = tt

v46 : T (shows (off Lf) ("[^a]: " ∷ []) (enter 63 ∷ enter 64 ∷ enter 0 ∷ enter 0 ∷ exit 0 0 1 ∷ enter 0 ∷ exit 0 1 2 ∷ enter 65 ∷ enter 5 ∷ exit 5 2 3 ∷ exit 65 2 3 ∷ enter 0 ∷ exit 0 3 4 ∷ exit 0 0 4 ∷ enter 0 ∷ exit 0 4 5 ∷ enter 1 ∷ exit 1 5 6 ∷ exit 64 0 6 ∷ exit 63 0 6 ∷ []) ([]))
unfolding running
v46 = tt

v47 : T (shows (off Lf) ("|" ∷ []) (enter 12 ∷ enter 5 ∷ exit 5 0 1 ∷ exit 12 0 1 ∷ []) ("<p>|</p>" ∷ []))
unfolding running
v47 = tt

v48 : T (shows (off Lf) ("|-|" ∷ []) (enter 12 ∷ enter 5 ∷ exit 5 0 3 ∷ exit 12 0 3 ∷ []) ("<p>|-|</p>" ∷ []))
unfolding running
v48 = tt

v49 : T (shows (off Lf) ("| - |" ∷ []) (enter 12 ∷ enter 5 ∷ exit 5 0 5 ∷ exit 12 0 5 ∷ []) ("<p>| - |</p>" ∷ []))
unfolding running
v49 = tt

v50 : T (shows (off Lf) ("\n|-|\n" ∷ []) (enter 4 ∷ exit 4 0 1 ∷ enter 12 ∷ enter 5 ∷ exit 5 1 4 ∷ exit 12 1 4 ∷ enter 3 ∷ exit 3 4 5 ∷ []) ("<p>|-|</p>\n" ∷ []))
unfolding running
v50 = tt

v51 : T (shows (off Lf) (":-" ∷ []) (enter 12 ∷ enter 5 ∷ exit 5 0 2 ∷ exit 12 0 2 ∷ []) ("<p>:-</p>" ∷ []))
unfolding running
v51 = tt

v52 : T (shows (off Lf) ("<" ∷ []) (enter 12 ∷ enter 5 ∷ exit 5 0 1 ∷ exit 12 0 1 ∷ []) ("<p>&lt;</p>" ∷ []))
unfolding running
v52 = tt

v53 : T (shows (off Lf) ("<b>" ∷ []) (enter 35 ∷ enter 36 ∷ exit 36 0 3 ∷ exit 35 0 3 ∷ []) ("&lt;b&gt;" ∷ []))
unfolding running
v53 = tt

v54 : T (shows (html Lf) ("<b>" ∷ []) (enter 35 ∷ enter 36 ∷ exit 36 0 3 ∷ exit 35 0 3 ∷ []) ("<b>" ∷ []))
unfolding running
v54 = tt

v55 : T (shows (on Lf) ("<b>" ∷ []) (enter 35 ∷ enter 36 ∷ exit 36 0 3 ∷ exit 35 0 3 ∷ []) ("<b>" ∷ []))
unfolding running
v55 = tt

v56 : T (shows (off Lf) ("</b>" ∷ []) (enter 35 ∷ enter 36 ∷ exit 36 0 4 ∷ exit 35 0 4 ∷ []) ("&lt;/b&gt;" ∷ []))
unfolding running
v56 = tt

v57 : T (shows (html Lf) ("</b>" ∷ []) (enter 35 ∷ enter 36 ∷ exit 36 0 4 ∷ exit 35 0 4 ∷ []) ("</b>" ∷ []))
unfolding running
v57 = tt

v58 : T (shows (on Lf) ("</b>" ∷ []) (enter 35 ∷ enter 36 ∷ exit 36 0 4 ∷ exit 35 0 4 ∷ []) ("</b>" ∷ []))
unfolding running
v58 = tt

v59 : T (shows (off Lf) ("<div>" ∷ []) (enter 35 ∷ enter 36 ∷ exit 36 0 5 ∷ exit 35 0 5 ∷ []) ("&lt;div&gt;" ∷ []))
unfolding running
v59 = tt

v60 : T (shows (html Lf) ("<div>" ∷ []) (enter 35 ∷ enter 36 ∷ exit 36 0 5 ∷ exit 35 0 5 ∷ []) ("<div>" ∷ []))
unfolding running
v60 = tt

v61 : T (shows (on Lf) ("<div>" ∷ []) (enter 35 ∷ enter 36 ∷ exit 36 0 5 ∷ exit 35 0 5 ∷ []) ("<div>" ∷ []))
unfolding running
v61 = tt

v62 : T (shows (off Lf) ("<!--" ∷ []) (enter 35 ∷ enter 36 ∷ exit 36 0 4 ∷ exit 35 0 4 ∷ []) ("&lt;!--" ∷ []))
unfolding running
v62 = tt

v63 : T (shows (html Lf) ("<!--" ∷ []) (enter 35 ∷ enter 36 ∷ exit 36 0 4 ∷ exit 35 0 4 ∷ []) ("<!--" ∷ []))
unfolding running
v63 = tt

v64 : T (shows (on Lf) ("<!--" ∷ []) (enter 35 ∷ enter 36 ∷ exit 36 0 4 ∷ exit 35 0 4 ∷ []) ("<!--" ∷ []))
unfolding running
v64 = tt

v65 : T (shows (off Lf) ("-->" ∷ []) (enter 12 ∷ enter 5 ∷ exit 5 0 3 ∷ exit 12 0 3 ∷ []) ("<p>--&gt;</p>" ∷ []))
unfolding running
v65 = tt

v66 : T (shows (off Lf) ("&amp;" ∷ []) (enter 12 ∷ enter 7 ∷ enter 8 ∷ exit 8 0 1 ∷ enter 11 ∷ exit 11 1 4 ∷ enter 0 ∷ exit 0 4 5 ∷ exit 7 0 5 ∷ exit 12 0 5 ∷ []) ("<p>&amp;</p>" ∷ []))
unfolding running
v66 = tt

v67 : T (shows (off Lf) ("&#35;" ∷ []) (enter 12 ∷ enter 7 ∷ enter 8 ∷ exit 8 0 1 ∷ enter 9 ∷ exit 9 1 2 ∷ enter 11 ∷ exit 11 2 4 ∷ enter 0 ∷ exit 0 4 5 ∷ exit 7 0 5 ∷ exit 12 0 5 ∷ []) ("<p>#</p>" ∷ []))
unfolding running
v67 = tt

v68 : T (shows (off Lf) ("&" ∷ []) (enter 12 ∷ enter 5 ∷ exit 5 0 1 ∷ exit 12 0 1 ∷ []) ("<p>&amp;</p>" ∷ []))
unfolding running
v68 = tt

v69 : T (shows (off Lf) (";" ∷ []) (enter 12 ∷ enter 5 ∷ exit 5 0 1 ∷ exit 12 0 1 ∷ []) ("<p>;</p>" ∷ []))
unfolding running
v69 = tt

v70 : T (shows (off Lf) ("\\" ∷ []) (enter 12 ∷ enter 5 ∷ exit 5 0 1 ∷ exit 12 0 1 ∷ []) ("<p>\\</p>" ∷ []))
unfolding running
v70 = tt

v71 : T (shows (off Lf) ("\\|" ∷ []) (enter 12 ∷ enter 0 ∷ enter 0 ∷ exit 0 0 1 ∷ enter 6 ∷ exit 6 1 2 ∷ exit 0 0 2 ∷ exit 12 0 2 ∷ []) ("<p>|</p>" ∷ []))
unfolding running
v71 = tt

v72 : T (shows (off Lf) ("  \n" ∷ []) (enter 1 ∷ exit 1 0 2 ∷ enter 4 ∷ exit 4 2 3 ∷ []) ([]))
unfolding running
v72 = tt

v73 : T (shows (off Lf) ("=" ∷ []) (enter 12 ∷ enter 5 ∷ exit 5 0 1 ∷ exit 12 0 1 ∷ []) ("<p>=</p>" ∷ []))
unfolding running
v73 = tt

v74 : T (shows (off Lf) ("===" ∷ []) (enter 12 ∷ enter 5 ∷ exit 5 0 3 ∷ exit 12 0 3 ∷ []) ("<p>===</p>" ∷ []))
unfolding running
v74 = tt

v75 : T (shows (off Lf) ("---" ∷ []) (enter 19 ∷ enter 0 ∷ exit 0 0 3 ∷ exit 19 0 3 ∷ []) ("<hr />" ∷ []))
unfolding running
v75 = tt

v76 : T (shows (off Lf) ("\"" ∷ []) (enter 12 ∷ enter 5 ∷ exit 5 0 1 ∷ exit 12 0 1 ∷ []) ("<p>&quot;</p>" ∷ []))
unfolding running
v76 = tt

v77 : T (shows (off Lf) ("'" ∷ []) (enter 12 ∷ enter 5 ∷ exit 5 0 1 ∷ exit 12 0 1 ∷ []) ("<p>'</p>" ∷ []))
unfolding running
v77 = tt

v78 : T (shows (quoted Lf) ("'" ∷ []) (enter 12 ∷ enter 5 ∷ exit 5 0 1 ∷ exit 12 0 1 ∷ []) ("<p>&#39;</p>" ∷ []))
unfolding running
v78 = tt

v79 : T (shows (quoted_on Lf) ("'" ∷ []) (enter 12 ∷ enter 5 ∷ exit 5 0 1 ∷ exit 12 0 1 ∷ []) ("<p>&#39;</p>" ∷ []))
unfolding running
v79 = tt

v80 : T (shows (off Lf) ("\"c\"" ∷ []) (enter 12 ∷ enter 5 ∷ exit 5 0 3 ∷ exit 12 0 3 ∷ []) ("<p>&quot;c&quot;</p>" ∷ []))
unfolding running
v80 = tt

v81 : T (shows (off Lf) ("<https://a.b>" ∷ []) (enter 12 ∷ enter 0 ∷ enter 0 ∷ exit 0 0 1 ∷ enter 44 ∷ exit 44 1 12 ∷ enter 0 ∷ exit 0 12 13 ∷ exit 0 0 13 ∷ exit 12 0 13 ∷ []) ("<p><a href=\"https://a.b\">https://a.b</a></p>" ∷ []))
unfolding running
v81 = tt

v82 : T (shows (off Lf) ("Ã©" ∷ []) (enter 12 ∷ enter 5 ∷ exit 5 0 2 ∷ exit 12 0 2 ∷ []) ("<p>Ã©</p>" ∷ []))
unfolding running
v82 = tt

v83 : T (shows (off Lf) ("ð\u{9f}\u{98}\u{80}" ∷ []) (enter 12 ∷ enter 5 ∷ exit 5 0 4 ∷ exit 12 0 4 ∷ []) ("<p>ð\u{9f}\u{98}\u{80}</p>" ∷ []))
unfolding running
v83 = tt

v84 : T (shows (off Lf) ("b" ∷ []) (enter 12 ∷ enter 5 ∷ exit 5 0 1 ∷ exit 12 0 1 ∷ []) ("<p>b</p>" ∷ []))
unfolding running
v84 = tt

v85 : T (shows (off Lf) ("A" ∷ []) (enter 12 ∷ enter 5 ∷ exit 5 0 1 ∷ exit 12 0 1 ∷ []) ("<p>A</p>" ∷ []))
unfolding running
v85 = tt

v86 : T (shows (off Lf) ("x y" ∷ []) (enter 12 ∷ enter 5 ∷ exit 5 0 3 ∷ exit 12 0 3 ∷ []) ("<p>x y</p>" ∷ []))
unfolding running
v86 = tt

v87 : T (shows (off Lf) ("ï»¿" ∷ []) (enter 0 ∷ exit 0 0 3 ∷ []) ([]))
unfolding running
v87 = tt

v88 : T (shows (off Lf) ("%20" ∷ []) (enter 12 ∷ enter 5 ∷ exit 5 0 3 ∷ exit 12 0 3 ∷ []) ("<p>%20</p>" ∷ []))
unfolding running
v88 = tt

v89 : T (shows (off Lf) ("javascript:" ∷ []) (enter 12 ∷ enter 5 ∷ exit 5 0 11 ∷ exit 12 0 11 ∷ []) ("<p>javascript:</p>" ∷ []))
unfolding running
v89 = tt

v90 : T (shows (off Lf) ("http:" ∷ []) (enter 12 ∷ enter 5 ∷ exit 5 0 5 ∷ exit 12 0 5 ∷ []) ("<p>http:</p>" ∷ []))
unfolding running
v90 = tt

v91 : T (shows (off Lf) ("[A b]" ∷ []) (enter 12 ∷ enter 5 ∷ exit 5 0 5 ∷ exit 12 0 5 ∷ []) ("<p>[A b]</p>" ∷ []))
unfolding running
v91 = tt

v92 : T (shows (off Lf) ("[a b]: c" ∷ []) (enter 53 ∷ enter 0 ∷ enter 0 ∷ exit 0 0 1 ∷ enter 54 ∷ enter 5 ∷ exit 5 1 4 ∷ exit 54 1 4 ∷ enter 0 ∷ exit 0 4 5 ∷ exit 0 0 5 ∷ enter 0 ∷ exit 0 5 6 ∷ enter 1 ∷ exit 1 6 7 ∷ enter 0 ∷ enter 0 ∷ enter 55 ∷ enter 5 ∷ exit 5 7 8 ∷ exit 55 7 8 ∷ exit 0 7 8 ∷ exit 0 7 8 ∷ exit 53 0 8 ∷ []) ([]))
unfolding running
v92 = tt

v93 : T (shows (off Lf) ("\n    " ∷ []) (enter 4 ∷ exit 4 0 1 ∷ enter 1 ∷ exit 1 1 5 ∷ []) ([]))
unfolding running
v93 = tt

v94 : T (shows (off Lf) ("\n  " ∷ []) (enter 4 ∷ exit 4 0 1 ∷ enter 1 ∷ exit 1 1 3 ∷ []) ([]))
unfolding running
v94 = tt

v95 : T (shows (off Lf) ("\n> " ∷ []) (enter 4 ∷ exit 4 0 1 ∷ enter 20 ∷ enter 2 ∷ enter 0 ∷ exit 0 1 2 ∷ enter 1 ∷ exit 1 2 3 ∷ exit 2 1 3 ∷ exit 20 1 3 ∷ []) ("<blockquote>\n</blockquote>" ∷ []))
unfolding running
v95 = tt

v96 : T (shows (off Lf) ("\n- " ∷ []) (enter 4 ∷ exit 4 0 1 ∷ enter 22 ∷ enter 23 ∷ enter 24 ∷ enter 25 ∷ exit 25 1 2 ∷ exit 24 1 2 ∷ enter 1 ∷ exit 1 2 3 ∷ exit 23 1 3 ∷ exit 22 1 3 ∷ []) ("<ul>\n<li></li>\n</ul>" ∷ []))
unfolding running
v96 = tt

v97 : T (shows (off Lf) ("\n\n    " ∷ []) (enter 4 ∷ exit 4 0 1 ∷ enter 4 ∷ exit 4 1 2 ∷ enter 1 ∷ exit 1 2 6 ∷ []) ([]))
unfolding running
v97 = tt

v98 : T (shows (off Lf) ("\n\n  " ∷ []) (enter 4 ∷ exit 4 0 1 ∷ enter 4 ∷ exit 4 1 2 ∷ enter 1 ∷ exit 1 2 4 ∷ []) ([]))
unfolding running
v98 = tt

v99 : T (shows (off Lf) ("\n\t" ∷ []) (enter 4 ∷ exit 4 0 1 ∷ enter 1 ∷ exit 1 1 2 ∷ []) ([]))
unfolding running
v99 = tt

v100 : T (shows (off Lf) ("0. " ∷ []) (enter 21 ∷ enter 23 ∷ enter 24 ∷ enter 26 ∷ exit 26 0 1 ∷ enter 25 ∷ exit 25 1 2 ∷ exit 24 0 2 ∷ enter 1 ∷ exit 1 2 3 ∷ exit 23 0 3 ∷ exit 21 0 3 ∷ []) ("<ol start=\"0\">\n<li></li>\n</ol>" ∷ []))
unfolding running
v100 = tt

v101 : T (shows (off Cr) ("0. " ∷ []) (enter 21 ∷ enter 23 ∷ enter 24 ∷ enter 26 ∷ exit 26 0 1 ∷ enter 25 ∷ exit 25 1 2 ∷ exit 24 0 2 ∷ enter 1 ∷ exit 1 2 3 ∷ exit 23 0 3 ∷ exit 21 0 3 ∷ []) ("<ol start=\"0\">\r<li></li>\r</ol>" ∷ []))
unfolding running
v101 = tt

v102 : T (shows (off CrLf) ("0. " ∷ []) (enter 21 ∷ enter 23 ∷ enter 24 ∷ enter 26 ∷ exit 26 0 1 ∷ enter 25 ∷ exit 25 1 2 ∷ exit 24 0 2 ∷ enter 1 ∷ exit 1 2 3 ∷ exit 23 0 3 ∷ exit 21 0 3 ∷ []) ("<ol start=\"0\">\r\n<li></li>\r\n</ol>" ∷ []))
unfolding running
v102 = tt

v103 : T (shows (off Lf) ("+ " ∷ []) (enter 22 ∷ enter 23 ∷ enter 24 ∷ enter 25 ∷ exit 25 0 1 ∷ exit 24 0 1 ∷ enter 1 ∷ exit 1 1 2 ∷ exit 23 0 2 ∷ exit 22 0 2 ∷ []) ("<ul>\n<li></li>\n</ul>" ∷ []))
unfolding running
v103 = tt

v104 : T (shows (off Cr) ("+ " ∷ []) (enter 22 ∷ enter 23 ∷ enter 24 ∷ enter 25 ∷ exit 25 0 1 ∷ exit 24 0 1 ∷ enter 1 ∷ exit 1 1 2 ∷ exit 23 0 2 ∷ exit 22 0 2 ∷ []) ("<ul>\r<li></li>\r</ul>" ∷ []))
unfolding running
v104 = tt

v105 : T (shows (off CrLf) ("+ " ∷ []) (enter 22 ∷ enter 23 ∷ enter 24 ∷ enter 25 ∷ exit 25 0 1 ∷ exit 24 0 1 ∷ enter 1 ∷ exit 1 1 2 ∷ exit 23 0 2 ∷ exit 22 0 2 ∷ []) ("<ul>\r\n<li></li>\r\n</ul>" ∷ []))
unfolding running
v105 = tt

v106 : T (shows (off Lf) ("Ã\u{9f}" ∷ []) (enter 12 ∷ enter 5 ∷ exit 5 0 2 ∷ exit 12 0 2 ∷ []) ("<p>Ã\u{9f}</p>" ∷ []))
unfolding running
v106 = tt

v107 : T (shows (off Lf) ("[a]: <b> 'c'\n" ∷ []) (enter 53 ∷ enter 0 ∷ enter 0 ∷ exit 0 0 1 ∷ enter 54 ∷ enter 5 ∷ exit 5 1 2 ∷ exit 54 1 2 ∷ enter 0 ∷ exit 0 2 3 ∷ exit 0 0 3 ∷ enter 0 ∷ exit 0 3 4 ∷ enter 1 ∷ exit 1 4 5 ∷ enter 0 ∷ enter 0 ∷ enter 0 ∷ exit 0 5 6 ∷ enter 55 ∷ enter 5 ∷ exit 5 6 7 ∷ exit 55 6 7 ∷ enter 0 ∷ exit 0 7 8 ∷ exit 0 5 8 ∷ exit 0 5 8 ∷ enter 1 ∷ exit 1 8 9 ∷ enter 0 ∷ enter 0 ∷ exit 0 9 10 ∷ enter 56 ∷ enter 5 ∷ exit 5 10 11 ∷ exit 56 10 11 ∷ enter 0 ∷ exit 0 11 12 ∷ exit 0 9 12 ∷ exit 53 0 12 ∷ enter 3 ∷ exit 3 12 13 ∷ []) ([]))
unfolding running
v107 = tt

v108 : T (shows (off Lf) ("\n[^b]: d\n" ∷ []) (enter 4 ∷ exit 4 0 1 ∷ enter 63 ∷ enter 64 ∷ enter 0 ∷ enter 0 ∷ exit 0 1 2 ∷ enter 0 ∷ exit 0 2 3 ∷ enter 65 ∷ enter 5 ∷ exit 5 3 4 ∷ exit 65 3 4 ∷ enter 0 ∷ exit 0 4 5 ∷ exit 0 1 5 ∷ enter 0 ∷ exit 0 5 6 ∷ enter 1 ∷ exit 1 6 7 ∷ exit 64 1 7 ∷ enter 12 ∷ enter 5 ∷ exit 5 7 8 ∷ exit 12 7 8 ∷ exit 63 1 8 ∷ enter 3 ∷ exit 3 8 9 ∷ []) ([]))
unfolding running
v108 = tt

v109 : T (shows (off Lf) ("[^b]" ∷ []) (enter 12 ∷ enter 5 ∷ exit 5 0 4 ∷ exit 12 0 4 ∷ []) ("<p>[^b]</p>" ∷ []))
unfolding running
v109 = tt

v110 : T (shows (off Lf) ("   " ∷ []) (enter 1 ∷ exit 1 0 3 ∷ []) ([]))
unfolding running
v110 = tt

v111 : T (shows (off Lf) ("> > " ∷ []) (enter 20 ∷ enter 2 ∷ enter 0 ∷ exit 0 0 1 ∷ enter 1 ∷ exit 1 1 2 ∷ exit 2 0 2 ∷ enter 20 ∷ enter 2 ∷ enter 0 ∷ exit 0 2 3 ∷ enter 1 ∷ exit 1 3 4 ∷ exit 2 2 4 ∷ exit 20 2 4 ∷ exit 20 0 4 ∷ []) ("<blockquote>\n<blockquote>\n</blockquote>\n</blockquote>" ∷ []))
unfolding running
v111 = tt

v112 : T (shows (off Cr) ("> > " ∷ []) (enter 20 ∷ enter 2 ∷ enter 0 ∷ exit 0 0 1 ∷ enter 1 ∷ exit 1 1 2 ∷ exit 2 0 2 ∷ enter 20 ∷ enter 2 ∷ enter 0 ∷ exit 0 2 3 ∷ enter 1 ∷ exit 1 3 4 ∷ exit 2 2 4 ∷ exit 20 2 4 ∷ exit 20 0 4 ∷ []) ("<blockquote>\r<blockquote>\r</blockquote>\r</blockquote>" ∷ []))
unfolding running
v112 = tt

v113 : T (shows (off CrLf) ("> > " ∷ []) (enter 20 ∷ enter 2 ∷ enter 0 ∷ exit 0 0 1 ∷ enter 1 ∷ exit 1 1 2 ∷ exit 2 0 2 ∷ enter 20 ∷ enter 2 ∷ enter 0 ∷ exit 0 2 3 ∷ enter 1 ∷ exit 1 3 4 ∷ exit 2 2 4 ∷ exit 20 2 4 ∷ exit 20 0 4 ∷ []) ("<blockquote>\r\n<blockquote>\r\n</blockquote>\r\n</blockquote>" ∷ []))
unfolding running
v113 = tt

v114 : T (shows (off Lf) ("| " ∷ []) (enter 12 ∷ enter 5 ∷ exit 5 0 1 ∷ enter 1 ∷ exit 1 1 2 ∷ exit 12 0 2 ∷ []) ("<p>|</p>" ∷ []))
unfolding running
v114 = tt

v115 : T (shows (off Lf) ("> - " ∷ []) (enter 20 ∷ enter 2 ∷ enter 0 ∷ exit 0 0 1 ∷ enter 1 ∷ exit 1 1 2 ∷ exit 2 0 2 ∷ enter 22 ∷ enter 23 ∷ enter 24 ∷ enter 25 ∷ exit 25 2 3 ∷ exit 24 2 3 ∷ enter 1 ∷ exit 1 3 4 ∷ exit 23 2 4 ∷ exit 22 2 4 ∷ exit 20 0 4 ∷ []) ("<blockquote>\n<ul>\n<li></li>\n</ul>\n</blockquote>" ∷ []))
unfolding running
v115 = tt

v116 : T (shows (off Cr) ("> - " ∷ []) (enter 20 ∷ enter 2 ∷ enter 0 ∷ exit 0 0 1 ∷ enter 1 ∷ exit 1 1 2 ∷ exit 2 0 2 ∷ enter 22 ∷ enter 23 ∷ enter 24 ∷ enter 25 ∷ exit 25 2 3 ∷ exit 24 2 3 ∷ enter 1 ∷ exit 1 3 4 ∷ exit 23 2 4 ∷ exit 22 2 4 ∷ exit 20 0 4 ∷ []) ("<blockquote>\r<ul>\r<li></li>\r</ul>\r</blockquote>" ∷ []))
unfolding running
v116 = tt

v117 : T (shows (off CrLf) ("> - " ∷ []) (enter 20 ∷ enter 2 ∷ enter 0 ∷ exit 0 0 1 ∷ enter 1 ∷ exit 1 1 2 ∷ exit 2 0 2 ∷ enter 22 ∷ enter 23 ∷ enter 24 ∷ enter 25 ∷ exit 25 2 3 ∷ exit 24 2 3 ∷ enter 1 ∷ exit 1 3 4 ∷ exit 23 2 4 ∷ exit 22 2 4 ∷ exit 20 0 4 ∷ []) ("<blockquote>\r\n<ul>\r\n<li></li>\r\n</ul>\r\n</blockquote>" ∷ []))
unfolding running
v117 = tt

v118 : T (shows (off Lf) ("- > " ∷ []) (enter 22 ∷ enter 23 ∷ enter 24 ∷ enter 25 ∷ exit 25 0 1 ∷ enter 1 ∷ exit 1 1 2 ∷ exit 24 0 2 ∷ enter 20 ∷ enter 2 ∷ enter 0 ∷ exit 0 2 3 ∷ enter 1 ∷ exit 1 3 4 ∷ exit 2 2 4 ∷ exit 20 2 4 ∷ exit 23 0 4 ∷ exit 22 0 4 ∷ []) ("<ul>\n<li>\n<blockquote>\n</blockquote>\n</li>\n</ul>" ∷ []))
unfolding running
v118 = tt

v119 : T (shows (off Cr) ("- > " ∷ []) (enter 22 ∷ enter 23 ∷ enter 24 ∷ enter 25 ∷ exit 25 0 1 ∷ enter 1 ∷ exit 1 1 2 ∷ exit 24 0 2 ∷ enter 20 ∷ enter 2 ∷ enter 0 ∷ exit 0 2 3 ∷ enter 1 ∷ exit 1 3 4 ∷ exit 2 2 4 ∷ exit 20 2 4 ∷ exit 23 0 4 ∷ exit 22 0 4 ∷ []) ("<ul>\r<li>\r<blockquote>\r</blockquote>\r</li>\r</ul>" ∷ []))
unfolding running
v119 = tt

v120 : T (shows (off CrLf) ("- > " ∷ []) (enter 22 ∷ enter 23 ∷ enter 24 ∷ enter 25 ∷ exit 25 0 1 ∷ enter 1 ∷ exit 1 1 2 ∷ exit 24 0 2 ∷ enter 20 ∷ enter 2 ∷ enter 0 ∷ exit 0 2 3 ∷ enter 1 ∷ exit 1 3 4 ∷ exit 2 2 4 ∷ exit 20 2 4 ∷ exit 23 0 4 ∷ exit 22 0 4 ∷ []) ("<ul>\r\n<li>\r\n<blockquote>\r\n</blockquote>\r\n</li>\r\n</ul>" ∷ []))
unfolding running
v120 = tt

v121 : T (shows (off Lf) (">\t" ∷ []) (enter 20 ∷ enter 2 ∷ enter 0 ∷ exit 0 0 1 ∷ enter 1 ∷ exit 1 1 2 ∷ exit 2 0 2 ∷ enter 1 ∷ exit 1 2 2 ∷ exit 20 0 2 ∷ []) ("<blockquote>\n</blockquote>" ∷ []))
unfolding running
v121 = tt

v122 : T (shows (off Cr) (">\t" ∷ []) (enter 20 ∷ enter 2 ∷ enter 0 ∷ exit 0 0 1 ∷ enter 1 ∷ exit 1 1 2 ∷ exit 2 0 2 ∷ enter 1 ∷ exit 1 2 2 ∷ exit 20 0 2 ∷ []) ("<blockquote>\r</blockquote>" ∷ []))
unfolding running
v122 = tt

v123 : T (shows (off CrLf) (">\t" ∷ []) (enter 20 ∷ enter 2 ∷ enter 0 ∷ exit 0 0 1 ∷ enter 1 ∷ exit 1 1 2 ∷ exit 2 0 2 ∷ enter 1 ∷ exit 1 2 2 ∷ exit 20 0 2 ∷ []) ("<blockquote>\r\n</blockquote>" ∷ []))
unfolding running
v123 = tt

v124 : T (shows (off Lf) ("-\t" ∷ []) (enter 22 ∷ enter 23 ∷ enter 24 ∷ enter 25 ∷ exit 25 0 1 ∷ exit 24 0 1 ∷ enter 1 ∷ exit 1 1 2 ∷ exit 23 0 2 ∷ exit 22 0 2 ∷ []) ("<ul>\n<li></li>\n</ul>" ∷ []))
unfolding running
v124 = tt

v125 : T (shows (off Cr) ("-\t" ∷ []) (enter 22 ∷ enter 23 ∷ enter 24 ∷ enter 25 ∷ exit 25 0 1 ∷ exit 24 0 1 ∷ enter 1 ∷ exit 1 1 2 ∷ exit 23 0 2 ∷ exit 22 0 2 ∷ []) ("<ul>\r<li></li>\r</ul>" ∷ []))
unfolding running
v125 = tt

v126 : T (shows (off CrLf) ("-\t" ∷ []) (enter 22 ∷ enter 23 ∷ enter 24 ∷ enter 25 ∷ exit 25 0 1 ∷ exit 24 0 1 ∷ enter 1 ∷ exit 1 1 2 ∷ exit 23 0 2 ∷ exit 22 0 2 ∷ []) ("<ul>\r\n<li></li>\r\n</ul>" ∷ []))
unfolding running
v126 = tt
