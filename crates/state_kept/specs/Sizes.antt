-- The sizes of the tables of words, each in one place. Assumes nothing.
use Rattle.std.specs.Prelude.{ℕ}

-- rows of the definitions; of the footnotes, of the calls and of the labels of open footnotes
abbrev pub definition_rows : ℕ
definition_rows = 128

abbrev pub note_rows : ℕ
note_rows = 64

-- all words: seven columns, six, five, two
abbrev pub definition_words : ℕ
definition_words = 896

abbrev pub footnote_words : ℕ
footnote_words = 384

abbrev pub call_words : ℕ
call_words = 320

abbrev pub label_words : ℕ
label_words = 128
