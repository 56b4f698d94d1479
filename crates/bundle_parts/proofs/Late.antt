-- The bytes that have come, from the first on: what the machine makes of them is what the definition on the joined bytes says. Assumes nothing.
use Rattle.std.proofs.Common.{◌≡◌, refl, sym, ap, ◌∙◌, true, List, ℕ, ◌+◌, ◌-◌, ◌*◌, ◌/◌, ◌≤◌, ◌<◌, arith, le-leb, length, drop, length-drop, drop-drop}
use Rattle.std.proofs.Math.Decide.{dec_le}
use Rattle.std.proofs.Math.Nat.{sub-zero}
use Rattle.lent.specs.Fill.{fill}
use Rattle.bundle_block.specs.Block.{edition_in, ◌before◌}
use Rattle.bundle_run.specs.Run.{judge_run, held_in}
use Rattle.bundle_read.specs.Bundle.{blocks_for, text_length, event_length, text_blocks, event_part, judge_header}
use Rattle.bundle_read.specs.Sizes.{text_room, text_kind, event_kind}
use Rattle.bundle_known.specs.declared.Known.{Known}
use Rattle.bundle_known.specs.Known.{unknown, said_in, taken, came_then, judge_taken, fill_taken, left_of, goes, unless, runs_of, advance_of}
use Rattle.bundle_known.proofs.Resume.{unless-before, header-there, runs-form, text_taken, behind_text, left_text, events_taken, behind_events}
use Rattle.bundle_known.proofs.Stepped.{then-goes}
use Rattle.bundle_parts.specs.Late.{text_blocks_came, event_blocks_came, judge_text_came, judge_events_came, judge_came, text_so_far, events_so_far}

module _ (l : List ℕ) (h : 512 ≤ length l) where
  -- ---- the text blocks

  pub texts-taken : taken 0 (text_length l) (drop 512 l) ≡ text_blocks_came l
  texts-taken =
      let n = length-drop 512 l in
      let m : length (drop 512 l) / 512 ≡ length l / 512 - 1 = omega arith in
      rw (m, sub-zero)

  texts-judged : judge_taken (edition_in l) text_kind 1 0 (text_length l) (drop 512 l) ≡ judge_text_came l
  unfolding judge_taken judge_text_came
  texts-judged = rw (texts-taken, sub-zero)

  texts-filled : (d : List ℕ) → fill_taken 0 (text_length l) d (drop 512 l) ≡ fill d 0 (text_so_far l)
  unfolding fill_taken text_so_far
  texts-filled d = rw (texts-taken, sub-zero, le-leb 512 (length l) h)

  abbrev pub behind : List ℕ
  behind = left_of 0 (text_length l) (drop 512 l)

  pub length-behind : length behind ≡ length l - 512 - 512 * text_blocks_came l
  length-behind = length-drop (512 * taken 0 (text_length l) (drop 512 l)) (drop 512 l) ∙ rw (texts-taken, length-drop)

  -- ---- the event blocks: all text blocks are there, or no event block is

  abbrev next : ℕ
  next = 1 + blocks_for text_room (came_then 0 (text_length l) (drop 512 l)) + blocks_for text_room 0

  module _ (w : text_blocks l ≤ length l / 512 - 1) where
    there : text_blocks_came l ≡ text_blocks l
    there = omega arith

    behind-there : behind ≡ event_part l
    behind-there =
        let n : 512 + 512 * text_blocks l ≡ 512 * (1 + text_blocks l) = omega arith in
        rw (texts-taken, there, drop-drop (512 * text_blocks l) 512 l, n)

    next-there : next ≡ 1 + text_blocks l
    next-there =
        let n = texts-taken in
        let m = there in
        let s = sub-zero (text_length l) in
        omega arith

    records-there : taken 0 (event_length l) behind ≡ event_blocks_came l
    records-there =
        let n = length-behind in
        let m = there in
        let x : length behind / 512 ≡ length l / 512 - (1 + text_blocks l) = omega arith in
        rw (x, sub-zero)

  module _ (w : length l / 512 - 1 < text_blocks l) where
    none-there : taken 0 (event_length l) behind ≡ 0
    none-there =
        let n = length-behind in
        let m : text_blocks_came l ≡ length l / 512 - 1 = omega arith in
        let x : length behind / 512 ≡ 0 = omega arith in
        omega (arith, x)

    none_came : event_blocks_came l ≡ 0
    none_came = omega arith

  records-judged : judge_taken (edition_in l) event_kind next 0 (event_length l) behind ≡ judge_events_came l
  unfolding judge_taken judge_events_came judge_run
  records-judged =
      elim (dec_le (text_blocks l) (length l / 512 - 1)) [
        | yes w ↦ rw (records-there w, next-there w, behind-there w, sub-zero)
        | no w ↦ rw (none-there (omega arith), none_came (omega arith))
      ]

  records-filled : (d : List ℕ) → fill_taken 0 (event_length l) d behind ≡ fill d 0 (events_so_far l)
  unfolding fill_taken events_so_far held_in
  records-filled d =
      rw (le-leb 512 (length l) h)
      (elim (dec_le (text_blocks l) (length l / 512 - 1)) [
        | yes w ↦ rw (records-there w, behind-there w, sub-zero)
        | no w ↦ rw (none-there (omega arith), none_came (omega arith))
      ])

  pub records-taken : taken 0 (event_length l) behind ≡ event_blocks_came l
  records-taken =
      elim (dec_le (text_blocks l) (length l / 512 - 1)) [
        | yes w ↦ records-there w
        | no w ↦ none-there (omega arith) ∙ sym (none_came (omega arith))
      ]

  -- ---- all of it

  abbrev pub known_in : Known
  known_in =
      record {
        begun = true;
        edition = edition_in l;
        text = text_length l;
        events = event_length l;
        text_came = came_then 0 (text_length l) (drop 512 l);
        events_came = came_then 0 (event_length l) behind;
      }

  abbrev pub left_in : List ℕ
  left_in = left_of 0 (event_length l) behind

  runs-came : (t e : List ℕ) → runs_of (said_in l) t e (drop 512 l) ≡ unless (judge_text_came l) (unless (judge_events_came l) (goes known_in (fill t 0 (text_so_far l)) (fill e 0 (events_so_far l)) left_in))
  unfolding text_taken behind_text left_text events_taken behind_events
  runs-came t e =
      sym (then-goes (said_in l) t e (drop 512 l) (runs_of (said_in l) t e (drop 512 l)))
      ∙ runs-form (said_in l) t e (drop 512 l) goes
      ∙ rw (texts-judged, records-judged, texts-filled t, records-filled e)

  pub came-whole : (t e : List ℕ) → advance_of unknown t e l ≡ unless (judge_came l) (goes known_in (fill t 0 (text_so_far l)) (fill e 0 (events_so_far l)) left_in)
  unfolding judge_came
  came-whole t e =
      let c = goes known_in (fill t 0 (text_so_far l)) (fill e 0 (events_so_far l)) left_in in
      header-there unknown t e l refl h
      ∙ rw (runs-came t e, le-leb 512 (length l) h)
      (ap (unless (judge_header l)) (sym (unless-before (judge_text_came l) (judge_events_came l) c)) ∙ sym (unless-before (judge_header l) (judge_text_came l before judge_events_came l) c))
