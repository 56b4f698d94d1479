-- Reading is the inverse of writing: what is written is read again, and what is read is what would be written. Assumes nothing.
use Rattle.std.proofs.Common.{◌≡◌, refl, sym, ap, ◌∙◌, true, List, [], ◌++◌, append_assoc, append-nil, ℕ, ◌+◌, ◌*◌, ◌/◌, arith, lt-ltb, le-leb, eq-eqb, length, take, drop, length-append, length-take, length-drop, take_all, take_at, drop_at, take-take, take-add, drop-drop, Ok, Err}
use Rattle.lent.specs.Bytes.{all}
use Rattle.little.proofs.Laws.{number-little}
use Rattle.bundle_block.specs.Block.{Verdict, is_byte, little, front_of, block_of, edition_in, judge_block}
use Rattle.bundle_run.specs.Run.{run_of}
use Rattle.bundle_read.specs.Bundle.{blocks_for, header_of, bundle_of, text_length, event_count, event_length, text_blocks, event_blocks, text_part, event_part, judge_length, judge_header, judge_count, judge_text, judge_events, judge_bundle, text_in, events_in, says, meant, read_of}
use Rattle.bundle_read.specs.Sizes.{most_text, most_events, record_size, text_room, event_room, header_used, header_kind, text_kind, event_kind, Within}
use Rattle.bundle_block.proofs.Block.{drop-take}
use Rattle.bundle_read.proofs.Bundle.{Sound, sound, length-text, length-events}
use Rattle.bundle_block.proofs.Words.{all_append, all_take, all_drop, bytes-little, number_small}
use Rattle.bundle_block.proofs.Inverse.{length-block, written-good, word, good-written}
use Rattle.bundle_run.proofs.Inverse.{length_run, run-good, run-held, good-run, bytes-held}

-- a sound bundle is judged good
good : (l : List ℕ) → Sound l → judge_bundle l ≡ Ok tt
unfolding judge_bundle judge_length judge_header judge_count
good l s =
    let b = s.blocks in
    rw (
      lt-ltb 0 (length l) (omega arith),
      s.whole,
      s.header,
      le-leb (text_length l) most_text s.text,
      le-leb (event_count l) most_events s.count,
      b,
      eq-eqb (1 + text_blocks l + event_blocks l) (1 + text_blocks l + event_blocks l) refl,
      s.texts,
      s.events,
    )

-- ---- what is written is read again

module _ (text events : List ℕ) (edition : ℕ) where
  head : List ℕ
  head = block_of edition 0 header_kind (header_of text events)

  texts : List ℕ
  texts = run_of edition text_kind text_room 1 (blocks_for text_room (length text)) text

  records : List ℕ
  records = run_of edition event_kind event_room (1 + blocks_for text_room (length text)) (blocks_for event_room (length events)) events

  length-head : length head ≡ 512
  unfolding head little
  length-head = length-block edition 0 header_kind (header_of text events) (omega arith)

  length-texts : length texts ≡ 512 * blocks_for text_room (length text)
  unfolding texts
  length-texts = length_run edition text_kind text_room (omega arith) (blocks_for text_room (length text)) 1 text

  length-records : length records ≡ 512 * blocks_for event_room (length events)
  unfolding records
  length-records = length_run edition event_kind event_room (omega arith) (blocks_for event_room (length events)) (1 + blocks_for text_room (length text)) events

  -- the bundle is these three, one behind the other
  pub length-bundle : length (bundle_of text events edition) ≡ 512 * (1 + blocks_for text_room (length text) + blocks_for event_room (length events))
  unfolding bundle_of head texts records
  length-bundle =
      let a = length-head in
      let b = length-texts in
      let c = length-records in
      let d = length-append (head ++ texts) records in
      let e = length-append head texts in
      omega arith

  module _ (w : Within text events edition) where
    -- its header says what it holds
    module _ (l : List ℕ) (p : l ≡ bundle_of text events edition) where
      three : l ≡ head ++ (texts ++ records)
      unfolding bundle_of head texts records
      three = p ∙ append_assoc head texts records

      length_three : length l ≡ 512 * (1 + blocks_for text_room (length text) + blocks_for event_room (length events))
      length_three = ap length p ∙ length-bundle

      edition-read : edition_in l ≡ edition
      unfolding bundle_of block_of front_of little
      edition-read = rw p (number-little 4 edition w.edition-word)

      text-read : text_length l ≡ length text
      unfolding bundle_of block_of front_of little
      text-read = let h = w.text-length in rw p (number-little 4 (length text) (omega arith))

      count-read : event_count l ≡ length events / record_size
      unfolding bundle_of block_of front_of little
      count-read = let h = w.event-length in rw p (number-little 4 (length events / record_size) (omega arith))

      events-read : event_length l ≡ length events
      events-read = let c = count-read in let r = w.event-records in omega arith

      head-there : take 512 l ≡ head
      head-there = rw three (take_at head (texts ++ records) 512 length-head)

      texts-there : drop 512 l ≡ texts ++ records
      texts-there = rw three (drop_at head (texts ++ records) 512 length-head)

      records-there : drop (512 * (1 + blocks_for text_room (length text))) l ≡ records
      unfolding bundle_of head texts records
      records-there =
          let a = length-head in
          let b = length-texts in
          rw p (drop_at (head ++ texts) records (512 * (1 + blocks_for text_room (length text))) (rw length-append (omega arith)))

      header-good : judge_block (edition_in l) 0 header_kind header_used (take 512 l) ≡ Ok tt
      unfolding head little
      header-good =
          let bytes = all_append is_byte (little 4 (length text)) (little 4 (length events / record_size)) (bytes-little 4 (length text)) (bytes-little 4 (length events / record_size)) in
          rw (edition-read, head-there) (written-good edition 0 header_kind (header_of text events) (omega arith) w.edition-word (omega arith) (omega arith) bytes)

      texts-good : judge_text l ≡ Ok tt
      unfolding judge_text texts
      texts-good =
          let h = w.text-length in
          rw (edition-read, text-read, texts-there)
          (run-good edition text_kind text_room (omega arith) w.edition-word (omega arith) (blocks_for text_room (length text)) 1 text records (omega arith) w.text-bytes)

      records-good : judge_events l ≡ Ok tt
      unfolding judge_events records
      records-good =
          let h = w.text-length in
          let k = w.event-length in
          let g = run-good edition event_kind event_room (omega arith) w.edition-word (omega arith) (blocks_for event_room (length events)) (1 + blocks_for text_room (length text)) events [] (omega arith) w.event-bytes in
          rw (edition-read, text-read, events-read, records-there) (rw append-nil at g)

      sound-written : Sound l
      sound-written =
          let n = length_three in
          let t = text-read in
          let c = count-read in
          let e = events-read in
          let h = w.text-length in
          let k = w.event-length in
          record { whole = omega arith; header = header-good; text = omega arith; count = omega arith; blocks = omega arith; texts = texts-good; events = records-good }

      text-held : text_in l ≡ text
      unfolding text_in texts
      text-held = rw (text-read, texts-there) (run-held edition text_kind text_room (omega arith) (blocks_for text_room (length text)) 1 text records (omega arith))

      events-held : events_in l ≡ events
      unfolding events_in records
      events-held =
          let g = run-held edition event_kind event_room (omega arith) (blocks_for event_room (length events)) (1 + blocks_for text_room (length text)) events [] (omega arith) in
          rw (text-read, events-read, records-there) (rw append-nil at g)

      read_again : read_of l ≡ says text events edition
      unfolding read_of
      read_again = rw (good l sound-written, text-held, events-held, edition-read)

    pub read-written : read_of (bundle_of text events edition) ≡ says text events edition
    read-written = read_again (bundle_of text events edition) refl

-- ---- what is read is what would be written

module _ (l : List ℕ) (bytes : all is_byte l ≡ true) (s : Sound l) where
  header-payload : take 8 (drop 8 (take 512 l)) ≡ header_of (text_in l) (events_in l)
  header-payload =
      let b = s.blocks in
      let t = length-text l s in
      let e = length-events l s in
      let c : length (events_in l) / record_size ≡ event_count l = omega arith in
      rw (
        drop-take 8 512 l,
        take-take 8 504 (drop 8 l) (omega arith),
        take-add 4 4 (drop 8 l),
        drop-drop 4 8 l,
        t,
        c,
        word l 8 4 bytes (omega arith),
        word l 12 4 bytes (omega arith),
      )

  header-again : take 512 l ≡ block_of (edition_in l) 0 header_kind (header_of (text_in l) (events_in l))
  header-again =
      let b = s.blocks in
      good-written (edition_in l) 0 header_kind header_used (take 512 l) (all_take is_byte 512 l bytes) (rw length-take (omega arith)) (omega arith) s.header
      ∙ ap (block_of (edition_in l) 0 header_kind) header-payload

  texts-again : take (512 * text_blocks l) (text_part l) ≡ run_of (edition_in l) text_kind text_room 1 (blocks_for text_room (length (text_in l))) (text_in l)
  unfolding text_in judge_text
  texts-again =
      let b = s.blocks in
      rw (length-text l s) (good-run (edition_in l) text_kind text_room (omega arith) (text_blocks l) 1 (text_length l) (text_part l) (all_drop is_byte 512 l bytes) (omega arith) (rw length-drop (omega arith)) s.texts)

  records-again : take (512 * event_blocks l) (event_part l)
      ≡ run_of (edition_in l) event_kind event_room (1 + blocks_for text_room (length (text_in l))) (blocks_for event_room (length (events_in l))) (events_in l)
  unfolding events_in judge_events
  records-again =
      let b = s.blocks in
      rw (length-text l s, length-events l s)
      (good-run (edition_in l) event_kind event_room (omega arith) (event_blocks l) (1 + text_blocks l) (event_length l) (event_part l)
      (all_drop is_byte (512 * (1 + text_blocks l)) l bytes) (omega arith) (rw length-drop (omega arith)) s.events)

  bundle-again : l ≡ bundle_of (text_in l) (events_in l) (edition_in l)
  unfolding bundle_of
  bundle-again =
      let b = s.blocks in
      let w = s.whole in
      let n : 512 * (1 + text_blocks l) + 512 * event_blocks l ≡ length l = omega arith in
      let m : 512 * (1 + text_blocks l) ≡ 512 + 512 * text_blocks l = omega arith in
      let a : take (512 * (1 + text_blocks l) + 512 * event_blocks l) l ≡ l = take_all (512 * (1 + text_blocks l) + 512 * event_blocks l) l (omega arith) in
      sym a ∙ take-add (512 * (1 + text_blocks l)) (512 * event_blocks l) l
      ∙ rw (records-again, m, take-add 512 (512 * text_blocks l) l, header-again, texts-again)

  within : Within (text_in l) (events_in l) (edition_in l)
  unfolding text_in events_in
  within =
      let b = s.blocks in
      let t = s.text in
      let c = s.count in
      let x = length-text l s in
      let y = length-events l s in
      let e = number_small (take 4 (drop 0 l)) (all_take is_byte 4 l bytes) in
      let f : length (take 4 (drop 0 l)) ≡ 4 = rw length-take (omega arith) in
      record {
        text-bytes = bytes-held text_room (text_blocks l) (text_length l) (text_part l) (all_drop is_byte 512 l bytes);
        text-length = omega arith;
        event-bytes = bytes-held event_room (event_blocks l) (event_length l) (event_part l) (all_drop is_byte (512 * (1 + text_blocks l)) l bytes);
        event-length = omega arith;
        event-records = omega arith;
        edition-word = rw f at e;
      }

pub written_read : (l text events : List ℕ) (edition : ℕ) → all is_byte l ≡ true → read_of l ≡ says text events edition → (l ≡ bundle_of text events edition) × Within text events edition
unfolding read_of
written_read l text events edition bytes p = by (judge_bundle l) refl p
  where
    by : (v : Verdict) → judge_bundle l ≡ v → meant v l ≡ says text events edition → (l ≡ bundle_of text events edition) × Within text events edition
    by (Ok o) q r =
        let t : text_in l ≡ text = cc in
        let e : events_in l ≡ events = cc in
        let n : edition_in l ≡ edition = cc in
        (bundle-again l bytes (sound l q) ∙ rw (t, e, n), rw (t, e, n) at (within l bytes (sound l q)))
    by (Err b) q r = let z : ◌≡◌ {A = ℕ} 0 1 = cc in absurd (omega arith)
