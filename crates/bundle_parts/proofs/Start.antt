-- All bytes in one part: the refusal of the first block at fault that has come whole, or what has come so far with zeros behind it. Assumes nothing.
use Rattle.std.proofs.Common.{None, if◌then◌else◌, ◌≡◌, refl, ◌∙◌, Bool, true, false, not, ◌&&◌, ◌||◌, List, [], ◌++◌, ℕ, zero, suc, ◌+◌, ◌-◌, ◌*◌, ◌≤◌, ◌<◌, zero-add, arith, leb-true, le-leb, leb, length, take, drop, length-append, length-drop, take_all, Ok, Err}
use Rattle.std.proofs.Math.Decide.{dec_le}
use Rattle.std.proofs.Math.Nat.{zero-sub, suc-sub-suc, sub-zero}
use borrow.Author.Tests.{lt-leb}
use Rattle.std.proofs.Math.ListN.{length-replicate}
use Rattle.lent.specs.Fill.{fill, zeros}
use Rattle.lent.proofs.Laws.{and_left, and_right}
use Rattle.bundle_block.specs.declared.Refusal.{Refusal}
use Rattle.bundle_block.specs.declared.Refusal.TheVariants.{Broken}
use Rattle.bundle_block.specs.Block.{Verdict, edition_in, ◌before◌, demand, judge_block}
use Rattle.bundle_block.proofs.Block.{both-good, demanded-both}
use Rattle.bundle_run.proofs.Split.{length_some}
use Rattle.bundle_read.specs.Bundle.{text_length, event_count, event_length, text_blocks, text_part, event_part, judge_header}
use Rattle.bundle_read.specs.Sizes.{least_room, most_text, most_events, text_room, header_used, header_kind}
use Rattle.bundle_known.specs.declared.Known.{Known}
use Rattle.bundle_known.specs.Known.{unknown, whole_of, goes, unless, advance_of}
use Rattle.bundle_known.proofs.Resume.{no_block}
use Rattle.bundle_parts.specs.Late.{text_blocks_came, event_blocks_came, judge_text_came, judge_events_came, judge_came, text_so_far, events_so_far}
use Rattle.bundle_parts.specs.Feed.{Stand, start_of, is_empty, refused_at, kept, settled, roomy, feed_of}
use Rattle.bundle_parts.specs.Parts.{SoFar, HasFed}
use Rattle.bundle_parts.proofs.Late.{known_in, left_in, came-whole}

-- ---- bytes put at the start of zeros

drop-zeros : (k n : ℕ) → drop k (zeros n) ≡ zeros (n - k)
drop-zeros zero n = rw sub-zero
drop-zeros (suc k) zero = rw zero-sub
drop-zeros (suc k) (suc n) = drop-zeros k n ∙ rw suc-sub-suc

fill-zeros : (n : ℕ) (s : List ℕ) → length s ≤ n → fill (zeros n) 0 s ≡ s ++ zeros (n - length s)
unfolding fill
fill-zeros n s h =
    let m : length (s ++ zeros (n - length s)) ≤ n = simp (length-append, length-replicate) (omega arith) in
    rw (zero-add, drop-zeros (length s) n, length-replicate) (take_all n (s ++ zeros (n - length s)) m)

-- ---- all bytes in one part

module _ (l t e : List ℕ) (room : roomy t e ≡ true) where
  start : feed_of (start_of t e) l ≡ settled false t e (advance_of unknown (zeros (length t)) (zeros (length e)) l)
  unfolding feed_of
  start = rw room

  pub short-start : length l < 512 → feed_of (start_of t e) l ≡ record { known = unknown; rest = l; over = false; progress = None; text = zeros (length t); events = zeros (length e) }
  unfolding kept
  short-start h = start ∙ rw (no_block unknown (zeros (length t)) (zeros (length e)) l refl h)

  pub short-came : length l < 512 → judge_came l ≡ Ok tt
  unfolding judge_came
  short-came h = rw (lt-leb 512 (length l) h)

  module _ (h : 512 ≤ length l) where
    whole-start : feed_of (start_of t e) l ≡ settled false t e (unless (judge_came l) (goes (known_in l h) (fill (zeros (length t)) 0 (text_so_far l)) (fill (zeros (length e)) 0 (events_so_far l)) (left_in l h)))
    whole-start = start ∙ rw (came-whole l h (zeros (length t)) (zeros (length e)))

    pub more-start : judge_came l ≡ Ok tt → feed_of (start_of t e) l ≡ kept false (known_in l h) (fill (zeros (length t)) 0 (text_so_far l)) (fill (zeros (length e)) 0 (events_so_far l)) (left_in l h)
    more-start p = whole-start ∙ rw p

    pub bad-start : {r : Refusal} → judge_came l ≡ Err r → feed_of (start_of t e) l ≡ refused_at t e r
    bad-start p = whole-start ∙ rw p

    -- what has come is no longer than the buffers
    header-good : judge_came l ≡ Ok tt → judge_header l ≡ Ok tt
    unfolding judge_came
    header-good p = (both-good (judge_header l) (judge_text_came l before judge_events_came l) (rw (le-leb 512 (length l) h) at p)).0

    sizes : judge_header l ≡ Ok tt → (text_length l ≤ most_text) × (event_count l ≤ most_events)
    unfolding judge_header
    sizes p =
        let f = both-good (judge_block (edition_in l) 0 header_kind header_used (take 512 l)) (demand (leb (text_length l) most_text && leb (event_count l) most_events) (Broken 0)) p in
        let g = demanded-both (leb (text_length l) most_text) (leb (event_count l) most_events) (Broken 0) f.1 in
        (leb-true (text_length l) most_text g.0, leb-true (event_count l) most_events g.1)

    rooms : (least_room ≤ length t) × (least_room ≤ length e)
    rooms = (
      leb-true least_room (length t) (and_left (leb least_room (length t)) (leb least_room (length e)) room),
      leb-true least_room (length e) (and_right (leb least_room (length t)) (leb least_room (length e)) room),
    )

    pub text-fits : judge_came l ≡ Ok tt → length (text_so_far l) ≤ length t
    unfolding text_so_far
    text-fits p =
        let s = sizes (header-good p) in
        let r = rooms in
        let d = length-drop 512 l in
        let n = length_some text_room (text_blocks_came l) (text_length l) (text_part l) (omega arith) (omega arith) in
        rw (le-leb 512 (length l) h, n) (omega arith)

    pub events-fit : judge_came l ≡ Ok tt → length (events_so_far l) ≤ length e
    unfolding events_so_far
    events-fit p =
        let s = sizes (header-good p) in
        let r = rooms in
        let d = length-drop (512 * (1 + text_blocks l)) l in
        let n = length_some text_room (event_blocks_came l) (event_length l) (event_part l) (omega arith) (omega arith) in
        rw (le-leb 512 (length l) h, n) (omega arith)

-- ---- while more is wanted

pick_more : (b over : Bool) (k : Known) (t e left : List ℕ) (s : Stand)
    → s ≡ (if b then record { known = k; rest = []; over = over || not (is_empty left); progress = None; text = t; events = e } else record { known = k; rest = left; over = over; progress = None; text = t; events = e })
    → (s.progress ≡ None) × (s.text ≡ t) × (s.events ≡ e)
pick_more true over k t e left s p = (rw p, rw p, rw p)
pick_more false over k t e left s p = (rw p, rw p, rw p)

kept_more : (over : Bool) (k : Known) (t e left : List ℕ) (s : Stand) → s ≡ kept over k t e left → (s.progress ≡ None) × (s.text ≡ t) × (s.events ≡ e)
unfolding kept
kept_more over k t e left s p = pick_more (whole_of k) over k t e left s p

module _ (l t e : List ℕ) (room : roomy t e ≡ true) where
  pub short-so-far : length l < 512 → SoFar l t e (feed_of (start_of t e) l)
  unfolding text_so_far events_so_far
  short-so-far h =
      let s = short-start l t e room h in
      let n = lt-leb 512 (length l) h in
      record { more = rw s; text = rw (s, n, sub-zero); events = rw (s, n, sub-zero) }

  pub whole-so-far : 512 ≤ length l → judge_came l ≡ Ok tt → SoFar l t e (feed_of (start_of t e) l)
  whole-so-far h p =
      let f = kept_more false (known_in l h) (fill (zeros (length t)) 0 (text_so_far l)) (fill (zeros (length e)) 0 (events_so_far l)) (left_in l h) (feed_of (start_of t e) l) (more-start l t e room h p) in
      record {
        more = f.0;
        text = f.1 ∙ fill-zeros (length t) (text_so_far l) (text-fits l t e room h p);
        events = f.2 ∙ fill-zeros (length e) (events_so_far l) (events-fit l t e room h p);
      }

  pub one-fed : (v : Verdict) → judge_came l ≡ v → HasFed v l t e (feed_of (start_of t e) l)
  one-fed (Ok o) p =
      elim (dec_le 512 (length l)) [
        | yes h ↦ whole-so-far h p
        | no h ↦ short-so-far (omega arith)
      ]
  one-fed (Err r) p =
      elim (dec_le 512 (length l)) [
        | yes h ↦ bad-start l t e room h p
        | no h ↦ let q = short-came l t e room (omega arith) in let z : ◌≡◌ {A = ℕ} 0 1 = cc in absurd (omega arith)
      ]
