-- The two calls undo each other: what was written is read again, and what was read is written again, byte for byte. Assumes nothing.
use Rattle.std.proofs.Common.{Ok, Err, if◌then◌else◌, ◌≡◌, refl, sym, ap, ◌∙◌, Bool, true, false, not, ◌&&◌, List, ◌++◌, ℕ, ◌-◌, ◌*◌, ◌%◌, ◌^◌, ◌≤◌, ◌<◌, arith, le-leb, le-ltb, eq-eqb, leb, ltb, length, take, take_at}
use Rattle.lent.specs.Bytes.{all}
use Rattle.lent.specs.Fill.{zeros}
use Rattle.bundle_block.specs.declared.Refusal.TheVariants.{Short}
use Rattle.bundle_block.specs.Block.{is_byte}
use Rattle.bundle_read.specs.Read.{Answer, call_of, answer_of, HasRead}
use Rattle.bundle_read.specs.Bundle.{bundle_of, Meaning, says, refused, read_of}
use Rattle.bundle_read.specs.Sizes.{most_text, most_events, record_size, least_room, Within}
use Rattle.bundle_read.proofs.Inverse.{read-written, written_read}
use Rattle.bundle_read.specs.Read as R
use Rattle.bundle_writer.specs.Packed.{Packed, right_lengths, choose, HasPacked}
use Rattle.bundle_writer.specs.declared.WriteRefusal.TheVariants.{WrongLength, NoRoom}
use Rattle.bundle_writer.proofs.Call.{right}

-- ---- what an answer says of a write

record Answered (text events : List ℕ) (edition : ℕ) (d e : List ℕ) (n : ℕ) : Type 0 where
  lengths : right_lengths (length text) (length events) ≡ true
  long : n ≡ length (bundle_of text events edition)
  bytes : e ≡ bundle_of text events edition ++ zeros (length d - length (bundle_of text events edition))

-- the two tests, as Bools
told : (right short : Bool) {n m : ℕ} → Ok n ≡ (if not right then Err WrongLength else (if short then Err NoRoom else Ok m)) → (right ≡ true) × (short ≡ false) × (n ≡ m)
told true false p = (refl, refl, cc)
told true true p = let z : ◌≡◌ {A = ℕ} 0 1 = cc in absurd (omega arith)
told false short p = let z : ◌≡◌ {A = ℕ} 0 1 = cc in absurd (omega arith)

module _ (text events : List ℕ) (edition : ℕ) (d : List ℕ) {e : List ℕ} where
  answered : {n : ℕ} → HasPacked text events edition d e (Ok n) → Answered text events edition d e n
  unfolding choose
  answered p =
      let t = told (right_lengths (length text) (length events)) (ltb (length d) (length (bundle_of text events edition))) p.answer in
      record { lengths = t.0; long = t.2; bytes = p.bytes ∙ rw (t.0, t.1) }

  has_room_lem : {r : Packed} → right_lengths (length text) (length events) ≡ true → length (bundle_of text events edition) ≤ length d → HasPacked text events edition d e r
      → (r ≡ Ok (length (bundle_of text events edition))) × (e ≡ bundle_of text events edition ++ zeros (length d - length (bundle_of text events edition)))
  unfolding choose
  has_room_lem w h p = let v = le-ltb (length d) (length (bundle_of text events edition)) h in (p.answer ∙ rw (w, v), p.bytes ∙ rw (w, v))

-- ---- what was written is read again

within : (text events : List ℕ) (edition : ℕ) → all is_byte text ≡ true → all is_byte events ≡ true → edition < 2 ^ 32 → right_lengths (length text) (length events) ≡ true → Within text events edition
within text events edition a b c p =
    let w = right (length text) (length events) p in
    record { text-bytes = a; text-length = w.text-length; event-bytes = b; event-length = w.event-length; event-records = w.event-records; edition-word = c }

call-reads : (l : List ℕ) (t v : ℕ) → least_room ≤ t → least_room ≤ v → call_of l t v ≡ read_of l
unfolding call_of
call-reads l t v h k = rw (le-leb least_room t h, le-leb least_room v k)

pub reads-back : {text events d e t v u f : List ℕ} {edition n : ℕ} {r : Answer} → all is_byte text ≡ true → all is_byte events ≡ true → edition < 2 ^ 32 → HasPacked text events edition d e (Ok n)
    → least_room ≤ length t → least_room ≤ length v → HasRead (take n e) t v u f r
    → (r ≡ Ok (record { text = length text; events = length events; edition = edition })) × (u ≡ text ++ zeros (length t - length text)) × (f ≡ events ++ zeros (length v - length events))
reads-back {text} {events} {d} {e} {t} {v} {edition = edition} {n = n} a b c p h k q =
    let s = answered text events edition d p in
    let l : take n e ≡ bundle_of text events edition = rw s.bytes (take_at (bundle_of text events edition) (zeros (length d - length (bundle_of text events edition))) n (sym s.long)) in
    let m = call-reads (take n e) (length t) (length v) h k ∙ ap read_of l ∙ read-written text events edition (within text events edition a b c s.lengths) in
    (q.answer ∙ rw m, q.text ∙ rw m, q.events ∙ rw m)

-- ---- what was read is written again

right-lengths : (text events : List ℕ) (edition : ℕ) → Within text events edition → right_lengths (length text) (length events) ≡ true
right-lengths text events edition w =
    rw (le-leb (length text) most_text w.text-length, le-leb (length events) (record_size * most_events) w.event-length, eq-eqb (length events % record_size) 0 w.event-records)

-- a call that is not refused reads
call-says : (l : List ℕ) (t v : ℕ) {text events : List ℕ} {edition : ℕ} → call_of l t v ≡ says text events edition → read_of l ≡ says text events edition
unfolding call_of
call-says l t v {text} {events} {edition} p = by (leb least_room t && leb least_room v) p
  where
    by : (b : Bool) → (if b then read_of l else refused Short) ≡ says text events edition → read_of l ≡ says text events edition
    by true q = q
    by false q = let z : ◌≡◌ {A = ℕ} 0 1 = cc in absurd (omega arith)

pub writes_again : {l t v u f d e : List ℕ} {n m edition : ℕ} {r : Packed} → all is_byte l ≡ true → HasRead l t v u f (Ok (record { text = n; events = m; edition = edition })) → length l ≤ length d → HasPacked (take n u) (take m f) edition d e r
    → (r ≡ Ok (length l)) × (e ≡ l ++ zeros (length d - length l))
writes_again {l} {t} {v} {u} {f} {d} {e} {n} {m} {edition} {r} bytes p h q = by (call_of l (length t) (length v)) refl
  where
    by : (c : Meaning) → call_of l (length t) (length v) ≡ c → (r ≡ Ok (length l)) × (e ≡ l ++ zeros (length d - length l))
    by (says text events i) k =
        let a : ◌≡◌ {A = Answer} (Ok (record { text = n; events = m; edition = edition })) (Ok (record { text = length text; events = length events; edition = i })) = p.answer ∙ ap answer_of k in
        let x : n ≡ length text = ap R.value_of a in
        let y : m ≡ length events = ap R.events_of a in
        let z : i ≡ edition = sym (ap R.edition_of a) in
        let b : take n u ≡ text = rw (p.text, k) (take_at text (zeros (length t - length text)) n (sym x)) in
        let c : take m f ≡ events = rw (p.events, k) (take_at events (zeros (length v - length events)) m (sym y)) in
        let w = written_read l text events edition bytes (call-says l (length t) (length v) (rw z at k)) in
        let g : HasPacked text events edition d e r = rw (b, c) at q in
        rw w.0 (has_room_lem text events edition d (right-lengths text events edition w.1) (rw w.0 at h) g)
    by (refused b) k =
        let a = p.answer ∙ ap answer_of k in
        let z : ◌≡◌ {A = ℕ} 0 1 = cc in
        absurd (omega arith)
