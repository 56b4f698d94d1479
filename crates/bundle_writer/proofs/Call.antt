-- The call: what it answers and leaves in each case, and that two results that meet the contract are equal. Assumes nothing.
use Rattle.std.proofs.Common.{Ok, Err, ◌≡◌, refl, sym, ap, ◌∙◌, Bool, true, false, not, ◌&&◌, List, ◌++◌, ℕ, ◌+◌, ◌-◌, ◌*◌, ◌%◌, ◌≤◌, ◌<◌, arith, leb-true, eqb-true, lt-ltb, le-ltb, eqb, leb, length, take}
use Rattle.lent.specs.Fill.{fill, zeros}
use Rattle.lent.specs.declared.Writer.{Writer}
use Rattle.lent.specs.Writer.{Writes, Clears}
use Rattle.lent.proofs.Writing.{length-written}
use Rattle.bundle_block.proofs.Block.{both_true}
use Rattle.bundle_read.specs.Bundle.{blocks_for, bundle_of}
use Rattle.bundle_read.specs.Sizes.{most_text, most_events, record_size, text_room, event_room}
use Rattle.bundle_read.proofs.Inverse.{length-bundle}
use Rattle.bundle_writer.specs.Packed.{Packed, right_lengths, choose, HasPacked}
use Rattle.bundle_writer.specs.declared.WriteRefusal.TheVariants.{WrongLength, NoRoom}
use Rattle.bundle_writer.proofs.Parts.{take-filled}

-- two results that meet the contract are equal
pub unique : {text events d e f : List ℕ} {edition : ℕ} {a b : Packed} → HasPacked text events edition d e a → HasPacked text events edition d f b → (a ≡ b) × (e ≡ f)
unique p q = (p.answer ∙ sym q.answer, p.bytes ∙ sym q.bytes)

-- ---- what the lengths are held to

pub record Right (text events : ℕ) : Type 0 where
  pub text-length : text ≤ most_text
  pub event-length : events ≤ record_size * most_events
  pub event-records : events % record_size ≡ 0

pub right : (text events : ℕ) → right_lengths text events ≡ true → Right text events
right text events p =
    let a = both_true (leb text most_text && leb events (record_size * most_events)) (eqb (events % record_size) 0) p in
    let b = both_true (leb text most_text) (leb events (record_size * most_events)) a.0 in
    record { text-length = leb-true text most_text b.0; event-length = leb-true events (record_size * most_events) b.1; event-records = eqb-true (events % record_size) 0 a.1 }

taken : (x : Bool) → not x ≡ false → x ≡ true
taken true p = refl
taken false p = sym p

refused : (x : Bool) → not x ≡ true → x ≡ false
refused true p = sym p
refused false p = refl

module _ (text events : ℕ) {x : Bool} (p : x ≡ right_lengths text events) (q : not x ≡ false) where
  pub text-right : text ≤ most_text
  text-right = (right text events (sym p ∙ taken x q)).text-length

  pub events-right : events ≤ record_size * most_events
  events-right = (right text events (sym p ∙ taken x q)).event-length

-- ---- the three cases

pub cleared : (d : List ℕ) {e : List ℕ} → e ≡ take 0 d ++ zeros (length d - 0) → e ≡ zeros (length d)
cleared d p = let z : length d - 0 ≡ length d = omega arith in rw z at p

module _ (text events : List ℕ) (edition : ℕ) (d : List ℕ) {x : Bool} (p : x ≡ right_lengths (length text) (length events)) where
  pub lengths-wrong : {e : List ℕ} {r : Packed} → not x ≡ true → r ≡ Err WrongLength → e ≡ zeros (length d) → HasPacked text events edition d e r
  unfolding choose
  lengths-wrong q r s = let w = sym p ∙ refused x q in record { answer = rw w r; number = rw (w, r); value = rw (w, r); bytes = rw w s }

  module _ {n : ℕ} (q : not x ≡ false) (k : n ≡ 512 * (1 + blocks_for text_room (length text) + blocks_for event_room (length events))) where
    pub room-lacks : {e : List ℕ} {r : Packed} → length d < n → r ≡ Err NoRoom → e ≡ zeros (length d) → HasPacked text events edition d e r
    unfolding choose
    room-lacks h r s =
        let l = length-bundle text events edition in
        let w = sym p ∙ taken x q in
        let v = lt-ltb (length d) (length (bundle_of text events edition)) (omega arith) in
        record { answer = rw (w, v) r; number = rw (w, v, r); value = rw (w, v, r); bytes = rw (w, v) s }

    pub bundle-packed : {u v w : Writer} → n ≤ length d → u.at ≡ 0 → u.bytes.now ≡ d → Writes (bundle_of text events edition) u v → Clears v w → HasPacked text events edition d w.bytes.now (Ok n)
    unfolding choose
    bundle-packed {u} {v} {w} h z o r s =
        let b = bundle_of text events edition in
        let l = k ∙ sym (length-bundle text events edition) in
        let m = sym p ∙ taken x q in
        let g = le-ltb (length d) (length b) (omega arith) in
        let a : length v.bytes.now ≡ length d = length-written r ∙ ap length o in
        let c : v.bytes.now ≡ fill d 0 b = rw (z, o) at r.filled.bytes in
        let e : v.at ≡ length b = (let y = r.filled.place in let t : length u.bytes.now ≡ length d = ap length o in omega arith) in
        let t : take (length b) v.bytes.now ≡ b = rw c (take-filled d b (omega arith)) in
        record { answer = rw (m, g, l); number = rw (m, g); value = rw (m, g) l; bytes = rw (m, g) (s.bytes ∙ rw (e, a, t)) }
