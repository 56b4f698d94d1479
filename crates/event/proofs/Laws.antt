-- The laws of event records: what other crates cite. Assumes nothing.
use Rattle.std.proofs.Common.{◌≡◌, refl, sym, ap, ◌∙◌, List, [], ◌∷◌, ℕ, zero, suc, ◌+◌, ◌-◌, ◌*◌, ◌/◌, ◌%◌, ◌^◌, ◌≤◌, ◌<◌, zero-add, lt_of_lt_of_le, add-one, arith, bit_and, pow_mono, length, take, drop, get_or, drop_of_length-le, take_all, take-add, drop-drop, get_or-take, get_or-drop}
use Rattle.std.proofs.Math.Nat.{div-eq_of_lt}
use lib.Bits.{and_mask}
use Rattle.little.specs.Little.{little, field}
use Rattle.little.proofs.Laws.{one_byte, number-little, little-field, field_below}
use Rattle.event.specs.declared.Event.{Event}
use Rattle.event.specs.Event.{event_of, event_at, events_in, events_of, record_of, Fits, columns_of, alignment_of, alignments_from, alignments_of}

-- ---- packing and decoding are inverse

pub event-of-record : (e : Event) → Fits e → event_of (record_of e) ≡ e
unfolding event_of record_of little
event-of-record e fits =
    rw (
      number-little 1 e.kind fits.kind,
      number-little 1 e.name fits.name,
      number-little 1 e.before fits.before,
      number-little 1 e.after fits.after,
      number-little 4 e.from.0 fits.from,
      number-little 4 e.to.0 fits.to,
      number-little 8 e.extra fits.extra,
    )

pub record-of-event : (r : List ℕ) → length r ≡ 20 → ((k : ℕ) → get_or r k 0 < 256) → record_of (event_of r) ≡ r
unfolding event_of record_of
record-of-event r h below =
    rw (
      little-field 0 1 r (omega arith) below,
      little-field 1 1 r (omega arith) below,
      little-field 2 1 r (omega arith) below,
      little-field 3 1 r (omega arith) below,
      little-field 4 4 r (omega arith) below,
      little-field 8 4 r (omega arith) below,
      little-field 12 8 r (omega arith) below,
      ← take-add 1 1 r,
      ← take-add 2 1 r,
      ← take-add 3 1 r,
      ← take-add 4 4 r,
      ← take-add 8 4 r,
      ← take-add 12 8 r,
    )
    (take_all 20 r (omega arith))

-- so what is decoded fits
pub event-fits : (r : List ℕ) → ((k : ℕ) → get_or r k 0 < 256) → Fits (event_of r)
unfolding event_of
event-fits r below =
    record {
      kind = field_below 0 1 r below;
      name = field_below 1 1 r below;
      before = field_below 2 1 r below;
      after = field_below 3 1 r below;
      from = field_below 4 4 r below;
      to = field_below 8 4 r below;
      extra = field_below 12 8 r below;
    }

-- ---- the events of a buffer, by index

event-behind : (b : List ℕ) (i : ℕ) → event_at (drop 20 b) i ≡ event_at b (suc i)
unfolding event_at
event-behind b i = let n : 20 + 20 * i ≡ 20 * suc i = omega arith in rw (drop-drop, n)

length-in : (n : ℕ) (b : List ℕ) → length (events_in n b) ≡ n
unfolding events_in
length-in zero b = refl
length-in (suc n) b = ap suc (length-in n (drop 20 b))

next-in : (n : ℕ) (b : List ℕ) (i : ℕ) → i < n → drop i (events_in n b) ≡ event_at b i ∷ drop (suc i) (events_in n b)
unfolding events_in event_at
next-in zero b i h = absurd (omega arith)
next-in (suc n) b zero h = refl
next-in (suc n) b (suc i) h = next-in n (drop 20 b) i (omega arith) ∙ rw (event-behind b i)

module _ (b : List ℕ) where
  pub length-events : length (events_of b) ≡ length b / 20
  unfolding events_of
  length-events = length-in (length b / 20) b

  -- a loop's step: from i on there are event i, then those from i + 1 on
  pub events-next : (i : ℕ) → i < length b / 20 → drop i (events_of b) ≡ event_at b i ∷ drop (i + 1) (events_of b)
  unfolding events_of
  events-next i h = rw (add-one, next-in (length b / 20) b i h)

  -- and its end
  pub events-end : (i : ℕ) → length b / 20 ≤ i → drop i (events_of b) ≡ []
  events-end i h = let l : length (events_of b) ≤ i = rw length-events h in drop_of_length-le (events_of b) l

  pub event-at : (i : ℕ) (d : Event) → i < length b / 20 → get_or (events_of b) i d ≡ event_at b i
  event-at i d h =
      let n : i + 0 ≡ i = omega arith in
      let e : get_or (drop i (events_of b)) 0 d ≡ get_or (events_of b) i d = rw (get_or-drop, n) in
      sym e ∙ rw (events-next i h)

-- ---- the extra field: shift and mask are / and %

pub masked-columns : (x : ℕ) → bit_and x 255 ≡ x % 256
masked-columns x = and_mask x 8

pub masked-alignment : (x : ℕ) → bit_and x 3 ≡ x % 4
masked-alignment x = and_mask x 2

-- it has no bits from bit 64 on
pub past-extra : (x column : ℕ) → x < 2 ^ 64 → 27 < column → 0 ≡ x / 2 ^ (8 + 2 * column) % 4
past-extra x column h k =
    let n : 64 ≤ 8 + 2 * column = omega arith in
    rw (div-eq_of_lt (lt_of_lt_of_le h (pow_mono n)))

-- the alignments, by column

length_from : (column n : ℕ) (e : Event) → length (alignments_from column n e) ≡ n
unfolding alignments_from
length_from column zero e = refl
length_from column (suc n) e = ap suc (length_from (column + 1) n e)

at_from : (column n : ℕ) (e : Event) (k : ℕ) → k < n → get_or (alignments_from column n e) k 0 ≡ alignment_of e (column + k)
unfolding alignments_from
at_from column zero e k h = absurd (omega arith)
at_from column (suc n) e zero h = let m : column + 0 ≡ column = omega arith in rw m
at_from column (suc n) e (suc k) h =
    let m : column + 1 + k ≡ column + suc k = omega arith in
    rw (at_from (column + 1) n e k (omega arith), m)

module _ (e : Event) where
  pub length-alignments : length (alignments_of e) ≡ columns_of e
  unfolding alignments_of
  length-alignments = length_from 0 (columns_of e) e

  pub alignment-at : (column : ℕ) → column < columns_of e → get_or (alignments_of e) column 0 ≡ alignment_of e column
  unfolding alignments_of
  alignment-at column h = at_from 0 (columns_of e) e column h ∙ rw zero-add

-- ---- the code's own cases

pub decoded : (l : List ℕ) {f t x : ℕ} → f ≡ field 4 4 l → t ≡ field 8 4 l → x ≡ field 12 8 l
    → ◌≡◌ {A = Event} (record { kind = get_or l 0 0; name = get_or l 1 0; before = get_or l 2 0; after = get_or l 3 0; from = record { 0 = f }; to = record { 0 = t }; extra = x }) (event_of l)
unfolding event_of
decoded l p q r = rw (p, q, r, one_byte 0, one_byte 1, one_byte 2, one_byte 3)

module _ (b : List ℕ) (i : ℕ) where
  pub read_at : {e : Event} → e ≡ event_of (take (20 * i + 20 - 20 * i) (drop (20 * i) b)) → e ≡ event_at b i
  unfolding event_at
  read_at p = let n : 20 * i + 20 - 20 * i ≡ 20 = omega arith in rw n at p

  byte-read : (k : ℕ) → k < 20 → get_or b (20 * i + k) 0 ≡ field k 1 (take 20 (drop (20 * i) b))
  byte-read k h = sym (get_or-take 20 (drop (20 * i) b) k 0 h ∙ get_or-drop (20 * i) b k 0) ∙ one_byte k (take 20 (drop (20 * i) b))

  pub kind-read : get_or b (20 * i + 0) 0 ≡ (event_at b i).kind
  unfolding event_at event_of
  kind-read = byte-read 0 (omega arith)

  pub name-read : get_or b (20 * i + 1) 0 ≡ (event_at b i).name
  unfolding event_at event_of
  name-read = byte-read 1 (omega arith)
