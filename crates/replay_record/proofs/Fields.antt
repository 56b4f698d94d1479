-- What the code goes by on a record: a test taken, and the fields that it reads byte by byte. Assumes nothing.
use Rattle.std.proofs.Common.{◌≡◌, refl, sym, ◌∙◌, Bool, true, false, ◌&&◌, List, [], ◌∷◌, ℕ, zero, suc, ◌+◌, ◌*◌, ◌<◌, arith, ltb-true, lt-ltb, le-ltb, ne_eqb, eqb, ltb, length, take, drop, get_or, length-drop, drop-drop, take_all, w8, Fits}
use Rattle.std.proofs.Math.Bool.{and_assoc}
use Rattle.lent.specs.Bytes.{all}
use Rattle.lent.proofs.Laws.{next, and_left, and_right}
use Rattle.bundle_block.specs.Block.{number, field, is_zero}
use Rattle.replay_record.specs.declared.Action.TheVariants.{Stage, Swap, Show}
use Rattle.replay_record.specs.declared.Record.{Record}
use Rattle.replay_record.specs.declared.Record.TheVariants.{Does, End, Faulty}
use Rattle.replay_record.specs.Record.{zero_in, note_in, edition_in, zeros_in, is_plain, end_of, stage_of, swap_of, act_of, record_of}

-- ---- tests

module _ (note edition : ℕ) where
  pub ends : (eqb note 0 && eqb edition 0) ≡ true → End ≡ end_of note edition
  ends p = rw p

  pub ends-not : (eqb note 0 && eqb edition 0) ≡ false → Faulty ≡ end_of note edition
  ends-not p = rw p

  pub stages : (edition ≡ 0 → ⊥) → Does (Stage note edition) ≡ stage_of note edition
  stages p = rw (ne_eqb edition 0 p)

  pub swaps-not : (edition ≡ 0 → ⊥) → Faulty ≡ swap_of note edition
  swaps-not p = rw (ne_eqb edition 0 p)

  pub stages-not : edition ≡ 0 → Faulty ≡ stage_of note edition
  stages-not p = rw p

  pub swaps : edition ≡ 0 → Does (Swap note) ≡ swap_of note edition
  swaps p = rw p

module _ (action note edition : ℕ) where
  pub act-0 : {r : Record} → action ≡ 0 → r ≡ end_of note edition → r ≡ act_of action note edition
  unfolding act_of
  act-0 p q = rw p q

  pub act-1 : {r : Record} → action ≡ 1 → r ≡ stage_of note edition → r ≡ act_of action note edition
  unfolding act_of
  act-1 p q = rw p q

  pub act-2 : {r : Record} → action ≡ 2 → r ≡ swap_of note edition → r ≡ act_of action note edition
  unfolding act_of
  act-2 p q = rw p q

  pub act-3 : action ≡ 3 → Does (Show note edition) ≡ act_of action note edition
  unfolding act_of
  act-3 p = rw p

  pub act-none : (action ≡ 0 → ⊥) → (action ≡ 1 → ⊥) → (action ≡ 2 → ⊥) → (action ≡ 3 → ⊥) → Faulty ≡ act_of action note edition
  unfolding act_of
  act-none a b c d = rw (ne_eqb action 0 a, ne_eqb action 1 b, ne_eqb action 2 c, ne_eqb action 3 d)

-- ---- fields

-- a number is zero where each of its bytes is
zero_more : (b n : ℕ) → eqb (b + 256 * n) 0 ≡ (eqb b 0 && eqb n 0)
zero_more zero zero = refl
zero_more zero (suc n) = rw (ne_eqb (0 + 256 * suc n) 0 (λ e. omega arith), ne_eqb (suc n) 0 (λ e. omega arith))
zero_more (suc b) n = rw (ne_eqb (suc b + 256 * n) 0 (λ e. omega arith), ne_eqb (suc b) 0 (λ e. omega arith))

number-zero : (l : List ℕ) → eqb (number l) 0 ≡ all is_zero l
unfolding number
number-zero [] = refl
number-zero (b ∷ l) = rw (zero_more b (number l), number-zero l)

all_split : (n : ℕ) (l : List ℕ) → (all is_zero (take n l) && all is_zero (drop n l)) ≡ all is_zero l
all_split zero l = refl
all_split (suc n) [] = refl
all_split (suc n) (b ∷ l) = and_assoc (is_zero b) (all is_zero (take n l)) (all is_zero (drop n l)) ∙ rw (all_split n l)

one_byte : (l : List ℕ) (at : ℕ) → at < length l → field at 1 l ≡ get_or l at 0
unfolding number
one_byte l at h = rw (next l at h) (omega arith)

pub two_bytes : (l : List ℕ) (at : ℕ) → at + 1 < length l → field at 2 l ≡ get_or l at 0 + 256 * get_or l (at + 1) 0
unfolding number
two_bytes l at h = rw (next l at (omega arith), next l (at + 1) h) (omega arith)

-- a note is below 256 where its upper byte is zero
upper-zero : (a b : ℕ) → a < 256 → ltb (a + 256 * b) 256 ≡ eqb b 0
upper-zero a zero h = lt-ltb (a + 256 * 0) 256 (omega arith)
upper-zero a (suc b) h = rw (le-ltb (a + 256 * suc b) 256 (omega arith), ne_eqb (suc b) 0 (λ e. omega arith))

module _ (l : List ℕ) (h : length l ≡ 16) where
  zeros-found : (eqb (field 8 4 l) 0 && eqb (field 12 4 l) 0) ≡ all is_zero (drop 8 l)
  zeros-found =
      let t : take 4 (drop 12 l) ≡ drop 12 l = take_all 4 (drop 12 l) (rw length-drop (omega arith)) in
      rw (number-zero (take 4 (drop 8 l)), number-zero (take 4 (drop 12 l)), t, ← all_split 4 (drop 8 l), drop-drop 4 8 l)

  pub plain-found : (f : (k : ℕ) → Fits w8 (get_or l k 0)) {a b : ℕ} {r : Bool} → a ≡ field 8 4 l → b ≡ field 12 4 l
      → r ≡ (eqb (get_or l 1 0) 0 && eqb (get_or l 3 0) 0 && eqb a 0 && eqb b 0) → r ≡ is_plain l
  plain-found f {a} {b} p q e =
      e ∙ and_assoc (eqb (get_or l 1 0) 0 && eqb (get_or l 3 0) 0) (eqb a 0) (eqb b 0)
      ∙ rw (p, q, zeros-found, one_byte l 1 (omega arith), two_bytes l 2 (omega arith), upper-zero (get_or l 2 0) (get_or l 3 0) (omega (arith, f 2)))

  note-byte : (f : (k : ℕ) → Fits w8 (get_or l k 0)) → is_plain l ≡ true → note_in l ≡ get_or l 2 0
  note-byte f v =
      let w = ltb-true (note_in l) 256 (and_right (eqb (zero_in l) 0) (ltb (note_in l) 256) (and_left (eqb (zero_in l) 0 && ltb (note_in l) 256) (all is_zero (zeros_in l)) v)) in
      let t = two_bytes l 2 (omega arith) in
      omega arith

  pub record-acted : (f : (k : ℕ) → Fits w8 (get_or l k 0)) {e : ℕ} {b : Bool} {r : Record} → e ≡ edition_in l → b ≡ is_plain l → b ≡ true → r ≡ act_of (get_or l 0 0) (get_or l 2 0) e → r ≡ record_of l
  unfolding record_of
  record-acted f {e} q p t k =
      let v : is_plain l ≡ true = sym p ∙ t in
      rw (v, one_byte l 0 (omega arith), note-byte f v, ← q) k

  pub record-faulty : {b : Bool} → b ≡ is_plain l → b ≡ false → Faulty ≡ record_of l
  unfolding record_of
  record-faulty p t = rw (← p, t)
