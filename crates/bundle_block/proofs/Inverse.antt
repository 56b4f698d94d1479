-- A block that was written is judged good and holds what was written; a block that is judged good is the one that would be written. Assumes nothing.
use Rattle.std.proofs.Common.{◌≡◌, refl, sym, ap, ◌∙◌, true, ◌&&◌, List, [], ◌∷◌, ◌++◌, ℕ, ◌+◌, ◌-◌, ◌^◌, ◌≤◌, ◌<◌, arith, eqb-true, eq-eqb, Ok, eqb, length, take, drop, length-append, length-take, length-drop, take-append-drop, take_all, take_at, drop_at, take-take, take-add}
use Rattle.std.proofs.Math.ListN.{length-replicate}
use Rattle.std.proofs.Math.Seq.{drop-append_seam, take-append_seam}
use Rattle.lent.specs.Bytes.{all}
use Rattle.lent.specs.Fill.{zeros}
use Rattle.bundle_block.specs.declared.Refusal.TheVariants.{Broken, BadCheck, OtherEdition}
use Rattle.little.proofs.Laws.{length-little, number-little}
use Rattle.bundle_block.specs.Block.{is_byte, little, number, field, check_of, front_of, block_of, edition_in, number_in, kind_in, zero_in, payload_in, check_in, is_zero, ◌before◌, judge_check, judge_edition, judge_order, judge_block}
use Rattle.bundle_block.proofs.Block.{demanded, both_true, both-good}
use Rattle.bundle_block.proofs.Words.{all_append, all_take, all_drop, all-zeros, zeros-alone, bytes-little, little-number, check-small}

-- ---- what a good verdict says

record Fields (edition block kind used : ℕ) (b : List ℕ) : Type 0 where
  check : check_in b ≡ check_of (take 508 b)
  edition-field : edition_in b ≡ edition
  number-field : number_in b ≡ block
  kind-field : kind_in b ≡ kind
  zero_field : zero_in b ≡ 0
  unused : all is_zero (drop used (payload_in b)) ≡ true

module _ (edition block kind used : ℕ) (b : List ℕ) where
  good-fields : Fields edition block kind used b → judge_block edition block kind used b ≡ Ok tt
  unfolding judge_block judge_check judge_edition judge_order
  good-fields p =
      rw (
        p.check,
        eq-eqb (check_of (take 508 b)) (check_of (take 508 b)) refl,
        p.edition-field,
        eq-eqb edition edition refl,
        p.number-field,
        eq-eqb block block refl,
        p.kind-field,
        eq-eqb kind kind refl,
        p.zero_field,
        p.unused,
      )

  fields-good : judge_block edition block kind used b ≡ Ok tt → Fields edition block kind used b
  unfolding judge_block judge_check judge_edition judge_order
  fields-good p =
      let check = eqb (check_in b) (check_of (take 508 b)) in
      let same = eqb (edition_in b) edition in
      let number = eqb (number_in b) block in
      let kinds = eqb (kind_in b) kind in
      let zeroes = eqb (zero_in b) 0 in
      let rest = all is_zero (drop used (payload_in b)) in
      let c = both-good (judge_check block b) (judge_edition edition block b before judge_order block kind used b) p in
      let e = both-good (judge_edition edition block b) (judge_order block kind used b) c.1 in
      let o = demanded (number && kinds && zeroes && rest) (Broken block) e.1 in
      let r = both_true (number && kinds && zeroes) rest o in
      let z = both_true (number && kinds) zeroes r.0 in
      let k = both_true number kinds z.0 in
      record {
        check = eqb-true (check_in b) (check_of (take 508 b)) (demanded check (BadCheck block) c.0);
        edition-field = eqb-true (edition_in b) edition (demanded same (OtherEdition block) e.0);
        number-field = eqb-true (number_in b) block k.0;
        kind-field = eqb-true (kind_in b) kind k.1;
        zero_field = eqb-true (zero_in b) 0 z.1;
        unused = r.1;
      }

-- ---- a block that was written

module _ (edition block kind : ℕ) (payload : List ℕ) (fits : length payload ≤ 500) where
  padded : length (payload ++ zeros (500 - length payload)) ≡ 500
  padded = simp (length-append, length-replicate) (omega arith)

  length_front : length (front_of edition block kind payload) ≡ 508
  unfolding front_of little
  length_front = let p = padded in omega arith

  pub length-block : length (block_of edition block kind payload) ≡ 512
  unfolding block_of
  length-block = rw (length-append, length_front, length-little)

  -- its words, its first 508 bytes, its check, and its payload
  pub edition-in : take 4 (drop 0 (block_of edition block kind payload)) ≡ little 4 edition
  unfolding block_of front_of little
  edition-in = refl

  number-in : take 2 (drop 4 (block_of edition block kind payload)) ≡ little 2 block
  unfolding block_of front_of little
  number-in = refl

  kind-in : take 1 (drop 6 (block_of edition block kind payload)) ≡ little 1 kind
  unfolding block_of front_of little
  kind-in = refl

  zero_in_lem : zero_in (block_of edition block kind payload) ≡ 0
  unfolding block_of front_of little number
  zero_in_lem = refl

  front-in : take 508 (block_of edition block kind payload) ≡ front_of edition block kind payload
  unfolding block_of
  front-in = take_at (front_of edition block kind payload) (little 4 (check_of (front_of edition block kind payload))) 508 length_front

  check-in : take 4 (drop 508 (block_of edition block kind payload)) ≡ little 4 (check_of (front_of edition block kind payload))
  unfolding block_of
  check-in =
      rw (drop_at (front_of edition block kind payload) (little 4 (check_of (front_of edition block kind payload))) 508 length_front)
      (take_all 4 (little 4 (check_of (front_of edition block kind payload))) (rw length-little (omega arith)))

  payload-in : payload_in (block_of edition block kind payload) ≡ payload ++ zeros (500 - length payload)
  unfolding block_of front_of little
  payload-in = take_at (payload ++ zeros (500 - length payload)) (little 4 (check_of (front_of edition block kind payload))) 500 padded

  bytes-front : all is_byte payload ≡ true → all is_byte (front_of edition block kind payload) ≡ true
  unfolding front_of
  bytes-front p =
      let words = all_append is_byte (little 4 edition) (little 2 block) (bytes-little 4 edition) (bytes-little 2 block) in
      let head = all_append is_byte (little 4 edition ++ little 2 block) (little 1 kind) words (bytes-little 1 kind) in
      let used = all_append is_byte (little 4 edition ++ little 2 block ++ little 1 kind) (0 ∷ payload) head p in
      all_append is_byte (little 4 edition ++ little 2 block ++ little 1 kind ++ 0 ∷ payload) (zeros (500 - length payload)) used (all-zeros is_byte refl (500 - length payload))

  -- it is judged good, and holds the payload
  pub written-good : edition < 256 ^ 4 → block < 256 ^ 2 → kind < 256 ^ 1 → all is_byte payload ≡ true → judge_block edition block kind (length payload) (block_of edition block kind payload) ≡ Ok tt
  written-good e n k p =
      good-fields edition block kind (length payload) (block_of edition block kind payload)
      (record {
        check = rw (check-in, front-in) (number-little 4 (check_of (front_of edition block kind payload)) (check-small (front_of edition block kind payload) (bytes-front p) length_front));
        edition-field = rw edition-in (number-little 4 edition e);
        number-field = rw number-in (number-little 2 block n);
        kind-field = rw kind-in (number-little 1 kind k);
        zero_field = zero_in_lem;
        unused = rw (payload-in, drop-append_seam payload (zeros (500 - length payload))) (all-zeros is_zero refl (500 - length payload));
      })

  pub written_held : take (length payload) (drop 8 (block_of edition block kind payload)) ≡ payload
  written_held = sym (take-take (length payload) 500 (drop 8 (block_of edition block kind payload)) fits) ∙ rw payload-in (take-append_seam payload (zeros (500 - length payload)))

-- ---- a block that is judged good

-- a word of a list of bytes, written again
pub word : (b : List ℕ) (at n : ℕ) → all is_byte b ≡ true → at + n ≤ length b → little n (field at n b) ≡ take n (drop at b)
word b at n p h =
    let m : length (take n (drop at b)) ≡ n = simp (length-take, length-drop) (omega arith) in
    let w = little-number (take n (drop at b)) (all_take is_byte n (drop at b) (all_drop is_byte at b p)) in
    rw m at w

module _ (edition block kind used : ℕ) (b : List ℕ) (bytes : all is_byte b ≡ true) (long : length b ≡ 512) (fits : used ≤ 500) where
  -- its first 508 bytes, field by field
  parts : take 508 b ≡ take 4 (drop 0 b) ++ take 2 (drop 4 b) ++ take 1 (drop 6 b) ++ take 1 (drop 7 b) ++ take 500 (drop 8 b)
  parts =
      take-add 8 500 b
      ∙ rw (take-add 7 1 b, take-add 6 1 b, take-add 4 2 b)

  payload-again : all is_zero (drop used (payload_in b)) ≡ true → payload_in b ≡ take used (drop 8 b) ++ zeros (500 - length (take used (drop 8 b)))
  payload-again z =
      let n : length (drop used (payload_in b)) ≡ 500 - length (take used (drop 8 b)) = simp (length-drop, length-take) (omega arith) in
      sym (take-append-drop used (take 500 (drop 8 b)))
      ∙ rw (take-take used 500 (drop 8 b) fits, zeros-alone (drop used (payload_in b)) z, n)

  module _ (f : Fields edition block kind used b) where
    front-again : take 508 b ≡ front_of edition block kind (take used (drop 8 b))
    unfolding front_of little
    front-again =
        let e : take 4 (drop 0 b) ≡ little 4 edition = sym (word b 0 4 bytes (omega arith)) ∙ ap (little 4) f.edition-field in
        let n : take 2 (drop 4 b) ≡ little 2 block = sym (word b 4 2 bytes (omega arith)) ∙ ap (little 2) f.number-field in
        let k : take 1 (drop 6 b) ≡ little 1 kind = sym (word b 6 1 bytes (omega arith)) ∙ ap (little 1) f.kind-field in
        let z : take 1 (drop 7 b) ≡ 0 ∷ [] = sym (word b 7 1 bytes (omega arith)) ∙ ap (little 1) f.zero_field in
        parts ∙ rw (e, n, k, z, payload-again f.unused)

    check-again : drop 508 b ≡ little 4 (check_of (take 508 b))
    check-again =
        let h : length (drop 508 b) ≤ 4 = rw length-drop (omega arith) in
        sym (take_all 4 (drop 508 b) h) ∙ sym (word b 508 4 bytes (omega arith)) ∙ ap (little 4) f.check

    again : b ≡ block_of edition block kind (take used (drop 8 b))
    unfolding block_of
    again = sym (take-append-drop 508 b) ∙ rw (check-again, front-again)

  -- it is the one that would be written
  pub good-written : judge_block edition block kind used b ≡ Ok tt → b ≡ block_of edition block kind (take used (drop 8 b))
  good-written p = again (fields-good edition block kind used b p)
