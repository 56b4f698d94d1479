-- A run that was written is judged good and holds what was given; a run that is judged good is the one that would be written. Assumes nothing.
use Rattle.std.proofs.Common.{◌≡◌, refl, ap, ◌∙◌, true, List, [], ◌∷◌, ◌++◌, append_assoc, append-nil, ℕ, zero, suc, ◌+◌, ◌-◌, ◌*◌, ◌^◌, ◌≤◌, ◌<◌, min, mul-zero, mul-suc, arith, length, take, drop, length-append, length-take, length-drop, take-append-drop, drop_of_length-le, take_all, take_at, drop_at, take-take, take-add, Ok}
use Rattle.std.proofs.Math.Decide.{dec_le}
use Rattle.std.proofs.Math.Seq.{take-append-le, drop-append-le}
use Rattle.lent.specs.Bytes.{all}
use Rattle.bundle_block.specs.Block.{is_byte, block_of, judge_block}
use Rattle.bundle_run.specs.Run.{run_of, judge_run, held_in}
use Rattle.bundle_block.proofs.Block.{drop-take, both-good}
use Rattle.bundle_run.proofs.Run.{length-held}
use Rattle.bundle_block.proofs.Words.{all_append, all_take, all_drop}
use Rattle.bundle_block.proofs.Inverse.{length-block, written-good, written_held, good-written}

module _ (edition kind room : ℕ) (r : room ≤ 500) where
  short : (given : List ℕ) → length (take room given) ≤ 500
  short given = rw length-take (omega arith)

  -- ---- a run that was written

  pub length_run : (n block : ℕ) (given : List ℕ) → length (run_of edition kind room block n given) ≡ 512 * n
  unfolding run_of
  length_run zero block given = refl
  length_run (suc n) block given =
      let i = length_run n (block + 1) (drop room given) in
      rw (length-append, length-block edition block kind (take room given) (short given)) (omega arith)

  -- its first block, and what follows
  module _ (n block : ℕ) (given rest : List ℕ) where
    one : List ℕ
    one = block_of edition block kind (take room given)

    more : List ℕ
    more = run_of edition kind room (block + 1) n (drop room given) ++ rest

    split : run_of edition kind room block (suc n) given ++ rest ≡ one ++ more
    unfolding run_of one more
    split = append_assoc (block_of edition block kind (take room given)) (run_of edition kind room (block + 1) n (drop room given)) rest

    take-one : take 512 (run_of edition kind room block (suc n) given ++ rest) ≡ one
    unfolding one
    take-one = rw split (take_at one more 512 (length-block edition block kind (take room given) (short given)))

    drop-one : drop 512 (run_of edition kind room block (suc n) given ++ rest) ≡ more
    unfolding one
    drop-one = rw split (drop_at one more 512 (length-block edition block kind (take room given) (short given)))

  pub run-good : edition < 256 ^ 4 → kind < 256 ^ 1 → (n block : ℕ) (given rest : List ℕ) → block + n ≤ 65536 → all is_byte given ≡ true
      → judge_run edition kind room block n (length given) (run_of edition kind room block n given ++ rest) ≡ Ok tt
  unfolding judge_run one more
  run-good e k zero block given rest h p = refl
  run-good e k (suc n) block given rest h p =
      rw (
        take-one n block given rest,
        drop-one n block given rest,
        ← length-take room given,
        ← length-drop room given,
        written-good edition block kind (take room given) (short given) e (omega arith) k (all_take is_byte room given p),
      )
      (run-good e k n (block + 1) (drop room given) rest (omega arith) (all_drop is_byte room given p))

  pub run-held : (n block : ℕ) (given rest : List ℕ) → length given ≤ room * n → held_in room n (length given) (run_of edition kind room block n given ++ rest) ≡ given
  unfolding held_in one more
  run-held zero block [] rest h = refl
  run-held zero block (x ∷ given) rest h = let z = mul-zero room in absurd (omega arith)
  run-held (suc n) block given rest h =
      let long = length-block edition block kind (take room given) (short given) in
      let s = mul-suc room n in
      let m : length (take room given) ≤ length (drop 8 (one n block given rest)) = simp (length-take, length-drop, long) (omega arith) in
      let i : length (drop room given) ≤ room * n = rw length-drop (omega arith) in
      rw (
        drop-one n block given rest,
        split n block given rest,
        ← length-take room given,
        ← length-drop room given,
        drop-append-le 8 (one n block given rest) (more n block given rest) (rw long (omega arith)),
        take-append-le (length (take room given)) (drop 8 (one n block given rest)) (more n block given rest) m,
        written_held edition block kind (take room given) (short given),
        run-held n (block + 1) (drop room given) rest i,
      )
      (take-append-drop room given)

  -- ---- a run that is judged good

  -- what its first block holds, and what the others do, can be told apart again
  module _ (n used : ℕ) (l : List ℕ) (h : used ≤ room * suc n) (long : 512 * suc n ≤ length l) where
    first : List ℕ
    first = take (min room used) (drop 8 l)

    others : List ℕ
    others = held_in room n (used - room) (drop 512 l)

    length-first : length first ≡ min room used
    unfolding first
    length-first = simp (length-take, length-drop) (omega arith)

    length-others : length others ≡ used - room
    unfolding others
    length-others = let s = mul-suc room n in length-held room n (used - room) (drop 512 l) r (omega arith) (rw length-drop (omega arith))

    nothing : (s : List ℕ) → length s ≡ 0 → s ≡ []
    nothing [] p = refl
    nothing (x ∷ s) p = absurd (omega arith)

    take-first : take room (first ++ others) ≡ first
    take-first =
        let a = length-first in
        let b = length-others in
        elim (dec_le room used) [
          | yes i ↦ take_at first others room (omega arith)
          | no i ↦ let z : others ≡ [] = nothing others (omega arith) in rw (z, append-nil) (take_all room first (omega arith))
        ]

    drop-first : drop room (first ++ others) ≡ others
    drop-first =
        let a = length-first in
        let b = length-others in
        elim (dec_le room used) [
          | yes i ↦ drop_at first others room (omega arith)
          | no i ↦ let z : others ≡ [] = nothing others (omega arith) in let k : length first ≤ room = omega arith in rw (z, append-nil) (drop_of_length-le first k)
        ]

  pub good-run : (n block used : ℕ) (l : List ℕ) → all is_byte l ≡ true → used ≤ room * n → 512 * n ≤ length l → judge_run edition kind room block n used l ≡ Ok tt
      → take (512 * n) l ≡ run_of edition kind room block n (held_in room n used l)
  unfolding judge_run held_in run_of first others
  good-run zero block used l b h long p = refl
  good-run (suc n) block used l b h long p =
      let s = mul-suc room n in
      let q = both-good (judge_block edition block kind (min room used) (take 512 l)) (judge_run edition kind room (block + 1) n (used - room) (drop 512 l)) p in
      let e : 512 * suc n ≡ 512 + 512 * n = omega arith in
      let w = good-written edition block kind (min room used) (take 512 l) (all_take is_byte 512 l b) (rw length-take (omega arith)) (omega arith) q.0 in
      let v : take (min room used) (drop 8 (take 512 l)) ≡ take (min room used) (drop 8 l) = rw (drop-take 8 512 l) (take-take (min room used) 504 (drop 8 l) (omega arith)) in
      let i = good-run n (block + 1) (used - room) (drop 512 l) (all_drop is_byte 512 l b) (omega arith) (rw length-drop (omega arith)) q.1 in
      rw (e, take-add 512 (512 * n) l, i, take-first n used l h long, drop-first n used l h long)
      (ap (λ (x : List ℕ). x ++ run_of edition kind room (block + 1) n (held_in room n (used - room) (drop 512 l))) (w ∙ ap (block_of edition block kind) v))

pub bytes-held : (room n used : ℕ) (l : List ℕ) → all is_byte l ≡ true → all is_byte (held_in room n used l) ≡ true
unfolding held_in
bytes-held room zero used l p = refl
bytes-held room (suc n) used l p =
    all_append is_byte (take (min room used) (drop 8 l)) (held_in room n (used - room) (drop 512 l)) (all_take is_byte (min room used) (drop 8 l) (all_drop is_byte 8 l p))
    (bytes-held room n (used - room) (drop 512 l) (all_drop is_byte 512 l p))
