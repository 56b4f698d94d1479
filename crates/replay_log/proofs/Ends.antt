-- The end of a log: what is known then is its replay. Assumes nothing.
use Rattle.std.proofs.Common.{◌≡◌, sym, ◌∙◌, false, List, [], ◌++◌, ℕ, ◌*◌, ◌/◌, ◌%◌, ◌<◌, arith, lt-ltb, eq-eqb, ne_eqb, length, length-append, Ok, Err}
use Rattle.lent.specs.Fill.{zeros}
use Rattle.bundle_block.specs.declared.Refusal.TheVariants.{Broken}
use Rattle.bundle_block.specs.Block.{edition_in}
use Rattle.bundle_read.specs.Bundle.{judge_length}
use Rattle.replay_machine.specs.Machine.{start}
use Rattle.replay_log.specs.declared.Reader.{Reader}
use Rattle.replay_log.specs.declared.Reader.TheVariants.{Empty, Going, Stopped}
use Rattle.replay_log.specs.Log.{Course, take_blocks, Meaning, says, refused, meant_by, replay_of}
use Rattle.replay_log.specs.Call.{Answer, answer_of, Numbered, HasReplayed}
use Rattle.replay_log.specs.Stream.{first_place, Behind, Took, answer_by, Finished}

-- ---- the length

length-good : (l : List ℕ) (m : ℕ) → length l ≡ 512 * m → 0 < m → judge_length l ≡ Ok tt
unfolding judge_length
length-good l m h k =
    let a = lt-ltb 0 (length l) (omega arith) in
    let b = eq-eqb (length l % 512) 0 (omega arith) in
    rw (a, b)

length-odd : (l : List ℕ) → 0 < length l % 512 → judge_length l ≡ Err (Broken 0)
unfolding judge_length
length-odd l h =
    let a = lt-ltb 0 (length l) (omega arith) in
    let b = ne_eqb (length l % 512) 0 (λ e. omega arith) in
    rw (a, b)

replayed : (l : List ℕ) (m : ℕ) {c : Course} → length l ≡ 512 * m → 0 < m → take_blocks (edition_in l) 0 m false start l ≡ c → replay_of l ≡ meant_by c
unfolding replay_of
replayed l m h k p =
    let n : length l / 512 ≡ m = omega arith in
    rw (length-good l m h k, n, p)

-- ---- the answer

pub placed : (l : List ℕ) {e : ℕ} → e ≡ edition_in l → record { edition = e; block = 0; tally = record { count = record { shows = 0; differ = 0; first = 0 }; ended = false } } ≡ first_place l
placed l p = rw p

known : (l staged current : List ℕ) (r : Reader) → Behind l staged current r → answer_by r ≡ answer_of (replay_of l)
unfolding replay_of judge_length
known l staged current Empty b = rw b.none
known l staged current (Going g) b = rw (replayed l g.block b.long b.some b.course)
known l staged current (Stopped r) b = rw (replayed l b.blocks b.long b.some b.course)

module _ (reader : Reader) (staged current l : List ℕ) where
  odd : (p : List ℕ) → length p % 512 ≡ 0 → 0 < length l % 512 → Err (Broken 0) ≡ answer_of (replay_of (p ++ l))
  unfolding replay_of
  odd p h k =
      let n = length-append p l in
      rw (length-odd (p ++ l) (omega arith))

  whole-behind : (r : Reader) (p : List ℕ) → Behind p staged current r → length p % 512 ≡ 0
  whole-behind Empty p b = rw b.none
  whole-behind (Going g) p b = let n = b.long in omega arith
  whole-behind (Stopped r) p b = let n = b.long in omega arith

  pub finished-odd : 0 < length l % 512 → Finished reader staged current l (Err (Broken 0))
  finished-odd k = record { replayed = λ p b. odd p (whole-behind reader p b) k }

  pub finished-whole : {r : Reader} {a : Answer} (staged' current' : List ℕ) → Took reader staged current l staged' current' r → a ≡ answer_by r → Finished reader staged current l a
  finished-whole {r} staged' current' t e = record { replayed = λ p b. e ∙ known (p ++ l) staged' current' r (t.behind p b) }

-- ---- the call

numbered : (m : Meaning) {r : Answer} → r ≡ answer_of m → Numbered m r
numbered (says shows differ first) p = (rw p, rw p, rw p, rw p)
numbered (refused c) p = (rw p, rw p)

pub called : (log : List ℕ) {reader : Reader} {r : Answer} → Behind [] (zeros 256) (zeros 256) reader → Finished reader (zeros 256) (zeros 256) log r → HasReplayed log r
called log b f = record { answer = f.replayed [] b; numbers = numbered (replay_of log) (f.replayed [] b) }

-- two answers that meet the promise are equal
pub unique : {log : List ℕ} {r s : Answer} → HasReplayed log r → HasReplayed log s → r ≡ s
unique p q = p.answer ∙ sym q.answer
