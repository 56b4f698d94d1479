-- What the code goes by: a run's blocks that are there, the text blocks, the event blocks, and block 0. Assumes nothing.
use Rattle.std.proofs.Common.{◌≡◌, sym, ◌∙◌, true, false, ◌&&◌, List, ℕ, ◌+◌, ◌-◌, ◌*◌, ◌≤◌, ◌<◌, min, arith, leb-true, le-leb, leb, length, take, drop, length-drop, drop-drop, Result, Ok, Err}
use borrow.Author.Tests.{lt-leb}
use Rattle.lent.specs.Fill.{Filled}
use Rattle.bundle_block.specs.declared.Refusal.{Refusal}
use Rattle.bundle_block.specs.declared.Refusal.TheVariants.{Broken}
use Rattle.bundle_block.specs.Block.{Verdict, edition_in, demand, judge_block}
use Rattle.bundle_block.proofs.Block.{demanded-both, both-good}
use Rattle.bundle_run.specs.Run.{judge_run, held_in}
use Rattle.bundle_read.specs.Bundle.{text_length, event_count, judge_header}
use Rattle.bundle_read.specs.Sizes.{most_text, most_events, header_used, header_kind, text_kind, event_kind}
use Rattle.bundle_read.proofs.Bundle.{rest}
use Rattle.bundle_known.specs.declared.Known.{Known}
use Rattle.bundle_known.specs.declared.Step.{Step}
use Rattle.bundle_known.specs.declared.Run.{Run}
use Rattle.bundle_known.specs.Known.{said_in, index_of, with_text, with_events, taken, judge_taken, fill_taken, text_of, events_of, runs_of, advance_of}
use Rattle.bundle_known.specs.Step.{Advanced, RanAll, RanEvents, RanGood, Ran}

-- ---- a run

module _ (edition kind index came total : ℕ) (l : List ℕ) {left count : ℕ} {v : Verdict} (p : left ≡ total - came) (m : count ≡ taken came total l) (j : v ≡ judge_run edition kind 500 index (index + count - index) left l) where
  judged : v ≡ judge_taken edition kind index came total l
  unfolding judge_taken
  judged = let n : index + count - index ≡ count = omega arith in j ∙ rw (n, m, p)

  pub run-stops : {r : Refusal} → v ≡ Err r → judge_taken edition kind index came total l ≡ Err r
  run-stops g = sym judged ∙ g

  pub run-took : {d e : List ℕ} {c end : ℕ} → v ≡ Ok tt → Filled d came (held_in 500 count left l) e end → c ≡ min (500 * count) left
      → RanGood edition kind index came total d l e (came + c) (512 * count)
  unfolding fill_taken
  run-took g f h =
      record {
        judged = sym judged ∙ g;
        came = rw (h, m, p);
        took = rw m;
        filled = f.bytes ∙ rw (m, p);
      }

-- no more blocks are taken than there are
module _ (l : List ℕ) (from came total : ℕ) (h : from ≤ length l) where
  pub inside : {n : ℕ} → n ≡ 512 * taken came total (drop from l) → from + n ≤ length l
  inside p = let k = length-drop from l in omega arith

-- ---- the event blocks

module _ (k : Known) (l : List ℕ) (from : ℕ) (e e' : List ℕ) {i : ℕ} (run : Result Run Refusal) (h : from ≤ length l) (p : i ≡ index_of k)
    (q : Ran k.edition event_kind i k.events_came k.events e (take (length l - from) (drop from l)) e' run) where
  pub events-stopped : {r : Refusal} → run ≡ Err r → RanEvents k from e l e' (Err r)
  unfolding events_of
  events-stopped g =
      let j = rw (g, rest l from, p) at q in
      record { came = λ t. rw j; within = omega arith }

  module _ {s : Run} (g : run ≡ Ok s) where
    events-ran : RanGood k.edition event_kind (index_of k) k.events_came k.events e (drop from l) e' s.came s.taken
    events-ran = rw (g, rest l from, p) at q

    pub events-inside : from + s.taken ≤ length l
    events-inside = inside l from k.events_came k.events h events-ran.took

    pub events-took : {k' : Known} → k' ≡ with_events k s.came → RanEvents k from e l e' (Ok (record { known = k'; taken = from + s.taken }))
    unfolding events_of
    events-took w =
        let r = events-ran in
        record { came = λ t. rw (r.judged, w, ← r.came, ← r.filled, ← r.took, drop-drop s.taken from l); within = events-inside }

-- ---- the text blocks

module _ (k : Known) (l : List ℕ) (from : ℕ) (t t' : List ℕ) {i : ℕ} (run : Result Run Refusal) (h : from ≤ length l) (p : i ≡ index_of k)
    (q : Ran k.edition text_kind i k.text_came k.text t (take (length l - from) (drop from l)) t' run) where
  pub text-stopped : (e : List ℕ) {r : Refusal} → run ≡ Err r → RanAll k from t e l t' e (Err r)
  unfolding runs_of text_of
  text-stopped e g =
      let j = rw (g, rest l from, p) at q in
      record { came = rw j; within = omega arith }

  module _ {s : Run} (g : run ≡ Ok s) where
    text-ran : RanGood k.edition text_kind (index_of k) k.text_came k.text t (drop from l) t' s.came s.taken
    text-ran = rw (g, rest l from, p) at q

    pub text-inside : from + s.taken ≤ length l
    text-inside = inside l from k.text_came k.text h text-ran.took

    pub text-took : {e e' : List ℕ} {k' : Known} {z : Result Step Refusal} → k' ≡ with_text k s.came → RanEvents k' (from + s.taken) e l e' z → RanAll k from t e l t' e' z
    unfolding runs_of text_of
    text-took {e} w z =
        let r = text-ran in
        record { came = z.came t' ∙ rw (r.judged, w, ← r.came, ← r.filled, ← r.took, drop-drop s.taken from l); within = z.within }

-- ---- block 0

pub few-events : (l : List ℕ) {v : Verdict} → v ≡ judge_header l → v ≡ Ok tt → event_count l ≤ 3200
unfolding judge_header
few-events l p q =
    let f = both-good (judge_block (edition_in l) 0 header_kind header_used (take 512 l)) (demand (leb (text_length l) most_text && leb (event_count l) most_events) (Broken 0)) (sym p ∙ q) in
    leb-true (event_count l) most_events (demanded-both (leb (text_length l) most_text) (leb (event_count l) most_events) (Broken 0) f.1).1

module _ (k : Known) (t e l : List ℕ) where
  pub begun : {t' e' : List ℕ} {s : Result Step Refusal} → k.begun ≡ true → RanAll k 0 t e l t' e' s → Advanced k t e l t' e' s
  unfolding advance_of
  begun p r = record { came = r.came ∙ rw p; within = r.within }

  module _ (p : k.begun ≡ false) where
    pub no_block : length l < 512 → Advanced k t e l t e (Ok (record { known = k; taken = 0 }))
    unfolding advance_of
    no_block h = record { came = rw (p, lt-leb 512 (length l) h); within = omega arith }

    module _ {v : Verdict} (h : 512 ≤ length l) (j : v ≡ judge_header l) where
      pub header-bad : {r : Refusal} → v ≡ Err r → Advanced k t e l t e (Err r)
      unfolding advance_of
      header-bad g = record { came = rw (p, le-leb 512 (length l) h, ← j, g); within = omega arith }

      pub header-good : {k' : Known} {t' e' : List ℕ} {s : Result Step Refusal} → v ≡ Ok tt → k' ≡ said_in l → RanAll k' 512 t e l t' e' s → Advanced k t e l t' e' s
      unfolding advance_of
      header-good g w r = record { came = r.came ∙ rw (p, le-leb 512 (length l) h, ← j, g, w); within = r.within }
