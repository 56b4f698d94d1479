-- For callers: where the machine's next state is within the tables, a call can be counted; what is found is there. Assumes nothing.
use Rattle.std.proofs.Common.{if◌then◌else◌, Some, None, ◌≡◌, refl, ap, ◌∙◌, Bool, true, false, List, [], ◌∷◌, ℕ, zero, suc, ◌+◌, ◌≤◌, ◌<◌, arith, ltb-true, ltb, length}
use Rattle.std.proofs.Math.Decide.{dec_lt}
use Rattle.lent.specs.Bytes.{same}
use Rattle.lent.proofs.Laws.{and_left, and_right}
use Rattle.normalize_identifier.specs.Identity.{identity_of}
use Rattle.normalize_identifier.specs.Search.{Found, first_from, first_same}
use Rattle.machine.specs.State.{Call}
use Rattle.machine.specs.Footnote.{call_labels, call_index, at_or, count_at, times_at}
use Rattle.machine_bounded.specs.Within.{countable}
use Rattle.state_kept.proofs.Lists.{long-more}
use Rattle.state_kept.proofs.Labels.{call-labels-long}
use Rattle.state_kept.proofs.Calls.{first_call, count-new, count_long}
use Rattle.state_kept.specs.Sizes.{note_rows}

-- ---- what is found is there

found_from : (j : ℕ) (ls : List (List ℕ)) (label : List ℕ) (k : ℕ) → first_from j ls label ≡ Some k → k < j + length ls
unfolding first_from
found_from j [] label k p = let z : ◌≡◌ {A = ℕ} 0 1 = cc in absurd (omega arith)
found_from j (l ∷ ls) label k p = on (same (identity_of l) (identity_of label)) p (found_from (j + 1) ls label k)
  where
    on : (x : Bool) → (if x then Some j else first_from (j + 1) ls label) ≡ Some k → (first_from (j + 1) ls label ≡ Some k → k < j + 1 + length ls) → k < j + suc (length ls)
    on true q r = let e : j ≡ k = cc in omega arith
    on false q r = let x = r q in omega arith

pub found-low : (ls : List (List ℕ)) (label : List ℕ) (k : ℕ) → first_same ls label ≡ Some k → k < length ls
unfolding first_same
found-low ls label k p = let x = found_from 0 ls label k p in omega arith

pub call-index-low : (label : List ℕ) (cs : List Call) → call_index label cs ≤ length cs
call-index-low label cs = on (first_same (call_labels cs) label) refl
  where
    on : (f : Found) → first_same (call_labels cs) label ≡ f → at_or (length cs) f ≤ length cs
    on (Some k) e = let x = found-low (call_labels cs) label k e in let y = call-labels-long cs in omega arith
    on None e = omega arith

-- ---- a call can be counted

pub index-fits : (i : ℕ) (label : List ℕ) (cs : List Call) → i ≤ length cs → length (count_at i label cs) ≤ note_rows → i < note_rows
index-fits i label cs h k =
    elim (dec_lt i (length cs)) [
      | yes q ↦ (let x = count_long i label cs q in omega arith)
      | no q ↦ (let e : i ≡ length cs = omega arith in let x : length (count_at i label cs) ≡ length cs + 1 = rw e (ap length (count-new label cs) ∙ long-more cs (first_call label)) in omega arith)
    ]

pub times-fit : (i : ℕ) (label : List ℕ) (cs : List Call) → countable (count_at i label cs) ≡ true → times_at i cs < 0x1_0000_0000
unfolding count_at times_at
times-fit i label [] p = omega arith
times-fit zero label (c ∷ cs) p = let x = ltb-true (suc c.times) 0x1_0000_0000 (and_left (ltb (suc c.times) 0x1_0000_0000) (countable cs) p) in omega arith
times-fit (suc i) label (c ∷ cs) p = times-fit i label cs (and_right (ltb c.times 0x1_0000_0000) (countable (count_at i label cs)) p)
