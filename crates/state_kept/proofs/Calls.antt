-- A call is counted. Assumes nothing.
use Rattle.std.proofs.Common.{◌≡◌, refl, sym, ap, List, [], ◌∷◌, ◌++◌, ◌⊎◌, inl, inr, ℕ, zero, suc, ◌+◌, ◌<◌, arith, length}
use Rattle.std.proofs.Math.Option.{some}
use Rattle.std.proofs.Math.ListN.{get_elem?}
use Rattle.machine.specs.State.{Call}
use Rattle.machine.specs.Footnote.{call_labels, count_at, times_at}

abbrev pub first_call : List ℕ → Call
first_call label = record { label = label; times = 1 }

-- ---- a new call

pub count-new : (label : List ℕ) (cs : List Call) → count_at (length cs) label cs ≡ cs ++ (first_call label ∷ [])
unfolding count_at
count-new label [] = refl
count-new label (c ∷ cs) = ap (λ (t : List Call). c ∷ t) (count-new label cs)

-- ---- a call that was made before

pub count-labels : (i : ℕ) (label : List ℕ) (cs : List Call) → i < length cs → call_labels (count_at i label cs) ≡ call_labels cs
unfolding count_at
count-labels i label [] h = absurd (omega arith)
count-labels zero label (c ∷ cs) h = refl
count-labels (suc i) label (c ∷ cs) h = ap (λ (t : List (List ℕ)). c.label ∷ t) (count-labels i label cs (omega arith))

pub count_long : (i : ℕ) (label : List ℕ) (cs : List Call) → i < length cs → length (count_at i label cs) ≡ length cs
unfolding count_at
count_long i label [] h = absurd (omega arith)
count_long zero label (c ∷ cs) h = refl
count_long (suc i) label (c ∷ cs) h = ap suc (count_long i label cs (omega arith))

-- it is counted once more, the others are as they were
pub count-each : (i : ℕ) (label : List ℕ) (cs : List Call) (k : ℕ) (c : Call) → i < length cs → get_elem? (count_at i label cs) k ≡ some c
    → ((k ≡ i → ⊥) × (get_elem? cs k ≡ some c)) ⊎ ((k ≡ i) × (c.times ≡ times_at i cs + 1))
unfolding count_at times_at
count-each i label [] k c h p = absurd (omega arith)
count-each zero label (x ∷ cs) zero c h p = inr (refl, (let e : record { label = x.label; times = suc x.times } ≡ c = cc in let q : c.times ≡ suc x.times = sym (ap (λ (y : Call). y.times) e) in omega arith))
count-each zero label (x ∷ cs) (suc k) c h p = inl ((λ e. omega arith), p)
count-each (suc i) label (x ∷ cs) zero c h p = inl ((λ e. omega arith), p)
count-each (suc i) label (x ∷ cs) (suc k) c h p = on (count-each i label cs k c (omega arith) p)
  where
    on : ((k ≡ i → ⊥) × (get_elem? cs k ≡ some c)) ⊎ ((k ≡ i) × (c.times ≡ times_at i cs + 1)) → ((suc k ≡ suc i → ⊥) × (get_elem? cs k ≡ some c)) ⊎ ((suc k ≡ suc i) × (c.times ≡ times_at i cs + 1))
    on (inl q) = inl ((λ e. q.0 (omega arith)), q.1)
    on (inr q) = inr (ap suc q.0, q.1)

pub times-are : (cs : List Call) (k : ℕ) (c : Call) → get_elem? cs k ≡ some c → times_at k cs ≡ c.times
unfolding times_at
times-are [] k c p = let z : ◌≡◌ {A = ℕ} 0 1 = cc in absurd (omega arith)
times-are (x ∷ cs) zero c p = let e : x ≡ c = cc in ap (λ (y : Call). y.times) e
times-are (x ∷ cs) (suc k) c p = times-are cs k c p
