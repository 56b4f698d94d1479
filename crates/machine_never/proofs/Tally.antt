-- A call that is counted keeps the tally, and the tally keeps the calls in the code's table. Assumes nothing.
use Rattle.std.specs.Prelude.{if◌then◌else◌, Some, None}
use mathlib.Core.Path.{◌≡◌, refl, sym, ap, ◌∙◌}
use mathlib.Core.Bool.{Bool, true, false, ◌||◌}
use mathlib.Core.Logic.{◌⊎◌, inl, inr}
use mathlib.Core.List.{List, [], ◌∷◌}
use Prim.Native.Nat.{ℕ, suc, ◌+◌, ◌-◌, ◌≤◌, ◌<◌}
use native.Mathlib.Omega.{arith}
use borrow.Author.Tests.{lt-ltb}
use lib.ListN.{length}
use Rattle.lent.specs.Bytes.{same, listed}
use Rattle.normalize_identifier.specs.Identity.{identity_of}
use Rattle.normalize_identifier.specs.Search.{Found, first_from, first_same}
use Rattle.lent.proofs.Same.{same-iff}
use Rattle.check_rules.proofs.Before.{clash}
use Rattle.machine.specs.State.{Call}
use Rattle.machine.specs.Footnote.{call_labels, at_or, call_index, count_at}
use Rattle.machine_bounded.specs.Within.{countable}
use Rattle.machine_never.specs.Known.{Has}
use Rattle.machine_never.specs.Tally.{AllListed, AllApart, times, Tally}

abbrev again : Call → Call
again c = record { label = c.label; times = suc c.times }

-- counted where it stands, or behind all
abbrev counted : List ℕ → List Call → List Call
counted b [] = record { label = b; times = 1 } ∷ []
counted b (c ∷ cs) = if same (identity_of c.label) (identity_of b) then again c ∷ cs else c ∷ counted b cs

-- ---- by the search

later : (k : ℕ) (ls : List (List ℕ)) (b : List ℕ) (j : ℕ) → first_from k ls b ≡ Some j → k ≤ j
unfolding first_from
later k [] b j e = let z : ◌≡◌ {A = ℕ} 0 1 = cc in absurd (omega arith)
later k (l ∷ ls) b j e = at (same (identity_of l) (identity_of b)) e (later (k + 1) ls b j)
  where
    at : (x : Bool) → (if x then Some k else first_from (k + 1) ls b) ≡ Some j → (first_from (k + 1) ls b ≡ Some j → k + 1 ≤ j) → k ≤ j
    at true q more = let i : k ≡ j = cc in omega arith
    at false q more = let m = more q in omega arith

-- one further
index-next : (k n : ℕ) (f : Found) → ((j : ℕ) → f ≡ Some j → k + 1 ≤ j) → at_or (k + suc n) f - k ≡ suc (at_or (k + 1 + n) f - (k + 1))
index-next k n (Some j) h = let l = h j refl in omega arith
index-next k n None h = omega arith

counts : (k : ℕ) (b : List ℕ) (cs : List Call) → count_at (at_or (k + length cs) (first_from k (call_labels cs) b) - k) b cs ≡ counted b cs
unfolding count_at first_from
counts k b [] = refl
counts k b (c ∷ cs) = at (same (identity_of c.label) (identity_of b)) (counts (k + 1) b cs)
  where
    at : (x : Bool) → count_at (at_or (k + 1 + length cs) (first_from (k + 1) (call_labels cs) b) - (k + 1)) b cs ≡ counted b cs
        → count_at (at_or (k + suc (length cs)) (if x then Some k else first_from (k + 1) (call_labels cs) b) - k) b (c ∷ cs) ≡ (if x then again c ∷ cs else c ∷ counted b cs)
    at true h = let z : k - k ≡ 0 = omega arith in rw z refl
    at false h = rw (index-next k (length cs) (first_from (k + 1) (call_labels cs) b) (λ j e. later (k + 1) (call_labels cs) b j e)) (ap (λ (l : List Call). c ∷ l) h)

by_index : (b : List ℕ) (cs : List Call) → count_at (call_index b cs) b cs ≡ counted b cs
unfolding first_same
by_index b cs =
    let a : 0 + length cs ≡ length cs = omega arith in
    let i : at_or (0 + length cs) (first_from 0 (call_labels cs) b) - 0 ≡ at_or (length cs) (first_from 0 (call_labels cs) b) = rw a (omega arith) in
    ap (λ (n : ℕ). count_at n b cs) (sym i) ∙ counts 0 b cs

-- ---- the tally

same_not : (x y : List ℕ) → same x y ≡ false → x ≡ y → ⊥
same_not x y s e = clash ((same-iff x y).1 e) s

each-counted : (ids : List (List ℕ)) (b : List ℕ) (cs : List Call) → listed ids (identity_of b) ≡ true → AllListed ids cs → AllListed ids (counted b cs)
each-counted ids b [] l h = (l, tt)
each-counted ids b (c ∷ cs) l h = at (same (identity_of c.label) (identity_of b)) (each-counted ids b cs l h.1)
  where
    at : (x : Bool) → AllListed ids (counted b cs) → AllListed ids (if x then again c ∷ cs else c ∷ counted b cs)
    at true m = h
    at false m = (h.0, m)

labels-counted : (b id : List ℕ) (cs : List Call) → Has id (call_labels (counted b cs)) → Has id (call_labels cs) ⊎ (identity_of b ≡ id)
labels-counted b id [] (inl e) = inr e
labels-counted b id [] (inr h) = absurd h
labels-counted b id (c ∷ cs) h = at (same (identity_of c.label) (identity_of b)) h (labels-counted b id cs)
  where
    at : (x : Bool) → Has id (call_labels (if x then again c ∷ cs else c ∷ counted b cs)) → (Has id (call_labels (counted b cs)) → Has id (call_labels cs) ⊎ (identity_of b ≡ id)) → Has id (call_labels (c ∷ cs)) ⊎ (identity_of b ≡ id)
    at true h more = inl h
    at false (inl e) more = inl (inl e)
    at false (inr m) more = elim (more m) [ inl i ↦ inl (inr i) | inr i ↦ inr i ]

apart-counted : (b : List ℕ) (cs : List Call) → AllApart cs → AllApart (counted b cs)
apart-counted b [] h = (λ m. m, tt)
apart-counted b (c ∷ cs) h = at (same (identity_of c.label) (identity_of b)) refl (apart-counted b cs h.1)
  where
    at : (x : Bool) → same (identity_of c.label) (identity_of b) ≡ x → AllApart (counted b cs) → AllApart (if x then again c ∷ cs else c ∷ counted b cs)
    at true s m = h
    at false s m = (λ i. elim (labels-counted b (identity_of c.label) cs i) [ inl j ↦ h.0 j | inr j ↦ same_not (identity_of c.label) (identity_of b) s (sym j) ], m)

times-counted : (b : List ℕ) (cs : List Call) → times (counted b cs) ≡ suc (times cs)
times-counted b [] = refl
times-counted b (c ∷ cs) = at (same (identity_of c.label) (identity_of b)) (times-counted b cs)
  where
    at : (x : Bool) → times (counted b cs) ≡ suc (times cs) → times (if x then again c ∷ cs else c ∷ counted b cs) ≡ suc (times (c ∷ cs))
    at true m = omega arith
    at false m = omega arith

pub tally-counted : (ids : List (List ℕ)) (n : ℕ) (b : List ℕ) (cs : List Call) → listed ids (identity_of b) ≡ true → Tally ids n cs → Tally ids (suc n) (count_at (call_index b cs) b cs)
tally-counted ids n b cs l h = rw (by_index b cs) (record { each = each-counted ids b cs l h.each; apart = apart-counted b cs h.apart; total = omega (arith, times-counted b cs, h.total) })

-- ---- the code's table

without : List ℕ → List (List ℕ) → List (List ℕ)
without id [] = []
without id (i ∷ ids) = if same id i then ids else i ∷ without id ids

without-long : (id : List ℕ) (ids : List (List ℕ)) → listed ids id ≡ true → suc (length (without id ids)) ≡ length ids
unfolding without
without-long id [] l = clash l refl
without-long id (i ∷ ids) l = at (same id i) l (without-long id ids)
  where
    at : (x : Bool) → (x || listed ids id) ≡ true → (listed ids id ≡ true → suc (length (without id ids)) ≡ length ids) → suc (length (if x then ids else i ∷ without id ids)) ≡ suc (length ids)
    at true l more = refl
    at false l more = ap suc (more l)

listed-without : (id j : List ℕ) (ids : List (List ℕ)) → (j ≡ id → ⊥) → listed ids j ≡ true → listed (without id ids) j ≡ true
unfolding without
listed-without id j [] d l = l
listed-without id j (i ∷ ids) d l = at (same id i) (same j i) refl refl l (listed-without id j ids d)
  where
    at : (x y : Bool) → same id i ≡ x → same j i ≡ y → (y || listed ids j) ≡ true → (listed ids j ≡ true → listed (without id ids) j ≡ true) → listed (if x then ids else i ∷ without id ids) j ≡ true
    at true true p q l more = absurd (d ((same-iff j i).0 q ∙ sym ((same-iff id i).0 p)))
    at true false p q l more = l
    at false true p q l more = rw q refl
    at false false p q l more = rw q (more l)

all_without : (ids : List (List ℕ)) (id : List ℕ) (cs : List Call) → (Has id (call_labels cs) → ⊥) → AllListed ids cs → AllListed (without id ids) cs
all_without ids id [] d h = tt
all_without ids id (c ∷ cs) d h = (listed-without id (identity_of c.label) ids (λ e. d (inl e)) h.0, all_without ids id cs (λ m. d (inr m)) h.1)

few-calls : (ids : List (List ℕ)) (cs : List Call) → AllListed ids cs → AllApart cs → length cs ≤ length ids
few-calls ids [] h a = omega arith
few-calls ids (c ∷ cs) h a =
    let m = few-calls (without (identity_of c.label) ids) cs (all_without ids (identity_of c.label) cs a.0 h.1) a.1 in
    omega (arith, without-long (identity_of c.label) ids h.0)

few-times : (cs : List Call) → times cs < 0x1_0000_0000 → countable cs ≡ true
few-times [] h = refl
few-times (c ∷ cs) h = rw (lt-ltb c.times 0x1_0000_0000 (omega arith)) (few-times cs (omega arith))

pub tally-few : (ids : List (List ℕ)) (n : ℕ) (cs : List Call) → length ids ≤ 64 → n < 0x1_0000_0000 → Tally ids n cs → (length cs ≤ 64) × (countable cs ≡ true)
tally-few ids n cs l m h = let f = few-calls ids cs h.each h.apart in (omega arith, few-times cs (omega (arith, h.total)))

pub tally-more : (ids : List (List ℕ)) (n k : ℕ) (cs : List Call) → n ≤ k → Tally ids n cs → Tally ids k cs
tally-more ids n k cs l h = record { each = h.each; apart = h.apart; total = omega (arith, h.total) }
