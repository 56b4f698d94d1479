-- Children, one after the other. Assumes nothing.
use Rattle.std.proofs.Common.{◌≡◌, ⊎_elim, true, List, [], ◌∷◌, ◌++◌, ℕ}
use Rattle.lent.proofs.Laws.{and_right}
use Rattle.check_nesting.specs.Grammar.{Item, one, opt, any, chain, flow, whole, name_of}
use Rattle.check_nesting.specs.Nests.{Takes}
use Rattle.check_nesting.specs.Pass.{refuse, take, next, done}
use Rattle.check_nesting.proofs.Next.{refuse-take, found, taken, ends}
use Rattle.check_nesting.proofs.Clear.{unlike, spare, clear, last, behind-chain, asked, asked-none}

-- what holds of the items before a child holds of those behind it
pub record Kept (P : List Item → Type 0) : Type 0 where
  pub one_kept : (ks : List ℕ) (is : List Item) → P (one ks ∷ is) → P is
  pub opt-kept : (ks : List ℕ) (is : List Item) → P (opt ks ∷ is) → P is
  pub any-kept : (ks : List ℕ) (is : List Item) → P (any ks ∷ is) → P is
  pub chain-kept : (k : ℕ) (ks : List ℕ) (is : List Item) → P (chain (k ∷ ks) ∷ is) → P (chain ks ∷ is)
  pub none_kept : (ks : List ℕ) (is : List Item) → P (chain ks ∷ is) → P is

pub next-kept : {P : List Item → Type 0} → Kept P → (q : List Item) (n : ℕ) {k : ℕ} {r : List Item} → next q n ≡ take k r → P q → P r
next-kept K [] n e p = refuse-take e
next-kept K (one ks ∷ is) n e p = ⊎_elim (λ f. rw f.same (K.one_kept ks is p)) refuse-take (found ks n is refuse e)
next-kept K (opt ks ∷ is) n e p = ⊎_elim (λ f. rw f.same (K.opt-kept ks is p)) (λ h. next-kept K is n h (K.opt-kept ks is p)) (found ks n is (next is n) e)
next-kept K (any ks ∷ is) n e p = ⊎_elim (λ f. rw f.same p) (λ h. next-kept K is n h (K.any-kept ks is p)) (found ks n (any ks ∷ is) (next is n) e)
next-kept K (chain [] ∷ is) n e p = next-kept K is n e (K.none_kept [] is p)
next-kept K (chain (j ∷ ks) ∷ is) n e p =
    ⊎_elim (λ f. rw f.same (K.chain-kept j ks is p)) (λ h. next-kept K is n h (K.none_kept (j ∷ ks) is p)) (found (j ∷ []) n (chain ks ∷ is) (next is n) e)

pub clear_kept : Kept (λ q. clear q ≡ true)
clear_kept =
    record {
      one_kept = λ ks is p. and_right (unlike ks) (clear is) p;
      opt-kept = last;
      any-kept = last;
      chain-kept = λ k ks is p. and_right (spare is (k ∷ [])) (clear (chain ks ∷ is)) p;
      none_kept = behind-chain;
    }

-- from what the items ask for before the children of these kinds to what they ask for behind them
pub data Steps : List Item → List ℕ → List Item → Type 0 where
  stay : {q : List Item} → Steps q [] q
  along : {q r t : List Item} {k : ℕ} {cs : List ℕ} → next q (name_of k) ≡ take k r → Steps r cs t → Steps q (k ∷ cs) t

pub steps-takes : {q t : List Item} {cs : List ℕ} → Steps q cs t → done t ≡ true → Takes q cs
steps-takes (stay {q}) d = ends q d
steps-takes (along {q} {k = k} {cs = cs} e s) d = (taken q (name_of k) e).1 cs (steps-takes s d)

pub takes-steps : (q : List Item) (cs : List ℕ) → clear q ≡ true → Takes q cs → (t : List Item) × Steps q cs t × (done t ≡ true)
takes-steps q [] c t = (q, stay, asked-none t)
takes-steps q (k ∷ cs) c t =
    let a = asked t c in
    let i = takes-steps a.left cs (next-kept clear_kept q (name_of k) a.goes c) a.more in
    (i.0, along a.goes i.1, i.2)

pub steps-append : {q r t : List Item} {ks ls : List ℕ} → Steps q ks r → Steps r ls t → Steps q (ks ++ ls) t
steps-append stay s = s
steps-append (along e p) s = along e (steps-append p s)

pub steps-split : {q t : List Item} (ks ls : List ℕ) → Steps q (ks ++ ls) t → (r : List Item) × Steps q ks r × Steps r ls t
steps-split {q} [] ls s = (q, stay, s)
steps-split (k ∷ ks) ls (along e s) = let i = steps-split ks ls s in (i.0, along e i.1, i.2)

-- the whole takes any number of flow
pub still-whole : {q t : List Item} {cs : List ℕ} → Steps q cs t → q ≡ whole → t ≡ whole
still-whole stay p = p
still-whole (along {k = k} e s) p = still-whole s (⊎_elim (λ f. f.same) refuse-take (found flow (name_of k) whole refuse (rw p at e)))
