-- What the calls go by: the answer is repeated, refusal 1, and a part or the end. Assumes nothing.
use Rattle.std.proofs.Common.{is_some, true≢false, Some, None, Ok, if◌then◌else◌, ◌≡◌, refl, sym, ap, ◌∙◌, Bool, true, false, not, ◌&&◌, List, [], ◌∷◌, ◌++◌, ℕ, ◌<◌, min, arith, length, take, length-take}
use Rattle.std.proofs.Math.Bool.{or-true}
use Rattle.std.proofs.Math.Decide.{dec_le}
use Rattle.std.proofs.Math.ListN.{length-replicate}
use Rattle.lent.specs.Fill.{zeros}
use Rattle.bundle_block.specs.declared.Refusal.TheVariants.{Short, Broken}
use Rattle.bundle_known.specs.declared.Known.{Known}
use Rattle.bundle_known.specs.Known.{unknown, whole_of, advance_of}
use Rattle.bundle_known.proofs.Stepped.{whole-stays}
use Rattle.bundle_parts.specs.Feed.{Stand, unless_done, Progress, standing, rest_of, start_of, is_empty, refused_at, kept, settled, fresh, feed_of, end_of}
use Rattle.bundle_parts.specs.declared.State.{State}
use Rattle.bundle_parts.specs.Late.{is_roomy}
use Rattle.bundle_parts.specs.Private.{cleared_unless, TookMore, Finished}
use Rattle.bundle_parts.proofs.Taking.{settled-long}

pub new-stands : (rest : List ℕ) {s : State} {k : Known} → k ≡ unknown → s ≡ record { known = k; held = 0; over = false; progress = None } → (t e : List ℕ) → standing s rest t e ≡ start_of t e
new-stands rest p q t e = rw (q, p)

-- ---- with a rest or without

length-cleared : (begun : Bool) (d : List ℕ) → length (cleared_unless begun d) ≡ length d
length-cleared true d = refl
length-cleared false d = length-replicate (length d) 0

none-held : (s : State) (rest : List ℕ) → min s.held 511 ≡ 0 → rest_of s rest ≡ []
none-held s rest p = rw p

some-held : (s : State) (rest part : List ℕ) (n : ℕ) → 0 < length (take n rest) → is_empty (take n rest ++ part) ≡ false
some-held s rest part n h = by (take n rest) h
  where
    by : (l : List ℕ) → 0 < length l → is_empty (l ++ part) ≡ false
    by [] i = absurd (omega arith)
    by (x ∷ l) i = refl

fresh-held : (k : Known) (rest d : List ℕ) → 0 < length rest → fresh k rest d ≡ d
fresh-held k [] d h = absurd (omega arith)
fresh-held k (x ∷ rest) d h = by k.begun
  where
    by : (b : Bool) → (if not b && false then zeros (length d) else d) ≡ d
    by true = refl
    by false = refl

fresh-none : (k : Known) (d : List ℕ) → fresh k [] d ≡ cleared_unless k.begun d
fresh-none k d = by k.begun
  where
    by : (b : Bool) → (if not b && true then zeros (length d) else d) ≡ cleared_unless b d
    by true = refl
    by false = refl

module _ (s : State) (rest part t e : List ℕ) {held : ℕ} (p : held ≡ min s.held 511) where
  pub more-first : {t₁ e₁ rest' t' e' : List ℕ} (r : State) → held ≡ 0 → t₁ ≡ cleared_unless s.known.begun t → e₁ ≡ cleared_unless s.known.begun e
      → standing r rest' t' e' ≡ settled s.over t₁ e₁ (advance_of s.known t₁ e₁ part) → TookMore s rest part t e rest' t' e' r
  more-first {t₁} {e₁} r z x y f =
      let m : min s.held 511 ≡ 0 = omega arith in
      record {
        stands =
            f
            ∙ settled-long s.over t e t₁ e₁ (advance_of s.known t₁ e₁ part) (ap length x ∙ length-cleared s.known.begun t) (ap length y ∙ length-cleared s.known.begun e)
            ∙ rw (none-held s rest m, fresh-none s.known t, fresh-none s.known e, x, y);
      }

  module _ (z : held ≡ 0 → ⊥) (n : length rest ≡ 512) where
    held-some : 0 < length (rest_of s rest)
    held-some = let a = length-take (min s.held 511) rest in elim (dec_le 1 held) [ yes i ↦ omega arith | no i ↦ absurd (z (omega arith)) ]

    pub more-passed : (r : State) {w : Bool} → w ≡ whole_of s.known → w ≡ true → r ≡ record { known = s.known; held = 0; over = true; progress = None } → TookMore s rest part t e rest t e r
    unfolding kept
    more-passed r g v q =
        record {
          stands =
              rw (
                q,
                fresh-held s.known (rest_of s rest) t held-some,
                fresh-held s.known (rest_of s rest) e held-some,
                whole-stays s.known t e (rest_of s rest ++ part) (sym g ∙ v),
                ← g,
                v,
                some-held s rest part (min s.held 511) held-some,
                or-true s.over,
              );
        }

    pub more-joined : (r : State) {rest' t' e' : List ℕ} → standing r rest' t' e' ≡ settled s.over t e (advance_of s.known t e (take held rest ++ part)) → TookMore s rest part t e rest' t' e' r
    more-joined r f =
        record {
          stands = f ∙ rw (p, fresh-held s.known (rest_of s rest) t held-some, fresh-held s.known (rest_of s rest) e held-some);
        }

-- ---- a call

-- an answer is there, or none
answered-next : (p : Progress) (s next : Stand) → is_some p ≡ true → unless_done p s next ≡ s
answered-next (Some a) s next h = refl
answered-next None s next h = absurd (true≢false (sym h))

open-next : (p : Progress) (s next : Stand) → is_some p ≡ false → unless_done p s next ≡ next
open-next (Some a) s next h = absurd (true≢false h)
open-next None s next h = refl

module _ (s : State) (t e : List ℕ) {b : Bool} (p : b ≡ is_some s.progress) where
  module _ (rest part : List ℕ) where
    pub fed-done : b ≡ true → standing s rest t e ≡ feed_of (standing s rest t e) part
    unfolding feed_of
    fed-done g = rw (answered-next s.progress _ _ (sym p ∙ g))

    module _ (g : b ≡ false) {w : Bool} (h : w ≡ is_roomy (length t) (length e)) where
      pub fed-more : {r : State} {rest' t' e' : List ℕ} → w ≡ true → TookMore s rest part t e rest' t' e' r → standing r rest' t' e' ≡ feed_of (standing s rest t e) part
      unfolding feed_of
      fed-more v f = f.stands ∙ rw (open-next s.progress _ _ (sym p ∙ g), ← h, v)

      pub fed-short : (r : State) {t' e' : List ℕ} → w ≡ false → ((x : List ℕ) → standing r x t' e' ≡ refused_at t e Short) → standing r rest t' e' ≡ feed_of (standing s rest t e) part
      unfolding feed_of
      fed-short r v f = f rest ∙ rw (open-next s.progress _ _ (sym p ∙ g), ← h, v)

  pub ended-done : b ≡ true → (rest : List ℕ) → standing s rest t e ≡ end_of (standing s rest t e)
  unfolding end_of
  ended-done g rest = rw (answered-next s.progress _ _ (sym p ∙ g))

  module _ (g : b ≡ false) {w : Bool} (h : w ≡ is_roomy (length t) (length e)) where
    pub ended-finished : {r : State} {t' e' : List ℕ} → w ≡ true → Finished s.known s.over t e t' e' r → (rest : List ℕ) → standing r rest t' e' ≡ end_of (standing s rest t e)
    unfolding end_of
    ended-finished v f rest = f.stands rest ∙ rw (open-next s.progress _ _ (sym p ∙ g), ← h, v)

    pub ended-short : (r : State) {t' e' : List ℕ} → w ≡ false → ((x : List ℕ) → standing r x t' e' ≡ refused_at t e Short) → (rest : List ℕ) → standing r rest t' e' ≡ end_of (standing s rest t e)
    unfolding end_of
    ended-short r v f rest = f rest ∙ rw (open-next s.progress _ _ (sym p ∙ g), ← h, v)

module _ (k : Known) (over : Bool) (t e : List ℕ) {w : Bool} (h : w ≡ whole_of k) where
  pub finished-whole : {r : State} → (w && not over) ≡ true → r ≡ record { known = k; held = 0; over = over; progress = Some (Ok (record { text = k.text; events = k.events; edition = k.edition })) } → Finished k over t e t e r
  finished-whole v q = record { stands = λ rest. rw (q, ← h, v) }

  pub finished-broken : {r : State} {t' e' : List ℕ} → (w && not over) ≡ false → ((x : List ℕ) → standing r x t' e' ≡ refused_at t e (Broken 0)) → Finished k over t e t' e' r
  finished-broken v f = record { stands = λ rest. f rest ∙ rw (← h, v) }
