-- The end, after all bytes in one part or none. Assumes nothing.
use Rattle.std.proofs.Common.{Some, None, if◌then◌else◌, ◌≡◌, refl, sym, ap, ◌∙◌, Bool, true, false, not, ◌&&◌, List, [], ℕ, ◌≤◌, ◌<◌, arith, length, length-append, Ok, Err}
use Rattle.std.proofs.Math.Decide.{dec_le, ℕ_discrete}
use borrow.Author.Tests.{lt-leb}
use Rattle.std.proofs.Math.ListN.{length-replicate}
use Rattle.lent.specs.Fill.{fill, zeros}
use Rattle.bundle_block.specs.declared.Refusal.{Refusal}
use Rattle.bundle_block.specs.declared.Refusal.TheVariants.{Short, Broken}
use Rattle.bundle_block.specs.Block.{Verdict, edition_in}
use Rattle.bundle_read.specs.Read.{Answer}
use Rattle.bundle_read.specs.Bundle.{text_length, event_length, refused, meant}
use Rattle.bundle_read.proofs.Bundle.{sound, length-text, length-events, numbered}
use Rattle.bundle_known.specs.declared.Known.{Known}
use Rattle.bundle_known.specs.Known.{whole_of}
use Rattle.bundle_parts.specs.Late.{judge_came, judge_late, text_so_far, events_so_far, read_late, call_late}
use Rattle.bundle_parts.specs.Feed.{Stand, start_of, is_empty, refused_at, kept, roomy, feed_of, answered, end_of}
use Rattle.bundle_parts.specs.Parts.{SoFar, HasReadLate}
use Rattle.bundle_parts.proofs.Late.{known_in, left_in}
use Rattle.bundle_parts.proofs.Ends.{asked, exact-good, other-bad, exact-came, other-came}
use Rattle.bundle_parts.proofs.Agree.{text_same, events-same, agree-blocks}
use Rattle.bundle_parts.proofs.Joined.{feed-short}
use Rattle.bundle_parts.proofs.Start.{short-start, short-came, more-start, bad-start, text-fits, events-fit, short-so-far, whole-so-far}

-- ---- the end, by where it stands

module _ (s : Stand) where
  pub end-done : {a : Answer} → s.progress ≡ Some a → end_of s ≡ s
  unfolding end_of
  end-done p = rw p

  module _ (p : s.progress ≡ None) where
    end_short : roomy s.text s.events ≡ false → end_of s ≡ refused_at s.text s.events Short
    unfolding end_of
    end_short q = rw (p, q)

    module _ (q : roomy s.text s.events ≡ true) where
      end-broken : (whole_of s.known && not s.over) ≡ false → end_of s ≡ refused_at s.text s.events (Broken 0)
      unfolding end_of
      end-broken r = rw (p, q, r)

      end-answered : (whole_of s.known && not s.over) ≡ true → end_of s ≡ answered s.over s.known s.text s.events
      unfolding end_of
      end-answered r = rw (p, q, r)

pick_ends : (b over : Bool) (k : Known) (t e left : List ℕ) (s : Stand) → whole_of k ≡ b
    → s ≡ (if b then record { known = k; rest = []; over = not (is_empty left); progress = None; text = t; events = e } else record { known = k; rest = left; over = false; progress = None; text = t; events = e })
    → (s.known ≡ k) × ((whole_of s.known && not s.over) ≡ (whole_of k && is_empty left))
pick_ends true over k t e left s w p = (rw p, rw (p, w) (not-not (is_empty left)))
  where
    not-not : (x : Bool) → not (not x) ≡ x
    not-not true = refl
    not-not false = refl
pick_ends false over k t e left s w p = (rw p, rw (p, w))

kept-ends : (k : Known) (t e left : List ℕ) (s : Stand) → s ≡ kept false k t e left → (s.known ≡ k) × ((whole_of s.known && not s.over) ≡ (whole_of k && is_empty left))
unfolding kept
kept-ends k t e left s p = pick_ends (whole_of k) false k t e left s refl p

-- ---- the end of all bytes in one part

module _ (l t e : List ℕ) where
  refused-late : (t' e' : List ℕ) (s : Stand) {r : Refusal} → call_late l (length t) (length e) ≡ refused r → length t' ≡ length t → length e' ≡ length e → s ≡ refused_at t' e' r → HasReadLate l t e s
  refused-late t' e' s p q m g = record { answer = rw (g, p); numbers = numbered (call_late l (length t) (length e)); text = rw (g, p, q); events = rw (g, p, m) }

  call-short : roomy t e ≡ false → call_late l (length t) (length e) ≡ refused Short
  unfolding call_late
  call-short p = rw p

  module _ (room : roomy t e ≡ true) where
    call-meant : {v : Verdict} → judge_late l ≡ v → call_late l (length t) (length e) ≡ meant v l
    unfolding call_late read_late
    call-meant p = rw (room, p)

    late-other : judge_came l ≡ Ok tt → (length l ≡ asked l → ⊥) → judge_late l ≡ Err (Broken 0)
    unfolding judge_late
    late-other p q = rw p (other-bad l q)

    late-exact : judge_came l ≡ Ok tt → length l ≡ asked l → judge_late l ≡ Ok tt
    unfolding judge_late
    late-exact p q = rw p (exact-good l q)

    late-bad : {r : Refusal} → judge_came l ≡ Err r → judge_late l ≡ Err r
    unfolding judge_late
    late-bad p = rw p

    -- the state while more is wanted, and that the length is not the one asked for
    broken-late : (s : Stand) → SoFar l t e s → (whole_of s.known && not s.over) ≡ false → judge_came l ≡ Ok tt → (length l ≡ asked l → ⊥) → length (text_so_far l) ≤ length t → length (events_so_far l) ≤ length e → HasReadLate l t e (end_of s)
    broken-late s f x p q i j =
        let m : length s.text ≡ length t = ap length f.text ∙ simp (length-append, length-replicate) (omega arith) in
        let n : length s.events ≡ length e = ap length f.events ∙ simp (length-append, length-replicate) (omega arith) in
        refused-late s.text s.events (end_of s) (call-meant (late-other p q)) m n (end-broken s f.more (rw (m, n) room) x)

    exact-late : (s : Stand) → SoFar l t e s → (whole_of s.known && not s.over) ≡ true → s.known.text ≡ text_length l → s.known.events ≡ event_length l → s.known.edition ≡ edition_in l
        → judge_came l ≡ Ok tt → length l ≡ asked l → length (text_so_far l) ≤ length t → length (events_so_far l) ≤ length e → HasReadLate l t e (end_of s)
    exact-late s f x a b c p q i j =
        let m : length s.text ≡ length t = ap length f.text ∙ simp (length-append, length-replicate) (omega arith) in
        let n : length s.events ≡ length e = ap length f.events ∙ simp (length-append, length-replicate) (omega arith) in
        let g = end-answered s f.more (rw (m, n) room) x in
        let good = late-exact p q in
        let w = sound l (sym (agree-blocks l p) ∙ good) in
        let k = call-meant good in
        record {
          answer = rw (g, k, a, b, c, length-text l w, length-events l w);
          numbers = numbered (call_late l (length t) (length e));
          text = rw (g, k) (f.text ∙ rw (text_same l q));
          events = rw (g, k) (f.events ∙ rw (events-same l q));
        }

    short-late : length l < 512 → HasReadLate l t e (end_of (feed_of (start_of t e) l))
    unfolding text_so_far events_so_far
    short-late h =
        let s = short-start l t e room h in
        let n = lt-leb 512 (length l) h in
        let i : length (text_so_far l) ≤ length t = rw n (omega arith) in
        let j : length (events_so_far l) ≤ length e = rw n (omega arith) in
        broken-late (feed_of (start_of t e) l) (short-so-far l t e room h) (rw s) (short-came l t e room h) (λ q. omega arith) i j

    module _ (h : 512 ≤ length l) (p : judge_came l ≡ Ok tt) where
      came : Stand
      came = feed_of (start_of t e) l

      ends : (came.known ≡ known_in l h) × ((whole_of came.known && not came.over) ≡ (whole_of (known_in l h) && is_empty (left_in l h)))
      unfolding came
      ends = kept-ends (known_in l h) (fill (zeros (length t)) 0 (text_so_far l)) (fill (zeros (length e)) 0 (events_so_far l)) (left_in l h) came (more-start l t e room h p)

      good-late : HasReadLate l t e (end_of (feed_of (start_of t e) l))
      unfolding came
      good-late =
          let i = text-fits l t e room h p in
          let j = events-fit l t e room h p in
          let f = whole-so-far l t e room h p in
          let k = ends.0 in
          elim (ℕ_discrete (length l) (asked l)) [
            | yes q ↦
                let x = exact-came l h q in
                exact-late came f (ends.1 ∙ rw (x.0, x.1)) (rw k) (rw k) (rw k) p q i j
            | no q ↦ broken-late came f (ends.1 ∙ other-came l h q) p q i j
          ]

    one-late : HasReadLate l t e (end_of (feed_of (start_of t e) l))
    one-late = by (judge_came l) refl
      where
        by : (v : Verdict) → judge_came l ≡ v → HasReadLate l t e (end_of (feed_of (start_of t e) l))
        by (Ok o) p =
            elim (dec_le 512 (length l)) [
              | yes h ↦ good-late h p
              | no h ↦ short-late (omega arith)
            ]
        by (Err r) p =
            elim (dec_le 512 (length l)) [
              | yes h ↦
                  let s = bad-start l t e room h p in
                  rw s (refused-late t e (end_of (refused_at t e r)) (call-meant (late-bad p)) refl refl (end-done (refused_at t e r) refl))
              | no h ↦ let q = short-came l t e room (omega arith) in let z : ◌≡◌ {A = ℕ} 0 1 = cc in absurd (omega arith)
            ]

  pub all-late : HasReadLate l t e (end_of (feed_of (start_of t e) l))
  all-late = by (roomy t e) refl
    where
      by : (x : Bool) → roomy t e ≡ x → HasReadLate l t e (end_of (feed_of (start_of t e) l))
      by true room = one-late room
      by false p =
          rw (feed-short (start_of t e) l refl p)
          (refused-late t e (end_of (refused_at t e Short)) (call-short p) refl refl (end-done (refused_at t e Short) refl))

-- ---- the end without a part

pub none-late : (t e : List ℕ) → HasReadLate [] t e (end_of (start_of t e))
none-late t e = by (roomy t e) refl
  where
    by : (x : Bool) → roomy t e ≡ x → HasReadLate [] t e (end_of (start_of t e))
    by true room =
        refused-late [] t e t e (end_of (start_of t e)) (call-meant [] t e room (late-other [] t e room (short-came [] t e room (omega arith)) (λ q. omega arith))) refl refl
        (end-broken (start_of t e) refl room refl)
    by false p = refused-late [] t e t e (end_of (start_of t e)) (call-short [] t e p) refl refl (end_short (start_of t e) refl p)
