-- What the code goes by on the whole bundle: what it is asked (RULES R15.6), one by one, and the call. Assumes nothing.
use Rattle.std.proofs.Common.{if◌then◌else◌, ◌≡◌, refl, sym, ap, subst, ◌∙◌, Bool, true, false, ◌&&◌, List, ◌++◌, ℕ, ◌+◌, ◌-◌, ◌*◌, ◌/◌, ◌%◌, ◌≤◌, arith, ltb-true, leb-true, eqb-true, eqb, leb, ltb, length, take, drop, length-drop, take_all, Ok, Err}
use Rattle.lent.specs.Fill.{zeros}
use Rattle.bundle_block.specs.declared.Refusal.{Refusal}
use Rattle.bundle_block.specs.declared.Refusal.TheVariants.{Short, Broken, BadCheck, OtherEdition}
use Rattle.bundle_block.specs.Block.{Verdict, edition_in, ◌before◌, demand, judge_block}
use Rattle.bundle_run.specs.Run.{judge_run, held_in}
use Rattle.bundle_read.specs.Bundle.{text_length, event_count, event_length, text_blocks, event_blocks, text_part, event_part, text_in, events_in}
use Rattle.bundle_read.specs.Bundle.{judge_length, judge_header, judge_count, judge_text, judge_events, judge_bundle, Meaning, says, refused, meant, read_of}
use Rattle.bundle_read.specs.Read.{Answer, call_of, answer_of, Numbered, HasRead, judge_call}
use Rattle.bundle_read.specs.Sizes.{most_text, most_events, least_room, text_room, event_room, header_used, header_kind, text_kind, event_kind}
use Rattle.bundle_block.proofs.Block.{first-bad, then_next, demanded, demanded-both, both-good}
use Rattle.bundle_run.proofs.Run.{length-held}

-- a slice to the end
pub rest : (l : List ℕ) (at : ℕ) → take (length l - at) (drop at l) ≡ drop at l
rest l at = take_all (length l - at) (drop at l) (rw length-drop (omega arith))

-- ---- each sentence

module _ (l : List ℕ) {v : Verdict} where
  pub length-judged : v ≡ demand (ltb 0 (length l) && eqb (length l % 512) 0) (Broken 0) → v ≡ judge_length l
  unfolding judge_length
  length-judged p = p

  pub header-judged : {x y : Verdict} {e t n : ℕ} → e ≡ edition_in l → x ≡ judge_block e 0 header_kind header_used (take (512 - 0) (drop 0 l)) → t ≡ text_length l → n ≡ event_count l
      → y ≡ demand (leb t most_text && leb n most_events) (Broken 0) → v ≡ (x before y) → v ≡ judge_header l
  unfolding judge_header
  header-judged a b c d e p = p ∙ rw (b, e, a, c, d)

  pub count-judged : {t e : ℕ} → t ≡ text_blocks l → e ≡ event_blocks l → v ≡ demand (eqb (length l / 512) (1 + t + e)) (Broken 0) → v ≡ judge_count l
  unfolding judge_count
  count-judged p q r = r ∙ rw (p, q)

  pub text-judged : {b e t : ℕ} → b ≡ text_blocks l → e ≡ edition_in l → t ≡ text_length l → v ≡ judge_run e text_kind text_room 1 (1 + b - 1) t (take (length l - 512) (drop 512 l)) → v ≡ judge_text l
  unfolding judge_text
  text-judged {b} p q r s = let n : 1 + b - 1 ≡ b = omega arith in s ∙ rw (rest l 512, n, p, q, r)

  pub events-judged : {b c e t : ℕ} → b ≡ text_blocks l → c ≡ event_blocks l → e ≡ edition_in l → t ≡ event_length l
      → v ≡ judge_run e event_kind event_room (1 + b) (1 + b + c - (1 + b)) t (take (length l - 512 * (1 + b)) (drop (512 * (1 + b)) l)) → v ≡ judge_events l
  unfolding judge_events
  events-judged {b} {c} p q r s t = let n : 1 + b + c - (1 + b) ≡ c = omega arith in t ∙ rw (rest l (512 * (1 + b)), n, p, q, r, s)

-- ---- the sentences in their order

module _ (l : List ℕ) {x : Verdict} (p : x ≡ judge_length l) where
  pub length-first : {r : Refusal} → x ≡ Err r → Err r ≡ judge_bundle l
  unfolding judge_bundle
  length-first q = first-bad p (judge_header l before judge_count l before judge_text l before judge_events l) q

  module _ (p' : x ≡ Ok tt) {y : Verdict} (q : y ≡ judge_header l) where
    pub header-next : {r : Refusal} → y ≡ Err r → Err r ≡ judge_bundle l
    unfolding judge_bundle
    header-next r = then_next p p' (first-bad q (judge_count l before judge_text l before judge_events l) r)

    module _ (q' : y ≡ Ok tt) {z : Verdict} (r : z ≡ judge_count l) where
      pub count_next : {f : Refusal} → z ≡ Err f → Err f ≡ judge_bundle l
      unfolding judge_bundle
      count_next s = then_next p p' (then_next q q' (first-bad r (judge_text l before judge_events l) s))

      pub runs_last : {v : Verdict} → z ≡ Ok tt → v ≡ (judge_text l before judge_events l) → v ≡ judge_bundle l
      unfolding judge_bundle
      runs_last r' s = then_next p p' (then_next q q' (then_next r r' s))

-- ---- what a good verdict says

pub whole-blocks : (l : List ℕ) {v : Verdict} → v ≡ judge_length l → v ≡ Ok tt → 512 ≤ length l
unfolding judge_length
whole-blocks l p q =
    let b = demanded-both (ltb 0 (length l)) (eqb (length l % 512) 0) (Broken 0) (sym p ∙ q) in
    let z = ltb-true 0 (length l) b.0 in
    let m = eqb-true (length l % 512) 0 b.1 in
    omega arith

pub counted-blocks : (l : List ℕ) {v : Verdict} → v ≡ judge_count l → v ≡ Ok tt → 512 * (1 + text_blocks l + event_blocks l) ≤ length l
unfolding judge_count
counted-blocks l p q =
    let e = eqb-true (length l / 512) (1 + text_blocks l + event_blocks l) (demanded (eqb (length l / 512) (1 + text_blocks l + event_blocks l)) (Broken 0) (sym p ∙ q)) in
    omega arith

pub record Sound (l : List ℕ) : Type 0 where
  pub whole : length l % 512 ≡ 0
  pub header : judge_block (edition_in l) 0 header_kind header_used (take 512 l) ≡ Ok tt
  pub text : text_length l ≤ most_text
  pub count : event_count l ≤ most_events
  pub blocks : length l / 512 ≡ 1 + text_blocks l + event_blocks l
  pub texts : judge_text l ≡ Ok tt
  pub events : judge_events l ≡ Ok tt

pub sound : (l : List ℕ) → judge_bundle l ≡ Ok tt → Sound l
unfolding judge_bundle judge_length judge_header judge_count
sound l p =
    let a = both-good (judge_length l) (judge_header l before judge_count l before judge_text l before judge_events l) p in
    let b = both-good (judge_header l) (judge_count l before judge_text l before judge_events l) a.1 in
    let c = both-good (judge_count l) (judge_text l before judge_events l) b.1 in
    let d = both-good (judge_text l) (judge_events l) c.1 in
    let e = demanded-both (ltb 0 (length l)) (eqb (length l % 512) 0) (Broken 0) a.0 in
    let f = both-good (judge_block (edition_in l) 0 header_kind header_used (take 512 l)) (demand (leb (text_length l) most_text && leb (event_count l) most_events) (Broken 0)) b.0 in
    let g = demanded-both (leb (text_length l) most_text) (leb (event_count l) most_events) (Broken 0) f.1 in
    record {
      whole = eqb-true (length l % 512) 0 e.1;
      header = f.0;
      text = leb-true (text_length l) most_text g.0;
      count = leb-true (event_count l) most_events g.1;
      blocks = eqb-true (length l / 512) (1 + text_blocks l + event_blocks l) (demanded (eqb (length l / 512) (1 + text_blocks l + event_blocks l)) (Broken 0) c.0);
      texts = d.0;
      events = d.1;
    }

-- a sound bundle holds as much as its header says
module _ (l : List ℕ) (s : Sound l) where
  pub length-text : length (text_in l) ≡ text_length l
  unfolding text_in
  length-text = length-held text_room (text_blocks l) (text_length l) (text_part l) (omega arith) (omega arith) (rw length-drop (omega arith))

  pub length-events : length (events_in l) ≡ event_length l
  unfolding events_in
  length-events = length-held event_room (event_blocks l) (event_length l) (event_part l) (omega arith) (omega arith) (rw length-drop (omega arith))

-- ---- the buffers filled

module _ (l : List ℕ) (n : ℕ) {f : List ℕ} {b t : ℕ} where
  pub text-filled : b ≡ text_blocks l → t ≡ text_length l → f ≡ held_in text_room b t (take (length l - 512) (drop 512 l)) ++ zeros (n - t) → f ≡ text_in l ++ zeros (n - text_length l)
  unfolding text_in
  text-filled p q r = r ∙ rw (rest l 512, p, q)

  pub events-filled : {c : ℕ} → c ≡ text_blocks l → b ≡ event_blocks l → t ≡ event_length l
      → f ≡ held_in event_room b t (take (length l - 512 * (1 + c)) (drop (512 * (1 + c)) l)) ++ zeros (n - t) → f ≡ events_in l ++ zeros (n - event_length l)
  unfolding events_in
  events-filled {c} o p q r = r ∙ rw (rest l (512 * (1 + c)), o, p, q)

-- ---- the call

record Taken (l : List ℕ) (t e : ℕ) : Type 0 where
  text : least_room ≤ t
  events : least_room ≤ e
  sound : Sound l

taken : (l : List ℕ) (t e : ℕ) → judge_call l t e ≡ Ok tt → Taken l t e
taken l t e p =
    let a = both-good (demand (leb least_room t && leb least_room e) Short) (judge_bundle l) p in
    let b = demanded-both (leb least_room t) (leb least_room e) Short a.0 in
    record { text = leb-true least_room t b.0; events = leb-true least_room e b.1; sound = sound l a.1 }

module _ (l : List ℕ) (t e : ℕ) {v : Verdict} (p : v ≡ judge_call l t e) (q : v ≡ Ok tt) where
  pub header-there : 512 ≤ length l
  header-there = let k = taken l t e (sym p ∙ q) in omega arith

  pub texts-there : 512 * (1 + text_blocks l) ≤ length l
  texts-there = let k = taken l t e (sym p ∙ q) in omega arith

  pub events-there : 512 * (1 + text_blocks l + event_blocks l) ≤ length l
  events-there = let k = taken l t e (sym p ∙ q) in omega arith

  pub text-fits : text_length l ≤ t
  text-fits = let k = taken l t e (sym p ∙ q) in omega arith

  pub events-fit : event_length l ≤ e
  events-fit = let k = taken l t e (sym p ∙ q) in omega arith

-- the call's meaning, by its verdict
call-meant : (l : List ℕ) (t e : ℕ) → call_of l t e ≡ meant (judge_call l t e) l
unfolding call_of read_of
call-meant l t e = by (leb least_room t && leb least_room e)
  where
    by : (b : Bool) → (if b then meant (judge_bundle l) l else refused Short) ≡ meant (demand b Short before judge_bundle l) l
    by true = refl
    by false = refl

-- the answer has the number and the values of what the call means
pub numbered : (m : Meaning) → Numbered m (answer_of m)
numbered (says text events edition) = (refl, refl, refl, refl)
numbered (refused Short) = (refl, refl)
numbered (refused (Broken block)) = (refl, refl)
numbered (refused (BadCheck block)) = (refl, refl)
numbered (refused (OtherEdition block)) = (refl, refl)

pub answer-numbered : (m : Meaning) {r : Answer} → r ≡ answer_of m → Numbered m r
answer-numbered m p = subst (λ (x : Answer). Numbered m x) (sym p) (numbered m)

module _ (l t e : List ℕ) {v : Verdict} (p : v ≡ judge_call l (length t) (length e)) where
  meaning : {w : Verdict} → v ≡ w → call_of l (length t) (length e) ≡ meant w l
  meaning q = call-meant l (length t) (length e) ∙ ap (λ (x : Verdict). meant x l) (sym p ∙ q)

  pub read-bad : {u f : List ℕ} {r : Refusal} → v ≡ Err r → u ≡ take 0 t ++ zeros (length t - 0) → f ≡ take 0 e ++ zeros (length e - 0) → HasRead l t e u f (Err r)
  read-bad {r = r} q x y =
      let a : length t - 0 ≡ length t = omega arith in
      let b : length e - 0 ≡ length e = omega arith in
      let z : ◌≡◌ {A = Answer} (Err r) (answer_of (call_of l (length t) (length e))) = rw (meaning q) in
      record { answer = z; numbers = answer-numbered (call_of l (length t) (length e)) z; text = rw (meaning q) (rw a at x); events = rw (meaning q) (rw b at y) }

  pub read-good : {u f : List ℕ} {r : Answer} → v ≡ Ok tt → u ≡ text_in l ++ zeros (length t - text_length l) → f ≡ events_in l ++ zeros (length e - event_length l)
      → r ≡ Ok (record { text = text_length l; events = event_length l; edition = edition_in l }) → HasRead l t e u f r
  read-good {r = r} q x y z =
      let s = (taken l (length t) (length e) (sym p ∙ q)).sound in
      let k : r ≡ answer_of (call_of l (length t) (length e)) = rw (meaning q, length-text l s, length-events l s) z in
      record {
        answer = k;
        numbers = answer-numbered (call_of l (length t) (length e)) k;
        text = rw (meaning q, length-text l s) x;
        events = rw (meaning q, length-events l s) y;
      }

-- two results that meet the contract are equal
pub unique : {l t e u f u' f' : List ℕ} {r r' : Answer} → HasRead l t e u f r → HasRead l t e u' f' r' → (r ≡ r') × (u ≡ u') × (f ≡ f')
unique p q = (p.answer ∙ sym q.answer, p.text ∙ sym q.text, p.events ∙ sym q.events)
