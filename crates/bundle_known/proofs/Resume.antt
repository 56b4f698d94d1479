-- Bytes that come in two parts come to what both together come to; and what holds of what they come to. Assumes nothing.
use Rattle.std.proofs.Common.{if◌then◌else◌, ◌≡◌, refl, sym, ap, ◌∙◌, ⊎_elim, Bool, true, false, List, ◌++◌, ℕ, ◌+◌, ◌≤◌, ◌<◌, arith, le-leb, leb, length, drop, length-append, length-drop, Ok, Err}
use Rattle.std.proofs.Math.Decide.{dec_le}
use borrow.Author.Tests.{lt-leb}
use Rattle.std.proofs.Math.Seq.{take-append-le, drop-append-le}
use Rattle.bundle_block.specs.Block.{Verdict, ◌before◌, field}
use Rattle.bundle_read.specs.Bundle.{blocks_for, judge_header}
use Rattle.bundle_read.specs.Sizes.{text_room, text_kind, event_kind}
use Rattle.bundle_known.specs.declared.Known.{Known}
use Rattle.bundle_known.specs.Known.{said_in, index_of, with_text, with_events, taken, came_then, judge_taken, fill_taken, left_of, Came, goes, ◌then◌, unless, taking, text_of, events_of, runs_of, advance_of}
use Rattle.bundle_known.proofs.Runs.{none-there, none-due, none-judged, none_came, none_filled, all_left, taken-all, came-both, left_both, fill-both, judge-both}

pub unless-before : (u v : Verdict) (c : Came) → unless (u before v) c ≡ unless u (unless v c)
unless-before (Ok o) v c = refl
unless-before (Err r) v c = refl

-- ---- one run: where nothing is taken, and in two parts

module _ (edition kind index came total : ℕ) (d : List ℕ) (f : ℕ → List ℕ → List ℕ → Came) where
  taking-none : (l : List ℕ) → taken came total l ≡ 0 → taking edition kind index came total d l f ≡ f came d l
  taking-none l h = rw (none-judged came total l h edition kind index, none_came came total l h, none_filled came total l h d, all_left came total l h)

  taking-both : (a b : List ℕ) (index' : ℕ) → index' + blocks_for text_room came ≡ index + blocks_for text_room (came_then came total a) → taking edition kind index came total d (a ++ b) f
      ≡ unless (judge_taken edition kind index came total a) (taking edition kind index' (came_then came total a) total (fill_taken came total d a) (left_of came total a ++ b) f)
  taking-both a b index' p =
      rw (judge-both came total a b edition kind index index' p, came-both came total a b, fill-both came total a b d, left_both came total a b)
      (unless-before (judge_taken edition kind index came total a) (judge_taken edition kind index' (came_then came total a) total (left_of came total a ++ b)) _)

-- ---- the two runs where nothing is taken

module _ (k : Known) (t e l : List ℕ) where
  text-none : taken k.text_came k.text l ≡ 0 → text_of k t e l ≡ goes k t e l
  unfolding text_of
  text-none = taking-none k.edition text_kind (index_of k) k.text_came k.text t (λ came t' left. goes (with_text k came) t' e left) l

  events-none : taken k.events_came k.events l ≡ 0 → events_of k t e l ≡ goes k t e l
  unfolding events_of
  events-none = taking-none k.edition event_kind (index_of k) k.events_came k.events e (λ came e' left. goes (with_events k came) t e' left) l

  pub text-done : k.text ≤ k.text_came → text_of k t e l ≡ goes k t e l
  text-done h = text-none (none-due k.text_came k.text l h)

  pub events-done : k.events ≤ k.events_came → events_of k t e l ≡ goes k t e l
  events-done h = events-none (none-due k.events_came k.events l h)

  events-short : length l < 512 → events_of k t e l ≡ goes k t e l
  events-short h = events-none (none-there k.events_came k.events l h)

pub runs-short : (k : Known) (t e l : List ℕ) → length l < 512 → runs_of k t e l ≡ goes k t e l
unfolding runs_of
runs-short k t e l h = ap (λ (c : Came). c then events_of) (text-none k t e l (none-there k.text_came k.text l h)) ∙ events-short k t e l h

-- ---- each of them in two parts

module _ (k : Known) (t e a b : List ℕ) where
  text_later : Known
  text_later = with_text k (came_then k.text_came k.text a)

  text-both : text_of k t e (a ++ b)
      ≡ unless (judge_taken k.edition text_kind (index_of k) k.text_came k.text a)
      (text_of text_later (fill_taken k.text_came k.text t a) e (left_of k.text_came k.text a ++ b))
  unfolding text_of text_later
  text-both = taking-both k.edition text_kind (index_of k) k.text_came k.text t (λ came t' left. goes (with_text k came) t' e left) a b (index_of text_later) (omega arith)

  events_later : Known
  events_later = with_events k (came_then k.events_came k.events a)

  events-both : events_of k t e (a ++ b)
      ≡ unless (judge_taken k.edition event_kind (index_of k) k.events_came k.events a)
      (events_of events_later t (fill_taken k.events_came k.events e a) (left_of k.events_came k.events a ++ b))
  unfolding events_of events_later
  events-both = taking-both k.edition event_kind (index_of k) k.events_came k.events e (λ came e' left. goes (with_events k came) t e' left) a b (index_of events_later) (omega arith)

-- ---- both runs in two parts

pub unless-then : (v : Verdict) (c : Came) (f : Known → List ℕ → List ℕ → List ℕ → Came) → (unless v c then f) ≡ unless v (c then f)
unless-then (Ok o) c f = refl
unless-then (Err r) c f = refl

-- what follows is the same where nothing is refused
pub unless-same : (v : Verdict) {c d : Came} → (v ≡ Ok tt → c ≡ d) → unless v c ≡ unless v d
unless-same (Ok o) p = p refl
unless-same (Err r) p = refl

-- by the runs alone
abbrev onward : List ℕ → Known → List ℕ → List ℕ → List ℕ → Came
onward b k t e l = runs_of k t e (l ++ b)

module _ (k : Known) (t e a b : List ℕ) where
  -- the text has come
  runs-events : k.text ≤ k.text_came → runs_of k t e (a ++ b) ≡ (events_of k t e a then onward b)
  unfolding runs_of events_later events_of
  runs-events h =
      let verdict = judge_taken k.edition event_kind (index_of k) k.events_came k.events a in
      let e' = fill_taken k.events_came k.events e a in
      let left = left_of k.events_came k.events a in
      rw (text-done k t e (a ++ b) h)
      (events-both k t e a b
      ∙ sym (unless-then verdict (goes (events_later k t e a b) t e' left) (onward b) ∙ rw (text-done (events_later k t e a b) t e' (left ++ b) h)))

  -- the text goes on
  runs-text : length a < 512 → runs_of k t e (a ++ b) ≡ (events_of k t e a then onward b)
  runs-text h = rw (events-short k t e a h)

pub runs-both : (k : Known) (t e a b : List ℕ) → runs_of k t e (a ++ b) ≡ (runs_of k t e a then onward b)
unfolding runs_of text_of text_later
runs-both k t e a b =
    let verdict = judge_taken k.edition text_kind (index_of k) k.text_came k.text a in
    let t' = fill_taken k.text_came k.text t a in
    let left = left_of k.text_came k.text a in
    let k' = text_later k t e a b in
    ap (λ (c : Came). c then events_of) (text-both k t e a b)
    ∙ unless-then verdict (text_of k' t' e (left ++ b)) events_of
    ∙ unless-same verdict (λ p. ⊎_elim (λ h. runs-text k' t' e left b h) (λ h. runs-events k' t' e left b h) (taken-all k.text_came k.text a))
    ∙ sym (ap (λ (c : Came). c then onward b) (unless-then verdict (goes k' t' e left) events_of) ∙ unless-then verdict (events_of k' t' e left) (onward b))

-- ---- block 0 in the first part

module _ (a b : List ℕ) (h : 512 ≤ length a) where
  field-front : (at n : ℕ) → at + n ≤ 512 → field at n (a ++ b) ≡ field at n a
  field-front at n m =
      let p : at ≤ length a = omega arith in
      let q : n ≤ length (drop at a) = rw length-drop (omega arith) in
      rw (drop-append-le at a b p, take-append-le n (drop at a) b q)

  pub header-front : judge_header (a ++ b) ≡ judge_header a
  unfolding judge_header
  header-front = rw (field-front 0 4 (omega arith), field-front 8 4 (omega arith), field-front 12 4 (omega arith), take-append-le 512 a b h)

  pub said-front : said_in (a ++ b) ≡ said_in a
  said-front = rw (field-front 0 4 (omega arith), field-front 8 4 (omega arith), field-front 12 4 (omega arith))

-- by whether block 0 is there
pub begun-runs : (k : Known) (t e l : List ℕ) → k.begun ≡ true → advance_of k t e l ≡ runs_of k t e l
unfolding advance_of
begun-runs k t e l p = ap (λ (x : Bool). if x then runs_of k t e l else (if leb 512 (length l) then unless (judge_header l) (runs_of (said_in l) t e (drop 512 l)) else goes k t e l)) p

module _ (k : Known) (t e l : List ℕ) (p : k.begun ≡ false) where
  pub no_block : length l < 512 → advance_of k t e l ≡ goes k t e l
  unfolding advance_of
  no_block h = rw (p, lt-leb 512 (length l) h)

  pub header-there : 512 ≤ length l → advance_of k t e l ≡ unless (judge_header l) (runs_of (said_in l) t e (drop 512 l))
  unfolding advance_of
  header-there h = rw (p, le-leb 512 (length l) h)

-- ---- all of it in two parts

abbrev pub later : List ℕ → Known → List ℕ → List ℕ → List ℕ → Came
later b k t e l = advance_of k t e (l ++ b)

module _ (k : Known) (t e a : List ℕ) where
  unfoldable pub text_taken : Verdict
  text_taken = judge_taken k.edition text_kind (index_of k) k.text_came k.text a

  unfoldable pub behind_text : Known
  behind_text = with_text k (came_then k.text_came k.text a)

  unfoldable pub left_text : List ℕ
  left_text = left_of k.text_came k.text a

  unfoldable pub events_taken : Verdict
  events_taken = judge_taken k.edition event_kind (index_of behind_text) k.events_came k.events left_text

  unfoldable pub behind_events : Known
  behind_events = with_events behind_text (came_then k.events_came k.events left_text)

  -- the two runs, one verdict behind the other
  pub runs-form : (f : Known → List ℕ → List ℕ → List ℕ → Came) → (runs_of k t e a then f)
      ≡ unless text_taken (unless events_taken (f behind_events (fill_taken k.text_came k.text t a) (fill_taken k.events_came k.events e left_text) (left_of k.events_came k.events left_text)))
  unfolding runs_of text_of events_of text_taken behind_text left_text events_taken behind_events
  runs-form f =
      let t' = fill_taken k.text_came k.text t a in
      let e' = fill_taken k.events_came k.events e left_text in
      ap (λ (c : Came). c then f) (unless-then text_taken (goes behind_text t' e left_text) events_of)
      ∙ unless-then text_taken (events_of behind_text t' e left_text) f
      ∙ ap (unless text_taken) (unless-then events_taken (goes behind_events t' e' (left_of k.events_came k.events left_text)) f)

  begun-later : (b : List ℕ) → k.begun ≡ true → (runs_of k t e a then onward b) ≡ (runs_of k t e a then later b)
  unfolding advance_of behind_text behind_events
  begun-later b p = runs-form (onward b) ∙ unless-same text_taken (λ x. unless-same events_taken (λ y. rw p)) ∙ sym (runs-form (later b))

module _ (k : Known) (t e a b : List ℕ) where
  both-begun : k.begun ≡ true → advance_of k t e (a ++ b) ≡ (advance_of k t e a then later b)
  both-begun p = begun-runs k t e (a ++ b) p ∙ runs-both k t e a b ∙ begun-later k t e a b p ∙ sym (ap (λ (c : Came). c then later b) (begun-runs k t e a p))

  both-short : k.begun ≡ false → length a < 512 → advance_of k t e (a ++ b) ≡ (advance_of k t e a then later b)
  both-short p h = rw (no_block k t e a p h)

  both-header : k.begun ≡ false → 512 ≤ length a → advance_of k t e (a ++ b) ≡ (advance_of k t e a then later b)
  both-header p h =
      let n : 512 ≤ length (a ++ b) = rw length-append (omega arith) in
      header-there k t e (a ++ b) p n
      ∙ rw (header-front a b h, said-front a b h, drop-append-le 512 a b h)
      (unless-same (judge_header a) (λ x. runs-both (said_in a) t e (drop 512 a) b ∙ begun-later (said_in a) t e (drop 512 a) b refl)
      ∙ sym (ap (λ (c : Came). c then later b) (header-there k t e a p h) ∙ unless-then (judge_header a) (runs_of (said_in a) t e (drop 512 a)) (later b)))

-- what the first part comes to goes on by the second
pub advance-both : (k : Known) (t e a b : List ℕ) → advance_of k t e (a ++ b) ≡ (advance_of k t e a then later b)
advance-both k t e a b = by k.begun refl
  where
    by : (x : Bool) → k.begun ≡ x → advance_of k t e (a ++ b) ≡ (advance_of k t e a then later b)
    by true p = both-begun k t e a b p
    by false p =
        elim (dec_le 512 (length a)) [
          | yes h ↦ both-header k t e a b p h
          | no h ↦ both-short k t e a b p (omega arith)
        ]
