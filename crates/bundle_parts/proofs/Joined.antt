-- Parts fed one after the other come to what the joined bytes come to, from any state. Assumes nothing.
use Rattle.std.proofs.Common.{Some, None, if◌then◌else◌, ◌≡◌, refl, sym, ap, ◌∙◌, Bool, true, false, not, ◌&&◌, ◌||◌, List, [], ◌∷◌, ◌++◌, append_assoc, append-nil, ℕ, length}
use Rattle.std.proofs.Math.Bool.{or_assoc}
use Rattle.std.proofs.Math.ListN.{length-replicate}
use Rattle.lent.specs.Fill.{zeros}
use Rattle.bundle_block.specs.declared.Refusal.{Refusal}
use Rattle.bundle_block.specs.declared.Refusal.TheVariants.{Short}
use Rattle.bundle_read.specs.Read.{Answer}
use Rattle.bundle_known.specs.declared.Known.{Known}
use Rattle.bundle_known.specs.Known.{whole_of, Came, goes, stops, ◌then◌, advance_of}
use Rattle.bundle_known.proofs.Resume.{later, advance-both}
use Rattle.bundle_known.proofs.Stepped.{Stepped, stepped, whole-stays, whole-begun}
use Rattle.bundle_parts.specs.Feed.{Progress, Stand, is_empty, refused_at, kept, settled, fresh, roomy, feed_of}
use Rattle.bundle_parts.specs.Parts.{joined, fed_of}
use Rattle.bundle_parts.proofs.Taking.{settled-long}

-- ---- a call, by where it stands

module _ (s : Stand) (part : List ℕ) where
  pub feed-done : {a : Answer} → s.progress ≡ Some a → feed_of s part ≡ s
  unfolding feed_of
  feed-done p = rw p

  pub opened : Came
  opened = advance_of s.known (fresh s.known s.rest s.text) (fresh s.known s.rest s.events) (s.rest ++ part)

  pub feed-short : s.progress ≡ None → roomy s.text s.events ≡ false → feed_of s part ≡ refused_at s.text s.events Short
  unfolding feed_of
  feed-short p q = rw (p, q)

  pub feed-open : s.progress ≡ None → roomy s.text s.events ≡ true → feed_of s part ≡ settled s.over s.text s.events opened
  unfolding feed_of opened
  feed-open p q = rw (p, q)

-- ---- buffers that are cleared before the first byte

pub length-fresh : (k : Known) (rest d : List ℕ) → length (fresh k rest d) ≡ length d
length-fresh k rest d = by (not k.begun && is_empty rest)
  where
    by : (b : Bool) → length (if b then zeros (length d) else d) ≡ length d
    by true = length-replicate (length d) 0
    by false = refl

fresh-begun : (k : Known) (rest d : List ℕ) → k.begun ≡ true → fresh k rest d ≡ d
fresh-begun k rest d p = rw p

fresh-again : (k : Known) (rest part d : List ℕ) → fresh k (rest ++ part) (fresh k rest d) ≡ fresh k rest d
fresh-again k rest part d = by k.begun rest part
  where
    cleared : (b : Bool) (l : List ℕ) → List ℕ → List ℕ
    cleared b l x = if not b && is_empty l then zeros (length x) else x

    by : (b : Bool) (l m : List ℕ) → cleared b (l ++ m) (cleared b l d) ≡ cleared b l d
    by true l m = refl
    by false [] [] = ap zeros (length-replicate (length d) 0)
    by false [] (x ∷ m) = refl
    by false (x ∷ l) m = refl

empty-both : (l m : List ℕ) → not (is_empty (l ++ m)) ≡ (not (is_empty l) || not (is_empty m))
empty-both [] m = refl
empty-both (x ∷ l) m = refl

-- ---- one part, then another

module _ (s : Stand) (a b : List ℕ) (p : s.progress ≡ None) (q : roomy s.text s.events ≡ true) where
  abbrev t : List ℕ
  t = fresh s.known s.rest s.text

  abbrev e : List ℕ
  e = fresh s.known s.rest s.events

  both-open : feed_of s (a ++ b) ≡ settled s.over s.text s.events (opened s a then later b)
  unfolding opened
  both-open =
      feed-open s (a ++ b) p q
      ∙ rw (← append_assoc s.rest a b)
      (ap (settled s.over s.text s.events) (advance-both s.known t e (s.rest ++ a) b))

  module _ (k : Known) (t' e' left : List ℕ) (g : opened s a ≡ goes k t' e' left) where
    facts : Stepped s.known t e (s.rest ++ a) k t' e' left
    unfolding opened
    facts = stepped s.known t e (s.rest ++ a) k t' e' left g

    text-long : length t' ≡ length s.text
    text-long = facts.text-long ∙ length-fresh s.known s.rest s.text

    events-long : length e' ≡ length s.events
    events-long = facts.events-long ∙ length-fresh s.known s.rest s.events

    still-roomy : roomy t' e' ≡ true
    still-roomy = rw (text-long, events-long) q

    -- the buffers are not cleared again
    not-again : (d d' : List ℕ) → (k.begun ≡ false → d' ≡ fresh s.known s.rest d) → fresh k left d' ≡ d'
    not-again d d' h = by k.begun refl
      where
        by : (x : Bool) → k.begun ≡ x → fresh k left d' ≡ d'
        by true m = fresh-begun k left d' m
        by false m =
            let u = facts.unbegun m in
            rw (u.0, u.3, h m) (fresh-again s.known s.rest a d)

    -- not all has come: the bytes left are a rest
    goes-rest : whole_of k ≡ false → feed_of (feed_of s a) b ≡ feed_of s (a ++ b)
    unfolding kept opened
    goes-rest w =
        let next : Stand = record { known = k; rest = left; over = s.over; progress = None; text = t'; events = e' } in
        let x = not-again s.text t' (λ m. (facts.unbegun m).1) in
        let y = not-again s.events e' (λ m. (facts.unbegun m).2) in
        let first : feed_of s a ≡ next = feed-open s a p q ∙ rw (g, w) in
        let second : feed_of next b ≡ settled s.over t' e' (advance_of k t' e' (left ++ b)) = rw (x, y) at (feed-open next b refl still-roomy) in
        let whole : feed_of s (a ++ b) ≡ settled s.over s.text s.events (advance_of k t' e' (left ++ b)) = both-open ∙ rw g in
        rw first (second ∙ settled-long s.over s.text s.events t' e' (advance_of k t' e' (left ++ b)) text-long events-long ∙ sym whole)

    -- all has come: that bytes are left is enough
    goes-past : whole_of k ≡ true → feed_of (feed_of s a) b ≡ feed_of s (a ++ b)
    unfolding kept opened
    goes-past w =
        let next : Stand = record { known = k; rest = []; over = s.over || not (is_empty left); progress = None; text = t'; events = e' } in
        let first : feed_of s a ≡ next = feed-open s a p q ∙ rw (g, w) in
        let m = whole-begun k w in
        let second = rw (fresh-begun k [] t' m, fresh-begun k [] e' m, whole-stays k t' e' b w, w, or_assoc s.over (not (is_empty left)) (not (is_empty b)), ← empty-both left b) at (feed-open next b refl still-roomy) in
        let whole = rw (g, whole-stays k t' e' (left ++ b) w, w) at both-open in
        rw first (second ∙ sym whole)

  stopped : {r : Refusal} → opened s a ≡ stops r → feed_of (feed_of s a) b ≡ feed_of s (a ++ b)
  stopped {r} g =
      let first : feed_of s a ≡ refused_at s.text s.events r = feed-open s a p q ∙ rw g in
      rw first (feed-done (refused_at s.text s.events r) b refl ∙ sym (both-open ∙ rw g))

  went_on : feed_of (feed_of s a) b ≡ feed_of s (a ++ b)
  went_on = by (opened s a) refl
    where
      rest : (k : Known) (t' e' left : List ℕ) → opened s a ≡ goes k t' e' left → (x : Bool) → whole_of k ≡ x → feed_of (feed_of s a) b ≡ feed_of s (a ++ b)
      rest k t' e' left g true w = goes-past k t' e' left g w
      rest k t' e' left g false w = goes-rest k t' e' left g w

      by : (c : Came) → opened s a ≡ c → feed_of (feed_of s a) b ≡ feed_of s (a ++ b)
      by (goes k t' e' left) g = rest k t' e' left g (whole_of k) refl
      by (stops r) g = stopped g

-- from any state
pub feed-feed : (s : Stand) (a b : List ℕ) → feed_of (feed_of s a) b ≡ feed_of s (a ++ b)
feed-feed s a b = by s.progress refl (roomy s.text s.events) refl
  where
    by : (p : Progress) → s.progress ≡ p → (x : Bool) → roomy s.text s.events ≡ x → feed_of (feed_of s a) b ≡ feed_of s (a ++ b)
    by (Some z) p x q = rw (feed-done s a p) (feed-done s b p ∙ sym (feed-done s (a ++ b) p))
    by None p true q = went_on s a b p q
    by None p false q =
        rw (feed-short s a p q) (feed-done (refused_at s.text s.events Short) b refl ∙ sym (feed-short s (a ++ b) p q))

-- any number of parts
pub fed-joined : (s : Stand) (part : List ℕ) (parts : List (List ℕ)) → fed_of (feed_of s part) parts ≡ feed_of s (part ++ joined parts)
fed-joined s part [] = rw append-nil
fed-joined s part (next ∷ parts) = rw (feed-feed s part next) (fed-joined s (part ++ next) parts ∙ rw append_assoc)

-- one part more at the end
pub fed-snoc : (s : Stand) (parts : List (List ℕ)) (part : List ℕ) → fed_of s (parts ++ part ∷ []) ≡ feed_of (fed_of s parts) part
fed-snoc s [] part = refl
fed-snoc s (first ∷ parts) part = fed-snoc (feed_of s first) parts part

pub joined_snoc : (parts : List (List ℕ)) (part : List ℕ) → joined (parts ++ part ∷ []) ≡ joined parts ++ part
joined_snoc [] part = append-nil part
joined_snoc (first ∷ parts) part = ap (λ (l : List ℕ). first ++ l) (joined_snoc parts part) ∙ sym (append_assoc first (joined parts) part)
