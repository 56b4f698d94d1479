-- What came of the input is inside the buffers, and is what the joined bytes say. Assumes nothing.
use Rattle.std.proofs.Common.{◌≡◌, refl, sym, ap, subst, ◌∙◌, true, List, [], ◌∷◌, ◌++◌, ℕ, ◌-◌, ◌≤◌, arith, length, take, drop, length-append, take_at, Ok, Err}
use Rattle.lent.specs.Fill.{zeros}
use Rattle.bundle_block.specs.declared.Refusal.{Refusal}
use Rattle.machine.specs.declared.Options.{Options}
use Rattle.std.specs.Prelude as O
use Rattle.bundle_read.specs.declared.Contents.{Contents}
use Rattle.bundle_read.specs.Read.{Answer}
use Rattle.bundle_read.specs.Bundle.{Meaning, says, refused}
use Rattle.bundle_read.specs.Read as R
use Rattle.bundle_parts.specs.declared.Reader.{Reader}
use Rattle.bundle_parts.specs.Feed.{Progress, stand_of, start_of, feed_of, end_of}
use Rattle.bundle_parts.specs.Late.{call_late}
use Rattle.bundle_parts.specs.Parts.{joined, fed_of, HasReadLate}
use Rattle.bundle_parts.proofs.Joined.{fed-snoc}
use Rattle.bundle_parts.proofs.Parts.{ended}
use Rattle.call_build_answer.specs.Built.{Built}
use Rattle.call_build.specs.Build.{Builds}
use Rattle.notepage.specs.declared.NoPage.TheVariants as S
use Rattle.notepage.specs.declared.Turn.{Turn}
use Rattle.notepage.specs.declared.Input.{Input}
use Rattle.notepage.specs.declared.Input.TheVariants.{Again, Some, End, Failed}
use Rattle.notepage.specs.Came.{Came, CameMore, Stayed, TurnedBy, Turned, CameBy, CameTo, no_bytes}
use Rattle.notepage.specs.Shows.{Shown, off_of, shown_of, ShowsNote, ShowsOf, Shows, read, unread, ShowsEnd}

-- the note stands in the first bytes of two buffers
pub note-shown : (text events : List ℕ) (n m : ℕ) {out work out' work' : List ℕ} {o : Options} {b : Built} {s : Shown} → o ≡ off_of
    → Builds (take (n - 0) (drop 0 text)) (take (m - 0) (drop 0 events)) o out work out' work' b
    → s ≡ shown_of b
    → ShowsNote (take n text) (take m events) out work out' s
note-shown text events n m {out} {work} {out'} {work'} {o} {b} e h p =
    let x : n - 0 ≡ n = omega arith in
    let y : m - 0 ≡ m = omega arith in
    let k : Builds (take n text) (take m events) off_of out work out' work' b = rw (← e, ← x, ← y) h in
    record { built = b; ended = k.ended; shown = p }

-- ---- the input

pub came-none : (t e : List ℕ) {r : Reader} → ((x y : List ℕ) → stand_of r x y ≡ start_of x y) → Came t e r t e
came-none t e f = record { parts = []; stands = f t e }

module _ (t e : List ℕ) (r : Reader) (t₁ e₁ t₂ e₂ : List ℕ) (turn : Turn) (c : Came t e r t₁ e₁) (h : Turned r t₁ e₁ t₂ e₂ turn) where
  pub came-more : turn.input ≡ Some → Came t e turn.reader t₂ e₂
  came-more p =
      let m : CameMore r t₁ e₁ turn.reader t₂ e₂ = subst (λ (x : Input). TurnedBy x r t₁ e₁ turn.reader t₂ e₂) p h in
      record { parts = c.parts ++ m.part ∷ []; stands = m.stands ∙ rw (c.stands, fed-snoc (start_of t e) c.parts m.part) }

  pub came-again : turn.input ≡ Again → Came t e r t₂ e₂
  came-again p =
      let m : Stayed r t₁ e₁ turn.reader t₂ e₂ = subst (λ (x : Input). TurnedBy x r t₁ e₁ turn.reader t₂ e₂) p h in
      record { parts = c.parts; stands = rw (m.text, m.events) c.stands }

  pub came-whole : turn.input ≡ End → CameTo t e t₂ e₂ turn
  came-whole p =
      let m : Stayed r t₁ e₁ turn.reader t₂ e₂ = subst (λ (x : Input). TurnedBy x r t₁ e₁ turn.reader t₂ e₂) p h in
      let w : Came t e turn.reader t₂ e₂ = record { parts = c.parts; stands = rw (m.text, m.events, m.reader) c.stands } in
      subst (λ (x : Input). CameBy x t e turn.reader t₂ e₂) (sym p) w

pub came-failed : (t e t' e' : List ℕ) (turn : Turn) → turn.input ≡ Failed → CameTo t e t' e' turn
came-failed t e t' e' turn p = subst (λ (x : Input). CameBy x t e turn.reader t' e') (sym p) tt

pub turned_more : (r : Reader) (t e part : List ℕ) {r' : Reader} {t' e' : List ℕ} → stand_of r' t' e' ≡ feed_of (stand_of r t e) part → TurnedBy Some r t e r' t' e'
turned_more r t e part p = record { part = part; stands = p }

pub turned_none : (r : Reader) (t e : List ℕ) (input : Input) → no_bytes input ≡ true → TurnedBy input r t e r t e
turned_none r t e Some p = let z : ◌≡◌ {A = ℕ} 0 1 = cc in absurd (omega arith)
turned_none r t e Again p = record { reader = refl; text = refl; events = refl }
turned_none r t e End p = record { reader = refl; text = refl; events = refl }
turned_none r t e Failed p = record { reader = refl; text = refl; events = refl }

pub shown-unread : {t e out work out' : List ℕ} → Shows t e out work out' (Err S.Unread)
shown-unread = unread refl

pub shown_read : (t e t' e' : List ℕ) (turn : Turn) {out work out' : List ℕ} {s : Shown} → CameTo t e t' e' turn → turn.input ≡ End → ShowsEnd turn.reader t' e' out work out' s → Shows t e out work out' s
shown_read t e t' e' turn p q h =
    let c : Came t e turn.reader t' e' = subst (λ (x : Input). CameBy x t e turn.reader t' e') q p in
    read c.parts (h.shows t e c.parts c.stands)

-- ---- the bundle's parts, in the buffers

module _ (c : Contents) where
  at : (t e : ℕ) {u f : List ℕ} {r : Answer} (x : Meaning) → r ≡ R.answer_of x → u ≡ R.text_bytes x t → f ≡ R.event_bytes x e → r ≡ O.Ok c
      → (c.text ≤ length u) × (c.events ≤ length f) × (x ≡ says (take c.text u) (take c.events f) c.edition)
  at t e {u} {f} (says text events ed) p q k g =
      let a : length text ≡ c.text = ap R.value_of (sym p ∙ g) in
      let b : length events ≡ c.events = ap R.events_of (sym p ∙ g) in
      let d : ed ≡ c.edition = ap R.edition_of (sym p ∙ g) in
      let i : take c.text u ≡ text = ap (take c.text) q ∙ take_at text (zeros (t - length text)) c.text a in
      let j : take c.events f ≡ events = ap (take c.events) k ∙ take_at events (zeros (e - length events)) c.events b in
      (omega (arith, a, simp length-append at (ap length q)), omega (arith, b, simp length-append at (ap length k)), rw (i, j, d))
  at t e (refused x) p q k g = let z : ◌≡◌ {A = ℕ} 0 1 = cc in absurd (omega arith)

module _ (r r' : Reader) (t e t' e' : List ℕ) {q : Progress} (h : stand_of r' t' e' ≡ end_of (stand_of r t e)) (s : q ≡ r'.state.progress) where
  -- what the end says of any parts
  late : (t₀ e₀ : List ℕ) (parts : List (List ℕ)) → stand_of r t e ≡ fed_of (start_of t₀ e₀) parts → HasReadLate (joined parts) t₀ e₀ (stand_of r' t' e')
  late t₀ e₀ parts p = rw (h, p) (ended t₀ e₀ parts)

  done : (t₀ e₀ : List ℕ) (parts : List (List ℕ)) → stand_of r t e ≡ fed_of (start_of t₀ e₀) parts → q ≡ O.Some (R.answer_of (call_late (joined parts) (length t₀) (length e₀)))
  done t₀ e₀ parts p = s ∙ (late t₀ e₀ parts p).answer

  pub end_more : {out work out' : List ℕ} {x : Shown} → q ≡ O.None → ShowsEnd r t e out work out' x
  end_more g = record { shows = λ t₀ e₀ parts p. let d = done t₀ e₀ parts p in let z : ◌≡◌ {A = ℕ} 0 1 = cc in absurd (omega arith) }

  module _ {a : Answer} (g : q ≡ O.Some a) where
    pub end_refused : {out work out' : List ℕ} {x y : ℕ} (c : Refusal) → a ≡ O.Err c → x ≡ R.number_of a → y ≡ R.value_of a → ShowsEnd r t e out work out' (Err (S.Refused x y))
    end_refused {out} {work} {out'} {x} {y} c k i j =
        record { shows = λ t₀ e₀ parts p. on (call_late (joined parts) (length t₀) (length e₀)) (cc (done t₀ e₀ parts p)) }
      where
        on : (z : Meaning) → a ≡ R.answer_of z → ShowsOf z out work out' (Err (S.Refused x y))
        on (says text events edition) b = let z : ◌≡◌ {A = ℕ} 0 1 = cc in absurd (omega arith)
        on (refused c) b = rw (i, j, b)

    pub end_read : {out work out' : List ℕ} {x : Shown} (c : Contents) → a ≡ O.Ok c → (c.text ≤ length t' → c.events ≤ length e' → ShowsNote (take c.text t') (take c.events e') out work out' x) → ShowsEnd r t e out work out' x
    end_read {out} {work} {out'} {x} c k f = record { shows = λ t₀ e₀ parts p. on t₀ e₀ parts (late t₀ e₀ parts p) (cc (done t₀ e₀ parts p)) }
      where
        on : (t₀ e₀ : List ℕ) (parts : List (List ℕ)) → HasReadLate (joined parts) t₀ e₀ (stand_of r' t' e') → a ≡ R.answer_of (call_late (joined parts) (length t₀) (length e₀))
            → ShowsOf (call_late (joined parts) (length t₀) (length e₀)) out work out' x
        on t₀ e₀ parts l b =
            let w = at c (length t₀) (length e₀) (call_late (joined parts) (length t₀) (length e₀)) b l.text l.events k in
            subst (λ (y : Meaning). ShowsOf y out work out' x) (sym w.2) (f w.0 w.1)
