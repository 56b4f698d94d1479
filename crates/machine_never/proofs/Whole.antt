-- Both passes over the whole list, with the line ending before and the footnotes behind. Assumes nothing.
use Rattle.std.specs.Prelude.{if◌then◌else◌}
use mathlib.Core.Path.{◌≡◌, refl, ap, ◌∙◌}
use mathlib.Core.Bool.{Bool, true, false, not, ◌&&◌, ◌||◌}
use mathlib.Core.Logic.{◌⊎◌, inl, inr}
use mathlib.Core.List.{List, [], ◌∷◌, ◌++◌, append-nil}
use mathlib.Core.Option.{Option, none, some}
use Prim.Native.Nat.{ℕ, suc, ◌≤◌}
use native.Mathlib.Omega.{arith}
use lib.Dec.{eqb}
use borrow.Author.Tests.{eqb-true}
use lib.ListN.{length}
use Rattle.lent.specs.Bytes.{bytes, same, listed}
use Rattle.event.specs.declared.Event.{Event}
use Rattle.event.specs.Event.{is_enter, event_at, events_of}
use Rattle.normalize_identifier.specs.Identity.{identity_of}
use Rattle.check_labels.specs.Labels.{identities}
use Rattle.check_slices.specs.Slices.{is_ending}
use Rattle.check_rules.specs.Rules.{Meets, Exits, enters}
use Rattle.check_rules.proofs.Before.{clash}
use Rattle.machine.specs.declared.Options.{Options}
use Rattle.machine.specs.declared.Ending.{Ending}
use Rattle.machine.specs.declared.Fixed.{Fixed}
use Rattle.machine.specs.declared.Ending.TheVariants.{Lf, Cr, CrLf}
use Rattle.machine.specs.Outcome.{Outcome, stop, go, ◌>>=◌}
use Rattle.machine.specs.State.{State, Call, start}
use Rattle.machine.specs.Turn.{span_of, str_of}
use Rattle.machine.specs.Media.{definition_labels}
use Rattle.machine.specs.Section.{footnote_labels}
use Rattle.machine.specs.Run.{parse_ending, ending_of, are_begun, turns_of}
use Rattle.machine_bounded.specs.Within.{Goes}
use Rattle.machine_clean.specs.Clean.{Clean, All, empty, more}
use Rattle.machine_clean.specs.Section.{Noted, Called}
use Rattle.machine_clean.proofs.Pushed.{start-clean}
use Rattle.machine_shape.specs.Right as R
use Rattle.machine_shape.proofs.Calm.{paired}
use Rattle.machine_shape.proofs.Grown.{Planted, planted}
use Rattle.machine_shape.proofs.Passes.{Between, Rests, all-turns}
use Rattle.machine_never.specs.Values.{text_of}
use Rattle.machine_never.specs.Here.{unwind, Here}
use Rattle.machine_never.specs.Known.{Known}
use Rattle.machine_never.specs.Tally.{AllListed}
use Rattle.machine_never.proofs.Here.{here-next, is_at, slices-there, own-str}
use Rattle.machine_never.proofs.Labels.{known-listed, has-found}
use Rattle.machine_never.proofs.Count.{exits, paired-exits, identities-long, few-labels}
use Rattle.machine_never.proofs.Marked.{ready-unmarked, between-media, between-labels}
use Rattle.machine_never.proofs.Definitions.{Outside, Inside}
use Rattle.machine_never.proofs.Pursued.{texts}
use Rattle.machine_never.proofs.Second.{Second, second-kept}
use Rattle.machine_never.proofs.Beginning.{first-kept}
use Rattle.machine_never.proofs.Begun.{begun}

-- ---- the line ending

ending-parsed : (b : List ℕ) → is_ending b ≡ true → R.Goes (parse_ending b)
unfolding is_ending
ending-parsed b h = at (same b (bytes "\n")) (same b (bytes "\r")) (same b (bytes "\r\n")) h
  where
    at : (x y z : Bool) → (x || (y || (z || false))) ≡ true → R.Goes (if x then go Lf else (if y then go Cr else (if z then go CrLf else stop)))
    at true y z h = (Lf, refl)
    at false true z h = (Cr, refl)
    at false false true h = (CrLf, refl)
    at false false false h = clash h refl

-- behind all events no label is left
none_left : {X : Type 0} (n : ℕ) (text id : List ℕ) → X ⊎ (listed (identities n text []) id ≡ true) → X
unfolding identities
none_left n text id (inl x) = x
none_left n text id (inr l) = clash l refl

clean-start : (fixed : Fixed) → Clean (start fixed)
clean-start fixed = start-clean fixed

module _ (text events : List ℕ) (meets : Meets text events) where
  pub ending-goes : (d : Ending) (p : ℕ) (before es : List Event) → Here (events_of events) p before es → R.Goes (ending_of d text es)
  unfolding ending_of
  ending-goes d p before [] h = (d, refl)
  ending-goes d p before (e ∷ es) h = at (is_enter e) (eqb e.name 3) (eqb e.name 4) refl refl refl (ending-goes d (suc p) (e ∷ before) es (here-next p before e es h))
    where
      exit-at : (n : ℕ) → is_enter e ≡ false → e.name ≡ n → Exits n (event_at events p)
      exit-at n x i = rw (is_at text events meets p before e es h) (x, i)

      read : is_enter e ≡ false → is_ending (text_of text (span_of e)) ≡ true → R.Goes (str_of text (span_of e) >>= parse_ending)
      read x i = let r = ending-parsed (text_of text (span_of e)) i in (r.0, ap (λ (q : Outcome (List ℕ)). q >>= parse_ending) (own-str text events meets p before e es h x) ∙ r.1)

      at : (x y z : Bool) → is_enter e ≡ x → eqb e.name 3 ≡ y → eqb e.name 4 ≡ z → R.Goes (ending_of d text es)
          → R.Goes {A = Ending} (elim (not x && (y || (z || false))) [ true ↦ str_of text (span_of e) >>= parse_ending | false ↦ ending_of d text es ])
      at true y z ex ey ez rest = rest
      at false true z ex ey ez rest = read ex (rw (is_at text events meets p before e es h) at ((slices-there text events meets p before e es h).ending (exit-at 3 ex (eqb-true e.name 3 ey))))
      at false false true ex ey ez rest = read ex (rw (is_at text events meets p before e es h) at ((slices-there text events meets p before e es h).blank (exit-at 4 ex (eqb-true e.name 4 ez))))
      at false false false ex ey ez rest = rest

  -- ---- the passes

  module _ (o : Options) where
    abbrev All-events : List Event
    All-events = events_of events

    grown : Planted All-events
    grown = planted events meets.nests

    exits-are : (n : ℕ) → exits n All-events ≡ enters n All-events
    exits-are n = rw grown.same (paired-exits n grown.forest (paired grown.kinds))

    pub begins : are_begun All-events ≡ true
    unfolding are_begun
    begins = rw grown.same (begun grown.forest [] (paired grown.kinds) refl)

    few-notes : length (identities 65 text All-events) ≤ 64
    few-notes =
        let f : exits 65 All-events ≤ enters 63 All-events = rw grown.same (few-labels grown.kinds grown.takes (paired grown.kinds)) in
        omega (arith, f, identities-long 65 text All-events, meets.counts.footnotes)

    -- at the start
    outside-start : (fixed : Fixed) → Outside text events meets 0 [] All-events (start fixed)
    unfolding start
    outside-start fixed =
        record {
          steady = record { here = record { long = refl; same = refl }; ids = tt; marker = λ m q. absurd (unset q); read = tt; clean = clean-start fixed };
          defined = record { known = tt; room = omega (arith, exits-are 53, meets.counts.definitions); unnoted = refl; uncalled = refl };
        }
      where
        unset : {A : Type 0} {a : A} → ◌≡◌ {A = Option A} none (some a) → ⊥
        unset q = let z : ◌≡◌ {A = ℕ} 0 1 = cc in omega arith

    -- from the first pass to the second
    turned : (p : ℕ) (before : List Event) (u : State) → Between u → Outside text events meets p before [] u → Second text events meets few-notes 0 [] All-events u
    turned p before u b h =
        let e : unwind before [] ≡ All-events = h.steady.here.same in
        record {
          steady = record { here = record { long = refl; same = refl }; ids = rw (between-media u b) tt; marker = λ m q. absurd (unset u.waiting.marker (ready-unmarked u b.ready_for) q); read = rw (between-labels u b) tt; clean = h.steady.clean };
          finds = λ id l. none_left 54 text id (known-listed text 54 before [] (definition_labels u.kept.definitions) id h.defined.known (rw e l));
          footed = record { known = tt; room = rw h.defined.unnoted (omega (arith, exits-are 63, meets.counts.footnotes)) };
          tally = rw h.defined.uncalled (record { each = tt; apart = tt; total = omega arith });
        }
      where
        unset : {A : Type 0} {a : A} (o : Option A) → o ≡ none → o ≡ some a → ⊥
        unset o p q = let z : ◌≡◌ {A = ℕ} 0 1 = cc in omega arith

    -- every turn is taken, and nothing is left open
    pub turns_go : (fixed : Fixed) → (v : State) × Goes (turns_of text o All-events) (start fixed) v × (v.captures ≡ []) × Clean v × Called v
    turns_go fixed =
        let q = all-turns text o (Outside text events meets) (Second text events meets few-notes) (Inside text events meets) (first-kept text events meets few-notes o) (second-kept text events meets few-notes o (Rests text o (Outside text events meets) (Second text events meets few-notes) (Inside text events meets)))
        All-events fixed grown (outside-start fixed) turned in
        let z = q.2.after in
        let n = footed q.0 (between-labels q.0 q.2.between) q.2.before z.footed.known in
        (q.0, q.1, none-long q.0.captures q.2.between.low.captures, z.steady.clean, called q.0 q.2.before z.steady.here.same n q.0.kept.calls z.tally.each)
      where
        none-long : {A : Type 0} (xs : List A) → length xs ≤ 0 → xs ≡ []
        none-long [] h = refl
        none-long (x ∷ xs) h = absurd (omega arith)

        -- no label waits
        footed : (v : State) → v.labels ≡ [] → (before : List Event) → Known text 65 before (footnote_labels v.kept.footnotes ++ texts text v.labels) → Known text 65 before (footnote_labels v.kept.footnotes)
        footed v e before k = rw (e, append-nil) at k

        called : (v : State) (before : List Event) → unwind before [] ≡ All-events → Known text 65 before (footnote_labels v.kept.footnotes) → (cs : List Call) → AllListed (identities 65 text All-events) cs → All (Noted v.kept.footnotes) cs
        called v before e k [] l = empty
        called v before e k (c ∷ cs) l =
            more (record { found = λ q. has-found (footnote_labels v.kept.footnotes) c.label (none_left 65 text (identity_of c.label) (known-listed text 65 before [] (footnote_labels v.kept.footnotes) (identity_of c.label) k (rw e l.0))) q })
            (called v before e k cs l.1)
