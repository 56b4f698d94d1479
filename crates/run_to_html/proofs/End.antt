-- Behind the last event, and both passes together. Assumes nothing.
use Rattle.std.proofs.Common.{Ok, Err, ◌≡◌, refl, sym, ap, ◌∙◌, List, [], ◌∷◌, ℕ, ◌/◌, ◌≤◌, ◌<◌, arith, length, take}
use Rattle.std.proofs.Math.Option.{none}
use Rattle.machine.specs.declared.Fixed.{Fixed}
use Rattle.machine.specs.State.{State, Call}
use Rattle.machine.specs.Outcome.{go}
use Rattle.machine.specs.Section.{footnote_section}
use Rattle.machine.specs.Run.{Answer, page, refused}
use Rattle.machine_bounded.specs.Within.{ends, turns}
use Rattle.machine_clean.specs.Section.{Appends}
use Rattle.machine_clean.proofs.Section.{section-goes}
use Rattle.regions.specs.Regions.{region_at}
use Rattle.regions.specs.Sizes.{kept_at}
use Rattle.state_kept.specs.declared.Kept.{Kept}
use Rattle.state_kept.specs.Kept.{InTables, tables}
use Rattle.state_buffers.specs.Stand.{Holds}
use Rattle.state_context.specs.Rel.{fixed_in}
use Rattle.write_section.specs.Clauses.{WritesSection}
use Rattle.state_whole.specs.declared.Whole.{Whole}
use Rattle.state_whole.specs.Whole.{World}
use Rattle.run_answer.specs.declared.Full.TheVariants as F
use Rattle.run_next.specs.Reach.{Stands}
use Rattle.run_to_html.specs.Renders.{Answers}
use Rattle.run_to_html.specs.Private.{Last, Finishes}
use Rattle.state_whole.proofs.Over.{Within, none_over}
use Rattle.run_to_html.proofs.Section.{no-calls, with-section, section-refused, section-fits, section-over}

-- ---- a page in the output

-- where it has room
pub record Standing (out : List ℕ) (at : ℕ) (b : List ℕ) : Type 0 where
  pub bytes : b ≡ take at out
  pub fits : at ≤ length out

held-so : (out : List ℕ) (at : ℕ) (b : List ℕ) → Holds out at b → at ≤ length out → Standing out at b
held-so out at b h l =
    let p = h.place in
    let e : at ≡ length b = omega arith in
    record { bytes = rw e (sym (h.bytes (omega arith))); fits = l }

over-so : (out : List ℕ) (at : ℕ) (b : List ℕ) → Holds out at b → length out < at → length out < length b
over-so out at b h l = let p = h.place in omega arith

place_of : (out : List ℕ) (at : ℕ) (b : List ℕ) → Holds out at b → length b ≤ length out → at ≤ length out
place_of out at b h l = let p = h.place in omega arith

answered : {out : List ℕ} {at : ℕ} {b : List ℕ} {a : Answer} → Standing out at b → a ≡ page b → Answers out (Ok at) a
answered x p = (p ∙ ap page x.bytes, x.fits)

-- ---- no section

none_of : {A : Type 0} (xs : List A) → length xs ≡ 0 → xs ≡ []
none_of [] p = refl
none_of (x ∷ xs) p = absurd (omega arith)

some_of : {A : Type 0} (xs : List A) → (length xs ≡ 0 → ⊥) → (x : A) × (ys : List A) × (xs ≡ x ∷ ys)
some_of [] h = absurd (h refl)
some_of (x ∷ xs) h = (x, xs, refl)

pub ends-plain : {b : Whole} {text events work footnotes calls out : List ℕ} → b.kept.calls ≡ 0 → Finishes b text events work footnotes calls out out (Ok b.context.buffers.page)
ends-plain {b} {events = events} {out = out} z =
    record {
      finishes = λ w s i j f g x l.
          let h : Holds out b.context.buffers.page s.page = rw (← j) x.built.context.stand.page in
          let n = (none_over (length out) s x.roomy).page in
          let e = none_of s.kept.calls (sym x.built.kept.calls.rows ∙ z) in
          answered (held-so out b.context.buffers.page s.page h (place_of out b.context.buffers.page s.page h n)) (no-calls events (length out) s e);
    }

-- ---- the section

-- the state behind it, and the output
record Sectioned (s : State) (out out' : List ℕ) (end : ℕ) : Type 0 where
  after : State
  goes : footnote_section s ≡ go after
  appends : Appends s after
  holds : Holds out' end after.page
  long : length out' ≡ length out

called : (b : Whole) (text out : List ℕ) (w : World) (s : State) → (b.kept.calls ≡ 0 → ⊥) → Stands text (length out) b w s → (c : Call) × (cs : List Call) × (s.kept.calls ≡ c ∷ cs)
called b text out w s z x = some_of s.kept.calls (λ p. z (x.built.kept.calls.rows ∙ p))

tables-are : {k : Kept} {text region region' definitions footnotes footnotes' calls calls' labels : List ℕ} {s : State} → region ≡ region' → footnotes ≡ footnotes' → calls ≡ calls'
    → InTables k text region (tables definitions footnotes calls labels) s → InTables k text region' (tables definitions footnotes' calls' labels) s
tables-are p q r x = rw (← p, ← q, ← r) x

module _ (b : Whole) {text work footnotes calls out out' : List ℕ} {end : ℕ} {fixed : Fixed} (h : fixed ≡ fixed_in b.context.word) (k : WritesSection b.kept fixed text work footnotes calls out b.context.buffers.page out' end) where
  sectioned : (w : World) (s : State) → w.work ≡ work → w.out ≡ out → w.tables.footnotes ≡ footnotes → w.tables.calls ≡ calls → Stands text (length out) b w s → Last s → Sectioned s out out' end
  sectioned w s i j f g x l =
      let e = section-goes s l.clean l.called in
      let p = (none_over (length out) s x.roomy).kept-is in
      let m = x.built.kept.end in
      let r = k.writes w.tables.definitions w.tables.labels s e.0 l.closed (sym (h ∙ x.built.context.fixed)) (ap length (sym i) ∙ x.built.long) (omega arith) (tables-are (ap (region_at kept_at) i) f g x.built.kept) (rw (← j) x.built.context.stand.page) e.1 in
      record { after = e.0; goes = e.1; appends = e.2; holds = r.0; long = r.1 }

  module _ {events : List ℕ} (z : b.kept.calls ≡ 0 → ⊥) where
    pub ends-section : end ≤ length out' → Finishes b text events work footnotes calls out out' (Ok end)
    ends-section n =
        record {
          finishes = λ w s i j f g x l.
              let y = sectioned w s i j f g x l in
              let c = called b text out w s z x in
              let h = held-so out' end y.after.page y.holds n in
              let q = section-fits (length out) s y.after y.appends l.closed x.roomy (long-so y.holds y.long n) in
              answered h (with-section events (length out) s c.0 c.1 c.2 y.after y.goes q);
        }
      where
        long-so : {b : List ℕ} → Holds out' end b → length out' ≡ length out → end ≤ length out' → length b ≤ length out
        long-so h l n = let p = h.place in omega arith

    pub ends-over : length out' < end → Finishes b text events work footnotes calls out out' (Err (F.Page (record { 0 = length events / 20 })))
    ends-over n =
        record {
          finishes = λ w s i j f g x l.
              let y = sectioned w s i j f g x l in
              let c = called b text out w s z x in
              let e = y.long in
              let m = over-so out' end y.after.page y.holds n in
              section-refused events (length out) s c.0 c.1 c.2 y.after y.goes 9 (section-over (length out) s y.after y.appends l.closed x.roomy (omega arith));
        }
