-- A footnote's body kept: the newest capture, under the newest label. Assumes nothing.
use mathlib.Core.Path.{◌≡◌, refl, sym, ap, ◌∙◌}
use mathlib.Core.Bool.{true}
use mathlib.Core.List.{List, [], ◌∷◌}
use Prim.Native.Nat.{ℕ, ◌+◌, ◌-◌, ◌≤◌, ◌<◌}
use native.Mathlib.Omega.{arith}
use lib.ListN.{length, take, drop, length-take, length-drop}
use Rattle.regions.specs.Sizes.{region_size, held_at, kept_at, work_size}
use Rattle.machine.specs.State.{State, Span}
use Rattle.machine.specs.Outcome.{Outcome, go, ◌>>=◌}
use Rattle.machine.specs.Set.{set_captures, set_labels, add_footnote}
use Rattle.machine.specs.Turn.{Turn, str_of}
use Rattle.machine.specs.Footnote.{split_labels, keep}
use Rattle.machine.specs.Command.{◌▸◌, exec}
use Rattle.machine.specs.Words.{keep_footnote, close_container}
use Rattle.machine.proofs.Outcomes.{never, first_goes}
use Rattle.machine_bounded.specs.Within.{within}
use Rattle.machine_bounded.proofs.Bounds.{done, fits}
use Rattle.regions.specs.Regions.{region_at}
use Rattle.state_buffers.specs.declared.Buffers.{Buffers}
use Rattle.state_buffers.specs.Stand as Stand
use Rattle.state_context.specs.declared.Context.{Context}
use Rattle.state_context.specs.Rel.{Sets}
use Rattle.state_context.proofs.Laws.{with_buffers}
use Rattle.state_media.specs.Links.{Linked}
use Rattle.state_kept.specs.declared.Kept.{Kept}
use Rattle.state_kept.specs.Kept.{Piece, InTables}
use Rattle.state_kept.specs.Clauses.{KeepsFootnote}
use Rattle.state_kept.proofs.Labels.{label_is}
use Rattle.state_kept.proofs.Lists.{long-more, part_same}
use Rattle.state_whole.specs.declared.Whole.{Whole}
use Rattle.state_whole.specs.Whole.{World, Roomy, with_context, with_kept}
use Rattle.state_whole.proofs.Parts.{Alike, rel-alike, linked-same, keeps_same, front_long}
use Rattle.state_whole.proofs.Lifts.{then}
use Rattle.state_whole.proofs.Media.{cc-go, capture-there, Captured, captured, uncaptured}
use Rattle.on_footnote.specs.Footnotes.{OnFootnotes}
use Rattle.on_footnote.proofs.Lifted.{sets-whole}

-- ---- the machine

-- the newest label is there, and this becomes of it
labels-there : (ls : List Span) (u : State) (f : Span × List Span → Outcome State) → (split_labels ls >>= f) ≡ go u → (p : Span) × (ps : List Span) × (ls ≡ p ∷ ps) × (f (p, ps) ≡ go u)
labels-there [] u f q = never q
labels-there (p ∷ ps) u f q = (p, ps, refl, q)

abbrev with_body : (label body : List ℕ) → List Span → State → State
with_body label body ps s = add_footnote (record { label = label; body = body }) (set_labels ps s)

-- what is known where one is kept
record KeptBody (t : Turn) (s u : State) : Type 0 where
  pub body : List ℕ
  pub others : List (List ℕ)
  pub span : Span
  pub spans : List Span
  pub label : List ℕ
  pub captures-are : s.captures ≡ body ∷ others
  pub labels-are : s.labels ≡ span ∷ spans
  pub label-there : str_of t.text span ≡ go label
  pub then_is : with_body label body spans (set_captures others s) ≡ u

body-there : (t : Turn) (s u : State) → keep t s ≡ go u → KeptBody t s u
unfolding keep
body-there t s u p =
    let f = capture-there s u (λ (body, z). split_labels z.labels >>= λ (p, ps). str_of t.text p >>= λ label. go (with_body label body ps z)) p in
    let g = labels-there s.labels u (λ (p, ps). str_of t.text p >>= λ label. go (with_body label f.0 ps (set_captures f.1 s))) f.3 in
    let h = first_goes (str_of t.text g.0) (λ label. go (with_body label f.0 g.1 (set_captures f.1 s))) u g.3 in
    record { body = f.0; others = f.1; span = g.0; spans = g.1; label = h.0; captures-are = f.2; labels-are = g.2; label-there = h.1; then_is = cc-go {a = with_body h.0 f.0 g.1 (set_captures f.1 s)} h.2 }

alike-body : (label body : List ℕ) (ps : List Span) (s : State) → Alike s (with_body label body ps s)
alike-body label body ps s = record { page = refl; captures = refl; flags = refl; rank = refl; seen = refl; fences = refl; marker = refl; first = refl; tight = refl; table = refl; fixed = refl }

-- ---- numbers, apart: there is too much in reach below

fewer : (n m : ℕ) → m ≡ n + 1 → m ≤ 64 → n < 64
fewer n m p h = omega arith

at_least : {n m : ℕ} → n ≡ m → m ≤ n
at_least p = omega arith

at_most : {n m k : ℕ} → n ≤ m → k ≡ m → n ≤ k
at_most p q = omega arith

before-kept : 0 + region_size ≤ kept_at
before-kept = omega arith

below-kept : region_size + region_size ≤ kept_at
below-kept = omega arith

-- ---- the code

-- the capture is a piece of the work bytes before what is kept
piece_is : (b : Whole) (w : World) (c : List ℕ) → length w.work ≡ work_size → b.context.buffers.end ≤ region_size → Captured b w c → Piece w.work kept_at b.context.buffers.start (b.context.buffers.end - b.context.buffers.start) c
piece_is b w c l m k =
    let from = b.context.buffers.start in
    let n = b.context.buffers.end - from in
    let o = k.ordered in
    let x : length (take n (drop from w.work)) ≡ length c = ap length k.bytes in
    let x1 = length-take n (drop from w.work) in
    let x2 = length-drop from w.work in
    record { long = omega arith; below = omega arith; bytes = k.bytes }

pub keeps-body : {b : Whole} {text work starts footnotes labels work' footnotes' : List ℕ} {k : Kept} {x : Buffers}
    → KeepsFootnote b.kept text b.context.buffers.start (b.context.buffers.end - b.context.buffers.start) work footnotes labels k work' footnotes' → Stand.Drops b.context.buffers starts x → length work' ≡ length work
    → OnFootnotes Roomy keep_footnote b text work starts footnotes labels (with_kept k (with_context (with_buffers x b.context) b)) work' footnotes'
unfolding within exec
keeps-body {b = b} {text = text} {work = work} {starts = starts} {work' = work'} k drops n = record {
  on-footnotes = λ w i j f l. record {
    handles = λ t s u v a y p.
        let g = done true (keep t s) u p in
        let h = body-there t s u g.went in
        let z = set_captures h.others s in
        let q = h.then_is in
        let few = fewer (length s.kept.footnotes) _ (long-more s.kept.footnotes (record { label = h.label; body = h.body })) (fits (with_body h.label h.body h.spans z) (rw (← q) at g.fits)).footnotes in
        let m = a.captures in
        let c = captured text b w s h.body h.others h.captures-are m y in
        let is = label_is text h.span h.label (ap (λ (x : List ℕ). str_of x h.span) (sym v.text-is) ∙ h.label-there) in
        let long = y.long in
        let k' = rw (← i, ← f, ← l) at k in
        let kept : InTables b.kept text (region_at kept_at w.work) w.tables z = keeps_same refl refl y.kept in
        let st = k'.keeps {s = z} (at_least long) kept h.labels-are is (piece_is b w h.body long m c) few in
        let r = uncaptured s h.body h.others (rw (← j) at drops) h.captures-are (at_most m (front_long w.work long)) y.context in
        let e1 : take region_size work' ≡ take region_size w.work = part_same 0 region_size kept_at w.work work' before-kept st.before in
        let e2 : region_at held_at work' ≡ region_at held_at w.work = part_same region_size region_size kept_at w.work work' below-kept st.before in
        let links : Linked b.links (region_at held_at work') s = rw e2 y.links in
        rw (← q) (record {
          long = n ∙ ap length (sym i) ∙ long;
          places = y.places;
          context = rel-alike (alike-body h.label h.body h.spans z) (rw e1 r);
          links = linked-same refl refl links;
          kept = st.keeps;
        });
  };
}

pub no_body : {b : Whole} {text work starts footnotes labels : List ℕ} → b.context.buffers.end < b.context.buffers.start → OnFootnotes Roomy keep_footnote b text work starts footnotes labels b work footnotes
unfolding within exec
no_body {b = b} {text = text} o = record {
  on-footnotes = λ w i j f l. record {
    handles = λ t s u v a y p.
        let h = body-there t s u (done true (keep t s) u p).went in
        absurd (omega (arith, (captured text b w s h.body h.others h.captures-are a.captures y).ordered));
  };
}

-- and the container goes
pub closes-container-body : {b k : Whole} {text work starts footnotes labels work' footnotes' : List ℕ} {x : Context} → OnFootnotes Roomy keep_footnote b text work starts footnotes labels k work' footnotes' → Sets close_container k.context x
    → OnFootnotes Roomy (keep_footnote ▸ close_container) b text work starts footnotes labels (with_context x k) work' footnotes'
closes-container-body {text = text} k l = record { on-footnotes = λ w i j f h. then (k.on-footnotes w i j f h) ((sets-whole refl l).unlent text _) (λ a. tt) }
