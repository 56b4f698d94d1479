-- Bytes that are held or kept, written; a setext heading's text held and released; whether an image is open around. Assumes nothing.
use Rattle.std.specs.Prelude.{Option as CodeOption, Some, None}
use mathlib.Core.Path.{◌≡◌, refl, sym, ap, ◌∙◌}
use mathlib.Core.Bool.{Bool, true, false}
use mathlib.Core.List.{List, [], ◌∷◌}
use mathlib.Core.Option.{Option, none, some}
use Prim.Native.Nat.{ℕ, ◌+◌, ◌-◌, ◌≤◌}
use native.Mathlib.Omega.{arith}
use borrow.Author.Tests.{eqb-true}
use lib.Dec.{eqb}
use lib.ListN.{length, take, drop}
use lib.Seq.{take-take, drop-drop}
use Rattle.regions.specs.Sizes.{region_size, held_at, kept_at}
use Rattle.machine.specs.State as State
use Rattle.machine.specs.State.{State}
use Rattle.machine.specs.Outcome.{Outcome, stop, go, ◌>>=◌, need}
use Rattle.machine.specs.Set.{alt, set_flag, set_captures, set_setext}
use Rattle.machine.specs.Buffers.{push, take_capture}
use Rattle.machine.specs.Turn.{Turn}
use Rattle.machine.specs.Media.{newest_media, any_image, leave_alt}
use Rattle.machine.specs.Totals.{size, media_sizes, held}
use Rattle.machine.specs.Command.{Command, exec}
use Rattle.machine.specs.Words.{set, hold, release, leave_image}
use Rattle.machine.proofs.Outcomes.{never}
use Rattle.machine_bounded.specs.Within.{fitting, one, within}
use Rattle.machine_bounded.proofs.Bounds.{done}
use Rattle.regions.specs.Regions.{region_at}
use Rattle.state_buffers.specs.declared.Buffers.{Buffers}
use Rattle.state_buffers.specs.Stand as Stand
use Rattle.state_resume.proofs.Parts.{drop-take}
use Rattle.state_context.specs.declared.Context.{Context}
use Rattle.state_context.specs.Rel.{Rel, Any, Sets}
use Rattle.state_context.proofs.Laws.{with_buffers, pushing}
use Rattle.state_media.specs.declared.Links.{Links}
use Rattle.state_media.specs.declared.Piece.{Piece}
use Rattle.state_media.specs.Links.{Linked, PieceIs, TextIs, Holds, Releases, AnyOlderImage}
use Rattle.state_kept.specs.Kept.{InTables}
use Rattle.state_whole.specs.declared.Whole.{Whole}
use Rattle.state_whole.specs.Whole.{World, Mirrors, Always, Held, Roomy, Handles, Unlent, OnWork, OnPage, with_links, with_context, with_work, with_out}
use Rattle.state_whole.proofs.Quiet.{pushed}
use Rattle.state_whole.proofs.Parts.{Alike, rel-alike, linked-same, keeps_same, front_long}
use Rattle.state_whole.proofs.Media.{cc-go, newest-there, capture-there, captured, uncaptured}

-- ---- bytes from behind the captures, written

-- a piece of a region is a part of the work bytes
pub part-of-region : (base place n : ℕ) (work : List ℕ) → place + n ≤ region_size → take n (drop place (region_at base work)) ≡ take n (drop (base + place) work)
part-of-region base place n work h = ap (take n) (drop-take place region_size (drop base work)) ∙ take-take n (region_size - place) (drop place (drop base work)) (omega arith) ∙ ap (take n) (drop-drop place base work)

-- the newest buffer grows, and the bytes behind the captures stay
pub record Shows (t : List ℕ) (b : Buffers) (work out : List ℕ) (x : Buffers) (work' out' : List ℕ) : Type 0 where
  pub keeps : Stand.Keeps (push t) b (take region_size work) out x (take region_size work') out'
  pub behind : drop region_size work' ≡ drop region_size work
  pub long : length work' ≡ length work

pub shown : {text t : List ℕ} {b : Whole} {w : World} {x : Buffers} {work' out' : List ℕ} (s : State) → Shows t b.context.buffers w.work w.out x work' out' → Mirrors text b w s
    → Mirrors text (with_context (with_buffers x b.context) b) (with_out out' (with_work work' w)) (push t s)
shown {text} {t} {b} {w} {x} {work'} {out'} s k y =
    let e = pushed t s in
    let f : drop kept_at work' ≡ drop kept_at w.work = sym (drop-drop region_size region_size work') ∙ ap (drop region_size) k.behind ∙ drop-drop region_size region_size w.work in
    let l : Linked b.links (region_at held_at work') s = rw k.behind y.links in
    let m : InTables b.kept text (region_at kept_at work') w.tables s = rw f y.kept in
    record {
      long = k.long ∙ y.long;
      places = y.places;
      context = (pushing b.context (take region_size w.work) w.out x (take region_size work') out' t k.keeps).pushes w.starts s y.context;
      links = linked-same e.media e.setext l;
      kept = keeps_same e.kept e.labels m;
    }

-- ---- a setext heading's text

alike-setext : (x : Option (List ℕ)) (s : State) → Alike s (set_setext x s)
alike-setext x s = record { page = refl; captures = refl; flags = refl; rank = refl; seen = refl; fences = refl; marker = refl; first = refl; tight = refl; table = refl; fixed = refl }

pub holds : {View : Turn → Type 0} {b : Whole} {work starts work' : List ℕ} {l : Links} {x : Buffers}
    → Holds b.context.buffers.start (b.context.buffers.end - b.context.buffers.start) b.links work l work' → Stand.Drops b.context.buffers starts x → length work' ≡ length work
    → OnWork Roomy View hold b work starts (with_links l (with_context (with_buffers x b.context) b)) work'
unfolding within exec
holds {b = b} {work = work} {starts = starts} {work' = work'} {l = l} k drops n = record {
  on-work = λ text w i j. record {
    handles = λ t s u v a y p.
        let g = done (eqb (held s) 0) (take_capture s >>= λ (c, z). go (set_setext (some c) z)) u p in
        let f = capture-there s u (λ (c, z). go (set_setext (some c) z)) g.went in
        let c = captured text b w s f.0 f.1 f.2 a.captures y in
        let q : set_setext (some f.0) (set_captures f.1 s) ≡ u = cc-go f.3 in
        let m = a.captures in
        let o = c.ordered in
        let k' = rw (← i) at k in
        let st = k'.holds s (eqb-true (held s) 0 g.turn) y.long (omega arith) y.links in
        let fl = front_long w.work y.long in
        let r = uncaptured s f.0 f.1 (rw (← j) at drops) f.2 (omega arith) y.context in
        rw (← q) (record {
          long = n ∙ ap length (sym i) ∙ y.long;
          places = y.places;
          context = rel-alike (alike-setext (some f.0) (set_captures f.1 s)) (rw st.1.before r);
          links = linked-same refl refl (rw c.bytes at st.0);
          kept = (let e : InTables b.kept text (region_at kept_at work') w.tables s = rw st.1.behind y.kept in keeps_same refl refl e);
        });
  };
}

-- it is there, in a piece of the held bytes
setext-there : (region : List ℕ) (end : ℕ) (t : CodeOption Piece) (o : Option (List ℕ)) (u : State) (f : List ℕ → Outcome State) → TextIs region end t o → (need o >>= f) ≡ go u → (p : Piece) × (c : List ℕ) × (t ≡ Some p) × (o ≡ some c) × PieceIs region end p c × (f c ≡ go u)
setext-there region end None none u f x q = never q
setext-there region end None (some c) u f x q = absurd x
setext-there region end (Some p) none u f x q = absurd x
setext-there region end (Some p) (some c) u f x q = (p, c, refl, refl, x, q)
