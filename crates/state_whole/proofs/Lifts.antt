-- Handlers of the context alone as handlers of the whole; one after the other. Assumes nothing.
use mathlib.Core.Path.{◌≡◌, refl, sym, ap, ◌∙◌}
use mathlib.Core.Bool.{Bool, true, false}
use mathlib.Core.List.{List, ◌++◌}
use Prim.Native.Nat.{ℕ, ◌+◌, ◌≤◌}
use native.Mathlib.Omega.{arith}
use lib.ListN.{length, take, drop}
use Rattle.regions.specs.Sizes.{region_size}
use Rattle.machine.specs.State.{State}
use Rattle.machine.specs.Outcome.{Outcome, stop, go, ◌>>=◌}
use Rattle.machine.specs.Turn.{Turn}
use Rattle.machine.specs.Test.{Test, test}
use Rattle.machine.specs.Command.{Command, nothing, ◌▸◌, whether}
use Rattle.machine.proofs.Outcomes.{first_goes}
use Rattle.machine_bounded.specs.Within.{within}
use Rattle.regions.specs.Regions.{region_at}
use Rattle.state_context.specs.declared.Context.{Context}
use Rattle.state_context.specs.Rel.{Rel, Any, Keeps, Takes, Opens, Sets, Begins, Ends}
use Rattle.state_whole.specs.declared.Whole.{Whole}
use Rattle.state_whole.specs.Quiet.{is_quiet, Rests}
use Rattle.state_whole.specs.Whole.{World, Mirrors, Always, Roomy, Handles, with_context, with_starts, with_bytes}
use Rattle.state_whole.proofs.Quiet.{rests}
use Rattle.state_whole.proofs.Parts.{linked-same, keeps_same, front_long, front-is, behind-is, as_long}

-- ---- the context alone changes, and the captures, the page and the starts with it

-- the bytes behind the captures stay
pub kept_on : {text : List ℕ} (d : Command) {b : Whole} {w : World} {x : Context} → is_quiet d ≡ true → {captures out starts : List ℕ} → length captures ≡ region_size → length starts ≡ 64 → (t : Turn) (s u : State) → Mirrors text b w s → within d t s ≡ go u → Rel x captures out starts u
    → Mirrors text (with_context x b) (with_starts starts (with_bytes captures out w)) u
kept_on d {w = w} q {captures} {out} {starts} l n t s u y p r =
    let e = (rests d q t s).leaves u p in
    let f1 = behind-is captures w.work l 0 in
    let f2 = behind-is captures w.work l region_size in
    record {
      long = as_long captures w.work l y.long;
      places = n;
      context = rw (front-is captures w.work l) r;
      links = rw f1 (linked-same e.media e.setext y.links);
      kept = rw f2 (keeps_same e.kept e.labels y.kept);
    }

module _ {text : List ℕ} {View : Turn → Type 0} {d : Command} {b : Whole} {w : World} {x : Context} (q : is_quiet d ≡ true) where
  pub lifts : {captures out captures' out' : List ℕ} → Keeps View d b.context captures out x captures' out' → take region_size w.work ≡ captures → w.out ≡ out → length captures' ≡ length captures
      → Handles text Always View d b w (with_context x b) (with_bytes captures' out' w)
  lifts k i j l = record {
    handles = λ t s u v a y p. kept_on d q (l ∙ ap length (sym i) ∙ front_long w.work y.long) y.places t s u y p (k.keeps t w.starts s u v (rw (← i, ← j) y.context) p);
  }

  pub lifts-takes : {captures starts out captures' out' : List ℕ} → Takes View d b.context captures starts out x captures' out' → take region_size w.work ≡ captures → w.starts ≡ starts → w.out ≡ out → length captures' ≡ length captures
      → Handles text Roomy View d b w (with_context x b) (with_bytes captures' out' w)
  lifts-takes {captures} {captures' = captures'} {out' = out'} k i h j l = record {
    handles = λ t s u v a y p.
        let m = a.captures in
        let z : length captures ≡ region_size = ap length (sym i) ∙ front_long w.work y.long in
        kept_on d q {captures = captures'} {out = out'} {starts = w.starts} (l ∙ z) y.places t s u y p (rw h (k.takes t s u v (omega arith) (rw (← i, ← h, ← j) y.context) p));
  }

  pub lifts-opens : {captures starts out captures' starts' out' : List ℕ} → Opens View d b.context captures starts out x captures' starts' out' → take region_size w.work ≡ captures → w.starts ≡ starts → w.out ≡ out
      → length captures' ≡ length captures → length starts' ≡ length starts
      → Handles text Always View d b w (with_context x b) (with_starts starts' (with_bytes captures' out' w))
  lifts-opens k i h j l n = record {
    handles = λ t s u v a y p. kept_on d q (l ∙ ap length (sym i) ∙ front_long w.work y.long) (n ∙ ap length (sym h) ∙ y.places) t s u y p (k.opens t s u v (rw (← h) y.places) (rw (← i, ← h, ← j) y.context) p);
  }

-- ---- one after the other

module _ {text : List ℕ} {View : Turn → Type 0} where
  pub then : {N M : Whole → Type 0} {d e : Command} {b r q : Whole} {w w' w'' : World} → Handles text N View d b w r w' → Handles text M View e r w' q w'' → (N b → M r) → Handles text N View (d ▸ e) b w q w''
  unfolding within
  then {d = d} {e = e} k l n = record {
    handles = λ t s u v a y p.
        let f = first_goes (within d t s) (λ z. within e t z) u p in
        l.handles t f.0 u v (n a) (k.handles t s f.0 v a y f.1) f.2;
  }

  pub needs-less : {N M : Whole → Type 0} {d : Command} {b r : Whole} {w w' : World} → (M b → N b) → Handles text N View d b w r w' → Handles text M View d b w r w'
  needs-less f k = record { handles = λ t s u v a y p. k.handles t s u v (f a) y p }
