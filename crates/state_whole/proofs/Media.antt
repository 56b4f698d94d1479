-- The commands on open media, as the code follows them. Assumes nothing.
use mathlib.Core.Path.{◌≡◌, refl, sym, ap, ◌∙◌}
use mathlib.Core.Bool.{Bool, true, false}
use mathlib.Core.List.{List, [], ◌∷◌}
use mathlib.Core.Option.{Option, none, some}
use Prim.Native.Nat.{ℕ, suc, ◌+◌, ◌-◌, ◌≤◌}
use native.Mathlib.Omega.{arith}
use borrow.Author.Tests.{eqb-true}
use lib.Dec.{eqb}
use lib.ListN.{length, take, drop}
use lib.Seq.{take-take}
use Rattle.regions.specs.Sizes.{region_size, held_at, kept_at}
use Rattle.machine.specs.State as State
use Rattle.machine.specs.State.{State, own}
use Rattle.machine.specs.Outcome.{Outcome, stop, go, ◌>>=◌}
use Rattle.machine.specs.Set.{set_media, set_captures, set_destination}
use Rattle.machine.specs.Buffers.{take_capture, take_from}
use Rattle.machine.specs.Turn.{Turn, span_of}
use Rattle.machine.specs.Media.{new_media, newest_media, split_media, on_newest, Part, with_part, Id, with_id, own_of}
use Rattle.machine.specs.Totals.{size}
use Rattle.machine.specs.Command.{Command, exec}
use Rattle.machine.specs.Words.{open_media, close_media, identify, empty_destination, store}
use Rattle.machine.proofs.Outcomes.{never}
use Rattle.event.specs.declared.Event.{Event}
use Rattle.machine_bounded.specs.Within.{newest_is_bare, of_newest, parts_from, one, within}
use Rattle.machine_bounded.proofs.Bounds.{done, fits}
use Rattle.regions.specs.Regions.{region_at}
use Rattle.state_buffers.specs.declared.Buffers.{Buffers}
use Rattle.state_buffers.specs.Stand as Stand
use Rattle.state_resume.proofs.Parts.{drop-take}
use Rattle.state_resume.proofs.Written as Written
use Rattle.state_context.specs.declared.Context.{Context}
use Rattle.state_context.specs.Rel.{Rel, Any, Sees}
use Rattle.state_context.proofs.Laws.{with_buffers}
use Rattle.state_media.specs.declared.Links.{Links}
use Rattle.state_media.specs.Links.{Linked, Opens, Closes, Identifies, Empties, Stores, Around}
use Rattle.state_kept.specs.Kept.{InTables}
use Rattle.state_whole.specs.declared.Whole.{Whole}
use Rattle.state_whole.specs.Whole.{World, Mirrors, Always, Held, Roomy, Handles, Unlent, OnWork, with_links, with_context, with_work}
use Rattle.state_whole.proofs.Parts.{Alike, rel-alike, linked-same, keeps_same, front_long}

pub cc-go : {A : Type 0} {a b : A} → go a ≡ go b → a ≡ b
cc-go p = cc

-- the newest medium is there, and this becomes of it
pub newest-there : {A : Type 0} (s : State) (u : A) (f : State.Media × List State.Media → Outcome A) → (newest_media s >>= f) ≡ go u → (m : State.Media) × (ms : List State.Media) × (s.media ≡ m ∷ ms) × (f (m, ms) ≡ go u)
unfolding newest_media
newest-there s u f p = on s.media refl p
  where
    on : (ms : List State.Media) → s.media ≡ ms → (split_media ms >>= f) ≡ go u → (m : State.Media) × (rs : List State.Media) × (s.media ≡ m ∷ rs) × (f (m, rs) ≡ go u)
    on [] q r = never r
    on (m ∷ ms) q r = (m, ms, q, r)

alike-media : (x : List State.Media) (s : State) → Alike s (set_media x s)
alike-media x s = record { page = refl; captures = refl; flags = refl; rank = refl; seen = refl; fences = refl; marker = refl; first = refl; tight = refl; table = refl; fixed = refl }

module _ {text : List ℕ} {b : Whole} {w : World} {l : Links} where
  -- the open media alone change
  relinked : (x : List State.Media) (s : State) → Mirrors text b w s → Linked l (region_at held_at w.work) (set_media x s) → Mirrors text (with_links l b) w (set_media x s)
  relinked x s y k = record { long = y.long; places = y.places; context = rel-alike (alike-media x s) y.context; links = k; kept = keeps_same refl refl y.kept }

module _ {View : Turn → Type 0} {b : Whole} {l : Links} where
  pub opens-media : {image : Bool} → Opens image b.links l → Unlent Always View (open_media image) b (with_links l b)
  unfolding within exec
  opens-media {image} k = record {
    unlent = λ text w. record {
      handles = λ t s u v a y p.
          let d = done (newest_is_bare s.media) (go (set_media (new_media image ∷ s.media) s)) u p in
          let q : set_media (new_media image ∷ s.media) s ≡ u = cc-go d.went in
          let n : suc (length s.media) ≤ 64 = (fits (set_media (new_media image ∷ s.media) s) (rw (← q) at d.fits)).media in
          rw (← q) (relinked (new_media image ∷ s.media) s y (k.opens (region_at held_at w.work) s (omega arith) d.turn y.links));
    };
  }

  pub closes-media : Closes b.links l → Unlent Held View close_media b (with_links l b)
  unfolding within exec
  closes-media k = record {
    unlent = λ text w. record {
      handles = λ t s u v a y p.
          let f = newest-there s u (λ (m, ms). go (set_media ms s)) (done true (newest_media s >>= λ (m, ms). go (set_media ms s)) u p).went in
          let q : set_media f.1 s ≡ u = cc-go f.3 in
          rw (← q) (relinked f.1 s y (k.closes (region_at held_at w.work) s f.0 f.1 f.2 a y.links));
    };
  }

  pub empties : Empties b.links l → Unlent Always View empty_destination b (with_links l b)
  unfolding within exec on_newest
  empties k = record {
    unlent = λ text w. record {
      handles = λ t s u v a y p.
          let d = done (eqb (of_newest (λ m. size (own_of m.destination)) s.media) 0) (on_newest (set_destination (own [])) s) u p in
          let f = newest-there s u (λ (m, ms). go (set_media (set_destination (own []) m ∷ ms) s)) d.went in
          let q : set_media (set_destination (own []) f.0 ∷ f.1) s ≡ u = cc-go f.3 in
          let z : size (own_of f.0.destination) ≡ 0 = (let g = eqb-true (of_newest (λ m. size (own_of m.destination)) s.media) 0 d.turn in rw f.2 at g) in
          rw (← q) (relinked (set_destination (own []) f.0 ∷ f.1) s y (k.empties (region_at held_at w.work) s f.0 f.1 f.2 z y.links));
    };
  }

-- by the event's slice
pub identifies : {id : Id} {text₀ : List ℕ} {e : Event} {b : Whole} {l : Links} → Identifies id (record { from = e.from; to = e.to }) b.links l → Unlent Always (Sees text₀ e) (identify id) b (with_links l b)
unfolding within exec on_newest
identifies {id} {e = e} k = record {
  unlent = λ text w. record {
    handles = λ t s u v a y p.
        let f = newest-there s u (λ (m, ms). go (set_media (with_id id (span_of t.event) m ∷ ms) s)) (done true (on_newest (with_id id (span_of t.event)) s) u p).went in
        let q : set_media (with_id id (span_of t.event) f.0 ∷ f.1) s ≡ u = cc-go f.3 in
        let q' : set_media (with_id id (span_of e) f.0 ∷ f.1) s ≡ u = ap (λ (x : Event). set_media (with_id id (span_of x) f.0 ∷ f.1) s) (sym v.event-is) ∙ q in
        rw (← q') (relinked (with_id id (span_of e) f.0 ∷ f.1) s y (k.identifies (region_at held_at w.work) s f.0 f.1 f.2 y.links));
  };
}

-- ---- what was captured

-- the newest capture is there, and this becomes of it
pub capture-there : (s u : State) (f : List ℕ × State → Outcome State) → (take_capture s >>= f) ≡ go u → (c : List ℕ) × (cs : List (List ℕ)) × (s.captures ≡ c ∷ cs) × (f (c, set_captures cs s) ≡ go u)
unfolding take_capture
capture-there s u f p = on s.captures refl p
  where
    on : (cs : List (List ℕ)) → s.captures ≡ cs → (take_from cs s >>= f) ≡ go u → (d : List ℕ) × (ds : List (List ℕ)) × (s.captures ≡ d ∷ ds) × (f (d, set_captures ds s) ≡ go u)
    on [] q r = never r
    on (d ∷ ds) q r = (d, ds, q, r)

-- its bytes are the work bytes from its start to its end
pub record Captured (b : Whole) (w : World) (c : List ℕ) : Type 0 where
  pub bytes : take (b.context.buffers.end - b.context.buffers.start) (drop b.context.buffers.start w.work) ≡ c
  pub ordered : b.context.buffers.start ≤ b.context.buffers.end

pub captured : (text : List ℕ) (b : Whole) (w : World) (s : State) (c : List ℕ) (cs : List (List ℕ)) → s.captures ≡ c ∷ cs → b.context.buffers.end ≤ region_size → Mirrors text b w s → Captured b w c
captured text b w s c cs q l y =
    let x = y.context.stand in
    let n = front_long w.work y.long in
    let k : b.context.buffers.end ≤ length (take region_size w.work) = omega arith in
    let o = Written.ordered b.context.buffers (take region_size w.work) w.starts w.out c cs s q k x in
    let e = Written.newest b.context.buffers (take region_size w.work) w.starts w.out c cs s q k x in
    let from = b.context.buffers.start in
    let to = b.context.buffers.end in
    let z : to - from + 0 ≡ to - from = omega arith in
    record { bytes = sym (ap (take (to - from)) (drop-take from region_size w.work) ∙ take-take (to - from) (region_size - from) (drop from w.work) (omega arith)) ∙ e; ordered = o }

-- taken off, the context has one capture less
pub uncaptured : {c : Context} {captures out starts : List ℕ} {x : Buffers} (s : State) (d : List ℕ) (ds : List (List ℕ)) → Stand.Drops c.buffers starts x → s.captures ≡ d ∷ ds → c.buffers.end ≤ length captures → Rel c captures out starts s
    → Rel (with_buffers x c) captures out starts (set_captures ds s)
uncaptured {captures = captures} {out = out} s d ds k q l r = record { stand = k captures out d ds s q l r.stand; flags = r.flags; waits = r.waits; tight = r.tight; table = r.table; fixed = r.fixed }

pub stores : {View : Turn → Type 0} {b : Whole} {work starts work' : List ℕ} {part : Part} {l : Links} {x : Buffers}
    → Stores part b.context.buffers.start (b.context.buffers.end - b.context.buffers.start) b.links work l work' → Stand.Drops b.context.buffers starts x → length work' ≡ length work
    → OnWork Roomy View (store part) b work starts (with_links l (with_context (with_buffers x b.context) b)) work'
unfolding within exec on_newest
stores {b = b} {work = work} {starts = starts} {work' = work'} {part = part} {l = l} k drops n = record {
  on-work = λ text w i j. record {
    handles = λ t s u v a y p.
        let g = done (eqb (of_newest (parts_from part) s.media) 0) (take_capture s >>= λ (c, z). on_newest (with_part part c) z) u p in
        let f = capture-there s u (λ (c, z). on_newest (with_part part c) z) g.went in
        let c = captured text b w s f.0 f.1 f.2 a.captures y in
        let h = newest-there (set_captures f.1 s) u (λ (m, ms). go (set_media (with_part part f.0 m ∷ ms) (set_captures f.1 s))) f.3 in
        let q : set_media (with_part part f.0 h.0 ∷ h.1) (set_captures f.1 s) ≡ u = cc-go h.3 in
        let z : parts_from part h.0 ≡ 0 = (let e = eqb-true (of_newest (parts_from part) s.media) 0 g.turn in rw h.2 at e) in
        let m = a.captures in
        let o = c.ordered in
        let k' = rw (← i) at k in
        let st = k'.stores s h.0 h.1 h.2 z y.long (omega arith) y.links in
        let fl = front_long w.work y.long in
        let r = uncaptured s f.0 f.1 (rw (← j) at drops) f.2 (omega arith) y.context in
        rw (← q) (record {
          long = n ∙ ap length (sym i) ∙ y.long;
          places = y.places;
          context = rel-alike (alike-media (with_part part f.0 h.0 ∷ h.1) (set_captures f.1 s)) (rw st.1.before r);
          links = linked-same refl refl (rw c.bytes at st.0);
          kept = (let e : InTables b.kept text (region_at kept_at work') w.tables s = rw st.1.behind y.kept in keeps_same refl refl e);
        });
  };
}
