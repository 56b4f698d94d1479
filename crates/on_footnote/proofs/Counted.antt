-- A call counted, and written where it is in no image's text. Assumes nothing.
use Rattle.std.specs.Prelude.{Some, None}
use Rattle.std.specs.Prelude.{if◌then◌else◌}
use mathlib.Core.Path.{◌≡◌, refl, sym, ap, ◌∙◌}
use mathlib.Core.Bool.{Bool, true, false}
use mathlib.Core.List.{List}
use Prim.Native.Nat.{ℕ, suc, ◌≤◌, ◌<◌}
use native.Mathlib.Omega.{arith}
use lib.ListN.{length}
use Rattle.regions.specs.Sizes.{region_size, held_at, kept_at, work_size}
use Rattle.machine.specs.State as State
use Rattle.machine.specs.State.{State}
use Rattle.machine.specs.Set.{alt, set_calls}
use Rattle.machine.specs.Buffers.{push}
use Rattle.machine.specs.Footnote.{address_of, call_index, count_at, times_at, call_text, call_note}
use Rattle.machine.specs.Test as Test
use Rattle.machine.specs.Command.{exec}
use Rattle.machine.specs.Words.{call}
use Rattle.machine_bounded.specs.Within.{fitting, within}
use Rattle.machine_bounded.proofs.Bounds.{done, fits}
use Rattle.regions.specs.Regions.{region_at}
use Rattle.state_buffers.specs.declared.Buffers.{Buffers}
use Rattle.state_context.specs.Rel.{Any, Tells, apostrophes_in}
use Rattle.state_context.proofs.Laws.{with_buffers}
use Rattle.state_context.proofs.Constants.{apostrophes-told}
use Rattle.state_context.proofs.Commands.{flag-told}
use Rattle.state_media.specs.declared.Links.{Links}
use Rattle.state_media.specs.declared.Span.{Span}
use Rattle.state_media.specs.Links.{Closes}
use Rattle.state_kept.specs.declared.Kept.{Kept}
use Rattle.state_kept.specs.Kept.{InTables, LabelIs, tables}
use Rattle.state_kept.specs.Clauses.{FindsCall, CountsCall, TellsTimes}
use Rattle.state_kept.proofs.Room.{call-index-low, index-fits, times-fit}
use Rattle.state_whole.specs.declared.Whole.{Whole}
use Rattle.state_whole.specs.Whole.{World, Mirrors, Held, with_context, with_links, with_kept, with_out, with_work}
use Rattle.state_whole.proofs.Parts.{Alike, rel-alike, linked-same, keeps_same}
use Rattle.state_whole.proofs.Shown.{shown}
use Rattle.on_footnote.specs.Footnotes.{OnCalls, with_calls}
use Rattle.on_footnote.specs.Private.{CallsLabel, WritesCall}
use Rattle.on_footnote.proofs.Calls.{counted, text_of, kept-is, counted-there, KnownCall, known, unlabelled}

alike-counted : (label : List ℕ) (ms : List State.Media) (s : State) → Alike s (counted label ms s)
alike-counted label ms s = record { page = refl; captures = refl; flags = refl; rank = refl; seen = refl; fences = refl; marker = refl; first = refl; tight = refl; table = refl; fixed = refl }

long-enough : {n : ℕ} → n ≡ work_size → region_size ≤ n
long-enough e = omega arith

-- what is lent as it was
same-lent : {text work out calls : List ℕ} {r : Whole} (w : World) {u : State} → w.work ≡ work → w.out ≡ out → Mirrors text r (with_calls calls w) u → Mirrors text r (with_calls calls (with_out out (with_work work w))) u
same-lent w i j y = rw (← i, ← j) y

pub no_label : {b : Whole} {text work out calls : List ℕ} → b.links.media.label_id ≡ None → OnCalls Held call b text work out calls b work out calls
unfolding within exec
no_label e = record {
  on-calls = λ w i j h. record {
    handles = λ t s u v a y p. absurd (unlabelled t s u e a y (done true (call_note t s) u p).went);
  };
}

-- the code stands where the machine does, and knows where the call stands
record Counted (text : List ℕ) (index : ℕ) (r : Whole) (w : World) (label : List ℕ) (ms : List State.Media) (s : State) : Type 0 where
  pub index_is : index ≡ call_index label s.kept.calls
  pub few : index < 64
  pub there : index < length (count_at (call_index label s.kept.calls) label s.kept.calls)
  pub built : Mirrors text r w (counted label ms s)

-- then it is written
writing : {a : Bool} {text label work' out' : List ℕ} {ms : List State.Media} {index times from to : ℕ} {r : Whole} {w : World} {x : Buffers} (s : State) → Counted text index r w label ms s → TellsTimes w.tables.calls index times
    → a ≡ s.fixed.apostrophes → WritesCall a r.context.buffers text from to index times w.work w.out x work' out' → LabelIs text from to label → length work' ≡ length w.work
    → Mirrors text (with_context (with_buffers x r.context) r) (with_out out' (with_work work' w)) (push (text_of s.fixed.apostrophes label s.kept.calls) (counted label ms s))
writing {a = a} {label = label} {work' = work'} {out' = out'} {ms = ms} {index = index} {times = times} {r = r} {w = w} {x = x} s c tells wants writes is n =
    let e = c.index_is in
    let cs = s.kept.calls in
    let m : times ≡ times_at index (count_at (call_index label cs) label cs) = tells.tells c.built.kept c.there in
    let q = s.fixed.apostrophes in
    let t = rw wants at writes in
    let g = t.writes label is c.few (long-enough c.built.long) in
    let o : call_text (address_of q label) (suc index) times ≡ text_of q label cs = ap (call_text (address_of q label) (suc index)) m ∙ ap (λ (i : ℕ). call_text (address_of q label) (suc i) (times_at i (count_at (call_index label cs) label cs))) e in
    shown (counted label ms s) (record { keeps = rw (← o) g.keeps; behind = g.behind; long = n }) c.built

pub by-label : {p : Span} {b r : Whole} {text work out calls work' out' calls' : List ℕ} → CallsLabel p b text work out calls r work' out' calls' → b.links.media.label_id ≡ Some p → OnCalls Held call b text work out calls r work' out' calls'
by-label k e = k.calls-label e

module _ {p : Span} {b : Whole} {text calls calls' : List ℕ} {index : ℕ} {k : Kept} {l : Links}
    (finds : FindsCall b.kept text p.from.0 p.to.0 calls index) (counts : CountsCall b.kept index text p.from.0 p.to.0 calls k calls') (closes : Closes b.links l) where
  counting : (w : World) (s u : State) → w.tables.calls ≡ calls → b.links.end ≤ region_size → fitting u ≡ true → Mirrors text b w s → (c : KnownCall p text s u) → Counted text index (with_kept k (with_links l b)) (with_calls calls' w) c.label c.others s
  counting w s u h a f y c =
      let cs = s.kept.calls in
      let label = c.label in
      let finds' = rw (← h) at finds in
      let counts' = rw (← h) at counts in
      let e : index ≡ call_index label cs = finds'.finds y.kept c.label-there in
      let g : index ≤ length cs = rw e (call-index-low label cs) in
      let z : u.kept.calls ≡ count_at index label cs = ap (λ (x : State.Kept). x.calls) (kept-is s.flags.alt (text_of s.fixed.apostrophes label cs) (counted label c.others s) u c.then_is) ∙ ap (λ (i : ℕ). count_at i label cs) (sym e) in
      let n : index < 64 = index-fits index label cs g (rw z at (fits u f).calls) in
      let m : times_at index cs < 0x1_0000_0000 = times-fit index label cs (rw z at (fits u f).times) in
      let v : InTables k text (region_at kept_at w.work) (tables w.tables.definitions w.tables.footnotes calls' w.tables.labels) (set_calls (count_at (call_index label cs) label cs) s) = rw (← e) (counts'.counts y.kept c.label-there g n m) in
      record {
        index_is = e;
        few = n;
        there = rw e (counted-there (call_index label cs) label cs (call-index-low label cs));
        built = record {
          long = y.long;
          places = y.places;
          context = rel-alike (alike-counted label c.others s) y.context;
          links = linked-same refl refl (closes.closes (region_at held_at w.work) s c.newest c.others c.media-are a y.links);
          kept = keeps_same refl refl v;
        };
      }

  -- in an image's text
  pub calls-unwritten : {work out : List ℕ} {o : Bool} → Tells Any (Test.is alt) b.context o → o ≡ true → CallsLabel p b text work out calls (with_kept k (with_links l b)) work out calls'
  unfolding within exec
  calls-unwritten asked image = record {
    calls-label = λ e. record {
      on-calls = λ w i j h. record {
        handles = λ t s u v a y q.
            let d = done true (call_note t s) u q in
            let c = known t s u e v.text-is a y d.went in
            let r = counting w s u h a d.fits y c in
            let x : s.flags.alt ≡ true = flag-told asked t y.context ∙ image in
            let z : counted c.label c.others s ≡ u = ap (λ (o : Bool). if o then counted c.label c.others s else push (text_of s.fixed.apostrophes c.label s.kept.calls) (counted c.label c.others s)) (sym x) ∙ c.then_is in
            same-lent w i j (rw (← z) r.built);
      };
    };
  }

  -- elsewhere
  pub calls-written : {times : ℕ} {x : Buffers} {work out work' out' : List ℕ} {o apostrophes : Bool} → Tells Any (Test.is alt) b.context o → o ≡ false → TellsTimes calls' index times
      → apostrophes ≡ apostrophes_in b.context.word → WritesCall apostrophes b.context.buffers text p.from.0 p.to.0 index times work out x work' out' → length work' ≡ length work
      → CallsLabel p b text work out calls (with_context (with_buffers x b.context) (with_kept k (with_links l b))) work' out' calls'
  unfolding within exec
  calls-written asked image tells wants writes n = record {
    calls-label = λ e. record {
      on-calls = λ w i j h. record {
        handles = λ t s u v a y q.
            let d = done true (call_note t s) u q in
            let c = known t s u e v.text-is a y d.went in
            let r = counting w s u h a d.fits y c in
            let f : s.flags.alt ≡ false = flag-told asked t y.context ∙ image in
            let z : push (text_of s.fixed.apostrophes c.label s.kept.calls) (counted c.label c.others s) ≡ u = ap (λ (o : Bool). if o then counted c.label c.others s else push (text_of s.fixed.apostrophes c.label s.kept.calls) (counted c.label c.others s)) (sym f) ∙ c.then_is in
            rw (← z) (writing s r tells (apostrophes-told wants y.context) (rw (← i, ← j) at writes) c.label-there (n ∙ ap length (sym i)));
      };
    };
  }
