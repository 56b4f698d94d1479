-- Texts and pieces written, at the level of the whole. Assumes nothing.
use mathlib.Core.Path.{◌≡◌, sym, ap, ◌∙◌}
use mathlib.Core.Bool.{true}
use mathlib.Core.List.{List, [], ◌∷◌, append-nil}
use Prim.Native.Nat.{ℕ, ◌+◌, ◌-◌, ◌≤◌}
use Prim.Native.String.{String}
use native.Mathlib.Omega.{arith}
use lib.ListN.{length, take, drop}
use lib.Seq.{drop-drop}
use Rattle.lent.specs.Bytes.{bytes}
use Rattle.regions.specs.Sizes.{region_size, held_at}
use Rattle.machine.specs.State.{State}
use Rattle.machine.specs.Outcome.{go}
use Rattle.machine.specs.Set.{set_captures}
use Rattle.machine.specs.Buffers.{push}
use Rattle.machine.specs.Turn.{Turn}
use Rattle.machine.specs.Media.{title_text}
use Rattle.machine.specs.Command.{exec}
use Rattle.machine.specs.Words.{put}
use Rattle.machine_bounded.specs.Within.{within}
use Rattle.machine_bounded.proofs.Bounds.{done}
use Rattle.regions.specs.Regions.{region_at}
use Rattle.state_buffers.specs.declared.Buffers.{Buffers}
use Rattle.state_context.proofs.Laws.{with_buffers}
use Rattle.state_whole.specs.declared.Whole.{Whole}
use Rattle.state_whole.specs.Whole.{World, Mirrors, OnPage, with_context, with_work, with_out}
use Rattle.state_whole.proofs.Media.{cc-go}
use Rattle.state_whole.proofs.Shown.{shown}
use Rattle.write_held.specs.Show.{as_is, ShowsText, ShowsPiece}
use Rattle.write_held.proofs.Showing.{showing-both}
use Rattle.on_media.specs.Parts.{WritesText}
use Rattle.on_media.specs.Private.{WritesPiece}

module _ {b : Whole} {work out work' out' : List ℕ} {x : Buffers} where
  pub writes-text : {t : List ℕ} → ShowsText t b.context.buffers work out x work' out' → length work' ≡ length work → WritesText t b work out (with_context (with_buffers x b.context) b) work' out'
  writes-text k n = record {
    writes = λ text w s i j y.
        let k' = rw (← i, ← j) at k in
        let st = k'.shows y.long in
        shown s (record { keeps = st.keeps; behind = st.behind; long = n ∙ ap length (sym i) }) y;
  }

  pub writes-piece : {f : List ℕ → List ℕ} {base place m : ℕ} → ShowsPiece f base place m b.context.buffers work out x work' out' → length work' ≡ length work → WritesPiece f base place m b work out (with_context (with_buffers x b.context) b) work' out'
  writes-piece k n = record {
    writes = λ text c w s i j lo hi h p y.
        let k' = rw (← i, ← j) at k in
        let st = k'.shows c y.long lo hi h p in
        shown s (record { keeps = st.keeps; behind = st.behind; long = n ∙ ap length (sym i) }) y;
  }

-- a region behind the captures is the same where the bytes behind them are
region-same : (base : ℕ) (v w : List ℕ) → held_at ≤ base → drop region_size v ≡ drop region_size w → region_at base v ≡ region_at base w
region-same base v w h p =
    let e : region_size + (base - region_size) ≡ base = omega arith in
    let q : drop base v ≡ drop base w = ap (λ (n : ℕ). drop n v) (sym e) ∙ sym (drop-drop (base - region_size) region_size v) ∙ ap (drop (base - region_size)) p ∙ drop-drop (base - region_size) region_size w ∙ ap (λ (n : ℕ). drop n w) e in
    ap (take region_size) q

pub shows-title : {base place m : ℕ} {b x y z : Buffers} {w0 o0 w1 o1 w2 o2 w3 o3 : List ℕ} → ShowsText (bytes " title=\"") b w0 o0 x w1 o1 → ShowsPiece as_is base place m x w1 o1 y w2 o2 → ShowsText (bytes "\"") y w2 o2 z w3 o3
    → length w1 ≡ length w0 → length w2 ≡ length w1 → ShowsPiece title_text base place m b w0 o0 z w3 o3
shows-title {base} {place} {m} {w0 = w0} {w1 = w1} k1 k2 k3 n1 n2 = record {
  shows = λ c l lo hi h p.
      let s1 = k1.shows l in
      let r = region-same base w1 w0 lo s1.behind in
      let q : take m (drop place (region_at base w1)) ≡ c = ap (λ (v : List ℕ). take m (drop place v)) r ∙ p in
      let s2 = k2.shows c (n1 ∙ l) lo hi h q in
      let s3 = k3.shows (n2 ∙ n1 ∙ l) in
      showing-both s1 (showing-both s2 s3);
}

pub puts-page : {N : Whole → Type 0} {View : Turn → Type 0} {name : String} {b r : Whole} {work out work' out' : List ℕ} → WritesText (bytes name) b work out r work' out' → OnPage N View (put name) b work out r work' out'
unfolding within exec
puts-page {name = name} k = record {
  on-page = λ text w i j. record {
    handles = λ t s u v a y p. (let q : push (bytes name) s ≡ u = cc-go (done true (go (push (bytes name) s)) u p).went in rw (← q) (k.writes text w s i j y));
  };
}

-- ---- nothing is written

none_in : (cs : List (List ℕ)) (s : State) → push [] (set_captures cs s) ≡ set_captures cs s
unfolding push
none_in [] s = rw append-nil
none_in (c ∷ cs) s = rw append-nil

pub unwritten : {text : List ℕ} {b : Whole} {w : World} {s : State} {work out : List ℕ} → w.work ≡ work → w.out ≡ out → Mirrors text b w s → Mirrors text b (with_out out (with_work work w)) (push [] s)
unwritten {s = s} i j y = let e : push [] s ≡ s = none_in s.captures s in rw (e, ← i, ← j) y
