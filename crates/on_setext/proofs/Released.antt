-- A setext heading's text is held, and released. Assumes nothing.
use Rattle.std.specs.Prelude.{Some, None}
use mathlib.Core.Path.{◌≡◌, refl, sym, ap, ◌∙◌}
use mathlib.Core.List.{List}
use mathlib.Core.Option.{Option, none, some}
use Prim.Native.Nat.{ℕ, ◌≤◌}
use native.Mathlib.Omega.{arith}
use borrow.Author.Tests.{eqb-true}
use lib.Dec.{eqb}
use lib.ListN.{length}
use Rattle.regions.specs.Sizes.{region_size, held_at}
use Rattle.machine.specs.State.{State}
use Rattle.machine.specs.Outcome.{Outcome, go, ◌>>=◌, need}
use Rattle.machine.specs.Set.{set_setext}
use Rattle.machine.specs.Buffers.{push}
use Rattle.machine.specs.Turn.{Turn}
use Rattle.machine.specs.Totals.{size, media_sizes, held, most_total}
use Rattle.machine.specs.Command.{exec}
use Rattle.machine.specs.Words.{release}
use Rattle.machine.proofs.Outcomes.{never}
use Rattle.machine_bounded.specs.Within.{within}
use Rattle.machine_bounded.proofs.Bounds.{done}
use Rattle.regions.specs.Regions.{region_at}
use Rattle.state_buffers.specs.declared.Buffers.{Buffers}
use Rattle.state_context.proofs.Laws.{with_buffers}
use Rattle.state_media.specs.declared.Links.{Links}
use Rattle.state_media.specs.declared.Piece.{Piece}
use Rattle.state_media.specs.Links.{PieceIs, TextIs, Releases}
use Rattle.state_whole.specs.declared.Whole.{Whole}
use Rattle.state_whole.specs.Whole.{World, Mirrors, Held, OnPage, with_links, with_context}
use Rattle.state_whole.proofs.Parts.{rel-alike, keeps_same}
use Rattle.state_whole.proofs.Media.{cc-go}
use Rattle.state_whole.proofs.Shown.{shown}
use Rattle.write_held.specs.Show.{as_is, ShowsPiece}

module _ {b : Whole} {w : World} {text : List ℕ} {s : State} where
  -- where the end of the held bytes shows room, there is room
  pub in-room : Held b → Mirrors text b w s → held s ≤ most_total
  in-room a y = let e = y.links.end in omega arith

  unheld : {l : Links} → Releases b.links l → media_sizes s.media ≡ 0 → Held b → Mirrors text b w s → Mirrors text (with_links l b) w (set_setext none s)
  unheld k z a y = record {
    long = y.long;
    places = y.places;
    context = rel-alike (record { page = refl; captures = refl; flags = refl; rank = refl; seen = refl; fences = refl; marker = refl; first = refl; tight = refl; table = refl; fixed = refl }) y.context;
    links = k.releases (region_at held_at w.work) s z a y.links;
    kept = keeps_same refl refl y.kept;
  }

text-there : (region : List ℕ) (end : ℕ) (p : Piece) (o : Option (List ℕ)) (u : State) (f : List ℕ → Outcome State) → TextIs region end (Some p) o → (need o >>= f) ≡ go u → (c : List ℕ) × PieceIs region end p c × (f c ≡ go u)
text-there region end p none u f x q = absurd x
text-there region end p (some c) u f x q = (c, x, q)

text-not-there : {X : Type 0} (region : List ℕ) (end : ℕ) (o : Option (List ℕ)) (u : State) (f : List ℕ → Outcome State) → TextIs region end None o → (need o >>= f) ≡ go u → X
text-not-there region end none u f x q = never q
text-not-there region end (some c) u f x q = absurd x

module _ {View : Turn → Type 0} {b : Whole} {work out : List ℕ} where
  pub not-held : b.links.setext ≡ None → OnPage Held View release b work out b work out
  unfolding within exec
  not-held h = record {
    on-page = λ text w i j. record {
      handles = λ t s u v a y p.
          let g = done (eqb (media_sizes s.media) 0) (need s.waiting.setext >>= λ c. go (push c (set_setext none s))) u p in
          let x = y.links.setext (in-room a y) in
          text-not-there (region_at held_at w.work) (size s.waiting.setext) s.waiting.setext u (λ c. go (push c (set_setext none s))) (rw h at x) g.went;
    };
  }

  pub releases : {p : Piece} {x : Buffers} {l : Links} {work' out' : List ℕ} → b.links.setext ≡ Some p → ShowsPiece as_is region_size p.place p.length b.context.buffers work out x work' out' → length work' ≡ length work → Releases b.links l
      → OnPage Held View release b work out (with_links l (with_context (with_buffers x b.context) b)) work' out'
  unfolding within exec
  releases {p} {x} {l} {work'} {out'} h k n r = record {
    on-page = λ text w i j. record {
      handles = λ t s u v a y q.
          let g = done (eqb (media_sizes s.media) 0) (need s.waiting.setext >>= λ c. go (push c (set_setext none s))) u q in
          let z = y.links.setext (in-room a y) in
          let f = text-there (region_at held_at w.work) (size s.waiting.setext) p s.waiting.setext u (λ c. go (push c (set_setext none s))) (rw h at z) g.went in
          let e : push f.0 (set_setext none s) ≡ u = cc-go f.2 in
          let k' = rw (← i, ← j) at k in
          let st = k'.shows f.0 y.long (omega arith) (omega arith) f.1.inside f.1.bytes in
          rw (← e) (shown (set_setext none s) (record { keeps = st.keeps; behind = st.behind; long = n ∙ ap length (sym i) }) (unheld r (eqb-true (media_sizes s.media) 0 g.turn) a y));
    };
  }
