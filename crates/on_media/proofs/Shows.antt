-- A label, as the machine and the code show them. Assumes nothing.
use Rattle.std.proofs.Common.{Some, None, ◌≡◌, List, ◌∷◌, ℕ, arith, length}
use Rattle.std.proofs.Math.Option.{Option, none, some}
use Rattle.regions.specs.Sizes.{held_at}
use Rattle.machine.specs.State as State
use Rattle.machine.specs.State.{State}
use Rattle.machine.specs.Outcome.{go, need}
use Rattle.machine.specs.Buffers.{push}
use Rattle.machine.specs.Turn.{Turn}
use Rattle.machine.specs.Media.{Part, label, part_text}
use Rattle.machine.specs.Command as C
use Rattle.machine.specs.Words.{show}
use Rattle.machine.proofs.Outcomes.{never}
use Rattle.machine_bounded.specs.Within.{within}
use Rattle.machine_bounded.proofs.Bounds.{wrote}
use Rattle.regions.specs.Regions.{region_at}
use Rattle.state_media.specs.declared.Piece.{Piece}
use Rattle.state_media.specs.Links.{PieceIs, TextIs}
use Rattle.state_whole.specs.declared.Whole.{Whole}
use Rattle.state_whole.specs.Whole.{Held, OnPage}
use Rattle.state_whole.proofs.Media.{newest-there}
use Rattle.write_held.specs.Show.{as_is}
use Rattle.on_definition.proofs.Seeks.{newest-is}
use Rattle.on_media.specs.Private.{WritesPiece}

pub record ShownIs (part : Part) (t : Turn) (s u : State) : Type 0 where
  pub newest : State.Media
  pub others : List State.Media
  pub bytes : List ℕ
  pub media-is : s.media ≡ newest ∷ others
  pub bytes-are : part_text part t.options s.kept.definitions newest ≡ go bytes
  pub then_is : push bytes s ≡ u

pub shown-there : (part : Part) (t : Turn) (s u : State) → within (show part) t s ≡ go u → ShownIs part t s u
shown-there p t s u q =
    let h = wrote (C.part p) t s u q in
    let f = newest-there s h.0 (λ (m, ms). part_text p t.options s.kept.definitions m) h.1 in
    record { newest = f.0; others = f.1; bytes = h.0; media-is = f.2; bytes-are = f.3; then_is = h.2 }

-- ---- the label

label-bytes : (t : Turn) (ds : List State.Definition) (m : State.Media) (c : List ℕ) → part_text label t.options ds m ≡ go c → m.label ≡ some c
unfolding part_text
label-bytes t ds m c p = on m.label p
  where
    on : (o : Option (List ℕ)) → need o ≡ go c → o ≡ some c
    on none q = never q
    on (some d) q = cc

unset-not : {X : Type 0} (region : List ℕ) (end : ℕ) (o : Option (List ℕ)) (c : List ℕ) → TextIs region end None o → o ≡ some c → X
unset-not region end none c k p = let z : ◌≡◌ {A = ℕ} 0 1 = cc in absurd (omega arith)
unset-not region end (some d) c k p = absurd k

pub text-piece : (region : List ℕ) (end : ℕ) (p : Piece) (o : Option (List ℕ)) (c : List ℕ) → TextIs region end (Some p) o → o ≡ some c → PieceIs region end p c
text-piece region end p none c k q = absurd k
text-piece region end p (some d) c k q = let e : d ≡ c = cc in rw (← e) k

module _ {View : Turn → Type 0} {b : Whole} {work out : List ℕ} where
  pub label-unset : b.links.media.label ≡ None → OnPage Held View (show label) b work out b work out
  label-unset e = record {
    on-page = λ text w i j. record {
      handles = λ t s u v a y p.
          let h = shown-there label t s u p in
          let x = (newest-is a y h.media-is).label in
          unset-not (region_at held_at w.work) b.links.end h.newest.label h.bytes (rw e at x) (label-bytes t s.kept.definitions h.newest h.bytes h.bytes-are);
    };
  }

  pub label-shown : {p : Piece} {r : Whole} {work' out' : List ℕ} → b.links.media.label ≡ Some p → WritesPiece as_is held_at p.place p.length b work out r work' out' → OnPage Held View (show label) b work out r work' out'
  label-shown {p} e k = record {
    on-page = λ text w i j. record {
      handles = λ t s u v a y q.
          let h = shown-there label t s u q in
          let x = (newest-is a y h.media-is).label in
          let z = text-piece (region_at held_at w.work) b.links.end p h.newest.label h.bytes (rw e at x) (label-bytes t s.kept.definitions h.newest h.bytes h.bytes-are) in
          rw (← h.then_is) (k.writes text h.bytes w s i j (omega arith) (omega arith) z.inside z.bytes y);
    };
  }
