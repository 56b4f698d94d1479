-- Pieces of the held bytes when more is held. Assumes nothing.
use Rattle.std.proofs.Common.{Some, None, ◌≡◌, sym, ap, ◌∙◌, List, [], ◌∷◌, ℕ, zero, suc, ◌+◌, ◌≤◌, arith, length, take, drop, length-take, drop_at}
use Rattle.std.specs.Prelude.{Option as CodeOption}
use Rattle.std.proofs.Math.Option.{Option, none, some}
use native.Mathlib.Decide.{dec_le}
use lib.Seq.{take-nil}
use Rattle.lent.specs.Fill.{Filled}
use Rattle.lent.proofs.Laws.{front-before, take-fill}
use Rattle.machine.specs.State as State
use Rattle.machine.specs.State.{no_destination, own, defined}
use Rattle.state_media.specs.declared.Piece.{Piece}
use Rattle.state_media.specs.declared.Destination.{Destination}
use Rattle.state_media.specs.declared.Destination.TheVariants as D
use Rattle.state_media.specs.declared.Media.{Media}
use Rattle.state_media.specs.Links.{PieceIs, TextIs, DestinationIs, MediaIs}

-- a part of a list is a part of its front
part-of-front : (a n : ℕ) (l : List ℕ) → take n (drop a l) ≡ drop a (take (a + n) l)
part-of-front zero n l = let z : 0 + n ≡ n = omega arith in rw z
part-of-front (suc a) n [] = let z : suc a + n ≡ suc (a + n) = omega arith in rw (take-nil n, z)
part-of-front (suc a) n (x ∷ l) = let z : suc a + n ≡ suc (a + n) = omega arith in rw z (part-of-front a n l)

-- what was appended
pub appended : {d s e : List ℕ} {at r : ℕ} → Filled d at s e r → at + length s ≤ length d → take (length s) (drop at e) ≡ s
appended {d} {s} {e} {at} f h =
    let l : length (take at d) ≡ at = simp length-take (omega arith) in
    part-of-front at (length s) e ∙ rw f.bytes (ap (drop at) (take-fill d at s h) ∙ drop_at (take at d) s at l)

-- more is held behind it
module _ {d s e : List ℕ} {at r end end' : ℕ} (f : Filled d at s e r) (h : end ≤ at) (k : end ≤ end') where
  pub piece-stays : {p : Piece} {b : List ℕ} → PieceIs d end p b → PieceIs e end' p b
  piece-stays {p} {b} x =
      let n = x.below in
      record {
        long = x.long;
        inside = x.inside;
        below = λ z. (let y = x.below z in omega arith);
        bytes = elim (dec_le 1 p.length) [
          | yes z ↦
              let y = x.below z in
              let same : take (p.place + p.length) e ≡ take (p.place + p.length) d = rw f.bytes (front-before d at s (p.place + p.length) (omega arith)) in
              part-of-front p.place p.length e ∙ ap (drop p.place) same ∙ sym (part-of-front p.place p.length d) ∙ x.bytes
          | no z ↦
              let y : p.length ≡ 0 = omega arith in
              let none_here : take p.length (drop p.place d) ≡ b = x.bytes in
              rw y (rw y at none_here)
        ];
      }

  pub text-stays : (t : CodeOption Piece) (b : Option (List ℕ)) → TextIs d end t b → TextIs e end' t b
  text-stays None none x = x
  text-stays None (some b) x = x
  text-stays (Some p) none x = x
  text-stays (Some p) (some b) x = piece-stays x

  pub destination-stays : (t : Destination) (b : State.Destination) → DestinationIs d end t b → DestinationIs e end' t b
  destination-stays D.Nowhere no_destination x = x
  destination-stays D.Nowhere (own b) x = x
  destination-stays D.Nowhere (defined k) x = x
  destination-stays (D.Own p) no_destination x = x
  destination-stays (D.Own p) (own b) x = piece-stays x
  destination-stays (D.Own p) (defined k) x = x
  destination-stays (D.Defined i) no_destination x = x
  destination-stays (D.Defined i) (own b) x = x
  destination-stays (D.Defined i) (defined k) x = x

  pub media-stays : {x : Media} {m : State.Media} → MediaIs d end x m → MediaIs e end' x m
  media-stays {x} {m} y =
      record {
        label_id = y.label_id;
        label = text-stays x.label m.label y.label;
        reference_id = y.reference_id;
        destination = destination-stays x.destination m.destination y.destination;
        title = text-stays x.title m.title y.title;
      }
