-- What was pushed is what the machine pushes, where it goes on. Assumes nothing.
use mathlib.Core.Path.{◌≡◌, sym, ◌∙◌}
use mathlib.Core.Bool.{Bool}
use mathlib.Core.List.{List, [], ◌∷◌, ◌++◌}
use mathlib.Core.Option.{some}
use Prim.Native.Nat.{ℕ, zero, suc, ◌<◌}
use native.Mathlib.Omega.{arith}
use lib.ListN.{length, get_or, get_elem?}
use Rattle.lent.specs.Bytes.{bytes}
use Rattle.encode_byte.specs.declared.Escaping.{Escaping}
use Rattle.encode.specs.Encode.{encode_of}
use Rattle.sanitize_uri.specs.Url.{sanitize_of}
use Rattle.character_reference.specs.declared.Marker.{Marker}
use Rattle.character_reference.specs.declared.Names.{Names}
use Rattle.character_reference.specs.Reference.{reference_for, or_nothing}
use Rattle.event.specs.Event.{alignment_of, alignments_of, columns_of}
use Rattle.event.proofs.Laws.{length-alignments, alignment-at}
use Rattle.machine.specs.Buffers.{push}
use Rattle.machine.specs.Text.{start_of, align_text}
use Rattle.write_pieces.specs.Written.{written}
use Rattle.state_buffers.specs.declared.Buffers.{Buffers}
use Rattle.state_buffers.specs.Stand.{Keeps}
use Rattle.write_pieces.specs.Pieces.{PushesMail, PushesReference, PushesStart, PushesAlign, enter_of}
use Rattle.write_pieces.proofs.Addresses.{mail-url}

-- an element that is there
there : (l : List ℕ) (i a : ℕ) → get_elem? l i ≡ some a → (i < length l) × (a ≡ get_or l i 0)
there [] i a p = let z : ◌≡◌ {A = ℕ} 0 1 = cc in absurd (omega arith)
there (x ∷ l) zero a p = (omega arith, cc)
there (x ∷ l) (suc i) a p = let h = there l i a p in (omega arith, h.1)

module _ {b r : Buffers} {captures out captures' out' : List ℕ} where
  pub pushed-mail : (apostrophes : Bool) (s : List ℕ) → Keeps (push (sanitize_of apostrophes (bytes "mailto:" ++ s))) b captures out r captures' out' → PushesMail apostrophes s b captures out r captures' out'
  pushed-mail apostrophes s k = record { pushes = λ o p. (rw (mail-url o s, p) k) }

  pub pushed-reference : (names : Names) (m : Marker) (s : List ℕ) (escaping : Escaping) → Keeps (push (encode_of escaping (or_nothing (reference_for names m s)))) b captures out r captures' out'
      → PushesReference names m s escaping b captures out r captures' out'
  pushed-reference names m s escaping k = record { pushes = λ v p. (rw p at k) }

  pub pushed_start : (s : List ℕ) → Keeps (push (written (start_of s))) b captures out r captures' out' → PushesStart s b captures out r captures' out'
  pushed_start s k = record { pushes = λ v p. (rw p at k) }

  pub pushed-align : (extra column x : ℕ) → x ≡ alignment_of (enter_of extra) column → Keeps (push (align_text x)) b captures out r captures' out'
      → PushesAlign extra column b captures out r captures' out'
  pushed-align extra column x e k = record { pushes = λ a p. (rw (same a p) k) }
    where
      same : (a : ℕ) → get_elem? (alignments_of (enter_of extra)) column ≡ some a → a ≡ x
      same a p =
          let h = there (alignments_of (enter_of extra)) column a p in
          let l : column < columns_of (enter_of extra) = rw (length-alignments (enter_of extra)) at h.0 in
          h.1 ∙ alignment-at (enter_of extra) column l ∙ sym e
