-- What the inner functions answer: no part of a promise. Assumes nothing.
use Rattle.std.specs.Prelude.{◌≡◌, List, ℕ, Option, Some, None}
use Rattle.regions.specs.Regions.{Carries}
use Rattle.regions.specs.Sizes.{held_at}
use Rattle.state_media.specs.declared.Piece.{Piece}
use Rattle.state_media.specs.declared.Destination.TheVariants.{Nowhere}
use Rattle.state_media.specs.declared.Media.{Media}
use Rattle.state_media.specs.declared.Links.{Links}

abbrev pub bare_media : Media
bare_media = record { label_id = None; label = None; reference_id = None; destination = Nowhere; title = None }

abbrev pub length_of : Option Piece → ℕ
length_of None = 0
length_of (Some p) = p.length

abbrev pub held_up_to : (end : ℕ) → Links → Links
held_up_to end l = record l { end = end }

-- n of the work bytes, from a place on, are held behind all that is
pub record HeldBehind (from n : ℕ) (l : Links) (w : List ℕ) (r : Links) (p : Piece) (w' : List ℕ) : Type 0 where
  pub end : ℕ
  pub carries : Carries w from n held_at l.end w' end
  pub held : r ≡ held_up_to end l
  pub piece : p ≡ record { place = l.end; length = n }
