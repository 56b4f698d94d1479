-- The kept bytes when some are appended: the end, the total, what stood. Assumes nothing.
use Rattle.std.proofs.Common.{◌≡◌, refl, ap, ◌∙◌, List, [], ◌∷◌, ◌++◌, inl, ℕ, zero, suc, ◌+◌, ◌≤◌, min, arith, length, take, length-take, length-drop}
use Rattle.std.proofs.Math.Option.{Option, none, some}
use Rattle.lent.specs.Fill.{Filled}
use Rattle.lent.proofs.Laws.{front-before}
use Rattle.lent.proofs.Laws as Lent
use Rattle.regions.specs.Regions.{region_at, Carried, Carries}
use Rattle.regions.specs.Sizes.{region_size, kept_at, work_size, no_room}
use Rattle.machine.specs.State.{State, Span, Definition, Footnote}
use Rattle.machine.specs.Set.{set_labels, add_definition, add_footnote}
use Rattle.machine.specs.Totals.{size, definition_sizes, footnote_sizes, kept}
use Rattle.state_kept.specs.Kept.{Piece, Optional, or_empty}
use Rattle.state_kept.specs.Private.{CarriesTitle}
use Rattle.state_kept.proofs.Lists.{part_same}
use Rattle.state_kept.proofs.Pieces.{piece-new}

-- ---- the total

definition-sizes : (ds : List Definition) (d : Definition) → definition_sizes (ds ++ (d ∷ [])) ≡ definition_sizes ds + (size d.destination + size d.title)
definition-sizes [] d = omega arith
definition-sizes (x ∷ ds) d = let e = definition-sizes ds d in omega arith

footnote-sizes : (fs : List Footnote) (f : Footnote) → footnote_sizes (fs ++ (f ∷ [])) ≡ footnote_sizes fs + length f.body
footnote-sizes [] f = omega arith
footnote-sizes (x ∷ fs) f = let e = footnote-sizes fs f in omega arith

size_is : (b : Option (List ℕ)) → size b ≡ length (or_empty b)
size_is none = refl
size_is (some b) = refl

pub kept-definition : (d : Definition) (s : State) → kept (add_definition d s) ≡ kept s + length (or_empty d.destination) + length (or_empty d.title)
unfolding kept
kept-definition d s = let e = definition-sizes s.kept.definitions d in let x = size_is d.destination in let y = size_is d.title in omega arith

pub kept-footnote : (f : Footnote) (ps : List Span) (s : State) → kept (add_footnote f (set_labels ps s)) ≡ kept s + length f.body
unfolding kept
kept-footnote f ps s = let e = footnote-sizes s.kept.footnotes f in omega arith

-- ---- the region

pub long-region : (w : List ℕ) → work_size ≤ length w → length (region_at kept_at w) ≡ region_size
long-region w h = simp (length-take, length-drop) (omega arith)

module _ {region b region' : List ℕ} {end end' : ℕ} (f : Filled region end b region' end') where
  pub front : (m : ℕ) → m ≤ end → take m region' ≡ take m region
  front m h = ap (take m) f.bytes ∙ front-before region end b m h

  module _ (l : length region ≡ region_size) where
    pub end_is : (total : ℕ) → end ≡ min total no_room → end' ≡ min (total + length b) no_room
    end_is total e = let x = f.place in omega arith

    pub appended : (n : ℕ) → n ≡ length b → end + n ≤ region_size → Piece region' end' end n b
    appended n e h =
        let x : end' ≡ end + n = (let y = f.place in omega arith) in
        rw (x, f.bytes) (piece-new region end n b e (omega arith))

-- ---- what is carried there

-- the work bytes after b was carried behind the kept bytes
pub record Carrying (w : List ℕ) (at : ℕ) (b w' : List ℕ) (r : ℕ) : Type 0 where
  pub filled : Filled (region_at kept_at w) at b (region_at kept_at w') r
  pub before : take kept_at w' ≡ take kept_at w

none_filled : {d d' : List ℕ} {at r : ℕ} → d' ≡ d → r ≡ at → Filled d at [] d' r
none_filled {d} {at = at} p q = rw (p, q) (Lent.none d at)

module _ {w : List ℕ} (long : work_size ≤ length w) where
  pub carrying : {from n at r : ℕ} {b w' : List ℕ} → Piece w kept_at from n b → Carries w from n kept_at at w' r → Carrying w at b w' r
  carrying {from} {n} {at} {r} {b} {w'} p g =
      let h = p.below in
      let c : Carried w from n kept_at at w' r = g.carries (omega arith) (omega arith) (omega arith) (inl h) in
      record { filled = rw p.bytes at c.filled; before = c.before }

  -- a title, where there is one
  pub title-carrying : {place at r : ℕ} {w' : List ℕ} (title : ℕ) (b : Option (List ℕ)) → Optional w kept_at place title b → CarriesTitle w place title at w' r → Carrying w at (or_empty b) w' r
  title-carrying {at = at} {r = r} {w' = w'} zero none p g = let e = g.missing refl in record { filled = none_filled (ap (region_at kept_at) e.0) e.1; before = ap (take kept_at) e.0 }
  title-carrying zero (some b) p g = absurd p
  title-carrying (suc n) none p g = absurd p
  title-carrying (suc n) (some b) p g = carrying p (g.there refl)

-- a piece before the kept bytes is there when bytes were carried
pub optional-before : (w w' : List ℕ) → take kept_at w' ≡ take kept_at w → (place title : ℕ) (b : Option (List ℕ)) → Optional w kept_at place title b → Optional w' kept_at place title b
optional-before w w' e place zero none p = p
optional-before w w' e place zero (some b) p = p
optional-before w w' e place (suc n) none p = p
optional-before w w' e place (suc n) (some b) p = record { long = p.long; below = p.below; bytes = part_same place n kept_at w w' p.below e ∙ p.bytes }

-- a title that was carried where all of it had room
pub title-appended : {region region' : List ℕ} {end end' : ℕ} (w : List ℕ) (place title : ℕ) (b : Option (List ℕ)) → length region ≡ region_size → Optional w kept_at place title b → Filled region end (or_empty b) region' end' → end + length (or_empty b) ≤ region_size → Optional region' end' end title b
title-appended w place zero none l p f h = p
title-appended w place zero (some b) l p f h = p
title-appended w place (suc n) none l p f h = p
title-appended w place (suc n) (some b) l p f h = appended f l n p.long (let x = p.long in omega arith)
