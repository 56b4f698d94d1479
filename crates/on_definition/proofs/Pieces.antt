-- The pieces of a definition among the held bytes, and what the code makes of them. Assumes nothing.
use Rattle.std.proofs.Common.{Some, None, ◌≡◌, refl, sym, ap, ◌∙◌, List, [], ℕ, suc, min, ◌+◌, arith, length}
use Rattle.std.specs.Prelude.{Option as CodeOption}
use Rattle.std.proofs.Math.Option.{Option, none, some}
use Rattle.regions.specs.Sizes.{region_size, held_at, kept_at}
use Rattle.machine.specs.State as State
use Rattle.machine.specs.State.{State, no_destination, own, defined}
use Rattle.machine.specs.Media.{own_of}
use Rattle.regions.specs.Regions.{region_at}
use Rattle.state_media.specs.declared.Links.{Links}
use Rattle.state_media.specs.declared.Piece as Links
use Rattle.state_media.specs.declared.Span.{Span}
use Rattle.state_media.specs.declared.Destination.{Destination}
use Rattle.state_media.specs.declared.Destination.TheVariants as D
use Rattle.state_media.specs.Links.{DestinationIs, TextIs}
use Rattle.state_kept.specs.Kept.{Piece, Optional, or_empty}
use Rattle.state_whole.proofs.Shown.{part-of-region}
use Rattle.on_definition.specs.Private.{own_piece, text_piece, word_of}

pub piece-nowhere : {d : Destination} → d ≡ D.Nowhere → record { place = 0; length = 0 } ≡ own_piece d
piece-nowhere e = rw e

pub piece-defined : {d : Destination} {k : ℕ} → d ≡ D.Defined k → record { place = 0; length = 0 } ≡ own_piece d
piece-defined e = rw e

no-piece : (work : List ℕ) → Piece work kept_at (region_size + min 0 region_size) 0 []
no-piece work = record { long = refl; below = omega arith; bytes = refl }

pub destination-piece : (work : List ℕ) (end : ℕ) (d : Destination) (x : State.Destination) → DestinationIs (region_at held_at work) end d x → Piece work kept_at (region_size + min (own_piece d).place region_size) (own_piece d).length (or_empty (own_of x))
destination-piece work end D.Nowhere no_destination k = no-piece work
destination-piece work end D.Nowhere (own c) k = absurd k
destination-piece work end D.Nowhere (defined n) k = absurd k
destination-piece work end (D.Own p) no_destination k = absurd k
destination-piece work end (D.Own p) (own c) k =
    let i = k.inside in
    let e : min p.place region_size ≡ p.place = omega arith in
    record { long = k.long; below = omega arith; bytes = rw e (sym (part-of-region region_size p.place p.length work i) ∙ k.bytes) }
destination-piece work end (D.Own p) (defined n) k = absurd k
destination-piece work end (D.Defined i) no_destination k = absurd k
destination-piece work end (D.Defined i) (own c) k = absurd k
destination-piece work end (D.Defined i) (defined n) k = no-piece work

pub title-piece : (work : List ℕ) (end : ℕ) (t : CodeOption Links.Piece) (o : Option (List ℕ)) → TextIs (region_at held_at work) end t o → Optional work kept_at (region_size + min (text_piece t).place region_size) (word_of t) o
title-piece work end None none k = tt
title-piece work end None (some c) k = absurd k
title-piece work end (Some p) none k = absurd k
title-piece work end (Some p) (some c) k =
    let i = k.inside in
    let l = k.long in
    let e : min p.place region_size ≡ p.place = omega arith in
    let n : min p.length region_size ≡ p.length = omega arith in
    record { long = n ∙ l; below = omega arith; bytes = rw (e, n) (sym (part-of-region region_size p.place p.length work i) ∙ k.bytes) }
