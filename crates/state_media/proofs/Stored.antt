-- What was captured, held: for the newest medium, or as a setext heading's text. Assumes nothing.
use Rattle.std.proofs.Common.{Some, None, ◌≡◌, refl, sym, ◌∙◌, List, [], ◌∷◌, inl, ℕ, min, ◌+◌, ◌≤◌, arith, length, take, drop, length-take, length-drop}
use Rattle.std.specs.Prelude.{Option as CodeOption}
use Rattle.std.proofs.Math.Option.{Option, none, some}
use Rattle.lent.specs.Fill.{Filled}
use Rattle.lent.proofs.Laws.{length-filled}
use Rattle.regions.specs.Regions.{region_at, Carries, Carried}
use Rattle.regions.specs.Sizes.{region_size, held_at, work_size, no_room}
use Rattle.machine.specs.State as State
use Rattle.machine.specs.State.{State, no_destination, own, defined}
use Rattle.machine.specs.Set.{set_media}
use Rattle.machine.specs.Media as M
use Rattle.machine.specs.Media.{own_of}
use Rattle.machine.specs.Totals.{size, media_sizes, held}
use Rattle.machine_bounded.specs.Within.{parts_from}
use Rattle.state_media.specs.declared.Piece.{Piece}
use Rattle.state_media.specs.declared.Destination.{Destination}
use Rattle.state_media.specs.declared.Destination.TheVariants as D
use Rattle.state_media.specs.declared.Media.{Media}
use Rattle.state_media.specs.declared.Links.{Links}
use Rattle.state_media.specs.Private.{held_up_to, HeldBehind}
use Rattle.state_media.specs.Links.{PieceIs, TextIs, DestinationIs, MediaIs, NewestIs, Linked, Around, Stores, Holds, Releases}
use Rattle.state_media.proofs.Held.{appended, text-stays, media-stays}

module _ {w w' : List ℕ} {from n at r : ℕ} (c : Carries w from n held_at at w' r) (lw : length w ≡ work_size) (h : from + n ≤ region_size) where
  carried : Carried w from n held_at at w' r
  carried = c.carries (omega arith) (omega arith) (omega arith) (inl h)

  long-bytes : length (take n (drop from w)) ≡ n
  long-bytes = simp (length-take, length-drop) (omega arith)

  long-region : length (region_at held_at w) ≡ region_size
  long-region = simp (length-take, length-drop) (omega arith)

  long_after : length (region_at held_at w') ≡ region_size
  long_after = length-filled carried.filled ∙ long-region

  around : Around w w'
  around = record { before = carried.before; behind = carried.behind }

  -- where it has room, the piece is there
  piece-new : at + n ≤ region_size → PieceIs (region_at held_at w') r (record { place = at; length = n }) (take n (drop from w))
  piece-new k =
      let f = carried.filled in
      let y = long-bytes in
      let z = long-region in
      let q = f.place in
      record { long = sym y; inside = k; below = λ a. omega arith; bytes = rw y at (appended f (omega arith)) }

  place_after : (a : ℕ) → at ≡ min a no_room → r ≡ min (a + n) no_room
  place_after a e = let q = carried.filled.place in let y = long-bytes in let z = long-region in omega arith

-- ---- for the newest medium

abbrev held_more : Media → ℕ → Links → Links
held_more x r l = record l { media = x; end = r }

module _ (l : Links) {w w' : List ℕ} {from n r : ℕ} (c : Carries w from n held_at l.end w' r) where
  stored : (x : Media) (m' : State.Media → State.Media)
      → (s : State) (m : State.Media) (ms : List State.Media) → s.media ≡ m ∷ ms → (m' m).image ≡ m.image → parts_from M.label (m' m) ≡ parts_from M.label m + n
      → (MediaIs (region_at held_at w') r l.media m → PieceIs (region_at held_at w') r (record { place = l.end; length = n }) (take n (drop from w)) → MediaIs (region_at held_at w') r x (m' m))
      → length w ≡ work_size → from + n ≤ region_size → Linked l (region_at held_at w) s → Linked (held_more x r l) (region_at held_at w') (set_media (m' m ∷ ms) s) × Around w w'
  unfolding held
  stored x m' s m ms p i h g lw b k =
      let f = (carried c lw b).filled in
      let z : l.end ≡ min (size s.waiting.setext + (parts_from M.label m + media_sizes ms)) no_room = rw p at k.end in
      let e = place_after c lw b (size s.waiting.setext + (parts_from M.label m + media_sizes ms)) z in
      let o = rw p at k.newest in
      let t = rw p at k.setext in (
        record {
          long = long_after c lw b;
          images = rw i (rw p at k.images);
          others = rw p at k.others;
          end = omega arith;
          newest = λ q. g (media-stays f (omega arith) (omega arith) (o (omega arith))) (piece-new c lw b (omega arith));
          setext = λ q. text-stays f (omega arith) (omega arith) l.setext s.waiting.setext (t (omega arith));
        },
        around c lw b,
      )

pub held-behind : {l : Links} {w w' : List ℕ} {from n r : ℕ} → Carries w from n held_at l.end w' r → HeldBehind from n l w (held_up_to r l) (record { place = l.end; length = n }) w'
held-behind {r = r} c = record { end = r; carries = c; held = refl; piece = refl }

module _ {l r : Links} {w w' : List ℕ} {from n : ℕ} {p : Piece} (k : HeldBehind from n l w r p w') where
  pub stores-label : Stores M.label from n l w (record r { media = record r.media { label = Some p } }) w'
  stores-label = record {
    stores = λ s m ms q z lw b i.
        let y = long-bytes k.carries lw b in
        rw (k.held, k.piece) (stored l k.carries (record l.media { label = Some (record { place = l.end; length = n }) }) (M.with_part M.label (take n (drop from w))) s m ms q refl (omega arith)
        (λ o i. record { label_id = o.label_id; label = i; reference_id = o.reference_id; destination = o.destination; title = o.title }) lw b i);
  }

  pub stores-destination : Stores M.destination from n l w (record r { media = record r.media { destination = D.Own p } }) w'
  stores-destination = record {
    stores = λ s m ms q z lw b i.
        let y = long-bytes k.carries lw b in
        rw (k.held, k.piece) (stored l k.carries (record l.media { destination = D.Own (record { place = l.end; length = n }) }) (M.with_part M.destination (take n (drop from w))) s m ms q refl (omega arith)
        (λ o i. record { label_id = o.label_id; label = o.label; reference_id = o.reference_id; destination = i; title = o.title }) lw b i);
  }

  pub stores-title : Stores M.title from n l w (record r { media = record r.media { title = Some p } }) w'
  stores-title = record {
    stores = λ s m ms q z lw b i.
        let y = long-bytes k.carries lw b in
        rw (k.held, k.piece) (stored l k.carries (record l.media { title = Some (record { place = l.end; length = n }) }) (M.with_part M.title (take n (drop from w))) s m ms q refl (omega arith)
        (λ o i. record { label_id = o.label_id; label = o.label; reference_id = o.reference_id; destination = o.destination; title = i }) lw b i);
  }

-- ---- as a setext heading's text

abbrev waiting : CodeOption Piece → ℕ → Links → Links
waiting t n l = record l { end = n; setext = t }

newest-stays : {d s e : List ℕ} {at r end end' : ℕ} → Filled d at s e r → end ≤ at → end ≤ end' → (x : Media) (ms : List State.Media) → NewestIs d end x ms → NewestIs e end' x ms
newest-stays f h k x [] y = tt
newest-stays f h k x (m ∷ ms) y = media-stays f h k y

pub holds : {l : Links} {w w' : List ℕ} {from n r : ℕ} → Carries w from n held_at 0 w' r → Holds from n l w (waiting (Some (record { place = 0; length = n })) r l) w'
unfolding held
holds {l} {w} {w'} {from} {n} {r} c = record {
  holds = λ s z lw b k.
      let f = (carried c lw b).filled in
      let y = long-bytes c lw b in
      let e = place_after c lw b 0 (omega arith) in
      let i = k.end in
      let p : PieceIs (region_at held_at w') r (record { place = 0; length = n }) (take n (drop from w)) = piece-new c lw b (omega arith) in (
        record {
          long = long_after c lw b;
          images = k.images;
          others = k.others;
          end = omega arith;
          newest = λ q. newest-stays f (omega arith) (omega arith) l.media s.media (k.newest (omega arith));
          setext = λ q. record { long = p.long; inside = p.inside; below = λ a. omega arith; bytes = p.bytes };
        },
        around c lw b,
      );
}

-- pieces of no length may stand anywhere
nothing-anywhere : {region : List ℕ} {end end' : ℕ} {p : Piece} {b : List ℕ} → length b ≡ 0 → PieceIs region end p b → PieceIs region end' p b
nothing-anywhere z x = let n = x.long in record { long = n; inside = x.inside; below = λ a. absurd (omega arith); bytes = x.bytes }

text-anywhere : (region : List ℕ) (end end' : ℕ) (t : CodeOption Piece) (b : Option (List ℕ)) → size b ≡ 0 → TextIs region end t b → TextIs region end' t b
text-anywhere region end end' None none z x = x
text-anywhere region end end' None (some b) z x = x
text-anywhere region end end' (Some p) none z x = x
text-anywhere region end end' (Some p) (some b) z x = nothing-anywhere z x

destination-anywhere : (region : List ℕ) (end end' : ℕ) (t : Destination) (b : State.Destination) → size (own_of b) ≡ 0 → DestinationIs region end t b → DestinationIs region end' t b
destination-anywhere region end end' D.Nowhere no_destination z x = x
destination-anywhere region end end' D.Nowhere (own b) z x = x
destination-anywhere region end end' D.Nowhere (defined k) z x = x
destination-anywhere region end end' (D.Own p) no_destination z x = x
destination-anywhere region end end' (D.Own p) (own b) z x = nothing-anywhere z x
destination-anywhere region end end' (D.Own p) (defined k) z x = x
destination-anywhere region end end' (D.Defined i) no_destination z x = x
destination-anywhere region end end' (D.Defined i) (own b) z x = x
destination-anywhere region end end' (D.Defined i) (defined k) z x = x

newest-anywhere : (region : List ℕ) (end end' : ℕ) (x : Media) (ms : List State.Media) → media_sizes ms ≡ 0 → NewestIs region end x ms → NewestIs region end' x ms
newest-anywhere region end end' x [] z y = tt
newest-anywhere region end end' x (m ∷ ms) z y = record {
  label_id = y.label_id;
  label = text-anywhere region end end' x.label m.label (omega arith) y.label;
  reference_id = y.reference_id;
  destination = destination-anywhere region end end' x.destination m.destination (omega arith) y.destination;
  title = text-anywhere region end end' x.title m.title (omega arith) y.title;
}

pub releases : {l : Links} → Releases l (waiting None 0 l)
unfolding held
releases {l} = record {
  releases = λ region s z h k.
      let i = k.end in
      record {
        long = k.long;
        images = k.images;
        others = k.others;
        end = omega arith;
        newest = λ q. newest-anywhere region l.end 0 l.media s.media z (k.newest (omega arith));
        setext = λ q. tt;
      };
}
