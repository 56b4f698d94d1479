-- Commands on the newest medium. Assumes nothing.
use Rattle.std.proofs.Common.{Some, None}
use mathlib.Core.Path.{◌≡◌, refl, sym, ap}
use mathlib.Core.Bool.{Bool}
use mathlib.Core.List.{List, [], ◌∷◌}
use mathlib.Core.Option.{Option, none, some}
use Prim.Native.Nat.{ℕ, zero, suc, ◌<◌}
use native.Mathlib.Omega.{arith}
use lib.Dec.{T, ltb, ltb→lt}
use borrow.Author.Tests.{lt-ltb}
use lib.ListN.{length, get_elem?}
use Rattle.normalize_identifier.specs.Search.{Found, first_same}
use Rattle.normalize_identifier.proofs.Laws.{first-at}
use Rattle.machine.specs.declared.Options.{Options}
use Rattle.machine.specs.Outcome.{Outcome, go, ◌>>=◌, need}
use Rattle.machine.specs.State.{State, Span, Destination, no_destination, own, defined, Media, Definition}
use Rattle.machine.specs.Set.{set_media, set_label_id, set_label, set_reference_id, set_destination, set_title}
use Rattle.machine.specs.Turn.{url_of}
use Rattle.machine.specs.Media as M
use Rattle.machine.specs.Media.{new_media, definition_labels, defined_at, destination_of, or_none, title_text, destination_text, title_of, part_text}
use Rattle.machine_shape.specs.Facts.{is_set, points_to, defined?}
use Rattle.machine_shape.specs.Shape.{changed, over, gone, Rel, idle, all, lost}
use Rattle.machine_shape.specs.Acts.{with_media, turns, newest, popped}
use Rattle.machine_shape.specs.Right.{Goes}
use Rattle.machine_shape.proofs.Done.{rel-media}

pub media-open : (image : Bool) (s : State) → Rel (with_media over (turns (0 ∷ 1 ∷ 3 ∷ 4 ∷ 7 ∷ 8 ∷ []) (2 ∷ 5 ∷ 6 ∷ 9 ∷ [])) idle) s (set_media (new_media image ∷ s.media) s)
media-open image s = rel-media over (turns (0 ∷ 1 ∷ 3 ∷ 4 ∷ 7 ∷ 8 ∷ []) (2 ∷ 5 ∷ 6 ∷ 9 ∷ [])) (new_media image ∷ s.media) s (new_media image, refl) (tt, (tt, (tt, (tt, (tt, (tt, (tt, (tt, (tt, (tt, tt))))))))))

module _ (s : State) (m : Media) (ms : List Media) (e : s.media ≡ m ∷ ms) where
  pub media-gone : Rel popped s (set_media ms s)
  media-gone = rel-media gone (all 10 lost) ms s (m, e) (tt, (tt, (tt, (tt, (tt, (tt, (tt, (tt, (tt, (tt, tt))))))))))

  pub label-set : (b : List ℕ) → Rel (newest (2 ∷ []) (1 ∷ 8 ∷ 9 ∷ [])) s (set_media (set_label b m ∷ ms) s)
  label-set b = rel-media changed (turns (2 ∷ []) (1 ∷ 8 ∷ 9 ∷ [])) (set_label b m ∷ ms) s (m, set_label b m, ms, e, refl) (λ t. rw e at t, (tt, (tt, (λ t. rw e at t, (λ t. rw e at t, (λ t. rw e at t, (λ t. rw e at t, (λ t. rw e at t, (tt, (tt, tt))))))))))

  pub destination-set : (b : List ℕ) → Rel (newest (7 ∷ []) (3 ∷ 8 ∷ 9 ∷ [])) s (set_media (set_destination (own b) m ∷ ms) s)
  destination-set b = rel-media changed (turns (7 ∷ []) (3 ∷ 8 ∷ 9 ∷ [])) (set_destination (own b) m ∷ ms) s (m, set_destination (own b) m, ms, e, refl) (λ t. rw e at t, (λ t. rw e at t, (λ t. rw e at t, (tt, (λ t. rw e at t, (λ t. rw e at t, (λ t. rw e at t, (tt, (tt, (tt, tt))))))))))

  pub title-set : (b : List ℕ) → Rel (newest [] (4 ∷ 8 ∷ 9 ∷ [])) s (set_media (set_title b m ∷ ms) s)
  title-set b = rel-media changed (turns [] (4 ∷ 8 ∷ 9 ∷ [])) (set_title b m ∷ ms) s (m, set_title b m, ms, e, refl) (λ t. rw e at t, (λ t. rw e at t, (λ t. rw e at t, (λ t. rw e at t, (tt, (λ t. rw e at t, (λ t. rw e at t, (λ t. rw e at t, (tt, (tt, tt))))))))))

  pub destination-empty : Rel (newest (3 ∷ 7 ∷ []) (8 ∷ 9 ∷ [])) s (set_media (set_destination (own []) m ∷ ms) s)
  destination-empty = rel-media changed (turns (3 ∷ 7 ∷ []) (8 ∷ 9 ∷ [])) (set_destination (own []) m ∷ ms) s (m, set_destination (own []) m, ms, e, refl) (λ t. rw e at t, (λ t. rw e at t, (λ t. rw e at t, (tt, (λ t. rw e at t, (λ t. rw e at t, (λ t. rw e at t, (tt, (tt, (tt, tt))))))))))

  pub label_id-set : (b : Span) → Rel (newest (5 ∷ []) (8 ∷ [])) s (set_media (set_label_id b m ∷ ms) s)
  label_id-set b = rel-media changed (turns (5 ∷ []) (8 ∷ [])) (set_label_id b m ∷ ms) s (m, set_label_id b m, ms, e, refl) (λ t. rw e at t, (λ t. rw e at t, (λ t. rw e at t, (λ t. rw e at t, (λ t. rw e at t, (tt, (λ t. rw e at t, (λ t. rw e at t, (tt, (λ t. rw e at t, tt))))))))))

  pub reference_id-set : (b : Span) → Rel (newest (6 ∷ []) (8 ∷ [])) s (set_media (set_reference_id b m ∷ ms) s)
  reference_id-set b = rel-media changed (turns (6 ∷ []) (8 ∷ [])) (set_reference_id b m ∷ ms) s (m, set_reference_id b m, ms, e, refl) (λ t. rw e at t, (λ t. rw e at t, (λ t. rw e at t, (λ t. rw e at t, (λ t. rw e at t, (λ t. rw e at t, (tt, (λ t. rw e at t, (tt, (λ t. rw e at t, tt))))))))))

  pub destination-found : (d : Destination) → T (points_to (defined? s) d) → Rel (newest (7 ∷ []) (3 ∷ 8 ∷ 9 ∷ [])) s (set_media (set_destination d m ∷ ms) s)
  destination-found d p = rel-media changed (turns (7 ∷ []) (3 ∷ 8 ∷ 9 ∷ [])) (set_destination d m ∷ ms) s (m, set_destination d m, ms, e, refl) (λ t. rw e at t, (λ t. rw e at t, (λ t. rw e at t, (tt, (λ t. rw e at t, (λ t. rw e at t, (λ t. rw e at t, (p, (tt, (tt, tt))))))))))

-- ---- where it leads

labels-long : (ds : List Definition) → length (definition_labels ds) ≡ length ds
labels-long [] = refl
labels-long (d ∷ ds) = ap suc (labels-long ds)

found-there : (ds : List Definition) (b : List ℕ) (f : Found) (d : Destination) → first_same (definition_labels ds) b ≡ f → defined_at f ≡ go d → T (points_to (length ds) d)
found-there ds b (Some k) d p q =
    let i : k < length (definition_labels ds) = (first-at (definition_labels ds) b k p).inside in
    let e : defined k ≡ d = cc in
    rw (sym e) (rw (lt-ltb k (length ds) (omega (arith, labels-long ds))) tt)
found-there ds b None d p q = let z : ◌≡◌ {A = ℕ} 0 1 = cc in absurd (omega arith)

-- a destination that is found leads to a definition that is there
pub leads : (ds : List Definition) (d : Destination) (sought : Option (List ℕ)) (r : Destination) → T (points_to (length ds) d) → destination_of ds d sought ≡ go r → T (points_to (length ds) r)
leads ds no_destination (some b) r p q = found-there ds b (first_same (definition_labels ds) b) r refl q
leads ds no_destination none r p q = let e : no_destination ≡ r = cc in rw (sym e) tt
leads ds (own b) sought r p q = let e : own b ≡ r = cc in rw (sym e) tt
leads ds (defined k) sought r p q = let e : defined k ≡ r = cc in rw (sym e) p

-- ---- what is written of it

there : (ds : List Definition) (k : ℕ) → T (ltb k (length ds)) → (d : Definition) × (get_elem? ds k ≡ some d)
there ds k t = at ds k (ltb→lt k (length ds) t)
  where
    at : (ds : List Definition) (k : ℕ) → k < length ds → (d : Definition) × (get_elem? ds k ≡ some d)
    at [] k h = absurd (omega arith)
    at (d ∷ ds) zero h = (d, refl)
    at (d ∷ ds) (suc k) h = at ds k (omega arith)

destination-written : (o : Options) (image : Bool) (ds : List Definition) (d : Destination) → T (points_to (length ds) d) → Goes (destination_text o image ds d)
destination-written o image ds no_destination p = ([], refl)
destination-written o image ds (own b) p = (url_of o image b, refl)
destination-written o image ds (defined k) p = let d = there ds k p in (or_none d.0.destination (url_of o image), ap (λ (x : Option Definition). need x >>= λ d. go (or_none d.destination (url_of o image))) d.1)

title-written : (ds : List Definition) (d : Destination) (ours : Option (List ℕ)) → T (points_to (length ds) d) → Goes (title_of ds d ours)
title-written ds no_destination ours p = (ours, refl)
title-written ds (own b) ours p = (ours, refl)
title-written ds (defined k) ours p = let d = there ds k p in (d.0.title, ap (λ (x : Option Definition). need x >>= λ d. go d.title) d.1)

label-written : (l : Option (List ℕ)) → T (is_set l) → Goes (need l)
label-written none t = absurd t
label-written (some b) t = (b, refl)

pub written-label : (o : Options) (ds : List Definition) (m : Media) → T (is_set m.label) → Goes (part_text M.label o ds m)
unfolding part_text
written-label o ds m t = label-written m.label t

pub written-destination : (o : Options) (ds : List Definition) (m : Media) → T (points_to (length ds) m.destination) → Goes (part_text M.destination o ds m)
unfolding part_text
written-destination o ds m t = destination-written o m.image ds m.destination t

pub written-title : (o : Options) (ds : List Definition) (m : Media) → T (points_to (length ds) m.destination) → Goes (part_text M.title o ds m)
unfolding part_text
written-title o ds m t = let w = title-written ds m.destination m.title t in (or_none w.0 title_text, ap (λ (x : Outcome (Option (List ℕ))). x >>= λ b. go (or_none b title_text)) w.1)
