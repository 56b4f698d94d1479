-- Commands on links, images, definitions and footnotes. Assumes nothing.
use mathlib.Core.Path.{◌≡◌, refl}
use mathlib.Core.Bool.{Bool, true}
use mathlib.Core.List.{List, [], ◌∷◌}
use Prim.Native.Nat.{ℕ, ◌+◌, ◌≤◌}
use native.Mathlib.Omega.{arith}
use lib.Dec.{T, eqb, eqb→eq}
use borrow.Author.Tests.{eq-eqb}
use lib.ListN.{length}
use Rattle.machine.specs.Outcome.{go, ◌>>=◌}
use Rattle.machine.specs.State.{State, own, Media}
use Rattle.machine.specs.Set.{set_captures, set_media, set_flag, alt, set_destination}
use Rattle.machine.specs.Turn.{Turn, span_of}
use Rattle.machine.specs.Totals.{size}
use Rattle.machine.specs.Media as M
use Rattle.machine.specs.Media.{new_media, split_media, newest_media, on_newest, Part, with_part, with_id, any_image, leave_alt, label_of, destination_of, seek, part_text, own_of}
use Rattle.machine.specs.Command.{exec}
use Rattle.machine.specs.Words.{open_media, close_media, store, empty_destination, identify, leave_image, seek_definition}
use Rattle.machine_bounded.specs.Within.{of_newest, parts_from, newest_is_bare}
use Rattle.machine_shape.specs.Facts.{media_facts, of_top, points_to, defined?}
use Rattle.machine_shape.specs.Shape.{Say, over, changed, Shape, Rel, idle}
use Rattle.machine_shape.specs.Acts.{with_captures, with_media, turns, newest, popped, down1}
use Rattle.machine_shape.specs.Right.{Right}
use Rattle.machine_shape.proofs.Says.{passed, mean-after}
use Rattle.machine_shape.proofs.Rel.{media-same}
use Rattle.machine_shape.proofs.Done.{Done, done-bind, done-take, done-newest, rel-flags, done-set}
use Rattle.machine_shape.proofs.Media.{media-open, media-gone, label-set, destination-set, title-set, destination-empty, label_id-set, reference_id-set, destination-found, leads}
use Rattle.machine_shape.proofs.Writes.{taken, with-order}

abbrev Top : State → Type 0
Top s = T (of_top (λ m. true) s.media)

-- a fact of the newest medium, once it is known which that is
top : (f : Media → Bool) (s : State) (m : Media) (ms : List Media) → s.media ≡ m ∷ ms → T (of_top f s.media) → T (f m)
top f s m ms e t = rw e at t

module _ (t : Turn) (s : State) where
  pub done-open : (image : Bool) → T (newest_is_bare s.media) → Done (exec (open_media image) t s) (newest_is_bare s.media) (with_media over (turns (0 ∷ 1 ∷ 3 ∷ 4 ∷ 7 ∷ 8 ∷ []) (2 ∷ 5 ∷ 6 ∷ 9 ∷ [])) idle) s
  unfolding exec
  done-open image h = with-order (passed (newest_is_bare s.media) h) (done-set (with_media over (turns (0 ∷ 1 ∷ 3 ∷ 4 ∷ 7 ∷ 8 ∷ []) (2 ∷ 5 ∷ 6 ∷ 9 ∷ [])) idle) s (set_media (new_media image ∷ s.media) s) (media-open image s) refl)

  module _ (h : Top s) where
    pub done-close : Done (exec close_media t s) true popped s
    unfolding exec
    done-close = done-newest true popped s (λ (m, ms). go (set_media ms s)) h (λ m ms e. done-set popped s (set_media ms s) (media-gone s m ms e) refl)

    pub done-leave : Done (exec leave_image t s) true idle s
    unfolding exec leave_alt
    done-leave = done-newest true idle s (λ (m, ms). go (set_flag alt (any_image ms) s)) h (λ m ms e. done-set idle s (set_flag alt (any_image ms) s) (rel-flags _ s) refl)

    on-newest : (x : Shape) (f : Media → Media) → ((m : Media) (ms : List Media) → s.media ≡ m ∷ ms → Rel x s (set_media (f m ∷ ms) s)) → Done (on_newest f s) true x s
    unfolding on_newest
    on-newest x f k = done-newest true x s (λ (m, ms). go (set_media (f m ∷ ms) s)) h (λ m ms e. done-set x s (set_media (f m ∷ ms) s) (k m ms e) refl)

    pub done-empty : T (of_top (λ m. eqb (size (own_of m.destination)) 0) s.media) → Done (exec empty_destination t s) (eqb (of_newest (λ m. size (own_of m.destination)) s.media) 0) (newest (3 ∷ 7 ∷ []) (8 ∷ 9 ∷ [])) s
    unfolding exec
    done-empty q = with-order (order s.media q) (on-newest (newest (3 ∷ 7 ∷ []) (8 ∷ 9 ∷ [])) (set_destination (own [])) (λ m ms e. destination-empty s m ms e))
      where
        order : (ms : List Media) → T (of_top (λ m. eqb (size (own_of m.destination)) 0) ms) → eqb (of_newest (λ m. size (own_of m.destination)) ms) 0 ≡ true
        order [] q = absurd q
        order (m ∷ ms) q = passed (eqb (size (own_of m.destination)) 0) q

    pub done-label-id : Done (exec (identify M.label_id) t s) true (newest (5 ∷ []) (8 ∷ [])) s
    unfolding exec
    done-label-id = on-newest (newest (5 ∷ []) (8 ∷ [])) (with_id M.label_id (span_of t.event)) (λ m ms e. label_id-set s m ms e (span_of t.event))

    pub done-reference-id : Done (exec (identify M.reference_id) t s) true (newest (6 ∷ []) (8 ∷ [])) s
    unfolding exec
    done-reference-id = on-newest (newest (6 ∷ []) (8 ∷ [])) (with_id M.reference_id (span_of t.event)) (λ m ms e. reference_id-set s m ms e (span_of t.event))

    pub done-seek : T (of_top (λ m. points_to (defined? s) m.destination) s.media) → Right seek_definition t s → Done (exec seek_definition t s) true (newest (7 ∷ []) (3 ∷ 8 ∷ 9 ∷ [])) s
    unfolding exec seek Right
    done-seek p r =
        done-newest true (newest (7 ∷ []) (3 ∷ 8 ∷ 9 ∷ [])) s
        (λ (m, ms). label_of t m.reference_id m.label_id >>= λ sought. destination_of s.kept.definitions m.destination sought >>= λ d. on_newest (set_destination d) s) h
        (λ m ms e. let q = r m ms e in
        done-bind true (newest (7 ∷ []) (3 ∷ 8 ∷ 9 ∷ [])) s (label_of t m.reference_id m.label_id) (λ sought. destination_of s.kept.definitions m.destination sought >>= λ d. on_newest (set_destination d) s) q.0 q.1
        (done-bind true (newest (7 ∷ []) (3 ∷ 8 ∷ 9 ∷ [])) s (destination_of s.kept.definitions m.destination q.0) (λ d. on_newest (set_destination d) s) q.2.0 q.2.1
        (on-newest (newest (7 ∷ []) (3 ∷ 8 ∷ 9 ∷ [])) (set_destination q.2.0)
        (λ n ns i. destination-found s n ns i q.2.0 (leads s.kept.definitions m.destination q.0 q.2.0 (top (λ m. points_to (defined? s) m.destination) s m ms e p) q.2.1)))))

    -- a capture is stored
    stored : (part : Part) (xs : List Say) → 1 ≤ length s.captures → ((b : List ℕ) (m : Media) (ms : List Media) → s.media ≡ m ∷ ms → Rel (with_media changed xs idle) s (set_media (with_part part b m ∷ ms) s)) → Done (exec (store part) t s) true (with_captures down1 (with_media changed xs idle)) s
    unfolding exec on_newest newest_media
    stored part xs l k =
        done-take true (with_captures down1 (with_media changed xs idle)) s (λ (b, u). on_newest (with_part part b) u) l
        (λ c cs e. at c cs e s.media refl h)
      where
        at : (c : List ℕ) (cs : List (List ℕ)) → s.captures ≡ c ∷ cs → (ms : List Media) → s.media ≡ ms → T (of_top (λ m. true) ms)
            → Done (split_media ms >>= λ (m, ms). go (set_media (with_part part c m ∷ ms) (set_captures cs s))) true (with_captures down1 (with_media changed xs idle)) s
        at c cs e [] i h = absurd h
        at c cs e (m ∷ ms) i h =
            let r = k c m ms i in
            done-set (with_captures down1 (with_media changed xs idle)) s (set_media (with_part part c m ∷ ms) (set_captures cs s))
            (record { captures = taken s c cs e; tight = r.tight; labels = r.labels; stack = r.stack; defined = r.defined; waits = r.waits; media = mean-after s (set_media (with_part part c m ∷ ms) s) (set_media (with_part part c m ∷ ms) (set_captures cs s)) media_facts xs r.media (media-same (set_media (with_part part c m ∷ ms) s) (set_media (with_part part c m ∷ ms) (set_captures cs s)) refl (omega arith)) }) refl

    module _ (l : 1 ≤ length s.captures) (z : T (of_top (λ m. eqb (size m.title) 0) s.media)) where
      pub done-store-title : Done (exec (store M.title) t s) (eqb (of_newest (parts_from M.title) s.media) 0) (with_captures down1 (newest [] (4 ∷ 8 ∷ 9 ∷ []))) s
      done-store-title = with-order (order s.media z) (stored M.title (turns [] (4 ∷ 8 ∷ 9 ∷ [])) l (λ b m ms e. title-set s m ms e b))
        where
          order : (ms : List Media) → T (of_top (λ m. eqb (size m.title) 0) ms) → eqb (of_newest (parts_from M.title) ms) 0 ≡ true
          order [] z = absurd z
          order (m ∷ ms) z = passed (eqb (size m.title) 0) z

      module _ (y : T (of_top (λ m. eqb (size (own_of m.destination)) 0) s.media)) where
        pub done-store-destination : Done (exec (store M.destination) t s) (eqb (of_newest (parts_from M.destination) s.media) 0) (with_captures down1 (newest (7 ∷ []) (3 ∷ 8 ∷ 9 ∷ []))) s
        done-store-destination = with-order (order s.media z y) (stored M.destination (turns (7 ∷ []) (3 ∷ 8 ∷ 9 ∷ [])) l (λ b m ms e. destination-set s m ms e b))
          where
            order : (ms : List Media) → T (of_top (λ m. eqb (size m.title) 0) ms) → T (of_top (λ m. eqb (size (own_of m.destination)) 0) ms) → eqb (of_newest (parts_from M.destination) ms) 0 ≡ true
            order [] z y = absurd z
            order (m ∷ ms) z y =
                let i = eqb→eq (size m.title) 0 z in
                let j = eqb→eq (size (own_of m.destination)) 0 y in
                eq-eqb (size (own_of m.destination) + size m.title) 0 (omega arith)

        pub done-store-label : T (of_top (λ m. eqb (size m.label) 0) s.media) → Done (exec (store M.label) t s) (eqb (of_newest (parts_from M.label) s.media) 0) (with_captures down1 (newest (2 ∷ []) (1 ∷ 8 ∷ 9 ∷ []))) s
        done-store-label x = with-order (order s.media z y x) (stored M.label (turns (2 ∷ []) (1 ∷ 8 ∷ 9 ∷ [])) l (λ b m ms e. label-set s m ms e b))
          where
            order : (ms : List Media) → T (of_top (λ m. eqb (size m.title) 0) ms) → T (of_top (λ m. eqb (size (own_of m.destination)) 0) ms) → T (of_top (λ m. eqb (size m.label) 0) ms) → eqb (of_newest (parts_from M.label) ms) 0 ≡ true
            order [] z y x = absurd z
            order (m ∷ ms) z y x =
                let i = eqb→eq (size m.title) 0 z in
                let j = eqb→eq (size (own_of m.destination)) 0 y in
                let k = eqb→eq (size m.label) 0 x in
                eq-eqb (size m.label + size (own_of m.destination) + size m.title) 0 (omega arith)
