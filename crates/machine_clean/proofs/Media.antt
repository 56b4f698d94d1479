-- Links, images and definitions: what is held of them, where they lead, what is written and kept. Assumes nothing.
use Rattle.std.proofs.Common.{Some, None}
use mathlib.Core.Path.{refl}
use mathlib.Core.Bool.{Bool}
use mathlib.Core.List.{List, [], ◌∷◌, ◌++◌}
use mathlib.Core.Option.{Option, none, some}
use Prim.Native.Nat.{ℕ}
use Rattle.normalize_identifier.specs.Search.{Found, first_same}
use Rattle.machine.specs.declared.Options.{Options}
use Rattle.machine.specs.Outcome.{go, need}
use Rattle.machine.specs.State.{State, Span, Destination, Media, Definition}
use Rattle.machine.specs.Set.{set_media, set_destination, set_flag, alt, add_definition}
use Rattle.machine.specs.Turn.{Turn, url_of}
use Rattle.machine.specs.Media.{new_media, split_media, newest_media, on_newest, Part, label, destination, title, with_part, Id, label_id, reference_id, with_id, any_image, leave_alt, definition_labels, label_of, defined_at, destination_of, seek, or_none, title_text, destination_text, title_of, part_text, own_of, define}
use Rattle.machine_clean.specs.Clean.{Valid, All, empty, more, Maybe, missing, there, CleanDestination, nowhere, ours, theirs, CleanMedia, CleanDefinition, Clean}
use Rattle.machine_clean.proofs.Valid.{none-valid, joined, text}
use Rattle.machine_clean.proofs.Urls.{url-valid}
use Rattle.machine_clean.proofs.Safe.{Safe, stops, goes, chain, any, needed, at, sliced}
use Rattle.machine_clean.proofs.Pushed.{alike}

pub all-joined : {A : Type 0} {P : A → Type 0} {a : A} {l : List A} → All P l → P a → All P (l ++ (a ∷ []))
all-joined empty p = more p empty
all-joined (more q r) p = more q (all-joined r p)

-- ---- the newest medium

pub with-media : {s : State} (ms : List Media) → Clean s → All CleanMedia ms → Clean (set_media ms s)
with-media ms c a = record { page = c.page; captures = c.captures; media = a; setext = c.setext; kept = c.kept }

pub newest : {s : State} → Clean s → Safe (λ (m, ms). CleanMedia m × All CleanMedia ms) (newest_media s)
unfolding newest_media
newest {s} c = on s.media c.media
  where
    on : (ms : List Media) → All CleanMedia ms → Safe (λ (m, ms). CleanMedia m × All CleanMedia ms) (split_media ms)
    on [] empty = stops
    on (m ∷ ms) (more p q) = goes (p, q)

pub changed : {s : State} (f : Media → Media) → Clean s → ((m : Media) → CleanMedia m → CleanMedia (f m)) → Safe Clean (on_newest f s)
unfolding on_newest
changed {s} f c k = chain (λ (m, ms). go (set_media (f m ∷ ms) s)) (newest c) (λ (m, ms) (p, q). goes (with-media (f m ∷ ms) c (more (k m p) q)))

pub new-clean : (image : Bool) → CleanMedia (new_media image)
new-clean image = record { label = missing; destination = nowhere; title = missing }

pub part-clean : (part : Part) {b : List ℕ} → Valid b → (m : Media) → CleanMedia m → CleanMedia (with_part part b m)
part-clean label v m c = record { label = there v; destination = c.destination; title = c.title }
part-clean destination v m c = record { label = c.label; destination = ours v; title = c.title }
part-clean title v m c = record { label = c.label; destination = c.destination; title = there v }

pub id-clean : (id : Id) (p : Span) (m : Media) → CleanMedia m → CleanMedia (with_id id p m)
id-clean label_id p m c = record { label = c.label; destination = c.destination; title = c.title }
id-clean reference_id p m c = record { label = c.label; destination = c.destination; title = c.title }

pub leads : (d : Destination) → CleanDestination d → (m : Media) → CleanMedia m → CleanMedia (set_destination d m)
leads d p m c = record { label = c.label; destination = p; title = c.title }

pub left : {s : State} → Clean s → Safe Clean (leave_alt s)
unfolding leave_alt
left {s} c = chain (λ (m, ms). go (set_flag alt (any_image ms) s)) (newest c) (λ (m, ms) p. goes (alike (set_flag alt (any_image ms) s) c refl))

-- ---- where it leads

found-clean : (f : Found) → Safe CleanDestination (defined_at f)
found-clean (Some k) = goes theirs
found-clean None = stops

destination-clean : (ds : List Definition) {d : Destination} → CleanDestination d → (b : Option (List ℕ)) → Safe CleanDestination (destination_of ds d b)
destination-clean ds nowhere (some b) = found-clean (first_same (definition_labels ds) b)
destination-clean ds nowhere none = goes nowhere
destination-clean ds (ours v) b = goes (ours v)
destination-clean ds theirs b = goes theirs

pub sought : (t : Turn) {s : State} → Clean s → Safe Clean (seek t s)
unfolding seek
sought t {s} c =
    chain _ (newest c) (λ (m, ms) (p, q).
    chain _ (any (label_of t m.reference_id m.label_id)) (λ b _.
    chain _ (destination-clean s.kept.definitions p.destination b) (λ d r. changed (set_destination d) c (leads d r))))

-- ---- what is written

or-none : {o : Option (List ℕ)} (f : List ℕ → List ℕ) → Maybe o → ((b : List ℕ) → Valid b → Valid (f b)) → Valid (or_none o f)
or-none f missing k = none-valid
or-none f (there {b} v) k = k b v

destination-text : (o : Options) (image : Bool) {ds : List Definition} {d : Destination} → All CleanDefinition ds → CleanDestination d → Safe Valid (destination_text o image ds d)
destination-text o image a nowhere = goes none-valid
destination-text o image a (ours v) = goes (url-valid o image v)
destination-text o image a (theirs {k}) = chain _ (at a k) (λ d c. goes (or-none (url_of o image) c.destination (λ b v. url-valid o image v)))

title-clean : {ds : List Definition} {d : Destination} {ours : Option (List ℕ)} → All CleanDefinition ds → CleanDestination d → Maybe ours → Safe Maybe (title_of ds d ours)
title-clean a nowhere p = goes p
title-clean a (ours v) p = goes p
title-clean a (theirs {k}) p = chain _ (at a k) (λ d c. goes c.title)

title-text : (b : List ℕ) → Valid b → Valid (title_text b)
title-text b v = joined (joined (text " title=\"" tt) v) (text "\"" tt)

pub shown : (part : Part) (o : Options) {ds : List Definition} {m : Media} → All CleanDefinition ds → CleanMedia m → Safe Valid (part_text part o ds m)
unfolding part_text
shown label o a c = needed c.label
shown destination o {m = m} a c = destination-text o m.image a c.destination
shown title o a c = chain _ (title-clean a c.destination c.title) (λ b p. goes (or-none title_text p title-text))

-- ---- definitions

own-clean : {d : Destination} → CleanDestination d → Maybe (own_of d)
own-clean nowhere = missing
own-clean (ours v) = there v
own-clean theirs = missing

with-definition : {s : State} (d : Definition) → Clean s → CleanDefinition d → Clean (add_definition d s)
with-definition d c p = record {
  page = c.page;
  captures = c.captures;
  media = c.media;
  setext = c.setext;
  kept = record { definitions = all-joined c.kept.definitions p; footnotes = c.kept.footnotes; calls = c.kept.calls };
}

pub defines : (t : Turn) {s : State} → Clean s → Safe Clean (define t s)
unfolding define
defines t {s} c =
    chain _ (newest c) (λ (m, ms) (p, q).
    chain _ (any (need m.reference_id)) (λ r _.
    chain _ (sliced t.text r) (λ b v.
    goes (with-definition _ (with-media ms c q) (record { label = v; destination = own-clean p.destination; title = p.title })))))
