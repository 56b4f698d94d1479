-- Media opened, closed and known better; what is held for them. Assumes nothing.
use Rattle.std.proofs.Common.{Some, None, ◌≡◌, refl, ap, ◌∙◌, Bool, true, ◌&&◌, ◌||◌, List, [], ◌∷◌, ℕ, suc, ◌≤◌, arith, length}
use Rattle.std.specs.Prelude.{Option as CodeOption}
use Rattle.std.proofs.Math.Option.{Option, none, some}
use Rattle.lent.proofs.Laws.{and_left, and_right}
use Rattle.machine.specs.State as State
use Rattle.machine.specs.State.{State, no_destination, own, defined}
use Rattle.machine.specs.Media.{new_media, any_image}
use Rattle.machine.specs.Totals.{size, media_sizes, held, most_total}
use Rattle.machine_bounded.specs.Within.{is_unset, is_nowhere, is_bare, newest_is_bare}
use Rattle.packed.specs.declared.Tight.{Tight}
use Rattle.packed.specs.Tight.{Tightened, older, any_of, More, Fewer, Newest, Any}
use Rattle.state_media.specs.declared.Piece.{Piece}
use Rattle.state_media.specs.declared.Media.{Media}
use Rattle.state_media.specs.declared.Links.{Links}
use Rattle.state_media.specs.Private.{bare_media, length_of}
use Rattle.state_media.specs.Links.{images_of, bares, OthersBare, NewestIs, MediaIs, TextIs, Opens, Closes, IsImage, AnyOlderImage}

-- ---- bare media

unset-none : {A : Type 0} (a : Option A) → is_unset a ≡ true → a ≡ none
unset-none none p = refl
unset-none (some a) p = let y : ◌≡◌ {A = ℕ} 0 1 = cc in absurd (omega arith)

nowhere-none : (d : State.Destination) → is_nowhere d ≡ true → d ≡ no_destination
nowhere-none no_destination p = refl
nowhere-none (own b) p = let y : ◌≡◌ {A = ℕ} 0 1 = cc in absurd (omega arith)
nowhere-none (defined k) p = let y : ◌≡◌ {A = ℕ} 0 1 = cc in absurd (omega arith)

bare-is : (m : State.Media) → is_bare m ≡ true → m ≡ new_media m.image
bare-is m p =
    let a = is_unset m.label_id in
    let b = is_unset m.label in
    let c = is_unset m.reference_id in
    let d = is_nowhere m.destination in
    let e = is_unset m.title in
    let p1 = and_left (a && b && c && d) e p in
    let p2 = and_left (a && b && c) d p1 in
    let p3 = and_left (a && b) c p2 in
    let q1 = unset-none m.label_id (and_left a b p3) in
    let q2 = unset-none m.label (and_right a b p3) in
    let q3 = unset-none m.reference_id (and_right (a && b) c p2) in
    let q4 = nowhere-none m.destination (and_right (a && b && c) d p1) in
    let q5 = unset-none m.title (and_right (a && b && c && d) e p) in
    known m.image q1 q2 q3 q4 q5
  where
    known : (i : Bool) {a : Option State.Span} {b : Option (List ℕ)} {c : Option State.Span} {d : State.Destination} {e : Option (List ℕ)} → a ≡ none → b ≡ none → c ≡ none → d ≡ no_destination → e ≡ none
        → record { image = i; label_id = a; label = b; reference_id = c; destination = d; title = e } ≡ new_media i
    known i q1 q2 q3 q4 q5 = rw (q1, q2, q3, q4, q5)

all-bare : (ms : List State.Media) → newest_is_bare ms ≡ true → OthersBare ms → ms ≡ bares (images_of ms)
all-bare [] p o = refl
all-bare (m ∷ ms) p o = let q = bare-is m p in cc

others-bare : (ms : List State.Media) → ms ≡ bares (images_of ms) → OthersBare ms
others-bare [] p = tt
others-bare (m ∷ ms) p = cc

-- they hold nothing
bare-sizes : (is : List Bool) → media_sizes (bares is) ≡ 0
bare-sizes [] = refl
bare-sizes (i ∷ is) = let p = bare-sizes is in omega arith

newest-bare : (region : List ℕ) (end : ℕ) (ms : List State.Media) → ms ≡ bares (images_of ms) → NewestIs region end bare_media ms
newest-bare region end [] p = tt
newest-bare region end (m ∷ ms) p =
    let q : m ≡ new_media m.image = cc in
    let r : MediaIs region end bare_media (new_media m.image) = record { label_id = refl; label = tt; reference_id = refl; destination = tt; title = tt } in
    rw q r

images-long : (ms : List State.Media) → length (images_of ms) ≡ length ms
images-long [] = refl
images-long (m ∷ ms) = ap suc (images-long ms)

any-image : (ms : List State.Media) → any_of (images_of ms) ≡ any_image ms
any-image [] = refl
any-image (m ∷ ms) = ap (λ (x : Bool). m.image || x) (any-image ms)

text-size : (region : List ℕ) (end : ℕ) (t : CodeOption Piece) (b : Option (List ℕ)) → TextIs region end t b → length_of t ≡ size b
text-size region end None none x = refl
text-size region end None (some b) x = absurd x
text-size region end (Some p) none x = absurd x
text-size region end (Some p) (some b) x = x.long

-- ---- opened and closed

module _ {l : Links} {y : Tight} where
  pub opens : {image : Bool} {x : Media} → More image l.images y → x ≡ bare_media → Opens image l (record { images = y; media = x; end = l.end; setext = l.setext })
  unfolding held
  opens {image} more e = record {
    opens = λ region s h b k.
        let n = images-long s.media in
        let z = k.end in
        rw e (record {
          long = k.long;
          images = more.more (images_of s.media) (omega arith) k.images;
          others = all-bare s.media b k.others;
          end = omega arith;
          newest = λ f. record { label_id = refl; label = tt; reference_id = refl; destination = tt; title = tt };
          setext = λ f. k.setext (omega arith);
        });
  }

  pub closes : {x : Media} {n : ℕ} → Fewer l.images y → x ≡ bare_media → n ≡ length_of l.setext → Closes l (record { images = y; media = x; end = n; setext = l.setext })
  unfolding held
  closes {x} {n} fewer e i = record {
    closes = λ region s m ms p h k.
        let z = k.end in
        let o : ms ≡ bares (images_of ms) = rw p at k.others in
        let b : media_sizes ms ≡ 0 = (let c = bare-sizes (images_of ms) in rw o c) in
        let f : held s ≤ most_total = omega arith in
        let t = k.setext f in
        let a = text-size region (size s.waiting.setext) l.setext s.waiting.setext t in
        rw e (record {
          long = k.long;
          images = (let g : Tightened y (older (images_of s.media)) = fewer.fewer (images_of s.media) k.images in rw p at g);
          others = others-bare ms o;
          end = omega arith;
          newest = λ q. newest-bare region n ms o;
          setext = λ q. t;
        });
  }

module _ {l : Links} where
  pub image-is : {x : Bool} → Newest l.images x → IsImage l x
  image-is k = record { is = λ region s m ms p r. (let q = k.newest (images_of s.media) r.images in rw p at q) }

  pub older-image : {t : Tight} {x : Bool} → Fewer l.images t → Any t x → AnyOlderImage l x
  older-image f k = record { is = λ region s m ms p r. (let q = k.any (older (images_of s.media)) (f.fewer (images_of s.media) r.images) in (rw p at q) ∙ any-image ms) }
