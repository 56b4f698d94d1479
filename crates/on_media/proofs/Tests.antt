-- Questions answered from the whole state, and what is done either way. Assumes nothing.
use mathlib.Core.Path.{◌≡◌, refl, sym, ap, ◌∙◌}
use mathlib.Core.Bool.{Bool, true, false}
use mathlib.Core.List.{List, [], ◌∷◌}
use Prim.Native.Nat.{ℕ}
use lib.ListN.{take}
use Rattle.regions.specs.Sizes.{region_size, held_at}
use Rattle.machine.specs.State as State
use Rattle.machine.specs.State.{State}
use Rattle.machine.specs.Outcome.{Outcome, go, ◌>>=◌}
use Rattle.machine.specs.Set.{alt, set_flag}
use Rattle.machine.specs.Turn.{Turn}
use Rattle.machine.specs.Media.{split_media, newest_media, any_image, leave_alt}
use Rattle.machine.specs.Test.{Test, is, is_image, test}
use Rattle.machine.specs.Command.{Command, nothing, whether, exec}
use Rattle.machine.specs.Words.{set, leave_image}
use Rattle.machine.proofs.Outcomes.{never, first_goes}
use Rattle.machine_bounded.specs.Within.{one, within}
use Rattle.machine_bounded.proofs.Bounds.{done}
use Rattle.regions.specs.Regions.{region_at}
use Rattle.state_context.specs.declared.Context.{Context}
use Rattle.state_context.specs.Rel.{Any, Sets, Tells}
use Rattle.state_media.specs.Links.{IsImage, AnyOlderImage}
use Rattle.state_whole.specs.declared.Whole.{Whole}
use Rattle.state_whole.specs.Whole.{World, Mirrors, Always, Handles, Unlent, OnPage, with_context, with_out, with_work}
use Rattle.state_whole.proofs.Media.{cc-go, newest-there}
use Rattle.on_link.proofs.Lifted.{lifts-sets}
use Rattle.on_media.specs.Parts.{OnShown}

pub record Answers (q : Test) (b : Whole) (x : Bool) : Type 0 where
  pub answers : (text : List ℕ) (w : World) (t : Turn) (s : State) (y : Bool) → Mirrors text b w s → test q t s ≡ go y → y ≡ x

pub alt-known : {b : Whole} {x : Bool} → Tells Any (is alt) b.context x → Answers (is alt) b x
alt-known a = record { answers = λ text w t s y k p. a.tells t (take region_size w.work) w.out w.starts s y (record {}) k.context p }

image-there : (ms : List State.Media) (y : Bool) → (split_media ms >>= λ (m, rs). go m.image) ≡ go y → (m : State.Media) × (rs : List State.Media) × (ms ≡ m ∷ rs) × (m.image ≡ y)
image-there [] y p = never p
image-there (m ∷ rs) y p = let e : m.image ≡ y = cc in (m, rs, refl, e)

pub image-known : {b : Whole} {x : Bool} → IsImage b.links x → Answers is_image b x
unfolding test newest_media
image-known k = record {
  answers = λ text w t s y z p. (let f = image-there s.media y p in sym f.3 ∙ sym (k.is (region_at held_at w.work) s f.0 f.1 f.2 z.links));
}

-- ---- either way

module _ {text : List ℕ} {N : Whole → Type 0} {View : Turn → Type 0} {q : Test} {d e : Command} {b r : Whole} {w w' : World} {x : Bool} where
  yes : Answers q b x → x ≡ true → Handles text N View d b w r w' → Handles text N View (whether q d e) b w r w'
  unfolding within
  yes a h k = record {
    handles = λ t s u v n y p.
        let f = first_goes (test q t s) (elim [ true ↦ within d t s | false ↦ within e t s ]) u p in
        let z : f.0 ≡ true = a.answers text w t s f.0 y f.1 ∙ h in
        k.handles t s u v n y (rw z at f.2);
  }

  no : Answers q b x → x ≡ false → Handles text N View e b w r w' → Handles text N View (whether q d e) b w r w'
  unfolding within
  no a h k = record {
    handles = λ t s u v n y p.
        let f = first_goes (test q t s) (elim [ true ↦ within d t s | false ↦ within e t s ]) u p in
        let z : f.0 ≡ false = a.answers text w t s f.0 y f.1 ∙ h in
        k.handles t s u v n y (rw z at f.2);
  }

idle : {text : List ℕ} {N : Whole → Type 0} {View : Turn → Type 0} {b : Whole} {w : World} {work out : List ℕ} → w.work ≡ work → w.out ≡ out → Handles text N View nothing b w b (with_out out (with_work work w))
unfolding within exec
idle i j = record { handles = λ t s u v a y p. (let q : s ≡ u = cc-go (done true (go s) u p).went in rw (← q, ← i, ← j) y) }

module _ {N : Whole → Type 0} {View : Turn → Type 0} {q : Test} {d e : Command} {b r : Whole} {work out work' out' : List ℕ} {x : Bool} (a : Answers q b x) where
  pub page-yes : x ≡ true → OnPage N View d b work out r work' out' → OnPage N View (whether q d e) b work out r work' out'
  page-yes h k = record { on-page = λ text w i j. yes a h (k.on-page text w i j) }

  pub page-no : x ≡ false → OnPage N View e b work out r work' out' → OnPage N View (whether q d e) b work out r work' out'
  page-no h k = record { on-page = λ text w i j. no a h (k.on-page text w i j) }

  pub shown-no : {definitions : List ℕ} → x ≡ false → OnShown N View e b work out definitions r work' out' → OnShown N View (whether q d e) b work out definitions r work' out'
  shown-no h k = record { on-shown = λ text w i j f. no a h (k.on-shown text w i j f) }

pub page-idle : {N : Whole → Type 0} {View : Turn → Type 0} {b : Whole} {work out : List ℕ} → OnPage N View nothing b work out b work out
page-idle = record { on-page = λ text w i j. idle i j }

pub shown-skipped : {N : Whole → Type 0} {View : Turn → Type 0} {q : Test} {e : Command} {b : Whole} {work out definitions : List ℕ} {x : Bool} → Answers q b x → x ≡ true → OnShown N View (whether q nothing e) b work out definitions b work out
shown-skipped a h = record { on-shown = λ text w i j f. yes a h (idle i j) }

-- ---- whether an image is open around

pub leaves-image : {View : Turn → Type 0} {b : Whole} {x : Bool} {c : Context} → AnyOlderImage b.links x → Sets (set alt x) b.context c → Unlent Always View leave_image b (with_context c b)
unfolding within exec leave_alt
leaves-image {View} {b} {x} {c} k l = record {
  unlent = λ text w. record {
    handles = λ t s u v a y p.
        let g = done true (leave_alt s) u p in
        let f = newest-there s u (λ (m, ms). go (set_flag alt (any_image ms) s)) g.went in
        let e = k.is (region_at held_at w.work) s f.0 f.1 f.2 y.links in
        let q : leave_alt s ≡ go (set_flag alt x s) = g.went ∙ sym f.3 ∙ ap (λ (z : Bool). go (set_flag alt z s)) (sym e) in
        ((lifts-sets {View = View} refl l).unlent text w).handles t s u v tt y (ap (λ (o : Outcome State). one true o) (sym q) ∙ p);
  };
}
