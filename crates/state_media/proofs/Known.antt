-- What becomes known of the newest medium without a byte. Assumes nothing.
use Rattle.std.proofs.Common.{Some, ◌≡◌, refl, ◌∙◌, List, [], ◌∷◌, ℕ, arith}
use Rattle.machine.specs.State as State
use Rattle.machine.specs.State.{State, no_destination, own, defined}
use Rattle.machine.specs.Set.{set_media, set_label_id, set_reference_id, set_destination}
use Rattle.machine.specs.Media as M
use Rattle.machine.specs.Totals.{held}
use Rattle.machine_bounded.specs.Within.{parts_from}
use Rattle.state_media.specs.declared.Span.{Span}
use Rattle.state_media.specs.declared.Destination.TheVariants as D
use Rattle.state_media.specs.declared.Media.{Media}
use Rattle.state_media.specs.declared.Links.{Links}
use Rattle.state_media.specs.Links.{span_is, MediaIs, Linked, Identifies, Empties, Leads}

abbrev pub with_media : Media → Links → Links
with_media x l = record l { media = x }

renewed : {l : Links} {region : List ℕ} {s : State} (m m' : State.Media) (ms : List State.Media) (x : Media) → s.media ≡ m ∷ ms → m'.image ≡ m.image → parts_from M.label m' ≡ parts_from M.label m
    → (MediaIs region l.end l.media m → MediaIs region l.end x m') → Linked l region s → Linked (with_media x l) region (set_media (m' ∷ ms) s)
unfolding held
renewed m m' ms x p i h f k =
    let z = k.end in
    let y = k.newest in
    record {
      long = k.long;
      images = (let a = k.images in rw i (rw p at a));
      others = (let a = k.others in rw p at a);
      end = (rw p at z) ∙ rw h;
      newest = λ q. f ((rw p at y) (rw h at q));
      setext = λ q. k.setext (rw p (rw h at q));
    }

module _ {l : Links} where
  pub labelled : {p : Span} → Identifies M.label_id p l (with_media (record l.media { label_id = Some p }) l)
  labelled {p} = record {
    identifies = λ region s m ms q k. renewed m (set_label_id (span_is p) m) ms (record l.media { label_id = Some p }) q refl refl (λ y. record { label_id = refl; label = y.label; reference_id = y.reference_id; destination = y.destination; title = y.title }) k;
  }

  pub referred : {p : Span} → Identifies M.reference_id p l (with_media (record l.media { reference_id = Some p }) l)
  referred {p} = record {
    identifies = λ region s m ms q k. renewed m (set_reference_id (span_is p) m) ms (record l.media { reference_id = Some p }) q refl refl (λ y. record { label_id = y.label_id; label = y.label; reference_id = refl; destination = y.destination; title = y.title }) k;
  }

  pub emptied : Empties l (with_media (record l.media { destination = D.Own (record { place = 0; length = 0 }) }) l)
  emptied = record {
    empties = λ region s m ms q z k. renewed m (set_destination (own []) m) ms (record l.media { destination = D.Own (record { place = 0; length = 0 }) }) q refl (omega arith)
        (λ y. record { label_id = y.label_id; label = y.label; reference_id = y.reference_id; destination = record { long = refl; inside = omega arith; below = λ a. omega arith; bytes = refl }; title = y.title }) k;
  }

  pub led : {i : ℕ} → Leads i l (with_media (record l.media { destination = D.Defined i }) l)
  led {i} = record {
    leads = λ region s m ms q z k. renewed m (set_destination (defined i) m) ms (record l.media { destination = D.Defined i }) q refl (rw z)
        (λ y. record { label_id = y.label_id; label = y.label; reference_id = y.reference_id; destination = refl; title = y.title }) k;
  }
