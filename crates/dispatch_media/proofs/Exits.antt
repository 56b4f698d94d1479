-- An arm by the kind of its handler's contract, and a group's promise as the whole's. Assumes nothing.
use mathlib.Core.Path.{◌≡◌, refl}
use mathlib.Core.Bool.{false}
use mathlib.Core.List.{List}
use Prim.Native.Nat.{ℕ, ◌≤◌}
use Rattle.event.specs.declared.Event.{Event}
use Rattle.machine.specs.declared.Options.{Options}
use Rattle.machine.specs.Command.{Command}
use Rattle.state_context.specs.Rel.{Any, Sees}
use Rattle.state_kept.specs.Kept.{Tables, tables}
use Rattle.state_whole.specs.declared.Whole.{Whole}
use Rattle.state_whole.specs.Whole.{Always, Held, Roomy, Unlent, FromStarts, OnWork, OnPage}
use Rattle.on_link.specs.Links.{Handled}
use Rattle.on_definition.specs.Definitions.{Known, OnDefinitions}
use Rattle.on_media.specs.Media.{ReadsBy, OnMedia}
use Rattle.on_footnote.specs.Footnotes.{IsEvent, OnLabels, OnFootnotes, OnCalls}
use Rattle.dispatch_turns.specs.Loud.{world, Shows, Acts}
use Rattle.dispatch_turns.proofs.Arms.{handler_at}
use Rattle.dispatch_turns.proofs.Loud.{acting}
use Rattle.dispatch_media.specs.Exits.{ExitsWhole, ExitsSetext, ExitsMedia, ExitsFootnote}

module _ {lo hi : ℕ} {text work out starts : List ℕ} {o : Options} {e : Event} {d : Command} {b r : Whole} (n : ℕ) (p : e.name ≡ n) (q : handler_at false n ≡ d) where
  module _ {t : Tables} where
    pub by-unlent : Unlent Always (Handled e) d b r → Acts false lo hi text (Shows text o e) e b (world work out starts t) r (world work out starts t)
    by-unlent k = acting n p q (λ a. tt) (λ t v. record { event-is = v.event-is }) (k.unlent text (world work out starts t))

    pub by-starts : FromStarts Roomy (Handled e) d b starts r → Acts false lo hi text (Shows text o e) e b (world work out starts t) r (world work out starts t)
    by-starts k = acting n p q (λ a. a.roomy) (λ t v. record { event-is = v.event-is }) (k.from-starts text (world work out starts t) refl)

    pub by-work : {work' : List ℕ} → OnWork Roomy Any d b work starts r work' → Acts false lo hi text (Shows text o e) e b (world work out starts t) r (world work' out starts t)
    by-work k = acting n p q (λ a. a.roomy) (λ t v. record {}) (k.on-work text (world work out starts t) refl refl)

    pub by-page : {work' out' : List ℕ} → OnPage Held (Sees text e) d b work out r work' out' → Acts false lo hi text (Shows text o e) e b (world work out starts t) r (world work' out' starts t)
    by-page k = acting n p q (λ a. a.roomy.held) (λ t v. record { text-is = v.text-is; event-is = v.event-is }) (k.on-page text (world work out starts t) refl refl)

  module _ {definitions footnotes calls labels : List ℕ} where
    pub by-media : {work' out' : List ℕ} → OnMedia Known (ReadsBy text o) d b text work out definitions r work' out'
        → Acts false lo hi text (Shows text o e) e b (world work out starts (tables definitions footnotes calls labels)) r (world work' out' starts (tables definitions footnotes calls labels))
    by-media k =
        acting n p q (λ a. record { held = a.roomy.held; kept = a.kept }) (λ t v. record { reads = record { text-is = v.text-is }; chooses = record { options-is = v.options-are } })
        (k.on-media (world work out starts (tables definitions footnotes calls labels)) refl refl refl)

    pub by-definitions : {work' definitions' : List ℕ} → OnDefinitions Roomy d b text work starts definitions r work' definitions'
        → Acts false lo hi text (Shows text o e) e b (world work out starts (tables definitions footnotes calls labels)) r (world work' out starts (tables definitions' footnotes calls labels))
    by-definitions k = acting n p q (λ a. a.roomy) (λ t v. record { text-is = v.text-is }) (k.on-definitions (world work out starts (tables definitions footnotes calls labels)) refl refl refl)

    pub by-calls : {work' out' calls' : List ℕ} → OnCalls Held d b text work out calls r work' out' calls'
        → Acts false lo hi text (Shows text o e) e b (world work out starts (tables definitions footnotes calls labels)) r (world work' out' starts (tables definitions footnotes calls' labels))
    by-calls k = acting n p q (λ a. a.roomy.held) (λ t v. record { text-is = v.text-is }) (k.on-calls (world work out starts (tables definitions footnotes calls labels)) refl refl refl)

    pub by-footnotes : {work' footnotes' : List ℕ} → OnFootnotes Roomy d b text work starts footnotes labels r work' footnotes'
        → Acts false lo hi text (Shows text o e) e b (world work out starts (tables definitions footnotes calls labels)) r (world work' out starts (tables definitions footnotes' calls labels))
    by-footnotes k = acting n p q (λ a. a.roomy) (λ t v. record { text-is = v.text-is }) (k.on-footnotes (world work out starts (tables definitions footnotes calls labels)) refl refl refl refl)

    pub by-labels : {labels' : List ℕ} → OnLabels Always (IsEvent e) d b labels r labels'
        → Acts false lo hi text (Shows text o e) e b (world work out starts (tables definitions footnotes calls labels)) r (world work out starts (tables definitions footnotes calls labels'))
    by-labels k = acting n p q (λ a. tt) (λ t v. record { event-is = v.event-is }) (k.on-labels text (world work out starts (tables definitions footnotes calls labels)) refl)

-- ---- by groups of names

module _ {text work out starts : List ℕ} {e : Event} {o : Options} {b r : Whole} {definitions footnotes calls labels work' out' : List ℕ} where
  pub from-setext : e.name ≤ 44 → ExitsSetext text e b work starts out r work' out' → ExitsWhole text e o b work starts out (tables definitions footnotes calls labels) r work' out' (tables definitions footnotes calls labels)
  from-setext h k = record { exits = record { acts = λ x a c l. (k.exits o (tables definitions footnotes calls labels)).acts x a h l } }

  pub from-media : {definitions' : List ℕ} → 45 ≤ e.name → e.name ≤ 56 → ExitsMedia text e o b work starts out definitions r work' out' definitions' → ExitsWhole text e o b work starts out (tables definitions footnotes calls labels) r work' out' (tables definitions' footnotes calls labels)
  from-media g h k = record { exits = record { acts = λ x a c l. (k.exits footnotes calls labels).acts x g h l } }

  pub from-footnote : {footnotes' calls' labels' : List ℕ} → 57 ≤ e.name → ExitsFootnote text e b work starts out footnotes calls labels r work' out' footnotes' calls' labels' → ExitsWhole text e o b work starts out (tables definitions footnotes calls labels) r work' out' (tables definitions footnotes' calls' labels')
  from-footnote g k = record { exits = record { acts = λ x a c l. (k.exits o definitions).acts x g c l } }
