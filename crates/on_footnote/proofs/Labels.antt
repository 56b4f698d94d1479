-- A footnote's label opened. Assumes nothing.
use mathlib.Core.Path.{◌≡◌, refl, sym, ap, ◌∙◌}
use mathlib.Core.Bool.{true}
use mathlib.Core.List.{List, ◌∷◌}
use Prim.Native.Nat.{ℕ, suc, ◌-◌, ◌≤◌}
use native.Mathlib.Omega.{arith}
use lib.ListN.{length}
use Rattle.event.specs.declared.Event.{Event}
use Rattle.machine.specs.State.{State, Span}
use Rattle.machine.specs.Outcome.{go}
use Rattle.machine.specs.Set.{set_labels}
use Rattle.machine.specs.Turn.{span_of}
use Rattle.machine.specs.Command.{exec}
use Rattle.machine.specs.Words.{footnote_label}
use Rattle.machine_bounded.specs.Within.{within}
use Rattle.machine_bounded.proofs.Bounds.{done, fits}
use Rattle.state_kept.specs.declared.Kept.{Kept}
use Rattle.state_kept.specs.Clauses.{OpensLabel}
use Rattle.state_whole.specs.declared.Whole.{Whole}
use Rattle.state_whole.specs.Whole.{Always, with_kept}
use Rattle.state_whole.proofs.Parts.{Alike, rel-alike, linked-same}
use Rattle.state_whole.proofs.Media.{cc-go}
use Rattle.on_footnote.specs.Footnotes.{IsEvent, OnLabels}

alike-labels : (x : List Span) (s : State) → Alike s (set_labels x s)
alike-labels x s = record { page = refl; captures = refl; flags = refl; rank = refl; seen = refl; fences = refl; marker = refl; first = refl; tight = refl; table = refl; fixed = refl }

pub opens-label : {e : Event} {b : Whole} {labels labels' : List ℕ} {k : Kept} → OpensLabel b.kept e.from.0 e.to.0 labels k labels' → OnLabels Always (IsEvent e) footnote_label b labels (with_kept k b) labels'
unfolding within exec
opens-label {e} {b} k = record {
  on-labels = λ text w i. record {
    handles = λ t s u v a y p.
        let d = done true (go (set_labels (span_of t.event ∷ s.labels) s)) u p in
        let q : set_labels (span_of e ∷ s.labels) s ≡ u = ap (λ (x : Event). set_labels (span_of x ∷ s.labels) s) (sym v.event-is) ∙ cc-go d.went in
        let n : suc (length s.labels) ≤ 64 = (fits (set_labels (span_of e ∷ s.labels) s) (rw (← q) at d.fits)).labels in
        let k' = rw (← i) at k in
        rw (← q) (record {
          long = y.long;
          places = y.places;
          context = rel-alike (alike-labels (span_of e ∷ s.labels) s) y.context;
          links = linked-same refl refl y.links;
          kept = k'.opens y.kept (omega arith);
        });
  };
}
