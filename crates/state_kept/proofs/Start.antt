-- For callers: nothing is kept at the start, what stands for a state stands for one that keeps the same, and a region's piece is one of the work bytes. Assumes nothing.
use Rattle.std.proofs.Common.{◌≡◌, refl, sym, ap, ◌∙◌, List, [], ℕ, ◌+◌, ◌≤◌, arith, take, drop, drop-drop}
use Rattle.regions.specs.Sizes.{region_size}
use Rattle.normalize_identifier.specs.Search.{parts, labels_of}
use Rattle.signature.specs.Signed.{Signs}
use Rattle.regions.specs.Regions.{region_at}
use Rattle.machine.specs.declared.Fixed.{Fixed}
use Rattle.machine.specs.State as Machine
use Rattle.machine.specs.State.{State, start}
use Rattle.machine.specs.Totals.{definition_sizes, footnote_sizes, kept}
use Rattle.state_kept.specs.declared.Kept.{Kept}
use Rattle.state_kept.specs.Kept.{Labels, Piece, Tables, Long, InTables}
use Rattle.state_kept.proofs.Lists.{index-low, part-before}

abbrev pub nothing : Kept
nothing = record { end = 0; definitions = 0; footnotes = 0; calls = 0; labels = 0 }

no-labels : (text from to : List ℕ) → Labels text from to 0 []
unfolding labels_of parts
no-labels text from to = record {
  places = record { starts-long = omega arith; ends-long = omega arith; ordered = λ k h. absurd (omega arith); inside = λ k h. absurd (omega arith) };
  are = refl;
}

no-signs : (firsts seconds : List ℕ) → Signs firsts seconds []
no-signs firsts seconds = record { signs = λ k h. absurd (omega arith) }

pub keeps-start : (fixed : Fixed) (text region : List ℕ) (t : Tables) → Long t → InTables nothing text region t (start fixed)
unfolding start kept
keeps-start fixed text region t h = record {
  long = h;
  end = refl;
  definitions = λ m. record { rows = refl; labels = no-labels text _ _; signed = no-signs _ _; each = λ k d p. absurd (let x = index-low [] k d p in omega arith) };
  footnotes = λ m. record { rows = refl; labels = no-labels text _ _; signed = no-signs _ _; each = λ k f p. absurd (let x = index-low [] k f p in omega arith) };
  calls = record { rows = refl; labels = no-labels text _ _; signed = no-signs _ _; each = λ k c p. absurd (let x = index-low [] k c p in omega arith) };
  labels = record { rows = refl; few = omega arith; each = tt };
}

same_total : (s u : State) → u.kept ≡ s.kept → kept u ≡ kept s
unfolding kept
same_total s u e = ap (λ (x : Machine.Kept). definition_sizes x.definitions + footnote_sizes x.footnotes) e

pub keeps_same : {k : Kept} {text region : List ℕ} {t : Tables} {s : State} (u : State) → u.kept ≡ s.kept → u.labels ≡ s.labels → InTables k text region t s → InTables k text region t u
keeps_same {s = s} u e i h =
    let x = same_total s u e in
    record {
      long = h.long;
      end = rw x h.end;
      definitions = rw (x, e) h.definitions;
      footnotes = rw (x, e) h.footnotes;
      calls = rw e h.calls;
      labels = rw i h.labels;
    }

pub region-piece : {w b : List ℕ} (to : ℕ) {end place n : ℕ} → end ≤ region_size → Piece (region_at to w) end place n b → Piece w (to + region_size) (to + place) n b
region-piece {w} {b} to {end} {place} {n} h p =
    let x = p.below in
    record { long = p.long; below = omega arith; bytes = ap (take n) (sym (drop-drop place to w)) ∙ sym (part-before place n region_size (drop to w) (omega arith)) ∙ p.bytes }
