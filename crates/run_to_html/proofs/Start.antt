-- Before the first event. Assumes nothing.
use mathlib.Core.Path.{◌≡◌, refl}
use mathlib.Core.List.{List, []}
use mathlib.Core.Option.{some}
use Prim.Native.Nat.{ℕ, zero-le, ◌+◌, ◌≤◌}
use native.Mathlib.Nat.{not-suc-le-zero}
use native.Mathlib.Omega.{arith}
use lib.ListN.{length, take, drop, length-take, length-drop, get_elem?}
use Rattle.regions.specs.Sizes.{region_size, held_at, work_size}
use Rattle.machine.specs.declared.Fixed.{Fixed}
use Rattle.machine.specs.State.{start}
use Rattle.machine.specs.Totals.{held, kept}
use Rattle.regions.specs.Regions.{region_at}
use Rattle.normalize_identifier.specs.Search as Search
use Rattle.signature.specs.Signed.{Signs}
use Rattle.state_kept.specs.Kept.{nothing_kept, Labels}
use Rattle.state_media.specs.Links.{no_media}
use Rattle.state_context.specs.declared.Context.{Context}
use Rattle.state_context.specs.Rel as Rel
use Rattle.run_to_html.specs.Private.{Begun}

region-long : (base : ℕ) (w : List ℕ) → length w ≡ work_size → base + region_size ≤ work_size → length (region_at base w) ≡ region_size
region-long base w l h = simp (length-take, length-drop) (omega arith)

no-labels : (text from to : List ℕ) → Labels text from to 0 []
unfolding Search.labels_of Search.parts
no-labels text from to = record { places = record { starts-long = zero-le; ends-long = zero-le; ordered = λ k h. absurd (not-suc-le-zero h); inside = λ k h. absurd (not-suc-le-zero h) }; are = refl }

no-signs : (firsts seconds : List ℕ) → Signs firsts seconds []
no-signs firsts seconds = record { signs = λ k h. absurd (not-suc-le-zero h) }

no_row : {A : Type 0} (k : ℕ) (a : A) → get_elem? [] k ≡ some a → ⊥
no_row k a p = let z : ◌≡◌ {A = ℕ} 0 1 = cc in omega arith

pub begun : {fixed : Fixed} {c : Context} → Rel.Begun fixed c → Begun fixed (record { context = c; links = no_media; kept = nothing_kept })
unfolding start held kept
begun k =
    record {
      begun = λ text w l n t. record {
        long = l;
        places = n;
        context = k.begun (take region_size w.work) w.out w.starts;
        links = record { long = region-long held_at w.work l (omega arith); images = record { count = refl; bits = refl; small = omega arith }; others = tt; end = refl; newest = λ h. tt; setext = λ h. tt };
        kept = record {
          long = t;
          end = refl;
          definitions = λ h. record { rows = refl; labels = no-labels text _ _; signed = no-signs _ _; each = λ k d p. absurd (no_row k d p) };
          footnotes = λ h. record { rows = refl; labels = no-labels text _ _; signed = no-signs _ _; each = λ k d p. absurd (no_row k d p) };
          calls = record { rows = refl; labels = no-labels text _ _; signed = no-signs _ _; each = λ k d p. absurd (no_row k d p) };
          labels = record { rows = refl; few = zero-le; each = tt };
        };
      };
    }
