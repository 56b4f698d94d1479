-- A question goes on where its shape does, and tells what it tells. Assumes nothing.
use mathlib.Core.Path.{◌≡◌, refl, ap}
use mathlib.Core.Bool.{Bool, true, false, not, ◌&&◌}
use mathlib.Core.List.{List, [], ◌∷◌}
use mathlib.Core.Option.{Option, none, some}
use Prim.Native.Nat.{ℕ}
use lib.Dec.{T, eqb, leb, ltb}
use lib.ListN.{length, get_or}
use Rattle.event.specs.Event as Event
use Rattle.event.specs.Event.{named}
use Rattle.machine.specs.Outcome.{Outcome, go, ◌>>=◌, need}
use Rattle.machine.specs.State.{State, Media}
use Rattle.machine.specs.Set.{flag_of}
use Rattle.machine.specs.Turn.{Turn, is_after_definition}
use Rattle.machine.specs.Media.{split_media, newest_media}
use Rattle.machine.specs.Test.{Test, is, is_tight, is_in_container, is_image, has_rank, has_seen_data, is_first_fence, is_fenced_once, is_fence_missing, is_first_marker, is_past_columns, is_ordered, is_loose, is_underlined_by_dashes, is_last, is_html_allowed, is_behind_fence, is_behind_definition, is_tight_paragraph, is_empty_item, tight_of, is_empty, has, test}
use Rattle.machine_shape.specs.Facts.{is_set, is_past, is_within, wait_facts, media_facts, of_top}
use Rattle.machine_shape.specs.Shape.{Shape, Rel}
use Rattle.machine_shape.specs.Fits.{known, waits_for, ways, is_sure}
use Rattle.machine_shape.specs.Shape.{lost}
use Rattle.machine_shape.specs.Right.{Asks}
use Rattle.machine_shape.proofs.Says.{both, mean-sure, mean-known}

abbrev Pick : Bool → Bool → Bool → Type 0
Pick r x y = T (elim r [ true ↦ x | false ↦ y ])

pick : (r x y : Bool) → T (x && y) → Pick r x y
pick true x y t = (both x y t).0
pick false x y t = (both x y t).1

-- the answer, and what is known with it
pub record Way (o : Outcome Bool) (f g : Shape → Bool) (b s : State) : Type 0 where
  pub answer : Bool
  pub goes : o ≡ go answer
  pub shape : Shape
  pub rel : Rel shape b s
  pub fine : Pick answer (f shape) (g shape)

module _ (t : Turn) (x : Shape) (f g : Shape → Bool) (b s : State) (h : Rel x b s) where
  -- nothing is asked, and nothing is told
  plain : (r : Bool) → T (f x && g x) → Way (go r) f g b s
  plain r w = record { answer = r; goes = refl; shape = x; rel = h; fine = pick r (f x) (g x) w }

  needed : {A : Type 0} (o : Option A) (q : A → Bool) → T (is_set o) → T (f x && g x) → Way (need o >>= λ a. go (q a)) f g b s
  needed none q i w = absurd i
  needed (some a) q i w = plain (q a) w

  needed-bool : (o : Option Bool) → T (is_set o) → T (f x && g x) → Way (need o) f g b s
  needed-bool none i w = absurd i
  needed-bool (some a) i w = plain a w

  found : {A : Type 0} (o : Option A) (q : A → Bool) → (a : A) × (o ≡ some a) → T (f x && g x) → Way (need o >>= λ a. go (q a)) f g b s
  found o q (a, e) w = record { answer = q a; goes = ap (λ (p : Option _). need p >>= λ a. go (q a)) e; shape = x; rel = h; fine = pick (q a) (f x) (g x) w }

  image : (ms : List Media) → T (of_top (λ m. true) ms) → T (f x && g x) → Way (split_media ms >>= λ (m, ms). go m.image) f g b s
  image [] i w = absurd i
  image (m ∷ ms) i w = plain m.image w

  waits : (k : ℕ) → T (waits_for k x) → T (get_or wait_facts k (λ s. true) s)
  waits k i = mean-sure b s wait_facts x.waits k i h.waits

  rel-known : (k : ℕ) → T (get_or wait_facts k (λ s. true) s) → Rel (known k x) b s
  rel-known k i = record { captures = h.captures; tight = h.tight; labels = h.labels; stack = h.stack; defined = h.defined; waits = mean-known b s wait_facts x.waits k i h.waits; media = h.media }

  ranked : (o : Option ℕ) → s.waiting.rank ≡ o → T (f (known 0 x) && g x) → Way (go (has (λ n. true) o)) f g b s
  ranked none e w = record { answer = false; goes = refl; shape = x; rel = h; fine = (both (f (known 0 x)) (g x) w).1 }
  ranked (some n) e w = record { answer = true; goes = refl; shape = known 0 x; rel = rel-known 0 (rw e tt); fine = (both (f (known 0 x)) (g x) w).0 }

  -- past the columns or not
  module _ (xs : List ℕ) (e : s.table.aligns ≡ some xs) where
    abbrev Past : Bool
    Past = leb (length xs) s.table.column

    is-past : is_past s.table ≡ Past
    is-past = ap (λ (o : Option (List ℕ)). elim o [ none ↦ false | some aligns ↦ leb (length aligns) s.table.column ]) e

    is-within : is_within s.table ≡ not Past
    is-within = ap (λ (o : Option (List ℕ)). elim o [ none ↦ false | some aligns ↦ not (leb (length aligns) s.table.column) ]) e

    cell : (r p q : Bool) → Past ≡ r → waits_for 8 x ≡ p → waits_for 9 x ≡ q → T (elim p [ true ↦ f x | false ↦ elim q [ true ↦ g x | false ↦ f (known 8 x) && g (known 9 x) ] ]) → Way (go r) f g b s
    cell true true q e i j w = record { answer = true; goes = refl; shape = x; rel = h; fine = w }
    cell true false true e i j w = let z : T (is_within s.table) = waits 9 (rw j tt) in absurd (rw (is-within, e) at z)
    cell true false false e i j w = record { answer = true; goes = refl; shape = known 8 x; rel = rel-known 8 (rw (is-past, e) tt); fine = (both (f (known 8 x)) (g (known 9 x)) w).0 }
    cell false true q e i j w = let z : T (is_past s.table) = waits 8 (rw i tt) in absurd (rw (is-past, e) at z)
    cell false false true e i j w = record { answer = false; goes = refl; shape = x; rel = h; fine = w }
    cell false false false e i j w = record { answer = false; goes = refl; shape = known 9 x; rel = rel-known 9 (rw (is-within, e) tt); fine = (both (f (known 8 x)) (g (known 9 x)) w).1 }

  columns : (o : Option (List ℕ)) → s.table.aligns ≡ o → T (is_set o) → T (elim (waits_for 8 x) [ true ↦ f x | false ↦ elim (waits_for 9 x) [ true ↦ g x | false ↦ f (known 8 x) && g (known 9 x) ] ])
      → Way (need o >>= λ aligns. go (leb (length aligns) s.table.column)) f g b s
  columns none e i w = absurd i
  columns (some xs) e i w = cell xs e (leb (length xs) s.table.column) (waits_for 8 x) (waits_for 9 x) refl refl refl w

  pub way : (q : Test) → T (ways q x f g) → Asks q t → Way (test q t s) f g b s
  unfolding ways test Asks newest_media
  way (is flag) w a = plain (flag_of flag s.flags) w
  way is_tight w a = plain (tight_of s.tight) w
  way is_in_container w a = plain (not (is_empty s.tight)) w
  way is_image w a = let p = both (is_sure (get_or x.media 0 lost)) (f x && g x) w in image s.media (mean-sure b s media_facts x.media 0 p.0 h.media) p.1
  way has_rank w a = ranked s.waiting.rank refl w
  way has_seen_data w a = let p = both (waits_for 3 x) (f x && g x) w in needed-bool s.waiting.seen (waits 3 p.0) p.1
  way is_first_fence w a = let p = both (waits_for 4 x) (f x && g x) w in needed s.waiting.fences (λ n. eqb n 0) (waits 4 p.0) p.1
  way is_fenced_once w a = plain (has (eqb 1) s.waiting.fences) w
  way is_fence_missing w a = plain (has (λ n. ltb n 2) s.waiting.fences) w
  way is_first_marker w a = let p = both (waits_for 6 x) (f x && g x) w in needed-bool s.waiting.first (waits 6 p.0) p.1
  way is_past_columns w a =
      let p = both (waits_for 7 x) (elim (waits_for 8 x) [ true ↦ f x | false ↦ elim (waits_for 9 x) [ true ↦ g x | false ↦ f (known 8 x) && g (known 9 x) ] ]) w in
      columns s.table.aligns refl (waits 7 p.0) p.1
  way is_ordered w a = plain (named (21 ∷ []) t.event) w
  way is_loose w a = plain (Event.is_loose t.event) w
  way is_underlined_by_dashes w a = found _ (λ b. eqb b 45) a w
  way is_last w a = plain t.last w
  way is_html_allowed w a = plain t.options.allow_dangerous_html w
  way is_behind_fence w a = found _ (λ e. named (29 ∷ []) e) a w
  way is_behind_definition w a = plain (is_after_definition t.before) w
  way is_tight_paragraph w a = found _ (λ e. tight_of s.tight && named (12 ∷ []) e) a w
  way is_empty_item w a = found _ (λ e. named (24 ∷ []) e) a w
