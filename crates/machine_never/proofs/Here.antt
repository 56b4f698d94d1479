-- What the checker's rules say at a place of the list. Assumes nothing.
use mathlib.Core.Path.{◌≡◌, refl, sym, ap}
use mathlib.Core.Bool.{Bool, true, false}
use mathlib.Core.List.{List, [], ◌∷◌}
use Prim.Native.Nat.{ℕ, zero, suc, ◌/◌, ◌≤◌, ◌<◌}
use native.Mathlib.Omega.{arith}
use lib.Dec.{T, leb}
use borrow.Author.Tests.{le-leb, leb-true, leb-false, eqb-false}
use lib.ListN.{length, drop}
use Rattle.utf8.specs.Utf8.{is_utf8}
use Rattle.utf8.proofs.Laws.{part}
use Rattle.utf8.proofs.Characters.{characters}
use Rattle.event.specs.declared.Event.{Event}
use Rattle.event.specs.Event.{is_enter, event_at, events_of}
use Rattle.event.proofs.Laws.{events-next, events-end}
use Rattle.check_fields.specs.Rules.{FieldsMeet, ExitMeets}
use Rattle.check_rules.specs.Elements.{Forest, nil, element, list_of}
use Rattle.check_rules.specs.Rules.{Meets, SliceMeets}
use Rattle.machine.specs.Outcome.{go}
use Rattle.machine.specs.Turn.{span_of, slice_of, as_str, str_of}
use Rattle.machine_shape.specs.Pass.{placed, behind}
use Rattle.machine_shape.proofs.Says.{passed}
use Rattle.machine_never.specs.Values.{text_of}
use Rattle.machine_never.specs.Here.{unwind, Here}

-- ---- places

drop-next : {A : Type 0} (n : ℕ) (xs : List A) (x : A) (ys : List A) → drop n xs ≡ x ∷ ys → drop (suc n) xs ≡ ys
drop-next zero [] x ys h = let z : ◌≡◌ {A = ℕ} 0 1 = cc in absurd (omega arith)
drop-next zero (y ∷ xs) x ys h = cc
drop-next (suc n) [] x ys h = let z : ◌≡◌ {A = ℕ} 0 1 = cc in absurd (omega arith)
drop-next (suc n) (y ∷ xs) x ys h = drop-next n xs x ys h

drop-unwind : (before es : List Event) → drop (length before) (unwind before es) ≡ es
drop-unwind [] es = refl
drop-unwind (e ∷ before) es = drop-next (length before) (unwind before (e ∷ es)) e es (drop-unwind before (e ∷ es))

pub here-next : {whole : List Event} (p : ℕ) (before : List Event) (e : Event) (es : List Event) → Here whole p before (e ∷ es) → Here whole (suc p) (e ∷ before) es
here-next p before e es h = record { long = ap suc h.long; same = h.same }

pub here-over : {whole : List Event} (f : Forest) (p : ℕ) (before es : List Event) → Here whole p before (list_of f es) → Here whole (placed f p) (behind f before) es
here-over nil p before es h = h
here-over (element a f z g) p before es h =
    here-over g (suc (placed f (suc p))) (z ∷ behind f (a ∷ before)) es (here-next (placed f (suc p)) (behind f (a ∷ before)) z (list_of g es) (here-over f (suc p) (a ∷ before) (z ∷ list_of g es) (here-next p before a (list_of f (z ∷ list_of g es)) h)))

pub dropped : {whole : List Event} (p : ℕ) (before es : List Event) → Here whole p before es → drop p whole ≡ es
dropped p before es h = rw (sym h.same, sym h.long) (drop-unwind before es)

-- ---- the event there

module _ (text events : List ℕ) (meets : Meets text events) where
  module _ (p : ℕ) (before : List Event) (e : Event) (es : List Event) (h : Here (events_of events) p before (e ∷ es)) where
    pub there : p < length events / 20
    there = at (leb (length events / 20) p) refl
      where
        at : (x : Bool) → leb (length events / 20) p ≡ x → p < length events / 20
        at false q = leb-false (length events / 20) p q
        at true q = let z = events-end events p (leb-true (length events / 20) p q) in let d = dropped p before (e ∷ es) h in let u : ◌≡◌ {A = ℕ} 0 1 = cc in absurd (omega arith)

    pub is_at : event_at events p ≡ e
    is_at = let n = events-next events p there in let d = dropped p before (e ∷ es) h in cc

    pub fields-there : FieldsMeet text e
    fields-there = rw is_at at (meets.fields p there)

    pub slices-there : SliceMeets events text p
    slices-there = meets.slices p there

    pub exit-there : is_enter e ≡ false → ExitMeets text e
    exit-there x = let f = fields-there in let n = eqb-false e.kind 0 x in f.exit (one e.kind f.kind n)
      where
        one : (k : ℕ) → k ≤ 1 → (k ≡ 0 → ⊥) → k ≡ 1
        one zero l n = absurd (n refl)
        one (suc k) l n = omega arith

    text-utf8 : T (is_utf8 text)
    text-utf8 = (characters text).1 meets.characters

    pub own-slice : is_enter e ≡ false → slice_of text (span_of e) ≡ go (text_of text (span_of e))
    unfolding slice_of
    own-slice x = let f = exit-there x in rw (le-leb e.from.0 e.to.0 f.ordered, le-leb e.to.0 (length text) f.within) refl

    pub own-str : is_enter e ≡ false → str_of text (span_of e) ≡ go (text_of text (span_of e))
    unfolding str_of as_str
    own-str x =
        let f = exit-there x in
        let u : is_utf8 (text_of text (span_of e)) ≡ true = passed (is_utf8 (text_of text (span_of e))) (part text text-utf8 e.from.0 e.to.0 f.from f.to) in
        rw (own-slice x, u) refl
