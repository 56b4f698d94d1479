-- The footnote section goes on where every call has a footnote, and only writes. Assumes nothing.
use mathlib.Core.Path.{◌≡◌}
use mathlib.Core.List.{List}
use Prim.Native.Nat.{ℕ, zero, suc}
use Prim.Native.String.{String}
use lib.Dec.{ltb}
use Rattle.utf8.specs.Utf8.{is_utf8, after_first}
use Rattle.machine.specs.Outcome.{go}
use Rattle.machine.specs.State.{State, Call}
use Rattle.machine.specs.Section.{body_of, arrow, sup_text, backreference, backreferences, footnote_item, footnote_items, footnote_section}
use Rattle.machine_clean.specs.Clean.{Valid, All, empty, more, CleanCall, Clean}
use Rattle.machine_clean.specs.Section.{Appends, Called}
use Rattle.machine_clean.proofs.Valid.{valid, none-valid, joined, text}
use Rattle.machine_clean.proofs.Texts.{either, decimal-valid, again-valid}
use Rattle.machine_clean.proofs.Urls.{address-valid}
use Rattle.machine_clean.proofs.Safe.{Ends, goes, chain, result, surely}
use Rattle.machine_clean.proofs.Appends.{wholly, behind, behind-text, behind-line, behind-line-if, same_kept}
use Rattle.machine_clean.proofs.Bodies.{sure-body, safe-body, body-behind}

-- ---- backreferences

arrow-valid : Valid arrow
unfolding is_utf8 after_first
arrow-valid = valid arrow tt

sup-valid : (n : ℕ) → Valid (sup_text n)
sup-valid n = either (ltb 1 n) (joined (joined (text "<sup>" tt) (decimal-valid n)) (text "</sup>" tt)) none-valid

back-valid : {address : List ℕ} (n : ℕ) → Valid address → Valid (backreference address n)
unfolding backreference
back-valid n v =
    joined (joined (joined (joined (joined (joined (text "<a href=\"#user-content-fnref-" tt) v) (again-valid n))
    (text "\" data-footnote-backref=\"\" aria-label=\"Back to content\" class=\"data-footnote-backref\">" tt)) arrow-valid) (sup-valid n)) (text "</a>" tt)

backs-valid : {address : List ℕ} (n : ℕ) → Valid address → Valid (backreferences address n)
unfolding backreferences
backs-valid zero v = none-valid
backs-valid (suc zero) v = back-valid 1 v
backs-valid (suc (suc n)) v = joined (joined (backs-valid (suc n) v) (text " " tt)) (back-valid (suc (suc n)) v)

-- ---- the items

-- s is the state before the section
module _ (Why : Type 0) (s : State) where
  -- the call's body is found, or there is a reason why not
  abbrev Found : Call → Type 0
  Found c = Ends Why Valid (body_of c.label s.kept.footnotes)

  item : {u : State} {c : Call} → Appends s u → CleanCall c → Found c → Ends Why (Appends s) (footnote_item c u)
  unfolding footnote_item
  item {u} {c} a p f =
      let k : Ends Why Valid (body_of c.label u.kept.footnotes) = rw (same_kept a) f in
      let v = address-valid u.fixed.apostrophes p.label in
      let b = behind-line (behind-text (behind (behind-text (behind-line a) "<li id=\"user-content-fn-" tt) v) "\">" tt) in
      chain _ k (λ body w. chain _ (body-behind b w (backs-valid c.times v)) (λ x d. goes (behind-text (behind-line-if d) "</li>" tt)))

  items : {u : State} {cs : List Call} → Appends s u → All CleanCall cs → All Found cs → Ends Why (Appends s) (footnote_items cs u)
  unfolding footnote_items
  items a empty empty = goes a
  items a (more p ps) (more f fs) = chain _ (item a p f) (λ x d. items d ps fs)

  section : Clean s → All Found s.kept.calls → Ends Why (Appends s) (footnote_section s)
  unfolding footnote_section
  section c f =
      let heading : String = "<section data-footnotes=\"\" class=\"footnotes\"><h2 id=\"footnote-label\" class=\"sr-only\">Footnotes</h2>" in
      let a = behind-text (behind-line (behind-text (behind-line-if (wholly s)) heading tt)) "<ol>" tt in
      chain _ (items a c.kept.calls f) (λ u d. goes (behind-line (behind-text (behind-line (behind-text (behind-line d) "</ol>" tt)) "</section>" tt)))

each : {A : Type 0} {P Q : A → Type 0} {l : List A} → ((a : A) → P a → Q a) → All P l → All Q l
each k empty = empty
each k (more {a} p q) = more (k a p) (each k q)

-- where every call has a footnote it goes on
pub section-goes : (s : State) → Clean s → Called s → (u : State) × (footnote_section s ≡ go u) × Appends s u
section-goes s c n = surely (section ⊥ s c (each (λ a m. sure-body c.kept.footnotes m) n))

-- and wherever it goes on, it has only written
pub section-appends : (s u : State) → Clean s → footnote_section s ≡ go u → Appends s u
section-appends s u c e = result (Appends s) u (section (Unit {0}) s c (each (λ a m. safe-body a c.kept.footnotes) c.kept.calls)) e
