-- After the last event: the page as it is, or with the footnote section behind it. Assumes nothing.
use mathlib.Core.Path.{◌≡◌, ap, ◌∙◌}
use mathlib.Core.Bool.{Bool, true, false}
use mathlib.Core.List.{List, [], ◌∷◌, ◌++◌}
use mathlib.Core.Option.{Option, none, some}
use Prim.Native.Nat.{ℕ, ◌/◌, ◌≤◌, ◌<◌}
use native.Mathlib.Omega.{arith}
use borrow.Author.Tests.{le-ltb, lt-ltb}
use lib.Dec.{ltb}
use lib.ListN.{length}
use Rattle.machine.specs.State.{State, Call}
use Rattle.machine.specs.Outcome.{go}
use Rattle.machine.specs.Set.{set_page}
use Rattle.machine.specs.Buffers.{push}
use Rattle.machine.specs.Section.{footnote_section}
use Rattle.machine.specs.Test.{is_empty}
use Rattle.machine.specs.Totals.{captured, held, kept, over, most_total}
use Rattle.machine.specs.Run.{page, refused, finish, section_end, run_from}
use Rattle.machine_clean.specs.Section.{Appends}
use Rattle.state_buffers.proofs.Laws.{push-nil}
use Rattle.run_next.specs.Reach.{run}
use Rattle.state_whole.proofs.Over.{Within, none_over}

module _ (events : List ℕ) (room : ℕ) (s : State) where
  pub no-calls : s.kept.calls ≡ [] → run events room [] s ≡ page s.page
  unfolding run_from finish
  no-calls p = rw p

  module _ (c : Call) (cs : List Call) (p : s.kept.calls ≡ c ∷ cs) (u : State) (q : footnote_section s ≡ go u) where
    section-is : run events room [] s ≡ section_end (length events / 20) (over room) (go u)
    unfolding run_from finish
    section-is = ap (λ (x : Bool). elim x [ true ↦ page s.page | false ↦ section_end (length events / 20) (over room) (footnote_section s) ]) (ap is_empty p) ∙ ap (section_end (length events / 20) (over room)) q

    pub with-section : over room u ≡ none → run events room [] s ≡ page u.page
    with-section r = section-is ∙ ap (λ (x : Option ℕ). elim x [ some number ↦ refused number (length events / 20) | none ↦ page u.page ]) r

    pub section-refused : (k : ℕ) → over room u ≡ some k → run events room [] s ≡ refused k (length events / 20)
    section-refused k r = section-is ∙ ap (λ (x : Option ℕ). elim x [ some number ↦ refused number (length events / 20) | none ↦ page u.page ]) r

-- ---- the section grows the page alone

module _ (room : ℕ) (s u : State) (a : Appends s u) (q : s.captures ≡ []) (x : over room s ≡ none) where
  grown : u ≡ set_page (s.page ++ a.text) s
  grown = a.is ∙ push-nil a.text s q

  totals : Within room s
  totals = none_over room s x

  fits-so : (b : List ℕ) → length b ≤ room → over room (set_page b s) ≡ none
  unfolding over captured held kept
  fits-so b h = rw (le-ltb most_total (captured s) totals.captures, le-ltb most_total (held s) totals.held-is, le-ltb most_total (kept s) totals.kept-is, le-ltb room (length b) h)

  fits_not : (b : List ℕ) → room < length b → over room (set_page b s) ≡ some 9
  unfolding over captured held kept
  fits_not b h = rw (le-ltb most_total (captured s) totals.captures, le-ltb most_total (held s) totals.held-is, le-ltb most_total (kept s) totals.kept-is, lt-ltb room (length b) h)

  pub section-fits : length u.page ≤ room → over room u ≡ none
  section-fits h = let e = ap (over room) grown in let l = ap (λ (x : State). length x.page) grown in e ∙ fits-so (s.page ++ a.text) (omega arith)

  pub section-over : room < length u.page → over room u ≡ some 9
  section-over h = let e = ap (over room) grown in let l = ap (λ (x : State). length x.page) grown in e ∙ fits_not (s.page ++ a.text) (omega arith)
