-- The code's own cases. Assumes nothing.
use Rattle.std.proofs.Common.{if◌then◌else◌, ◌≡◌, refl, sym, ◌∙◌, Bool, true, false, not, ◌&&◌, List, ℕ, eq-eqb, ne_eqb, eqb-true, eqb, leb}
use Rattle.event.specs.declared.Event.{Event}
use Rattle.event.specs.Event.{is_enter}
use Rattle.check_fields.specs.Fields.{is_list, table_extra, extra_holds, enter_holds, most_spaces, exit_holds, is_known, fields_hold}

module _ (e : Event) where
  -- ---- an enter

  -- without an extra field it is not a table
  pub of_none : e.extra ≡ 0 → not (eqb e.name 57) ≡ extra_holds e
  unfolding extra_holds table_extra
  of_none h = go (eqb e.name 57) refl
    where
      same : (l : Bool) → true ≡ (if l then true else true)
      same true = refl
      same false = refl

      go : (t : Bool) → eqb e.name 57 ≡ t → not (eqb e.name 57) ≡ extra_holds e
      go true k = let n = eqb-true e.name 57 k in rw (n, h)
      go false k = rw (k, h) (same (is_list e))

  pub of-list : is_list e ≡ true → leb e.extra 1 ≡ extra_holds e
  unfolding extra_holds
  of-list h = rw h

  pub of-table : {t : Bool} → is_list e ≡ false → e.name ≡ 57 → t ≡ table_extra e → t ≡ extra_holds e
  unfolding extra_holds
  of-table h k p = rw (h, eq-eqb e.name 57 k) p

  pub of_other : is_list e ≡ false → (e.name ≡ 57 → ⊥) → eqb e.extra 0 ≡ extra_holds e
  unfolding extra_holds
  of_other h k = rw (h, ne_eqb e.name 57 k)

  -- ---- an exit

  pub of-chunk : e.name ≡ 32 → 3 ≡ most_spaces e
  of-chunk h = rw (eq-eqb e.name 32 h)

  pub no_chunk : (e.name ≡ 32 → ⊥) → 0 ≡ most_spaces e
  no_chunk h = rw (ne_eqb e.name 32 h)

  module _ (text : List ℕ) where
    -- ---- an event

    pub entered : {s t : Bool} → s ≡ is_enter e → s ≡ true → t ≡ enter_holds e → (is_known e && t) ≡ fields_hold text e
    unfolding fields_hold
    entered p h q = rw (sym p ∙ h, q)

    pub exited : {s t : Bool} → s ≡ is_enter e → s ≡ false → t ≡ exit_holds text e → (is_known e && t) ≡ fields_hold text e
    unfolding fields_hold
    exited p h q = rw (sym p ∙ h, q)
