-- Which blocks hold a byte that becomes something else: markup, or an apostrophe where those are escaped. Assumes nothing.
use Rattle.std.proofs.Common.{◌≡◌, refl, sym, ◌∙◌, Bool, true, false, ◌&&◌, ◌||◌, List, [], ◌∷◌, ℕ}
use mathlib.Core.Bool.{or-true}
use Rattle.lent.specs.Bytes.{any}
use Rattle.encode_byte.specs.declared.Escaping.{Escaping}
use Rattle.encode_byte.specs.Byte.{escapes_html, escapes_apostrophes}
use Rattle.encode_byte.specs.Private.{is_markup, is_apostrophe, is_special}

any-either : (f g : ℕ → Bool) (l : List ℕ) → any (λ b. f b || g b) l ≡ (any f l || any g l)
any-either f g [] = refl
any-either f g (b ∷ l) = on (f b) (g b) (any-either f g l)
  where
    on : (x y : Bool) → any (λ b. f b || g b) l ≡ (any f l || any g l) → ((x || y) || any (λ b. f b || g b) l) ≡ ((x || any f l) || (y || any g l))
    on true y h = refl
    on false true h = rw or-true
    on false false h = h

any_none : (l : List ℕ) → any (λ b. false) l ≡ false
any_none [] = refl
any_none (b ∷ l) = any_none l

-- an apostrophe counts where it is escaped
asked : (x : Bool) (l : List ℕ) → any (λ b. x && is_apostrophe b) l ≡ (x && any is_apostrophe l)
asked true l = refl
asked false l = any_none l

module _ (on : Escaping) (l : List ℕ) {html x : Bool} (h : html ≡ escapes_html on) (p : x ≡ any (is_markup html) l) where
  special : any (is_special on) l ≡ (x || (escapes_apostrophes on && any is_apostrophe l))
  special = any-either (is_markup (escapes_html on)) (λ b. escapes_apostrophes on && is_apostrophe b) l ∙ rw (asked (escapes_apostrophes on) l, p, h)

  pub by-markup : x ≡ true → true ≡ any (is_special on) l
  by-markup q = sym (special ∙ rw q)

  module _ {y : Bool} (r : y ≡ escapes_apostrophes on) (q : x ≡ false) where
    pub by-apostrophe : {z : Bool} → y ≡ true → z ≡ any is_apostrophe l → z ≡ any (is_special on) l
    by-apostrophe s t = sym (special ∙ rw (q, ← r, s, ← t))
