-- A title, as the machine and the code show it. Assumes nothing.
use Rattle.std.proofs.Common.{Some, None, ◌≡◌, refl, sym, ap, ◌∙◌, List, [], ℕ, zero, suc, min, ◌+◌, ◌-◌, ◌≤◌, arith, length, get_or}
use Rattle.std.proofs.Math.Option.{Option, none, some}
use Rattle.regions.specs.Sizes.{region_size, held_at, kept_at}
use Rattle.machine.specs.State.{State}
use Rattle.machine.specs.Buffers.{push}
use Rattle.machine.specs.Media.{title, title_text, or_none}
use Rattle.regions.specs.Regions.{region_at}
use Rattle.state_media.specs.declared.Piece.{Piece}
use Rattle.state_media.specs.Links.{PieceIs, TextIs}
use Rattle.state_kept.specs.Kept as Kept
use Rattle.state_kept.specs.Kept.{column, Optional, DefinitionIs}
use Rattle.state_kept.specs.Sizes.{definition_rows}
use Rattle.state_whole.specs.declared.Whole.{Whole}
use Rattle.on_definition.proofs.Seeks.{newest-is, kept-room}
use Rattle.on_media.specs.Private.{WritesPiece, ShowsOwnTitle, ShowsKeptTitle}
use Rattle.on_media.proofs.Writes.{unwritten}

-- ---- its own

title-none : (s : State) (o : Option (List ℕ)) → o ≡ none → push [] s ≡ push (or_none o title_text) s
title-none s o e = ap (λ (x : Option (List ℕ)). push (or_none x title_text) s) (sym e)

title-some : (s : State) (o : Option (List ℕ)) (c : List ℕ) → o ≡ some c → push (title_text c) s ≡ push (or_none o title_text) s
title-some s o c e = ap (λ (x : Option (List ℕ)). push (or_none x title_text) s) (sym e)

unset-none : (region : List ℕ) (end : ℕ) (o : Option (List ℕ)) → TextIs region end None o → o ≡ none
unset-none region end none k = refl
unset-none region end (some c) k = absurd k

is_some : (region : List ℕ) (end : ℕ) (p : Piece) (o : Option (List ℕ)) → TextIs region end (Some p) o → (c : List ℕ) × (o ≡ some c) × PieceIs region end p c
is_some region end p none k = absurd k
is_some region end p (some c) k = (c, refl, k)

module _ {b : Whole} {work out : List ℕ} where
  pub own-unset : b.links.media.title ≡ None → ShowsOwnTitle b work out b work out
  own-unset e = record {
    shows = λ text w s m ms i j a y q.
        let x = (newest-is a y q).title in
        let z = unset-none (region_at held_at w.work) b.links.end m.title (rw e at x) in
        let g : push [] s ≡ push (or_none m.title title_text) s = title-none s m.title z in
        rw (← g) (unwritten i j y);
  }

  pub own-shown : {p : Piece} {r : Whole} {work' out' : List ℕ} → b.links.media.title ≡ Some p → WritesPiece title_text held_at p.place p.length b work out r work' out' → ShowsOwnTitle b work out r work' out'
  own-shown {p} e k = record {
    shows = λ text w s m ms i j a y q.
        let x = (newest-is a y q).title in
        let z = is_some (region_at held_at w.work) b.links.end p m.title (rw e at x) in
        let g : push (title_text z.0) s ≡ push (or_none m.title title_text) s = title-some s m.title z.0 z.1 in
        rw (← g) (k.writes text z.0 w s i j (omega arith) (omega arith) z.2.inside z.2.bytes y);
  }

-- ---- its definition's

zero-none : (region : List ℕ) (end place word : ℕ) (o : Option (List ℕ)) → word ≡ 0 → Optional region end place word o → o ≡ none
zero-none region end place zero none e k = refl
zero-none region end place zero (some c) e k = absurd k
zero-none region end place (suc n) o e k = absurd (omega arith)

more-some : (region : List ℕ) (end place word : ℕ) (o : Option (List ℕ)) → 1 ≤ word → Optional region end place word o → (c : List ℕ) × (o ≡ some c) × Kept.Piece region end place (word - 1) c
more-some region end place zero o h k = absurd (omega arith)
more-some region end place (suc n) none h k = absurd k
more-some region end place (suc n) (some c) h k = let e : suc n - 1 ≡ n = omega arith in (c, refl, rw e k)

module _ {k : ℕ} {b : Whole} {work out definitions : List ℕ} {word : ℕ} (is : word ≡ get_or (column definition_rows 4 definitions) k 0) where
  pub kept-unset : word ≡ 0 → ShowsKeptTitle k b work out definitions b work out
  kept-unset e = record {
    shows = λ text w s d i j f a y q.
        let x = ((y.kept.definitions (kept-room a y)).each k d q).title in
        let region = region_at kept_at w.work in
        let place = get_or (column definition_rows 2 w.tables.definitions) k 0 + get_or (column definition_rows 3 w.tables.definitions) k 0 in
        let n : get_or (column definition_rows 4 w.tables.definitions) k 0 ≡ 0 = ap (λ (l : List ℕ). get_or (column definition_rows 4 l) k 0) f ∙ sym is ∙ e in
        let z = zero-none region b.kept.end place (get_or (column definition_rows 4 w.tables.definitions) k 0) d.title n x in
        let g : push [] s ≡ push (or_none d.title title_text) s = title-none s d.title z in
        rw (← g) (unwritten i j y);
  }

  pub kept-shown : {r : Whole} {work' out' : List ℕ} {place n from skipped : ℕ} → 1 ≤ word → place ≡ get_or (column definition_rows 2 definitions) k 0 → n ≡ get_or (column definition_rows 3 definitions) k 0 → from ≡ min place region_size → skipped ≡ min n region_size
      → WritesPiece title_text kept_at (from + skipped) (word - 1) b work out r work' out' → ShowsKeptTitle k b work out definitions r work' out'
  kept-shown {place = place} {n = n} {from = from} {skipped = skipped} h pl ln fr sk c = record {
    shows = λ text w s d i j f a y q.
        let D : DefinitionIs definitions (region_at kept_at w.work) b.kept.end k d = (let x = (y.kept.definitions (kept-room a y)).each k d q in rw f at x) in
        let x : Optional (region_at kept_at w.work) b.kept.end (place + n) word d.title = rw (is, pl, ln) D.title in
        let below : place + n ≤ b.kept.end = (let l = D.destination.below in rw (pl, ln) l) in
        let room = a.kept in
        let z = more-some (region_at kept_at w.work) b.kept.end (place + n) word d.title h x in
        let e : from + skipped ≡ place + n = omega arith in
        let g : push (title_text z.0) s ≡ push (or_none d.title title_text) s = title-some s d.title z.0 z.1 in
        let l = z.2.below in
        rw (← g) (c.writes text z.0 w s i j (omega arith) (omega arith) (omega arith) (rw e z.2.bytes) y);
  }
