-- Line endings: what the last byte of the newest buffer says of the machine's. Assumes nothing.
use Rattle.std.specs.Prelude.{if◌then◌else◌}
use mathlib.Core.Path.{◌≡◌, refl, sym, ap, ◌∙◌}
use mathlib.Core.Bool.{Bool, true, false, true≢false, ◌||◌}
use mathlib.Core.List.{List, [], ◌∷◌, ◌++◌, append_assoc}
use Prim.Native.Nat.{ℕ, suc, ◌+◌, ◌-◌, ◌≤◌, ◌<◌}
use native.Mathlib.Decide.{dec_le}
use native.Mathlib.Omega.{arith}
use borrow.Author.Tests.{le-leb, lt-leb, le-ltb, lt-ltb, ne_eqb}
use lib.Dec.{leb, ltb}
use lib.ListN.{length, take, get_or, length-append}
use lib.Seq.{get_or-take, get_or-append-add}
use Rattle.lent.specs.Fill.{Filled}
use Rattle.machine.specs.declared.Ending.{Ending}
use Rattle.machine.specs.declared.Ending.TheVariants.{Lf, Cr, CrLf}
use Rattle.machine.specs.State.{State}
use Rattle.machine.specs.Buffers.{push, end_line, ending_if_needed, end_line_if_needed, ending_bytes, is_eol, last_or, newest_of}
use Rattle.state_buffers.specs.declared.Buffers.{Buffers}
use Rattle.state_buffers.specs.Stand.{Holds, flat, Stand, Keeps, KeepsBy, end_line_by}
use Rattle.state_buffers.specs.Private.{ends_line, at_line_start, needless}
use Rattle.machine.proofs.Pushes.{push-none}
use Rattle.state_buffers.proofs.Laws.{holds-place, holds_fits, holds-full, push-nil, push-cons}

-- ---- the last byte

last_get : (x b : ℕ) (c : List ℕ) → last_or x (b ∷ c) ≡ get_or (b ∷ c) (length c) 0
last_get x b [] = refl
last_get x b (y ∷ c) = last_get b y c

module _ (d u : List ℕ) {p from : ℕ} (e : from ≡ length u) (l : p ≤ length d) where
  pub ends_is : (c : List ℕ) → Holds d p (u ++ c) → ends_line d from p ≡ is_eol (last_or 10 c)
  unfolding ends_line
  ends_is [] h =
      let n = length-append u [] in
      let q = holds-place h (holds_fits h l) in
      let k : p ≤ from = omega arith in
      rw (le-leb p from k)
  ends_is (b ∷ c) h =
      let n = length-append u (b ∷ c) in
      let q = holds-place h (holds_fits h l) in
      let i : p - 1 ≡ length u + length c = omega arith in
      let t : take (length (u ++ b ∷ c)) d ≡ u ++ b ∷ c = h.bytes (holds_fits h l) in
      let g : get_or d (p - 1) 0 ≡ get_or (b ∷ c) (length c) 0 =
      rw i (sym (get_or-take (length (u ++ b ∷ c)) d (length u + length c) 0 (omega arith)) ∙ ap (λ (x : List ℕ). get_or x (length u + length c) 0) t ∙ get_or-append-add u (b ∷ c) (length c) 0) in
      rw (lt-leb p from (omega arith), le-ltb (length d) p l, g, last_get 10 b c)

-- ---- the newest buffer

module _ (b : Buffers) (captures out starts : List ℕ) (s : State) (x : Stand b captures starts out s) where
  -- where there is room, the last byte is the machine's
  start-page : s.captures ≡ [] → b.page ≤ length out → at_line_start b captures out ≡ is_eol (last_or 10 (newest_of s.page s.captures))
  unfolding at_line_start
  start-page p l =
      let d : b.depth ≡ 0 = x.depth ∙ ap length p in
      rw (d, p) (ends_is out [] refl l s.page x.page)

  start-capture : (c : List ℕ) (cs : List (List ℕ)) → s.captures ≡ c ∷ cs → b.end ≤ length captures → at_line_start b captures out ≡ is_eol (last_or 10 (newest_of s.page s.captures))
  unfolding at_line_start
  start-capture c cs p l =
      let d : b.depth ≡ suc (length cs) = x.depth ∙ ap length p in
      let f = rw p at x.flat-is in
      let k = (rw p at x.starts-are) (holds_fits f l) in
      rw (ne_eqb b.depth 0 (λ z. absurd (omega arith)), p) (ends_is captures (flat cs) k.0 l c f)

  -- where there is none, a push changes nothing
  full-page : (t : List ℕ) → s.captures ≡ [] → length out < b.page → Stand b captures starts out (push t s)
  full-page t p l = rw (push-nil t s p) (record { page = holds-full x.page t l; flat-is = x.flat-is; depth = x.depth; starts-are = x.starts-are })

  full-capture : (t c : List ℕ) (cs : List (List ℕ)) → s.captures ≡ c ∷ cs → length captures < b.end → Stand b captures starts out (push t s)
  full-capture t c cs p l =
      let f = rw p at x.flat-is in
      let n = length-append (flat cs) (c ++ t) in
      let m = length-append (flat cs) c in
      let o = length-append c t in
      rw (push-cons t s c cs p) (record {
        page = x.page;
        flat-is = rw (← append_assoc) (holds-full f t l);
        depth = x.depth ∙ ap length p;
        starts-are = λ h. (let q = holds-place f (omega arith) in absurd (omega arith));
      })

  needed : (t : Bool) → is_eol (last_or 10 (newest_of s.page s.captures)) ≡ t → end_line_if_needed s ≡ (if t then s else end_line s)
  unfolding end_line ending_if_needed end_line_if_needed
  needed true p = rw p (push-none s)
  needed false p = rw p

  -- no line ending where it says so, whatever it says where there is no room
  pub at-start : at_line_start b captures out ≡ true → Stand b captures starts out (end_line_if_needed s)
  unfolding end_line
  at-start h = go s.captures refl (is_eol (last_or 10 (newest_of s.page s.captures))) refl
    where
      go : (cs : List (List ℕ)) → s.captures ≡ cs → (t : Bool) → is_eol (last_or 10 (newest_of s.page s.captures)) ≡ t → Stand b captures starts out (end_line_if_needed s)
      go cs p true q = rw (needed true q) x
      go [] p false q = elim (dec_le b.page (length out)) [
        | yes l ↦ absurd (true≢false (sym h ∙ start-page p l ∙ q))
        | no l ↦ rw (needed false q) (full-page (ending_bytes s.fixed.ending) p (omega arith))
      ]
      go (c ∷ cs) p false q = elim (dec_le b.end (length captures)) [
        | yes l ↦ absurd (true≢false (sym h ∙ start-capture c cs p l ∙ q))
        | no l ↦ rw (needed false q) (full-capture (ending_bytes s.fixed.ending) c cs p (omega arith))
      ]

  over-start : (d : List ℕ) (from to : ℕ) → length d < to → ends_line d from to ≡ true
  unfolding ends_line
  over-start d from to l = go (leb to from)
    where
      go : (t : Bool) → (if t then true else (if ltb (length d) to then true else is_eol (get_or d (to - 1) 0))) ≡ true
      go true = refl
      go false = rw (lt-ltb (length d) to l)

  over-page : s.captures ≡ [] → length out < b.page → at_line_start b captures out ≡ true
  unfolding at_line_start
  over-page p l = let d : b.depth ≡ 0 = x.depth ∙ ap length p in rw d (over-start out 0 b.page l)

  over-capture : (c : List ℕ) (cs : List (List ℕ)) → s.captures ≡ c ∷ cs → length captures < b.end → at_line_start b captures out ≡ true
  unfolding at_line_start
  over-capture c cs p l =
      let d : b.depth ≡ suc (length cs) = x.depth ∙ ap length p in
      rw (ne_eqb b.depth 0 (λ z. absurd (omega arith))) (over-start captures b.start b.end l)

  -- a line ending where it says so: then there is room
  pub not-at-start : at_line_start b captures out ≡ false → end_line_if_needed s ≡ end_line s
  not-at-start h = go s.captures refl
    where
      go : (cs : List (List ℕ)) → s.captures ≡ cs → end_line_if_needed s ≡ end_line s
      go [] p = elim (dec_le b.page (length out)) [
        | yes l ↦ needed false (sym (start-page p l) ∙ h)
        | no l ↦ absurd (true≢false (sym (over-page p (omega arith)) ∙ h))
      ]
      go (c ∷ cs) p = elim (dec_le b.end (length captures)) [
        | yes l ↦ needed false (sym (start-capture c cs p l) ∙ h)
        | no l ↦ absurd (true≢false (sym (over-capture c cs p (omega arith)) ∙ h))
      ]

-- ---- as the code has it

module _ (b : Buffers) (ending : Ending) (captures out : List ℕ) where
  ended : (s : State) → ending ≡ s.fixed.ending → push (ending_bytes ending) s ≡ end_line s
  unfolding end_line
  ended s p = rw p

  pub ended-by : {r : Buffers} {captures' out' : List ℕ} → Keeps (push (ending_bytes ending)) b captures out r captures' out' → KeepsBy ending end_line b captures out r captures' out'
  ended-by k = record { keeps = λ starts s p x. (rw (← ended s p) (k.keeps starts s x)) }

  pub unneeded : (t always : Bool) → t ≡ needless always b captures out → t ≡ true → KeepsBy ending (end_line_by always) b captures out b captures out
  unneeded t true q h = absurd (true≢false (sym h ∙ q))
  unneeded t false q h = record { keeps = λ starts s p x. at-start b captures out starts s x (sym q ∙ h) }

  pub if-needed : (t always : Bool) (r : Buffers) (captures' out' : List ℕ) → t ≡ needless always b captures out → t ≡ false → KeepsBy ending end_line b captures out r captures' out'
      → KeepsBy ending (end_line_by always) b captures out r captures' out'
  if-needed t true r captures' out' q h k = record { keeps = k.keeps }
  if-needed t false r captures' out' q h k = record { keeps = λ starts s p x. (rw (not-at-start b captures out starts s x (sym q ∙ h)) (k.keeps starts s p x)) }

-- ---- the inner functions

pub none_or : (x y : Bool) → (x || y) ≡ (x || (y || false))
none_or x true = refl
none_or x false = refl

module _ (d : List ℕ) (from to : ℕ) where
  pub ends-none : to ≤ from → true ≡ ends_line d from to
  unfolding ends_line
  ends-none h = rw (le-leb to from h)

  pub ends-over : from < to → length d < to → true ≡ ends_line d from to
  unfolding ends_line
  ends-over h l = rw (lt-leb to from h, lt-ltb (length d) to l)

  pub ends_last : (t : Bool) → from < to → to ≤ length d → t ≡ is_eol (get_or d (to - 1) 0) → t ≡ ends_line d from to
  unfolding ends_line
  ends_last t h l p = rw (lt-leb to from h, le-ltb (length d) to l) p

module _ (b : Buffers) (captures out : List ℕ) (t : Bool) where
  pub start-of-page : b.depth ≡ 0 → t ≡ ends_line out 0 b.page → t ≡ at_line_start b captures out
  unfolding at_line_start
  start-of-page d p = rw d p

  pub start-of-capture : (b.depth ≡ 0 → ⊥) → t ≡ ends_line captures b.start b.end → t ≡ at_line_start b captures out
  unfolding at_line_start
  start-of-capture d p = rw (ne_eqb b.depth 0 d) p

  pub needless-at-start : (always : Bool) → always ≡ false → t ≡ at_line_start b captures out → t ≡ needless always b captures out
  needless-at-start always p q = rw p q

module _ (ending : Ending) {d e : List ℕ} {at r : ℕ} where
  pub ends-lf : ending ≡ Lf → Filled d at (10 ∷ []) e r → Filled d at (ending_bytes ending) e r
  ends-lf p f = rw p f

  pub ends-cr : ending ≡ Cr → Filled d at (13 ∷ []) e r → Filled d at (ending_bytes ending) e r
  ends-cr p f = rw p f

  pub ends-crlf : ending ≡ CrLf → Filled d at (13 ∷ 10 ∷ []) e r → Filled d at (ending_bytes ending) e r
  ends-crlf p f = rw p f
