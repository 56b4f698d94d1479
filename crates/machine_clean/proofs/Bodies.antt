-- A footnote's body: which one, where it is cut, and that a UTF-8 body goes on. Assumes nothing.
use Rattle.std.specs.Prelude.{if◌then◌else◌, Some, None}
use mathlib.Core.Path.{◌≡◌, refl}
use mathlib.Core.Bool.{Bool, true, false}
use mathlib.Core.List.{List, [], ◌∷◌, ◌++◌}
use Prim.Native.Nat.{ℕ, zero, suc, ◌+◌, ◌-◌, ◌≤◌, ◌<◌}
use native.Mathlib.Omega.{arith}
use lib.Dec.{ltb}
use lib.ListN.{length, take, drop, get_or, get_elem?}
use Rattle.lent.specs.Bytes.{bytes, same}
use Rattle.lent.proofs.Laws.{and_right}
use Rattle.utf8.proofs.Laws as Utf8
use Rattle.normalize_identifier.specs.Identity.{identity_of}
use Rattle.normalize_identifier.specs.Search.{Found, first_from, first_same}
use Rattle.lent.proofs.Same.{same-iff}
use Rattle.machine.specs.Outcome.{go, ◌>>=◌, need}
use Rattle.machine.specs.State.{State, Footnote, Call}
use Rattle.machine.specs.Buffers.{push, end_line_if_needed}
use Rattle.machine.specs.Turn.{as_str}
use Rattle.machine.specs.Section.{footnote_labels, footnote_at, body_of, body_end, ends_paragraph, push_body}
use Rattle.machine_clean.specs.Clean.{Valid, All, empty, more, CleanFootnote}
use Rattle.machine_clean.specs.Section.{Appends, Noted}
use Rattle.machine_clean.proofs.Valid.{valid, holds, joined, text}
use Rattle.machine_clean.proofs.Safe.{Ends, Safe, Sure, goes, stops, chain, surely, at, reads}
use Rattle.machine_clean.proofs.Appends.{wholly, behind, behind-line-if}

-- ---- the footnote that is found

sure-at : {A : Type 0} {P : A → Type 0} {l : List A} → All P l → (k : ℕ) → k < length l → Sure P (need (get_elem? l k))
sure-at empty k h = absurd (omega arith)
sure-at (more p q) zero h = goes p
sure-at (more p q) (suc k) h = sure-at q k (omega arith)

-- it is one of them
found_in : (k j : ℕ) (fs : List Footnote) (label : List ℕ) → first_from k (footnote_labels fs) label ≡ Some j → (k ≤ j) × (j < k + length fs)
unfolding first_from
found_in k j [] label e = let z : ◌≡◌ {A = ℕ} 0 1 = cc in absurd (omega arith)
found_in k j (f ∷ fs) label e = on (same (identity_of f.label) (identity_of label)) e (found_in (k + 1) j fs label)
  where
    on : (t : Bool) → (if t then Some k else first_from (k + 1) (footnote_labels fs) label) ≡ Some j → (first_from (k + 1) (footnote_labels fs) label ≡ Some j → (k + 1 ≤ j) × (j < k + 1 + length fs))
        → (k ≤ j) × (j < k + length (f ∷ fs))
    on true p h = let q : k ≡ j = cc in (omega arith, omega arith)
    on false p h = let q = h p in (omega arith, omega arith)

pub sure-body : {fs : List Footnote} {c : Call} → All CleanFootnote fs → Noted fs c → Sure Valid (body_of c.label fs)
unfolding first_same
sure-body {fs} {c} a n = chain _ (on (first_same (footnote_labels fs) c.label) refl) (λ f p. goes p.body)
  where
    on : (x : Found) → first_same (footnote_labels fs) c.label ≡ x → Sure CleanFootnote (footnote_at fs x)
    on (Some j) e = let h = found_in 0 j fs c.label e in sure-at a j (omega arith)
    on None e = absurd (n.found e)

pub safe-body : {fs : List Footnote} (c : Call) → All CleanFootnote fs → Safe Valid (body_of c.label fs)
safe-body {fs} c a = chain _ (on (first_same (footnote_labels fs) c.label)) (λ f p. goes p.body)
  where
    on : (x : Found) → Safe CleanFootnote (footnote_at fs x)
    on (Some j) = at a j
    on None = stops

-- ---- where it is cut

-- the first byte of what stands at k
stands : (k b : ℕ) (s l : List ℕ) → take 4 (drop k s) ≡ b ∷ l → (k < length s) × (get_or s k 0 ≡ b)
stands zero b [] l e = let z : ◌≡◌ {A = ℕ} 0 1 = cc in absurd (omega arith)
stands zero b (x ∷ s) l e = (omega arith, cc)
stands (suc k) b [] l e = let z : ◌≡◌ {A = ℕ} 0 1 = cc in absurd (omega arith)
stands (suc k) b (x ∷ s) l e = let p = stands k b s l e in (omega arith, p.1)

module _ {body : List ℕ} (v : Valid body) (e : ends_paragraph body ≡ true) where
  -- before an ASCII byte
  cut : (body_end body - 4 < length body) × (get_or body (body_end body - 4) 0 ≡ 60)
  unfolding ends_paragraph
  cut =
      let p = and_right (ltb 3 (body_end body)) (same (take 4 (drop (body_end body - 4) body)) (bytes "</p>")) e in
      stands (body_end body - 4) 60 body (bytes "/p>") ((same-iff (take 4 (drop (body_end body - 4) body)) (bytes "</p>")).0 p)

  cut-before : Valid (take (body_end body - 4) body)
  cut-before =
      let k = body_end body - 4 in
      valid (take k body) (Utf8.cut-take body (holds v) k (Utf8.outside-ascii body k cut.0 (omega (arith, cut.1))))

  cut-after : Valid (drop (body_end body - 4) body)
  cut-after =
      let k = body_end body - 4 in
      valid (drop k body) (Utf8.cut-drop body (holds v) k (Utf8.outside-ascii body k cut.0 (omega (arith, cut.1))))

-- ---- how it is written

read-valid : {b : List ℕ} {Why : Type 0} → Valid b → Ends Why Valid (as_str b)
read-valid v = rw (reads v) (goes v)

pub body-behind : {s u : State} {body back : List ℕ} {Why : Type 0} → Appends s u → Valid body → Valid back → Ends Why (Appends s) (push_body body back u)
unfolding push_body
body-behind {s} {u} {body} {back} {Why} a v w = on (ends_paragraph body) refl
  where
    on : (t : Bool) → ends_paragraph body ≡ t → Ends Why (Appends s) (elim t [
      | true ↦ as_str (take (body_end body - 4) body) >>= λ before. as_str (drop (body_end body - 4) body) >>= λ after. go (push (before ++ bytes " " ++ back ++ after) u)
      | false ↦ go (push back (end_line_if_needed (push body u)))
    ])
    on true e = chain _ (read-valid (cut-before v e)) (λ before x. chain _ (read-valid (cut-after v e)) (λ after y. goes (behind a (joined (joined (joined x (text " " tt)) w) y))))
    on false e = goes (behind (behind-line-if (behind a v)) w)

pub body-goes : (s : State) (body back : List ℕ) → Valid body → Valid back → (u : State) × (push_body body back s ≡ go u) × Appends s u
body-goes s body back v w = surely (body-behind (wholly s) v w)
