-- What the machine writes of the section, where no capture is open. Assumes nothing.
use Rattle.std.proofs.Common.{if◌then◌else◌, ◌≡◌, refl, ap, ◌∙◌, Bool, true, false, List, [], ◌∷◌, ◌++◌, append_assoc, ℕ, ◌-◌, take, drop}
use Rattle.lent.specs.Bytes.{bytes}
use Rattle.machine.specs.Outcome.{Outcome, stop, go, ◌>>=◌}
use Rattle.machine.specs.State.{State, Call}
use Rattle.machine.specs.Set.{set_page}
use Rattle.machine.specs.Buffers.{push, end_line, ending_if_needed, end_line_if_needed, ending_bytes, is_eol, last_or, newest_of}
use Rattle.machine.specs.Turn.{as_str}
use Rattle.machine.specs.Footnote.{address_of}
use Rattle.machine.specs.Section.{body_of, body_end, ends_paragraph, backreferences, push_body, footnote_item, footnote_items, footnote_section}
use Rattle.machine.proofs.Outcomes.{never, first_goes}
use Rattle.machine.proofs.Pushes.{push-none}
use Rattle.state_buffers.proofs.Laws.{push-nil}
use Rattle.state_kept.proofs.Labels.{str-is}
use Rattle.write_section.specs.Pages.{ended, heading_text, head_page, tail_text, item_start, split_body, behind_body, body_page, item_end, item_page, items_page}

went : {u v : State} → go u ≡ go v → v ≡ u
went p = cc

-- ---- texts, one behind the other

start-text : (p e t a q : List ℕ) → ((((p ++ e) ++ t) ++ a) ++ q) ++ e ≡ p ++ ((e ++ t) ++ a ++ (q ++ e))
start-text p e t a q = simp append_assoc

head-text : (p h e o : List ℕ) → ((p ++ h) ++ e) ++ o ≡ p ++ (h ++ e) ++ o
head-text p h e o = simp append_assoc

tail-text : (p e a b : List ℕ) → ((((p ++ e) ++ a) ++ e) ++ b) ++ e ≡ p ++ ((e ++ a) ++ (e ++ b) ++ e)
tail-text p e a b = simp append_assoc

module _ (s : State) (none : s.captures ≡ []) where
  -- ---- on the page

  pushed : (p t : List ℕ) → push t (set_page p s) ≡ set_page (p ++ t) s
  pushed p t = push-nil t (set_page p s) none

  lined : (p : List ℕ) → end_line (set_page p s) ≡ set_page (p ++ ending_bytes s.fixed.ending) s
  unfolding end_line
  lined p = pushed p (ending_bytes s.fixed.ending)

  needed : (p : List ℕ) → end_line_if_needed (set_page p s) ≡ set_page (ended s.fixed.ending p) s
  unfolding ending_if_needed end_line_if_needed ended
  needed p = let n : newest_of p s.captures ≡ p = ap (newest_of p) none in rw n (on (is_eol (last_or 10 p)))
    where
      on : (x : Bool) → push (if x then [] else ending_bytes s.fixed.ending) (set_page p s) ≡ set_page (if x then p else p ++ ending_bytes s.fixed.ending) s
      on true = push-none (set_page p s)
      on false = pushed p (ending_bytes s.fixed.ending)

  -- ---- a body

  both_read : (a b back : List ℕ) (v u : State) → (as_str a >>= λ before. as_str b >>= λ after. go (push (before ++ bytes " " ++ back ++ after) v)) ≡ go u → u ≡ push (a ++ bytes " " ++ back ++ b) v
  both_read a b back v u p = on (as_str a) refl (as_str b) refl p
    where
      on : (x : Outcome (List ℕ)) → as_str a ≡ x → (y : Outcome (List ℕ)) → as_str b ≡ y → (x >>= λ before. y >>= λ after. go (push (before ++ bytes " " ++ back ++ after) v)) ≡ go u
          → u ≡ push (a ++ bytes " " ++ back ++ b) v
      on stop i y j q = never q
      on (go x) i stop j q = never q
      on (go x) i (go y) j q = rw (str-is a x i, str-is b y j) (went q)

  body_is : (body back p : List ℕ) (u : State) → push_body body back (set_page p s) ≡ go u → u ≡ set_page (body_page s.fixed.ending body back p) s
  unfolding push_body body_page split_body behind_body
  body_is body back p u i = on (ends_paragraph body) i
    where
      on : (x : Bool) → elim x [
        | true ↦ as_str (take (body_end body - 4) body) >>= λ before. as_str (drop (body_end body - 4) body) >>= λ after. go (push (before ++ bytes " " ++ back ++ after) (set_page p s))
        | false ↦ go (push back (end_line_if_needed (push body (set_page p s))))
      ] ≡ go u → u ≡ set_page (if x then p ++ (take (body_end body - 4) body ++ bytes " " ++ back ++ drop (body_end body - 4) body) else ended s.fixed.ending (p ++ body) ++ back) s
      on true q = both_read (take (body_end body - 4) body) (drop (body_end body - 4) body) back (set_page p s) u q ∙ pushed p (take (body_end body - 4) body ++ bytes " " ++ back ++ drop (body_end body - 4) body)
      on false q = went q ∙ rw (pushed p body, needed (p ++ body)) (pushed (ended s.fixed.ending (p ++ body)) back)

  -- ---- an item

  opened : (p t a q : List ℕ) → end_line (push q (push a (push t (end_line (set_page p s))))) ≡ set_page (p ++ ((ending_bytes s.fixed.ending ++ t) ++ a ++ (q ++ ending_bytes s.fixed.ending))) s
  opened p t a q =
      let e = ending_bytes s.fixed.ending in
      rw (lined p, pushed (p ++ e) t, pushed ((p ++ e) ++ t) a, pushed (((p ++ e) ++ t) ++ a) q, lined ((((p ++ e) ++ t) ++ a) ++ q), start-text p e t a q)

  item-written : (body back p : List ℕ) (o u : State) → o ≡ set_page p s → (push_body body back o >>= λ v. go (push (bytes "</li>") (end_line_if_needed v))) ≡ go u
      → u ≡ set_page (ended s.fixed.ending (body_page s.fixed.ending body back p) ++ bytes "</li>") s
  item-written body back p o u e i =
      let i' = rw e at i in
      let (v, k, l) = first_goes (push_body body back (set_page p s)) (λ v. go (push (bytes "</li>") (end_line_if_needed v))) u i' in
      let w = body_is body back p v k in
      let b = body_page s.fixed.ending body back p in
      went l ∙ ap (λ (x : State). push (bytes "</li>") (end_line_if_needed x)) w ∙ ap (push (bytes "</li>")) (needed b) ∙ pushed (ended s.fixed.ending b) (bytes "</li>")

  item-is : (c : Call) (p : List ℕ) (u : State) → footnote_item c (set_page p s) ≡ go u
      → (body : List ℕ) × (body_of c.label s.kept.footnotes ≡ go body) × (u ≡ set_page (item_page s.fixed c.label c.times body p) s)
  unfolding footnote_item item_page item_end item_start
  item-is c p u i =
      let a = address_of s.fixed.apostrophes c.label in
      let back = backreferences a c.times in
      let start : State = end_line (push (bytes "\">") (push a (push (bytes "<li id=\"user-content-fn-") (end_line (set_page p s))))) in
      let (body, e, j) = first_goes (body_of c.label s.kept.footnotes) (λ b. push_body b back start >>= λ v. go (push (bytes "</li>") (end_line_if_needed v))) u i in
      (body, e, item-written body back _ start u (opened p (bytes "<li id=\"user-content-fn-") a (bytes "\">")) j)

  items-are : (cs : List Call) (p : List ℕ) (u : State) → footnote_items cs (set_page p s) ≡ go u
      → (q : List ℕ) × (items_page s.fixed s.kept.footnotes cs p ≡ go q) × (u ≡ set_page q s)
  unfolding footnote_items items_page
  items-are [] p u i = (p, refl, went i)
  items-are (c ∷ cs) p u i =
      let (v, j, k) = first_goes (footnote_item c (set_page p s)) (footnote_items cs) u i in
      let (body, e, w) = item-is c p v j in
      let (q, m, n) = items-are cs (item_page s.fixed c.label c.times body p) u (rw w at k) in
      (q, rw e m, n)

  -- ---- the section

  closed : (p a b : List ℕ) → end_line (push b (end_line (push a (end_line (set_page p s))))) ≡ set_page (p ++ ((ending_bytes s.fixed.ending ++ a) ++ (ending_bytes s.fixed.ending ++ b) ++ ending_bytes s.fixed.ending)) s
  closed p a b =
      let e = ending_bytes s.fixed.ending in
      rw (lined p, pushed (p ++ e) a, lined ((p ++ e) ++ a), pushed (((p ++ e) ++ a) ++ e) b, lined ((((p ++ e) ++ a) ++ e) ++ b), tail-text p e a b)

  headed : (h o : List ℕ) → push o (end_line (push h (end_line_if_needed (set_page s.page s)))) ≡ set_page (ended s.fixed.ending s.page ++ (h ++ ending_bytes s.fixed.ending) ++ o) s
  headed h o =
      let e = ending_bytes s.fixed.ending in
      let p = ended s.fixed.ending s.page in
      rw (needed s.page, pushed p h, lined (p ++ h), pushed ((p ++ h) ++ e) o, head-text p h e o)

  section-written : (cs : List Call) (p : List ℕ) (o u : State) → o ≡ set_page p s
      → (footnote_items cs o >>= λ v. go (end_line (push (bytes "</section>") (end_line (push (bytes "</ol>") (end_line v)))))) ≡ go u
      → (q : List ℕ) × (items_page s.fixed s.kept.footnotes cs p ≡ go q) × (u.page ≡ q ++ tail_text s.fixed.ending)
  unfolding tail_text
  section-written cs p o u e i =
      let i' = rw e at i in
      let close : State → State = λ v. end_line (push (bytes "</section>") (end_line (push (bytes "</ol>") (end_line v)))) in
      let (v, j, k) = first_goes (footnote_items cs (set_page p s)) (λ v. go (close v)) u i' in
      let (q, m, n) = items-are cs p v j in
      (q, m, ap (λ (x : State). x.page) (went k ∙ ap close n ∙ closed q (bytes "</ol>") (bytes "</section>")))

  pub section-is : (u : State) → footnote_section s ≡ go u
      → (q : List ℕ) × (items_page s.fixed s.kept.footnotes s.kept.calls (head_page s.fixed.ending s.page) ≡ go q) × (u.page ≡ q ++ tail_text s.fixed.ending)
  unfolding footnote_section head_page
  section-is u i = section-written s.kept.calls _ _ u (headed heading_text (bytes "<ol>")) i
