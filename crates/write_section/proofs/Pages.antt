-- One piece behind the other on a page that stands in the buffer. Assumes nothing.
use Rattle.std.proofs.Common.{if◌then◌else◌, ◌≡◌, refl, sym, ◌∙◌, Bool, true, false, true≢false, List, [], ◌++◌, ℕ, ◌-◌, ◌≤◌, ◌<◌, arith, ltb-true, ltb, length, take, drop}
use Rattle.std.proofs.Math.Decide.{dec_le}
use Rattle.lent.specs.Bytes as B
use Rattle.lent.specs.Bytes.{bytes}
use Rattle.lent.specs.Fill.{Filled}
use Rattle.lent.proofs.Laws.{both, and_left}
use Rattle.machine.specs.declared.Ending.{Ending}
use Rattle.machine.specs.declared.Fixed.{Fixed}
use Rattle.machine.specs.Buffers.{ending_bytes, is_eol, last_or}
use Rattle.machine.specs.Footnote.{address_of}
use Rattle.machine.specs.Section.{body_end, ends_paragraph, backreferences}
use Rattle.state_buffers.specs.Stand.{Holds}
use Rattle.state_buffers.specs.Private.{ends_line}
use Rattle.state_buffers.proofs.Laws.{holds-full, more}
use Rattle.state_buffers.proofs.Lines.{ends_is, ends-over}
use Rattle.write_footnote.proofs.Bodies.{close-inside}
use Rattle.write_section.specs.Pages.{ended, heading_text, head_page, tail_text, item_start, split_body, behind_body, body_page, item_end, item_page}
use Rattle.write_section.specs.Clauses.{Writes}

-- ---- a line ending if needed

ended_is : (ending : Ending) (page : List ℕ) (x : Bool) → is_eol (last_or 10 page) ≡ x → ended ending page ≡ (if x then page else page ++ ending_bytes ending)
unfolding ended
ended_is ending page x q = rw q

module _ (ending : Ending) (d : List ℕ) (at : ℕ) (t : Bool) (e : t ≡ ends_line d 0 at) where
  -- without room the place says so, with the line ending and without
  pub at-start : t ≡ true → Writes (ended ending) d at d at
  at-start h = record { writes = λ page x. on page x (is_eol (last_or 10 page)) refl }
    where
      on : (page : List ℕ) → Holds d at page → (x : Bool) → is_eol (last_or 10 page) ≡ x → Holds d at (ended ending page)
      on page y true q = rw (ended_is ending page true q) y
      on page y false q = elim (dec_le at (length d)) [
        | yes l ↦ absurd (true≢false (sym h ∙ e ∙ ends_is d [] refl l page y ∙ q))
        | no l ↦ rw (ended_is ending page false q) (holds-full y (ending_bytes ending) (omega arith))
      ]

  pub not-at-start : {f : List ℕ} {r : ℕ} → t ≡ false → Filled d at (ending_bytes ending) f r → Writes (ended ending) d at f r
  not-at-start {f} {r} h w = record {
    writes = λ page y. elim (dec_le at (length d)) [
      | yes l ↦ rw (ended_is ending page false (sym (ends_is d [] refl l page y) ∙ sym e ∙ h)) (more y w)
      | no l ↦ absurd (true≢false (ends-over d 0 at (omega arith) (omega arith) ∙ sym e ∙ h))
    ];
  }

-- ---- head and tail

module _ (ending : Ending) {d e f g : List ℕ} {at p q r : ℕ} where
  pub head-put : Writes (ended ending) d at e p → Filled e p (heading_text ++ ending_bytes ending) f q → Filled f q (bytes "<ol>") g r → Writes (head_page ending) d at g r
  unfolding head_page
  head-put x y z = record { writes = λ page h. more (more (x.writes page h) y) z }

  pub tail-put : Filled d at (ending_bytes ending ++ bytes "</ol>") e p → Filled e p (ending_bytes ending ++ bytes "</section>") f q → Filled f q (ending_bytes ending) g r
      → Filled d at (tail_text ending) g r
  unfolding tail_text
  tail-put x y z = both (both x y) z

  -- ---- an item

  pub item-start-put : (a : List ℕ) → Filled d at (ending_bytes ending ++ bytes "<li id=\"user-content-fn-") e p → Filled e p a f q → Filled f q (bytes "\">" ++ ending_bytes ending) g r
      → Filled d at (item_start ending a) g r
  unfolding item_start
  item-start-put a x y z = both (both x y) z

  pub behind-put : (body back : List ℕ) → Filled d at body e p → Writes (ended ending) e p f q → Filled f q back g r → Writes (behind_body ending body back) d at g r
  unfolding behind_body
  behind-put body back x y z = record { writes = λ page h. more (y.writes (page ++ body) (more h x)) z }

pub item-put : (fixed : Fixed) {d e f g : List ℕ} {at p q r : ℕ} (label : List ℕ) (times : ℕ) (body : List ℕ) → Filled d at (item_start fixed.ending (address_of fixed.apostrophes label)) e p
    → Writes (body_page fixed.ending body (backreferences (address_of fixed.apostrophes label) times)) e p f q → Writes (item_end fixed.ending) f q g r → Writes (item_page fixed label times body) d at g r
unfolding item_page
item-put fixed label times body x y z = record { writes = λ page h. z.writes _ (y.writes _ (more h x)) }

pub item-end-put : (ending : Ending) {d e f : List ℕ} {at p r : ℕ} → Writes (ended ending) d at e p → Filled e p (bytes "</li>") f r → Writes (item_end ending) d at f r
unfolding item_end
item-end-put ending x y = record { writes = λ page h. more (x.writes page h) y }

-- the two parts of the body as the code lends them
pub split-put : {d e f g j before after : List ℕ} {at p q m r : ℕ} (body : List ℕ) (cut : ℕ) (back : List ℕ) → before ≡ take cut body → after ≡ drop cut body → Filled d at before e p → Filled e p (bytes " ") f q → Filled f q back g m
    → Filled g m after j r → Filled d at (split_body body cut back) j r
unfolding split_body
split-put body cut back a b w x y z = both (both (both (rw a at w) x) y) (rw b at z)

-- ---- a body, by how it ends

module _ (body : List ℕ) (t : Bool) (e : t ≡ ends_paragraph body) where
  module _ (n : ℕ) (k : n ≡ body_end body) (h : t ≡ true) where
    pub paragraph-long : 3 < n
    unfolding ends_paragraph
    paragraph-long = rw k (ltb-true 3 (body_end body) (and_left (ltb 3 (body_end body)) (B.same (take 4 (drop (body_end body - 4) body)) (bytes "</p>")) (sym e ∙ h)))

    pub cut_inside : n - 4 ≤ length body
    cut_inside = let x = close-inside body n k paragraph-long in omega arith

    pub body-split : (ending : Ending) {d f : List ℕ} {at r : ℕ} (back : List ℕ) → Filled d at (split_body body (n - 4) back) f r → Writes (body_page ending body back) d at f r
    unfolding body_page
    body-split ending back w = record { writes = λ page y. (let z = more y (rw k at w) in rw (sym e ∙ h) z) }

  pub body-behind : (ending : Ending) {d f : List ℕ} {at r : ℕ} (back : List ℕ) → t ≡ false → Writes (behind_body ending body back) d at f r → Writes (body_page ending body back) d at f r
  unfolding body_page
  body-behind ending back h w = record { writes = λ page y. (let z = w.writes page y in rw (sym e ∙ h) z) }
