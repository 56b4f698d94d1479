-- The items, call by call, and the section. Assumes nothing.
use Rattle.std.proofs.Common.{◌≡◌, List, [], ◌∷◌, ◌++◌, ℕ, zero, suc, ◌+◌, ◌≤◌, ◌<◌, arith, add-one, length, drop, drop_of_length-le}
use Rattle.std.proofs.Math.Option.{some}
use Rattle.std.proofs.Math.ListN.{get_elem?}
use Rattle.lent.specs.Fill.{Filled}
use Rattle.machine.specs.declared.Fixed.{Fixed}
use Rattle.machine.specs.Outcome.{go}
use Rattle.machine.specs.State.{State, Footnote, Call}
use Rattle.machine.specs.Section.{body_of}
use Rattle.machine.proofs.Outcomes.{first_goes}
use Rattle.state_kept.specs.declared.Kept.{Kept}
use Rattle.state_kept.proofs.Lists.{at-index}
use Rattle.state_buffers.specs.Stand.{Holds}
use Rattle.state_buffers.proofs.Laws.{more}
use Rattle.write_section.specs.Pages.{head_page, tail_text, item_page, items_page}
use Rattle.write_section.specs.Clauses.{WritesSection, Writes, There, WritesCall, WritesItems}
use Rattle.write_section.proofs.Machine.{section-is}

drop-at-index : {A : Type 0} (l : List A) (i : ℕ) (a : A) → get_elem? l i ≡ some a → drop i l ≡ a ∷ drop (suc i) l
drop-at-index [] i a p = absurd (let z : ◌≡◌ {A = ℕ} 0 1 = cc in omega arith)
drop-at-index (x ∷ l) zero a p = cc
drop-at-index (x ∷ l) (suc i) a p = drop-at-index l i a p

-- a page stands in the buffer of which the calls from the ith on make the last one
pub record Reached (fixed : Fixed) (fs : List Footnote) (cs : List Call) (i : ℕ) (last out : List ℕ) (at : ℕ) : Type 0 where
  pub page : List ℕ
  pub stands : Holds out at page
  pub rest : items_page fixed fs (drop i cs) page ≡ go last

pub record Going (k : Kept) (fixed : Fixed) (text work footnotes calls out₀ : List ℕ) (at₀ i : ℕ) (out : List ℕ) (at : ℕ) : Type 0 where
  pub low : i ≤ k.calls
  pub goes : {s : State} (page last : List ℕ) → There k text work footnotes calls s → items_page fixed s.kept.footnotes s.kept.calls page ≡ go last → Holds out₀ at₀ page
      → Reached fixed s.kept.footnotes s.kept.calls i last out at

reached-more : {fixed : Fixed} {fs : List Footnote} {cs : List Call} {i : ℕ} {last out out' : List ℕ} {at r : ℕ} (c : Call) → get_elem? cs i ≡ some c
    → ((body : List ℕ) → body_of c.label fs ≡ go body → Writes (item_page fixed c.label c.times body) out at out' r) → Reached fixed fs cs i last out at → Reached fixed fs cs (i + 1) last out' r
unfolding items_page
reached-more {fixed} {fs} {cs} {i} {last} c p w x =
    let j = rw (drop-at-index cs i c p) at x.rest in
    let (body, e, q) = first_goes (body_of c.label fs) (λ b. items_page fixed fs (drop (suc i) cs) (item_page fixed c.label c.times b x.page)) last j in
    record { page = item_page fixed c.label c.times body x.page; stands = (w body e).writes x.page x.stands; rest = rw add-one q }

module _ {k : Kept} {fixed : Fixed} {text work footnotes calls : List ℕ} {out : List ℕ} {at : ℕ} where
  pub going_start : Going k fixed text work footnotes calls out at 0 out at
  going_start = record { low = omega arith; goes = λ page last t p h. record { page = page; stands = h; rest = p } }

  module _ {out' : List ℕ} {i p : ℕ} (x : Going k fixed text work footnotes calls out at i out' p) where
    pub going_more : {out'' : List ℕ} {r : ℕ} → i < k.calls → WritesCall k fixed text work footnotes calls i out' p out'' r → Going k fixed text work footnotes calls out at (i + 1) out'' r
    going_more h w = record {
      low = omega arith;
      goes = λ {s} page last t q y.
          let (c, e) = at-index s.kept.calls i (omega (arith, t.keeps.calls.rows)) in
          reached-more c e (λ body b. w.writes t e b) (x.goes page last t q y);
    }

    pub going_end : k.calls ≤ i → WritesItems k fixed text work footnotes calls out at out' p
    unfolding items_page
    going_end h = record {
      writes = λ {s} page last t q y.
          let z = x.goes page last t q y in
          let e = drop_of_length-le s.kept.calls {i = i} (omega (arith, t.keeps.calls.rows)) in
          let j : go z.page ≡ go last = rw e at z.rest in
          let f : z.page ≡ last = cc in
          rw f at z.stands;
    }

-- ---- the section

module _ {k : Kept} {fixed : Fixed} {text work footnotes calls d e f g : List ℕ} {at p q r : ℕ} where
  section-holds : {s : State} (u : State) (page : List ℕ) → Writes (head_page fixed.ending) d at e p → WritesItems k fixed text work footnotes calls e p f q → Filled f q (tail_text fixed.ending) g r
      → There k text work footnotes calls s → s.fixed ≡ fixed → items_page s.fixed s.kept.footnotes s.kept.calls (head_page s.fixed.ending s.page) ≡ go page
      → u.page ≡ page ++ tail_text s.fixed.ending → Holds d at s.page → Holds g r u.page
  section-holds {s} u page x y z t same i o h =
      let i' = rw same at i in
      let o' = rw same at o in
      rw o' (more (y.writes (head_page fixed.ending s.page) page t i' (x.writes s.page h)) z)

  pub section-put : Writes (head_page fixed.ending) d at e p → WritesItems k fixed text work footnotes calls e p f q → Filled f q (tail_text fixed.ending) g r → length g ≡ length d
      → WritesSection k fixed text work footnotes calls d at g r
  section-put x y z l = record {
    writes = λ definitions labels s u none same long fits keeps h i.
        let (page, j, o) = section-is s none u i in
        let t : There k text work footnotes calls s = record { definitions = definitions; labels = labels; long = long; fits = fits; keeps = keeps } in
        (section-holds u page x y z t same j o h, l);
  }
