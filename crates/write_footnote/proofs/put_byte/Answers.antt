-- A % by the two bytes behind it or by the end, another by itself. Assumes nothing.
use Rattle.std.proofs.Common.{◌≡◌, refl, sym, ◌∙◌, ap, ℕ, List, drop, get_or, get_or-drop}
use Rattle.lent.proofs.Laws.{same}
use Rattle.normalize_identifier.specs.Left.{left}
use Rattle.write_footnote.proofs.Laws.{ahead, lowered, of-sign, of-last-sign, of_other}
use Rattle.write_footnote.proofs.put_byte.Goals as goal

pub returns-then-l-ne37 : goal.returns-then-l-ne37
returns-then-l-ne37 c = same (of_other c.args.apostrophes c.args.b (left c.args.rest) c.to_ascii_lowercase-l.ensures.value c.if-l-ne37.true) c.put_before.ensures

pub returns-in_default : goal.returns-in_default
returns-in_default c = same (of-last-sign c.args.apostrophes c.args.b (left c.args.rest) c.to_ascii_lowercase-l.ensures.value c.if-l-ne37.false c.in_default.ensures.steps.0) c.put_before-in_default.ensures

pub returns : goal.returns
returns c =
    let e = c.in-Some.ensures.steps in
    let d : left c.next.new.self ≡ drop 1 (left c.args.rest) = rw e refl in
    let q = ahead c.next.new.self c.next-2.new.self c.next-2.result c.next-2.ensures.steps in
    let x = lowered c.to_ascii_lowercase-x.ensures.value (sym (ap (λ (l : List ℕ). get_or l 0 0) e)) in
    let y = lowered c.to_ascii_lowercase-y.ensures.value (c.unwrap_or.ensures ∙ q.0 ∙ ap (λ (l : List ℕ). get_or l 0 0) d ∙ get_or-drop 1 (left c.args.rest) 0 0) in
    same (of-sign c.args.apostrophes c.args.b (left c.args.rest) c.to_ascii_lowercase-l.ensures.value c.if-l-ne37.false x y) c.put_before-2.ensures
