-- Refused, or appended. Assumes nothing.
use Rattle.std.proofs.Common.{refl, sym, ◌∙◌, rules}
use Rattle.std.proofs.lemmas.Result.{err_from_is_err_and}
use Rattle.call_text_answer.proofs.Laws.{refused, lacks, fits}
use Rattle.call_text_answer.proofs.try_write.Goals as goal

pub returns-in_err-take_text : goal.returns-in_err-take_text
returns-in_err-take_text g c =
    λ made h.
    let p = err_from_is_err_and c.from_residual.result c.from_residual.ensures.1 in
    rw (p.1, p.2) (refused (sym c.in_err-take_text.was ∙ c.take_text.ensures) refl)

pub returns-then-out-end : goal.returns-then-out-end
returns-then-out-end g c =
    λ made h.
    let x = h _ _ (record { shown = _; shows = refl; left = _; met = c.append.ensures; leaves = refl }) in
    let t = lacks (sym c.in_ok-take_text.was ∙ c.take_text.ensures) x.filled (search rules) in
    record { answer = t.answer; long = search rules; front = t.front }

pub returns : goal.returns
returns g c =
    λ made h.
    let x = h _ _ (record { shown = _; shows = refl; left = _; met = c.append.ensures; leaves = refl }) in
    let t = fits (sym c.in_ok-take_text.was ∙ c.take_text.ensures) x.filled (search rules) in
    record { answer = t.answer; long = search rules; front = search (rules, t.front, x.same) }
