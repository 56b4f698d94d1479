-- The loop's invariant: what is reached before each event, or that there is no room. Assumes nothing.
use Rattle.std.proofs.Common.{sym, ◌∙◌, ◌-◌, arith, rules}
use Rattle.dispatch_handle.proofs.Laws.{quiet-enter, turned-quietly, turned-wholly}
use Rattle.run_pass.proofs.Loop.{lent-long, lent_same, stays-start, all-steps, stays, told-so}
use Rattle.run_pass.proofs.pass.Goals as goal

pub loop-lack-init : goal.loop-lack-init
loop-lack-init c = (search rules, search rules, search rules, search rules, search rules, search rules, search rules, search rules, search rules, stays-start)

pub shape_of-work-then-n-i : goal.shape_of-work-then-n-i
shape_of-work-then-n-i c = omega (arith, c.loop-lack.invariant)

pub shape_of-starts-then-n-i : goal.shape_of-starts-then-n-i
shape_of-starts-then-n-i c = omega (arith, c.loop-lack.invariant)

pub shape_of-out-then-n-i : goal.shape_of-out-then-n-i
shape_of-out-then-n-i c = omega (arith, c.loop-lack.invariant)

pub shape_of-definitions-then-n-i : goal.shape_of-definitions-then-n-i
shape_of-definitions-then-n-i c = omega (arith, c.loop-lack.invariant)

pub shape_of-footnotes-then-n-i : goal.shape_of-footnotes-then-n-i
shape_of-footnotes-then-n-i c = omega (arith, c.loop-lack.invariant)

pub shape_of-calls-then-n-i : goal.shape_of-calls-then-n-i
shape_of-calls-then-n-i c = omega (arith, c.loop-lack.invariant)

pub shape_of-labels-then-n-i : goal.shape_of-labels-then-n-i
shape_of-labels-then-n-i c = omega (arith, c.loop-lack.invariant)

pub returns-then-n-i : goal.returns-then-n-i
returns-then-n-i c = let inv = c.loop-lack.invariant in all-steps (omega (arith, c.if-n-i.true, inv.0)) (c.ahead-next.ensures.walks.goes (inv.9.on (told-so c.loop-lack.lack c.is_none.result c.is_none.ensures c.loop-lack-test.true)))

pub overflow_add-p : goal.overflow_add-p
overflow_add-p c = omega (arith, c.if-n-i.false, c.count-n.type_inv)

pub loop-lack-smaller-then-is_whole : goal.loop-lack-smaller-then-is_whole
loop-lack-smaller-then-is_whole c = omega (arith, c.if-n-i.false, c.ahead-next.ensures.walks.later)

pub loop-lack-preserved-then-is_whole : goal.loop-lack-preserved-then-is_whole
loop-lack-preserved-then-is_whole c = let inv = c.loop-lack.invariant in (
  inv.0,
  omega (arith, c.handle_whole-r.auto, inv),
  omega (arith, c.handle_whole-r.auto, inv),
  omega (arith, c.handle_whole-r.auto, inv),
  omega (arith, c.handle_whole-r.auto, inv),
  omega (arith, c.handle_whole-r.auto, inv),
  omega (arith, c.handle_whole-r.auto, inv),
  omega (arith, c.handle_whole-r.auto, inv),
  omega (arith, c.handle_whole-r.auto, inv),
  stays (omega (arith, c.if-n-i.false, inv.0)) (c.ahead-next.ensures.walks.goes (inv.9.on (told-so c.loop-lack.lack c.is_none.result c.is_none.ensures c.loop-lack-test.true))) c.stays_inside-inside.ensures (c.ahead-next.ensures.here (omega (arith, c.if-n-i.false, inv.0))) (turned-wholly c.read-e.ensures c.is_whole.ensures c.if-is_whole.true c.handle_whole-r.ensures) (omega (arith, c.handle_whole-r.auto)) c.lack-lack.ensures,
)

pub loop-lack-smaller-then-is_enter : goal.loop-lack-smaller-then-is_enter
loop-lack-smaller-then-is_enter c = omega (arith, c.if-n-i.false, c.ahead-next.ensures.walks.later)

pub loop-lack-preserved-then-is_enter : goal.loop-lack-preserved-then-is_enter
loop-lack-preserved-then-is_enter c = let inv = c.loop-lack.invariant in
    let captures = c.on_enter-r.new.captures in
    let work = c.loop-lack.work in (
      inv.0,
      lent-long captures work (omega (arith, c.on_enter-r.auto)) inv.1,
      lent_same captures work (omega (arith, c.on_enter-r.auto)) inv.1 inv.2,
      omega (arith, c.on_enter-r.auto, inv),
      omega (arith, c.on_enter-r.auto, inv),
      omega (arith, c.on_enter-r.auto, inv),
      omega (arith, c.on_enter-r.auto, inv),
      omega (arith, c.on_enter-r.auto, inv),
      omega (arith, c.on_enter-r.auto, inv),
      stays (omega (arith, c.if-n-i.false, inv.0)) (c.ahead-next.ensures.walks.goes (inv.9.on (told-so c.loop-lack.lack c.is_none.result c.is_none.ensures c.loop-lack-test.true))) c.stays_inside-inside.ensures (c.ahead-next.ensures.here (omega (arith, c.if-n-i.false, inv.0))) (turned-quietly c.read-e.ensures c.is_whole.ensures c.if-is_whole.false (quiet-enter (sym c.is_enter.ensures ∙ c.if-is_enter.true) c.on_enter-r.ensures) (omega (arith, c.on_enter-r.auto)) (omega (arith, c.on_enter-r.auto))) (omega (arith, c.on_enter-r.auto)) c.lack-lack-then-is_enter.ensures,
    )

pub handle_exit-r-requires : goal.handle_exit-r-requires
handle_exit-r-requires c = (omega (arith, c.if-n-i.false, c.loop-lack.invariant.0), sym c.is_enter.ensures ∙ c.if-is_enter.false)

pub loop-lack-smaller : goal.loop-lack-smaller
loop-lack-smaller c = omega (arith, c.if-n-i.false, c.ahead-next.ensures.walks.later)

pub loop-lack-preserved : goal.loop-lack-preserved
loop-lack-preserved c = let inv = c.loop-lack.invariant in
    let captures = c.handle_exit-r.new.captures in
    let work = c.loop-lack.work in (
      inv.0,
      lent-long captures work (omega (arith, c.handle_exit-r.auto)) inv.1,
      lent_same captures work (omega (arith, c.handle_exit-r.auto)) inv.1 inv.2,
      omega (arith, c.handle_exit-r.auto, inv),
      omega (arith, c.handle_exit-r.auto, inv),
      omega (arith, c.handle_exit-r.auto, inv),
      omega (arith, c.handle_exit-r.auto, inv),
      omega (arith, c.handle_exit-r.auto, inv),
      omega (arith, c.handle_exit-r.auto, inv),
      stays (omega (arith, c.if-n-i.false, inv.0)) (c.ahead-next.ensures.walks.goes (inv.9.on (told-so c.loop-lack.lack c.is_none.result c.is_none.ensures c.loop-lack-test.true))) c.stays_inside-inside.ensures (c.ahead-next.ensures.here (omega (arith, c.if-n-i.false, inv.0))) (turned-quietly c.read-e.ensures c.is_whole.ensures c.if-is_whole.false c.handle_exit-r.ensures (omega (arith, c.handle_exit-r.auto)) (omega (arith, c.handle_exit-r.auto))) (omega (arith, c.handle_exit-r.auto)) c.lack-lack-in-loop-lack.ensures,
    )

pub overflow_sub-last : goal.overflow_sub-last
overflow_sub-last c = c.loop-lack.invariant.9.past (told-so c.loop-lack.lack c.is_none.result c.is_none.ensures c.loop-lack-test.false)

pub shape_of-work : goal.shape_of-work
shape_of-work c = omega (arith, c.loop-lack.invariant)

pub shape_of-starts : goal.shape_of-starts
shape_of-starts c = omega (arith, c.loop-lack.invariant)

pub shape_of-out : goal.shape_of-out
shape_of-out c = omega (arith, c.loop-lack.invariant)

pub shape_of-definitions : goal.shape_of-definitions
shape_of-definitions c = omega (arith, c.loop-lack.invariant)

pub shape_of-footnotes : goal.shape_of-footnotes
shape_of-footnotes c = omega (arith, c.loop-lack.invariant)

pub shape_of-calls : goal.shape_of-calls
shape_of-calls c = omega (arith, c.loop-lack.invariant)

pub shape_of-labels : goal.shape_of-labels
shape_of-labels c = omega (arith, c.loop-lack.invariant)

pub returns : goal.returns
returns c = rw c.full.ensures (c.loop-lack.invariant.9.over (told-so c.loop-lack.lack c.is_none.result c.is_none.ensures c.loop-lack-test.false))
