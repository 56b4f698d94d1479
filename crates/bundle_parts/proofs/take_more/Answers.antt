-- With a rest or without. Assumes nothing.
use Rattle.bundle_parts.proofs.Calls.{more-first, more-passed, more-joined}
use Rattle.std.proofs.Common.{sym, ◌∙◌, rules}
use Rattle.bundle_parts.proofs.take_more.Goals as goal

pub returns-then-held-eq0 : goal.returns-then-held-eq0
returns-then-held-eq0 c = search more-first

pub returns-then-is_whole : goal.returns-then-is_whole
returns-then-is_whole c = let at = c.args in
    more-passed at.state at.rest.now at.part.now at.text.now at.events.now c.min-held.ensures c.if-held-eq0.false c.requires _ c.is_whole.ensures
    c.if-is_whole.true c.bare.ensures

pub join-requires : goal.join-requires
join-requires c = (search rules, sym c.is_whole.ensures ∙ c.if-is_whole.false, search rules)

pub returns : goal.returns
returns c = let at = c.args in
    more-joined at.state at.rest.now at.part.now at.text.now at.events.now c.min-held.ensures c.if-held-eq0.false c.requires _ c.join.ensures
