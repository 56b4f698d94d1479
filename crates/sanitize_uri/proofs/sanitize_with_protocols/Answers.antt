-- The URL sanitized, or nothing.
use Rattle.lent.proofs.Writing.{by}
use Rattle.sanitize_uri.proofs.Schemes.{not-allowed, is-allowed}
use Rattle.sanitize_uri.proofs.sanitize_with_protocols.Goals as goal

pub returns-then-is_allowed : goal.returns-then-is_allowed
returns-then-is_allowed c = by (is-allowed _ _ _ _ c.is_allowed.ensures c.if-is_allowed.true) c.sanitize.ensures

pub returns-else-is_allowed : goal.returns-else-is_allowed
returns-else-is_allowed c = not-allowed _ _ _ _ c.is_allowed.ensures c.if-is_allowed.false
