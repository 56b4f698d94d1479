use Rattle.bundle_parts.proofs.end.Goals as goal

pub returns : goal.returns
returns c = c.end_state-state.ensures _
