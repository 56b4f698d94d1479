-- A reference computes at its byte; any other byte is kept. Assumes nothing.
use Rattle.lent.proofs.Writing.{by}
use Rattle.encode_byte.specs.Byte.{encode_byte}
use Rattle.encode_byte.proofs.Laws.{kept}
use Rattle.encode_byte.proofs.put_reference.Goals as goal

pub returns-in-0 : goal.returns-in-0
unfolding encode_byte
returns-in-0 c = rw c.in-0.is c.put_all.ensures

pub returns-in-38 : goal.returns-in-38
unfolding encode_byte
returns-in-38 c = rw c.in-38.is c.put_all-in-38.ensures

pub returns-in-60 : goal.returns-in-60
unfolding encode_byte
returns-in-60 c = rw c.in-60.is c.put_all-in-60.ensures

pub returns-in-62 : goal.returns-in-62
unfolding encode_byte
returns-in-62 c = rw c.in-62.is c.put_all-in-62.ensures

pub returns-in-34 : goal.returns-in-34
unfolding encode_byte
returns-in-34 c = rw c.in-34.is c.put_all-in-34.ensures

pub returns-in-39 : goal.returns-in-39
unfolding encode_byte
returns-in-39 c = rw c.in-39.is c.put_all-in-39.ensures

pub returns-in_default : goal.returns-in_default
returns-in_default c = search (by, kept)
