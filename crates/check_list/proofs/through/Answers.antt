-- The first break is the answer; without a link, an image or a call there is none in 7. Assumes nothing.
use borrow.Author.Tests.{not-true}
use Rattle.check_list.proofs.Order.{slices-pass, slices-fail, counts-pass, counts-fail, labels-pass, labels-fail}
use Rattle.check_list.proofs.Uses.{no-uses}
use Rattle.check_list.proofs.through.Goals as goal

pub returns-in-Some : goal.returns-in-Some
returns-in-Some c = search slices-fail

pub returns-in-Some-counts : goal.returns-in-Some-counts
returns-in-Some-counts c = search (slices-pass, counts-fail)

pub returns-then-not-p : goal.returns-then-not-p
returns-then-not-p c = search (slices-pass, counts-pass, no-uses, not-true)

pub returns-in-Some-check_labels : goal.returns-in-Some-check_labels
returns-in-Some-check_labels c = search (slices-pass, counts-pass, labels-fail)

pub returns : goal.returns
returns c = search (slices-pass, counts-pass, labels-pass)
