use Rattle.std.proofs.Common.{◌∙◌}
use Rattle.elaborate_objects.proofs.Closed.{none_settled}
use Rattle.elaborate_objects.proofs.settled.are_settled.Goals as goal

pub returns : goal.returns
returns c = λ all ms is.
    none_settled ms c.args.made.now is c.as_mut_slice.result.now c.settle_all.new.marks (c.as_mut_slice.ensures.value ∙ c.in_ok-marks.ensures) c.settle_all.ensures.settled (c.settle_all.ensures.all all)
