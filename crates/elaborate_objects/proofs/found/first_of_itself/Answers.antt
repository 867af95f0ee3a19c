use Rattle.std.proofs.Common.{◌∙◌}
use Rattle.elaborate_objects.proofs.Having.{itself_found}
use Rattle.elaborate_objects.proofs.found.first_of_itself.Goals as goal

pub returns : goal.returns
returns c = λ ms is.
    c.first_leading.ensures.first
    ∙ itself_found ms c.args.made.now is c.args.place c.as_mut_slice.result.now c.first_leading.new.marks (c.as_mut_slice.ensures.value ∙ c.in_ok-marks.ensures) c.first_leading.auto.marks c.first_leading.ensures.found c.first_leading.ensures.all
