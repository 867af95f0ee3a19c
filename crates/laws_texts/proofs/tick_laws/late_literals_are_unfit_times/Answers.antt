use Rattle.laws_texts.proofs.Late.{late_is_unfit}
use Rattle.laws_texts.proofs.tick_laws.late_literals_are_unfit_times.Goals as goal

pub returns : goal.returns
returns c = λ r m f found is. late_is_unfit r m f (c.unfit_times_are_past.ensures r m) found is
