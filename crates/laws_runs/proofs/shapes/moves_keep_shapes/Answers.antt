use Rattle.laws_runs.proofs.ShapeLemmas.{goalless-normal, settle-shaped, put-shaped, returned-shaped, local-shaped, unw-unwound, raise-shaped}
use Rattle.laws_runs.proofs.shapes.moves_keep_shapes.Goals as goal

pub returns : goal.returns
returns c = record {
  settles = settle-shaped;
  goes_on = put-shaped;
  returns = returned-shaped;
  sets = local-shaped;
  unwinds = λ r k h none. unw-unwound r (goalless-normal r h none);
  raises = λ a e k r h none. raise-shaped a e k r (goalless-normal r h none);
}
