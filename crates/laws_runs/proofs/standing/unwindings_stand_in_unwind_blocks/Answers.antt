use Rattle.laws_runs.specs.Standing.{OfBody}
use Rattle.laws_runs.proofs.BodiesKept.{goalless-ordinary, settle-standing, returned-standing, local-standing, unw-unwinding, raise-standing}
use Rattle.laws_runs.proofs.standing.unwindings_stand_in_unwind_blocks.Goals as goal

pub returns : goal.returns
returns c = record {
  settles = settle-standing;
  returns = returned-standing;
  sets = local-standing;
  unwinds = λ d home r k h none. unw-unwinding (OfBody d) d home r (goalless-ordinary d home r h none);
  raises = λ d e k home r h none. raise-standing d e k home r (goalless-ordinary d home r h none);
}
