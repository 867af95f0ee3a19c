use Rattle.std.proofs.Common.{sym, ap, ◌∙◌, subst}
use Rattle.kernel_bodies.specs.FlatDesign.Code.{arena_of}
use Rattle.kernel_bodies.specs.SimModel.Residual.{within}
use Rattle.process_state.specs.Bodies as calls
use Rattle.process_bodies.proofs.Places.{owed_within}
use Rattle.process_bodies.proofs.Showing.{shows_settled}
use Rattle.process_bodies.proofs.body.Body.within.Goals as goal

pub returns : goal.returns
returns c = c.within.ensures ∙ (sym (shows_settled within owed_within (arena_of c.args.program.now.code) (calls.left_in c.args.program.now c.args.self.now.calls) c.args.self.now.owed))
