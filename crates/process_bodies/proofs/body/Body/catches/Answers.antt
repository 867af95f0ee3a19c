use Rattle.std.proofs.Common.{sym, ap, ◌∙◌, subst}
use Rattle.kernel_bodies.specs.FlatDesign.Code.{arena_of}
use Rattle.kernel_bodies.specs.SimModel.Unwinding.{catches}
use Rattle.process_state.specs.Bodies as calls
use Rattle.process_bodies.proofs.Places.{owed_catches}
use Rattle.process_bodies.proofs.Showing.{shows_settled}
use Rattle.process_bodies.proofs.body.Body.catches.Goals as goal

pub returns : goal.returns
returns c = c.catches.ensures ∙ sym (shows_settled (λ r. catches r c.args.name) (λ o r. owed_catches o r c.args.name) (arena_of c.args.program.now.code) (calls.left_in c.args.program.now c.args.self.now.calls) c.args.self.now.owed)
