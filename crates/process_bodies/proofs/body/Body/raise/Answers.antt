use Rattle.std.proofs.Common.{sym, ◌∙◌}
use Rattle.kernel_bodies.specs.FlatDesign.Code.{arena_of}
use Rattle.kernel_bodies.specs.SimModel.Residual.{has_goal}
use Rattle.kernel_bodies.specs.SimModel.Unwinding.{catches}
use Rattle.process_state.specs.Bodies as calls
use Rattle.process_bodies.proofs.Places.{owed_goal, owed_catches}
use Rattle.process_bodies.proofs.Showing.{shows_now, raised_with}
use Rattle.process_bodies.proofs.body.Body.raise.Goals as goal

pub raise-requires-clause-free : goal.raise-requires-clause-free
raise-requires-clause-free c = sym (shows_now has_goal owed_goal (calls.left_in c.args.program.now c.args.self.now.calls) c.args.self.now.owed) ∙ c.requires.free

pub returns-then-not-raise-clause-caught : goal.returns-then-not-raise-clause-caught
returns-then-not-raise-clause-caught c = sym c.if-not-raise.true ∙ c.raise.ensures.caught ∙ sym (shows_now (λ x. catches x c.args.name) (λ o x. owed_catches o x c.args.name) (calls.left_in c.args.program.now c.args.self.now.calls) c.args.self.now.owed)

pub returns-clause-caught : goal.returns-clause-caught
returns-clause-caught c = sym c.if-not-raise.false ∙ c.raise.ensures.caught ∙ sym (shows_now (λ x. catches x c.args.name) (λ o x. owed_catches o x c.args.name) (calls.left_in c.args.program.now c.args.self.now.calls) c.args.self.now.owed)

pub returns-clause-left : goal.returns-clause-left
returns-clause-left c = λ e.
    c.raise.ensures.left c.if-not-raise.false ∙ sym (raised_with (arena_of c.args.program.now.code) (calls.left_in c.args.program.now c.args.self.now.calls) c.args.self.now.owed c.args.name c.args.end (sym c.raise.ensures.caught ∙ c.if-not-raise.false))
