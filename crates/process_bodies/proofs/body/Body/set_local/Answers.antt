use Rattle.std.proofs.Common.{sym, ap, ◌∙◌, subst}
use Rattle.kernel_bodies.specs.FlatDesign.Code.{arena_of}
use Rattle.kernel_bodies.specs.SimModel.Storing.{with_local}
use Rattle.process_state.specs.Bodies as calls
use Rattle.process_bodies.specs.Bodies.{left_with, Agrees}
use Rattle.process_bodies.proofs.Showing.{set_with, set_agrees}
use Rattle.process_bodies.proofs.body.Body.set_local.Goals as goal

pub returns-clause-left : goal.returns-clause-left
returns-clause-left c = λ a. ap (λ x. left_with x c.args.self.now.owed) (c.set_local.ensures.left a) ∙ sym (set_with (with_local c.args.number c.args.value) (calls.left_of a c.args.self.now.calls) c.args.self.now.owed)

pub returns-clause-sound : goal.returns-clause-sound
returns-clause-sound c = λ p h. record {
  calls = c.set_local.ensures.sound p h.calls;
  owed = subst (λ x. Agrees x c.args.self.now.owed) (sym (c.set_local.ensures.left (arena_of p.code))) (set_agrees (with_local c.args.number c.args.value) (calls.left_in p c.args.self.now.calls) c.args.self.now.owed h.owed);
}
