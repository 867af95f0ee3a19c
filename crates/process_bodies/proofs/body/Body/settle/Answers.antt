use Rattle.std.proofs.Common.{sym, ap, ◌∙◌, subst}
use Rattle.kernel_bodies.specs.FlatDesign.Code.{arena_of}
use Rattle.process_state.specs.Bodies as calls
use Rattle.process_bodies.specs.Bodies.{left_with, Agrees}
use Rattle.process_bodies.proofs.Showing.{owing_settles, owing_agrees, free_settled}
use Rattle.process_bodies.proofs.body.Body.settle.Goals as goal

pub returns-then-owes-clause-left : goal.returns-then-owes-clause-left
returns-then-owes-clause-left c = ap (λ x. left_with x c.args.self.now.owed) c.settle.ensures.left ∙ sym (owing_settles (arena_of c.args.program.now.code) (calls.left_in c.args.program.now c.args.self.now.calls) c.args.self.now.owed c.requires.owed (sym c.owes.ensures ∙ c.if-owes.true))

pub returns-then-owes-clause-sound : goal.returns-then-owes-clause-sound
returns-then-owes-clause-sound c = record {
  calls = c.settle.ensures.sound;
  owed = subst (λ x. Agrees x c.args.self.now.owed) (sym c.settle.ensures.left) (owing_agrees (arena_of c.args.program.now.code) (calls.left_in c.args.program.now c.args.self.now.calls) c.args.self.now.owed c.requires.owed (sym c.owes.ensures ∙ c.if-owes.true));
}

pub returns-clause-left : goal.returns-clause-left
returns-clause-left c = c.settle.ensures.left ∙ sym (free_settled (arena_of c.args.program.now.code) (calls.left_in c.args.program.now c.args.self.now.calls) c.args.self.now.owed c.requires.owed (sym c.owes.ensures ∙ c.if-owes.false))

pub returns-clause-sound : goal.returns-clause-sound
returns-clause-sound c = record { calls = c.settle.ensures.sound; owed = tt }
