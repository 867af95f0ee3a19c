use Rattle.std.proofs.Common.{sym, ap, ◌∙◌, subst}
use Rattle.process_state.specs.Bodies as calls
use Rattle.process_bodies.specs.Bodies.{left_with, Agrees}
use Rattle.process_bodies.proofs.body.Body.restart.Goals as goal

pub returns-clause-left : goal.returns-clause-left
returns-clause-left c = ap (left_with (calls.left_in c.args.program.now c.restart.new.self)) c.let_go.ensures ∙ c.restart.ensures.left

pub returns-clause-sound : goal.returns-clause-sound
returns-clause-sound c = record { calls = c.restart.ensures.sound; owed = subst (Agrees (calls.left_in c.args.program.now c.restart.new.self)) (sym c.let_go.ensures) tt }
