use Rattle.std.proofs.Common.{sym, ap, ◌∙◌, subst}
use Rattle.process_state.specs.Bodies as calls
use Rattle.process_bodies.specs.Bodies.{left_with, Agrees}
use Rattle.process_bodies.proofs.body.Body.idle.Goals as goal

pub returns-clause-left : goal.returns-clause-left
returns-clause-left c = λ a. ap (left_with (calls.left_of a c.idle.new.self)) c.let_go.ensures ∙ c.idle.ensures.left a

pub returns-clause-sound : goal.returns-clause-sound
returns-clause-sound c = λ p h. record { calls = c.idle.ensures.sound p h.calls; owed = subst (Agrees (calls.left_in p c.idle.new.self)) (sym c.let_go.ensures) tt }
