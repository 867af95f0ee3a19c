use Rattle.std.proofs.Common.{sym, ap, ◌∙◌, subst}
use Rattle.kernel_bodies.specs.FlatDesign.Code.{arena_of}
use Rattle.kernel_bodies.specs.Layers.{shown}
use Rattle.kernel_bodies.specs.SimModel.Residual.{settle, next_of}
use Rattle.process_state.specs.Bodies as calls
use Rattle.process_bodies.specs.Bodies.{left_with, Agrees, owes}
use Rattle.process_bodies.proofs.Showing.{owed_comes, free_settled, free_next, same_owes}
use Rattle.process_bodies.proofs.body.Body.next.Goals as goal

pub returns-then-owed-clause-value : goal.returns-then-owed-clause-value
returns-then-owed-clause-value c =
    let a = arena_of c.args.program.now.code in
    let r = calls.left_in c.args.program.now c.args.self.now.calls in
    sym (ap (λ w. shown (next_of (settle a (left_with r w)))) c.in-Some.is ∙ ap shown (owed_comes a r c.in-Some.owed (subst (Agrees r) c.in-Some.is c.requires.owed) c.if-owed.true))

pub returns-then-owed-clause-owes : goal.returns-then-owed-clause-owes
returns-then-owed-clause-owes c = λ s q e.
    let a = arena_of c.args.program.now.code in
    let r = calls.left_in c.args.program.now c.args.self.now.calls in
    ap (λ w. next_of (settle a (left_with r w))) c.in-Some.is ∙ owed_comes a r c.in-Some.owed (subst (Agrees r) c.in-Some.is c.requires.owed) c.if-owed.true
    ∙ same_owes c.in-Some.owed.statement c.in-Some.owed.first s q e

pub returns-then-owed-clause-somebody : goal.returns-then-owed-clause-somebody
returns-then-owed-clause-somebody c = λ s q e. ap owes c.in-Some.is ∙ c.if-owed.true

pub returns-else-owed-clause-value : goal.returns-else-owed-clause-value
returns-else-owed-clause-value c = c.next.ensures.value ∙ sym (free_next (arena_of c.args.program.now.code) (calls.left_in c.args.program.now c.args.self.now.calls) c.args.self.now.owed c.requires.owed (ap owes c.in-Some.is ∙ c.if-owed.false))

pub returns-else-owed-clause-statement : goal.returns-else-owed-clause-statement
returns-else-owed-clause-statement c = λ s e. ap next_of (free_settled (arena_of c.args.program.now.code) (calls.left_in c.args.program.now c.args.self.now.calls) c.args.self.now.owed c.requires.owed (ap owes c.in-Some.is ∙ c.if-owed.false)) ∙ c.next.ensures.statement s e

pub returns-else-owed-clause-goal : goal.returns-else-owed-clause-goal
returns-else-owed-clause-goal c = λ k e. ap next_of (free_settled (arena_of c.args.program.now.code) (calls.left_in c.args.program.now c.args.self.now.calls) c.args.self.now.owed c.requires.owed (ap owes c.in-Some.is ∙ c.if-owed.false)) ∙ c.next.ensures.goal k e

pub returns-else-owed-clause-done : goal.returns-else-owed-clause-done
returns-else-owed-clause-done c = λ e. ap next_of (free_settled (arena_of c.args.program.now.code) (calls.left_in c.args.program.now c.args.self.now.calls) c.args.self.now.owed c.requires.owed (ap owes c.in-Some.is ∙ c.if-owed.false)) ∙ c.next.ensures.done e

pub returns-else-owed-clause-nothing : goal.returns-else-owed-clause-nothing
returns-else-owed-clause-nothing c = λ e. ap next_of (free_settled (arena_of c.args.program.now.code) (calls.left_in c.args.program.now c.args.self.now.calls) c.args.self.now.owed c.requires.owed (ap owes c.in-Some.is ∙ c.if-owed.false)) ∙ c.next.ensures.nothing e
