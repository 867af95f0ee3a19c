use Rattle.std.proofs.Common.{Some, [], ◌∷◌, reverse, sym, ap, ◌∙◌}
use Rattle.kernel_bodies.specs.SimModel.Residual.{put, batch}
use Rattle.process_state.specs.Bodies as calls
use Rattle.process_bodies.proofs.body.Body.owe_to.Goals as goal

pub owe_some-requires-clause-place : goal.owe_some-requires-clause-place
owe_some-requires-clause-place c = c.requires.place ∙ ap Some (sym c.owed_to-owed.ensures.statement)

pub owe_none-requires-clause-place : goal.owe_none-requires-clause-place
owe_none-requires-clause-place c = c.requires.place ∙ ap Some (sym c.owed_to-owed.ensures.statement)

pub returns-then-owed-clause-left : goal.returns-then-owed-clause-left
returns-then-owed-clause-left c =
    let o = c.owed_to-owed.result in
    c.owe_some.ensures.left ∙ ap (λ n. put (calls.settled_in c.args.program.now c.args.self.now.calls) (batch n (o.first ∷ reverse o.rest.items))) c.owed_to-owed.ensures.statement
    ∙ ap (λ qs. put (calls.settled_in c.args.program.now c.args.self.now.calls) (batch c.args.statement qs)) (sym (c.owed_to-owed.ensures.somebody c.if-owed.true))

pub returns-else-owed-clause-left : goal.returns-else-owed-clause-left
returns-else-owed-clause-left c =
    c.owe_none.ensures.left ∙ ap (λ n. put (calls.settled_in c.args.program.now c.args.self.now.calls) (batch n [])) c.owed_to-owed.ensures.statement
    ∙ ap (λ qs. put (calls.settled_in c.args.program.now c.args.self.now.calls) (batch c.args.statement (reverse qs))) (sym (c.owed_to-owed.ensures.nobody c.if-owed.false))
