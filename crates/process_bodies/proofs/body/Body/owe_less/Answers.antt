use Rattle.std.proofs.Common.{◌≡◌, Some, None, true, false, reverse, sym, ap, ◌∙◌, subst, true≢false}
use Rattle.kernel_bodies.specs.FlatDesign.Code.{arena_of}
use Rattle.kernel_bodies.specs.Layers.{shown}
use Rattle.kernel_bodies.specs.SimModel.Residual.{settle, next_of, put, batch, taken_off}
use Rattle.process_state.specs.declared.body.Body.{Body as Calls}
use Rattle.process_state.specs.Bodies as calls
use Rattle.process_bodies.specs.Bodies.{left_with, in_place, Agrees, owes, first_owed}
use Rattle.process_bodies.proofs.Places.{plain_settled, taken_put}
use Rattle.process_bodies.proofs.Showing.{owed_settles, settled_place, owed_comes}
use Rattle.process_bodies.proofs.body.Body.owe_less.Goals as goal

pub owe_to-requires-clause-calls : goal.owe_to-requires-clause-calls
owe_to-requires-clause-calls c = subst (λ (b : Calls). calls.IsSound c.args.program.now b) (sym c.take_owed.ensures.calls) c.requires.sound.calls

pub owe_to-requires-clause-place : goal.owe_to-requires-clause-place
owe_to-requires-clause-place c =
    let a = arena_of c.args.program.now.code in
    let r = calls.left_in c.args.program.now c.args.self.now.calls in
    let o = c.in-Some.owed in
    let at = sym c.take_owed.ensures.owed ∙ c.in-Some.is in
    subst (λ (b : Calls). in_place (calls.settled_in c.args.program.now b) ≡ Some o.statement) (sym c.take_owed.ensures.calls)
    (settled_place a r o (subst (Agrees r) at c.requires.sound.owed) (ap owes (sym at) ∙ c.requires.owes))

pub returns-in-Some-clause-answer : goal.returns-in-Some-clause-answer
returns-in-Some-clause-answer c =
    let a = arena_of c.args.program.now.code in
    let r = calls.left_in c.args.program.now c.args.self.now.calls in
    let o = c.in-Some.owed in
    let at = sym c.take_owed.ensures.owed ∙ c.in-Some.is in
    sym (ap (λ w. first_owed (shown (next_of (settle a (left_with r w))))) at ∙ ap (λ n. first_owed (shown n)) (owed_comes a r o (subst (Agrees r) at c.requires.sound.owed) (ap owes (sym at) ∙ c.requires.owes)))

pub returns-in-Some-clause-some : goal.returns-in-Some-clause-some
returns-in-Some-clause-some c = λ e. cc

pub returns-in-Some-clause-left : goal.returns-in-Some-clause-left
returns-in-Some-clause-left c =
    let a = arena_of c.args.program.now.code in
    let r = calls.left_in c.args.program.now c.args.self.now.calls in
    let o = c.in-Some.owed in
    let at = sym c.take_owed.ensures.owed ∙ c.in-Some.is in
    let agrees = subst (Agrees r) at c.requires.sound.owed in
    let somebody = ap owes (sym at) ∙ c.requires.owes in
    c.owe_to.ensures.left
    ∙ ap (λ (b : Calls). put (calls.settled_in c.args.program.now b) (batch o.statement (reverse o.rest.items))) c.take_owed.ensures.calls
    ∙ sym (taken_put o (settle a r) o.statement (settled_place a r o agrees somebody) (plain_settled a r))
    ∙ sym (ap taken_off (ap (λ w. settle a (left_with r w)) at ∙ owed_settles a r o agrees somebody))

pub returns-in-Some-clause-kept : goal.returns-in-Some-clause-kept
returns-in-Some-clause-kept c = record {
  code = c.owe_to.ensures.kept.code ∙ ap (λ (b : Calls). b.code) c.take_owed.ensures.calls;
  arguments = c.owe_to.ensures.kept.arguments ∙ ap (λ (b : Calls). b.arguments.items) c.take_owed.ensures.calls;
}

pub returns-in-None-clause-answer : goal.returns-in-None-clause-answer
returns-in-None-clause-answer c = absurd (true≢false (sym c.requires.owes ∙ ap owes (sym c.take_owed.ensures.owed ∙ c.in-None.is)))

pub returns-in-None-clause-some : goal.returns-in-None-clause-some
returns-in-None-clause-some c = λ e. true≢false (sym c.requires.owes ∙ ap owes (sym c.take_owed.ensures.owed ∙ c.in-None.is))

pub returns-in-None-clause-left : goal.returns-in-None-clause-left
returns-in-None-clause-left c = absurd (true≢false (sym c.requires.owes ∙ ap owes (sym c.take_owed.ensures.owed ∙ c.in-None.is)))
