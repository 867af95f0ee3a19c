use Rattle.std.proofs.Common.{sym, ap, ◌∙◌, subst}
use Rattle.kernel_bodies.specs.FlatDesign.Code.{arena_of}
use Rattle.kernel_bodies.specs.SimModel.Residual.{Residual, next_of, put, settle, skip}
use Rattle.kernel_bodies.specs.Layers.{shown}
use Rattle.process_state.specs.Bodies.{IsStatement}
use Rattle.process_state.proofs.body.Body.past_inside.Goals as goal

pub past_landed-requires-clause-statement : goal.past_landed-requires-clause-statement
past_landed-requires-clause-statement c =
    let P : Residual → Type 0 = λ x. IsStatement (shown (next_of (settle (arena_of c.args.program.now.code) x))) in
    subst P (sym (c.pass_first.ensures.stays c.if-not-pass_first.true)) c.requires.statement

pub returns-then-not-pass_first-clause-left : goal.returns-then-not-pass_first-clause-left
returns-then-not-pass_first-clause-left c = c.past_landed.ensures.left ∙ ap (λ x. put (settle (arena_of c.args.program.now.code) x) skip) (c.pass_first.ensures.stays c.if-not-pass_first.true)
