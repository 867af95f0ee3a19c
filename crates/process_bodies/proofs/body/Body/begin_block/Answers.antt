use Rattle.std.proofs.Common.{sym, ap, ◌∙◌, subst}
use Rattle.kernel_bodies.specs.FlatDesign.Code.{arena_of}
use Rattle.kernel_bodies.specs.Around.{around_at}
use Rattle.kernel_bodies.specs.SimModel.Residual as residual
use Rattle.kernel_bodies.specs.SimModel.Residual.{next_of, put}
use Rattle.process_state.specs.Bodies as calls
use Rattle.process_state.specs.Bodies.{enclosed}
use Rattle.process_bodies.specs.Bodies.{left_with, Agrees}
use Rattle.process_bodies.proofs.Showing.{free_settled, free_next, statement_free, statement_too}
use Rattle.process_bodies.proofs.body.Body.begin_block.Goals as goal

pub begin_block-requires-clause-statement : goal.begin_block-requires-clause-statement
begin_block-requires-clause-statement c = statement_too (arena_of c.args.program.now.code) (calls.left_in c.args.program.now c.args.self.now.calls) c.args.self.now.owed c.requires.sound.owed c.requires.statement

pub begin_block-requires-clause-inner : goal.begin_block-requires-clause-inner
begin_block-requires-clause-inner c = λ s is. c.requires.inner s (free_next (arena_of c.args.program.now.code) (calls.left_in c.args.program.now c.args.self.now.calls) c.args.self.now.owed c.requires.sound.owed (statement_free (arena_of c.args.program.now.code) (calls.left_in c.args.program.now c.args.self.now.calls) c.args.self.now.owed c.requires.sound.owed c.requires.statement) ∙ is)

pub returns-clause-left : goal.returns-clause-left
returns-clause-left c = λ s is.
    let same = free_settled (arena_of c.args.program.now.code) (calls.left_in c.args.program.now c.args.self.now.calls) c.args.self.now.owed c.requires.sound.owed (statement_free (arena_of c.args.program.now.code) (calls.left_in c.args.program.now c.args.self.now.calls) c.args.self.now.owed c.requires.sound.owed c.requires.statement) in
    ap (left_with (calls.left_in c.args.program.now c.begin_block.new.self)) c.let_go.ensures ∙ c.begin_block.ensures.left s (sym (ap next_of same) ∙ is) ∙ ap (λ x. put x (enclosed (arena_of c.args.program.now.code) s (around_at (arena_of c.args.program.now.code) s) (residual.block (arena_of c.args.program.now.code) c.args.block))) (sym same)

pub returns-clause-sound : goal.returns-clause-sound
returns-clause-sound c = record { calls = c.begin_block.ensures.sound; owed = subst (Agrees (calls.left_in c.args.program.now c.begin_block.new.self)) (sym c.let_go.ensures) tt }
