use Rattle.std.proofs.Common.{reverse, sym, ap, ◌∙◌}
use Rattle.kernel_bodies.specs.FlatDesign.Code.{arena_of}
use Rattle.kernel_bodies.specs.SimModel.Residual.{next_of, put, batch}
use Rattle.process_state.specs.Bodies as calls
use Rattle.process_bodies.proofs.Places.{shows_place}
use Rattle.process_bodies.proofs.Showing.{free_settled, statement_free, statement_too, same_statement}
use Rattle.process_bodies.proofs.body.Body.owe.Goals as goal

pub statement_in_place-statement-requires : goal.statement_in_place-statement-requires
statement_in_place-statement-requires c = statement_too (arena_of c.args.program.now.code) (calls.left_in c.args.program.now c.args.self.now.calls) c.args.self.now.owed c.requires.sound.owed c.requires.statement

pub owe_to-requires-clause-place : goal.owe_to-requires-clause-place
owe_to-requires-clause-place c = shows_place (calls.settled_in c.args.program.now c.args.self.now.calls) c.statement_in_place-statement.result c.statement_in_place-statement.ensures

pub returns-clause-left : goal.returns-clause-left
returns-clause-left c = λ s is.
    let same = free_settled (arena_of c.args.program.now.code) (calls.left_in c.args.program.now c.args.self.now.calls) c.args.self.now.owed c.requires.sound.owed (statement_free (arena_of c.args.program.now.code) (calls.left_in c.args.program.now c.args.self.now.calls) c.args.self.now.owed c.requires.sound.owed c.requires.statement) in
    let t = c.statement_in_place-statement.result in
    c.owe_to.ensures.left
    ∙ ap (λ n. put (calls.settled_in c.args.program.now c.args.self.now.calls) (batch n (reverse c.args.list.items))) (same_statement (next_of (calls.settled_in c.args.program.now c.args.self.now.calls)) t s c.statement_in_place-statement.ensures (sym (ap next_of same) ∙ is))
    ∙ ap (λ x. put x (batch s (reverse c.args.list.items))) (sym same)
