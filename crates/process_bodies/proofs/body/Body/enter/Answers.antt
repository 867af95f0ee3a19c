use Rattle.std.proofs.Common.{◌<◌, ◌≤◌, Some, sym, ap, ◌∙◌, subst}
use Rattle.kernel_bodies.specs.FlatDesign.Code.{arena_of}
use Rattle.kernel_bodies.specs.SimModel.Residual.{next_of, put, entered, open_frames}
use Rattle.kernel_bodies.specs.SimModel.Calls.{frame_limit}
use Rattle.process_state.specs.Bodies as calls
use Rattle.process_bodies.proofs.Places.{owed_frames}
use Rattle.process_bodies.proofs.Showing.{shows_settled, free_settled, statement_free, statement_too}
use Rattle.process_bodies.proofs.body.Body.enter.Goals as goal

pub enter-requires-clause-statement : goal.enter-requires-clause-statement
enter-requires-clause-statement c = statement_too (arena_of c.args.program.now.code) (calls.left_in c.args.program.now c.args.self.now.calls) c.args.self.now.owed c.requires.sound.owed c.requires.statement

pub returns-in-Ok-clause-entered : goal.returns-in-Ok-clause-entered
returns-in-Ok-clause-entered c = λ s is.
    let same = free_settled (arena_of c.args.program.now.code) (calls.left_in c.args.program.now c.args.self.now.calls) c.args.self.now.owed c.requires.sound.owed (statement_free (arena_of c.args.program.now.code) (calls.left_in c.args.program.now c.args.self.now.calls) c.args.self.now.owed c.requires.sound.owed c.requires.statement) in
    c.in-Ok.ensures.entered s (sym (ap next_of same) ∙ is) ∙ ap (λ x. put x (entered (arena_of c.args.program.now.code) c.args.function c.args.arguments.items (Some s) c.args.via)) (sym same)

pub returns-in-Ok-clause-shallow : goal.returns-in-Ok-clause-shallow
returns-in-Ok-clause-shallow c = subst (λ n. n < frame_limit) (sym (shows_settled open_frames owed_frames (arena_of c.args.program.now.code) (calls.left_in c.args.program.now c.args.self.now.calls) c.args.self.now.owed)) c.in-Ok.ensures.shallow

pub returns-in-Ok-clause-only : goal.returns-in-Ok-clause-only
returns-in-Ok-clause-only c = λ e. c.in-Ok.ensures.only (subst (λ n. frame_limit ≤ n) (shows_settled open_frames owed_frames (arena_of c.args.program.now.code) (calls.left_in c.args.program.now c.args.self.now.calls) c.args.self.now.owed) e)

pub returns-in-Err-clause-deep : goal.returns-in-Err-clause-deep
returns-in-Err-clause-deep c = λ e. subst (λ n. frame_limit ≤ n) (sym (shows_settled open_frames owed_frames (arena_of c.args.program.now.code) (calls.left_in c.args.program.now c.args.self.now.calls) c.args.self.now.owed)) (c.in-Err.ensures.deep e)

pub returns-in-Err-clause-only : goal.returns-in-Err-clause-only
returns-in-Err-clause-only c = λ e. c.in-Err.ensures.only (subst (λ n. frame_limit ≤ n) (shows_settled open_frames owed_frames (arena_of c.args.program.now.code) (calls.left_in c.args.program.now c.args.self.now.calls) c.args.self.now.owed) e)

pub returns-in-Err-clause-succeeds : goal.returns-in-Err-clause-succeeds
returns-in-Err-clause-succeeds c = λ room fits few. c.in-Err.ensures.succeeds room fits (subst (λ n. n < frame_limit) (shows_settled open_frames owed_frames (arena_of c.args.program.now.code) (calls.left_in c.args.program.now c.args.self.now.calls) c.args.self.now.owed) few)
