use Rattle.std.proofs.Common.{OnOk, ◌<◌, ◌≤◌, sym, subst}
use Rattle.kernel_bodies.specs.FlatDesign.Code.{arena_of}
use Rattle.kernel_bodies.specs.SimModel.Residual.{open_frames}
use Rattle.kernel_bodies.specs.SimModel.Calls.{frame_limit}
use Rattle.process_state.specs.Bodies as calls
use Rattle.process_bodies.proofs.Places.{owed_frames}
use Rattle.process_bodies.proofs.Showing.{shows_settled}
use Rattle.process_bodies.proofs.body.Body.reserve.Goals as goal

pub returns-clause-shallow : goal.returns-clause-shallow
returns-clause-shallow c = subst (λ n. OnOk c.reserve.result (n < frame_limit)) (sym (shows_settled open_frames owed_frames (arena_of c.args.program.now.code) (calls.left_in c.args.program.now c.args.self.now.calls) c.args.self.now.owed)) c.reserve.ensures.shallow

pub returns-clause-deep : goal.returns-clause-deep
returns-clause-deep c = λ e. subst (λ n. frame_limit ≤ n) (sym (shows_settled open_frames owed_frames (arena_of c.args.program.now.code) (calls.left_in c.args.program.now c.args.self.now.calls) c.args.self.now.owed)) (c.reserve.ensures.deep e)

pub returns-clause-only : goal.returns-clause-only
returns-clause-only c = λ e. c.reserve.ensures.only (subst (λ n. frame_limit ≤ n) (shows_settled open_frames owed_frames (arena_of c.args.program.now.code) (calls.left_in c.args.program.now c.args.self.now.calls) c.args.self.now.owed) e)

pub returns-clause-succeeds : goal.returns-clause-succeeds
returns-clause-succeeds c = λ room few. c.reserve.ensures.succeeds room (subst (λ n. n < frame_limit) (shows_settled open_frames owed_frames (arena_of c.args.program.now.code) (calls.left_in c.args.program.now c.args.self.now.calls) c.args.self.now.owed) few)
