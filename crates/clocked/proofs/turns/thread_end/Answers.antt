use Rattle.std.proofs.Common.{[], ◌∷◌}
use Rattle.model_lexer.specs.Views.{token_of}
use Rattle.clocked.specs.Expanded.{put, body_behind, reset_method}
use Rattle.clocked.specs.Views.{reset_if}
use Rattle.clocked.proofs.Adding.{adds_then}
use Rattle.clocked.proofs.turns.thread_end.Goals as goal

pub returns : goal.returns
returns c =
    adds_then c.reset_method.result c.args.out.now c.body_behind.new.out c.reset_method.new.out (put c.args.at body_behind)
    ((token_of c.args.token.kind, c.args.token.line) ∷ put c.args.token.line (reset_method c.args.head.thread.now (reset_if c.args.head.asynchronous)))
    c.in_ok-body_behind.ensures
    (adds_then c.reset_method.result c.body_behind.new.out c.add.new.out c.reset_method.new.out ((token_of c.args.token.kind, c.args.token.line) ∷ [])
    (put c.args.token.line (reset_method c.args.head.thread.now (reset_if c.args.head.asynchronous))) c.in_ok-add.ensures c.reset_method.ensures)
