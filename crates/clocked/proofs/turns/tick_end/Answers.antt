use Rattle.std.proofs.Common.{[], ◌∷◌}
use Rattle.model_lexer.specs.Views.{token_of}
use Rattle.clocked.specs.Expanded.{put, tick_behind}
use Rattle.clocked.specs.Views.{reset_if}
use Rattle.clocked.proofs.Adding.{adds_then}
use Rattle.clocked.proofs.turns.tick_end.Goals as goal

pub returns : goal.returns
returns c =
    adds_then c.tick_behind.result c.args.out.now c.add.new.out c.tick_behind.new.out ((token_of c.args.token.kind, c.args.token.line) ∷ [])
    (put c.args.token.line (tick_behind (reset_if c.args.head.asynchronous, reset_if c.args.head.synchronous))) c.in_ok-add.ensures c.tick_behind.ensures
