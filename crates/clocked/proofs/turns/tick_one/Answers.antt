use Rattle.std.proofs.Common.{[], ◌∷◌}
use Rattle.model_lexer.specs.Tokens.{number}
use Rattle.clocked.specs.Expanded.{put, tick_before}
use Rattle.clocked.proofs.Adding.{adds_then}
use Rattle.clocked.proofs.turns.tick_one.Goals as goal

pub returns : goal.returns
returns c =
    adds_then c.add.result c.args.out.now c.tick_before.new.out c.add.new.out (put c.args.at tick_before) ((number 1, c.args.at) ∷ []) c.in_ok-tick_before.ensures c.add.ensures
