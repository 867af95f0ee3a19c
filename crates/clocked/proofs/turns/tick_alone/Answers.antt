use Rattle.model_lexer.specs.Views.{token_of}
use Rattle.clocked.specs.Expanded.{put}
use Rattle.clocked.specs.Turns.{tick_end, tick_one}
use Rattle.clocked.specs.Views.{head_in}
use Rattle.clocked.proofs.Adding.{adds_then}
use Rattle.clocked.proofs.turns.tick_alone.Goals as goal

pub returns : goal.returns
returns c =
    adds_then c.tick_end.result c.args.out.now c.tick_one.new.out c.tick_end.new.out (put c.args.at tick_one)
    (tick_end (head_in c.args.head) (token_of c.args.token.kind) c.args.token.line) c.in_ok-tick_one.ensures c.tick_end.ensures
