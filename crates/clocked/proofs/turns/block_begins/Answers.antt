use Rattle.std.proofs.Common.{[], ◌∷◌}
use Rattle.model_lexer.specs.Views.{token_of}
use Rattle.clocked.specs.Expanded.{put, body_before}
use Rattle.clocked.proofs.Adding.{adds_then}
use Rattle.clocked.proofs.turns.block_begins.Goals as goal

pub returns : goal.returns
returns c =
    adds_then c.body_before.result c.args.out.now c.add.new.out c.body_before.new.out ((token_of c.args.token.kind, c.args.token.line) ∷ []) (put c.args.token.line body_before) c.in_ok-add.ensures c.body_before.ensures
