use Rattle.std.proofs.Common.{refl}
use Rattle.model_lexer.specs.Views.{front_of}
use Rattle.model_lexer.proofs.Later.{one_told}
use Rattle.model_lexer.proofs.languages.in_second.Goals as goal

pub loop-token-preserved : goal.loop-token-preserved
loop-token-preserved c =
    let x = c.token-item.result in
    rw c.behind-front.ensures
    (one_told (front_of c.loop-token.front) c.args.tokens.now c.loop-token.found c.push.new.found c.loop-token.token-index x (record { kind = c.later_kind-kind.result; start = x.start; end = x.end; line = x.line })
    c.loop-token-test.true c.token-item.is c.in_ok-push.ensures.ok c.later_kind-kind.ensures refl _ c.loop-token.invariant)
