use Rattle.std.proofs.Common.{sym, ◌∙◌}
use Rattle.std.specs.Prelude.{Ok}
use Rattle.exec_data.specs.SimModel.Control.{disables}
use Rattle.exec_control.proofs.Resumed.{follows_alive, follows_over}
use Rattle.exec_control.proofs.flags.set_disabled.Goals as goal

pub disable_live-requires-clause-lives : goal.disable_live-requires-clause-lives
disable_live-requires-clause-lives c = sym c.lives.ensures ∙ c.if-lives.true

pub returns-then-lives-clause-follows : goal.returns-then-lives-clause-follows
returns-then-lives-clause-follows c = λ d h. follows_alive c.args.k.now d h c.args.q (sym c.lives.ensures ∙ c.if-lives.true) c.disable_live.new.k (λ i. disables d c.args.q c.args.on) (λ i there. c.disable_live.ensures.moves d h)

pub returns-else-lives-clause-follows : goal.returns-else-lives-clause-follows
returns-else-lives-clause-follows c = λ d h. follows_over c.args.k.now d h c.args.q (sym c.lives.ensures ∙ c.if-lives.false) (λ i. Ok (disables d c.args.q c.args.on))
