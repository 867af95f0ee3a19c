use Rattle.std.proofs.Common.{sym, ◌∙◌}
use Rattle.std.specs.Prelude.{Ok}
use Rattle.exec_data.specs.SimModel.Control.{resumes}
use Rattle.exec_control.proofs.Resumed.{follows_alive, follows_over}
use Rattle.exec_control.proofs.flags.resume_if.Goals as goal

pub resume_live-requires-clause-lives : goal.resume_live-requires-clause-lives
resume_live-requires-clause-lives c = sym c.lives.ensures ∙ c.if-lives.true

pub returns-then-lives-clause-follows : goal.returns-then-lives-clause-follows
returns-then-lives-clause-follows c = λ d h. follows_alive c.args.k.now d h c.args.q (sym c.lives.ensures ∙ c.if-lives.true) c.resume_live.new.k (λ i. resumes d c.args.q i) (λ i there. c.resume_live.ensures.moves d i h there)

pub returns-else-lives-clause-follows : goal.returns-else-lives-clause-follows
returns-else-lives-clause-follows c = λ d h. follows_over c.args.k.now d h c.args.q (sym c.lives.ensures ∙ c.if-lives.false) (λ i. Ok (resumes d c.args.q i))
