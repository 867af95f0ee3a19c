use Rattle.std.proofs.Common.{sym, ◌∙◌, subst}
use Rattle.exec_data.specs.KernelProcesses.Moved.{IsTop}
use Rattle.exec_control.proofs.Reset.{passed, there_passed, stays_behind, goes_behind}
use Rattle.exec_control.proofs.goals.go_on.Goals as goal

pub top_lives-requires-2-clause-top : goal.top_lives-requires-2-clause-top
top_lives-requires-2-clause-top c = subst (λ s. IsTop c.args.p s.items) (sym c.pass_goal.ensures.stack) c.requires.top

pub stay_kept-requires-clause-top : goal.stay_kept-requires-clause-top
stay_kept-requires-clause-top c = subst (λ s. IsTop c.args.p s.items) (sym c.pass_goal.ensures.stack) c.requires.top

pub stay_kept-requires-clause-held : goal.stay_kept-requires-clause-held
stay_kept-requires-clause-held c = sym c.is_suspended.ensures.held ∙ c.if-is_suspended.true

pub returns-then-is_suspended-clause-steps : goal.returns-then-is_suspended-clause-steps
returns-then-is_suspended-clause-steps c d i h there =
    let stands = c.pass_goal.ensures.steps d i h there in
    stays_behind d c.args.p i there c.stay_kept.new.k (sym (c.is_suspended.ensures.shown _ (passed d c.args.p i there) stands (there_passed d c.args.p i there)) ∙ c.if-is_suspended.true) (c.stay_kept.ensures.moves _ stands)

pub returns-else-is_suspended-clause-steps : goal.returns-else-is_suspended-clause-steps
returns-else-is_suspended-clause-steps c d i h there =
    let stands = c.pass_goal.ensures.steps d i h there in
    goes_behind d c.args.p i there c.pass_goal.new.k (sym (c.is_suspended.ensures.shown _ (passed d c.args.p i there) stands (there_passed d c.args.p i there)) ∙ c.if-is_suspended.false) stands
