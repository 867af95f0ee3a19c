use Rattle.std.proofs.Common.{sym, ◌∙◌, subst}
use Rattle.exec_data.specs.KernelProcesses.Moved.{IsTop}
use Rattle.exec_control.proofs.Reset.{taken_back, told, after, there_after, restarts_kept, restarts_anew}
use Rattle.exec_control.proofs.goals.restart.Goals as goal

pub top_lives-requires-2-clause-top : goal.top_lives-requires-2-clause-top
top_lives-requires-2-clause-top c = subst (IsTop c.args.p) (sym (c.tell_reset.ensures.stack ∙ c.take_back.ensures.stack)) c.requires.top

pub stay_kept-requires-clause-top : goal.stay_kept-requires-clause-top
stay_kept-requires-clause-top c = subst (IsTop c.args.p) (sym (c.tell_reset.ensures.stack ∙ c.take_back.ensures.stack)) c.requires.top

pub stay_kept-requires-clause-held : goal.stay_kept-requires-clause-held
stay_kept-requires-clause-held c = sym c.is_suspended.ensures.held ∙ c.if-is_suspended.true

pub returns-then-is_suspended-clause-steps : goal.returns-then-is_suspended-clause-steps
returns-then-is_suspended-clause-steps c d i h there =
    let fired = c.tell_reset.ensures.moves (taken_back d c.args.p i there) (c.take_back.ensures.steps d i h there) in
    restarts_kept d c.args.p i there c.stay_kept.new.k (sym (c.is_suspended.ensures.shown (told d c.args.p i there) (after d c.args.p i there) fired (there_after d c.args.p i there)) ∙ c.if-is_suspended.true)
    (c.stay_kept.ensures.moves (told d c.args.p i there) fired)

pub returns-else-is_suspended-clause-steps : goal.returns-else-is_suspended-clause-steps
returns-else-is_suspended-clause-steps c d i h there =
    let fired = c.tell_reset.ensures.moves (taken_back d c.args.p i there) (c.take_back.ensures.steps d i h there) in
    restarts_anew d c.args.p i there c.begin_body.new.k (sym (c.is_suspended.ensures.shown (told d c.args.p i there) (after d c.args.p i there) fired (there_after d c.args.p i there)) ∙ c.if-is_suspended.false)
    (c.begin_body.ensures.moves (told d c.args.p i there) (after d c.args.p i there) fired (there_after d c.args.p i there))
