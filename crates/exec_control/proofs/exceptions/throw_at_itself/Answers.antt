use Rattle.std.proofs.Common.{refl, sym, ◌∙◌}
use Rattle.std.specs.Prelude.{Ok, Err}
use Rattle.flat_design.specs.declared.faults.RunFault.TheVariants as fault
use Rattle.exec_data.proofs.KernelState.Ending.{follows_as}
use Rattle.exec_data.specs.SimModel.Control.{throw_call}
use Rattle.exec_control.specs.Thrown.{past}
use Rattle.exec_control.proofs.Passing.{passed, there_passed}
use Rattle.exec_control.proofs.Itself.{spared, uncaught, raised_at}
use Rattle.exec_control.proofs.exceptions.throw_at_itself.Goals as goal

pub raise_at-requires-clause-free : goal.raise_at-requires-clause-free
raise_at-requires-clause-free c = c.move_on-2.ensures.free (c.has_goal.ensures.free c.if-has_goal.false)

pub returns-then-has_goal-clause-does : goal.returns-then-has_goal-clause-does
returns-then-has_goal-clause-does c d i h there =
    follows_as c.move_on.new.k d (Ok tt) (throw_call (past c.args.way d c.args.p i) c.args.p c.args.e) (Ok (past c.args.way d c.args.p i))
    (spared c.args.way c.args.k.now d c.args.p i c.args.e h there c.requires.sound c.requires.top c.requires.may (sym (c.has_goal.ensures.shown d i h there) ∙ c.if-has_goal.true)) (c.move_on.ensures.steps d i h there)

pub returns-then-not-catches-clause-does : goal.returns-then-not-catches-clause-does
returns-then-not-catches-clause-does c d i h there =
    follows_as c.args.k.now d (Err (fault.Uncaught c.args.e)) (throw_call (past c.args.way d c.args.p i) c.args.p c.args.e) (Err (fault.Uncaught c.args.e))
    (uncaught c.args.way c.args.k.now d c.args.p i c.args.e h there c.requires.sound c.requires.top c.requires.may (sym (c.has_goal.ensures.shown d i h there) ∙ c.if-has_goal.false) (sym (c.catches.ensures d i h there) ∙ c.if-not-catches.true)) (refl, h)

pub returns-clause-does : goal.returns-clause-does
returns-clause-does c d i h there =
    raised_at c.args.way c.args.k.now d c.args.p i c.args.e h there c.requires.sound c.requires.top c.requires.may (sym (c.has_goal.ensures.shown d i h there) ∙ c.if-has_goal.false) (sym (c.catches.ensures d i h there) ∙ c.if-not-catches.false) c.raise_at.new.k
    (c.raise_at.ensures.moves (past c.args.way d c.args.p i) (passed c.args.way d c.args.p i there) (c.move_on-2.ensures.steps d i h there) (there_passed c.args.way d c.args.p i there))
