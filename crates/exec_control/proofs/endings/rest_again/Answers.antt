use Rattle.std.proofs.Common.{sym, subst, ◌∙◌}
use Rattle.exec_control.specs.Resting.{CanRest}
use Rattle.exec_control.proofs.Ended.{rests_statically, none_kept}
use Rattle.exec_control.proofs.endings.rest_again.Goals as goal

pub rest_statically-requires-clause-room : goal.rest_statically-requires-clause-room
rest_statically-requires-clause-room c = subst (CanRest c.args.k.now c.args.p) (none_kept _ (sym c.has_next.ensures ∙ c.if-has_next.false)) c.requires.room

pub returns-else-has_next-clause-moves : goal.returns-else-has_next-clause-moves
returns-else-has_next-clause-moves c = rests_statically c.args.k.now c.rest_statically.new.k c.args.p (sym c.has_next.ensures ∙ c.if-has_next.false) c.rest_statically.ensures.moves c.requires.lives
