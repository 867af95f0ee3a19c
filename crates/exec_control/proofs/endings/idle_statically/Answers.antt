use Rattle.std.proofs.Common.{refl, sym, ap, ◌∙◌, subst}
use Rattle.std.specs.FinMap as map
use Rattle.exec_control.specs.Resting.{CanRest, rest_count, rests_again}
use Rattle.exec_control.proofs.Ended.{idled}
use Rattle.exec_control.proofs.endings.idle_statically.Goals as goal

pub hold_counted-requires-clause-counted : goal.hold_counted-requires-clause-counted
hold_counted-requires-clause-counted c = c.requires.counted ∙ ap (λ o. rest_count o (map.get c.args.k.now.schedule.table.live c.args.p)) (sym c.requires.unset)

pub rest_unset-requires-clause-unset : goal.rest_unset-requires-clause-unset
rest_unset-requires-clause-unset c = c.hold_counted.ensures.next ∙ c.requires.unset

pub rest_unset-requires-clause-room : goal.rest_unset-requires-clause-room
rest_unset-requires-clause-room c = subst (CanRest c.hold_counted.new.k c.args.p) (c.hold_counted.ensures.next ∙ c.requires.unset) c.in-Ok.ensures.room

pub returns-clause-steps : goal.returns-clause-steps
returns-clause-steps c d i h there = idled c.clear_body.new.k d c.args.p i i.trigger refl (c.clear_body.ensures.moves (rests_again d c.args.p i) (c.rest_unset.ensures.moves d i (c.hold_counted.ensures.stays d h) there))
