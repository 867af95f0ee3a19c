use Rattle.std.proofs.Common.{◌≡◌, false, sym, ap, ◌∙◌}
use Rattle.kernel_processes.specs.SimModel.Configuration.{change_instance}
use Rattle.std.specs.Prelude.{None}
use Rattle.kernel_processes.specs.InstanceViews.{is_on}
use Rattle.kernel_state.proofs.Pushing.{pushed_sound, pushed_moves, pushed_whole}
use Rattle.kernel_state.proofs.control.push.Goals as goal

pub push-requires-clause-sound : goal.push-requires-clause-sound
push-requires-clause-sound c = c.clear_trigger.ensures.sound.schedule

pub push-requires-clause-lives : goal.push-requires-clause-lives
push-requires-clause-lives c = c.clear_trigger.ensures.lives

pub push-requires-clause-rests : goal.push-requires-clause-rests
push-requires-clause-rests c = ap (λ v. is_on v.items c.args.q) c.clear_trigger.ensures.stack ∙ c.requires.rests

pub returns-clause-moves : goal.returns-clause-moves
returns-clause-moves c = λ d h. pushed_whole _ d c.args.q
    (pushed_moves c.clear_trigger.new.k c.args.q c.clear_trigger.ensures.sound c.clear_trigger.ensures.lives c.push.new.s c.push.ensures.sound c.push.ensures.moves
    (change_instance d c.args.q (λ i. record i { trigger = None })) (c.clear_trigger.ensures.moves d h))

pub returns-clause-sound : goal.returns-clause-sound
returns-clause-sound c = pushed_sound c.clear_trigger.new.k c.args.q c.clear_trigger.ensures.sound c.clear_trigger.ensures.lives c.push.new.s c.push.ensures.sound c.push.ensures.moves
