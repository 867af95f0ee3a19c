use Rattle.std.proofs.Common.{◌≡◌, length, vec_len, arith}
use Rattle.kernel_processes.specs.InstanceViews.{seen}
use Rattle.kernel_processes.proofs.Fired.{event_rouses, event_sound, room_for_woken}
use Rattle.kernel_processes.proofs.Timing.{timed_so}
use Rattle.kernel_processes.proofs.waking.fire.Goals as goal

pub fire-requires : goal.fire-requires
fire-requires g c =
    let same : vec_len c.args.s.now.woken ≡ length c.args.s.now.woken.items = omega arith in
    let bound = room_for_woken c.args.s.now c.requires.sound c.args.e c.as_many_as_have_room.ensures.waiting c.as_many_as_have_room.ensures.room c.who_waits_has_room.ensures in
    omega (arith, same, bound)

pub returns-clause-rouses : goal.returns-clause-rouses
returns-clause-rouses g c = event_rouses c.args.s.now c.requires.sound c.args.e _ _ c.meet_all.new.s c.fire.ensures.struck c.fire.ensures.kept c.fire.ensures.met c.fire.ensures.capacity c.meet_all.ensures

pub returns-clause-sound : goal.returns-clause-sound
returns-clause-sound g c = event_sound c.args.s.now c.requires.sound c.args.e _ _ c.meet_all.new.s c.fire.ensures.struck c.fire.ensures.kept c.fire.ensures.met c.fire.ensures.capacity c.meet_all.ensures

pub meet_all-requires-clause-timed : goal.meet_all-requires-clause-timed
meet_all-requires-clause-timed g c q = timed_so (seen c.args.s.now q) (c.requires.sound.each q)
