use Rattle.std.proofs.Common.{Err, not, [], ◌∷◌, ◌++◌, sym, ap, ◌∙◌, subst, None}
use Rattle.kernel_processes.specs.FlatDesign.Code.{arena_of}
use Rattle.kernel_processes.specs.Moved.{Spawns, spawned_as}
use Rattle.kernel_state.specs.declared.kernel.PathOf.TheVariants as path_by
use Rattle.kernel_state.proofs.Frames.{schedule_sound}
use Rattle.kernel_state.proofs.Offsprings.{made_moves, spawned_moves, spawned_sound, room_sound, room_stays, nobody_spawned}
use Rattle.kernel_state.proofs.Counting.{few_live, answers_stop, others_stay}
use Rattle.kernel_state.proofs.Stacks.{top_is}
use Rattle.kernel_state.proofs.spawning.spawn.Goals as goal

pub returns-in-Ok-spawn_process-clause-spawned : goal.returns-in-Ok-spawn_process-clause-spawned
returns-in-Ok-spawn_process-clause-spawned c d h =
    let n = c.in-Ok-spawn_process.serial in
    let same = c.next_serial-serial.ensures.value ∙ sym c.in-Ok-spawn_process.ensures.spawns.number in
    let spawns = subst (λ m. Spawns n (spawned_as c.args.o.kind c.args.o.sensitive c.args.o.waits) (record { home = c.args.o.home; path = path_by.Spawned m; body = c.in-Ok-start.body; trigger = None }) (not c.args.o.waits) c.args.k.now.schedule c.spawn.new.s) same c.in-Ok-spawn_process.ensures.spawns in
    made_moves (record c.args.k.now { schedule = c.spawn.new.s; parents = c.push_reserved.new.self }) _ _
    (spawned_moves c.args.k.now c.requires.sound c.args.o n c.in-Ok-start.body c.spawn.new.s c.spawn.ensures.sound c.in-Ok-start.ensures.kept.0 c.in-Ok-start.ensures.kept.1 (c.in-Ok-start.ensures.left (arena_of c.args.k.now.program.now.code)) c.in-Ok-start.ensures.sound spawns c.push_reserved.new.self c.top-parent.result (c.push_reserved.ensures.items ∙ ap (λ xs. xs ++ c.top-parent.result ∷ []) c.reserve.ensures.items) (λ e g. top_is c.args.k.now e g c.top-parent.result c.top-parent.ensures.none c.top-parent.ensures.some) d h)

pub returns-in-Ok-spawn_process-clause-answer : goal.returns-in-Ok-spawn_process-clause-answer
returns-in-Ok-spawn_process-clause-answer c d h = few_live c.args.k.now d h c.in-Ok-spawn_process.ensures.few

pub returns-in-Ok-spawn_process-clause-others : goal.returns-in-Ok-spawn_process-clause-others
returns-in-Ok-spawn_process-clause-others c = others_stay c.args.k.now c.requires.sound c.spawn.new.s c.in-Ok-spawn_process.serial c.in-Ok-spawn_process.ensures.spawns.number c.in-Ok-spawn_process.ensures.spawns.bodies

pub returns-in-Ok-spawn_process-clause-sound : goal.returns-in-Ok-spawn_process-clause-sound
returns-in-Ok-spawn_process-clause-sound c =
    let n = c.in-Ok-spawn_process.serial in
    let same = c.next_serial-serial.ensures.value ∙ sym c.in-Ok-spawn_process.ensures.spawns.number in
    let spawns = subst (λ m. Spawns n (spawned_as c.args.o.kind c.args.o.sensitive c.args.o.waits) (record { home = c.args.o.home; path = path_by.Spawned m; body = c.in-Ok-start.body; trigger = None }) (not c.args.o.waits) c.args.k.now.schedule c.spawn.new.s) same c.in-Ok-spawn_process.ensures.spawns in
    spawned_sound c.args.k.now c.requires.sound c.args.o n c.in-Ok-start.body c.spawn.new.s c.spawn.ensures.sound c.in-Ok-start.ensures.kept.0 c.in-Ok-start.ensures.kept.1 (c.in-Ok-start.ensures.left (arena_of c.args.k.now.program.now.code)) c.in-Ok-start.ensures.sound spawns c.push_reserved.new.self

pub returns-in-Err-spawn_process-clause-answer : goal.returns-in-Err-spawn_process-clause-answer
returns-in-Err-spawn_process-clause-answer c d h = answers_stop c.args.k.now d h c.in-Err-spawn_process.stop (λ is. c.in-Err-spawn_process.ensures.many (ap Err is))

pub returns-in-Err-spawn_process-clause-sound : goal.returns-in-Err-spawn_process-clause-sound
returns-in-Err-spawn_process-clause-sound c =
    let st = c.in-Err-spawn_process.ensures.stays in
    schedule_sound (record c.args.k.now { parents = c.reserve.new.self }) (room_sound c.args.k.now c.reserve.new.self c.requires.sound) c.spawn.new.s c.spawn.ensures.sound st.bodies st.due st.next

pub returns-in-Err-spawn_process-clause-stays : goal.returns-in-Err-spawn_process-clause-stays
returns-in-Err-spawn_process-clause-stays c = nobody_spawned c.args.k.now c.reserve.new.self c.reserve.ensures.items c.spawn.new.s c.in-Err-spawn_process.ensures.stays

pub returns-in-Err-start-clause-stays : goal.returns-in-Err-start-clause-stays
returns-in-Err-start-clause-stays c = room_stays c.args.k.now c.reserve.new.self c.reserve.ensures.items

pub returns-in-Err-start-clause-sound : goal.returns-in-Err-start-clause-sound
returns-in-Err-start-clause-sound c = room_sound c.args.k.now c.reserve.new.self c.requires.sound

pub returns-in-Err-clause-stays : goal.returns-in-Err-clause-stays
returns-in-Err-clause-stays c = room_stays c.args.k.now c.reserve.new.self c.reserve.ensures.items

pub returns-in-Err-clause-sound : goal.returns-in-Err-clause-sound
returns-in-Err-clause-sound c = room_sound c.args.k.now c.reserve.new.self c.requires.sound
