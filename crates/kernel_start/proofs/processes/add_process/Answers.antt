use Rattle.std.proofs.Common.{◌∙◌}
use Rattle.kernel_state.specs.FlatDesign.Code.{arena_of}
use Rattle.kernel_start.proofs.FirstOnes.{adds, adds_made}
use Rattle.kernel_start.proofs.processes.add_process.Goals as goal

pub returns-in-Ok-spawn-clause-adds : goal.returns-in-Ok-spawn-clause-adds
returns-in-Ok-spawn-clause-adds c = adds c.args.program.now c.args.part.now c.args.s.now c.spawn.new.s c.requires.sound _ c.in-Ok.body _ _ c.kind_by.ensures (c.from_vec.ensures ∙ c.in_ok-sensitive.ensures.items ∙ c.as_slice.ensures)
    c.in-Ok.ensures.kept.0 (c.in-Ok.ensures.kept.1 ∙ c.new.ensures.items) (c.in-Ok.ensures.left (arena_of c.args.program.now.code)) c.in-Ok.ensures.sound c.spawn.ensures.sound c.in-Ok-spawn.ensures.spawns

pub returns-in-Ok-spawn-clause-sound : goal.returns-in-Ok-spawn-clause-sound
returns-in-Ok-spawn-clause-sound c = adds_made c.args.program.now c.args.part.now c.args.s.now c.spawn.new.s c.requires.sound _ c.in-Ok.body _ _ c.kind_by.ensures (c.from_vec.ensures ∙ c.in_ok-sensitive.ensures.items ∙ c.as_slice.ensures)
    c.in-Ok.ensures.kept.0 (c.in-Ok.ensures.kept.1 ∙ c.new.ensures.items) (c.in-Ok.ensures.left (arena_of c.args.program.now.code)) c.in-Ok.ensures.sound c.spawn.ensures.sound c.in-Ok-spawn.ensures.spawns
