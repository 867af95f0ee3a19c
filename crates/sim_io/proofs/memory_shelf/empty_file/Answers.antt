use Rattle.std.proofs.Common.{◌<◌, ◌∙◌, length, ap, arith}
use Rattle.sim_io.specs.Memory.{entries, put}
use Rattle.sim_io.proofs.Entries.{entries-put}
use Rattle.sim_io.proofs.memory_shelf.empty_file.Goals as goal

pub returns : goal.returns
returns c =
    let within : c.args.place < length c.args.files.now.items = omega (arith, c.args.files.now.ok.0) in
    entries-put c.args.files.now.items c.args.place c.index_mut-file.result.now c.clear.new.self within c.index_mut-file.ensures.value
    ∙ ap (λ bytes. put (entries c.args.files.now.items) c.args.place bytes) c.clear.ensures.items
