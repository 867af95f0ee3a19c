use Rattle.std.proofs.Common.{List, subst, ◌∙◌}
use Rattle.sim_model.specs.FlatDesign.Code.{arena_of}
use Rattle.kernel_bodies.specs.declared.layers.Open.{Open}
use Rattle.kernel_bodies.specs.Sought.{is_handling, IsLast}
use Rattle.kernel_bodies.proofs.Seeking.{among_is}
use Rattle.kernel_bodies.proofs.sought.has_handler.Goals as goal

pub returns : goal.returns
returns c =
    let p = is_handling (arena_of c.args.program.now.code) c.args.name in
    let P : List Open → Type 0 = λ ls. IsLast p ls c.last_try.result in
    c.is_some.ensures ∙ among_is p c.args.saved.now.blocks.items c.last_try.result (subst P c.as_slice.ensures.value c.last_try.ensures.last)
