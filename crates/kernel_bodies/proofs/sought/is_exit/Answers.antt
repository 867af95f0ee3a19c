use Rattle.std.proofs.Common.{List, subst, ◌∙◌}
use Rattle.kernel_bodies.specs.declared.layers.Open.{Open}
use Rattle.kernel_bodies.specs.Sought.{is_run, IsLast}
use Rattle.kernel_bodies.proofs.Seeking.{among_is, exit_then, exit_else}
use Rattle.kernel_bodies.proofs.sought.is_exit.Goals as goal

pub returns-then-begun : goal.returns-then-begun
returns-then-begun c =
    let x = c.args.saved.now in
    let P : List Open → Type 0 = λ ls. IsLast is_run ls c.last_run.result in
    exit_then x c.is_some-begun.result c.if-begun.true (c.is_some-begun.ensures ∙ among_is is_run x.blocks.items c.last_run.result (subst P c.as_slice.ensures.value c.last_run.ensures.last))

pub returns-else-begun : goal.returns-else-begun
returns-else-begun c =
    let x = c.args.saved.now in
    let P : List Open → Type 0 = λ ls. IsLast is_run ls c.last_run.result in
    exit_else x c.is_some-begun.result c.if-begun.false (c.is_some-begun.ensures ∙ among_is is_run x.blocks.items c.last_run.result (subst P c.as_slice.ensures.value c.last_run.ensures.last))
