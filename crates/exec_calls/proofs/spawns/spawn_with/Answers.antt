use Rattle.std.proofs.Common.{refl, sym, ap, ◌∙◌, subst}
use Rattle.flat_design.specs.Code.{spawn_term}
use Rattle.exec_data.specs.SimModel.Residual.{settle}
use Rattle.exec_data.specs.SimModel.Configuration.{arena}
use Rattle.exec_data.specs.SimModel.Statements.{settled_in}
use Rattle.exec_data.specs.SimModel.Reading.{here}
use Rattle.exec_data.specs.SimModel.Storing.{passes}
use Rattle.exec_data.specs.SimModel.Calls.{spawns}
use Rattle.exec_data.specs.KernelState.Kernel.{StandsFor}
use Rattle.exec_data.specs.KernelState.Moves.{Steps}
use Rattle.exec_data.specs.KernelState.declared.kernel.Offspring.{Offspring}
use Rattle.exec_data.specs.KernelView.Standings.{next_here}
use Rattle.exec_calls.specs.Sensitive.{static_in}
use Rattle.exec_calls.specs.Born.{brought_forth}
use Rattle.exec_calls.proofs.SpawnHanding.{spawns_as, where_done}
use Rattle.exec_calls.proofs.spawns.spawn_with.Goals as goal

pub returns-in-Ok-clause-steps : goal.returns-in-Ok-clause-steps
returns-in-Ok-clause-steps c =
    let s = spawn_term c.args.form.now in
    let o : Offspring = record { kind = c.kind_by.result; home = c.home_at-home.result; code = s.function; arguments = c.into_vec.result; sensitive = c.in-Ok.sensitive; waits = s.dont_initialize } in
    where_done (Steps c.args.k.now c.spawn_offspring.new.k c.args.p (λ d q i r. brought_forth (passes d q r) q (here d q i r) s.handle o))
    (Steps c.args.k.now c.spawn_offspring.new.k c.args.p (λ d q i r. spawns (passes d q r) q (here d q i r) s c.args.arguments))
    c.spawn_offspring.result c.spawn_offspring.ensures.steps (λ steps d i h there.
    let e = passes (settled_in d c.args.p i.residual) c.args.p (settle (arena d) i.residual) in
    let home = c.home_at-home.ensures d i h there in
    subst (StandsFor c.spawn_offspring.new.k)
    (spawns_as e c.args.p (next_here d c.args.p i) s c.args.arguments o c.kind_by.ensures home refl c.into_vec.ensures
    (c.in-Ok.ensures ∙ ap (static_in c.args.k.now.design c.home_at-home.result) c.as_slice.ensures ∙ ap (λ n. static_in c.args.k.now.design n s.sensitive) (sym home) ∙ ap (λ y. static_in y (next_here d c.args.p i).home s.sensitive) (sym h.design)) refl)
    (steps d i h there))
