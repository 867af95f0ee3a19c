use Rattle.std.proofs.Common.{sym, ap, ◌∙◌}
use Rattle.std.specs.Option.{option_copied_mut}
use Rattle.flat_design.specs.Code.{arena_of}
use Rattle.kernel_view.specs.SimModel.Residual.{settle, put, skip, in_innermost}
use Rattle.kernel_view.specs.SimModel.Configuration.{arena}
use Rattle.kernel_view.specs.SimModel.Storing.{with_local}
use Rattle.kernel_view.proofs.KernelBodies.Strips.{strip-put, strip-in_innermost}
use Rattle.kernel_view.proofs.KernelState.Frames.{one_body_sound, old_body_sound, settled_before}
use Rattle.exec_data.proofs.Stored.{keeps_on, stores_local}
use Rattle.exec_data.proofs.storing.store_local.Goals as goal

pub past-requires-clause-sound : goal.past-requires-clause-sound
past-requires-clause-sound c = old_body_sound c.args.k.now c.args.p c.in-Some.x.now (sym c.get_mut.ensures.value ∙ ap option_copied_mut c.in-Some.is) c.requires.sound

pub returns-in-Some-clause-steps : goal.returns-in-Some-clause-steps
returns-in-Some-clause-steps c d i h there =
    let at = sym c.get_mut.ensures.value ∙ ap option_copied_mut c.in-Some.is in
    let left = settle (arena d) i.residual in
    let local = with_local c.args.n c.args.v in
    stores_local c.args.k.now c.args.p c.in-Some.x.now c.set_local.new.self at (keeps_on c.past.ensures.kept c.set_local.ensures.kept) d i h there (put left skip) c.args.n c.args.v
    (strip-in_innermost local (put left skip)
    ∙ ap (in_innermost local) (strip-put left skip ∙ ap (λ r. put r skip) (settled_before c.args.k.now c.args.p c.in-Some.x.now at d i h there) ∙ sym c.past.ensures.left)
    ∙ sym (c.set_local.ensures.left (arena_of c.args.k.now.program.now.code)))

pub returns-in-Some-clause-sound : goal.returns-in-Some-clause-sound
returns-in-Some-clause-sound c = one_body_sound c.args.k.now c.args.p c.in-Some.x.now c.set_local.new.self (sym c.get_mut.ensures.value ∙ ap option_copied_mut c.in-Some.is) (keeps_on c.past.ensures.kept c.set_local.ensures.kept) c.requires.sound (c.set_local.ensures.sound c.args.k.now.program.now c.past.ensures.sound)
