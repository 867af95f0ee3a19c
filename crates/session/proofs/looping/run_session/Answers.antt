use Rattle.std.proofs.Common.{◌≤◌, length, refl, sym, subst}
use Rattle.flat_design.specs.declared.design.Design.{Design}
use Rattle.kernel_start.specs.InstanceTable.declared.TheConstants.{MAX_LIVE}
use Rattle.kernel_start.specs.KernelState.Kernel.{StandsFor}
use Rattle.vcd_trace.specs.SimModel.Configuration.{start}
use Rattle.session.specs.Outputs.{AreNames}
use Rattle.session.proofs.Going.{never_began}
use Rattle.session.proofs.looping.run_session.Goals as goal

pub returns-in-Err-clause-ran : goal.returns-in-Err-clause-ran
returns-in-Err-clause-ran g c = rw (c.cut.ensures, c.new.ensures)
    (never_began c.args.plan (start c.args.design c.args.script.now) (AreNames g.S.Shelf.stands c.args.shelf.now c.args.plan.vcd c.args.plan.choices) _)

pub first_kernel-requires : goal.first_kernel-requires
first_kernel-requires g c = record { few = subst (λ (d : Design). length d.processes ≤ MAX_LIVE) (sym c.in-Ok.ensures) c.requires.few }

pub run_on-requires-clause-begun : goal.run_on-requires-clause-begun
run_on-requires-clause-begun g c = record {
  first = start c.args.design c.args.script.now;
  stands = subst (λ (d : Design). StandsFor c.in-Ok-first_kernel.k.kernel (start d c.args.script.now)) c.in-Ok.ensures (c.in-Ok-first_kernel.ensures.first c.args.script.now);
  is_first = record { script_left = refl; nothing_told = refl; nothing_seen = refl };
  reached = (c.runs_begin.ensures c.args.design c.args.script.now c.requires.sound).0;
  no_steps = (c.runs_begin.ensures c.args.design c.args.script.now c.requires.sound).3;
  events = c.requires.events;
  starts = c.requires.starts;
  made = c.in-Ok-first_kernel.ensures.made;
}

pub returns-in-Ok-first_kernel-clause-ran : goal.returns-in-Ok-first_kernel-clause-ran
returns-in-Ok-first_kernel-clause-ran g c =
    c.run_on.ensures.ran (start c.args.design c.args.script.now) (subst (λ (d : Design). StandsFor c.in-Ok-first_kernel.k.kernel (start d c.args.script.now)) c.in-Ok.ensures (c.in-Ok-first_kernel.ensures.first c.args.script.now)) (record { script_left = refl; nothing_told = refl; nothing_seen = refl })
    (c.runs_begin.ensures c.args.design c.args.script.now c.requires.sound).0 (c.runs_begin.ensures c.args.design c.args.script.now c.requires.sound).3

pub returns-in-Err-first_kernel-clause-ran : goal.returns-in-Err-first_kernel-clause-ran
returns-in-Err-first_kernel-clause-ran g c = rw (c.cut-in-Err-first_kernel.ensures, c.new-in-Err-first_kernel.ensures)
    (never_began c.args.plan (start c.args.design c.args.script.now) (AreNames g.S.Shelf.stands c.args.shelf.now c.args.plan.vcd c.args.plan.choices) _)
