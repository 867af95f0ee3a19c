use Rattle.std.proofs.Common.{◌≡◌, sym, ap, ◌∙◌}
use Rattle.std.specs.Option.{option_copied}
use Rattle.exec_channels.specs.KernelBodies.declared.layers.Next.TheVariants as next
use Rattle.exec_channels.specs.ProcessBodies.Bodies.{settled_in, next_in}
use Rattle.exec_channels.specs.SimModel.Residual as residual
use Rattle.exec_channels.specs.SimModel.Residual.{next_of}
use Rattle.exec_channels.proofs.KernelState.Frames.{old_body_sound}
use Rattle.kernel_steps.proofs.Shows.{kept_is, comes_next, leave_next}
use Rattle.kernel_steps.proofs.stepping.next_at.Goals as goal

pub returns-in-Some-clause-statement : goal.returns-in-Some-clause-statement
returns-in-Some-clause-statement c = λ s is.
    kept_is c.args.k.now c.args.p c.in-Some.x.now (sym c.get.ensures.value ∙ ap option_copied c.in-Some.is) (λ kept. next_of (settled_in c.args.k.now.program.now kept.body) ≡ residual.statement s) (c.next.ensures.statement s is)

pub next-requires : goal.next-requires
next-requires c = old_body_sound c.args.k.now c.args.p c.in-Some.x.now (sym c.get.ensures.value ∙ ap option_copied c.in-Some.is) c.requires.sound

pub returns-in-Some-clause-owes : goal.returns-in-Some-clause-owes
returns-in-Some-clause-owes c = λ s q is.
    kept_is c.args.k.now c.args.p c.in-Some.x.now (sym c.get.ensures.value ∙ ap option_copied c.in-Some.is) (λ kept. next_of (settled_in c.args.k.now.program.now kept.body) ≡ residual.owes s q) (c.next.ensures.owes s q is)

pub returns-in-Some-clause-shows_owed : goal.returns-in-Some-clause-shows_owed
returns-in-Some-clause-shows_owed c = λ s q is.
    comes_next c.args.k.now c.args.p c.in-Some.x.now (sym c.get.ensures.value ∙ ap option_copied c.in-Some.is) (residual.owes s q) (c.next.ensures.owes s q is)

pub returns-in-Some-clause-goal : goal.returns-in-Some-clause-goal
returns-in-Some-clause-goal c = λ g is.
    kept_is c.args.k.now c.args.p c.in-Some.x.now (sym c.get.ensures.value ∙ ap option_copied c.in-Some.is) (λ kept. next_of (settled_in c.args.k.now.program.now kept.body) ≡ residual.reaches g) (c.next.ensures.goal g is)

pub returns-in-Some-clause-shows_statement : goal.returns-in-Some-clause-shows_statement
returns-in-Some-clause-shows_statement c = λ s is.
    comes_next c.args.k.now c.args.p c.in-Some.x.now (sym c.get.ensures.value ∙ ap option_copied c.in-Some.is) (residual.statement s) (c.next.ensures.statement s is)

pub returns-in-Some-clause-shows_goal : goal.returns-in-Some-clause-shows_goal
returns-in-Some-clause-shows_goal c = λ g is.
    comes_next c.args.k.now c.args.p c.in-Some.x.now (sym c.get.ensures.value ∙ ap option_copied c.in-Some.is) (residual.reaches g) (c.next.ensures.goal g is)

pub returns-in-Some-clause-shows_done : goal.returns-in-Some-clause-shows_done
returns-in-Some-clause-shows_done c = λ is.
    comes_next c.args.k.now c.args.p c.in-Some.x.now (sym c.get.ensures.value ∙ ap option_copied c.in-Some.is) residual.done (c.next.ensures.done is)

pub returns-in-Some-clause-shows_nothing : goal.returns-in-Some-clause-shows_nothing
returns-in-Some-clause-shows_nothing c = λ is.
    comes_next c.args.k.now c.args.p c.in-Some.x.now (sym c.get.ensures.value ∙ ap option_copied c.in-Some.is) residual.nothing (c.next.ensures.nothing is)

pub returns-in-Some-clause-leaves : goal.returns-in-Some-clause-leaves
returns-in-Some-clause-leaves c = λ is.
    kept_is c.args.k.now c.args.p c.in-Some.x.now (sym c.get.ensures.value ∙ ap option_copied c.in-Some.is) (λ kept. next_in c.args.k.now.program.now kept.body ≡ next.Leave) (sym c.next.ensures.value ∙ is)

pub returns-in-Some-clause-shows_leave : goal.returns-in-Some-clause-shows_leave
returns-in-Some-clause-shows_leave c = λ is.
    leave_next c.args.k.now c.args.p c.in-Some.x.now (sym c.get.ensures.value ∙ ap option_copied c.in-Some.is) (sym is ∙ c.next.ensures.value)
