use Rattle.std.proofs.Common.{sym, ap, ◌∙◌, subst}
use Rattle.flat_design.specs.declared.design.Design.{Design}
use Rattle.exec_data.specs.KernelBodies.declared.program.Program.{Program}
use Rattle.exec_data.specs.KernelState.Kernel.{StandsFor}
use Rattle.exec_data.proofs.KernelState.Frames.{lives_still}
use Rattle.exec_data.proofs.Stored.{set_if, set_is}
use Rattle.exec_calls.proofs.storing.store_denoted.Goals as goal

pub returns-in-Some-clause-moves : goal.returns-in-Some-clause-moves
returns-in-Some-clause-moves c = λ d h.
    subst (StandsFor c.set_variable.new.k) (sym (set_is d c.args.d c.args.v ∙ ap (set_if d c.args.v) (sym c.variable_number.ensures ∙ c.in-Some.is))) (c.set_variable.ensures.moves d h)

pub returns-in-Some-clause-design : goal.returns-in-Some-clause-design
returns-in-Some-clause-design c = ap {A = Design} (λ d. record d { code = c.set_variable.new.k.program.now.code }) c.set_variable.ensures.kept.design ∙ ap {A = Program} (λ q. record c.args.k.now.design { code = q.code }) c.set_variable.ensures.kept.program

pub returns-in-Some-clause-lives : goal.returns-in-Some-clause-lives
returns-in-Some-clause-lives c = lives_still c.args.k.now c.set_variable.new.k c.args.p c.set_variable.ensures.kept c.requires.lives

pub returns-in-None-clause-moves : goal.returns-in-None-clause-moves
returns-in-None-clause-moves c = λ d h.
    subst (StandsFor c.args.k.now) (sym (set_is d c.args.d c.args.v ∙ ap (set_if d c.args.v) (sym c.variable_number.ensures ∙ c.in-None.is))) h
