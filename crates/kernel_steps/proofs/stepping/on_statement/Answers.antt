use Rattle.std.proofs.Common.{option_map, refl, sym, ap, ◌∙◌, subst}
use Rattle.flat_design.specs.Code.{statement_of}
use Rattle.exec_channels.specs.SimModel.Statements.{on_statement}
use Rattle.kernel_steps.specs.Taking.{takes_memory_if}
use Rattle.kernel_steps.specs.StepAnswers.{MakesAll, whole_step}
use Rattle.kernel_steps.specs.declared.answers.StepAnswer.TheVariants as answer
use Rattle.kernel_steps.proofs.Shows.{has_statement}
use Rattle.kernel_steps.proofs.stepping.on_statement.Goals as goal

pub carry_out-requires-clause-names : goal.carry_out-requires-clause-names
carry_out-requires-clause-names c = c.requires.ready.names

pub carry_out-requires-clause-numbers : goal.carry_out-requires-clause-numbers
carry_out-requires-clause-numbers c = c.requires.ready.numbers

pub carry_out-requires-clause-there : goal.carry_out-requires-clause-there
carry_out-requires-clause-there c = sym c.statement.ensures ∙ ap (option_map (λ z. statement_of z.now)) c.in-Some.is

pub carry_out-requires-clause-free : goal.carry_out-requires-clause-free
carry_out-requires-clause-free c = c.requires.free (statement_of c.in-Some.x.now) (carry_out-requires-clause-there c)

pub returns-in-Some-clause-makes : goal.returns-in-Some-clause-makes
returns-in-Some-clause-makes c =
    subst (λ o. MakesAll c.args.k.now c.carry_out.new.k (whole_step c.carry_out.result c.carry_out.new.said) c.args.p (λ d q i r. on_statement d q i r c.args.s o))
    (sym (sym c.statement.ensures ∙ ap (option_map (λ z. statement_of z.now)) c.in-Some.is)) c.carry_out.ensures.carries

pub returns-in-Some-clause-refused : goal.returns-in-Some-clause-refused
returns-in-Some-clause-refused c = c.carry_out.ensures.refused

pub returns-in-Some-clause-faulted : goal.returns-in-Some-clause-faulted
returns-in-Some-clause-faulted c = c.carry_out.ensures.faulted

pub pass-requires-clause-statement : goal.pass-requires-clause-statement
pass-requires-clause-statement c = has_statement c.args.k.now c.args.p c.args.s c.requires.next

pub returns-in-None-clause-makes : goal.returns-in-None-clause-makes
returns-in-None-clause-makes c =
    subst (λ o. MakesAll c.args.k.now c.pass.new.k answer.Went c.args.p (λ d q i r. on_statement d q i r c.args.s o))
    (sym (sym c.statement.ensures ∙ ap (option_map (λ z. statement_of z.now)) c.in-None.is))
    (λ d i h there. (c.pass.ensures.steps d i h there, refl))

pub returns-in-Some-clause-memory : goal.returns-in-Some-clause-memory
returns-in-Some-clause-memory c = λ e. ap takes_memory_if (sym c.statement.ensures ∙ ap (option_map (λ z. statement_of z.now)) c.in-Some.is) ∙ c.carry_out.ensures.memory e
