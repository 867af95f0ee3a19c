use Rattle.std.proofs.Common.{◌≡◌, false, Some, refl, sym, ap, ◌∙◌, subst}
use Rattle.flat_design.specs.Code.{statement_of}
use Rattle.flat_design.specs.declared.code.Statement.{Statement}
use Rattle.flat_design.specs.declared.code.Statement.TheVariants as statement
use Rattle.kernel_steps.specs.Usual.{is_usual}
use Rattle.kernel_steps.specs.Taking.{takes_memory}
use Rattle.kernel_steps.specs.StepAnswers.{CarriesAll, whole_step}
use Rattle.kernel_steps.specs.declared.answers.StepAnswer.TheVariants as answer
use Rattle.kernel_steps.proofs.Answered.{carried}
use Rattle.kernel_steps.proofs.carrying.carry_out.Goals as goal

-- a statement of none of these forms is not usual
not_usual : (s : Statement) → ((n : _) (t : _) (e : _) → s ≡ statement.Var n t e → ⊥)
    → ((to : _) (e : _) → s ≡ statement.Assign to e → ⊥)
    → ((to : _) (t : _) (e : _) → s ≡ statement.Write to t e → ⊥)
    → ((text : _) (e : _) → s ≡ statement.Print text e → ⊥)
    → ((n : _) → s ≡ statement.Notify n → ⊥)
    → ((n : _) → s ≡ statement.NotifyDelta n → ⊥)
    → ((n : _) (e : _) → s ≡ statement.NotifyAfter n e → ⊥)
    → ((how : _) → s ≡ statement.Wait how → ⊥)
    → ((how : _) → s ≡ statement.NextTrigger how → ⊥)
    → ((e : _) (b : _) (other : _) → s ≡ statement.If e b other → ⊥)
    → ((e : _) (b : _) → s ≡ statement.While e b → ⊥) → is_usual (statement_of s) ≡ false
not_usual (statement.Var n t e) is_var assigns writes prints notifies delta after waits triggers chooses loops = absurd (is_var n t e refl)
not_usual (statement.Assign to e) is_var assigns writes prints notifies delta after waits triggers chooses loops = absurd (assigns to e refl)
not_usual (statement.Write to t e) is_var assigns writes prints notifies delta after waits triggers chooses loops = absurd (writes to t e refl)
not_usual (statement.Print text e) is_var assigns writes prints notifies delta after waits triggers chooses loops = absurd (prints text e refl)
not_usual (statement.Notify n) is_var assigns writes prints notifies delta after waits triggers chooses loops = absurd (notifies n refl)
not_usual (statement.NotifyDelta n) is_var assigns writes prints notifies delta after waits triggers chooses loops = absurd (delta n refl)
not_usual (statement.NotifyAfter n e) is_var assigns writes prints notifies delta after waits triggers chooses loops = absurd (after n e refl)
not_usual (statement.Wait how) is_var assigns writes prints notifies delta after waits triggers chooses loops = absurd (waits how refl)
not_usual (statement.NextTrigger how) is_var assigns writes prints notifies delta after waits triggers chooses loops = absurd (triggers how refl)
not_usual (statement.If e b other) is_var assigns writes prints notifies delta after waits triggers chooses loops = absurd (chooses e b other refl)
not_usual (statement.While e b) is_var assigns writes prints notifies delta after waits triggers chooses loops = absurd (loops e b refl)
not_usual s is_var assigns writes prints notifies delta after waits triggers chooses loops = refl

pub returns-in-Var-clause-carries : goal.returns-in-Var-clause-carries
returns-in-Var-clause-carries c = carried c.args.k.now c.var_step.new.k (whole_step c.var_step.result c.var_step.new.said) c.args.p c.args.s c.args.statement.now _ c.in-Var.is refl c.var_step.ensures.carries

pub returns-in-Assign-clause-carries : goal.returns-in-Assign-clause-carries
returns-in-Assign-clause-carries c = carried c.args.k.now c.assign_step.new.k (whole_step c.assign_step.result c.assign_step.new.said) c.args.p c.args.s c.args.statement.now _ c.in-Assign.is refl c.assign_step.ensures.carries

pub returns-in-Write-clause-carries : goal.returns-in-Write-clause-carries
returns-in-Write-clause-carries c = carried c.args.k.now c.write_step.new.k (whole_step c.write_step.result c.write_step.new.said) c.args.p c.args.s c.args.statement.now _ c.in-Write.is refl c.write_step.ensures.carries

pub returns-in-Write-clause-memory : goal.returns-in-Write-clause-memory
returns-in-Write-clause-memory c = λ e. ap (λ z. takes_memory (statement_of z)) c.in-Write.is

pub print_step-requires-clause-there : goal.print_step-requires-clause-there
print_step-requires-clause-there c = c.requires.there ∙ ap (λ z. Some (statement_of z)) c.in-Print.is

pub returns-in-Print-clause-carries : goal.returns-in-Print-clause-carries
returns-in-Print-clause-carries c = subst (λ z. CarriesAll c.args.k.now c.print_step.new.k (whole_step c.print_step.result c.print_step.new.said) c.args.p c.args.s (statement_of z)) (sym c.in-Print.is) c.print_step.ensures.carries

pub returns-in-Notify-clause-carries : goal.returns-in-Notify-clause-carries
returns-in-Notify-clause-carries c = carried c.args.k.now c.notify_named.new.k answer.Went c.args.p c.args.s c.args.statement.now _ c.in-Notify.is refl c.notify_named.ensures.does

pub returns-in-NotifyDelta-clause-carries : goal.returns-in-NotifyDelta-clause-carries
returns-in-NotifyDelta-clause-carries c = carried c.args.k.now c.notify_delta.new.k answer.Went c.args.p c.args.s c.args.statement.now _ c.in-NotifyDelta.is refl c.notify_delta.ensures.does

pub returns-in-NotifyAfter-clause-carries : goal.returns-in-NotifyAfter-clause-carries
returns-in-NotifyAfter-clause-carries c = carried c.args.k.now c.notify_after_step.new.k (whole_step c.notify_after_step.result c.notify_after_step.new.said) c.args.p c.args.s c.args.statement.now _ c.in-NotifyAfter.is refl c.notify_after_step.ensures.carries

pub returns-in-Wait-clause-carries : goal.returns-in-Wait-clause-carries
returns-in-Wait-clause-carries c = carried c.args.k.now c.wait_step.new.k (whole_step c.wait_step.result c.wait_step.new.said) c.args.p c.args.s c.args.statement.now _ c.in-Wait.is refl c.wait_step.ensures.carries

pub returns-in-Wait-clause-memory : goal.returns-in-Wait-clause-memory
returns-in-Wait-clause-memory c = λ e. ap (λ z. takes_memory (statement_of z)) c.in-Wait.is

pub returns-in-NextTrigger-clause-carries : goal.returns-in-NextTrigger-clause-carries
returns-in-NextTrigger-clause-carries c = carried c.args.k.now c.trigger_step.new.k (whole_step c.trigger_step.result c.trigger_step.new.said) c.args.p c.args.s c.args.statement.now _ c.in-NextTrigger.is refl c.trigger_step.ensures.carries

pub returns-in-NextTrigger-clause-memory : goal.returns-in-NextTrigger-clause-memory
returns-in-NextTrigger-clause-memory c = λ e. ap (λ z. takes_memory (statement_of z)) c.in-NextTrigger.is

pub if_step-requires-clause-there : goal.if_step-requires-clause-there
if_step-requires-clause-there c = c.requires.there ∙ ap (λ z. Some (statement_of z)) c.in-If.is

pub returns-in-If-clause-carries : goal.returns-in-If-clause-carries
returns-in-If-clause-carries c = carried c.args.k.now c.if_step.new.k (whole_step c.if_step.result c.if_step.new.said) c.args.p c.args.s c.args.statement.now _ c.in-If.is refl c.if_step.ensures.carries

pub while_step-requires-clause-there : goal.while_step-requires-clause-there
while_step-requires-clause-there c = c.requires.there ∙ ap (λ z. Some (statement_of z)) c.in-While.is

pub returns-in-While-clause-carries : goal.returns-in-While-clause-carries
returns-in-While-clause-carries c = carried c.args.k.now c.while_step.new.k (whole_step c.while_step.result c.while_step.new.said) c.args.p c.args.s c.args.statement.now _ c.in-While.is refl c.while_step.ensures.carries

pub carry_rare-requires-clause-rare : goal.carry_rare-requires-clause-rare
carry_rare-requires-clause-rare c =
    not_usual c.args.statement.now c.in_default.not-Var c.in_default.not-Assign c.in_default.not-Write c.in_default.not-Print c.in_default.not-Notify c.in_default.not-NotifyDelta c.in_default.not-NotifyAfter
    c.in_default.not-Wait c.in_default.not-NextTrigger c.in_default.not-If c.in_default.not-While

pub returns-in_default-clause-carries : goal.returns-in_default-clause-carries
returns-in_default-clause-carries c = c.carry_rare.ensures.carries

pub returns-in_default-clause-refused : goal.returns-in_default-clause-refused
returns-in_default-clause-refused c = c.carry_rare.ensures.refused

pub returns-in_default-clause-faulted : goal.returns-in_default-clause-faulted
returns-in_default-clause-faulted c = c.carry_rare.ensures.faulted

pub returns-in_default-clause-memory : goal.returns-in_default-clause-memory
returns-in_default-clause-memory c = c.carry_rare.ensures.memory
