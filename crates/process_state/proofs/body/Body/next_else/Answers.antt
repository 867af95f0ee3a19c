use Rattle.std.proofs.Common.{sym, subst, ◌∙◌}
use Rattle.kernel_bodies.specs.SimModel.Residual.{next_of}
use Rattle.kernel_bodies.specs.declared.layers.Next.{Next}
use Rattle.process_state.specs.Bodies.{settled_in, IsEnd}
use Rattle.process_state.proofs.Stepping.{shown_statement, shown_goal, shown_done, shown_nothing}
use Rattle.process_state.proofs.body.Body.next_else.Goals as goal

pub returns-in-Some-clause-value : goal.returns-in-Some-clause-value
returns-in-Some-clause-value c = c.in-Some.ensures.value c.args.program.now

pub returns-in-Some-clause-statement : goal.returns-in-Some-clause-statement
returns-in-Some-clause-statement c = λ s e. shown_statement (next_of (settled_in c.args.program.now c.args.self.now)) s (sym (c.in-Some.ensures.value c.args.program.now) ∙ e)

pub returns-in-Some-clause-goal : goal.returns-in-Some-clause-goal
returns-in-Some-clause-goal c = λ k e. shown_goal (next_of (settled_in c.args.program.now c.args.self.now)) k (sym (c.in-Some.ensures.value c.args.program.now) ∙ e)

pub returns-in-Some-clause-done : goal.returns-in-Some-clause-done
returns-in-Some-clause-done c = λ e. shown_done (next_of (settled_in c.args.program.now c.args.self.now)) (sym (c.in-Some.ensures.value c.args.program.now) ∙ e)

pub returns-in-Some-clause-nothing : goal.returns-in-Some-clause-nothing
returns-in-Some-clause-nothing c = λ e. shown_nothing (next_of (settled_in c.args.program.now c.args.self.now)) (sym (c.in-Some.ensures.value c.args.program.now) ∙ e)

pub returns-in-Some-clause-alone : goal.returns-in-Some-clause-alone
returns-in-Some-clause-alone c = λ s q e. let P : Next → Type 0 = IsEnd in subst P e c.in-Some.ensures.end
