use Rattle.std.proofs.Common.{sym, ap, ◌∙◌}
use Rattle.kernel_state.specs.ReadySet.Ready.{rising}
use Rattle.kernel_state.specs.SimModel.Runs.{picked}
use Rattle.kernel_phases.specs.Holding.{chooser_in}
use Rattle.kernel_phases.proofs.Chosen.{least_chosen, greatest_chosen, seeded_chosen}
use Rattle.kernel_phases.proofs.choosing.chosen.Goals as goal

pub returns-in-Least-clause-answer : goal.returns-in-Least-clause-answer
returns-in-Least-clause-answer c =
    let s = c.args.ready.now.members in
    c.least.ensures ∙ least_chosen s ∙ sym (ap (λ h. picked (chooser_in h) (rising s)) c.in-Least.is)

pub returns-in-Greatest-clause-answer : goal.returns-in-Greatest-clause-answer
returns-in-Greatest-clause-answer c =
    let s = c.args.ready.now.members in
    c.greatest.ensures ∙ greatest_chosen s ∙ sym (ap (λ h. picked (chooser_in h) (rising s)) c.in-Greatest.is)

pub returns-in-Seeded-clause-answer : goal.returns-in-Seeded-clause-answer
returns-in-Seeded-clause-answer c =
    let s = c.args.ready.now.members in
    c.seeded_choice.ensures.answer ∙ seeded_chosen c.in-Seeded.generator s ∙ sym (ap (λ h. picked (chooser_in h) (rising s)) c.in-Seeded.is)
