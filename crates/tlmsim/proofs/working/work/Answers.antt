use Rattle.std.proofs.Common.{◌≤◌, arith}
use Rattle.command_line.specs.Views.{simulation_of}
use Rattle.tlmsim.proofs.Ends.{apart_of}
use Rattle.tlmsim.proofs.Large.{large_asked, never_large}
use Rattle.tlmsim.proofs.working.work.Goals as goal

pub simulate-requires-clause-apart : goal.simulate-requires-clause-apart
simulate-requires-clause-apart g c =
    let s = simulation_of c.in-Ok-Simulate.simulation in
    apart_of s.vcd s.choices (c.simulations_write_apart.ensures c.args.words.now s (rw c.in-Ok-Simulate.field-0-is at c.in-Ok-Simulate.ensures))

pub simulate-requires-clause-budget : goal.simulate-requires-clause-budget
simulate-requires-clause-budget g c =
    let few : c.in-Ok-Simulate.simulation.budget ≤ 67108864 = c.budgets_are_limited.ensures.simulated c.args.words.now (simulation_of c.in-Ok-Simulate.simulation) (rw c.in-Ok-Simulate.field-0-is at c.in-Ok-Simulate.ensures) in
    omega (arith, few)

pub generate-requires : goal.generate-requires
generate-requires g c =
    let few : c.in-Ok-Generate.generated.budget ≤ 67108864 = c.budgets_are_limited.ensures.generated c.args.words.now c.in-Ok-Generate.generated (rw c.in-Ok-Generate.field-0-is at c.in-Ok-Generate.ensures) in
    record { budget = omega (arith, few) }

pub returns-in-Ok-Simulate-clause-works : goal.returns-in-Ok-Simulate-clause-works
returns-in-Ok-Simulate-clause-works g c = λ err err' faults faults'. c.simulate.ensures.works c.args.words.now err err' faults faults' (rw c.in-Ok-Simulate.field-0-is at c.in-Ok-Simulate.ensures)

pub returns-in-Ok-Page-clause-works : goal.returns-in-Ok-Page-clause-works
returns-in-Ok-Page-clause-works g c = λ err err' faults faults'. c.page.ensures.works c.args.words.now err err' faults faults' (rw c.in-Ok-Page.field-0-is at c.in-Ok-Page.ensures)

pub returns-in-Ok-Generate-clause-works : goal.returns-in-Ok-Generate-clause-works
returns-in-Ok-Generate-clause-works g c = λ err err' faults faults'. c.generate.ensures.works c.args.words.now err err' faults faults' (rw c.in-Ok-Generate.field-0-is at c.in-Ok-Generate.ensures)

pub returns-in-Ok-Simulate-clause-no_more : goal.returns-in-Ok-Simulate-clause-no_more
returns-in-Ok-Simulate-clause-no_more g c = large_asked _ _ _ _ _ _ _ _ (rw c.in-Ok-Simulate.field-0-is at c.in-Ok-Simulate.ensures) c.simulate.ensures.no_more

pub returns-in-Ok-Page-clause-no_more : goal.returns-in-Ok-Page-clause-no_more
returns-in-Ok-Page-clause-no_more g c = large_asked _ _ _ _ _ _ _ _ (rw c.in-Ok-Page.field-0-is at c.in-Ok-Page.ensures) c.page.ensures.no_more

pub returns-in-Ok-Generate-clause-no_more : goal.returns-in-Ok-Generate-clause-no_more
returns-in-Ok-Generate-clause-no_more g c = never_large _ _ c.generate.ensures.no_more
