use Rattle.std.proofs.Common.{sym, ◌∙◌}
use Rattle.kernel_phases.specs.ReadySet.Ready.{rising}
use Rattle.kernel_runs.specs.declared.answers.Telling.TheVariants as telling
use Rattle.kernel_runs.specs.declared.answers.Made.TheVariants as made
use Rattle.kernel_runs.proofs.Evaluated.{has_none, has_one, update_made, update_asks, took_made, took_asks, untaken_made, untaken_asks}
use Rattle.kernel_runs.proofs.evaluation.evaluate_next.Goals as goal

pub returns-then-len-eq0-clause-makes : goal.returns-then-len-eq0-clause-makes
returns-then-len-eq0-clause-makes g c =
    update_made c.args.k.now c.requires.nobody (has_none c.args.k.now.schedule.ready.members (sym c.len.ensures ∙ c.if-len-eq0.true)) c.update.new.k c.update.ensures.moves

pub returns-then-len-eq0-clause-asks : goal.returns-then-len-eq0-clause-asks
returns-then-len-eq0-clause-asks g c =
    update_asks c.args.k.now c.requires.nobody (has_none c.args.k.now.schedule.ready.members (sym c.len.ensures ∙ c.if-len-eq0.true))
    g.C.Chooser.picks g.C.Chooser.later c.args.chooser.now (made.Went telling.Nothing)

pub returns-in-Some-clause-makes : goal.returns-in-Some-clause-makes
returns-in-Some-clause-makes g c =
    let one = has_one c.args.k.now.schedule.ready.members (c.least_of_a_set.ensures.least _) (c.least_of_a_set.ensures.none _) (λ none. c.if-len-eq0.false (c.len.ensures ∙ none)) in
    took_made c.args.k.now c.requires.nobody one.0 one.1 c.take.new.k (g.C.Chooser.picks c.args.chooser.now (rising c.args.k.now.schedule.ready.members)) c.requires.sound c.in-Some.p c.in-Some.ensures.takes

pub returns-in-Some-clause-asks : goal.returns-in-Some-clause-asks
returns-in-Some-clause-asks g c =
    let one = has_one c.args.k.now.schedule.ready.members (c.least_of_a_set.ensures.least _) (c.least_of_a_set.ensures.none _) (λ none. c.if-len-eq0.false (c.len.ensures ∙ none)) in
    rw c.in-Some.ensures.held
    (took_asks c.args.k.now c.requires.nobody one.0 one.1 g.C.Chooser.picks g.C.Chooser.later c.args.chooser.now c.take.new.k c.in-Some.p c.in-Some.ensures.takes)

pub returns-in-None-clause-makes : goal.returns-in-None-clause-makes
returns-in-None-clause-makes g c =
    let one = has_one c.args.k.now.schedule.ready.members (c.least_of_a_set.ensures.least _) (c.least_of_a_set.ensures.none _) (λ none. c.if-len-eq0.false (c.len.ensures ∙ none)) in
    untaken_made c.args.k.now c.requires.nobody one.0 one.1 c.take.new.k (g.C.Chooser.picks c.args.chooser.now (rising c.args.k.now.schedule.ready.members)) c.in-None.ensures.takes

pub returns-in-None-clause-asks : goal.returns-in-None-clause-asks
returns-in-None-clause-asks g c =
    let one = has_one c.args.k.now.schedule.ready.members (c.least_of_a_set.ensures.least _) (c.least_of_a_set.ensures.none _) (λ none. c.if-len-eq0.false (c.len.ensures ∙ none)) in
    rw c.in-None.ensures.held
    (untaken_asks c.args.k.now c.requires.nobody one.0 one.1 g.C.Chooser.picks g.C.Chooser.later c.args.chooser.now c.take.new.k c.in-None.ensures.takes)
