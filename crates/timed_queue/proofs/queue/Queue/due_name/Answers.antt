use Rattle.std.proofs.Common.{sym, ap, ◌∙◌}
use Rattle.timed_queue.specs.Timed.{Timed, is_due}
use Rattle.timed_queue.specs.Layout.{times_of}
use Rattle.timed_queue.proofs.Due.{none_due}
use Rattle.timed_queue.proofs.QueueLaws.{due_is, none_is_due}
use Rattle.timed_queue.proofs.queue.Queue.due_name.Goals as goal

pub returns-in-Some-clause-some : goal.returns-in-Some-clause-some
returns-in-Some-clause-some c =
    ap (λ (q : Timed). is_due q.times c.args.t c.name_of.result) (sym c.self.view_is)
    ∙ ap (is_due (times_of c.self.inside.index.entries c.self.inside.wheel.nodes.items) c.args.t) c.name_of.ensures ∙ due_is c.self.inside.index.entries c.self.inside.wheel c.self.invariant.0 c.args.t c.in-Some.i c.in-Some.ensures.some

pub returns-in-None-clause-none : goal.returns-in-None-clause-none
returns-in-None-clause-none c = λ p. ap (λ (q : Timed). is_due q.times c.args.t p) (sym c.self.view_is) ∙ none_is_due c.self.inside.index.entries c.self.inside.wheel c.self.invariant.0 c.args.t c.in-None.ensures.none p

pub returns-then-is_empty-clause-none : goal.returns-then-is_empty-clause-none
returns-then-is_empty-clause-none c = none_due c.args.self.now.times c.args.t (c.is_empty.ensures.0 c.if-is_empty.true)
