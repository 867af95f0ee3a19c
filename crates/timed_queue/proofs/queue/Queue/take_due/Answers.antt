use Rattle.std.proofs.Common.{◌≡◌, ◌++◌, length, drop, refl, sym, ap, ◌∙◌, arith}
use Rattle.std.proofs.lemmas.List.{append-nil}
use Rattle.timed_queue.specs.Timed.{due_at}
use Rattle.timed_queue.proofs.Due.{once-due_at, left_none, no_keys}
use Rattle.timed_queue.proofs.SortLaws.{tail_sorted, sorted_keys}
use Rattle.timed_queue.proofs.queue.Queue.take_due.Goals as goal

pub returns-clause-taken : goal.returns-clause-taken
returns-clause-taken c =
    let had : c.len-had.result ≡ length c.args.out.now.items = omega (arith, c.len-had.ensures, c.args.out.now.ok.0) in
    let taken = c.move_due.ensures.taken in
    let tail = tail_sorted c.args.out.now.items c.move_due.new.out.items c.sort_from.new.out.items taken.added c.len-had.result had taken.behind c.sort_from.ensures.front c.sort_from.ensures.permuted in
    record {
      added = drop c.len-had.result c.sort_from.new.out.items;
      behind = tail.0;
      once = λ p. tail.1 p ∙ taken.once p;
    }

pub returns-clause-order : goal.returns-clause-order
returns-clause-order c =
    let had : c.len-had.result ≡ length c.args.out.now.items = omega (arith, c.len-had.ensures, c.args.out.now.ok.0) in
    let taken = c.move_due.ensures.taken in
    let tail = tail_sorted c.args.out.now.items c.move_due.new.out.items c.sort_from.new.out.items taken.added c.len-had.result had taken.behind c.sort_from.ensures.front c.sort_from.ensures.permuted in
    tail.0 ∙ ap (λ xs. c.args.out.now.items ++ xs) (sorted_keys (due_at c.args.self.now.times c.args.t) (drop c.len-had.result c.sort_from.new.out.items) c.sort_from.ensures.sorted
    (λ p. tail.1 p ∙ taken.once p ∙ sym (once-due_at c.args.self.now.times c.args.t p)))

pub returns-then-not-reaches-clause-left : goal.returns-then-not-reaches-clause-left
returns-then-not-reaches-clause-left c = sym (left_none c.args.self.now c.args.t (c.if-not-reaches.ensures refl))

pub returns-then-not-reaches-clause-order : goal.returns-then-not-reaches-clause-order
returns-then-not-reaches-clause-order c =
    sym (ap (λ ks. c.args.out.now.items ++ ks) (no_keys c.args.self.now.times c.args.t (c.if-not-reaches.ensures refl)) ∙ append-nil c.args.out.now.items)
