use Rattle.std.proofs.Common.{[], false, ap, ◌∙◌, arith}
use Rattle.std.specs.Prelude.{slice_set}
use Rattle.wait_lists.specs.Shown.{Shown}
use Rattle.wait_lists.specs.Layout.{shown_by}
use Rattle.wait_lists.proofs.Telling.{written_at}
use Rattle.wait_lists.proofs.Clearing.{set_twice, left-here, shown-there}
use Rattle.wait_lists.proofs.layout.relink.Goals as goal

pub begin_wait-requires-clause-inside : goal.begin_wait-requires-clause-inside
begin_wait-requires-clause-inside c = omega (arith, c.requires.inside, c.clear_wait.ensures.len)

pub begin_wait-requires-clause-free : goal.begin_wait-requires-clause-free
begin_wait-requires-clause-free c x there =
    let k = c.args.kept.now in
    let one = shown-there k c.args.at c.requires.inside in
    let is = written_at (shown_by k) (shown_by c.clear_wait.new.kept) c.args.at one.0 x (record one.0 { events = [] }) one.1 (c.clear_wait.ensures.cleared one.0 one.1) there in
    (ap (λ (y : Shown). y.events) is, omega (arith, ap (λ (y : Shown). y.room) is, c.requires.room one.0 one.1))

pub returns-clause-begun : goal.returns-clause-begun
returns-clause-begun c s here =
    let ss = shown_by c.args.kept.now in
    let new : Shown = record s { for_all = c.args.for_all; events = c.args.list.now; over = false } in
    let cleared = c.clear_wait.ensures.cleared s here in
    c.begin_wait.ensures.begun (record s { events = [] }) (left-here ss (shown_by c.clear_wait.new.kept) c.args.at s here [] cleared)
    ∙ ap (λ l. slice_set l c.args.at new) cleared ∙ set_twice ss c.args.at (record s { events = [] }) new
