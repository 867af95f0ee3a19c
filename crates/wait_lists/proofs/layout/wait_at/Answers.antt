use Rattle.std.proofs.Common.{false, ◌∙◌, set}
use Rattle.wait_lists.specs.Layout.{shown_by}
use Rattle.wait_lists.proofs.layout.wait_at.Goals as goal

pub returns-then-is_linked-clause-begun : goal.returns-then-is_linked-clause-begun
returns-then-is_linked-clause-begun c s here =
    let same = c.is_linked.ensures s here c.if-is_linked.true in
    c.resume.ensures.resumed s here ∙ (λ i. set (shown_by c.args.kept.now) c.args.at (record s { for_all = same.0 i; events = same.1 i; over = false }))
