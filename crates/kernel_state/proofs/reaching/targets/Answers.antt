use Rattle.std.proofs.Common.{[], reverse, sym, ap, ◌∙◌}
use Rattle.std.specs.FinMap as map
use Rattle.kernel_processes.specs.SimModel.Control.{with_descendants}
use Rattle.kernel_state.specs.Added.{all_added}
use Rattle.kernel_state.proofs.Reached.{nobody_reached, all_reached}
use Rattle.kernel_state.proofs.reaching.targets.Goals as goal

pub returns-then-not-lives : goal.returns-then-not-lives
returns-then-not-lives c = λ d h. ap reverse c.new.ensures.items ∙ nobody_reached c.args.k.now d h c.args.q c.args.p (sym c.lives.ensures ∙ c.if-not-lives.true)

pub returns : goal.returns
returns c = λ d h.
    all_reached c.args.k.now d h c.args.q c.args.p c.in_ok-all.all.items c.in_ok-found.found.items c.in_ok-reached.reached.items (sym c.lives.ensures ∙ c.if-not-lives.false)
    (c.in_ok-all.ensures ∙ ap (λ ps. with_descendants ps c.args.q) c.as_slice.ensures.value)
    (c.in_ok-found.ensures ∙ ap (λ xs. all_added (λ n. map.contains_key c.args.k.now.schedule.table.live n) xs []) c.as_slice-2.ensures.value)
    c.in_ok-reached.ensures
