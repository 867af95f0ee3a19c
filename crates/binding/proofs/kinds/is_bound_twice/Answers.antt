use Rattle.std.proofs.Common.{ap, ◌∙◌}
use Rattle.design_rules.specs.Paths.{ends_of}
use Rattle.design_rules.specs.BindingFaults.{has_twice}
use Rattle.binding.proofs.Lists.{short_all}
use Rattle.binding.proofs.kinds.is_bound_twice.Goals as goal

pub returns-then-ends-lt-KEPT : goal.returns-then-ends-lt-KEPT
returns-then-ends-lt-KEPT c =
    c.has_twice.ensures
    ∙ ap has_twice (short_all 65 (ends_of c.args.objects.now c.args.i) c.row-ends.result.now (c.row-ends.ensures ∙ c.requires.known.ended c.args.i) c.if-ends-lt-KEPT.true)
