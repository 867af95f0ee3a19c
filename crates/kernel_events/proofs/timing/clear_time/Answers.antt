use Rattle.std.proofs.Common.{◌∙◌}
use Rattle.kernel_events.proofs.Changed.{without_none}
use Rattle.kernel_events.proofs.timing.clear_time.Goals as goal

pub returns-else-has_time : goal.returns-else-has_time
returns-else-has_time c = without_none c.args.times.now c.args.e (c.requires ∙ c.if-has_time.false)
