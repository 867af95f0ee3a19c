use Rattle.std.proofs.Common.{length, ap, ◌∙◌}
use Rattle.kernel_phases.proofs.Updated.{all_told}
use Rattle.kernel_phases.proofs.updates.update_channels.Goals as goal

pub returns-clause-many : goal.returns-clause-many
returns-clause-many c = ap length c.update.ensures.announced ∙ all_told c.args.k.now.design c.args.k.now.channels c.args.k.now.events
