use Rattle.kernel_start.proofs.Cleaned.{clean}
use Rattle.kernel_start.proofs.laws.parts_are_clean.Goals as goal

pub returns : goal.returns
returns c = clean c.args.k.now.kernel.schedule c.args.k.now.sound.schedule
