use Rattle.std.proofs.Common.{append_assoc, append-nil}
use Rattle.model_gen.proofs.Stages.{stages_none, stages_more}
use Rattle.model_gen.proofs.generated.push_stages.Goals as goal

pub loop-made-init : goal.loop-made-init
loop-made-init c = rw (stages_none, append-nil)

pub loop-made-preserved : goal.loop-made-preserved
loop-made-preserved c = rw (c.in_ok-push_stage.ensures, c.loop-made.invariant, stages_more c.loop-made.made, append_assoc)
