use Rattle.kernel_processes.proofs.OtherBody.{puts_body, puts_sound}
use Rattle.kernel_processes.proofs.bodies.bodies_are_the_callers.Goals as goal

pub returns-clause-puts : goal.returns-clause-puts
returns-clause-puts g c s p x b at = puts_body s p x b at

pub returns-clause-sound : goal.returns-clause-sound
returns-clause-sound g c s p x b at sound = puts_sound s p x b at sound
