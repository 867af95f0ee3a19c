use Rattle.std.proofs.Common.{◌-◌, ◌^◌, arith}
use Rattle.exec_channels.proofs.TriedSemaphores.{below_greatest}
use Rattle.exec_channels.proofs.semaphores.give.Goals as goal

pub post_semaphore-requires : goal.post_semaphore-requires
post_semaphore-requires c = below_greatest c.args.board.now.semaphores c.in-Some.n (2 ^ 64 - 1) (omega arith) c.requires.room
