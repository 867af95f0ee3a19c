use Rattle.std.proofs.Common.{refl, subst}
use Rattle.sim_io.specs.Memory.{SinkState, WriteFails}
use Rattle.sim_io.proofs.memory_sink.MemorySinkSink.write.Goals as goal

pub returns-then-write_fails-clause-exact : goal.returns-then-write_fails-clause-exact
returns-then-write_fails-clause-exact c =
    let P : SinkState → Type 0 = λ s. WriteFails s in
    (λ _. subst P c.self.view_is (rw c.deref.ensures.value at (c.if-write_fails.ensures.0 refl)), λ _. refl)
