use Rattle.bus_router.specs.Serving.{ServedSofar}
use Rattle.bus_router.proofs.serving.serve_all.Given as goal

abbrev pub invariant-loop-k : goal.invariant-loop-k
invariant-loop-k l = ServedSofar l.bus l.initial.memory l.order l.initial.payloads.items l.payloads.items l.memory l.k-index
