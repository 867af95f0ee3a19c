use Rattle.bus_router.specs.Times.{row_at}
use Rattle.bus_router.specs.Serving.{HomesSofar}
use Rattle.bus_router.proofs.answers.answers_of.Given as goal

abbrev pub invariant-loop-home : goal.invariant-loop-home
invariant-loop-home l = HomesSofar l.bus (row_at l.rows) l.payloads.items l.home
