use Rattle.kernel_bodies.specs.FlatDesign.Code.{arena_of}
use Rattle.process_state.specs.Bodies.{settled_in}
use Rattle.process_state.proofs.Passed.{passed_taken}
use Rattle.process_state.proofs.body.Body.pass_first.Goals as goal

pub returns-in-Some-clause-left : goal.returns-in-Some-clause-left
returns-in-Some-clause-left c = λ _.
    let b = c.take_first.new.self in
    passed_taken (arena_of c.args.program.now.code) b.goal b.frames.items c.in-Some.field-0 (settled_in c.args.program.now c.args.self.now) c.in-Some.ensures.settles b.statement c.take_first.ensures.none

pub returns-in-None-clause-stays : goal.returns-in-None-clause-stays
returns-in-None-clause-stays c = λ _. c.in-None.ensures.stays
