use Rattle.kernel_bodies.specs.FlatDesign.Code.{arena_of}
use Rattle.process_state.proofs.Frames.{fits_nothing}
use Rattle.process_state.proofs.Passed.{some_is, none_is, past_left}
use Rattle.process_state.proofs.body.Body.past.Goals as goal

pub returns-then-is_some-clause-left : goal.returns-then-is_some-clause-left
returns-then-is_some-clause-left c =
    let b = c.args.self.now in
    let w = some_is b.statement c.is_some.result c.is_some.ensures c.if-is_some.true in
    past_left (arena_of c.args.program.now.code) b.goal b.frames.items b.statement w.0 w.1 c.requires.statement

pub returns-then-is_some-clause-sound : goal.returns-then-is_some-clause-sound
returns-then-is_some-clause-sound c =
    let p = c.args.program.now in
    let h = c.requires.sound in record {
      room = fits_nothing (arena_of p.code) p.depths.items c.args.self.now.frames.items h.room.each;
      own = h.own;
      rests = h.rests;
      locals = h.locals;
      blocks = h.blocks;
    }

pub past_inside-requires-clause-none : goal.past_inside-requires-clause-none
past_inside-requires-clause-none c = none_is c.args.self.now.statement c.is_some.result c.is_some.ensures c.if-is_some.false
