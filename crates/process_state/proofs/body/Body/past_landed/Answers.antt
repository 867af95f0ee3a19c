use Rattle.std.proofs.Common.{sym, ◌∙◌}
use Rattle.kernel_bodies.specs.FlatDesign.Code.{arena_of}
use Rattle.kernel_bodies.specs.SimModel.Residual.{next_of, skip}
use Rattle.process_state.specs.Bodies.{settled_in}
use Rattle.process_state.proofs.Frames.{ends_inside, put_statement, left_nothing, fits_nothing}
use Rattle.process_state.proofs.Stepping.{statement_comes}
use Rattle.process_state.proofs.body.Body.past_landed.Goals as goal

pub returns-clause-left : goal.returns-clause-left
returns-clause-left c =
    let p = c.args.program.now in
    let a = arena_of p.code in
    let b = c.settle_to.new.self in
    let r = settled_in p c.args.self.now in
    let w = statement_comes (next_of r) c.settle_to.result c.requires.statement c.settle_to.ensures.shows in
    left_nothing a b.goal b.frames.items
    ∙ sym (put_statement a b.goal b.frames.items b.statement w.0 r skip c.settle_to.ensures.left (c.settle_to.ensures.statement ∙ w.1) (ends_inside b.goal b.frames.items c.settle_to.result w.0 w.1 c.settle_to.ensures.ends))

pub returns-clause-sound : goal.returns-clause-sound
returns-clause-sound c =
    let p = c.args.program.now in
    let h = c.settle_to.ensures.sound in record {
      room = fits_nothing (arena_of p.code) p.depths.items c.settle_to.new.self.frames.items h.room.each;
      own = h.own;
      rests = h.rests;
      locals = h.locals;
      blocks = h.blocks;
    }
