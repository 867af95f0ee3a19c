use Rattle.std.proofs.Common.{◌∷◌, reverse, refl, sym, ap, ◌∙◌}
use Rattle.kernel_bodies.specs.FlatDesign.Code.{arena_of}
use Rattle.process_state.specs.Bodies as calls
use Rattle.process_bodies.specs.Bodies.{owed_in, in_place}
use Rattle.process_bodies.proofs.Places.{plain_settled, put_owed}
use Rattle.process_bodies.proofs.Showing.{owner_some}
use Rattle.process_bodies.proofs.body.Body.owe_some.Goals as goal

pub returns-clause-left : goal.returns-clause-left
returns-clause-left c =
    ap (λ x. owed_in x c.args.owed) c.settle.ensures.left
    ∙ sym (put_owed c.args.owed (calls.settled_in c.args.program.now c.args.self.now.calls) c.args.owed.statement c.args.owed.statement (c.args.owed.first ∷ reverse c.args.owed.rest.items) c.requires.place (plain_settled (arena_of c.args.program.now.code) (calls.left_in c.args.program.now c.args.self.now.calls)) refl refl)

pub returns-clause-sound : goal.returns-clause-sound
returns-clause-sound c = record {
  calls = c.settle.ensures.sound;
  owed = ap in_place c.settle.ensures.left ∙ c.requires.place ∙ sym (owner_some c.args.owed c.requires.somebody);
}
