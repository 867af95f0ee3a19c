use Rattle.std.proofs.Common.{[], refl, sym, ap, ◌∙◌}
use Rattle.process_state.specs.Bodies as calls
use Rattle.process_bodies.specs.Bodies.{owed_in, in_place}
use Rattle.process_bodies.proofs.Places.{put_over, place_past}
use Rattle.process_bodies.proofs.Showing.{owner_none, is_statement_there}
use Rattle.process_bodies.proofs.body.Body.owe_none.Goals as goal

pub past-requires-clause-statement : goal.past-requires-clause-statement
past-requires-clause-statement c = is_statement_there (calls.settled_in c.args.program.now c.args.self.now.calls) c.args.owed.statement c.requires.place

pub returns-clause-left : goal.returns-clause-left
returns-clause-left c =
    ap (λ x. owed_in x c.args.owed) c.past.ensures.left ∙ sym (put_over c.args.owed (calls.settled_in c.args.program.now c.args.self.now.calls) c.args.owed.statement c.args.owed.statement [] c.requires.place refl refl)

pub returns-clause-sound : goal.returns-clause-sound
returns-clause-sound c = record {
  calls = c.past.ensures.sound;
  owed = ap in_place c.past.ensures.left ∙ place_past (calls.settled_in c.args.program.now c.args.self.now.calls) c.args.owed.statement c.requires.place ∙ sym (owner_none c.args.owed c.requires.nobody);
}
