use Rattle.std.proofs.Common.{◌≡◌, Bool, true, false, refl}
use Rattle.std.specs.FinMap as map
use Rattle.kernel_state.specs.SimModel.Configuration.{instance_at}
use Rattle.kernel_state.specs.SimModel.Steps.{instance_taken}
use Rattle.kernel_state.specs.Moves.{Moves}
use Rattle.kernel_phases.specs.Turns.{is_begun}
use Rattle.kernel_phases.proofs.TurnFrames.{takes_moves, taken_sound, taken_lives, goes_on, goes_first}
use Rattle.kernel_phases.proofs.turns.turn.Goals as goal

pub begin_first-requires-clause-sound : goal.begin_first-requires-clause-sound
begin_first-requires-clause-sound c = taken_sound c.args.k.now c.args.p c.requires.sound c.requires.runs c.requires.nobody c.take.new.s c.take.ensures.sound c.take.ensures.moves

pub begin_first-requires-clause-lives : goal.begin_first-requires-clause-lives
begin_first-requires-clause-lives c = taken_lives c.args.k.now c.args.p c.requires.sound c.requires.runs c.requires.nobody c.take.new.s c.take.ensures.sound c.take.ensures.moves

pub returns-clause-moves : goal.returns-clause-moves
returns-clause-moves c = by (is_begun (map.get c.take.new.s.table.live c.args.p)) refl
  where
    by : (b : Bool) → is_begun (map.get c.take.new.s.table.live c.args.p) ≡ b → Moves c.args.k.now c.begin_first.new.k (λ d. instance_taken d c.args.p (instance_at d c.args.p))
    by true is = λ d h. c.begin_first.ensures.stays is _
        (goes_on c.args.k.now (record c.args.k.now { schedule = c.take.new.s }) c.args.p (takes_moves c.args.k.now c.args.p c.requires.sound c.requires.runs c.requires.nobody c.take.new.s c.take.ensures.sound c.take.ensures.moves)
        (taken_lives c.args.k.now c.args.p c.requires.sound c.requires.runs c.requires.nobody c.take.new.s c.take.ensures.sound c.take.ensures.moves) is d h)
    by false is = goes_first c.args.k.now (record c.args.k.now { schedule = c.take.new.s }) c.args.p (takes_moves c.args.k.now c.args.p c.requires.sound c.requires.runs c.requires.nobody c.take.new.s c.take.ensures.sound c.take.ensures.moves)
        (taken_lives c.args.k.now c.args.p c.requires.sound c.requires.runs c.requires.nobody c.take.new.s c.take.ensures.sound c.take.ensures.moves) is c.begin_first.new.k (c.begin_first.ensures.first is)
