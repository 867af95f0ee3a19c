use Rattle.std.proofs.Common.{◌+◌, ◌∙◌, length, sym, ap, subst}
use Rattle.sim_io.specs.Keeps.{ReadKeeps}
use Rattle.sim_io.specs.Sound.{SoundState, file_at, rest_of, told, IsReading, IsCreated, StandsFor, writes_of}
use Rattle.sim_io.proofs.Places.{read_keeps, given_rest, give_consumes}
use Rattle.sim_io.proofs.sound_shelf.SoundShelfShelf.read.Goals as goal

pub returns-clause-bytes : goal.returns-clause-bytes
returns-clause-bytes c =
    give_consumes (rest_of (file_at c.args.self.now.files c.args.id)) (rest_of (file_at c.give.new.self.files c.args.id)) c.give.result c.give.new.into (length c.args.into.now)
    (sym c.give.auto.into) c.give.ensures.count c.give.ensures.front
    (ap (λ (s : SoundState). rest_of (file_at s.files c.args.id)) c.give.ensures.after ∙ given_rest c.args.self.now.files c.args.id c.give.result)

pub returns-clause-kept : goal.returns-clause-kept
returns-clause-kept c =
    let P : SoundState → Type 0 = λ s. ReadKeeps told writes_of IsReading IsCreated StandsFor c.args.self.now s in
    subst P (sym c.give.ensures.after) (read_keeps c.args.self.now c.args.id ((file_at c.args.self.now.files c.args.id).at + c.give.result))
