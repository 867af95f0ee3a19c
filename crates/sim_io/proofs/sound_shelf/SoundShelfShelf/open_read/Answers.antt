use Rattle.std.proofs.Common.{◌≡◌, ◌≤◌, Some, length, sym, subst, arith}
use Rattle.std.specs.Prelude.{IfSome}
use Rattle.std.proofs.lemmas.List.{length-set}
use Rattle.sim_io.specs.Contents.{text_of}
use Rattle.sim_io.specs.Keeps.{ReadKeeps}
use Rattle.sim_io.specs.Sound.{SoundState, texts, place_of, file_at, begun, told, IsReading, left_of, IsCreated, StandsFor, writes_of}
use Rattle.sim_io.proofs.Places.{place_within, read_keeps, opened_left, opened_told}
use Rattle.sim_io.proofs.sound_shelf.SoundShelfShelf.open_read.Goals as goal

pub returns-clause-text : goal.returns-clause-text
returns-clause-text c =
    let P : SoundState → Type 0 = λ s. left_of s (place_of c.args.self.now.files c.args.name.now) ≡ Some (text_of (texts c.args.self.now.files c.args.name.now)) in
    subst P (sym c.open.ensures.after)
    (opened_left c.args.self.now.files c.args.name.now c.open.result (sym c.open.ensures.id))

pub returns-clause-id : goal.returns-clause-id
returns-clause-id c =
    let P : SoundState → Type 0 = λ s. c.open.result ≤ length s.files in
    subst P (sym c.open.ensures.after)
    (omega (arith, c.open.ensures.id, place_within c.args.self.now.files c.args.name.now, length-set c.args.self.now.files c.open.result (begun (file_at c.args.self.now.files c.open.result))))

pub returns-clause-bytes : goal.returns-clause-bytes
returns-clause-bytes c =
    let P : SoundState → Type 0 = λ s. IfSome (told c.args.self.now) (λ files. left_of s c.open.result ≡ Some (text_of (files c.args.name.now))) in
    subst P (sym c.open.ensures.after)
    (opened_told c.args.self.now.created c.args.self.now.files c.args.name.now c.open.result (sym c.open.ensures.id))

pub returns-clause-kept : goal.returns-clause-kept
returns-clause-kept c =
    let P : SoundState → Type 0 = λ s. ReadKeeps told writes_of IsReading IsCreated StandsFor c.args.self.now s in
    subst P (sym c.open.ensures.after) (read_keeps c.args.self.now c.open.result 0)
