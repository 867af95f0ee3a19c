use Rattle.std.proofs.Common.{◌≡◌, true, refl}
use Rattle.clocked.specs.Parts.{is_count}
use Rattle.clocked.proofs.turns.ticked.Goals as goal

pub returns-in_ok-tick_alone-in-Semicolon : goal.returns-in_ok-tick_alone-in-Semicolon
returns-in_ok-tick_alone-in-Semicolon c = rw c.in-Semicolon.is (refl, c.in_ok-tick_alone-in-Semicolon.ensures)

pub returns-in_ok-tick_number-in-Number : goal.returns-in_ok-tick_number-in-Number
returns-in_ok-tick_number-in-Number c =
    let may : is_count c.in-Number.value ≡ true = cc in
    rw c.in-Number.is (rw may (refl, c.in_ok-tick_number-in-Number.ensures))
