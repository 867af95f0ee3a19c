use Rattle.std.proofs.Common.{◌≡◌, map, sym, ap, ◌∙◌}
use Rattle.code_rules.specs.Tables.{in_functions, with_room}
use Rattle.code_rules.proofs.Needed.{rooms_raised, kept_raised}
use Rattle.code_rules.proofs.raised.raise_rooms.Goals as goal

pub returns-clause-kept : goal.returns-clause-kept
returns-clause-kept c =
    let table = c.as_slice-3.result.now in
    let functions = c.in_functions-functions.result in
    let bodies : c.from_vec.result ≡ map (with_room table functions) c.args.code.bodies =
    c.from_vec.ensures ∙ c.in_ok-bodies.ensures.rooms ∙ ap (map (with_room table functions)) c.into_vec.ensures in
    kept_raised c.args.code c.from_vec.result table functions bodies

pub returns-clause-rooms : goal.returns-clause-rooms
returns-clause-rooms c =
    let table = c.as_slice-3.result.now in
    let functions = c.in_functions-functions.result in
    let bodies : c.from_vec.result ≡ map (with_room table functions) c.args.code.bodies =
    c.from_vec.ensures ∙ c.in_ok-bodies.ensures.rooms ∙ ap (map (with_room table functions)) c.into_vec.ensures in
    let found : functions ≡ in_functions table c.args.code.bodies =
    c.in_functions-functions.ensures ∙ ap (λ t. in_functions t c.as_slice-2.result.now) (c.as_slice.ensures.value ∙ sym c.as_slice-3.ensures.value) ∙ ap (in_functions table) c.as_slice-2.ensures in
    rooms_raised c.args.code c.from_vec.result table functions bodies (c.as_slice-3.ensures.value ∙ c.in_ok-table.ensures) found c.requires
