use Rattle.std.proofs.Common.{◌++◌, ℕ, List, map, Option, ap, ◌∙◌}
use Rattle.std.specs.Prelude.{option_to_list}
use Rattle.std.specs.Borrow.{Bor}
use Rattle.check_expressions.specs.CheckNames.ModuleNames.{items_of}
use Rattle.check_reach.specs.Sets.{numbers_of, number_of}
use Rattle.check_reach.proofs.Turns.{turn_at, filtered}
use Rattle.check_reach.proofs.calls.numbers_of.Goals as goal

pub loop-name-preserved : goal.loop-name-preserved
loop-name-preserved c =
    let items = items_of c.args.names.now in
    let old = c.loop-name.numbers.items in
    turn_at (λ (ns : List (Bor (List ℕ))). numbers_of items (map (λ (n : Bor (List ℕ)). n.now) ns)) (λ (n : Bor (List ℕ)). option_to_list (number_of items n.now))
    (filtered (λ (n : Bor (List ℕ)). n.now) (number_of items)) c.args.named.now c.loop-name.name-index _ c.loop-name-test.true old _ _
    (c.in_ok-add_number.ensures ∙ ap (λ (o : Option ℕ). old ++ option_to_list o) c.place.ensures) c.loop-name.invariant
