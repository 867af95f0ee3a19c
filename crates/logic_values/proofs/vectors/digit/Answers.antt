use Rattle.logic_values.proofs.PlaneLemmas.{place_is, place_set, place_clear}
use Rattle.logic_values.proofs.vectors.digit.Goals as goal

pub returns-in-true-true : goal.returns-in-true-true
returns-in-true-true c =
    let a = c.args.a in
    place_is c.args.i a.width a.unknown a.ones 1 1 c.requires (place_set a.unknown c.args.i c.in-true-true.is-0) (place_set a.ones c.args.i c.in-true-true.is-1)

pub returns-in-true-false : goal.returns-in-true-false
returns-in-true-false c =
    let a = c.args.a in
    place_is c.args.i a.width a.unknown a.ones 1 0 c.requires (place_set a.unknown c.args.i c.in-true-false.is-0) (place_clear a.ones c.args.i c.in-true-false.is-1)

pub returns-in-false-true : goal.returns-in-false-true
returns-in-false-true c =
    let a = c.args.a in
    place_is c.args.i a.width a.unknown a.ones 0 1 c.requires (place_clear a.unknown c.args.i c.in-false-true.is-0) (place_set a.ones c.args.i c.in-false-true.is-1)

pub returns-in-false-false : goal.returns-in-false-false
returns-in-false-false c =
    let a = c.args.a in
    place_is c.args.i a.width a.unknown a.ones 0 0 c.requires (place_clear a.unknown c.args.i c.in-false-false.is-0) (place_clear a.ones c.args.i c.in-false-false.is-1)
