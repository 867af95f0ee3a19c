use Rattle.std.proofs.Common.{[]}
use Rattle.check_expressions.specs.ModelRules.declared.needs.Need.TheVariants as need_of
use Rattle.check_expressions.specs.ModelRules.Names.{unknown_use}
use Rattle.check_expressions.specs.CheckNames.Places.{scope_of}
use Rattle.check_actions.specs.declared.uses.Used.{Used}
use Rattle.check_actions.proofs.Parts.{use_found, use_passed}
use Rattle.check_actions.proofs.uses.unknown_in.Goals as goal

pub returns-in-Some : goal.returns-in-Some
returns-in-Some c =
    let d : Used = record { name = record { ref_ptr = (0, 0); now = [] }; need = need_of.Readable } in
    use_found (unknown_use (scope_of c.args.place.now)) c.args.uses.now c.loop-used.used-index d c.loop-used-test.true _ c.in-Some.name.now c.loop-used.invariant c.in-Some.ensures

pub loop-used-preserved : goal.loop-used-preserved
loop-used-preserved c =
    let d : Used = record { name = record { ref_ptr = (0, 0); now = [] }; need = need_of.Readable } in
    use_passed (unknown_use (scope_of c.args.place.now)) c.args.uses.now c.loop-used.used-index d c.loop-used-test.true _ c.loop-used.invariant c.in_default.ensures
