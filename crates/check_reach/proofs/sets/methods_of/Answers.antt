use Rattle.std.proofs.Common.{◌≡◌, ◌++◌, ℕ, Bool, List, map, Option, ap, ◌∙◌}
use Rattle.std.specs.Prelude.{option_map, option_to_list}
use Rattle.std.specs.Borrow.{Bor}
use Rattle.check_reach.specs.declared.bodies.FlatBody.{FlatBody}
use Rattle.check_expressions.specs.ModelRules.Names.{name_if}
use Rattle.check_expressions.specs.ModelRules.Reach.{is_of_kind}
use Rattle.flat_design.specs.declared.code.BodyKind.TheVariants as body_kind
use Rattle.check_reach.specs.Flat.{Flat, named_of, seen, seen_list}
use Rattle.check_reach.proofs.Turns.{turn, filtered}
use Rattle.check_reach.proofs.sets.methods_of.Goals as goal

pub loop-body-preserved : goal.loop-body-preserved
loop-body-preserved c =
    let old = map (λ (n : Bor (List ℕ)). n.now) c.loop-body.found.items in
    let b = c.body-item.result in
    let said : option_map (λ (n : Bor (List ℕ)). n.now) c.name_if.result ≡ name_if (is_of_kind body_kind.Method b.kind) b.name.now =
    c.name_if.ensures ∙ ap (λ (t : Bool). name_if t b.name.now) c.is_method.ensures in
    turn (λ (bs : List FlatBody). named_of body_kind.Method (seen_list bs)) (λ (x : FlatBody). option_to_list (name_if (is_of_kind body_kind.Method x.kind) x.name.now))
    (filtered seen (λ (f : Flat). name_if (is_of_kind body_kind.Method f.kind) f.name)) c.args.bodies.now c.loop-body.body-index b c.loop-body-test.true c.body-item.is old _ _
    (c.in_ok-add_name.ensures ∙ ap (λ (o : Option (List ℕ)). old ++ option_to_list o) said) c.loop-body.invariant
