use Rattle.std.proofs.Common.{◌≡◌, ℕ, true, List, map, ap, ◌∙◌}
use Rattle.std.specs.Borrow.{Bor}
use Rattle.check_expressions.specs.CheckNames.ModuleNames.{items_of}
use Rattle.flat_design.specs.declared.code.BodyKind.TheVariants as body_kind
use Rattle.check_reach.specs.declared.begun.Begin.TheVariants as begin
use Rattle.check_reach.specs.declared.bodies.FlatBody.{FlatBody}
use Rattle.check_expressions.specs.ModelRules.Reach.{Names, is_among, begun_from}
use Rattle.check_reach.specs.Flat.{begun, flats_in, seen_list}
use Rattle.check_reach.proofs.BeginLaws.{methods_begin}
use Rattle.check_reach.proofs.SetLaws.{if_ok}
use Rattle.check_reach.proofs.sets.from_methods.Goals as goal

pub returns : goal.returns
returns c =
    let items = items_of c.args.calls.now.names in
    let calls = c.requires.calls in
    let names : map (λ (n : Bor (List ℕ)). n.now) c.as_slice-2.result.now ≡ begun begin.Methods (flats_in items) =
    ap (λ (ns : List (Bor (List ℕ))). map (λ (n : Bor (List ℕ)). n.now) ns) c.as_slice-2.ensures.value ∙ c.in_ok-named.ensures ∙ ap (λ (bs : List FlatBody). begun begin.Methods (seen_list bs)) c.as_slice.ensures.value ∙ ap (begun begin.Methods) calls.bodies in
    if_ok c.reached.result (λ marks t. t (begun_from items body_kind.Method true) (λ n. ap (λ (ns : Names). is_among ns n) names ∙ methods_begin items n)) c.reached.ensures
