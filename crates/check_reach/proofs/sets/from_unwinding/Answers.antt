use Rattle.std.proofs.Common.{◌≡◌, ℕ, List, map, ap, ◌∙◌}
use Rattle.std.specs.Borrow.{Bor}
use Rattle.check_expressions.specs.CheckNames.ModuleNames.{items_of}
use Rattle.std.specs.List.{list_any}
use Rattle.check_reach.specs.declared.begun.Begin.TheVariants as begin
use Rattle.check_reach.specs.declared.bodies.FlatBody.{FlatBody}
use Rattle.check_expressions.specs.ModelRules.Reach.{Names, is_among, calls_unwinding, bodies_in}
use Rattle.check_reach.specs.Flat.{begun, flats_in, seen_list}
use Rattle.check_reach.proofs.BeginLaws.{unwinding_same}
use Rattle.check_reach.proofs.SetLaws.{if_ok}
use Rattle.check_reach.proofs.sets.from_unwinding.Goals as goal

pub returns : goal.returns
returns c =
    let items = items_of c.args.calls.now.names in
    let calls = c.requires.calls in
    let names : map (λ (n : Bor (List ℕ)). n.now) c.as_slice-2.result.now ≡ begun begin.Unwinding (flats_in items) =
    ap (λ (ns : List (Bor (List ℕ))). map (λ (n : Bor (List ℕ)). n.now) ns) c.as_slice-2.ensures.value ∙ c.in_ok-named.ensures ∙ ap (λ (bs : List FlatBody). begun begin.Unwinding (seen_list bs)) c.as_slice.ensures.value ∙ ap (begun begin.Unwinding) calls.bodies in
    if_ok c.reached.result (λ marks t. t (λ f. list_any (calls_unwinding f) (bodies_in items)) (λ n. ap (λ (ns : Names). is_among ns n) names ∙ unwinding_same items n)) c.reached.ensures
