use Rattle.std.proofs.Common.{◌≡◌, ◌++◌, ◌||◌, ℕ, false, List, map, sym, ap, ◌∙◌}
use Rattle.std.specs.Borrow.{Bor}
use Rattle.check_expressions.specs.CheckNames.ModuleNames.{items_of}
use Rattle.flat_design.specs.declared.code.BodyKind.TheVariants as body_kind
use Rattle.check_reach.specs.declared.begun.Begin.TheVariants as begin
use Rattle.check_reach.specs.declared.bodies.FlatBody.{FlatBody}
use Rattle.model_tree.specs.declared.items.Item.{Item}
use Rattle.std.specs.List.{flat_map}
use Rattle.check_expressions.specs.ModelRules.Reach.{Names, is_among, begun_from, is_handler}
use Rattle.check_reach.specs.Flat.{begun, flats_in, seen_list, all_handlers}
use Rattle.check_reach.proofs.BeginLaws.{threads_and_handlers}
use Rattle.check_reach.proofs.SetLaws.{if_ok}
use Rattle.check_reach.proofs.sets.from_threads.Goals as goal

pub returns : goal.returns
returns c =
    let items = items_of c.args.calls.now.names in
    let calls = c.requires.calls in
    let names : map (λ (n : Bor (List ℕ)). n.now) c.as_slice-2.result.now ≡ begun begin.Threads (flats_in items) ++ flat_map all_handlers items =
    ap (λ (ns : List (Bor (List ℕ))). map (λ (n : Bor (List ℕ)). n.now) ns) c.as_slice-2.ensures.value ∙ c.in_ok-add_handlers.ensures
    ∙ ap (λ (ns : Names). ns ++ flat_map all_handlers (items_of c.args.items.now)) (c.in_ok-named.ensures ∙ ap (λ (bs : List FlatBody). begun begin.Threads (seen_list bs)) c.as_slice.ensures.value ∙ ap (begun begin.Threads) calls.bodies)
    ∙ ap (λ (is : List Item). begun begin.Threads (flats_in items) ++ flat_map all_handlers (items_of is)) (sym c.requires.items) in
    if_ok c.reached.result (λ marks t. t (λ f. begun_from items body_kind.Thread false f || is_handler items f) (λ n. ap (λ (ns : Names). is_among ns n) names ∙ threads_and_handlers items n)) c.reached.ensures
