use Rattle.std.proofs.Common.{◌≡◌, ℕ, List, length, map, sym, ap, ◌∙◌, subst}
use Rattle.std.specs.Borrow.{Bor}
use Rattle.std.proofs.lemmas.List.{length-map}
use Rattle.model_tree.specs.Views.{item_of}
use Rattle.check_expressions.specs.CheckNames.ModuleNames.{items_of}
use Rattle.check_reach.specs.Edges.{IsSpread}
use Rattle.check_reach.specs.declared.bodies.FlatBody.{FlatBody}
use Rattle.check_reach.specs.Flat.{blocking_bodies, flats_in, seen_list}
use Rattle.check_reach.specs.Sets.{function_numbers}
use Rattle.check_reach.proofs.SetLaws.{if_ok, blocking_set}
use Rattle.check_reach.proofs.sets.blocking.Goals as goal

pub returns : goal.returns
returns c =
    let items = items_of c.args.calls.now.names in
    let calls = c.requires.calls in
    let count = c.args.calls.now.count in
    let many : count ≡ length items = calls.count ∙ sym (length-map c.args.calls.now.names item_of) in
    let names : map (λ (n : Bor (List ℕ)). n.now) c.in_ok-named.named.items ≡ blocking_bodies items (flats_in items) =
    c.in_ok-named.ensures ∙ ap (λ (bs : List FlatBody). blocking_bodies items (seen_list bs)) c.as_slice.ensures.value ∙ ap (blocking_bodies items) calls.bodies in
    let numbers : c.as_slice-4.result.now ≡ function_numbers items (blocking_bodies items (flats_in items)) =
    c.as_slice-4.ensures.value ∙ c.in_ok-numbers.ensures ∙ ap (λ (ns : List (Bor (List ℕ))). function_numbers items (map (λ (n : Bor (List ℕ)). n.now) ns)) c.as_slice-2.ensures.value ∙ ap (function_numbers items) names in
    if_ok c.spread.result
    (λ marks s. blocking_set items count many c.as_slice-3.result.now marks.items (c.as_slice-3.ensures.value ∙ calls.back) (c.blocking_is_least.ensures items)
    (subst (λ (roots : List ℕ). IsSpread count c.as_slice-3.result.now roots marks.items) numbers s))
    c.spread.ensures
