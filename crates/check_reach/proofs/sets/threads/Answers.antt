use Rattle.std.proofs.Common.{◌≡◌, ℕ, List, [], length, map, sym, ap, ◌∙◌, subst}
use Rattle.std.specs.Borrow.{Bor}
use Rattle.std.proofs.lemmas.List.{length-map}
use Rattle.model_tree.specs.Views.{item_of}
use Rattle.check_expressions.specs.CheckNames.ModuleNames.{items_of}
use Rattle.check_reach.specs.Edges.{IsSpread}
use Rattle.check_reach.specs.declared.edges.Edge.{Edge}
use Rattle.flat_design.specs.declared.code.BodyKind.TheVariants as body_kind
use Rattle.check_reach.specs.declared.bodies.FlatBody.{FlatBody}
use Rattle.check_reach.specs.Flat.{named_of, flats_in, seen_list}
use Rattle.check_reach.specs.Sets.{numbers_of}
use Rattle.check_reach.proofs.SetLaws.{if_ok, process_set}
use Rattle.check_reach.proofs.sets.threads.Goals as goal

pub returns : goal.returns
returns c =
    let items = items_of c.args.calls.now.names in
    let calls = c.requires.calls in
    let count = c.args.calls.now.count in
    let many : count ≡ length items = calls.count ∙ sym (length-map c.args.calls.now.names item_of) in
    let names : map (λ (n : Bor (List ℕ)). n.now) c.in_ok-named.named.items ≡ named_of body_kind.Thread (flats_in items) =
    c.in_ok-named.ensures ∙ ap (λ (bs : List FlatBody). named_of body_kind.Thread (seen_list bs)) c.as_slice.ensures.value ∙ ap (named_of body_kind.Thread) calls.bodies in
    let numbers : c.as_slice-3.result.now ≡ numbers_of items (named_of body_kind.Thread (flats_in items)) =
    c.as_slice-3.ensures.value ∙ c.in_ok-numbers.ensures ∙ ap (λ (ns : List (Bor (List ℕ))). numbers_of items (map (λ (n : Bor (List ℕ)). n.now) ns)) c.as_slice-2.ensures.value ∙ ap (numbers_of items) names in
    if_ok c.spread.result
    (λ marks s. process_set items count many body_kind.Thread marks.items
    (subst (λ (roots : List ℕ). IsSpread count [] roots marks.items) numbers (subst (λ (es : List Edge). IsSpread count es c.as_slice-3.result.now marks.items) c.no_edges.ensures s)))
    c.spread.ensures
