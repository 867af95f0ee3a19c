use Rattle.std.proofs.Common.{List, ◌++◌, map, drop, length, ap, sym, ◌∙◌}
use Rattle.std.proofs.lemmas.List.{append-nil, length-map}
use Rattle.elaborate_objects.specs.ModelTree.Tree as tree
use Rattle.elaborate_objects.specs.ModelTree.Views.{module_of, modules_of}
use Rattle.elaborate_objects.specs.ModelTree.declared.items.Module.{Module}
use Rattle.elaborate_objects.specs.DesignRules.Forms.{module_place}
use Rattle.elaborate_design.specs.Links.{link_of, links_of}
use Rattle.elaborate_design.specs.Left.{left_of, links_within}
use Rattle.elaborate_design.proofs.LinkLemmas.{list_is}
use Rattle.elaborate_design.proofs.list.list_modules.Goals as goal

pub returns : goal.returns
returns c =
    let ms = c.args.modules.now in
    let m : tree.Model = record { modules = modules_of ms; top = c.args.top.now } in
    let t = map (map link_of) c.as_slice.result.now in
    let os = c.in_ok-children.children in
    let place = c.in_ok-place.place in
    let all = links_within (length ms) t (drop 1 os) 0 place in
    let at = c.in_ok-place.ensures ∙ ap (λ (xs : List Module). module_place (modules_of xs) c.args.top.now.module) c.in_ok-places.ensures in
    let links = ap (map (map link_of)) c.as_slice.ensures.value ∙ c.in_ok-links.ensures ∙ ap (λ (xs : List Module). links_of (modules_of xs)) c.in_ok-places.ensures in
    c.in_ok-walk_all.ensures
    ∙ ap (λ bs. bs ++ left_of t (drop 1 os) c.enter.new.frames.items) c.new-3.ensures
    ∙ c.in_ok-enter.ensures.left t (drop 1 os)
    ∙ ap (λ fs. all ++ left_of t (drop 1 os) fs) c.new-4.ensures.items
    ∙ append-nil all
    ∙ list_is m os place (length ms) t (c.in_ok-children.ensures ∙ c.requires.objects) at (sym (length-map ms module_of)) links
