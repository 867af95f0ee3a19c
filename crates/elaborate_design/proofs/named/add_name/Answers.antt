use Rattle.std.proofs.Common.{◌<◌, [], ◌∷◌, ◌++◌, length, subst, sym, ap, ◌∙◌}
use Rattle.elaborate_objects.specs.ModelTree.Views.{item_of}
use Rattle.elaborate_objects.specs.ModelRules.Members.{entry}
use Rattle.elaborate_design.proofs.ChildEntries.{under_name, one_name, names_one}
use Rattle.elaborate_design.proofs.Entries.{index_table}
use Rattle.elaborate_design.proofs.named.add_name.Goals as goal

pub returns-in_ok-push-in-Some : goal.returns-in_ok-push-in-Some
returns-in_ok-push-in-Some c =
    let all = c.args.all.now in
    let os = c.args.objects.now in
    let at = c.args.instance in
    let name = c.in-Some.name.now in
    let named = c.requires.named in
    let within : at < length c.args.tables.now = subst (λ n. at < n) (sym named.long) c.requires.below in
    let table = index_table c.args.tables.now at c.index-tables-instance.result c.index-tables-instance.is within in
    c.in_ok-push-in-Some.ensures.ok
    ∙ ap (λ d. c.args.names.now ++ d ∷ []) (c.named_in-denoted.ensures ∙ under_name all os c.requires.all at name _ (ap (entry name) table ∙ named.found at name c.requires.below))
    ∙ ap (λ ns. c.args.names.now ++ ns) (ap (one_name all os at) c.in-Some.ensures ∙ sym (names_one all os at (item_of c.args.item.now)))
