use Rattle.std.proofs.Common.{ℕ, List, ap, ◌∙◌}
use Rattle.std.specs.Borrow.{Bor}
use Rattle.std.proofs.lemmas.Cmp.{nat_list_eq_equiv}
use Rattle.model_rules.specs.Members.{entry}
use Rattle.check_names.proofs.NumberLemmas.{found}
use Rattle.check_names.proofs.name_table.NameTable.find.Goals as goal

pub returns : goal.returns
returns c =
    let q = c.args.name.now in
    c.copied.ensures ∙ c.get.ensures.value ∙ found (λ (k : Bor (List ℕ)). k.now) q _ (λ k. nat_list_eq_equiv.symm q k.now) c.self.inside.numbers.entries ∙ ap (entry q) c.self.view_is
