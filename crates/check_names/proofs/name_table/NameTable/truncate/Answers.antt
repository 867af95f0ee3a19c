use Rattle.std.proofs.Common.{ℕ, List, map, take, ap, sym, ◌∙◌}
use Rattle.std.specs.Borrow.{Bor}
use Rattle.std.proofs.lemmas.List.{take-map}
use Rattle.check_names.proofs.name_table.NameTable.truncate.Goals as goal

pub returns : goal.returns
returns c =
    let seen : Bor (List ℕ) × ℕ → List ℕ × ℕ = λ e. (e.0.now, e.1) in
    ap (map seen) c.truncate.ensures.entries ∙ sym (take-map seen c.args.count c.self.inside.numbers.entries) ∙ ap (take c.args.count) c.self.view_is
