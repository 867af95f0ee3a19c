use Rattle.std.proofs.Common.{ℕ, List, [], ◌∷◌, ◌++◌, map, sym, ap, ◌∙◌}
use Rattle.std.specs.Borrow.{Bor}
use Rattle.std.specs.Prelude.{is_some, bytes_eq}
use Rattle.std.proofs.lemmas.Cmp.{nat_list_eq_equiv}
use Rattle.std.proofs.lemmas.List.{map-append}
use Rattle.indexmap.proofs.CallerLemmas.{insert_entry-new}
use Rattle.check_names.proofs.NumberLemmas.{found, known, absent, no_some}
use Rattle.model_rules.specs.Members.{entry}
use Rattle.check_names.proofs.name_table.NameTable.declare.Goals as goal

pub returns-then-contains_key-clause-declared : goal.returns-then-contains_key-clause-declared
returns-then-contains_key-clause-declared c =
    let q = c.args.name.now in
    let e = found (λ (k : Bor (List ℕ)). k.now) q _ (λ k. nat_list_eq_equiv.symm q k.now) c.self.inside.numbers.entries ∙ ap (entry q) c.self.view_is in
    known c.args.self.now q c.args.number (ap is_some (sym e) ∙ sym c.contains_key.ensures ∙ c.if-contains_key.true)

pub returns-clause-declared : goal.returns-clause-declared
returns-clause-declared c =
    let q = c.args.name.now in
    let seen : Bor (List ℕ) × ℕ → List ℕ × ℕ = λ e. (e.0.now, e.1) in
    let m = c.self.inside.numbers in
    let e = found (λ (k : Bor (List ℕ)). k.now) q _ (λ k. nat_list_eq_equiv.symm q k.now) m.entries ∙ ap (entry q) c.self.view_is in
    let none = no_some _ (sym c.contains_key.ensures ∙ c.if-contains_key.false) in
    ap (map seen) (c.in_ok-insert.ensures.entries ∙ insert_entry-new (λ (x : Bor (List ℕ)) (y : Bor (List ℕ)). bytes_eq x.now y.now) m c.args.name c.args.number none)
    ∙ map-append seen m.entries ((c.args.name, c.args.number) ∷ [])
    ∙ ap (λ t. t ++ (q, c.args.number) ∷ []) c.self.view_is
    ∙ absent c.args.self.now q c.args.number (ap is_some (sym e) ∙ sym c.contains_key.ensures ∙ c.if-contains_key.false)
