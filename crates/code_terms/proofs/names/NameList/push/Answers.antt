use Rattle.std.proofs.Common.{◌≡◌, ℕ, List, [], ◌∷◌, ◌++◌, length, map, arith, sym, ap, ◌∙◌, subst}
use Rattle.std.specs.Borrow.{Bor}
use Rattle.std.proofs.lemmas.List.{map-append}
use Rattle.check_expressions.specs.CheckNames.Tables.{Numbers, with_first}
use Rattle.code_terms.specs.Names.{ArePlaced}
use Rattle.code_terms.proofs.Positions.{placed_push, length_seen}
use Rattle.code_terms.proofs.names.NameList.push.Goals as goal

pub invariant_of-self-in-Ok : goal.invariant_of-self-in-Ok
invariant_of-self-in-Ok c =
    let seen : Bor (List ℕ) → List ℕ = λ n. n.now in
    let names = c.self.inside.names.items in
    let table = c.self.inside.places in
    let name = c.args.name.now in
    let at : c.len-at.result ≡ length (map seen names) = omega (arith, c.len-at.ensures, length_seen seen names) in
    let pushed : ArePlaced (map seen names ++ name ∷ []) (with_first table name c.len-at.result) = placed_push (map seen names) table name c.len-at.result at c.self.invariant in
    let grown : map seen c.push.new.self.items ≡ map seen names ++ name ∷ [] = ap (map seen) c.in_ok-push.ensures.items ∙ map-append seen names (c.args.name ∷ []) in
    subst (λ (t : Numbers). ArePlaced (map seen c.push.new.self.items) t) (sym c.in-Ok.ensures.declared)
    (subst (λ (ns : List (List ℕ)). ArePlaced ns (with_first table name c.len-at.result)) (sym grown) pushed)
