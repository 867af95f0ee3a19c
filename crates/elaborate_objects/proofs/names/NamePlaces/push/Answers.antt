use Rattle.std.proofs.Common.{◌≡◌, List, ℕ, map, length, ap, sym, subst, ◌∙◌, arith, [], ◌∷◌, ◌++◌}
use Rattle.std.specs.Borrow.{Bor}
use Rattle.std.proofs.lemmas.List.{length-map, map-append}
use Rattle.check_names.specs.Tables.{with_first}
use Rattle.elaborate_objects.specs.Places.{ArePlaces}
use Rattle.elaborate_objects.proofs.Pushed.{pushed}
use Rattle.elaborate_objects.proofs.names.NamePlaces.push.Goals as goal

pub invariant_of-self-in-Ok : goal.invariant_of-self-in-Ok
invariant_of-self-in-Ok c =
    let seen : Bor (List ℕ) → List ℕ = λ n. n.now in
    let old = map seen c.self.inside.names.items in
    let table = c.self.inside.table in
    let q = c.args.name.now in
    let all = ap (map seen) c.in_ok-push.ensures.items ∙ map-append seen c.self.inside.names.items (c.args.name ∷ []) in
    let long : c.len-at.result ≡ length c.self.inside.names.items = omega (arith, c.len-at.ensures) in
    let at = long ∙ sym (length-map c.self.inside.names.items seen) in
    let t = c.in-Ok.ensures.declared ∙ ap (with_first table q) at in
    subst (λ names. ArePlaces names c.declare.new.self) (sym all) (subst (ArePlaces (old ++ q ∷ [])) (sym t) (pushed old table q c.self.invariant))
