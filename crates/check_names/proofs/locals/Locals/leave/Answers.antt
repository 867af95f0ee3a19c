use Rattle.std.proofs.Common.{List, ◌≡◌, ◌<◌, map, take, length, get_or, arith, ap, sym, ◌∙◌}
use Rattle.std.proofs.lemmas.List.{take-map}
use Rattle.model_rules.specs.Scopes.{Local}
use Rattle.check_names.specs.LocalNames.{LocalNames, local_of, left_at}
use Rattle.check_names.specs.declared.locals.Visible.{Visible}
use Rattle.check_names.proofs.LocalLemmas.{kept_take}
use Rattle.check_names.proofs.locals.Locals.leave.Goals as goal

pub invariant_of-self : goal.invariant_of-self
invariant_of-self c =
    let visible = c.self.inside.visible.items in
    let table = c.self.inside.table in
    let mark = c.args.mark in
    let d = c.index.result.now in
    let within : mark < length visible = omega (arith, c.len.ensures) in
    let e : c.truncate.new.self ≡ take (get_or visible mark d).named table = c.truncate.ensures ∙ ap (λ (v : Visible). take v.named table) c.index.ensures in
    rw (c.truncate-then-mark-len.ensures.items, e) (kept_take visible table mark d c.self.invariant within)

pub returns-then-mark-len : goal.returns-then-mark-len
returns-then-mark-len c =
    let visible = c.self.inside.visible.items in
    let as_names : List Local → LocalNames = λ xs. record { visible = xs; count = c.self.inside.count } in
    ap (λ xs. as_names (map local_of xs)) c.truncate-then-mark-len.ensures.items ∙ ap as_names (sym (take-map local_of c.args.mark visible)) ∙ ap (left_at c.args.mark) c.self.view_is
