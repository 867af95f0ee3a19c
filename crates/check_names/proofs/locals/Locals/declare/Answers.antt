use Rattle.std.proofs.Common.{◌≡◌, length, arith}
use Rattle.check_names.proofs.LocalLemmas.{kept_push}
use Rattle.check_names.proofs.locals.Locals.declare.Goals as goal

pub invariant_of-self-in-Ok : goal.invariant_of-self-in-Ok
invariant_of-self-in-Ok c =
    let visible = c.self.inside.visible.items in
    let table = c.self.inside.table in
    let at : c.len-at.result ≡ length visible = omega (arith, c.len-at.ensures) in
    rw (c.in_ok-push.ensures.items, c.in-Ok.ensures.declared, at) (kept_push visible table _ c.self.invariant c.len-named.ensures)
