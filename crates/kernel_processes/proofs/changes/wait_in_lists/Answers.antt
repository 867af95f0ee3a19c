use Rattle.std.proofs.Common.{◌≤◌, length, sym, ap, subst}
use Rattle.std.specs.FinMap as map
use Rattle.wait_lists.specs.Waits.{room_for}
use Rattle.kernel_processes.specs.InstanceViews.{seen}
use Rattle.kernel_processes.specs.Moves.{events_of, sensitive_of, waits_in}
use Rattle.kernel_processes.specs.declared.parts.Wait.{Wait}
use Rattle.kernel_processes.proofs.Changed.{told_as}
use Rattle.kernel_processes.proofs.changes.wait_in_lists.Goals as goal

pub wait_static-requires : goal.wait_static-requires
wait_static-requires g c =
    let s = c.args.s.now in
    let P : Wait → Type 0 = λ w. length (events_of w (sensitive_of (map.get s.table.live c.args.p))) ≤ room_for s.lists c.args.p in
    subst P c.in-Static.is c.requires

pub returns-in-Static : goal.returns-in-Static
returns-in-Static g c = told_as c.args.p _ _ c.args.s.now _ c.wait_static.ensures (ap (λ w. waits_in c.args.rests w c.args.t.now.deadline (seen c.args.s.now c.args.p)) (sym c.in-Static.is))
