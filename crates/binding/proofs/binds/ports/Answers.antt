use Rattle.std.proofs.Common.{[], ◌∷◌, ◌++◌, sym, ap, ◌∙◌}
use Rattle.design_rules.specs.declared.bindings.BoundPort.{BoundPort}
use Rattle.binding.proofs.Whole.{with_port, without_port}
use Rattle.binding.proofs.binds.ports.Goals.{then-is_port+in_ok-bound_port+in_ok-push, else-is_port}
use Rattle.binding.proofs.binds.ports.Goals as goal

pub loop-i-preserved : goal.loop-i-preserved
loop-i-preserved c =
    let os = c.args.objects.now in
    elim c.if-is_port.branch [
      | then-is_port+in_ok-bound_port+in_ok-push w ↦
          with_port os c.requires.formed c.args.known.now c.requires.known c.requires.judged c.as_slice-object-items.result.now c.as_slice-object-items.ensures c.loop-i.i c.object-item.result c.loop-i-test.true c.object-item.is c.loop-i.ports c.loop-i.invariant
          c.if-is_port.ports w.row.result.now (sym c.is_port.ensures ∙ w.if-is_port.true) w.row.ensures
          (w.ports-is ∙ w.in_ok-push.ensures.ok ∙ ap (λ (p : BoundPort). c.loop-i.ports ++ p ∷ []) w.in_ok-bound_port.ensures)
      | else-is_port w ↦
          without_port os c.requires.formed c.args.known.now c.requires.known c.requires.judged c.as_slice-object-items.result.now c.as_slice-object-items.ensures c.loop-i.i c.object-item.result c.loop-i-test.true c.object-item.is c.loop-i.ports c.loop-i.invariant
          c.if-is_port.ports (sym c.is_port.ensures ∙ w.if-is_port.false) w.ports-is
    ]
