use Rattle.std.proofs.Common.{◌≡◌, ◌++◌, map, take}
use Rattle.flat_design.specs.declared.code.Handler.{Handler}
use Rattle.order_free.proofs.blocks.add_handlers.Given as goal

abbrev pub invariant-loop-handler : goal.invariant-loop-handler
invariant-loop-handler l = l.targets.items ≡ l.fn.targets.items ++ map (λ (h : Handler). h.block) (take l.handler-index l.handlers)
