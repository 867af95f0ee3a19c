use Rattle.std.proofs.Common.{◌≡◌, take}
use Rattle.model_rules.specs.FlatDesign.declared.code.Handler.{Handler}
use Rattle.code_rules.specs.Tables.{in_block, greatest_in}
use Rattle.code_rules.proofs.events.in_handlers.Given as goal

abbrev pub invariant-loop-handler : goal.invariant-loop-handler
invariant-loop-handler l = l.most ≡ greatest_in (λ (h : Handler). in_block l.table h.block) l.first (take l.handler-index l.handlers)
