use Rattle.std.proofs.Common.{◌≡◌, ◌<◌, ◌^◌, ◌++◌, map, take, drop, All}
use Rattle.model_rules.specs.FlatDesign.declared.code.CodeBody.{CodeBody}
use Rattle.code_rules.specs.Tables.{with_room}
use Rattle.code_rules.proofs.raised.raise_all.Given as goal

abbrev pub invariant-loop-i : goal.invariant-loop-i
invariant-loop-i l = record {
  rooms : l.bodies.items ≡ map (with_room l.table l.functions) (take l.i l.initial.bodies.items) ++ drop l.i l.initial.bodies.items;
  small : All (λ (b : CodeBody). b.room < 2 ^ 32) (take l.i l.bodies.items);
}
