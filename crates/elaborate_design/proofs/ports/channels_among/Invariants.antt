use Rattle.std.proofs.Common.{◌≡◌, ◌++◌, drop}
use Rattle.elaborate_objects.specs.DesignRules.Parts.{channels_among}
use Rattle.elaborate_design.proofs.ports.channels_among.Given as goal

abbrev pub invariant-loop-i : goal.invariant-loop-i
invariant-loop-i l = l.channels ++ channels_among l.all (drop l.i-index l.numbers) ≡ channels_among l.all l.numbers
