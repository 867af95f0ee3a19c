use Rattle.std.proofs.Common.{drop, List, ◌++◌}
use Rattle.flat_design.specs.declared.code.Local.{Local}
use Rattle.code_rules.specs.Bodies.{AreLocals}
use Rattle.code_blocks.specs.LawsCode.HasCode.{LocalsHaveTypes}
use Rattle.code_blocks.specs.CodeTerms.Sources.{sources_of}
use Rattle.model_check.proofs.locals.locals_code.Given as goal

abbrev pub invariant-loop-source : goal.invariant-loop-source
invariant-loop-source l =
    LocalsHaveTypes (sources_of (drop l.source-index l.sources))
    × ((rest : List Local) → AreLocals (sources_of (drop l.source-index l.sources)) rest → AreLocals (sources_of l.sources) (l.done ++ rest))
