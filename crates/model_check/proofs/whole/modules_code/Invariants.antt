use Rattle.std.proofs.Common.{◌≡◌, ◌++◌, drop, length, List}
use Rattle.flat_design.specs.declared.code.CodeBody.{CodeBody}
use Rattle.model_tree.specs.Views.{modules_of}
use Rattle.code_rules.specs.Bodies.{AreModules}
use Rattle.code_blocks.specs.LawsCode.HasCode.{ModulesHaveCode}
use Rattle.code_blocks.specs.Laid.{EachFrom, FromNowOn, IsNested, StandsInside}
use Rattle.model_check.specs.Parts.{AreLaidApart, body_blocks}
use Rattle.model_check.proofs.whole.modules_code.Given as goal

abbrev pub invariant-loop-i : goal.invariant-loop-i
invariant-loop-i l =
    let modules = modules_of l.model in
    let left = modules_of (drop l.i l.modules) in
    record {
      coded : ModulesHaveCode modules l.exceptions (length l.bodies) left;
      nested : IsNested l.laid;
      owned : EachFrom (length l.fn.laid.blocks) l.laid (λ a n. StandsInside a (body_blocks l.bodies) n);
      apart : AreLaidApart l.laid (body_blocks l.bodies);
      reads : FromNowOn l.laid (λ a. (rest : List CodeBody) → AreModules modules l.exceptions a l.i (length l.bodies) left rest → AreModules modules l.exceptions a 0 0 (modules_of l.modules) (l.bodies ++ rest));
    }
