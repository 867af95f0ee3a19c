use Rattle.std.proofs.Common.{◌≡◌, ◌++◌, drop, length, List}
use Rattle.flat_design.specs.declared.code.CodeBody.{CodeBody}
use Rattle.model_tree.specs.Views.{modules_of}
use Rattle.code_rules.specs.Bodies.{AreBodies}
use Rattle.code_blocks.specs.LawsCode.HasCode.{ItemsHaveCode}
use Rattle.code_blocks.specs.CodeDeeds.Homes.{home_of}
use Rattle.check_reach.specs.CheckNames.ModuleNames.{items_of}
use Rattle.code_blocks.specs.Laid.{EachFrom, FromNowOn, Grows, IsNested, StandsInside}
use Rattle.model_check.specs.Parts.{AreLaidApart, body_blocks}
use Rattle.model_check.proofs.items.add_items.Given as goal

abbrev pub invariant-loop-item : goal.invariant-loop-item
invariant-loop-item l =
    let modules = modules_of l.model in
    let all = items_of l.names in
    let left = items_of (drop l.item-index l.items) in
    record {
      coded : ItemsHaveCode modules all (home_of l.home) left;
      nested : IsNested l.laid;
      grows : Grows l.fn.laid l.laid;
      owned : EachFrom (length l.fn.laid.blocks) l.laid (λ a n. StandsInside a (body_blocks l.bodies) n);
      apart : AreLaidApart l.laid (body_blocks l.bodies);
      reads : (more : List CodeBody) × (l.bodies ≡ l.fn.bodies ++ more)
          × FromNowOn l.laid (λ a. (tail rest : List CodeBody) → AreBodies modules all l.module_place (home_of l.home) a left tail rest → AreBodies modules all l.module_place (home_of l.home) a (items_of l.items) (more ++ tail) rest);
    }
