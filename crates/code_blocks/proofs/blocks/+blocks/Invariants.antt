use Rattle.std.proofs.Common.{drop, length}
use Rattle.model_tree.specs.Views.{body_of}
use Rattle.model_tree.proofs.Trees.{handlers_list}
use Rattle.check_statements.specs.CheckNames.Places.{scope_of}
use Rattle.code_deeds.specs.Homes.{IsHome, home_of}
use Rattle.code_blocks.specs.Laid.{EachFrom, Grows, HangsFrom, IsNested, IsNext, OnlyFrom, StandsInside, handler_blocks}
use Rattle.code_blocks.proofs.Walks.{AreBefore, AreHandled}
use Rattle.code_blocks.proofs.blocks.+blocks.Given as goal

abbrev pub invariant-lay_block-loop-statement : goal.invariant-lay_block-loop-statement
invariant-lay_block-loop-statement l = record {
  home : IsHome l.home (scope_of l.place);
  grows : Grows l.fn.laid l.laid;
  nested : IsNested l.laid;
  next : IsNext l.laid l.ids;
  owned : EachFrom (length l.fn.laid.blocks) l.laid (λ a n. HangsFrom a l.ids n);
  only : OnlyFrom (length l.fn.laid.blocks) l.laid (λ a n. HangsFrom a l.ids n);
  before : AreBefore (home_of l.home) (body_of l.body.items) (scope_of l.fn.place) l.laid (body_of (drop l.statement-index l.statement-items)) (scope_of l.place) l.ids;
}

abbrev pub invariant-lay_statement-loop-name : goal.invariant-lay_statement-loop-name
invariant-lay_statement-loop-name l = record {
  home : IsHome l.home (scope_of l.place);
  grows : Grows l.initial.laid l.laid;
  nested : IsNested l.laid;
  owned : EachFrom (length l.initial.laid.blocks) l.laid (λ a n. StandsInside a (handler_blocks l.found) n);
  only : OnlyFrom (length l.initial.laid.blocks) l.laid (λ a n. StandsInside a (handler_blocks l.found) n);
  before : AreHandled (home_of l.home) (handlers_list l.name-items) (scope_of l.initial.place) l.laid (handlers_list (drop l.name-index l.name-items)) (scope_of l.place) l.found;
}
