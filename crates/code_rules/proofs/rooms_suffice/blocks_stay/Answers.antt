use Rattle.code_rules.proofs.Still.{stands_still, holds_so, reached_still, nested_still}
use Rattle.code_rules.proofs.rooms_suffice.blocks_stay.Goals as goal

pub returns : goal.returns
returns c = record {
  stands = λ before after d b s x. stands_still before after d b s x;
  holds = λ before after d b s x. holds_so before after d b s x;
  reaches = λ before after d b s x. reached_still before after d b s x;
  nested = λ before after d n. nested_still before after d n;
}
