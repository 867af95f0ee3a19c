use Rattle.std.proofs.Common.{◌≡◌, take}
use Rattle.clocked.specs.Expanded.{line_behind}
use Rattle.clocked.specs.Turns.{language}
use Rattle.clocked.specs.Views.{tokens_in, state_in, expansion_in}
use Rattle.clocked.proofs.Leads.{Leads}
use Rattle.clocked.proofs.expanding.expand.Given as goal

-- the tokens that have been looked at lead here, and this is written of them
abbrev pub invariant-loop-token : goal.invariant-loop-token
invariant-loop-token l = record {
  leads : Leads language (tokens_in (take l.token-index l.tokens)) (state_in l.state) (expansion_in l.out);
  line : l.line ≡ line_behind 1 (tokens_in (take l.token-index l.tokens));
}
