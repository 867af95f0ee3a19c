use Rattle.std.proofs.Common.{◌≡◌, ◌+◌, ◌-◌, ◌*◌, map}
use Rattle.model_tree.specs.Views.{statement_of}
use Rattle.parse_actions.specs.ParseExpressions.Parse.{repeat, one_more}
use Rattle.parse_statements.specs.Parse.{handler, at_no_catch, more_handlers, statement, at_right_brace, statements, block, handlers_in}
use Rattle.parse_statements.proofs.blocks.+statement.Given as goal

-- each block has one bracket less to open
abbrev pub decreases-try_statement : goal.decreases-try_statement
decreases-try_statement l = 20 * l.depth + 6

abbrev pub decreases-block : goal.decreases-block
decreases-block l = 20 * l.depth + 1

abbrev pub decreases-braced : goal.decreases-braced
decreases-braced l = 20 * l.depth + 9

abbrev pub decreases-if_statement : goal.decreases-if_statement
decreases-if_statement l = 20 * l.depth + 6

abbrev pub decreases-else_part : goal.decreases-else_part
decreases-else_part l = 20 * l.depth + 2

abbrev pub decreases-guard_statement : goal.decreases-guard_statement
decreases-guard_statement l = 20 * l.depth + 6

abbrev pub decreases-handler : goal.decreases-handler
decreases-handler l = 20 * l.depth + 3

abbrev pub decreases-handlers : goal.decreases-handlers
decreases-handlers l = 20 * l.depth + 5

abbrev pub decreases-while_statement : goal.decreases-while_statement
decreases-while_statement l = 20 * l.depth + 6

abbrev pub decreases-more_handlers : goal.decreases-more_handlers
decreases-more_handlers l = 20 * l.depth + 4

abbrev pub decreases-statement : goal.decreases-statement
decreases-statement l = 20 * l.depth + 7

abbrev pub decreases-statements : goal.decreases-statements
decreases-statements l = 20 * l.depth + 8

-- the turns that are left, behind the handlers found so far, give what all of them give
abbrev pub invariant-more_handlers-loop-turn : goal.invariant-more_handlers-loop-turn
invariant-more_handlers-loop-turn l = repeat at_no_catch (one_more (handler (block l.depth))) (l.turns - l.turn) (handlers_in l.found.items) l.tokens ≡ more_handlers (block l.fn.depth) (handlers_in l.fn.first.items) l.fn.tokens

-- and so do those behind the statements found so far
abbrev pub invariant-statements-loop-turn : goal.invariant-statements-loop-turn
invariant-statements-loop-turn l = repeat at_right_brace (one_more (statement (block l.depth) l.depth)) (l.turns - l.turn) (map statement_of l.found.items) l.tokens ≡ statements (block l.depth) l.depth l.fn.tokens
