use Rattle.std.proofs.Common.{◌≡◌, ◌+◌, ◌-◌, ◌*◌}
use Rattle.model_tree.specs.Views.{expression_of}
use Rattle.parse_expressions.specs.Parse as spec
use Rattle.parse_expressions.proofs.expressions.+expression.Given as goal

-- each pair of brackets has one bracket less to open, and each level has one less above it
abbrev pub decreases-expression : goal.decreases-expression
decreases-expression l = 1000 * l.depth + 200

abbrev pub decreases-climb : goal.decreases-climb
decreases-climb l = 1000 * l.depth + 10 * l.levels + 50

abbrev pub decreases-levelled : goal.decreases-levelled
decreases-levelled l = 1000 * l.depth + 10 * l.levels + 55

abbrev pub decreases-binary : goal.decreases-binary
decreases-binary l = 1000 * l.depth + 10 * l.levels + 52

abbrev pub decreases-operand : goal.decreases-operand
decreases-operand l = 1000 * l.depth + 40

abbrev pub decreases-unary : goal.decreases-unary
decreases-unary l = 1000 * l.depth + 39

abbrev pub decreases-primary : goal.decreases-primary
decreases-primary l = 1000 * l.depth + 38

abbrev pub decreases-chain : goal.decreases-chain
decreases-chain l = 1000 * l.depth + 37

abbrev pub decreases-link : goal.decreases-link
decreases-link l = 1000 * l.depth + 36

abbrev pub decreases-index : goal.decreases-index
decreases-index l = 1000 * l.depth + 35

abbrev pub decreases-channel : goal.decreases-channel
decreases-channel l = 1000 * l.depth + 20

abbrev pub decreases-place : goal.decreases-place
decreases-place l = 1000 * l.depth + 15

abbrev pub decreases-paren : goal.decreases-paren
decreases-paren l = 1000 * l.depth + 15

abbrev pub decreases-convert : goal.decreases-convert
decreases-convert l = 1000 * l.depth + 15

abbrev pub decreases-vector : goal.decreases-vector
decreases-vector l = 1000 * l.depth + 15

abbrev pub decreases-concat : goal.decreases-concat
decreases-concat l = 1000 * l.depth + 15

abbrev pub decreases-group : goal.decreases-group
decreases-group l = 1000 * l.depth + 10

abbrev pub decreases-inside : goal.decreases-inside
decreases-inside l = 1000 * l.depth

-- the links that the turns that are left give, behind those that were found, are all of them
abbrev pub invariant-chain-loop-turn : goal.invariant-chain-loop-turn
invariant-chain-loop-turn l = spec.repeat spec.at_no_link (spec.link l.depth (spec.inside l.depth)) (257 - l.turn) (expression_of l.found) l.tokens ≡ spec.chain l.depth (spec.inside l.depth) l.fn.tokens

-- and so of the operators
abbrev pub invariant-levelled-loop-turn : goal.invariant-levelled-loop-turn
invariant-levelled-loop-turn l = spec.repeat (spec.at_none_of l.wanted) (spec.binary (spec.climb l.depth (spec.inside l.depth) l.levels (l.wanted + 1))) (257 - l.turn) (expression_of l.found) l.tokens ≡ spec.levelled l.wanted (spec.climb l.depth (spec.inside l.depth) l.levels (l.wanted + 1)) l.fn.tokens
