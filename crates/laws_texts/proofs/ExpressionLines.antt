-- The lines of the constructs of an expression never fall.
use Rattle.std.proofs.Common.{ℕ, suc, Option, Some, None, refl}
use Rattle.model_rules.specs.ModelTree.Lines.{first_line}
use Rattle.model_rules.specs.ModelTree.Limits.{level, primary_level, chain_level}
use Rattle.model_rules.specs.ModelTree.Tree as tree
use Rattle.model_rules.specs.declared.needs.Need.{Need}
use Rattle.model_rules.specs.declared.needs.Need.TheVariants as need_of
use Rattle.model_rules.specs.Scopes.{Scope}
use Rattle.model_rules.specs.Sites.{sites_as, expression_sites, option_sites}
use Rattle.model_lexer.specs.Expressions.{DerivesAt, DerivesExpression}
use Rattle.model_lexer.specs.Rules.{Maybe}
use Rattle.laws_texts.proofs.Along.{Along, nothing, last, past, trail, headed, alone, both, LeadsAt, leads_on, again, bind, short, parenthesized}

-- the first construct of an expression is on the line of its first token
pub leads : (need : Need) (s : Scope) (e : tree.Expression) → LeadsAt (first_line e) (sites_as need s e)
leads need s (tree.number line n) = refl
leads need s _ = refl

pub at_expression : (n : ℕ) (need : Need) (s : Scope) (e : tree.Expression) → Along (DerivesAt n e) (sites_as need s e)
at_expression n need s (tree.number line v) = bind alone
at_expression n need s (tree.time line v u) = bind (headed last)
at_expression n need s (tree.logic line ds) = bind alone
at_expression n need s (tree.truth line b) = bind alone
at_expression n need s (tree.now line) = bind alone
at_expression n need s (tree.myself line) = bind alone
at_expression n need s (tree.constant line c) = bind alone
at_expression n need s (tree.paren line e) = bind (headed (trail (short (at_expression 0 need_of.Readable s e)) last))
at_expression n need s (tree.convert line c e) = bind (headed (parenthesized (at_expression 0 need_of.Readable s e)))
at_expression n need s (tree.to_vector line width e) = bind (headed (past (past (past (parenthesized (at_expression 0 need_of.Readable s e))))))
at_expression n need s (tree.concat line upper lower) =
    bind (headed (past (both (short (at_expression 0 need_of.Readable s upper)) (past (trail (short (at_expression 0 need_of.Readable s lower)) last)))))
at_expression n need s (tree.named line x) = alone
at_expression n need s (tree.placed line x at) = headed (past last)
at_expression n need s (tree.placed_by line x e) = headed (past (parenthesized (at_expression 0 need_of.Readable s e)))
at_expression n need s (tree.member e x) = again (leads need_of.Object s e) (trail (at_expression chain_level need_of.Object s e) (past last))
at_expression n need s (tree.element e index) =
    again (leads_on (first_line e) (sites_as need_of.Indexed s e) (sites_as need_of.Readable s index) (leads need_of.Indexed s e))
    (both (at_expression chain_level need_of.Indexed s e) (past (trail (short (at_expression 0 need_of.Readable s index)) last)))
at_expression n need s (tree.slice e high low) = again (leads need_of.Readable s e) (trail (at_expression chain_level need_of.Readable s e) (past (past (past (past last)))))
at_expression n need s (tree.unary line o e) = bind (headed (at_expression primary_level need_of.Readable s e))
at_expression n need s (tree.binary o left right) =
    bind
    (again (leads_on (first_line left) (sites_as need_of.Readable s left) (sites_as need_of.Readable s right) (leads need_of.Readable s left))
    (both (at_expression (level o) need_of.Readable s left) (past (at_expression (suc (level o)) need_of.Readable s right))))

pub expression : (s : Scope) (e : tree.Expression) → Along (DerivesExpression e) (expression_sites s e)
expression s e = short (at_expression 0 need_of.Readable s e)

pub optional : (s : Scope) (o : Option tree.Expression) → Along (Maybe DerivesExpression o) (option_sites s o)
optional s None = nothing
optional s (Some e) = expression s e
