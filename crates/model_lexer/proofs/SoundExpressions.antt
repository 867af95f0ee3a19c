-- That the expressions that limited tokens derive keep the limits and levels of the language.
use Rattle.std.proofs.Common.{◌≡◌, ℕ, suc, ◌+◌, ◌≤◌, true, ◌&&◌, length, ap, arith}
use Rattle.std.proofs.lemmas.Bool.{le-leb, and_from}
use Rattle.model_tree.specs.Leaves.{is_name}
use Rattle.model_tree.specs.Limits.{level, operand_level, primary_level, chain_level, is_number, is_formed, token_count, depth, fits}
use Rattle.model_tree.specs.Tree as tree
use Rattle.model_lexer.specs.Tokens.{Token, Tokens}
use Rattle.model_lexer.specs.Rules.{At, Takes}
use Rattle.model_lexer.specs.Expressions.{DerivesAt, DerivesExpression}
use Rattle.model_lexer.proofs.Keeps.{Keeps, at, takes, ◌>>=◌, so, ends, short, binds, parenthesized}

-- levels, names and numbers
pub formed : (e : tree.Expression) (n : ℕ) → Keeps (DerivesAt n e) (is_formed e n ≡ true)
formed (tree.number line v) n = binds (λ k e. and_from _ (is_number v) (le-leb n primary_level k) e) at
formed (tree.time line v u) n = binds (λ k e. and_from _ (is_number v) (le-leb n primary_level k) e) (at >>= λ e. ends e)
formed (tree.logic line digits) n = binds (λ k e. and_from _ _ (le-leb n primary_level k) e) at
formed (tree.truth line b) n = binds (λ k e. le-leb n primary_level k) at
formed (tree.now line) n = binds (λ k e. le-leb n primary_level k) at
formed (tree.myself line) n = binds (λ k e. le-leb n primary_level k) at
formed (tree.constant line c) n = binds (λ k e. le-leb n primary_level k) at
formed (tree.paren line e) n = binds (λ k f. and_from _ (is_formed e 0) (le-leb n primary_level k) f) (at >>= λ e1. short (formed e 0) >>= λ f. ends f)
formed (tree.convert line c e) n = binds (λ k f. and_from _ (is_formed e 0) (le-leb n primary_level k) f) (at >>= λ e1. parenthesized (formed e 0))
formed (tree.to_vector line width e) n =
    binds (λ k f. and_from _ _ (le-leb n primary_level k) f) (at >>= λ e1. takes >>= λ e2. takes >>= λ size. takes >>= λ e3. so (parenthesized (formed e 0)) (λ f. and_from (is_number width) (is_formed e 0) size f))
formed (tree.concat line upper lower) n =
    binds (λ k f. and_from _ _ (le-leb n primary_level k) f) (at >>= λ e1. takes >>= λ e2. short (formed upper 0) >>= λ f. takes >>= λ e3. short (formed lower 0) >>= λ g. ends (and_from (is_formed upper 0) (is_formed lower 0) f g))
formed (tree.named line x) n = at
formed (tree.placed line x v) n = at >>= λ e. takes >>= λ e1. so takes (λ f. and_from (is_name x) (is_number v) e f)
formed (tree.placed_by line x e) n = at >>= λ f. takes >>= λ e1. so (parenthesized (formed e 0)) (λ g. and_from (is_name x) (is_formed e 0) f g)
formed (tree.member e x) n = formed e chain_level >>= λ f. takes >>= λ e1. so takes (λ g. and_from (is_formed e chain_level) (is_name x) f g)
formed (tree.element e index) n =
    formed e chain_level >>= λ f. takes >>= λ e1. short (formed index 0) >>= λ g. ends (and_from (is_formed e chain_level) (is_formed index 0) f g)
formed (tree.slice e high low) n =
    formed e chain_level >>= λ f. takes >>= λ e1. takes >>= λ g. takes >>= λ e2. takes >>= λ h. ends (and_from (is_formed e chain_level) _ f (and_from (is_number high) (is_number low) g h))
formed (tree.unary line o e) n = binds (λ k f. and_from _ (is_formed e primary_level) (le-leb n operand_level k) f) (at >>= λ e1. formed e primary_level)
formed (tree.binary o left right) n =
    binds (λ k f. and_from _ _ (le-leb n (level o) k) f) (formed left (level o) >>= λ f. takes >>= λ e1. so (formed right (suc (level o))) (λ g. and_from (is_formed left (level o)) (is_formed right (suc (level o))) f g))

-- how many tokens it takes

pub at_takes : (line : ℕ) (x : Token) (ts rest : Tokens) → At line x ts rest → length ts ≡ suc (length rest)
at_takes line x ts rest h = ap length h

pub takes_one : (x : Token) (ts rest : Tokens) → Takes x ts rest → length ts ≡ suc (length rest)
takes_one x ts rest h = ap length h.1

pub counted : (e : tree.Expression) (n : ℕ) (ts rest : Tokens) → DerivesAt n e ts rest → length ts ≡ token_count e + length rest
counted (tree.number line v) n ts rest (k, h) = let one = at_takes _ _ ts rest h in omega arith
counted (tree.time line v u) n ts rest (k, (a, h, g)) = let one = at_takes _ _ ts a h in let two = takes_one _ a rest g in omega arith
counted (tree.logic line v) n ts rest (k, h) = let one = at_takes _ _ ts rest h in omega arith
counted (tree.truth line b) n ts rest (k, h) = let one = at_takes _ _ ts rest h in omega arith
counted (tree.now line) n ts rest (k, h) = let one = at_takes _ _ ts rest h in omega arith
counted (tree.myself line) n ts rest (k, h) = let one = at_takes _ _ ts rest h in omega arith
counted (tree.constant line c) n ts rest (k, h) = let one = at_takes _ _ ts rest h in omega arith
counted (tree.paren line e) n ts rest (k, (a, one, (b, inner, two))) =
    let p = at_takes _ _ ts a one in let q = counted e 0 a b inner.0 in let r = takes_one _ b rest two in omega arith
counted (tree.convert line c e) n ts rest (k, (a, one, (b, two, (f, inner, three)))) =
    let p = at_takes _ _ ts a one in let q = takes_one _ a b two in let r = counted e 0 b f inner.0 in let u = takes_one _ f rest three in omega arith
counted (tree.to_vector line width e) n ts rest (k, (a, one, (b, two, (c, three, (f, four, (g, five, (i, inner, six))))))) =
    let p1 = at_takes _ _ ts a one in let p2 = takes_one _ a b two in let p3 = takes_one _ b c three in let p4 = takes_one _ c f four in let p5 = takes_one _ f g five in let p6 = counted e 0 g i inner.0 in let p7 = takes_one _ i rest six in omega arith
counted (tree.concat line x y) n ts rest (k, (a, one, (b, two, (c, upper, (f, three, (g, lower_at, four)))))) =
    let p1 = at_takes _ _ ts a one in let p2 = takes_one _ a b two in let p3 = counted x 0 b c upper.0 in let p4 = takes_one _ c f three in let p5 = counted y 0 f g lower_at.0 in let p6 = takes_one _ g rest four in omega arith
counted (tree.named line x) n ts rest h = let one = at_takes _ _ ts rest h in omega arith
counted (tree.placed line x v) n ts rest (a, one, (b, two, three)) = let p1 = at_takes _ _ ts a one in let p2 = takes_one _ a b two in let p3 = takes_one _ b rest three in omega arith
counted (tree.placed_by line x e) n ts rest (a, one, (b, two, (c, three, (f, inner, four)))) =
    let p1 = at_takes _ _ ts a one in let p2 = takes_one _ a b two in let p3 = takes_one _ b c three in let p4 = counted e 0 c f inner.0 in let p5 = takes_one _ f rest four in omega arith
counted (tree.member e x) n ts rest (a, inner, (b, one, two)) = let p1 = counted e 12 ts a inner in let p2 = takes_one _ a b one in let p3 = takes_one _ b rest two in omega arith
counted (tree.element e i) n ts rest (a, inner, (b, one, (c, at, two))) =
    let p1 = counted e 12 ts a inner in let p2 = takes_one _ a b one in let p3 = counted i 0 b c at.0 in let p4 = takes_one _ c rest two in omega arith
counted (tree.slice e x y) n ts rest (a, inner, (b, one, (c, two, (f, three, (g, four, five))))) =
    let p1 = counted e 12 ts a inner in let p2 = takes_one _ a b one in let p3 = takes_one _ b c two in let p4 = takes_one _ c f three in let p5 = takes_one _ f g four in let p6 = takes_one _ g rest five in omega arith
counted (tree.unary line o e) n ts rest (k, (a, one, inner)) = let p1 = at_takes _ _ ts a one in let p2 = counted e 11 a rest inner in omega arith
counted (tree.binary o x y) n ts rest (k, (a, left, (b, one, right))) =
    let p1 = counted x (level o) ts a left in let p2 = takes_one _ a b one in let p3 = counted y (suc (level o)) b rest right in omega arith

-- where no more than n brackets are open in it
pub expression_fits : (e : tree.Expression) (n : ℕ) → depth e ≤ n → Keeps (DerivesExpression e) (fits n e ≡ true)
expression_fits e n few = record {
  kept = λ ts rest h l.
      let one = (formed e 0).kept ts rest h.0 l in
      let two = counted e 0 ts rest h.0 in
      let three : token_count e ≤ 256 = omega (arith, h.1) in
      (and_from (is_formed e 0 && _) _ (and_from (is_formed e 0) _ one.0 (le-leb (token_count e) 256 three)) (le-leb (depth e) n few), one.1);
}
