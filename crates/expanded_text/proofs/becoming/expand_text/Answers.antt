use Rattle.std.proofs.Common.{◌≡◌, ℕ, List, ◌∙◌, sym, ap, subst}
use Rattle.model_lexer.specs.Laws.{with_lines}
use Rattle.model_lexer.specs.Views.{lexemes}
use Rattle.model_lexer.specs.declared.token.Token.{Token}
use Rattle.clocked.specs.declared.expansion.Placed.{Placed}
use Rattle.clocked.specs.Expanded.{Expands}
use Rattle.clocked.specs.Views.{tokens_in, expansion_in}
use Rattle.expanded_text.specs.Becomes.{Becomes}
use Rattle.expanded_text.specs.Page.{page}
use Rattle.expanded_text.proofs.Texts.{becomes, expands_here}
use Rattle.expanded_text.proofs.becoming.expand_text.Goals as goal

pub returns-in-Err-clause-only : goal.returns-in-Err-clause-only
returns-in-Err-clause-only c = λ out b.
    let here = expands_here c.args.text.now c.in_ok-cut.cut out c.in_ok-cut.ensures.only b in
    c.in-Err.ensures.only (with_lines here.0) (subst (λ (x : List Token). Expands (tokens_in x) (with_lines here.0)) (sym c.as_slice-2.ensures) here.1)

pub returns-clause-becomes : goal.returns-clause-becomes
returns-clause-becomes c =
    let ex : Expands (with_lines (lexemes c.in_ok-cut.cut)) (expansion_in c.in-Ok.expansion) =
    subst (λ (x : List Token). Expands (tokens_in x) (expansion_in c.in-Ok.expansion)) c.as_slice-2.ensures c.in-Ok.ensures.expanded in
    let written : c.in-Ok-page_of.out ≡ page c.last_line.result (expansion_in c.in-Ok.expansion) =
    c.in-Ok-page_of.ensures ∙ ap (λ (x : List Placed). page c.last_line.result (expansion_in x)) c.as_slice-3.ensures in
    subst (λ (x : List ℕ). Becomes c.args.text.now x) (sym written)
    (becomes c.args.text.now (lexemes c.in_ok-cut.cut) (expansion_in c.in-Ok.expansion) c.last_line.result c.in_ok-cut.ensures.found ex)
