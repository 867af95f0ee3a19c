-- What a text becomes, what it reads as, and what it does not read as itself.
use Rattle.std.proofs.Common.{◌≡◌, ℕ, Bool, true, false, List, [], ◌∷◌, ◌∙◌, refl, sym, ap, subst, arith}
use denote.Enum.Bare.{sameb}
use Rattle.model_tree.specs.Tree as tree
use Rattle.model_tree.specs.contracts.vocabulary.Word.{the_type as the_word}
use Rattle.model_tree.specs.Vocabulary.{later_word_of}
use Rattle.model_lexer.specs.ModelTree.declared.items.Head.{Head}
use Rattle.model_lexer.specs.ModelTree.declared.items.Head.TheVariants as head
use Rattle.model_lexer.specs.ModelTree.declared.items.Top.{Top}
use Rattle.model_lexer.specs.ModelTree.declared.vocabulary.Word.TheVariants as w
use Rattle.model_lexer.specs.Tokens.{Token, Tokens, name, number, logic, quoted, word, symbol}
use Rattle.model_lexer.specs.Languages.{in_language}
use Rattle.model_lexer.specs.Items.{DerivesModel, DerivesHead, DerivesSource}
use Rattle.model_lexer.specs.Cut.{Lexeme, Cut}
use Rattle.model_lexer.specs.Laws.{with_lines}
use Rattle.model_lexer.specs.Reads.{Reads}
use Rattle.model_lexer.specs.Views.{lexemes}
use Rattle.model_lexer.specs.declared.token.Token.{Token as Found}
use Rattle.model_lexer.proofs.Cuts.{one_cut_from}
use Rattle.clocked.specs.Parts.{Text, written}
use Rattle.clocked.specs.Expanded.{expanded, Expands}
use Rattle.clocked.specs.Views.{tokens_in}
use Rattle.clocked.proofs.Looping.{only_one}
use Rattle.expanded_text.specs.Becomes.{Becomes, says_third}
use Rattle.expanded_text.specs.Page.{page}
use Rattle.expanded_text.proofs.Rising.{Rising, cut_rises, text_rises}
use Rattle.expanded_text.proofs.Reading.{page_cut}
use Rattle.expanded_text.proofs.TokenLimits.{becomes_spelled}

-- the page of what the tokens of a text become is what it becomes
pub becomes : (text : List ℕ) (ls : List Lexeme) (out : Tokens) (last : ℕ) → Cut text ls → Expands (with_lines ls) out → Becomes text (page last out)
becomes text ls out last cut (x, are, is, are_out) =
    let up : Rising 1 (expanded x) = text_rises x 1 (subst (λ (ts : Tokens). Rising 1 ts) is (cut_rises text ls cut)) in
    let (us, same, c) = page_cut last (expanded x) up (becomes_spelled text ls x cut are is) in
    let read : Cut (page last out) us = subst (λ (ts : Tokens). Cut (page last ts) us) (sym are_out) c in
    (ls, us, cut, read, (x, are, is, same))

-- its tokens, which were found, become some
pub expands_here : (text : List ℕ) (found : List Found) (out : List ℕ) → ((ts : List Lexeme) → Cut text ts → lexemes found ≡ ts) → Becomes text out → (us : List Lexeme) × Expands (tokens_in found) (with_lines us)
expands_here text found out only (ts, us, cut, read, ex) = (us, subst (λ (x : List Lexeme). Expands (with_lines x) (with_lines us)) (sym (only ts cut)) ex)

-- a text that becomes another one begins with `language 3 ;`
pub begins : (ts out : Tokens) → Expands ts out → says_third ts ≡ true
begins ts out (x, are, is, are_out) = ap says_third is ∙ third x
  where
    third : (x : Text) → says_third (written x) ≡ true
    third x = refl

-- what one text becomes has the same tokens
pub same_reading : (text one other : List ℕ) (m : tree.Source) → Becomes text one → Becomes text other → Reads one m → Reads other m
same_reading text one other m (ts, us, cut, read, ex) (ts', us', cut', read', ex') (vs, again, derived, few) =
    let texts : ts ≡ ts' = one_cut_from text 0 ts ts' cut cut' in
    let outs : with_lines us ≡ with_lines us' = only_one (with_lines ts') (with_lines us) (with_lines us') (subst (λ (x : List Lexeme). Expands (with_lines x) (with_lines us)) texts ex) ex' in
    let here : with_lines vs ≡ with_lines us' = ap with_lines (one_cut_from one 0 vs us again read) ∙ outs in
    (us', read', subst (λ (x : Tokens). DerivesSource m (in_language x) []) here derived, few)

-- ---- a text of language 3 as it stands

abbrev is_first : Token → Bool
is_first (name x) = false
is_first (number n) = false
is_first (logic ds) = false
is_first (quoted x) = false
is_first (word u) = sameb the_word u w.Language
is_first (symbol u) = false

abbrev begins_first : Tokens → Bool
begins_first [] = false
begins_first (t ∷ ts) = is_first t.0

abbrev first_of : Tokens → Token
first_of [] = number 0
first_of (t ∷ ts) = t.0

apart : (a b : ℕ) → a ≡ 3 → b ≡ 2 → number a ≡ number b → ⊥
apart a b three two e = let same : a ≡ b = cc in absurd (omega arith)

no_module : (ms : List tree.Module) (t : Top) (line : ℕ) (ts : Tokens) → DerivesModel (record { modules = ms; top = t }) ((word w.Language, line) ∷ ts) [] → ⊥
no_module [] t line ts (mid, none, (a, top, more)) = let no : true ≡ false = ap begins_first (none ∙ top) in cc
no_module (m ∷ ms) t line ts (mid, (b, (a, first, more), others), top) = let no : true ≡ false = ap begins_first first in cc

no_head : (h : Head) (ms : List tree.Module) (t : Top) (a b : ℕ) (ts mid : Tokens) → DerivesHead h ((word w.Language, a) ∷ (number 3, b) ∷ ts) mid → DerivesModel (record { modules = ms; top = t }) mid [] → ⊥
no_head head.First ms t a b ts mid none derived = no_module ms t a ((number 3, b) ∷ ts) (subst (λ (xs : Tokens). DerivesModel (record { modules = ms; top = t }) xs []) (sym none) derived)
no_head (head.Second r) ms t a b ts mid (front, (line, first), (behind, (line', second), more)) derived =
    let rest : (number 3, b) ∷ ts ≡ front = cc in
    let same : (number 3, b) ∷ ts ≡ (number 2, line') ∷ behind = rest ∙ second in
    apart 3 2 refl refl (ap first_of same)

no_source : (x : Text) (m : tree.Source) → DerivesSource m (in_language (written x)) [] → ⊥
unfolding later_word_of
no_source x m (mid, first, derived) = no_head m.head m.model.modules m.model.top x.word_line x.number_line _ mid first derived

pub unread : (text out : List ℕ) (m : tree.Source) → Becomes text out → Reads text m → ⊥
unread text out m (ts, us, cut, read, (x, are, is, are_out)) (vs, again, derived, few) =
    let here : with_lines vs ≡ written x = ap with_lines (one_cut_from text 0 vs ts again cut) ∙ is in
    no_source x m (subst (λ (y : Tokens). DerivesSource m (in_language y) []) here derived)
