-- That the printed text of a tree reads as the same tree but for line numbers.
use Rattle.std.proofs.Common.{◌≡◌, true, List, [], ◌∷◌, append-nil, ◌∙◌, refl, sym, ap, subst, arith}
use Rattle.std.specs.Prelude.{map}
use Rattle.std.specs.List.{list_all}
use Rattle.model_print.specs.ModelTree.Limits.{is_sound, fits_head}
use Rattle.model_print.specs.ModelTree.Languages.{Leaf, Leaves, named, in_unit, descending, may_have, leaves_of, keeps_language}
use Rattle.model_print.specs.ModelTree.declared.items.Head.{Head}
use Rattle.model_print.specs.ModelTree.declared.items.Head.TheVariants as head
use Rattle.model_print.specs.ModelTree.Tree as tree
use Rattle.model_lexer.specs.Tokens.{Token, Tokens}
use Rattle.model_lexer.specs.Items.{DerivesSource}
use Rattle.model_lexer.specs.Languages.{in_language}
use Rattle.model_lexer.specs.Brackets.{brackets}
use Rattle.model_lexer.specs.Cut.{Lexeme}
use Rattle.model_lexer.specs.Laws.{with_lines}
use Rattle.model_print.specs.Printed.{printed, printed_text}
use Rattle.laws_texts.specs.PrintsAgain.{PrintsAgain}
use Rattle.laws_texts.specs.ReadsBack.{ReadsBack}
use Rattle.laws_texts.specs.Unlined as unlined
use Rattle.laws_texts.proofs.Reading.{as_cut}
use Rattle.laws_texts.proofs.Laid.{layout_cut}
use Rattle.laws_texts.proofs.Spelled.{meanings}
use Rattle.laws_texts.proofs.PrintedItems.{source_spelled}
use Rattle.laws_texts.proofs.Depths.{same_brackets, sound_deep}
use Rattle.laws_texts.proofs.SameLeaves.{same_leaves}
use Rattle.laws_texts.proofs.Meant.{cut, language_told}
use Rattle.laws_texts.proofs.Unprinted.{same_text}

-- tokens on the lines of those that a text is cut into
lined_as : (ts : List Token) (ls : List Lexeme) → map (λ l. l.token) ls ≡ map as_cut ts → (us : Tokens) × (meanings us ≡ ts) × (cut us ≡ with_lines ls)
lined_as [] [] e = ([], refl, refl)
lined_as [] (l ∷ ls) e = cc
lined_as (t ∷ ts) [] e = cc
lined_as (t ∷ ts) (l ∷ ls) e =
    let one : as_cut t ≡ l.token = cc in
    let rest : map (λ (l : Lexeme). l.token) ls ≡ map as_cut ts = cc in
    let (us, meant, same) = lined_as ts ls rest in (
      (t, l.line) ∷ us,
      ap (λ (xs : List Token). t ∷ xs) meant,
      ap (λ (x : Token). (x, l.line) ∷ cut us) one ∙ ap (λ (xs : Tokens). (l.token, l.line) ∷ xs) same,
    )

-- a tree keeps to its language whatever its lines are
same_leaf : (h : Head) (x : Leaf) → may_have (unlined.head h) x ≡ may_have h x
same_leaf head.First x = refl
same_leaf (head.Second r) (named x) = refl
same_leaf (head.Second r) (in_unit u) = refl
same_leaf (head.Second r) descending = refl

same_all : (h : Head) (xs : Leaves) → list_all (may_have (unlined.head h)) xs ≡ list_all (may_have h) xs
same_all h [] = refl
same_all h (x ∷ xs) = rw (same_leaf h x, same_all h xs) refl

unlined_keeps : (x : tree.Source) → keeps_language (unlined.source x).head (unlined.source x).model ≡ keeps_language x.head x.model
unlined_keeps x = ap (list_all (may_have (unlined.head x.head))) (same_leaves x.model) ∙ same_all x.head (leaves_of x.model)

keeps_too : (x y : tree.Source) → unlined.source y ≡ unlined.source x → keeps_language x.head x.model ≡ true → keeps_language y.head y.model ≡ true
keeps_too x y alike keeps = sym (unlined_keeps y) ∙ ap (λ (z : tree.Source). keeps_language z.head z.model) alike ∙ unlined_keeps x ∙ keeps

pub printed_reads : (x : tree.Source) → fits_head x.head ≡ true → keeps_language x.head x.model ≡ true → is_sound x.model ≡ true → ReadsBack (printed_text x) x
printed_reads x k keeps h =
    let a = source_spelled x k h in
    let (ls, same, cuts) = layout_cut (printed x) a.tokens a.means a.fits in
    let (us, meant, lined) = lined_as a.tokens ls same in
    let (y, alike, derives) = a.reads us meant in
    let derived : DerivesSource y us [] = subst (λ (ts : Tokens). DerivesSource y ts []) (append-nil us) (derives []) in
    let told : in_language (cut us) ≡ us = language_told y us (keeps_too x y alike keeps) derived in
    let here : us ≡ in_language (with_lines ls) = sym told ∙ ap in_language lined in
    let deep : brackets y.model ≡ brackets x.model = sym (same_brackets y.model) ∙ ap (λ (z : tree.Source). brackets z.model) alike ∙ same_brackets x.model in
    let few = sound_deep x.model h in
    (y, (ls, cuts, subst (λ (ts : Tokens). DerivesSource y ts []) here derived, omega (arith, deep)), sym alike)

pub printed_again : (x : tree.Source) → fits_head x.head ≡ true → keeps_language x.head x.model ≡ true → is_sound x.model ≡ true → PrintsAgain (printed_text x) x
printed_again x k keeps h = let (y, reads, same) = printed_reads x k keeps h in (y, reads, same, sym (same_text x y same))
