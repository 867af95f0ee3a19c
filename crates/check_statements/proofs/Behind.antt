-- Behind a block its own local variables are visible no more, and they count as declared.
use Rattle.std.proofs.Common.{◌≡◌, ◌≤◌, ◌+◌, ℕ, zero, suc, List, [], ◌∷◌, ◌++◌, take, length, refl, sym, ap, ◌∙◌, arith}
use Rattle.std.proofs.lemmas.List.{length-append}
use Rattle.model_tree.specs.Tree as tree
use Rattle.check_actions.specs.ModelRules.Meanings.{variable_type}
use Rattle.check_actions.specs.ModelRules.Scopes.{Local, Scope, locals_in, locals_in_block, past, behind}
use Rattle.check_actions.specs.CheckNames.Places.{with_visible}
use Rattle.check_statements.specs.Behind.{behind_all}

-- places that differ in nothing but the number of declarations
pub same_count : (s : Scope) (m n : ℕ) → m ≡ n → record s { count = m } ≡ record s { count = n }
same_count s m n e = ap (λ (k : ℕ). record s { count = k }) e

pub past_nothing : (s : Scope) → past 0 s ≡ s
past_nothing s = same_count s (s.count + 0) s.count (omega arith)

pub past_past : (m n : ℕ) (s : Scope) → past n (past m s) ≡ past (m + n) s
past_past m n s = same_count s ((s.count + m) + n) (s.count + (m + n)) (omega arith)

take_more : (n : ℕ) (xs ys : List Local) → n ≤ length xs → take n (xs ++ ys) ≡ take n xs
take_more zero xs ys h = refl
take_more (suc n) [] ys h = absurd (omega arith)
take_more (suc n) (x ∷ xs) ys h = ap (λ zs. x ∷ zs) (take_more n xs ys (omega arith))

take_all : (xs : List Local) → take (length xs) xs ≡ xs
take_all [] = refl
take_all (x ∷ xs) = ap (λ zs. x ∷ zs) (take_all xs)

longer : (xs : List Local) (x : Local) (n : ℕ) → n ≤ length xs → n ≤ length (xs ++ x ∷ [])
longer xs x n h = omega (arith, length-append xs (x ∷ []))

-- the first so many stay visible behind a statement
behind_keeps : (x : tree.Statement) (s : Scope) (n : ℕ) → n ≤ length s.locals → n ≤ length (behind x s).locals
behind_keeps (tree.var line t name e) s n h = longer s.locals (record { name = name; number = s.count; value_type = variable_type t }) n h
behind_keeps (tree.assign line t e) s n h = h
behind_keeps (tree.operate line name at o) s n h = h
behind_keeps (tree.act line a) s n h = h
behind_keeps (tree.if_ line e body other) s n h = h
behind_keeps (tree.while_ line e body) s n h = h
behind_keeps (tree.guard line body undo) s n h = h
behind_keeps (tree.try_ line body handlers) s n h = h

behind_one : (x : tree.Statement) (s : Scope) (n : ℕ) → n ≤ length s.locals → with_visible n (behind x s) ≡ past (locals_in x) (with_visible n s)
behind_one (tree.var line t name e) s n h =
    ap (λ (ls : List Local). record s { locals = ls; count = s.count + 1 }) (take_more n s.locals ((record { name = name; number = s.count; value_type = variable_type t }) ∷ []) h)
behind_one (tree.assign line t e) s n h = sym (past_nothing (with_visible n s))
behind_one (tree.operate line name at o) s n h = sym (past_nothing (with_visible n s))
behind_one (tree.act line a) s n h = sym (past_nothing (with_visible n s))
behind_one (tree.if_ line e body other) s n h = refl
behind_one (tree.while_ line e body) s n h = refl
behind_one (tree.guard line body undo) s n h = refl
behind_one (tree.try_ line body handlers) s n h = refl

behind_some : (xs : tree.Block) (s : Scope) (n : ℕ) → n ≤ length s.locals → with_visible n (behind_all xs s) ≡ past (locals_in_block xs) (with_visible n s)
behind_some tree.over s n h = sym (past_nothing (with_visible n s))
behind_some (tree.then x xs) s n h =
    behind_some xs (behind x s) n (behind_keeps x s n h)
    ∙ ap (past (locals_in_block xs)) (behind_one x s n h)
    ∙ past_past (locals_in x) (locals_in_block xs) (with_visible n s)

-- a block that is left at the mark that was taken before it
pub behind_block : (xs : tree.Block) (s : Scope) → with_visible (length s.locals) (behind_all xs s) ≡ past (locals_in_block xs) s
behind_block xs s =
    behind_some xs s (length s.locals) (omega arith)
    ∙ ap (λ (ls : List Local). past (locals_in_block xs) (record s { locals = ls })) (take_all s.locals)
