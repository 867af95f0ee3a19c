-- What the words of the grammar tell of tokens that all pass a test: a fact about what they derive, and that the tokens left pass it.
use Rattle.std.proofs.Common.{◌≡◌, ℕ, zero, suc, ◌≤◌, Bool, true, false, ◌&&◌, List, [], ◌∷◌, Option, Some, None, refl, subst, arith}
use Rattle.std.proofs.lemmas.Bool.{and_parts, and_from}
use Rattle.model_tree.specs.Limits.{within}
use Rattle.model_lexer.specs.Tokens.{Token, Tokens, is_limited, each_is}
use Rattle.model_lexer.specs.Rules.{Rule, ◌⨾◌, At, Takes, Nothing, Never, Each, Separated, Maybe, Written, Binds, OnLine}
use Rattle.model_lexer.specs.Expressions.{Short, Parenthesized}
use Rattle.model_lexer.specs.Statements.{Braced}

-- where the rule takes tokens that pass the test the fact holds, and those that are left pass it
pub record KeepsBy (test : Token → Bool) (P : Rule) (A : Type 0) : Type 0 where
  pub kept : (ts rest : Tokens) → P ts rest → each_is test ts ≡ true → A × (each_is test rest ≡ true)

-- the same of limited tokens
abbrev pub Keeps : Rule → Type 0 → Type 0
Keeps P A = KeepsBy is_limited P A

pub at : {test : Token → Bool} {line : ℕ} {t : Token} → KeepsBy test (At line t) (test t ≡ true)
at {test} {line} {t} = record { kept = λ ts rest h l. and_parts (test t) (each_is test rest) (subst (λ (ys : Tokens). each_is test ys ≡ true) h l) }

pub takes : {test : Token → Bool} {t : Token} → KeepsBy test (Takes t) (test t ≡ true)
takes {test} {t} = record { kept = λ ts rest h l. at.kept ts rest h.1 l }

pub nothing : {test : Token → Bool} → KeepsBy test Nothing (Unit {0})
nothing {test} = record { kept = λ ts rest h l. (tt, subst (λ (ys : Tokens). each_is test ys ≡ true) h l) }

-- the fact of the first rule serves that of the second
infixr 2 ◌>>=◌
pub ◌>>=◌ : {test : Token → Bool} {P Q : Rule} {A B : Type 0} → KeepsBy test P A → (A → KeepsBy test Q B) → KeepsBy test (P ⨾ Q) B
first >>= second = record { kept = λ ts rest h l. let one = first.kept ts h.0 h.1 l in (second one.0).kept h.0 rest h.2 one.1 }

-- another fact from the one that a rule tells
pub so : {test : Token → Bool} {P : Rule} {A B : Type 0} → KeepsBy test P A → (A → B) → KeepsBy test P B
so rule f = record { kept = λ ts rest h l. let one = rule.kept ts rest h l in (f one.0, one.1) }

-- one token, and the fact that is known without it
pub ends : {test : Token → Bool} {t : Token} {A : Type 0} → A → KeepsBy test (Takes t) A
ends fact = so takes (λ e. fact)

pub never : {test : Token → Bool} {A : Type 0} → KeepsBy test Never A
never = record { kept = λ ts rest h l. absurd h }

pub short : {test : Token → Bool} {P : Rule} {A : Type 0} → KeepsBy test P A → KeepsBy test (Short P) A
short rule = record { kept = λ ts rest h l. rule.kept ts rest h.0 l }

pub binds : {test : Token → Bool} {wanted own : ℕ} {P : Rule} {A B : Type 0} → (wanted ≤ own → A → B) → KeepsBy test P A → KeepsBy test (Binds wanted own P) B
binds f rule = record { kept = λ ts rest h l. let one = rule.kept ts rest h.1 l in (f h.0 one.0, one.1) }

pub on_line : {test : Token → Bool} {line at : ℕ} {P : Rule} {A : Type 0} → KeepsBy test P A → KeepsBy test (OnLine line at P) A
on_line rule = record { kept = λ ts rest h l. rule.kept ts rest h.1 l }

pub any_line : {test : Token → Bool} {P : ℕ → Rule} {A : Type 0} → ((line : ℕ) → KeepsBy test (P line) A) → KeepsBy test (λ ts rest. (line : ℕ) × P line ts rest) A
any_line rule = record { kept = λ ts rest h l. (rule h.0).kept ts rest h.1 l }

pub written : {test : Token → Bool} → (t : Token) (b : Bool) → KeepsBy test (Written t b) (Unit {0})
written t true = so takes (λ e. tt)
written t false = nothing

pub parenthesized : {test : Token → Bool} {P : Rule} {A : Type 0} → KeepsBy test P A → KeepsBy test (Parenthesized P) A
parenthesized rule = takes >>= λ e. short rule >>= λ fact. ends fact

-- what stands in braces, where one bracket less may be opened
pub inside : {fine : Token → Bool} {P : Rule} (n m : ℕ) (test : ℕ → Bool) → suc m ≤ n → ((k : ℕ) → m ≤ k → KeepsBy fine P (test k ≡ true)) → KeepsBy fine P (within n test ≡ true)
inside zero m test few rule = absurd (omega arith)
inside (suc n) m test few rule = rule n (omega arith)

pub braced : {fine : Token → Bool} {P : Rule} (n m : ℕ) (test : ℕ → Bool) → suc m ≤ n → ((k : ℕ) → m ≤ k → KeepsBy fine P (test k ≡ true)) → KeepsBy fine (Braced P) (within n test ≡ true)
braced n m test few rule = takes >>= λ e. inside n m test few rule >>= λ fact. ends fact

-- a test of a list that is one of each element
pub each : {fine : Token → Bool} {A : Type 0} (R : A → Rule) (test : A → Bool) (all : List A → Bool) (Few : List A → Type 0) → all [] ≡ true → ((x : A) (xs : List A) → all (x ∷ xs) ≡ test x && all xs) → ((x : A) (xs : List A) → Few (x ∷ xs) → KeepsBy fine (R x) (test x ≡ true) × Few xs) → (xs : List A) → Few xs → KeepsBy fine (Each R xs) (all xs ≡ true)
each R test all Few none more one [] few = so nothing (λ e. none)
each R test all Few none more one (x ∷ xs) few =
    let (first, fewer) = one x xs few in
    first >>= λ f. so (each R test all Few none more one xs fewer) (λ g. rw (more x xs) (and_from (test x) (all xs) f g))

-- the same of elements with a token between two, of which there is one at least
pub separated : {fine : Token → Bool} {A : Type 0} (between : Token) (R : A → Rule) (test : A → Bool) (all : List A → Bool) (Few : List A → Type 0) → all [] ≡ true → ((x : A) (xs : List A) → all (x ∷ xs) ≡ test x && all xs) → ((x : A) (xs : List A) → Few (x ∷ xs) → KeepsBy fine (R x) (test x ≡ true) × Few xs) → (xs : List A) → Few xs → KeepsBy fine (Separated between R xs) (all xs ≡ true)
separated between R test all Few none more one [] few = never
separated between R test all Few none more one (x ∷ xs) few =
    let (first, fewer) = one x xs few in
    first >>= λ f. so (each (λ y. Takes between ⨾ R y) test all Few none more (λ y ys g. let (next, left) = one y ys g in (takes >>= λ e. next, left)) xs fewer) (λ g. rw (more x xs) (and_from (test x) (all xs) f g))

-- what is there or not
pub maybe : {fine : Token → Bool} {A : Type 0} (R : A → Rule) (test : Option A → Bool) → test None ≡ true → (o : Option A) → ((x : A) → o ≡ Some x → KeepsBy fine (R x) (test (Some x) ≡ true)) → KeepsBy fine (Maybe R o) (test o ≡ true)
maybe R test none None one = so nothing (λ e. none)
maybe R test none (Some x) one = one x refl
