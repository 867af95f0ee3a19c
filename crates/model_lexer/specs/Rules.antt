-- The words that productions are written in. A rule says which tokens it takes, and which are left.
use Rattle.std.specs.Prelude.{◌≡◌, ℕ, ◌≤◌, Bool, true, false, List, [], ◌∷◌, Option, Some, None}
use Rattle.model_lexer.specs.Tokens.{Token, Tokens}

abbrev pub Rule : Type 1
Rule = Tokens → Tokens → Type 0

-- one rule, and then another
infixr 6 ◌⨾◌
abbrev pub ◌⨾◌ : Rule → Rule → Rule
(P ⨾ Q) ts rest = (mid : Tokens) × P ts mid × Q mid rest

-- one token, on the line that the tree keeps
abbrev pub At : ℕ → Token → Rule
At line t ts rest = ts ≡ (t, line) ∷ rest

-- one token, on any line
abbrev pub Takes : Token → Rule
Takes t ts rest = (line : ℕ) × At line t ts rest

-- no token
abbrev pub Nothing : Rule
Nothing ts rest = ts ≡ rest

-- what has no reading
abbrev pub Never : Rule
Never ts rest = ⊥

-- what the rule says of each, one after another
abbrev pub Each : {A : Type 0} → (A → Rule) → List A → Rule
Each R [] = Nothing
Each R (x ∷ xs) = R x ⨾ Each R xs

-- what the rule says of each, with this token between two
abbrev pub Separated : {A : Type 0} → Token → (A → Rule) → List A → Rule
Separated between R [] = Never
Separated between R (x ∷ xs) = R x ⨾ Each (λ y. Takes between ⨾ R y) xs

-- what the rule says of what is written, and no token where nothing is
abbrev pub Maybe : {A : Type 0} → (A → Rule) → Option A → Rule
Maybe R None = Nothing
Maybe R (Some x) = R x

-- the token where it is said that it is written, and no token where it is said that it is not
abbrev pub Written : Token → Bool → Rule
Written t true = Takes t
Written t false = Nothing

-- what binds as tightly as the second number says, where the first is wanted
abbrev pub Binds : ℕ → ℕ → Rule → Rule
Binds wanted own P ts rest = (wanted ≤ own) × P ts rest

-- what is on the first of two lines, where the tree keeps both: they are one
abbrev pub OnLine : ℕ → ℕ → Rule → Rule
OnLine line at P ts rest = (line ≡ at) × P ts rest
