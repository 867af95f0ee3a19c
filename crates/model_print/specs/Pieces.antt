-- The tokens that a page is made of, and how several stand one behind another.
use Rattle.std.specs.Prelude.{ℕ, Bool, true, false, List, [], ◌∷◌, ◌++◌, Option, Some, None, codes, map, reverse}
use Rattle.std.specs.Fmt.{decimal}
use Rattle.model_tree.specs.LogicValues.declared.kinds.Digit.{Digit}
use Rattle.model_tree.specs.LogicValues.ValueText.{letter_of}
use Rattle.model_tree.specs.Vocabulary.{word_text, symbol_text}
use Rattle.model_tree.specs.declared.vocabulary.Word.{Word}
use Rattle.model_tree.specs.declared.vocabulary.Symbol.{Symbol}
use Rattle.model_tree.specs.declared.vocabulary.Symbol.TheVariants as s
use Rattle.model_print.specs.declared.shapes.Shape.TheVariants as shape
use Rattle.model_print.specs.Layout.{Piece}

-- a word of the language that is no type and no conversion
abbrev pub word : Word → Piece
word x = record { shape = shape.Word; bytes = word_text x }

-- a name, also that of a member or of a unit
abbrev pub name : List ℕ → Piece
name x = record { shape = shape.Plain; bytes = x }

-- a number, in decimal
abbrev pub number : ℕ → Piece
number n = record { shape = shape.Plain; bytes = decimal n }

-- a logic literal, the highest digit first
abbrev pub logic : List Digit → Piece
logic ds = record { shape = shape.Plain; bytes = codes "'" ++ map letter_of (reverse ds) ++ codes "'" }

-- a text between double quotes
abbrev pub quoted : List ℕ → Piece
quoted text = record { shape = shape.Quoted; bytes = codes "\"" ++ text ++ codes "\"" }

-- the word of a conversion or of a type that has no width
abbrev pub type_word : Word → Piece
type_word x = record { shape = shape.Plain; bytes = word_text x }

-- a type that has a width
abbrev pub wide : Word → ℕ → Piece
wide x width = record { shape = shape.Plain; bytes = word_text x ++ codes "<" ++ decimal width ++ codes ">" }

-- an operator between two tokens, also `=`, `->` and `:`
abbrev pub operator : Symbol → Piece
operator x = record { shape = shape.Operator; bytes = symbol_text x }

-- an operator before its operand
abbrev pub prefix : Symbol → Piece
prefix x = record { shape = shape.Prefix; bytes = symbol_text x }

-- `.` or `@`
abbrev pub joint : Symbol → Piece
joint x = record { shape = shape.Joint; bytes = symbol_text x }

-- an opening round or square bracket
abbrev pub opening : Symbol → Piece
opening x = record { shape = shape.Open; bytes = symbol_text x }

-- a closing one
abbrev pub closing : Symbol → Piece
closing x = record { shape = shape.Close; bytes = symbol_text x }

abbrev pub comma : Piece
comma = record { shape = shape.Comma; bytes = symbol_text s.Comma }

abbrev pub semicolon : Piece
semicolon = record { shape = shape.Semicolon; bytes = symbol_text s.Semicolon }

abbrev pub left_brace : Piece
left_brace = record { shape = shape.LeftBrace; bytes = symbol_text s.LeftBrace }

abbrev pub right_brace : Piece
right_brace = record { shape = shape.RightBrace; bytes = symbol_text s.RightBrace }

-- a word where it is written
abbrev pub flag : Word → Bool → List Piece
flag x true = word x ∷ []
flag x false = []

-- what is printed of what is written, and no token where nothing is
abbrev pub maybe : {A : Type 0} → (A → List Piece) → Option A → List Piece
maybe f None = []
maybe f (Some x) = f x

-- what is printed of each, one behind another
abbrev pub each : {A : Type 0} → (A → List Piece) → List A → List Piece
each f [] = []
each f (x ∷ xs) = f x ++ each f xs

-- the same, with a comma between two
abbrev pub separated : {A : Type 0} → (A → List Piece) → List A → List Piece
separated f [] = []
separated f (x ∷ xs) = f x ++ each (λ y. comma ∷ f y) xs

-- what stands between braces
abbrev pub braced : List Piece → List Piece
braced inside = left_brace ∷ inside ++ right_brace ∷ []

-- what stands between round brackets
abbrev pub bracketed : List Piece → List Piece
bracketed inside = opening s.LeftParen ∷ inside ++ closing s.RightParen ∷ []
