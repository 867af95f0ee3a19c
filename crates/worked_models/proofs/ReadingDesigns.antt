-- The text reads as the tree.
use Rattle.std.specs.Prelude.{◌≡◌, ℕ, List, [], ◌∷◌, Some, codes, refl}
use Rattle.std.proofs.Math.Dec.{lit≤}
use Rattle.model_lexer.specs.ModelTree.Vocabulary.{word_of}
use Rattle.model_lexer.specs.ModelTree.declared.items.Head.TheVariants as head
use Rattle.model_lexer.specs.ModelTree.declared.vocabulary.Word.TheVariants as w
use Rattle.model_lexer.specs.ModelTree.declared.vocabulary.Symbol.TheVariants as s
use Rattle.model_lexer.specs.Tokens.{Token, name, quoted, word, symbol, symbol_of}
use Rattle.model_lexer.specs.Items.{DerivesModel}
use Rattle.model_lexer.specs.Cut.{Lexeme}
use Rattle.model_lexer.specs.Laws.{with_lines}
use Rattle.model_lexer.specs.Reads.{Reads}
use Rattle.worked_models.specs.Following.{text, model}
use Rattle.worked_models.proofs.Cutting.{cut_by, cut_ok}

-- a token of the first line
abbrev one : Token → ℕ → ℕ → Lexeme
one t start end = record { token = t; start = start; end = end; line = 1 }

abbrev tokens : List Lexeme
tokens =
    one (word w.Module) 0 6 ∷
    one (name (codes "M")) 7 8 ∷
    one (symbol s.LeftBrace) 9 10 ∷
    one (word w.Signal) 11 17 ∷
    one (word w.Bool) 18 22 ∷
    one (name (codes "a")) 23 24 ∷
    one (symbol s.Semicolon) 24 25 ∷
    one (word w.Signal) 26 32 ∷
    one (word w.Bool) 33 37 ∷
    one (name (codes "b")) 38 39 ∷
    one (symbol s.Semicolon) 39 40 ∷
    one (word w.Method) 41 47 ∷
    one (name (codes "s")) 48 49 ∷
    one (word w.Sensitive) 50 59 ∷
    one (name (codes "a")) 60 61 ∷
    one (symbol s.LeftBrace) 62 63 ∷
    one (word w.If) 64 66 ∷
    one (name (codes "a")) 67 68 ∷
    one (symbol s.LeftBrace) 69 70 ∷
    one (word w.Write) 71 76 ∷
    one (name (codes "b")) 77 78 ∷
    one (word w.True) 79 83 ∷
    one (symbol s.Semicolon) 83 84 ∷
    one (symbol s.RightBrace) 85 86 ∷
    one (word w.Print) 87 92 ∷
    one (quoted (codes "b")) 93 96 ∷
    one (name (codes "b")) 97 98 ∷
    one (symbol s.Semicolon) 98 99 ∷
    one (symbol s.RightBrace) 100 101 ∷
    one (word w.Method) 102 108 ∷
    one (name (codes "w")) 109 110 ∷
    one (word w.Sensitive) 111 120 ∷
    one (name (codes "b")) 121 122 ∷
    one (word w.DontInitialize) 123 138 ∷
    one (symbol s.LeftBrace) 139 140 ∷
    one (word w.Print) 141 146 ∷
    one (quoted (codes "w")) 147 150 ∷
    one (name (codes "b")) 151 152 ∷
    one (symbol s.Semicolon) 152 153 ∷
    one (symbol s.RightBrace) 154 155 ∷
    one (symbol s.RightBrace) 156 157 ∷
    one (word w.Top) 158 161 ∷
    one (name (codes "M")) 162 163 ∷
    one (name (codes "m")) 164 165 ∷
    one (symbol s.Semicolon) 165 166 ∷
    []

cut : cut_by 100 text 0 ≡ Some tokens
unfolding cut_by word_of symbol_of
cut = refl

derives : DerivesModel model (with_lines tokens) []
derives = (_, (_, (_, refl, (_, (_, refl), (_, (_, refl), (_, (_, (_, refl, (_, refl, (_, refl, (_, (_, refl), (_, refl, (_, refl)))))), (_, (_, refl, (_, refl, (_, refl, (_, (_, refl), (_, refl, (_, refl)))))), (_, (_, refl, (_, (_, refl), (_, (_, (_, refl), (_, (_, (_, refl, refl), refl), refl)), (_, refl, (_, (_, refl), (_, (_, (_, refl, (_, (refl, lit≤ tt), (_, (_, (_, refl), (_, (_, (_, (_, refl, (_, (_, refl, refl), ((lit≤ tt, refl), lit≤ tt))), (_, refl)), refl), (_, refl))), refl))), (_, (_, (_, refl, (_, (_, refl), (refl, lit≤ tt))), (_, refl)), refl)), (_, refl))))))), (_, (_, refl, (_, (_, refl), (_, (_, (_, refl), (_, (_, (_, refl, refl), refl), refl)), (_, (_, refl), (_, (_, refl), (_, (_, (_, (_, refl, (_, (_, refl), (refl, lit≤ tt))), (_, refl)), refl), (_, refl))))))), refl)))), (_, refl))))), refl), (_, refl, (_, (_, refl), (_, (_, refl), (_, refl)))))

pub reads : Reads text (record { head = head.First; model = model })
reads = (tokens, cut_ok 100 text 0 tokens cut, (with_lines tokens, refl, derives), lit≤ tt)
