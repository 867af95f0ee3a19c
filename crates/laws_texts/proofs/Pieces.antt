-- What a printed token reads as, and how far apart two stand.
use Rattle.std.proofs.Common.{◌≡◌, ℕ, Bool, true, false, ◌&&◌, List, [], ◌∷◌, ◌++◌, length, codes, append_assoc, ◌∙◌, refl, sym, arith}
use Rattle.std.specs.Prelude.{map, reverse, nat_lt, nat_le}
use Rattle.std.specs.List.{list_all}
use Rattle.std.specs.Fmt.{decimal}
use Rattle.std.proofs.lemmas.Bool.{and_parts}
use Rattle.std.proofs.lemmas.Bool.Decides.{nat_tests}
use Rattle.model_print.specs.LogicValues.declared.kinds.Digit.{Digit}
use Rattle.model_print.specs.LogicValues.ValueText.{letter_of}
use Rattle.model_print.specs.SimTime.declared.moments.Unit.{Unit as TimeUnit}
use Rattle.model_print.specs.SimTime.declared.moments.Unit.TheVariants as unit
use Rattle.model_print.specs.ModelTree.declared.vocabulary.Word.{Word}
use Rattle.model_print.specs.ModelTree.declared.vocabulary.Word.TheVariants as w
use Rattle.model_print.specs.ModelTree.declared.vocabulary.Symbol.{Symbol}
use Rattle.model_print.specs.ModelTree.declared.vocabulary.Symbol.TheVariants as s
use Rattle.model_print.specs.ModelTree.declared.expressions.UnaryOp.{UnaryOp}
use Rattle.model_print.specs.ModelTree.declared.expressions.UnaryOp.TheVariants as sign
use Rattle.model_print.specs.ModelTree.Vocabulary.{word_text, symbol_text}
use Rattle.model_print.specs.ModelTree.Leaves.{is_letter, is_word_byte, is_word, is_name, is_print_text}
use Rattle.model_print.specs.ModelTree.Limits.{is_number}
use Rattle.model_lexer.specs.Tokens.{Token, name, number, logic, quoted, word, symbol, unit_token}
use Rattle.model_print.specs.ModelTree.Spelling.{unary_symbol, unit_name}
use Rattle.model_lexer.specs.Forms.{is_digit, is_decimal}
use Rattle.model_print.specs.declared.shapes.Shape.{Shape}
use Rattle.model_print.specs.declared.shapes.Shape.TheVariants as shape
use Rattle.model_print.specs.Layout.{Piece}
use Rattle.model_print.specs.Pieces as piece
use Rattle.laws_texts.proofs.Reading.{as_cut, ReadsAs}
use Rattle.laws_texts.proofs.Fronts.{begins, is_second, word_formed, name_parts, decimal_formed, number_small, reads_word, reads_name, reads_number, reads_logic, reads_quoted, reads_symbol}

-- whether a byte of a word would go on with it
abbrev pub is_open : Shape → Bool
is_open shape.Plain = true
is_open shape.Word = true
is_open shape.Quoted = true
is_open other = false

-- whether it begins with a byte that goes on with no token
abbrev pub is_stop : Shape → Bool
is_stop shape.Open = true
is_stop shape.Close = true
is_stop shape.Comma = true
is_stop shape.Joint = true
is_stop shape.Semicolon = true
is_stop shape.LeftBrace = true
is_stop shape.RightBrace = true
is_stop other = false

abbrev pub is_operator : Shape → Bool
is_operator shape.Operator = true
is_operator other = false

-- whether what comes next stands without a blank whatever it is
abbrev pub is_tight : Shape → Bool
is_tight shape.Open = true
is_tight shape.Joint = true
is_tight shape.Prefix = true
is_tight other = false

-- the bytes behind a token do not go on with it
pub record Stops (a : Shape) (bytes : List ℕ) : Type 0 where
  pub mark : begins is_second bytes ≡ false
  pub word : is_open a ≡ true → begins is_word_byte bytes ≡ false

-- how the bytes of a token begin
pub record Opens (b : Shape) (bytes : List ℕ) : Type 0 where
  pub mark : is_operator b ≡ false → begins is_second bytes ≡ false
  pub word : is_stop b ≡ true → begins is_word_byte bytes ≡ false

-- a token reads as these, as a text is cut into them
pub record Reads (p : Piece) (ts : List Token) : Type 0 where
  pub opens : (r : List ℕ) → Opens p.shape (p.bytes ++ r)
  pub reads : (r : List ℕ) (us : List Token) → Stops p.shape r → ReadsAs r us → ReadsAs (p.bytes ++ r) (map as_cut ts ++ us)

-- how a word begins
letter_apart : (b : ℕ) → is_letter b ≡ true → is_second b ≡ false
letter_apart b h = grind (arith, nat_tests)

word_begins : (bs r : List ℕ) → is_word bs ≡ true → begins is_second (bs ++ r) ≡ false
word_begins [] r h = cc
word_begins (b ∷ bs) r h = letter_apart b (and_parts (is_letter b) (list_all is_word_byte bs) h).0

digit_apart : (b : ℕ) → is_digit b ≡ true → is_second b ≡ false
digit_apart b h = grind (arith, nat_tests)

digits_begin : (bs r : List ℕ) → is_decimal bs ≡ true → begins is_second (bs ++ r) ≡ false
digits_begin [] r h = cc
digits_begin (b ∷ bs) r h = digit_apart b (and_parts (is_digit b) (list_all is_digit bs) h).0

-- what begins with neither is told by its first byte
other_opens : (a : Shape) (bytes : List ℕ) → is_stop a ≡ false → begins is_second bytes ≡ false → Opens a bytes
other_opens a bytes e h = record { mark = λ _. h; word = λ (k : is_stop a ≡ true). let no : false ≡ true = sym e ∙ k in cc }

stop_opens : (a : Shape) (bytes : List ℕ) → begins is_second bytes ≡ false → begins is_word_byte bytes ≡ false → Opens a bytes
stop_opens a bytes h k = record { mark = λ _. h; word = λ _. k }

pub word_piece : (x : Word) → Reads (piece.word x) (word x ∷ [])
word_piece x = record {
  opens = λ r. other_opens shape.Word (word_text x ++ r) refl (word_begins (word_text x) r (word_formed x));
  reads = λ r us stop h. reads_word x r us (stop.word refl) h;
}

pub type_word_piece : (x : Word) → Reads (piece.type_word x) (word x ∷ [])
type_word_piece x = record {
  opens = λ r. other_opens shape.Plain (word_text x ++ r) refl (word_begins (word_text x) r (word_formed x));
  reads = λ r us stop h. reads_word x r us (stop.word refl) h;
}

pub name_piece : (x : List ℕ) → is_name x ≡ true → Reads (piece.name x) (name x ∷ [])
name_piece x k = record {
  opens = λ r. other_opens shape.Plain (x ++ r) refl (word_begins x r (name_parts x k).0);
  reads = λ r us stop h. reads_name x r us k (stop.word refl) h;
}

-- a unit
pub unit_piece : (u : TimeUnit) → Reads (piece.name (unit_name u)) (unit_token u ∷ [])
unfolding Rattle.model_print.specs.ModelTree.Vocabulary.word_of
unit_piece unit.Fs = type_word_piece w.Fs
unit_piece unit.Ps = name_piece (codes "ps") refl
unit_piece unit.Ns = name_piece (codes "ns") refl
unit_piece unit.Us = name_piece (codes "us") refl
unit_piece unit.Ms = name_piece (codes "ms") refl
unit_piece unit.S = name_piece (codes "s") refl

pub number_piece : (n : ℕ) → is_number n ≡ true → Reads (piece.number n) (number n ∷ [])
number_piece n k = record {
  opens = λ r. other_opens shape.Plain (decimal n ++ r) refl (digits_begin (decimal n) r (decimal_formed n (number_small n k)));
  reads = λ r us stop h. reads_number n r us k (stop.word refl) h;
}

pub logic_piece : (ds : List Digit) → (nat_lt 0 (length ds) && nat_le (length ds) 64) ≡ true → Reads (piece.logic ds) (logic ds ∷ [])
logic_piece ds k = record {
  opens = λ r. other_opens shape.Plain ((codes "'" ++ map letter_of (reverse ds) ++ codes "'") ++ r) refl refl;
  reads = λ r us stop h. reads_logic ds r us k h;
}

pub quoted_piece : (x : List ℕ) → is_print_text x ≡ true → Reads (piece.quoted x) (quoted x ∷ [])
quoted_piece x k = record {
  opens = λ r. other_opens shape.Quoted ((codes "\"" ++ x ++ codes "\"") ++ r) refl refl;
  reads = λ r us stop h. reads_quoted x r us k h;
}

pub wide_piece : (x : Word) (n : ℕ) → is_number n ≡ true → Reads (piece.wide x n) (word x ∷ symbol s.Less ∷ number n ∷ symbol s.Greater ∷ [])
wide_piece x n k = record {
  opens = λ r. rw (split r) (other_opens shape.Plain (word_text x ++ (60 ∷ decimal n ++ (62 ∷ r))) refl (word_begins (word_text x) (60 ∷ decimal n ++ (62 ∷ r)) (word_formed x)));
  reads = λ r us stop h.
      rw (split r)
      (reads_word x (60 ∷ decimal n ++ (62 ∷ r)) (symbol s.Less ∷ number n ∷ symbol s.Greater ∷ us) refl
      (reads_symbol s.Less (decimal n ++ (62 ∷ r)) (number n ∷ symbol s.Greater ∷ us) (digits_begin (decimal n) (62 ∷ r) (decimal_formed n (number_small n k)))
      (reads_number n (62 ∷ r) (symbol s.Greater ∷ us) k refl
      (reads_symbol s.Greater r us stop.mark h))));
}
  where
    split : (r : List ℕ) → (word_text x ++ codes "<" ++ decimal n ++ codes ">") ++ r ≡ word_text x ++ (60 ∷ decimal n ++ (62 ∷ r))
    split r =
        append_assoc ((word_text x ++ codes "<") ++ decimal n) (codes ">") r
        ∙ append_assoc (word_text x ++ codes "<") (decimal n) (62 ∷ r)
        ∙ append_assoc (word_text x) (codes "<") (decimal n ++ (62 ∷ r))

symbol_piece : (a : Shape) (x : Symbol) → ((r : List ℕ) → Opens a (symbol_text x ++ r)) → Reads (record { shape = a; bytes = symbol_text x }) (symbol x ∷ [])
symbol_piece a x f = record {
  opens = f;
  reads = λ r us stop h. reads_symbol x r us stop.mark h;
}

pub operator_piece : (x : Symbol) → Reads (piece.operator x) (symbol x ∷ [])
operator_piece x = symbol_piece shape.Operator x (λ r. record { mark = λ (e : true ≡ false). cc; word = λ (e : false ≡ true). cc })

pub prefix_piece : (o : UnaryOp) → Reads (piece.prefix (unary_symbol o)) (symbol (unary_symbol o) ∷ [])
prefix_piece sign.Negate = symbol_piece shape.Prefix s.Minus (λ r. stop_opens shape.Prefix (symbol_text s.Minus ++ r) refl refl)
prefix_piece sign.Not = symbol_piece shape.Prefix s.Bang (λ r. stop_opens shape.Prefix (symbol_text s.Bang ++ r) refl refl)
prefix_piece sign.Complement = symbol_piece shape.Prefix s.Tilde (λ r. stop_opens shape.Prefix (symbol_text s.Tilde ++ r) refl refl)

pub minus_piece : Reads (piece.prefix s.Minus) (symbol s.Minus ∷ [])
minus_piece = symbol_piece shape.Prefix s.Minus (λ r. stop_opens shape.Prefix (symbol_text s.Minus ++ r) refl refl)

pub dot_piece : Reads (piece.joint s.Dot) (symbol s.Dot ∷ [])
dot_piece = symbol_piece shape.Joint s.Dot (λ r. stop_opens shape.Joint (symbol_text s.Dot ++ r) refl refl)

pub at_piece : Reads (piece.joint s.At) (symbol s.At ∷ [])
at_piece = symbol_piece shape.Joint s.At (λ r. stop_opens shape.Joint (symbol_text s.At ++ r) refl refl)

pub left_paren_piece : Reads (piece.opening s.LeftParen) (symbol s.LeftParen ∷ [])
left_paren_piece = symbol_piece shape.Open s.LeftParen (λ r. stop_opens shape.Open (symbol_text s.LeftParen ++ r) refl refl)

pub left_bracket_piece : Reads (piece.opening s.LeftBracket) (symbol s.LeftBracket ∷ [])
left_bracket_piece = symbol_piece shape.Open s.LeftBracket (λ r. stop_opens shape.Open (symbol_text s.LeftBracket ++ r) refl refl)

pub right_paren_piece : Reads (piece.closing s.RightParen) (symbol s.RightParen ∷ [])
right_paren_piece = symbol_piece shape.Close s.RightParen (λ r. stop_opens shape.Close (symbol_text s.RightParen ++ r) refl refl)

pub right_bracket_piece : Reads (piece.closing s.RightBracket) (symbol s.RightBracket ∷ [])
right_bracket_piece = symbol_piece shape.Close s.RightBracket (λ r. stop_opens shape.Close (symbol_text s.RightBracket ++ r) refl refl)

pub comma_piece : Reads piece.comma (symbol s.Comma ∷ [])
comma_piece = symbol_piece shape.Comma s.Comma (λ r. stop_opens shape.Comma (symbol_text s.Comma ++ r) refl refl)

pub semicolon_piece : Reads piece.semicolon (symbol s.Semicolon ∷ [])
semicolon_piece = symbol_piece shape.Semicolon s.Semicolon (λ r. stop_opens shape.Semicolon (symbol_text s.Semicolon ++ r) refl refl)

pub left_brace_piece : Reads piece.left_brace (symbol s.LeftBrace ∷ [])
left_brace_piece = symbol_piece shape.LeftBrace s.LeftBrace (λ r. stop_opens shape.LeftBrace (symbol_text s.LeftBrace ++ r) refl refl)

pub right_brace_piece : Reads piece.right_brace (symbol s.RightBrace ∷ [])
right_brace_piece = symbol_piece shape.RightBrace s.RightBrace (λ r. stop_opens shape.RightBrace (symbol_text s.RightBrace ++ r) refl refl)
