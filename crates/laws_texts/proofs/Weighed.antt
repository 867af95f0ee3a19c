-- How many bytes printed tokens take, against the tokens that a text they were read of has.
use Rattle.std.proofs.Common.{◌≡◌, ℕ, zero, suc, ◌+◌, ◌-◌, ◌*◌, ◌≤◌, ◌<◌, ◌^◌, Bool, true, false, ◌&&◌, List, [], ◌∷◌, ◌++◌, length, take, codes, Option, Some, None, ◌∙◌, refl, sym, ap, subst, ⊎_elim, lit<, lit≤, arith}
use Rattle.std.specs.Prelude.{map, reverse, nat_le, nat_lt, is_none}
use Rattle.std.specs.List.{list_all}
use Rattle.std.specs.Fmt.{decimal}
use Rattle.std.proofs.lemmas.Bool.{and_parts, cases_Bool, leb-true}
use Rattle.std.proofs.Math.Nat.{mul-zero, mul-suc}
use Rattle.std.proofs.lemmas.Fmt.{length-decimal-le}
use Rattle.std.proofs.lemmas.List.{length-append, length-take-le, length-map, length-reverse}
use Rattle.model_print.specs.LogicValues.declared.kinds.Digit.{Digit}
use Rattle.model_print.specs.LogicValues.ValueText.{letter_of}
use Rattle.model_print.specs.SimTime.declared.moments.Unit.{Unit as TimeUnit}
use Rattle.model_print.specs.SimTime.declared.moments.Unit.TheVariants as unit
use Rattle.model_print.specs.ModelTree.declared.vocabulary.Word.{Word}
use Rattle.model_print.specs.ModelTree.declared.vocabulary.Word.TheVariants as w
use Rattle.model_print.specs.ModelTree.declared.vocabulary.Symbol.{Symbol}
use Rattle.model_print.specs.ModelTree.declared.vocabulary.Symbol.TheVariants as s
use Rattle.model_print.specs.ModelTree.Vocabulary.{word_of, word_text, symbol_text}
use Rattle.model_print.specs.ModelTree.Spelling.{unit_name}
use Rattle.model_print.specs.ModelTree.Leaves.{is_word, is_name, is_print_byte, is_print_text}
use Rattle.model_print.specs.ModelTree.Limits.{is_number}
use Rattle.model_lexer.specs.Tokens.{Token, Tokens, name, number, logic, quoted, word, symbol, unit_token, is_limited, are_limited}
use Rattle.model_lexer.specs.Rules.{Rule, ◌⨾◌, At, Takes, Nothing, Each, Separated, Maybe, Written}
use Rattle.model_lexer.specs.Statements.{Width, Braced}
use Rattle.model_print.specs.declared.shapes.Shape.{Shape}
use Rattle.model_print.specs.declared.shapes.Shape.TheVariants as shape
use Rattle.model_print.specs.Layout.{Page, Piece, ends_line, is_spaced, margin_after, margin_before, gap, line_end, put, put_all, blank, layout}
use Rattle.model_print.specs.Pieces as piece
use Rattle.laws_texts.proofs.Fronts.{number_small}
use Rattle.laws_texts.proofs.Laid.{ended, not_ended, spaced, not_spaced, begun}

-- the bytes that tokens take on a page

abbrev pub size : Page → List Piece → ℕ
size page [] = 0
size page (p ∷ ps) = length (gap page p.shape) + length p.bytes + length (line_end p.shape) + size (put page p) ps

put_size : (page : Page) (p : Piece) → length (put page p).text ≡ length page.text + (length (gap page p.shape) + length p.bytes + length (line_end p.shape))
put_size page p =
    let a : length (put page p).text ≡ length (page.text ++ gap page p.shape ++ p.bytes) + length (line_end p.shape) = length-append (page.text ++ gap page p.shape ++ p.bytes) (line_end p.shape) in
    let b = length-append (page.text ++ gap page p.shape) p.bytes in
    let c = length-append page.text (gap page p.shape) in
    omega (arith, a, b, c)

size_of_all : (page : Page) (ps : List Piece) → length (put_all page ps).text ≡ length page.text + size page ps
size_of_all page [] = omega arith
size_of_all page (p ∷ ps) =
    let rest : length (put_all page (p ∷ ps)).text ≡ length (put page p).text + size (put page p) ps = size_of_all (put page p) ps in
    omega (arith, rest, put_size page p)

pub layout_size : (ps : List Piece) → length (layout ps) ≡ size blank ps
layout_size ps = let all : length (layout ps) ≡ 0 + size blank ps = size_of_all blank ps in omega (arith, all)

put_both : (page : Page) (xs ys : List Piece) → put_all page (xs ++ ys) ≡ put_all (put_all page xs) ys
put_both page [] ys = refl
put_both page (x ∷ xs) ys = put_both (put page x) xs ys

size_both : (page : Page) (xs ys : List Piece) → size page (xs ++ ys) ≡ size page xs + size (put_all page xs) ys
size_both page [] ys = omega arith
size_both page (x ∷ xs) ys = omega (arith, size_both (put page x) xs ys)

-- what stands before a token is no longer than the margin, or one blank

before_short : (m : List ℕ) (a : Shape) → length (margin_before m a) ≤ length m
before_short m shape.RightBrace = let less : length (take (length m - 2) m) ≡ length m - 2 = length-take-le (length m - 2) m (omega arith) in omega (arith, less)
before_short m _ = omega arith

gap_short : (page : Page) (a : Shape) → length (gap page a) ≤ length page.margin + 1
gap_short page a =
    ⊎_elim
    (λ (e : ends_line page.last ≡ true). let same : length (gap page a) ≡ length (margin_before page.margin a) = ap length (begun page a e) in omega (arith, same, before_short page.margin a))
    (λ (e : ends_line page.last ≡ false).
    ⊎_elim
    (λ (k : is_spaced page.last a ≡ true). let same : length (gap page a) ≡ 1 = ap length (spaced page a e k) in omega (arith, same))
    (λ (k : is_spaced page.last a ≡ false). let same : length (gap page a) ≡ 0 = ap length (not_spaced page a e k) in omega (arith, same))
    (cases_Bool (is_spaced page.last a)))
    (cases_Bool (ends_line page.last))

end_short : (a : Shape) → length (line_end a) ≤ 1
end_short a =
    ⊎_elim
    (λ (e : ends_line a ≡ true). let same : length (line_end a) ≡ 1 = ap length (ended a e) in omega (arith, same))
    (λ (e : ends_line a ≡ false). let same : length (line_end a) ≡ 0 = ap length (not_ended a e) in omega (arith, same))
    (cases_Bool (ends_line a))

-- whether it opens or closes a brace
abbrev pub is_brace : Shape → Bool
is_brace shape.LeftBrace = true
is_brace shape.RightBrace = true
is_brace other = false

margin_kept : (m : List ℕ) (a : Shape) → is_brace a ≡ false → margin_after m a ≡ m
margin_kept m shape.LeftBrace e = cc
margin_kept m shape.RightBrace e = cc
margin_kept m _ e = refl

-- so many bytes for each token
abbrev pub cost : ℕ → Tokens → ℕ
cost c [] = 0
cost c (t ∷ ts) = c + cost c ts

turned : (c a x y : ℕ) → a ≡ x → y ≡ x + c → c + a ≡ y
turned c a x y e f = omega (arith, e, f)

pub cost_is : (c : ℕ) (ts : Tokens) → cost c ts ≡ c * length ts
cost_is c [] = sym (mul-zero c)
cost_is c (t ∷ ts) = turned c (cost c ts) (c * length ts) (c * length (t ∷ ts)) (cost_is c ts) (mul-suc c (length ts))

-- Of tokens within their limits the rule takes some. The pieces take no more bytes than there are for what is taken, where
-- there are as many for each token as the margin and so many more braces need, and 124; and they leave a margin that is as wide.
pub record Weighs (d : ℕ) (R : Rule) (xs : List Piece) : Type 0 where
  pub weighs :
      (ts rest : Tokens) → R ts rest → are_limited ts ≡ true
      → (are_limited rest ≡ true) × ((c : ℕ) (page : Page) → length page.margin + (d + d) + 124 ≤ c → (size page xs + cost c rest ≤ cost c ts) × (length (put_all page xs).margin ≡ length page.margin))

limited_rest : (ts rest : Tokens) → ts ≡ rest → are_limited ts ≡ true → are_limited rest ≡ true
limited_rest ts rest e h = subst (λ (z : Tokens). are_limited z ≡ true) e h

pub nothing : (d : ℕ) → Weighs d Nothing []
nothing d = record { weighs = λ ts rest e h. (limited_rest ts rest e h, λ c page fits. (omega (arith, ap (cost c) e), refl)) }

-- a token that is no brace
at : (d line : ℕ) (p : Piece) (t : Token) → is_brace p.shape ≡ false → (is_limited t ≡ true → length p.bytes ≤ 122) → Weighs d (At line t) (p ∷ [])
at d line p t flat few = record {
  weighs = λ ts rest e h.
      let parts = and_parts (is_limited t) (are_limited rest) (limited_rest ts ((t, line) ∷ rest) e h) in (
        parts.1,
        λ c page fits.
            let whole : size page (p ∷ []) ≡ length (gap page p.shape) + length p.bytes + length (line_end p.shape) + 0 = refl in
            let tokens : cost c ts ≡ c + cost c rest = ap (cost c) e in
            (omega (arith, whole, tokens, few parts.0, gap_short page p.shape, end_short p.shape), ap length (margin_kept page.margin p.shape flat)),
      );
}

-- on any line
takes : (d : ℕ) (p : Piece) (t : Token) → is_brace p.shape ≡ false → (is_limited t ≡ true → length p.bytes ≤ 122) → Weighs d (Takes t) (p ∷ [])
takes d p t flat few = record { weighs = λ ts rest h. (at d h.0 p t flat few).weighs ts rest h.1 }

module _ {d : ℕ} {R Q : Rule} {xs : List Piece} where
  -- the same pieces, for another rule
  abbrev pub by : ((ts rest : Tokens) → Q ts rest → R ts rest) → Weighs d R xs → Weighs d Q xs
  by f a = record { weighs = λ ts rest q h. a.weighs ts rest (f ts rest q) h }

module _ {d : ℕ} {R : Rule} {xs ys : List Piece} where
  -- the same pieces, put together in another way
  abbrev pub moved : xs ≡ ys → Weighs d R xs → Weighs d R ys
  moved e a = subst (λ (z : List Piece). Weighs d R z) e a

module _ {d : ℕ} {R Q : Rule} {xs ys : List Piece} where
  -- one part behind another
  pub both : Weighs d R xs → Weighs d Q ys → Weighs d (R ⨾ Q) (xs ++ ys)
  both a b = record {
    weighs = λ ts rest (mid, r, q) h.
        let (h1, f) = a.weighs ts mid r h in
        let (h2, g) = b.weighs mid rest q h1 in (
          h2,
          λ c page fits.
              let (one, same) = f c page fits in
              let (two, last) = g c (put_all page xs) (omega (arith, same)) in
              (omega (arith, one, two, size_both page xs ys), ap (λ (z : Page). length z.margin) (put_both page xs ys) ∙ last ∙ same),
        );
  }

module _ {d : ℕ} {R : Rule} {xs : List Piece} where
  -- braces around
  braced : Weighs d R xs → Weighs (suc d) (Braced R) (piece.braced xs)
  braced a = record {
    weighs = λ ts rest (m1, (l1, e1), (m2, r, (l2, e2))) h.
        let (h2, f) = a.weighs m1 m2 r (limited_rest ts ((symbol s.LeftBrace, l1) ∷ m1) e1 h) in (
          limited_rest m2 ((symbol s.RightBrace, l2) ∷ rest) e2 h2,
          λ c page fits.
              let wide : length (put page piece.left_brace).margin ≡ length page.margin + 2 = length-append page.margin (codes "  ") in
              let (one, same) = f c (put page piece.left_brace) (omega (arith, wide)) in
              let less : length (take (length (put_all (put page piece.left_brace) xs).margin - 2) (put_all (put page piece.left_brace) xs).margin) ≡ length (put_all (put page piece.left_brace) xs).margin - 2 = length-take-le (length (put_all (put page piece.left_brace) xs).margin - 2) (put_all (put page piece.left_brace) xs).margin (omega arith) in
              let back : length (take (length (put_all (put page piece.left_brace) xs).margin - 2) (put_all (put page piece.left_brace) xs).margin) ≡ length page.margin = omega (arith, less, same, wide) in
              let whole : size page (piece.braced xs) ≡ length (gap page shape.LeftBrace) + 1 + 1 + size (put page piece.left_brace) (xs ++ piece.right_brace ∷ []) = refl in
              let end : size (put_all (put page piece.left_brace) xs) (piece.right_brace ∷ []) ≡ length (gap (put_all (put page piece.left_brace) xs) shape.RightBrace) + 1 + 1 + 0 = refl in
              let first_token : cost c ts ≡ c + cost c m1 = ap (cost c) e1 in
              let last_token : cost c m2 ≡ c + cost c rest = ap (cost c) e2 in (
                omega (arith, whole, end, one, size_both (put page piece.left_brace) xs (piece.right_brace ∷ []), wide, same, first_token, last_token, gap_short page shape.LeftBrace, gap_short (put_all (put page piece.left_brace) xs) shape.RightBrace),
                ap (λ (z : Page). length z.margin) (put_both (put page piece.left_brace) xs (piece.right_brace ∷ [])) ∙ back,
              ),
        );
  }

-- braces that may be opened
pub braced_in : {R : Rule} {xs : List Piece} → (d n : ℕ) → suc n ≤ d → ((m : ℕ) → n ≤ m → Weighs m R xs) → Weighs d (Braced R) (piece.braced xs)
braced_in zero n h f = absurd (omega (arith, h))
braced_in (suc d) n h f = braced (f d (omega (arith, h)))

-- how long the bytes of a token are

word_short : (x : Word) → length (word_text x) ≤ 64
word_short w.Module = lit≤ tt
word_short _ = lit≤ tt

symbol_short : (x : Symbol) → length (symbol_text x) ≤ 122
symbol_short s.LeftBrace = lit≤ tt
symbol_short _ = lit≤ tt

name_short : (x : List ℕ) → is_name x ≡ true → length x ≤ 122
name_short x h =
    let parts = and_parts (is_word x && nat_le (length x) 64) (is_none (word_of x)) h in
    omega (arith, leb-true (length x) 64 (and_parts (is_word x) (nat_le (length x) 64) parts.0).1)

number_short : (n : ℕ) → is_number n ≡ true → length (decimal n) ≤ 20
number_short n h =
    let small : n < 2 ^ 64 = number_small n h in
    let more : 2 ^ 64 ≤ 10 ^ 20 = lit≤ tt in
    length-decimal-le 20 n (lit< tt) (omega (arith, small, more)) small

logic_short : (ds : List Digit) → is_limited (logic ds) ≡ true → length (codes "'" ++ map letter_of (reverse ds) ++ codes "'") ≤ 122
logic_short ds h =
    let few = leb-true (length ds) 64 (and_parts (nat_lt 0 (length ds)) (nat_le (length ds) 64) h).1 in
    let a : length (codes "'" ++ map letter_of (reverse ds) ++ codes "'") ≡ length (codes "'" ++ map letter_of (reverse ds)) + 1 = length-append (codes "'" ++ map letter_of (reverse ds)) (codes "'") in
    let b : length (codes "'" ++ map letter_of (reverse ds)) ≡ 1 + length (map letter_of (reverse ds)) = length-append (codes "'") (map letter_of (reverse ds)) in
    omega (arith, few, a, b, length-map (reverse ds) letter_of, length-reverse ds)

quoted_short : (x : List ℕ) → is_print_text x ≡ true → length (codes "\"" ++ x ++ codes "\"") ≤ 122
quoted_short x h =
    let few = leb-true (length x) 120 (and_parts (list_all is_print_byte x) (nat_le (length x) 120) h).1 in
    let a : length (codes "\"" ++ x ++ codes "\"") ≡ length (codes "\"" ++ x) + 1 = length-append (codes "\"" ++ x) (codes "\"") in
    let b : length (codes "\"" ++ x) ≡ 1 + length x = length-append (codes "\"") x in
    omega (arith, few, a, b)

-- the tokens of each kind

pub word_at : (d line : ℕ) (x : Word) → Weighs d (At line (word x)) (piece.word x ∷ [])
word_at d line x = at d line (piece.word x) (word x) refl (λ h. omega (arith, word_short x))

pub word_taken : (d : ℕ) (x : Word) → Weighs d (Takes (word x)) (piece.word x ∷ [])
word_taken d x = takes d (piece.word x) (word x) refl (λ h. omega (arith, word_short x))

pub type_word_at : (d line : ℕ) (x : Word) → Weighs d (At line (word x)) (piece.type_word x ∷ [])
type_word_at d line x = at d line (piece.type_word x) (word x) refl (λ h. omega (arith, word_short x))

pub name_at : (d line : ℕ) (x : List ℕ) → Weighs d (At line (name x)) (piece.name x ∷ [])
name_at d line x = at d line (piece.name x) (name x) refl (name_short x)

pub name_taken : (d : ℕ) (x : List ℕ) → Weighs d (Takes (name x)) (piece.name x ∷ [])
name_taken d x = takes d (piece.name x) (name x) refl (name_short x)

unit_short : (u : TimeUnit) → length (unit_name u) ≤ 122
unit_short unit.Ps = lit≤ tt
unit_short _ = lit≤ tt

pub unit_taken : (d : ℕ) (u : TimeUnit) → Weighs d (Takes (unit_token u)) (piece.name (unit_name u) ∷ [])
unit_taken d u = takes d (piece.name (unit_name u)) (unit_token u) refl (λ h. unit_short u)

pub number_at : (d line n : ℕ) → Weighs d (At line (number n)) (piece.number n ∷ [])
number_at d line n = at d line (piece.number n) (number n) refl (λ h. omega (arith, number_short n h))

pub number_taken : (d n : ℕ) → Weighs d (Takes (number n)) (piece.number n ∷ [])
number_taken d n = takes d (piece.number n) (number n) refl (λ h. omega (arith, number_short n h))

pub logic_at : (d line : ℕ) (ds : List Digit) → Weighs d (At line (logic ds)) (piece.logic ds ∷ [])
logic_at d line ds = at d line (piece.logic ds) (logic ds) refl (logic_short ds)

pub quoted_taken : (d : ℕ) (x : List ℕ) → Weighs d (Takes (quoted x)) (piece.quoted x ∷ [])
quoted_taken d x = takes d (piece.quoted x) (quoted x) refl (quoted_short x)

-- a symbol that is no brace, whatever its shape
pub symbol_at : (d line : ℕ) (a : Shape) (x : Symbol) → is_brace a ≡ false → Weighs d (At line (symbol x)) ((record { shape = a; bytes = symbol_text x }) ∷ [])
symbol_at d line a x flat = at d line (record { shape = a; bytes = symbol_text x }) (symbol x) flat (λ h. symbol_short x)

pub symbol_taken : (d : ℕ) (a : Shape) (x : Symbol) → is_brace a ≡ false → Weighs d (Takes (symbol x)) ((record { shape = a; bytes = symbol_text x }) ∷ [])
symbol_taken d a x flat = takes d (record { shape = a; bytes = symbol_text x }) (symbol x) flat (λ h. symbol_short x)

-- a type with its width is one printed token of four that are read
pub wide_at : (d line : ℕ) (x : Word) (n : ℕ) → Weighs d (At line (word x) ⨾ Width n) (piece.wide x n ∷ [])
wide_at d line x n = record {
  weighs = λ ts rest (m1, e1, (m2, (l2, e2), (m3, (l3, e3), (l4, e4)))) h.
      let h1 : are_limited m1 ≡ true = limited_rest ts ((word x, line) ∷ m1) e1 h in
      let h2 : are_limited m2 ≡ true = limited_rest m1 ((symbol s.Less, l2) ∷ m2) e2 h1 in
      let h3 = and_parts (is_number n) (are_limited m3) (limited_rest m2 ((number n, l3) ∷ m3) e3 h2) in
      let a : length (word_text x ++ codes "<" ++ decimal n ++ codes ">") ≡ length (word_text x ++ codes "<" ++ decimal n) + 1 = length-append (word_text x ++ codes "<" ++ decimal n) (codes ">") in
      let b = length-append (word_text x ++ codes "<") (decimal n) in
      let q : length (word_text x ++ codes "<") ≡ length (word_text x) + 1 = length-append (word_text x) (codes "<") in (
        limited_rest m3 ((symbol s.Greater, l4) ∷ rest) e4 h3.1,
        λ c page fits.
            let whole : size page (piece.wide x n ∷ []) ≡ length (gap page shape.Plain) + length (word_text x ++ codes "<" ++ decimal n ++ codes ">") + 0 + 0 = refl in
            let t1 : cost c ts ≡ c + cost c m1 = ap (cost c) e1 in
            let t2 : cost c m1 ≡ c + cost c m2 = ap (cost c) e2 in
            let t3 : cost c m2 ≡ c + cost c m3 = ap (cost c) e3 in
            let t4 : cost c m3 ≡ c + cost c rest = ap (cost c) e4 in
            (omega (arith, whole, a, b, q, word_short x, number_short n h3.0, t1, t2, t3, t4, gap_short page shape.Plain), refl),
      );
}

-- lists, and what may be written or not

pub written : (d : ℕ) (x : Word) (b : Bool) → Weighs d (Written (word x) b) (piece.flag x b)
written d x true = word_taken d x
written d x false = nothing d

module _ {A : Type 0} (d : ℕ) (R : A → Rule) (f : A → List Piece) (g : (x : A) → Weighs d (R x) (f x)) where
  pub maybe : (x : Option A) → Weighs d (Maybe R x) (piece.maybe f x)
  maybe None = nothing d
  maybe (Some x) = g x

  each : (xs : List A) → Weighs d (Each R xs) (piece.each f xs)
  each [] = nothing d
  each (x ∷ xs) = both (g x) (each xs)

-- each behind a comma
behind_commas : {A : Type 0} (d : ℕ) (R : A → Rule) (f : A → List Piece) → ((x : A) → Weighs d (R x) (f x)) → (xs : List A) → Weighs d (Each (λ y. Takes (symbol s.Comma) ⨾ R y) xs) (piece.each (λ y. piece.comma ∷ f y) xs)
behind_commas d R f g xs = each d (λ y. Takes (symbol s.Comma) ⨾ R y) (λ y. piece.comma ∷ f y) (λ y. both (symbol_taken d shape.Comma s.Comma refl) (g y)) xs

pub separated : {A : Type 0} (d : ℕ) (R : A → Rule) (f : A → List Piece) → ((x : A) → Weighs d (R x) (f x)) → (xs : List A) → Weighs d (Separated (symbol s.Comma) R xs) (piece.separated f xs)
separated d R f g [] = record { weighs = λ ts rest no h. absurd no }
separated d R f g (x ∷ xs) = both (g x) (behind_commas d R f g xs)
