-- How printed tokens stand on a page: line ends, the indentation by open braces, and the blanks between neighbours.
use Rattle.std.specs.Prelude.{ℕ, Bool, true, false, ◌-◌, List, [], ◌++◌, codes, length, take, refl, if◌then◌else◌}
use Rattle.std.specs.List.{fold}
use Rattle.std.specs.Coded.{Coded, code_by, coded×, coded_ℕ, coded_list}
use Rattle.model_print.specs.declared.shapes.Shape.{Shape}
use Rattle.model_print.specs.declared.shapes.Shape.TheVariants as shape

-- a printed token: what it is to its neighbours, and its bytes
pub record Piece : Type 0 where
  pub shape : Shape
  pub bytes : List ℕ

-- a page so far: its bytes, its last token, and two blanks for each brace that is open
pub record Page : Type 0 where
  pub text : List ℕ
  pub last : Shape
  pub margin : List ℕ

-- a page is stored as the pair of its fields
abbrev pub page_code : Coded Shape → Coded Page
page_code shapes =
    code_by
    (List ℕ × (Shape × List ℕ))
    (coded× (coded_list coded_ℕ) (coded× shapes (coded_list coded_ℕ)))
    (λ p. (p.text, (p.last, p.margin)))
    (λ p. record { text = p.0; last = p.1.0; margin = p.1.1 })
    (λ _. refl)

-- Whether a blank stands between two tokens of a line. There is none behind an opening bracket, `.`, `@` and a
-- prefix operator, and none before `;`, `,`, `.`, `@` and a closing bracket. Before an opening bracket there is
-- one only behind an operator, a word of the language that is no type and no conversion, and a text.
abbrev pub is_spaced : Shape → Shape → Bool
is_spaced shape.Open after = false
is_spaced shape.Joint after = false
is_spaced shape.Prefix after = false
is_spaced before shape.Semicolon = false
is_spaced before shape.Comma = false
is_spaced before shape.Joint = false
is_spaced before shape.Close = false
is_spaced shape.Operator shape.Open = true
is_spaced shape.Word shape.Open = true
is_spaced shape.Quoted shape.Open = true
is_spaced before shape.Open = false
is_spaced before after = true

-- a line ends behind each brace and each `;`
abbrev pub ends_line : Shape → Bool
ends_line shape.LeftBrace = true
ends_line shape.RightBrace = true
ends_line shape.Semicolon = true
ends_line other = false

-- two blanks less
abbrev pub narrower : List ℕ → List ℕ
narrower margin = take (length margin - 2) margin

-- the margin behind a token: a brace opens or closes
abbrev pub margin_after : List ℕ → Shape → List ℕ
margin_after margin shape.LeftBrace = margin ++ codes "  "
margin_after margin shape.RightBrace = narrower margin
margin_after margin other = margin

-- the margin of a line that begins with this token: a closing brace there is not counted
abbrev pub margin_before : List ℕ → Shape → List ℕ
margin_before margin shape.RightBrace = narrower margin
margin_before margin other = margin

-- what stands before a token: the margin at the beginning of a line, and else a blank or nothing
abbrev pub gap : Page → Shape → List ℕ
gap page next = if ends_line page.last then margin_before page.margin next else (if is_spaced page.last next then codes " " else [])

-- what stands behind a token
abbrev pub line_end : Shape → List ℕ
line_end s = if ends_line s then codes "\n" else []

-- the page with one token more
abbrev pub put : Page → Piece → Page
put page p = record {
  text = page.text ++ gap page p.shape ++ p.bytes ++ line_end p.shape;
  last = p.shape;
  margin = margin_after page.margin p.shape;
}

-- the page with these tokens more
abbrev pub put_all : Page → List Piece → Page
put_all page pieces = fold put page pieces

-- a page with no token stands at the beginning of a line
abbrev pub blank : Page
blank = record { text = []; last = shape.Semicolon; margin = [] }

-- the bytes of these tokens
abbrev pub layout : List Piece → List ℕ
layout pieces = (put_all blank pieces).text
