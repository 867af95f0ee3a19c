-- Texts with clocked threads, written by hand, and what they become.
use Rattle.std.specs.Prelude.{ℕ, ◌==◌, if◌then◌else◌, List, [], ◌∷◌, ◌++◌, codes, Option, Some, None}
use Rattle.model_lexer.specs.Tokens.{Token, Tokens}
use Rattle.model_lexer.specs.declared.forms.Form.{Form}
use Rattle.model_lexer.specs.Forms.{form_of}
use Rattle.model_lexer.specs.Meanings.{meaning}

-- bytes, cut at blanks, behind those of the first piece
abbrev pub pieces_behind : List ℕ → List ℕ → List (List ℕ)
pieces_behind so [] = so ∷ []
pieces_behind so (b ∷ bs) = if b == 32 then so ∷ pieces_behind [] bs else pieces_behind (so ++ b ∷ []) bs

-- what a piece means to the lexer
abbrev pub meant : Option Form → List ℕ → Option Token
meant None piece = None
meant (Some f) piece = meaning f piece

abbrev pub on_line : ℕ → Option Token → Tokens → Tokens
on_line line None ts = ts
on_line line (Some t) ts = (t, line) ∷ ts

abbrev pub all_on : ℕ → List (List ℕ) → Tokens
all_on line [] = []
all_on line (piece ∷ more) = on_line line (meant (form_of piece) piece) (all_on line more)

-- the tokens of a text with blanks between all of them, on this line
abbrev pub on : ℕ → List ℕ → Tokens
on line text = all_on line (pieces_behind [] text)

-- ---- no reset

abbrev pub one_tick : Tokens
one_tick = on 1 (codes "language 3 ; cthread t clk . pos { tick ; }")

abbrev pub one_tick_expanded : Tokens
one_tick_expanded =
    on 1 (codes "language 2 ; thread t sensitive clk . pos dont_initialize { var bool tick_again = true ; while tick_again { try {")
    ++ on 1 (codes "if true { var uint < 32 > tick_count = 1 ; while tick_count > 0 { wait ; tick_count = tick_count - 1 ; } }")
    ++ on 1 (codes "tick_again = false ; } catch tick_reset { } } }")

-- a token keeps its line; what is put in is on the line of the token before it, or of the form's first token; `language` 0x3 is 3
abbrev pub ticks_on_lines : Tokens
ticks_on_lines =
    on 1 (codes "language 0x3") ++ on 2 (codes "; cthread") ++ on 3 (codes "t clk") ++ on 4 (codes ". neg")
    ++ on 5 (codes "{ tick") ++ on 6 (codes "2") ++ on 7 (codes "; stop ;") ++ on 8 (codes "tick") ++ on 9 (codes ";") ++ on 10 (codes "}")

abbrev pub ticks_on_lines_expanded : Tokens
ticks_on_lines_expanded =
    on 1 (codes "language 2") ++ on 2 (codes "; thread") ++ on 3 (codes "t sensitive clk") ++ on 4 (codes ". neg dont_initialize")
    ++ on 5 (codes "{ var bool tick_again = true ; while tick_again { try { if true { var uint < 32 > tick_count =") ++ on 6 (codes "2")
    ++ on 7 (codes "; while tick_count > 0 { wait ; tick_count = tick_count - 1 ; } } stop ;") ++ on 8 (codes "if true { var uint < 32 > tick_count = 1")
    ++ on 9 (codes "; while tick_count > 0 { wait ; tick_count = tick_count - 1 ; } } tick_again = false ; } catch tick_reset { } }") ++ on 10 (codes "}")

-- ---- resets

abbrev pub at_an_edge : Tokens
at_an_edge = on 1 (codes "language 3 ; cthread t clk . pos sync_reset r true {") ++ on 2 (codes "tick 2 ;") ++ on 3 (codes "}")

abbrev pub at_an_edge_expanded : Tokens
at_an_edge_expanded =
    on 1 (codes "language 2 ; thread t sensitive clk . pos dont_initialize { var bool tick_again = true ; while tick_again { try {")
    ++ on 2 (codes "if true { var uint < 32 > tick_count = 2 ; while tick_count > 0 { wait ; if r == true { throw tick_reset ; }")
    ++ on 2 (codes "tick_count = tick_count - 1 ; } } tick_again = false ; } catch tick_reset { } }") ++ on 3 (codes "}")

-- the method stands behind the thread, on the line of its `}`
abbrev pub at_once : Tokens
at_once = on 1 (codes "language 3 ; cthread t clk . pos async_reset r false {") ++ on 2 (codes "}") ++ on 3 (codes "event e ;")

abbrev pub at_once_expanded : Tokens
at_once_expanded =
    on 1 (codes "language 2 ; thread t sensitive clk . pos dont_initialize { var bool tick_again = true ; while tick_again { try {")
    ++ on 1 (codes "tick_again = false ; } catch tick_reset { } }")
    ++ on 2 (codes "} method t_areset sensitive r dont_initialize { if r == false { reset t ; } }") ++ on 3 (codes "event e ;")

-- both are tested, in the order written
abbrev pub both : Tokens
both = on 1 (codes "language 3 ; cthread t clk . pos async_reset r true sync_reset q false { tick ; }")

abbrev pub both_expanded : Tokens
both_expanded =
    on 1 (codes "language 2 ; thread t sensitive clk . pos dont_initialize { var bool tick_again = true ; while tick_again { try {")
    ++ on 1 (codes "if true { var uint < 32 > tick_count = 1 ; while tick_count > 0 { wait ; if r == true { throw tick_reset ; }")
    ++ on 1 (codes "if q == false { throw tick_reset ; } tick_count = tick_count - 1 ; } } tick_again = false ; } catch tick_reset { } } }")
    ++ on 1 (codes "method t_areset sensitive r dont_initialize { if r == true { reset t ; } }")

-- ---- several threads, with places of ports and blocks in blocks

abbrev pub several : Tokens
several =
    on 1 (codes "language 3 ; module M { cthread t clk @ 1 . pos { while true { tick ; } }")
    ++ on 2 (codes "print \"tick\" ; cthread u clk @ ( ( 2 ) ) . neg { } } top M m ;")

abbrev pub several_expanded : Tokens
several_expanded =
    on 1 (codes "language 2 ; module M { thread t sensitive clk @ 1 . pos dont_initialize { var bool tick_again = true ; while tick_again { try {")
    ++ on 1 (codes "while true { if true { var uint < 32 > tick_count = 1 ; while tick_count > 0 { wait ; tick_count = tick_count - 1 ; } } }")
    ++ on 1 (codes "tick_again = false ; } catch tick_reset { } } }")
    ++ on 2 (codes "print \"tick\" ; thread u sensitive clk @ ( ( 2 ) ) . neg dont_initialize { var bool tick_again = true ; while tick_again { try {")
    ++ on 2 (codes "tick_again = false ; } catch tick_reset { } } } } top M m ;")

-- ---- what becomes nothing

abbrev pub no_edge : Tokens
no_edge = on 1 (codes "language 3 ; cthread t clk . pos { tick 0 ; }")

abbrev pub too_many_edges : Tokens
too_many_edges = on 1 (codes "language 3 ; cthread t clk . pos { tick 4294967296 ; }")

abbrev pub most_edges : Tokens
most_edges = on 1 (codes "language 3 ; cthread t clk . pos { tick 4294967295 ; }")

abbrev pub tick_in_a_thread : Tokens
tick_in_a_thread = on 1 (codes "language 3 ; thread t { tick ; }")

abbrev pub thread_in_a_thread : Tokens
thread_in_a_thread = on 1 (codes "language 3 ; cthread t clk . pos { cthread u clk . pos { } }")

abbrev pub new_word_as_a_name : Tokens
new_word_as_a_name = on 1 (codes "language 3 ; signal bool tick_count ;")

abbrev pub new_word_behind_a_dot : Tokens
new_word_behind_a_dot = on 1 (codes "language 3 ; cthread t clk . pos { x = y . tick . z ; }")

-- words that the text would use only in what is put in
abbrev pub a_word_that_is_put_in : Tokens
a_word_that_is_put_in = on 1 (codes "language 3 ; module M { thread t { tick_again = 1 ; } } top M m ;")

abbrev pub new_word_as_a_unit : Tokens
new_word_as_a_unit = on 1 (codes "language 3 ; thread t { wait for 1 tick ; }")

abbrev pub new_word_as_a_thread : Tokens
new_word_as_a_thread = on 1 (codes "language 3 ; cthread tick clk . pos { }")

abbrev pub new_word_as_a_channel : Tokens
new_word_as_a_channel = on 1 (codes "language 3 ; cthread t tick_count . pos { }")

abbrev pub new_word_in_a_place : Tokens
new_word_in_a_place = on 1 (codes "language 3 ; cthread t clk @ ( tick_count ) . pos { }")

abbrev pub new_word_as_a_reset : Tokens
new_word_as_a_reset = on 1 (codes "language 3 ; cthread t clk . pos sync_reset tick_reset true { }")

abbrev pub tick_in_a_function : Tokens
tick_in_a_function = on 1 (codes "language 3 ; func f ( ) { tick ; } cthread t clk . pos { call f ( ) ; }")

abbrev pub tick_without_its_end : Tokens
tick_without_its_end = on 1 (codes "language 3 ; cthread t clk . pos { tick 2 }")

abbrev pub tick_of_a_sum : Tokens
tick_of_a_sum = on 1 (codes "language 3 ; cthread t clk . pos { tick 1 + 1 ; }")

abbrev pub two_resets_at_once : Tokens
two_resets_at_once = on 1 (codes "language 3 ; cthread t clk . pos async_reset r true async_reset q true { }")

abbrev pub not_closed : Tokens
not_closed = on 1 (codes "language 3 ; cthread t clk . pos { { tick ; }")

abbrev pub resets_in_the_other_order : Tokens
resets_in_the_other_order = on 1 (codes "language 3 ; cthread t clk . pos sync_reset r true async_reset q true { }")

abbrev pub two_events : Tokens
two_events = on 1 (codes "language 3 ; cthread t clk @ ( 1 ) . pos , clk @ ( 2 ) . pos { }")

abbrev pub no_edge_of_a_clock : Tokens
no_edge_of_a_clock = on 1 (codes "language 3 ; cthread t clk . changed { }")

abbrev pub of_another_language : Tokens
of_another_language = on 1 (codes "language 2 ; cthread t clk . pos { }")

-- names of 57 and of 58 bytes
abbrev pub long_name : Tokens
long_name = on 1 (codes "language 3 ; cthread aaaaaaaaaabbbbbbbbbbccccccccccddddddddddeeeeeeeeeefffffff clk . pos async_reset r true { }")

abbrev pub too_long_name : Tokens
too_long_name = on 1 (codes "language 3 ; cthread aaaaaaaaaabbbbbbbbbbccccccccccddddddddddeeeeeeeeeeffffffff clk . pos async_reset r true { }")
