-- Whole models with one clocked thread, written by hand, and what they become.
use Rattle.std.specs.Prelude.{◌++◌, codes}
use Rattle.model_lexer.specs.Tokens.{Tokens}
use Rattle.worked_models.specs.Texts.{on}

-- a thread that is reset at an edge
abbrev pub at_an_edge : Tokens
at_an_edge =
    on 1 (codes "language 3 ; module M { clock clk period 10 ns high 5 ns ; signal bool r ; cthread t clk . pos sync_reset r true {")
    ++ on 1 (codes "print \"start\" ; tick 2 ; print \"two\" ; tick ; print \"three\" ; }")
    ++ on 1 (codes "thread k { wait for 15 ns ; write r true ; wait for 10 ns ; write r false ; } } top M m ;")

abbrev pub at_an_edge_expanded : Tokens
at_an_edge_expanded =
    on 1 (codes "language 2 ; module M { clock clk period 10 ns high 5 ns ; signal bool r ; thread t sensitive clk . pos dont_initialize {")
    ++ on 1 (codes "var bool tick_again = true ; while tick_again { try {")
    ++ on 1 (codes "print \"start\" ; if true { var uint < 32 > tick_count = 2 ; while tick_count > 0 { wait ; if r == true { throw tick_reset ; }")
    ++ on 1 (codes "tick_count = tick_count - 1 ; } } print \"two\" ; if true { var uint < 32 > tick_count = 1 ; while tick_count > 0 { wait ;")
    ++ on 1 (codes "if r == true { throw tick_reset ; } tick_count = tick_count - 1 ; } } print \"three\" ;")
    ++ on 1 (codes "tick_again = false ; } catch tick_reset { } } }")
    ++ on 1 (codes "thread k { wait for 15 ns ; write r true ; wait for 10 ns ; write r false ; } } top M m ;")

-- a thread that is reset at once, which a method does; its tick tests that reset too
abbrev pub at_once : Tokens
at_once =
    on 1 (codes "language 3 ; module M { clock clk period 10 ns high 5 ns ; signal bool r ;")
    ++ on 2 (codes "cthread t clk . pos async_reset r true {")
    ++ on 3 (codes "guard { print \"s\" ; tick 5 ; print \"never\" ; } unwind { print \"u\" ; }")
    ++ on 4 (codes "}")
    ++ on 5 (codes "thread k { wait for 22 ns ; write r true ; wait for 10 ns ; write r false ; } } top M m ;")

abbrev pub at_once_expanded : Tokens
at_once_expanded =
    on 1 (codes "language 2 ; module M { clock clk period 10 ns high 5 ns ; signal bool r ;")
    ++ on 2 (codes "thread t sensitive clk . pos dont_initialize { var bool tick_again = true ; while tick_again { try {")
    ++ on 3 (codes "guard { print \"s\" ; if true { var uint < 32 > tick_count = 5 ; while tick_count > 0 { wait ; if r == true { throw tick_reset ; }")
    ++ on 3 (codes "tick_count = tick_count - 1 ; } } print \"never\" ; } unwind { print \"u\" ; } tick_again = false ; } catch tick_reset { } }")
    ++ on 4 (codes "} method t_areset sensitive r dont_initialize { if r == true { reset t ; } }")
    ++ on 5 (codes "thread k { wait for 22 ns ; write r true ; wait for 10 ns ; write r false ; } } top M m ;")

-- a thread without resets, in which a function waits too; a tick without a number is one of 1
abbrev pub without : Tokens
without =
    on 1 (codes "language 3 ; module M { clock clk period 10 ns high 5 ns ; func f ( ) { wait for 1 ns ; }")
    ++ on 2 (codes "cthread t clk . neg { print \"a\" ; tick 3 ; call f ( ) ; while true { tick ; print \"b\" ; } }")
    ++ on 3 (codes "} top M m ;")

abbrev pub without_expanded : Tokens
without_expanded =
    on 1 (codes "language 2 ; module M { clock clk period 10 ns high 5 ns ; func f ( ) { wait for 1 ns ; }")
    ++ on 2 (codes "thread t sensitive clk . neg dont_initialize { var bool tick_again = true ; while tick_again { try {")
    ++ on 2 (codes "print \"a\" ; if true { var uint < 32 > tick_count = 3 ; while tick_count > 0 { wait ; tick_count = tick_count - 1 ; } }")
    ++ on 2 (codes "call f ( ) ; while true { if true { var uint < 32 > tick_count = 1 ; while tick_count > 0 { wait ; tick_count = tick_count - 1 ; } }")
    ++ on 2 (codes "print \"b\" ; } tick_again = false ; } catch tick_reset { } } }")
    ++ on 3 (codes "} top M m ;")
