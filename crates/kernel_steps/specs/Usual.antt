-- Which statements are usual: all others are carried out apart.
use Rattle.std.specs.Prelude.{Bool, true, false}
use Rattle.flat_design.specs.Code as code
use Rattle.flat_design.specs.Code.{Statement}

-- the statements of data and of events that bodies are mostly made of, a choice and a loop
abbrev pub is_usual : Statement → Bool
is_usual (code.var n t e) = true
is_usual (code.assign d e) = true
is_usual (code.write ch t e) = true
is_usual (code.print text e) = true
is_usual (code.notify n) = true
is_usual (code.notify_delta n) = true
is_usual (code.notify_after n e) = true
is_usual (code.wait w) = true
is_usual (code.next_trigger w) = true
is_usual (code.if_ e b other) = true
is_usual (code.while_ e b) = true
is_usual s = false
