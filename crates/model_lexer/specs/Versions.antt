-- Which tokens a text of a version of the language may have, once they are as its language has them.
use Rattle.std.specs.Prelude.{Bool, true, not, ◌||◌, if◌then◌else◌}
use denote.Enum.Bare.{sameb}
use Rattle.model_tree.specs.SimTime.declared.moments.Unit.TheVariants as unit
use Rattle.model_tree.specs.contracts.vocabulary.Word.{the_type as the_word}
use Rattle.model_tree.specs.declared.vocabulary.Word.{Word}
use Rattle.model_tree.specs.declared.vocabulary.Word.TheVariants as w
use Rattle.model_tree.specs.declared.items.Head.{Head}
use Rattle.model_tree.specs.Languages.{may_have, named, in_unit, descending}
use Rattle.model_lexer.specs.Tokens.{Token, name, number, logic, quoted, word, symbol}

abbrev pub may_word : Head → Word → Bool
may_word h u = if sameb the_word u w.Fs then may_have h (in_unit unit.Fs) else (if sameb the_word u w.Descendants then may_have h descending else true)

-- whether a token may stand in a text with this head
abbrev pub may_token : Head → Token → Bool
may_token h (name x) = may_have h (named x)
may_token h (number n) = true
may_token h (logic ds) = true
may_token h (quoted x) = true
may_token h (word u) = may_word h u
may_token h (symbol u) = true

-- whether a word is one that language 2 has besides
abbrev pub is_later_word : Word → Bool
is_later_word u = (sameb the_word u w.Language || sameb the_word u w.Resolution) || (sameb the_word u w.Descendants || sameb the_word u w.Fs)

-- a token as every text is cut into: it is no word that language 2 has besides
abbrev pub is_plain : Token → Bool
is_plain (name x) = true
is_plain (number n) = true
is_plain (logic ds) = true
is_plain (quoted x) = true
is_plain (word u) = not (is_later_word u)
is_plain (symbol u) = true
