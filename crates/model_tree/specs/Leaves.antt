-- The forms of the leaves of a tree.
use Rattle.std.specs.Prelude.{ℕ, Bool, false, ◌&&◌, ◌||◌, ◌==◌, not, nat_le, is_none, List, [], ◌∷◌, length}
use Rattle.std.specs.List.{list_all}
use Rattle.model_tree.specs.Vocabulary.{word_of}

-- a letter or `_`
abbrev pub is_letter : ℕ → Bool
is_letter b = ((nat_le 65 b && nat_le b 90) || (nat_le 97 b && nat_le b 122)) || (b == 95)

-- a letter, a digit or `_`
abbrev pub is_word_byte : ℕ → Bool
is_word_byte b = is_letter b || (nat_le 48 b && nat_le b 57)

-- a letter or `_`, then letters, digits and `_`
abbrev pub is_word : List ℕ → Bool
is_word [] = false
is_word (first ∷ rest) = is_letter first && list_all is_word_byte rest

-- a word of at most 64 bytes that is not reserved
abbrev pub is_name : List ℕ → Bool
is_name bytes = (is_word bytes && nat_le (length bytes) 64) && is_none (word_of bytes)

-- a byte that may stand between double quotes
abbrev pub is_print_byte : ℕ → Bool
is_print_byte b = (nat_le 32 b && nat_le b 126) && not (b == 34)

-- at most 120 such bytes
abbrev pub is_print_text : List ℕ → Bool
is_print_text bytes = list_all is_print_byte bytes && nat_le (length bytes) 120
