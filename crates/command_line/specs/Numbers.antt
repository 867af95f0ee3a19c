-- Numbers in words.
use Rattle.std.specs.Prelude.{ℕ, ◌&&◌, Bool, length, Option, Some, None, if◌then◌else◌, nat_le, nat_lt}
use Rattle.std.specs.Str.{all_ascii_digits}
use Rattle.std.specs.Str.Parse.{digits_value}
use Rattle.clap.specs.Words.{Text}

-- the most steps that a run may be given, and how many it is given where the words say nothing of them
abbrev pub budget_limit : ℕ
budget_limit = 67108864

abbrev pub default_budget : ℕ
default_budget = 10000000

-- the greatest size of a generated model
abbrev pub size_limit : ℕ
size_limit = 1000

-- decimal digits, at least one, and nothing else
abbrev pub is_decimal : Text → Bool
is_decimal text = nat_lt 0 (length text) && all_ascii_digits text

abbrev pub between : ℕ → ℕ → ℕ → Option ℕ
between least most n = if nat_le least n && nat_le n most then Some n else None

-- the number that the text writes, if it is one from `least` to `most`
abbrev pub number_in : ℕ → ℕ → Text → Option ℕ
number_in least most text = if is_decimal text then between least most (digits_value 10 text) else None

-- the same of a value that may be left out
abbrev pub number_or : ℕ → ℕ → ℕ → Option Text → Option ℕ
number_or missing least most None = Some missing
number_or missing least most (Some text) = number_in least most text
