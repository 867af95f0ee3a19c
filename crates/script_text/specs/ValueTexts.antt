-- The values that bytes spell, for each type of a signal.
use Rattle.std.specs.Prelude.{ℕ, ◌-◌, ◌^◌, ◌==◌, ◌&&◌, Bool, true, false, nat_lt, nat_le, if◌then◌else◌, List, [], ◌∷◌, length, bytes_eq, codes, Option, Some, None, option_map, option_and_then}
use Rattle.std.specs.List.{list_all}
use Rattle.sim_model.specs.LogicValues.declared.kinds.Digit.{Digit}
use Rattle.sim_model.specs.LogicValues.declared.kinds.Value.{Value}
use Rattle.sim_model.specs.LogicValues.declared.kinds.Value.TheVariants as value
use Rattle.sim_model.specs.LogicValues.Planes.{lv_of}
use Rattle.sim_model.specs.FlatDesign.declared.value_types.ValueType.{ValueType}
use Rattle.sim_model.specs.FlatDesign.declared.value_types.ValueType.TheVariants as type
use Rattle.text_lines.specs.ModelLexer.Forms.{is_logic_byte}
use Rattle.text_lines.specs.ModelLexer.Meanings.{logic_digit, logic_within}
use Rattle.text_lines.specs.Lines.{decimal_read}

-- widths are from 1 to 64
abbrev pub is_width : ℕ → Bool
is_width w = nat_lt 0 w && nat_le w 64

-- a truth value is spelled `0` or `1`
abbrev pub truth_read : List ℕ → Option Value
truth_read text = if bytes_eq text (codes "0") then Some (value.Bool false) else (if bytes_eq text (codes "1") then Some (value.Bool true) else None)

-- a number from 0 up, in the range of w bits in two's complement
abbrev pub int_from_zero : ℕ → ℕ → Option Value
int_from_zero w n = if nat_lt n (2 ^ (w - 1)) then Some (value.Int w n) else None

-- a number n below 0, in that range: there is one more of these
abbrev pub int_below_zero : ℕ → ℕ → Option Value
int_below_zero w n = if nat_lt 0 n && nat_le n (2 ^ (w - 1)) then Some (value.Int w (2 ^ 64 - n)) else None

-- a signed number is spelled in decimal, with `-` before it where it is negative
abbrev pub int_read : ℕ → List ℕ → Option Value
int_read w [] = None
int_read w (b ∷ bs) = if b == 45 then option_and_then (int_below_zero w) (decimal_read bs) else option_and_then (int_from_zero w) (decimal_read (b ∷ bs))

-- an unsigned number of w bits is spelled in decimal
abbrev pub uint_within : ℕ → ℕ → Option Value
uint_within w n = if nat_lt n (2 ^ w) then Some (value.Uint w n) else None

abbrev pub uint_read : ℕ → List ℕ → Option Value
uint_read w text = option_and_then (uint_within w) (decimal_read text)

-- one digit
abbrev pub logic_read : List ℕ → Option Value
logic_read [] = None
logic_read (b ∷ []) = if is_logic_byte b then Some (value.Logic (logic_digit b)) else None
logic_read (b ∷ c ∷ bs) = None

-- as many digits as the vector has, the highest first
abbrev pub vector_of : List Digit → Value
vector_of digits = value.Vector (lv_of digits)

abbrev pub vector_read : ℕ → List ℕ → Option Value
vector_read w text = if list_all is_logic_byte text && (length text == w) then option_map vector_of (logic_within text) else None

-- the value that bytes spell for a type; nothing spells a time or a handle, which no signal has
abbrev pub value_read : ValueType → List ℕ → Option Value
value_read type.Bool text = truth_read text
value_read (type.Int w) text = if is_width w then int_read w text else None
value_read (type.Uint w) text = if is_width w then uint_read w text else None
value_read type.Logic text = logic_read text
value_read (type.Vector w) text = vector_read w text
value_read type.Time text = None
value_read type.Process text = None
value_read type.Payload text = None
