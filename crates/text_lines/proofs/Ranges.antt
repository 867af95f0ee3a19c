-- What is read lies in its range.
use Rattle.std.proofs.Common.{◌≡◌, ℕ, ◌+◌, ◌*◌, ◌%◌, ◌≤◌, Bool, true, false, ◌&&◌, ◌==◌, List, [], ◌∷◌, Option, Some, None, refl, arith, length, IfSome}
use Rattle.std.specs.Prelude.{nat_le, if◌then◌else◌, option_map, option_and_then, bytes_eq, codes}
use Rattle.std.specs.List.{list_all}
use Rattle.std.proofs.lemmas.Bool.{leb-true, and_parts}
use Rattle.model_lexer.specs.Forms.{is_hex_digit}
use Rattle.text_lines.specs.Lines.{number_read}
use Rattle.text_lines.specs.declared.actions.BusAction.{BusAction}
use Rattle.text_lines.specs.declared.actions.BusAction.TheVariants as action
use Rattle.text_lines.specs.Words.{in_range, number_between, length_read, is_hex_text, bytes_written, hex_read, action_read, length_of}

abbrev pub IsShort : BusAction → Type 0
IsShort does = (1 ≤ length_of does) × (length_of does ≤ 4096)

range_test : (low high n : ℕ) (b : Bool) → (nat_le low n && nat_le n high) ≡ b → IfSome (if b then Some n else None) (λ m. (low ≤ m) × (m ≤ high))
range_test low high n false is = tt
range_test low high n true is =
    let both = and_parts (nat_le low n) (nat_le n high) is in
    (leb-true low n both.0, leb-true n high both.1)

some_between : (low high : ℕ) (o : Option ℕ) → IfSome (option_and_then (in_range low high) o) (λ m. (low ≤ m) × (m ≤ high))
some_between low high None = tt
some_between low high (Some n) = range_test low high n (nat_le low n && nat_le n high) refl

pub between : (low high : ℕ) (bytes : List ℕ) → IfSome (number_between low high bytes) (λ m. (low ≤ m) × (m ≤ high))
between low high bytes = some_between low high (number_read bytes)

-- two digits write a byte
written_length : (digits : List ℕ) → (length (bytes_written digits) * 2 ≤ length digits) × (length digits ≤ length (bytes_written digits) * 2 + 1)
written_length [] = (omega arith, omega arith)
written_length (high ∷ []) = (omega arith, omega arith)
written_length (high ∷ low ∷ more) = let rest = written_length more in (omega (arith, rest.0), omega (arith, rest.1))

hex_test : (digits : List ℕ) (b : Bool) → is_hex_text digits ≡ b → IfSome (if b then Some (bytes_written digits) else None) (λ bytes. IsShort (action.Put bytes))
hex_test digits false is = tt
hex_test digits true is =
    let long = and_parts ((nat_le 2 (length digits) && nat_le (length digits) 8192) && ((length digits % 2) == 0)) (list_all is_hex_digit digits) is in
    let even = and_parts (nat_le 2 (length digits) && nat_le (length digits) 8192) ((length digits % 2) == 0) long.0 in
    let ends = and_parts (nat_le 2 (length digits)) (nat_le (length digits) 8192) even.0 in
    let least : 2 ≤ length digits = leb-true 2 (length digits) ends.0 in
    let most : length digits ≤ 8192 = leb-true (length digits) 8192 ends.1 in
    let written = written_length digits in
    (omega (arith, least, written.1), omega (arith, most, written.0))

mapped : {A B : Type 0} (P : B → Type 0) (f : A → B) (o : Option A) → IfSome o (λ a. P (f a)) → IfSome (option_map f o) P
mapped P f None h = tt
mapped P f (Some a) h = h

write_test : (what : List ℕ) (b : Bool) → IfSome (if b then option_map (λ bytes. action.Put bytes) (hex_read what) else None) IsShort
write_test what false = tt
write_test what true = mapped IsShort (λ bytes. action.Put bytes) (hex_read what) (hex_test what (is_hex_text what) refl)

read_test : (word what : List ℕ) (b : Bool)
    → IfSome (if b then option_map (λ len. action.Get len) (length_read what) else (if bytes_eq word (codes "write") then option_map (λ bytes. action.Put bytes) (hex_read what) else None)) IsShort
read_test word what true = mapped IsShort (λ len. action.Get len) (length_read what) (between 1 4096 what)
read_test word what false = write_test what (bytes_eq word (codes "write"))

pub is_short : (word what : List ℕ) → IfSome (action_read word what) IsShort
is_short word what = read_test word what (bytes_eq word (codes "read"))
