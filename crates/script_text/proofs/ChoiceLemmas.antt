-- A list of choices, read line by line.
use Rattle.std.proofs.Common.{◌≡◌, ◌≢◌, ℕ, suc, ◌<◌, ◌==◌, List, [], ◌∷◌, ◌++◌, length, Option, Some, None, Result, Ok, Err, refl, sym, ap, ◌∙◌, arith, append_assoc}
use Rattle.std.specs.Prelude.{map, IsNone, OnOk}
use Rattle.std.specs.List.{slice_split}
use Rattle.std.specs.Option.{option_map_or}
use Rattle.std.specs.Borrow.{Bor}
use Rattle.std.specs.Str.Lines.{strip_carriage_return}
use Rattle.std.proofs.lemmas.List.Splits.{length-slice_split}
use Rattle.text_lines.specs.Lines.{line_number}
use Rattle.script_text.specs.ChoiceList.{end_line, without_empty_end, list_lines, serial_read, serial_in_front, serials_from}
use Rattle.script_text.specs.ChoiceProgress.{list_lines_left, behind_serials, SerialGoesOn}

-- what was cut off is a line of its own
some_parts : (bytes : List ℕ) → slice_split (λ b. b == 10) bytes ≢ []
some_parts bytes none = absurd (omega (arith, ap length none, length-slice_split (λ b. b == 10) bytes))

end_in_front : (line : List ℕ) (parts : List (List ℕ)) → parts ≢ [] → without_empty_end (line ∷ parts) ≡ line ∷ without_empty_end parts
end_in_front line [] some = absurd (some refl)
end_in_front line (next ∷ more) some = refl

last_line : (line : List ℕ) → 0 < length line → end_line line ≡ line ∷ []
last_line [] some = absurd (omega (arith, some))
last_line (b ∷ bs) some = refl

pub cut_line : (bytes line : List ℕ) (behind : Option (Bor (List ℕ))) → 0 < length bytes → (IsNone behind → line ≡ bytes) → slice_split (λ b. b == 10) bytes ≡ line ∷ option_map_or (λ rest. slice_split (λ b. b == 10) rest.now) behind [] → list_lines bytes ≡ strip_carriage_return line ∷ list_lines_left behind
cut_line bytes line None some whole split =
    ap (λ (parts : List (List ℕ)). map strip_carriage_return (without_empty_end parts)) split
    ∙ ap (map strip_carriage_return) (last_line line (omega (arith, some, ap length (whole refl))))
cut_line bytes line (Some rest) some whole split =
    ap (λ (parts : List (List ℕ)). map strip_carriage_return (without_empty_end parts)) split
    ∙ ap (map strip_carriage_return) (end_in_front line (slice_split (λ b. b == 10) rest.now) (some_parts rest.now))

-- a serial joins those before it, and a line that is none stops
serial_joins : (list : List ℕ) (n s : ℕ) (later : Result (List ℕ) ℕ) → behind_serials list (serial_in_front n (Some s) later) ≡ behind_serials (list ++ s ∷ []) later
serial_joins list n s (Ok more) = ap (λ (all : List ℕ). Ok all) (sym (append_assoc list (s ∷ []) more))
serial_joins list n s (Err line) = refl

pub goes_on : (list : List ℕ) (n s : ℕ) (line : List ℕ) (lines : List (List ℕ)) → serial_read line ≡ Some s → behind_serials list (serials_from n (line ∷ lines)) ≡ behind_serials (list ++ s ∷ []) (serials_from (suc n) lines)
goes_on list n s line lines read =
    ap (λ (o : Option ℕ). behind_serials list (serial_in_front n o (serials_from (suc n) lines))) read
    ∙ serial_joins list n s (serials_from (suc n) lines)

pub stops : (list : List ℕ) (n : ℕ) (line : List ℕ) (lines : List (List ℕ)) → serial_read line ≡ None → behind_serials list (serials_from n (line ∷ lines)) ≡ Err (line_number n)
stops list n line lines read = ap (λ (o : Option ℕ). behind_serials list (serial_in_front n o (serials_from (suc n) lines))) read

pub joins : (list : List ℕ) (n s : ℕ) (line more : List ℕ) → serial_read line ≡ Some s → more ≡ list ++ s ∷ [] → SerialGoesOn list n line more
joins list n s line more read same lines =
    goes_on list n s line lines read ∙ ap (λ (all : List ℕ). behind_serials all (serials_from (suc n) lines)) (sym same)

-- what holds after an answer that is Ok
pub on_ok : {T E : Type 0} (r : Result T E) (P Q : Type 0) → (P → Q) → OnOk r P → OnOk r Q
on_ok (Ok value) P Q f h = f h
on_ok (Err e) P Q f h = tt
