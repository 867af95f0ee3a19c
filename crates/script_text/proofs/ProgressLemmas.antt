-- What the lines behind a line can say: no command and no fault with a smaller number.
use Rattle.std.proofs.Common.{◌≡◌, ℕ, zero, suc, ◌+◌, ◌-◌, ◌≤◌, List, [], ◌∷◌, ◌++◌, length, Option, Some, None, Result, Ok, Err, refl, ap, arith, slice_get, IfSome, IfErr}
use Rattle.std.proofs.lemmas.Option.{slice_get_past}
use Rattle.std.proofs.lemmas.Grind.{common_steps}
use Rattle.text_lines.specs.ModelTree.declared.faults.ParseStop.{ParseStop}
use Rattle.text_lines.specs.ModelTree.declared.faults.ParseStop.TheVariants as parse
use Rattle.text_lines.specs.ModelTree.Stops.{IfSyntax}
use Rattle.text_lines.specs.Lines.{line_number}
use Rattle.script_text.specs.declared.forms.CommandForm.{CommandForm}
use Rattle.script_text.specs.declared.forms.LineForm.{LineForm}
use Rattle.script_text.specs.declared.forms.LineForm.TheVariants as line
use Rattle.script_text.specs.declared.forms.TextCommand.{TextCommand}
use Rattle.script_text.specs.ScriptText.{line_form, with_command, commands_from, unreadable_at, unreadable_from, line_of_command, earlier, unless}
use Rattle.script_text.specs.Progress.{reads_on}

behind : (xs ys : List TextCommand) (k j : ℕ) → length xs + j ≡ k → slice_get (xs ++ ys) k ≡ slice_get ys j
behind [] ys k j e = ap (slice_get ys) (omega arith)
behind (x ∷ xs) ys zero j e = absurd (omega arith)
behind (x ∷ xs) ys (suc k) j e = behind xs ys k j (omega arith)

-- where a line is said, it is not before this one
abbrev NotBefore : ℕ → Option ℕ → Type 0
NotBefore n o = IfSome o (λ b. line_number n ≤ b)

NotBefore-suc : (n : ℕ) (o : Option ℕ) → NotBefore (suc n) o → NotBefore n o
NotBefore-suc n None h = tt
NotBefore-suc n (Some b) h = omega arith

earlier_first : (n : ℕ) (o : Option ℕ) → NotBefore n o → earlier (Some (line_number n)) o ≡ Some (line_number n)
earlier_first n None h = refl
earlier_first n (Some b) h = ap (λ m. Some m) (omega arith)

earlier_second : (n : ℕ) (o : Option ℕ) → NotBefore n o → earlier o (Some (line_number n)) ≡ Some (line_number n)
earlier_second n None h = refl
earlier_second n (Some b) h = ap (λ m. Some m) (omega arith)

NotBefore-command : (n k : ℕ) (f : LineForm) (cs : List TextCommand) → ((j : ℕ) → NotBefore n (line_of_command j cs)) → NotBefore n (line_of_command k (with_command n f cs))
NotBefore-command n zero (line.Command f) cs h = omega arith
NotBefore-command n (suc k) (line.Command f) cs h = h k
NotBefore-command n k line.Blank cs h = h k
NotBefore-command n k line.Unreadable cs h = h k

later_command : (n k : ℕ) (ls : List (List ℕ)) → NotBefore n (line_of_command k (commands_from n ls))
later_command n k [] = tt
later_command n k (l ∷ ls) =
    NotBefore-command n k (line_form l) (commands_from (suc n) ls) (λ j. NotBefore-suc n (line_of_command j (commands_from (suc n) ls)) (later_command (suc n) j ls))

NotBefore-unreadable : (n : ℕ) (f : LineForm) (o : Option ℕ) → NotBefore n o → NotBefore n (unreadable_at n f o)
NotBefore-unreadable n (line.Command f) o h = h
NotBefore-unreadable n line.Blank o h = h
NotBefore-unreadable n line.Unreadable o h = omega arith

later_unreadable : (n : ℕ) (ls : List (List ℕ)) → NotBefore n (unreadable_from n ls)
later_unreadable n [] = tt
later_unreadable n (l ∷ ls) =
    NotBefore-unreadable n (line_form l) (unreadable_from (suc n) ls) (NotBefore-suc n (unreadable_from (suc n) ls) (later_unreadable (suc n) ls))

refused : (o : Option ℕ) (n : ℕ) (cs : List TextCommand) → o ≡ Some n → unless o cs ≡ Err n
refused o n cs e = ap (λ p. unless p cs) e

-- a line with none of the forms is the first one at fault, unless there were too many commands before
pub stops_unreadable : (list : List TextCommand) (n : ℕ) (l : List ℕ) → length list ≤ 4096 → line_form l ≡ line.Unreadable → (ls : List (List ℕ)) → reads_on list n (l ∷ ls) ≡ Err (line_number n)
stops_unreadable list n l within e ls =
    rw e
    (refused _ (line_number n) _
    (earlier_first n (line_of_command 4096 (list ++ commands_from (suc n) ls))
    (rw (behind list (commands_from (suc n) ls) 4096 (4096 - length list) (omega arith))
    (NotBefore-suc n (line_of_command (4096 - length list) (commands_from (suc n) ls)) (later_command (suc n) (4096 - length list) ls)))))

-- and so is one with a command behind as many as there may be
pub stops_full : (list : List TextCommand) (n : ℕ) (l : List ℕ) (f : CommandForm) → length list ≡ 4096 → line_form l ≡ line.Command f → (ls : List (List ℕ)) → reads_on list n (l ∷ ls) ≡ Err (line_number n)
stops_full list n l f full e ls =
    rw e
    (rw (behind list ((record { line = line_number n; form = f }) ∷ commands_from (suc n) ls) 4096 0 (omega arith))
    (refused _ (line_number n) _
    (earlier_second n (unreadable_from (suc n) ls) (NotBefore-suc n (unreadable_from (suc n) ls) (later_unreadable (suc n) ls)))))

-- where no line is left, the commands are those before
pub reads_whole : (list : List TextCommand) (n : ℕ) → length list ≤ 4096 → reads_on list n [] ≡ Ok list
reads_whole list n within =
    let e : list ++ [] ≡ list = grind (arith, common_steps) in rw e (rw (slice_get_past list 4096 within) refl)

-- where no syntax fault came, anything may be said of its line
pub IfSyntax-map : {T : Type 0} (r : Result T ParseStop) (P Q : ℕ → Type 0) → ((n : ℕ) → P n → Q n) → IfErr r (λ stop. IfSyntax stop P) → IfErr r (λ stop. IfSyntax stop Q)
IfSyntax-map (Ok x) P Q f h = tt
IfSyntax-map (Err (parse.Syntax n)) P Q f h = f n h
IfSyntax-map (Err parse.NoMemory) P Q f h = tt
