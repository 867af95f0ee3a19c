-- What a line of a traffic file says, by its words.
use Rattle.std.specs.Prelude.{ℕ, true, false, nat_le, if◌then◌else◌, List, [], ◌∷◌, bytes_eq, codes, Option, Some, None}
use Rattle.text_lines.specs.Lines.{words, is_comment, number_read}
use Rattle.text_lines.specs.Words.{name_read, delay_read, time_read, size_read, action_read}
use Rattle.text_lines.specs.declared.forms.LineForm.{LineForm}
use Rattle.text_lines.specs.declared.forms.LineForm.TheVariants as line

-- a form with something that was read, where it was
abbrev pub form_with : {T : Type 0} → Option T → (T → LineForm) → LineForm
form_with None form = line.Unreadable
form_with (Some what) form = form what

-- `delay D`
abbrev pub delay_form : List (List ℕ) → LineForm
delay_form [] = line.Unreadable
delay_form (delay ∷ []) = form_with (delay_read delay) (λ d. line.Delay d)
delay_form (delay ∷ next ∷ more) = line.Unreadable

-- `initiator NAME`, or `initiator NAME dmi`
abbrev pub initiator_form : List (List ℕ) → LineForm
initiator_form [] = line.Unreadable
initiator_form (name ∷ []) = form_with (name_read name) (λ n. line.Initiator n false)
initiator_form (name ∷ mark ∷ []) = if bytes_eq mark (codes "dmi") then form_with (name_read name) (λ n. line.Initiator n true) else line.Unreadable
initiator_form (name ∷ mark ∷ next ∷ more) = line.Unreadable

-- `invalidate TIME LOW HIGH`
abbrev pub invalidate_if : ℕ → ℕ → ℕ → LineForm
invalidate_if t l h = if nat_le l h then line.Invalidate t l h else line.Unreadable

abbrev pub invalidate_form : List (List ℕ) → LineForm
invalidate_form [] = line.Unreadable
invalidate_form (time ∷ []) = line.Unreadable
invalidate_form (time ∷ low ∷ []) = line.Unreadable
invalidate_form (time ∷ low ∷ high ∷ []) =
    form_with (time_read time) (λ t. form_with (number_read low) (λ l. form_with (number_read high) (λ h. invalidate_if t l h)))
invalidate_form (time ∷ low ∷ high ∷ next ∷ more) = line.Unreadable

-- `target NAME LOW SIZE LATENCY`
abbrev pub target_form : List (List ℕ) → LineForm
target_form [] = line.Unreadable
target_form (name ∷ []) = line.Unreadable
target_form (name ∷ low ∷ []) = line.Unreadable
target_form (name ∷ low ∷ size ∷ []) = line.Unreadable
target_form (name ∷ low ∷ size ∷ latency ∷ []) =
    form_with (name_read name) (λ n. form_with (number_read low) (λ l. form_with (size_read size) (λ s. form_with (time_read latency) (λ t. line.Target n l s t))))
target_form (name ∷ low ∷ size ∷ latency ∷ next ∷ more) = line.Unreadable

-- `at TIME INITIATOR read ADDRESS LENGTH`, or `at TIME INITIATOR write ADDRESS HEX`
abbrev pub access_form : List (List ℕ) → LineForm
access_form [] = line.Unreadable
access_form (time ∷ []) = line.Unreadable
access_form (time ∷ name ∷ []) = line.Unreadable
access_form (time ∷ name ∷ word ∷ []) = line.Unreadable
access_form (time ∷ name ∷ word ∷ address ∷ []) = line.Unreadable
access_form (time ∷ name ∷ word ∷ address ∷ what ∷ []) =
    form_with (time_read time) (λ t. form_with (name_read name) (λ n. form_with (number_read address) (λ a. form_with (action_read word what) (λ does. line.Access t n a does))))
access_form (time ∷ name ∷ word ∷ address ∷ what ∷ next ∷ more) = line.Unreadable

-- what a word says with those behind it
abbrev pub form_of : List ℕ → List (List ℕ) → LineForm
form_of word rest =
    if bytes_eq word (codes "delay") then delay_form rest else (
    if bytes_eq word (codes "target") then target_form rest else (
    if bytes_eq word (codes "initiator") then initiator_form rest else (
    if bytes_eq word (codes "at") then access_form rest else (
    if bytes_eq word (codes "invalidate") then invalidate_form rest else line.Unreadable))))

abbrev pub words_form : List (List ℕ) → LineForm
words_form [] = line.Blank
words_form (word ∷ rest) = form_of word rest

-- what a line says
abbrev pub line_form : List ℕ → LineForm
line_form bytes = if is_comment bytes then line.Blank else words_form (words bytes)
