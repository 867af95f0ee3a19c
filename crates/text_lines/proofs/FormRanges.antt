-- What a line says has its numbers in their ranges.
use Rattle.std.proofs.Common.{ℕ, ◌-◌, ◌^◌, ◌<◌, ◌≤◌, Bool, true, false, List, [], ◌∷◌, Option, Some, None, arith, IfSome}
use Rattle.std.specs.Prelude.{nat_le, if◌then◌else◌, bytes_eq, codes, ⊤}
use Rattle.text_lines.specs.Lines.{words, is_comment, number_read}
use Rattle.text_lines.specs.Words.{name_read, delay_read, time_read, size_read, action_read, length_of}
use Rattle.text_lines.proofs.Ranges.{IsShort, between, is_short}
use Rattle.text_lines.specs.declared.forms.LineForm.{LineForm}
use Rattle.text_lines.specs.declared.forms.LineForm.TheVariants as line
use Rattle.text_lines.specs.LineForms.{form_with, delay_form, initiator_form, invalidate_if, invalidate_form, target_form, access_form, form_of, words_form, line_form}

-- the numbers of a form are in their ranges
abbrev pub IsInRanges : LineForm → Type 0
IsInRanges line.Blank = ⊤
IsInRanges line.Unreadable = ⊤
IsInRanges (line.Delay delay) = (1 ≤ delay) × (delay < 2 ^ 40)
IsInRanges (line.Target name low size latency) = latency < 2 ^ 40
IsInRanges (line.Initiator name dmi) = ⊤
IsInRanges (line.Access time name address does) = (time < 2 ^ 40) × ((1 ≤ length_of does) × (length_of does ≤ 4096))
IsInRanges (line.Invalidate time low high) = ⊤

-- ---- forms

with_one : {T : Type 0} (o : Option T) (form : T → LineForm) → IfSome o (λ x. IsInRanges (form x)) → IsInRanges (form_with o form)
with_one None form h = tt
with_one (Some x) form h = h

with_any : {T : Type 0} (o : Option T) (form : T → LineForm) → ((x : T) → IsInRanges (form x)) → IsInRanges (form_with o form)
with_any None form h = tt
with_any (Some x) form h = h x

some_map : {T : Type 0} (P Q : T → Type 0) (o : Option T) → ((x : T) → P x → Q x) → IfSome o P → IfSome o Q
some_map P Q None f h = tt
some_map P Q (Some x) f h = f x h

by_test : (b : Bool) (x y : LineForm) → IsInRanges x → IsInRanges y → IsInRanges (if b then x else y)
by_test true x y h k = h
by_test false x y h k = k

delay_in : (ws : List (List ℕ)) → IsInRanges (delay_form ws)
delay_in [] = tt
delay_in (delay ∷ []) =
    with_one (delay_read delay) (λ d. line.Delay d)
    (some_map (λ d. (1 ≤ d) × (d ≤ 2 ^ 40 - 1)) (λ d. (1 ≤ d) × (d < 2 ^ 40)) (delay_read delay) (λ d h. (h.0, omega (arith, h.1))) (between 1 (2 ^ 40 - 1) delay))
delay_in (delay ∷ next ∷ more) = tt

initiator_in : (ws : List (List ℕ)) → IsInRanges (initiator_form ws)
initiator_in [] = tt
initiator_in (name ∷ []) = with_any (name_read name) (λ n. line.Initiator n false) (λ n. tt)
initiator_in (name ∷ mark ∷ []) =
    by_test (bytes_eq mark (codes "dmi")) (form_with (name_read name) (λ n. line.Initiator n true)) line.Unreadable
    (with_any (name_read name) (λ n. line.Initiator n true) (λ n. tt)) tt
initiator_in (name ∷ mark ∷ next ∷ more) = tt

invalidate_in : (ws : List (List ℕ)) → IsInRanges (invalidate_form ws)
invalidate_in [] = tt
invalidate_in (time ∷ []) = tt
invalidate_in (time ∷ low ∷ []) = tt
invalidate_in (time ∷ low ∷ high ∷ []) =
    with_any (time_read time) (λ t. form_with (number_read low) (λ l. form_with (number_read high) (λ h. invalidate_if t l h)))
    (λ t. with_any (number_read low) (λ l. form_with (number_read high) (λ h. invalidate_if t l h))
    (λ l. with_any (number_read high) (λ h. invalidate_if t l h) (λ h. by_test (nat_le l h) (line.Invalidate t l h) line.Unreadable tt tt)))
invalidate_in (time ∷ low ∷ high ∷ next ∷ more) = tt

target_in : (ws : List (List ℕ)) → IsInRanges (target_form ws)
target_in [] = tt
target_in (name ∷ []) = tt
target_in (name ∷ low ∷ []) = tt
target_in (name ∷ low ∷ size ∷ []) = tt
target_in (name ∷ low ∷ size ∷ latency ∷ []) =
    with_any (name_read name) (λ n. form_with (number_read low) (λ l. form_with (size_read size) (λ s. form_with (time_read latency) (λ t. line.Target n l s t))))
    (λ n. with_any (number_read low) (λ l. form_with (size_read size) (λ s. form_with (time_read latency) (λ t. line.Target n l s t)))
    (λ l. with_any (size_read size) (λ s. form_with (time_read latency) (λ t. line.Target n l s t))
    (λ s. with_one (time_read latency) (λ t. line.Target n l s t)
    (some_map (λ t. (0 ≤ t) × (t ≤ 2 ^ 40 - 1)) (λ t. t < 2 ^ 40) (time_read latency) (λ t h. omega (arith, h.1)) (between 0 (2 ^ 40 - 1) latency)))))
target_in (name ∷ low ∷ size ∷ latency ∷ next ∷ more) = tt

access_in : (ws : List (List ℕ)) → IsInRanges (access_form ws)
access_in [] = tt
access_in (time ∷ []) = tt
access_in (time ∷ name ∷ []) = tt
access_in (time ∷ name ∷ word ∷ []) = tt
access_in (time ∷ name ∷ word ∷ address ∷ []) = tt
access_in (time ∷ name ∷ word ∷ address ∷ what ∷ []) =
    with_one (time_read time) (λ t. form_with (name_read name) (λ n. form_with (number_read address) (λ a. form_with (action_read word what) (λ does. line.Access t n a does))))
    (some_map (λ t. (0 ≤ t) × (t ≤ 2 ^ 40 - 1)) (λ t. IsInRanges (form_with (name_read name) (λ n. form_with (number_read address) (λ a. form_with (action_read word what) (λ does. line.Access t n a does))))) (time_read time)
    (λ t h. with_any (name_read name) (λ n. form_with (number_read address) (λ a. form_with (action_read word what) (λ does. line.Access t n a does)))
    (λ n. with_any (number_read address) (λ a. form_with (action_read word what) (λ does. line.Access t n a does))
    (λ a. with_one (action_read word what) (λ does. line.Access t n a does)
    (some_map IsShort (λ does. IsInRanges (line.Access t n a does)) (action_read word what) (λ does short. (omega (arith, h.1), short)) (is_short word what)))))
    (between 0 (2 ^ 40 - 1) time))
access_in (time ∷ name ∷ word ∷ address ∷ what ∷ next ∷ more) = tt

form_in : (word : List ℕ) (rest : List (List ℕ)) → IsInRanges (form_of word rest)
form_in word rest =
    by_test (bytes_eq word (codes "delay")) _ _ (delay_in rest)
    (by_test (bytes_eq word (codes "target")) _ _ (target_in rest)
    (by_test (bytes_eq word (codes "initiator")) _ _ (initiator_in rest)
    (by_test (bytes_eq word (codes "at")) _ _ (access_in rest)
    (by_test (bytes_eq word (codes "invalidate")) _ _ (invalidate_in rest) tt))))

words_in : (ws : List (List ℕ)) → IsInRanges (words_form ws)
words_in [] = tt
words_in (word ∷ rest) = form_in word rest

pub line_in : (bytes : List ℕ) → IsInRanges (line_form bytes)
line_in bytes = by_test (is_comment bytes) line.Blank (words_form (words bytes)) tt (words_in (words bytes))
