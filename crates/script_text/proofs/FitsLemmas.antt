-- What is named fits the design.
use Rattle.std.proofs.Common.{◌≡◌, ℕ, ◌<◌, ◌≤◌, Bool, true, false, cond, nat_lt, nat_le, List, [], ◌∷◌, length, Option, Some, None, Result, Ok, Err, refl, sym, ap, ◌∙◌, arith, All, IfSome, IfOk, bytes_eq, codes, option_and_then, option_map, ◌==◌, ◌&&◌, ◌^◌, ◌-◌}
use Rattle.std.specs.Prelude.{position, slice_get, map}
use Rattle.std.specs.List.{position_or_len, list_all}
use Rattle.std.proofs.Math.ListN.{length-take}
use Rattle.std.proofs.lemmas.List.{length-map, length-reverse}
use Rattle.std.proofs.lemmas.List.Elements.{All-nil, All-cons}
use Rattle.std.proofs.lemmas.Bool.Decides.{nat_tests}
use Rattle.sim_model.specs.LogicValues.declared.kinds.Digit.{Digit}
use Rattle.sim_model.specs.LogicValues.declared.kinds.Value.{Value}
use Rattle.sim_model.specs.LogicValues.Planes.{clipped}
use Rattle.sim_model.specs.FlatDesign.declared.value_types.ValueType.{ValueType}
use Rattle.sim_model.specs.FlatDesign.declared.value_types.ValueType.TheVariants as type
use Rattle.sim_model.specs.FlatDesign.declared.design.Design.{Design}
use Rattle.sim_model.specs.FlatDesign.ValueTypes.{type_of_value}
use Rattle.text_lines.specs.ModelLexer.Forms.{is_logic_byte}
use Rattle.text_lines.specs.ModelLexer.Meanings.{logic_digit, logic_digits}
use Rattle.text_lines.specs.ModelTree.declared.faults.Fault.{Fault}
use Rattle.sim_model.specs.declared.plain.Command.{Command}
use Rattle.script_text.specs.declared.forms.CommandForm.{CommandForm}
use Rattle.script_text.specs.declared.forms.CommandForm.TheVariants as form
use Rattle.script_text.specs.declared.forms.TextCommand.{TextCommand}
use Rattle.text_lines.specs.Lines.{decimal_read}
use Rattle.script_text.specs.ValueTexts.{is_width, int_from_zero, int_below_zero, int_read, uint_within, uint_read, logic_read, vector_of, vector_read, value_read}
use Rattle.sim_model.specs.SimTime.Times.{ticks_of}
use Rattle.sim_model.specs.SimTime.declared.moments.Time.{Time}
use Rattle.sim_model.specs.SimTime.declared.moments.UnitStop.{UnitStop}
use Rattle.script_text.specs.NamedScript.{run_timed, is_shown_at, is_set_at, set_type, show_named, set_valued, set_named, value_at, named_form, named, in_front, name_script}
use Rattle.script_text.specs.Fits.{Fits, IsOfTypeAt}

within_if : (b : Bool) (m n : ℕ) → (b ≡ true → m < n) → IfSome (cond b (Some m) None) (λ i. i < n)
within_if true m n h = h refl
within_if false m n h = tt

position_within : {X : Type 0} (p : X → Bool) (xs : List X) → IfSome (position p xs) (λ i. i < length xs)
position_within p xs = within_if (nat_lt (position_or_len p xs) (length xs)) (position_or_len p xs) (length xs) (λ e. grind (arith, nat_tests))

-- what is read is of the type that was asked for
abbrev IsOf : ValueType → Value → Type 0
IsOf t v = t ≡ type_of_value v

either : (t : ValueType) (b : Bool) (x y : Option Value) → IfSome x (IsOf t) → IfSome y (IsOf t) → IfSome (cond b x y) (IsOf t)
either t true x y p q = p
either t false x y p q = q

then_read : (t : ValueType) (f : ℕ → Option Value) (o : Option ℕ) → ((n : ℕ) → IfSome (f n) (IsOf t)) → IfSome (option_and_then f o) (IsOf t)
then_read t f None h = tt
then_read t f (Some n) h = h n

int_fits : (w : ℕ) (text : List ℕ) → IfSome (int_read w text) (IsOf (type.Int w))
int_fits w [] = tt
int_fits w (b ∷ bs) =
    either (type.Int w) (b == 45) (option_and_then (int_below_zero w) (decimal_read bs)) (option_and_then (int_from_zero w) (decimal_read (b ∷ bs)))
    (then_read (type.Int w) (int_below_zero w) (decimal_read bs) (λ n. either (type.Int w) (nat_lt 0 n && nat_le n (2 ^ (w - 1))) _ None refl tt))
    (then_read (type.Int w) (int_from_zero w) (decimal_read (b ∷ bs)) (λ n. either (type.Int w) (nat_lt n (2 ^ (w - 1))) _ None refl tt))

uint_fits : (w : ℕ) (text : List ℕ) → IfSome (uint_read w text) (IsOf (type.Uint w))
uint_fits w text = then_read (type.Uint w) (uint_within w) (decimal_read text) (λ n. either (type.Uint w) (nat_lt n (2 ^ w)) _ None refl tt)

logic_fits : (text : List ℕ) → IfSome (logic_read text) (IsOf type.Logic)
logic_fits [] = tt
logic_fits (b ∷ []) = either type.Logic (is_logic_byte b) _ None refl tt
logic_fits (b ∷ c ∷ bs) = tt

clipped_all : (ds : List Digit) → 1 ≤ length ds → length ds ≤ 64 → length (clipped ds) ≡ length ds
clipped_all [] some few = absurd (omega arith)
clipped_all (d ∷ ds) some few = omega (arith, length-take 63 ds)

vector_width : (w : ℕ) (text : List ℕ) (b : Bool) → (b ≡ true → (length text ≡ w) × (1 ≤ length text) × (length text ≤ 64)) → IfSome (cond b (Some (vector_of (logic_digits text))) None) (IsOf (type.Vector w))
vector_width w text true h =
    let size : length (logic_digits text) ≡ length text = length-reverse (map logic_digit text) ∙ length-map text logic_digit in
    ap (λ n. type.Vector n) (sym (clipped_all (logic_digits text) (omega (arith, size, (h refl).1)) (omega (arith, size, (h refl).2)) ∙ size ∙ (h refl).0))
vector_width w text false h = tt

vector_within : (w : ℕ) (text : List ℕ) (b c : Bool) → (b ≡ true → length text ≡ w) → (c ≡ true → (1 ≤ length text) × (length text ≤ 64)) → IfSome (cond b (option_map vector_of (cond c (Some (logic_digits text)) None)) None) (IsOf (type.Vector w))
vector_within w text true true same within = vector_width w text true (λ e. (same refl, (within refl).0, (within refl).1))
vector_within w text true false same within = tt
vector_within w text false c same within = tt

both_second : (a b : Bool) → (a && b) ≡ true → b ≡ true
both_second true b e = e
both_second false b e = absurd cc

both_first : (a b : Bool) → (a && b) ≡ true → a ≡ true
both_first true b e = refl
both_first false b e = absurd cc

vector_fits : (w : ℕ) (text : List ℕ) → IfSome (vector_read w text) (IsOf (type.Vector w))
vector_fits w text =
    vector_within w text (list_all is_logic_byte text && (length text == w)) (nat_lt 0 (length text) && nat_le (length text) 64)
    (λ e. let same = both_second (list_all is_logic_byte text) (length text == w) e in grind (arith, nat_tests))
    (λ e.
    let some = both_first (nat_lt 0 (length text)) (nat_le (length text) 64) e in
    let few = both_second (nat_lt 0 (length text)) (nat_le (length text) 64) e in
    (grind (arith, nat_tests), grind (arith, nat_tests)))

read_fits : (t : ValueType) (text : List ℕ) → IfSome (value_read t text) (IsOf t)
read_fits type.Bool text =
    either type.Bool (bytes_eq text (codes "0")) _ _ refl (either type.Bool (bytes_eq text (codes "1")) _ None refl tt)
read_fits (type.Int w) text = either (type.Int w) (is_width w) (int_read w text) None (int_fits w text) tt
read_fits (type.Uint w) text = either (type.Uint w) (is_width w) (uint_read w text) None (uint_fits w text) tt
read_fits type.Logic text = logic_fits text
read_fits (type.Vector w) text = vector_fits w text
read_fits type.Time text = tt
read_fits type.Process text = tt
read_fits type.Payload text = tt

some_type : (t : ValueType) (o : Option Value) → IfSome o (IsOf t) → IfSome o (λ v. Some t ≡ Some (type_of_value v))
some_type t None h = tt
some_type t (Some v) h = ap (λ (u : ValueType). Some u) h

value_fits : (o : Option ValueType) (text : List ℕ) → IfSome (option_and_then (λ t. value_read t text) o) (λ v. o ≡ Some (type_of_value v))
value_fits None text = tt
value_fits (Some t) text = some_type t (value_read t text) (read_fits t text)

valued_fits : (d : Design) (line : ℕ) (path : List ℕ) (i : ℕ) (o : Option Value) → i < length d.visible → IfSome o (IsOfTypeAt d i) → IfOk (set_valued line path i o) (Fits d)
valued_fits d line path i None h k = tt
valued_fits d line path i (Some v) h k = (h, k)

set_fits : (d : Design) (line : ℕ) (path text : List ℕ) (o : Option ℕ) → IfSome o (λ i. i < length d.visible) → IfOk (set_named d line path text o) (Fits d)
set_fits d line path text None h = tt
set_fits d line path text (Some i) h = valued_fits d line path i (value_at d i text) h (value_fits (option_and_then (set_type d) (slice_get d.visible i)) text)

show_fits : (d : Design) (line : ℕ) (path : List ℕ) (o : Option ℕ) → IfSome o (λ i. i < length d.visible) → IfOk (show_named line path o) (Fits d)
show_fits d line path None h = tt
show_fits d line path (Some i) h = h

run_fits : (d : Design) (line : ℕ) (r : Result Time UnitStop) → IfOk (run_timed line r) (Fits d)
run_fits d line (Ok t) = tt
run_fits d line (Err stop) = tt

form_fits : (d : Design) (line : ℕ) (f : CommandForm) → IfOk (named_form d line f) (Fits d)
form_fits d line (form.Run None) = tt
form_fits d line (form.Run (Some (n, u))) = run_fits d line (ticks_of n u d.resolution)
form_fits d line (form.Set path text) = set_fits d line path text (position (is_set_at d path) d.visible) (position_within (is_set_at d path) d.visible)
form_fits d line (form.Show path) = show_fits d line path (position (is_shown_at d path) d.visible) (position_within (is_shown_at d path) d.visible)

front_fits : (d : Design) (r : Result Command Fault) (s : Result (List Command) Fault) → IfOk r (Fits d) → IfOk s (All (Fits d)) → IfOk (in_front r s) (All (Fits d))
front_fits d (Err f) s h k = tt
front_fits d (Ok c) (Err f) h k = tt
front_fits d (Ok c) (Ok cs) h k = All-cons (Fits d) c cs h k

all_fit : (d : Design) (cs : List TextCommand) → IfOk (name_script d cs) (All (Fits d))
all_fit d [] = All-nil (Fits d)
all_fit d (c ∷ cs) = front_fits d (named d c) (name_script d cs) (form_fits d c.line c.form) (all_fit d cs)

-- a script that was named fits
pub script_fits : (d : Design) (cs : List TextCommand) (script : List Command) → name_script d cs ≡ Ok script → All (Fits d) script
script_fits d cs script e = rw e at (all_fit d cs)
