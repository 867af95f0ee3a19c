-- No run is asked for with more steps than the greatest budget.
use Rattle.std.proofs.Common.{◌≡◌, ◌≤◌, ◌&&◌, ℕ, List, [], ◌∷◌, Bool, true, false, cond, Option, Some, None, nat_le, refl, subst, arith}
use Rattle.std.specs.Prelude.{option_and_then, ⊤}
use Rattle.std.specs.Str.Parse.{digits_value}
use Rattle.std.proofs.lemmas.Bool.{and_parts}
use Rattle.std.proofs.lemmas.Bool.Decides.{nat_tests}
use Rattle.clap.specs.Words.{Text}
use Rattle.sim_model.specs.declared.plain.Log.{Log}
use Rattle.command_line.specs.declared.modes.Generated.{Generated}
use Rattle.command_line.specs.declared.modes.Order.{Order}
use Rattle.command_line.specs.Given.{Given, given_by}
use Rattle.command_line.specs.Line.{Asked, ChoiceRule, Page, Generate, Mode, Simulate, Simulation, are_apart, budget_in, generated_alone, generated_with, line_of, log_in, mode_by, mode_in, names_no_run, order_in, pages_in, rule_in, simulation_named, simulation_with, steers_no_run}
use Rattle.command_line.specs.Numbers.{between, budget_limit, is_decimal, number_in, size_limit}

-- a number, where there is one, and the steps of a mode are no more than may be
abbrev IsWithin : Option ℕ → Type 0
IsWithin None = ⊤
IsWithin (Some n) = n ≤ budget_limit

abbrev AsksWithin : Option Mode → Type 0
AsksWithin None = ⊤
AsksWithin (Some (Simulate s)) = s.budget ≤ budget_limit
AsksWithin (Some (Page kind file)) = ⊤
AsksWithin (Some (Generate g)) = g.budget ≤ budget_limit

within_by : (b : Bool) (o : Option ℕ) → (b ≡ true → IsWithin o) → IsWithin (cond b o None)
within_by true o is = is refl
within_by false o is = tt

asks_by : (b : Bool) (o : Option Mode) → AsksWithin o → AsksWithin (cond b o None)
asks_by true o is = is
asks_by false o is = tt

at_most : (n : ℕ) → nat_le n budget_limit ≡ true → n ≤ budget_limit
at_most n h = grind (arith, nat_tests)

number_within : (text : Text) → IsWithin (number_in 1 budget_limit text)
number_within text =
    let n = digits_value 10 text in
    within_by (is_decimal text) (between 1 budget_limit n) (λ decimal.
    within_by (nat_le 1 n && nat_le n budget_limit) (Some n) (λ both. at_most n (and_parts (nat_le 1 n) (nat_le n budget_limit) both).1))

budget_within : (text : Option Text) → IsWithin (budget_in text)
budget_within None = omega arith
budget_within (Some text) = number_within text

simulation_within : (model script : Text) (g : Given) (b : Option ℕ) (r : Option ChoiceRule) (l : Option Log) → IsWithin b → AsksWithin (simulation_with model script g b r l)
simulation_within model script g None r l is = tt
simulation_within model script g (Some b) None l is = tt
simulation_within model script g (Some b) (Some r) None is = tt
simulation_within model script g (Some b) (Some r) (Some l) is = is

named_within : (model script : Option Text) (g : Given) → AsksWithin (simulation_named model script g)
named_within None script g = tt
named_within (Some model) None g = tt
named_within (Some model) (Some script) g =
    asks_by (are_apart g.vcd g.choices) (simulation_with model script g (budget_in g.budget) (rule_in g) (log_in g.log))
    (simulation_within model script g (budget_in g.budget) (rule_in g) (log_in g.log) (budget_within g.budget))

generated_within : (n b : Option ℕ) (o : Option Order) → IsWithin b → AsksWithin (generated_with n b o)
generated_within None b o is = tt
generated_within (Some n) None o is = tt
generated_within (Some n) (Some b) None is = tt
generated_within (Some n) (Some b) (Some o) is = is

alone_within : (size : Text) (g : Given) → AsksWithin (generated_alone size g)
alone_within size g =
    asks_by (names_no_run g) (generated_with (number_in 1 size_limit size) (budget_in g.budget) (order_in g))
    (generated_within (number_in 1 size_limit size) (budget_in g.budget) (order_in g) (budget_within g.budget))

mode_within : (ps : List Asked) (size : Option Text) (g : Given) → AsksWithin (mode_by ps size g)
mode_within [] None g = named_within g.model g.script g
mode_within [] (Some size) g = alone_within size g
mode_within (p ∷ []) None g = asks_by (names_no_run g && steers_no_run g) (Some (Page p.kind p.file)) tt
mode_within (p ∷ []) (Some size) g = tt
mode_within (p ∷ q ∷ ps) size g = tt

given_within : (o : Option Given) → AsksWithin (option_and_then mode_in o)
given_within None = tt
given_within (Some g) = mode_within (pages_in g) g.generate g

line_within : (words : List Text) → AsksWithin (line_of words)
unfolding line_of
line_within words = given_within (given_by words)

pub simulated_within : (words : List Text) (s : Simulation) → line_of words ≡ Some (Simulate s) → s.budget ≤ budget_limit
simulated_within words s is = subst AsksWithin is (line_within words)

pub generations_within : (words : List Text) (g : Generated) → line_of words ≡ Some (Generate g) → g.budget ≤ budget_limit
generations_within words g is = subst AsksWithin is (line_within words)
