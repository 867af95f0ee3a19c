-- Arguments, one after the other.
use Rattle.std.proofs.Common.{Result, Ok, Err, ◌++◌, ◌≡◌, ◌<◌, ◌≤◌, ◌+◌, ℕ, suc, List, [], ◌∷◌, drop, map, length, get_or, refl, sym, ap, ◌∙◌, add-one}
use Rattle.std.proofs.Math.Seq.{drop-cons}
use Rattle.std.proofs.lemmas.List.{drop_all}
use Rattle.std.specs.Prelude.{IfOk}
use Rattle.flat_design.specs.Code.{argument_term}
use Rattle.flat_design.specs.declared.code.Argument.{Argument}
use Rattle.flat_design.specs.declared.code.Local.{Local}
use Rattle.flat_design.specs.declared.faults.RunFault.{RunFault}
use Rattle.exec_data.specs.LogicValues.declared.kinds.Value.{Value}
use Rattle.exec_data.specs.SimModel.Values.{on_ok}
use Rattle.exec_data.specs.SimModel.Residual.{Frame}
use Rattle.exec_data.specs.SimModel.Configuration.{Config}
use Rattle.exec_data.specs.SimModel.Reading.{Here}
use Rattle.exec_data.specs.SimModel.Calls.{for_parameter, argument_value, argument_values, given_back}
use Rattle.exec_calls.proofs.Handing.{one_given}
use Rattle.exec_calls.proofs.Values.{behind, behind_all, value_added, value_at_fault}

module _ (xs : List Argument) (i : ℕ) (a : Argument) (few : i < length xs) (is : a ≡ get_or xs i a) where
  next_is : map argument_term (drop i xs) ≡ argument_term a ∷ map argument_term (drop (i + 1) xs)
  next_is = ap (map argument_term) (drop-cons xs i a few)
      ∙ ap (λ z. argument_term z ∷ map argument_term (drop (suc i) xs)) (sym is)
      ∙ ap (λ n. argument_term a ∷ map argument_term (drop n xs)) (sym (add-one i))

  pub given_next : (c : Config) (p : ℕ) (h : Here) (x : Frame)
      → given_back c p h x i (map argument_term (drop i xs)) ≡ given_back (given_back c p h x i (argument_term a ∷ [])) p h x (i + 1) (map argument_term (drop (i + 1) xs))
  given_next c p h x = ap (given_back c p h x i) next_is
      ∙ one_given c p h x i (argument_term a) (map argument_term (drop (i + 1) xs))
      ∙ ap (λ n. given_back (given_back c p h x i (argument_term a ∷ [])) p h x n (map argument_term (drop (i + 1) xs))) (sym (add-one i))

  pub value_next : (h : Here) (ls : List Local) (values : List Value) (v : Value) → Ok v ≡ argument_value h (argument_term a)
      → behind values (argument_values h ls i (map argument_term (drop i xs))) ≡ behind (values ++ for_parameter ls i v ∷ []) (argument_values h ls (i + 1) (map argument_term (drop (i + 1) xs)))
  value_next h ls values v known = ap (λ ys. behind values (argument_values h ls i ys)) next_is
      ∙ value_added h ls i (argument_term a) (map argument_term (drop (i + 1) xs)) values v known
      ∙ ap (λ n. behind (values ++ for_parameter ls i v ∷ []) (argument_values h ls n (map argument_term (drop (i + 1) xs)))) (sym (add-one i))

  pub value_stops : (h : Here) (ls : List Local) (values : List Value) (f : RunFault) → Err f ≡ argument_value h (argument_term a)
      → behind values (argument_values h ls i (map argument_term (drop i xs))) ≡ Err f
  value_stops h ls values f known = ap (λ ys. behind values (argument_values h ls i ys)) next_is
      ∙ value_at_fault h ls i (argument_term a) (map argument_term (drop (i + 1) xs)) values f known

pub given_all : (xs : List Argument) (i : ℕ) → length xs ≤ i → (c : Config) (p : ℕ) (h : Here) (x : Frame) → given_back c p h x i (map argument_term (drop i xs)) ≡ c
given_all xs i over c p h x = ap (λ ys. given_back c p h x i (map argument_term ys)) (drop_all i xs over)

-- the same of their faults alone
abbrev pub judged : Result (List Value) RunFault → Result Unit RunFault
judged r = on_ok r (λ vs. Ok tt)

judged_behind : (values : List Value) (r : Result (List Value) RunFault) → judged (behind values r) ≡ judged r
judged_behind values (Ok vs) = refl
judged_behind values (Err f) = refl

pub values_all : (xs : List Argument) (i : ℕ) → length xs ≤ i → (h : Here) (ls : List Local) (values : List Value) → behind values (argument_values h ls i (map argument_term (drop i xs))) ≡ Ok values
values_all xs i over h ls values = ap (λ ys. behind values (argument_values h ls i (map argument_term ys))) (drop_all i xs over) ∙ behind_all values

module _ (xs : List Argument) (i : ℕ) (h : Here) (ls : List Local) where
  abbrev values_from : ℕ → List Argument → Result (List Value) RunFault
  values_from n ys = argument_values h ls n (map argument_term ys)

  module _ (a : Argument) (few : i < length xs) (is : a ≡ get_or xs i a) where
    pub judged_next : (v : Value) → Ok v ≡ argument_value h (argument_term a) → judged (values_from (i + 1) (drop (i + 1) xs)) ≡ judged (values_from i (drop i xs))
    judged_next v known =
        sym (judged_behind (for_parameter ls i v ∷ []) (values_from (i + 1) (drop (i + 1) xs)))
        ∙ sym (ap judged (value_next xs i a few is h ls [] v known))
        ∙ judged_behind [] (values_from i (drop i xs))

    pub judged_stops : (f : RunFault) → Err f ≡ argument_value h (argument_term a) → Err f ≡ judged (values_from i (drop i xs))
    judged_stops f known = sym (sym (judged_behind [] (values_from i (drop i xs))) ∙ ap judged (value_stops xs i a few is h ls [] f known))

  pub judged_all : length xs ≤ i → Ok tt ≡ judged (values_from i (drop i xs))
  judged_all over = sym (sym (judged_behind [] (values_from i (drop i xs))) ∙ ap judged (values_all xs i over h ls []))

  -- the values are added where there is no fault
  module _ (a : Argument) (few : i < length xs) (is : a ≡ get_or xs i a) (values total : List Value) (left : behind values (values_from i (drop i xs)) ≡ Ok total) where
    pub value_joins : (x : Result Value RunFault) (new : List Value) → x ≡ argument_value h (argument_term a) → IfOk x (λ v. new ≡ values ++ for_parameter ls i v ∷ []) → behind new (values_from (i + 1) (drop (i + 1) xs)) ≡ Ok total
    value_joins (Ok v) new known added = ap (λ vs. behind vs (values_from (i + 1) (drop (i + 1) xs))) added ∙ sym (value_next xs i a few is h ls values v known) ∙ left
    value_joins (Err f) new known added = absurd (let so : Err f ≡ Ok total = sym (value_stops xs i a few is h ls values f known) ∙ left in let no : ⊥ = cc in no)

pub values_given : (old total : List Value) (r : Result (List Value) RunFault) → old ≡ [] → r ≡ Ok total → behind old r ≡ Ok total
values_given old total r none is = ap (λ vs. behind vs r) none ∙ ap (behind []) is
