-- One first argument more.
use Rattle.std.proofs.Common.{◌≡◌, ◌≤◌, ◌<◌, ◌+◌, ℕ, suc, List, [], ◌∷◌, ◌++◌, map, length, get_or, drop, drop-cons, add-one, append_assoc, append-nil, Result, Ok, Err, refl, sym, ap, ◌∙◌}
use Rattle.std.proofs.Math.ListN.{drop_of_length-le}
use Rattle.std.specs.Prelude.{IfOk}
use Rattle.exec_data.specs.LogicValues.declared.kinds.Value.{Value}
use Rattle.flat_design.specs.Code.{term_of}
use Rattle.flat_design.specs.declared.code.Local.{Local}
use Rattle.flat_design.specs.declared.terms.Expr.{Expr}
use Rattle.flat_design.specs.declared.faults.RunFault.{RunFault}
use Rattle.exec_data.specs.SimModel.Values.{on_ok}
use Rattle.exec_data.specs.SimModel.Reading.{Here, val}
use Rattle.exec_data.specs.SimModel.Calls.{for_parameter, first_arguments}

-- nothing was given so far
pub none_given : (r : Result (List Value) RunFault) → on_ok r (λ vs. Ok ([] ++ vs)) ≡ r
none_given (Ok vs) = refl
none_given (Err f) = refl

joined_more : (old new : List Value) (w : Value) → new ≡ old ++ w ∷ [] → (r : Result (List Value) RunFault) → on_ok r (λ vs. Ok (new ++ vs)) ≡ on_ok (on_ok r (λ vs. Ok (w ∷ vs))) (λ vs. Ok (old ++ vs))
joined_more old new w is (Ok vs) = ap (λ (xs : List Value). Ok (xs ++ vs)) is ∙ ap Ok (append_assoc old (w ∷ []) vs)
joined_more old new w is (Err f) = refl

module _ (h : Here) (ls : List Local) (es : List Expr) (i : ℕ) where
  -- what was given so far, and then the rest
  abbrev pub given_with : List Value → ℕ → Result (List Value) RunFault
  given_with old n = on_ok (first_arguments h ls n (map term_of (drop n es))) (λ vs. Ok (old ++ vs))

  module _ (e : Expr) (within : i < length es) (is : e ≡ get_or es i e) where
    here_is : drop i es ≡ e ∷ drop (i + 1) es
    here_is = rw (add-one, drop-cons es i e within, ← is) refl

    abbrev rest : ℕ → Result (List Value) RunFault
    rest n = first_arguments h ls n (map term_of (drop (i + 1) es))

    pub one_given : (old new : List Value) (v w : Value) → Ok v ≡ val h (term_of e) → w ≡ for_parameter ls i v → new ≡ old ++ w ∷ []
        → on_ok (first_arguments h ls (i + 1) (map term_of (drop (i + 1) es))) (λ vs. Ok (new ++ vs)) ≡ on_ok (first_arguments h ls i (map term_of (drop i es))) (λ vs. Ok (old ++ vs))
    one_given old new v w value cut adds =
        joined_more old new w adds (rest (i + 1))
        ∙ ap (λ (z : Value). on_ok (on_ok (rest (i + 1)) (λ vs. Ok (z ∷ vs))) (λ vs. Ok (old ++ vs))) cut
        ∙ ap (λ n. on_ok (on_ok (rest n) (λ vs. Ok (for_parameter ls i v ∷ vs))) (λ vs. Ok (old ++ vs))) (add-one i)
        ∙ ap (λ (r : Result Value RunFault). on_ok (on_ok r (λ u. on_ok (rest (suc i)) (λ vs. Ok (for_parameter ls i u ∷ vs)))) (λ vs. Ok (old ++ vs))) value
        ∙ ap (λ (xs : List Expr). on_ok (first_arguments h ls i (map term_of xs)) (λ vs. Ok (old ++ vs))) (sym here_is)

    pub one_at_fault : (old : List Value) (f : RunFault) → Err f ≡ val h (term_of e) → Err f ≡ on_ok (first_arguments h ls i (map term_of (drop i es))) (λ vs. Ok (old ++ vs))
    one_at_fault old f value =
        ap (λ (r : Result Value RunFault). on_ok (on_ok r (λ u. on_ok (rest (suc i)) (λ vs. Ok (for_parameter ls i u ∷ vs)))) (λ vs. Ok (old ++ vs))) value
        ∙ ap (λ (xs : List Expr). on_ok (first_arguments h ls i (map term_of xs)) (λ vs. Ok (old ++ vs))) (sym here_is)

  -- all are given
  pub all_given : (old : List Value) → length es ≤ i → Ok old ≡ on_ok (first_arguments h ls i (map term_of (drop i es))) (λ vs. Ok (old ++ vs))
  all_given old past = ap Ok (sym (append-nil old)) ∙ ap (λ (xs : List Expr). on_ok (first_arguments h ls i (map term_of xs)) (λ vs. Ok (old ++ vs))) (sym (drop_of_length-le es past))

  -- the same of their faults alone
  abbrev pub judged : Result (List Value) RunFault → Result Unit RunFault
  judged r = on_ok r (λ vs. Ok tt)

  judged_with : (old : List Value) (r : Result (List Value) RunFault) → judged (on_ok r (λ vs. Ok (old ++ vs))) ≡ judged r
  judged_with old (Ok vs) = refl
  judged_with old (Err f) = refl

  abbrev from_place : ℕ → List Expr → Result (List Value) RunFault
  from_place n xs = first_arguments h ls n (map term_of xs)

  pub one_judged : (e : Expr) → i < length es → e ≡ get_or es i e → (v : Value) → Ok v ≡ val h (term_of e) → judged (from_place (i + 1) (drop (i + 1) es)) ≡ judged (from_place i (drop i es))
  one_judged e within is v value =
      sym (judged_with (for_parameter ls i v ∷ []) (from_place (i + 1) (drop (i + 1) es)))
      ∙ ap judged (one_given e within is [] (for_parameter ls i v ∷ []) v (for_parameter ls i v) value refl refl)
      ∙ judged_with [] (from_place i (drop i es))

  pub one_stops : (e : Expr) → i < length es → e ≡ get_or es i e → (f : RunFault) → Err f ≡ val h (term_of e) → Err f ≡ judged (from_place i (drop i es))
  one_stops e within is f value = ap judged (one_at_fault e within is [] f value) ∙ judged_with [] (from_place i (drop i es))

  pub all_judged : length es ≤ i → Ok tt ≡ judged (from_place i (drop i es))
  all_judged past = ap judged (all_given [] past) ∙ judged_with [] (from_place i (drop i es))

  -- a value is added where there is no fault
  pub one_joins : (e : Expr) → i < length es → e ≡ get_or es i e → (old total : List Value) → on_ok (from_place i (drop i es)) (λ vs. Ok (old ++ vs)) ≡ Ok total → (x : Result Value RunFault) (new : List Value) → x ≡ val h (term_of e)
      → IfOk x (λ v. new ≡ old ++ for_parameter ls i v ∷ []) → on_ok (from_place (i + 1) (drop (i + 1) es)) (λ vs. Ok (new ++ vs)) ≡ Ok total
  one_joins e within is old total left (Ok v) new value added = one_given e within is old new v (for_parameter ls i v) value refl added ∙ left
  one_joins e within is old total left (Err f) new value added = absurd (let so : Err f ≡ Ok total = one_at_fault e within is old f value ∙ left in let no : ⊥ = cc in no)

pub given_from : (old total : List Value) (r : Result (List Value) RunFault) → old ≡ [] → r ≡ Ok total → on_ok r (λ vs. Ok (old ++ vs)) ≡ Ok total
given_from old total r none is = ap (λ us. on_ok r (λ vs. Ok (us ++ vs))) none ∙ ap (λ o. on_ok o (λ vs. Ok ([] ++ vs))) is
