-- Hops by their numbers beside the histories of a configuration.
use Rattle.std.proofs.Common.{◌≡◌, ◌≢◌, ◌≤◌, ◌<◌, ℕ, ℤ, zero, suc, Bool, false, List, [], ◌∷◌, ◌++◌, length, set, get_or, replicate, Option, Some, None, Result, Ok, Err, refl, sym, ap, ◌∙◌, subst, ⊎_elim}
use Rattle.std.specs.Prelude.{slice_get, option_map, unwrap_or}
use Rattle.std.specs.Ordering.{nat_cmp}
use Rattle.std.specs.FinMap as map
use Rattle.std.proofs.lemmas.Bool.{cases_eq}
use Rattle.std.proofs.lemmas.Option.{slice_get-get_or, slice_get_past}
use Rattle.std.specs.Result.{OnOk}
use Rattle.sim_model.specs.TransportPhases.declared.phases.Answer.{Answer}
use Rattle.sim_model.specs.TransportPhases.declared.phases.Phase.{Phase}
use Rattle.sim_model.specs.TransportPhases.declared.phases.Rule.{Rule}
use Rattle.sim_model.specs.TransportPhases.declared.phases.Rule.TheVariants.{P7}
use Rattle.sim_model.specs.TransportPhases.declared.transaction.State.TheVariants.{Idle}
use Rattle.sim_model.specs.TransportPhases.Phases.{verdict, first_broken, return_rules, answer_of, phase_of}
use Rattle.sim_model.specs.TransportPhases.Rows.{Rows, IsRegistered}
use Rattle.sim_model.specs.TransportPhases.History.{Entry, Return, Left, StandsFor, broken}
use Rattle.sim_model.specs.Configuration.{Transactions, changed_at, change}
use Rattle.sim_model.specs.declared.plain.Via.{Via}
use Rattle.kernel_transactions.specs.Board.{entered, left}
use Rattle.kernel_transactions.specs.Hops.{nothing_called, StandsForHop, StandsForHops, IsRegisteredOn, history_at, Rules, Enters}
use Rattle.kernel_transactions.proofs.Lists.{get-set_same, get-set_other, change-here, change-other}

pub fresh_hops : (n : ℕ) → StandsForHops (replicate n nothing_called) (replicate n [])
fresh_hops zero i = tt
fresh_hops (suc n) zero = λ t. map.get-empty nat_cmp t
fresh_hops (suc n) (suc i) = fresh_hops n i

module _ (rows : List Rows) (hs : List (List Entry)) (stands : StandsForHops rows hs) (hop : ℕ) where
  -- there is such a hop
  module _ (r : Rows) (at : slice_get rows hop ≡ Some r) where
    stands_at : StandsForHop (Some r) (slice_get hs hop)
    stands_at = subst (λ o. StandsForHop o (slice_get hs hop)) at (stands hop)

    read_by : (h : Option (List Entry)) → StandsForHop (Some r) h → StandsFor r (unwrap_or h [])
    read_by None never = absurd never
    read_by (Some h) stand = stand

    pub history_read : StandsFor r (history_at hs hop)
    history_read = read_by (slice_get hs hop) stands_at

    module _ (new : Rows) (e : Entry) (moves : (h : List Entry) → StandsFor r h → StandsFor new (h ++ e ∷ [])) where
      entered_by : (h : Option (List Entry)) → StandsForHop (Some r) h → StandsForHop (Some new) (option_map (λ h. h ++ e ∷ []) h)
      entered_by None never = absurd never
      entered_by (Some h) stand = moves h stand

      entered_at : (n : ℕ) → n ≡ hop → StandsForHop (slice_get (set rows hop new) n) (slice_get (change hs hop (λ h. h ++ e ∷ [])) n)
      entered_at n same = subst (λ n. StandsForHop (slice_get (set rows hop new) n) (slice_get (change hs hop (λ h. h ++ e ∷ [])) n)) (sym same)
          (subst (λ o. StandsForHop o (slice_get (change hs hop (λ h. h ++ e ∷ [])) hop)) (sym (get-set_same rows hop r new at))
          (subst (StandsForHop (Some new)) (sym (change-here hs hop (λ h. h ++ e ∷ []))) (entered_by (slice_get hs hop) stands_at)))

      entered_apart : (n : ℕ) → n ≢ hop → StandsForHop (slice_get (set rows hop new) n) (slice_get (change hs hop (λ h. h ++ e ∷ [])) n)
      entered_apart n apart = subst (λ o. StandsForHop o (slice_get (change hs hop (λ h. h ++ e ∷ [])) n)) (sym (get-set_other rows hop n new apart))
          (subst (StandsForHop (slice_get rows n)) (sym (change-other hs hop n (λ h. h ++ e ∷ []) apart)) (stands n))

      pub enters : StandsForHops (set rows hop new) (change hs hop (λ h. h ++ e ∷ []))
      enters n = ⊎_elim (entered_at n) (entered_apart n) (cases_eq n hop)

  -- there is none
  module _ (none : slice_get rows hop ≡ None) where
    missing : (h : Option (List Entry)) → StandsForHop None h → h ≡ None
    missing None ok = refl
    missing (Some h) never = absurd never

    no_history : slice_get hs hop ≡ None
    no_history = missing (slice_get hs hop) (subst (λ o. StandsForHop o (slice_get hs hop)) none (stands hop))

    pub history_missing : history_at hs hop ≡ []
    history_missing = ap (λ o. unwrap_or o []) no_history

    pub enters_nothing : (f : List Entry → List Entry) → StandsForHops rows (change hs hop f)
    enters_nothing f = subst (StandsForHops rows) (sym (ap (changed_at hs hop f) no_history)) stands

-- an entry on the hop of a number; `r` is what is kept there
module _ (rows old : List Rows) (same : rows ≡ old) (hop : ℕ) (e : Entry) where
  pub enters_there : hop < length rows → (r new : Rows) → r ≡ get_or rows hop r → ((h : List Entry) → StandsFor r h → StandsFor new (h ++ e ∷ [])) → Enters old (set rows hop new) hop e
  enters_there within r new is moves = subst (λ o. Enters o (set rows hop new) hop e) same
      (λ hs stands. enters rows hs stands hop r (slice_get-get_or rows hop r within ∙ ap Some (sym is)) new e moves)

  pub enters_nowhere : length rows ≤ hop → Enters old old hop e
  enters_nowhere past = subst (λ o. Enters o o hop e) same (λ hs stands. enters_nothing rows hs stands hop (slice_get_past rows hop past) (λ h. h ++ e ∷ []))

  pub rules_there : hop < length rows → (r : Rows) → r ≡ get_or rows hop r → (answer : Result Unit Rule) → ((h : List Entry) → StandsFor r h → answer ≡ verdict (broken h e)) → Rules old answer hop e
  rules_there within r is answer judged = subst (λ o. Rules o answer hop e) same
      (λ hs stands. judged (history_at hs hop) (history_read rows hs stands hop r (slice_get-get_or rows hop r within ∙ ap Some (sym is))))

  pub rules_nowhere : length rows ≤ hop → (answer : Result Unit Rule) → answer ≡ verdict (broken [] e) → Rules old answer hop e
  rules_nowhere past answer judged = subst (λ o. Rules o answer hop e) same
      (λ hs stands. judged ∙ ap (λ h. verdict (broken h e)) (sym (history_missing rows hs stands hop (slice_get_past rows hop past))))

pub registered_there : (rows old : List Rows) → rows ≡ old → (hop t : ℕ) → hop < length rows → (r : Rows) → r ≡ get_or rows hop r → IsRegisteredOn (slice_get old hop) t → IsRegistered r t
registered_there rows old same hop t within r is registered = subst (λ o. IsRegisteredOn o t)
    (slice_get-get_or rows hop r within ∙ ap Some (sym is)) (subst (λ o. IsRegisteredOn (slice_get o hop) t) (sym same) registered)

pub anyway : {P : Type 0} → (r : Result Unit Rule) → P → OnOk r P
anyway (Ok u) p = p
anyway (Err e) p = tt

-- nothing may be answered where nothing was called
no_answer : (s : Option Answer) (phase : Option Phase) (complete : Bool) → Err P7 ≡ verdict (first_broken (return_rules Idle false s phase complete))
no_answer None phase complete = refl
no_answer (Some a) phase complete = refl

pub first_return : (t : ℕ) (status phase : ℤ) (complete : Bool) → Err P7 ≡ verdict (broken [] (Return t status phase complete))
first_return t status phase complete = no_answer (answer_of status) (phase_of phase) complete

-- calls that were left, one more
pub left-more : (x : Transactions) (vs : List Via) (v : Via) → left x (vs ++ v ∷ []) ≡ entered (left x vs) v.hop (Left v.payload)
left-more x [] v = refl
left-more x (w ∷ vs) v = left-more (entered x w.hop (Left w.payload)) vs v
