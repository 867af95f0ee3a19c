-- One entry behind a history: its letters, and the rules that it breaks.
use Rattle.std.proofs.Common.{◌≡◌, ℕ, Bool, true, false, List, [], ◌∷◌, ◌++◌, None, refl, sym, ap, ◌∙◌, cond, true≢false}
use Rattle.std.specs.Prelude.{ℤ, ◌==◌, map}
use Rattle.std.specs.List.{filter}
use Rattle.std.proofs.lemmas.List.{map-append}
use Rattle.std.proofs.lemmas.List.Elements.{filter-append}
use Rattle.transport_phases.specs.declared.phases.Path.{Path}
use Rattle.transport_phases.specs.declared.transaction.Kept.{Kept}
use Rattle.transport_phases.specs.Phases.{phase_of, answer_of, first_broken, call_rules, return_rules, b_call_rules, b_return_rules}
use Rattle.transport_phases.specs.History.{Entry, Call, Return, BCall, BReturn, Left, transaction, kept_of, other_requests, other_responds, broken}
use Rattle.transport_phases.specs.Words.{letter_of, letters_of}
use Rattle.transport_phases.specs.Lawful.{begins_request, begins_response, carries_response, is_complete, is_handled}
use Rattle.transport_phases.specs.Order.{MayCome}
use Rattle.transport_phases.proofs.Places.{Place, kept_at, Step, unblocked}
use Rattle.transport_phases.proofs.RulePlaces.{call_fits, return_fits, b_call_fits, Onward, call_onward, return_onward, b_call_onward, b_return_onward, left_place, return_open, left_open}

pub letters_of-append : (a b : List Entry) (t : ℕ) → letters_of (a ++ b) t ≡ letters_of a t ++ letters_of b t
letters_of-append a b t =
    ap (map letter_of) (filter-append (λ e. transaction e == t) a b)
    ∙ map-append letter_of (filter (λ e. transaction e == t) a) (filter (λ e. transaction e == t) b)

-- one entry more, of this transaction or of another one
pub letters_of-more : (h : List Entry) (e : Entry) (t : ℕ) (b : Bool) → (transaction e == t) ≡ b
    → letters_of (h ++ e ∷ []) t ≡ letters_of h t ++ map letter_of (cond b (e ∷ []) [])
letters_of-more h e t b same =
    letters_of-append h (e ∷ []) t
    ∙ ap (λ b. letters_of h t ++ map letter_of (cond b (e ∷ []) [])) same

-- a call is judged where its transaction stands
call_judged : (h : List Entry) (t : ℕ) (path : Path) (phase : ℤ) (complete handled : Bool) {k : Kept} → kept_of h t ≡ k
    → broken h (Call t path phase complete handled)
    ≡ first_broken (call_rules k (other_requests h t) (other_responds h t) path (phase_of phase) complete handled)
call_judged h t path phase complete handled =
    ap (λ k. first_broken (call_rules k (other_requests h t) (other_responds h t) path (phase_of phase) complete handled))

-- an entry that leads on from where its transaction stands, with what it must have, breaks no rule
pub entry_fits : (h : List Entry) (e : Entry) {p q : Place} → kept_of h (transaction e) ≡ kept_at p
    → Step p (letter_of e) q → (begins_request (letter_of e) ≡ true → other_requests h (transaction e) ≡ false)
    → (begins_response (letter_of e) ≡ true → other_responds h (transaction e) ≡ false)
    → (carries_response (letter_of e) ≡ true → is_complete e ≡ true) → is_handled e ≡ true → broken h e ≡ None
entry_fits h (Call t path phase complete handled) stands s req resp whole there =
    call_judged h t path phase complete handled stands
    ∙ call_fits path (phase_of phase) (other_requests h t) (other_responds h t) complete handled s req resp whole there
entry_fits h (Return t status phase complete) stands s req resp whole there =
    ap (λ k. first_broken (return_rules k.state (other_responds h t) (answer_of status) (phase_of phase) complete)) stands
    ∙ return_fits (answer_of status) (phase_of phase) (other_responds h t) complete s resp whole
entry_fits h (BCall t handled) stands s req resp whole there =
    ap (λ k. first_broken (b_call_rules k handled)) stands ∙ b_call_fits handled s there
entry_fits h (BReturn t complete) stands s req resp whole there =
    ap (λ c. first_broken (b_return_rules c)) (whole refl)
entry_fits h (Left t) stands s req resp whole there = refl

-- and the other path round
pub entry_onward : (h : List Entry) (e : Entry) (p : Place) → kept_of h (transaction e) ≡ kept_at p → MayCome h e
    → broken h e ≡ None → Onward p (letter_of e) (is_complete e) (is_handled e)
entry_onward h (Call t path phase complete handled) p stands comes none =
    call_onward p path (phase_of phase) (other_requests h t) (other_responds h t) complete handled
    (sym (call_judged h t path phase complete handled stands) ∙ none)
entry_onward h (Return t status phase complete) p stands comes none =
    return_onward p (answer_of status) (phase_of phase) (other_responds h t) complete (sym (ap (λ k. k.call) stands) ∙ comes)
    (sym (ap (λ k. first_broken (return_rules k.state (other_responds h t) (answer_of status) (phase_of phase) complete)) stands) ∙ none)
entry_onward h (BCall t handled) p stands comes none =
    b_call_onward p handled (sym (ap (λ k. first_broken (b_call_rules k handled)) stands) ∙ none)
entry_onward h (BReturn t complete) p stands comes none =
    b_return_onward p complete (sym (ap (λ k. k.call) stands) ∙ comes) none
entry_onward h (Left t) p stands comes none =
    (left_place p (λ is. comes (ap (λ k. k.call) stands ∙ is)), λ is. absurd (true≢false (sym is)), refl)

-- what leads on may come
pub entry_comes : (h : List Entry) (e : Entry) {p q : Place} → kept_of h (transaction e) ≡ kept_at p
    → Step p (letter_of e) q → MayCome h e
entry_comes h (Call t path phase complete handled) stands s = tt
entry_comes h (Return t status phase complete) stands s =
    ap (λ k. k.call) stands ∙ return_open (answer_of status) (phase_of phase) s
entry_comes h (BCall t handled) stands s = tt
entry_comes h (BReturn t complete) stands unblocked = ap (λ k. k.call) stands
entry_comes h (Left t) stands s = λ is. left_open s (sym (ap (λ k. k.call) stands) ∙ is)
