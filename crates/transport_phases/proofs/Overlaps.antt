-- Which letters have begun something that none has ended.
use Rattle.std.proofs.Common.{◌≡◌, Bool, true, false, List, [], ◌∷◌, ◌++◌, ◌⊎◌, inl, inr, refl, sym, ap, ◌∙◌, true≢false}
use Rattle.std.specs.Prelude.{◌||◌, ◌&&◌, not}
use Rattle.std.specs.List.{list_any}
use Rattle.std.proofs.lemmas.Bool.{or_parts}
use Rattle.transport_phases.specs.Phases.{requests, responds}
use Rattle.transport_phases.specs.Words.{Letter}
use Rattle.transport_phases.specs.Lawful.{begins_request, ends_request, begins_response, ends_response, IsWithin}
use Rattle.transport_phases.proofs.Places.{Place, Between, state_at, Step, Route, here, go, blocked, unblocked, blocking_left, request, request_accepted, request_ended, request_answered, request_completed, request_left, request_end, request_end_accepted, request_end_left, response_early, response, response_accepted, response_ended, response_completed, response_left, response_end, response_end_accepted, response_end_completed, response_end_left}

module _ (begins ends : Letter → Bool) where
  -- whether it is so behind a letter, if it was so before
  abbrev pub still : Bool → Letter → Bool
  still b l = begins l || (not (ends l) && b)

  abbrev pub still_after : Bool → List Letter → Bool
  still_after b [] = b
  still_after b (l ∷ ls) = still_after (still b l) ls

  none_ends : (ls : List Letter) → list_any ends ls ≡ false → still_after true ls ≡ true
  none_ends [] none = refl
  none_ends (l ∷ ls) none =
      let both : (ends l ≡ false) × (list_any ends ls ≡ false) = or_parts (ends l) (list_any ends ls) none in
      ap (λ b. still_after b ls) (kept (begins l) (ends l) both.0) ∙ none_ends ls both.1
    where
      kept : (b e : Bool) → e ≡ false → (b || (not e && true)) ≡ true
      kept true e none = refl
      kept false true none = sym none
      kept false false none = refl

  begun : (b : Bool) (before : List Letter) (l : Letter) (after : List Letter) → begins l ≡ true
      → list_any ends after ≡ false → still_after b (before ++ l ∷ after) ≡ true
  begun b [] l after is none = ap (λ c. still_after (c || (not (ends l) && b)) after) is ∙ none_ends after none
  begun b (x ∷ before) l after is none = begun (still b x) before l after is none

  pub within_still : (ls : List Letter) → IsWithin begins ends ls → still_after false ls ≡ true
  within_still ls (before, l, after, are, is, none) = ap (still_after false) are ∙ begun false before l after is none

  -- it was so before and nothing ended it, or it began in between
  pub still_within : (b : Bool) (ls : List Letter) → still_after b ls ≡ true
      → ((b ≡ true) × (list_any ends ls ≡ false)) ⊎ IsWithin begins ends ls
  still_within b [] is = inl (is, refl)
  still_within b (l ∷ ls) is = first (begins l) (ends l) refl refl (still_within (still b l) ls is)
    where
      stays : (x y : Bool) → begins l ≡ x → ends l ≡ y → still b l ≡ (x || (not y && b))
      stays x y begin end = ap (λ c. c || (not (ends l) && b)) begin ∙ ap (λ c. x || (not c && b)) end

      first : (x y : Bool) → begins l ≡ x → ends l ≡ y
          → ((still b l ≡ true) × (list_any ends ls ≡ false)) ⊎ IsWithin begins ends ls
          → ((b ≡ true) × (list_any ends (l ∷ ls) ≡ false)) ⊎ IsWithin begins ends (l ∷ ls)
      first x y begin end (inr (before, k, after, are, is, none)) =
          inr (l ∷ before, k, after, ap (λ ls. l ∷ ls) are, is, none)
      first true y begin end (inl (is, none)) = inr ([], l, ls, refl, begin, none)
      first false true begin end (inl (is, none)) = absurd (true≢false (sym is ∙ stays false true begin end))
      first false false begin end (inl (is, none)) =
          inl (sym (stays false false begin end) ∙ is, ap (λ y. y || list_any ends ls) end ∙ none)

  module _ (holds : Place → Bool) (steps : (p q : Place) (l : Letter) → Step p l q → still (holds p) l ≡ holds q) where
    along : {p q : Place} (ls : List Letter) → Route p ls q → still_after (holds p) ls ≡ holds q
    along [] here = refl
    along (l ∷ ls) (go s route) = ap (λ b. still_after b ls) (steps _ _ l s) ∙ along ls route

    pub holds_within : {p : Place} (ls : List Letter) → holds Between ≡ false → Route Between ls p → holds p ≡ true
        → IsWithin begins ends ls
    holds_within ls idle route is =
        elim (still_within (holds Between) ls (along ls route ∙ is)) [
          | inl both ↦ absurd (true≢false (sym both.0 ∙ idle))
          | inr within ↦ within
        ]

    pub within_holds : {p : Place} (ls : List Letter) → holds Between ≡ false → Route Between ls p
        → IsWithin begins ends ls → holds p ≡ true
    within_holds ls idle route within = sym (along ls route) ∙ ap (λ b. still_after b ls) idle ∙ within_still ls within

pub requests_step : (p q : Place) (l : Letter) → Step p l q
    → still begins_request ends_request (requests (state_at p)) l ≡ requests (state_at q)
requests_step p q l blocked = refl
requests_step p q l unblocked = refl
requests_step p q l blocking_left = refl
requests_step p q l request = refl
requests_step p q l request_accepted = refl
requests_step p q l request_ended = refl
requests_step p q l request_answered = refl
requests_step p q l request_completed = refl
requests_step p q l request_left = refl
requests_step p q l request_end = refl
requests_step p q l request_end_accepted = refl
requests_step p q l request_end_left = refl
requests_step p q l response_early = refl
requests_step p q l response = refl
requests_step p q l response_accepted = refl
requests_step p q l response_ended = refl
requests_step p q l response_completed = refl
requests_step p q l response_left = refl
requests_step p q l response_end = refl
requests_step p q l response_end_accepted = refl
requests_step p q l response_end_completed = refl
requests_step p q l response_end_left = refl

pub responds_step : (p q : Place) (l : Letter) → Step p l q
    → still begins_response ends_response (responds (state_at p)) l ≡ responds (state_at q)
responds_step p q l blocked = refl
responds_step p q l _ = refl
