-- Marked objects that are followed: in place of each the right ends of its bindings are marked.
use Rattle.std.proofs.Common.{◌≡◌, ◌<◌, ◌≤◌, ◌+◌, ◌-◌, ℕ, zero, suc, Bool, true, false, List, [], ◌∷◌, length, get_or, replicate, Some, refl, sym, ap, ◌∙◌, subst, inl, inr, arith, zero-add, add-zero}
use Rattle.std.specs.Prelude.{◌==◌, slice_get, slice_set, Contains}
use Rattle.std.specs.Bool.{MatchBool}
use Rattle.std.proofs.lemmas.Bool.{cases_lt, false≢true}
use Rattle.std.proofs.lemmas.List.Elements.{All-filter, All-weaker}
use Rattle.std.proofs.lemmas.Option.{slice_get-get_or, slice_get_within, same_Some}
use Rattle.design_rules.specs.FlatDesign.declared.objects.Binding.{Binding}
use Rattle.design_rules.specs.FlatDesign.declared.objects.Objects.{Objects}
use Rattle.design_rules.specs.Objects.{form_at, bindings_of}
use Rattle.design_rules.specs.Formed.{HasForm, AreFormed}
use Rattle.design_rules.specs.Paths.{is_end, itself_or, ends_of}
use Rattle.design_rules.proofs.Rounds.{ends_follow}
use Rattle.design_rules.specs.BindingFaults.{has_twice}
use Rattle.binding.specs.Order.{IsOrder}
use Rattle.binding.specs.Ends.{leads}
use Rattle.binding.specs.Twice.{if_so, times, reached, all_leads, MeetsTwice, ReachesTwice, ReachesOnce, AreMarked, IsFollowed, AreWithin}
use Rattle.binding.proofs.Linked.{right_within}
use Rattle.binding.proofs.Channels.{of_left, place_of}
use Rattle.binding.proofs.Sums.{sum_cleared, sum_marked, sum_few, sum_none, twice_from, once_from}

cleared_only : (marks : List Bool) (i j : ℕ) → slice_get (slice_set marks i false) j ≡ Some true → (slice_get marks j ≡ Some true) × (j ≡ i → ⊥)
cleared_only [] i j h = cc
cleared_only (b ∷ bs) zero zero h = cc
cleared_only (b ∷ bs) zero (suc j) h = (h, λ e. cc)
cleared_only (b ∷ bs) (suc i) zero h = (h, λ e. cc)
cleared_only (b ∷ bs) (suc i) (suc j) h = let w = cleared_only bs i j h in (w.0, λ e. w.1 (omega arith))

alone : (n i : ℕ) → i < n → slice_get (replicate n false) i ≡ Some false
alone zero i below = absurd (omega arith)
alone (suc n) zero below = refl
alone (suc n) (suc i) below = alone n i (omega arith)

module _ (os : Objects) (formed : AreFormed os) where
  pub links_within : (i : ℕ) → AreWithin (bindings_of os i) (length os.list)
  links_within i =
      All-filter (λ (b : Binding). b.left == i) (λ (b : Binding). b.right < length os.list) os.binds
      (All-weaker (HasForm os) (λ (b : Binding). b.right < length os.list) (right_within os) os.binds formed.bindings)

  module _ (i : ℕ) (marks new : List Bool) (marked : slice_get marks i ≡ Some true) (going : is_end (form_at os i) ≡ false) where
    cleared : (c : ℕ) → reached os c (slice_set marks i false) + times c (all_leads os (bindings_of os i)) ≡ reached os c marks
    cleared c =
        ap (λ xs. reached os c (slice_set marks i false) + times c xs)
        (sym (ap (itself_or (ends_of os i) i) going ∙ ends_follow os formed i) ∙ ap (leads os (ends_of os)) (sym (zero-add i)))
        ∙ sum_cleared (λ j. times c (leads os (ends_of os) j)) 0 marks i marked

    pub followed : (r : Bool) (row : List Binding) → row ≡ bindings_of os i
        → MatchBool r (MeetsTwice os (slice_set marks i false) row) (AreMarked os row (slice_set marks i false) new)
        → MatchBool r (ReachesTwice os marks) (IsFollowed os i marks new)
    followed true row is (c, many) = (c, subst (λ n. 2 ≤ n) (ap (λ bs. reached os c (slice_set marks i false) + times c (all_leads os bs)) is ∙ cleared c) many)
    followed false row is h = record {
      counts = λ c. h.counts c ∙ ap (λ bs. reached os c (slice_set marks i false) + times c (all_leads os bs)) is ∙ cleared c;
      only = λ j at.
          elim (h.only j at) [
            | inl before ↦ let w = cleared_only marks i j before in inl (w.0, λ same. absurd (w.1 same))
            | inr w ↦ inr (w.0, subst (λ (bs : List Binding). Contains bs w.0) is w.1, w.2)
          ];
    }

  module _ (order : List ℕ) (ordered : IsOrder os order) where
    -- what is marked and ends no path stands before the k-th place
    abbrev pub AreLeft : ℕ → List Bool → Type 0
    AreLeft k marks = (j m : ℕ) → slice_get marks j ≡ Some true → slice_get order m ≡ Some j → is_end (form_at os j) ≡ false → m < k

    own_ends : (k m j : ℕ) → k < length order → m < k + 1 → slice_get order m ≡ Some j → (j ≡ get_or order k 0 → is_end (form_at os j) ≡ true)
        → is_end (form_at os j) ≡ false → m < k
    own_ends k m j below before here ends going =
        elim (cases_lt m k) [
          | inl low ↦ low
          | inr high ↦
              let e : m ≡ k = omega arith in
              let same = same_Some j (get_or order k 0) (sym here ∙ ap (slice_get order) e ∙ slice_get-get_or order k 0 below) in
              absurd (false≢true (sym going ∙ ends same))
        ]

    pub left_less : (k : ℕ) → k < length order → (marks new : List Bool) → IsFollowed os (get_or order k 0) marks new → AreLeft (k + 1) marks → AreLeft k new
    left_less k below marks new h left j m at here going =
        elim (h.only j at) [
          | inl w ↦ own_ends k m j below (left j m w.0 here going) here w.1 going
          | inr w ↦
              let s = of_left os formed (get_or order k 0) w.0 w.1 in
              ordered.falls w.0 k m s.0 (slice_get-get_or order k 0 below ∙ ap Some (sym s.1)) (here ∙ ap Some (sym w.2))
        ]

    marked_ends : (marks : List Bool) → length marks ≡ length os.list → AreLeft 0 marks → (j : ℕ) → slice_get marks j ≡ Some true
        → (b : Bool) → is_end (form_at os j) ≡ b → is_end (form_at os j) ≡ true
    marked_ends marks long left j at true e = e
    marked_ends marks long left j at false e =
        let within : j < length os.list = subst (λ n. j < n) long (slice_get_within marks j true at) in
        let w = place_of os formed order ordered j within in
        let low = left j w.0 at w.1 e in
        absurd (omega arith)

    pub once_left : (marks : List Bool) → length marks ≡ length os.list → AreLeft 0 marks → ReachesOnce os marks
    once_left marks long left c =
        sum_few (λ j. times c (leads os (ends_of os) j)) c 0 marks
        (λ j at. subst (λ n. times c (leads os (ends_of os) n) ≡ if_so 1 (n == c)) (sym (zero-add j))
        (ap (λ b. times c (itself_or (ends_of os j) j b)) (marked_ends marks long left j at (is_end (form_at os j)) refl) ∙ add-zero (if_so 1 (j == c))))

  -- one object that is marked alone
  reached_alone : (n i c : ℕ) → i < n → is_end (form_at os i) ≡ false → reached os c (slice_set (replicate n false) i true) ≡ times c (ends_of os i)
  reached_alone n i c below going =
      sum_marked (λ j. times c (leads os (ends_of os) j)) 0 (replicate n false) i (alone n i below)
      ∙ ap (λ m. m + times c (leads os (ends_of os) (0 + i))) (sum_none (λ j. times c (leads os (ends_of os) j)) 0 n) ∙ zero-add (times c (leads os (ends_of os) (0 + i)))
      ∙ ap (λ j. times c (leads os (ends_of os) j)) (zero-add i) ∙ ap (λ b. times c (itself_or (ends_of os i) i b)) going

  pub answered : (n i : ℕ) (r : Bool) → i < n → is_end (form_at os i) ≡ false
      → MatchBool r (ReachesTwice os (slice_set (replicate n false) i true)) (ReachesOnce os (slice_set (replicate n false) i true)) → r ≡ has_twice (ends_of os i)
  answered n i true below going (c, many) = sym (twice_from c (ends_of os i) (subst (λ m. 2 ≤ m) (reached_alone n i c below going) many))
  answered n i false below going few = sym (once_from (ends_of os i) (λ c. subst (λ m. m ≤ 1) (reached_alone n i c below going) (few c)))
