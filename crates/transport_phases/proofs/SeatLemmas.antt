-- Who requests and who responds on a hop, after one of its rows was set.
use Rattle.std.proofs.Common.{◌≡◌, ℕ, ◌≢◌, Bool, true, false, Option, None, Some, List, refl, sym, ap, subst, ◌∙◌, ◌⊎◌, inl, inr, true≢false, eq-eqb}
use Rattle.std.specs.Prelude.{◌==◌, not, if◌then◌else◌, unwrap_or}
use Rattle.std.specs.Ordering.{nat_cmp}
use Rattle.std.specs.FinMap as map
use Rattle.std.proofs.lemmas.Bool.{cases_eq, eqb-true, ne_eqb}
use Rattle.transport_phases.specs.declared.transaction.Kept.{Kept}
use Rattle.transport_phases.specs.Phases.{fresh, is_requesting, is_responding}
use Rattle.transport_phases.specs.Rows.{Rows, row_of, kept_in}
use Rattle.transport_phases.specs.History.{Entry, kept_of, is_other_among, StandsFor}
use Rattle.transport_phases.specs.Seats.{has_seat, has_other, seat_without, seat_after, SetsRow, IsSeat, IsSound, MayEnter}
use Rattle.transport_phases.proofs.HopLemmas.{get_there, get_apart, kept_there, kept_apart, other_found, none_other}

apart_from : (t u : ℕ) → u ≢ t → (t == u) ≡ false
apart_from t u apart = ne_eqb t u (λ same. apart (sym same))

-- where one has the seat no other one does
seat_alone : (seat : Option ℕ) (t u : ℕ) → has_seat seat t ≡ true → u ≢ t → has_seat seat u ≡ false
seat_alone None t u is apart = refl
seat_alone (Some w) t u is apart = ap (λ n. n == u) (eqb-true w t is) ∙ apart_from t u apart

-- where no other one has it, this one may
seat_free : (seat : Option ℕ) (t u : ℕ) → has_other seat t ≡ false → u ≢ t → has_seat seat u ≡ false
seat_free None t u none apart = refl
seat_free (Some w) t u none apart = by (w == t) refl
  where
    by : (b : Bool) → (w == t) ≡ b → (w == u) ≡ false
    by true is = ap (λ n. n == u) (eqb-true w t is) ∙ apart_from t u apart
    by false is = absurd (true≢false (sym (ap not is) ∙ none))

-- who has it afterwards
seat_there : (seat : Option ℕ) (t : ℕ) (takes : Bool) → has_seat (seat_after seat t takes) t ≡ takes
seat_there seat t true = eq-eqb t t refl
seat_there None t false = refl
seat_there (Some u) t false = by (u == t) refl
  where
    by : (b : Bool) → (u == t) ≡ b → has_seat (if b then None else Some u) t ≡ false
    by true is = refl
    by false is = is

seat_apart : (seat : Option ℕ) (t u : ℕ) → u ≢ t → has_seat (seat_without t seat) u ≡ has_seat seat u
seat_apart None t u apart = refl
seat_apart (Some w) t u apart = by (w == t) refl
  where
    by : (b : Bool) → (w == t) ≡ b → has_seat (if b then None else Some w) u ≡ (w == u)
    by true is = sym (ap (λ n. n == u) (eqb-true w t is) ∙ apart_from t u apart)
    by false is = refl

module _ (test : Kept → Bool) (r : Rows) (new : map.FinMap nat_cmp Kept) (seat : Option ℕ) (seated : IsSeat test r.kept seat) (t : ℕ) (k : Kept) (set : SetsRow r.kept new t k) (enter : MayEnter test r t k) where
  others_seat : (u : ℕ) → u ≢ t → (takes : Bool) → test k ≡ takes → test (kept_in r.kept u) ≡ has_seat (seat_after seat t takes) u
  others_seat u apart false is = seated u ∙ sym (seat_apart seat t u apart)
  others_seat u apart true is =
      none (enter is) ∙ sym (apart_from t u apart)
    where
      none : (test (kept_in r.kept t) ≡ true) ⊎ ((u : ℕ) → u ≢ t → test (kept_in r.kept u) ≡ false) → test (kept_in r.kept u) ≡ false
      none (inl before) = seated u ∙ seat_alone seat t u (sym (seated t) ∙ before) apart
      none (inr no_other) = no_other u apart

  pub seat_set : IsSeat test new (seat_after seat t (test k))
  seat_set u = at (cases_eq u t)
    where
      at : (u ≡ t) ⊎ (u ≢ t) → test (kept_in new u) ≡ has_seat (seat_after seat t (test k)) u
      at (inl same) =
          ap (λ n. test (kept_in new n)) same ∙ ap test (kept_there r.kept new t k set)
          ∙ sym (ap (has_seat (seat_after seat t (test k))) same ∙ seat_there seat t (test k))
      at (inr apart) = ap test (kept_apart r.kept new t k set u apart) ∙ others_seat u apart (test k) refl

-- a row that says nothing is none, afterwards too
pub says_set : (old new : map.FinMap nat_cmp Kept) (t : ℕ) (k : Kept) → ((u : ℕ) → map.get old u ≡ row_of (kept_in old u)) → SetsRow old new t k → (u : ℕ) → map.get new u ≡ row_of (kept_in new u)
says_set old new t k says set u = at (cases_eq u t)
  where
    at : (u ≡ t) ⊎ (u ≢ t) → map.get new u ≡ row_of (kept_in new u)
    at (inl same) =
        ap (map.get new) same ∙ get_there old new t k set ∙ ap row_of (sym (ap (kept_in new) same ∙ kept_there old new t k set))
    at (inr apart) =
        get_apart old new t k set u apart ∙ says u ∙ ap row_of (sym (kept_apart old new t k set u apart))

-- what the seat says of the other transactions
module _ (test : Kept → Bool) (r : Rows) (seat : Option ℕ) (seated : IsSeat test r.kept seat) (t : ℕ) where
  pub no_other : has_other seat t ≡ false → (u : ℕ) → u ≢ t → test (kept_in r.kept u) ≡ false
  no_other none u apart = seated u ∙ seat_free seat t u none apart

  pub other_seat : test fresh ≡ false → (h : List Entry) → StandsFor r h → has_other seat t ≡ is_other_among (λ n. test (kept_of h n)) t h
  other_seat idle h stands = by (has_other seat t) refl
    where
      by : (b : Bool) → has_other seat t ≡ b → b ≡ is_other_among (λ n. test (kept_of h n)) t h
      by false none = sym (none_other test idle r h stands t (no_other none))
      by true some = found seat refl some
        where
          found : (s : Option ℕ) → seat ≡ s → has_other s t ≡ true → true ≡ is_other_among (λ n. test (kept_of h n)) t h
          found None is other = absurd (true≢false (sym other))
          found (Some w) is other = sym (other_found test idle r h stands t w (apart (w == t) refl) (seated w ∙ ap (λ s. has_seat s w) is ∙ eq-eqb w w refl))
            where
              apart : (b : Bool) → (w == t) ≡ b → w ≢ t
              apart true same = absurd (true≢false (sym other ∙ ap not same))
              apart false same = λ here. true≢false (sym (eq-eqb w t here) ∙ same)

-- where there is no row nobody requests or responds
kept_empty : (t : ℕ) → kept_in map.empty t ≡ fresh
kept_empty t = ap (λ o. unwrap_or o fresh) (map.get-empty nat_cmp t)

pub sound_empty : (rows : map.FinMap nat_cmp Kept) → rows ≡ map.empty → IsSound rows None None
sound_empty rows is =
    subst (λ m. IsSound m None None) (sym is)
    (record {
      says = λ t. map.get-empty nat_cmp t ∙ sym (ap row_of (kept_empty t));
      requests = λ t. ap is_requesting (kept_empty t);
      responds = λ t. ap is_responding (kept_empty t);
    })
