-- Nothing is kept at first.
use Rattle.std.proofs.Common.{◌≡◌, ℕ, Bool, true, false, true≢false, cond, List, [], ◌∷◌, length, Some, None, refl, sym, ◌∙◌, subst, arith}
use Rattle.std.specs.Prelude.{◌==◌}
use Rattle.wait_lists.specs.declared.heads.Firsts.{Firsts}
use Rattle.wait_lists.specs.declared.nodes.Node.{Node}
use Rattle.wait_lists.specs.declared.waiter.Waiter.{Waiter}
use Rattle.wait_lists.specs.Chains.{none, free, IsList}
use Rattle.wait_lists.specs.Nodes.{by_event, begins_at, first_in, IsHeads}
use Rattle.wait_lists.specs.Layout.{Fit}
use Rattle.wait_lists.proofs.Counted.{times-same}
use Rattle.wait_lists.proofs.Chains.{lives}

first_none : (heads : Firsts) (fr c : ℕ) → heads.near.items ≡ [] → heads.far.entries ≡ [] → fr ≡ none → first_in heads fr c ≡ none
first_none heads fr c no_near no_far is = (λ i. cond (c == free) (is i) (begins_at (no_near i) (no_far i) c)) ∙ either (c == free)
  where
    either : (b : Bool) → cond b none none ≡ none
    either true = refl
    either false = refl

module _ (heads : Firsts) (fr : ℕ) (no_near : heads.near.items ≡ []) (no_far : heads.far.entries ≡ []) (free_is : fr ≡ none) (heads_are : IsHeads heads) where
  no_list : (fs : List ℕ) (first : ℕ) → IsList (by_event []) free first fs → length fs ≡ 0
  no_list [] first list = refl
  no_list (x ∷ xs) first list = absurd (true≢false (sym (lives (by_event []) free first (x ∷ xs) list x (omega (arith, times-same x x xs refl)))))

  pub nothing-fit : Fit [] [] [] [] heads fr 0
  nothing-fit = record {
    seats = record {
      placed = λ p at found. let e : None ≡ Some at = found in cc;
      owned = λ at s found some. let e : None ≡ Some s = found in cc;
      vacated = λ at some. absurd (omega arith);
      apart = λ at. omega arith;
    };
    lists = λ c some. ([], record { goes = first_none heads fr c no_near no_far free_is; each = λ j. refl });
    rows = λ at w found. let e : None ≡ Some w = found in cc;
    homes = λ j c w tagged waits. absurd (true≢false (sym tagged));
    heads_are = heads_are;
    sums = record {
      fits = λ at s found. let e : None ≡ Some s = found in cc;
      in_all = refl;
      enough = omega arith;
      counts = λ fs list. omega (arith, no_list fs fr list);
      roomy = omega arith;
    };
    few_nodes = omega arith;
    few_places = omega arith;
  }

pub nothing-there : (es : List (ℕ × ℕ)) (ws : List Waiter) (vacant : List ℕ) (nodes : List Node) (heads : Firsts) (fr : ℕ) → es ≡ [] → ws ≡ [] → vacant ≡ [] → nodes ≡ [] → heads.near.items ≡ [] → heads.far.entries ≡ [] → fr ≡ none → IsHeads heads
    → Fit es ws vacant nodes heads fr 0
nothing-there es ws vacant nodes heads fr no_es no_ws no_vacant no_nodes no_near no_far free_is heads_are =
    let P : List (ℕ × ℕ) → Type 0 = λ l. Fit l ws vacant nodes heads fr 0 in
    let Q : List Waiter → Type 0 = λ l. Fit [] l vacant nodes heads fr 0 in
    let R : List ℕ → Type 0 = λ l. Fit [] [] l nodes heads fr 0 in
    let S : List Node → Type 0 = λ l. Fit [] [] [] l heads fr 0 in
    subst P (sym no_es) (subst Q (sym no_ws) (subst R (sym no_vacant) (subst S (sym no_nodes) (nothing-fit heads fr no_near no_far free_is heads_are))))
