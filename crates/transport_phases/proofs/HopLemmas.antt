-- What the rows of a hop say of its history.
use Rattle.std.proofs.Common.{◌≡◌, ℕ, ◌≢◌, Bool, true, false, List, [], ◌∷◌, ◌++◌, refl, sym, ap, ◌∙◌, ◌⊎◌, inl, inr, true≢false, eq-eqb}
use Rattle.std.specs.Prelude.{◌==◌, ◌||◌, ◌&&◌, not, if◌then◌else◌, Option, None, Some, unwrap_or}
use Rattle.std.specs.Ordering.{nat_cmp}
use Rattle.std.specs.List.{list_any}
use Rattle.std.specs.FinMap as map
use Rattle.std.proofs.lemmas.Bool.{eqb-true, eqb-false, ne_eqb}
use Rattle.transport_phases.specs.declared.transaction.Kept.{Kept}
use Rattle.transport_phases.specs.declared.transaction.State.{State}
use Rattle.transport_phases.specs.declared.transaction.State.TheVariants.{Idle, Req, Acc, Resp, Closing}
use Rattle.transport_phases.specs.declared.transaction.Open.{Open}
use Rattle.transport_phases.specs.declared.transaction.Open.TheVariants.{Nothing, NonBlocking, Blocking}
use Rattle.transport_phases.specs.declared.phases.Path.{Path}
use Rattle.transport_phases.specs.declared.phases.Answer.{Answer}
use Rattle.transport_phases.specs.declared.phases.Phase.{Phase}
use Rattle.transport_phases.specs.Phases.{fresh, is_fresh, is_idle, is_nothing, verdict, first_broken, call_rules, return_rules}
use Rattle.transport_phases.specs.Rows.{Rows, row_of, kept_in}
use Rattle.transport_phases.specs.Seats.{SetsRow}
use Rattle.transport_phases.specs.History.{Entry, transaction, after_entry, kept_from, kept_of, is_other_among, StandsFor}

kept_from-more : (t : ℕ) (k : Kept) (h : List Entry) (e : Entry) → kept_from t k (h ++ e ∷ []) ≡ (if transaction e == t then after_entry e (kept_from t k h) else kept_from t k h)
kept_from-more t k [] e = refl
kept_from-more t k (x ∷ h) e = kept_from-more t (if transaction x == t then after_entry x k else k) h e

pub kept_of-more : (h : List Entry) (e : Entry) (n : ℕ) (b : Bool) → (transaction e == n) ≡ b → kept_of (h ++ e ∷ []) n ≡ (if b then after_entry e (kept_of h n) else kept_of h n)
kept_of-more h e n b same = kept_from-more n fresh h e ∙ ap (λ b. if b then after_entry e (kept_of h n) else kept_of h n) same

-- what says nothing is a fresh row
fresh_by : (s : State) (o : Open) → (is_idle s && is_nothing o) ≡ true → ◌≡◌ {A = Kept} fresh (record { state = s; call = o })
fresh_by Idle Nothing is = refl
fresh_by Idle NonBlocking is = cc
fresh_by Idle Blocking is = cc
fresh_by Req o is = cc
fresh_by Acc o is = cc
fresh_by Resp o is = cc
fresh_by Closing o is = cc

pub fresh_is : (k : Kept) → is_fresh k ≡ true → fresh ≡ k
fresh_is k is = fresh_by k.state k.call is

pub unwrap_or-row_of : (k : Kept) → unwrap_or (row_of k) fresh ≡ k
unwrap_or-row_of k = by (is_fresh k) refl
  where
    by : (b : Bool) → is_fresh k ≡ b → unwrap_or (if b then None else Some k) fresh ≡ k
    by true is = fresh_is k is
    by false is = refl

-- a row that was read
pub kept_read : (r : Rows) (h : List Entry) → StandsFor r h → (t : ℕ) → kept_in r.kept t ≡ kept_of h t
kept_read r h stands t = ap (λ o. unwrap_or o fresh) (stands t) ∙ unwrap_or-row_of (kept_of h t)

-- a row that was set
module _ (old new : map.FinMap nat_cmp Kept) (t : ℕ) (k : Kept) (set : SetsRow old new t k) where
  pub get_there : map.get new t ≡ row_of k
  get_there = set t ∙ ap (λ b. if b then row_of k else map.get old t) (eq-eqb t t refl)

  pub get_apart : (u : ℕ) → u ≢ t → map.get new u ≡ map.get old u
  get_apart u apart = set u ∙ ap (λ b. if b then row_of k else map.get old u) (ne_eqb t u (λ same. apart (sym same)))

  pub kept_there : kept_in new t ≡ k
  kept_there = ap (λ o. unwrap_or o fresh) get_there ∙ unwrap_or-row_of k

  pub kept_apart : (u : ℕ) → u ≢ t → kept_in new u ≡ kept_in old u
  kept_apart u apart = ap (λ o. unwrap_or o fresh) (get_apart u apart)

module _ (old new : Rows) (h : List Entry) (stands : StandsFor old h) (e : Entry) (t : ℕ) (of : transaction e ≡ t) (k : Kept) (is : k ≡ after_entry e (kept_of h t)) (set : SetsRow old.kept new.kept t k) where
  row_after : (n : ℕ) (b : Bool) → (transaction e == n) ≡ b → map.get new.kept n ≡ row_of (kept_of (h ++ e ∷ []) n)
  row_after n true same =
      let here : t ≡ n = sym of ∙ eqb-true (transaction e) n same in
      ap (map.get new.kept) (sym here) ∙ get_there old.kept new.kept t k set ∙ ap row_of (is ∙ ap (λ m. after_entry e (kept_of h m)) here ∙ sym (kept_of-more h e n true same))
  row_after n false same =
      let apart : n ≢ t = λ here. eqb-false (transaction e) n same (of ∙ sym here) in
      get_apart old.kept new.kept t k set n apart ∙ stands n ∙ ap row_of (sym (kept_of-more h e n false same))

  pub stands_after : StandsFor new (h ++ e ∷ [])
  stands_after n = row_after n (transaction e == n) refl

or_true : (a b : Bool) → b ≡ true → (a || b) ≡ true
or_true true b is = refl
or_true false b is = is

-- a transaction that the entries have changed stands among them
named_first : (test : ℕ → Bool) (i : ℕ) → test i ≡ true → (e : Entry) (h : List Entry) (k : Kept) → ((m : Kept) → (kept_from i m h ≡ m) ⊎ (list_any (λ x. test (transaction x)) h ≡ true)) → (b : Bool) → (transaction e == i) ≡ b → (kept_from i k (e ∷ h) ≡ k) ⊎ (list_any (λ x. test (transaction x)) (e ∷ h) ≡ true)
named_first test i passes e h k later true same = inr (ap (λ b. b || list_any (λ x. test (transaction x)) h) (ap test (eqb-true (transaction e) i same) ∙ passes))
named_first test i passes e h k later false same =
    let is : kept_from i k (e ∷ h) ≡ kept_from i k h = ap (λ b. kept_from i (if b then after_entry e k else k) h) same in
    elim (later k) [
      | inl kept ↦ inl (is ∙ kept)
      | inr found ↦ inr (or_true (test (transaction e)) (list_any (λ x. test (transaction x)) h) found)
    ]

named : (test : ℕ → Bool) (i : ℕ) → test i ≡ true → (h : List Entry) (k : Kept) → (kept_from i k h ≡ k) ⊎ (list_any (λ e. test (transaction e)) h ≡ true)
named test i passes [] k = inl refl
named test i passes (e ∷ h) k = named_first test i passes e h k (named test i passes h) (transaction e == i) refl

none_passes : (test : ℕ → Bool) → ((n : ℕ) → test n ≡ false) → (h : List Entry) → list_any (λ e. test (transaction e)) h ≡ false
none_passes test none [] = refl
none_passes test none (e ∷ h) = ap (λ b. b || list_any (λ x. test (transaction x)) h) (none (transaction e)) ∙ none_passes test none h

-- another transaction that passes the test is found in the history
pub other_in_history : (test : Kept → Bool) → test fresh ≡ false → (h : List Entry) (t i : ℕ) → i ≢ t → test (kept_of h i) ≡ true → is_other_among (λ n. test (kept_of h n)) t h ≡ true
other_in_history test idle h t i apart passes =
    elim (named (λ n. not (n == t) && test (kept_of h n)) i (ap (λ b. not b && test (kept_of h i)) (ne_eqb i t apart) ∙ passes) h fresh) [
      | inl kept ↦ absurd (true≢false (sym passes ∙ ap test kept ∙ idle))
      | inr found ↦ found
    ]

module _ (test : Kept → Bool) (idle : test fresh ≡ false) (r : Rows) (h : List Entry) (stands : StandsFor r h) (t : ℕ) where
  pub other_found : (i : ℕ) → i ≢ t → test (kept_in r.kept i) ≡ true → is_other_among (λ n. test (kept_of h n)) t h ≡ true
  other_found i apart passes = other_in_history test idle h t i apart (ap test (sym (kept_read r h stands i)) ∙ passes)

  pub none_other : ((i : ℕ) → i ≢ t → test (kept_in r.kept i) ≡ false) → is_other_among (λ n. test (kept_of h n)) t h ≡ false
  none_other none = none_passes (λ n. not (n == t) && test (kept_of h n)) (λ n. at n (n == t) refl) h
    where
      at : (n : ℕ) (b : Bool) → (n == t) ≡ b → (not (n == t) && test (kept_of h n)) ≡ false
      at n true same = ap (λ b. not b && test (kept_of h n)) same
      at n false same = ap (λ b. not b && test (kept_of h n)) same ∙ ap test (sym (kept_read r h stands n)) ∙ none n (eqb-false n t same)

pub call_judged : (k l : Kept) (a b x y : Bool) (path : Path) (p q : Option Phase) (complete handled : Bool) → k ≡ l → a ≡ x → b ≡ y → p ≡ q → verdict (first_broken (call_rules k a b path p complete handled)) ≡ verdict (first_broken (call_rules l x y path q complete handled))
call_judged k l a b x y path p q complete handled kept request respond asked =
    ap (λ k. verdict (first_broken (call_rules k a b path p complete handled))) kept
    ∙ ap (λ a. verdict (first_broken (call_rules l a b path p complete handled))) request
    ∙ ap (λ b. verdict (first_broken (call_rules l x b path p complete handled))) respond
    ∙ ap (λ p. verdict (first_broken (call_rules l x y path p complete handled))) asked

pub return_judged : (k l : Kept) (a b : Bool) (x y : Option Answer) (p q : Option Phase) (complete : Bool) → k ≡ l → a ≡ b → x ≡ y → p ≡ q → verdict (first_broken (return_rules k.state a x p complete)) ≡ verdict (first_broken (return_rules l.state b y q complete))
return_judged k l a b x y p q complete kept others answered handed =
    ap (λ k. verdict (first_broken (return_rules k.state a x p complete))) kept
    ∙ ap (λ a. verdict (first_broken (return_rules l.state a x p complete))) others
    ∙ ap (λ x. verdict (first_broken (return_rules l.state b x p complete))) answered
    ∙ ap (λ p. verdict (first_broken (return_rules l.state b y p complete))) handed
