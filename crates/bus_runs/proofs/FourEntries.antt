-- Transactions that come one behind another break no rule: each leaves its hop as it found it.
use Rattle.std.proofs.Common.{◌≡◌, ℕ, Bool, true, false, cond, ◌&&◌, not, pos, List, [], ◌∷◌, ◌++◌, None, refl, ap, ◌∙◌, eq-eqb}
use Rattle.std.specs.Prelude.{◌||◌, ◌==◌}
use Rattle.transport_phases.specs.declared.phases.Path.TheVariants.{Forward, Backward}
use Rattle.transport_phases.specs.declared.transaction.State.TheVariants.{Req, Resp}
use Rattle.transport_phases.specs.declared.transaction.Open.TheVariants.{Nothing, NonBlocking}
use Rattle.transport_phases.specs.declared.transaction.Kept.{Kept}
use Rattle.transport_phases.specs.Phases.{phase_of, answer_of, fresh, is_requesting, is_responding, first_broken, call_rules, return_rules}
use Rattle.transport_phases.specs.History.{Entry, Call, Return, transaction, after_entry, kept_from, kept_of, is_other_among, other_requests, other_responds, broken}
use Rattle.transport_phases.specs.Unbroken.{UnbrokenFrom, Unbroken}
use Rattle.bus_runs.specs.Hops.{entries_of}

kept_append : (u : ℕ) (k : Kept) (h : List Entry) (e : Entry) → kept_from u k (h ++ e ∷ []) ≡ cond (transaction e == u) (after_entry e (kept_from u k h)) (kept_from u k h)
kept_append u k [] e = refl
kept_append u k (x ∷ h) e = kept_append u (cond (transaction x == u) (after_entry x k) k) h e

-- the transaction stands there, and all others are fresh
abbrev Stands : List Entry → ℕ → Kept → Type 0
Stands h t k = (u : ℕ) → kept_of h u ≡ cond (t == u) k fresh

stands_next : (h : List Entry) (t : ℕ) (k : Kept) (e : Entry) → transaction e ≡ t → Stands h t k → Stands (h ++ e ∷ []) t (after_entry e k)
stands_next h t k e its stands u =
    kept_append u fresh h e
    ∙ ap (λ n. cond (n == u) (after_entry e (kept_of h u)) (kept_of h u)) its
    ∙ ap (λ x. cond (t == u) (after_entry e x) x) (stands u)
    ∙ by_test (t == u)
  where
    by_test : (b : Bool) → cond b (after_entry e (cond b k fresh)) (cond b k fresh) ≡ cond b (after_entry e k) fresh
    by_test true = refl
    by_test false = refl

kept_here : (h : List Entry) (t : ℕ) (k : Kept) → Stands h t k → kept_of h t ≡ k
kept_here h t k stands = stands t ∙ ap (λ b. cond b k fresh) (eq-eqb t t refl)

none_among : (test : ℕ → Bool) (t : ℕ) → ((n : ℕ) → test n ≡ false) → (h : List Entry) → is_other_among test t h ≡ false
none_among test t none [] = refl
none_among test t none (e ∷ h) = by_test (not (transaction e == t)) (test (transaction e)) (none (transaction e)) (none_among test t none h)
  where
    by_test : (b c : Bool) → c ≡ false → is_other_among test t h ≡ false → ((b && c) || is_other_among test t h) ≡ false
    by_test true true is rest = is
    by_test true false is rest = rest
    by_test false c is rest = rest

none_does : (does : Kept → Bool) (h : List Entry) (t : ℕ) (k : Kept) → does k ≡ false → does fresh ≡ false → Stands h t k → (n : ℕ) → does (kept_of h n) ≡ false
none_does does h t k mine others stands n = ap does (stands n) ∙ by_test (t == n)
  where
    by_test : (b : Bool) → does (cond b k fresh) ≡ false
    by_test true = mine
    by_test false = others

requests : (h : List Entry) (t : ℕ) (k : Kept) → k ≡ fresh → Stands h t k → broken h (Call t Forward (pos 1) false true) ≡ None
requests h t k is stands =
    λ i. first_broken (call_rules (kept i) (none i) (other_responds h t) Forward (phase_of (pos 1)) false true)
  where
    kept : kept_of h t ≡ fresh
    kept = kept_here h t k stands ∙ is

    none : other_requests h t ≡ false
    none = none_among (λ n. is_requesting (kept_of h n)) t (none_does is_requesting h t k (ap is_requesting is) refl stands) h

accepts : (h : List Entry) (t : ℕ) (k : Kept) → k.state ≡ Req → Stands h t k → broken h (Return t (pos 0) (pos 1) false) ≡ None
accepts h t k is stands = λ i. first_broken (return_rules (state i) (other_responds h t) (answer_of (pos 0)) (phase_of (pos 1)) false)
  where
    state : (kept_of h t).state ≡ Req
    state = ap (λ (x : Kept). x.state) (kept_here h t k stands) ∙ is

responds : (h : List Entry) (t : ℕ) → Stands h t (record { state = Req; call = Nothing }) → broken h (Call t Backward (pos 3) true true) ≡ None
responds h t stands =
    λ i. first_broken (call_rules (kept i) (other_requests h t) (none i) Backward (phase_of (pos 3)) true true)
  where
    kept : kept_of h t ≡ record { state = Req; call = Nothing }
    kept = kept_here h t (record { state = Req; call = Nothing }) stands

    none : other_responds h t ≡ false
    none = none_among (λ n. is_responding (kept_of h n)) t (none_does is_responding h t (record { state = Req; call = Nothing }) refl refl stands) h

completes : (h : List Entry) (t : ℕ) (k : Kept) → k.state ≡ Resp → Stands h t k → broken h (Return t (pos 2) (pos 3) true) ≡ None
completes h t k is stands = λ i. first_broken (return_rules (state i) (other_responds h t) (answer_of (pos 2)) (phase_of (pos 3)) true)
  where
    state : (kept_of h t).state ≡ Resp
    state = ap (λ (x : Kept). x.state) (kept_here h t k stands) ∙ is

all_fresh : (h : List Entry) (t : ℕ) → Stands h t fresh → (u : ℕ) → kept_of h u ≡ fresh
all_fresh h t stands u = stands u ∙ by_test (t == u)
  where
    by_test : (b : Bool) → cond b fresh fresh ≡ fresh
    by_test true = refl
    by_test false = refl

none_stands : (h : List Entry) (t : ℕ) → ((u : ℕ) → kept_of h u ≡ fresh) → Stands h t fresh
none_stands h t none u = none u ∙ by_test (t == u)
  where
    by_test : (b : Bool) → fresh ≡ cond b fresh fresh
    by_test true = refl
    by_test false = refl

unbroken_from : (ks : List ℕ) (h : List Entry) → ((u : ℕ) → kept_of h u ≡ fresh) → UnbrokenFrom h (entries_of ks)
unbroken_from [] h none = tt
unbroken_from (k ∷ ks) h none =
    let first : Entry = Call k Forward (pos 1) false true in
    let second : Entry = Return k (pos 0) (pos 1) false in
    let third : Entry = Call k Backward (pos 3) true true in
    let fourth : Entry = Return k (pos 2) (pos 3) true in
    let begun : Stands h k fresh = none_stands h k none in
    let called : Stands (h ++ first ∷ []) k (record { state = Req; call = NonBlocking }) = stands_next h k fresh first refl begun in
    let accepted : Stands ((h ++ first ∷ []) ++ second ∷ []) k (record { state = Req; call = Nothing }) = stands_next (h ++ first ∷ []) k (record { state = Req; call = NonBlocking }) second refl called in
    let responding : Stands (((h ++ first ∷ []) ++ second ∷ []) ++ third ∷ []) k (record { state = Resp; call = NonBlocking }) =
    stands_next ((h ++ first ∷ []) ++ second ∷ []) k (record { state = Req; call = Nothing }) third refl accepted in
    let over : Stands ((((h ++ first ∷ []) ++ second ∷ []) ++ third ∷ []) ++ fourth ∷ []) k fresh =
    stands_next (((h ++ first ∷ []) ++ second ∷ []) ++ third ∷ []) k (record { state = Resp; call = NonBlocking }) fourth refl responding in (
      requests h k fresh refl begun,
      (
        accepts (h ++ first ∷ []) k (record { state = Req; call = NonBlocking }) refl called,
        (
          responds ((h ++ first ∷ []) ++ second ∷ []) k accepted,
          (
            completes (((h ++ first ∷ []) ++ second ∷ []) ++ third ∷ []) k (record { state = Resp; call = NonBlocking }) refl responding,
            unbroken_from ks ((((h ++ first ∷ []) ++ second ∷ []) ++ third ∷ []) ++ fourth ∷ []) (all_fresh ((((h ++ first ∷ []) ++ second ∷ []) ++ third ∷ []) ++ fourth ∷ []) k over),
          ),
        ),
      ),
    )

pub never_broken : (ks : List ℕ) → Unbroken (entries_of ks)
never_broken ks = unbroken_from ks [] (λ u. refl)
