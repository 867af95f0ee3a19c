-- Where an exception that the try of a clocked thread has caught unwinds its own statements, what comes next stands in a call that an
-- unwind block made, or in an unwind block of the thread's body.
use Rattle.std.proofs.Common.{◌≡◌, ◌⊎◌, ℕ, Bool, true, false, List, [], ◌∷◌, Option, Some, None, refl, sym, ap, ◌∙◌, subst, inl, inr, ⊎_elim}
use Rattle.std.proofs.lemmas.Option.{none-some}
use Rattle.laws_runs.specs.FlatDesign.Code.{Statement, statement_at}
use Rattle.laws_runs.specs.FlatDesign.declared.design.Design.{Design}
use Rattle.laws_runs.specs.SimModel.Residual.{Residual, Frame, Next, skip, one, batch, seq, owing, guard, try_, frame, shell, run, goal, followed, or_frame, innermost, frame_or, goal_or, put, next_of, in_frame, frame_end, before_goal, statement, owes, leaves, done, reaches, nothing}
use Rattle.laws_runs.specs.SimModel.declared.plain.Goal.{Goal}
use Rattle.laws_runs.specs.Standing.{code_of}
use Rattle.laws_runs.proofs.MarkLemmas.{before_statement}
use Rattle.laws_clocked.specs.Stores.{OnlyStores, UnwindsSpare}
use Rattle.laws_clocked.proofs.Placed.{IsOf, IsCallOf, Placed}
use Rattle.laws_clocked.proofs.Owed.{IsOwed}
use Rattle.laws_clocked.proofs.Keeping.{HasCall}

pub none_next : (s : ℕ) → nothing ≡ statement s → ⊥
none_next s e = cc

pub owes_next : (n q s : ℕ) → owes n q ≡ statement s → ⊥
owes_next n q s e = cc

pub same_next : (n m : ℕ) → statement n ≡ statement m → n ≡ m
same_next n m e = cc

pub no_leaving : (z : Frame) → nothing ≡ leaves z → ⊥
no_leaving z e = cc

pub stays_here : (n : ℕ) (z : Frame) → statement n ≡ leaves z → ⊥
stays_here n z e = cc

pub owes_stays : (n q : ℕ) (z : Frame) → owes n q ≡ leaves z → ⊥
owes_stays n q z e = cc

pub call_or : (w : Option Frame) (x : Frame) → (z : Frame) × (or_frame w x ≡ Some z)
call_or None x = (x, refl)
call_or (Some y) x = (y, refl)

-- ---- a call that ends

pub before_leaves : (n : Next) (k : Goal) (z : Frame) → before_goal n k ≡ leaves z → n ≡ leaves z
before_leaves (statement t) k z is = is
before_leaves (owes t q) k z is = is
before_leaves (leaves x) k z is = is
before_leaves done k z is = is
before_leaves (reaches j) k z is = is
before_leaves nothing k z is = cc

pub ends_as : (call : Option ℕ) (x z : Frame) → frame_end call x ≡ leaves z → x ≡ z
ends_as None x z is = cc
ends_as (Some t) x z is = cc

pub skip_or : (r : Residual) (x : Frame) (inside : Residual) → (r ≡ skip) ⊎ HasCall (frame_or r x skip inside)
skip_or skip x inside = inl refl
skip_or (one s) x inside = inr (call_or (innermost inside) x)
skip_or (batch s qs) x inside = inr (call_or (innermost inside) x)
skip_or (seq r ss) x inside = inr (call_or (innermost inside) x)
skip_or (owing r g u) x inside = inr (call_or (innermost inside) x)
skip_or (guard r g u) x inside = inr (call_or (innermost inside) x)
skip_or (try_ r handlers) x inside = inr (call_or (innermost inside) x)
skip_or (frame r y) x inside = inr (call_or (innermost inside) x)
skip_or (shell r y) x inside = inr (call_or (innermost inside) x)
skip_or (run g r) x inside = inr (call_or (innermost inside) x)
skip_or (goal r k) x inside = inr (call_or (innermost inside) x)

pub followed_call : (r : Residual) (ss : List ℕ) → HasCall r → HasCall (followed r ss)
followed_call r [] h = h
followed_call r (s ∷ ss) h = h

pub goal_call : (r : Residual) (k : Goal) (inside : Residual) (z : Frame) → next_of r ≡ leaves z → HasCall inside → HasCall (goal_or r k skip inside)
goal_call skip k inside z is h = absurd (no_leaving z is)
goal_call other k inside z is h = h

module _ (d : Design) where
  -- the statement of a call
  abbrev pub at_call : Option ℕ → Option Statement
  at_call None = None
  at_call (Some n) = statement_at (code_of d) n

  -- a statement, where it is in no call that is open: of which kind it is
  abbrev pub IsOwn : Bool → Option ℕ → ℕ → Type 0
  IsOwn u o s = (w : Bool) × IsOf d w o s × (u ≡ true → w ≡ true)

  own-next : (u : Bool) (o : Option ℕ) (r : Residual) (s : ℕ) → Placed d u o r → next_of r ≡ statement s → HasCall r ⊎ IsOwn u o s
  own-next u o skip s h is = absurd (none_next s is)
  own-next u o (one t) s h is = inr (u, subst (IsOf d u o) (same_next t s is) h, λ e. e)
  own-next u o (batch t []) s h is = absurd (none_next s is)
  own-next u o (batch t (q ∷ qs)) s h is = absurd (owes_next t q s is)
  own-next u o (seq r ss) s h is = own-next u o r s h.0 is
  own-next u o (owing r g w) s h is = own-next u o r s h.0 is
  own-next u o (guard r g w) s h is = own-next u o r s h.0 is
  own-next u o (try_ r handlers) s h is = own-next u o r s h.0 is
  own-next u o (frame r x) s h is = inl (call_or (innermost r) x)
  own-next u o (shell r x) s h is = inl (call_or (innermost r) x)
  own-next u o (run g r) s h is = ⊎_elim (λ c. inl c) (λ (z : IsOwn true o s). inr (z.0, z.1, λ e. z.2 refl)) (own-next true o r s h is)
  own-next u o (goal r k) s h is = own-next u o r s h (before_statement (next_of r) k s is)

  -- the statement that called what ends
  abbrev pub IsOwnCall : Bool → Option ℕ → Frame → Type 0
  IsOwnCall u o z = (w : Bool) × IsCallOf d w o z.call × (u ≡ true → w ≡ true)

  own-leaves : (u : Bool) (o : Option ℕ) (r : Residual) (z : Frame) → Placed d u o r → next_of r ≡ leaves z → HasCall (put r skip) ⊎ IsOwnCall u o z
  own-leaves u o skip z h is = absurd (no_leaving z is)
  own-leaves u o (one t) z h is = absurd (stays_here t z is)
  own-leaves u o (batch t []) z h is = absurd (no_leaving z is)
  own-leaves u o (batch t (q ∷ qs)) z h is = absurd (owes_stays t q z is)
  own-leaves u o (seq r ss) z h is = ⊎_elim (λ c. inl (followed_call (put r skip) ss c)) (λ c. inr c) (own-leaves u o r z h.0 is)
  own-leaves u o (owing r g w) z h is = own-leaves u o r z h.0 is
  own-leaves u o (guard r g w) z h is = own-leaves u o r z h.0 is
  own-leaves u o (try_ r handlers) z h is = own-leaves u o r z h.0 is
  own-leaves u o (frame r x) z h is = ⊎_elim
      (λ bare. let same = ends_as x.call x z (sym (ap (λ q. in_frame (next_of q) x) bare) ∙ is) in inr (u, subst (λ (y : Frame). IsCallOf d u o y.call) same h.1.0, λ e. e))
      (λ c. inl c)
      (skip_or r x (put r skip))
  own-leaves u o (shell r x) z h is = inl (call_or (innermost (put r skip)) x)
  own-leaves u o (run g r) z h is = ⊎_elim (λ c. inl c) (λ (y : IsOwnCall true o z). inr (y.0, y.1, λ e. y.2 refl)) (own-leaves true o r z h is)
  own-leaves u o (goal r k) z h is =
      let there = before_leaves (next_of r) k z is in
      ⊎_elim (λ c. inl (goal_call r k (put r skip) z there c)) (λ c. inr c) (own-leaves u o r z h there)

  -- ---- in what an unwinding owes

  undoing-next : (o : Option ℕ) (r : Residual) (s : ℕ) → IsOwed r → Placed d false o r → next_of r ≡ statement s → HasCall r ⊎ IsOf d true o s
  undoing-next o skip s owed h is = absurd (none_next s is)
  undoing-next o (owing r g w) s owed h is = undoing-next o r s owed h.0 is
  undoing-next o (shell r x) s owed h is = inl (call_or (innermost r) x)
  undoing-next o (run g r) s owed h is = ⊎_elim (λ c. inl c) (λ (z : IsOwn true o s). inr (subst (λ w. IsOf d w o s) (z.2 refl) z.1)) (own-next true o r s h is)
  undoing-next o other s owed h is = absurd owed

  undoing-leaves : (o : Option ℕ) (r : Residual) (z : Frame) → IsOwed r → Placed d false o r → next_of r ≡ leaves z → HasCall (put r skip) ⊎ IsCallOf d true o z.call
  undoing-leaves o skip z owed h is = absurd (no_leaving z is)
  undoing-leaves o (owing r g w) z owed h is = undoing-leaves o r z owed h.0 is
  undoing-leaves o (shell r x) z owed h is = inl (call_or (innermost (put r skip)) x)
  undoing-leaves o (run g r) z owed h is = ⊎_elim (λ c. inl c) (λ (y : IsOwnCall true o z). inr (subst (λ w. IsCallOf d w o z.call) (y.2 refl) y.1)) (own-leaves true o r z h is)
  undoing-leaves o other z owed h is = absurd owed

  -- ---- with the goal, and what comes behind it

  module _ (f k : ℕ) (spares : UnwindsSpare (code_of d) f k) (r : Residual) (g : Goal) (s : ℕ) (ss : List ℕ) (owed : IsOwed r) (h : Placed d false (Some f) r) where
    spared : (n : ℕ) → IsOf d true (Some f) n → (w : Statement) → statement_at (code_of d) n ≡ Some w → OnlyStores (λ m. m ≡ k → ⊥) w
    spared n is w there = let u = is.stands w there in spares is.body u.body u.unwind w is.is_body.found u.guards u.held

    pub spared-next : (n : ℕ) → next_of (seq (goal r g) (s ∷ ss)) ≡ statement n → HasCall (seq (goal r g) (s ∷ ss)) ⊎ ((w : Statement) → statement_at (code_of d) n ≡ Some w → OnlyStores (λ m. m ≡ k → ⊥) w)
    spared-next n is = ⊎_elim (λ c. inl c) (λ own. inr (spared n own)) (undoing-next (Some f) r n owed h (before_statement (next_of r) g n is))

    spared_call : (call : Option ℕ) → IsCallOf d true (Some f) call → (w : Statement) → at_call call ≡ Some w → OnlyStores (λ m. m ≡ k → ⊥) w
    spared_call None is w there = absurd (none-some w there)
    spared_call (Some n) is w there = spared n is w there

    pub spared-leaves : (z : Frame) → next_of (seq (goal r g) (s ∷ ss)) ≡ leaves z → HasCall (put (seq (goal r g) (s ∷ ss)) skip) ⊎ ((w : Statement) → at_call z.call ≡ Some w → OnlyStores (λ m. m ≡ k → ⊥) w)
    spared-leaves z is =
        let there = before_leaves (next_of r) g z is in
        ⊎_elim (λ c. inl (goal_call r g (put r skip) z there c)) (λ own. inr (spared_call z.call own)) (undoing-leaves (Some f) r z owed h there)
