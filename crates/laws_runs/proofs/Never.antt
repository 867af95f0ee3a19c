-- A guard that is being unwound, or is gone, is never left from then on.
use Rattle.std.proofs.Common.{◌≡◌, ◌<◌, ◌||◌, ℕ, false, [], ◌∷◌, slice_get, Some, None, refl, sym, ap, ◌∙◌, arith, ne_eqb}
use Rattle.std.proofs.lemmas.Option.{same_Some}
use Rattle.sim_model.specs.Residual.{Residual, skip, goal, guard, enter, settle, fall, put, taken_off, block, entered, in_innermost}
use Rattle.sim_model.specs.Unwinding.{unw, raise, returned, return_marks}
use Rattle.sim_model.specs.Configuration.{Instance}
use Rattle.sim_model.specs.Storing.{with_local}
use Rattle.laws_runs.specs.Standing.{code_of}
use Rattle.laws_runs.proofs.GoalParts.{Parts, changed_in, residual_in, Alike, IsKept, IsSettled, IsKeptBetween, IsKeptByTakings}
use Rattle.laws_runs.proofs.Each.{Each, each-change, each-last, each-map}
use Rattle.laws_runs.proofs.Inside.{is_inside, unleft, unleft-append, guardless, block-inside, entered-inside, settle-inside, fall-unleft, put-inside, returned-inside, return-unleft, local-inside, off-inside, unw-inside, raise-inside}

pub record Never (g : ℕ) (x : Parts) : Type 0 where
  pub nowhere : Each (λ p (i : Instance). is_inside g i.residual ≡ false) x.instances
  pub unleft_yet : unleft g x.marks
  pub given : g < x.next_guard

module _ (g : ℕ) where
  never_to : (x : Parts) (q : ℕ) (i : Instance) (r : Residual) → slice_get x.instances q ≡ Some i → (is_inside g i.residual ≡ false → is_inside g r ≡ false) → Never g x → Each (λ p (j : Instance). is_inside g j.residual ≡ false) (residual_in x q r).instances
  never_to x q i r at becomes h = each-change (λ p (j : Instance). is_inside g j.residual ≡ false) x.instances q (λ j. record j { residual = r }) (λ j there k. becomes (ap (λ (z : Instance). is_inside g z.residual) (same_Some i j (sym at ∙ there)) ∙ k)) h.nowhere

  -- of one whose residual is r
  never_here : (x : Parts) (q : ℕ) (i : Instance) (r s : Residual) → slice_get x.instances q ≡ Some i → i.residual ≡ r → (is_inside g r ≡ false → is_inside g s ≡ false) → Never g x → Each (λ p (j : Instance). is_inside g j.residual ≡ false) (residual_in x q s).instances
  never_here x q i r s at is becomes h = never_to x q i s at (λ k. becomes (ap (is_inside g) (sym is) ∙ k)) h

  -- what r was has no such guard
  here_free : (x : Parts) (q : ℕ) (i : Instance) (r : Residual) → slice_get x.instances q ≡ Some i → i.residual ≡ r → Never g x → is_inside g r ≡ false
  here_free x q i r at is h = ap (is_inside g) (sym is) ∙ h.nowhere q i at

  same_never : (x : Parts) (q : ℕ) (f : Instance → Instance) → ((i : Instance) → Alike i (f i)) → Never g x → Never g (changed_in x q f)
  same_never x q f alike h = record {
    nowhere = each-change (λ p (j : Instance). is_inside g j.residual ≡ false) x.instances q f (λ i at k. ap (is_inside g) (alike i).residual ∙ k) h.nowhere;
    unleft_yet = h.unleft_yet;
    given = h.given;
  }

  begins_never : (x : Parts) (q : ℕ) (f : Instance → Instance) → ((i : Instance) → is_inside g (f i).residual ≡ false) → Never g x → Never g (changed_in x q f)
  begins_never x q f new h = record {
    nowhere = each-change (λ p (j : Instance). is_inside g j.residual ≡ false) x.instances q f (λ i at k. new i) h.nowhere;
    unleft_yet = h.unleft_yet;
    given = h.given;
  }

  pub never-settled : (p : ℕ) → IsSettled p (Never g)
  never-settled p x i at h = record {
    nowhere = never_to x p i (settle (code_of x.design) i.residual) at (settle-inside g (code_of x.design) i.residual) h;
    unleft_yet = unleft-append g x.marks (fall p (code_of x.design) i.residual) h.unleft_yet (fall-unleft g (code_of x.design) p i.residual (h.nowhere p i at));
    given = h.given;
  }

  pub never-kept : (p : ℕ) → IsKept p (Never g)
  never-kept p = record {
    same = same_never;
    leaves = λ x more top none h. record { nowhere = h.nowhere; unleft_yet = h.unleft_yet; given = h.given };
    pushes = λ x q more top off h. record { nowhere = h.nowhere; unleft_yet = h.unleft_yet; given = h.given };
    passes = λ x i r at may h. record { nowhere = never_here x p i r (put r skip) at.here at.is (put-inside g skip refl r) h; unleft_yet = h.unleft_yet; given = h.given };
    puts = λ x i r n at next new is_new h. record { nowhere = never_here x p i r (put r new) at.here at.is (put-inside g new (guardless g new is_new.guards) r) h; unleft_yet = h.unleft_yet; given = h.given };
    takes_off = λ x i r at h. record { nowhere = never_here x p i r (taken_off r) at.here at.is (λ e. off-inside g r ∙ e) h; unleft_yet = h.unleft_yet; given = h.given };
    guards = λ x i r n at next b u h.
        let new = guard (block (code_of x.design) b) x.next_guard u in
        let other = ne_eqb x.next_guard g (λ same. let lt = h.given in let e = same in absurd (omega (arith, lt, e))) in
        let lt = h.given in
        record {
          nowhere = never_here x p i r (put r new) at.here at.is (put-inside g new (ap (λ z. z || is_inside g (block (code_of x.design) b)) other ∙ block-inside g (code_of x.design) b) r) h;
          unleft_yet = unleft-append g x.marks (enter p x.next_guard ∷ []) h.unleft_yet refl;
          given = omega (arith, lt);
        };
    returns = λ x i r n at next v h. record {
      nowhere = never_here x p i r (returned v r) at.here at.is (returned-inside g v r) h;
      unleft_yet = unleft-append g x.marks (return_marks p r) h.unleft_yet (return-unleft g p r (here_free x p i r at.here at.is h));
      given = h.given;
    };
    locals = λ x n v h. record {
      nowhere = each-change (λ q (j : Instance). is_inside g j.residual ≡ false) x.instances p (λ j. record j { residual = in_innermost (with_local n v) j.residual }) (λ j at k. local-inside g (with_local n v) j.residual ∙ k) h.nowhere;
      unleft_yet = h.unleft_yet;
      given = h.given;
    };
    raises = λ x q i r e k at is stands none caught inner h. record { nowhere = never_here x q i r (raise (code_of x.design) r e k) at is (raise-inside g (code_of x.design) e k r) h; unleft_yet = h.unleft_yet; given = h.given };
    unwinds = λ x q i k at stands none outer h. record { nowhere = never_to x q i (goal (unw i.residual) k) at (λ f. unw-inside g i.residual) h; unleft_yet = h.unleft_yet; given = h.given };
    over = λ x i r at over f none stays h. begins_never x p f (λ j. ap (is_inside g) (none j)) h;
    begins = λ x q i f args at left h. begins_never x q _ (λ j. entered-inside g (code_of x.design) f args None None) h;
    spawned = λ x new none begun lives h. record { nowhere = each-last (λ q (j : Instance). is_inside g j.residual ≡ false) x.instances new (ap (is_inside g) none) h.nowhere; unleft_yet = h.unleft_yet; given = h.given };
    tries_hop = λ x s hop t e blocking entry unbroken h. record { nowhere = h.nowhere; unleft_yet = h.unleft_yet; given = h.given };
    calls_hop = λ x i r n at next via f args e hop entry unbroken h. record {
      nowhere = never_here x p i r (put r (entered (code_of x.design) f args (Some n) (Some via))) at.here at.is (put-inside g (entered (code_of x.design) f args (Some n) (Some via)) (entered-inside g (code_of x.design) f args (Some n) (Some via)) r) h;
      unleft_yet = h.unleft_yet;
      given = h.given;
    };
    returns_hop = λ x i r y at next via e over entry unbroken h. record { nowhere = never_here x p i r (put r skip) at.here at.is (put-inside g skip refl r) h; unleft_yet = h.unleft_yet; given = h.given };
  }

  pub never-between : IsKeptBetween (Never g)
  never-between = record {
    same = same_never;
    alike = λ x f alike h. record { nowhere = each-map (λ q (j : Instance). is_inside g j.residual ≡ false) x.instances f (λ q i k. ap (is_inside g) (alike i).residual ∙ k) h.nowhere; unleft_yet = h.unleft_yet; given = h.given };
  }

  pub never-taken : IsKeptByTakings (Never g)
  never-taken = record {
    taken = λ x p empty h. record { nowhere = h.nowhere; unleft_yet = h.unleft_yet; given = h.given };
    begins = λ x q i f args at left h. begins_never x q _ (λ j. entered-inside g (code_of x.design) f args None None) h;
  }
