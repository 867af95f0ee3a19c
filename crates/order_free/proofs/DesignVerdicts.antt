-- What is broken by what is noted is broken in the design, where everything is told.
use Rattle.std.proofs.Common.{◌≡◌, ◌==◌, inl, inr, ℕ, Bool, true, false, ◌&&◌, refl, sym, ◌∙◌}
use Rattle.std.proofs.lemmas.Bool.{eqb-true, eqb-false}
use Rattle.flat_design.specs.declared.design.Design.{Design}
use Rattle.order_free.specs.declared.uses.Use.{Use}
use Rattle.order_free.specs.declared.uses.Use.TheVariants as used
use Rattle.order_free.specs.Free as free
use Rattle.order_free.specs.Free.{Uses, IsStored, IsEnd, Touches, Free, IsShared, IsContested, Breaks, Says}
use Rattle.order_free.specs.Users.{is_within, joined, is_somebody, is_many, is_clash, Shows}
use Rattle.order_free.specs.Tables.{users_at}
use Rattle.order_free.specs.Roots.{Tells}
use Rattle.order_free.specs.Broken as broken
use Rattle.order_free.specs.Broken.{Broken, Judges}
use Rattle.order_free.specs.declared.users.Users.{Users}
use Rattle.order_free.specs.declared.users.Users.TheVariants as users
use Rattle.order_free.specs.declared.tables.Tables.{Tables}
use Rattle.order_free.specs.declared.verdicts.Verdict.{Verdict}
use Rattle.order_free.specs.declared.verdicts.Verdict.TheVariants as verdict
use Rattle.order_free.proofs.Within.{not_both, within_left, within_right, within_along, shows_joined, shows_more, somebody, two_are_many}

pub and_true : (a b : Bool) → (a && b) ≡ true → (a ≡ true) × (b ≡ true)
and_true true b h = (refl, h)
and_true false b h = absurd (not_both (sym h))

pub and_both : (a b : Bool) → a ≡ true → b ≡ true → (a && b) ≡ true
and_both true b h k = k
and_both false b h k = absurd (not_both (sym h))

one_shown : (P : ℕ → Type 0) (x : Users) → is_somebody x ≡ true → Shows P x → (p : ℕ) × P p
one_shown P users.Nobody h k = absurd (not_both (sym h))
one_shown P (users.One p) h k = (p, k)
one_shown P users.Many h k = (k.0, k.3)

two_shown : (P : ℕ → Type 0) (x : Users) → is_many x ≡ true → Shows P x → (p : ℕ) × (q : ℕ) × (p ≡ q → ⊥) × P p × P q
two_shown P users.Nobody h k = absurd (not_both (sym h))
two_shown P (users.One p) h k = absurd (not_both (sym h))
two_shown P users.Many h k = k

module _ (d : Design) (t : Tables) (tells : Tells d t) where
  shared : (u : Use) → is_many (users_at t u) ≡ true → IsShared d u
  shared u h = let w = two_shown (λ p. Uses d p u) (users_at t u) h (tells.shown u) in record { one = w.0; other = w.1; differ = w.2; uses = w.3; too = w.4 }

  many : (u : Use) → IsShared d u → is_many (users_at t u) ≡ true
  many u s = two_are_many s.one s.other (users_at t u) s.differ (tells.told s.one u s.uses) (tells.told s.other u s.too)

  module _ (e : ℕ) where
    abbrev c : Users
    c = users_at t (used.Cancels e)

    abbrev n : Users
    n = users_at t (used.Notifies e)

    touched : Shows (Touches d e) (joined c n)
    touched =
        shows_joined (Touches d e) c n (shows_more (λ p. Uses d p (used.Cancels e)) (Touches d e) (λ p k. inl k) c (tells.shown (used.Cancels e)))
        (shows_more (λ p. Uses d p (used.Notifies e)) (Touches d e) (λ p k. inr k) n (tells.shown (used.Notifies e)))

    other_than : (r p q : ℕ) → Uses d r (used.Cancels e) → (p ≡ q → ⊥) → Touches d e p → Touches d e q → (b : Bool) → (r == p) ≡ b → IsContested d e
    other_than r p q k differ hp hq true is = record { one = r; other = q; differ = λ same. differ (sym (eqb-true r p is) ∙ same); cancels = k; touches = hq }
    other_than r p q k differ hp hq false is = record { one = r; other = p; differ = eqb-false r p is; cancels = k; touches = hp }

    contested : is_clash c n ≡ true → IsContested d e
    contested h =
        let both = and_true (is_somebody c) (is_many (joined c n)) h in
        let r = one_shown (λ p. Uses d p (used.Cancels e)) c both.0 (tells.shown (used.Cancels e)) in
        let w = two_shown (Touches d e) (joined c n) both.1 touched in
        other_than r.0 w.0 w.1 r.1 w.2 w.3 w.4 (r.0 == w.0) refl

    touch_told : (p : ℕ) → Touches d e p → is_within (users.One p) (joined c n) ≡ true
    touch_told p (inl k) = within_along (users.One p) c (joined c n) (tells.told p (used.Cancels e) k) (within_left c n)
    touch_told p (inr k) = within_along (users.One p) n (joined c n) (tells.told p (used.Notifies e) k) (within_right c n)

    clash : IsContested d e → is_clash c n ≡ true
    clash k =
        and_both (is_somebody c) (is_many (joined c n)) (somebody k.one c (tells.told k.one (used.Cancels e) k.cancels))
        (two_are_many k.one k.other (joined c n) k.differ (touch_told k.one (inl k.cancels)) (touch_told k.other k.touches))

  to_breaks : (k : ℕ) → Broken t k → Breaks d k
  to_breaks k (broken.first is h) = let w = one_shown (λ p. Uses d p used.Unfit) t.unfit h (tells.shown used.Unfit) in free.first is w.0 w.1
  to_breaks k (broken.second is h) = let w = one_shown (λ p. Uses d p used.Watches) t.watches h (tells.shown used.Watches) in free.second is w.0 w.1
  to_breaks k (broken.third is u stored h) = free.third is u stored (shared u h)
  to_breaks k (broken.fourth is u end h) = free.fourth is u end (shared u h)
  to_breaks k (broken.fifth is e h) = free.fifth is e (contested e h)

  to_broken : (k : ℕ) → Breaks d k → Broken t k
  to_broken k (free.first is p h) = broken.first is (somebody p t.unfit (tells.told p used.Unfit h))
  to_broken k (free.second is p h) = broken.second is (somebody p t.watches (tells.told p used.Watches h))
  to_broken k (free.third is u stored s) = broken.third is u stored (many u s)
  to_broken k (free.fourth is u end s) = broken.fourth is u end (many u s)
  to_broken k (free.fifth is e s) = broken.fifth is e (clash e s)

  same_one : (p q : ℕ) → ((p ≡ q → ⊥) → ⊥) → (b : Bool) → (p == q) ≡ b → p ≡ q
  same_one p q not true is = eqb-true p q is
  same_one p q not false is = absurd (not (eqb-false p q is))

  pub says : (v : Verdict) → Judges t v → Says d v
  says verdict.Yes j = record {
    acts = λ p h. j 1 (to_broken 1 (free.first refl p h));
    watches = λ p h. j 2 (to_broken 2 (free.second refl p h));
    stores = λ u stored p q h k. same_one p q (λ differ. j 3 (to_broken 3 (free.third refl u stored (record { one = p; other = q; differ = differ; uses = h; too = k })))) (p == q) refl;
    ends = λ u end p q h k. same_one p q (λ differ. j 4 (to_broken 4 (free.fourth refl u end (record { one = p; other = q; differ = differ; uses = h; too = k })))) (p == q) refl;
    cancelled = λ e p q h k. same_one p q (λ differ. j 5 (to_broken 5 (free.fifth refl e (record { one = p; other = q; differ = differ; cancels = h; touches = k })))) (p == q) refl;
  }
  says (verdict.No rule) j = (to_breaks rule j.0, λ k below b. j.1 k below (to_broken k b))

-- yes and no exclude each other
pub exclude : (d : Design) (k : ℕ) → Free d → Breaks d k → ⊥
exclude d k f (free.first is p h) = f.acts p h
exclude d k f (free.second is p h) = f.watches p h
exclude d k f (free.third is u stored s) = s.differ (f.stores u stored s.one s.other s.uses s.too)
exclude d k f (free.fourth is u end s) = s.differ (f.ends u end s.one s.other s.uses s.too)
exclude d k f (free.fifth is e s) = s.differ (f.cancelled e s.one s.other s.cancels s.touches)
