-- Users among others, and users of both.
use Rattle.std.proofs.Common.{◌≡◌, ◌==◌, ℕ, Bool, true, false, refl, sym, ◌∙◌}
use Rattle.std.specs.Prelude.{if◌then◌else◌}
use Rattle.std.proofs.lemmas.Bool.{eq-eqb, eqb-true, eqb-false}
use Rattle.order_free.specs.Users.{is_within, joined, is_somebody, is_many, Shows}
use Rattle.order_free.specs.declared.users.Users.{Users}
use Rattle.order_free.specs.declared.users.Users.TheVariants as users

pub not_both : true ≡ false → ⊥
not_both h = cc

pub within_same : (x : Users) → is_within x x ≡ true
within_same users.Nobody = refl
within_same (users.One p) = eq-eqb p p refl
within_same users.Many = refl

pub within_many : (x : Users) → is_within x users.Many ≡ true
within_many users.Nobody = refl
within_many (users.One p) = refl
within_many users.Many = refl

one_left : (p q : ℕ) (b : Bool) → is_within (users.One p) (if b then users.One p else users.Many) ≡ true
one_left p q true = eq-eqb p p refl
one_left p q false = refl

one_right : (p q : ℕ) (b : Bool) → (p == q) ≡ b → is_within (users.One q) (if b then users.One p else users.Many) ≡ true
one_right p q true is = eq-eqb q p (sym (eqb-true p q is))
one_right p q false is = refl

pub within_left : (x y : Users) → is_within x (joined x y) ≡ true
within_left users.Nobody y = refl
within_left (users.One p) users.Nobody = eq-eqb p p refl
within_left (users.One p) (users.One q) = one_left p q (p == q)
within_left (users.One p) users.Many = refl
within_left users.Many y = refl

pub within_right : (x y : Users) → is_within y (joined x y) ≡ true
within_right users.Nobody y = within_same y
within_right (users.One p) users.Nobody = refl
within_right (users.One p) (users.One q) = one_right p q (p == q) refl
within_right (users.One p) users.Many = refl
within_right users.Many y = within_many y

pub within_along : (x y z : Users) → is_within x y ≡ true → is_within y z ≡ true → is_within x z ≡ true
within_along users.Nobody y z h k = refl
within_along (users.One p) users.Nobody z h k = absurd (not_both (sym h))
within_along (users.One p) (users.One q) users.Nobody h k = k
within_along (users.One p) (users.One q) (users.One r) h k = eq-eqb p r (eqb-true p q h ∙ eqb-true q r k)
within_along (users.One p) (users.One q) users.Many h k = refl
within_along (users.One p) users.Many users.Nobody h k = k
within_along (users.One p) users.Many (users.One r) h k = absurd (not_both (sym k))
within_along (users.One p) users.Many users.Many h k = refl
within_along users.Many users.Nobody z h k = absurd (not_both (sym h))
within_along users.Many (users.One q) z h k = absurd (not_both (sym h))
within_along users.Many users.Many z h k = k

shows_one : (P : ℕ → Type 0) (p q : ℕ) (b : Bool) → (p == q) ≡ b → P p → P q → Shows P (if b then users.One p else users.Many)
shows_one P p q true is h k = h
shows_one P p q false is h k = (p, q, eqb-false p q is, h, k)

pub shows_joined : (P : ℕ → Type 0) (x y : Users) → Shows P x → Shows P y → Shows P (joined x y)
shows_joined P users.Nobody y h k = k
shows_joined P (users.One p) users.Nobody h k = h
shows_joined P (users.One p) (users.One q) h k = shows_one P p q (p == q) refl h k
shows_joined P (users.One p) users.Many h k = k
shows_joined P users.Many y h k = h

pub shows_more : (P Q : ℕ → Type 0) → ((p : ℕ) → P p → Q p) → (x : Users) → Shows P x → Shows Q x
shows_more P Q f users.Nobody h = tt
shows_more P Q f (users.One p) h = f p h
shows_more P Q f users.Many h = (h.0, h.1, h.2, f h.0 h.3, f h.1 h.4)

-- who is told is somebody
pub somebody : (p : ℕ) (x : Users) → is_within (users.One p) x ≡ true → is_somebody x ≡ true
somebody p users.Nobody h = h
somebody p (users.One q) h = refl
somebody p users.Many h = refl

-- two that are told are many
pub two_are_many : (p q : ℕ) (x : Users) → (p ≡ q → ⊥) → is_within (users.One p) x ≡ true → is_within (users.One q) x ≡ true → is_many x ≡ true
two_are_many p q users.Nobody differ h k = absurd (not_both (sym h))
two_are_many p q (users.One r) differ h k = absurd (differ (eqb-true p r h ∙ sym (eqb-true q r k)))
two_are_many p q users.Many differ h k = refl
