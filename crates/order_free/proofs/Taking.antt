-- Uses that are noted, one after another.
use Rattle.std.proofs.Common.{◌≡◌, ◌<◌, ◌+◌, inl, inr, ℕ, true, List, [], ◌∷◌, ◌++◌, length, take, get_or, Result, Ok, Err, OnOk, sym, ap, ◌∙◌, subst}
use Rattle.std.specs.Prelude.{Contains}
use Rattle.std.specs.List.{flat_map}
use Rattle.std.proofs.lemmas.Grind.{flat_map-append}
use Rattle.std.proofs.lemmas.List.{append-nil, map-append, take_more}
use Rattle.order_free.specs.declared.uses.Use.{Use}
use Rattle.order_free.specs.Users.{is_within, Shows}
use Rattle.order_free.specs.Tables as tables
use Rattle.order_free.specs.Tables.{users_at, Noted, Claim, claim, claims, Took}
use Rattle.order_free.specs.declared.users.Users.{Users}
use Rattle.order_free.specs.declared.tables.Tables.{Tables}
use Rattle.order_free.proofs.Elements.{no_element, element_cases, element_here, element_there}
use Rattle.order_free.proofs.Within.{within_same, within_left, within_right, within_along, shows_joined}

noted_grows : (x : Users) (u : Use) (t s : Tables) → Noted x u t s → (w : Use) → is_within (users_at t w) (users_at s w) ≡ true
noted_grows x u t s n w =
    elim (n.others w) [
      | inl same ↦ ap (is_within (users_at t w)) same ∙ within_same (users_at t w)
      | inr k ↦ ap (is_within (users_at t w)) k.1 ∙ within_left (users_at t w) x
    ]

pub took_grows : {cs : List Claim} {t r : Tables} → Took cs t r → (w : Use) → is_within (users_at t w) (users_at r w) ≡ true
took_grows (tables.nothing t) w = within_same (users_at t w)
took_grows (tables.more x u cs t s r n k) w = within_along (users_at t w) (users_at s w) (users_at r w) (noted_grows x u t s n w) (took_grows k w)

pub took_told : {cs : List Claim} {t r : Tables} → Took cs t r → (y : Users) (w : Use) → Contains cs (claim y w) → is_within y (users_at r w) ≡ true
took_told (tables.nothing t) y w h = absurd (no_element (claim y w) h)
took_told (tables.more x u cs t s r n k) y w h =
    elim (element_cases (claim x u) cs (claim y w) h) [
      | inl is ↦
          let first : is_within x (users_at r u) ≡ true =
          within_along x (users_at s u) (users_at r u) (ap (is_within x) n.here ∙ within_right (users_at t u) x) (took_grows k u) in
          subst (λ (c : Claim). is_within c.users (users_at r c.what) ≡ true) is first
      | inr there ↦ took_told k y w there
    ]

noted_shown : (P : Use → ℕ → Type 0) (x : Users) (u : Use) (t s : Tables) → Noted x u t s → ((w : Use) → Shows (P w) (users_at t w)) → Shows (P u) x → (w : Use) → Shows (P w) (users_at s w)
noted_shown P x u t s n before here w =
    elim (n.others w) [
      | inl same ↦ subst (Shows (P w)) (sym same) (before w)
      | inr k ↦ subst (Shows (P w)) (sym k.1) (shows_joined (P w) (users_at t w) x (before w) (subst (λ v. Shows (P v) x) (sym k.0) here))
    ]

pub took_shown : (P : Use → ℕ → Type 0) {cs : List Claim} {t r : Tables} → Took cs t r → ((w : Use) → Shows (P w) (users_at t w)) → ((c : Claim) → Contains cs c → Shows (P c.what) c.users) → (w : Use) → Shows (P w) (users_at r w)
took_shown P (tables.nothing t) before all w = before w
took_shown P (tables.more x u cs t s r n k) before all w =
    took_shown P k (noted_shown P x u t s n before (all (claim x u) (element_here (claim x u) cs)))
    (λ c h. all c (element_there (claim x u) cs c h)) w

pub took_append : {cs : List Claim} (ds : List Claim) {t s : Tables} (r : Tables) → Took cs t s → Took ds s r → Took (cs ++ ds) t r
took_append ds r (tables.nothing t) h = h
took_append ds r (tables.more x u cs t s q n k) h = tables.more x u (cs ++ ds) t s r n (took_append ds r k h)

-- one use alone, where there is memory
pub one_taken : {A E : Type 0} (r : Result A E) (x : Users) (u : Use) (t s : Tables) → OnOk r (Noted x u t s) → OnOk r (Took (claims x (u ∷ [])) t s)
one_taken (Ok v) x u t s n = tables.more x u [] t s s n (tables.nothing s)
one_taken (Err e) x u t s n = tt

-- what is noted along a list, and at its next element
pub took_next : {Y : Type 0} (whole : List Y → List Claim) (part : Y → List Claim) → ((ys : List Y) (y : Y) → whole (ys ++ y ∷ []) ≡ whole ys ++ part y) → (xs : List Y) (k : ℕ) (d : Y) → k < length xs
    → (t s r : Tables) → Took (whole (take k xs)) t s → Took (part (get_or xs k d)) s r → Took (whole (take (k + 1) xs)) t r
took_next whole part one xs k d below t s r h j =
    subst (λ cs. Took cs t r) (sym (ap whole (take_more xs k d below) ∙ one (take k xs) (get_or xs k d))) (took_append (part (get_or xs k d)) r h j)

pub claims_next : {Y : Type 0} (x : Users) (f : Y → List Use) (ys : List Y) (y : Y) → claims x (flat_map f (ys ++ y ∷ [])) ≡ claims x (flat_map f ys) ++ claims x (f y)
claims_next x f ys y =
    ap (claims x) (flat_map-append f ys (y ∷ []) ∙ ap (λ us. flat_map f ys ++ us) (append-nil (f y)))
    ∙ map-append (claim x) (flat_map f ys) (f y)

pub blocks_next : {Y : Type 0} (f : Y → List Claim) (ys : List Y) (y : Y) → flat_map f (ys ++ y ∷ []) ≡ flat_map f ys ++ f y
blocks_next f ys y = flat_map-append f ys (y ∷ []) ∙ ap (λ cs. flat_map f ys ++ cs) (append-nil (f y))
