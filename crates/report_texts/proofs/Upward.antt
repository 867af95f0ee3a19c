-- Paths, one step up at a time.
use Rattle.std.proofs.Common.{◌≡◌, ◌-◌, ◌<◌, ◌⊎◌, inl, inr, ◌++◌, ℕ, zero, suc, true, false, List, [], ◌∷◌, refl, sym, ap, ◌∙◌, append_assoc, arith}
use Rattle.std.specs.Prelude.{slice_get}
use Rattle.flat_design.specs.declared.objects.Object.{Object}
use Rattle.kernel_state.specs.SimModel.Configuration.{below, path_up, name_of, is_own_parent, parent_of}
use Rattle.report_texts.specs.Climbs.{path_through}

own_name : (n : ℕ) (objects : List Object) (i : ℕ) → is_own_parent i (slice_get objects i) ≡ true → path_up n objects i ≡ name_of (slice_get objects i)
unfolding path_up
own_name zero objects i own = refl
own_name (suc n) objects i own = rw own refl

no_step : (objects : List Object) (i : ℕ) → path_up 0 objects i ≡ name_of (slice_get objects i)
unfolding path_up
no_step objects i = refl

one_up : (n : ℕ) (objects : List Object) (i : ℕ) → is_own_parent i (slice_get objects i) ≡ false → path_up (suc n) objects i ≡ below (path_up n objects (parent_of (slice_get objects i))) (name_of (slice_get objects i))
unfolding path_up
one_up n objects i own = rw own refl

-- where no step up is made, the path is the name
pub path_at_top : (n : ℕ) (objects : List Object) (i : ℕ) → (n ≡ 0) ⊎ (is_own_parent i (slice_get objects i) ≡ true) → path_up n objects i ≡ name_of (slice_get objects i)
path_at_top n objects i (inl none) = ap (λ (m : ℕ). path_up m objects i) none ∙ no_step objects i
path_at_top n objects i (inr own) = own_name n objects i own

-- else it goes on above
pub path_above : (n : ℕ) (objects : List Object) (i : ℕ) → (0 < n) × (is_own_parent i (slice_get objects i) ≡ false)
    → path_up n objects i ≡ below (path_up (n - 1) objects (parent_of (slice_get objects i))) (name_of (slice_get objects i))
path_above n objects i h =
    let before : n ≡ suc (n - 1) = omega (arith, h.0) in
    ap (λ (m : ℕ). path_up m objects i) before ∙ one_up (n - 1) objects i h.1

pub through-push : (objects : List Object) (path up : List ℕ) (i : ℕ) → path_through objects path (up ++ i ∷ []) ≡ path_through objects (below path (name_of (slice_get objects i))) up
through-push objects path [] i = refl
through-push objects path (j ∷ up) i = ap (λ p. below p (name_of (slice_get objects j))) (through-push objects path up i)

-- a text behind which the path of what an object is in was put, and then its name
pub path_grown : (objects : List Object) (most i : ℕ) (text higher whole name : List ℕ) (up : ℕ) → (0 < most) × (is_own_parent i (slice_get objects i) ≡ false)
    → higher ≡ text ++ path_up (most - 1) objects up → up ≡ parent_of (slice_get objects i) → whole ≡ higher ++ 46 ∷ name → name ≡ name_of (slice_get objects i) → whole ≡ text ++ path_up most objects i
path_grown objects most i text higher whole name up climbs above at adds named =
    adds ∙ ap (λ (t : List ℕ). t ++ 46 ∷ name) above ∙ append_assoc text (path_up (most - 1) objects up) (46 ∷ name)
    ∙ ap (λ (p : List ℕ). text ++ p)
    (ap (λ (u : ℕ). below (path_up (most - 1) objects u) name) at
    ∙ ap (λ (n : List ℕ). below (path_up (most - 1) objects (parent_of (slice_get objects i))) n) named
    ∙ sym (path_above most objects i climbs))

-- what is written, and the path before it: the name of an object and a dot come before, and then the path of what the object is in
pub path_stepped : (objects : List Object) (most i up : ℕ) (name written named dotted : List ℕ) → (0 < most) × (is_own_parent i (slice_get objects i) ≡ false)
    → name ≡ name_of (slice_get objects i) → up ≡ parent_of (slice_get objects i) → named ≡ name ++ written → dotted ≡ 46 ∷ named
    → path_up most objects i ++ written ≡ path_up (most - 1) objects up ++ dotted
path_stepped objects most i up name written named dotted climbs is at adds dots =
    ap (λ (p : List ℕ). p ++ written)
    (path_above most objects i climbs
    ∙ ap (λ (n : List ℕ). below (path_up (most - 1) objects (parent_of (slice_get objects i))) n) (sym is)
    ∙ ap (λ (u : ℕ). below (path_up (most - 1) objects u) name) (sym at))
    ∙ append_assoc (path_up (most - 1) objects up) (46 ∷ name) written
    ∙ ap (λ (t : List ℕ). path_up (most - 1) objects up ++ t) (sym (dots ∙ ap (λ (t : List ℕ). 46 ∷ t) adds))
