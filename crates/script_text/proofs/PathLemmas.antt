-- Paths, compared from the last name up.
use Rattle.std.proofs.Common.{◌≡◌, ◌≢◌, ℕ, zero, suc, ◌+◌, ◌-◌, ◌<◌, ◌≤◌, Bool, true, false, List, [], ◌∷◌, ◌++◌, ◌==◌, ◌⊎◌, inl, inr, length, get_or, drop, take, Option, Some, None, refl, sym, ap, ◌∙◌, subst, arith, length-append, bytes_eq}
use Rattle.std.specs.Prelude.{slice_get}
use Rattle.std.proofs.lemmas.List.{append_cancel_right}
use Rattle.std.proofs.lemmas.Slice.Eq.{bytes_eq-Decides}
use Rattle.sim_model.specs.FlatDesign.declared.objects.Object.{Object}
use Rattle.sim_model.specs.Configuration.{below, path_up, name_of, is_own_parent, parent_of}
use Rattle.text_lines.proofs.CutLemmas.{parts}

-- a byte behind others, and what is behind it
at_end : (front behind : List ℕ) (b : ℕ) → get_or (front ++ b ∷ behind) (length front) 0 ≡ b
at_end [] behind b = refl
at_end (x ∷ xs) behind b = at_end xs behind b

past_end : (front behind : List ℕ) (b : ℕ) → drop (suc (length front)) (front ++ b ∷ behind) ≡ behind
past_end [] behind b = refl
past_end (x ∷ xs) behind b = past_end xs behind b

-- where a path ends in a dot and a name, these are found at their places
dot_at : (front name path : List ℕ) → below front name ≡ path → length path ≡ length front + suc (length name)
dot_at front name path is = ap length (sym is) ∙ length-append front (46 ∷ name)

pub no_dot : (front name path : List ℕ) → below front name ≡ path → get_or path (length path - length name - 1) 0 ≢ 46 → ⊥
no_dot front name path is other =
    let P : ℕ → Type 0 = λ k. get_or path k 0 ≡ 46 in
    let place : length front ≡ length path - length name - 1 = omega (arith, dot_at front name path is) in
    other (subst P place (subst (λ (bytes : List ℕ). get_or bytes (length front) 0 ≡ 46) is (at_end front name 46)))

pub no_name : (front name path : List ℕ) → below front name ≡ path → drop (length path - length name - 1 + 1) path ≢ name → ⊥
no_name front name path is other =
    let P : ℕ → Type 0 = λ k. drop k path ≡ name in
    let place : suc (length front) ≡ length path - length name - 1 + 1 = omega (arith, dot_at front name path is) in
    other (subst P place (subst (λ (bytes : List ℕ). drop (suc (length front)) bytes ≡ name) is (past_end front name 46)))

pub too_short : (front name path : List ℕ) → below front name ≡ path → length path ≤ length name → ⊥
too_short front name path is short = omega (arith, dot_at front name path is, short)

pub ends_so : (name path : List ℕ) (dot : ℕ) → dot < length path → get_or path dot 0 ≡ 46 → drop (dot + 1) path ≡ name → path ≡ below (take dot path) name
ends_so name path dot within is rest =
    parts path dot within ∙ ap (λ (b : ℕ). take dot path ++ b ∷ drop (dot + 1) path) is ∙ ap (λ (bytes : List ℕ). take dot path ++ 46 ∷ bytes) rest

-- two tests that say the same
same_test : (a b : Bool) → (a ≡ true → b ≡ true) → (b ≡ true → a ≡ true) → a ≡ b
same_test true b f g = sym (f refl)
same_test false true f g = g refl
same_test false false f g = refl

not_so : (a : Bool) → (a ≡ true → ⊥) → a ≡ false
not_so true h = absurd (h refl)
not_so false h = refl

pub same_below : (path name rest front : List ℕ) → rest ≡ below front name → bytes_eq (below path name) rest ≡ bytes_eq path front
same_below path name rest front is =
    same_test (bytes_eq (below path name) rest) (bytes_eq path front)
    (λ e. (bytes_eq-Decides path front).1 (append_cancel_right path front (46 ∷ name) ((bytes_eq-Decides (below path name) rest).0 e ∙ is)))
    (λ e. (bytes_eq-Decides (below path name) rest).1 (ap (λ (p : List ℕ). below p name) ((bytes_eq-Decides path front).0 e) ∙ sym is))

pub other_below : (path name rest : List ℕ) → ((front : List ℕ) → below front name ≢ rest) → bytes_eq (below path name) rest ≡ false
other_below path name rest none = not_so (bytes_eq (below path name) rest) (λ e. none path ((bytes_eq-Decides (below path name) rest).0 e))

-- a step up
path_top : (n : ℕ) (objects : List Object) (i : ℕ) → is_own_parent i (slice_get objects i) ≡ true → path_up n objects i ≡ name_of (slice_get objects i)
unfolding path_up
path_top zero objects i e = refl
path_top (suc n) objects i e = rw e refl

path_none : (objects : List Object) (i : ℕ) → path_up 0 objects i ≡ name_of (slice_get objects i)
unfolding path_up
path_none objects i = refl

path_step : (n : ℕ) (objects : List Object) (i : ℕ) → is_own_parent i (slice_get objects i) ≡ false → path_up (suc n) objects i ≡ below (path_up n objects (parent_of (slice_get objects i))) (name_of (slice_get objects i))
unfolding path_up
path_step n objects i e = rw e refl

pub no_path : (n : ℕ) (objects : List Object) (i : ℕ) → slice_get objects i ≡ None → path_up n objects i ≡ []
no_path n objects i none = path_top n objects i (ap (is_own_parent i) none) ∙ ap name_of none

pub top_path : (n : ℕ) (objects : List Object) (i : ℕ) (here : Object) → slice_get objects i ≡ Some here → (n ≡ 0) ⊎ ((here.parent == i) ≡ true) → path_up n objects i ≡ here.name
top_path n objects i here there (inl none) = ap (λ (k : ℕ). path_up k objects i) none ∙ path_none objects i ∙ ap name_of there
top_path n objects i here there (inr own) = path_top n objects i (ap (is_own_parent i) there ∙ own) ∙ ap name_of there

pub step_path : (n : ℕ) (objects : List Object) (i : ℕ) (here : Object) → slice_get objects i ≡ Some here → (0 < n) × ((here.parent == i) ≡ false) → path_up n objects i ≡ below (path_up (n - 1) objects here.parent) here.name
step_path n objects i here there h =
    let before : n ≡ suc (n - 1) = omega (arith, h.0) in
    ap (λ (k : ℕ). path_up k objects i) before
    ∙ path_step (n - 1) objects i (ap (is_own_parent i) there ∙ h.1)
    ∙ ap (λ (o : Option Object). below (path_up (n - 1) objects (parent_of o)) (name_of o)) there

pub is_not : (b : Bool) → b ≡ false → b ≡ true → ⊥
is_not true e f = absurd cc
is_not false e f = absurd cc
