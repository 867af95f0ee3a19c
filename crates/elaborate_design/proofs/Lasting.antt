-- What is left of frames, and what a turn leaves of it.
use Rattle.std.proofs.Common.{◌≡◌, ◌<◌, ℕ, zero, suc, ◌+◌, List, [], ◌∷◌, ◌++◌, drop, refl, sym, ap, ◌∙◌, arith, append_assoc}
use Rattle.std.specs.Prelude.{Some, None, slice_get}
use Rattle.std.specs.List.{flat_map}
use Rattle.std.proofs.lemmas.List.{append-nil}
use Rattle.elaborate_objects.specs.FlatDesign.declared.objects.Object.{Object}
use Rattle.elaborate_objects.specs.FlatDesign.declared.objects.Binding.{Binding}
use Rattle.elaborate_design.specs.Links.{Link, Links, links_at}
use Rattle.elaborate_design.specs.Left.{binds_by, links_within, left_in, left_of, whole_of}
use Rattle.elaborate_design.specs.Work.{work_by, work_along, work_within, work_in, work_of}
use Rattle.elaborate_design.specs.declared.frames.Frame.{Frame}

-- the rest of a list from a place on
past_all : {X : Type 0} (xs : List X) (n : ℕ) → slice_get xs n ≡ None → drop n xs ≡ []
past_all [] zero h = refl
past_all [] (suc n) h = refl
past_all (x ∷ xs) zero h = cc
past_all (x ∷ xs) (suc n) h = past_all xs n h

one_and_rest : {X : Type 0} (xs : List X) (n : ℕ) (x : X) → slice_get xs n ≡ Some x → drop n xs ≡ x ∷ drop (n + 1) xs
one_and_rest [] n x h = cc
one_and_rest (y ∷ xs) zero x h = cc
one_and_rest (y ∷ xs) (suc n) x h = let e : suc (n + 1) ≡ suc n + 1 = omega arith in one_and_rest xs n x h ∙ ap (λ k. x ∷ drop k (y ∷ xs)) e

module _ (t : Links) where
  -- the last frame gives its bindings first
  last_first : (os : List Object) (fs : List Frame) (f : Frame) → left_of t os (fs ++ f ∷ []) ≡ left_in t os f ++ left_of t os fs
  last_first os [] f = sym (append-nil (left_in t os f))
  last_first os (g ∷ fs) f = ap (λ bs. bs ++ left_in t os g) (last_first os fs f) ∙ append_assoc (left_in t os f) (left_of t os fs) (left_in t os g)

  last_work : (fs : List Frame) (f : Frame) → work_of t (fs ++ f ∷ []) ≡ work_in t f + work_of t fs
  last_work [] f = omega arith
  last_work (g ∷ fs) f = let rest = last_work fs f in omega (arith, rest)

  -- an instance that is entered gives its bindings first
  pub entered : (os : List Object) (d instance place : ℕ) (fs : List Frame)
      → left_of t os (fs ++ (record { place = place; next = 0; instance = instance; depth = d }) ∷ []) ≡ links_within (suc d) t os instance place ++ left_of t os fs
  unfolding links_within
  entered os d instance place fs = last_first os fs (record { place = place; next = 0; instance = instance; depth = d })

  pub entered_work : (d instance place : ℕ) (fs : List Frame)
      → work_of t (fs ++ (record { place = place; next = 0; instance = instance; depth = d }) ∷ []) ≡ work_within (suc d) t place + work_of t fs
  unfolding work_within
  entered_work d instance place fs = last_work fs (record { place = place; next = 0; instance = instance; depth = d })

  -- a frame without links gives nothing
  pub left_behind : (os : List Object) (bs : List Binding) (fs : List Frame) (f : Frame) → slice_get (links_at t f.place) f.next ≡ None → whole_of t os bs fs ≡ whole_of t os bs (fs ++ f ∷ [])
  left_behind os bs fs f h =
      let none = ap (flat_map (binds_by (links_within f.depth t os) os f.instance)) (past_all (links_at t f.place) f.next h) in
      ap (λ xs. bs ++ xs) (ap (λ xs. xs ++ left_of t os fs) (sym none) ∙ sym (last_first os fs f))

  pub less_behind : (fs : List Frame) (f : Frame) → slice_get (links_at t f.place) f.next ≡ None → work_of t fs < work_of t (fs ++ f ∷ [])
  less_behind fs f h =
      let one : work_in t f ≡ 1 = ap (work_along (work_within f.depth t)) (past_all (links_at t f.place) f.next h) in
      let all = last_work fs f in
      omega (arith, one, all)

  -- a frame with a link gives what that gives, and the rest
  module _ (fs : List Frame) (f : Frame) (l : Link) (at_link : slice_get (links_at t f.place) f.next ≡ Some l) where
    abbrev after : Frame
    after = record f { next = f.next + 1 }

    pub followed : (os : List Object) (bs new : List Binding) → new ≡ bs ++ (binds_by (links_within f.depth t os) os f.instance l ++ left_of t os (fs ++ after ∷ [])) → new ≡ whole_of t os bs (fs ++ f ∷ [])
    followed os bs new h =
        let xs = binds_by (links_within f.depth t os) os f.instance l in
        let ys = left_in t os after in
        let zs = left_of t os fs in
        let split : left_in t os f ≡ xs ++ ys = ap (flat_map (binds_by (links_within f.depth t os) os f.instance)) (one_and_rest (links_at t f.place) f.next l at_link) in
        h
        ∙ ap (λ k. bs ++ (xs ++ k)) (last_first os fs after)
        ∙ ap (λ k. bs ++ k) (sym (append_assoc xs ys zs) ∙ ap (λ k. k ++ zs) (sym split) ∙ sym (last_first os fs f))

    pub less : (n : ℕ) → n ≡ work_by (work_within f.depth t) l + work_of t (fs ++ after ∷ []) → n < work_of t (fs ++ f ∷ [])
    less n h =
        let split : work_in t f ≡ 1 + work_by (work_within f.depth t) l + work_in t after = ap (work_along (work_within f.depth t)) (one_and_rest (links_at t f.place) f.next l at_link) in
        let now = last_work fs f in
        let later = last_work fs after in
        omega (arith, h, split, now, later)
