-- What is left of frames, and what a turn leaves of it.
use Rattle.std.proofs.Common.{◌≡◌, ℕ, zero, suc, ◌+◌, List, [], ◌∷◌, ◌++◌, length, drop, refl, sym, ap, ◌∙◌, arith, append_assoc}
use Rattle.std.specs.Prelude.{Some, None, slice_get}
use Rattle.std.proofs.lemmas.List.{append-nil, length-append}
use Rattle.check_names.specs.FlatDesign.declared.objects.Object.{Object}
use Rattle.elaborate_objects.specs.Rows.{Row}
use Rattle.elaborate_objects.specs.Left.{Rows, rows_at, object_of, inside_form, of_rows, rows_within, left_in, left_of}
use Rattle.elaborate_objects.specs.Walks.{whole_of}
use Rattle.elaborate_objects.specs.declared.frames.Frame.{Frame}

module _ (t : Rows) where
  -- the last frame gives its objects first
  pub last_first : (at : ℕ) (fs : List Frame) (f : Frame) → left_of t at (fs ++ f ∷ []) ≡ left_in t at f ++ left_of t (at + length (left_in t at f)) fs
  last_first at [] f = let e : at + 0 ≡ at = omega arith in ap (λ n. left_in t n f) e ∙ sym (append-nil (left_in t at f))
  last_first at (g ∷ fs) f =
      let xs = left_in t at f in
      let ys = left_of t (at + length xs) fs in
      let e : at + length (xs ++ ys) ≡ at + length xs + length ys = omega (arith, length-append xs ys) in
      ap (λ zs. zs ++ left_in t (at + length zs) g) (last_first at fs f)
      ∙ ap (λ n. (xs ++ ys) ++ left_in t n g) e
      ∙ append_assoc xs ys (left_in t (at + length xs + length ys) g)

  -- an instance that is entered gives its objects first
  pub entered : (d instance place : ℕ) (fs : List Frame)
      → left_of t (instance + 1) (fs ++ (record { place = place; next = 0; instance = instance; depth = d }) ∷ []) ≡ rows_within (suc d) t instance place ++ left_of t (instance + 1 + length (rows_within (suc d) t instance place)) fs
  unfolding rows_within
  entered d instance place fs = last_first (instance + 1) fs (record { place = place; next = 0; instance = instance; depth = d })

  -- a frame without rows gives nothing
  rows_past : (rs : List Row) (n : ℕ) → slice_get rs n ≡ None → drop n rs ≡ []
  rows_past [] zero h = refl
  rows_past [] (suc n) h = refl
  rows_past (r ∷ rs) zero h = cc
  rows_past (r ∷ rs) (suc n) h = rows_past rs n h

  pub left_behind : (os : List Object) (fs : List Frame) (f : Frame) → slice_get (rows_at t f.place) f.next ≡ None → whole_of t os fs ≡ whole_of t os (fs ++ f ∷ [])
  left_behind os fs f h =
      let none = ap (of_rows (rows_within f.depth t) f.instance (length os)) (rows_past (rows_at t f.place) f.next h) in
      let e : length os ≡ length os + 0 = omega arith in
      ap (λ ys. os ++ ys)
      (ap (λ n. left_of t n fs) e ∙ ap (λ ys. ys ++ left_of t (length os + length ys) fs) (sym none) ∙ sym (last_first (length os) fs f))

  -- a frame with a row gives its object, those inside it, and the rest
  row_and_rest : (rs : List Row) (n : ℕ) (r : Row) → slice_get rs n ≡ Some r → drop n rs ≡ r ∷ drop (n + 1) rs
  row_and_rest [] n r h = cc
  row_and_rest (x ∷ rs) zero r h = cc
  row_and_rest (x ∷ rs) (suc n) r h = let e : suc (n + 1) ≡ suc n + 1 = omega arith in row_and_rest rs n r h ∙ ap (λ k. r ∷ drop k (x ∷ rs)) e

  module _ (os : List Object) (fs : List Frame) (f : Frame) (r : Row) (at_row : slice_get (rows_at t f.place) f.next ≡ Some r) where
    abbrev after : Frame
    after = record f { next = f.next + 1 }

    abbrev within : List Object
    within = inside_form (rows_within f.depth t) (length os) r.form

    abbrev later : ℕ
    later = length os + 1 + length within

    split : left_in t (length os) f ≡ object_of f.instance r ∷ (within ++ left_in t later after)
    split = ap (of_rows (rows_within f.depth t) f.instance (length os)) (row_and_rest (rows_at t f.place) f.next r at_row)

    pub made : (new : List Frame) → left_of t (length os + 1) new ≡ within ++ left_of t later (fs ++ after ∷ []) → whole_of t (os ++ object_of f.instance r ∷ []) new ≡ whole_of t os (fs ++ f ∷ [])
    made new h =
        let o = object_of f.instance r in
        let xs = left_in t later after in
        let long : length (os ++ o ∷ []) ≡ length os + 1 = length-append os (o ∷ []) in
        let e : later + length xs ≡ length os + suc (length (within ++ xs)) = omega (arith, length-append within xs) in
        append_assoc os (o ∷ []) (left_of t (length (os ++ o ∷ [])) new)
        ∙ ap (λ ys. os ++ o ∷ ys)
        (ap (λ n. left_of t n new) long
        ∙ h
        ∙ ap (λ ys. within ++ ys) (last_first later fs after)
        ∙ sym (append_assoc within xs (left_of t (later + length xs) fs))
        ∙ ap (λ n. (within ++ xs) ++ left_of t n fs) e)
        ∙ ap (λ ys. os ++ ys) (ap (λ zs. zs ++ left_of t (length os + length zs) fs) (sym split) ∙ sym (last_first (length os) fs f))

    -- no more than what is made is too much
    pub front : (ys : List Object) × (whole_of t os (fs ++ f ∷ []) ≡ (os ++ object_of f.instance r ∷ []) ++ ys)
    front =
        let o = object_of f.instance r in
        let ys = (within ++ left_in t later after) ++ left_of t (length os + length (left_in t (length os) f)) fs in
        (ys, ap (λ zs. os ++ zs) (last_first (length os) fs f ∙ ap (λ zs. zs ++ left_of t (length os + length (left_in t (length os) f)) fs) split) ∙ sym (append_assoc os (o ∷ []) ys))
