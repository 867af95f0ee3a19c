-- Sockets as ends of hops: one with `pass` is none, and one that a hop joins is one.
use Rattle.std.proofs.Common.{◌≡◌, ◌<◌, ◌≤◌, ◌==◌, ℕ, zero, suc, ◌+◌, Bool, true, false, cond, not, List, [], ◌∷◌, ◌++◌, map, take, length, get_or, Option, Some, None, refl, sym, ap, ◌∙◌, subst, inl, inr, arith}
use Rattle.std.specs.Prelude.{slice_get, option_map, unwrap_or, is_some, position, find, nat_lt, Contains}
use Rattle.std.specs.List.{AllByRecursion, flat_map, position_or_len}
use Rattle.std.proofs.lemmas.Bool.{eqb-true, eq-eqb, false≢true, false_from_ne_true, ltb-true, cases_Bool}
use Rattle.std.proofs.lemmas.List.{length-map}
use Rattle.std.proofs.lemmas.List.Folds.{find_at}
use Rattle.std.proofs.lemmas.Option.{slice_get-map, slice_get_within, slice_get-get_or}
use Rattle.elaborate_objects.specs.FlatDesign.declared.objects.Object.{Object}
use Rattle.elaborate_objects.specs.FlatDesign.declared.objects.Objects.{Objects}
use Rattle.elaborate_objects.specs.FlatDesign.declared.objects.ObjectForm.{ObjectForm}
use Rattle.elaborate_objects.specs.FlatDesign.declared.objects.ObjectForm.TheVariants as form
use Rattle.elaborate_objects.specs.FlatDesign.declared.objects.Binding.{Binding}
use Rattle.elaborate_objects.specs.FlatDesign.declared.design.Denoted.TheVariants as denoted
use Rattle.elaborate_objects.specs.FlatDesign.declared.design.Hop.{Hop}
use Rattle.elaborate_objects.specs.FlatDesign.declared.design.Design.{Design}
use Rattle.elaborate_objects.specs.ModelTree.Tree as tree
use Rattle.laws_code.proofs.Coded.{below, positioned}
use Rattle.elaborate_objects.proofs.Closed.{nothing_in}
use Rattle.elaborate_objects.specs.DesignRules.declared.bindings.Joined.{Joined}
use Rattle.elaborate_objects.specs.DesignRules.Objects.{object_at, form_at, bindings_of}
use Rattle.elaborate_objects.specs.DesignRules.Paths.{is_end, begins_path, itself_or, ends_within, ends_of, steps}
use Rattle.elaborate_objects.specs.DesignRules.Bound.{bound, joined, hop_if, hops_from}
use Rattle.elaborate_objects.specs.DesignRules.Denoting.{begins_at, ends_at, socket_end}
use Rattle.elaborate_objects.specs.DesignRules.Parts.{hop_of}
use Rattle.elaborate_objects.specs.DesignRules.Designs.{IsDesignOf}
use Rattle.laws_design.proofs.Children.{all_append, same_some}
use Rattle.laws_code.specs.Standing.{IsEnd}
use Rattle.laws_design.specs.Sockets.{SocketsHaveHops}

-- positions

found_by : {A : Type 0} (b : Bool) (x : A) (o : Option A) → is_some o ≡ true → is_some (cond b (Some x) o) ≡ true
found_by true x o h = refl
found_by false x o h = h

found_first : {A : Type 0} (b : Bool) (x : A) (o : Option A) → b ≡ true → is_some (cond b (Some x) o) ≡ true
found_first true x o h = refl
found_first false x o h = cc

finds : {A : Type 0} (p : A → Bool) (xs : List A) (x : A) → Contains xs x → p x ≡ true → is_some (find p xs) ≡ true
finds p [] x at h = absurd (nothing_in x at)
finds p (y ∷ ys) x (zero, short, is) h = found_first (p y) y (find p ys) (ap p is ∙ h)
finds p (y ∷ ys) x (suc k, short, is) h = found_by (p y) y (find p ys) (finds p ys x (k, omega arith, is) h)

finds_none : {A : Type 0} (p : A → Bool) (xs : List A) → AllByRecursion (λ x. p x ≡ false) xs → find p xs ≡ None
finds_none p [] h = refl
finds_none p (x ∷ xs) h = ap (λ b. cond b (Some x) (find p xs)) h.0 ∙ finds_none p xs h.1

no_position_by : {A : Type 0} (p : A → Bool) (xs : List A) (b : Bool) → nat_lt (position_or_len p xs) (length xs) ≡ b → find p xs ≡ None → cond b (Some (position_or_len p xs)) None ≡ None
no_position_by p [] true e none = absurd (false≢true e)
no_position_by p (x ∷ xs) true e none =
    let there = find_at p (x ∷ xs) ∙ slice_get-get_or (x ∷ xs) (position_or_len p (x ∷ xs)) x (ltb-true (position_or_len p (x ∷ xs)) (length (x ∷ xs)) e) in
    absurd (false≢true (ap is_some (sym none ∙ there)))
no_position_by p xs false e none = refl

no_position : {A : Type 0} (p : A → Bool) (xs : List A) → AllByRecursion (λ x. p x ≡ false) xs → position p xs ≡ None
no_position p xs h = no_position_by p xs (nat_lt (position_or_len p xs) (length xs)) refl (finds_none p xs h)

-- what each hop joins

all_flat : {A B : Type 0} (P : B → Type 0) (f : A → List B) (xs : List A) → ((x : A) → AllByRecursion P (f x)) → AllByRecursion P (flat_map f xs)
all_flat P f [] h = tt
all_flat P f (x ∷ xs) h = all_append P (f x) (flat_map f xs) (h x) (all_flat P f xs h)

all_first : {A B : Type 0} (P : B → Type 0) (Q : A → Type 0) (f : A → B) (xs : List A) → ((x : A) → Q x → P (f x)) → AllByRecursion Q xs → AllByRecursion P (map f (take 1 xs))
all_first P Q f [] g h = tt
all_first P Q f (x ∷ xs) g h = (g x h.0, tt)

module _ (os : Objects) where
  abbrev IsLast : ℕ → Type 0
  IsLast t = is_end (form_at os t) ≡ true

  one_last : (others : List ℕ) (i : ℕ) (b : Bool) → is_end (form_at os i) ≡ b → AllByRecursion IsLast others → AllByRecursion IsLast (itself_or others i b)
  one_last others i true e h = (e, tt)
  one_last others i false e h = h

  all_last : (n i : ℕ) → AllByRecursion IsLast (ends_within n os i)
  unfolding ends_within
  all_last zero i = tt
  all_last (suc n) i =
      all_flat IsLast (λ (b : Binding). itself_or (ends_within n os b.right) b.right (is_end (form_at os b.right))) (bindings_of os i)
      (λ b. one_last (ends_within n os b.right) b.right (is_end (form_at os b.right)) refl (all_last n b.right))

  -- an initiator without `pass`, and the end of its path
  pub record Joins (h : Joined) : Type 0 where
    pub initiator : Object
    pub found : object_at os h.initiator ≡ Some initiator
    pub begins : begins_path initiator.form ≡ true
    pub last : IsLast h.target

  joins_one : (i : ℕ) (o : Object) (b : Bool) → object_at os i ≡ Some o → begins_path o.form ≡ b → AllByRecursion Joins (hop_if os i b)
  joins_one i o true found e =
      all_first Joins IsLast (λ (t : ℕ). joined i t) (ends_of os i) (λ t last. record { initiator = o; found = found; begins = e; last = last }) (all_last (steps os) i)
  joins_one i o false found e = tt

  joins_from : (i : ℕ) (rest : List Object) → ((k : ℕ) (o : Object) → slice_get rest k ≡ Some o → slice_get os.list (i + k) ≡ Some o) → AllByRecursion Joins (hops_from os i rest)
  joins_from i [] at = tt
  joins_from i (o ∷ rest) at =
      let z : i + 0 ≡ i = omega arith in
      all_append Joins (hop_if os i (begins_path o.form)) (hops_from os (i + 1) rest)
      (joins_one i o (begins_path o.form) (subst (λ j. slice_get os.list j ≡ Some o) z (at 0 o refl)) refl)
      (joins_from (i + 1) rest (λ k x e. let y : i + suc k ≡ i + 1 + k = omega arith in subst (λ j. slice_get os.list j ≡ Some x) y (at (suc k) x e)))

  pub all_join : AllByRecursion Joins (bound os).hops
  all_join = joins_from 0 os.list (λ k o e. let y : k ≡ 0 + k = omega arith in subst (λ j. slice_get os.list j ≡ Some o) y e)

  all_not : (p : Joined → Bool) (hs : List Joined) → ((h : Joined) → Joins h → p h ≡ true → ⊥) → AllByRecursion Joins hs → AllByRecursion (λ h. p h ≡ false) hs
  all_not p [] f h = tt
  all_not p (x ∷ xs) f h = (false_from_ne_true (p x) (f x h.0), all_not p xs f h.1)

  pub no_beginning : (i : ℕ) (o : Object) → object_at os i ≡ Some o → begins_path o.form ≡ false → position (begins_at i) (bound os).hops ≡ None
  no_beginning i o found e =
      no_position (begins_at i) (bound os).hops
      (all_not (begins_at i) (bound os).hops
      (λ h j same.
      let at = ap (object_at os) (eqb-true h.initiator i same) in
      let here = same_some j.initiator o (sym j.found ∙ at ∙ found) in
      false≢true (sym e ∙ ap (λ (x : Object). begins_path x.form) (sym here) ∙ j.begins)) all_join)

  pub no_ending : (i : ℕ) → is_end (form_at os i) ≡ false → position (ends_at i) (bound os).hops ≡ None
  no_ending i e =
      no_position (ends_at i) (bound os).hops
      (all_not (ends_at i) (bound os).hops
      (λ h j same. false≢true (sym e ∙ ap (λ t. is_end (form_at os t)) (sym (eqb-true h.target i same)) ∙ j.last)) all_join)

-- the end of a hop
module _ (m : tree.Model) (d : Design) (design : IsDesignOf m d) where
  end_there : (forward : Bool) (p : Joined → Bool) (h : Joined) → Contains (bound d.objects).hops h → p h ≡ true → IsEnd d (socket_end forward (position p (bound d.objects).hops)) forward
  end_there forward p h at passes =
      let hs = (bound d.objects).hops in
      let k = position_or_len p hs in
      let short = below p hs (finds p hs h at passes) in
      let there = slice_get-get_or hs k h (ltb-true k (length hs) short) in (
        k,
        hop_of d.objects (get_or hs k h),
        ap (socket_end forward) (positioned (nat_lt k (length hs)) k short),
        ap (λ (xs : List Hop). slice_get xs k) design.hops ∙ slice_get-map (hop_of d.objects) hs k ∙ ap (option_map (hop_of d.objects)) there,
      )

  pub initiator_end : SocketsHaveHops d.objects → (i : ℕ) (o : Object) (backward : Option ℕ) → slice_get d.objects.list i ≡ Some o → o.form ≡ form.Initiator false backward
      → IsEnd d (socket_end true (position (begins_at i) (bound d.objects).hops)) true
  initiator_end sockets i o backward found e = let h = sockets.initiators i o backward found e in end_there true (begins_at i) h.0 h.1 (eq-eqb h.0.initiator i h.2)

  pub target_end : SocketsHaveHops d.objects → (i : ℕ) (o : Object) (blocking forward : Option ℕ) → slice_get d.objects.list i ≡ Some o → o.form ≡ form.Target false blocking forward
      → IsEnd d (socket_end false (position (ends_at i) (bound d.objects).hops)) false
  target_end sockets i o blocking forward found e = let h = sockets.targets i o blocking forward found e in end_there false (ends_at i) h.0 h.1 (eq-eqb h.0.target i h.2)
