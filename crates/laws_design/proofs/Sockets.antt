-- A socket without `pass` is an end of a hop: an initiator has one path of bindings, which ends at a target, and a target
-- without `pass` is the end of the path of each initiator that leads to it.
use Rattle.std.proofs.Common.{◌≡◌, ◌<◌, ◌≤◌, ◌+◌, ℕ, zero, suc, Bool, true, false, not, ◌==◌, ◌||◌, List, [], ◌∷◌, length, map, take, filter, Option, Some, None, refl, sym, ap, ◌∙◌, subst, arith}
use Rattle.std.specs.Prelude.{slice_get, nat_lt, option_map, unwrap_or, cond, Contains}
use Rattle.std.specs.List.{flat_map}
use Rattle.std.specs.Option.{option_or}
use Rattle.std.proofs.lemmas.Bool.{eqb-true, eq-eqb, false≢true}
use Rattle.std.proofs.lemmas.Bool.Decides.{nat_tests}
use Rattle.std.proofs.lemmas.List.{append-nil}
use Rattle.std.proofs.lemmas.List.Elements.{All-contains, Contains-append_left, Contains-append_right}
use Rattle.elaborate_objects.specs.FlatDesign.declared.objects.Object.{Object}
use Rattle.elaborate_objects.specs.FlatDesign.declared.objects.ObjectForm.{ObjectForm}
use Rattle.elaborate_objects.specs.FlatDesign.declared.objects.ObjectForm.TheVariants as form
use Rattle.elaborate_objects.specs.FlatDesign.declared.objects.Binding.{Binding}
use Rattle.elaborate_objects.specs.FlatDesign.declared.objects.Objects.{Objects}
use Rattle.elaborate_objects.specs.DesignRules.declared.bindings.Joined.{Joined}
use Rattle.elaborate_objects.specs.DesignRules.Objects.{object_at, form_at, bindings_of, bindings_to}
use Rattle.elaborate_objects.specs.DesignRules.BindingFaults.{has_two, first_broken, broken_at, fault_of, object_fault, objects_fault, bindings_fault, first_fault}
use Rattle.elaborate_objects.specs.DesignRules.Formed.{IsRightOfPort, IsRightOfExport, IsRightOfInitiator, IsRightOfTarget, AreEnds, HasForm, AreFormed}
use Rattle.elaborate_objects.specs.DesignRules.Paths.{ends_path, is_end, begins_path, is_beginning, itself_or, ends_of, leaders_within, leaders_of, steps}
use Rattle.elaborate_objects.specs.DesignRules.Bound.{bound, joined, hop_if, hops_from}
use Rattle.elaborate_objects.proofs.DesignRules.Lists.{nothing_in, head_in, tail_in, only_in, flat_map_from, filter_from}
use Rattle.elaborate_objects.proofs.DesignRules.Ranks.{rank, falls}
use Rattle.elaborate_objects.proofs.DesignRules.Rounds.{ends_follow}

off : {A : Type 0} → false ≡ true → A
off h = absurd (false≢true h)

on : {A : Type 0} → true ≡ false → A
on h = off (sym h)

same_some : {A : Type 0} (x y : A) → Some x ≡ Some y → x ≡ y
same_some x y h = ap (λ o. unwrap_or o x) h

or_none : {B : Type 0} (a b : Option B) → option_or a b ≡ None → (a ≡ None) × (b ≡ None)
or_none None b h = (refl, h)
or_none (Some x) b h = cc

mapped_none : {A B : Type 0} (f : A → B) (o : Option A) → option_map f o ≡ None → o ≡ None
mapped_none f None h = refl
mapped_none f (Some x) h = cc

-- lists

singleton : {X : Type 0} (xs : List X) → length xs ≡ 1 → (x : X) × (xs ≡ x ∷ [])
singleton [] h = absurd (omega (arith, h))
singleton (x ∷ []) h = (x, refl)
singleton (x ∷ y ∷ ys) h = absurd (omega (arith, h))

kept_by : {X : Type 0} (p : X → Bool) (x y : X) (ys : List X) (b : Bool) → p y ≡ b → p x ≡ true → Contains (y ∷ ys) x → (Contains ys x → Contains (filter p ys) x) → Contains (cond b (y ∷ filter p ys) (filter p ys)) x
kept_by p x y ys true e passes (zero, below, is) rest = (0, omega arith, is)
kept_by p x y ys true e passes (suc k, below, is) rest = tail_in x y (filter p ys) (rest (k, omega arith, is))
kept_by p x y ys false e passes (zero, below, is) rest = off (sym e ∙ ap p is ∙ passes)
kept_by p x y ys false e passes (suc k, below, is) rest = rest (k, omega arith, is)

-- what passes a test is kept by a filter
kept : {X : Type 0} (p : X → Bool) (xs : List X) (x : X) → Contains xs x → p x ≡ true → Contains (filter p xs) x
kept p [] x at h = absurd (nothing_in x at)
kept p (y ∷ ys) x at h = kept_by p x y ys (p y) refl h at (λ there. kept p ys x there h)

-- so many bindings as an end must have
unbroken : (a b : Bool) → first_broken a false b ≡ None → (a ≡ false) × (b ≡ false)
unbroken true b h = cc
unbroken false true h = cc
unbroken false false h = (refl, refl)

unbroken_few : (a b : Bool) → first_broken a false b ≡ None → b ≡ false
unbroken_few a b h = (unbroken a b h).1

neither : (a b : Bool) → (a || b) ≡ false → a ≡ false
neither true b h = on h
neither false b h = refl

one_only : (n : ℕ) → nat_lt 1 n ≡ false → (n == 0) ≡ false → n ≡ 1
one_only n h k = grind (arith, nat_tests, h, k)

some_there : {X : Type 0} (xs : List X) → (length xs == 0) ≡ false → (x : X) × Contains xs x
some_there [] h = on h
some_there (x ∷ xs) h = (x, head_in x xs)

-- sockets, which are bound to sockets alone

abbrev is_socket : ObjectForm → Bool
is_socket (form.Initiator pass backward) = true
is_socket (form.Target pass blocking forward) = true
is_socket other = false

module _ (os : Objects) (instance : ℕ) (o : Object) where
  port_side : (f : ObjectForm) → IsRightOfPort os instance o f → is_socket f ≡ false
  port_side (form.Initiator pass backward) h = absurd h
  port_side (form.Target pass blocking forward) h = absurd h
  port_side other h = refl

  export_side : (f : ObjectForm) → IsRightOfExport os instance o f → is_socket f ≡ false
  export_side (form.Initiator pass backward) h = absurd h
  export_side (form.Target pass blocking forward) h = absurd h
  export_side other h = refl

  initiator_side : (f : ObjectForm) → IsRightOfInitiator os instance o f → is_socket f ≡ true
  initiator_side (form.Initiator pass backward) h = refl
  initiator_side (form.Target pass blocking forward) h = refl
  initiator_side other h = absurd h

  target_side : (f : ObjectForm) → IsRightOfTarget os instance o f → is_socket f ≡ true
  target_side (form.Target pass blocking forward) h = refl
  target_side other h = absurd h

  same_side : (l : Object) (f : ObjectForm) → AreEnds os instance o l f → is_socket o.form ≡ is_socket f
  same_side l (form.Port leads_to size rule) (inner, h) = port_side o.form h
  same_side l (form.Export leads_to) (own, h) = export_side o.form h
  same_side l (form.Initiator pass backward) (inner, h) = initiator_side o.form h
  same_side l (form.Target pass blocking forward) (passes, own, h) = target_side o.form h
  same_side l other h = absurd h

  -- a left end is the end of no path
  goes_on : (l : Object) (f : ObjectForm) → AreEnds os instance o l f → ends_path f ≡ false
  goes_on l (form.Port leads_to size rule) h = refl
  goes_on l (form.Export leads_to) h = refl
  goes_on l (form.Initiator pass backward) h = refl
  goes_on l (form.Target pass blocking forward) (passes, own, h) = ap not passes
  goes_on l other h = absurd h

beginning : (o : Option Object) → is_beginning (option_map (λ (x : Object). x.form) o) ≡ true → (x : Object) × (o ≡ Some x) × (begins_path x.form ≡ true)
beginning None h = off h
beginning (Some x) h = (x, refl, h)

module _ (os : Objects) (formed : AreFormed os) (none : first_fault os ≡ None) where
  -- no object has a fault
  unbroken_from : (k : ℕ) (rest : List Object) → objects_fault os k rest ≡ None → (i : ℕ) (o : Object) → slice_get rest i ≡ Some o → broken_at os (k + i) o.form ≡ None
  unbroken_from k [] h i o at = cc
  unbroken_from k (x ∷ rest) h zero o at =
      let two = or_none (object_fault os k x) (objects_fault os (k + 1) rest) h in
      let e : k ≡ k + 0 = omega arith in
      subst (λ (y : Object). broken_at os (k + 0) y.form ≡ None) (same_some x o at) (subst (λ j. broken_at os j x.form ≡ None) e (mapped_none (fault_of os x.line k) (broken_at os k x.form) two.0))
  unbroken_from k (x ∷ rest) h (suc i) o at =
      let two = or_none (object_fault os k x) (objects_fault os (k + 1) rest) h in
      let e : k + 1 + i ≡ k + suc i = omega arith in
      subst (λ j. broken_at os j o.form ≡ None) e (unbroken_from (k + 1) rest two.1 i o at)

  no_fault : (i : ℕ) (o : Object) → object_at os i ≡ Some o → broken_at os i o.form ≡ None
  no_fault i o at =
      let e : 0 + i ≡ i = omega arith in
      subst (λ j. broken_at os j o.form ≡ None) e (unbroken_from 0 os.list (or_none (bindings_fault os os.binds) (objects_fault os 0 os.list) none).1 i o at)

  -- a socket at which a path goes on has one binding
  one_binding : (i : ℕ) (f : ObjectForm) → is_socket f ≡ true → ends_path f ≡ false → broken_at os i f ≡ None → length (bindings_of os i) ≡ 1
  one_binding i (form.Initiator pass backward) s e h =
      let n = length (bindings_of os i) in let u = unbroken (nat_lt 1 n) (n == 0) h in one_only n u.0 u.1
  one_binding i (form.Target true blocking forward) s e h =
      let n = length (bindings_of os i) in
      let two = has_two (leaders_of os i) in
      let u = unbroken (nat_lt 1 n || two) (n == 0) h in
      one_only n (neither (nat_lt 1 n) two u.0) u.1
  one_binding i (form.Target false blocking forward) s e h = on e
  one_binding i other s e h = off s

  single : (i : ℕ) (o : Object) → object_at os i ≡ Some o → is_socket o.form ≡ true → ends_path o.form ≡ false → (b : Binding) × (bindings_of os i ≡ b ∷ [])
  single i o at s e = singleton (bindings_of os i) (one_binding i o.form s e (no_fault i o at))

  -- a binding, by its left end
  pub record IsOf (i : ℕ) (b : Binding) : Type 0 where
    pub listed : Contains os.binds b
    pub formed_ends : HasForm os b
    pub left_is : b.left ≡ i

  of_left : (i : ℕ) (b : Binding) → Contains (bindings_of os i) b → IsOf i b
  of_left i b at =
      let f = filter_from (λ (c : Binding). c.left == i) os.binds b at in
      record { listed = f.0; formed_ends = All-contains (HasForm os) os.binds b formed.bindings f.0; left_is = eqb-true b.left i f.1 }

  end_of_one : (i : ℕ) (b : Binding) → bindings_of os i ≡ b ∷ [] → ends_of os i ≡ itself_or (ends_of os b.right) b.right (is_end (form_at os b.right))
  end_of_one i b e =
      ends_follow os formed i
      ∙ ap (flat_map (λ (c : Binding). itself_or (ends_of os c.right) c.right (is_end (form_at os c.right)))) e
      ∙ append-nil (itself_or (ends_of os b.right) b.right (is_end (form_at os b.right)))

  form_there : (i : ℕ) (o : Object) → object_at os i ≡ Some o → is_end (form_at os i) ≡ ends_path o.form
  form_there i o at = ap (λ (x : Option Object). is_end (option_map (λ (y : Object). y.form) x)) at

  -- from an initiator on there is one end
  one_end_by : (n i : ℕ) (o : Object) → rank os i ≤ n → object_at os i ≡ Some o → is_socket o.form ≡ true → (b : Binding) → bindings_of os i ≡ b ∷ [] → IsOf i b → (last : Bool) → is_end (form_at os b.right) ≡ last
      → ((k : ℕ) (x : Object) → rank os k < n → object_at os k ≡ Some x → is_socket x.form ≡ true → ends_path x.form ≡ false → (t : ℕ) × (ends_of os k ≡ t ∷ [])) → (t : ℕ) × (ends_of os i ≡ t ∷ [])
  one_end_by n i o low at s b e w true l rest = (b.right, end_of_one i b e ∙ ap (itself_or (ends_of os b.right) b.right) l)
  one_end_by n i o low at s b e w false l rest =
      let h = w.formed_ends in
      let left = same_some h.left o (sym h.left_found ∙ ap (object_at os) w.left_is ∙ at) in
      let down = falls os formed b w.listed in
      let here = ap (rank os) w.left_is in
      let socket = same_side os b.instance h.right h.left h.left.form h.ends ∙ ap (λ (x : Object). is_socket x.form) left ∙ s in
      let r = rest b.right h.right (omega (arith, down, here, low)) h.right_found socket (sym (form_there b.right h.right h.right_found) ∙ l) in
      (r.0, end_of_one i b e ∙ ap (itself_or (ends_of os b.right) b.right) l ∙ r.1)

  one_end : (n i : ℕ) (o : Object) → rank os i ≤ n → object_at os i ≡ Some o → is_socket o.form ≡ true → ends_path o.form ≡ false → (t : ℕ) × (ends_of os i ≡ t ∷ [])
  one_end zero i o low at s e =
      let w = single i o at s e in
      one_end_by zero i o low at s w.0 w.1 (of_left i w.0 (subst (λ bs. Contains bs w.0) (sym w.1) (head_in w.0 []))) (is_end (form_at os w.0.right)) refl (λ k x lower there t g. absurd (omega (arith, lower)))
  one_end (suc n) i o low at s e =
      let w = single i o at s e in
      one_end_by (suc n) i o low at s w.0 w.1 (of_left i w.0 (subst (λ bs. Contains bs w.0) (sym w.1) (head_in w.0 []))) (is_end (form_at os w.0.right)) refl
      (λ k x lower there t g. one_end n k x (omega (arith, lower)) there t g)

  -- the hops that are listed
  listed_from : (k : ℕ) (rest : List Object) (i : ℕ) (o : Object) (h : Joined) → slice_get rest i ≡ Some o → Contains (hop_if os (k + i) (begins_path o.form)) h → Contains (hops_from os k rest) h
  listed_from k [] i o h at c = cc
  listed_from k (x ∷ rest) zero o h at c =
      let e : k + 0 ≡ k = omega arith in
      Contains-append_left (hop_if os k (begins_path x.form)) (hops_from os (k + 1) rest) h
      (subst (λ (y : Object). Contains (hop_if os k (begins_path y.form)) h) (sym (same_some x o at)) (subst (λ j. Contains (hop_if os j (begins_path o.form)) h) e c))
  listed_from k (x ∷ rest) (suc i) o h at c =
      let e : k + suc i ≡ k + 1 + i = omega arith in
      Contains-append_right (hop_if os k (begins_path x.form)) (hops_from os (k + 1) rest) h (listed_from (k + 1) rest i o h at (subst (λ j. Contains (hop_if os j (begins_path o.form)) h) e c))

  hop_there : (i : ℕ) (o : Object) (t : ℕ) → object_at os i ≡ Some o → begins_path o.form ≡ true → ends_of os i ≡ t ∷ [] → Contains (bound os).hops (joined i t)
  hop_there i o t at begins e =
      let z : i ≡ 0 + i = omega arith in
      let one : hop_if os i (begins_path o.form) ≡ joined i t ∷ [] = ap (hop_if os i) begins ∙ ap (λ ts. map (λ (u : ℕ). joined i u) (take 1 ts)) e in
      listed_from 0 os.list i o (joined i t) at (subst (λ j. Contains (hop_if os j (begins_path o.form)) (joined i t)) z (subst (λ hs. Contains hs (joined i t)) (sym one) (head_in (joined i t) [])))

  pub begins_hop : (i : ℕ) (o : Object) (backward : Option ℕ) → object_at os i ≡ Some o → o.form ≡ form.Initiator false backward → (h : Joined) × Contains (bound os).hops h × (h.initiator ≡ i)
  begins_hop i o backward at e =
      let t = one_end (rank os i) i o (omega arith) at (ap is_socket e) (ap ends_path e) in
      (joined i t.0, hop_there i o t.0 at (ap begins_path e) t.1, refl)

  -- an initiator that leads to a socket has the ends of that, or it itself
  abbrev LeadsTo : ℕ → ℕ → Type 0
  LeadsTo x j = (is_beginning (form_at os j) ≡ true) × (ends_of os j ≡ itself_or (ends_of os x) x (is_end (form_at os x)))

  pub record Leads (x : ℕ) (b : Binding) : Type 0 where
    pub ends : HasForm os b
    pub socket : is_socket ends.left.form ≡ true
    pub goes : ends_path ends.left.form ≡ false
    pub same : ends_of os b.left ≡ itself_or (ends_of os x) x (is_end (form_at os x))

  same_ends : (b c : Binding) (x : ℕ) → bindings_of os b.left ≡ c ∷ [] → b ≡ c → b.right ≡ x → ends_of os b.left ≡ itself_or (ends_of os x) x (is_end (form_at os x))
  same_ends b c x e only here =
      end_of_one b.left c e ∙ ap (λ (y : Binding). itself_or (ends_of os y.right) y.right (is_end (form_at os y.right))) (sym only) ∙ ap (λ k. itself_or (ends_of os k) k (is_end (form_at os k))) here

  leads : (x : ℕ) (o : Object) → object_at os x ≡ Some o → is_socket o.form ≡ true → (b : Binding) → Contains (bindings_to os x) b → Leads x b
  leads x o at s b there =
      let f = filter_from (λ (c : Binding). c.right == x) os.binds b there in
      let h = All-contains (HasForm os) os.binds b formed.bindings f.0 in
      let here = eqb-true b.right x f.1 in
      let right = same_some h.right o (sym h.right_found ∙ ap (object_at os) here ∙ at) in
      let socket = sym (same_side os b.instance h.right h.left h.left.form h.ends) ∙ ap (λ (y : Object). is_socket y.form) right ∙ s in
      let goes = goes_on os b.instance h.right h.left h.left.form h.ends in
      let w = single b.left h.left h.left_found socket goes in
      let only = only_in b w.0 (subst (λ bs. Contains bs b) w.1 (kept (λ (c : Binding). c.left == b.left) os.binds b f.0 (eq-eqb b.left b.left refl))) in
      record {
        ends = h;
        socket = socket;
        goes = goes;
        same = same_ends b w.0 x w.1 only here;
      }

  led_one : (n x j : ℕ) (b : Binding) → Leads x b → ((o : Object) → object_at os b.left ≡ Some o → is_socket o.form ≡ true → Contains (leaders_within n os b.left) j → LeadsTo b.left j)
      → (first : Bool) → is_beginning (form_at os b.left) ≡ first → Contains (itself_or (leaders_within n os b.left) b.left first) j → LeadsTo x j
  led_one n x j b w rest true e c = subst (LeadsTo x) (sym (only_in j b.left c)) (e, w.same)
  led_one n x j b w rest false e c =
      let r = rest w.ends.left w.ends.left_found w.socket c in
      (r.0, r.1 ∙ ap (itself_or (ends_of os b.left) b.left) (form_there b.left w.ends.left w.ends.left_found ∙ w.goes) ∙ w.same)

  led : (n x : ℕ) (o : Object) → object_at os x ≡ Some o → is_socket o.form ≡ true → (j : ℕ) → Contains (leaders_within n os x) j → LeadsTo x j
  unfolding leaders_within
  led zero x o at s j c = absurd (nothing_in j c)
  led (suc n) x o at s j c =
      let w = flat_map_from (λ (b : Binding). itself_or (leaders_within n os b.left) b.left (is_beginning (form_at os b.left))) (bindings_to os x) j c in
      led_one n x j w.0 (leads x o at s w.0 w.1) (λ y there socket d. led n w.0.left y there socket j d) (is_beginning (form_at os w.0.left)) refl w.2

  led_some : (i : ℕ) (f : ObjectForm) (blocking forward : Option ℕ) → f ≡ form.Target false blocking forward → broken_at os i f ≡ None → (length (leaders_of os i) == 0) ≡ false
  led_some i f blocking forward e h = unbroken_few (has_two (leaders_of os i)) (length (leaders_of os i) == 0) (subst (λ g. broken_at os i g ≡ None) e h)

  pub ends_hop : (i : ℕ) (o : Object) (blocking forward : Option ℕ) → object_at os i ≡ Some o → o.form ≡ form.Target false blocking forward → (h : Joined) × Contains (bound os).hops h × (h.target ≡ i)
  ends_hop i o blocking forward at e =
      let j = some_there (leaders_of os i) (led_some i o.form blocking forward e (no_fault i o at)) in
      let l = led (steps os) i o at (ap is_socket e) j.0 j.1 in
      let x = beginning (object_at os j.0) l.0 in
      (joined j.0 i, hop_there j.0 x.0 i x.1 x.2 (l.1 ∙ ap (itself_or (ends_of os i) i) (form_there i o at ∙ ap ends_path e)), refl)
