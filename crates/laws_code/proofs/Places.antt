-- Names stand for what they are declared as, and so they have the types of what is read.
use Rattle.std.proofs.Common.{◌≡◌, ◌⊎◌, inl, inr, ℕ, Bool, true, false, cond, List, [], ◌∷◌, Option, Some, None, refl, sym, ◌∙◌, ap, subst, length}
use Rattle.std.specs.Prelude.{is_some, option_map, find, position, nat_lt}
use Rattle.std.specs.List.{AllByRecursion, position_or_len}
use Rattle.std.specs.Option.{option_or}
use Rattle.std.proofs.lemmas.List.Folds.{find_at}
use Rattle.code_rules.specs.FlatDesign.Denotes.{Context, declared, variable_type}
use Rattle.code_rules.specs.FlatDesign.Typed.{PortOffers, Offers, IsPort}
use Rattle.code_rules.specs.FlatDesign.declared.value_types.ValueType.{ValueType}
use Rattle.code_rules.specs.FlatDesign.declared.value_types.ValueType.TheVariants as type
use Rattle.code_rules.specs.FlatDesign.declared.names.NameUse.{NameUse}
use Rattle.code_rules.specs.FlatDesign.declared.names.NameUse.TheVariants as name_use
use Rattle.code_rules.specs.FlatDesign.declared.objects.LeadsTo.{LeadsTo}
use Rattle.code_rules.specs.FlatDesign.declared.objects.LeadsTo.TheVariants as leads
use Rattle.code_rules.specs.FlatDesign.declared.design.Denoted.{Denoted}
use Rattle.code_rules.specs.FlatDesign.declared.design.Design.{Design}
use Rattle.code_rules.specs.ModelRules.Meanings.{Declared, declarations}
use Rattle.code_rules.specs.ModelRules.Scopes.{Scope, Local, is_declared, is_local, local_named, meaning_of, use_of, place_of}
use Rattle.code_rules.specs.ModelRules.declared.meanings.Meaning.{Meaning}
use Rattle.code_rules.specs.ModelRules.declared.meanings.Meaning.TheVariants as meaning
use Rattle.code_rules.specs.ModelRules.Names.{is_variable}
use Rattle.laws_code.proofs.Coded.{same_some, below, positioned}
use Rattle.laws_code.proofs.Named.{declared_by}
use Rattle.laws_code.specs.Standing.{IsSignal, IsFifo, IsPortTo, IsPortOf, Standing, LocalStands, NamesStand}
use Rattle.laws_code.proofs.Has.{Has}

-- what a name of the code stands for: a local variable is a variable
abbrev pub UseStands : Context → NameUse → Meaning → Type 0
UseStands c (name_use.Local i) m = (s : ValueType) × (m ≡ meaning.Variable (Some s)) × (variable_type c (name_use.Local i) ≡ Some s)
UseStands c (name_use.Declared n) m = Standing c.design m (declared c n)

pub by_test : {A : Type 0} (P : A → Type 0) (b : Bool) (y : A) (o : Option A) (x : A) → P y → (o ≡ Some x → P x) → cond b (Some y) o ≡ Some x → P x
by_test P true y o x h rest e = subst P (same_some y x e) h
by_test P false y o x h rest e = rest e

pub all_found : {A : Type 0} (P : A → Type 0) (p : A → Bool) (xs : List A) (x : A) → AllByRecursion P xs → find p xs ≡ Some x → P x
all_found P p [] x h e = cc
all_found P p (y ∷ ys) x h e = by_test P (p y) y (find p ys) x h.0 (all_found P p ys x h.1) e

pub mapped_is : {A B : Type 0} (f : A → B) (o : Option A) (y : B) → option_map f o ≡ Some y → (x : A) × (o ≡ Some x) × (f x ≡ y)
mapped_is f None y h = cc
mapped_is f (Some x) y h = (x, refl, same_some (f x) y h)

module _ (s : Scope) (c : Context) (names : NamesStand s c) where
  -- among the names that the module declares
  declared_stands : (name : List ℕ) (m : Meaning) → option_map (λ (d : Declared). d.meaning) (find (is_declared name) (declarations s.items)) ≡ Some m
      → Has (λ n. Standing c.design m (declared c n)) (position (is_declared name) (declarations s.items))
  declared_stands name m h =
      let x = mapped_is (λ (d : Declared). d.meaning) (find (is_declared name) (declarations s.items)) m h in
      let there = below (is_declared name) (declarations s.items) (ap is_some x.1) in (
        position_or_len (is_declared name) (declarations s.items),
        positioned (nat_lt (position_or_len (is_declared name) (declarations s.items)) (length (declarations s.items))) (position_or_len (is_declared name) (declarations s.items)) there,
        subst (λ (y : Meaning). Standing c.design y (declared c (position_or_len (is_declared name) (declarations s.items)))) x.2
            (names.names (position_or_len (is_declared name) (declarations s.items)) x.0 (sym (find_at (is_declared name) (declarations s.items)) ∙ x.1)),
      )

  use_by : (l : Option Local) (d : Option Meaning) (p : Option ℕ) (m : Meaning) → ((x : Local) → l ≡ Some x → LocalStands c x) → (d ≡ Some m → Has (λ n. Standing c.design m (declared c n)) p)
      → option_or (option_map (λ (x : Local). meaning.Variable x.value_type) l) d ≡ Some m
      → Has (λ n. UseStands c n m) (option_or (option_map (λ (x : Local). name_use.Local x.number) l) (option_map name_use.Declared p))
  use_by None d p m f g h = let k = g h in (name_use.Declared k.0, ap (option_map name_use.Declared) k.1, k.2)
  use_by (Some l) d p m f g h =
      let k = f l refl in
      (name_use.Local l.number, refl, (k.0.value_type, sym (same_some (meaning.Variable l.value_type) m h) ∙ ap meaning.Variable k.2, ap (option_map (λ x. x.value_type)) k.1))

  pub use_stands : (name : List ℕ) (m : Meaning) → meaning_of s name ≡ Some m → Has (λ n. UseStands c n m) (use_of s name)
  use_stands name m h =
      use_by (local_named s name) (option_map (λ (d : Declared). d.meaning) (find (is_declared name) (declarations s.items))) (position (is_declared name) (declarations s.items)) m
      (λ x e. all_found (LocalStands c) (is_local name) s.locals x names.locals e) (declared_stands name m) h

  pub place_stands : (name : List ℕ) (m : Meaning) → meaning_of s name ≡ Some m → is_variable m ≡ false → Has (λ n. Standing c.design m (declared c n)) (place_of s name)
  place_stands name m h k =
      declared_stands name m (declared_by (local_named s name) (option_map (λ (d : Declared). d.meaning) (find (is_declared name) (declarations s.items))) m h k).1

-- channels

module _ (d : Design) where
  pub signal_offers : (x : Denoted) (o : Option ValueType) → IsSignal d x o → (s : ValueType) × (o ≡ Some s) × Offers d x (leads.In s) × Offers d x (leads.Out s)
  signal_offers x o h =
      (h.2.value_type, h.5, subst (λ y. Offers d y (leads.In h.2.value_type)) (sym h.3) (h.2, h.4, refl), subst (λ y. Offers d y (leads.Out h.2.value_type)) (sym h.3) (h.2, h.4, refl))

  pub fifo_offers : (x : Denoted) (o : Option ValueType) → IsFifo d x o → (s : ValueType) × (o ≡ Some s) × Offers d x (leads.FifoIn s) × Offers d x (leads.FifoOut s)
  fifo_offers x o h =
      (h.2.value_type, h.5, subst (λ y. Offers d y (leads.FifoIn h.2.value_type)) (sym h.3) (h.2, h.4, refl), subst (λ y. Offers d y (leads.FifoOut h.2.value_type)) (sym h.3) (h.2, h.4, refl))

  pub port_offers : (x : Denoted) (kind wanted : LeadsTo) → IsPortTo d x kind → PortOffers kind wanted → Offers d x wanted
  port_offers x kind wanted h k = subst (λ y. Offers d y wanted) (sym h.2) (h.1, h.3, subst (λ y. PortOffers y wanted) (sym h.4) k)

  pub port_is : (x : Denoted) (kind : LeadsTo) → IsPortTo d x kind → IsPort x
  port_is x kind h = subst IsPort (sym h.2) tt

  -- what is read of a type
  abbrev pub Reads : Denoted → Option ValueType → Type 0
  Reads x o = (s : ValueType) × (o ≡ Some s) × Offers d x (leads.In s)

  -- what is written, read and put of a type
  abbrev pub Writes : Denoted → Option ValueType → Type 0
  Writes x o = (s : ValueType) × (o ≡ Some s) × (Offers d x (leads.Out s) ⊎ Offers d x (leads.FifoOut s))

  pub resolved_offers : (x : Denoted) → Standing d meaning.Resolved x → Offers d x (leads.In type.Logic) × Offers d x (leads.Out type.Logic)
  resolved_offers x h = (subst (λ y. Offers d y (leads.In type.Logic)) (sym h.2) refl, subst (λ y. Offers d y (leads.Out type.Logic)) (sym h.2) refl)

  pub in_offers : (x : Denoted) (o : Option ValueType) → IsPortOf d x leads.In o → Reads x o
  in_offers x o h = (h.0, h.1, port_offers x (leads.In h.0) (leads.In h.0) h.2 (inl refl))

  pub out_offers : (x : Denoted) (o : Option ValueType) → IsPortOf d x leads.Out o → Reads x o × Writes x o
  out_offers x o h =
      ((h.0, h.1, port_offers x (leads.Out h.0) (leads.In h.0) h.2 (inr (h.0, refl, refl))), (h.0, h.1, inl (port_offers x (leads.Out h.0) (leads.Out h.0) h.2 (inl refl))))
