-- Names and members that are read have their types.
use Rattle.std.proofs.Common.{◌≡◌, ◌⊎◌, inl, inr, ℕ, Bool, true, false, cond, List, [], ◌∷◌, Option, Some, None, refl, sym, ◌∙◌, ap, subst}
use Rattle.std.specs.Prelude.{option_map, find, bytes_eq}
use Rattle.std.specs.List.{AllByRecursion}
use Rattle.code_rules.specs.FlatDesign.Code as code
use Rattle.code_rules.specs.FlatDesign.Code.{Term}
use Rattle.code_rules.specs.FlatDesign.Denotes.{Context, declared, variable_type, type_of_variable}
use Rattle.code_rules.specs.FlatDesign.Typed.{Offers, IsProcess, IsPayload, UseOffers, MemberType, NameType, HasType, GivesInteger}
use Rattle.code_rules.specs.FlatDesign.ValueTypes.{in_expressions}
use Rattle.code_rules.specs.FlatDesign.declared.value_types.ValueType.{ValueType}
use Rattle.code_rules.specs.FlatDesign.declared.value_types.ValueType.TheVariants as type
use Rattle.code_rules.specs.FlatDesign.declared.names.NameUse.{NameUse}
use Rattle.code_rules.specs.FlatDesign.declared.names.NameUse.TheVariants as name_use
use Rattle.code_rules.specs.FlatDesign.declared.objects.LeadsTo.TheVariants as leads
use Rattle.code_rules.specs.ModelRules.Members.{variable_row, row_of, value_members, entry, member_type}
use Rattle.code_rules.specs.ModelRules.Operators.{seen_as, evaluated_as}
use Rattle.code_rules.specs.ModelRules.Types.{value_of, is_port}
use Rattle.code_rules.specs.ModelRules.declared.meanings.ExpressionType.{ExpressionType}
use Rattle.code_rules.specs.ModelRules.declared.meanings.ExpressionType.TheVariants as t
use Rattle.code_rules.specs.ModelRules.declared.meanings.Meaning.{Meaning}
use Rattle.code_rules.specs.ModelRules.declared.meanings.Meaning.TheVariants as meaning
use Rattle.code_rules.specs.ModelRules.declared.meanings.Row.{Row}
use Rattle.code_rules.specs.ModelRules.declared.meanings.Row.TheVariants as row
use Rattle.code_rules.specs.ModelRules.declared.meanings.ValueMember.{ValueMember}
use Rattle.code_rules.specs.ModelRules.declared.meanings.ValueMember.TheVariants as reached
use Rattle.laws_code.proofs.Coded.{same_some}
use Rattle.laws_code.specs.Standing.{Standing}
use Rattle.laws_code.proofs.Operands.{seen_type}
use Rattle.laws_code.proofs.Places.{UseStands, signal_offers, fifo_offers, port_offers, port_is, resolved_offers, in_offers, out_offers}

-- an object, at its place where it is a port
abbrev pub ObjectStands : Context → NameUse → Option Term → Meaning → Type 0
ObjectStands c n None m = UseStands c n m
ObjectStands c (name_use.Local i) (Some place) m = ⊥
ObjectStands c (name_use.Declared n) (Some place) m = Standing c.design m (declared c n) × (is_port m ≡ true) × GivesInteger c place

read_type : (o : Option ValueType) (s : ValueType) (e : ExpressionType) → o ≡ Some s → option_map seen_as o ≡ Some e → evaluated_as e ≡ in_expressions s
read_type o s e h k = sym (ap evaluated_as (same_some (seen_as s) e (sym (ap (option_map seen_as) h) ∙ k))) ∙ seen_type s

abbrev IsRead : Context → ℕ → ExpressionType → Type 0
IsRead c n e = (s : ValueType) × UseOffers c (name_use.Declared n) (leads.In s) × (evaluated_as e ≡ in_expressions s)

-- a member of an object fits it
abbrev pub MemberFits : Context → NameUse → Option Term → ValueMember → Type 0
MemberFits c n None (reached.One x) = MemberType c n x (evaluated_as (member_type x))
MemberFits c n None (reached.Many b) = IsPayload c n
MemberFits c (name_use.Local i) (Some place) v = ⊥
MemberFits c (name_use.Declared n) (Some place) (reached.One x) = HasType c (code.placed_member n place x) (evaluated_as (member_type x))
MemberFits c (name_use.Declared n) (Some place) (reached.Many b) = ⊥

abbrev AllFit : Context → NameUse → Option Term → List (List ℕ × ValueMember) → Type 0
AllFit c n place entries = AllByRecursion (λ (e : List ℕ × ValueMember). MemberFits c n place e.1) entries

entry_at : {A : Type 0} (P : A → Type 0) (b : Bool) (x : List ℕ × A) (o : Option (List ℕ × A)) (v : A) → P x.1 → (option_map (λ e. e.1) o ≡ Some v → P v) → option_map (λ e. e.1) (cond b (Some x) o) ≡ Some v → P v
entry_at P true x o v h rest e = subst P (same_some x.1 v e) h
entry_at P false x o v h rest e = rest e

pub entry_has : {A : Type 0} (P : A → Type 0) (name : List ℕ) (entries : List (List ℕ × A)) (v : A) → AllByRecursion (λ (e : List ℕ × A). P e.1) entries → entry name entries ≡ Some v → P v
entry_has P name [] v h e = cc
entry_has P name (x ∷ xs) v h e = entry_at P (bytes_eq x.0 name) x (find (λ y. bytes_eq y.0 name) xs) v h.0 (entry_has P name xs v h.1) e

module _ (c : Context) where
  -- a name that is read
  pub reads : (n : ℕ) (m : Meaning) (e : ExpressionType) → Standing c.design m (declared c n) → value_of m ≡ Some e → NameType c (name_use.Declared n) (evaluated_as e)
  reads n (meaning.Signal o) e h k = let r = signal_offers c.design (declared c n) o h in inr (inl (r.0, r.2, read_type o r.0 e r.1 k))
  reads n meaning.Resolved e h k = inr (inl (type.Logic, (resolved_offers c.design (declared c n) h).0, sym (ap evaluated_as (same_some t.Logic e k))))
  reads n meaning.Clock e h k = let r = signal_offers c.design (declared c n) (Some type.Bool) h in inr (inl (r.0, r.2, read_type (Some type.Bool) r.0 e r.1 k))
  reads n (meaning.Variable o) e h k = inl (h.1.value_type, ap (type_of_variable c.design) h.2 ∙ ap (option_map (λ p. p.value_type)) h.3, read_type o h.1.value_type e h.4 k)
  reads n (meaning.In o size) e h k = let r = in_offers c.design (declared c n) o h in inr (inl (r.0, r.2, read_type o r.0 e r.1 k))
  reads n (meaning.Out o size) e h k = let r = (out_offers c.design (declared c n) o h).0 in inr (inl (r.0, r.2, read_type o r.0 e r.1 k))
  reads n meaning.Process e h k = inr (inr (inl (h.0, h.1), sym (ap evaluated_as (same_some t.Process e k))))
  reads n other e h k = cc

  pub use_reads : (n : NameUse) (m : Meaning) (e : ExpressionType) → UseStands c n m → value_of m ≡ Some e → NameType c n (evaluated_as e)
  use_reads (name_use.Local i) m e h k = inl (h.0, h.2, read_type (Some h.0) h.0 e refl (sym (ap value_of h.1) ∙ k))
  use_reads (name_use.Declared n) m e h k = reads n m e h k

  -- a port that is read at a place
  pub placed_reads : (n : ℕ) (place : Term) (m : Meaning) (e : ExpressionType) → Standing c.design m (declared c n) → is_port m ≡ true → GivesInteger c place → value_of m ≡ Some e
      → HasType c (code.placed n place) (evaluated_as e)
  placed_reads n place (meaning.In o size) e h p i k =
      let r = in_offers c.design (declared c n) o h in
      (port_is c.design (declared c n) (leads.In h.0) h.2, i, (r.0, r.2, read_type o r.0 e r.1 k))
  placed_reads n place (meaning.Out o size) e h p i k =
      let r = (out_offers c.design (declared c n) o h).0 in
      (port_is c.design (declared c n) (leads.Out h.0) h.2, i, (r.0, r.2, read_type o r.0 e r.1 k))
  placed_reads n place other e h p i k = cc

  -- members of variables
  pub process_variable : (n : NameUse) → variable_type c n ≡ Some type.Process → IsProcess c n
  process_variable (name_use.Local i) h = h
  process_variable (name_use.Declared n) h = inr h

  of_variable : (n : NameUse) (s : ValueType) (r : Row) → variable_type c n ≡ Some s → variable_row (Some s) ≡ Some r → AllFit c n None (value_members r)
  of_variable n type.Process r h k = subst (λ x. AllFit c n None (value_members x)) (same_some row.Processes r k) ((process_variable n h, refl), ((process_variable n h, refl), tt))
  of_variable n type.Payload r h k = subst (λ x. AllFit c n None (value_members x)) (same_some row.Payloads r k)
      ((h, refl), ((h, refl), ((h, refl), ((h, refl), ((h, refl), ((h, refl), ((h, refl), (h, (h, tt)))))))))
  of_variable n other r h k = cc

  -- members of what a module declares
  abbrev Fit : ℕ → Row → Type 0
  Fit n r = AllFit c (name_use.Declared n) None (value_members r)

  changed_fits : (n : ℕ) (o : Option ValueType) (r : Row) → ((s : ValueType) × UseOffers c (name_use.Declared n) (leads.In s)) → Some (row.Signals o) ≡ Some r → Fit n r
  changed_fits n o r h k = subst (Fit n) (same_some (row.Signals o) r k) ((h, refl), tt)

  fifo_fits : (n : ℕ) (r : Row) → ((s : ValueType) × (UseOffers c (name_use.Declared n) (leads.FifoIn s) ⊎ UseOffers c (name_use.Declared n) (leads.FifoOut s))) → Some row.Fifos ≡ Some r → Fit n r
  fifo_fits n r h k = subst (Fit n) (same_some row.Fifos r k) ((h, refl), ((h, refl), tt))

  semaphore_fits : (n : ℕ) (r : Row) → UseOffers c (name_use.Declared n) leads.Semaphore → Some row.Semaphores ≡ Some r → Fit n r
  semaphore_fits n r h k = subst (Fit n) (same_some row.Semaphores r k) ((h, refl), tt)

  declared_fits : (n : ℕ) (m : Meaning) (r : Row) → Standing c.design m (declared c n) → row_of m ≡ Some r → Fit n r
  declared_fits n (meaning.Signal o) r h k = let x = signal_offers c.design (declared c n) o h in changed_fits n o r (x.0, x.2) k
  declared_fits n meaning.Resolved r h k = changed_fits n (Some type.Logic) r (type.Logic, (resolved_offers c.design (declared c n) h).0) k
  declared_fits n meaning.Clock r h k = let x = signal_offers c.design (declared c n) (Some type.Bool) h in changed_fits n (Some type.Bool) r (x.0, x.2) k
  declared_fits n (meaning.Fifo o) r h k = let x = fifo_offers c.design (declared c n) o h in fifo_fits n r (x.0, inl x.2) k
  declared_fits n meaning.Keeper r h k = subst (Fit n) (same_some row.Keepers r k) ((h, refl), ((h, refl), ((h, refl), tt)))
  declared_fits n meaning.Semaphore r h k = semaphore_fits n r (subst (λ y. Offers c.design y leads.Semaphore) (sym h.2) tt) k
  declared_fits n (meaning.Variable o) r h k =
      of_variable (name_use.Declared n) h.1.value_type r (ap (type_of_variable c.design) h.2 ∙ ap (option_map (λ p. p.value_type)) h.3) (sym (ap variable_row h.4) ∙ k)
  declared_fits n (meaning.In o size) r h k = let x = in_offers c.design (declared c n) o h in changed_fits n o r (x.0, x.2) k
  declared_fits n (meaning.Out o size) r h k = let x = (out_offers c.design (declared c n) o h).0 in changed_fits n o r (x.0, x.2) k
  declared_fits n (meaning.FifoIn o size) r h k = fifo_fits n r (h.0, inl (port_offers c.design (declared c n) (leads.FifoIn h.0) (leads.FifoIn h.0) h.2 (inl refl))) k
  declared_fits n (meaning.FifoOut o size) r h k = fifo_fits n r (h.0, inr (port_offers c.design (declared c n) (leads.FifoOut h.0) (leads.FifoOut h.0) h.2 (inl refl))) k
  declared_fits n (meaning.SemaphorePort size) r h k = semaphore_fits n r (port_offers c.design (declared c n) leads.Semaphore leads.Semaphore h (inl refl)) k
  declared_fits n meaning.Process r h k = subst (Fit n) (same_some row.Processes r k) ((inl (h.0, h.1), refl), ((inl (h.0, h.1), refl), tt))
  declared_fits n other r h k = cc

  -- members of a port's channel
  abbrev PlacedFit : ℕ → Term → Row → Type 0
  PlacedFit n place r = AllFit c (name_use.Declared n) (Some place) (value_members r)

  placed_fits : (n : ℕ) (place : Term) (m : Meaning) (r : Row) → Standing c.design m (declared c n) → is_port m ≡ true → GivesInteger c place → row_of m ≡ Some r → PlacedFit n place r
  placed_fits n place (meaning.In o size) r h p i k =
      let x = in_offers c.design (declared c n) o h in
      subst (PlacedFit n place) (same_some (row.Signals o) r k) ((port_is c.design (declared c n) (leads.In h.0) h.2, i, ((x.0, x.2), refl)), tt)
  placed_fits n place (meaning.Out o size) r h p i k =
      let x = (out_offers c.design (declared c n) o h).0 in
      subst (PlacedFit n place) (same_some (row.Signals o) r k) ((port_is c.design (declared c n) (leads.Out h.0) h.2, i, ((x.0, x.2), refl)), tt)
  placed_fits n place (meaning.FifoIn o size) r h p i k =
      let port = port_is c.design (declared c n) (leads.FifoIn h.0) h.2 in
      let x = port_offers c.design (declared c n) (leads.FifoIn h.0) (leads.FifoIn h.0) h.2 (inl refl) in
      subst (PlacedFit n place) (same_some row.Fifos r k) ((port, i, ((h.0, inl x), refl)), ((port, i, ((h.0, inl x), refl)), tt))
  placed_fits n place (meaning.FifoOut o size) r h p i k =
      let port = port_is c.design (declared c n) (leads.FifoOut h.0) h.2 in
      let x = port_offers c.design (declared c n) (leads.FifoOut h.0) (leads.FifoOut h.0) h.2 (inl refl) in
      subst (PlacedFit n place) (same_some row.Fifos r k) ((port, i, ((h.0, inr x), refl)), ((port, i, ((h.0, inr x), refl)), tt))
  placed_fits n place (meaning.SemaphorePort size) r h p i k =
      let port = port_is c.design (declared c n) leads.Semaphore h in
      let x = port_offers c.design (declared c n) leads.Semaphore leads.Semaphore h (inl refl) in
      subst (PlacedFit n place) (same_some row.Semaphores r k) ((port, i, (x, refl)), tt)
  placed_fits n place other r h p i k = cc

  pub members_fit : (n : NameUse) (place : Option Term) (m : Meaning) (r : Row) → ObjectStands c n place m → row_of m ≡ Some r → AllFit c n place (value_members r)
  members_fit (name_use.Local i) None m r h k = of_variable (name_use.Local i) h.0 r h.2 (sym (ap row_of h.1) ∙ k)
  members_fit (name_use.Local i) (Some place) m r h k = absurd h
  members_fit (name_use.Declared n) None m r h k = declared_fits n m r h k
  members_fit (name_use.Declared n) (Some place) m r h k = placed_fits n place m r h.0 h.1 h.2 k
