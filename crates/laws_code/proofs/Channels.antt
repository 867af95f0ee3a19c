-- Variables, channels and events of statements are what the code asks of them.
use Rattle.std.proofs.Common.{◌≡◌, ◌⊎◌, inl, inr, ℕ, zero, suc, Bool, true, false, ◌&&◌, ◌||◌, List, Option, Some, None, refl, sym, ◌∙◌, ap, subst, true≢false}
use Rattle.std.specs.Prelude.{is_some, option_map, option_and_then, nat_le}
use Rattle.code_rules.specs.ModelTree.Tree as tree
use Rattle.code_rules.specs.ModelTree.Limits.{is_formed, token_count, token_limit, depth, fits, within}
use Rattle.code_rules.specs.FlatDesign.Code.{Term}
use Rattle.code_rules.specs.FlatDesign.Denotes.{Context, declared, variable_type, type_of_variable}
use Rattle.code_rules.specs.FlatDesign.Typed.{Offers, IsPort, IsProcess, IsPayload, HasType, FitsIn, Gives, GivesInteger, IfWritten, GivesTime}
use Rattle.code_rules.specs.FlatDesign.declared.value_types.ValueType.{ValueType}
use Rattle.code_rules.specs.FlatDesign.declared.value_types.ValueType.TheVariants as type
use Rattle.code_rules.specs.FlatDesign.declared.names.NameUse.{NameUse}
use Rattle.code_rules.specs.FlatDesign.declared.names.NameUse.TheVariants as name_use
use Rattle.code_rules.specs.FlatDesign.declared.objects.LeadsTo.TheVariants as leads
use Rattle.code_rules.specs.FlatDesign.declared.code.Store.{Store}
use Rattle.code_rules.specs.FlatDesign.declared.design.Denoted.{Denoted}
use Rattle.code_rules.specs.FlatDesign.declared.design.Design.{Design}
use Rattle.code_rules.specs.ModelRules.Scopes.{Scope, use_of, place_of}
use Rattle.code_rules.specs.ModelRules.Operators.{is_integer, is_time, evaluated_as}
use Rattle.code_rules.specs.ModelRules.Types.{is_port, type_of}
use Rattle.code_rules.specs.ModelRules.Targets.{takes, misfits, same_type, differ, written_type, taken_type, put_type, held_by, variable_named}
use Rattle.code_rules.specs.ModelRules.declared.meanings.ExpressionType.{ExpressionType}
use Rattle.code_rules.specs.ModelRules.declared.meanings.Meaning.{Meaning}
use Rattle.code_rules.specs.ModelRules.declared.meanings.Meaning.TheVariants as meaning
use Rattle.code_rules.specs.ModelRules.declared.needs.Need.TheVariants as need_of
use Rattle.code_rules.specs.ModelRules.Sites.{expression_sites}
use Rattle.code_rules.specs.ModelRules.Names.{Used, meets, is_variable, is_signal_written, is_fifo_written, is_fifo_read, is_mutex, is_semaphore, is_process, is_payload}
use Rattle.code_rules.specs.ModelRules.Values.{fails}
use Rattle.code_rules.specs.ModelRules.Passes.{constructs, fault_of}
use Rattle.code_rules.specs.Terms.{term_of}
use Rattle.code_rules.specs.Deeds.{with_two, if_written, store}
use Rattle.laws_code.specs.Known.{is_type_known, TypesAreKnown}
use Rattle.laws_code.specs.Met.{IsMet}
use Rattle.laws_code.proofs.Coded.{some_none}
use Rattle.laws_code.proofs.Typed.{typed, same_false}
use Rattle.laws_code.proofs.Named.{no_variable}
use Rattle.laws_code.specs.Standing.{Standing, NamesStand}
use Rattle.laws_code.proofs.Has.{Has, map_has}
use Rattle.laws_code.proofs.Operands.{both_true, same_width, integer_type, takes_fit, time_type}
use Rattle.laws_code.proofs.Places.{UseStands, use_stands, place_stands, signal_offers, fifo_offers, port_offers, port_is, resolved_offers}
use Rattle.laws_code.proofs.ReadTypes.{process_variable}
use Rattle.laws_code.proofs.Terms.{Follows, term_typed}

-- an expression within the limits is formed
pub formed : (n : ℕ) (e : tree.Expression) → fits n e ≡ true → is_formed e 0 ≡ true
formed n e h =
    (both_true (is_formed e 0) (nat_le (token_count e) token_limit) (both_true (is_formed e 0 && nat_le (token_count e) token_limit) (nat_le (depth e) n) h).0).0

pub within_is : (n : ℕ) (test : ℕ → Bool) → within n test ≡ true → (k : ℕ) × (test k ≡ true)
within_is zero test h = cc
within_is (suc n) test h = (n, h)

pub is_there : {A : Type 0} (o : Option A) → is_some o ≡ true → (x : A) × (o ≡ Some x)
is_there None h = some_none h
is_there (Some x) h = (x, refl)

-- types
pub same_types : (x y : ValueType) → same_type x y ≡ true → x ≡ y
same_types type.Bool type.Bool h = refl
same_types (type.Int width) (type.Int other) h = ap type.Int (same_width width other h)
same_types (type.Uint width) (type.Uint other) h = ap type.Uint (same_width width other h)
same_types type.Logic type.Logic h = refl
same_types (type.Vector width) (type.Vector other) h = ap type.Vector (same_width width other h)
same_types type.Time type.Time h = refl
same_types type.Process type.Process h = refl
same_types type.Payload type.Payload h = refl
same_types x y h = cc

pub fits_in : (target : ValueType) (e : ExpressionType) (o : Option ValueType) (k : Option ExpressionType) → o ≡ Some target → k ≡ Some e → misfits o k ≡ false → FitsIn target (evaluated_as e)
fits_in target e o k is at h = takes_fit target e (same_false (takes target e) (sym (λ i. misfits (is i) (at i)) ∙ h))

-- channels of the design
module _ (d : Design) where
  pub mutex_offers : (m : Meaning) (x : Denoted) → is_mutex m ≡ true → Standing d m x → Offers d x leads.Mutex
  mutex_offers meaning.Mutex x h k = subst (λ y. Offers d y leads.Mutex) (sym k.2) tt
  mutex_offers (meaning.MutexPort size) x h k = port_offers d x leads.Mutex leads.Mutex k (inl refl)
  mutex_offers other x h k = absurd (true≢false (sym h))

  pub semaphore_offers : (m : Meaning) (x : Denoted) → is_semaphore m ≡ true → Standing d m x → Offers d x leads.Semaphore
  semaphore_offers meaning.Semaphore x h k = subst (λ y. Offers d y leads.Semaphore) (sym k.2) tt
  semaphore_offers (meaning.SemaphorePort size) x h k = port_offers d x leads.Semaphore leads.Semaphore k (inl refl)
  semaphore_offers other x h k = absurd (true≢false (sym h))

  pub taken_offers : (m : Meaning) (x : Denoted) → is_fifo_read m ≡ true → Standing d m x → (s : ValueType) × (taken_type m ≡ Some s) × Offers d x (leads.FifoIn s)
  taken_offers (meaning.Fifo o) x h k = let y = fifo_offers d x o k in (y.0, y.1, y.2)
  taken_offers (meaning.FifoIn o size) x h k = (k.0, k.1, port_offers d x (leads.FifoIn k.0) (leads.FifoIn k.0) k.2 (inl refl))
  taken_offers other x h k = absurd (true≢false (sym h))

  pub put_offers : (m : Meaning) (x : Denoted) → is_fifo_written m ≡ true → Standing d m x → (s : ValueType) × (put_type m ≡ Some s) × Offers d x (leads.FifoOut s)
  put_offers (meaning.Fifo o) x h k = let y = fifo_offers d x o k in (y.0, y.1, y.3)
  put_offers (meaning.FifoOut o size) x h k = (k.0, k.1, port_offers d x (leads.FifoOut k.0) (leads.FifoOut k.0) k.2 (inl refl))
  put_offers other x h k = absurd (true≢false (sym h))

  pub written_offers : (m : Meaning) (x : Denoted) → (is_signal_written m || is_fifo_written m) ≡ true → Standing d m x
      → (s : ValueType) × (written_type m ≡ Some s) × (Offers d x (leads.Out s) ⊎ Offers d x (leads.FifoOut s))
  written_offers (meaning.Signal o) x h k = let y = signal_offers d x o k in (y.0, y.1, inl y.3)
  written_offers meaning.Resolved x h k = (type.Logic, refl, inl (resolved_offers d x k).1)
  written_offers (meaning.Out o size) x h k = (k.0, k.1, inl (port_offers d x (leads.Out k.0) (leads.Out k.0) k.2 (inl refl)))
  written_offers (meaning.Fifo o) x h k = let y = fifo_offers d x o k in (y.0, y.1, inr y.3)
  written_offers (meaning.FifoOut o size) x h k = (k.0, k.1, inr (port_offers d x (leads.FifoOut k.0) (leads.FifoOut k.0) k.2 (inl refl)))
  written_offers other x h k = absurd (true≢false (sym h))

  pub standing_port : (m : Meaning) (x : Denoted) → is_port m ≡ true → Standing d m x → IsPort x
  standing_port (meaning.In o size) x h k = port_is d x (leads.In k.0) k.2
  standing_port (meaning.Out o size) x h k = port_is d x (leads.Out k.0) k.2
  standing_port (meaning.FifoIn o size) x h k = port_is d x (leads.FifoIn k.0) k.2
  standing_port (meaning.FifoOut o size) x h k = port_is d x (leads.FifoOut k.0) k.2
  standing_port (meaning.MutexPort size) x h k = port_is d x leads.Mutex k
  standing_port (meaning.SemaphorePort size) x h k = port_is d x leads.Semaphore k
  standing_port other x h k = absurd (true≢false (sym h))

pub use_variable : (c : Context) (n : NameUse) (o : Option ValueType) → UseStands c n (meaning.Variable o) → variable_type c n ≡ o
use_variable c (name_use.Local i) o h = h.2 ∙ sym (ap held_by h.1)
use_variable c (name_use.Declared n) o h = ap (type_of_variable c.design) h.2 ∙ ap (option_map (λ p. p.value_type)) h.3 ∙ sym h.4

pub held_is : (m : Meaning) → is_variable m ≡ true → m ≡ meaning.Variable (held_by m)
held_is (meaning.Variable o) h = refl
held_is other h = absurd (true≢false (sym h))

pub variable_known : (m : Meaning) → is_variable m ≡ true → is_type_known m ≡ true → is_some (held_by m) ≡ true
variable_known (meaning.Variable o) h k = k
variable_known other h k = absurd (true≢false (sym h))

as_process : (c : Context) (n : NameUse) (m : Meaning) → is_process m ≡ true → UseStands c n m → IsProcess c n
as_process c (name_use.Local i) meaning.Process h k = cc k.1
as_process c (name_use.Declared n) meaning.Process h k = inl (k.0, k.1)
as_process c n (meaning.Variable (Some type.Process)) h k = process_variable c n (use_variable c n (Some type.Process) k)
as_process c n other h k = absurd (true≢false (sym h))

pub as_payload : (c : Context) (n : NameUse) (m : Meaning) → is_payload m ≡ true → UseStands c n m → IsPayload c n
as_payload c n (meaning.Variable (Some type.Payload)) h k = use_variable c n (Some type.Payload) k
as_payload c n other h k = absurd (true≢false (sym h))

module _ (s : Scope) (c : Context) (names : NamesStand s c) (known : TypesAreKnown s) where
  -- expressions
  pub follows : (n : ℕ) (e : tree.Expression) → fits n e ≡ true → Follows c (type_of s e) (term_of s e)
  follows n e h = term_typed c s names e 0 (formed n e h)

  pub type_there : (e : tree.Expression) → fault_of constructs (expression_sites s e) ≡ None → (x : ExpressionType) × (type_of s e ≡ Some x)
  type_there e clean = is_there (type_of s e) (typed s known need_of.Readable e clean)

  -- an expression whose type passes a test
  pub tested : (test : ExpressionType → Bool) (o : Option ExpressionType) (x : ExpressionType) → o ≡ Some x → fails test o ≡ false → test x ≡ true
  tested test o x is h = same_false (test x) (sym (ap (fails test) is) ∙ h)

  pub integer_there : (n : ℕ) (e : tree.Expression) → fits n e ≡ true → fault_of constructs (expression_sites s e) ≡ None → fails is_integer (type_of s e) ≡ false → Has (GivesInteger c) (term_of s e)
  integer_there n e h clean ok =
      let x = type_there e clean in
      let y = follows n e h x.0 x.1 in
      (y.0, y.1, (evaluated_as x.0, y.2, integer_type x.0 (tested is_integer (type_of s e) x.0 x.1 ok)))

  pub time_there : (n : ℕ) (e : tree.Expression) → fits n e ≡ true → fault_of constructs (expression_sites s e) ≡ None → fails is_time (type_of s e) ≡ false → Has (GivesTime c) (term_of s e)
  time_there n e h clean ok =
      let x = type_there e clean in
      let y = follows n e h x.0 x.1 in
      (y.0, y.1, subst (HasType c y.0) (time_type x.0 (tested is_time (type_of s e) x.0 x.1 ok)) y.2)

  pub gives_there : (n : ℕ) (e : tree.Expression) (o : Option ValueType) (target : ValueType) → o ≡ Some target → fits n e ≡ true → fault_of constructs (expression_sites s e) ≡ None → misfits o (type_of s e) ≡ false
      → Has (λ x. Gives c x target) (term_of s e)
  gives_there n e o target is h clean ok =
      let x = type_there e clean in
      let y = follows n e h x.0 x.1 in
      (y.0, y.1, (evaluated_as x.0, y.2, fits_in target x.0 o (type_of s e) is x.1 ok))

  -- what may be written
  pub if_there : (P : Term → Type 0) (n : ℕ) (e : Option tree.Expression) → ((x : tree.Expression) → e ≡ Some x → Has P (term_of s x)) → Has (IfWritten P) (if_written (term_of s) e)
  if_there P n None f = (None, refl, tt)
  if_there P n (Some e) f = map_has P (IfWritten P) Some (term_of s e) (λ x p. p) (f e refl)

  -- variables
  pub variable_there : (name : List ℕ) → IsMet s (name, need_of.Variable) → Has (λ n. variable_type c n ≡ variable_named s name) (use_of s name)
  variable_there name k =
      let u = use_stands s c names name k.meaning k.known in (
        u.0,
        u.1,
        use_variable c u.0 (held_by k.meaning) (subst (UseStands c u.0) (held_is k.meaning k.meets_need) u.2) ∙ sym (ap (option_and_then held_by) k.known),
      )

  pub named_type : (name : List ℕ) → IsMet s (name, need_of.Variable) → (x : ValueType) × (variable_named s name ≡ Some x)
  named_type name k =
      let x = is_there (held_by k.meaning) (variable_known k.meaning k.meets_need (known name k.meaning k.known)) in
      (x.0, ap (option_and_then held_by) k.known ∙ x.1)

  pub of_type : (name : List ℕ) (x : ValueType) → IsMet s (name, need_of.Variable) → differ (Some x) (variable_named s name) ≡ false → Has (λ n. variable_type c n ≡ Some x) (use_of s name)
  of_type name x k ok =
      let u = variable_there name k in
      let y = named_type name k in
      let same = same_types x y.0 (same_false (same_type x y.0) (sym (ap (differ (Some x)) y.1) ∙ ok)) in
      (u.0, u.1, u.2 ∙ y.1 ∙ ap Some (sym same))

  abbrev pub IsStore : List ℕ → Store → Type 0
  IsStore name z = (variable_type c z.name ≡ Some z.value_type) × (variable_named s name ≡ Some z.value_type)

  pub store_there : (name : List ℕ) → IsMet s (name, need_of.Variable) → Has (IsStore name) (store s name)
  store_there name k =
      let u = variable_there name k in
      let y = named_type name k in
      (record { name = u.0; value_type = y.0 }, (λ i. with_two (λ n t. record { name = n; value_type = t }) (u.1 i) (y.1 i)), (u.2 ∙ y.1, y.1))

  -- what is no variable
  pub process_there : (name : List ℕ) → IsMet s (name, need_of.Process) → Has (IsProcess c) (use_of s name)
  process_there name k =
      let u = use_stands s c names name k.meaning k.known in
      (u.0, u.1, as_process c u.0 k.meaning k.meets_need u.2)

  pub payload_there : (name : List ℕ) → IsMet s (name, need_of.Payload) → Has (IsPayload c) (use_of s name)
  payload_there name k =
      let u = use_stands s c names name k.meaning k.known in
      (u.0, u.1, as_payload c u.0 k.meaning k.meets_need u.2)

  pub standing_there : (u : Used) → ((o : Option ValueType) → meets u.1 (meaning.Variable o) ≡ false) → (k : IsMet s u) → Has (λ n. Standing c.design k.meaning (declared c n)) (place_of s u.0)
  standing_there u f k = place_stands s c names u.0 k.meaning k.known (no_variable u.1 f k.meaning k.meets_need)
