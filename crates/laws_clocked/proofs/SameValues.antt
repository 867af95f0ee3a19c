-- An expression has the same value in two configurations that differ in their processes and their trace alone, where the same
-- instances have ended.
use Rattle.std.proofs.Common.{◌≡◌, ℕ, cond, List, length, Option, Some, None, refl, sym, ap, ◌∙◌, ⊎_elim, subst}
use Rattle.std.specs.Prelude.{Result, Ok, Err, is_some, slice_get}
use Rattle.std.proofs.lemmas.Bool.{cases_eq}
use Rattle.laws_runs.specs.LogicValues.declared.kinds.Value.{Value}
use Rattle.laws_runs.specs.PayloadPool.declared.payload.Payload.{Payload}
use Rattle.laws_runs.specs.FlatDesign.Code as code
use Rattle.laws_runs.specs.FlatDesign.Code.{Term}
use Rattle.laws_runs.specs.FlatDesign.Denotes.{denoted_at}
use Rattle.laws_runs.specs.FlatDesign.declared.names.NameUse.{NameUse}
use Rattle.laws_runs.specs.FlatDesign.declared.names.NameUse.TheVariants as name_use
use Rattle.laws_runs.specs.FlatDesign.declared.names.Member.{Member}
use Rattle.laws_runs.specs.FlatDesign.declared.names.Member.TheVariants as member
use Rattle.laws_runs.specs.FlatDesign.declared.design.ChannelId.{ChannelId}
use Rattle.laws_runs.specs.FlatDesign.declared.design.ChannelId.TheVariants as channel
use Rattle.laws_runs.specs.FlatDesign.declared.design.Denoted.{Denoted}
use Rattle.laws_runs.specs.FlatDesign.declared.design.Denoted.TheVariants as denoted
use Rattle.laws_runs.specs.FlatDesign.declared.faults.RunFault.{RunFault}
use Rattle.laws_runs.specs.SimModel.Values.{on_ok, bits, truth, process_handle, payload_handle, widened, unsigned, bool_value, unary, binary, decides, digit_at, digits_between, converted, joined_digits}
use Rattle.laws_runs.specs.SimModel.Residual.{Residual, innermost, within}
use Rattle.laws_runs.specs.SimModel.Configuration.{Config, Instance, Processes, Trace, change, instance_at}
use Rattle.laws_runs.specs.SimModel.Reading.{Here, here, home_of_via, locals_of, channel_of, channel_here, channel_value, read_denoted, read_name, handle_in, process_of, payload_handle_of, not_empty, payload_number, live_payload, payload_here, has_ended, field_value, channel_member, member_of_channel, keeper_number, keeper_at, keeper_here, keeper_member, is_live, member_value, byte_in, memory_number, memory_at, payload_bytes, read_wide, val}
use Rattle.laws_runs.proofs.Changes.{change-here, change-other, change-none}

-- on from one value by two ways that agree
ok_like : {A B : Type 0} (m : Result A RunFault) (f g : A → Result B RunFault) → ((x : A) → f x ≡ g x) → on_ok m f ≡ on_ok m g
ok_like (Ok x) f g same = same x
ok_like (Err e) f g same = refl

ok_both : {A B : Type 0} (m n : Result A RunFault) (f g : A → Result B RunFault) → m ≡ n → ((x : A) → f x ≡ g x) → on_ok m f ≡ on_ok n g
ok_both m n f g one_ two = ap (λ k. on_ok k f) one_ ∙ ok_like n f g two

module _ (c : Config) (ps : Processes) (tr : Trace) (ended : (q : ℕ) → has_ended (slice_get ps.instances q) ≡ has_ended (instance_at c q)) (serial home : ℕ) (locals : List Value) where
  abbrev d : Config
  d = record c { processes = ps; trace = tr }

  abbrev h : Here
  h = record { config = d; serial = serial; home = home; locals = locals }

  abbrev g : Here
  g = record { config = c; serial = serial; home = home; locals = locals }

  channel_like : (ch : ChannelId) → channel_value d ch ≡ channel_value c ch
  channel_like (channel.Signal n events) = refl
  channel_like (channel.Resolved n events) = refl
  channel_like (channel.Fifo n events) = refl
  channel_like (channel.Mutex n events) = refl
  channel_like (channel.Semaphore n events) = refl

  member_like : (m : Member) (ch : ChannelId) → channel_member d m ch ≡ channel_member c m ch
  member_like member.Changed (channel.Signal n events) = refl
  member_like member.Changed (channel.Resolved n events) = refl
  member_like member.Changed (channel.Fifo n events) = refl
  member_like member.Changed (channel.Mutex n events) = refl
  member_like member.Changed (channel.Semaphore n events) = refl
  member_like member.Available (channel.Signal n events) = refl
  member_like member.Available (channel.Resolved n events) = refl
  member_like member.Available (channel.Fifo n events) = refl
  member_like member.Available (channel.Mutex n events) = refl
  member_like member.Available (channel.Semaphore n events) = refl
  member_like member.Free (channel.Signal n events) = refl
  member_like member.Free (channel.Resolved n events) = refl
  member_like member.Free (channel.Fifo n events) = refl
  member_like member.Free (channel.Mutex n events) = refl
  member_like member.Free (channel.Semaphore n events) = refl
  member_like member.Value (channel.Signal n events) = refl
  member_like member.Value (channel.Resolved n events) = refl
  member_like member.Value (channel.Fifo n events) = refl
  member_like member.Value (channel.Mutex n events) = refl
  member_like member.Value (channel.Semaphore n events) = refl
  member_like other ch = refl

  denoted_like : (x : Denoted) → read_denoted h x ≡ read_denoted g x
  denoted_like (denoted.Channel ch) = ap (λ v. Ok v) (channel_like ch)
  denoted_like (denoted.Port n) = ok_like (channel_of c.design (denoted.Port n) None) _ _ (λ ch. ap (λ v. Ok v) (channel_like ch))
  denoted_like other = refl

  name_like : (n : NameUse) → read_name h n ≡ read_name g n
  name_like (name_use.Local i) = refl
  name_like (name_use.Declared n) = denoted_like (denoted_at c.design home n)

  process_like : (n : NameUse) → process_of h n ≡ process_of g n
  process_like n = ap (λ m. handle_in m process_handle) (name_like n)

  handle_like : (n : NameUse) → payload_handle_of h n ≡ payload_handle_of g n
  handle_like n = ap (λ m. handle_in m payload_handle) (name_like n)

  payload_like : (n : NameUse) → payload_here h n ≡ payload_here g n
  payload_like n = ok_both (payload_number h n) (payload_number g n) (live_payload d) (live_payload c) (ap not_empty (handle_like n)) (λ t. refl)

  live_like : (o : Option ℕ) → is_live d o ≡ is_live c o
  live_like None = refl
  live_like (Some t) = refl

  keeper_like : (o : Option ℕ) → keeper_at d o ≡ keeper_at c o
  keeper_like None = refl
  keeper_like (Some k) = refl

  named_keeper : (n : NameUse) → keeper_here h n ≡ keeper_here g n
  named_keeper (name_use.Local i) = refl
  named_keeper (name_use.Declared n) = keeper_like (keeper_number (denoted_at c.design home n))

  memory_like : (o : Option ℕ) → memory_at d o ≡ memory_at c o
  memory_like None = refl
  memory_like (Some m) = refl

  of_channel : (n : NameUse) (m : Member) → member_of_channel h n m ≡ member_of_channel g n m
  of_channel (name_use.Local i) m = refl
  of_channel (name_use.Declared n) m = ok_like (channel_here g n None) _ _ (λ ch. ap (λ v. Ok v) (member_like m ch))

  named_like : (n : NameUse) (m : Member) → member_value h n m ≡ member_value g n m
  named_like n member.Changed = of_channel n member.Changed
  named_like n member.Available = of_channel n member.Available
  named_like n member.Free = of_channel n member.Free
  named_like n member.Value = of_channel n member.Value
  named_like n member.Valid = ap (λ o. Ok (bool_value (is_some o))) (process_like n)
  named_like n member.Terminated = ok_both (not_empty (process_of h n)) (not_empty (process_of g n)) _ _ (ap not_empty (process_like n)) (λ p. ap (λ b. Ok (bool_value b)) (ended p))
  named_like n member.Live = ap (λ b. Ok (bool_value b)) (live_like (payload_handle_of h n)) ∙ ap (λ o. Ok (bool_value (is_live c o))) (handle_like n)
  named_like n (member.Field f) = ap (λ m. on_ok m (λ p. Ok (field_value f p))) (payload_like n)
  named_like n member.Length = ap (λ m. on_ok m (λ (p : Payload). Ok (unsigned (length p.bytes)))) (payload_like n)
  named_like n member.EnableLength = ap (λ m. on_ok m (λ (p : Payload). Ok (unsigned (length p.enables)))) (payload_like n)
  named_like n member.Local = ap (keeper_member c.cycle.now member.Local) (named_keeper n)
  named_like n member.Next = ap (keeper_member c.cycle.now member.Next) (named_keeper n)
  named_like n member.NeedSync = ap (keeper_member c.cycle.now member.NeedSync) (named_keeper n)

  pub val-like : (e : Term) → val h e ≡ val g e
  val-like (code.literal v) = refl
  val-like code.now = refl
  val-like code.myself = refl
  val-like (code.name n) = ap read_wide (name_like n)
  val-like (code.placed n e) = ok_both (val h e) (val g e) _ _ (val-like e) (λ k. ok_like (channel_here g n (Some (bits k))) _ _ (λ ch. ap (λ v. Ok (widened v)) (channel_like ch)))
  val-like (code.member n m) = named_like n m
  val-like (code.placed_member n e m) = ok_both (val h e) (val g e) _ _ (val-like e) (λ k. ok_like (channel_here g n (Some (bits k))) _ _ (λ ch. ap (λ v. Ok v) (member_like m ch)))
  val-like (code.element n e) = ok_both (val h e) (val g e) _ _ (val-like e) (λ i. ap (λ xs. byte_in xs (bits i)) (memory_like (memory_number (denoted_at c.design home n))))
  val-like (code.payload_byte n b e) = ok_both (val h e) (val g e) _ _ (val-like e) (λ i. ap (λ m. on_ok m (λ p. byte_in (payload_bytes b p) (bits i))) (payload_like n))
  val-like (code.digit t e i) = ok_both (val h e) (val g e) _ _ (val-like e) (λ v. ap (λ m. on_ok m (λ k. digit_at t v (bits k))) (val-like i))
  val-like (code.digits t e high low) = ap (λ m. on_ok m (λ v. Ok (digits_between t v high low))) (val-like e)
  val-like (code.unary o t e) = ap (λ m. on_ok m (λ v. Ok (unary o t v))) (val-like e)
  val-like (code.binary o t l r) = ok_both (val h l) (val g l) _ _ (val-like l) (λ x. ap (λ m. cond (decides o x) (Ok (bool_value (truth x))) (on_ok m (λ y. binary o t x y))) (val-like r))
  val-like (code.convert to from e) = ap (λ m. on_ok m (λ v. Ok (converted to from v))) (val-like e)
  val-like (code.concat u l) = ok_both (val h u) (val g u) _ _ (val-like u) (λ x. ap (λ m. on_ok m (λ y. Ok (joined_digits x y))) (val-like l))

-- ---- two such configurations

pub record Agrees (c d : Config) : Type 0 where
  pub same : d ≡ record c { processes = d.processes; trace = d.trace }
  pub ended : (q : ℕ) → has_ended (instance_at d q) ≡ has_ended (instance_at c q)

pub agrees-val : (c d : Config) → Agrees c d → (p : ℕ) (i j : Instance) (r s : Residual) → j.home ≡ i.home → within s ≡ within r → innermost s ≡ innermost r → (e : Term) → val (here d p j s) e ≡ val (here c p i r) e
agrees-val c d a p i j r s home inside frames e =
    ap (λ x. val (here x p j s) e) a.same
    ∙ val-like c d.processes d.trace a.ended p (home_of_via c.design j.home (within s)) (locals_of (innermost s)) e
    ∙ ap (λ n. val (record { config = c; serial = p; home = home_of_via c.design n (within s); locals = locals_of (innermost s) }) e) home
    ∙ ap (λ w. val (record { config = c; serial = p; home = home_of_via c.design i.home w; locals = locals_of (innermost s) }) e) inside
    ∙ ap (λ o. val (record { config = c; serial = p; home = home_of_via c.design i.home (within r); locals = locals_of o }) e) frames

-- an instance that changes ends as before
ended_here : (is : List Instance) (p : ℕ) (f : Instance → Instance) → ((i : Instance) → (f i).ended ≡ i.ended) → (o : Option Instance) → slice_get is p ≡ o → has_ended (slice_get (change is p f) p) ≡ has_ended (slice_get is p)
ended_here is p f keeps None at = ap (λ js. has_ended (slice_get js p)) (change-none is p f at)
ended_here is p f keeps (Some i) at = ap has_ended (change-here is p f i at) ∙ keeps i ∙ ap has_ended (back i at)
  where
    back : (i : Instance) → slice_get is p ≡ Some i → Some i ≡ slice_get is p
    back i at = cc

pub ended-change : (is : List Instance) (p : ℕ) (f : Instance → Instance) → ((i : Instance) → (f i).ended ≡ i.ended) → (q : ℕ) → has_ended (slice_get (change is p f) q) ≡ has_ended (slice_get is q)
ended-change is p f keeps q = ⊎_elim
    (λ e. subst (λ n. has_ended (slice_get (change is p f) n) ≡ has_ended (slice_get is n)) (sym e) (ended_here is p f keeps (slice_get is p) refl))
    (λ apart. ap has_ended (change-other is p q f apart))
    (cases_eq q p)
