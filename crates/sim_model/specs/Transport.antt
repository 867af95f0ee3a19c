-- Statements of payloads, transport calls and quantum keepers (IEEE 1666-2011, clauses 11, 14, 15 and 16).
use Rattle.std.specs.Prelude.{ℕ, ◌==◌, Bool, true, false, not, ◌&&◌, nat_lt, nat_le, List, [], ◌∷◌, length, slice_get, slice_set, unwrap_or, Option, Some, None, is_some, Result, Ok, Err, ℤ, pos, if◌then◌else◌}
use Rattle.std.specs.Ordering.{int_eq}
use Rattle.signal_channel.specs.LogicValues.declared.kinds.Sign.TheVariants as sign
use Rattle.signal_channel.specs.LogicValues.declared.kinds.Value.{Value}
use Rattle.signal_channel.specs.LogicValues.declared.kinds.Value.TheVariants as value
use Rattle.signal_channel.specs.LogicValues.Integers.{number_of}
use Rattle.payload_pool.specs.Transfer.{carried, memory_after}
use Rattle.payload_pool.specs.declared.payload.Payload.{Payload}
use Rattle.transport_phases.specs.History.{Entry, Call, Return, BCall, BReturn, broken}
use Rattle.transport_phases.specs.declared.phases.Path.{Path}
use Rattle.transport_phases.specs.declared.phases.Path.TheVariants as path
use Rattle.transport_phases.specs.declared.phases.Rule.{Rule}
use Rattle.transport_phases.specs.declared.phases.Rule.TheVariants as rule
use Rattle.quantum_keeper.specs.Keepers.{after_reset, after_inc, with_local}
use Rattle.quantum_keeper.specs.declared.keeper.Keeper.{Keeper}
use Rattle.flat_design.specs.Code.{Term}
use Rattle.flat_design.specs.declared.names.NameUse.{NameUse}
use Rattle.flat_design.specs.declared.code.Store.{Store as Target}
use Rattle.flat_design.specs.declared.design.Denoted.{Denoted}
use Rattle.flat_design.specs.declared.design.Denoted.TheVariants as denoted
use Rattle.flat_design.specs.declared.design.Hop.{Hop}
use Rattle.flat_design.specs.declared.faults.RunFault.{RunFault}
use Rattle.flat_design.specs.declared.faults.RunFault.TheVariants as fault
use Rattle.sim_model.specs.Values.{on_ok, bits, moment}
use Rattle.sim_model.specs.Residual.{Residual, Frame}
use Rattle.sim_model.specs.Payloads.{Payloads, payload_of, live_payloads, with_made, with_acquired, with_released}
use Rattle.sim_model.specs.Configuration.{Config, arena}
use Rattle.sim_model.specs.Reading.{Here, denotes, read_name, payload_number, live_payload, memory_number, memory_here, keeper_number, keeper_at, val, val_if}
use Rattle.sim_model.specs.Storing.{passes, set_name, set_memory, set_payload, stored_if}
use Rattle.sim_model.specs.Calls.{enters, may_enter, with_entry, answer_of, final_value}
use Rattle.sim_model.specs.declared.plain.Via.{Via}

-- payloads

abbrev pub with_pool : Config → Payloads → Config
with_pool c p = record c { transactions = record c.transactions { pool = p } }

-- as many payloads as may live, and the numbers of bytes that one may have
abbrev pub payload_limit : ℕ
payload_limit = 16384

abbrev pub byte_limit : ℕ
byte_limit = 4096

abbrev pub size_within : ℕ → ℕ → Result ℕ RunFault
size_within least n = if nat_le least n && nat_le n byte_limit then Ok n else Err (fault.IndexRange n byte_limit)

abbrev pub may_make : Config → Result Unit RunFault
may_make c = if nat_lt (live_payloads c.transactions.pool) payload_limit then Ok tt else Err fault.TooManyPayloads

abbrev pub size_or : Option Value → ℕ
size_or None = 0
size_or (Some v) = bits v

abbrev pub do_make : Config → ℕ → Residual → Here → NameUse → Term → Option Term → Result Config RunFault
do_make c p r h n e m =
    on_ok (val h e) (λ v. on_ok (val_if h m) (λ w. on_ok (size_within 1 (bits v)) (λ x. on_ok (size_within 0 (size_or w)) (λ y. on_ok (may_make c) (λ ok.
    Ok (set_name (with_pool (passes c p r) (with_made c.transactions.pool x y)) p h n (value.Pay (Some (length c.transactions.pool)))))))))

abbrev pub do_acquire : Config → ℕ → Residual → Here → NameUse → Result Config RunFault
do_acquire c p r h n = on_ok (payload_number h n) (λ t. on_ok (live_payload c t) (λ q. Ok (with_pool (passes c p r) (with_acquired c.transactions.pool t))))

abbrev pub do_release : Config → ℕ → Residual → Here → NameUse → Result Config RunFault
do_release c p r h n = on_ok (payload_number h n) (λ t. on_ok (live_payload c t) (λ q. Ok (with_pool (passes c p r) (with_released c.transactions.pool t))))

abbrev pub do_carry : Config → ℕ → Residual → Here → NameUse → ℕ → Result Config RunFault
do_carry c p r h n m =
    on_ok (payload_number h n) (λ t. on_ok (live_payload c t) (λ q.
    Ok (set_payload (set_memory (passes c p r) (memory_number (denotes h m)) (memory_after q (memory_here h m))) t (carried q (memory_here h m)))))

-- transport calls

-- the end of a hop that a name stands for: the hop, and whether calls from there go forward
abbrev pub socket_of : Denoted → Option (ℕ × Bool)
socket_of denoted.Nothing = None
socket_of (denoted.Channel ch) = None
socket_of (denoted.Event e) = None
socket_of (denoted.Keeper k) = None
socket_of (denoted.Memory m) = None
socket_of (denoted.Variable v) = None
socket_of (denoted.Port n) = None
socket_of (denoted.Process p) = None
socket_of (denoted.Socket hop forward) = Some (hop, forward)

abbrev pub history : Config → ℕ → List Entry
history c hop = unwrap_or (slice_get c.transactions.hops hop) []

-- a status that is INCOMPLETE says that nothing was responded
abbrev pub is_complete : Payload → Bool
is_complete q = not (int_eq q.status (pos 0))

abbrev pub rule_number : Rule → ℕ
rule_number rule.P1 = 1
rule_number rule.P2 = 2
rule_number rule.P3 = 3
rule_number rule.P4 = 4
rule_number rule.P5 = 5
rule_number rule.P6 = 6
rule_number rule.P7 = 7
rule_number rule.P8 = 8
rule_number rule.P9 = 9
rule_number rule.P10 = 10

-- an entry that breaks no rule is added to the history of its hop; the first rule that it breaks is the fault
abbrev pub judged_by : Config → ℕ → Entry → ℕ → Option Rule → Result Config RunFault
judged_by c hop e t None = Ok (with_entry c hop e)
judged_by c hop e t (Some p) = Err (fault.Protocol (rule_number p) hop t)

abbrev pub judged : Config → ℕ → Entry → ℕ → Result Config RunFault
judged c hop e t = judged_by c hop e t (broken (history c hop) e)

-- the handlers of the other end
abbrev pub blocking_handler : Option Hop → Option ℕ
blocking_handler None = None
blocking_handler (Some h) = h.blocking

abbrev pub nonblocking_handler : Bool → Option Hop → Option ℕ
nonblocking_handler forward None = None
nonblocking_handler true (Some h) = h.forward
nonblocking_handler false (Some h) = h.backward

abbrev pub path_of_call : Bool → Path
path_of_call true = path.Forward
path_of_call false = path.Backward

-- a frame is entered only where the other end has the handler
abbrev pub may_enter_handler : Residual → Option ℕ → Result Unit RunFault
may_enter_handler r None = Ok tt
may_enter_handler r (Some f) = may_enter r

abbrev pub enters_handler : Config → ℕ → Residual → ℕ → Option ℕ → List Value → Via → Config
enters_handler c p r s None args via = c
enters_handler c p r s (Some f) args via = enters c p r s f args (Some via)

-- the number that an integer value stands for
abbrev pub int_of : Value → ℤ
int_of v = number_of sign.Signed (bits v)

abbrev pub value_or : Result Value RunFault → Value
value_or (Ok v) = v
value_or (Err e) = value.Bool false

abbrev pub value_named : Here → NameUse → Value
value_named h n = value_or (read_name h n)

-- At a call an empty handle comes first, then a freed payload, then the depth of frames where there is a handler, and then
-- the judgement of the hop.
abbrev pub b_transport_on : Config → ℕ → Residual → Here → ℕ → NameUse → NameUse → Option (ℕ × Bool) → Result Config RunFault
b_transport_on c p r h s n d None = Ok (passes c p r)
b_transport_on c p r h s n d (Some end) =
    let handler = blocking_handler (slice_get c.design.hops end.0) in
    on_ok (payload_number h n) (λ t. on_ok (live_payload c t) (λ q. on_ok (may_enter_handler r handler) (λ ok. on_ok (judged c end.0 (BCall t (is_some handler)) t) (λ x.
    Ok (enters_handler x p r s handler (value.Pay (Some t) ∷ value_named h d ∷ []) (record { hop = end.0; forward = true; blocking = true; payload = t }))))))

abbrev pub do_b_transport : Config → ℕ → Residual → Here → ℕ → ℕ → NameUse → NameUse → Result Config RunFault
do_b_transport c p r h s socket n d = b_transport_on c p r h s n d (socket_of (denotes h socket))

abbrev pub nb_transport_on : Config → ℕ → Residual → Here → ℕ → NameUse → NameUse → NameUse → Option (ℕ × Bool) → Result Config RunFault
nb_transport_on c p r h s n phase d None = Ok (passes c p r)
nb_transport_on c p r h s n phase d (Some end) =
    let handler = nonblocking_handler end.1 (slice_get c.design.hops end.0) in
    on_ok (payload_number h n) (λ t. on_ok (live_payload c t) (λ q. on_ok (may_enter_handler r handler) (λ ok.
    on_ok (judged c end.0 (Call t (path_of_call end.1) (int_of (value_named h phase)) (is_complete q) (is_some handler)) t) (λ x.
    Ok (enters_handler x p r s handler (value.Pay (Some t) ∷ value_named h phase ∷ value_named h d ∷ []) (record { hop = end.0; forward = end.1; blocking = false; payload = t }))))))

abbrev pub do_nb_transport : Config → ℕ → Residual → Here → ℕ → ℕ → NameUse → NameUse → NameUse → Result Config RunFault
do_nb_transport c p r h s socket n phase d = nb_transport_on c p r h s n phase d (socket_of (denotes h socket))

-- At a return the hop is judged first, and then what is handed back is stored. A freed payload reads as incomplete, and the
-- rule on the response is then the fault of a freed payload.
abbrev pub complete_if : Option Payload → Bool
complete_if None = false
complete_if (Some q) = is_complete q

abbrev pub complete_now : Config → ℕ → Bool
complete_now c t = complete_if (payload_of c.transactions.pool t)

-- the rule on the response is the sixth
abbrev pub is_sixth : ℕ → Bool
is_sixth n = n == 6

abbrev pub freed_fault : ℕ → RunFault → RunFault
freed_fault t (fault.WriterConflict a b) = fault.WriterConflict a b
freed_fault t fault.DivideByZero = fault.DivideByZero
freed_fault t (fault.IndexRange i n) = fault.IndexRange i n
freed_fault t fault.TimeOverflow = fault.TimeOverflow
freed_fault t (fault.Uncaught e) = fault.Uncaught e
freed_fault t (fault.ControlOnActive q) = fault.ControlOnActive q
freed_fault t fault.EmptyHandle = fault.EmptyHandle
freed_fault t (fault.PayloadFreed q) = fault.PayloadFreed q
freed_fault t fault.TooManyPayloads = fault.TooManyPayloads
freed_fault t fault.TooManyInstances = fault.TooManyInstances
freed_fault t fault.FrameDepth = fault.FrameDepth
freed_fault t (fault.Protocol n hop q) = if is_sixth n then fault.PayloadFreed t else fault.Protocol n hop q

abbrev pub of_freed : ℕ → Option Payload → RunFault → RunFault
of_freed t None f = freed_fault t f
of_freed t (Some q) f = f

abbrev pub for_freed : Config → ℕ → Result Config RunFault → Result Config RunFault
for_freed c t (Ok d) = Ok d
for_freed c t (Err f) = Err (of_freed t (payload_of c.transactions.pool t) f)

abbrev pub judged_return : Config → ℕ → Entry → ℕ → Result Config RunFault
judged_return c hop e t = for_freed c t (judged c hop e t)

abbrev pub b_transport_ends : Config → ℕ → Here → Frame → Via → NameUse → Result Config RunFault
b_transport_ends c p h x via d =
    on_ok (judged_return c via.hop (BReturn via.payload (complete_now c via.payload)) via.payload) (λ y. Ok (set_name y p h d (final_value x 1 (value.Moment 0))))

abbrev pub nb_transport_ends : Config → ℕ → Here → Frame → Via → Option Target → NameUse → NameUse → Result Config RunFault
nb_transport_ends c p h x via target phase d =
    on_ok (judged_return c via.hop (Return via.payload (int_of (answer_of (arena c) x)) (int_of (final_value x 1 (value.Int 32 0))) (complete_now c via.payload)) via.payload) (λ y.
    Ok (stored_if (set_name (set_name y p h phase (final_value x 1 (value.Int 32 0))) p h d (final_value x 2 (value.Moment 0))) p h target (answer_of (arena c) x)))

-- quantum keepers

abbrev pub with_global : Config → ℕ → Config
with_global c t = record c { quantum = record c.quantum { global = t } }

abbrev pub do_qk_global : Config → ℕ → Residual → Here → Term → Result Config RunFault
do_qk_global c p r h e = on_ok (val h e) (λ v. Ok (with_global (passes c p r) (moment v)))

abbrev pub with_keeper : Config → Option ℕ → Keeper → Config
with_keeper c None k = c
with_keeper c (Some n) k = record c { quantum = record c.quantum { keepers = slice_set c.quantum.keepers n k } }

-- a sum past the range is a fault
abbrev pub kept : Config → Option ℕ → Option Keeper → Result Config RunFault
kept c n None = Err fault.TimeOverflow
kept c n (Some k) = Ok (with_keeper c n k)

abbrev pub on_keeper : Config → Option Keeper → (Keeper → Result Config RunFault) → Result Config RunFault
on_keeper c None f = Ok c
on_keeper c (Some k) f = f k

abbrev pub keeper_named : Here → ℕ → Option ℕ
keeper_named h n = keeper_number (denotes h n)

abbrev pub do_qk_inc : Config → ℕ → Residual → Here → ℕ → Term → Result Config RunFault
do_qk_inc c p r h n e =
    on_ok (val h e) (λ v. on_keeper (passes c p r) (keeper_at c (keeper_named h n)) (λ k. kept (passes c p r) (keeper_named h n) (after_inc k (moment v))))

abbrev pub do_qk_set : Config → ℕ → Residual → Here → ℕ → Term → Result Config RunFault
do_qk_set c p r h n e =
    on_ok (val h e) (λ v. on_keeper (passes c p r) (keeper_at c (keeper_named h n)) (λ k. Ok (with_keeper (passes c p r) (keeper_named h n) (with_local k (moment v)))))

abbrev pub do_qk_reset : Config → ℕ → Residual → Here → ℕ → Result Config RunFault
do_qk_reset c p r h n =
    on_keeper (passes c p r) (keeper_at c (keeper_named h n)) (λ k. kept (passes c p r) (keeper_named h n) (after_reset c.quantum.global c.cycle.now))
