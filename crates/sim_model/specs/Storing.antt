-- Statements of data: variables, assignments, prints, choices and loops; and how a value is stored.
use Rattle.std.specs.Prelude.{ℕ, ◌%◌, ◌∷◌, Bool, true, false, List, [], ◌++◌, length, slice_set, Option, Some, None, Result, Ok, codes}
use Rattle.std.specs.Fmt.{decimal}
use Rattle.signal_channel.specs.LogicValues.declared.kinds.Sign.TheVariants as sign
use Rattle.signal_channel.specs.LogicValues.declared.kinds.Value.{Value}
use Rattle.signal_channel.specs.LogicValues.Integers.{cut_of, number_of}
use Rattle.signal_channel.specs.LogicValues.ValueText.{text_of}
use Rattle.payload_pool.specs.declared.payload.Payload.{Payload}
use Rattle.flat_design.specs.Code as code
use Rattle.flat_design.specs.Code.{Term, DestinationTerm}
use Rattle.flat_design.specs.ValueTypes.{default_value}
use Rattle.flat_design.specs.declared.value_types.ValueType.{ValueType}
use Rattle.flat_design.specs.declared.names.NameUse.{NameUse}
use Rattle.flat_design.specs.declared.names.NameUse.TheVariants as name_use
use Rattle.flat_design.specs.declared.names.PayloadField.{PayloadField}
use Rattle.flat_design.specs.declared.names.PayloadField.TheVariants as field
use Rattle.flat_design.specs.declared.names.PayloadBytes.{PayloadBytes}
use Rattle.flat_design.specs.declared.names.PayloadBytes.TheVariants as bytes_of
use Rattle.flat_design.specs.declared.code.Store.{Store as Target}
use Rattle.flat_design.specs.declared.design.Denoted.{Denoted}
use Rattle.flat_design.specs.declared.design.Denoted.TheVariants as denoted
use Rattle.flat_design.specs.declared.faults.RunFault.{RunFault}
use Rattle.sim_model.specs.Values.{on_ok, truth, bits, cut_to, index_within}
use Rattle.sim_model.specs.Residual.{Residual, Frame, skip, followed, put, block, in_innermost}
use Rattle.sim_model.specs.Payloads.{with_payload}
use Rattle.sim_model.specs.Configuration.{Config, Instance, line, change_instance, with_residual, with_told, arena}
use Rattle.sim_model.specs.Reading.{Here, denotes, val, val_if, payload_number, live_payload, memory_number, memory_here}

-- the statement in place of instance p, of which r is left, is past
abbrev pub passes : Config → ℕ → Residual → Config
passes c p r = with_residual c p (put r skip)

-- where values go

abbrev pub with_local : ℕ → Value → Frame → Frame
with_local n v x = record x { locals = slice_set x.locals n v }

abbrev pub set_local : Config → ℕ → ℕ → Value → Config
set_local c p n v = change_instance c p (λ i. record i { residual = in_innermost (with_local n v) i.residual })

abbrev pub set_variable : Config → ℕ → Value → Config
set_variable c n v = record c { store = record c.store { variables = slice_set c.store.variables n v } }

abbrev pub set_denoted : Config → Denoted → Value → Config
set_denoted c denoted.Nothing v = c
set_denoted c (denoted.Channel ch) v = c
set_denoted c (denoted.Event e) v = c
set_denoted c (denoted.Keeper k) v = c
set_denoted c (denoted.Memory m) v = c
set_denoted c (denoted.Variable n) v = set_variable c n v
set_denoted c (denoted.Port n) v = c
set_denoted c (denoted.Process p) v = c
set_denoted c (denoted.Socket hop forward) v = c

-- a variable of the instance p gets a value, in the instance of a module in which the statement stood
abbrev pub set_name : Config → ℕ → Here → NameUse → Value → Config
set_name c p h (name_use.Local n) v = set_local c p n v
set_name c p h (name_use.Declared n) v = set_denoted c (denotes h n) v

abbrev pub stored : Config → ℕ → Here → Target → Value → Config
stored c p h target v = set_name c p h target.name (cut_to target.value_type v)

-- a result, where a variable is written for it
abbrev pub stored_if : Config → ℕ → Here → Option Target → Value → Config
stored_if c p h None v = c
stored_if c p h (Some target) v = stored c p h target v

-- bytes: the low 8 bits

abbrev pub low_byte : Value → ℕ
low_byte v = bits v % 256

abbrev pub set_memory : Config → Option ℕ → List ℕ → Config
set_memory c None bytes = c
set_memory c (Some m) bytes = record c { store = record c.store { memories = slice_set c.store.memories m bytes } }

abbrev pub set_payload : Config → ℕ → Payload → Config
set_payload c t q = record c { transactions = record c.transactions { pool = with_payload c.transactions.pool t q } }

abbrev pub with_field : PayloadField → Value → Payload → Payload
with_field field.Command v q = record q { command = number_of sign.Signed (cut_of sign.Signed 32 (bits v)) }
with_field field.Status v q = record q { status = number_of sign.Signed (cut_of sign.Signed 32 (bits v)) }
with_field field.Address v q = record q { address = bits v }
with_field field.Width v q = record q { width = cut_of sign.Unsigned 32 (bits v) }

abbrev pub bytes_in : PayloadBytes → Payload → List ℕ
bytes_in bytes_of.Data q = q.bytes
bytes_in bytes_of.ByteEnable q = q.enables

abbrev pub with_byte : PayloadBytes → ℕ → ℕ → Payload → Payload
with_byte bytes_of.Data i b q = record q { bytes = slice_set q.bytes i b }
with_byte bytes_of.ByteEnable i b q = record q { enables = slice_set q.enables i b }

-- a local variable gets its value anew each time
abbrev pub first_value : ValueType → Option Value → Value
first_value t None = default_value t
first_value t (Some v) = cut_to t v

abbrev pub do_var : Config → ℕ → Residual → Here → ℕ → ValueType → Option Term → Result Config RunFault
do_var c p r h n t e = on_ok (val_if h e) (λ v. Ok (set_local (passes c p r) p n (first_value t v)))

-- an assignment: its index is evaluated, then its value, and then it is stored. What is stored to is not read: that it is there is
-- judged behind the value
abbrev pub do_assign : Config → ℕ → Residual → Here → DestinationTerm → Term → Result Config RunFault
do_assign c p r h (code.to_name target) e = on_ok (val h e) (λ v. Ok (stored (passes c p r) p h target v))
do_assign c p r h (code.to_field n f) e =
    on_ok (val h e) (λ v. on_ok (payload_number h n) (λ t. on_ok (live_payload c t) (λ q. Ok (set_payload (passes c p r) t (with_field f v q)))))
do_assign c p r h (code.to_element n index) e =
    on_ok (val h index) (λ i. on_ok (val h e) (λ v. on_ok (index_within (bits i) (length (memory_here h n))) (λ k.
    Ok (set_memory (passes c p r) (memory_number (denotes h n)) (slice_set (memory_here h n) k (low_byte v))))))
do_assign c p r h (code.to_payload_byte n b index) e =
    on_ok (val h index) (λ i. on_ok (val h e) (λ v. on_ok (payload_number h n) (λ t. on_ok (live_payload c t) (λ q. on_ok (index_within (bits i) (length (bytes_in b q))) (λ k.
    Ok (set_payload (passes c p r) t (with_byte b k (low_byte v) q)))))))

-- the line of a print: the time, the process, the text, and a value where there is one
abbrev pub print_line : ℕ → List ℕ → List ℕ → Option Value → List ℕ
print_line now path text None = decimal now ++ codes " " ++ path ++ codes " " ++ text ++ 10 ∷ []
print_line now path text (Some v) = decimal now ++ codes " " ++ path ++ codes " " ++ text ++ codes " " ++ text_of v ++ 10 ∷ []

abbrev pub do_print : Config → ℕ → Instance → Residual → Here → List ℕ → Option Term → Result Config RunFault
do_print c p i r h text e = on_ok (val_if h e) (λ v. Ok (with_told (passes c p r) (line (print_line c.cycle.now i.path text v))))

-- a choice costs one step on entering; without an `else` there is no second block
abbrev pub chosen : Config → Bool → ℕ → Option ℕ → Residual
chosen c true b other = block (arena c) b
chosen c false b None = skip
chosen c false b (Some other) = block (arena c) other

abbrev pub do_if : Config → ℕ → Residual → Here → Term → ℕ → Option ℕ → Result Config RunFault
do_if c p r h e b other = on_ok (val h e) (λ v. Ok (with_residual c p (put r (chosen c (truth v) b other))))

-- a loop costs one step for each test: a true one gives its body, and then the same loop, which is statement s
abbrev pub looped : Config → Bool → ℕ → ℕ → Residual
looped c true s b = followed (block (arena c) b) (s ∷ [])
looped c false s b = skip

abbrev pub do_while : Config → ℕ → Residual → Here → ℕ → Term → ℕ → Result Config RunFault
do_while c p r h s e b = on_ok (val h e) (λ v. Ok (with_residual c p (put r (looped c (truth v) s b))))
