-- What a reading answers where the expression stands.
use Rattle.std.specs.Prelude.{Some, Result, Ok}
use Rattle.sim_model.specs.LogicValues.declared.kinds.Value.{Value}
use Rattle.flat_design.specs.declared.faults.RunFault.{RunFault}
use Rattle.sim_model.specs.Values.{on_ok}
use Rattle.sim_model.specs.Reading.{Here, read_name, read_wide, channel_here, channel_value, channel_member, member_value, memory_here, byte_in, payload_here, payload_bytes}
use Rattle.expr_eval.specs.declared.views.Reading.{Reading}
use Rattle.expr_eval.specs.declared.views.Reading.TheVariants as reading

abbrev pub answer : Here → Reading → Result Value RunFault
answer h (reading.Name n) = read_name h n
answer h (reading.Placed n k) = on_ok (channel_here h n (Some k)) (λ ch. Ok (channel_value h.config ch))
answer h (reading.Member n m) = member_value h n m
answer h (reading.PlacedMember n k m) = on_ok (channel_here h n (Some k)) (λ ch. Ok (channel_member h.config m ch))
answer h (reading.Element n i) = byte_in (memory_here h n) i
answer h (reading.PayloadByte n b i) = on_ok (payload_here h n) (λ p. byte_in (payload_bytes b p) i)

-- the value of a reading in an expression: what is read by its name alone or at a port's place widens to 64 bits
abbrev pub reading_value : Here → Reading → Result Value RunFault
reading_value h (reading.Name n) = read_wide (answer h (reading.Name n))
reading_value h (reading.Placed n k) = read_wide (answer h (reading.Placed n k))
reading_value h (reading.Member n m) = answer h (reading.Member n m)
reading_value h (reading.PlacedMember n k m) = answer h (reading.PlacedMember n k m)
reading_value h (reading.Element n i) = answer h (reading.Element n i)
reading_value h (reading.PayloadByte n b i) = answer h (reading.PayloadByte n b i)
