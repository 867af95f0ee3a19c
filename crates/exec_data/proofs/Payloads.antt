-- Assignments to payloads, as what they do once each part is evaluated.
use Rattle.std.proofs.Common.{ℕ, length, Result, Ok}
use Rattle.kernel_view.specs.LogicValues.declared.kinds.Value.{Value}
use Rattle.flat_design.specs.Code.{Term}
use Rattle.flat_design.specs.declared.names.NameUse.{NameUse}
use Rattle.flat_design.specs.declared.names.PayloadField.{PayloadField}
use Rattle.flat_design.specs.declared.names.PayloadBytes.{PayloadBytes}
use Rattle.flat_design.specs.declared.faults.RunFault.{RunFault}
use Rattle.kernel_view.specs.SimModel.Values.{on_ok, bits, index_within}
use Rattle.kernel_view.specs.SimModel.Residual.{Residual}
use Rattle.kernel_view.specs.SimModel.Configuration.{Config, Instance}
use Rattle.kernel_view.specs.SimModel.Reading.{here, val, payload_number, live_payload}
use Rattle.kernel_view.specs.SimModel.Storing.{passes, set_payload, with_field, with_byte, bytes_in, low_byte}

-- a field gets a value: of payload t, and of the one that a name holds
abbrev pub field_of : PayloadField → Value → Config → ℕ → Instance → Residual → ℕ → Result Config RunFault
field_of f v c q i r t = on_ok (live_payload c t) (λ y. Ok (set_payload (passes c q r) t (with_field f v y)))

abbrev pub field_by : NameUse → PayloadField → Config → ℕ → Instance → Residual → Value → Result Config RunFault
field_by n f c q i r v = on_ok (payload_number (here c q i r) n) (field_of f v c q i r)

-- a byte gets a value: of payload t, of the one that a name holds, and with the index evaluated
abbrev pub byte_of : PayloadBytes → Value → Value → Config → ℕ → Instance → Residual → ℕ → Result Config RunFault
byte_of b at v c q i r t = on_ok (live_payload c t) (λ y. on_ok (index_within (bits at) (length (bytes_in b y))) (λ k. Ok (set_payload (passes c q r) t (with_byte b k (low_byte v) y))))

abbrev pub byte_by : NameUse → PayloadBytes → Value → Config → ℕ → Instance → Residual → Value → Result Config RunFault
byte_by n b at c q i r v = on_ok (payload_number (here c q i r) n) (byte_of b at v c q i r)

abbrev pub byte_at : NameUse → PayloadBytes → Term → Config → ℕ → Instance → Residual → Value → Result Config RunFault
byte_at n b e c q i r at = on_ok (val (here c q i r) e) (byte_by n b at c q i r)
