-- The text of traffic that is over: a line for each access, in the order in which their responses come back, and the last time.
use Rattle.std.specs.Prelude.{◌≡◌, ℕ, ◌+◌, ◌/◌, ◌%◌, ◌<◌, ◌↔◌, Bool, ◌&&◌, nat_lt, List, [], ◌∷◌, ◌++◌, length, codes, max, fold, Contains, if◌then◌else◌}
use Rattle.std.specs.Fmt.{decimal}
use Rattle.std.specs.List.{flat_map}
use Rattle.std.specs.Ordering.{int_eq}
use Rattle.bus_router.specs.DmiMap.declared.order.Rank.{Rank}
use Rattle.bus_router.specs.DmiMap.Ranks.{AreInOrder}
use Rattle.bus_router.specs.PayloadPool.declared.payload.Payload.{Payload}
use Rattle.bus_router.specs.PayloadPool.declared.payload.TheConstants.{READ, OK}
use Rattle.bus_router.specs.TrafficFile.declared.Bus.{Bus}
use Rattle.bus_router.specs.TrafficFile.Traffic.{line_at, initiator_at, initiator_of}
use Rattle.bus_router.specs.declared.rows.BusRow.{BusRow}
use Rattle.bus_router.specs.Times.{row_at}

-- ---- the order

-- accesses come by the time of their response, at one time by their place in the file
abbrev pub returned_rank : BusRow → Rank
returned_rank row = record { first = row.r; second = 0 }

-- these are all accesses in that order
pub record IsReturnOrder (bus : Bus) (rows : List BusRow) (ks : List ℕ) : Type 0 where
  pub all : (k : ℕ) → Contains ks k ↔ (k < length bus.lines)
  pub order : AreInOrder (λ k. returned_rank (row_at rows k)) ks

-- ---- one line

-- a hexadecimal digit, of those above 9 a small letter
abbrev pub hex_digit : ℕ → ℕ
hex_digit d = if nat_lt d 10 then 48 + d else 87 + d

-- two for each byte, the higher one first
abbrev pub hex_of : ℕ → List ℕ
hex_of byte = hex_digit (byte / 16) ∷ hex_digit (byte % 16) ∷ []

abbrev pub status_word : Bool → List ℕ
status_word done = if done then codes " OK" else codes " ADDRESS"

-- the bytes that were read
abbrev pub data_text : Bool → Payload → List ℕ
data_text done p = if done && int_eq p.command READ then 32 ∷ flat_map hex_of p.bytes else []

abbrev pub mark_text : Bool → List ℕ
mark_text direct = if direct then codes " dmi\n" else codes "\n"

-- `TIME INITIATOR LINE`
abbrev pub access_head : Bus → ℕ → ℕ → List ℕ
access_head bus time k =
    decimal time ++ codes " " ++ (initiator_at bus (initiator_of bus k)).name ++ codes " " ++ decimal (line_at bus k).line

-- behind that the status, the bytes of a read that was done, and `dmi` where it was done directly
abbrev pub access_line : Bus → BusRow → ℕ → Payload → List ℕ
access_line bus row k p =
    access_head bus row.r k ++ status_word (int_eq p.status OK) ++ data_text (int_eq p.status OK) p ++ mark_text row.direct

-- ---- all

-- the last response's time; 0 where there is none
abbrev pub last_time : List BusRow → ℕ
last_time rows = fold (λ last row. max last row.r) 0 rows

abbrev pub end_line : List BusRow → List ℕ
end_line rows = codes "end bus " ++ decimal (last_time rows) ++ codes "\n"

-- a line for each access in the order of responses, and then the end
pub record IsTextOf (bus : Bus) (rows : List BusRow) (payloads : ℕ → Payload) (text : List ℕ) : Type 0 where
  pub ks : List ℕ
  pub order : IsReturnOrder bus rows ks
  pub is : text ≡ flat_map (λ k. access_line bus (row_at rows k) k (payloads k)) ks ++ end_line rows
