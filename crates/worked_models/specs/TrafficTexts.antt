-- Texts written by hand.
use Rattle.std.specs.Prelude.{ℕ, Bool, true, false, List, [], ◌∷◌, replicate, codes}
use Rattle.traffic_file.specs.DmiMap.Ranges.{range_of}
use Rattle.traffic_file.specs.declared.Bus.{Bus}
use Rattle.traffic_file.specs.declared.BusTarget.{BusTarget}
use Rattle.traffic_file.specs.declared.BusInitiator.{BusInitiator}
use Rattle.traffic_file.specs.declared.BusLine.{BusLine}
use Rattle.traffic_file.specs.TextLines.declared.actions.BusAction.{BusAction}
use Rattle.traffic_file.specs.TextLines.declared.actions.BusAction.TheVariants.{Get, Put}
use Rattle.traffic_file.specs.declared.Invalidate.{Invalidate}
use Rattle.traffic_file.specs.declared.judging.SoFar.{SoFar}

abbrev memory : List ℕ → ℕ → ℕ → BusTarget
memory name size latency = record { name = name; size = size; latency = latency }

abbrev initiator : List ℕ → Bool → BusInitiator
initiator name dmi = record { name = name; dmi = dmi }

abbrev access : ℕ → ℕ → ℕ → ℕ → BusAction → BusLine
access line time initiator address action = record { line = line; time = time; initiator = initiator; address = address; action = action }

-- two memories, one behind the other and a gap, and two initiators
abbrev pub two_memories : List ℕ
two_memories = codes "delay 2\ntarget ram 0x1000 16 10\ntarget rom 0x2000 8 5\ninitiator a\ninitiator b\nat 0 a write 0x1004 0aB2\nat 0 b read 0x2000 1\n"

abbrev pub two_memories_bus : Bus
two_memories_bus = record {
  delay = 2;
  targets = memory (codes "ram") 16 10 ∷ memory (codes "rom") 8 5 ∷ [];
  initiators = initiator (codes "a") false ∷ initiator (codes "b") false ∷ [];
  lines = access 6 0 0 4100 (Put (10 ∷ 178 ∷ [])) ∷ access 7 0 1 8192 (Get 1) ∷ [];
  invalidates = [];
  map = range_of 4096 16 0 ∷ range_of 8192 8 1 ∷ [];
}

-- an initiator that keeps grants, a comment, an empty line and an invalidation
abbrev pub with_grants : List ℕ
with_grants = codes "# grants\r\ntarget ram 0 16 10\r\n\r\ninitiator a dmi\r\ninvalidate 20 0 15\r\nat 20 a read 15 1"

abbrev pub with_grants_bus : Bus
with_grants_bus = record {
  delay = 1;
  targets = memory (codes "ram") 16 10 ∷ [];
  initiators = initiator (codes "a") true ∷ [];
  lines = access 6 20 0 15 (Get 1) ∷ [];
  invalidates = (record { time = 20; low = 0; high = 15 }) ∷ [];
  map = range_of 0 16 0 ∷ [];
}

-- words of models are names, and `delay` is one too
abbrev pub reserved_words : List ℕ
reserved_words = codes "target module 0 4 1\ninitiator top\ninitiator delay\nat 0 top read 0 1"

abbrev pub reserved_words_bus : Bus
reserved_words_bus = record {
  delay = 1;
  targets = memory (codes "module") 4 1 ∷ [];
  initiators = initiator (codes "top") false ∷ initiator (codes "delay") false ∷ [];
  lines = access 4 0 0 0 (Get 1) ∷ [];
  invalidates = [];
  map = range_of 0 4 0 ∷ [];
}

abbrev pub empty_bus : Bus
empty_bus = record { delay = 1; targets = []; initiators = []; lines = []; invalidates = []; map = [] }

-- so many of each, and nothing else
abbrev invalidation : Invalidate
invalidation = record { time = 1; low = 0; high = 1 }

abbrev pub so_far_with : List BusTarget → List BusInitiator → List BusLine → List Invalidate → SoFar
so_far_with targets initiators lines invalidates = record {
  bus = record empty_bus { targets = targets; initiators = initiators; lines = lines; invalidates = invalidates };
  delayed = false;
  bytes = 0;
}

abbrev pub with_lines : ℕ → ℕ → SoFar
with_lines accesses invalidations = so_far_with [] (initiator (codes "a") false ∷ []) (replicate accesses (access 1 0 0 0 (Get 1))) (replicate invalidations invalidation)

abbrev pub with_names : ℕ → ℕ → SoFar
with_names targets initiators = so_far_with (replicate targets (memory (codes "x") 1 1)) (replicate initiators (initiator (codes "a") false)) [] []
