-- The faults of a transport call that are judged behind the memory.
use Rattle.flat_design.specs.declared.faults.RunFault.{RunFault}
use Rattle.flat_design.specs.declared.faults.RunFault.TheVariants as fault

-- A rule of the base protocol is broken. All memory is taken before the call is judged, so that no other fault can be behind it.
abbrev pub IsOfProtocol : RunFault → Type 0
IsOfProtocol (fault.WriterConflict a b) = ⊥
IsOfProtocol fault.DivideByZero = ⊥
IsOfProtocol (fault.IndexRange i n) = ⊥
IsOfProtocol fault.TimeOverflow = ⊥
IsOfProtocol (fault.Uncaught e) = ⊥
IsOfProtocol (fault.ControlOnActive q) = ⊥
IsOfProtocol fault.EmptyHandle = ⊥
IsOfProtocol (fault.PayloadFreed q) = ⊥
IsOfProtocol fault.TooManyPayloads = ⊥
IsOfProtocol fault.TooManyInstances = ⊥
IsOfProtocol fault.FrameDepth = ⊥
IsOfProtocol (fault.Protocol n hop q) = Unit {0}
