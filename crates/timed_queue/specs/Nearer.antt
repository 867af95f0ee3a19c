-- The nearer of two nodes. No public clause cites this module.
use Rattle.std.specs.Prelude.{ℕ, List, Option, Some, None, nat_lt, if◌then◌else◌}
use Rattle.timed_queue.specs.declared.chains.Node.{Node}
use Rattle.timed_queue.specs.Nodes.{time_of}

-- the node at, where its time is not below t and below that of the other one; else that one
abbrev pub nearer_of : List Node → Option ℕ → ℕ → ℕ → Option ℕ
nearer_of ns None at t = if nat_lt (time_of ns at) t then None else Some at
nearer_of ns (Some b) at t = if nat_lt (time_of ns at) t then Some b else (if nat_lt (time_of ns at) (time_of ns b) then Some at else Some b)
