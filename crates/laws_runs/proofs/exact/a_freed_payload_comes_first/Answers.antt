use Rattle.laws_runs.proofs.Blamed.{freed-first}
use Rattle.laws_runs.proofs.exact.a_freed_payload_comes_first.Goals as goal

pub returns : goal.returns
returns x = freed-first
