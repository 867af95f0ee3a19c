-- The most bytes that each text of a run may have.
use Rattle.std.specs.Prelude.{ℕ}

abbrev pub model_limit : ℕ
model_limit = 1048576

abbrev pub script_limit : ℕ
script_limit = 65536

abbrev pub replay_limit : ℕ
replay_limit = 67108864
