use Rattle.std.proofs.Common.{◌≡◌, ℕ, ◌-◌, ◌<◌, ◌≤◌, List}
use Rattle.std.specs.Prelude.{slice_get}
use Rattle.room_map.specs.Layout.{among, falling, IsChain}
use Rattle.room_map.proofs.spares.free_all.Given as goal

abbrev pub invariant-loop-i : goal.invariant-loop-i
invariant-loop-i g l = record {
  before : (q : ℕ) → q < l.from → slice_get l.nodes q ≡ slice_get l.initial.nodes q;
  chain : (is : List ℕ) → IsChain l.initial.nodes l.others is → ((q : ℕ) → l.from ≤ q → among q is ≡ 0) → IsChain l.nodes l.first (falling l.from (l.i - l.from) is);
}
