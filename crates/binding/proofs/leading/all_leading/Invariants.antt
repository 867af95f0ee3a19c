use Rattle.std.proofs.Common.{◌≡◌, ◌≤◌, ℕ, length, Some}
use Rattle.std.specs.Prelude.{slice_get}
use Rattle.design_rules.specs.Paths.{leaders_of}
use Rattle.binding.specs.Leaders.{leading_at, leading_of}
use Rattle.binding.proofs.leading.all_leading.Given as goal

abbrev pub invariant-loop-k : goal.invariant-loop-k
invariant-loop-k l = record {
  long : length l.known.items ≡ length l.objects.list;
  so_far : (m j : ℕ) → l.k ≤ m → slice_get l.order m ≡ Some j → leading_at l.known.items j ≡ leading_of (leaders_of l.objects j);
}
