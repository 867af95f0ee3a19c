use Rattle.std.proofs.Common.{◌≡◌, ◌<◌, ℕ, length, Some}
use Rattle.std.specs.Prelude.{slice_get}
use Rattle.binding.specs.Rows.{row_at}
use Rattle.binding.specs.Ends.{kept_ends}
use Rattle.binding.proofs.ends.all_ends.Given as goal

abbrev pub invariant-loop-i : goal.invariant-loop-i
invariant-loop-i l = record {
  long : length l.ends ≡ length l.objects.list;
  so_far : (m j : ℕ) → m < l.i-index → slice_get l.order m ≡ Some j → row_at l.ends j ≡ kept_ends l.objects j;
}
