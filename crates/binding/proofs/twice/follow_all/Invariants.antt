use Rattle.std.proofs.Common.{◌≡◌, ◌<◌, ℕ, true, false, Some}
use Rattle.std.specs.Prelude.{slice_get}
use Rattle.design_rules.specs.Objects.{form_at}
use Rattle.design_rules.specs.Paths.{is_end}
use Rattle.binding.specs.Twice.{reached}
use Rattle.binding.proofs.twice.follow_all.Given as goal

abbrev pub invariant-loop-k : goal.invariant-loop-k
invariant-loop-k l = record {
  counts : (c : ℕ) → reached l.objects c l.marks ≡ reached l.objects c l.initial.marks;
  left : (j m : ℕ) → slice_get l.marks j ≡ Some true → slice_get l.order m ≡ Some j → is_end (form_at l.objects j) ≡ false → m < l.k;
}
