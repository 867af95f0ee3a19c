use Rattle.std.proofs.Common.{◌≡◌, take}
use Rattle.binding.specs.Leaders.{leading_at, led_through}
use Rattle.binding.proofs.leading.through.Given as goal

abbrev pub invariant-loop-b : goal.invariant-loop-b
invariant-loop-b l = l.found ≡ led_through l.objects (leading_at l.known) (take l.b-index l.links)
