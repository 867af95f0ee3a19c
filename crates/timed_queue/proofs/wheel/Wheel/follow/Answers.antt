use Rattle.std.proofs.Common.{◌≤◌, refl, sym, subst, arith}
use Rattle.timed_queue.specs.declared.wheel.Wheel.{Wheel}
use Rattle.timed_queue.specs.Sound.{ArePlaced, AreFrom}
use Rattle.timed_queue.proofs.MoveLaws.{spread_begins, settled_low}
use Rattle.timed_queue.proofs.wheel.Wheel.follow.Goals.{then-place-ge64, else-place-ge64}
use Rattle.timed_queue.proofs.wheel.Wheel.follow.Goals as goal

pub returns-clause-settled : goal.returns-clause-settled
returns-clause-settled c =
    let w = c.args.self.now in
    let late : w.origin ≤ c.args.t = omega arith in
    let from : AreFrom w.nodes.items c.args.t = c.if-holds_before.ensures refl in
    elim c.if-place-ge64.branch [
      | then-place-ge64 w' ↦ subst (λ (x : Wheel). ArePlaced x.nodes.items c.args.t) (sym w'.self-is) w'.spread.ensures.placed
      | else-place-ge64 w' ↦ subst (λ (x : Wheel). ArePlaced x.nodes.items c.args.t) (sym w'.self-is)
          (settled_low c.place_of-place.result w.origin c.args.t (omega arith) late c.place_of-place.ensures.place (omega (arith, w'.if-place-ge64.false)) w.nodes.items
          (spread_begins c.place_of-place.result w.origin c.args.t (omega arith) late c.place_of-place.ensures.place w.nodes.items c.requires.settled from))
    ]
