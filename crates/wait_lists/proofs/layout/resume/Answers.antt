use Rattle.std.proofs.Common.{false, arith}
use Rattle.wait_lists.proofs.Written.{over-fit, over-few, over-shown}
use Rattle.wait_lists.proofs.layout.resume.Goals as goal

pub returns-clause-sound : goal.returns-clause-sound
returns-clause-sound c =
    let k = c.args.kept.now in (
      over-fit k c.requires.sound c.args.at c.requires.inside false c.set_over.new.waiters.items c.set_over.ensures,
      omega (arith, c.requires.sound.1, over-few k c.requires.sound c.args.at c.requires.inside false c.set_over.new.waiters.items c.set_over.ensures),
    )

pub returns-clause-resumed : goal.returns-clause-resumed
returns-clause-resumed c s here = over-shown c.args.kept.now c.requires.sound c.args.at c.requires.inside false c.set_over.new.waiters.items c.set_over.ensures s here
