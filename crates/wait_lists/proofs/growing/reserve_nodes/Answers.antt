use Rattle.std.proofs.Common.{ℕ, List, sym, subst}
use Rattle.wait_lists.specs.declared.nodes.Node.{Node}
use Rattle.wait_lists.specs.Layout.{Fit}
use Rattle.wait_lists.proofs.Grown.{fit-heads}
use Rattle.wait_lists.proofs.growing.reserve_nodes.Goals as goal

pub returns-clause-sound : goal.returns-clause-sound
returns-clause-sound c =
    let k = c.args.kept.now in
    let fit = fit-heads k.places.entries k.waiters.items k.vacant.items k.nodes.items k.heads.events c.reserve-2.new.self.events k.heads.free k.total c.requires.sound.0 c.reserve-2.ensures.kept c.reserve-2.ensures.near c.reserve-2.ensures.grows in
    let P : List Node → Type 0 = λ l. Fit k.places.entries k.waiters.items k.vacant.items l c.reserve-2.new.self.events k.heads.free k.total in
    let Q : ℕ → Type 0 = λ f. Fit k.places.entries k.waiters.items k.vacant.items c.reserve.new.self.items c.reserve-2.new.self.events f k.total in
    (subst Q (sym c.reserve-2.ensures.free) (subst P (sym c.reserve.ensures.items) fit), c.requires.sound.1)
