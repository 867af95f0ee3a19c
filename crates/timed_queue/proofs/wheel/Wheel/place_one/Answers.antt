use Rattle.std.proofs.Common.{◌<◌, ℕ, ap, ◌∙◌, subst, arith}
use Rattle.timed_queue.specs.Nodes.{Moved, place_of, time_of}
use Rattle.timed_queue.specs.Placing.{place_at}
use Rattle.timed_queue.proofs.MoveLaws.{same_moved, anew_skips, anew_more}
use Rattle.timed_queue.proofs.wheel.Wheel.place_one.Goals as goal

pub returns-then-place_of-lt-PLACES-clause-same : goal.returns-then-place_of-lt-PLACES-clause-same
returns-then-place_of-lt-PLACES-clause-same c =
    let x = c.args.self.now in
    let moved : Moved x.nodes.items c.transfer.new.self.nodes.items c.args.i (place_at 10 (time_of x.nodes.items c.args.i) c.args.t) =
    subst (λ (q : ℕ). Moved x.nodes.items c.transfer.new.self.nodes.items c.args.i q) (c.place_of-to.ensures.place ∙ ap (λ u. place_at 10 u c.args.t) c.time_of.ensures) c.transfer.ensures.moved in
    let live : place_of x.nodes.items c.args.i < 704 = omega (arith, c.place_of.ensures, c.if-place_of-lt-PLACES.true) in
    let low : place_at 10 (time_of x.nodes.items c.args.i) c.args.t < 704 = omega (arith, c.place_of-to.ensures.within, c.place_of-to.ensures.place ∙ ap (λ u. place_at 10 u c.args.t) c.time_of.ensures) in
    same_moved x.nodes.items c.transfer.new.self.nodes.items c.args.i (place_at 10 (time_of x.nodes.items c.args.i) c.args.t) moved live low

pub returns-then-place_of-lt-PLACES-clause-placed : goal.returns-then-place_of-lt-PLACES-clause-placed
returns-then-place_of-lt-PLACES-clause-placed c =
    let x = c.args.self.now in
    let moved : Moved x.nodes.items c.transfer.new.self.nodes.items c.args.i (place_at 10 (time_of x.nodes.items c.args.i) c.args.t) =
    subst (λ (q : ℕ). Moved x.nodes.items c.transfer.new.self.nodes.items c.args.i q) (c.place_of-to.ensures.place ∙ ap (λ u. place_at 10 u c.args.t) c.time_of.ensures) c.transfer.ensures.moved in
    let live : place_of x.nodes.items c.args.i < 704 = omega (arith, c.place_of.ensures, c.if-place_of-lt-PLACES.true) in
    let low : place_at 10 (time_of x.nodes.items c.args.i) c.args.t < 704 = omega (arith, c.place_of-to.ensures.within, c.place_of-to.ensures.place ∙ ap (λ u. place_at 10 u c.args.t) c.time_of.ensures) in
    anew_more x.nodes.items c.transfer.new.self.nodes.items c.args.t c.args.i c.requires.placed live low moved

pub returns-else-place_of-lt-PLACES-clause-placed : goal.returns-else-place_of-lt-PLACES-clause-placed
returns-else-place_of-lt-PLACES-clause-placed c =
    let x = c.args.self.now in
    anew_skips x.nodes.items c.args.t c.args.i c.requires.placed (omega (arith, c.place_of.ensures, c.if-place_of-lt-PLACES.false))
