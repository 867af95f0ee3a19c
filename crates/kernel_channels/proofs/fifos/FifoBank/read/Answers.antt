use Rattle.std.proofs.Common.{◌<◌, ◌∙◌, List, length, set, slice_get, sym, ap, subst, arith}
use Rattle.std.specs.Prelude.{option_map}
use Rattle.kernel_events.specs.FifoSync.Fifos.{Queued, readable, after_read, after_update}
use Rattle.kernel_events.specs.SimModel.Configuration.{change}
use Rattle.kernel_channels.specs.UpdateMarks.{Rests, HasRoom}
use Rattle.kernel_channels.proofs.Resting.{rests_set}
use Rattle.kernel_channels.proofs.Changing.{changed_there, answered_there, same_length}
use Rattle.kernel_channels.proofs.fifos.FifoBank.read.Goals as goal

pub invariant_of-self : goal.invariant_of-self
invariant_of-self c =
    let qs = c.self.inside.fifos.items in
    record {
      rests = subst (λ bs. Rests after_update (set qs c.args.n c.try_read.new.self) bs) (sym c.set.ensures) (rests_set after_update qs c.self.inside.asked c.args.n c.try_read.new.self c.self.invariant.rests);
      visits = subst (λ k. HasRoom k c.self.inside.visited) (sym (same_length qs c.args.n c.try_read.new.self)) c.self.invariant.visits;
    }

pub returns-clause-value : goal.returns-clause-value
returns-clause-value c =
    let h : c.args.n < length c.self.inside.fifos.items = omega (arith, c.len.ensures, c.self.inside.fifos.ok.0) in
    answered_there c.self.inside.fifos.items c.args.n c.index_mut.result.now h c.index_mut.ensures.value readable c.try_read.result c.try_read.ensures.value
    ∙ ap (λ (qs : List Queued). option_map readable (slice_get qs c.args.n)) c.self.view_is

pub returns-clause-left : goal.returns-clause-left
returns-clause-left c =
    let h : c.args.n < length c.self.inside.fifos.items = omega (arith, c.len.ensures, c.self.inside.fifos.ok.0) in
    changed_there c.self.inside.fifos.items c.args.n c.index_mut.result.now h c.index_mut.ensures.value after_read c.try_read.new.self c.try_read.ensures.left
    ∙ ap (λ (qs : List Queued). change qs c.args.n after_read) c.self.view_is
