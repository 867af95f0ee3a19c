use Rattle.std.proofs.Common.{◌≡◌, ◌<◌, ◌∙◌, ℕ, Option, true, length, slice_get, sym, ap, arith}
use Rattle.kernel_events.specs.LogicValues.declared.kinds.Value.{Value}
use Rattle.kernel_events.specs.SignalChannel.Signals.{written, unless_conflict}
use Rattle.kernel_events.specs.SignalChannel.declared.signal.Signal.{Signal}
use Rattle.kernel_events.specs.SimModel.Configuration.{change}
use Rattle.kernel_channels.specs.UpdateMarks.{asked_at}
use Rattle.kernel_channels.specs.Codes.{Values}
use Rattle.kernel_channels.specs.Writers.{conflict_at, written_unless}
use Rattle.kernel_channels.proofs.AskedLists.{room_to_ask, signals_written}
use Rattle.kernel_channels.proofs.Changing.{there, changed_there}
use Rattle.kernel_channels.proofs.signals.SignalBank.write.Goals as goal

pub list_one-requires : goal.list_one-requires
list_one-requires c =
    let ss = c.self.inside.signals.items in
    let h : c.args.n < length ss = omega (arith, c.len.ensures, c.self.inside.signals.ok.0) in
    room_to_ask ss c.self.inside.asked c.self.inside.changed c.self.invariant c.args.n h c.has_asked-had.result
    (c.has_asked-had.ensures ∙ ap (λ xs. asked_at (slice_get xs c.args.n)) c.as_slice.ensures.value)

pub invariant_of-self : goal.invariant_of-self
invariant_of-self c =
    let ss = c.self.inside.signals.items in
    let h : c.args.n < length ss = omega (arith, c.len.ensures, c.self.inside.signals.ok.0) in
    let old = c.index_mut.result.now in
    let asks : c.write.new.self.asked ≡ true = ap (λ (s : Signal). s.asked)
    (c.write.ensures.left ∙ ap (λ o. unless_conflict o old (written c.args.p c.args.v old)) c.in-Ok.ensures.ok) in
    signals_written ss c.self.inside.asked c.self.inside.changed c.self.invariant c.args.n h c.has_asked-had.result
    (c.has_asked-had.ensures ∙ ap (λ xs. asked_at (slice_get xs c.args.n)) c.as_slice.ensures.value)
    c.write.new.self asks c.list_one.new.listed c.list_one.ensures.items c.list_one.ensures.capacity

pub returns-in-Ok-clause-ok : goal.returns-in-Ok-clause-ok
returns-in-Ok-clause-ok c =
    let h : c.args.n < length c.self.inside.signals.items = omega (arith, c.len.ensures, c.self.inside.signals.ok.0) in
    sym (ap (λ (v : Values). conflict_at c.args.p (slice_get v.signals c.args.n)) c.self.view_is)
    ∙ ap (conflict_at c.args.p) (there c.self.inside.signals.items c.args.n c.index_mut.result.now h c.index_mut.ensures.value) ∙ c.in-Ok.ensures.ok

abbrev as_written : ℕ → Option ℕ → Value → Values → Values
as_written n p w v = record v { signals = change v.signals n (written_unless p w) }

pub returns-in-Ok-clause-left : goal.returns-in-Ok-clause-left
returns-in-Ok-clause-left c =
    let h : c.args.n < length c.self.inside.signals.items = omega (arith, c.len.ensures, c.self.inside.signals.ok.0) in
    (λ i. record {
      signals = changed_there c.self.inside.signals.items c.args.n c.index_mut.result.now h c.index_mut.ensures.value (written_unless c.args.p c.args.v) c.write.new.self c.write.ensures.left i;
      changed = c.self.inside.changed;
    })
    ∙ ap (as_written c.args.n c.args.p c.args.v) c.self.view_is

pub returns-in-Err-clause-refused : goal.returns-in-Err-clause-refused
returns-in-Err-clause-refused c =
    let h : c.args.n < length c.self.inside.signals.items = omega (arith, c.len.ensures, c.self.inside.signals.ok.0) in
    sym (ap (λ (v : Values). conflict_at c.args.p (slice_get v.signals c.args.n)) c.self.view_is)
    ∙ ap (conflict_at c.args.p) (there c.self.inside.signals.items c.args.n c.index_mut.result.now h c.index_mut.ensures.value) ∙ c.in-Err.ensures.refused

pub returns-in-Err-clause-left : goal.returns-in-Err-clause-left
returns-in-Err-clause-left c =
    let h : c.args.n < length c.self.inside.signals.items = omega (arith, c.len.ensures, c.self.inside.signals.ok.0) in
    (λ i. record {
      signals = changed_there c.self.inside.signals.items c.args.n c.index_mut.result.now h c.index_mut.ensures.value (written_unless c.args.p c.args.v) c.write.new.self c.write.ensures.left i;
      changed = c.self.inside.changed;
    })
    ∙ ap (as_written c.args.n c.args.p c.args.v) c.self.view_is
