use Rattle.std.proofs.Common.{◌∙◌, ◌≤◌, false, map, length, replicate, vec_capacity, sym, ap, subst, arith}
use Rattle.std.proofs.lemmas.List.{length-map, length-replicate}
use Rattle.kernel_events.specs.SignalChannel.Signals.{settled}
use Rattle.kernel_events.specs.SimModel.Configuration.{first_signal}
use Rattle.kernel_channels.specs.UpdateMarks.{Rests, ListsAsked, IsSignals}
use Rattle.kernel_channels.proofs.Resting.{first_rests}
use Rattle.kernel_channels.proofs.AskedLists.{first_asked, lists_none}
use Rattle.kernel_channels.proofs.signals.SignalBank.new.Goals as goal

pub invariant_of-result : goal.invariant_of-result
invariant_of-result c =
    let ps = c.args.parts.now in
    let size = c.in_ok-size.ensures in
    let asked = c.in_ok-asked.asked in
    let changed = c.in_ok-changed.changed in
    let enough : length ps ≤ vec_capacity asked = let capacity = c.in_ok-asked.ensures.capacity in omega (arith, capacity) in
    subst (λ ss. IsSignals ss asked changed) (sym c.in_ok-signals.ensures) (record {
      rests = subst (λ bs. Rests settled (map first_signal ps) bs) (sym (first_asked ps)) (first_rests ps);
      lists = subst (λ bs. ListsAsked bs asked) (sym (first_asked ps)) (lists_none (length ps) asked c.in_ok-asked.ensures.items enough);
      changed = ap length (c.in_ok-changed.ensures ∙ ap (λ k. replicate k false) size) ∙ length-replicate (length ps) false ∙ sym (length-map ps first_signal);
    })
