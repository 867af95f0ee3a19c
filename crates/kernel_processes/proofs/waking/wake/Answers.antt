use Rattle.std.proofs.Common.{◌≡◌, ◌||◌, not, true, false, Option, Some, None, refl, sym, ap, ◌∙◌, true≢false}
use Rattle.std.specs.FinMap as map
use Rattle.instance_table.specs.declared.instances.Instance.{Instance as Entry}
use Rattle.kernel_processes.specs.declared.parts.Process.{Process}
use Rattle.kernel_processes.specs.InstanceViews.{seen, is_on}
use Rattle.kernel_processes.specs.Moves.{is_heard, met}
use Rattle.kernel_processes.proofs.Changed.{left_lists, then_changes, told_as}
use Rattle.kernel_processes.proofs.Rousing.{not-true, or-true, roused_seen, woke, still_sound, unheard, unheard_still}
use Rattle.kernel_processes.proofs.Sounding.{same_sound}
use Rattle.kernel_processes.proofs.Timing.{timed_so, left_met, deaf_met}
use Rattle.kernel_processes.proofs.waking.wake.Goals as goal

-- what hears is there, and not disabled
hearing : {B : Type 0} (o : Option (Entry (Process B))) → is_heard o ≡ true → (y : Entry (Process B)) × ((o ≡ Some y) × (y.disabled ≡ false))
hearing None is = absurd (true≢false (sym is))
hearing (Some y) is = (y, (refl, not-true y.disabled is))

pub meet-requires-clause-timed : goal.meet-requires-clause-timed
meet-requires-clause-timed g c = timed_so (seen c.args.s.now c.args.p) (c.requires.sound.each c.args.p)

pub returns-then-is_active-clause-rouses : goal.returns-then-is_active-clause-rouses
returns-then-is_active-clause-rouses g c = unheard c.args.s.now c.args.p
    (ap (λ b. b || not (is_heard (map.get c.args.s.now.table.live c.args.p))) (ap (λ xs. is_on xs c.args.p) (sym c.as_slice.ensures.value) ∙ sym c.is_active.ensures ∙ c.if-is_active.true))

pub returns-then-meet-clause-rouses : goal.returns-then-meet-clause-rouses
returns-then-meet-clause-rouses g c =
    let s = c.args.s.now in
    let h = hearing _ (sym c.meet.ensures.answer ∙ c.if-meet.true) in
    woke s c.args.p _ h.0 h.1.0 h.1.1 (ap (λ xs. is_on xs c.args.p) (sym c.as_slice.ensures.value) ∙ sym c.is_active.ensures ∙ c.if-is_active.false)
    (told_as c.args.p _ roused_seen s _ (then_changes c.args.p met _ s c.meet.new.s _ c.meet.ensures.changes (left_lists c.meet.new.s c.args.p _ c.leave.ensures)) (left_met (seen s c.args.p)))

pub returns-then-meet-clause-sound : goal.returns-then-meet-clause-sound
returns-then-meet-clause-sound g c =
    let s = c.args.s.now in
    let h = hearing _ (sym c.meet.ensures.answer ∙ c.if-meet.true) in
    still_sound s c.args.p _ h.0 h.1.0 h.1.1 (ap (λ xs. is_on xs c.args.p) (sym c.as_slice.ensures.value) ∙ sym c.is_active.ensures ∙ c.if-is_active.false)
    (told_as c.args.p _ roused_seen s _ (then_changes c.args.p met _ s c.meet.new.s _ c.meet.ensures.changes (left_lists c.meet.new.s c.args.p _ c.leave.ensures)) (left_met (seen s c.args.p)))
    c.requires.sound

pub returns-else-meet-clause-rouses : goal.returns-else-meet-clause-rouses
returns-else-meet-clause-rouses g c =
    let s = c.args.s.now in
    let off : is_heard (map.get s.table.live c.args.p) ≡ false = sym c.meet.ensures.answer ∙ c.if-meet.false in
    unheard_still s c.args.p c.meet.new.s (told_as c.args.p met (λ x. x) s c.meet.new.s c.meet.ensures.changes (deaf_met (seen s c.args.p) off))
    (ap (λ b. is_on s.stack.items c.args.p || not b) off ∙ or-true (is_on s.stack.items c.args.p))

pub returns-else-meet-clause-sound : goal.returns-else-meet-clause-sound
returns-else-meet-clause-sound g c =
    let s = c.args.s.now in
    let off : is_heard (map.get s.table.live c.args.p) ≡ false = sym c.meet.ensures.answer ∙ c.if-meet.false in
    same_sound s c.meet.new.s c.args.p (told_as c.args.p met (λ x. x) s c.meet.new.s c.meet.ensures.changes (deaf_met (seen s c.args.p) off)) c.requires.sound
