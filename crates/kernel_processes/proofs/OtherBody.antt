-- Another body of an instance.
use Rattle.std.proofs.Common.{◌≡◌, ℕ, Some, option_map, refl, sym, ap, ◌∙◌, subst}
use Rattle.std.specs.Prelude.{List, is_some, length, ◌≤◌}
use Rattle.std.specs.FinMap as map
use Rattle.instance_table.specs.NumberedSlots.Numbered.{with_value}
use Rattle.instance_table.specs.declared.instances.Instance.{Instance as Entry}
use Rattle.kernel_processes.specs.InstanceViews.{Seen, seen, shown_in, shown_at}
use Rattle.kernel_processes.specs.Sound.{Fits, IsSound}
use Rattle.wait_lists.specs.Waits.{room_for}
use Rattle.wait_lists.specs.EventCore.declared.event.Ev.{Ev}
use Rattle.kernel_processes.specs.Moves.{with_entry, events_of, sensitive_of, Changes}
use Rattle.kernel_processes.specs.declared.parts.Process.{Process}
use Rattle.kernel_processes.specs.declared.parts.Schedule.{Schedule}
use Rattle.kernel_processes.specs.declared.parts.Wait.{Wait}
use Rattle.kernel_processes.proofs.Changed.{rewritten}
use Rattle.kernel_processes.proofs.Sounding.{at_each, sound_still}
use Rattle.kernel_processes.specs.Moved.{HasRoom, PutsBody}
use Rattle.kernel_processes.proofs.Single.{at_entry, kept_of, busy_there, bodies_fit, bodies_busy}

module _ {B : Type 0} (s : Schedule B) (p : ℕ) (x : Entry (Process B)) (b : B) (at : map.get s.table.live p ≡ Some x) where
  abbrev f : Seen B → Seen B
  f = with_entry (λ e. record e { body = record e.body { body = b } })

  abbrev t : Schedule B
  t = record s { table = with_value s.table p (record x { body = record x.body { body = b } }) }

  ch : Changes p f s t
  ch = rewritten s p (λ e. record e { body = record e.body { body = b } }) x (record x { body = record x.body { body = b } }) at refl

  here : (P : Seen B → Type 0) → P (f (record (seen s p) { entry = Some x })) → P (f (seen s p))
  here P h = at_entry (λ v. P (f v)) (seen s p) x at h

  pub puts_body : PutsBody p b s t
  puts_body = record {
    shown = at_each s t p f ch (λ q v. shown_in v ≡ shown_at s q) (at_entry (λ v. shown_in (f v) ≡ shown_in v) (seen s p) x at refl) (λ q apart. refl);
    ready = at_each s t p f ch (λ q v. v.ready ≡ (seen s q).ready) refl (λ q apart. refl);
    body = ap (λ v. option_map (λ (z : Entry (Process B)). z.body.body) v.entry) ch.here ∙ here (λ v. option_map (λ (z : Entry (Process B)). z.body.body) v.entry ≡ Some b) refl;
    bodies = λ q apart. ap (λ v. option_map (λ (z : Entry (Process B)). z.body.body) v.entry) (ch.others q apart);
    stack = refl;
    due = refl;
    next = refl;
  }

  pub puts_sound : IsSound s → IsSound t
  puts_sound sound = sound_still s t p f ch sound
      (here Fits (bodies_fit (seen s p) x (kept_of (seen s p) x at (sound.each p)) b))
      (at_entry (λ v. is_some (f v).entry ≡ is_some v.entry) (seen s p) x at refl)
      (λ z on some. busy_there f (seen s p) (sound.each p) (ap is_some at) (λ w k. bodies_busy (seen s p) w k b) (λ w is. sound.busy p w on is) z some)

  -- its static sensitivity is as before, and so is the room for a wait
  puts_sensitive : sensitive_of (map.get t.table.live p) ≡ sensitive_of (map.get s.table.live p)
  puts_sensitive = ap (λ v. sensitive_of v.entry) ch.here ∙ at_entry (λ v. sensitive_of (f v).entry ≡ sensitive_of v.entry) (seen s p) x at refl

  pub puts_room : (w : Wait) → HasRoom p (length (events_of w (sensitive_of (map.get s.table.live p)))) s → HasRoom p (length (events_of w (sensitive_of (map.get t.table.live p)))) t
  puts_room w room = record {
    events = let P : List Ev → Type 0 = λ es. length (events_of w es) ≤ room_for s.lists p in subst P (sym puts_sensitive) room.events;
    times = room.times;
    zeros = room.zeros;
  }
