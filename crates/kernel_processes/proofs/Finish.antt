-- From what becomes of the one instance that moves to the whole schedule.
use Rattle.std.proofs.Common.{◌≡◌, ℕ, Bool, true, false, [], ◌∷◌, ◌++◌, Option, Some, None, refl, sym, ap, ◌∙◌, true≢false, subst}
use Rattle.std.specs.Prelude.{is_some}
use Rattle.std.specs.Global.{Vec}
use Rattle.instance_table.specs.declared.instances.Instance.{Instance as Entry}
use Rattle.sim_model.specs.Configuration.{Instance}
use Rattle.kernel_processes.specs.InstanceViews.{Seen, seen, is_on}
use Rattle.kernel_processes.specs.Sound.{IsBusy, IsSound}
use Rattle.kernel_processes.specs.Moves.{Changes, MovesOne}
use Rattle.kernel_processes.specs.declared.parts.Process.{Process}
use Rattle.kernel_processes.specs.declared.parts.Schedule.{Schedule}
use Rattle.kernel_processes.proofs.Sounding.{sound_still, moves_one, sound_without_top, sound_with_top, top_off, top_on}
use Rattle.kernel_processes.specs.Moved.{LeavesTop, leaves_top, joins_top, same_stack}
use Rattle.kernel_processes.proofs.Single.{Does, IsBusyAt}

-- the entry that there is
pub entry_there : {A : Type 0} (o : Option A) → is_some o ≡ true → (z : A) × (o ≡ Some z)
entry_there None is = absurd (true≢false (sym is))
entry_there (Some z) is = (z, refl)

module _ {B : Type 0} (s t : Schedule B) (p : ℕ) (f : Seen B → Seen B) (g : Instance → Instance) (runs : Bool) (ch : Changes p f s t) (does : Does f g runs (seen s p)) where
  pub moved : MovesOne p g runs same_stack s t
  moved = moves_one s t p f ch g runs does.shown does.ready does.body

  pub still : IsSound s → ((x : Entry (Process B)) → is_on s.stack.items p ≡ true → (f (seen s p)).entry ≡ Some x → IsBusy x (f (seen s p))) → IsSound t
  still sound busy = sound_still s t p f ch sound does.fits does.there busy

  pub still_busy : IsSound s → IsBusyAt (f (seen s p)) → IsSound t
  still_busy sound busy = still sound (λ x on some. busy x some)

  -- where it is not active
  pub still_off : IsSound s → is_on s.stack.items p ≡ false → IsSound t
  still_off sound off = still sound (λ x on some. absurd (true≢false (sym on ∙ off)))

-- the same after the top left the stack, and before it joins it
module _ {B : Type 0} (s u t : Schedule B) (p : ℕ) (g : Instance → Instance) (runs : Bool) where
  pub after_leaving : LeavesTop p s u → MovesOne p g runs same_stack u t → MovesOne p g runs (leaves_top p) s t
  after_leaving left m = subst (λ v. MovesOne p g runs same_stack v t → MovesOne p g runs (leaves_top p) s t) (sym left.others) (λ n. record {
    here = n.here;
    others = n.others;
    ready = n.ready;
    others_ready = n.others_ready;
    bodies = n.bodies;
    stack = left.stack ∙ ap (λ xs. xs ++ p ∷ []) (sym n.stack);
    due = n.due;
    next = n.next;
  }) m

module _ {B : Type 0} (s u : Schedule B) (p : ℕ) (g : Instance → Instance) (runs : Bool) (v : Vec ℕ) where
  pub before_joining : MovesOne p g runs same_stack s u → v.items ≡ u.stack.items ++ p ∷ [] → MovesOne p g runs (joins_top p) s (record u { stack = v })
  before_joining m top = record {
    here = m.here;
    others = m.others;
    ready = m.ready;
    others_ready = m.others_ready;
    bodies = m.bodies;
    stack = top ∙ ap (λ xs. xs ++ p ∷ []) m.stack;
    due = m.due;
    next = m.next;
  }

-- room alone was made
module _ {B : Type 0} (s t : Schedule B) (p : ℕ) (ch : Changes p (λ x. x) s t) where
  pub same_seen : (q : ℕ) → seen t q ≡ seen s q
  same_seen q = Rattle.kernel_processes.proofs.Sounding.at_each s t p (λ x. x) ch (λ n x. x ≡ seen s n) refl (λ n apart. refl) q
