use Rattle.std.proofs.Common.{◌≡◌, ◌<◌, ◌∙◌, ℕ, zero, suc, Bool, true, false, not, List, length, set, slice_get, refl, sym, ap, subst, arith, ne_eqb, true≢false}
use Rattle.std.specs.Prelude.{option_map, ◌==◌}
use Rattle.kernel_events.specs.FifoSync.Fifos.{Queued, free, after_write, after_update}
use Rattle.kernel_events.specs.SimModel.Configuration.{change}
use Rattle.kernel_channels.specs.UpdateMarks.{Rests, HasRoom}
use Rattle.kernel_channels.proofs.Resting.{rests_set}
use Rattle.kernel_channels.proofs.Changing.{changed_there, answered_there, same_length}
use Rattle.kernel_channels.proofs.fifos.FifoBank.write.Goals as goal

pub invariant_of-self : goal.invariant_of-self
invariant_of-self c =
    let qs = c.self.inside.fifos.items in
    record {
      rests = subst (λ bs. Rests after_update (set qs c.args.n c.try_write.new.self) bs) (sym c.set.ensures) (rests_set after_update qs c.self.inside.asked c.args.n c.try_write.new.self c.self.invariant.rests);
      visits = subst (λ k. HasRoom k c.self.inside.visited) (sym (same_length qs c.args.n c.try_write.new.self)) c.self.invariant.visits;
    }

-- a place was free exactly where it was done
done_is : (b : Bool) (k : ℕ) → (b ≡ true → 0 < k) → (0 < k → b ≡ true) → b ≡ not (k == 0)
done_is true zero only if_free = absurd (let h = only refl in omega (arith, h))
done_is true (suc k) only if_free = sym (ap not (ne_eqb (suc k) 0 (λ h. absurd (omega (arith, h)))))
done_is false zero only if_free = refl
done_is false (suc k) only if_free = absurd (true≢false (sym (if_free (omega arith))))

pub returns-clause-done : goal.returns-clause-done
returns-clause-done c =
    let h : c.args.n < length c.self.inside.fifos.items = omega (arith, c.len.ensures, c.self.inside.fifos.ok.0) in
    let told = c.is_ok.ensures.value in
    answered_there c.self.inside.fifos.items c.args.n c.index_mut.result.now h c.index_mut.ensures.value (λ q. not (free q == 0)) c.is_ok.result
    (done_is c.is_ok.result (free c.index_mut.result.now) (λ is. c.try_write.ensures.ok.0 (sym told ∙ is)) (λ some. told ∙ c.try_write.ensures.ok.1 some))
    ∙ ap (λ (qs : List Queued). option_map (λ q. not (free q == 0)) (slice_get qs c.args.n)) c.self.view_is

pub returns-clause-left : goal.returns-clause-left
returns-clause-left c =
    let h : c.args.n < length c.self.inside.fifos.items = omega (arith, c.len.ensures, c.self.inside.fifos.ok.0) in
    changed_there c.self.inside.fifos.items c.args.n c.index_mut.result.now h c.index_mut.ensures.value (λ q. after_write q c.args.v) c.try_write.new.self c.try_write.ensures.left
    ∙ ap (λ (qs : List Queued). change qs c.args.n (λ q. after_write q c.args.v)) c.self.view_is
