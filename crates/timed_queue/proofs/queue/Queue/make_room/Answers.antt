use Rattle.std.proofs.Common.{◌≡◌, ◌⊎◌, ℕ, max, List, Result, Ok, Err, OnOk, OnErr, inl, inr, sym, ap, ◌∙◌, subst, ⊎_elim, arith}
use Rattle.timed_queue.specs.Timed.{Timed}
use Rattle.timed_queue.specs.Layout.{times_of, IsQueue}
use Rattle.timed_queue.proofs.QueueLaws.{queue_grown, times_grown}
use Rattle.timed_queue.proofs.queue.Queue.make_room.Goals as goal

either : {X E : Type 0} (r : Result X E) (A B : Type 0) → OnOk r A → OnErr r B → A ⊎ B
either (Ok x) A B a b = inl a
either (Err e) A B a b = inr b

err_gives : {X E : Type 0} (r : Result X E) (A B : Type 0) → OnErr r A → (A → B) → OnErr r B
err_gives (Ok x) A B a f = tt
err_gives (Err e) A B a f = f a

pub invariant_of-self : goal.invariant_of-self
invariant_of-self c =
    let w = c.self.inside.wheel in let w' = c.reserve-in-Ok.new.self in let room = c.self.invariant.1 in let enough = room.enough in
    let more = either c.reserve-in-Ok.result (w'.room ≡ max w.room c.args.n) (w'.room ≡ w.room) c.reserve-in-Ok.ensures.ok c.reserve-in-Ok.ensures.err in (
      subst (λ (es : List (ℕ × ℕ)). IsQueue es w') (sym c.reserve.ensures.kept)
          (queue_grown c.self.inside.index.entries w w' c.self.invariant.0 c.reserve-in-Ok.ensures.grown c.reserve-in-Ok.ensures.sound c.reserve-in-Ok.ensures.origin),
      record {
        enough = ⊎_elim
            (λ (e : w'.room ≡ max w.room c.args.n). omega (arith, e, enough, c.in-Ok.ensures.ok, c.reserve.ensures.grows))
            (λ (e : w'.room ≡ w.room). omega (arith, e, enough, c.reserve.ensures.grows))
            more;
        few = c.len-names.ensures.few;
      },
    )

pub returns-in-Ok-clause-kept : goal.returns-in-Ok-clause-kept
returns-in-Ok-clause-kept c =
    let w = c.self.inside.wheel in let w' = c.reserve-in-Ok.new.self in
    ap (λ (es : List (ℕ × ℕ)). times_of es w'.nodes.items) c.reserve.ensures.kept
    ∙ times_grown c.self.inside.index.entries w w' c.self.invariant.0 c.reserve-in-Ok.ensures.grown ∙ ap (λ (q : Timed). q.times) c.self.view_is

pub returns-in-Ok-clause-err : goal.returns-in-Ok-clause-err
returns-in-Ok-clause-err c =
    let w = c.self.inside.wheel in let w' = c.reserve-in-Ok.new.self in
    let same = ap (λ (es : List (ℕ × ℕ)). times_of es w'.nodes.items) c.reserve.ensures.kept
    ∙ times_grown c.self.inside.index.entries w w' c.self.invariant.0 c.reserve-in-Ok.ensures.grown in
    err_gives c.reserve-in-Ok.result (w'.room ≡ w.room) _ c.reserve-in-Ok.ensures.err
    (λ e. (λ k. record { times = same k; spare = e k }) ∙ c.self.view_is)
