use Rattle.std.proofs.Common.{◌≡◌, refl}
use Rattle.model_rules.specs.FlatDesign.Code.{statement_of}
use Rattle.model_rules.specs.FlatDesign.Sound as sound
use Rattle.model_rules.specs.FlatDesign.declared.code.Statement.{Statement}
use Rattle.model_rules.specs.FlatDesign.declared.code.Statement.TheVariants as statement
use Rattle.code_rules.proofs.events.events_of.Goals as goal

-- a statement that waits for no event
record WaitsNot (s : Statement) : Type 0 where
  read : (x : _) (ch : _) → s ≡ statement.Read x ch → ⊥
  write : (ch : _) (t : _) (e : _) → s ≡ statement.Write ch t e → ⊥
  wait : (w : _) → s ≡ statement.Wait w → ⊥
  next_trigger : (w : _) → s ≡ statement.NextTrigger w → ⊥
  lock : (ch : _) → s ≡ statement.Lock ch → ⊥
  sem_wait : (ch : _) → s ≡ statement.SemWait ch → ⊥

no_event : (s : Statement) → WaitsNot s → 0 ≡ sound.events_of (statement_of s)
no_event (statement.Read x ch) none = absurd (none.read x ch refl)
no_event (statement.Write ch t e) none = absurd (none.write ch t e refl)
no_event (statement.Wait w) none = absurd (none.wait w refl)
no_event (statement.NextTrigger w) none = absurd (none.next_trigger w refl)
no_event (statement.Lock ch) none = absurd (none.lock ch refl)
no_event (statement.SemWait ch) none = absurd (none.sem_wait ch refl)
no_event s none = refl

pub returns-in_default : goal.returns-in_default
returns-in_default c = no_event c.args.statement.now (record {
  read = c.in_default.not-Read;
  write = c.in_default.not-Write;
  wait = c.in_default.not-Wait;
  next_trigger = c.in_default.not-NextTrigger;
  lock = c.in_default.not-Lock;
  sem_wait = c.in_default.not-SemWait;
})
