-- What a contract sees of a `Table`.
use Rattle.std.specs.Prelude.{Bool, false, refl}
use Rattle.std.specs.Coded.{Coded, code_by, coded×, coded_bool}
use Rattle.numbered_slots.specs.Numbered.{Numbered, numbered_code, with_inserted}
use Rattle.instance_table.specs.declared.instances.Instance.{Instance}
use Rattle.instance_table.specs.declared.instances.ProcessKind.{ProcessKind}
use Rattle.instance_table.specs.declared.instances.Waiting.{Waiting}
use Rattle.instance_table.specs.declared.instances.Waiting.TheVariants as waits
use Rattle.instance_table.specs.declared.instances.Deadline.{Deadline}
use Rattle.instance_table.specs.declared.instances.Deadline.TheVariants as deadlines
use Rattle.instance_table.specs.contracts.instances.ProcessKind as kind
use Rattle.instance_table.specs.contracts.instances.Waiting as waiting
use Rattle.instance_table.specs.contracts.instances.Deadline as deadline

-- the live instances by serial, and the serial that the next one gets
abbrev pub Instances : Type 0 → Type 0
Instances B = Numbered (Instance B)

-- an instance is stored as the tuple of its fields
abbrev pub instance_code : {B : Type 0} → Coded B → Coded (Instance B)
instance_code {B} body =
    code_by
    (ProcessKind × (B × (Waiting × (Deadline × (Bool × (Bool × (Bool × (Bool × Bool))))))))
    (coded× kind.the_row.coded (coded× body (coded× waiting.the_row.coded (coded× deadline.the_row.coded
    (coded× coded_bool (coded× coded_bool (coded× coded_bool (coded× coded_bool coded_bool))))))))
    (λ i. (i.kind, (i.body, (i.wait, (i.deadline, (i.suspended, (i.kept, (i.disabled, (i.started, i.unwinding)))))))))
    (λ p. record {
      kind = p.0;
      body = p.1.0;
      wait = p.1.1.0;
      deadline = p.1.1.1.0;
      suspended = p.1.1.1.1.0;
      kept = p.1.1.1.1.1.0;
      disabled = p.1.1.1.1.1.1.0;
      started = p.1.1.1.1.1.1.1.0;
      unwinding = p.1.1.1.1.1.1.1.1;
    })
    (λ _. refl)

-- a table is stored as what it shows
abbrev pub instances_code : {B : Type 0} → Coded B → Coded (Instances B)
instances_code body = numbered_code (instance_code body)

module _ {B : Type 0} where
  -- an instance that waits for nothing, has not begun, and has no mark
  abbrev pub new_instance : ProcessKind → B → Instance B
  new_instance kind body = record {
    kind = kind;
    body = body;
    wait = waits.None;
    deadline = deadlines.None;
    suspended = false;
    kept = false;
    disabled = false;
    started = false;
    unwinding = false;
  }

  -- the table with a new instance under the next serial
  abbrev pub with_spawned : Instances B → ProcessKind → B → Instances B
  with_spawned t kind body = with_inserted t (new_instance kind body)
