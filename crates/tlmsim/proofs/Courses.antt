-- Runs, by what was taken of their texts.
use Rattle.std.proofs.Common.{◌≡◌, ◌<◌, ◌+◌, ◌-◌, ℕ, suc, List, ◌++◌, length, Option, Some, None, refl, sym, ◌∙◌, subst, arith}
use Rattle.std.specs.Prelude.{IfSome}
use Rattle.session.specs.SimIo.Contents.{Files, AfterTold, Grew, Same, WereTold}
use Rattle.session.proofs.SimIo.Chains.{grew_on}
use Rattle.command_line.specs.SimModel.Configuration.{Config}
use Rattle.command_line.specs.SimModel.declared.plain.Stop.{Stop}
use Rattle.command_line.specs.SimModel.declared.plain.Stop.TheVariants as stop
use Rattle.command_line.specs.SimModel.declared.plain.Rule.{Rule}
use Rattle.command_line.specs.SimModel.Runs.{after, Ruled, stop_of}
use Rattle.session.specs.Course.{Ran, Wrote}
use Rattle.session.specs.Outputs.{AreNames, FileGot, FilesGot, HasName, Names, Outer, Texts, Took}
use Rattle.session.specs.declared.plans.Plan.{Plan}
use Rattle.tlmsim.specs.Held.{FilesHold, FilesMade}
use Rattle.tlmsim.proofs.Holding.{held_by}
use Rattle.tlmsim.specs.Call.{Call, no_names}
use Rattle.tlmsim.specs.Orderly.{HadNoEnd}
use Rattle.tlmsim.specs.WrittenTexts.{Holds}

-- what was taken in one way was taken in another
wrote_with : (A B : Texts → Type 0) → ((t : Texts) → A t → B t) → (e : Option Stop) (whole : Texts) (s : Stop) → Wrote A e whole s → Wrote B e whole s
wrote_with A B so e whole stop.WriteFault h = record { front = h.front; fronts = h.fronts; lacks = h.lacks; took = so h.front h.took }
wrote_with A B so e whole stop.NoMemory h = record { front = h.front; fronts = h.fronts; took = so h.front h.took }
wrote_with A B so e whole stop.Done h = (h.0, so whole h.1)
wrote_with A B so e whole stop.Stopped h = (h.0, so whole h.1)
wrote_with A B so e whole stop.Budget h = (h.0, so whole h.1)
wrote_with A B so e whole (stop.Replay place) h = (h.0, so whole h.1)
wrote_with A B so e whole (stop.Fault f) h = (h.0, so whole h.1)

pub ran_with : (first : Config) (plan : Plan) (choices : List ℕ) (steps : ℕ) (s : Stop) (A B : Texts → Type 0) → ((t : Texts) → A t → B t) → Ran first plan choices steps s A → Ran first plan choices steps s B
ran_with first plan choices steps s A B so r = record {
  last = r.last;
  is_run = r.is_run;
  ruled = r.ruled;
  within = r.within;
  wrote = wrote_with A B so _ _ s r.wrote;
  near = λ m one before used left splits there. let it = r.near m one before used left splits there in (it.0, so it.0 it.1, it.2);
}

-- some texts were taken
wrote_some : (T : Texts → Type 0) (e : Option Stop) (whole : Texts) (s : Stop) → Wrote T e whole s → (t : Texts) × T t
wrote_some T e whole stop.WriteFault h = (h.front, h.took)
wrote_some T e whole stop.NoMemory h = (h.front, h.took)
wrote_some T e whole stop.Done h = (whole, h.1)
wrote_some T e whole stop.Stopped h = (whole, h.1)
wrote_some T e whole stop.Budget h = (whole, h.1)
wrote_some T e whole (stop.Replay place) h = (whole, h.1)
wrote_some T e whole (stop.Fault f) h = (whole, h.1)

pub ran_some : (first : Config) (plan : Plan) (choices : List ℕ) (steps : ℕ) (s : Stop) (T : Texts → Type 0) → Ran first plan choices steps s T → (t : Texts) × T t
ran_some first plan choices steps s T r = wrote_some T _ _ s r.wrote

-- before each of its steps a session had no end
pub no_end : ((rule : Rule) (n more budget : ℕ) (choices : List ℕ) (first last : Config) → after (n + suc more) choices first ≡ Some last → Ruled rule (n + suc more) choices first → n < budget
    → (c : Config) × (used : List ℕ) × (left : List ℕ) × (choices ≡ used ++ left) × (after n used first ≡ Some c) × (stop_of c rule (length used) n budget ≡ None))
    → (first : Config) (plan : Plan) (choices : List ℕ) (steps : ℕ) (s : Stop) (T : Texts → Type 0) → Ran first plan choices steps s T → HadNoEnd first plan choices steps
no_end law first plan choices steps s T r n less =
    let more = steps - suc n in
    let same : n + suc more ≡ steps = omega (arith, less) in
    law plan.rule n more plan.budget choices first r.last (subst (λ m. after m choices first ≡ Some r.last) (sym same) r.is_run) (subst (λ m. Ruled plan.rule m choices first) (sym same) r.ruled)
    (let within = r.within in omega (arith, less, within))

-- a session without files, over a shelf that has no part in it
pub took_alone : {S : Type 0} (stands : S → ℕ → List ℕ → Type 0) (shelf : S) (trace choices : Option ℕ) → trace ≡ None → choices ≡ None → (files : Option Files) (old new : Option (List ℕ)) (t : Texts) → Grew old new t.report
    → Took (AreNames stands shelf trace choices) (record { sink = old; files = files }) (record { sink = new; files = files }) t
took_alone stands shelf trace choices untraced unlisted files old new t grew = record {
  report = grew;
  files = λ names named. all names
      (unnamed names.trace (subst (λ o. HasName stands shelf o names.trace) untraced named.trace_is))
      (unnamed names.choices (subst (λ o. HasName stands shelf o names.choices) unlisted named.choices_is)) files;
}
  where
    unnamed : (name : Option (List ℕ)) → HasName stands shelf None name → name ≡ None
    unnamed None h = refl
    unnamed (Some name) h = absurd h

    all : (names : Names) → names.trace ≡ None → names.choices ≡ None → (f : Option Files) → AfterTold f f (FilesGot names t)
    all names a b None = tt
    all names a b (Some f) = record { trace = subst (λ o. FileGot o t.trace f f) (sym a) tt; choices = subst (λ o. FileGot o t.choices f f) (sym b) tt; others = λ name p q. refl }

-- a session's texts, in its files that were made empty before it, are what the call leaves
pub holds_by : (c : Call) (AreNamed : Names → Type 0) (names : Names) (old new : Outer) → c.before.out ≡ old.sink → c.after.out ≡ new.sink → c.after.files ≡ new.files
    → AfterTold c.before.files old.files (FilesMade names) → WereTold old.files new.files → IfSome old.files (λ told. AreNamed names) → (t : Texts) → Took AreNamed old new t → Holds c names t
holds_by c AreNamed names old new before after files made told named t took = record {
  report = subst (λ o. Grew o c.after.out t.report) (sym before) (subst (λ o. Grew old.sink o t.report) (sym after) took.report);
  files = subst (λ f. AfterTold c.before.files f (FilesHold names t)) (sym files) (held_by AreNamed names t c.before.files old.files new.files made told named (took.files names));
}

-- the same with no files
pub holds_alone : (c : Call) (AreNamed : Names → Type 0) (old new : Outer) → AreNamed no_names → c.before.out ≡ old.sink → c.after.out ≡ new.sink → c.after.files ≡ new.files
    → AfterTold c.before.files old.files Same → (t : Texts) → Took AreNamed old new t → Holds c no_names t
holds_alone c AreNamed old new named before after files same t took = record {
  report = subst (λ o. Grew o c.after.out t.report) (sym before) (subst (λ o. Grew old.sink o t.report) (sym after) took.report);
  files = subst (λ f. AfterTold c.before.files f (FilesHold no_names t)) (sym files) (alone c.before.files old.files new.files same (took.files no_names named));
}
  where
    alone : (a b d : Option Files) → AfterTold a b Same → AfterTold b d (FilesGot no_names t) → AfterTold a d (FilesHold no_names t)
    alone a b None x y = tt
    alone a None (Some d) x y = absurd y
    alone None (Some b) (Some d) x y = absurd x
    alone (Some a) (Some b) (Some d) x y = record { trace = tt; choices = tt; others = λ name p q. y.others name p q ∙ x name }

-- with more behind the report
pub holds_more : (c : Call) (names : Names) (mid : Option (List ℕ)) (more : List ℕ) (t : Texts) → Grew c.before.out mid t.report → AfterTold c.before.files c.after.files (FilesHold names t) → Grew mid c.after.out more → Holds c names (record t { report = t.report ++ more })
holds_more c names mid more t first files second = record { report = grew_on c.before.out mid c.after.out t.report more first second; files = hold c.before.files c.after.files files }
  where
    hold : (a b : Option Files) → AfterTold a b (FilesHold names t) → AfterTold a b (FilesHold names (record t { report = t.report ++ more }))
    hold a None x = tt
    hold None (Some b) x = absurd x
    hold (Some a) (Some b) x = record { trace = x.trace; choices = x.choices; others = x.others }
