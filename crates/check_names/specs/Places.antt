-- The place that a checker is at, as a place of the definitions.
use Rattle.std.specs.Prelude.{ℕ, take}
use Rattle.model_rules.specs.ModelTree.Views.{modules_of}
use Rattle.model_rules.specs.Scopes.{Scope}
use Rattle.check_names.specs.ModuleNames.{items_of}
use Rattle.check_names.specs.declared.places.Place.{Place}

abbrev pub scope_of : Place → Scope
scope_of p = record {
  modules = modules_of p.model.now;
  items = items_of p.names.now;
  locals = p.locals.visible;
  count = p.locals.count;
  around = p.around.now;
  answer = p.answer;
  unwinding = p.unwinding;
}

-- behind a block only the first so many locals are visible
abbrev pub with_visible : ℕ → Scope → Scope
with_visible n s = record s { locals = take n s.locals }
