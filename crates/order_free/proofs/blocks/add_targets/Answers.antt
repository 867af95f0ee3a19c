use Rattle.std.proofs.Common.{◌≡◌, ◌++◌, [], refl, sym, ap, ◌∙◌}
use Rattle.std.proofs.lemmas.List.{append-nil}
use Rattle.flat_design.specs.Code.{Arena, arena_of, statement_of}
use Rattle.flat_design.specs.declared.code.Statement.{Statement}
use Rattle.flat_design.specs.declared.code.Statement.TheVariants as statement
use Rattle.order_free.specs.Blocks.{targets_of}
use Rattle.order_free.proofs.blocks.add_targets.Goals as goal

-- a statement that leads to no block
record LeadsNowhere (s : Statement) : Type 0 where
  call : (x : _) (f : _) (arguments : _) → s ≡ statement.Call x f arguments → ⊥
  if_ : (e : _) (b : _) (other : _) → s ≡ statement.If e b other → ⊥
  while_ : (e : _) (b : _) → s ≡ statement.While e b → ⊥
  guard : (b : _) (u : _) → s ≡ statement.Guard b u → ⊥
  try_ : (b : _) (handlers : _) → s ≡ statement.Try b handlers → ⊥

no_targets : (a : Arena) (s : Statement) → LeadsNowhere s → targets_of a (statement_of s) ≡ []
no_targets a (statement.Call x f arguments) none = absurd (none.call x f arguments refl)
no_targets a (statement.If e b other) none = absurd (none.if_ e b other refl)
no_targets a (statement.While e b) none = absurd (none.while_ e b refl)
no_targets a (statement.Guard b u) none = absurd (none.guard b u refl)
no_targets a (statement.Try b handlers) none = absurd (none.try_ b handlers refl)
no_targets a s none = refl

pub returns-in_default : goal.returns-in_default
returns-in_default c =
    sym (append-nil c.args.targets.now.items) ∙ ap (λ xs. c.args.targets.now.items ++ xs) (sym (no_targets (arena_of c.args.code.now) c.args.statement.now (record {
      call = c.in_default.not-Call;
      if_ = c.in_default.not-If;
      while_ = c.in_default.not-While;
      guard = c.in_default.not-Guard;
      try_ = c.in_default.not-Try;
    })))
