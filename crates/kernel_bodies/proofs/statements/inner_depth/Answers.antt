use Rattle.std.proofs.Common.{◌≡◌, [], refl, subst, map, sym, arith}
use Rattle.sim_model.specs.FlatDesign.Code.{statement_of}
use Rattle.sim_model.specs.FlatDesign.Reach.{inner_blocks}
use Rattle.sim_model.specs.FlatDesign.declared.code.Handler.{Handler}
use Rattle.sim_model.specs.FlatDesign.declared.code.Statement.{Statement}
use Rattle.sim_model.specs.FlatDesign.declared.code.Statement.TheVariants as statement
use Rattle.kernel_bodies.specs.Depths.{EachFits}
use Rattle.kernel_bodies.proofs.Contained.{fits_more}
use Rattle.kernel_bodies.proofs.statements.inner_depth.Goals as goal

pub returns-in-Try-clause-deep : goal.returns-in-Try-clause-deep
returns-in-Try-clause-deep c =
    let ds = c.args.depths.now in
    let most = c.larger.result in
    let P : Statement → Type 0 = λ st. EachFits ds most (inner_blocks (statement_of st)) in
    let Q : _ → Type 0 = λ hs. EachFits ds c.deepest_handler.result (map (λ (h : Handler). h.block) hs) in
    subst P (sym c.in-Try.is) (omega (arith, c.room_of-inner.ensures.value, c.larger.ensures.first), fits_more ds c.deepest_handler.result most _ c.larger.ensures.second (subst Q c.as_slice.ensures c.deepest_handler.ensures.deep))

no_blocks : (s : Statement) → ((e : _) (b : _) (other : _) → s ≡ statement.If e b other → ⊥) → ((e : _) (b : _) → s ≡ statement.While e b → ⊥) → ((b : _) (u : _) → s ≡ statement.Guard b u → ⊥)
    → ((b : _) (handlers : _) → s ≡ statement.Try b handlers → ⊥) → inner_blocks (statement_of s) ≡ []
no_blocks (statement.If e b other) chooses loops guards tries = absurd (chooses e b other refl)
no_blocks (statement.While e b) chooses loops guards tries = absurd (loops e b refl)
no_blocks (statement.Guard b u) chooses loops guards tries = absurd (guards b u refl)
no_blocks (statement.Try b handlers) chooses loops guards tries = absurd (tries b handlers refl)
no_blocks s chooses loops guards tries = refl

pub returns-in_default-clause-deep : goal.returns-in_default-clause-deep
returns-in_default-clause-deep c = subst (EachFits c.args.depths.now 0) (sym (no_blocks c.args.statement.now c.in_default.not-If c.in_default.not-While c.in_default.not-Guard c.in_default.not-Try)) tt
