-- The statement in place, in a typed configuration: its operators meet operands of their types, and it leaves everything typed.
use Rattle.std.proofs.Common.{◌≡◌, ℕ, List, [], ◌∷◌, Some, None, refl, sym, ap, ◌∙◌, subst}
use Rattle.std.specs.Prelude.{Result, Ok, Err, IfOk}
use Rattle.std.proofs.lemmas.Option.{same_Some}
use Rattle.sim_model.specs.FlatDesign.Code.{Term, Statement, statement_at}
use Rattle.sim_model.specs.FlatDesign.Typed.{EachOf}
use Rattle.sim_model.specs.FlatDesign.Sound.{SoundDesign}
use Rattle.sim_model.specs.FlatDesign.declared.faults.RunFault.{RunFault}
use Rattle.sim_model.specs.FlatDesign.declared.design.Design.{Design}
use Rattle.sim_model.specs.Residual as residual
use Rattle.sim_model.specs.Residual.{Residual, settle, next_of}
use Rattle.sim_model.specs.Configuration.{Config, Instance, arena, instance_at}
use Rattle.sim_model.specs.Reading.{Here, here}
use Rattle.sim_model.specs.Statements.{do_statement, settled_in}
use Rattle.laws_runs.proofs.Changes.{change-here}
use Rattle.laws_runs.specs.Standing.{code_of, IsStanding}
use Rattle.laws_runs.specs.Contents.{context_of}
use Rattle.laws_runs.specs.Operands.{OperandsFit}
use Rattle.laws_runs.proofs.TermTypes.{operands-fit}
use Rattle.laws_runs.specs.Frames.{LeftFits}
use Rattle.laws_runs.specs.TypedConfig.{TypesHaveValues, IsTypedConfig}
use Rattle.laws_runs.proofs.TypedLeft.{settle-fits}
use Rattle.laws_runs.proofs.TypedMoves.{Fits, residual-fits}
use Rattle.laws_runs.specs.Terms.{terms_of, MeetsItsTypes, NextIsTyped}
use Rattle.laws_runs.proofs.Place.{StatementFits, left-here, statement-fits}
use Rattle.laws_runs.proofs.TypedForms.{form-kept}
use Rattle.laws_runs.proofs.TermsOf.{IsSome, terms-typed}

pub typed-fits : (c : Config) → IsTypedConfig c → Fits c.design c
typed-fits c t = (refl, t.contents, t.instances, t.script)

pub fits-typed : (d : Design) (c : Config) → Fits d c → IsTypedConfig c
fits-typed d c k = at (subst (λ x. Fits x c) (sym k.0) k)
  where
    at : Fits c.design c → IsTypedConfig c
    at h = record { contents = h.1; instances = h.2; script = h.3 }

-- finished parts fall away
pub settled-fits : (c : Config) (p : ℕ) (i : Instance) → instance_at c p ≡ Some i → Fits c.design c → Fits c.design (settled_in c p i.residual)
settled-fits c p i at k =
    residual-fits c.design c p (settle (arena c) i.residual)
    (λ j there h. settle-fits c.design None j.home i.residual (subst (LeftFits c.design None j.home) (ap (λ (x : Instance). x.residual) (same_Some j i (sym there ∙ at))) h.left)) k

module _ (c : Config) (p : ℕ) (i : Instance) (at : instance_at c p ≡ Some i) (sound : SoundDesign c.design) (k : Fits c.design c) where
  abbrev r : Residual
  r = settle (arena c) i.residual

  abbrev later : Config
  later = settled_in c p i.residual

  pub meets-types : MeetsItsTypes c p i
  meets-types n s next found =
      let k2 = settled-fits c p i at k in
      let at2 = change-here c.processes.instances p (λ j. record j { residual = r }) i at in
      let stands = statement-fits later p (record i { residual = r }) r n sound k2 (left-here later p (record i { residual = r }) r k2 at2 refl) next in
      each (here later p (record i { residual = r }) r) stands (terms_of s) (terms-typed (context_of stands.place.body.locals (here later p (record i { residual = r }) r)) (code_of c.design) stands.place.body.module_place stands.place.body.answer s (stands.typed s found))
    where
      each : (h : Here) (stands : StatementFits later p (record i { residual = r }) r n) (es : List Term) → EachOf (IsSome (context_of stands.place.body.locals (here later p (record i { residual = r }) r))) es
          → EachOf (OperandsFit (here later p (record i { residual = r }) r)) es
      each h stands [] e = tt
      each h stands (x ∷ xs) e = (operands-fit (here later p (record i { residual = r }) r) sound stands.place.body.locals stands.place.place_fits x e.0.0 e.0.1, each h stands xs e.1)

  pub next-typed : NextIsTyped c p i
  next-typed n s next found =
      let k2 = settled-fits c p i at k in
      let at2 = change-here c.processes.instances p (λ j. record j { residual = r }) i at in
      let stands = statement-fits later p (record i { residual = r }) r n sound k2 (left-here later p (record i { residual = r }) r k2 at2 refl) next in
      record { body = stands.place.body; home_of = stands.place.home_of; place_fits = stands.place.place_fits; typed = stands.typed s found }

typed_ok : (d : Design) (m : Result Config RunFault) → IfOk m (Fits d) → IfOk m IsTypedConfig
typed_ok d (Ok e) k = fits-typed d e k
typed_ok d (Err f) k = tt

pub statement-typed : (c : Config) (p : ℕ) (i : Instance) (n : ℕ) (s : Statement) → SoundDesign c.design → TypesHaveValues c.design → IsTypedConfig c → instance_at c p ≡ Some i → IsStanding c.design i.home i.residual
    → next_of i.residual ≡ residual.statement n → statement_at (code_of c.design) n ≡ Some s → IfOk (do_statement c p i i.residual (here c p i i.residual) n s) IsTypedConfig
statement-typed c p i n s sound types typed at standing next found = typed_ok c.design _ (form-kept c p i at i.residual refl sound types (typed-fits c typed) standing n next s found)
