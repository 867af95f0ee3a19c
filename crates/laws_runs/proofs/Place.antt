-- The statement in place is one of the body whose call is in place, among local variables of its types.
use Rattle.std.proofs.Common.{◌≡◌, ℕ, Option, Some, None, refl, sym, ap, subst}
use Rattle.sim_model.specs.FlatDesign.Code.{Statement, statement_at, body_at}
use Rattle.sim_model.specs.FlatDesign.Typed.{IsTyped}
use Rattle.sim_model.specs.FlatDesign.Sound.{SoundDesign, IsHomeOf}
use Rattle.sim_model.specs.FlatDesign.declared.code.CodeBody.{CodeBody}
use Rattle.sim_model.specs.Residual.{Residual, Frame, innermost, next_of, statement}
use Rattle.sim_model.specs.Configuration.{Config, Instance, instance_at}
use Rattle.sim_model.specs.Reading.{here, locals_of}
use Rattle.laws_runs.specs.Standing.{code_of, place_of}
use Rattle.laws_runs.specs.Contents.{Pairwise, LocalFits, PlaceFits, context_of}
use Rattle.laws_runs.specs.Frames.{IsInside, LeftFits, InstanceFits}
use Rattle.laws_runs.proofs.EachLists.{each-get}
use Rattle.laws_runs.proofs.TypedLeft.{number_or, inner, next-inside, innermost-runs}
use Rattle.laws_runs.proofs.TypedMoves.{Fits}

-- where the instance p, of which r is left, has a call in place: the body, by its number
pub record InPlace (c : Config) (p : ℕ) (i : Instance) (r : Residual) : Type 0 where
  pub number : ℕ
  pub body : CodeBody
  pub found : body_at (code_of c.design) number ≡ Some body
  pub home_of : IsHomeOf c.design (place_of c.design i.home r) body
  pub inside : inner None r ≡ Some number
  pub place_fits : PlaceFits body.locals (here c p i r)

-- a statement of it, which is typed among its local variables
pub record StatementFits (c : Config) (p : ℕ) (i : Instance) (r : Residual) (n : ℕ) : Type 0 where
  pub place : InPlace c p i r
  pub stands : IsInside c.design (Some place.number) n
  pub typed : (s : Statement) → statement_at (code_of c.design) n ≡ Some s → IsTyped (code_of c.design) place.body.module_place place.body.answer (context_of place.body.locals (here c p i r)) s

pub left-here : (c : Config) (p : ℕ) (i : Instance) (r : Residual) → Fits c.design c → instance_at c p ≡ Some i → i.residual ≡ r → LeftFits c.design None i.home r
left-here c p i r k at is = subst (LeftFits c.design None i.home) is (each-get (InstanceFits c.design) c.processes.instances p i k.2 at).left

pub in-place : (c : Config) (p : ℕ) (i : Instance) (r : Residual) (x : Frame) → Fits c.design c → LeftFits c.design None i.home r → innermost r ≡ Some x → InPlace c p i r
in-place c p i r x k left is =
    let runs = innermost-runs c.design None i.home r x left is in
    record {
      number = x.body;
      body = runs.body;
      found = runs.found;
      home_of = runs.home_of;
      inside = ap (number_or None) is;
      place_fits = record { contents = k.1; locals_fit = subst (λ o. Pairwise LocalFits runs.body.locals (locals_of o)) (sym is) runs.locals_fit };
    }

module _ (c : Config) (p : ℕ) (i : Instance) (r : Residual) (n : ℕ) (sound : SoundDesign c.design) (k : Fits c.design c) (left : LeftFits c.design None i.home r) where
  at_frame : (o : Option Frame) → innermost r ≡ o → IsInside c.design (number_or None o) n → StatementFits c p i r n
  unfolding in-place
  at_frame None is inside = absurd inside
  at_frame (Some x) is inside =
      let pl = in-place c p i r x k left is in
      record {
        place = pl;
        stands = inside;
        typed = λ s at. sound.typed x.body pl.body (place_of c.design i.home r) s pl.found pl.home_of (inside pl.body s pl.found at);
      }

  -- a statement of the body in place
  pub inside-fits : IsInside c.design (inner None r) n → StatementFits c p i r n
  inside-fits inside = at_frame (innermost r) refl inside

  pub statement-fits : next_of r ≡ statement n → StatementFits c p i r n
  statement-fits next = at_frame (innermost r) refl (next-inside c.design None i.home r n left next)
