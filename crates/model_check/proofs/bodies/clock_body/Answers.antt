use Rattle.std.proofs.Common.{◌≡◌, ℕ, Option, refl, sym, ◌∙◌, subst}
use Rattle.code_rules.specs.Bodies.{IsClockBlock}
use Rattle.code_rules.specs.Numbered.{AtBlock}
use Rattle.model_check.proofs.bodies.clock_body.Goals as goal

pub returns-clause-reads : goal.returns-clause-reads
returns-clause-reads c = λ a begins. record {
  kind = refl;
  in_module = refl;
  name = c.in_ok-text_of.ensures ∙ c.bytes.ensures.value;
  locals = c.new.ensures;
  parameters = refl;
  answer = refl;
  statements = subst (λ (place : Option ℕ). AtBlock a c.in_ok-block.block (IsClockBlock a place c.args.clock.now)) (sym c.in_ok-channel.ensures) (c.in_ok-block.ensures.reads a begins);
}
