-- The design that is written by hand is that of the tree.
use Rattle.std.specs.Prelude.{refl}
use Rattle.design_rules.specs.Listing.{inside_within, binds_within}
use Rattle.design_rules.specs.Paths.{ends_within}
use Rattle.code_rules.specs.Bodies.{IsCodeOf}
use Rattle.design_rules.specs.Designs.{IsDesignOf}
use Rattle.design_rules.specs.Written.{sensitive_to_both, seen}

-- the module of the top instance has no bodies, and the child's one
code : IsCodeOf sensitive_to_both seen.code
code = (
  _,
  (_, refl, (_, refl, (_, refl, (_, refl, (_, refl, refl))))),
  (
    _,
    (
      _,
      refl,
      (
        _,
        (
          _,
          refl,
          record {
            kind = refl;
            in_module = refl;
            name = refl;
            locals = refl;
            parameters = refl;
            answer = refl;
            statements = (_, refl, refl);
          },
        ),
        refl,
      ),
    ),
    refl,
  ),
)

pub whole : IsDesignOf sensitive_to_both seen
unfolding inside_within binds_within ends_within
whole = record {
  objects = refl;
  instances = refl;
  signals = refl;
  resolved = refl;
  fifos = refl;
  mutexes = refl;
  semaphores = refl;
  keepers = refl;
  memories = refl;
  variables = refl;
  ports = refl;
  processes = refl;
  hops = refl;
  events = refl;
  visible = refl;
  exceptions = refl;
  code = code;
}
