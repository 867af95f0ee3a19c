-- The flat design that is written by hand is that of the tree.
use Rattle.std.specs.Prelude.{refl}
use Rattle.code_rules.specs.Bodies.{IsCodeOf}
use Rattle.design_rules.specs.Listing.{inside_within, binds_within}
use Rattle.design_rules.specs.Paths.{ends_within}
use Rattle.design_rules.specs.Designs.{IsDesignOf}
use Rattle.worked_models.specs.Following.{model, follows}

-- The module has two bodies: the first is an `if`, with a write in it, and a print; the second is a print.
code : IsCodeOf model follows.code
code = (
  _,
  (
    _,
    refl,
    (
      _,
      refl,
      (
        _,
        (
          _,
          refl,
          record {
            kind = refl;
            in_module = refl;
            name = refl;
            locals = refl;
            parameters = refl;
            answer = refl;
            statements = (
              _,
              refl,
              (
                _,
                (_, _, _, refl, (_, _, refl, refl, refl), (_, refl, (_, (_, refl, (_, _, refl, refl, refl)), refl)), refl),
                (_, (_, refl, (_, _, refl, refl, refl)), refl),
              ),
            );
          },
        ),
        (
          _,
          (
            _,
            refl,
            record {
              kind = refl;
              in_module = refl;
              name = refl;
              locals = refl;
              parameters = refl;
              answer = refl;
              statements = (_, refl, (_, (_, refl, (_, _, refl, refl, refl)), refl));
            },
          ),
          refl,
        ),
      ),
    ),
  ),
  refl,
)

pub same : IsDesignOf model follows
unfolding inside_within binds_within ends_within
same = record {
  objects = refl;
  instances = refl;
  signals = refl;
  resolved = refl;
  fifos = refl;
  mutexes = refl;
  semaphores = refl;
  keepers = refl;
  memories = refl;
  variables = refl;
  ports = refl;
  processes = refl;
  hops = refl;
  events = refl;
  visible = refl;
  exceptions = refl;
  code = code;
}
