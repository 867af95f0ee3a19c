-- The numbers of the worked code, one statement after another.
use Rattle.std.proofs.Common.{[], ◌∷◌, refl, true}
use Rattle.model_lexer.specs.LogicValues.declared.kinds.Value.TheVariants as value
use Rattle.code_rules.specs.FlatDesign.Code as code
use Rattle.worked_models.specs.Arenas.{ReadsBack}

pub clock_reads_back : ReadsBack 4000
clock_reads_back = (
  [],
  (
    _,
    (
      _,
      refl,
      record {
        kind = refl;
        in_module = refl;
        name = refl;
        locals = refl;
        parameters = refl;
        answer = refl;
        statements = (
          4 ∷ 5 ∷ [],
          refl,
          (
            0,
            (4, 5 ∷ [], refl, refl, (5, [], refl, refl, refl)),
            (0 ∷ 1 ∷ 2 ∷ 3 ∷ [], refl, (0, _, refl, refl, (1, _, refl, refl, (2, _, refl, refl, (3, _, refl, refl, refl))))),
          ),
        );
      },
    ),
    (
      _,
      refl,
      (
        _,
        (
          _,
          refl,
          record {
            kind = refl;
            in_module = refl;
            name = refl;
            locals = (_, [], refl, refl, refl);
            parameters = refl;
            answer = refl;
            statements = (
              9 ∷ [],
              refl,
              (
                [],
                (
                  code.literal (value.Bool true),
                  2,
                  refl,
                  (9, [], refl, refl, refl),
                  (
                    6 ∷ 7 ∷ 8 ∷ [],
                    refl,
                    (
                      7 ∷ 8 ∷ [],
                      (_, refl, (6, _, refl, refl, refl)),
                      ([], (_, refl, (7, _, refl, refl, (8, _, refl, refl, refl))), refl),
                    ),
                  ),
                ),
                refl,
              ),
            );
          },
        ),
        refl,
      ),
    ),
  ),
  refl,
)
