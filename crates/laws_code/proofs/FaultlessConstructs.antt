-- What a construct keeps that has no fault.
use Rattle.std.proofs.Common.{◌≡◌, Option, Some, None, refl}
use Rattle.std.specs.Prelude.{option_map}
use Rattle.code_rules.specs.ModelRules.Sites.{Site}
use Rattle.code_rules.specs.ModelRules.Names.{unknown_name, wrong_kind}
use Rattle.code_rules.specs.ModelRules.Values.{type_differs, width_range, literal_range}
use Rattle.code_rules.specs.ModelRules.Calls.{bad_handler, bad_spawn, argument_count, return_differs}
use Rattle.code_rules.specs.ModelRules.Items.{bad_binding}
use Rattle.code_rules.specs.ModelRules.Passes.{constructs, fault_by, fault_at}
use Rattle.code_rules.proofs.ModelRules.Firsts.{all_none}

mapped_none : {A B : Type 0} (f : A → B) (o : Option A) → option_map f o ≡ None → o ≡ None
mapped_none f None h = refl
mapped_none f (Some x) h = cc

-- it keeps each rule of the pass
pub record Keeps (x : Site) : Type 0 where
  pub known : unknown_name x ≡ None
  pub kind : wrong_kind x ≡ None
  pub types : type_differs x ≡ None
  pub widths : width_range x ≡ None
  pub literals : literal_range x ≡ None
  pub handler : bad_handler x ≡ None
  pub spawn : bad_spawn x ≡ None
  pub count : argument_count x ≡ None
  pub returned : return_differs x ≡ None
  pub binding : bad_binding x ≡ None

pub keeps : (x : Site) → fault_at constructs x ≡ None → Keeps x
keeps x h =
    let all = all_none (fault_by x) constructs h in
    record {
      known = mapped_none _ (unknown_name x) all.0;
      kind = mapped_none _ (wrong_kind x) all.1.0;
      types = mapped_none _ (type_differs x) all.1.1.0;
      widths = mapped_none _ (width_range x) all.1.1.1.0;
      literals = mapped_none _ (literal_range x) all.1.1.1.1.0;
      handler = mapped_none _ (bad_handler x) all.1.1.1.1.1.0;
      spawn = mapped_none _ (bad_spawn x) all.1.1.1.1.1.1.0;
      count = mapped_none _ (argument_count x) all.1.1.1.1.1.1.1.0;
      returned = mapped_none _ (return_differs x) all.1.1.1.1.1.1.1.1.0;
      binding = mapped_none _ (bad_binding x) all.1.1.1.1.1.1.1.1.1.1.1.1.1.0;
    }
