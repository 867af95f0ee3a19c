-- What a judgement of the tree of ticks says of the text.
use Rattle.std.proofs.Common.{◌≡◌, Option, Some, None, option_map, Result, Ok, Err, OnOk, ap, subst, sym, ◌∙◌}
use Rattle.std.specs.Prelude.{IfOk}
use Rattle.std.specs.Option.{option_or}
use Rattle.model_tree.specs.WholeTree.{model_of}
use Rattle.model_tree.specs.Stops.{IfRefused}
use Rattle.model_tree.specs.Tree as tree
use Rattle.model_tree.specs.declared.faults.CheckStop.{CheckStop}
use Rattle.model_tree.specs.declared.faults.CheckStop.TheVariants as stop
use Rattle.model_tree.specs.declared.faults.Fault.{Fault}
use Rattle.model_tree.specs.declared.whole.Tree.{Tree}
use Rattle.code_rules.specs.ModelRules.Passes.{first_fault}

-- a fault that is told otherwise is the first of what is told so
pub told_of : {U : Type 0} (told : U → Fault → Fault) (s : CheckStop) (u v : U) (o : Option Fault) (f : Fault) → u ≡ v → o ≡ Some f → IfRefused s (λ g. g ≡ told u f) → IfRefused s (λ g. option_map (told v) o ≡ Some g)
told_of told (stop.Refused g) u v o f same found is = ap (option_map (told v)) found ∙ ap (λ (h : Fault). Some h) (sym (is ∙ ap (λ w. told w f) same))
told_of told stop.NoMemory u v o f same found is = tt

pub refused_with : (s : CheckStop) (f : Fault) (o : Option Fault) → s ≡ stop.Refused f → IfRefused s (λ g. o ≡ Some g) → o ≡ Some f
refused_with s f o is h = subst (λ (x : CheckStop). IfRefused x (λ g. o ≡ Some g)) is h

-- what comes first in both
pub first_refused : (s : CheckStop) (o p : Option Fault) → IfRefused s (λ g. o ≡ Some g) → IfRefused s (λ g. option_or o p ≡ Some g)
first_refused (stop.Refused f) o p h = ap (λ q. option_or q p) h
first_refused stop.NoMemory o p h = tt

-- nothing is told of no fault
pub none_told : {U : Type 0} (told : U → Fault → Fault) (r : Result Tree CheckStop) (u : U) (o q : Option Fault) → q ≡ option_map (told u) o → OnOk r (o ≡ None) → OnOk r (q ≡ None)
none_told told (Ok t) u o q is h = is ∙ ap (option_map (told u)) h
none_told told (Err e) u o q is h = tt

-- a tree that stands for another has its first fault
pub rules_hold : (r : Result Tree CheckStop) (n : tree.Model) → IfOk r (λ t. model_of t ≡ n) → OnOk r (first_fault n ≡ None) → IfOk r (λ t. first_fault (model_of t) ≡ None)
rules_hold (Ok t) n is h = ap first_fault is ∙ h
rules_hold (Err e) n is h = tt
