-- What stands around a clocked thread's own statements, as its body is read.
use Rattle.std.proofs.Common.{◌≡◌, ◌==◌, ℕ, true, false, cond, List, [], ◌∷◌, ◌++◌, Some, None, refl, sym, ap, ◌∙◌, subst, append_assoc}
use Rattle.std.specs.Prelude.{find}
use Rattle.std.proofs.lemmas.Bool.Decides.{Decides-eqb}
use Rattle.code_rules.specs.LogicValues.declared.kinds.Value.TheVariants as value
use Rattle.code_rules.specs.ModelTree.Tree as tree
use Rattle.code_rules.specs.ModelTree.declared.types.TypeForm.TheVariants as type_form
use Rattle.code_rules.specs.FlatDesign.Code as code
use Rattle.code_rules.specs.FlatDesign.Code.{Arena, Term, block_at, statement_at}
use Rattle.code_rules.specs.FlatDesign.declared.code.Handler.{Handler}
use Rattle.code_rules.specs.FlatDesign.declared.names.NameUse.TheVariants as name_use
use Rattle.code_rules.specs.FlatDesign.declared.value_types.ValueType.TheVariants as type
use Rattle.code_rules.specs.ModelRules.Meanings.{variable_type}
use Rattle.code_rules.specs.ModelRules.Scopes.{Scope, local_named, behind}
use Rattle.code_rules.specs.Deeds.{Home, with_two, single, exception_number}
use Rattle.code_rules.specs.Numbered.{IsStatement, IsBlock, var_code, assign_code}
use Rattle.expanded_text.specs.Clocked.{Tick, HasTicks, again_name, reset_name, plain_type, target_of, with_last, last_form, body_form}
use Rattle.laws_clocked.specs.Again.{Around, HasAround}
use Rattle.laws_clocked.specs.Coded.{own_scope}
use Rattle.laws_clocked.proofs.Lookups.{declared_as, behind-new, not_again}
use Rattle.laws_clocked.proofs.Reading.{first_is, coded_is, block_is, takes}
use Rattle.laws_clocked.proofs.Variables.{variable_is, read_at, variable_read, variable_stored}
use Rattle.laws_clocked.proofs.Walk.{local_behind}

-- ---- the last statement of the try

-- the block's own statements, and behind them the last one, at a place where a name that no statement of the block declares stands for the same
record Split (h : Home) (a : Arena) (z : List ℕ) (b : tree.Block) (last : tree.Statement) (s : Scope) (ids : List ℕ) : Type 0 where
  own : List ℕ
  left : List ℕ
  numbers : ids ≡ own ++ left
  reads : IsBlock b h a s own
  place : Scope
  same : local_named place z ≡ local_named s z
  at_end : IsStatement last h a place left []

split : (h : Home) (a : Arena) (b : tree.Block) (last : tree.Statement) (s : Scope) (ts : List Tick) (ids : List ℕ) → HasTicks b ts → IsBlock (with_last b last) h a s ids → Split h a again_name b last s ids
split h a tree.over last s ts ids has read =
    record { own = []; left = ids; numbers = refl; reads = refl; place = s; same = refl; at_end = subst (λ (xs : List ℕ). IsStatement last h a s ids xs) read.2 read.1 }
split h a (tree.then x xs) last s ts ids has read =
    let first = takes x h a s ids read.0 read.1 in
    let more = split h a xs last (behind x s) has.1 read.0 has.4 read.2 in
    record {
      own = first.own ++ more.own;
      left = more.left;
      numbers = first.numbers ∙ ap (λ (ys : List ℕ). first.own ++ ys) more.numbers ∙ sym (append_assoc first.own more.own more.left);
      reads = (more.own, first.reads more.own, more.reads);
      place = more.place;
      same = more.same ∙ local_behind again_name not_again x s has.0 has.3;
      at_end = more.at_end;
    }

-- ---- the try and the loop

abbrev head_of : List ℕ → ℕ → ℕ
head_of [] d = d
head_of (x ∷ xs) d = x

abbrev tail_of : List ℕ → ℕ → List ℕ
tail_of [] d = []
tail_of (x ∷ xs) d = xs ++ d ∷ []

head_and_tail : (xs : List ℕ) (d : ℕ) → head_of xs d ∷ tail_of xs d ≡ xs ++ d ∷ []
head_and_tail [] d = refl
head_and_tail (x ∷ xs) d = refl

same_term : (x y : Term) → Some x ≡ Some y → y ≡ x
same_term x y e = cc

itself : (e : ℕ) → (e == e) ≡ true
itself e = (Decides-eqb e e).1 refl

handled : (hs rest : List Handler) (x : Handler) → hs ≡ x ∷ rest → find (λ (y : Handler). y.exception == x.exception) hs ≡ Some x
handled hs rest x e =
    ap (λ ys. find (λ (y : Handler). y.exception == x.exception) ys) e
    ∙ ap (λ b. cond b (Some x) (find (λ (y : Handler). y.exception == x.exception) rest)) (itself x.exception)

-- These statements of a body at this place are those of a clocked thread with this block: the variable of the loop is set, and there is the
-- loop, with the try in it, which catches the exception e and no other; in the try the block's own statements stand, and behind them one
-- that ends the loop.
pub record IsAroundOf (h : Home) (a : Arena) (s : Scope) (block : tree.Block) (ids : List ℕ) (e : ℕ) (x : Around) : Type 0 where
  pub has : HasAround a x e
  pub exception : exception_number h reset_name ≡ Some e
  pub alone : x.handlers ≡ has.handler ∷ []
  pub again : x.again ≡ s.count
  pub sets : ℕ
  pub statements : ids ≡ sets ∷ x.loops ∷ []
  pub begins : statement_at a sets ≡ Some (code.var x.again type.Bool (Some (code.literal (value.Bool true))))
  pub own : List ℕ
  pub ends : ℕ
  pub inside : x.first ∷ x.more ≡ own ++ ends ∷ []
  pub reads : IsBlock block h a (own_scope s) own
  pub stops : statement_at a ends ≡ Some (code.assign (code.to_name (record { name = name_use.Local x.again; value_type = type.Bool })) (code.literal (value.Bool false)))

-- what is read of a thread's body: what stands around its own statements, the number of its exception, and the block of the try
pub record Threads (h : Home) (a : Arena) (s : Scope) (block : tree.Block) (ids : List ℕ) : Type 0 where
  pub exception : ℕ
  pub around : Around
  pub is : IsAroundOf h a s block ids exception around
  pub whole : block_at a around.inside ≡ is.own ++ is.ends ∷ []

pub threads : (h : Home) (a : Arena) (s : Scope) (at : ℕ → ℕ) (block : tree.Block) (ts : List Tick) (ids : List ℕ) → HasTicks block ts → local_named s again_name ≡ None → IsBlock (body_form at block) h a s ids
    → Threads h a s block ids
threads h a s at block ts ids has free read =
    let again_type = plain_type (at 1) type_form.Bool in
    let s1 = own_scope s in
    let visible : local_named s1 again_name ≡ Some (declared_as s again_name again_type) = behind-new s again_name again_type refl free in
    let sets = coded_is a (var_code s (variable_type again_type) (Some (tree.truth (at 2) true))) (code.var s.count type.Bool (Some (code.literal (value.Bool true)))) ids read.0 refl read.1 in
    let loop = read.2.1 in
    let loops = first_is a (code.while_ loop.0 loop.1) read.0 read.2.0 loop.3 in
    let round = loop.4 in
    let trying = round.2.1 in
    let tries = first_is a (code.try_ trying.0 trying.1) round.0 round.2.0 trying.2 in
    let inside = trying.3 in
    let catching = trying.4 in
    let parts = split h a block (last_form at) s1 ts inside.0 has inside.2 in
    let ending = parts.at_end in
    let variable = variable_is parts.place again_name (declared_as s again_name again_type) type.Bool (parts.same ∙ visible) refl in
    let ends = coded_is a (assign_code parts.place (target_of again_name) (tree.truth (at 7) false)) (code.assign (code.to_name (record { name = _; value_type = type.Bool })) (code.literal (value.Bool false))) parts.left []
    (ap (λ d. single (with_two code.assign d (Some (code.literal (value.Bool false))))) (variable_stored parts.place again_name s.count type.Bool variable)) ending in
    let whole : block_at a trying.0 ≡ parts.own ++ ends.number ∷ [] = block_is a trying.0 inside.0 inside.1 ∙ parts.numbers ∙ ap (λ (xs : List ℕ). parts.own ++ xs) ends.numbers in
    let asks : loop.0 ≡ read_at s.count = same_term (read_at s.count) loop.0 (sym (variable_read s1 again_name s.count type.Bool (variable_is s1 again_name (declared_as s again_name again_type) type.Bool visible refl) (at 4)) ∙ loop.2) in
    record {
      exception = catching.0;
      around = record {
        again = s.count;
        loops = loops.number;
        round = loop.1;
        tries = tries.number;
        inside = trying.0;
        first = head_of parts.own ends.number;
        more = tail_of parts.own ends.number;
        handlers = trying.1;
      };
      is = record {
        has = record {
          loops = loops.found ∙ ap (λ x. Some (code.while_ x loop.1)) asks;
          round = block_is a loop.1 round.0 round.1 ∙ tries.numbers ∙ ap (λ (xs : List ℕ). tries.number ∷ xs) round.2.2;
          tries = tries.found;
          inside = whole ∙ sym (head_and_tail parts.own ends.number);
          handler = record { exception = catching.0; block = catching.1 };
          catches = handled trying.1 catching.2 (record { exception = catching.0; block = catching.1 }) catching.3;
          does_nothing = block_is a catching.1 catching.5.0 catching.5.1 ∙ catching.5.2;
        };
        exception = catching.4;
        alone = catching.3 ∙ ap (λ (hs : List Handler). (record { exception = catching.0; block = catching.1 }) ∷ hs) catching.6;
        again = refl;
        sets = sets.number;
        statements = sets.numbers ∙ ap (λ (xs : List ℕ). sets.number ∷ xs) loops.numbers ∙ ap (λ (xs : List ℕ). sets.number ∷ loops.number ∷ xs) read.2.2;
        begins = sets.found;
        own = parts.own;
        ends = ends.number;
        inside = head_and_tail parts.own ends.number;
        reads = parts.reads;
        stops = ends.found;
      };
      whole = whole;
    }
