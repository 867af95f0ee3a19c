-- What is laid out behind what was.
use Rattle.std.proofs.Common.{◌≡◌, ◌<◌, ℕ, List, [], ◌∷◌, ◌++◌, Some, Result, Ok, Err, IfOk, OnOk, map, refl, sym, ap, ◌∙◌, subst, arith}
use Rattle.std.proofs.lemmas.List.{append-nil}
use Rattle.flat_design.specs.Code as code
use Rattle.flat_design.specs.Code.{Arena, arena_of, statement_of, statement_at}
use Rattle.flat_design.specs.declared.code.Code.{Code}
use Rattle.code_rules.specs.Numbered.{AreFirst}
use Rattle.code_blocks.specs.declared.laid.Laid.{Laid}
use Rattle.code_blocks.specs.Laid.{BeginsWith}

-- the code whose blocks and statements these are
pub begins_code : (l : Laid) (c : Code) → c.blocks ≡ l.blocks → c.statements ≡ l.statements → BeginsWith l (arena_of c)
begins_code l c blocks statements = record {
  blocks = ([], blocks ∙ sym (append-nil l.blocks));
  statements = ([], ap (map statement_of) statements ∙ sym (append-nil (map statement_of l.statements)));
}

-- the numbers of four statements
pub four_first : (a : Arena) (f1 f2 f3 f4 : code.Statement) (i1 i2 i3 i4 : ℕ) (ids0 ids1 ids2 ids3 ids4 : List ℕ) → ids0 ≡ [] → ids1 ≡ ids0 ++ i1 ∷ [] → ids2 ≡ ids1 ++ i2 ∷ [] → ids3 ≡ ids2 ++ i3 ∷ [] → ids4 ≡ ids3 ++ i4 ∷ []
    → statement_at a i1 ≡ Some f1 → statement_at a i2 ≡ Some f2 → statement_at a i3 ≡ Some f3 → statement_at a i4 ≡ Some f4
    → AreFirst a (f1 ∷ f2 ∷ f3 ∷ f4 ∷ []) ids4 []
four_first a f1 f2 f3 f4 i1 i2 i3 i4 ids0 ids1 ids2 ids3 ids4 e0 e1 e2 e3 e4 s1 s2 s3 s4 =
    let all : ids4 ≡ i1 ∷ i2 ∷ i3 ∷ i4 ∷ [] =
    e4 ∙ ap (λ (is : List ℕ). is ++ i4 ∷ []) (e3 ∙ ap (λ (is : List ℕ). is ++ i3 ∷ []) (e2 ∙ ap (λ (is : List ℕ). is ++ i2 ∷ []) (e1 ∙ ap (λ (is : List ℕ). is ++ i1 ∷ []) e0))) in
    (i1, i2 ∷ i3 ∷ i4 ∷ [], all, s1, (i2, i3 ∷ i4 ∷ [], refl, s2, (i3, i4 ∷ [], refl, s3, (i4, [], refl, s4, refl))))

-- one statement behind others

one_behind : (a : Arena) (f : code.Statement) (i : ℕ) → statement_at a i ≡ Some f → (gs : List code.Statement) (js : List ℕ) → AreFirst a gs js (i ∷ []) → AreFirst a (gs ++ f ∷ []) js []
one_behind a f i at [] js is = (i, [], is, at, refl)
one_behind a f i at (g ∷ gs) js is = (is.0, is.1, is.2, is.3, one_behind a f i at gs is.1 is.4)

pub first_more : (a : Arena) (fs : List code.Statement) (f : code.Statement) (ids : List ℕ) (i : ℕ) → ((rest : List ℕ) → AreFirst a fs (ids ++ rest) rest) → statement_at a i ≡ Some f
    → AreFirst a (fs ++ f ∷ []) (ids ++ i ∷ []) []
first_more a fs f ids i before at = one_behind a f i at fs (ids ++ i ∷ []) (before (i ∷ []))

-- what a result brings

pub if_ok_grown : {T E : Type 0} {A : Type 0} {P Q : T → Type 0} (r : Result T E) → ((x : T) → A → P x → Q x) → OnOk r A → IfOk r P → IfOk r Q
if_ok_grown (Ok x) f g h = f x g h
if_ok_grown (Err e) f g h = tt
