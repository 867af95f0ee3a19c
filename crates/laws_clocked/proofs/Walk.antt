-- The ticks of a block, as it is read.
use Rattle.std.proofs.Common.{◌≡◌, ℕ, false, inl, inr, List, [], ◌∷◌, ◌++◌, map, Option, Some, None, refl, sym, ◌∙◌, subst}
use Rattle.std.specs.Prelude.{slice_get, Contains, bytes_eq}
use Rattle.std.specs.List.{AllByRecursion, AllZip}
use Rattle.std.proofs.lemmas.List.Elements.{Contains-append_left, Contains-append_right}
use Rattle.code_rules.specs.ModelTree.Tree as tree
use Rattle.code_rules.specs.FlatDesign.Code as code
use Rattle.code_rules.specs.FlatDesign.Code.{Arena, block_at}
use Rattle.code_rules.specs.FlatDesign.Reach.{Inside, deeper, listed, inner_blocks}
use Rattle.code_rules.specs.FlatDesign.declared.code.Handler.{Handler}
use Rattle.code_rules.specs.ModelRules.Scopes.{Scope, local_named, locals_in_block, past, behind, in_unwind}
use Rattle.code_rules.specs.ModelRules.Sites.{Site, site, of_statement, expression_sites, statement_sites, block_sites, else_sites, handler_sites}
use Rattle.code_rules.specs.Bodies.{LocalSource, variables_in, variables_in_block, variables_in_else, variables_in_handlers}
use Rattle.code_rules.specs.Deeds.{Home, exception_number}
use Rattle.code_rules.specs.Numbered.{IsStatement, IsBlock, IsElse, AreHandlers}
use Rattle.expanded_text.specs.Named.{in_expression_if}
use Rattle.expanded_text.specs.Clocked.{Tick, IsTick, Ticks, HasTicks, ElseTicks, HandlerTicks, count_name, reset_name, is_kept, has_kept}
use Rattle.laws_clocked.specs.Ticks as coded
use Rattle.laws_clocked.specs.Coded.{NoneNamed, IsTickOf}
use Rattle.laws_clocked.proofs.Lookups.{none_left, not_count, behind-other}
use Rattle.laws_clocked.proofs.Reading.{Leads, first_is, block_is, among_rest, at_head, behind_head}
use Rattle.laws_clocked.proofs.CodeTicking.{ticking}

-- ---- what is visible behind a statement

-- a name that no local variable with another name than the three has stands for the same behind a statement
pub local_behind : (z : List ℕ) → ((x : List ℕ) → is_kept x ≡ false → bytes_eq x z ≡ false) → (x : tree.Statement) (s : Scope) (ts : List Tick) → Ticks x ts
    → local_named (behind x s) z ≡ local_named s z
local_behind z apart (tree.var line t x e) s ts h = behind-other s x z t (apart x (none_left (is_kept x) (has_kept (in_expression_if e)) h.0))
local_behind z apart (tree.assign line t e) s ts h = refl
local_behind z apart (tree.operate line x at o) s ts h = refl
local_behind z apart (tree.act line x) s ts h = refl
local_behind z apart (tree.if_ line e body other) s ts h = refl
local_behind z apart (tree.while_ line e body) s ts h = refl
local_behind z apart (tree.guard line body undo) s ts h = refl
local_behind z apart (tree.try_ line body handlers) s ts h = refl

zip_joined : {A B : Type 0} (R : A → B → Type 0) (xs us : List A) (ys vs : List B) → AllZip R xs ys → AllZip R us vs → AllZip R (xs ++ us) (ys ++ vs)
zip_joined R [] us [] vs h k = k
zip_joined R [] us (y ∷ ys) vs h k = absurd h
zip_joined R (x ∷ xs) us [] vs h k = absurd h
zip_joined R (x ∷ xs) us (y ∷ ys) vs h k = (h.0, zip_joined R xs us ys vs h.1 k)

-- ---- the walk

pub all_parts : {A : Type 0} (P : A → Type 0) (xs ys : List A) → AllByRecursion P (xs ++ ys) → AllByRecursion P xs × AllByRecursion P ys
all_parts P [] ys k = (tt, k)
all_parts P (x ∷ xs) ys k = let more = all_parts P xs ys k.1 in ((k.0, more.0), more.1)

pub all_joined : {A : Type 0} (P : A → Type 0) (xs ys : List A) → AllByRecursion P xs → AllByRecursion P ys → AllByRecursion P (xs ++ ys)
all_joined P [] ys k l = l
all_joined P (x ∷ xs) ys k l = (k.0, all_joined P xs ys k.1 l)

-- the body that is walked stands at the place from, and its ticks stand in the block top of the code
module _ (h : Home) (a : Arena) (e : ℕ) (numbered : exception_number h reset_name ≡ Some e) (from : Scope) (whole : tree.Block) (top : ℕ) where
  -- the walk has come to a place of the body
  abbrev pub Here : Scope → Type 0
  Here s = (s.items ≡ from.items) × ((name : List ℕ) → NoneNamed name whole → local_named from name ≡ None → local_named s name ≡ None)

  -- these are among the variables of the body
  abbrev pub Names : List LocalSource → Type 0
  Names vs = (name : List ℕ) → NoneNamed name whole → AllByRecursion (λ (v : LocalSource). bytes_eq v.0 name ≡ false) vs

  names_left : (us vs : List LocalSource) → Names (us ++ vs) → Names us
  names_left us vs names name k = (all_parts (λ (v : LocalSource). bytes_eq v.0 name ≡ false) us vs (names name k)).0

  names_right : (us vs : List LocalSource) → Names (us ++ vs) → Names vs
  names_right us vs names name k = (all_parts (λ (v : LocalSource). bytes_eq v.0 name ≡ false) us vs (names name k)).1

  here_behind : (x : tree.Statement) (s : Scope) → Names (variables_in x) → Here s → Here (behind x s)
  here_behind (tree.var line t x y) s names here = (here.0, λ name k g. behind-other s x name t (names name k).0 ∙ here.1 name k g)
  here_behind (tree.assign line t y) s names here = here
  here_behind (tree.operate line x at o) s names here = here
  here_behind (tree.act line x) s names here = here
  here_behind (tree.if_ line y body other) s names here = here
  here_behind (tree.while_ line y body) s names here = here
  here_behind (tree.guard line body undo) s names here = here
  here_behind (tree.try_ line body handlers) s names here = here

  abbrev pub Found : List Tick → Type 0
  Found ts = (us : List coded.Tick) × AllZip (IsTickOf a e from whole top) ts us

  -- these numbers stand in the block k, which stands in the block of the whole
  abbrev pub Within : ℕ → List ℕ → Type 0
  Within k ids = Inside a top k × ((n : ℕ) → Contains ids n → Contains (block_at a k) n)

  abbrev pub Sees : List Site → Type 0
  Sees xs = (y : Site) → Contains xs y → Contains (block_sites whole from) y

  abbrev InnerWithin : List ℕ → Type 0
  InnerWithin js = (j : ℕ) → Contains js j → (ids : List ℕ) → slice_get a.blocks j ≡ Some ids → Within j ids

  none_found : (ts : List Tick) → ts ≡ [] → Found ts
  none_found ts g = ([], subst (λ (xs : List Tick). AllZip (IsTickOf a e from whole top) xs []) (sym g) tt)

  both_found : (ts us vs : List Tick) → ts ≡ us ++ vs → Found us → Found vs → Found ts
  both_found ts us vs g x y =
      (x.0 ++ y.0, subst (λ (xs : List Tick). AllZip (IsTickOf a e from whole top) xs (x.0 ++ y.0)) (sym g) (zip_joined (IsTickOf a e from whole top) us vs x.0 y.0 x.1 y.1))

  -- the blocks of a statement stand where it stands
  inner_within : (f : code.Statement) (k : ℕ) (ids rest : List ℕ) → Within k ids → Leads a f ids rest → InnerWithin (inner_blocks f)
  inner_within f k ids rest within leads j there ids' read =
      let standing = within.1 leads.number (subst (λ xs. Contains xs leads.number) (sym leads.numbers) (at_head leads.number rest)) in
      (deeper top k j f within.0 (record { number = leads.number; listed_there = standing; found = leads.found }) there, λ n m. subst (λ xs. Contains xs n) (sym (block_is a j ids' read)) m)

  one_found : (t : Tick) (s : Scope) (line : ℕ) (x : tree.Expression) (body : tree.Block) (other : tree.Else) (ids rest : List ℕ) (k : ℕ) → Within k ids → Sees (statement_sites (tree.if_ line x body other) s) → Here s → local_named s count_name ≡ None
      → IsTick t (tree.if_ line x body other) → IsStatement (tree.if_ line x body other) h a s ids rest → (u : coded.Tick) × IsTickOf a e from whole top t u
  one_found t s line x body other ids rest k within sees here free is read =
      let found = ticking h a e numbered s is.at t ids rest free is.counts is.others (subst (λ y. IsStatement y h a s ids rest) is.form read) in
      let standing = within.1 found.tick.whole (subst (λ xs. Contains xs found.tick.whole) (sym found.numbers) (at_head found.tick.whole rest)) in (
        found.tick,
        record {
          line = line;
          statement = tree.if_ line x body other;
          scope = s;
          written = is;
          place = sees (site s line (of_statement (tree.if_ line x body other)))
              (at_head (site s line (of_statement (tree.if_ line x body other))) ((expression_sites s x ++ block_sites body s) ++ else_sites other (past (locals_in_block body) s)));
          items = here.0;
          hides = here.1;
          has = found.has;
          edges = found.edges;
          local = found.local;
          tests = found.tests;
          stands = record { block = k; inside = within.0; listed = standing };
        },
      )

  mutual
    statement_ticks : (x : tree.Statement) (s : Scope) (ts : List Tick) (ids rest : List ℕ) (k : ℕ) → Within k ids → Sees (statement_sites x s) → Names (variables_in x) → Here s → local_named s count_name ≡ None → Ticks x ts → IsStatement x h a s ids rest → Found ts
    statement_ticks (tree.var line t x y) s ts ids rest k within sees names here free has read = none_found ts has.1
    statement_ticks (tree.assign line t y) s ts ids rest k within sees names here free has read = none_found ts has.1
    statement_ticks (tree.operate line x at o) s ts ids rest k within sees names here free has read = none_found ts has.1
    statement_ticks (tree.act line x) s ts ids rest k within sees names here free has read = none_found ts has.1
    statement_ticks (tree.if_ line x body other) s ts ids rest k within sees names here free (inl has) read =
        let one = one_found has.0 s line x body other ids rest k within sees here free has.1 read in
        (one.0 ∷ [], subst (λ (xs : List Tick). AllZip (IsTickOf a e from whole top) xs (one.0 ∷ [])) (sym has.2) (one.1, tt))
    statement_ticks (tree.if_ line x body other) s ts ids rest k within sees names here free (inr has) read =
        let place = site s line (of_statement (tree.if_ line x body other)) in
        let front = expression_sites s x ++ block_sites body s in
        let back = else_sites other (past (locals_in_block body) s) in
        let inner = inner_within (code.if_ read.0 read.1 read.2) k ids rest within (first_is a (code.if_ read.0 read.1 read.2) ids rest read.4) in
        both_found ts has.1.0 has.1.1 has.1.2
        (block_ticks body s has.1.0 read.5.0 read.1 (inner read.1 (at_head read.1 (listed read.2)) read.5.0 read.5.1)
        (λ y m. sees y (behind_head place y (front ++ back) (Contains-append_left front back y (Contains-append_right (expression_sites s x) (block_sites body s) y m)))) (names_left (variables_in_block body) (variables_in_else other) names) here free has.1.3 read.5.2)
        (else_ticks other (past (locals_in_block body) s) has.1.1 read.2 (λ j m. inner j (behind_head read.1 j (listed read.2) m))
        (λ y m. sees y (behind_head place y (front ++ back) (Contains-append_right front back y m))) (names_right (variables_in_block body) (variables_in_else other) names) here free has.1.4 read.6)
    statement_ticks (tree.while_ line x body) s ts ids rest k within sees names here free has read =
        let place = site s line (of_statement (tree.while_ line x body)) in
        let inner = inner_within (code.while_ read.0 read.1) k ids rest within (first_is a (code.while_ read.0 read.1) ids rest read.3) in
        block_ticks body s ts read.4.0 read.1 (inner read.1 (at_head read.1 []) read.4.0 read.4.1)
        (λ y m. sees y (behind_head place y (expression_sites s x ++ block_sites body s) (Contains-append_right (expression_sites s x) (block_sites body s) y m))) names here free has.1 read.4.2
    statement_ticks (tree.guard line body undo) s ts ids rest k within sees names here free has read =
        let place = site s line (of_statement (tree.guard line body undo)) in
        let front = block_sites body s in
        let back = block_sites undo (in_unwind (past (locals_in_block body) s)) in
        let inner = inner_within (code.guard read.0 read.1) k ids rest within (first_is a (code.guard read.0 read.1) ids rest read.2) in
        both_found ts has.0 has.1 has.2
        (block_ticks body s has.0 read.3.0 read.0 (inner read.0 (at_head read.0 (read.1 ∷ [])) read.3.0 read.3.1)
        (λ y m. sees y (behind_head place y (front ++ back) (Contains-append_left front back y m))) (names_left (variables_in_block body) (variables_in_block undo) names) here free has.3 read.3.2)
        (block_ticks undo (in_unwind (past (locals_in_block body) s)) has.1 read.4.0 read.1 (inner read.1 (behind_head read.0 read.1 (read.1 ∷ []) (at_head read.1 [])) read.4.0 read.4.1)
        (λ y m. sees y (behind_head place y (front ++ back) (Contains-append_right front back y m))) (names_right (variables_in_block body) (variables_in_block undo) names) here free has.4 read.4.2)
    statement_ticks (tree.try_ line body hs) s ts ids rest k within sees names here free has read =
        let place = site s line (of_statement (tree.try_ line body hs)) in
        let front = block_sites body s in
        let back = handler_sites hs (past (locals_in_block body) s) in
        let inner = inner_within (code.try_ read.0 read.1) k ids rest within (first_is a (code.try_ read.0 read.1) ids rest read.2) in
        both_found ts has.0 has.1 has.2
        (block_ticks body s has.0 read.3.0 read.0 (inner read.0 (at_head read.0 (map (λ (x : Handler). x.block) read.1)) read.3.0 read.3.1)
        (λ y m. sees y (behind_head place y (front ++ back) (Contains-append_left front back y m))) (names_left (variables_in_block body) (variables_in_handlers hs) names) here free has.3 read.3.2)
        (handler_ticks hs (past (locals_in_block body) s) has.1 read.1 (λ j m. inner j (behind_head read.0 j (map (λ (x : Handler). x.block) read.1) m))
        (λ y m. sees y (behind_head place y (front ++ back) (Contains-append_right front back y m))) (names_right (variables_in_block body) (variables_in_handlers hs) names) here free has.4 read.4)

    pub block_ticks : (x : tree.Block) (s : Scope) (ts : List Tick) (ids : List ℕ) (k : ℕ) → Within k ids → Sees (block_sites x s) → Names (variables_in_block x) → Here s → local_named s count_name ≡ None → HasTicks x ts → IsBlock x h a s ids → Found ts
    block_ticks tree.over s ts ids k within sees names here free has read = none_found ts has
    block_ticks (tree.then x xs) s ts ids k within sees names here free has read =
        both_found ts has.0 has.1 has.2
        (statement_ticks x s has.0 ids read.0 k within (λ y m. sees y (Contains-append_left (statement_sites x s) (block_sites xs (behind x s)) y m)) (names_left (variables_in x) (variables_in_block xs) names) here free has.3 read.1)
        (block_ticks xs (behind x s) has.1 read.0 k (within.0, λ n m. within.1 n (among_rest x h a s ids read.0 read.1 n m))
        (λ y m. sees y (Contains-append_right (statement_sites x s) (block_sites xs (behind x s)) y m)) (names_right (variables_in x) (variables_in_block xs) names) (here_behind x s (names_left (variables_in x) (variables_in_block xs) names) here) (local_behind count_name not_count x s has.0 has.3 ∙ free) has.4 read.2)

    else_ticks : (x : tree.Else) (s : Scope) (ts : List Tick) (o : Option ℕ) → InnerWithin (listed o) → Sees (else_sites x s) → Names (variables_in_else x) → Here s → local_named s count_name ≡ None → ElseTicks x ts → IsElse x h a s o → Found ts
    else_ticks tree.no_else s ts o inner sees names here free has read = none_found ts has
    else_ticks (tree.else_block body) s ts o inner sees names here free has read =
        block_ticks body s ts read.2.0 read.0 (inner read.0 (subst (λ x. Contains (listed x) read.0) (sym read.1) (at_head read.0 [])) read.2.0 read.2.1) sees names here free has read.2.2

    handler_ticks : (x : tree.Handlers) (s : Scope) (ts : List Tick) (hs : List Handler) → InnerWithin (map (λ (y : Handler). y.block) hs) → Sees (handler_sites x s) → Names (variables_in_handlers x) → Here s → local_named s count_name ≡ None → HandlerTicks x ts → AreHandlers x h a s hs → Found ts
    handler_ticks tree.no_more s ts hs inner sees names here free has read = none_found ts has
    handler_ticks (tree.handler name body more) s ts hs inner sees names here free has read =
        let blocks = map (λ (y : Handler). y.block) read.2 in
        let front = block_sites body s in
        let back = handler_sites more (past (locals_in_block body) s) in
        let inside : (j : ℕ) → Contains (read.1 ∷ blocks) j → Contains (map (λ (y : Handler). y.block) hs) j = λ j m. subst (λ (xs : List Handler). Contains (map (λ (y : Handler). y.block) xs) j) (sym read.3) m in
        both_found ts has.1.0 has.1.1 has.1.2
        (block_ticks body s has.1.0 read.5.0 read.1 (inner read.1 (inside read.1 (at_head read.1 blocks)) read.5.0 read.5.1) (λ y m. sees y (Contains-append_left front back y m)) (names_left (variables_in_block body) (variables_in_handlers more) names) here free has.1.3 read.5.2)
        (handler_ticks more (past (locals_in_block body) s) has.1.1 read.2 (λ j m. inner j (inside j (behind_head read.1 j blocks m))) (λ y m. sees y (Contains-append_right front back y m)) (names_right (variables_in_block body) (variables_in_handlers more) names) here free has.1.4 read.6)
