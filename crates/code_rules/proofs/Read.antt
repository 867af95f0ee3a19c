-- Code with other rooms reads back as the same model.
use Rattle.std.proofs.Common.{◌≡◌, ◌+◌, ℕ, List, [], ◌∷◌, map, Option, Some, None, refl, sym, ap, ◌∙◌, subst}
use Rattle.model_rules.specs.ModelTree.Tree as tree
use Rattle.model_rules.specs.FlatDesign.Code as code
use Rattle.model_rules.specs.FlatDesign.Code.{Arena, arena_of}
use Rattle.model_rules.specs.FlatDesign.declared.code.Handler.{Handler}
use Rattle.model_rules.specs.FlatDesign.declared.code.CodeBody.{CodeBody}
use Rattle.model_rules.specs.FlatDesign.declared.code.Code.{Code}
use Rattle.model_rules.specs.ModelTree.declared.items.ClockItem.{ClockItem}
use Rattle.model_rules.specs.Scopes.{Scope, item_scope, with_parameters, place_of, locals_in_block, past, behind, in_unwind}
use Rattle.code_rules.specs.Deeds.{Home}
use Rattle.code_rules.specs.Numbered.{AreFirst, IsCoded, IsStatement, IsBlock, IsElse, AreHandlers}
use Rattle.code_rules.specs.Bodies as source
use Rattle.code_rules.specs.Bodies.{Source, source_of, around_item, body_count, exceptions_of, one_period, IsClockBlock, IsSourceBlock, IsBody, IsBodyIf, AreBodies, AreModules, IsCodeOf}
use Rattle.code_rules.specs.Rooms.{without_room, DiffersInRooms}
use Rattle.code_rules.proofs.Still.{arena_is}

module _ (a : Arena) (bodies : List CodeBody) where
  abbrev other : Arena
  other = record a { bodies = bodies }

  first_still : (fs : List code.Statement) (ids rest : List ℕ) → AreFirst a fs ids rest → AreFirst other fs ids rest
  first_still [] ids rest r = r
  first_still (f ∷ fs) ids rest r = (r.0, r.1, r.2, r.3, first_still fs r.1 rest r.4)

  coded_still : (fs : Option (List code.Statement)) (ids rest : List ℕ) → IsCoded a fs ids rest → IsCoded other fs ids rest
  coded_still fs ids rest r = (r.0, r.1, first_still r.0 ids rest r.2)

  module _ (h : Home) where
    mutual
      statement_still : (x : tree.Statement) (s : Scope) (ids rest : List ℕ) → IsStatement x h a s ids rest → IsStatement x h other s ids rest
      statement_still (tree.var line t name e) s ids rest r = coded_still _ ids rest r
      statement_still (tree.assign line target e) s ids rest r = coded_still _ ids rest r
      statement_still (tree.operate line name at o) s ids rest r = coded_still _ ids rest r
      statement_still (tree.act line action) s ids rest r = coded_still _ ids rest r
      statement_still (tree.if_ line e body else_) s ids rest r = (
        r.0,
        r.1,
        r.2,
        r.3,
        first_still (code.if_ r.0 r.1 r.2 ∷ []) ids rest r.4,
        (r.5.0, r.5.1, block_still body s r.5.0 r.5.2),
        else_still else_ (past (locals_in_block body) s) r.2 r.6,
      )
      statement_still (tree.while_ line e body) s ids rest r =
          (r.0, r.1, r.2, first_still (code.while_ r.0 r.1 ∷ []) ids rest r.3, (r.4.0, r.4.1, block_still body s r.4.0 r.4.2))
      statement_still (tree.guard line body undo) s ids rest r = (
        r.0,
        r.1,
        first_still (code.guard r.0 r.1 ∷ []) ids rest r.2,
        (r.3.0, r.3.1, block_still body s r.3.0 r.3.2),
        (r.4.0, r.4.1, block_still undo (in_unwind (past (locals_in_block body) s)) r.4.0 r.4.2),
      )
      statement_still (tree.try_ line body handlers) s ids rest r = (
        r.0,
        r.1,
        first_still (code.try_ r.0 r.1 ∷ []) ids rest r.2,
        (r.3.0, r.3.1, block_still body s r.3.0 r.3.2),
        handlers_still handlers (past (locals_in_block body) s) r.1 r.4,
      )

      block_still : (x : tree.Block) (s : Scope) (ids : List ℕ) → IsBlock x h a s ids → IsBlock x h other s ids
      block_still tree.over s ids r = r
      block_still (tree.then x xs) s ids r = (r.0, statement_still x s ids r.0 r.1, block_still xs (behind x s) r.0 r.2)

      else_still : (x : tree.Else) (s : Scope) (o : Option ℕ) → IsElse x h a s o → IsElse x h other s o
      else_still tree.no_else s o r = r
      else_still (tree.else_block body) s o r = (r.0, r.1, (r.2.0, r.2.1, block_still body s r.2.0 r.2.2))

      handlers_still : (x : tree.Handlers) (s : Scope) (hs : List Handler) → AreHandlers x h a s hs → AreHandlers x h other s hs
      handlers_still tree.no_more s hs r = r
      handlers_still (tree.handler name body more) s hs r =
          (r.0, r.1, r.2, r.3, r.4, (r.5.0, r.5.1, block_still body s r.5.0 r.5.2), handlers_still more (past (locals_in_block body) s) r.2 r.6)

    clock_still : (o : Option ℕ) (c : ClockItem) (ids : List ℕ) → IsClockBlock a o c ids → IsClockBlock other o c ids
    clock_still None c ids r = absurd r
    clock_still (Some n) c ids r = (r.0, first_still _ ids [] r.1, (r.2.0, r.2.1, first_still (one_period n c) r.2.0 [] r.2.2))

    source_still : (x : Source) (s : Scope) (ids : List ℕ) → IsSourceBlock x h a s ids → IsSourceBlock x h other s ids
    source_still (source.of_function f) s ids r = block_still f.body (with_parameters (record s { answer = f.answer }) f.parameters) ids r
    source_still (source.of_process p) s ids r = block_still p.body s ids r
    source_still (source.of_clock c) s ids r = clock_still (place_of s c.name) c ids r

    module _ (place : ℕ) where
      body_same : (s : Scope) (x : Source) (b : CodeBody) (room : ℕ) → IsBody place h a s x b → IsBody place h other s x (record b { room = room })
      body_same s x b room r = record {
        kind = r.kind;
        in_module = r.in_module;
        name = r.name;
        locals = r.locals;
        parameters = r.parameters;
        answer = r.answer;
        statements = (r.statements.0, r.statements.1, source_still x s r.statements.0 r.statements.2);
      }

      body_still : (s : Scope) (x : Source) (b c : CodeBody) → without_room c ≡ without_room b → IsBody place h a s x b → IsBody place h other s x c
      body_still s x b c e r = subst (IsBody place h other s x) (sym (ap (λ (y : CodeBody). record y { room = c.room }) e)) (body_same s x b c.room r)

  abbrev IsSame : List CodeBody → List CodeBody → Type 0
  IsSame xs ys = map without_room ys ≡ map without_room xs

  -- a list that is the same as one that begins with a body
  begins : (b : CodeBody) (xs ys : List CodeBody) → map without_room ys ≡ without_room b ∷ map without_room xs → (c : CodeBody) × (zs : List CodeBody) × (ys ≡ c ∷ zs) × (without_room c ≡ without_room b) × IsSame xs zs
  begins b xs [] e = cc
  begins b xs (c ∷ zs) e = (c, zs, refl, cc, cc)

  none_same : (ys : List CodeBody) → map without_room ys ≡ [] → ys ≡ []
  none_same [] e = refl
  none_same (c ∷ ys) e = cc

  body_if_still : (place : ℕ) (h : Home) (s : Scope) (o : Option Source) (xs rest ys : List CodeBody) → IsBodyIf place h a s o xs rest → IsSame xs ys
      → (left : List CodeBody) × IsSame rest left × IsBodyIf place h other s o ys left
  body_if_still place h s None xs rest ys r same = (ys, same ∙ ap (map without_room) r, refl)
  body_if_still place h s (Some x) xs rest ys r same =
      let w = begins r.0 rest ys (same ∙ ap (map without_room) r.1) in
      (w.1, w.4, (w.0, w.2, body_still h place s x r.0 w.0 w.3 r.2))

  module _ (modules : List tree.Module) where
    bodies_still : (all : List tree.Item) (place : ℕ) (h : Home) (is : List tree.Item) (xs rest ys : List CodeBody) → AreBodies modules all place h a is xs rest → IsSame xs ys
        → (left : List CodeBody) × IsSame rest left × AreBodies modules all place h other is ys left
    bodies_still all place h [] xs rest ys r same = (ys, same ∙ ap (map without_room) r, refl)
    bodies_still all place h (i ∷ is) xs rest ys r same =
        let w = body_if_still place h (item_scope modules all (around_item i)) (source_of i) xs r.0 ys r.1 same in
        let more = bodies_still all place h is r.0 rest w.0 r.2 w.1 in
        (more.0, more.1, (w.0, w.2, more.2))

    modules_still : (exceptions : List (List ℕ)) (place first : ℕ) (ms : List tree.Module) (xs ys : List CodeBody) → AreModules modules exceptions a place first ms xs → IsSame xs ys → AreModules modules exceptions other place first ms ys
    modules_still exceptions place first [] xs ys r same = none_same ys (same ∙ ap (map without_room) r)
    modules_still exceptions place first (m ∷ ms) xs ys r same =
        let w = bodies_still m.items place (record { first_body = first; exceptions = exceptions }) m.items xs r.0 ys r.1 same in
        (w.0, w.2, modules_still exceptions (place + 1) (first + body_count m.items) ms r.0 w.0 r.2 w.1)

pub code_still : (m : tree.Model) (before after : Code) → DiffersInRooms before after → IsCodeOf m before → IsCodeOf m after
code_still m before after d read =
    subst (λ a. AreModules m.modules (exceptions_of m) a 0 0 m.modules after.bodies) (sym (arena_is before after d))
    (modules_still (arena_of before) after.bodies m.modules (exceptions_of m) 0 0 m.modules before.bodies after.bodies read d.bodies)
