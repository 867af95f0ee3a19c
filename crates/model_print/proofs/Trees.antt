-- What is printed of the statements that hold others, once their parts are.
use Rattle.std.proofs.Common.{◌≡◌, ℕ, List, ◌∷◌, ◌++◌, refl}
use Rattle.std.proofs.lemmas.List.Sums.{fold-append}
use Rattle.model_tree.specs.Tree as tree
use Rattle.model_tree.specs.declared.vocabulary.Word.TheVariants as w
use Rattle.model_print.specs.Layout.{Page, Piece, put, put_all}
use Rattle.model_print.specs.Pieces.{word, name, braced}
use Rattle.model_print.specs.Printed.{expression, statement, statements, else_, handlers}

pub put_both : (page : Page) (xs ys : List Piece) → put_all page (xs ++ ys) ≡ put_all (put_all page xs) ys
put_both page xs ys = fold-append put page xs ys

-- what stands printed once the parts are
module _ (old : Page) where
  pub if_printed : (a b c d : Page) (line : ℕ) (e : tree.Expression) (body : tree.Block) (other : tree.Else)
      → a ≡ put old (word w.If) → b ≡ put_all a (expression e) → c ≡ put_all b (braced (statements body)) → d ≡ put_all c (else_ other)
      → d ≡ put_all old (statement (tree.if_ line e body other))
  if_printed a b c d line e body other p q r h =
      rw (
        h,
        r,
        q,
        p,
        put_both (put old (word w.If)) (expression e ++ braced (statements body)) (else_ other),
        put_both (put old (word w.If)) (expression e) (braced (statements body)),
      ) refl

  pub else_printed : (a b : Page) (body : tree.Block) → a ≡ put old (word w.Else) → b ≡ put_all a (braced (statements body)) → b ≡ put_all old (else_ (tree.else_block body))
  else_printed a b body p h = rw (h, p) refl

  pub while_printed : (a b c : Page) (line : ℕ) (e : tree.Expression) (body : tree.Block)
      → a ≡ put old (word w.While) → b ≡ put_all a (expression e) → c ≡ put_all b (braced (statements body))
      → c ≡ put_all old (statement (tree.while_ line e body))
  while_printed a b c line e body p q h = rw (h, q, p, put_both (put old (word w.While)) (expression e) (braced (statements body))) refl

  pub guard_printed : (a b c d : Page) (line : ℕ) (body undo : tree.Block)
      → a ≡ put old (word w.Guard) → b ≡ put_all a (braced (statements body)) → c ≡ put b (word w.Unwind) → d ≡ put_all c (braced (statements undo))
      → d ≡ put_all old (statement (tree.guard line body undo))
  guard_printed a b c d line body undo p q r h =
      rw (h, r, q, p, put_both (put old (word w.Guard)) (braced (statements body)) (word w.Unwind ∷ braced (statements undo))) refl

  pub try_printed : (a b : Page) (line : ℕ) (body : tree.Block) (hs : tree.Handlers)
      → a ≡ put old (word w.Try) → b ≡ put_all a (braced (statements body))
      → put_all old (statement (tree.try_ line body hs)) ≡ put_all b (handlers hs)
  try_printed a b line body hs p h = rw (h, p, put_both (put old (word w.Try)) (braced (statements body)) (handlers hs)) refl

  pub handler_printed : (a b c : Page) (x : List ℕ) (body : tree.Block) (hs : tree.Handlers)
      → a ≡ put old (word w.Catch) → b ≡ put a (name x) → c ≡ put_all b (braced (statements body))
      → put_all old (handlers (tree.handler x body hs)) ≡ put_all c (handlers hs)
  handler_printed a b c x body hs p q h = rw (h, q, p, put_both (put (put old (word w.Catch)) (name x)) (braced (statements body)) (handlers hs)) refl

-- the page of a statement that the tree sees so
pub shown : (old new : Page) (x y : tree.Statement) → x ≡ y → new ≡ put_all old (statement y) → new ≡ put_all old (statement x)
shown old new x y e h = rw e h
