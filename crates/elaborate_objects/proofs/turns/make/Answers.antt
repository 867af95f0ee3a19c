use Rattle.std.proofs.Common.{ℕ, List, [], ◌∷◌, ◌++◌, ◌+◌, length, refl, ap, sym, ◌∙◌, arith}
use Rattle.check_names.specs.FlatDesign.declared.objects.Object.{Object}
use Rattle.design_rules.specs.ObjectFaults.{are_too_many}
use Rattle.elaborate_objects.specs.Rows.{row_of}
use Rattle.elaborate_objects.specs.Left.{object_of, left_of, inside_form, rows_within}
use Rattle.elaborate_objects.specs.Walks.{whole_of}
use Rattle.elaborate_objects.specs.declared.frames.Frame.{Frame}
use Rattle.elaborate_objects.proofs.Counts.{still_too_many, counted_more}
use Rattle.elaborate_objects.proofs.Lasting.{made, front}
use Rattle.elaborate_objects.proofs.turns.make.Goals as goal

pub returns-then-not-fits-clause-whole : goal.returns-then-not-fits-clause-whole
returns-then-not-fits-clause-whole c = λ t at.
    let os = c.args.walk.now.objects in
    let f = c.args.frame in
    let o = object_of f.instance (row_of c.args.row.now) in
    let ahead = front t os c.args.walk.now.frames.items f (row_of c.args.row.now) at in
    ap are_too_many ahead.1 ∙ still_too_many (os ++ o ∷ []) ahead.0 (c.if-not-fits.ensures o refl)

pub overflow_add-walk : goal.overflow_add-walk
overflow_add-walk c =
    let os = c.args.walk.now.objects in
    let o = object_of c.args.frame.instance (row_of c.args.row.now) in
    let more = counted_more os (os ++ o ∷ []) o c.args.walk.now.bytes c.bytes_in.result refl c.requires.bytes c.bytes_in.ensures (c.if-not-fits.ensures o refl) in
    omega (arith, more.2)

pub returns-clause-whole : goal.returns-clause-whole
returns-clause-whole c = λ t at.
    let os = c.args.walk.now.objects in
    let fs = c.args.walk.now.frames.items in
    let f = c.args.frame in
    let r = row_of c.args.row.now in
    let new = c.enter_form.new.frames.items in
    let kind = c.args.row.now.form in
    let rest : ℕ → List Frame → List Object = λ n gs. inside_form (rows_within f.depth t) n kind ++ left_of t (n + 1 + length (inside_form (rows_within f.depth t) n kind)) gs in
    let here = ap (λ n. left_of t (n + 1) new) (sym c.count-number.ensures)
    ∙ c.in_ok-enter_form.ensures.left t
    ∙ ap (λ n. rest n c.push.new.self.items) c.count-number.ensures
    ∙ ap (rest (length os)) (c.in_ok-push.ensures.items ∙ ap (λ (x : Frame). fs ++ x ∷ []) c.in_ok-later.ensures) in
    ap (λ xs. whole_of t xs new) (c.in_ok-push-2.ensures.ok ∙ ap (λ (o : Object). os ++ o ∷ []) c.in_ok-object.ensures)
    ∙ made t os fs f r at new here

pub returns-clause-counted : goal.returns-clause-counted
returns-clause-counted c = λ _.
    let os = c.args.walk.now.objects in
    let o = object_of c.args.frame.instance (row_of c.args.row.now) in
    let more =
    counted_more os c.push-2.new.self o c.args.walk.now.bytes c.bytes_in.result (c.in_ok-push-2.ensures.ok ∙ ap (λ (x : Object). os ++ x ∷ []) c.in_ok-object.ensures) c.requires.bytes c.bytes_in.ensures
    (c.if-not-fits.ensures o refl) in
    record { few = more.0; bytes = more.1; small = more.2 }
