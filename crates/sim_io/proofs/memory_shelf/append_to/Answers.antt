use Rattle.std.proofs.Common.{◌≡◌, ◌<◌, ◌∙◌, ◌++◌, Bool, true, false, cond, length, ap, sym, arith}
use Rattle.std.specs.Prelude.{is_ok, slice_set}
use Rattle.sim_io.specs.Memory.{entries, put, bytes_at}
use Rattle.sim_io.proofs.Entries.{entries-put, entries-put_same, bytes_at-entries}
use Rattle.sim_io.proofs.memory_shelf.append_to.Goals as goal

pub returns : goal.returns
returns c = by_cases (is_ok c.extend_from_slice.result) c.extend_from_slice.ensures.items
  where
    within : c.args.place < length c.args.files.now.items
    within = omega (arith, c.args.files.now.ok.0)

    by_cases : (b : Bool) → c.extend_from_slice.new.self.items ≡ cond b (c.index_mut-file.result.now.1.items ++ c.args.piece.now) c.index_mut-file.result.now.1.items → entries (slice_set c.args.files.now.items c.args.place (c.index_mut-file.result.now.0, c.extend_from_slice.new.self)) ≡ cond b (put (entries c.args.files.now.items) c.args.place (bytes_at (entries c.args.files.now.items) c.args.place ++ c.args.piece.now)) (entries c.args.files.now.items)
    by_cases true items =
        entries-put c.args.files.now.items c.args.place c.index_mut-file.result.now c.extend_from_slice.new.self within c.index_mut-file.ensures.value
        ∙ ap (λ bytes. put (entries c.args.files.now.items) c.args.place bytes)
        (items ∙ ap (λ bytes. bytes ++ c.args.piece.now) (sym (bytes_at-entries c.args.files.now.items c.args.place c.index_mut-file.result.now within c.index_mut-file.ensures.value)))
    by_cases false items =
        entries-put_same c.args.files.now.items c.args.place c.index_mut-file.result.now c.extend_from_slice.new.self c.index_mut-file.ensures.value items
