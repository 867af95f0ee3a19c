use Rattle.std.proofs.Common.{◌<◌, length, ap, sym, ◌∙◌, arith}
use Rattle.design_rules.specs.ObjectFaults.{bytes_in}
use Rattle.elaborate_objects.proofs.Counts.{fits_more}
use Rattle.elaborate_objects.proofs.limits.fits.Goals as goal

pub returns-then-as_slice-lt-OBJECT_LIMIT : goal.returns-then-as_slice-lt-OBJECT_LIMIT
returns-then-as_slice-lt-OBJECT_LIMIT c = λ o is.
    let few : length c.args.walk.now.objects < 65536 = omega (arith, c.if-as_slice-lt-OBJECT_LIMIT.true, ap (λ xs. length xs) c.as_slice.ensures) in
    fits_more c.args.walk.now.objects o c.args.walk.now.bytes c.bytes_in.result few c.requires.bytes c.requires.small (c.bytes_in.ensures ∙ ap bytes_in (sym is))
