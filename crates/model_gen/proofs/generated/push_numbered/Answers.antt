use Rattle.std.proofs.Common.{rules, ◌++◌, append_assoc}
use Rattle.std.specs.Fmt.{decimal}
use Rattle.model_gen.proofs.generated.push_numbered.Goals as goal

pub returns : goal.returns
returns c =
    let text = c.args.text.now.items in
    let before = c.args.before.now in
    let digits = decimal c.args.number in
    rw (← append_assoc text (before ++ digits) c.args.behind.now, ← append_assoc text before digits) (search rules)
