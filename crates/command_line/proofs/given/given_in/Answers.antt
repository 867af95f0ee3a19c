use Rattle.std.proofs.Common.{◌∙◌, codes}
use Rattle.clap.specs.Words.{found_of}
use Rattle.clap.proofs.WalkLemmas.{first_value-rows}
use Rattle.command_line.proofs.LineLemmas.{same_given}
use Rattle.command_line.proofs.given.given_in.Goals as goal

pub returns : goal.returns
returns c =
    same_given _ _
    (c.get_str.ensures ∙ first_value-rows (found_of c.args.matches.now) (codes "model"))
    (c.get_str-2.ensures ∙ first_value-rows (found_of c.args.matches.now) (codes "script"))
    (c.get_str-3.ensures ∙ first_value-rows (found_of c.args.matches.now) (codes "vcd"))
    (c.get_str-4.ensures ∙ first_value-rows (found_of c.args.matches.now) (codes "budget"))
    (c.get_str-5.ensures ∙ first_value-rows (found_of c.args.matches.now) (codes "order"))
    (c.get_str-6.ensures ∙ first_value-rows (found_of c.args.matches.now) (codes "seed"))
    (c.get_str-7.ensures ∙ first_value-rows (found_of c.args.matches.now) (codes "choices"))
    (c.get_str-8.ensures ∙ first_value-rows (found_of c.args.matches.now) (codes "replay"))
    (c.get_str-9.ensures ∙ first_value-rows (found_of c.args.matches.now) (codes "log"))
    (c.get_str-10.ensures ∙ first_value-rows (found_of c.args.matches.now) (codes "format"))
    (c.get_str-11.ensures ∙ first_value-rows (found_of c.args.matches.now) (codes "order-free"))
    (c.get_str-12.ensures ∙ first_value-rows (found_of c.args.matches.now) (codes "bus"))
    (c.get_str-13.ensures ∙ first_value-rows (found_of c.args.matches.now) (codes "generate"))
