use Rattle.std.proofs.Common.{map}
use Rattle.std.specs.Prelude.{string_bytes}
use Rattle.clap.specs.Words.{app_of}
use Rattle.command_line.proofs.ClapLemmas.{matches_are}
use Rattle.command_line.proofs.given.matches_of.Goals as goal

pub returns : goal.returns
returns c =
    matches_are (app_of c.args.command) (map string_bytes c.args.words.now) c.try_get_matches_from.result c.requires
    c.try_get_matches_from.ensures.kinds c.try_get_matches_from.ensures.matches
