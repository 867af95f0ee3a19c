use Rattle.report_texts.proofs.paths.+push_path_from.Given as goal

abbrev pub decreases-push_path_from : goal.decreases-push_path_from
decreases-push_path_from l = l.near
