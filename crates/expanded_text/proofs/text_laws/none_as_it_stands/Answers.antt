use Rattle.expanded_text.proofs.Texts.{unread}
use Rattle.expanded_text.proofs.text_laws.none_as_it_stands.Goals as goal

pub returns : goal.returns
returns c = unread
