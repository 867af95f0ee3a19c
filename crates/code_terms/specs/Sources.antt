-- The local variables of a body as they are kept.
use Rattle.std.specs.Prelude.{List, map}
use Rattle.code_rules.specs.Bodies.{LocalSource}
use Rattle.code_terms.specs.declared.sources.Source.{Source}

abbrev pub source_of : Source → LocalSource
source_of s = (s.name.now, s.var_type, s.inout)

abbrev pub sources_of : List Source → List LocalSource
sources_of ss = map source_of ss
