-- A configuration but for the drivers of its resolved signals.
use Rattle.std.specs.Prelude.{[]}
use Rattle.sim_model.specs.Configuration.{Config}

abbrev pub without_drivers : Config → Config
without_drivers c = record c { channels = record c.channels { resolved = [] } }
