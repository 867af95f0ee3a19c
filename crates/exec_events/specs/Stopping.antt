-- A session that is to stop.
use Rattle.std.specs.Prelude.{true}
use Rattle.kernel_view.specs.SimModel.Configuration.{Config}

abbrev pub asks_to_stop : Config → Config
asks_to_stop c = record c { cycle = record c.cycle { stop_asked = true } }
