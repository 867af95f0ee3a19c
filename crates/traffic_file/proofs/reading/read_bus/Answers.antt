use Rattle.std.proofs.Common.{ℕ, List, Result, Ok, Err, IfOk}
use Rattle.traffic_file.specs.declared.Bus.{Bus}
use Rattle.traffic_file.specs.declared.stops.BusStop.{BusStop}
use Rattle.traffic_file.specs.Traffic.{CanRun}
use Rattle.traffic_file.specs.Stops.{IsJudgedAs}
use Rattle.traffic_file.specs.BusText.{bus_of}
use Rattle.traffic_file.proofs.Answered.{read_of, syntax_of, refused_of, accepted_of, comes_of}
use Rattle.traffic_file.proofs.Runnable.{read_runs}
use Rattle.traffic_file.proofs.reading.read_bus.Goals as goal

runs_of : (text : List ℕ) (r : Result Bus BusStop) → IsJudgedAs r (bus_of text) → IfOk r CanRun
runs_of text (Ok bus) h = read_runs text bus h
runs_of text (Err stop) h = tt

pub returns-clause-read : goal.returns-clause-read
returns-clause-read c = read_of c.bus_read.result (bus_of c.args.text.now) c.bus_read.ensures

pub returns-clause-syntax : goal.returns-clause-syntax
returns-clause-syntax c = syntax_of c.bus_read.result (bus_of c.args.text.now) c.bus_read.ensures

pub returns-clause-refused : goal.returns-clause-refused
returns-clause-refused c = refused_of c.bus_read.result (bus_of c.args.text.now) c.bus_read.ensures

pub returns-clause-accepted : goal.returns-clause-accepted
returns-clause-accepted c = accepted_of c.bus_read.result (bus_of c.args.text.now) c.bus_read.ensures

pub returns-clause-comes : goal.returns-clause-comes
returns-clause-comes c = comes_of c.bus_read.result (bus_of c.args.text.now) c.bus_read.ensures

pub returns-clause-runs : goal.returns-clause-runs
returns-clause-runs c = runs_of c.args.text.now c.bus_read.result c.bus_read.ensures
