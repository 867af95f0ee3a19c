-- The ports of a design and their channels.
use Rattle.std.specs.Prelude.{ℕ, List, [], slice_get, Option, Some, None}
use Rattle.elaborate_objects.specs.FlatDesign.declared.objects.Object.{Object}
use Rattle.elaborate_objects.specs.FlatDesign.declared.objects.Objects.{Objects}
use Rattle.elaborate_objects.specs.FlatDesign.declared.design.Denoted.{Denoted}
use Rattle.elaborate_objects.specs.FlatDesign.declared.design.PortPart.{PortPart}
use Rattle.elaborate_objects.specs.DesignRules.declared.bindings.BoundPort.{BoundPort}
use Rattle.elaborate_objects.specs.DesignRules.Paths.{ends_of}
use Rattle.elaborate_objects.specs.DesignRules.Counting.{nothing_before, along}
use Rattle.elaborate_objects.specs.DesignRules.Parts.{port_by}

-- where the bindings of a port lead
abbrev pub channels_if : Option BoundPort → List ℕ
channels_if None = []
channels_if (Some p) = p.channels

abbrev pub channels_at : List BoundPort → ℕ → List ℕ
channels_at ports number = channels_if (slice_get ports number)

-- the ports among objects, where these are what the objects are
abbrev pub ports_among : Objects → List Denoted → List PortPart
ports_among os all = along (λ n (o : Object). port_by all (ends_of os n.objects) n.objects o.form) nothing_before os.list
