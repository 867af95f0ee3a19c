use Rattle.bus_router.proofs.OneTable.{one_table_of}
use Rattle.bus_router.proofs.table_laws.one_table.Goals as goal

pub returns : goal.returns
returns c = one_table_of
