-- What was counted is handed on.
use Rattle.demands.proofs.OfTables.{table_counted}
use Rattle.demands.proofs.densities.density_of.Goals as goal

pub returns : goal.returns
returns c = table_counted _ c.density_of.result c.density_of.ensures
