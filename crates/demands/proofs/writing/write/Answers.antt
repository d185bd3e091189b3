-- The arrays of a table have their lengths: so the demands hold of what the writer hands back.
use Rattle.demands.proofs.OfTables.{table_written}
use Rattle.demands.proofs.writing.write.Goals as goal

pub returns : goal.returns
returns c =
    table_written _ _ _ _ _ c.shaped.ensures.lengths c.write.ensures
