-- A name looked up in a label table whose entries are chained.
use Rattle.relocate.specs.Columns.{LookUp}
use Rattle.relocate_names.specs.Entries.{entries_in}
use Rattle.relocate_chains.specs.Chains.{chained_address}
use Rattle.relocate_chains.specs.declared.ChainedTable.{ChainedTable}

abbrev pub by_chains : ChainedTable → LookUp
by_chains t = chained_address t.source.now (entries_in t.columns) t.chains.now
