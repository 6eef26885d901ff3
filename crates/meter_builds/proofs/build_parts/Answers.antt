-- `build_parts` meets its contract.
use Rattle.meter_builds.proofs.Laws.{build_laws}
use Rattle.meter_builds.proofs.build_parts.Goals as goal

pub returns-clause-meter_value : goal.returns-clause-meter_value
returns-clause-meter_value c = search build_laws
