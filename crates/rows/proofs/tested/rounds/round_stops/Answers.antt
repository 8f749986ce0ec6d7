use Rattle.rows.proofs.TestedLemmas.RoundRows.{round_stops}
use Rattle.rows.proofs.tested.rounds.round_stops.Goals as goal

pub returns : goal.returns
returns c = round_stops
