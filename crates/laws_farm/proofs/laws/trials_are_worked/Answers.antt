use Rattle.laws_farm.proofs.FarmLaws as farms
use Rattle.laws_farm.proofs.laws.trials_are_worked.Goals as goal

pub returns : goal.returns
returns c = record { whole = farms.trials_are_worked; cut = farms.cut_trials_are_worked }
