use Rattle.laws_farm.proofs.FarmLaws as farms
use Rattle.laws_farm.proofs.laws.farms_are_pairs.Goals as goal

pub returns : goal.returns
returns c = farms.farms_are_pairs
