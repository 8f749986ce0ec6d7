use Rattle.std.proofs.Common.{◌∙◌, ap}
use Rattle.plus_crossing.specs.Rated.{all_rates}
use Rattle.plus_crossing.proofs.Rated.{zero_rates}
use Rattle.plus_crossing.proofs.rates.Rates.renew.Goals as goal

pub returns : goal.returns
returns g c = ap (λ es. all_rates g.Q.Exact.value es 0 c.args.fluents) c.clear.ensures.items ∙ zero_rates g.Q.Exact.value 0 c.args.fluents
