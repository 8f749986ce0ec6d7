use Rattle.plus_settle.proofs.SettlesLemmas.{rates_stop}
use Rattle.plus_settle.proofs.settling.own_rates.Goals as goal

pub returns-in-Err-clause-told : goal.returns-in-Err-clause-told
returns-in-Err-clause-told g c = rw c.rate_stop.ensures (rates_stop _ _ _ _ c.in-Err.stop c.in-Err.ensures.told.0 c.in-Err.ensures.told.1)
