use Rattle.plus_trial.specs.Farm.{init_text}
use Rattle.plus_trial.proofs.FarmLemmas.{one_more}
use Rattle.plus_trial.proofs.farm.put_inits.Goals as goal

pub tanks-preserved : goal.tanks-preserved
tanks-preserved c = one_more init_text c.args.text.now.items c.tanks.text.items c.put_init.new.text.items c.tanks.before c.tanks.invariant c.in_ok-put_init.ensures
