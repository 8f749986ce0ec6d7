use Rattle.plus_trial.specs.Farm.{line_text}
use Rattle.plus_trial.proofs.FarmLemmas.{one_more}
use Rattle.plus_trial.proofs.farm.put_lines.Goals as goal

pub tanks-preserved : goal.tanks-preserved
tanks-preserved c = one_more line_text c.args.text.now.items c.tanks.text.items c.put_line.new.text.items c.tanks.before c.tanks.invariant c.in_ok-put_line.ensures
