use Rattle.std.proofs.Common.{[]}
use Rattle.std.specs.Prelude.{codes}
use Rattle.plus_trial.specs.Farm.{numbered}
use Rattle.plus_trial.proofs.FarmLemmas.{two}
use Rattle.plus_trial.proofs.farm.put_line.Goals as goal

pub returns : goal.returns
returns c =
    two c.args.text.now.items (numbered [] c.args.tank (codes ": (open-valve t")) (numbered [] c.args.tank (codes ")\n"))
    c.put_numbered.new.text.items c.put_numbered-2.new.text.items c.in_ok-put_numbered.ensures c.in_ok-put_numbered-2.ensures
