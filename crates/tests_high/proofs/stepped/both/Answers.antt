use Rattle.plus_number.specs.Frac.{fraction_of}
use Rattle.tests_high.proofs.RowLemmas.{two_items, both_fit, both_few}
use Rattle.tests_high.proofs.stepped.both.Goals as goal

pub returns-clause-fits : goal.returns-clause-fits
returns-clause-fits c =
    both_fit fraction_of c.push-2.new.self c.args.first c.args.second
    (two_items c.new-members.result.items c.push.new.self.items c.push-2.new.self.items c.args.first c.args.second c.new-members.ensures.items c.in_ok-push.ensures.items c.in_ok-push-2.ensures.items)
    c.requires.first c.requires.second

pub returns-clause-few : goal.returns-clause-few
returns-clause-few c =
    both_few fraction_of c.push-2.new.self c.args.first c.args.second
    (two_items c.new-members.result.items c.push.new.self.items c.push-2.new.self.items c.args.first c.args.second c.new-members.ensures.items c.in_ok-push.ensures.items c.in_ok-push-2.ensures.items)
    c.requires.few_first c.requires.few_second
