use Rattle.std.proofs.Common.{rules, arith}
use Rattle.plus_trim_command.proofs.Reading.{all_read, one_more}
use Rattle.plus_trim_command.proofs.trim.plan_under.Goals as goal

pub returns-in-Ok-clause-read : goal.returns-in-Ok-clause-read
returns-in-Ok-clause-read g c = all_read (g.S.Shelf.bytes c.args.shelf.now c.args.plan.now) c.read_all.new.into.items c.in-Ok.ensures.whole

pub returns-in-Ok-push-clause-read : goal.returns-in-Ok-push-clause-read
returns-in-Ok-push-clause-read g c =
    one_more (g.S.Shelf.bytes c.args.shelf.now c.args.plan.now) c.read_all.new.into.items c.push.new.self.items 10
    (let o = c.read_all.new.into.ok.0 in let f = c.read_all.ensures.full (search rules) in omega (arith, o, f)) c.in-Ok-push.ensures.items (c.read_all.ensures.too_long (search rules))
