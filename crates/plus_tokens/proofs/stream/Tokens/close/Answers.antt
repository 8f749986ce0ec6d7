use Rattle.std.proofs.Common.{sym}
use Rattle.plus_tokens.specs.Ahead.{is_close}
use Rattle.plus_tokens.proofs.Taken.{end_taken, end_kept}
use Rattle.plus_tokens.proofs.stream.Tokens.close.Goals as goal

pub returns-in_default-clause-comes : goal.returns-in_default-clause-comes
returns-in_default-clause-comes c = sym (end_kept is_close c.self.inside.text.now c.self.inside.at c.args.self.now c.self.invariant c.self.view_is cc).comes_not

pub returns-in_default-clause-leaves : goal.returns-in_default-clause-leaves
returns-in_default-clause-leaves c = (end_kept is_close c.self.inside.text.now c.self.inside.at c.args.self.now c.self.invariant c.self.view_is cc).stays

pub invariant_of-self : goal.invariant_of-self
invariant_of-self c = (end_taken is_close c.self.inside.text.now c.self.inside.at c.in-Some.end c.args.self.now c.self.invariant c.self.view_is cc).inside

pub returns-clause-comes : goal.returns-clause-comes
returns-clause-comes c = sym (end_taken is_close c.self.inside.text.now c.self.inside.at c.in-Some.end c.args.self.now c.self.invariant c.self.view_is cc).comes_is

pub returns-clause-leaves : goal.returns-clause-leaves
returns-clause-leaves c = (end_taken is_close c.self.inside.text.now c.self.inside.at c.in-Some.end c.args.self.now c.self.invariant c.self.view_is cc).leaves
