use Rattle.std.proofs.Common.{sym, arith}
use Rattle.plus_types.proofs.TypesLemmas.{not-two}
use Rattle.plus_types.proofs.effects.are_clock_and_rate.Goals as goal

pub returns-in_default : goal.returns-in_default
returns-in_default c = let h = c.in_default.len_below in sym (not-two c.args.factors.now (λ e. omega arith))

pub returns-in_default-2 : goal.returns-in_default-2
returns-in_default-2 c = let h = c.in_default.len_at_least in sym (not-two c.args.factors.now (λ e. omega arith))
