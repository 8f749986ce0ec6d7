use Rattle.std.proofs.Common.{◌≡◌, ◌∙◌, ap, sym, suc, ◌-◌, arith, ◌||◌, ◌&&◌, true, not, length, ◌+◌}
use Rattle.std.specs.Str.{bytes_eq}
use Rattle.plus_types.specs.Types.{is_among, is_above_within, object_name}
use Rattle.plus_types.proofs.RankLemmas.{ups-first, ups-more, ups-last, ups-end}
use Rattle.plus_types.proofs.types.Types.ups.Goals as goal

pub steps-preserved : goal.steps-preserved
steps-preserved c = λ k.
    let inv = rw (← c.self.view_is) at c.steps.invariant in
    rw (← c.self.view_is) (ups-more c.self.inside.listed c.self.inside.above c.steps.ups c.add_where-in-Some.new.up (c.steps.left - 1) c.steps.left c.args.low.now c.steps.at.now c.in-Some.kind.now k
    c.self.invariant.listed (omega arith) c.in-Some.ensures (inv k) (c.in_ok-add_where-in-Some.ensures k))

pub returns-in-None : goal.returns-in-None
returns-in-None c = λ k.
    let inv = rw (← c.self.view_is) at c.steps.invariant in
    rw (← c.self.view_is) (ups-last c.self.inside.listed c.self.inside.above c.steps.ups (c.steps.left - 1) c.steps.left c.args.low.now c.steps.at.now k
    c.self.invariant.listed (omega arith) c.in-None.ensures (inv k))

pub returns : goal.returns
returns c = λ k.
    let inv = rw (← c.self.view_is) at c.steps.invariant in
    rw (← c.self.view_is) (ups-end c.self.inside.listed c.steps.ups c.steps.left c.args.low.now c.steps.at.now k (omega arith) (inv k))

pub steps-init : goal.steps-init
steps-init c = λ k.
    let listed = c.self.inside.listed in
    let ups = c.add_where-2.new.up in
    let e = c.in_ok-add_where-2.ensures k ∙ ap (λ b. b || (true && bytes_eq k c.args.low.now)) (c.in_ok-add_where.ensures k ∙ ap (λ ns. is_among ns k || (true && bytes_eq k object_name)) c.new-ups.ensures) in
    let n : c.len-left.result + 1 ≡ suc (length listed) = omega (arith, c.len-left.ensures.len) in
    rw (← c.self.view_is) (ups-first listed c.self.inside.above ups c.args.low.now k c.self.invariant.listed e
    ∙ ap (λ m. is_among ups k || (not (bytes_eq k object_name) && is_above_within listed m k c.args.low.now)) (sym n))
