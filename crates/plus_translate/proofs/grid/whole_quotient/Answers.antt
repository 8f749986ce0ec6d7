use Rattle.std.proofs.Common.{arith}
use Rattle.plus_translate.proofs.QuotientLemmas.{so_many_times, bottom_divides, no_top, no_more, no_more_steps}
use Rattle.plus_translate.proofs.grid.whole_quotient.Goals as goal

pub returns-then-top-step_top-ne0 : goal.returns-then-top-step_top-ne0
returns-then-top-step_top-ne0 c k h e =
    let t = rw c.from-step_top.ensures at c.if-top-step_top-ne0.true in
    no_top c.args.top c.args.bottom c.args.step_top c.args.step_bottom k c.requires.step_top c.requires.step_reduced t e

pub returns-then-step_bottom-bottom-ne0 : goal.returns-then-step_bottom-bottom-ne0
returns-then-step_bottom-bottom-ne0 c k h e =
    let b = rw c.from-step_bottom.ensures at c.if-step_bottom-bottom-ne0.true in
    b (bottom_divides c.args.top c.args.bottom c.args.step_top c.args.step_bottom k c.requires.reduced c.requires.step_bottom e)

pub returns-then-times-gt-MOST_STEPS : goal.returns-then-times-gt-MOST_STEPS
returns-then-times-gt-MOST_STEPS c k h e =
    let t = rw c.from-step_top.ensures at c.if-top-step_top-ne0.false in
    let b = rw c.from-step_bottom.ensures at c.if-step_bottom-bottom-ne0.false in
    let big = rw c.from-step_top.ensures at c.if-times-gt-MOST_STEPS.true in
    no_more c.args.top c.args.bottom c.args.step_top c.args.step_bottom k c.requires.bottom c.requires.step_top c.requires.step_bottom t b big h e

pub returns-then-steps-gt-MOST_STEPS : goal.returns-then-steps-gt-MOST_STEPS
returns-then-steps-gt-MOST_STEPS c k h e =
    let t = rw c.from-step_top.ensures at c.if-top-step_top-ne0.false in
    let b = rw c.from-step_bottom.ensures at c.if-step_bottom-bottom-ne0.false in
    let big = rw (c.from-step_top.ensures, c.from-step_bottom.ensures) at c.if-steps-gt-MOST_STEPS.true in
    no_more_steps c.args.top c.args.bottom c.args.step_top c.args.step_bottom k c.requires.bottom c.requires.step_top t b big h e

pub returns : goal.returns
returns c =
    let t = rw c.from-step_top.ensures at c.if-top-step_top-ne0.false in
    let b = rw c.from-step_bottom.ensures at c.if-step_bottom-bottom-ne0.false in
    let few = c.if-steps-gt-MOST_STEPS.false in
    (omega (arith, few), rw (c.from-step_top.ensures, c.from-step_bottom.ensures) (so_many_times c.args.top c.args.bottom c.args.step_top c.args.step_bottom t b))
