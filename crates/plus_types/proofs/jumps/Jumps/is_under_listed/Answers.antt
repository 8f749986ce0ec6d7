use Rattle.std.proofs.Common.{◌≡◌, ◌≤◌, ◌∙◌, ℕ, ap, subst, get_or, arith}
use Rattle.plus_types.specs.Types.{bound_kinds}
use Rattle.plus_types.specs.Jumps.{AreAlike}
use Rattle.plus_types.proofs.JumpLemmas.{reached-listed}
use Rattle.plus_types.proofs.jumps.Jumps.is_under_listed.Goals as goal

pub returns-then-at-len : goal.returns-then-at-len
returns-then-at-len c =
    let types = c.args.listed.now in
    let depths = c.args.self.now.depths.items in
    let e : c.depth_at.result ≡ get_or depths c.args.end 0 = c.depth_at.ensures ∙ ap (λ ds. get_or ds c.args.end 0) c.as_slice.ensures.value in
    let low : get_or depths c.in-Some.at 0 ≤ get_or depths c.args.end 0 = omega (arith, c.in-Some.ensures.depth, e) in
    let P : ℕ → Type 0 = λ m. AreAlike types depths m c.args.start c.in-Some.at in
    reached-listed types (bound_kinds types) depths c.args.start c.in-Some.at c.args.end c.requires.jumps.listed c.requires.jumps.depths
    (omega (arith, c.if-at-len.true, c.len.ensures.len)) c.requires.end c.requires.high low (subst P e (c.in-Some.ensures.alike types c.requires.jumps.steps))
