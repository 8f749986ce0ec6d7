use Rattle.std.proofs.Common.{sym, ◌∙◌}
use Rattle.plus_crossing.proofs.Meeting.{later_pass, never_asks, no_root}
use Rattle.plus_crossing.proofs.roots.root.Goals as goal

pub returns-in_ok-place : goal.returns-in_ok-place
returns-in_ok-place g c = (later_pass _ _ _ _ _ (sym c.if-meets_later.true ∙ c.meets_later.ensures) c.in_ok-place.ensures.0, c.in_ok-place.ensures.1)

pub returns-else-meets_later : goal.returns-else-meets_later
returns-else-meets_later g c = (
  never_asks _ _ _ _ _ (sym c.if-meets_later.false ∙ c.meets_later.ensures),
  λ x h. no_root _ _ _ _ x (sym c.meets_later.ensures ∙ c.if-meets_later.false) h,
)
