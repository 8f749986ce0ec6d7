use Rattle.std.proofs.Common.{◌∙◌, ap, ◌++◌, List, ℕ, codes}
use Rattle.plus_lift.proofs.OverflowLemmas.{line_put}
use Rattle.plus_lift.proofs.line.overflow_line.Goals as goal

pub returns : goal.returns
returns c =
    line_put c.args.overflow.now _ _ _ _ _ c.sign_text.result.now (c.in_ok-extend_from_slice.ensures.items ∙ ap (λ (x : List ℕ). x ++ codes "beyond: number ") c.new-line.ensures.items) c.in_ok-put_fraction.ensures
    c.in_ok-extend_from_slice-2.ensures.items c.sign_text.ensures c.in_ok-put_fraction-2.ensures c.in_ok-push.ensures.items
