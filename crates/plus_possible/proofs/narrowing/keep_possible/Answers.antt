use Rattle.std.proofs.Common.{rules, ap, map, ◌∙◌}
use Rattle.std.proofs.lemmas.Fn.{filter_same}
use Rattle.plus_state.specs.View.{condition_of, action_of}
use Rattle.plus_possible.specs.Possible.{may_by, may_hold}
use Rattle.plus_possible.proofs.MayLemmas.{map_kept}
use Rattle.plus_possible.proofs.narrowing.keep_possible.Goals as goal

pub returns : goal.returns
returns g c =
    let v = g.Q.Exact.value in
    let may = may_by c.args.marks.now c.args.initial.now in
    ap (map (action_of v)) (filter_same _ (λ a. may_hold may (condition_of v a.condition)) _ (λ x b f' k. search rules) _ _ c.retain.ensures.filtered)
    ∙ map_kept (action_of v) (λ x. may_hold may x.condition) c.args.actions.now.items
