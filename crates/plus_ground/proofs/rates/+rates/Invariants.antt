use Rattle.std.proofs.Common.{◌≡◌, ◌++◌, map, take}
use Rattle.std.specs.List.{flat_map}
use Rattle.plus_types.specs.Faults.{problem_context}
use Rattle.plus_state.specs.View.{rate_of}
use Rattle.plus_expansion.specs.Expansion.{rates_meant}
use Rattle.plus_ground.proofs.rates.+rates.Given as goal

abbrev pub decreases-rates : goal.decreases-rates
decreases-rates g l = goal.size-rates g l

-- the rates of the members so far are added
abbrev pub invariant-members : goal.invariant-members
invariant-members g l =
    map (rate_of g.Q.Exact.value) l.into.items
    ≡ map (rate_of g.Q.Exact.value) l.fn.into.items
    ++ flat_map (rates_meant (problem_context l.numbering.typed.now.domain l.numbering.typed.now.problem) l.env) (take l.member-index l.member-items)

-- the rates of the body for the choices so far are added
abbrev pub invariant-choices : goal.invariant-choices
invariant-choices g l =
    map (rate_of g.Q.Exact.value) l.into.items
    ≡ map (rate_of g.Q.Exact.value) l.fn.into.items
    ++ flat_map (λ e. rates_meant (problem_context l.numbering.typed.now.domain l.numbering.typed.now.problem) e l.body.value) (take l.inner-index l.inner-items)
