use Rattle.std.proofs.Common.{List, [], ◌∷◌, ◌++◌, ap, refl, ◌∙◌}
use Rattle.plus_number.specs.declared.frac.Frac64.{Frac64}
use Rattle.plus_number.specs.Frac.{fraction_of}
use Rattle.plus_state.specs.declared.term.Cond.{All}
use Rattle.plus_state.specs.declared.term.Effect.{Effect}
use Rattle.tests_high.proofs.RowLemmas.{one_effect_fits}
use Rattle.tests_high.proofs.stepped.writes.Goals as goal

pub returns : goal.returns
returns c =
    let effect : Effect Frac64 = record { guard = All c.new.result; write = c.args.write } in
    one_effect_fits fraction_of c.new.result effect c.push.new.self.items refl c.new.ensures.items c.requires
    (c.in_ok-push.ensures.items ∙ ap (λ (xs : List (Effect Frac64)). xs ++ effect ∷ []) c.new-effects.ensures.items)
