use Rattle.std.proofs.Common.{◌≡◌, ◌∙◌, ap, sym, suc, ◌-◌, arith, ◌||◌}
use Rattle.std.specs.List.{list_any}
use Rattle.plus_types.specs.Types.{bindings_of, is_above_within}
use Rattle.plus_types.proofs.TypesLemmas.{above-is, level-up, none-within, none-of-none}
use Rattle.plus_types.proofs.types.is_above_itself.Goals as goal

pub returns-then-contains : goal.returns-then-contains
returns-then-contains c =
    let bs = bindings_of c.args.types.now in
    let n : c.levels.left ≡ suc (c.levels.left - 1) = omega arith in
    sym (above-is bs c.args.name.now c.args.name.now ∙ c.levels.invariant ∙ ap (λ m. list_any (λ low. is_above_within bs m c.args.name.now low) c.levels.level) n
    ∙ level-up bs (c.levels.left - 1) c.args.name.now c.levels.level c.in_ok-level.level c.in_ok-level.ensures
    ∙ ap (λ b. b || list_any (λ low. is_above_within bs (c.levels.left - 1) c.args.name.now low) c.in_ok-level.level) (sym c.contains.ensures ∙ c.if-contains.true))

pub levels-preserved : goal.levels-preserved
levels-preserved c =
    let bs = bindings_of c.args.types.now in
    let n : c.levels.left ≡ suc (c.levels.left - 1) = omega arith in
    c.levels.invariant ∙ ap (λ m. list_any (λ low. is_above_within bs m c.args.name.now low) c.levels.level) n
    ∙ level-up bs (c.levels.left - 1) c.args.name.now c.levels.level c.in_ok-level.level c.in_ok-level.ensures
    ∙ ap (λ b. b || list_any (λ low. is_above_within bs (c.levels.left - 1) c.args.name.now low) c.in_ok-level.level) (sym c.contains.ensures ∙ c.if-contains.false)

pub returns : goal.returns
returns c =
    let bs = bindings_of c.args.types.now in
    let z : c.levels.left ≡ 0 = omega arith in
    sym (above-is bs c.args.name.now c.args.name.now ∙ c.levels.invariant ∙ ap (λ m. list_any (λ low. is_above_within bs m c.args.name.now low) c.levels.level) z
    ∙ none-within bs c.args.name.now c.levels.level)

pub returns-then-is_empty : goal.returns-then-is_empty
returns-then-is_empty c =
    let bs = bindings_of c.args.types.now in
    sym (above-is bs c.args.name.now c.args.name.now ∙ c.levels.invariant ∙ none-of-none (λ low. is_above_within bs c.levels.left c.args.name.now low) c.levels.level (sym c.is_empty.ensures ∙ c.if-is_empty.true))
