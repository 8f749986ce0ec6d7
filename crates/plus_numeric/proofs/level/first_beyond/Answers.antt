use Rattle.std.proofs.Common.{◌≡◌, List, [], ◌∷◌, map, ap, subst}
use Rattle.std.specs.List.{flat_map}
use Rattle.plus_numeric.specs.declared.level.Place.{Place}
use Rattle.plus_numeric.specs.Level.{schema_place, literal_places}
use Rattle.plus_numeric.proofs.LevelLemmas.{first_of_all, first_of_later}
use Rattle.plus_numeric.proofs.level.first_beyond.Goals as goal

pub returns-in-Some : goal.returns-in-Some
returns-in-Some c =
    let d = c.args.typed.now.domain in
    first_of_all (map schema_place d.processes) (map schema_place d.events) (flat_map literal_places c.args.typed.now.problem.init) c.in-Some.place
    (subst (λ xs. (more : List Place) × (map schema_place xs ≡ c.in-Some.place ∷ more)) c.as_slice.ensures c.in-Some.ensures)

pub returns-in-Some-first_schema : goal.returns-in-Some-first_schema
returns-in-Some-first_schema c =
    let d = c.args.typed.now.domain in
    first_of_later (map schema_place d.processes) (map schema_place d.events) (flat_map literal_places c.args.typed.now.problem.init) c.in-Some-first_schema.place
    (subst (λ xs. map schema_place xs ≡ []) c.as_slice.ensures c.in_default.ensures)
    (subst (λ xs. (more : List Place) × (map schema_place xs ≡ c.in-Some-first_schema.place ∷ more)) c.as_slice-2.ensures c.in-Some-first_schema.ensures)
