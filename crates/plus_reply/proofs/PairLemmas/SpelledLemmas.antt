-- What is shown of the pair that was read is shown of the two texts that spell it.
use Rattle.std.proofs.Common.{◌≡◌, ℕ, List, [], ◌∷◌, Option, Some, None, refl, rules, IsTrue}
use Rattle.std.specs.Prelude.{IfSome}
use Rattle.plus_tree.specs.declared.trees.Domain.{Domain}
use Rattle.plus_tree.specs.declared.trees.Problem.{Problem}
use Rattle.plus_types.specs.Faults.{type_faults, is_empty, is_well_typed}
use Rattle.plus_typing.proofs.Typed.{well_typed_by_statements}
use Rattle.plus_report.specs.declared.refusals.Early.{Early}
use Rattle.plus_reply.specs.Pair.Pair.{PairRefused, SpellsPair, SpellsWellTyped}
use Rattle.plus_reply.specs.Pair.Reads.{ReadsPair}

none_at_all : {A : Type 0} (xs : List A) → IsTrue (is_empty xs) → xs ≡ []
none_at_all [] w = refl
none_at_all (x ∷ xs) w = absurd (search rules)

-- a pair that two texts spell and in which a walk finds no fault meets the rules
pub well_spelled : (ds ps : List ℕ) (d : Domain) (p : Problem) → SpellsPair ds ps d p → IsTrue (is_well_typed d p) → SpellsWellTyped ds ps d p
well_spelled ds ps d p h w = record { spelled = h; well_typed = (well_typed_by_statements d p).0 (none_at_all (type_faults d p) w) }

-- ---- where the shelf tells both texts, what is shown of the pair read is shown of them
pub on_pair :
    (domain problem : Option (List ℕ)) (d : Domain) (p : Problem) (P : List ℕ → List ℕ → Type 0) → ReadsPair domain problem d p
    → IsTrue (is_well_typed d p) → ((ds ps : List ℕ) → SpellsWellTyped ds ps d p → P ds ps)
    → IfSome domain (λ ds. IfSome problem (λ ps. P ds ps))
on_pair None problem d p P r w f = tt
on_pair (Some ds) None d p P r w f = tt
on_pair (Some ds) (Some ps) d p P r w f =
    f ds ps (well_spelled ds ps d p r w)

pub told :
    (domain problem : Option (List ℕ)) (e : Early) (P : List ℕ → List ℕ → Type 0)
    → IfSome domain (λ ds. IfSome problem (λ ps. PairRefused ds ps e)) → ((ds ps : List ℕ) → PairRefused ds ps e → P ds ps)
    → IfSome domain (λ ds. IfSome problem (λ ps. P ds ps))
told None problem e P h f = tt
told (Some ds) None e P h f = tt
told (Some ds) (Some ps) e P h f = f ds ps h
