-- Parts that are there only where a literal comes after time 0.
use Rattle.std.specs.Prelude.{◌≡◌, Bool, true, false, List, [], ◌∷◌, ◌++◌, map, filter, if◌then◌else◌}
use Rattle.std.specs.List.{list_any}
use Rattle.std.proofs.Common.{ap, sym, ◌∙◌, append-nil, append_assoc}
use Rattle.plus_tree.specs.declared.names.Spelled.{Spelled}
use Rattle.plus_tree.specs.declared.terms.TypedName.{TypedName}
use Rattle.plus_tree.specs.declared.terms.Literal.{Literal}
use Rattle.plus_tree.specs.declared.terms.Use.{Use}
use Rattle.plus_tree.specs.declared.trees.Domain.{Domain}
use Rattle.plus_tree.specs.declared.trees.Problem.{Problem}
use Rattle.plus_tree.specs.declared.trees.Head.{Head}
use Rattle.plus_tree.specs.declared.trees.Init.{Init}
use Rattle.plus_tree.specs.declared.trees.Init.TheVariants.{Holds, Value}
use Rattle.plus_tree.specs.declared.trees.LeafNode.TheVariants.{Increase}
use Rattle.plus_tree.specs.Expr.{x_number}
use Rattle.plus_translation.specs.Renamed.{nowhere, spelled}
use Rattle.plus_translation.specs.Translated.{Due, natural, writes, leaf, clock_use, is_later, due_effect, clock_effects, set_at_once, cleared_at_once, stays_in_init, init_translated}
use Rattle.plus_translate.specs.Parts.{constants_of, functions_of, beginning_of, clock_start}
use Rattle.std.specs.Prelude.{codes}

chosen : {A : Type 0} (b : Bool) (xs ys : List A) → b ≡ true → (if b then xs else ys) ≡ xs
chosen b xs ys e = ap (λ c. if c then xs else ys) e

other : {A : Type 0} (b : Bool) (xs ys : List A) → b ≡ false → (if b then xs else ys) ≡ ys
other b xs ys e = ap (λ c. if c then xs else ys) e

pub functions_none : (due : List Due) (heads : List Head) → list_any is_later due ≡ false → functions_of due heads ≡ heads
functions_none due heads e = ap (λ xs. heads ++ xs) (other (list_any is_later due) _ [] e) ∙ append-nil heads

pub functions_some : (due : List Due) (heads : List Head) → list_any is_later due ≡ true
    → functions_of due heads ≡ heads ++ record { name = spelled (codes "pp-clock"); params = []; span = nowhere } ∷ []
functions_some due heads e = ap (λ xs. heads ++ xs) (chosen (list_any is_later due) _ [] e)

pub functions_done : (due : List Due) (start old copied new : List Head) (name : Spelled) (params : List TypedName) → list_any is_later due ≡ true → start ≡ []
    → copied ≡ start ++ old → name ≡ spelled (codes "pp-clock") → params ≡ [] → new ≡ copied ++ record { name = name; params = params; span = nowhere } ∷ [] → new ≡ functions_of due old
functions_done due start old copied new name params e s c n p h =
    h ∙ ap (λ x. copied ++ record { name = x; params = params; span = nowhere } ∷ []) n
    ∙ ap (λ x. copied ++ record { name = spelled (codes "pp-clock"); params = x; span = nowhere } ∷ []) p
    ∙ ap (λ xs. xs ++ record { name = spelled (codes "pp-clock"); params = []; span = nowhere } ∷ []) (c ∙ ap (λ xs. xs ++ old) s)
    ∙ sym (functions_some due old e)

pub ruleset clocked = (functions_none, functions_some)

pub constants_none : (due : List Due) (d : Domain) (p : Problem) → list_any is_later due ≡ false → constants_of due d p ≡ d.constants
constants_none due d p e = ap (λ xs. d.constants ++ xs) (other (list_any is_later due) _ [] e) ∙ append-nil d.constants

pub constants_some : (due : List Due) (d : Domain) (p : Problem) → list_any is_later due ≡ true → constants_of due d p ≡ d.constants ++ p.objects
constants_some due d p e = ap (λ xs. d.constants ++ xs) (chosen (list_any is_later due) _ [] e)

pub ruleset named = (constants_none, constants_some)

pub clock_none : (due : List Due) → list_any is_later due ≡ false → clock_effects due ≡ []
clock_none due e = other (list_any is_later due) _ [] e

pub clock_some : (due : List Due) → list_any is_later due ≡ true
    → clock_effects due ≡ writes (leaf (Increase clock_use (x_number (natural 1) nowhere))) ∷ map due_effect (filter is_later due)
clock_some due e = chosen (list_any is_later due) _ [] e

pub ruleset ticking = (clock_none, clock_some, append-nil, append_assoc)

pub start_none : (due : List Due) → list_any is_later due ≡ false → clock_start due ≡ []
start_none due e = other (list_any is_later due) _ [] e

pub start_some : (due : List Due) → list_any is_later due ≡ true → clock_start due ≡ Value clock_use (natural 0) nowhere ∷ []
start_some due e = chosen (list_any is_later due) _ [] e

pub ruleset starting = (start_none, start_some, append-nil)

-- the initial state with its clock, put piece by piece
pub init_parts : (due : List Due) (init : List Init) → beginning_of due init ++ clock_start due ≡ init_translated due init
init_parts due init =
    append_assoc (filter (stays_in_init (set_at_once [] due) (cleared_at_once due)) init) (map Holds (set_at_once [] due)) (clock_start due)

pub ruleset beginning = (init_parts, append_assoc)
