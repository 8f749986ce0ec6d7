-- The text of a translated domain in parts: what each old action has of its own, and the two texts that all of them share.
use Rattle.std.specs.Prelude.{ℕ, List, ◌++◌, codes}
use Rattle.std.specs.List.{flat_map}
use Rattle.plus_tree.specs.declared.trees.Schema.{Schema}
use Rattle.plus_tree.specs.declared.trees.Domain.{Domain}
use Rattle.plus_printer.specs.Words.{word, domain_opening, precondition_key, variables_text}
use Rattle.plus_printer.specs.Canon.{cond_text, effect_text, declared_text}
use Rattle.plus_translate_command.specs.declared.printer.own.OldText.{OldText}

-- how the text of a domain opens, up to its actions
unfoldable pub opening_text : Domain → List ℕ
opening_text frame = domain_opening ++ (frame.name.name ++ (word (codes ")\n") ++ declared_text frame))

-- how an old action opens
unfoldable pub heading_text : Schema → List ℕ
heading_text a = word (codes " (:action ") ++ (a.name.name ++ (word (codes " :parameters ") ++ variables_text a.params))

-- an old action up to where it is said that no event holds
unfoldable pub condition_part : Schema → List ℕ
condition_part a = heading_text a ++ (precondition_key ++ (word (codes "(and") ++ (word (codes " ") ++ cond_text a.condition)))

-- and from there up to where the marks go
unfoldable pub effect_part : Schema → List ℕ
effect_part a = word (codes ")") ++ (word (codes " :effect ") ++ (word (codes "(and") ++ (word (codes " ") ++ effect_text a.effect)))

abbrev pub own_parts : Schema → List ℕ × List ℕ
own_parts a = (condition_part a, effect_part a)

abbrev pub parts_of : OldText → List ℕ × List ℕ
parts_of old = (old.condition.items, old.effect.items)

-- an old action by its own parts
abbrev pub woven_old : List ℕ → List ℕ → List ℕ × List ℕ → List ℕ
woven_old none clear own = ((own.0 ++ none) ++ (own.1 ++ clear)) ++ codes "))\n"

-- a text that opens so, then has the old actions with what they share, and ends so
abbrev pub woven : List ℕ → List ℕ → List ℕ → List (List ℕ × List ℕ) → List ℕ → List ℕ
woven opening none clear olds ending = (opening ++ flat_map (woven_old none clear) olds) ++ ending
