-- Worked rows of the grammar.
use Rattle.std.specs.Prelude.{◌≡◌, ℕ, ◌+◌, List, [], ◌∷◌, length, codes}
use Prim.Native.String.{String}
use Rattle.plus_tokens.specs.declared.token.Kind.TheVariants as kinds
use Rattle.plus_tokens.specs.declared.token.Op.TheVariants as ops
use Rattle.plus_tokens.specs.declared.span.Span.{Span}
use Rattle.plus_tree.specs.declared.names.Spelled.{Spelled}
use Rattle.plus_tree.specs.declared.terms.TypedName.{TypedName}
use Rattle.plus_tree.specs.declared.trees.Schema.{Schema}
use Rattle.plus_tree.specs.declared.trees.Domain.{Domain}
use Rattle.plus_tree.specs.declared.trees.Problem.{Problem}
use Rattle.plus_tree.specs.Cond.{Cond, c_all, no_conds}
use Rattle.plus_tree.specs.Effect.{e_all, no_effects}
use Rattle.plus_parser.specs.declared.phrases.words.Allowed.TheVariants.{Names}
use Rattle.plus_tokens.specs.Items.{Piece}
use Rattle.plus_parser.specs.Phrases.Grammar.{nowhere, spelled_of, of_type, object_type}
use Rattle.plus_parser.specs.SpellsDomain.{k_parameters, k_condition, d_types, d_action}
use Rattle.plus_parser.specs.SpellsProblem.{p_domain, p_init, p_goal, p_metric}
use Rattle.plus_grammar.specs.Groups.{IsList}
use Rattle.plus_grammar.specs.Counts.{HasKeys, HasSections, HasSectionsOfProblem}

-- ---- tokens, each with the offset where it begins

abbrev pub place : ℕ → List ℕ → Span
place from word = record { start = from; «end» = from + length word }

abbrev pub name : ℕ → String → Piece
name from word = record { kind = kinds.Name; word = codes word; span = place from (codes word) }

abbrev pub minus : ℕ → Piece
minus from = record { kind = kinds.Op ops.Minus; word = codes "-"; span = place from (codes "-") }

-- ---- lists

-- `a b - ship c - port d`
abbrev pub three_kinds : List Piece
three_kinds = name 0 "a" ∷ name 2 "b" ∷ minus 4 ∷ name 6 "ship" ∷ name 11 "c" ∷ minus 13 ∷ name 15 "port" ∷ name 20 "d" ∷ []

-- two ships, a port, and an object
abbrev pub four_names : List TypedName
four_names =
    of_type (spelled_of (name 6 "ship")) (spelled_of (name 0 "a")) ∷ of_type (spelled_of (name 6 "ship")) (spelled_of (name 2 "b"))
    ∷ of_type (spelled_of (name 15 "port")) (spelled_of (name 11 "c")) ∷ of_type object_type (spelled_of (name 20 "d")) ∷ []

pub record ListRows : Type 0 where
  pub grouped : IsList Names four_names three_kinds
  pub nothing : IsList Names [] []
  -- `- ship`
  pub type_alone : (xs : List TypedName) → IsList Names xs (minus 0 ∷ name 2 "ship" ∷ []) → ⊥

-- ---- counts

-- a schema of which no key is written
abbrev pub bare_schema : Schema
bare_schema = record {
  name = spelled_of (name 0 "wait");
  params = [];
  condition = c_all no_conds nowhere;
  effect = e_all no_effects nowhere;
  span = nowhere;
}

pub record CountRows : Type 0 where
  pub no_key : HasKeys [] bare_schema
  pub any_order :
      (vs : List TypedName) (c : Cond) (s : Schema) → HasKeys (k_condition c ∷ k_parameters vs ∷ []) s → HasKeys (k_parameters vs ∷ k_condition c ∷ []) s
  -- no schema has a key twice
  pub key_twice : (vs : List TypedName) (s : Schema) → HasKeys (k_parameters vs ∷ k_parameters vs ∷ []) s → ⊥
  -- no domain has a section twice, but it may have two actions, whatever stands between them
  pub section_twice : (d : Domain) → HasSections (d_types [] ∷ d_types [] ∷ []) d → ⊥
  pub two_actions : (a b : Schema) (d : Domain) → HasSections (d_action a ∷ d_types [] ∷ d_action b ∷ []) d → d.actions ≡ a ∷ b ∷ []
  -- no problem is without a goal, and none has two metrics
  pub no_goal : (x : Spelled) (p : Problem) → HasSectionsOfProblem (p_domain x ∷ p_init [] ∷ []) p → ⊥
  pub two_metrics : (x : Spelled) (c : Cond) (p : Problem) → HasSectionsOfProblem (p_metric ∷ p_domain x ∷ p_init [] ∷ p_goal c ∷ p_metric ∷ []) p → ⊥
