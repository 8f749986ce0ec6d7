-- How much room `check` has for the text of a plan, and which plans have it whatever their names; and that it accepts the text.
use Rattle.std.specs.Prelude.{ℕ, ◌≤◌, List, length, All}
use Rattle.plus_tree.specs.declared.trees.Schema.{Schema}
use Rattle.plus_tree.specs.declared.trees.Domain.{Domain}
use Rattle.plus_tree.specs.declared.trees.Problem.{Problem}
use Rattle.laws_found.specs.Text.Written.{HasShortLines}
use Rattle.plus_validator.specs.Accepted.{IsAccepted}
use Rattle.plus_io.specs.Limits.{text_limit}

-- the text is within the length of a text, and each of its lines within that of a line
pub record HasRoom (text : List ℕ) : Type 0 where
  pub within : length text ≤ text_limit
  pub lines : HasShortLines text

-- no action of the domain has more than 61 parameters, so that a line has room for each call
abbrev pub HasFewParameters : Domain → Type 0
HasFewParameters d = All (λ (a : Schema). length a.params ≤ 61) d.actions

-- the text is accepted, with its report, as a plan that may enter so many moments
abbrev pub AcceptsText : Domain → Problem → ℕ → List ℕ → Type 0
AcceptsText d p most text = (bytes : List ℕ) × IsAccepted d p most text bytes
