-- The rows of the rules: what a fault names is broken, and a pair without faults obeys all.
use Rattle.std.proofs.Common.{◌≡◌, List, [], ◌∷◌, refl, All}
use Rattle.plus_tokens.specs.declared.span.Span.{Span}
use Rattle.plus_tree.specs.declared.trees.Domain.{Domain}
use Rattle.plus_tree.specs.declared.trees.Problem.{Problem}
use Rattle.plus_types.specs.declared.faults.File.{File}
use Rattle.plus_types.specs.declared.faults.File.TheVariants as files
use Rattle.plus_types.specs.declared.faults.Wrong.{Wrong}
use Rattle.plus_types.specs.declared.faults.Wrong.TheVariants.{UnknownName, WrongType, Twice, TypeLoop, RateForm}
use Rattle.plus_types.specs.declared.faults.TypeFault.{TypeFault}
use Rattle.plus_types.specs.declared.faults.TypeFault.TheVariants.{At}
use Rattle.plus_types.specs.Types.{is_above_within, is_above, is_under}
use Rattle.plus_types.specs.Faults.{listed_faults, member_faults, head_faults, leaf_faults, schema_faults, declaration_faults, rule_faults, state_faults, problem_faults, type_faults}
use Rattle.plus_typing.specs.Worked.Words.{name_at, form_at}
use Rattle.plus_typing.specs.Laws.{NamesBroken}
use Rattle.plus_typing.specs.Rows.{Breaks, RuleRows, busy_depot, busy_day}
use Rattle.plus_typing.proofs.Typed.{well_typed_by_statements, faults_name_rules}
use Rattle.std.proofs.lemmas.List.Elements.{All-head}
use Rattle.std.proofs.Common.{subst}

-- the first fault names a broken rule
pub first : (d : Domain) (p : Problem) (w : Wrong) (f : File) (s : Span) (more : List TypeFault) → type_faults d p ≡ At w f s ∷ more → Breaks w d p
first d p w f s more e = record { broken = All-head (NamesBroken d p) (At w f s) more (subst (All (NamesBroken d p)) e (faults_name_rules d p)) }

pub rule_rows : RuleRows
unfolding is_above_within is_above is_under listed_faults member_faults head_faults leaf_faults schema_faults declaration_faults rule_faults state_faults problem_faults
rule_rows = record {
  well_typed = (well_typed_by_statements busy_depot busy_day).0 refl;
  twice = first _ _ Twice files.Domain (name_at 12) [] refl;
  valued_twice = first _ _ Twice files.Problem (form_at 69) [] refl;
  type_loop = first _ _ TypeLoop files.Domain (name_at 10) (At TypeLoop files.Domain (name_at 12) ∷ []) refl;
  unknown_object = first _ _ UnknownName files.Problem (name_at 52) [] refl;
  wrong_type = first _ _ WrongType files.Problem (name_at 52) [] refl;
  no_rate = first _ _ RateForm files.Domain (form_at 70) [] refl;
  guarded_rate = first _ _ RateForm files.Domain (form_at 63) [] refl;
}
