-- No rule follows from the others: each of these pairs differs from one that obeys all by what breaks the rule.
use Rattle.std.proofs.Common.{◌≡◌, ℕ, List, [], ◌∷◌, refl, zip}
use Rattle.std.specs.Str.{bytes_eq}
use Rattle.std.proofs.lemmas.List.Elements.{All-nil, All-from_recursion}
use Rattle.std.proofs.lemmas.Slice.Eq.{bytes_eq-Decides}
use Rattle.plus_tree.specs.declared.terms.Term.{Term}
use Rattle.plus_tree.specs.declared.terms.Comparison.TheVariants.{AtLeast}
use Rattle.plus_tree.specs.declared.trees.Domain.{Domain}
use Rattle.plus_tree.specs.declared.trees.Problem.{Problem}
use Rattle.plus_tree.specs.Cond.{c_compare}
use Rattle.plus_types.specs.declared.faults.File.TheVariants as files
use Rattle.plus_types.specs.declared.faults.Wrong.{Wrong}
use Rattle.plus_types.specs.declared.faults.Wrong.TheVariants.{UnknownType, UnknownName, Arity, WrongType, Twice, Unbound, Shadowed, TypeLoop, RateForm, DomainName}
use Rattle.plus_types.specs.Types.{is_above_within, is_above, is_under, names_of, bindings_of}
use Rattle.plus_types.specs.Faults.{listed_faults, member_faults, head_faults, leaf_faults, schema_faults, declaration_faults, rule_faults, state_faults, problem_faults, type_faults, same_names}
use Rattle.plus_typing.specs.Worked.Words.{name_at, form_at, word, typed, untyped, the, var, number, clock, atom, both, some, every, bare, problem, any_problem}
use Rattle.plus_typing.specs.Forms.{Standing, all_uses, all_terms, all_lists, in_problem}
use Rattle.plus_typing.specs.WellTyped.{Rule, AllDiffer, NamesOnce, HasType, HasTypes, IsDeclared, IsObject, IsBound, IsCounted, Fits, FitsParameter}
use Rattle.plus_typing.specs.Rows.{BreaksOnly, AloneRows, idlers, one_type, one_predicate, one_object}
use Rattle.plus_typing.proofs.Lists.{Fresh, fresh_differ, names_decide}
use Rattle.plus_typing.proofs.Typed.{well_typed_by_statements, each_rule}
use Rattle.plus_typing.proofs.RulesRows.{first}

abbrev IsObjectAt : Standing Term → Type 0
IsObjectAt t = IsObject t.place t.form

abbrev IsBoundAt : Standing Term → Type 0
IsBoundAt t = IsBound t.place t.form

differ : (xs : List (List ℕ)) → Fresh bytes_eq bytes_eq-Decides [] xs → AllDiffer xs
differ xs f = fresh_differ bytes_eq bytes_eq-Decides xs f

-- a pair without faults obeys the rule
obeys : (d : Domain) (p : Problem) → type_faults d p ≡ [] → (v : Wrong) → Rule v d p
obeys d p e v = each_rule d p ((well_typed_by_statements d p).0 e) v

abbrev domain_name_domain : Domain
domain_name_domain = bare

abbrev domain_name_problem : Problem
domain_name_problem = record any_problem { domain = word 33 "e" }

domain_name_model : (v : Wrong) → Rule v bare any_problem
unfolding is_above_within is_above is_under listed_faults member_faults head_faults leaf_faults schema_faults declaration_faults rule_faults state_faults problem_faults
domain_name_model v = obeys bare any_problem refl v

domain_name_others : (v : Wrong) → (v ≡ DomainName → ⊥) → Rule v domain_name_domain domain_name_problem
domain_name_others UnknownType n = record { objects = (domain_name_model UnknownType).objects; variables = (domain_name_model UnknownType).variables }
domain_name_others UnknownName n = record { uses = (domain_name_model UnknownName).uses; objects = (domain_name_model UnknownName).objects }
domain_name_others Arity n = domain_name_model Arity
domain_name_others WrongType n = domain_name_model WrongType
domain_name_others Twice n = record { types = (domain_name_model Twice).types; objects = (domain_name_model Twice).objects; predicates = (domain_name_model Twice).predicates; functions = (domain_name_model Twice).functions; actions = (domain_name_model Twice).actions; processes = (domain_name_model Twice).processes; events = (domain_name_model Twice).events; variables = (domain_name_model Twice).variables; values = (domain_name_model Twice).values }
domain_name_others Unbound n = domain_name_model Unbound
domain_name_others Shadowed n = domain_name_model Shadowed
domain_name_others TypeLoop n = domain_name_model TypeLoop
domain_name_others RateForm n = record { clocks = (domain_name_model RateForm).clocks; rates = (domain_name_model RateForm).rates; always = (domain_name_model RateForm).always }
domain_name_others DomainName n = absurd (n refl)

domain_name : BreaksOnly DomainName domain_name_domain domain_name_problem
unfolding is_above_within is_above is_under listed_faults member_faults head_faults leaf_faults schema_faults declaration_faults rule_faults state_faults problem_faults
domain_name = record { broken = (first domain_name_domain domain_name_problem DomainName files.Problem (name_at 33) [] refl).broken; others = domain_name_others }

abbrev rate_form_domain : Domain
rate_form_domain = bare

abbrev rate_form_problem : Problem
rate_form_problem = problem [] [] (c_compare AtLeast (clock 50) (number 53 0) (form_at 49))

rate_form_model : (v : Wrong) → Rule v bare any_problem
unfolding is_above_within is_above is_under listed_faults member_faults head_faults leaf_faults schema_faults declaration_faults rule_faults state_faults problem_faults
rate_form_model v = obeys bare any_problem refl v

rate_form_others : (v : Wrong) → (v ≡ RateForm → ⊥) → Rule v rate_form_domain rate_form_problem
rate_form_others UnknownType n = record { objects = (rate_form_model UnknownType).objects; variables = (rate_form_model UnknownType).variables }
rate_form_others UnknownName n = record { uses = (rate_form_model UnknownName).uses; objects = (rate_form_model UnknownName).objects }
rate_form_others Arity n = rate_form_model Arity
rate_form_others WrongType n = rate_form_model WrongType
rate_form_others Twice n = record { types = (rate_form_model Twice).types; objects = (rate_form_model Twice).objects; predicates = (rate_form_model Twice).predicates; functions = (rate_form_model Twice).functions; actions = (rate_form_model Twice).actions; processes = (rate_form_model Twice).processes; events = (rate_form_model Twice).events; variables = (rate_form_model Twice).variables; values = (rate_form_model Twice).values }
rate_form_others Unbound n = rate_form_model Unbound
rate_form_others Shadowed n = rate_form_model Shadowed
rate_form_others TypeLoop n = rate_form_model TypeLoop
rate_form_others RateForm n = absurd (n refl)
rate_form_others DomainName n = rate_form_model DomainName

rate_form : BreaksOnly RateForm rate_form_domain rate_form_problem
unfolding is_above_within is_above is_under listed_faults member_faults head_faults leaf_faults schema_faults declaration_faults rule_faults state_faults problem_faults
rate_form = record { broken = (first rate_form_domain rate_form_problem RateForm files.Problem (name_at 50) [] refl).broken; others = rate_form_others }

abbrev twice_domain : Domain
twice_domain = idlers "wait" "wait"

abbrev twice_problem : Problem
twice_problem = any_problem

twice_model : (v : Wrong) → Rule v (idlers "wait" "stay") any_problem
unfolding is_above_within is_above is_under listed_faults member_faults head_faults leaf_faults schema_faults declaration_faults rule_faults state_faults problem_faults
twice_model v = obeys (idlers "wait" "stay") any_problem refl v

twice_others : (v : Wrong) → (v ≡ Twice → ⊥) → Rule v twice_domain twice_problem
twice_others UnknownType n = record { objects = (twice_model UnknownType).objects; variables = (twice_model UnknownType).variables }
twice_others UnknownName n = record { uses = (twice_model UnknownName).uses; objects = (twice_model UnknownName).objects }
twice_others Arity n = twice_model Arity
twice_others WrongType n = twice_model WrongType
twice_others Twice n = absurd (n refl)
twice_others Unbound n = twice_model Unbound
twice_others Shadowed n = twice_model Shadowed
twice_others TypeLoop n = twice_model TypeLoop
twice_others RateForm n = record { clocks = (twice_model RateForm).clocks; rates = (twice_model RateForm).rates; always = (twice_model RateForm).always }
twice_others DomainName n = twice_model DomainName

twice : BreaksOnly Twice twice_domain twice_problem
unfolding is_above_within is_above is_under listed_faults member_faults head_faults leaf_faults schema_faults declaration_faults rule_faults state_faults problem_faults
twice = record { broken = (first twice_domain twice_problem Twice files.Domain (name_at 70) [] refl).broken; others = twice_others }

abbrev unknown_type_domain : Domain
unknown_type_domain = bare

abbrev unknown_type_problem : Problem
unknown_type_problem = one_object "van" (both [])

unknown_type_model : (v : Wrong) → Rule v bare (one_object "object" (both []))
unfolding is_above_within is_above is_under listed_faults member_faults head_faults leaf_faults schema_faults declaration_faults rule_faults state_faults problem_faults
unknown_type_model v = obeys bare (one_object "object" (both [])) refl v

unknown_type_others : (v : Wrong) → (v ≡ UnknownType → ⊥) → Rule v unknown_type_domain unknown_type_problem
unknown_type_others UnknownType n = absurd (n refl)
unknown_type_others UnknownName n = record { uses = (unknown_type_model UnknownName).uses; objects = (unknown_type_model UnknownName).objects }
unknown_type_others Arity n = unknown_type_model Arity
unknown_type_others WrongType n = unknown_type_model WrongType
unknown_type_others Twice n = record { types = (unknown_type_model Twice).types; objects = (unknown_type_model Twice).objects; predicates = (unknown_type_model Twice).predicates; functions = (unknown_type_model Twice).functions; actions = (unknown_type_model Twice).actions; processes = (unknown_type_model Twice).processes; events = (unknown_type_model Twice).events; variables = (unknown_type_model Twice).variables; values = (unknown_type_model Twice).values }
unknown_type_others Unbound n = unknown_type_model Unbound
unknown_type_others Shadowed n = unknown_type_model Shadowed
unknown_type_others TypeLoop n = unknown_type_model TypeLoop
unknown_type_others RateForm n = record { clocks = (unknown_type_model RateForm).clocks; rates = (unknown_type_model RateForm).rates; always = (unknown_type_model RateForm).always }
unknown_type_others DomainName n = unknown_type_model DomainName

unknown_type : BreaksOnly UnknownType unknown_type_domain unknown_type_problem
unfolding is_above_within is_above is_under listed_faults member_faults head_faults leaf_faults schema_faults declaration_faults rule_faults state_faults problem_faults
unknown_type = record { broken = (first unknown_type_domain unknown_type_problem UnknownType files.Problem (name_at 41) [] refl).broken; others = unknown_type_others }

abbrev type_loop_domain : Domain
type_loop_domain = one_type "van"

abbrev type_loop_problem : Problem
type_loop_problem = any_problem

type_loop_model : (v : Wrong) → Rule v (one_type "object") any_problem
unfolding is_above_within is_above is_under listed_faults member_faults head_faults leaf_faults schema_faults declaration_faults rule_faults state_faults problem_faults
type_loop_model v = obeys (one_type "object") any_problem refl v

type_loop_others : (v : Wrong) → (v ≡ TypeLoop → ⊥) → Rule v type_loop_domain type_loop_problem
type_loop_others UnknownType n = record { objects = All-nil (HasType (bindings_of (one_type "van").types)); variables = All-nil HasTypes }
type_loop_others UnknownName n = record { uses = (type_loop_model UnknownName).uses; objects = (type_loop_model UnknownName).objects }
type_loop_others Arity n = type_loop_model Arity
type_loop_others WrongType n = type_loop_model WrongType
type_loop_others Twice n = record { types = (type_loop_model Twice).types; objects = (type_loop_model Twice).objects; predicates = (type_loop_model Twice).predicates; functions = (type_loop_model Twice).functions; actions = (type_loop_model Twice).actions; processes = (type_loop_model Twice).processes; events = (type_loop_model Twice).events; variables = (type_loop_model Twice).variables; values = (type_loop_model Twice).values }
type_loop_others Unbound n = type_loop_model Unbound
type_loop_others Shadowed n = type_loop_model Shadowed
type_loop_others TypeLoop n = absurd (n refl)
type_loop_others RateForm n = record { clocks = (type_loop_model RateForm).clocks; rates = (type_loop_model RateForm).rates; always = (type_loop_model RateForm).always }
type_loop_others DomainName n = type_loop_model DomainName

type_loop : BreaksOnly TypeLoop type_loop_domain type_loop_problem
unfolding is_above_within is_above is_under listed_faults member_faults head_faults leaf_faults schema_faults declaration_faults rule_faults state_faults problem_faults
type_loop = record { broken = (first type_loop_domain type_loop_problem TypeLoop files.Domain (name_at 10) [] refl).broken; others = type_loop_others }

abbrev unknown_name_domain : Domain
unknown_name_domain = bare

abbrev unknown_name_problem : Problem
unknown_name_problem = problem [] [] (atom 50 "p" [])

unknown_name_model : (v : Wrong) → Rule v bare any_problem
unfolding is_above_within is_above is_under listed_faults member_faults head_faults leaf_faults schema_faults declaration_faults rule_faults state_faults problem_faults
unknown_name_model v = obeys bare any_problem refl v

unknown_name_others : (v : Wrong) → (v ≡ UnknownName → ⊥) → Rule v unknown_name_domain unknown_name_problem
unknown_name_others UnknownType n = record { objects = (unknown_name_model UnknownType).objects; variables = (unknown_name_model UnknownType).variables }
unknown_name_others UnknownName n = absurd (n refl)
unknown_name_others Arity n = All-from_recursion IsCounted (all_uses unknown_name_domain unknown_name_problem) (tt, tt)
unknown_name_others WrongType n = All-from_recursion Fits (all_uses unknown_name_domain unknown_name_problem) (tt, tt)
unknown_name_others Twice n = record { types = (unknown_name_model Twice).types; objects = (unknown_name_model Twice).objects; predicates = (unknown_name_model Twice).predicates; functions = (unknown_name_model Twice).functions; actions = (unknown_name_model Twice).actions; processes = (unknown_name_model Twice).processes; events = (unknown_name_model Twice).events; variables = (unknown_name_model Twice).variables; values = (unknown_name_model Twice).values }
unknown_name_others Unbound n = unknown_name_model Unbound
unknown_name_others Shadowed n = unknown_name_model Shadowed
unknown_name_others TypeLoop n = unknown_name_model TypeLoop
unknown_name_others RateForm n = record { clocks = (unknown_name_model RateForm).clocks; rates = (unknown_name_model RateForm).rates; always = (unknown_name_model RateForm).always }
unknown_name_others DomainName n = unknown_name_model DomainName

unknown_name : BreaksOnly UnknownName unknown_name_domain unknown_name_problem
unfolding is_above_within is_above is_under listed_faults member_faults head_faults leaf_faults schema_faults declaration_faults rule_faults state_faults problem_faults
unknown_name = record { broken = (first unknown_name_domain unknown_name_problem UnknownName files.Problem (name_at 51) [] refl).broken; others = unknown_name_others }

abbrev unbound_domain : Domain
unbound_domain = one_predicate "object"

abbrev unbound_problem : Problem
unbound_problem = one_object "object" (atom 50 "p" (var 52 "z" ∷ []))

unbound_model : (v : Wrong) → Rule v (one_predicate "object") (one_object "object" (both []))
unfolding is_above_within is_above is_under listed_faults member_faults head_faults leaf_faults schema_faults declaration_faults rule_faults state_faults problem_faults
unbound_model v = obeys (one_predicate "object") (one_object "object" (both [])) refl v

unbound_others : (v : Wrong) → (v ≡ Unbound → ⊥) → Rule v unbound_domain unbound_problem
unbound_others UnknownType n = record { objects = (unbound_model UnknownType).objects; variables = (unbound_model UnknownType).variables }
unbound_others UnknownName n = record { uses = All-from_recursion IsDeclared (all_uses unbound_domain unbound_problem) (refl, tt); objects = All-from_recursion IsObjectAt (all_terms unbound_domain unbound_problem) (tt, tt) }
unbound_others Arity n = All-from_recursion IsCounted (all_uses unbound_domain unbound_problem) (refl, tt)
unbound_others WrongType n = All-from_recursion Fits (all_uses unbound_domain unbound_problem) (All-from_recursion (FitsParameter (in_problem unbound_domain unbound_problem)) (zip (typed 22 "x" "object" ∷ []) (var 52 "z" ∷ [])) (tt, tt), tt)
unbound_others Twice n = record { types = (unbound_model Twice).types; objects = (unbound_model Twice).objects; predicates = (unbound_model Twice).predicates; functions = (unbound_model Twice).functions; actions = (unbound_model Twice).actions; processes = (unbound_model Twice).processes; events = (unbound_model Twice).events; variables = (unbound_model Twice).variables; values = (unbound_model Twice).values }
unbound_others Unbound n = absurd (n refl)
unbound_others Shadowed n = unbound_model Shadowed
unbound_others TypeLoop n = unbound_model TypeLoop
unbound_others RateForm n = record { clocks = (unbound_model RateForm).clocks; rates = (unbound_model RateForm).rates; always = (unbound_model RateForm).always }
unbound_others DomainName n = unbound_model DomainName

unbound : BreaksOnly Unbound unbound_domain unbound_problem
unfolding is_above_within is_above is_under listed_faults member_faults head_faults leaf_faults schema_faults declaration_faults rule_faults state_faults problem_faults
unbound = record { broken = (first unbound_domain unbound_problem Unbound files.Problem (name_at 52) [] refl).broken; others = unbound_others }

abbrev arity_domain : Domain
arity_domain = one_predicate "object"

abbrev arity_problem : Problem
arity_problem = one_object "object" (atom 50 "p" [])

arity_model : (v : Wrong) → Rule v (one_predicate "object") (one_object "object" (both []))
unfolding is_above_within is_above is_under listed_faults member_faults head_faults leaf_faults schema_faults declaration_faults rule_faults state_faults problem_faults
arity_model v = obeys (one_predicate "object") (one_object "object" (both [])) refl v

arity_others : (v : Wrong) → (v ≡ Arity → ⊥) → Rule v arity_domain arity_problem
arity_others UnknownType n = record { objects = (arity_model UnknownType).objects; variables = (arity_model UnknownType).variables }
arity_others UnknownName n = record { uses = All-from_recursion IsDeclared (all_uses arity_domain arity_problem) (refl, tt); objects = All-nil IsObjectAt }
arity_others Arity n = absurd (n refl)
arity_others WrongType n = All-from_recursion Fits (all_uses arity_domain arity_problem) (All-nil (FitsParameter (in_problem arity_domain arity_problem)), tt)
arity_others Twice n = record { types = (arity_model Twice).types; objects = (arity_model Twice).objects; predicates = (arity_model Twice).predicates; functions = (arity_model Twice).functions; actions = (arity_model Twice).actions; processes = (arity_model Twice).processes; events = (arity_model Twice).events; variables = (arity_model Twice).variables; values = (arity_model Twice).values }
arity_others Unbound n = arity_model Unbound
arity_others Shadowed n = arity_model Shadowed
arity_others TypeLoop n = arity_model TypeLoop
arity_others RateForm n = record { clocks = (arity_model RateForm).clocks; rates = (arity_model RateForm).rates; always = (arity_model RateForm).always }
arity_others DomainName n = arity_model DomainName

arity : BreaksOnly Arity arity_domain arity_problem
unfolding is_above_within is_above is_under listed_faults member_faults head_faults leaf_faults schema_faults declaration_faults rule_faults state_faults problem_faults
arity = record { broken = (first arity_domain arity_problem Arity files.Problem (form_at 50) [] refl).broken; others = arity_others }

abbrev wrong_type_domain : Domain
wrong_type_domain = one_predicate "van"

abbrev wrong_type_problem : Problem
wrong_type_problem = one_object "object" (atom 50 "p" (the 52 "v" ∷ []))

wrong_type_model : (v : Wrong) → Rule v (one_predicate "van") (one_object "object" (both []))
unfolding is_above_within is_above is_under listed_faults member_faults head_faults leaf_faults schema_faults declaration_faults rule_faults state_faults problem_faults
wrong_type_model v = obeys (one_predicate "van") (one_object "object" (both [])) refl v

wrong_type_others : (v : Wrong) → (v ≡ WrongType → ⊥) → Rule v wrong_type_domain wrong_type_problem
wrong_type_others UnknownType n = record { objects = (wrong_type_model UnknownType).objects; variables = (wrong_type_model UnknownType).variables }
wrong_type_others UnknownName n = record { uses = All-from_recursion IsDeclared (all_uses wrong_type_domain wrong_type_problem) (refl, tt); objects = All-from_recursion IsObjectAt (all_terms wrong_type_domain wrong_type_problem) (refl, tt) }
wrong_type_others Arity n = All-from_recursion IsCounted (all_uses wrong_type_domain wrong_type_problem) (refl, tt)
wrong_type_others WrongType n = absurd (n refl)
wrong_type_others Twice n = record { types = (wrong_type_model Twice).types; objects = (wrong_type_model Twice).objects; predicates = (wrong_type_model Twice).predicates; functions = (wrong_type_model Twice).functions; actions = (wrong_type_model Twice).actions; processes = (wrong_type_model Twice).processes; events = (wrong_type_model Twice).events; variables = (wrong_type_model Twice).variables; values = (wrong_type_model Twice).values }
wrong_type_others Unbound n = All-from_recursion IsBoundAt (all_terms wrong_type_domain wrong_type_problem) (tt, tt)
wrong_type_others Shadowed n = wrong_type_model Shadowed
wrong_type_others TypeLoop n = wrong_type_model TypeLoop
wrong_type_others RateForm n = record { clocks = (wrong_type_model RateForm).clocks; rates = (wrong_type_model RateForm).rates; always = (wrong_type_model RateForm).always }
wrong_type_others DomainName n = wrong_type_model DomainName

wrong_type : BreaksOnly WrongType wrong_type_domain wrong_type_problem
unfolding is_above_within is_above is_under listed_faults member_faults head_faults leaf_faults schema_faults declaration_faults rule_faults state_faults problem_faults
wrong_type = record { broken = (first wrong_type_domain wrong_type_problem WrongType files.Problem (name_at 52) [] refl).broken; others = wrong_type_others }

abbrev shadowed_domain : Domain
shadowed_domain = bare

abbrev shadowed_problem : Problem
shadowed_problem = problem [] [] (every (untyped 50 "x" ∷ []) (some (untyped 52 "x" ∷ []) (both [])))

shadowed_model : (v : Wrong) → Rule v bare any_problem
unfolding is_above_within is_above is_under listed_faults member_faults head_faults leaf_faults schema_faults declaration_faults rule_faults state_faults problem_faults
shadowed_model v = obeys bare any_problem refl v

shadowed_others : (v : Wrong) → (v ≡ Shadowed → ⊥) → Rule v shadowed_domain shadowed_problem
shadowed_others UnknownType n = record {
  objects = All-nil (HasType []);
  variables = All-from_recursion HasTypes (all_lists shadowed_domain shadowed_problem) (All-from_recursion (HasType []) (untyped 50 "x" ∷ []) (refl, tt), (All-from_recursion (HasType []) (untyped 52 "x" ∷ []) (refl, tt), tt));
}
shadowed_others UnknownName n = record { uses = (shadowed_model UnknownName).uses; objects = (shadowed_model UnknownName).objects }
shadowed_others Arity n = shadowed_model Arity
shadowed_others WrongType n = shadowed_model WrongType
shadowed_others Twice n = record {
  types = differ [] tt;
  objects = differ [] tt;
  predicates = differ [] tt;
  functions = differ [] tt;
  actions = differ [] tt;
  processes = differ [] tt;
  events = differ [] tt;
  variables = All-from_recursion NamesOnce (all_lists shadowed_domain shadowed_problem) (differ (names_of (untyped 50 "x" ∷ [])) (refl, tt), (differ (names_of (untyped 52 "x" ∷ [])) (refl, tt), tt));
  values = fresh_differ same_names names_decide [] tt;
}
shadowed_others Unbound n = shadowed_model Unbound
shadowed_others Shadowed n = absurd (n refl)
shadowed_others TypeLoop n = shadowed_model TypeLoop
shadowed_others RateForm n = record { clocks = (shadowed_model RateForm).clocks; rates = (shadowed_model RateForm).rates; always = (shadowed_model RateForm).always }
shadowed_others DomainName n = shadowed_model DomainName

shadowed : BreaksOnly Shadowed shadowed_domain shadowed_problem
unfolding is_above_within is_above is_under listed_faults member_faults head_faults leaf_faults schema_faults declaration_faults rule_faults state_faults problem_faults
shadowed = record { broken = (first shadowed_domain shadowed_problem Shadowed files.Problem (name_at 52) [] refl).broken; others = shadowed_others }

pub alone_rows : AloneRows
alone_rows = record {
  domain_name = domain_name;
  rate_form = rate_form;
  twice = twice;
  unknown_type = unknown_type;
  type_loop = type_loop;
  unknown_name = unknown_name;
  unbound = unbound;
  arity = arity;
  wrong_type = wrong_type;
  shadowed = shadowed;
}
