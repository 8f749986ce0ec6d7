-- When a domain and a problem are well typed, rule by rule (PDDL+: Fox and Long 2003 and 2006). Each rule is asked of
-- all forms that it speaks of, in whatever order.
use Rattle.std.specs.Prelude.{◌≡◌, ◌≢◌, ◌⊎◌, ℕ, List, [], ◌∷◌, map, length, zip, flat_map, All, AllPairs, IsTrue, IsFalse, IfSome, Option, ⊤}
use Rattle.plus_tokens.specs.declared.span.Span.{Span}
use Rattle.plus_tree.specs.declared.terms.Term.{Term}
use Rattle.plus_tree.specs.declared.terms.Term.TheVariants.{Object, Variable}
use Rattle.plus_tree.specs.declared.terms.TypedName.{TypedName}
use Rattle.plus_tree.specs.declared.trees.Leaf.{Leaf}
use Rattle.plus_tree.specs.declared.trees.Domain.{Domain}
use Rattle.plus_tree.specs.declared.trees.Init.{Init}
use Rattle.plus_tree.specs.declared.trees.Init.TheVariants.{Value}
use Rattle.plus_tree.specs.declared.trees.Problem.{Problem}
use Rattle.plus_types.specs.declared.faults.Wrong.{Wrong}
use Rattle.plus_types.specs.declared.faults.Wrong.TheVariants.{UnknownType, UnknownName, Arity, WrongType, Twice, Unbound, Shadowed, TypeLoop, RateForm, DomainName}
use Rattle.plus_types.specs.Types.{Binding, is_among, names_of, bindings_of, bound_names, is_type, right_above, objects_of}
use Rattle.plus_types.specs.Faults.{params_of, term_kind, is_rate, ground_name, predicate_names, function_names, action_names, process_names, event_names}
use Rattle.plus_typing.specs.Forms.{Place, UseAt, Standing, all_uses, all_terms, all_lists, all_clocks, all_writes, all_guards}

-- ---- names that are declared or bound

-- no two of these are the same
abbrev pub AllDiffer : {X : Type 0} → List X → Type 0
AllDiffer xs = AllPairs (λ x y. x ≢ y) xs

-- a list of variables names none twice
abbrev pub NamesOnce : Standing (List TypedName) → Type 0
NamesOnce l = AllDiffer (names_of l.form)

-- the ground fluent to which a member of the initial state gives a value
abbrev pub valued_by : Init → List (List (List ℕ))
valued_by (Value u n s) = ground_name u ∷ []
valued_by _ = []

-- each type is listed once; each constant or object is declared once, and so is each predicate, each function, each action,
-- each process and each event; a list binds each of its variables once; a fluent has one first value
pub record NothingTwice (d : Domain) (p : Problem) : Type 0 where
  pub types : AllDiffer (names_of d.types)
  pub objects : AllDiffer (names_of (objects_of d p))
  pub predicates : AllDiffer (predicate_names d)
  pub functions : AllDiffer (function_names d)
  pub actions : AllDiffer (action_names d)
  pub processes : AllDiffer (process_names d)
  pub events : AllDiffer (event_names d)
  pub variables : All NamesOnce (all_lists d p)
  pub values : AllDiffer (flat_map valued_by p.init)

-- no variable of a list is bound around it
abbrev pub BindsNew : Standing (List TypedName) → Type 0
BindsNew l = All (λ (v : TypedName). IsFalse (is_among (bound_names l.place.vars) v.name.name)) l.form

abbrev pub NothingShadowed : Domain → Problem → Type 0
NothingShadowed d p = All BindsNew (all_lists d p)

-- ---- types

-- one step after the other leads up from the lower type to the higher one, through these
abbrev pub Steps : List Binding → List ℕ → List (List ℕ) → List ℕ → Type 0
Steps types low [] high = IsTrue (is_among (right_above types low) high)
Steps types low (k ∷ ks) high = IsTrue (is_among (right_above types low) k) × Steps types k ks high

-- a type is above another: steps lead up to it
abbrev pub IsAbove : List Binding → List ℕ → List ℕ → Type 0
IsAbove types high low = (ks : List (List ℕ)) × Steps types low ks high

-- a type is another, or the other is above it
abbrev pub IsUnder : List Binding → List ℕ → List ℕ → Type 0
IsUnder types low high = (low ≡ high) ⊎ IsAbove types high low

-- no type is above itself
abbrev pub IsNotAboveItself : List Binding → TypedName → Type 0
IsNotAboveItself types t = IsAbove types t.name.name t.name.name → ⊥

abbrev pub NoTypeLoop : Domain → Problem → Type 0
NoTypeLoop d p = All (IsNotAboveItself (bindings_of d.types)) d.types

-- the type of each constant, object and variable is a type of the domain
abbrev pub HasType : List Binding → TypedName → Type 0
HasType types x = IsTrue (is_type types x.kind.name)

abbrev pub HasTypes : Standing (List TypedName) → Type 0
HasTypes l = All (HasType l.place.context.types) l.form

pub record TypesKnown (d : Domain) (p : Problem) : Type 0 where
  pub objects : All (HasType (bindings_of d.types)) (objects_of d p)
  pub variables : All HasTypes (all_lists d p)

-- ---- names that are used

-- a use names a predicate or a function that is declared
abbrev pub IsDeclared : UseAt → Type 0
IsDeclared u = IsTrue (is_among (map (λ h. h.name.name) u.heads) u.form.head.name)

-- an object that stands here is declared, and a variable is bound
abbrev pub IsObject : Place → Term → Type 0
IsObject here (Object x) = IsTrue (is_among (bound_names here.context.objects) x.name)
IsObject here (Variable x) = ⊤

abbrev pub IsBound : Place → Term → Type 0
IsBound here (Object x) = ⊤
IsBound here (Variable x) = IsTrue (is_among (bound_names here.vars) x.name)

pub record NamesKnown (d : Domain) (p : Problem) : Type 0 where
  pub uses : All IsDeclared (all_uses d p)
  pub objects : All (λ (t : Standing Term). IsObject t.place t.form) (all_terms d p)

abbrev pub VariablesBound : Domain → Problem → Type 0
VariablesBound d p = All (λ (t : Standing Term). IsBound t.place t.form) (all_terms d p)

-- ---- arguments

-- the parameters of the predicate or function that a use names, if it is declared
abbrev pub params : UseAt → Option (List TypedName)
params u = params_of u.heads u.form.head.name

-- there are as many arguments as parameters
abbrev pub IsCounted : UseAt → Type 0
IsCounted u = IfSome (params u) (λ ps. length u.form.args ≡ length ps)

abbrev pub ArgumentsCounted : Domain → Problem → Type 0
ArgumentsCounted d p = All IsCounted (all_uses d p)

-- the type of a term, if it is known, is this one or is under it
abbrev pub IsOfType : Place → List ℕ → Term → Type 0
IsOfType here kind t = IfSome (term_kind here.context here.vars t) (λ k. IsUnder here.context.types k kind)

-- an argument at the place of a parameter
abbrev pub FitsParameter : Place → TypedName × Term → Type 0
FitsParameter here pair = IsOfType here pair.0.kind.name pair.1

-- each argument is of the type of its parameter
abbrev pub Fits : UseAt → Type 0
Fits u = IfSome (params u) (λ ps. All (FitsParameter u.place) (zip ps u.form.args))

abbrev pub ArgumentsFit : Domain → Problem → Type 0
ArgumentsFit d p = All Fits (all_uses d p)

-- ---- processes

-- what a process writes is a rate: an increase or a decrease by `#t`, or by `#t` times something in which no `#t` stands
abbrev pub IsRateInProcess : Standing Leaf → Type 0
IsRateInProcess w = IsTrue w.place.flows → IsTrue (is_rate w.form.node)

-- `#t` stands only in what a process writes; a process writes only rates, and writes none of them under a condition
pub record ProcessesFlow (d : Domain) (p : Problem) : Type 0 where
  pub clocks : All (λ (k : Standing Span). IsTrue k.place.flows) (all_clocks d p)
  pub rates : All IsRateInProcess (all_writes d p)
  pub always : All (λ (g : Standing Span). IsFalse g.place.flows) (all_guards d p)

-- ---- the rules

-- the problem is one for the domain
abbrev pub DomainNamed : Domain → Problem → Type 0
DomainNamed d p = p.domain.name ≡ d.name.name

-- the rule of each word
abbrev pub Rule : Wrong → Domain → Problem → Type 0
Rule UnknownType d p = TypesKnown d p
Rule UnknownName d p = NamesKnown d p
Rule Arity d p = ArgumentsCounted d p
Rule WrongType d p = ArgumentsFit d p
Rule Twice d p = NothingTwice d p
Rule Unbound d p = VariablesBound d p
Rule Shadowed d p = NothingShadowed d p
Rule TypeLoop d p = NoTypeLoop d p
Rule RateForm d p = ProcessesFlow d p
Rule DomainName d p = DomainNamed d p

-- the domain and the problem are well typed: they obey each rule
pub record IsWellTyped (d : Domain) (p : Problem) : Type 0 where
  pub nothing_twice : NothingTwice d p
  pub nothing_shadowed : NothingShadowed d p
  pub no_type_loop : NoTypeLoop d p
  pub types_known : TypesKnown d p
  pub names_known : NamesKnown d p
  pub variables_bound : VariablesBound d p
  pub arguments_counted : ArgumentsCounted d p
  pub arguments_fit : ArgumentsFit d p
  pub processes_flow : ProcessesFlow d p
  pub domain_named : DomainNamed d p
