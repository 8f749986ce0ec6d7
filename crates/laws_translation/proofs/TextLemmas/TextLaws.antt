-- The printed translation reads again.
use Rattle.std.proofs.Common.{◌≡◌, ℕ, ◌+◌, ◌<◌, ◌≤◌, ◌^◌, Bool, true, false, List, [], ◌∷◌, ◌++◌, map, length, refl, sym, ap₂, subst, ◌∙◌, arith, All, Option, Some, None}
use Rattle.std.specs.Prelude.{if◌then◌else◌}
use Rattle.std.specs.List.{flat_map}
use Rattle.std.proofs.lemmas.List.Elements.{All-head, All-tail}
use Rattle.plus_fraction.specs.Fraction.{Fraction}
use Rattle.plus_tree.specs.declared.terms.Literal.{Literal}
use Rattle.plus_tree.specs.declared.terms.Term.{Term}
use Rattle.plus_tree.specs.declared.terms.Term.TheVariants.{Object, Variable}
use Rattle.plus_tree.specs.declared.terms.TypedName.{TypedName}
use Rattle.plus_tree.specs.declared.terms.Use.{Use}
use Rattle.plus_tree.specs.declared.trees.Schema.{Schema}
use Rattle.plus_tree.specs.declared.trees.Init.{Init}
use Rattle.plus_tree.specs.declared.trees.Init.TheVariants.{Holds, Absent, Value, At, AtNot}
use Rattle.plus_tree.specs.declared.trees.Domain.{Domain}
use Rattle.plus_tree.specs.declared.trees.Problem.{Problem}
use Rattle.plus_types.specs.Faults.{Context, problem_context, use_faults, init_faults, initial_faults, valued_after, arguments_faults, declared_faults, fault_where, term_faults, argument_faults, params_of}
use Rattle.plus_types.proofs.SoundLemmas.{left-none, right-none}
use Rattle.plus_types.specs.declared.faults.Wrong.TheVariants.{Arity}
use Rattle.plus_expansion.proofs.WellTyped.{no-type-fault, pair-typed}
use Rattle.plus_parser.specs.declared.phrases.words.Allowed.TheVariants.{Terms, Names}
use Rattle.plus_tokens.specs.Items.{Piece, tok}
use Rattle.plus_parser.specs.Phrases.Spells.{FitsDepth}
use Rattle.plus_canonical.proofs.Forms.{AllOf}
use Rattle.plus_translation.specs.Renamed.{bindings_in, effect_bindings}
use Rattle.plus_translation.specs.Translated.{Due, steps_to, time_of, due_at, due_by, translated_domain, translated_problem}
use Rattle.plus_parser.specs.SpellsDomain.{Spells}
use Rattle.plus_parser.specs.SpellsProblem.{SpellsProblem}
use Rattle.plus_translation.specs.Laws.{CanBeTranslated}
use Rattle.laws_translation.specs.Laws.{FitsText, variables_of, TranslationReadsAgain, SpellsWithinItsDepth}
use Rattle.laws_translation.proofs.TextLemmas.Good.{GoodTerm, GoodUse, GoodInit}
use Rattle.laws_translation.proofs.TextLemmas.Rooms.{GoodTree, GoodTask, tree_reads, task_reads}
use Rattle.laws_translation.proofs.TextLemmas.SpelledGood.{tree_good, task_good}
use Rattle.laws_translation.proofs.TextLemmas.GoodTranslated.{GoodDue, Printable, translated_tree_good, translated_task_good}

-- ---- a typed use in `:init` has no variable

args_names : (c : Context) (params : List TypedName) (ts : List Term) → arguments_faults c [] params ts ≡ [] → AllOf (GoodTerm Terms) ts → AllOf (GoodTerm Names) ts
args_names c params [] f g = tt
args_names c [] (Object x ∷ ts) f g = ((refl, g.0.1), args_names c [] ts (right-none (term_faults c [] (Object x)) _ f) g.1)
args_names c [] (Variable x ∷ ts) f g = absurd cc
args_names c (p ∷ ps) (Object x ∷ ts) f g = ((refl, g.0.1), args_names c ps ts (right-none (argument_faults c [] p.kind.name (Object x)) _ f) g.1)
args_names c (p ∷ ps) (Variable x ∷ ts) f g = absurd cc

use_names : (c : Context) (u : Use) → use_faults c [] c.predicates u ≡ [] → GoodUse Terms u → GoodUse Names u
use_names c u f g = by (params_of c.predicates u.head.name) f
  where
    by : (o : Option (List TypedName)) → declared_faults c [] u o ≡ [] → GoodUse Names u
    by None f = absurd cc
    by (Some params) f = record { head = g.head; args = args_names c params u.args (right-none (fault_where _ Arity c.file u.span) _ f) g.args }

module _ (q : Fraction) (c : Context) where
  member_due : (t : Literal) (u : Use) (positive : Bool) → steps_to q t < 10 ^ 19 → GoodUse Names u → (ds : List Due) → AllOf GoodDue ds → AllOf GoodDue (due_at q t positive u ++ ds)
  member_due t u positive l g ds h = by t.negative
    where
      by : (b : Bool) → AllOf GoodDue ((if b then [] else record { steps = steps_to q t; positive = positive; atom = u } ∷ []) ++ ds)
      by true = h
      by false = (record { atom = g; few = l }, h)

  all_due : (valued : List (List (List ℕ))) (init : List Init) → init_faults c valued init ≡ [] → AllOf GoodInit init → All (λ (t : Literal). steps_to q t < 10 ^ 19) (flat_map time_of init) → AllOf GoodDue (flat_map (due_by q) init)
  all_due valued [] f g l = tt
  all_due valued (Holds u ∷ more) f g l = all_due (valued_after valued (Holds u)) more (right-none (initial_faults c valued (Holds u)) _ f) g.1 l
  all_due valued (Absent u s ∷ more) f g l = all_due (valued_after valued (Absent u s)) more (right-none (initial_faults c valued (Absent u s)) _ f) g.1 l
  all_due valued (Value u n s ∷ more) f g l = all_due (valued_after valued (Value u n s)) more (right-none (initial_faults c valued (Value u n s)) _ f) g.1 l
  all_due valued (At t u s ∷ more) f g l =
      member_due t u true (All-head (λ (t : Literal). steps_to q t < 10 ^ 19) t (flat_map time_of more) l) (use_names c u (left-none (initial_faults c valued (At t u s)) _ f) g.0.1) _
      (all_due (valued_after valued (At t u s)) more (right-none (initial_faults c valued (At t u s)) _ f) g.1 (All-tail (λ (t : Literal). steps_to q t < 10 ^ 19) t (flat_map time_of more) l))
  all_due valued (AtNot t u s ∷ more) f g l =
      member_due t u false (All-head (λ (t : Literal). steps_to q t < 10 ^ 19) t (flat_map time_of more) l) (use_names c u (left-none (initial_faults c valued (AtNot t u s)) _ f) g.0.1) _
      (all_due (valued_after valued (AtNot t u s)) more (right-none (initial_faults c valued (AtNot t u s)) _ f) g.1 (All-tail (λ (t : Literal). steps_to q t < 10 ^ 19) t (flat_map time_of more) l))

few_variables : (events : List Schema) → All (λ (a : Schema). variables_of a < 2 ^ 64) events → AllOf (λ (a : Schema). 1 + length a.params + bindings_in a.condition + effect_bindings a.effect ≤ 2 ^ 64) events
few_variables [] h = tt
few_variables (a ∷ more) h =
    let l = All-head (λ (a : Schema). variables_of a < 2 ^ 64) a more h in
    (omega (arith, l), few_variables more (All-tail (λ (a : Schema). variables_of a < 2 ^ 64) a more h))

-- the translated trees are good
pub translated_good : (text task : List ℕ) (d : Domain) (p : Problem) (q : Fraction) → Spells text d → SpellsProblem task p → CanBeTranslated d p q → FitsText d p q → GoodTree (translated_domain q d p) × GoodTask (translated_problem q d p)
translated_good text task d p q sd sp can fits =
    let g = tree_good text d sd in
    let h = task_good task p sp in
    let t = pair-typed d p (no-type-fault d p can.typed) in
    let few : Printable q d p = record {
      top = fits.top;
      bottom = fits.bottom;
      events = (let l = fits.events in omega (arith, l));
      variables = few_variables d.events fits.variables;
      due = all_due q (problem_context d p) [] p.init t.init h.init fits.times;
    } in
    (translated_tree_good q d p few g h, translated_task_good q d p few g h)

pub translation_reads_again : TranslationReadsAgain
translation_reads_again text task d p q sd sp can fits =
    let g = translated_good text task d p q sd sp can fits in (tree_reads (translated_domain q d p) g.0, task_reads (translated_problem q d p) g.1)

-- ---- the depth

same_pieces : (ts us : List Piece) → map tok ts ≡ map tok us → ts ≡ us
same_pieces [] [] e = refl
same_pieces [] (u ∷ us) e = absurd cc
same_pieces (t ∷ ts) [] e = absurd cc
same_pieces (t ∷ ts) (u ∷ us) e =
    let first : t ≡ u = cc in
    let rest : map tok ts ≡ map tok us = cc in
    ap₂ (λ x xs. x ∷ xs) first (same_pieces ts us rest)

pub spells_within_its_depth : SpellsWithinItsDepth
spells_within_its_depth depth text (us, items, fits) = (
  λ d (ts, is, tokens). (ts, is, tokens, subst (FitsDepth depth) (same_pieces us ts (sym items ∙ is)) fits),
  λ p (ts, is, tokens). (ts, is, tokens, subst (FitsDepth depth) (same_pieces us ts (sym items ∙ is)) fits),
)
