-- Reading a problem from tokens.
use Rattle.std.specs.Prelude.{ℕ, suc, ◌-◌, Bool, true, false, ◌&&◌, List, [], length, Option, Some, None, is_some, unwrap_or, option_and_then, Result, Ok, Err, if◌then◌else◌, codes}
use Rattle.plus_tokens.specs.declared.span.Span.{Span}
use Rattle.plus_tree.specs.declared.names.Spelled.{Spelled}
use Rattle.plus_tree.specs.declared.trees.Init.{Init}
use Rattle.plus_tree.specs.declared.trees.Init.TheVariants.{Holds, Absent, Value, At, AtNot}
use Rattle.plus_tree.specs.declared.terms.Literal.{Literal}
use Rattle.plus_tree.specs.declared.terms.Comparison.TheVariants.{Equal}
use Rattle.plus_parser.specs.declared.phrases.words.Allowed.TheVariants as allows
use Rattle.plus_parser.specs.declared.phrases.words.HeadWord.{HeadWord}
use Rattle.plus_parser.specs.declared.phrases.words.HeadWord.TheVariants.{Not, Compare, Plain}
use Rattle.plus_parser.specs.Phrases.Literals.{literal_of}
use Rattle.plus_tree.specs.declared.trees.Problem.{Problem}
use Rattle.plus_tree.specs.declared.faults.TextFault.{TextFault}
use Rattle.plus_tree.specs.declared.faults.TextFault.TheVariants as faults
use Rattle.plus_parser.specs.declared.parts.ProblemParts.{ProblemParts}
use Rattle.plus_parser.specs.declared.keywords.ProblemWord.{ProblemWord}
use Rattle.plus_parser.specs.declared.keywords.ProblemWord.TheVariants as problems
use Rattle.plus_tokens.specs.Items.{Piece, Item}
use Rattle.plus_parser.specs.Phrases.Reading.{◌>>=◌, Read, next_of}
use Rattle.plus_parser.specs.Phrases.Words.{head_of, is_word}
use Rattle.plus_parser.specs.Keywords.{problem_part_of}
use Rattle.plus_parser.specs.Phrases.Grammar.{around, time_ahead, spelled_of, open_of, close_of, name_of, Step, until_close, Former, form_step, use_end, use_form, list_of}
use Rattle.plus_parser.specs.Balanced.{skipped}
use Rattle.plus_parser.specs.Forms.ReadingForms.{cond_at}
use Rattle.plus_parser.specs.ReadingDomain.{requirement_step, Sectioner, section_step, front_of, end_of}

-- ---- the first state

abbrev pub literal_or : Option Literal → Piece → List Item → Read Literal
literal_or (Some n) p rest = Ok (n, rest)
literal_or None p rest = Err (faults.Form p.span)

-- the number that comes next
unfoldable pub literal_next : ℕ → List Item → Read Literal
literal_next room items = do
  p ← next_of room items
  literal_or (literal_of p.0) p.0 p.1

-- what becomes true or false at a time, behind its first two tokens, and the end of the timed literal
abbrev pub timed_with : ℕ → Span → Literal → Span → Piece → List Item → HeadWord → Read Init
timed_with room front t start p rest Plain = do
  u ← use_end allows.Terms (room - 1) start p rest
  e ← close_of room u.1
  Ok (At t u.0 (around front e.0.span), e.1)
timed_with room front t start p rest Not = do
  u ← use_form allows.Terms (room - 1) rest
  k ← close_of (room - 1) u.1
  e ← close_of room k.1
  Ok (AtNot t u.0 (around front e.0.span), e.1)
timed_with room front t start p rest _ = Err (faults.Form p.span)

-- a timed literal, behind its `at`
unfoldable pub timed_of : ℕ → Former Init
timed_of room front items = do
  t ← literal_next room items
  o ← open_of room t.1
  p ← next_of (room - 1) o.1
  timed_with room front t.0 o.0.span p.0 p.1 (head_of p.0)

-- an atom, behind its name; or a timed literal, where a time follows `at`
abbrev pub plain_init : Bool → ℕ → Span → Piece → List Item → Read Init
plain_init true room front p rest = timed_of room front rest
plain_init false room front p rest = do
  u ← use_end allows.Names room front p rest
  Ok (Holds u.0, u.1)

abbrev pub init_with : ℕ → Span → Piece → List Item → HeadWord → Read Init
init_with room front p rest Plain = plain_init (is_word (codes "at") p && time_ahead room rest) room front p rest
init_with room front p rest Not = do
  u ← use_form allows.Names room rest
  e ← close_of room u.1
  Ok (Absent u.0 (around front e.0.span), e.1)
init_with room front p rest (Compare Equal) = do
  u ← use_form allows.Names room rest
  n ← literal_next room u.1
  e ← close_of room n.1
  Ok (Value u.0 n.0 (around front e.0.span), e.1)
init_with room front p rest _ = Err (faults.Form p.span)

-- a member of `:init` whose opening parenthesis takes one of so many places
unfoldable pub init_at : ℕ → Former Init
init_at room front items = do
  p ← next_of (room - 1) items
  init_with (room - 1) front p.0 p.1 (head_of p.0)

-- ---- sections

abbrev pub no_problem_parts : ProblemParts
no_problem_parts = record { domain = None; requirements = None; objects = None; init = None; goal = None; metric = false }

abbrev pub problem_part_with : ProblemWord → Sectioner ProblemParts
problem_part_with problems.Domain room parts front q rest =
    if is_some parts.domain then Err (faults.Form q.span)
    else (name_of room rest >>= λ n. close_of room n.1 >>= λ e. Ok (record parts { domain = Some (spelled_of n.0) }, e.1))
problem_part_with problems.Requirements room parts front q rest =
    if is_some parts.requirements then Err (faults.Form q.span)
    else (until_close requirement_step room (length rest) [] rest >>= λ xs. Ok (record parts { requirements = Some xs.0.0 }, xs.1))
problem_part_with problems.Objects room parts front q rest =
    if is_some parts.objects then Err (faults.Form q.span)
    else (list_of allows.Names room rest >>= λ xs. Ok (record parts { objects = Some xs.0.0 }, xs.1))
problem_part_with problems.Init room parts front q rest =
    if is_some parts.init then Err (faults.Form q.span)
    else (until_close (form_step (init_at room)) room (length rest) [] rest >>= λ xs. Ok (record parts { init = Some xs.0.0 }, xs.1))
problem_part_with problems.Goal room parts front q rest =
    if is_some parts.goal then Err (faults.Form q.span)
    else (open_of room rest >>= λ o. cond_at room o.0.span o.1 >>= λ c. close_of room c.1 >>= λ e. Ok (record parts { goal = Some c.0 }, e.1))
problem_part_with problems.Metric room parts front q rest =
    if parts.metric then Err (faults.Form q.span)
    else (skipped room rest >>= λ e. Ok (record parts { metric = true }, e.1))
problem_part_with problems.Other room parts front q rest = Err (faults.Form q.span)

unfoldable pub problem_part : Sectioner ProblemParts
problem_part room parts front q rest = problem_part_with (problem_part_of q) room parts front q rest

-- each section may stand once
abbrev pub all_found : ProblemParts → Bool
all_found parts = ((((is_some parts.domain && is_some parts.requirements) && is_some parts.objects) && is_some parts.init) && is_some parts.goal) && parts.metric

abbrev pub problem_step : ℕ → Step ProblemParts
problem_step = section_step all_found problem_part

-- ---- the whole

-- the problem of these parts; none where `:domain`, `:init` or `:goal` is missing
abbrev pub problem_made : Spelled → ProblemParts → Span → Option Problem
problem_made n parts s =
    option_and_then (λ d. option_and_then (λ i. option_and_then (λ g. Some (record {
      name = n;
      domain = d;
      requirements = unwrap_or parts.requirements [];
      objects = unwrap_or parts.objects [];
      init = i;
      goal = g;
      span = s;
    })) parts.goal) parts.init) parts.domain

-- a closing parenthesis that comes too early
abbrev pub or_early : {A : Type 0} → Span → Option A → Result A TextFault
or_early last (Some x) = Ok x
or_early last None = Err (faults.Form last)

-- a problem, with room for so many more parentheses inside a section
unfoldable pub problem_in : ℕ → List Item → Result Problem TextFault
problem_in room items = do
  f ← front_of (codes "problem") room items
  ps ← until_close (problem_step (suc room)) (suc room) (length f.1) no_problem_parts f.1
  x ← or_early ps.0.1 (problem_made f.0.0 ps.0.0 (around f.0.1 ps.0.1))
  e ← end_of ps.1
  Ok x

-- the problem that tokens spell with at most so many parentheses open at once, two or more; or why they spell none
abbrev pub problem_of : ℕ → List Item → Result Problem TextFault
problem_of depth items = problem_in (depth - 2) items
