-- Reading constraints from tokens.
use Rattle.std.specs.Prelude.{ℕ, ◌-◌, List, [], ◌∷◌, length, Result, Ok, Err, codes}
use Rattle.plus_tokens.specs.declared.token.Kind.{Kind}
use Rattle.plus_tokens.specs.declared.token.Kind.TheVariants as kinds
use Rattle.plus_tokens.specs.declared.span.Span.{Span}
use Rattle.plus_tokens.specs.Items.{Piece, Item}
use Rattle.plus_tree.specs.declared.faults.TextFault.{TextFault}
use Rattle.plus_tree.specs.declared.faults.TextFault.TheVariants as faults
use Rattle.plus_tree.specs.declared.terms.Literal.{Literal}
use Rattle.plus_tree.specs.declared.trees.Rule.{Rule}
use Rattle.plus_tree.specs.declared.trees.Rule.TheVariants as rules
use Rattle.plus_tree.specs.declared.trees.Constraint.{Constraint}
use Rattle.plus_tree.specs.Cond.{Cond}
use Rattle.plus_parser.specs.declared.constraints.RuleWord.{RuleWord}
use Rattle.plus_parser.specs.declared.constraints.RuleWord.TheVariants as words
use Rattle.plus_parser.specs.Phrases.Literals.{literal_of}
use Rattle.plus_parser.specs.Phrases.Reading.{◌>>=◌, Read, next_of}
use Rattle.plus_parser.specs.Phrases.Words.{look}
use Rattle.plus_parser.specs.Phrases.Grammar.{around, time_of, until_close, Former, form_step}
use Rattle.plus_parser.specs.Forms.ReadingForms.{form_next, both_of, cond_at}
use Rattle.plus_parser.specs.ReadingDomain.{end_of}
use Rattle.plus_parser.specs.ReadingProblem.{literal_or}

-- ---- words

-- the words that begin a list of constraints or a single one
abbrev pub rule_words : List (List ℕ × RuleWord)
rule_words =
    (codes "and", words.And) ∷ (codes "always", words.Always) ∷ (codes "sometime", words.Sometime) ∷ (codes "within", words.Within)
    ∷ (codes "hold-after", words.HoldAfter) ∷ []

abbrev pub kind_rule : Kind → List ℕ → RuleWord
kind_rule kinds.Name w = look w rule_words words.Other
kind_rule _ w = words.Other

-- what a token begins behind an opening parenthesis
abbrev pub rule_word_of : Piece → RuleWord
rule_word_of p = kind_rule p.kind p.word

-- ---- a constraint

-- the number without a sign that comes next
unfoldable pub time_next : ℕ → List Item → Read Literal
time_next room items = do
  p ← time_of room items
  literal_or (literal_of p.0) p.0 p.1

-- a rule, behind its word
abbrev pub rule_with : ℕ → Piece → List Item → RuleWord → Read Rule
rule_with room p rest words.Always = Ok (rules.Always, rest)
rule_with room p rest words.Sometime = Ok (rules.Sometime, rest)
rule_with room p rest words.Within = do
  t ← time_next room rest
  Ok (rules.Within t.0, t.1)
rule_with room p rest words.HoldAfter = do
  t ← time_next room rest
  Ok (rules.HoldAfter t.0, t.1)
rule_with room p rest _ = Err (faults.Form p.span)

abbrev pub rule_behind : ℕ → Piece → List Item → Read Rule
rule_behind room p rest = rule_with room p rest (rule_word_of p)

abbrev pub constraint_made : Rule → Cond → Span → Constraint
constraint_made r c s = record { rule = r; cond = c; span = s }

-- a constraint, behind its first token
unfoldable pub constraint_behind : ℕ → Span → Piece → List Item → Read Constraint
constraint_behind room front p rest = do
  x ← both_of room (rule_behind room p) (form_next room (cond_at room)) rest
  Ok (constraint_made x.0.0.0 x.0.0.1 (around front x.0.1), x.1)

-- a constraint whose opening parenthesis takes one of so many places
unfoldable pub constraint_at : ℕ → Former Constraint
constraint_at room front items = do
  p ← next_of (room - 1) items
  constraint_behind (room - 1) front p.0 p.1

-- ---- the whole

-- a list of constraints or a single one, behind its first token
abbrev pub constraints_with : ℕ → Span → Piece → List Item → RuleWord → Read (List Constraint)
constraints_with room front p rest words.And = do
  cs ← until_close (form_step (constraint_at room)) room (length rest) [] rest
  Ok (cs.0.0, cs.1)
constraints_with room front p rest _ = do
  c ← constraint_behind room front p rest
  Ok (c.0 ∷ [], c.1)

-- the same, whose opening parenthesis takes one of so many places
unfoldable pub constraints_at : ℕ → Former (List Constraint)
constraints_at room front items = do
  p ← next_of (room - 1) items
  constraints_with (room - 1) front p.0 p.1 (rule_word_of p.0)

-- the constraints that tokens spell with at most so many parentheses open at once; or why they spell none
unfoldable pub constraints_of : ℕ → List Item → Result (List Constraint) TextFault
constraints_of depth items = do
  cs ← form_next depth (constraints_at depth) items
  e ← end_of cs.1
  Ok cs.0
