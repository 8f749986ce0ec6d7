-- Reading conditions and effects from tokens.
use Rattle.std.specs.Prelude.{ℕ, zero, suc, ◌-◌, if◌then◌else◌, Bool, true, false, ◌&&◌, List, [], ◌∷◌, length, Ok, Err}
use Rattle.plus_tokens.specs.declared.span.Span.{Span}
use Rattle.plus_tree.specs.declared.terms.Term.{Term}
use Rattle.plus_tree.specs.declared.terms.Use.{Use}
use Rattle.plus_tree.specs.declared.terms.Comparison.{Comparison}
use Rattle.plus_tree.specs.declared.terms.Comparison.TheVariants as comparisons
use Rattle.plus_tree.specs.declared.trees.Leaf.{Leaf}
use Rattle.plus_tree.specs.declared.trees.LeafNode.{LeafNode}
use Rattle.plus_tree.specs.declared.trees.LeafNode.TheVariants as leaves
use Rattle.plus_tree.specs.declared.trees.LeafNode.TheVariants.{Add, Delete}
use Rattle.plus_tree.specs.declared.faults.TextFault.TheVariants as faults
use Rattle.plus_tree.specs.Expr.{Expr}
use Rattle.plus_tree.specs.Cond.{Cond, c_all, c_any, c_not, c_imply, c_forall, c_exists, c_atom, c_same, c_compare, no_conds, conds_of}
use Rattle.plus_tree.specs.Effect.{Effect, e_all, e_forall, e_when, e_leaf, no_effects, effects_of}
use Rattle.plus_parser.specs.declared.phrases.words.Allowed.TheVariants as allows
use Rattle.plus_parser.specs.declared.phrases.words.HeadWord.{HeadWord}
use Rattle.plus_parser.specs.declared.phrases.words.HeadWord.TheVariants.{Nothing, And, Or, Not, Imply, ForAll, Exists, When, Change, Compare, Plain}
use Rattle.plus_parser.specs.declared.phrases.words.Change as words
use Rattle.plus_parser.specs.declared.phrases.words.Change.TheVariants as changes
use Rattle.plus_tokens.specs.Items.{Piece, Item}
use Rattle.plus_parser.specs.Phrases.Reading.{◌>>=◌, Read, next_of}
use Rattle.plus_parser.specs.Phrases.Words.{head_of, is_term}
use Rattle.plus_parser.specs.Phrases.Grammar.{around, term_of, open_of, close_of, until_close, Former, form_step, variables_of, use_end, use_form, expr_from, expr_next, expr_at}

-- ---- one after the other

-- the form that comes next
unfoldable pub form_next : {A : Type 0} → ℕ → Former A → List Item → Read A
form_next room read items = do
  o ← open_of room items
  read o.0.span o.1

-- one thing, another, and a closing parenthesis
unfoldable pub both_of : {A B : Type 0} → ℕ → (List Item → Read A) → (List Item → Read B) → List Item → Read ((A × B) × Span)
both_of room first second items = do
  x ← first items
  y ← second x.1
  e ← close_of room y.1
  Ok (((x.0, y.0), e.0.span), e.1)

-- ---- conditions

-- whether two terms may follow the sign, which are no expressions
abbrev pub may_be_same : Comparison → Bool
may_be_same comparisons.Equal = true
may_be_same _ = false

-- the term that comes next
unfoldable pub term_next : ℕ → List Item → Read Term
term_next room items = do
  p ← next_of room items
  if is_term p.0.kind then Ok (term_of p.0, p.1) else Err (faults.Form p.0.span)

-- two terms behind the sign `=`, of which the first is read
abbrev pub same_of : ℕ → Span → Piece → List Item → Read Cond
same_of room front p rest = do
  t ← term_next room rest
  e ← close_of room t.1
  Ok (c_same (term_of p) t.0 (around front e.0.span), e.1)

-- the two terms or expressions behind the sign of a comparison, of which the first begins with a token
abbrev pub compared_with : Comparison → ℕ → Span → Piece → List Item → Bool → Read Cond
compared_with sign room front p rest true = same_of room front p rest
compared_with sign room front p rest false = do
  x ← expr_from (expr_at room) p rest
  y ← expr_next room (expr_at room) x.1
  e ← close_of room y.1
  Ok (c_compare sign x.0 y.0 (around front e.0.span), e.1)

-- a comparison, behind its sign
unfoldable pub compared_of : Comparison → ℕ → Former Cond
compared_of sign room front items = do
  p ← next_of room items
  compared_with sign room front p.0 p.1 (may_be_same sign && is_term p.0.kind)

-- a condition in which no other stands, behind its opening parenthesis
abbrev pub plain_cond_with : ℕ → Span → Piece → List Item → HeadWord → Read Cond
plain_cond_with room front p rest Nothing = Ok (c_all no_conds (around front p.span), rest)
plain_cond_with room front p rest (Compare sign) = compared_of sign room front rest
plain_cond_with room front p rest Plain = do
  u ← use_end allows.Terms room front p rest
  Ok (c_atom u.0 u.0.span, u.1)
plain_cond_with room front p rest _ = Err (faults.Form p.span)

-- a condition, behind its opening parenthesis
abbrev pub cond_with : ℕ → Former Cond → Span → Piece → List Item → HeadWord → Read Cond
cond_with room nested front p rest And = do
  cs ← until_close (form_step nested) room (length rest) [] rest
  Ok (c_all (conds_of cs.0.0) (around front cs.0.1), cs.1)
cond_with room nested front p rest Or = do
  cs ← until_close (form_step nested) room (length rest) [] rest
  Ok (c_any (conds_of cs.0.0) (around front cs.0.1), cs.1)
cond_with room nested front p rest Not = do
  o ← open_of room rest
  c ← nested o.0.span o.1
  e ← close_of room c.1
  Ok (c_not c.0 (around front e.0.span), e.1)
cond_with room nested front p rest Imply = do
  x ← both_of room (form_next room nested) (form_next room nested) rest
  Ok (c_imply x.0.0.0 x.0.0.1 (around front x.0.1), x.1)
cond_with room nested front p rest ForAll = do
  x ← both_of room (variables_of room) (form_next room nested) rest
  Ok (c_forall x.0.0.0 x.0.0.1 (around front x.0.1), x.1)
cond_with room nested front p rest Exists = do
  x ← both_of room (variables_of room) (form_next room nested) rest
  Ok (c_exists x.0.0.0 x.0.0.1 (around front x.0.1), x.1)
cond_with room nested front p rest head = plain_cond_with room front p rest head

unfoldable pub cond_body : ℕ → Former Cond → Former Cond
cond_body room nested front items = do
  p ← next_of room items
  cond_with room nested front p.0 p.1 (head_of p.0)

-- a condition whose opening parenthesis takes one of so many places
unfoldable pub cond_at : ℕ → Former Cond
cond_at zero front items = Err (faults.Depth front.start)
cond_at (suc room) front items = cond_body room (cond_at room) front items

-- ---- leaves of effects

abbrev pub add_of : Use → Leaf
add_of u = record { node = Add u; span = u.span }

abbrev pub delete_of : Use → Span → Leaf
delete_of u s = record { node = Delete u; span = s }

abbrev pub change_node : words.Change → Use → Expr → LeafNode
change_node changes.Assign u x = leaves.Assign u x
change_node changes.Increase u x = leaves.Increase u x
change_node changes.Decrease u x = leaves.Decrease u x
change_node changes.ScaleUp u x = leaves.ScaleUp u x
change_node changes.ScaleDown u x = leaves.ScaleDown u x

abbrev pub change_of : words.Change → Use → Expr → Span → Leaf
change_of change u x s = record { node = change_node change u x; span = s }

-- a leaf, behind its opening parenthesis
abbrev pub leaf_with : ℕ → Span → Piece → List Item → HeadWord → Read Leaf
leaf_with room front p rest Not = do
  u ← use_form allows.Terms room rest
  e ← close_of room u.1
  Ok (delete_of u.0 (around front e.0.span), e.1)
leaf_with room front p rest (Change change) = do
  x ← both_of room (use_form allows.Terms room) (expr_next room (expr_at room)) rest
  Ok (change_of change x.0.0.0 x.0.0.1 (around front x.0.1), x.1)
leaf_with room front p rest Plain = do
  u ← use_end allows.Terms room front p rest
  Ok (add_of u.0, u.1)
leaf_with room front p rest _ = Err (faults.Form p.span)

unfoldable pub leaf_behind : ℕ → Span → Piece → List Item → Read Leaf
leaf_behind room front p rest = leaf_with room front p rest (head_of p)

-- a leaf whose opening parenthesis takes one of so many places
unfoldable pub leaf_at : ℕ → Former Leaf
leaf_at room front items = do
  p ← next_of (room - 1) items
  leaf_behind (room - 1) front p.0 p.1

-- what is done where a condition holds, behind its opening parenthesis
abbrev pub simple_with : ℕ → Span → Piece → List Item → HeadWord → Read (List Leaf)
simple_with room front p rest Nothing = Ok ([], rest)
simple_with room front p rest And = do
  ls ← until_close (form_step (leaf_at room)) room (length rest) [] rest
  Ok (ls.0.0, ls.1)
simple_with room front p rest _ = do
  l ← leaf_behind room front p rest
  Ok (l.0 ∷ [], l.1)

-- the same, whose opening parenthesis takes one of so many places
unfoldable pub simple_at : ℕ → Former (List Leaf)
simple_at room front items = do
  p ← next_of (room - 1) items
  simple_with (room - 1) front p.0 p.1 (head_of p.0)

-- ---- effects

-- an effect, behind its opening parenthesis
abbrev pub effect_with : ℕ → Former Effect → Span → Piece → List Item → HeadWord → Read Effect
effect_with room nested front p rest Nothing = Ok (e_all no_effects (around front p.span), rest)
effect_with room nested front p rest And = do
  es ← until_close (form_step nested) room (length rest) [] rest
  Ok (e_all (effects_of es.0.0) (around front es.0.1), es.1)
effect_with room nested front p rest ForAll = do
  x ← both_of room (variables_of room) (form_next room nested) rest
  Ok (e_forall x.0.0.0 x.0.0.1 (around front x.0.1), x.1)
effect_with room nested front p rest When = do
  x ← both_of room (form_next room (cond_at room)) (form_next room (simple_at room)) rest
  Ok (e_when x.0.0.0 x.0.0.1 (around front x.0.1), x.1)
effect_with room nested front p rest _ = do
  l ← leaf_behind room front p rest
  Ok (e_leaf l.0 l.0.span, l.1)

unfoldable pub effect_body : ℕ → Former Effect → Former Effect
effect_body room nested front items = do
  p ← next_of room items
  effect_with room nested front p.0 p.1 (head_of p.0)

-- an effect whose opening parenthesis takes one of so many places
unfoldable pub effect_at : ℕ → Former Effect
effect_at zero front items = Err (faults.Depth front.start)
effect_at (suc room) front items = effect_body room (effect_at room) front items
