-- The table against constraints, and the place of a refusal.
use Rattle.std.proofs.Common.{◌≡◌, ℕ, suc, ◌-◌, ◌≤◌, List, [], ◌∷◌, length, Option, Some, Result, Ok, Err, refl, sym, ap, ◌∙◌, arith}
use Rattle.std.specs.Prelude.{map, IfErr, MatchResult, ◌⊎◌}
use Rattle.plus_tokens.specs.declared.span.Span.{Span}
use Rattle.plus_tree.specs.declared.terms.Literal.{Literal}
use Rattle.plus_tree.specs.declared.trees.Rule.{Rule}
use Rattle.plus_tree.specs.declared.trees.Rule.TheVariants as rules
use Rattle.plus_tree.specs.declared.trees.Constraint.{Constraint}
use Rattle.plus_tree.specs.Cond.{Cond}
use Rattle.plus_tree.specs.declared.faults.TextFault.{TextFault}
use Rattle.plus_tokens.specs.Items.{Piece, Item, tok, items_of}
use Rattle.plus_parser.specs.declared.constraints.RuleWord.{RuleWord}
use Rattle.plus_parser.specs.declared.constraints.RuleWord.TheVariants as words
use Rattle.plus_parser.specs.Phrases.Literals.{literal_of}
use Rattle.plus_parser.specs.Phrases.Reading.{◌>>=◌, Read, next_of, Fails}
use Rattle.plus_parser.specs.Phrases.Words.{is_time}
use Rattle.plus_parser.specs.Phrases.Grammar.{around, close_of, until_close, form_step}
use Rattle.plus_parser.specs.Forms.ReadingForms.{form_next, both_of, cond_at}
use Rattle.plus_parser.specs.Phrases.Spells.{FitsDepth}
use Rattle.plus_parser.specs.ReadingDomain.{end_of}
use Rattle.plus_parser.specs.ReadingProblem.{literal_or}
use Rattle.plus_parser.specs.ReadingConstraints.{rule_word_of, time_next, rule_with, constraint_made, constraint_behind, constraint_at, constraints_with, constraints_at, constraints_of}
use Rattle.plus_parser.specs.SpellsConstraints.{ConstraintTokens, SpellsConstraintsWithin}
use Rattle.plus_parser.proofs.PhraseLemmas.Level.{even_there}
use Rattle.plus_parser.proofs.ConstraintLaws.{rule_worded, constraints_takes, constraints_level, constraints_again}
use Rattle.plus_places.specs.declared.symbols.Symbol.{Symbol}
use Rattle.plus_places.specs.declared.symbols.Symbol.TheVariants as sy
use Rattle.plus_places.specs.Table.{constraint_inside, constraints_inside, constraint_symbols, run}
use Rattle.plus_places.specs.Place.{IsPlace, Refuses}
use Rattle.plus_places.proofs.Goes.{room_next, Rest, taken, goes}
use Rattle.plus_places.proofs.Follows.{bind_assoc, bind_same, Follows, follows_token, follows_fit, follows_close}
use Rattle.plus_places.proofs.Turns.{after, in_turn, Inside, under, forms_follow}
use Rattle.plus_places.proofs.Exprs.{lit_room}
use Rattle.plus_places.proofs.Conds.{next_follow, cond_inside_follow}
use Rattle.plus_places.proofs.Inits.{piece_lit}
use Rattle.plus_places.proofs.Problems.{end_nothing}
use Rattle.plus_places.proofs.Places.{whole, nothing}
use Rattle.plus_places.proofs.Places as places

-- ---- the table reads as the reader does

time_follow : (room : ℕ) → Follows room room (sy.Time ∷ []) (time_next room)
unfolding time_next
time_follow room st items =
    let k = λ (x : Literal × List Item). goes room st x.1 in
    follows_fit is_time room sy.Time [] st items (λ p. literal_or (literal_of p.0) p.0 p.1) k (λ p. refl) (λ p rest e time.
    let n = piece_lit p time in
    ap (λ r. goes r st rest) (lit_room p.kind p.word p.span n.0 room n.1)
    ∙ ap (λ (l : Option Literal). literal_or l p rest >>= k) (sym n.1))

module _ (room : ℕ) (front : Span) (st : List Symbol) where
  abbrev k : Constraint × List Item → Rest
  k x = goes (suc room) st x.1

  -- a rule and its condition, up to the closing parenthesis
  abbrev closed : Rule × List Item → Read ((Rule × Cond) × Span)
  closed r = do
    c ← form_next room (cond_at room) r.1
    e ← close_of room c.1
    Ok (((r.0, c.0), e.0.span), e.1)

  abbrev made : ((Rule × Cond) × Span) × List Item → Read Constraint
  made x = Ok (constraint_made x.0.0.0 x.0.0.1 (around front x.0.1), x.1)

  abbrev finished : ((Rule × Cond) × Span) × List Item → Rest
  finished x = made x >>= k

  cond_follow : (r : Rule) (items : List Item) → goes room (sy.Cond ∷ sy.Close ∷ st) items ≡ (closed (r, items) >>= finished)
  cond_follow r items =
      in_turn room room sy.Cond (sy.Close ∷ st) items (form_next room (cond_at room)) (λ c. close_of room c.1 >>= λ e. Ok (((r, c.0), e.0.span), e.1)) finished
      (next_follow sy.Cond sy.CondInside (λ p. refl) room (cond_at room) (cond_inside_follow room)) (λ c.
      follows_close room st c.1 (λ e. Ok (((r, c.0), e.0.span), e.1)) finished (λ e rest. refl))

  timed_follow : (rule : Literal → Rule) (items : List Item) → goes room (sy.Time ∷ sy.Cond ∷ sy.Close ∷ st) items ≡ (((let read : Read Rule = time_next room items >>= λ t. Ok (rule t.0, t.1) in read) >>= closed) >>= finished)
  timed_follow rule items =
      let read : Read Rule = time_next room items >>= λ t. Ok (rule t.0, t.1) in
      in_turn room room sy.Time (sy.Cond ∷ sy.Close ∷ st) items (time_next room) (λ t. Ok (rule t.0, t.1)) (λ r. closed r >>= finished) (time_follow room) (λ t. cond_follow (rule t.0) t.1)
      ∙ sym (bind_assoc read closed finished)

  -- behind the word of a rule
  rule_follow : (p : Piece) (rest : List Item) (h : RuleWord) → rule_word_of p ≡ h → taken (constraint_inside h) p (after room p st rest) ≡ ((rule_with room p rest h >>= closed) >>= finished)
  rule_follow p rest words.Always h = ap (λ q. goes (room_next q room) (sy.Cond ∷ sy.Close ∷ st) rest) (rule_worded p words.Always h refl).0 ∙ cond_follow rules.Always rest
  rule_follow p rest words.Sometime h = ap (λ q. goes (room_next q room) (sy.Cond ∷ sy.Close ∷ st) rest) (rule_worded p words.Sometime h refl).0 ∙ cond_follow rules.Sometime rest
  rule_follow p rest words.Within h =
      ap (λ q. goes (room_next q room) (sy.Time ∷ sy.Cond ∷ sy.Close ∷ st) rest) (rule_worded p words.Within h refl).0 ∙ timed_follow (λ t. rules.Within t) rest
  rule_follow p rest words.HoldAfter h =
      ap (λ q. goes (room_next q room) (sy.Time ∷ sy.Cond ∷ sy.Close ∷ st) rest) (rule_worded p words.HoldAfter h refl).0 ∙ timed_follow (λ t. rules.HoldAfter t) rest
  rule_follow p rest _ h = refl

  constraint_follow : (p : Piece) (rest : List Item) (h : RuleWord) → rule_word_of p ≡ h → taken (constraint_inside h) p (after room p st rest) ≡ (constraint_behind room front p rest >>= k)
  unfolding constraint_behind both_of
  constraint_follow p rest h e =
      rule_follow p rest h e
      ∙ ap (λ w. (rule_with room p rest w >>= closed) >>= finished) (sym e)
      ∙ sym (bind_assoc (rule_with room p rest (rule_word_of p) >>= closed) made k)

behind_follow : (room : ℕ) (front : Span) → Follows room (suc room) (sy.ConstraintInside ∷ []) (λ items. next_of room items >>= λ p. constraint_behind room front p.0 p.1)
behind_follow room front st items =
    follows_token room sy.ConstraintInside st items (λ p. constraint_behind room front p.0 p.1) (λ x. goes (suc room) st x.1) (λ p rest e. constraint_follow room front st p rest (rule_word_of p) refl)

-- behind the parenthesis that takes one of so many places
constraint_inside_follow : (room : ℕ) → Inside sy.ConstraintInside room (constraint_at room)
unfolding constraint_at
constraint_inside_follow room lt front = under room (sy.ConstraintInside ∷ []) (constraint_at room front) lt (behind_follow (room - 1) front)

list_follow : (room : ℕ) (front : Span) (st : List Symbol) (p : Piece) (rest : List Item) (h : RuleWord) → rule_word_of p ≡ h → taken (constraints_inside h) p (after room p st rest) ≡ (constraints_with room front p rest h >>= λ x. goes (suc room) st x.1)
list_follow room front st p rest words.And h =
    ap (λ q. goes (room_next q room) (sy.ConstraintList ∷ st) rest) (rule_worded p words.And h refl).0
    ∙ in_turn room (suc room) sy.ConstraintList st rest (λ items. until_close (form_step (constraint_at room)) room (length items) [] items) (λ cs. Ok (cs.0.0, cs.1)) (λ x. goes (suc room) st x.1)
    (forms_follow sy.ConstraintList sy.ConstraintInside (λ p. refl) room (constraint_at room) (constraint_inside_follow room)) (λ x. refl)
list_follow room front st p rest w h =
    constraint_follow room front st p rest w h
    ∙ sym (bind_assoc (constraint_behind room front p rest) (λ c. Ok (c.0 ∷ [], c.1)) (λ x. goes (suc room) st x.1))

lists_follow : (room : ℕ) (front : Span) → Follows room (suc room) (sy.ConstraintsInside ∷ []) (λ items. next_of room items >>= λ p. constraints_with room front p.0 p.1 (rule_word_of p.0))
lists_follow room front st items =
    follows_token room sy.ConstraintsInside st items (λ p. constraints_with room front p.0 p.1 (rule_word_of p.0)) (λ x. goes (suc room) st x.1) (λ p rest e. list_follow room front st p rest (rule_word_of p) refl)

constraints_inside_follow : (room : ℕ) → Inside sy.ConstraintsInside room (constraints_at room)
unfolding constraints_at
constraints_inside_follow room lt front = under room (sy.ConstraintsInside ∷ []) (constraints_at room front) lt (lists_follow (room - 1) front)

-- the reader, with room for two parentheses and so many more
abbrev read : ℕ → List Item → Result (List Constraint) TextFault
read room items = constraints_of (suc (suc room)) items

constraints_follow : (room : ℕ) (items : List Item) → whole constraint_symbols (suc (suc room)) items ≡ (read room items >>= nothing)
unfolding constraints_of goes
constraints_follow room items =
    let depth = suc (suc room) in
    let found = form_next depth (constraints_at depth) items in
    let ended = λ (x : List Constraint × List Item). end_of x.1 >>= λ (e : List Item). done x.0 in
    ap (λ (r : Rest). r >>= end_of) (next_follow sy.Constraints sy.ConstraintsInside (λ p. refl) depth (constraints_at depth) (constraints_inside_follow depth) [] items)
    ∙ bind_assoc found (λ x. goes depth [] x.1) end_of
    ∙ bind_same found (λ x. goes depth [] x.1 >>= end_of) (λ x. ended x >>= nothing) (λ x e.
    sym (end_nothing x.1) ∙ sym (bind_assoc (end_of x.1) (λ (e : List Item). done x.0) nothing))
    ∙ sym (bind_assoc found ended nothing)
  where
    done : List Constraint → Result (List Constraint) TextFault
    done cs = Ok cs

-- ---- the place

takes : (room : ℕ) (items : List Item) (cs : List Constraint) → read room items ≡ Ok cs → (ts : List Piece) × (items ≡ map tok ts) × ConstraintTokens cs ts × FitsDepth (suc (suc room)) ts
takes room items cs e = constraints_takes (suc (suc room)) items cs e

again : (cs : List Constraint) (ts : List Piece) (room : ℕ) → length ts ≤ room → ConstraintTokens cs ts → read room (map tok ts) ≡ Ok cs
again cs ts room le t = constraints_again (suc (suc room)) cs ts t (even_there ts (suc (suc room)) (constraints_level cs ts t) (omega (arith, le)))

-- what is answered, seen by a view, is spelled, or refused at its place
pub reading_placed : {X : Type 0} (text : List ℕ) (r : Result X TextFault) (view : X → List Constraint) → MatchResult r (λ x. constraints_of 64 (items_of text) ≡ Ok (view x)) (λ e. Fails e (constraints_of 64 (items_of text))) → IfErr r (λ e. Refuses ConstraintTokens 64 text e)
reading_placed text (Ok x) view f = tt
reading_placed text (Err e) view f = places.reading_placed ConstraintTokens constraint_symbols read constraints_follow takes again refl text (Err e) f

pub spells_none : (depth : ℕ) (text : List ℕ) (e : TextFault) → 2 ≤ depth → IsPlace ConstraintTokens depth text e → (cs : List Constraint) → SpellsConstraintsWithin depth text cs → ⊥
spells_none = places.spells_none ConstraintTokens constraint_symbols read constraints_follow takes again refl

pub tree_or_place : (depth : ℕ) (text : List ℕ) → 2 ≤ depth → ((cs : List Constraint) × SpellsConstraintsWithin depth text cs) ⊎ ((e : TextFault) × IsPlace ConstraintTokens depth text e)
tree_or_place = places.tree_or_place ConstraintTokens constraint_symbols read constraints_follow takes again refl

pub one_place : (depth : ℕ) (text : List ℕ) (e f : TextFault) → 2 ≤ depth → IsPlace ConstraintTokens depth text e → IsPlace ConstraintTokens depth text f → e ≡ f
one_place = places.one_place ConstraintTokens constraint_symbols read constraints_follow takes again refl

pub spells_run : (cs : List Constraint) (ts : List Piece) → ConstraintTokens cs ts → run constraint_symbols ts ≡ Some []
spells_run = places.spells_run ConstraintTokens constraint_symbols read constraints_follow takes again refl

pub run_tree : (ts : List Piece) → run constraint_symbols ts ≡ Some [] → (cs : List Constraint) × ConstraintTokens cs ts
run_tree = places.run_tree ConstraintTokens constraint_symbols read constraints_follow takes again refl
