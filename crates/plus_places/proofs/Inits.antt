-- The table against the first state: atoms, values, and literals with a time.
use Rattle.std.proofs.Common.{◌≡◌, ℕ, suc, ◌-◌, ◌<◌, Bool, true, false, cond, List, [], ◌∷◌, ◌++◌, Option, Some, None, Ok, refl, sym, ap, ◌∙◌, arith}
use Rattle.std.specs.Prelude.{◌&&◌, is_some, codes}
use Rattle.plus_tokens.specs.declared.span.Span.{Span}
use Rattle.plus_tree.specs.declared.terms.Literal.{Literal}
use Rattle.plus_tree.specs.declared.terms.Comparison.TheVariants.{Equal}
use Rattle.plus_tree.specs.declared.trees.Init.{Init}
use Rattle.plus_tree.specs.declared.trees.Init.TheVariants.{Holds, Absent, Value, At, AtNot}
use Rattle.plus_parser.specs.declared.phrases.words.Allowed.TheVariants as allows
use Rattle.plus_parser.specs.declared.phrases.words.HeadWord.{HeadWord}
use Rattle.plus_parser.specs.declared.phrases.words.HeadWord.TheVariants.{Nothing, Not, Compare, Plain, Other}
use Rattle.plus_tokens.specs.declared.numeral.Numeral.{Numeral}
use Rattle.plus_tokens.specs.Numeral.{piece_numeral}
use Rattle.plus_tokens.specs.Items.{Piece, Item}
use Rattle.plus_parser.specs.Phrases.Literals.{kind_literal, numeral_literal, literal_of}
use Rattle.plus_parser.specs.Phrases.Reading.{◌>>=◌, Read, next_of}
use Rattle.plus_parser.specs.Phrases.Words.{head_of, is_word, is_unsigned, is_time, is_allowed}
use Rattle.plus_parser.specs.Phrases.Grammar.{around, is_time_read, time_ahead, open_of, close_of, use_end, use_form}
use Rattle.plus_parser.specs.ReadingProblem.{literal_or, literal_next, timed_with, timed_of, plain_init, init_with, init_at}
use Rattle.plus_places.specs.declared.symbols.Symbol.{Symbol}
use Rattle.plus_places.specs.declared.symbols.Symbol.TheVariants as sy
use Rattle.plus_places.specs.Table.{accept, close_or, init_inside, timed_inside, step}
use Rattle.plus_places.proofs.Goes.{room_next, Rest, taken, goes}
use Rattle.plus_places.proofs.Follows.{bind_assoc, bind_same, looks, Follows, follows_token, follows_open, follows_close, flat_room}
use Rattle.plus_places.proofs.Turns.{after, in_turn, Inside, under, args_follow, use_follow}
use Rattle.plus_places.proofs.Exprs.{lit_room}
use Rattle.plus_places.proofs.Conds.{flat_head}

pub number_follow : (room : ℕ) → Follows room room (sy.Number ∷ []) (literal_next room)
unfolding literal_next
number_follow room st items =
    follows_token room sy.Number st items (λ p. literal_or (literal_of p.0) p.0 p.1) (λ x. goes room st x.1) (λ p rest e. at_lit p rest (literal_of p) refl)
  where
    at_lit : (p : Piece) (rest : List Item) (lit : Option Literal) → literal_of p ≡ lit → taken (accept (is_some lit) []) p (after room p st rest) ≡ (literal_or lit p rest >>= λ x. goes room st x.1)
    at_lit p rest (Some n) e = ap (λ r. goes r st rest) (lit_room p.kind p.word p.span n room e)
    at_lit p rest None e = refl

-- a time is a number
time_lit : (n : Option Numeral) (s : Span) → is_unsigned n ≡ true → (t : Literal) × (numeral_literal n s ≡ Some t)
time_lit (Some n) s e = (_, refl)
time_lit None s e = absurd cc

pub piece_lit : (p : Piece) → is_time p ≡ true → (n : Literal) × (literal_of p ≡ Some n)
unfolding kind_literal
piece_lit p e = time_lit (piece_numeral p) p.span e

module _ (room : ℕ) (front : Span) (st : List Symbol) where
  abbrev k : Init × List Item → Rest
  k x = goes (suc room) st x.1

  flat : (p : Piece) (rest : List Item) (h : HeadWord) (ks left : List Symbol) (r : ℕ) → head_of p ≡ h → (Other ≡ h → ⊥) → (Nothing ≡ h → ⊥) → goes (room_next p.kind r) (ks ++ left) rest ≡ goes r (ks ++ left) rest
  flat p rest h ks left r e n m = ap (λ r. goes r (ks ++ left) rest) (flat_room p.kind r (flat_head p.kind p.word h e n m))

  -- behind the time and the parenthesis
  timed_head : 0 < room → (t : Literal) (start : Span) (p : Piece) (rest : List Item) (h : HeadWord) → head_of p ≡ h → taken (timed_inside h) p (after (room - 1) p (sy.Close ∷ st) rest) ≡ (timed_with room front t start p rest h >>= k)
  timed_head lt t start p rest Plain h =
      flat p rest Plain (sy.Arguments allows.Terms ∷ []) (sy.Close ∷ st) (room - 1) h (λ z. cc) (λ z. cc)
      ∙ in_turn (room - 1) room (sy.Arguments allows.Terms) (sy.Close ∷ st) rest (use_end allows.Terms (room - 1) start p) (λ u. close_of room u.1 >>= λ e. Ok (At t u.0 (around front e.0.span), e.1)) k (under room (sy.Arguments allows.Terms ∷ []) (use_end allows.Terms (room - 1) start p) lt (args_follow allows.Terms (room - 1) start p)) (λ u.
      follows_close room st u.1 (λ e. Ok (At t u.0 (around front e.0.span), e.1)) k (λ e rest. refl))
  timed_head lt t start p rest Not h =
      let same : suc (room - 1) ≡ room = omega (arith, lt) in
      flat p rest Not (sy.Use allows.Terms ∷ sy.Close ∷ []) (sy.Close ∷ st) (room - 1) h (λ z. cc) (λ z. cc)
      ∙ in_turn (room - 1) (room - 1) (sy.Use allows.Terms) (sy.Close ∷ sy.Close ∷ st) rest (use_form allows.Terms (room - 1)) (λ u. close_of (room - 1) u.1 >>= λ c. close_of room c.1 >>= λ e. Ok (AtNot t u.0 (around front e.0.span), e.1)) k (use_follow allows.Terms (room - 1)) (λ u.
      follows_close (room - 1) (sy.Close ∷ st) u.1 (λ c. close_of room c.1 >>= λ e. Ok (AtNot t u.0 (around front e.0.span), e.1)) k (λ c rest.
      ap (λ r. goes r (sy.Close ∷ st) rest) same ∙ follows_close room st rest (λ e. Ok (AtNot t u.0 (around front e.0.span), e.1)) k (λ e rest. refl)))
  timed_head lt t start p rest h e = refl

  abbrev timed_open : Literal → Piece × List Item → Read Init
  timed_open t o = next_of (room - 1) o.1 >>= λ p. timed_with room front t o.0.span p.0 p.1 (head_of p.0)

  timed_follow : (items : List Item) → time_ahead room items ≡ true → goes room (sy.AtEnd ∷ st) items ≡ (timed_of room front items >>= k)
  unfolding timed_of literal_next
  timed_follow items t =
      let read = λ (p : Piece × List Item). literal_or (literal_of p.0) p.0 p.1 in
      let more = λ (t : Literal × List Item). open_of room t.1 >>= timed_open t.0 in
      follows_token room sy.AtEnd st items (λ p. read p >>= more) k (λ p rest e.
      let is : is_time p ≡ true = sym (ap is_time_read e) ∙ t in
      let n = piece_lit p is in
      ap (λ b. taken (cond b (Some (sy.Timed ∷ sy.Close ∷ [])) (close_or p.kind (accept (is_allowed allows.Names p.kind) (sy.Arguments allows.Names ∷ [])))) p (after room p st rest)) is
      ∙ ap (λ r. goes r (sy.Timed ∷ sy.Close ∷ st) rest) (lit_room p.kind p.word p.span n.0 room n.1)
      ∙ follows_open room sy.Timed (sy.TimedInside ∷ []) (sy.Close ∷ st) rest (timed_open n.0) k (λ p. refl) (λ lt o rest.
      follows_token (room - 1) sy.TimedInside (sy.Close ∷ st) rest (λ p. timed_with room front n.0 o.span p.0 p.1 (head_of p.0)) k (λ p rest e. timed_head lt n.0 o.span p rest (head_of p) refl))
      ∙ ap (λ (l : Option Literal). (literal_or l p rest >>= more) >>= k) (sym n.1))
      ∙ ap (λ (r : Read Init). r >>= k) (sym (bind_assoc (next_of room items) read more))

  -- where no time follows `at`, it is the name of a predicate
  names_follow : (items : List Item) → time_ahead room items ≡ false → goes room (sy.AtEnd ∷ st) items ≡ goes room (sy.Arguments allows.Names ∷ st) items
  names_follow items t =
      looks room sy.AtEnd st items
      ∙ bind_same (next_of room items) (λ p. taken (step sy.AtEnd p.0) p.0 (after room p.0 st p.1)) (λ p. taken (step (sy.Arguments allows.Names) p.0) p.0 (after room p.0 st p.1)) (λ p e.
      let is : is_time p.0 ≡ false = sym (ap is_time_read e) ∙ t in
      ap (λ b. taken (cond b (Some (sy.Timed ∷ sy.Close ∷ [])) (step (sy.Arguments allows.Names) p.0)) p.0 (after room p.0 st p.1)) is)
      ∙ sym (looks room (sy.Arguments allows.Names) st items)

  holds_follow : (p : Piece) (rest : List Item) → goes room (sy.Arguments allows.Names ∷ st) rest ≡ (plain_init false room front p rest >>= k)
  holds_follow p rest = in_turn room (suc room) (sy.Arguments allows.Names) st rest (use_end allows.Names room front p) (λ u. Ok (Holds u.0, u.1)) k (args_follow allows.Names room front p) (λ x. refl)

  at_follow : (p : Piece) (rest : List Item) (t : Bool) → time_ahead room rest ≡ t → goes room (sy.AtEnd ∷ st) rest ≡ (plain_init t room front p rest >>= k)
  at_follow p rest true t = timed_follow rest t
  at_follow p rest false t = names_follow rest t ∙ holds_follow p rest

  plain_follow : (p : Piece) (rest : List Item) (b : Bool) → goes room (cond b sy.AtEnd (sy.Arguments allows.Names) ∷ st) rest ≡ (plain_init (b && time_ahead room rest) room front p rest >>= k)
  plain_follow p rest true = at_follow p rest (time_ahead room rest) refl
  plain_follow p rest false = holds_follow p rest

  init_head : (p : Piece) (rest : List Item) (h : HeadWord) → head_of p ≡ h → taken (init_inside p h) p (after room p st rest) ≡ (init_with room front p rest h >>= k)
  init_head p rest Plain h =
      flat p rest Plain (cond (is_word (codes "at") p) sy.AtEnd (sy.Arguments allows.Names) ∷ []) st room h (λ z. cc) (λ z. cc) ∙ plain_follow p rest (is_word (codes "at") p)
  init_head p rest Not h =
      flat p rest Not (sy.Use allows.Names ∷ sy.Close ∷ []) st room h (λ z. cc) (λ z. cc)
      ∙ in_turn room room (sy.Use allows.Names) (sy.Close ∷ st) rest (use_form allows.Names room) (λ u. close_of room u.1 >>= λ e. Ok (Absent u.0 (around front e.0.span), e.1)) k (use_follow allows.Names room) (λ u.
      follows_close room st u.1 (λ e. Ok (Absent u.0 (around front e.0.span), e.1)) k (λ e rest. refl))
  init_head p rest (Compare Equal) h =
      flat p rest (Compare Equal) (sy.Use allows.Names ∷ sy.Number ∷ sy.Close ∷ []) st room h (λ z. cc) (λ z. cc)
      ∙ in_turn room room (sy.Use allows.Names) (sy.Number ∷ sy.Close ∷ st) rest (use_form allows.Names room) (λ u. literal_next room u.1 >>= λ n. close_of room n.1 >>= λ e. Ok (Value u.0 n.0 (around front e.0.span), e.1)) k (use_follow allows.Names room) (λ u.
      in_turn room room sy.Number (sy.Close ∷ st) u.1 (literal_next room) (λ n. close_of room n.1 >>= λ e. Ok (Value u.0 n.0 (around front e.0.span), e.1)) k (number_follow room) (λ n.
      follows_close room st n.1 (λ e. Ok (Value u.0 n.0 (around front e.0.span), e.1)) k (λ e rest. refl)))
  init_head p rest h e = refl

behind_follow : (room : ℕ) (front : Span) → Follows room (suc room) (sy.InitInside ∷ []) (λ items. next_of room items >>= λ p. init_with room front p.0 p.1 (head_of p.0))
behind_follow room front st items = follows_token room sy.InitInside st items (λ p. init_with room front p.0 p.1 (head_of p.0)) (λ x. goes (suc room) st x.1) (λ p rest e. init_head room front st p rest (head_of p) refl)

-- behind the parenthesis that takes one of so many places
pub init_inside_follow : (room : ℕ) → Inside sy.InitInside room (init_at room)
unfolding init_at
init_inside_follow room lt front = under room (sy.InitInside ∷ []) (init_at room front) lt (behind_follow (room - 1) front)
