-- The table against readers of several parts, and against loops.
use Rattle.std.proofs.Common.{◌≡◌, ℕ, zero, suc, ◌-◌, ◌<◌, ◌≤◌, Bool, true, false, cond, List, [], ◌∷◌, ◌++◌, length, Some, None, Result, Ok, Err, refl, sym, ap, ◌∙◌, subst, arith}
use Rattle.std.specs.Prelude.{◌&&◌, ◌==◌}
use Rattle.std.proofs.lemmas.Bool.{cond-false}
use Rattle.plus_tokens.specs.declared.token.Kind.{Kind}
use Rattle.plus_tokens.specs.declared.span.Span.{Span}
use Rattle.plus_tree.specs.declared.terms.Term.{Term}
use Rattle.plus_tree.specs.declared.terms.Use.{Use}
use Rattle.plus_tree.specs.declared.faults.TextFault.{TextFault}
use Rattle.plus_tree.specs.declared.faults.TextFault.TheVariants as faults
use Rattle.plus_parser.specs.declared.phrases.words.Allowed.{Allowed}
use Rattle.plus_tokens.specs.Items.{Piece, Item, tok, bad}
use Rattle.plus_parser.specs.Phrases.Reading.{◌>>=◌, Read, next_of, is_open}
use Rattle.plus_parser.specs.Phrases.Words.{is_close, is_plain, is_allowed}
use Rattle.plus_parser.specs.Phrases.Grammar.{around, plain_of, Step, at_close, until_close, Former, form_step, argument_step, term_of, use_of, use_end, use_form}
use Rattle.plus_parser.proofs.PhraseLemmas.Names.{plain_name}
use Rattle.plus_parser.proofs.PhraseLemmas.Level.{is_flat, allowed_flat}
use Rattle.plus_parser.proofs.PhraseLemmas.Tokens.{bind_ok, ok_is, next_ok, next_some, open_kind, close_kind}
use Rattle.plus_places.specs.declared.symbols.Symbol.{Symbol}
use Rattle.plus_places.specs.declared.symbols.Symbol.TheVariants as sy
use Rattle.plus_places.specs.Table.{Wanted, accept, close_or, step}
use Rattle.plus_places.proofs.Goes.{room_next, Rest, taken, goes}
use Rattle.plus_places.proofs.Follows.{bind_assoc, bind_same, looks, Follows, follows_open, follows_flat, flat_room}

-- ---- one part after another

-- what the table does behind a token
abbrev pub after : ℕ → Piece → List Symbol → List Item → List Symbol → Rest
after room p st rest ks = goes (room_next p.kind room) (ks ++ st) rest

pub then_same : {A B C : Type 0} (r : Result A TextFault) (g : A → Result C TextFault) (f : A → Result B TextFault) (k : B → Result C TextFault) → ((x : A) → g x ≡ (f x >>= k)) → (r >>= g) ≡ ((r >>= f) >>= k)
then_same (Ok x) g f k h = h x
then_same (Err e) g f k h = refl

pub in_turn :
    {A B : Type 0} (r next : ℕ) (s : Symbol) (left : List Symbol) (items : List Item) (f : List Item → Read A) (g : A × List Item → Read B) (k : B × List Item → Rest)
    → Follows r next (s ∷ []) f → ((x : A × List Item) → goes next left x.1 ≡ (g x >>= k))
    → goes r (s ∷ left) items ≡ ((f items >>= g) >>= k)
in_turn r next s left items f g k F h =
    F left items ∙ bind_same (f items) (λ x. goes next left x.1) (λ x. g x >>= k) (λ x e. h x) ∙ sym (bind_assoc (f items) g k)

-- the same, of several symbols
pub in_turns :
    {A B : Type 0} (r next : ℕ) (ks left : List Symbol) (items : List Item) (f : List Item → Read A) (g : A × List Item → Read B) (k : B × List Item → Rest)
    → Follows r next ks f → ((x : A × List Item) → goes next left x.1 ≡ (g x >>= k))
    → goes r (ks ++ left) items ≡ ((f items >>= g) >>= k)
in_turns r next ks left items f g k F h =
    F left items ∙ bind_same (f items) (λ x. goes next left x.1) (λ x. g x >>= k) (λ x e. h x) ∙ sym (bind_assoc (f items) g k)

pub past_close : (room : ℕ) (st : List Symbol) (p : Piece) (rest : List Item) (other : Wanted) → is_close p.kind ≡ true → taken (close_or p.kind other) p (after room p st rest) ≡ goes (suc room) st rest
past_close room st p rest other c = ap (λ k. taken (close_or k other) p (λ ks. goes (room_next k room) (ks ++ st) rest)) (close_kind p.kind c)

pub not_close : (k : Kind) (other : Wanted) → is_close k ≡ false → close_or k other ≡ other
not_close k other c = cond-false (is_close k) (Some []) other c

pub no_more : (r r' : List Item) → r ≡ r' → length r' ≤ length r
no_more r r' e = let same : length r ≡ length r' = ap length e in omega (arith, same)

-- the table leaves no more tokens than it finds
pub goes_length : (items : List Item) (room : ℕ) (st : List Symbol) (rest : List Item) → goes room st items ≡ Ok rest → length rest ≤ length items
unfolding goes
goes_length items room [] rest e = let same : items ≡ rest = ok_is items rest e in no_more items rest same
goes_length [] room (s ∷ st) rest e = absurd cc
goes_length (bad f ∷ items) room (s ∷ st) rest e = absurd cc
goes_length (tok p ∷ items) room (s ∷ st) rest e =
    at_test (is_open p.kind && (room == 0)) (step s p) (λ ks e. goes_length items (room_next p.kind room) (ks ++ st) rest e) e
  where
    at_test : (b : Bool) (w : Wanted) → ((ks : List Symbol) → goes (room_next p.kind room) (ks ++ st) items ≡ Ok rest → length rest ≤ length items)
        → cond {A = Rest} b (Err (faults.Depth p.span.start)) (taken w p (λ ks. goes (room_next p.kind room) (ks ++ st) items)) ≡ Ok rest → length rest ≤ length (tok p ∷ items)
    at_test true w h e = absurd cc
    at_test false None h e = absurd cc
    at_test false (Some ks) h e = let le = h ks e in omega (arith, le)

-- so does what the table follows
pub follows_length : {A : Type 0} (room next : ℕ) (ks : List Symbol) (read : List Item → Read A) → Follows room next ks read → (items : List Item) (x : A) (rest : List Item) → read items ≡ Ok (x, rest) → length rest ≤ length items
unfolding goes
follows_length {A} room next ks read F items x rest e = goes_length items room (ks ++ []) rest (F [] items ∙ ap (λ (r : Read A). r >>= λ x. goes next [] x.1) e)

-- ---- loops

module _ {S : Type 0} (stepper : Step S) (room : ℕ) (of : S → Symbol) (st : List Symbol) (k : (S × Span) × List Item → Rest) where
  abbrev pub Closes : Type 0
  Closes = (s : S) (p : Piece) (rest : List Item) → is_close p.kind ≡ true → taken (step (of s) p) p (after room p st rest) ≡ k ((s, p.span), rest)

  abbrev pub Steps : Type 0
  Steps = (s : S) (p : Piece) (rest : List Item) → is_close p.kind ≡ false → (is_open p.kind ≡ true → 0 < room) → taken (step (of s) p) p (after room p st rest) ≡ (stepper s p rest >>= λ x. goes room (of x.0 ∷ st) x.1)

  abbrev pub Less : Type 0
  Less = (s s' : S) (p : Piece) (r r' : List Item) → (is_open p.kind ≡ true → 0 < room) → stepper s p r ≡ Ok (s', r') → length r' ≤ length r

  pub until_follows : Closes → Steps → Less → (n : ℕ) (s : S) (items : List Item) → length items ≤ n → goes room (of s ∷ st) items ≡ (until_close stepper room n s items >>= k)
  unfolding until_close
  until_follows closes steps less zero s [] le = looks room (of s) st []
  until_follows closes steps less zero s (i ∷ items) le = absurd (omega (arith, le))
  until_follows closes steps less (suc n) s items le =
      let turn = λ (p : Piece × List Item). at_close stepper (until_close stepper room n) s p.0 p.1 (is_close p.0.kind) in
      looks room (of s) st items
      ∙ bind_same (next_of room items) (λ p. taken (step (of s) p.0) p.0 (after room p.0 st p.1)) (λ p. turn p >>= k) (λ p e.
      at_test (until_follows closes steps less n) p.0 p.1 (next_some room items p.0 p.1 e) (let same : length items ≡ length (tok p.0 ∷ p.1) = ap length (next_ok room items p.0 p.1 e) in omega (arith, le, same)) (is_close p.0.kind) refl)
      ∙ sym (bind_assoc (next_of room items) turn k)
    where
      at_test : ((s : S) (items : List Item) → length items ≤ n → goes room (of s ∷ st) items ≡ (until_close stepper room n s items >>= k))
          → (p : Piece) (rest : List Item) → (is_open p.kind ≡ true → 0 < room) → length rest ≤ n → (b : Bool) → is_close p.kind ≡ b
          → taken (step (of s) p) p (after room p st rest) ≡ (at_close stepper (until_close stepper room n) s p rest b >>= k)
      at_test again p rest left le true c = closes s p rest c
      at_test again p rest left le false c =
          steps s p rest c left
          ∙ bind_same (stepper s p rest) (λ x. goes room (of x.0 ∷ st) x.1) (λ x. until_close stepper room n x.0 x.1 >>= k) (λ x e. let lt = less s x.0 p rest x.1 left e in again x.0 x.1 (omega (arith, lt, le)))
          ∙ sym (bind_assoc (stepper s p rest) (λ x. until_close stepper room n x.0 x.1) k)

-- ---- forms in parentheses

-- a reader behind an opening parenthesis, which takes one of so many places
abbrev pub Inside : {A : Type 0} → Symbol → ℕ → Former A → Type 0
Inside s room read = 0 < room → (front : Span) → Follows (room - 1) room (s ∷ []) (read front)

module _ {A : Type 0} (many inside : Symbol) (fits : (p : Piece) → step many p ≡ close_or p.kind (accept (is_open p.kind) (inside ∷ many ∷ []))) (room : ℕ) (read : Former A) (F : Inside inside room read) where
  forms_steps : (st : List Symbol) → Steps (form_step read) room (λ xs. many) st (λ x. goes (suc room) st x.1)
  unfolding form_step
  forms_steps st xs p rest c left =
      ap (λ w. taken w p (after room p st rest)) (fits p ∙ not_close p.kind (accept (is_open p.kind) (inside ∷ many ∷ [])) c)
      ∙ at_test (is_open p.kind) refl
    where
      at_test : (b : Bool) → is_open p.kind ≡ b → taken (accept b (inside ∷ many ∷ [])) p (after room p st rest) ≡ (cond {A = Read (List A)} b (read p.span rest >>= λ x. Ok (xs ++ x.0 ∷ [], x.1)) (Err (faults.Form p.span)) >>= λ x. goes room (many ∷ st) x.1)
      at_test true o =
          ap (λ k. goes (room_next k room) (inside ∷ many ∷ st) rest) (open_kind p.kind o)
          ∙ F (left o) p.span (many ∷ st) rest
          ∙ sym (bind_assoc (read p.span rest) (λ x. Ok (xs ++ x.0 ∷ [], x.1)) (λ x. goes room (many ∷ st) x.1))
      at_test false o = refl

  forms_less : (st : List Symbol) → Less (form_step read) room (λ xs. many) st (λ x. goes (suc room) st x.1)
  unfolding form_step
  forms_less st xs xs' p r r' left e = at_test (is_open p.kind) refl e
    where
      at_test : (b : Bool) → is_open p.kind ≡ b → cond {A = Read (List A)} b (read p.span r >>= λ x. Ok (xs ++ x.0 ∷ [], x.1)) (Err (faults.Form p.span)) ≡ Ok (xs', r') → length r' ≤ length r
      at_test true o e =
          let a = bind_ok (read p.span r) (λ x. Ok (xs ++ x.0 ∷ [], x.1)) (xs', r') e in
          let le = follows_length (room - 1) room (inside ∷ []) (read p.span) (F (left o) p.span) r a.0.0 a.0.1 a.1 in
          let same = no_more a.0.1 r' (ap (λ (x : List A × List Item). x.1) (ok_is (xs ++ a.0.0 ∷ [], a.0.1) (xs', r') a.2)) in
          omega (arith, le, same)
      at_test false o e = absurd cc

  pub forms_follow : Follows room (suc room) (many ∷ []) (λ items. until_close (form_step read) room (length items) [] items)
  forms_follow st items = until_follows (form_step read) room (λ xs. many) st (λ x. goes (suc room) st x.1)
      (λ xs p rest c. ap (λ w. taken w p (after room p st rest)) (fits p) ∙ past_close room st p rest (accept (is_open p.kind) (inside ∷ many ∷ [])) c)
      (forms_steps st) (forms_less st) (length items) [] items (omega arith)

-- ---- uses

args_steps : (a : Allowed) (room : ℕ) (st : List Symbol) → Steps (argument_step a) room (λ xs. sy.Arguments a) st (λ x. goes (suc room) st x.1)
unfolding argument_step
args_steps a room st xs p rest c left =
    ap (λ w. taken w p (after room p st rest)) (not_close p.kind (accept (is_allowed a p.kind) (sy.Arguments a ∷ [])) c) ∙ at_test (is_allowed a p.kind) refl
  where
    at_test : (b : Bool) → is_allowed a p.kind ≡ b → taken (accept b (sy.Arguments a ∷ [])) p (after room p st rest) ≡ (cond {A = Read (List Term)} b (Ok (xs ++ term_of p ∷ [], rest)) (Err (faults.Form p.span)) >>= λ x. goes room (sy.Arguments a ∷ st) x.1)
    at_test true e = ap (λ r. goes r (sy.Arguments a ∷ st) rest) (flat_room p.kind room (allowed_flat a p.kind e))
    at_test false e = refl

args_less : (a : Allowed) (room : ℕ) (st : List Symbol) → Less (argument_step a) room (λ xs. sy.Arguments a) st (λ x. goes (suc room) st x.1)
unfolding argument_step
args_less a room st xs xs' p r r' left e = at_test (is_allowed a p.kind) e
  where
    at_test : (b : Bool) → cond {A = Read (List Term)} b (Ok (xs ++ term_of p ∷ [], r)) (Err (faults.Form p.span)) ≡ Ok (xs', r') → length r' ≤ length r
    at_test true e = no_more r r' (ap (λ (x : List Term × List Item). x.1) (ok_is (xs ++ term_of p ∷ [], r) (xs', r') e))
    at_test false e = absurd cc

pub args_follow : (a : Allowed) (room : ℕ) (front : Span) (head : Piece) → Follows room (suc room) (sy.Arguments a ∷ []) (use_end a room front head)
unfolding use_end
args_follow a room front head st items =
    until_follows (argument_step a) room (λ xs. sy.Arguments a) st (λ x. goes (suc room) st x.1)
    (λ xs p rest c. past_close room st p rest (accept (is_allowed a p.kind) (sy.Arguments a ∷ [])) c)
    (args_steps a room st) (args_less a room st) (length items) [] items (omega arith)
    ∙ sym (bind_assoc (until_close (argument_step a) room (length items) [] items) (λ xs. Ok (use_of head xs.0.0 (around front xs.0.1), xs.1)) (λ x. goes (suc room) st x.1))

pub under : {A : Type 0} (room : ℕ) (ks : List Symbol) (read : List Item → Read A) → 0 < room → Follows (room - 1) (suc (room - 1)) ks read → Follows (room - 1) room ks read
under room ks read lt F = let same : suc (room - 1) ≡ room = omega (arith, lt) in subst (λ n. Follows (room - 1) n ks read) same F

pub plain_flat : (p : Piece) → is_plain p ≡ true → is_flat p.kind ≡ true
plain_flat p e = ap is_flat (plain_name p e)

pub use_follow : (a : Allowed) (room : ℕ) → Follows room room (sy.Use a ∷ []) (use_form a room)
unfolding use_form
use_follow a room st items =
    let k = λ (x : Use × List Item). goes room st x.1 in
    follows_open room (sy.Use a) (sy.Plain ∷ sy.Arguments a ∷ []) st items (λ o. plain_of (room - 1) o.1 >>= λ n. use_end a (room - 1) o.0.span n.0 n.1) k (λ p. refl) (λ lt o rest.
    follows_flat is_plain (room - 1) sy.Plain (sy.Arguments a ∷ st) rest (λ n. use_end a (room - 1) o.span n.0 n.1) k (λ p. refl) plain_flat (λ p left.
    under room (sy.Arguments a ∷ []) (use_end a (room - 1) o.span p) lt (args_follow a (room - 1) o.span p) st left))
