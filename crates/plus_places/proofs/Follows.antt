-- The table against one look at a token, and against itself.
use Rattle.std.proofs.Common.{◌≡◌, ℕ, suc, ◌-◌, ◌<◌, Bool, true, false, cond, List, [], ◌∷◌, ◌++◌, Result, Ok, Err, refl, sym, ap, ◌∙◌}
use Rattle.std.specs.Prelude.{◌&&◌, ◌==◌}
use Rattle.plus_tokens.specs.declared.token.Kind.{Kind}
use Rattle.plus_tokens.specs.declared.token.Kind.TheVariants as kinds
use Rattle.plus_tree.specs.declared.faults.TextFault.{TextFault}
use Rattle.plus_tree.specs.declared.faults.TextFault.TheVariants as faults
use Rattle.plus_tokens.specs.Items.{Piece, Item, tok, bad}
use Rattle.plus_parser.specs.Phrases.Reading.{◌>>=◌, Read, next_of, is_open}
use Rattle.plus_parser.specs.Phrases.Words.{is_close}
use Rattle.plus_parser.specs.Phrases.Grammar.{token_of, open_of, close_of}
use Rattle.plus_parser.proofs.PhraseLemmas.Level.{is_flat}
use Rattle.plus_parser.proofs.PhraseLemmas.Tokens.{next_some, open_kind, close_kind}
use Rattle.plus_places.specs.declared.symbols.Symbol.{Symbol}
use Rattle.plus_places.specs.declared.symbols.Symbol.TheVariants as sy
use Rattle.plus_places.specs.Table.{accept, step}
use Rattle.plus_places.proofs.Goes.{room_next, Rest, taken, goes}

-- ---- doing one thing after another

pub flat_room : (k : Kind) (room : ℕ) → is_flat k ≡ true → room_next k room ≡ room
flat_room kinds.Open room e = absurd cc
flat_room kinds.Close room e = absurd cc
flat_room _ room e = refl

pub bind_assoc : {A B C : Type 0} (r : Result A TextFault) (f : A → Result B TextFault) (g : B → Result C TextFault) → ((r >>= f) >>= g) ≡ (r >>= λ x. f x >>= g)
bind_assoc (Ok x) f g = refl
bind_assoc (Err e) f g = refl

pub bind_same : {A B : Type 0} (r : Result A TextFault) (f g : A → Result B TextFault) → ((x : A) → r ≡ Ok x → f x ≡ g x) → (r >>= f) ≡ (r >>= g)
bind_same (Ok x) f g h = h x refl
bind_same (Err e) f g h = refl

-- one look at a token
pub looks : (room : ℕ) (s : Symbol) (st : List Symbol) (items : List Item) → goes room (s ∷ st) items ≡ (next_of room items >>= λ p. taken (step s p.0) p.0 (λ ks. goes (room_next p.0.kind room) (ks ++ st) p.1))
unfolding goes
looks room s st [] = refl
looks room s st (bad f ∷ rest) = refl
looks room s st (tok p ∷ rest) = at_test (is_open p.kind && (room == 0))
  where
    at_test : (b : Bool) → cond {A = Rest} b (Err (faults.Depth p.span.start)) (taken (step s p) p (λ ks. goes (room_next p.kind room) (ks ++ st) rest))
        ≡ (cond {A = Read Piece} b (Err (faults.Depth p.span.start)) (Ok (p, rest)) >>= λ p. taken (step s p.0) p.0 (λ ks. goes (room_next p.0.kind room) (ks ++ st) p.1))
    at_test true = refl
    at_test false = refl

-- the table goes on with these symbols as this reader does, and leaves so much room
abbrev pub Follows : {A : Type 0} → ℕ → ℕ → List Symbol → (List Item → Read A) → Type 0
Follows room after ks read = (st : List Symbol) (items : List Item) → goes room (ks ++ st) items ≡ (read items >>= λ x. goes after st x.1)

-- a reader that looks at a token first, and what comes then
pub follows_token :
    {A : Type 0} (room : ℕ) (s : Symbol) (left : List Symbol) (items : List Item) (f : Piece × List Item → Read A) (k : A × List Item → Rest)
    → ((p : Piece) (rest : List Item) → next_of room items ≡ Ok (p, rest) → taken (step s p) p (λ ks. goes (room_next p.kind room) (ks ++ left) rest) ≡ (f (p, rest) >>= k))
    → goes room (s ∷ left) items ≡ ((next_of room items >>= f) >>= k)
follows_token room s left items f k h =
    looks room s left items
    ∙ bind_same (next_of room items) (λ p. taken (step s p.0) p.0 (λ ks. goes (room_next p.0.kind room) (ks ++ left) p.1)) (λ p. f p >>= k) (λ p e. h p.0 p.1 e)
    ∙ sym (bind_assoc (next_of room items) f k)

-- one token that fits, and what is read then
pub follows_fit :
    {A : Type 0} (fit : Piece → Bool) (room : ℕ) (s : Symbol) (ks left : List Symbol) (items : List Item) (f : Piece × List Item → Read A) (k : A × List Item → Rest)
    → ((p : Piece) → step s p ≡ accept (fit p) ks)
    → ((p : Piece) (rest : List Item) → next_of room items ≡ Ok (p, rest) → fit p ≡ true → goes (room_next p.kind room) (ks ++ left) rest ≡ (f (p, rest) >>= k))
    → goes room (s ∷ left) items ≡ ((token_of fit room items >>= f) >>= k)
unfolding token_of
follows_fit {A} fit room s ks left items f k steps h =
    let wanted = λ (p : Piece × List Item). cond {A = Read Piece} (fit p.0) (Ok (p.0, p.1)) (Err (faults.Form p.0.span)) in
    follows_token room s left items (λ p. wanted p >>= f) k (λ p rest e.
    ap (λ w. taken w p (λ ks. goes (room_next p.kind room) (ks ++ left) rest)) (steps p) ∙ at_test p rest (fit p) (h p rest e))
    ∙ ap (λ (r : Read A). r >>= k) (sym (bind_assoc (next_of room items) wanted f))
  where
    at_test : (p : Piece) (rest : List Item) (b : Bool) → (b ≡ true → goes (room_next p.kind room) (ks ++ left) rest ≡ (f (p, rest) >>= k))
        → taken (accept b ks) p (λ ks. goes (room_next p.kind room) (ks ++ left) rest) ≡ ((cond {A = Read Piece} b (Ok (p, rest)) (Err (faults.Form p.span)) >>= f) >>= k)
    at_test p rest true h = h refl
    at_test p rest false h = refl

-- an opening parenthesis, and what is read then
pub follows_open :
    {A : Type 0} (room : ℕ) (s : Symbol) (ks left : List Symbol) (items : List Item) (f : Piece × List Item → Read A) (k : A × List Item → Rest)
    → ((p : Piece) → step s p ≡ accept (is_open p.kind) ks)
    → (0 < room → (p : Piece) (rest : List Item) → goes (room - 1) (ks ++ left) rest ≡ (f (p, rest) >>= k))
    → goes room (s ∷ left) items ≡ ((open_of room items >>= f) >>= k)
follows_open room s ks left items f k steps h =
    follows_fit (λ p. is_open p.kind) room s ks left items f k steps (λ p rest e o.
    ap (λ k. goes (room_next k room) (ks ++ left) rest) (open_kind p.kind o) ∙ h (next_some room items p rest e o) p rest)

-- a closing parenthesis, and what is read then
pub follows_close :
    {A : Type 0} (room : ℕ) (left : List Symbol) (items : List Item) (f : Piece × List Item → Read A) (k : A × List Item → Rest)
    → ((p : Piece) (rest : List Item) → goes (suc room) left rest ≡ (f (p, rest) >>= k))
    → goes room (sy.Close ∷ left) items ≡ ((close_of room items >>= f) >>= k)
follows_close room left items f k h =
    follows_fit (λ p. is_close p.kind) room sy.Close [] left items f k (λ p. refl) (λ p rest e c.
    ap (λ k. goes (room_next k room) left rest) (close_kind p.kind c) ∙ h p rest)

-- a token that is no parenthesis, and what is read then
pub follows_flat :
    {A : Type 0} (fit : Piece → Bool) (room : ℕ) (s : Symbol) (left : List Symbol) (items : List Item) (f : Piece × List Item → Read A) (k : A × List Item → Rest)
    → ((p : Piece) → step s p ≡ accept (fit p) []) → ((p : Piece) → fit p ≡ true → is_flat p.kind ≡ true)
    → ((p : Piece) (rest : List Item) → goes room left rest ≡ (f (p, rest) >>= k))
    → goes room (s ∷ left) items ≡ ((token_of fit room items >>= f) >>= k)
follows_flat fit room s left items f k steps flat h =
    follows_fit fit room s [] left items f k steps (λ p rest e c. ap (λ r. goes r left rest) (flat_room p.kind room (flat p c)) ∙ h p rest)
