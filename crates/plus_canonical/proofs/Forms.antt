-- Forms in parentheses, lists of members, and single tokens, as they read again.
use Rattle.std.proofs.Common.{◌≡◌, ℕ, suc, true, List, [], ◌∷◌, ◌++◌, refl, sym, ap, ◌∙◌, subst, append_assoc}
use Rattle.std.specs.Prelude.{map}
use Rattle.plus_tokens.specs.declared.token.Kind.{Kind}
use Rattle.plus_tokens.specs.declared.token.Kind.TheVariants as kinds
use Rattle.plus_tokens.specs.declared.token.Op.{Op}
use Rattle.plus_tokens.specs.Spelling.{op_bytes}
use Rattle.plus_tokens.specs.declared.span.Span.{Span}
use Rattle.plus_tokens.specs.Lowered.{lowered}
use Rattle.plus_tokens.specs.Items.{Piece}
use Rattle.plus_parser.specs.Phrases.Grammar.{around}
use Rattle.plus_parser.specs.Phrases.Spells.{Wrapped, Chain, room_after}
use Rattle.plus_printer.specs.Words.{word, spaced}
use Rattle.plus_canonical.proofs.Lexes.{Ended, at_space, at_close, Any, kind_stops, Reads, Both, both, turn, join, piece, IsToken, token_reads, Nothing, space_reads, none_reads}
use Rattle.plus_canonical.proofs.Smalls.{IsSmall, AreLexical, left, right, lexical_at, Fine, fine_at, fine_split, even_form, even_both}
use Rattle.plus_parser.proofs.PhraseLemmas.Level.{Even, Level, is_flat, level_at, level_none, level_append}

-- ---- single tokens

pub open_reads : Reads Any (40 ∷ []) (IsToken kinds.Open (40 ∷ []))
open_reads = token_reads {S = Any} kinds.Open (40 ∷ []) refl (λ rest ok. tt)

pub close_reads : Reads Any (41 ∷ []) (IsToken kinds.Close (41 ∷ []))
close_reads = token_reads {S = Any} kinds.Close (41 ∷ []) refl (λ rest ok. tt)

as_small : (k : Kind) (w v : List ℕ) → v ≡ w → Reads Ended w (IsToken k v) → Reads Ended w (IsToken k w)
as_small k w v e r = subst (λ v. Reads Ended w (IsToken k v)) e r

pub name_reads : (w : List ℕ) → IsSmall w → Reads Ended w (IsToken kinds.Name w)
name_reads w s = as_small kinds.Name w (lowered w) s.same (token_reads {S = Ended} kinds.Name w s.name (λ rest ok. kind_stops kinds.Name rest ok))

pub variable_reads : (w : List ℕ) → IsSmall w → Reads Ended (63 ∷ w) (IsToken kinds.Variable (63 ∷ w))
variable_reads w s =
    as_small kinds.Variable (63 ∷ w) (63 ∷ lowered w) (ap (λ v. 63 ∷ v) s.same)
    (token_reads {S = Ended} kinds.Variable (63 ∷ w) (w, s.name, refl) (λ rest ok. kind_stops kinds.Variable rest ok))

pub keyword_reads : (w : List ℕ) → IsSmall w → Reads Ended (58 ∷ w) (IsToken kinds.Keyword (58 ∷ w))
keyword_reads w s =
    as_small kinds.Keyword (58 ∷ w) (58 ∷ lowered w) (ap (λ v. 58 ∷ v) s.same)
    (token_reads {S = Ended} kinds.Keyword (58 ∷ w) (w, s.name, refl) (λ rest ok. kind_stops kinds.Keyword rest ok))

pub op_reads : (op : Op) → Reads Ended (op_bytes op) (IsToken (kinds.Op op) (lowered (op_bytes op)))
op_reads op = token_reads {S = Ended} (kinds.Op op) (op_bytes op) refl (λ rest ok. kind_stops (kinds.Op op) rest ok)

pub clock_reads : Reads Ended (35 ∷ 116 ∷ []) (IsToken kinds.Clock (35 ∷ 116 ∷ []))
clock_reads = token_reads {S = Ended} kinds.Clock (35 ∷ 116 ∷ []) (116, refl, refl) (λ rest ok. kind_stops kinds.Clock rest ok)

-- ---- one space

pub after_both : {P : List Piece → Type 0} (ts : List Piece) → Both P Nothing ts → P ts
after_both {P} ts (both a b p e w) = subst P (sym (w ∙ ap (λ l. a ++ l) e ∙ append_none a)) p where
  append_none : (l : List Piece) → l ++ [] ≡ l
  append_none [] = refl
  append_none (x ∷ xs) = ap (λ l. x ∷ l) (append_none xs)

before_both : {P : List Piece → Type 0} (ts : List Piece) → Both Nothing P ts → P ts
before_both {P} ts (both a b e p w) = subst P (sym (w ∙ ap (λ l. l ++ b) e)) p

-- a space before
pub spaced_before : {S : List ℕ → Type 0} {P : List Piece → Type 0} (bytes : List ℕ) → Reads S bytes P → Reads S (32 ∷ bytes) P
spaced_before {S} {P} bytes r = turn {P = Both Nothing P} {Q = P} (32 ∷ bytes) before_both (join {S = Any} {T = S} {P = Nothing} {Q = P} (32 ∷ []) bytes space_reads r (λ rest ok. tt))

-- a space behind
pub spaced_behind : {P : List Piece → Type 0} (bytes : List ℕ) → Reads Ended bytes P → Reads Any (bytes ++ 32 ∷ []) P
spaced_behind {P} bytes r = turn {P = Both P Nothing} {Q = P} (bytes ++ 32 ∷ []) after_both (join {S = Ended} {T = Any} {P = P} {Q = Nothing} bytes (32 ∷ []) r space_reads (λ rest ok. at_space))

-- ---- forms

-- a form with nothing but its body
pub record Form (B : List Piece → Type 0) (ts : List Piece) : Type 0 where
  pub span : Span
  pub body : List Piece
  pub body_is : B body
  pub wrapped : Wrapped span body ts

-- a form whose first token is of this kind
pub record HeadForm (k : Kind) (w : List ℕ) (B : List Piece → Type 0) (ts : List Piece) : Type 0 where
  pub span : Span
  pub at : Span
  pub body : List Piece
  pub body_is : B body
  pub wrapped : Wrapped span (piece k w at ∷ body) ts

form_made : {B : List Piece → Type 0} (ts : List Piece) → Both (IsToken kinds.Open (40 ∷ [])) (Both B (IsToken kinds.Close (41 ∷ []))) ts → Form B ts
form_made ts (both a _ o (both body c b e w) v) = record {
  span = around o.span e.span;
  body = body;
  body_is = b;
  wrapped = record {
    first = piece kinds.Open (40 ∷ []) o.span;
    last = piece kinds.Close (41 ∷ []) e.span;
    opens = refl;
    closes = refl;
    place = refl;
    whole = cc (o.whole, e.whole, v, w);
  };
}

-- what may stand before anything may stand before an end
pub loosen : {P : List Piece → Type 0} (bytes : List ℕ) → Reads Any bytes P → Reads Ended bytes P
loosen bytes r text at rest le here ok = r text at rest le here tt

pub form_reads : {B : List Piece → Type 0} (body : List ℕ) → Reads Ended body B → Reads Any (40 ∷ (body ++ 41 ∷ [])) (Form B)
form_reads {B} body r = turn {after = Any} (40 ∷ (body ++ 41 ∷ [])) form_made
    (join {S = Any} {T = Any} {P = IsToken kinds.Open (40 ∷ [])} {Q = Both B (IsToken kinds.Close (41 ∷ []))} (40 ∷ []) (body ++ 41 ∷ []) open_reads
    (join {S = Ended} {T = Any} {P = B} {Q = IsToken kinds.Close (41 ∷ [])} body (41 ∷ []) r close_reads (λ rest ok. at_close)) (λ rest ok. tt))

head_made : {k : Kind} {w : List ℕ} {B : List Piece → Type 0} (ts : List Piece) → Form (Both (IsToken k w) B) ts → HeadForm k w B ts
head_made {k} {w} {B} ts f = of f.body f.body_is f.wrapped where
  of : (body : List Piece) → Both (IsToken k w) B body → Wrapped f.span body ts → HeadForm k w B ts
  of body (both a b t is e) wrapped = record {
    span = f.span;
    at = t.span;
    body = b;
    body_is = is;
    wrapped = subst (λ l. Wrapped f.span l ts) (e ∙ ap (λ l. l ++ b) t.whole) wrapped;
  }

-- a head, and a body behind it
pub head_reads : {S : List ℕ → Type 0} {k : Kind} {w : List ℕ} {B : List Piece → Type 0} (head body : List ℕ) → Reads S head (IsToken k w) → Reads Ended body B
    → ((rest : List ℕ) → Ended rest → S (body ++ rest)) → Reads Any (40 ∷ (head ++ (body ++ 41 ∷ []))) (HeadForm k w B)
head_reads {S} {k} {w} {B} head body h r leads =
    subst (λ l. Reads Any (40 ∷ l) (HeadForm k w B)) (append_assoc head body (41 ∷ []))
    (turn {after = Any} (40 ∷ ((head ++ body) ++ 41 ∷ [])) head_made
    (form_reads {B = Both (IsToken k w) B} (head ++ body) (join {S = S} {T = Ended} {P = IsToken k w} {Q = B} head body h r leads)))

-- ---- members

-- what a form leaves where its body leaves as much room as it finds
pub head_even : {k : Kind} {w : List ℕ} {B : List Piece → Type 0} (m : ℕ) (ts : List Piece) (f : HeadForm k w B ts) → is_flat k ≡ true → Even m f.body → Even (suc m) ts
head_even {k} {w} m ts f flat e = even_form m f.span (piece k w f.at) f.body ts flat f.wrapped e

-- another of the tree, that is the same but for spans, with room for so many more parentheses
pub record Again (n : ℕ) (X : Type 0) (spells : X → List Piece → Type 0) (bare : X → X) (x : X) (ts : List Piece) : Type 0 where
  pub again : X
  pub spelled : spells again ts
  pub even : Even n ts
  pub same : bare x ≡ bare again

abbrev pub AllOf : {X : Type 0} → (X → Type 0) → List X → Type 0
AllOf R [] = Unit {0}
AllOf R (x ∷ xs) = R x × AllOf R xs

-- the members of what tokens spell
pub chain_all : (X : Type 0) (P : X → List Piece → Type 0) (R : X → Type 0) → ((x : X) (ts : List Piece) → AreLexical ts → P x ts → R x)
    → (xs : List X) (ts : List Piece) → AreLexical ts → Chain P xs ts → AllOf R xs
chain_all X P R f [] ts l c = tt
chain_all X P R f (x ∷ xs) ts l c =
    let m : AreLexical (c.0 ++ c.1) = lexical_at ts (c.0 ++ c.1) c.4 l in
    (f x c.0 (left c.0 c.1 m) c.2, chain_all X P R f xs c.1 (right c.0 c.1 m) c.3)

-- the same, with the room that the tokens have
pub chain_fine : (n : ℕ) (X : Type 0) (P : X → List Piece → Type 0) (R : X → Type 0) → ((x : X) (ts : List Piece) → P x ts → Level ts) → ((x : X) (ts : List Piece) → Fine n ts → P x ts → R x)
    → (xs : List X) (ts : List Piece) → Fine n ts → Chain P xs ts → AllOf R xs
chain_fine n X P R level f [] ts l c = tt
chain_fine n X P R level f (x ∷ xs) ts l c =
    let m = fine_split n c.0 c.1 (level x c.0 c.2) (fine_at n ts (c.0 ++ c.1) c.4 l) in
    (f x c.0 m.0 c.2, chain_fine n X P R level f xs c.1 m.1 c.3)

pub chain_level : (X : Type 0) (P : X → List Piece → Type 0) → ((x : X) (ts : List Piece) → P x ts → Level ts) → (xs : List X) (ts : List Piece) → Chain P xs ts → Level ts
chain_level X P level [] ts c = level_at ts [] c level_none
chain_level X P level (x ∷ xs) ts c = level_at ts (c.0 ++ c.1) c.4 (level_append c.0 c.1 (level x c.0 c.2) (chain_level X P level xs c.1 c.3))

pub spaced_leads : (X : Type 0) (f : X → List ℕ) (xs : List X) (rest : List ℕ) → Ended rest → Ended (spaced f xs ++ rest)
unfolding word
spaced_leads X f [] rest e = e
spaced_leads X f (x ∷ xs) rest e = at_space

pub none_again : (n : ℕ) (X : Type 0) (spells : X → List Piece → Type 0) (bare : X → X) (ts : List Piece) → Nothing ts → Again n (List X) (Chain spells) (map bare) [] ts
none_again n X spells bare ts e = record { again = []; spelled = e; even = ap (room_after n) e; same = refl }

pub more_again : (n : ℕ) (X : Type 0) (spells : X → List Piece → Type 0) (bare : X → X) (x : X) (xs : List X) (ts : List Piece)
    → Both (Again n X spells bare x) (Again n (List X) (Chain spells) (map bare) xs) ts → Again n (List X) (Chain spells) (map bare) (x ∷ xs) ts
more_again n X spells bare x xs ts (both a b one more e) = record {
  again = one.again ∷ more.again;
  spelled = (a, b, one.spelled, more.spelled, e);
  even = even_both n a b ts one.even more.even e;
  same = ap (λ y. y ∷ map bare xs) one.same ∙ ap (λ ys. bare one.again ∷ ys) more.same;
}

-- each member behind a space
pub spaced_again : (n : ℕ) (X : Type 0) (spells : X → List Piece → Type 0) (bare : X → X) (f : X → List ℕ) (xs : List X) → AllOf (λ x. Reads Ended (f x) (Again n X spells bare x)) xs
    → Reads Ended (spaced f xs) (Again n (List X) (Chain spells) (map bare) xs)
unfolding word
spaced_again n X spells bare f [] all = turn {after = Ended} [] (none_again n X spells bare) (none_reads Ended)
spaced_again n X spells bare f (x ∷ xs) all =
    turn {after = Ended} (spaced f (x ∷ xs)) (more_again n X spells bare x xs)
    (join {S = Ended} {T = Ended} (32 ∷ f x) (spaced f xs) (spaced_before {S = Ended} (f x) all.0) (spaced_again n X spells bare f xs all.1) (spaced_leads X f xs))
