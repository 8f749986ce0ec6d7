-- Texts that begin with the same bytes begin with the same tokens, and words behind blanks are read as tokens.
use Rattle.std.proofs.Common.{◌≡◌, ℕ, ◌+◌, ◌-◌, ◌≤◌, Bool, false, List, [], ◌∷◌, ◌++◌, length, take, drop, Option, Some, None, Result, Ok, Err, refl, sym, ap, ◌∙◌, subst, arith, append_assoc, length-append, inl, inr}
use Rattle.std.specs.Prelude.{◌==◌, map, slice_range}
use Rattle.std.proofs.Math.Seq.{take-append_seam}
use Rattle.plus_tokens.specs.declared.token.Kind.{Kind}
use Rattle.plus_tokens.specs.declared.token.Kind.TheVariants as kinds
use Rattle.plus_tokens.specs.declared.token.Op.{Op}
use Rattle.plus_tokens.specs.declared.token.Op.TheVariants as ops
use Rattle.plus_tokens.specs.declared.token.Token.{Token}
use Rattle.plus_tokens.specs.declared.token.LexFault.{LexFault}
use Rattle.plus_tokens.specs.Bytes.{is_letter, is_digit, is_name_byte}
use Rattle.plus_tokens.specs.First.{first_token}
use Rattle.plus_tokens.specs.Spelling.{begins, EndsOp, Ends, Spells, IsGapToEnd, IsFirst}
use Rattle.plus_tokens.proofs.Runs.{behind}
use Rattle.plus_tokens.proofs.Found.{found}
use Rattle.plus_tokens.proofs.Read.{read, none}
use Rattle.plus_tokens.specs.Lowered.{lowered}
use Rattle.plus_tokens.specs.Items.{Piece, Item, tok, bad, piece_of, items_at}
use Rattle.plus_tokens.proofs.Items.{stands, at_token, at_none, at_fault}

-- ---- where a token may end

-- nothing, or a space
pub data Ended : List ℕ → Type 0 where
  at_end : Ended []
  at_space : {bs : List ℕ} → Ended (32 ∷ bs)

stops : (p : ℕ → Bool) → p 32 ≡ false → (rest : List ℕ) → Ended rest → begins p rest ≡ false
stops p e _ at_end = refl
stops p e _ at_space = e

number_stops : (rest : List ℕ) → Ended rest → Ends kinds.Number rest
number_stops _ at_end = inl refl
number_stops _ at_space = inr refl

op_stops : (op : Op) (rest : List ℕ) → Ended rest → EndsOp op rest
op_stops ops.Minus rest e = stops is_digit refl rest e
op_stops ops.Less rest e = stops (λ b. b == 61) refl rest e
op_stops ops.Greater rest e = stops (λ b. b == 61) refl rest e
op_stops _ rest e = tt

-- each token may end there
kind_stops : (k : Kind) (rest : List ℕ) → Ended rest → Ends k rest
kind_stops kinds.Colon rest e = stops is_letter refl rest e
kind_stops kinds.Name rest e = stops is_name_byte refl rest e
kind_stops kinds.Variable rest e = stops is_name_byte refl rest e
kind_stops kinds.Keyword rest e = stops is_name_byte refl rest e
kind_stops kinds.Number rest e = number_stops rest e
kind_stops kinds.Clock rest e = stops is_name_byte refl rest e
kind_stops kinds.End rest e = stops is_name_byte refl rest e
kind_stops (kinds.Op op) rest e = op_stops op rest e
kind_stops _ rest e = tt

-- the first byte of a rest says whether a token may end before it
same_op : (op : Op) (b : ℕ) (r s : List ℕ) → EndsOp op (b ∷ r) → EndsOp op (b ∷ s)
same_op ops.Minus b r s e = e
same_op ops.Less b r s e = e
same_op ops.Greater b r s e = e
same_op _ b r s e = tt

same_number : (b : ℕ) (r s : List ℕ) → Ends kinds.Number (b ∷ r) → Ends kinds.Number (b ∷ s)
same_number b r s (inl e) = absurd cc
same_number b r s (inr e) = inr e

same_ends : (k : Kind) (b : ℕ) (r s : List ℕ) → Ends k (b ∷ r) → Ends k (b ∷ s)
same_ends kinds.Colon b r s e = e
same_ends kinds.Name b r s e = e
same_ends kinds.Variable b r s e = e
same_ends kinds.Keyword b r s e = e
same_ends kinds.Number b r s e = same_number b r s e
same_ends kinds.Clock b r s e = e
same_ends kinds.End b r s e = e
same_ends (kinds.Op op) b r s e = same_op op b r s e
same_ends _ b r s e = tt

-- a token goes on to end where what stands behind it goes on the same way
ends_on : (k : Kind) (front more other rest : List ℕ) → rest ≡ front ++ more → Ends k rest → Ended other → Ends k (front ++ other)
ends_on k [] more other rest e h ok = kind_stops k other ok
ends_on k (b ∷ front) more other rest e h ok = same_ends k b (front ++ more) (front ++ other) (subst (Ends k) e h)

-- the bytes that stand at an offset
word_is : (text : List ℕ) (at : ℕ) (bytes rest : List ℕ) → drop at text ≡ bytes ++ rest → (end : ℕ) → end ≡ at + length bytes → slice_range text at end ≡ bytes
word_is text at bytes rest here end is =
    let few : end - at ≡ length bytes = omega (arith, is) in
    ap (λ n. take n (drop at text)) few ∙ ap (take (length bytes)) here ∙ take-append_seam bytes rest

-- ---- the front of a text

-- Behind an offset stand these tokens, in the bytes of a front; and so they stand in each text that has this front there, and
-- behind it nothing or a space.
pub record Fronts (text : List ℕ) (at : ℕ) (before : List Piece) : Type 0 where
  pub front : List ℕ
  pub more : List ℕ
  pub parts : drop at text ≡ front ++ more
  pub reads : (other rest : List ℕ) → Ended rest → at ≤ length other → drop at other ≡ front ++ rest → items_at other at ≡ map tok before ++ items_at other (at + length front)

-- the bytes of a token, with its gap before it
record Cut (text : List ℕ) (at : ℕ) (t : Token) (gap bytes rest : List ℕ) : Type 0 where
  word : slice_range text t.start t.«end» ≡ bytes
  left : drop t.«end» text ≡ rest

cut : (text : List ℕ) (at : ℕ) (t : Token) (i : IsFirst text at t) → Cut text at t i.gap i.bytes i.rest
cut text at t i =
    let here : drop t.start text ≡ i.bytes ++ i.rest = ap (λ n. drop n text) i.starts_at ∙ behind text at i.gap (i.bytes ++ i.rest) i.parts in
    record {
      word = word_is text t.start i.bytes i.rest here t.«end» i.ends_at;
      left = ap (λ n. drop n text) i.ends_at ∙ behind text t.start i.bytes i.rest here;
    }

joined : (gap bytes front rest : List ℕ) → (gap ++ (bytes ++ front)) ++ rest ≡ gap ++ (bytes ++ (front ++ rest))
joined gap bytes front rest = append_assoc gap (bytes ++ front) rest ∙ ap (λ l. gap ++ l) (append_assoc bytes front rest)

-- one token more at the front
one_more : (text : List ℕ) (at : ℕ) (t : Token) (p : Piece) (before : List Piece) → piece_of text t ≡ p → IsFirst text at t → Fronts text t.«end» before → Fronts text at (p ∷ before)
one_more text at t p before is i f =
    let c = cut text at t i in
    let same : i.rest ≡ f.front ++ f.more = sym c.left ∙ f.parts in
    record {
      front = i.gap ++ (i.bytes ++ f.front);
      more = f.more;
      parts = i.parts ∙ ap (λ l. i.gap ++ (i.bytes ++ l)) same ∙ sym (joined i.gap i.bytes f.front f.more);
      reads = again c same;
    }
  where
    again :
        Cut text at t i.gap i.bytes i.rest → i.rest ≡ f.front ++ f.more
        → (other rest : List ℕ) → Ended rest → at ≤ length other → drop at other ≡ (i.gap ++ (i.bytes ++ f.front)) ++ rest
        → items_at other at ≡ map tok (p ∷ before) ++ items_at other (at + length (i.gap ++ (i.bytes ++ f.front)))
    again c same other rest ok le here =
        let first : IsFirst other at t = record {
          gap = i.gap;
          bytes = i.bytes;
          rest = f.front ++ rest;
          parts = here ∙ joined i.gap i.bytes f.front rest;
          is_gap = i.is_gap;
          spelled = i.spelled;
          ends = ends_on t.kind f.front f.more rest i.rest same i.ends ok;
          starts_at = i.starts_at;
          ends_at = i.ends_at;
        } in
        let d = cut other at t first in
        let e = found other at t first in
        let piece : piece_of other t ≡ p = ap (λ w. record { kind = t.kind; word = lowered w; span = record { start = t.start; «end» = t.«end» } }) (d.word ∙ sym c.word) ∙ is in
        let s = stands other at t e in
        let n : t.«end» + length f.front ≡ at + length (i.gap ++ (i.bytes ++ f.front)) = omega (arith, i.starts_at, i.ends_at, length-append i.gap (i.bytes ++ f.front), length-append i.bytes f.front) in
        at_token other at t le e
        ∙ ap (λ q. tok q ∷ items_at other t.«end») piece
        ∙ ap (λ is. tok p ∷ is) (f.reads other rest ok s.ends d.left ∙ ap (λ n. map tok before ++ items_at other n) n)

pub fronts : (before : List Piece) (text : List ℕ) (at : ℕ) (rest : List Item) → at ≤ length text → items_at text at ≡ map tok before ++ rest → Fronts text at before
fronts [] text at rest le e =
    record { front = []; more = drop at text; parts = refl; reads = λ other rest ok le here. ap (items_at other) (omega arith) }
fronts (p ∷ before) text at rest le e = by (first_token text at) refl (λ at. fronts before text at rest)
  where
    by : (r : Result (Option Token) LexFault) → first_token text at ≡ r → ((at : ℕ) → at ≤ length text → items_at text at ≡ map tok before ++ rest → Fronts text at before) → Fronts text at (p ∷ before)
    by (Ok None) f again = let no : [] ≡ tok p ∷ (map tok before ++ rest) = sym (at_none text at le f) ∙ e in absurd cc
    by (Err x) f again = let no : bad x ∷ [] ≡ tok p ∷ (map tok before ++ rest) = sym (at_fault text at x le f) ∙ e in absurd cc
    by (Ok (Some t)) f again =
        let all : tok (piece_of text t) ∷ items_at text t.«end» ≡ tok p ∷ (map tok before ++ rest) = sym (at_token text at t le f) ∙ e in
        let first : piece_of text t ≡ p = cc in
        let others : items_at text t.«end» ≡ map tok before ++ rest = cc in
        let s = stands text at t f in
        one_more text at t p before first (read text at t f) (again t.«end» s.ends others)

-- ---- words behind it

-- a token whose word spells it, in small letters
pub record IsGenuine (p : Piece) : Type 0 where
  pub spelled : Spells p.kind p.word
  pub small : lowered p.word ≡ p.word

abbrev pub AreGenuine : List Piece → Type 0
AreGenuine [] = Unit {0}
AreGenuine (p ∷ ps) = IsGenuine p × AreGenuine ps

-- the words of these tokens, each behind a space
unfoldable pub words : List Piece → List ℕ
words [] = []
words (p ∷ ps) = 32 ∷ (p.word ++ words ps)

abbrev pub put : ℕ → Piece → Piece
put at p = record { kind = p.kind; word = p.word; span = record { start = at + 1; «end» = at + 1 + length p.word } }

-- these tokens, where they stand then
unfoldable pub placed : ℕ → List Piece → List Piece
placed at [] = []
placed at (p ∷ ps) = put at p ∷ placed (at + 1 + length p.word) ps

pub words_ended : (ps : List Piece) → Ended (words ps)
unfolding words
words_ended [] = at_end
words_ended (p ∷ ps) = at_space

nothing_left : (text : List ℕ) (at : ℕ) → drop at text ≡ [] → first_token text at ≡ Ok None
nothing_left text at here = (none text at).1 (subst IsGapToEnd (sym here) (inl ([], tt, refl)))

pub words_read : (ps : List Piece) (text : List ℕ) (at : ℕ) → at ≤ length text → drop at text ≡ words ps → AreGenuine ps → items_at text at ≡ map tok (placed at ps)
unfolding words placed
words_read [] text at le here g = at_none text at le (nothing_left text at here)
words_read (p ∷ ps) text at le here g =
    let t : Token = record { kind = p.kind; start = at + 1; «end» = at + 1 + length p.word } in
    let first : IsFirst text at t = record {
      gap = 32 ∷ [];
      bytes = p.word;
      rest = words ps;
      parts = here;
      is_gap = ((32 ∷ []) ∷ [], (inl (32, refl, refl), tt), refl);
      spelled = g.0.spelled;
      ends = kind_stops p.kind (words ps) (words_ended ps);
      starts_at = omega arith;
      ends_at = refl;
    } in
    let c = cut text at t first in
    let e = found text at t first in
    let s = stands text at t e in
    at_token text at t le e
    ∙ ap (λ w. tok (record { kind = p.kind; word = w; span = record { start = at + 1; «end» = at + 1 + length p.word } }) ∷ items_at text t.«end») (ap lowered c.word ∙ g.0.small)
    ∙ ap (λ is. tok (put at p) ∷ is) (words_read ps text t.«end» s.ends c.left g.1)
