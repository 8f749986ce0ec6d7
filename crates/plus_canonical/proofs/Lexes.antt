-- Bytes that read as tokens, wherever they stand.
use Rattle.std.proofs.Common.{◌≡◌, ℕ, ◌+◌, ◌<◌, ◌≤◌, Bool, true, false, List, [], ◌∷◌, ◌++◌, length, take, drop, ◌-◌, Option, Some, None, Result, Ok, Err, refl, sym, ap, ◌∙◌, arith, append_assoc, length-append, length-drop, inl, inr}
use Rattle.std.specs.Prelude.{slice_range, ◌==◌}
use Rattle.std.proofs.Math.Seq.{take-append_seam}
use Rattle.plus_tokens.specs.declared.token.Kind.{Kind}
use Rattle.plus_tokens.specs.declared.token.Kind.TheVariants as kinds
use Rattle.plus_tokens.specs.declared.token.Op.{Op}
use Rattle.plus_tokens.specs.declared.token.Op.TheVariants as ops
use Rattle.plus_tokens.specs.declared.token.Token.{Token}
use Rattle.plus_tokens.specs.declared.token.LexFault.{LexFault}
use Rattle.plus_tokens.specs.Bytes.{is_blank, is_letter, is_digit, is_name_byte}
use Rattle.plus_tokens.specs.First.{token_start, first_token}
use Rattle.plus_tokens.specs.Spelling.{begins, EndsOp, Ends, Spells, IsFirst}
use Rattle.plus_tokens.proofs.Runs.{behind, inside_at}
use Rattle.plus_tokens.proofs.Found.{found}
use Rattle.plus_tokens.specs.declared.span.Span.{Span}
use Rattle.plus_tokens.specs.Lowered.{lowered}
use Rattle.plus_tokens.specs.Items.{Piece, piece_of, items_at}
use Rattle.plus_tokens.proofs.Items.{at_token, at_none, at_fault}
use Rattle.plus_parser.proofs.PhraseLemmas.Tokens.{toks, toks-append}

-- ---- what may stand behind

-- the rest is empty or begins with a byte that ends each token
pub data Ended : List ℕ → Type 0 where
  at_end : Ended []
  at_space : {bs : List ℕ} → Ended (32 ∷ bs)
  at_line : {bs : List ℕ} → Ended (10 ∷ bs)
  at_open : {bs : List ℕ} → Ended (40 ∷ bs)
  at_close : {bs : List ℕ} → Ended (41 ∷ bs)

abbrev pub Any : List ℕ → Type 0
Any rest = Unit {0}

stops : (p : ℕ → Bool) → p 32 ≡ false → p 10 ≡ false → p 40 ≡ false → p 41 ≡ false → (rest : List ℕ) → Ended rest → begins p rest ≡ false
stops p a b c d _ at_end = refl
stops p a b c d _ at_space = a
stops p a b c d _ at_line = b
stops p a b c d _ at_open = c
stops p a b c d _ at_close = d

number_stops : (rest : List ℕ) → Ended rest → Ends kinds.Number rest
number_stops _ at_end = inl refl
number_stops _ at_space = inr refl
number_stops _ at_line = inr refl
number_stops _ at_open = inr refl
number_stops _ at_close = inr refl

op_stops : (op : Op) (rest : List ℕ) → Ended rest → EndsOp op rest
op_stops ops.Minus rest e = stops is_digit refl refl refl refl rest e
op_stops ops.Less rest e = stops (λ b. b == 61) refl refl refl refl rest e
op_stops ops.Greater rest e = stops (λ b. b == 61) refl refl refl refl rest e
op_stops ops.Plus rest e = tt
op_stops ops.Times rest e = tt
op_stops ops.Divide rest e = tt
op_stops ops.AtMost rest e = tt
op_stops ops.Equal rest e = tt
op_stops ops.AtLeast rest e = tt

pub kind_stops : (k : Kind) (rest : List ℕ) → Ended rest → Ends k rest
kind_stops kinds.Open rest e = tt
kind_stops kinds.Close rest e = tt
kind_stops kinds.OpenSquare rest e = tt
kind_stops kinds.CloseSquare rest e = tt
kind_stops kinds.Colon rest e = stops is_letter refl refl refl refl rest e
kind_stops kinds.Name rest e = stops is_name_byte refl refl refl refl rest e
kind_stops kinds.Variable rest e = stops is_name_byte refl refl refl refl rest e
kind_stops kinds.Keyword rest e = stops is_name_byte refl refl refl refl rest e
kind_stops kinds.Number rest e = number_stops rest e
kind_stops kinds.Clock rest e = stops is_name_byte refl refl refl refl rest e
kind_stops kinds.End rest e = stops is_name_byte refl refl refl refl rest e
kind_stops (kinds.Op op) rest e = op_stops op rest e

-- ---- bytes that read as tokens

-- where the bytes stand, and what follows may follow, the tokens are such ones, and then those behind the bytes
pub record Read (bytes : List ℕ) (P : List Piece → Type 0) (text : List ℕ) (at : ℕ) : Type 0 where
  pub ts : List Piece
  pub are : P ts
  pub items : items_at text at ≡ toks ts (items_at text (at + length bytes))

abbrev pub Reads : (List ℕ → Type 0) → List ℕ → (List Piece → Type 0) → Type 0
Reads after bytes P =
    (text : List ℕ) (at : ℕ) (rest : List ℕ) → at ≤ length text → drop at text ≡ bytes ++ rest → after rest → Read bytes P text at

-- one part behind another
pub data Both (P Q : List Piece → Type 0) (ts : List Piece) : Type 0 where
  both : (a b : List Piece) → P a → Q b → ts ≡ a ++ b → Both P Q ts

pub turn : {after : List ℕ → Type 0} {P Q : List Piece → Type 0} (bytes : List ℕ) → ((ts : List Piece) → P ts → Q ts) → Reads after bytes P → Reads after bytes Q
turn bytes f r text at rest le here ok =
    let x = r text at rest le here ok in
    record { ts = x.ts; are = f x.ts x.are; items = x.items }

inside : (text : List ℕ) (at : ℕ) (a more : List ℕ) → at ≤ length text → drop at text ≡ a ++ more → at + length a ≤ length text
inside text at a more le e = let l : length (drop at text) ≡ length (a ++ more) = ap length e in omega (arith, l, length-drop at text, length-append a more)

pub join : {S T : List ℕ → Type 0} {P Q : List Piece → Type 0} (a b : List ℕ) → Reads S a P → Reads T b Q → ((rest : List ℕ) → T rest → S (b ++ rest)) → Reads T (a ++ b) (Both P Q)
join a b r q follows text at rest le here ok =
    let here' : drop at text ≡ a ++ (b ++ rest) = here ∙ append_assoc a b rest in
    let x = r text at (b ++ rest) le here' (follows rest ok) in
    let y = q text (at + length a) rest (inside text at a (b ++ rest) le here') (behind text at a (b ++ rest) here') ok in
    let n : at + length a + length b ≡ at + length (a ++ b) = omega (arith, length-append a b) in
    record {
      ts = x.ts ++ y.ts;
      are = both x.ts y.ts x.are y.are refl;
      items = x.items ∙ ap (toks x.ts) y.items ∙ sym (toks-append x.ts y.ts (items_at text (at + length a + length b)))
          ∙ ap (λ n. toks (x.ts ++ y.ts) (items_at text n)) n;
    }

-- ---- one token

abbrev pub piece : Kind → List ℕ → Span → Piece
piece k w s = record { kind = k; word = w; span = s }

-- a token of this kind with this word
pub record IsToken (k : Kind) (word : List ℕ) (ts : List Piece) : Type 0 where
  pub span : Span
  pub whole : ts ≡ piece k word span ∷ []

pub token_reads : {S : List ℕ → Type 0} (k : Kind) (bytes : List ℕ) → Spells k bytes → ((rest : List ℕ) → S rest → Ends k rest) → Reads S bytes (IsToken k (lowered bytes))
token_reads k bytes spelled ends text at rest le here ok =
    let t : Token = record { kind = k; start = at; «end» = at + length bytes } in
    let first : IsFirst text at t = record {
      gap = [];
      bytes = bytes;
      rest = rest;
      parts = here;
      is_gap = ([], tt, refl);
      spelled = spelled;
      ends = ends rest ok;
      starts_at = omega arith;
      ends_at = refl;
    } in
    let few : at + length bytes - at ≡ length bytes = omega arith in
    let word : slice_range text at (at + length bytes) ≡ bytes =
    ap (λ n. take n (drop at text)) few ∙ ap (take (length bytes)) here ∙ take-append_seam bytes rest in
    let place : Span = record { start = at; «end» = at + length bytes } in
    record {
      ts = piece_of text t ∷ [];
      are = record { span = place; whole = ap (λ w. piece k (lowered w) place ∷ []) word };
      items = at_token text at t le (found text at t first);
    }

-- ---- blanks

abbrev pub Nothing : List Piece → Type 0
Nothing ts = ts ≡ []

-- a blank is no part of a token
blank_first : (text : List ℕ) (at b : ℕ) (rest : List ℕ) → drop at text ≡ b ∷ rest → is_blank b ≡ true → (b == 59) ≡ false → first_token text at ≡ first_token text (at + 1)
unfolding first_token
blank_first text at b rest here blank no_comment =
    let next : drop (at + 1) text ≡ rest = behind text at (b ∷ []) rest here in
    let start : token_start text at ≡ token_start text (at + 1) = rw (here, next, no_comment, blank) (omega arith) in
    rw start refl

pub blank_reads : (b : ℕ) → is_blank b ≡ true → (b == 59) ≡ false → Reads Any (b ∷ []) Nothing
blank_reads b blank no_comment text at rest le here ok =
    record { ts = []; are = refl; items = by (first_token text (at + 1)) refl }
  where
    lt : at < length text
    lt = inside_at text at b rest here

    same : first_token text at ≡ first_token text (at + 1)
    same = blank_first text at b rest here blank no_comment

    by : (r : Result (Option Token) LexFault) → first_token text (at + 1) ≡ r → items_at text at ≡ items_at text (at + 1)
    by (Ok None) e = at_none text at le (same ∙ e) ∙ sym (at_none text (at + 1) (omega (arith, lt)) e)
    by (Ok (Some t)) e = at_token text at t le (same ∙ e) ∙ sym (at_token text (at + 1) t (omega (arith, lt)) e)
    by (Err f) e = at_fault text at f le (same ∙ e) ∙ sym (at_fault text (at + 1) f (omega (arith, lt)) e)

pub space_reads : Reads Any (32 ∷ []) Nothing
space_reads = blank_reads 32 refl refl

pub line_reads : Reads Any (10 ∷ []) Nothing
line_reads = blank_reads 10 refl refl

-- no bytes, no tokens
pub none_reads : (S : List ℕ → Type 0) → Reads S [] Nothing
none_reads S text at rest le here ok =
    let n : at ≡ at + 0 = omega arith in record { ts = []; are = refl; items = ap (items_at text) n }
