-- The words of a text's tokens: names in small letters, which are names again.
use Rattle.std.proofs.Common.{◌≡◌, ℕ, zero, suc, ◌+◌, ◌-◌, true, List, [], ◌∷◌, ◌++◌, length, take, drop, Option, Some, None, Result, Ok, Err, refl, sym, ap, ◌∙◌, subst, arith}
use Rattle.std.specs.Prelude.{slice_range, map}
use Rattle.std.specs.Char.{to_ascii_lowercase}
use Rattle.std.specs.List.{list_all}
use Rattle.std.proofs.Math.Seq.{take-append_seam}
use Rattle.std.proofs.lemmas.Bool.{and_parts, and_from}
use Rattle.plus_tokens.specs.declared.token.Kind.{Kind}
use Rattle.plus_tokens.specs.declared.token.Kind.TheVariants as kinds
use Rattle.plus_tokens.specs.declared.token.Token.{Token}
use Rattle.plus_tokens.specs.declared.token.LexFault.{LexFault}
use Rattle.plus_tokens.specs.Bytes.{is_letter, is_name_byte}
use Rattle.plus_tokens.specs.First.{first_token}
use Rattle.plus_tokens.specs.Spelling.{Each, IsName, Spells}
use Rattle.plus_tokens.proofs.Runs.{behind}
use Rattle.plus_tokens.proofs.Read.{read}
use Rattle.plus_tokens.specs.declared.span.Span.{Span}
use Rattle.plus_tokens.specs.Lowered.{lowered}
use Rattle.plus_tokens.specs.Items.{Piece, Item, tok, piece_of, items_step, items_from}
use Rattle.plus_parser.specs.Phrases.Spells.{Wrapped, room_step, room_after}
use Rattle.plus_parser.proofs.PhraseLemmas.Level.{Even, Level, is_flat, after_flat, level_flat, split_append, split_wrapped, even_wrapped, even_append}

-- ---- tokens of a text

-- the word of a token is what bytes of its kind spell, in small letters
pub record Lexical (p : Piece) : Type 0 where
  pub bytes : List ℕ
  pub spelled : Spells p.kind bytes
  pub word_is : p.word ≡ lowered bytes

abbrev pub AreLexical : List Piece → Type 0
AreLexical [] = Unit {0}
AreLexical (p ∷ ps) = Lexical p × AreLexical ps

pub left : (a b : List Piece) → AreLexical (a ++ b) → AreLexical a
left [] b l = tt
left (p ∷ a) b l = (l.0, left a b l.1)

pub right : (a b : List Piece) → AreLexical (a ++ b) → AreLexical b
right [] b l = l
right (p ∷ a) b l = right a b l.1

found_lexical : (text : List ℕ) (from : ℕ) (t : Token) → first_token text from ≡ Ok (Some t) → Lexical (piece_of text t)
found_lexical text from t e =
    let f = read text from t e in
    let here : drop t.start text ≡ f.bytes ++ f.rest = ap (λ n. drop n text) f.starts_at ∙ behind text from f.gap (f.bytes ++ f.rest) f.parts in
    let few : t.«end» - t.start ≡ length f.bytes = omega (arith, f.ends_at) in
    let word : slice_range text t.start t.«end» ≡ f.bytes =
    ap (λ n. take n (drop t.start text)) few ∙ ap (take (length f.bytes)) here ∙ take-append_seam f.bytes f.rest in
    record { bytes = f.bytes; spelled = f.spelled; word_is = ap lowered word }

tail_is : (p q : Piece) (is : List Item) (ts : List Piece) → tok p ∷ is ≡ map tok (q ∷ ts) → (p ≡ q) × (is ≡ map tok ts)
tail_is p q is ts e = (cc, cc)

step_lexical : (more : ℕ → List Item) (text : List ℕ) (from : ℕ) (q : Piece) (ts : List Piece) → ((last : ℕ) → more last ≡ map tok ts → AreLexical ts)
    → (r : Result (Option Token) LexFault) → first_token text from ≡ r → items_step more text r ≡ map tok (q ∷ ts) → AreLexical (q ∷ ts)
step_lexical more text from q ts rest (Ok None) is e = absurd cc
step_lexical more text from q ts rest (Err f) is e = absurd cc
step_lexical more text from q ts rest (Ok (Some t)) is e =
    let x = tail_is (piece_of text t) q (more t.«end») ts e in
    (subst Lexical x.0 (found_lexical text from t is), rest t.«end» x.1)

pub lexical : (n : ℕ) (text : List ℕ) (from : ℕ) (ts : List Piece) → items_from n text from ≡ map tok ts → AreLexical ts
unfolding items_from
lexical n text from [] e = tt
lexical zero text from (q ∷ ts) e = absurd cc
lexical (suc n) text from (q ∷ ts) e =
    step_lexical (items_from n text) text from q ts (λ last. lexical n text last ts) (first_token text from) refl e

-- ---- small letters

-- a name without a large letter
pub record IsSmall (w : List ℕ) : Type 0 where
  pub name : IsName w
  pub same : lowered w ≡ w

small_again : (b : ℕ) → to_ascii_lowercase (to_ascii_lowercase b) ≡ to_ascii_lowercase b
small_again b = grind arith

small_letter : (b : ℕ) → is_letter b ≡ true → is_letter (to_ascii_lowercase b) ≡ true
small_letter b e = grind arith

small_byte : (b : ℕ) → is_name_byte b ≡ true → is_name_byte (to_ascii_lowercase b) ≡ true
small_byte b e = grind arith

lowered_again : (w : List ℕ) → lowered (lowered w) ≡ lowered w
lowered_again [] = refl
lowered_again (b ∷ bs) = ap (λ c. c ∷ lowered (lowered bs)) (small_again b) ∙ ap (λ l. to_ascii_lowercase b ∷ l) (lowered_again bs)

lowered_bytes : (w : List ℕ) → Each is_name_byte w → Each is_name_byte (lowered w)
lowered_bytes [] all = refl
lowered_bytes (b ∷ bs) all =
    let h = and_parts (is_name_byte b) (list_all is_name_byte bs) all in
    and_from (is_name_byte (to_ascii_lowercase b)) (list_all is_name_byte (lowered bs)) (small_byte b h.0) (lowered_bytes bs h.1)

lowered_length : (w : List ℕ) → length (lowered w) ≡ length w
lowered_length [] = refl
lowered_length (b ∷ bs) = ap suc (lowered_length bs)

pub lowered_small : (w : List ℕ) → IsName w → IsSmall (lowered w)
lowered_small w n = record {
  name = record {
    first = to_ascii_lowercase n.first;
    others = lowered n.others;
    letter = small_letter n.first n.letter;
    name_bytes = lowered_bytes n.others n.name_bytes;
    spelled = ap lowered n.spelled;
    within = omega (arith, lowered_length w, n.within);
  };
  same = lowered_again w;
}

small_at : (a b : List ℕ) → a ≡ b → IsSmall b → IsSmall a
small_at a b e s = rw e s

spelled_at : (p : Piece) (k : Kind) (bytes : List ℕ) → p.kind ≡ k → Spells p.kind bytes → Spells k bytes
spelled_at p k bytes e s = rw e at s

pub name_small : (p : Piece) → Lexical p → p.kind ≡ kinds.Name → IsSmall p.word
name_small p l e = small_at p.word (lowered l.bytes) l.word_is (lowered_small l.bytes (spelled_at p kinds.Name l.bytes e l.spelled))

pub variable_small : (p : Piece) → Lexical p → p.kind ≡ kinds.Variable → IsSmall (drop 1 p.word)
variable_small p l e =
    let s : Spells kinds.Variable l.bytes = spelled_at p kinds.Variable l.bytes e l.spelled in
    small_at (drop 1 p.word) (lowered s.0) (ap (drop 1) (l.word_is ∙ ap lowered s.2)) (lowered_small s.0 s.1)

pub keyword_small : (p : Piece) → Lexical p → p.kind ≡ kinds.Keyword → IsSmall (drop 1 p.word)
keyword_small p l e =
    let s : Spells kinds.Keyword l.bytes = spelled_at p kinds.Keyword l.bytes e l.spelled in
    small_at (drop 1 p.word) (lowered s.0) (ap (drop 1) (l.word_is ∙ ap lowered s.2)) (lowered_small s.0 s.1)

-- the tokens between parentheses
pub within : (s : Span) (body ts : List Piece) → Wrapped s body ts → AreLexical ts → AreLexical body
within s body ts w l = let m : AreLexical (w.first ∷ (body ++ w.last ∷ [])) = rw w.whole at l in left body (w.last ∷ []) m.1

pub lexical_at : (a b : List Piece) → a ≡ b → AreLexical a → AreLexical b
lexical_at a b e l = rw e at l

-- ---- room for parentheses

-- tokens of a text that leave as much room as they find, with room for so many more parentheses
pub record Fine (n : ℕ) (ts : List Piece) : Type 0 where
  pub words : AreLexical ts
  pub even : Even n ts

pub fine_at : (n : ℕ) (a b : List Piece) → a ≡ b → Fine n a → Fine n b
fine_at n a b e f = subst (Fine n) e f

pub fine_split : (n : ℕ) (a b : List Piece) → Level a → Fine n (a ++ b) → Fine n a × Fine n b
fine_split n a b l f =
    let e = split_append n a b l f.even in
    (record { words = left a b f.words; even = e.0 }, record { words = right a b f.words; even = e.1 })

-- what stands in a form has room for one parenthesis less
pub record Inside (n : ℕ) (body : List Piece) : Type 0 where
  pub room : ℕ
  pub under : suc room ≡ n
  pub fine : Fine room body

pub fine_within : (n : ℕ) (s : Span) (body ts : List Piece) → Wrapped s body ts → Level body → Fine n ts → Inside n body
fine_within n s body ts w l f =
    let e = split_wrapped n s body ts w l f.even in
    record { room = e.0; under = sym e.1; fine = record { words = within s body ts w f.words; even = e.2 } }

-- behind a token that is no parenthesis
pub fine_behind : (n : ℕ) (p : Piece) (ts : List Piece) → is_flat p.kind ≡ true → Fine n (p ∷ ts) → Fine n ts
fine_behind n p ts flat f = record { words = f.words.1; even = sym (after_flat n p ts flat) ∙ f.even }

-- a form whose first token is no parenthesis
pub fine_form : (n : ℕ) (s : Span) (p : Piece) (inner ts : List Piece) → is_flat p.kind ≡ true → Wrapped s (p ∷ inner) ts → Level inner → Fine n ts → Inside n inner
fine_form n s p inner ts flat w l f =
    let i = fine_within n s (p ∷ inner) ts w (level_flat p inner flat l) f in
    record { room = i.room; under = i.under; fine = fine_behind i.room p inner flat i.fine }

-- what a form leaves
pub even_form : (m : ℕ) (s : Span) (p : Piece) (inner ts : List Piece) → is_flat p.kind ≡ true → Wrapped s (p ∷ inner) ts → Even m inner → Even (suc m) ts
even_form m s p inner ts flat w e = even_wrapped m s (p ∷ inner) ts w (after_flat m p inner flat ∙ e)

pub even_token : (n : ℕ) (p : Piece) (ts : List Piece) → is_flat p.kind ≡ true → ts ≡ p ∷ [] → Even n ts
even_token n p ts flat e = ap (room_after n) e ∙ after_flat n p [] flat

-- two parts, one behind the other
pub even_both : (n : ℕ) (a b ts : List Piece) → Even n a → Even n b → ts ≡ a ++ b → Even n ts
even_both n a b ts x y e = ap (room_after n) e ∙ even_append n a b x y

pub even_first : (n : ℕ) (p : Piece) (rest ts : List Piece) → is_flat p.kind ≡ true → Even n rest → ts ≡ p ∷ rest → Even n ts
even_first n p rest ts flat x e = ap (room_after n) e ∙ after_flat n p rest flat ∙ x

-- with more room they leave as much more
step_more : (k : Kind) (n r : ℕ) (after : ℕ → Option ℕ) → ((m : ℕ) → after m ≡ Some r → after (suc m) ≡ Some (suc r)) → room_step k n after ≡ Some r → room_step k (suc n) after ≡ Some (suc r)
step_more kinds.Open zero r after more e = absurd cc
step_more kinds.Open (suc n) r after more e = more n e
step_more kinds.Close n r after more e = (let same : suc n + 1 ≡ suc (n + 1) = omega arith in ap after same) ∙ more (n + 1) e
step_more _ n r after more e = more n e

room_more : (ts : List Piece) (n r : ℕ) → room_after n ts ≡ Some r → room_after (suc n) ts ≡ Some (suc r)
room_more [] n r e = (let same : n ≡ r = cc in ap (λ k. Some (suc k)) same)
room_more (p ∷ ts) n r e = step_more p.kind n r (λ m. room_after m ts) (λ m. room_more ts m r) e

pub even_more : (n : ℕ) (ts : List Piece) → Even n ts → Even (suc n) ts
even_more n ts e = room_more ts n n e
