-- The front of a domain or a problem, and the whole of a text.
use Rattle.std.proofs.Common.{◌≡◌, ℕ, ◌+◌, ◌≤◌, List, [], ◌∷◌, ◌++◌, length, drop, Ok, None, inl, refl, sym, ap, ◌∙◌, arith}
use Rattle.std.specs.Prelude.{codes, map}
use Rattle.std.proofs.lemmas.List.{append-nil}
use Rattle.std.proofs.Math.Seq.{drop-length}
use Rattle.plus_tokens.specs.declared.token.Kind.TheVariants as kinds
use Rattle.plus_tokens.specs.First.{first_token}
use Rattle.plus_tokens.proofs.Read as spelling
use Rattle.plus_tokens.specs.Spelling.{IsGapToEnd}
use Rattle.plus_tokens.specs.declared.span.Span.{Span}
use Rattle.plus_tokens.specs.Items.{Piece, tok, items_at, items_of}
use Rattle.plus_parser.specs.Phrases.Grammar.{around}
use Rattle.plus_tokens.proofs.Items.{at_none}
use Rattle.plus_parser.proofs.PhraseLemmas.Tokens.{toks, toks_all}
use Rattle.plus_parser.specs.SpellsDomain.{Framed}
use Rattle.plus_canonical.proofs.Lexes.{Ended, at_close, Any, Read, Reads, Both, both, turn, join, piece, IsToken}
use Rattle.plus_canonical.proofs.Smalls.{IsSmall}
use Rattle.plus_canonical.proofs.Forms.{open_reads, close_reads, name_reads, spaced_behind}
use Rattle.plus_canonical.proofs.Terms.{fixed}
use Rattle.plus_canonical.proofs.Sections.{line_behind}

define_small : IsSmall (codes "define")
define_small = fixed 100 (codes "efine") refl refl refl refl

-- `(define (WORD NAME)` and more
pub record Fronted (w name : List ℕ) (P : List Piece → Type 0) (ts : List Piece) : Type 0 where
  pub first : Span
  pub define : Span
  pub inner : Span
  pub kind : Span
  pub named : Span
  pub close : Span
  pub more : List Piece
  pub more_is : P more
  pub whole : ts ≡ piece kinds.Open (40 ∷ []) first ∷ piece kinds.Name (codes "define") define ∷ piece kinds.Open (40 ∷ []) inner ∷ piece kinds.Name w kind ∷ piece kinds.Name name named
      ∷ piece kinds.Close (41 ∷ []) close ∷ more

abbrev Open : List Piece → Type 0
Open = IsToken kinds.Open (40 ∷ [])

abbrev Word : List ℕ → List Piece → Type 0
Word w = IsToken kinds.Name w

abbrev Close : List Piece → Type 0
Close = IsToken kinds.Close (41 ∷ [])

fronted : (w name : List ℕ) (P : List Piece → Type 0) (ts : List Piece)
    → Both Open (Both (Word (codes "define")) (Both Open (Both (Word w) (Both (Word name) (Both Close P))))) ts → Fronted w name P ts
fronted w name P ts (both a a' o (both b b' d (both c c' i (both e e' k (both f f' n (both g g' z p u6) u5) u4) u3) u2) u1) = record {
  first = o.span;
  define = d.span;
  inner = i.span;
  kind = k.span;
  named = n.span;
  close = z.span;
  more = g';
  more_is = p;
  whole = cc (o.whole, d.whole, i.whole, k.whole, n.whole, z.whole, u1, u2, u3, u4, u5, u6);
}

pub front_reads : {P : List Piece → Type 0} (w name more : List ℕ) → IsSmall w → IsSmall name → Reads Any more P
    → Reads Any ((40 ∷ (codes "define" ++ 32 ∷ [])) ++ (40 ∷ ((w ++ 32 ∷ []) ++ (name ++ (41 ∷ 10 ∷ more))))) (Fronted w name P)
front_reads {P} w name more small named r =
    turn {after = Any} ((40 ∷ (codes "define" ++ 32 ∷ [])) ++ (40 ∷ ((w ++ 32 ∷ []) ++ (name ++ (41 ∷ 10 ∷ more))))) (fronted w name P)
    (join {S = Any} {T = Any} {P = Open} (40 ∷ []) ((codes "define" ++ 32 ∷ []) ++ (40 ∷ ((w ++ 32 ∷ []) ++ (name ++ (41 ∷ 10 ∷ more))))) open_reads
    (join {S = Any} {T = Any} {P = Word (codes "define")} (codes "define" ++ 32 ∷ []) (40 ∷ ((w ++ 32 ∷ []) ++ (name ++ (41 ∷ 10 ∷ more)))) (spaced_behind (codes "define") (name_reads (codes "define") define_small))
    (join {S = Any} {T = Any} {P = Open} (40 ∷ []) ((w ++ 32 ∷ []) ++ (name ++ (41 ∷ 10 ∷ more))) open_reads
    (join {S = Any} {T = Any} {P = Word w} (w ++ 32 ∷ []) (name ++ (41 ∷ 10 ∷ more)) (spaced_behind w (name_reads w small))
    (join {S = Ended} {T = Any} {P = Word name} name (41 ∷ 10 ∷ more) (name_reads name named)
    (join {S = Any} {T = Any} {P = Close} {Q = P} (41 ∷ 10 ∷ []) more (line_behind {P = Close} (41 ∷ []) close_reads) r (λ rest ok. tt))
    (λ rest ok. at_close)) (λ rest ok. tt)) (λ rest ok. tt)) (λ rest ok. tt)) (λ rest ok. tt))

-- the frame around the sections
pub framed : (w name : List ℕ) (P : List Piece → Type 0) (ts : List Piece) (f : Fronted w name P ts) (body : List Piece) (last : Span) → f.more ≡ body ++ piece kinds.Close (41 ∷ []) last ∷ []
    → Framed w (record { name = name; span = f.named }) (around f.first last) body ts
framed w name P ts f body last e = record {
  first = piece kinds.Open (40 ∷ []) f.first;
  define = piece kinds.Name (codes "define") f.define;
  inner = piece kinds.Open (40 ∷ []) f.inner;
  kind = piece kinds.Name w f.kind;
  named = piece kinds.Name name f.named;
  close = piece kinds.Close (41 ∷ []) f.close;
  last = piece kinds.Close (41 ∷ []) last;
  opens = (refl, refl);
  closes = (refl, refl);
  words = ((refl, refl), (refl, refl));
  is_name = refl;
  name_is = refl;
  place = refl;
  whole = f.whole ∙ ap (λ l. piece kinds.Open (40 ∷ []) f.first ∷ piece kinds.Name (codes "define") f.define ∷ piece kinds.Open (40 ∷ []) f.inner ∷ piece kinds.Name w f.kind
      ∷ piece kinds.Name name f.named ∷ piece kinds.Close (41 ∷ []) f.close ∷ l) e;
}

-- ---- a whole text

pub record Whole (P : List Piece → Type 0) (text : List ℕ) : Type 0 where
  pub ts : List Piece
  pub are : P ts
  pub items : items_of text ≡ map tok ts

pub whole_reads : {P : List Piece → Type 0} (text : List ℕ) → Reads Any text P → Whole P text
whole_reads {P} text r =
    let zero_le : 0 ≤ length text = omega arith in
    let x : Read text P text 0 = r text 0 [] zero_le (sym (append-nil text)) tt in
    let stop : 0 + length text ≡ length text = omega arith in
    let gap : IsGapToEnd (drop (length text) text) = inl ([], tt, drop-length text) in
    let none : first_token text (length text) ≡ Ok None = (spelling.none text (length text)).1 gap in
    let le : length text ≤ length text = omega arith in
    let over : items_at text (0 + length text) ≡ [] = ap (items_at text) stop ∙ at_none text (length text) le none in
    record { ts = x.ts; are = x.are; items = x.items ∙ ap (toks x.ts) over ∙ toks_all x.ts }
