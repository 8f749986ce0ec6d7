-- Sections, and the front and the end of a domain or a problem.
use Rattle.std.proofs.Common.{◌≡◌, ℕ, suc, ◌+◌, ◌-◌, ◌<◌, ◌≤◌, Bool, true, false, cond, List, [], ◌∷◌, ◌++◌, length, Option, Some, None, Ok, Err, refl, sym, ap, ◌∙◌, subst, ⊎_elim, length-append, arith, add-one}
use Rattle.std.specs.Prelude.{codes}
use Rattle.std.proofs.lemmas.Bool.{cond-false, cond-true}
use Rattle.plus_tokens.specs.declared.span.Span.{Span}
use Rattle.plus_tree.specs.declared.names.Spelled.{Spelled}
use Rattle.plus_tree.specs.declared.faults.TextFault.TheVariants as faults
use Rattle.plus_tokens.specs.Items.{Piece, Item, tok, bad}
use Rattle.plus_parser.specs.Phrases.Reading.{◌>>=◌, Read, next_of, is_open}
use Rattle.plus_parser.specs.Phrases.Words.{is_close, is_name, is_word}
use Rattle.plus_parser.specs.Phrases.Grammar.{around, spelled_of, open_of, close_of, name_of, word_of}
use Rattle.plus_parser.specs.ReadingDomain.{Sectioner, section_step, front_of, end_of}
use Rattle.plus_parser.specs.Phrases.Spells.{IsOpen, IsClose, IsName, IsWord, Wrapped, room_after}
use Rattle.plus_parser.specs.SpellsDomain.{Framed}
use Rattle.plus_parser.proofs.PhraseLemmas.Tokens.{toks, toks_last, bind_ok, ok_is, next_ok, next_open, wanted, refused, open_kind, close_kind, token_takes, token_again}
use Rattle.plus_parser.proofs.PhraseLemmas.Names.{name_kind, word_is, word_fits}
use Rattle.plus_parser.proofs.PhraseLemmas.Level.{Even, Level, after_none, level_wrapped, split_wrapped, even_wrapped, last_even}
use Rattle.plus_parser.proofs.PhraseLemmas.Flat.{IsFlat, name_flat, flat_next, flat_level, open_room, close_room}
use Rattle.plus_parser.proofs.PhraseLemmas.UntilTakes.{Takes}
use Rattle.plus_parser.proofs.PhraseLemmas.UntilAgain.{Again, Levels}
use Rattle.plus_parser.proofs.PhraseLemmas.Starts.{open_again, close_again}

pub name_taken : (room : ℕ) (p : Piece) (items rest : List Item) → name_of room items ≡ Ok (p, rest) → IsName p × (items ≡ tok p ∷ rest)
name_taken room p items rest e = let t = token_takes (λ q. is_name q.kind) room p items rest e in (name_kind p.kind t.fits, t.whole)

pub close_taken : (room : ℕ) (p : Piece) (items rest : List Item) → close_of room items ≡ Ok (p, rest) → IsClose p × (items ≡ tok p ∷ rest)
close_taken room p items rest e =
    let t = token_takes (λ q. is_close q.kind) room p items rest e in (close_kind p.kind t.fits, t.whole)

pub name_read : (room : ℕ) (p : Piece) (rest : List Item) → IsName p → name_of room (tok p ∷ rest) ≡ Ok (p, rest)
name_read room p rest e = token_again (λ q. is_name q.kind) room p rest (ap is_name e) (λ o. absurd (let no : false ≡ true = sym (ap is_open e) ∙ o in cc))

pub word_read : (w : List ℕ) (room : ℕ) (p : Piece) (rest : List Item) → IsWord w p → word_of w room (tok p ∷ rest) ≡ Ok (p, rest)
word_read w room p rest e = token_again (is_word w) room p rest (word_fits w p e) (λ o. absurd (let no : false ≡ true = sym (ap is_open e.0) ∙ o in cc))

module _ {S X : Type 0} (P : X → List Piece → Type 0) (add : S → X → Option S) (read : Sectioner S) where
  -- what a section took behind its keyword
  pub record PartTook (r : ℕ) (s s' : S) (front : Span) (q : Piece) (rest rest' : List Item) : Type 0 where
    pub thing : X
    pub body : List Piece
    pub last : Piece
    pub flat : IsFlat q
    pub closes : IsClose last
    pub whole : rest ≡ toks body (tok last ∷ rest')
    pub even : Even r body
    pub spelled : (ts : List Piece) → Wrapped (around front last.span) (q ∷ body) ts → P thing ts
    pub adds : add s thing ≡ Some s'

  abbrev pub PartTakes : Type 0
  PartTakes = (r : ℕ) (s s' : S) (front : Span) (q : Piece) (rest rest' : List Item) → read r s front q rest ≡ Ok (s', rest') → PartTook r s s' front q rest rest'

  pub section_takes : (full : S → Bool) → PartTakes → (room : ℕ) → Takes P add (section_step full read room) room
  unfolding section_step
  section_takes full takes room s s' p r r' left e =
      let go = next_of (room - 1) r >>= λ q. read (room - 1) s p.span q.0 q.1 in
      let w = wanted (is_open p.kind) (faults.Form p.span) (cond (full s) (Err (faults.Form p.span)) go) (s', r') e in
      let g = refused (full s) (faults.Form p.span) go (s', r') w.1 in
      let a = bind_ok (next_of (room - 1) r) (λ q. read (room - 1) s p.span q.0 q.1) (s', r') g.1 in
      let q = a.0.0 in
      let t = takes (room - 1) s s' p.span q a.0.1 r' a.2 in
      let opens = open_kind p.kind w.0 in
      let some : 0 < room = left w.0 in
      let under : suc (room - 1) ≡ room = omega (arith, some) in
      let inner = (q ∷ t.body) ++ t.last ∷ [] in
      let wrapped : Wrapped (around p.span t.last.span) (q ∷ t.body) (p ∷ inner) = record { first = p; last = t.last; opens = opens; closes = t.closes; place = refl; whole = refl } in
      record {
        thing = t.thing;
        inner = inner;
        whole = next_ok (room - 1) r q a.0.1 a.1 ∙ ap (λ (is : List Item). tok q ∷ is) (t.whole ∙ toks_last t.body t.last r');
        spelled = t.spelled (p ∷ inner) wrapped;
        adds = t.adds;
        even = subst (λ n. Even n (p ∷ inner)) under (even_wrapped (room - 1) (around p.span t.last.span) (q ∷ t.body) (p ∷ inner) wrapped (t.flat.room (room - 1) t.body ∙ t.even));
      }

  -- how a spelled section looks
  pub record Shape (ts : List Piece) : Type 0 where
    pub span : Span
    pub keyword : Piece
    pub body : List Piece
    pub wrapped : Wrapped span (keyword ∷ body) ts
    pub flat : IsFlat keyword
    pub level : Level body

  abbrev pub Shapes : Type 0
  Shapes = (x : X) (ts : List Piece) → P x ts → Shape ts

  abbrev pub PartAgain : Shapes → Type 0
  PartAgain shape = (r : ℕ) (s s' : S) (x : X) (ts : List Piece) (rest : List Item) (h : P x ts) → Even r (shape x ts h).body → add s x ≡ Some s'
      → read r s (shape x ts h).wrapped.first.span (shape x ts h).keyword (toks (shape x ts h).body (tok (shape x ts h).wrapped.last ∷ rest)) ≡ Ok (s', rest)

  pub section_levels : Shapes → (full : S → Bool) (room : ℕ) → Levels P add (section_step full read room) room
  section_levels shape full room x ts h =
      let a = shape x ts h in level_wrapped a.span (a.keyword ∷ a.body) ts a.wrapped (flat_level a.keyword a.body a.flat a.level)

  pub section_again : (full : S → Bool) → ((s s' : S) (x : X) → add s x ≡ Some s' → full s ≡ false) → (shape : Shapes) → PartAgain shape → (room : ℕ) → Again P add (section_step full read room) room
  unfolding section_step
  section_again full fresh shape again room s s' x ts rest h ev e =
      let a = shape x ts h in
      let o = a.wrapped.first in
      let k = a.keyword in
      let r = split_wrapped room a.span (k ∷ a.body) ts a.wrapped (flat_level k a.body a.flat a.level) ev in
      let some : 0 < room = omega (arith, r.1) in
      let less : r.0 ≡ room - 1 = omega (arith, r.1) in
      let inside : Even (room - 1) a.body = subst (λ n. Even n a.body) less (sym (a.flat.room r.0 a.body) ∙ r.2) in
      let left = toks a.body (tok a.wrapped.last ∷ rest) in
      let inner = (k ∷ a.body) ++ a.wrapped.last ∷ [] in
      let go = λ (is : List Item). next_of (room - 1) is >>= λ q. read (room - 1) s o.span q.0 q.1 in
      record {
        first = o;
        inner = inner;
        whole = a.wrapped.whole;
        next = next_open room o (toks inner rest) a.wrapped.opens some;
        goes = ap is_close a.wrapped.opens;
        steps =
            cond-true (is_open o.kind) (cond (full s) (Err (faults.Form o.span)) (go (toks inner rest))) (Err (faults.Form o.span)) (ap is_open a.wrapped.opens)
            ∙ cond-false (full s) (Err (faults.Form o.span)) (go (toks inner rest)) (fresh s s' x e)
            ∙ ap go (ap (λ (is : List Item). tok k ∷ is) (sym (toks_last a.body a.wrapped.last rest)))
            ∙ ap (λ (q : Read Piece). q >>= λ q. read (room - 1) s o.span q.0 q.1) (flat_next (room - 1) k left a.flat)
            ∙ again (room - 1) s s' x ts rest h inside e;
      }

-- ---- the front and the end

pub end_takes : (items left : List Item) → end_of items ≡ Ok left → items ≡ []
unfolding end_of
end_takes [] left e = refl
end_takes (bad f ∷ is) left e = absurd cc
end_takes (tok p ∷ is) left e = absurd cc

pub end_again : end_of [] ≡ Ok []
unfolding end_of
end_again = refl

-- the front of a domain or a problem
pub record FrontTook (w : List ℕ) (x : Spelled × Span) (items rest : List Item) : Type 0 where
  pub first : Piece
  pub define : Piece
  pub inner : Piece
  pub kind : Piece
  pub named : Piece
  pub close : Piece
  pub opens : IsOpen first × IsOpen inner
  pub closes : IsClose close
  pub words : IsWord (codes "define") define × IsWord w kind
  pub is_name : IsName named
  pub is : x ≡ (spelled_of named, first.span)
  pub whole : items ≡ toks (first ∷ define ∷ inner ∷ kind ∷ named ∷ close ∷ []) rest

pub front_takes : (w : List ℕ) (room : ℕ) (x : Spelled × Span) (items rest : List Item) → front_of w room items ≡ Ok (x, rest) → FrontTook w x items rest
unfolding front_of
front_takes w room x items rest e =
    let f4 = λ (o : Piece) (n : Piece × List Item). close_of room n.1 >>= λ e. Ok ((spelled_of n.0, o.span), e.1) in
    let f3 = λ (o : Piece) (k : Piece × List Item). name_of room k.1 >>= f4 o in
    let f2 = λ (o : Piece) (i : Piece × List Item). word_of w room i.1 >>= f3 o in
    let f1 = λ (o : Piece) (d : Piece × List Item). open_of (suc room) d.1 >>= f2 o in
    let a = bind_ok (open_of (suc (suc room)) items) (λ o. word_of (codes "define") (suc room) o.1 >>= f1 o.0) (x, rest) e in
    let b = bind_ok (word_of (codes "define") (suc room) a.0.1) (f1 a.0.0) (x, rest) a.2 in
    let c = bind_ok (open_of (suc room) b.0.1) (f2 a.0.0) (x, rest) b.2 in
    let d = bind_ok (word_of w room c.0.1) (f3 a.0.0) (x, rest) c.2 in
    let n = bind_ok (name_of room d.0.1) (f4 a.0.0) (x, rest) d.2 in
    let k = bind_ok (close_of room n.0.1) (λ e. Ok ((spelled_of n.0.0, a.0.0.span), e.1)) (x, rest) n.2 in
    let both = ok_is ((spelled_of n.0.0, a.0.0.span), k.0.1) (x, rest) k.2 in
    let ta = token_takes (λ q. is_open q.kind) (suc (suc room)) a.0.0 items a.0.1 a.1 in
    let tb = token_takes (is_word (codes "define")) (suc room) b.0.0 a.0.1 b.0.1 b.1 in
    let tc = token_takes (λ q. is_open q.kind) (suc room) c.0.0 b.0.1 c.0.1 c.1 in
    let td = token_takes (is_word w) room d.0.0 c.0.1 d.0.1 d.1 in
    let tn = name_taken room n.0.0 d.0.1 n.0.1 n.1 in
    let tk = close_taken room k.0.0 n.0.1 k.0.1 k.1 in
    let cons = λ (p : Piece) (is : List Item). let all : List Item = tok p ∷ is in all in
    record {
      first = a.0.0;
      define = b.0.0;
      inner = c.0.0;
      kind = d.0.0;
      named = n.0.0;
      close = k.0.0;
      opens = (open_kind a.0.0.kind ta.fits, open_kind c.0.0.kind tc.fits);
      closes = tk.0;
      words = (word_is (codes "define") b.0.0 tb.fits, word_is w d.0.0 td.fits);
      is_name = tn.0;
      is = sym (ap (λ (y : (Spelled × Span) × List Item). y.0) both);
      whole =
          ta.whole ∙ ap (cons a.0.0) (tb.whole ∙ ap (cons b.0.0) (tc.whole ∙ ap (cons c.0.0) (td.whole ∙ ap (cons d.0.0) (tn.1 ∙ ap (cons n.0.0) (tk.1 ∙ ap (λ (y : (Spelled × Span) × List Item). tok k.0.0 ∷ y.1) both)))));
    }

module _ (w : List ℕ) (name : Spelled) (span : Span) (body ts : List Piece) (h : Framed w name span body ts) where
  pub frame_room : (room : ℕ) → room_after (suc (suc room)) ts ≡ room_after (suc room) (body ++ h.last ∷ [])
  frame_room room =
      ap (room_after (suc (suc room))) h.whole
      ∙ open_room h.first (suc room) (h.define ∷ h.inner ∷ h.kind ∷ h.named ∷ h.close ∷ (body ++ h.last ∷ [])) h.opens.0
      ∙ (name_flat h.define h.words.0.0).room (suc room) (h.inner ∷ h.kind ∷ h.named ∷ h.close ∷ (body ++ h.last ∷ []))
      ∙ open_room h.inner room (h.kind ∷ h.named ∷ h.close ∷ (body ++ h.last ∷ [])) h.opens.1
      ∙ (name_flat h.kind h.words.1.0).room room (h.named ∷ h.close ∷ (body ++ h.last ∷ []))
      ∙ (name_flat h.named h.is_name).room room (h.close ∷ (body ++ h.last ∷ []))
      ∙ close_room h.close room (body ++ h.last ∷ []) h.closes.0
      ∙ ap (λ n. room_after n (body ++ h.last ∷ [])) (add-one room)

  pub frame_even : (room : ℕ) → Even (suc room) body → Even (suc (suc room)) ts
  frame_even room ev = frame_room room ∙ last_even (suc room) body h.last h.closes.1 ev

  pub body_even : (room : ℕ) → Level body → Even (suc (suc room)) ts → Even (suc room) body
  body_even room level ev =
      ⊎_elim (λ e. e) (λ n. absurd (let no : Some (suc (suc room)) ≡ None = sym ev ∙ frame_room room ∙ after_none (suc room) body (h.last ∷ []) n in cc)) (level (suc room))

  pub body_short : length body ≤ length ts
  body_short =
      let all : length ts ≡ length (h.first ∷ h.define ∷ h.inner ∷ h.kind ∷ h.named ∷ h.close ∷ (body ++ h.last ∷ [])) = ap length h.whole in
      let split : length (body ++ h.last ∷ []) ≡ length body + 1 = length-append body (h.last ∷ []) in
      omega (arith, all, split)

  abbrev pub frame_left : List Item
  frame_left = toks body (tok h.last ∷ [])

  pub frame_shape : toks ts [] ≡ tok h.first ∷ tok h.define ∷ tok h.inner ∷ tok h.kind ∷ tok h.named ∷ tok h.close ∷ frame_left
  frame_shape =
      ap (λ (ps : List Piece). toks ps []) h.whole
      ∙ ap (λ (is : List Item). tok h.first ∷ tok h.define ∷ tok h.inner ∷ tok h.kind ∷ tok h.named ∷ tok h.close ∷ is) (sym (toks_last body h.last []))

  pub front_again : (room : ℕ) → front_of w room (tok h.first ∷ tok h.define ∷ tok h.inner ∷ tok h.kind ∷ tok h.named ∷ tok h.close ∷ frame_left) ≡ Ok ((spelled_of h.named, h.first.span), frame_left)
  unfolding front_of
  front_again room =
      rw (open_again (suc (suc room)) h.first (tok h.define ∷ tok h.inner ∷ tok h.kind ∷ tok h.named ∷ tok h.close ∷ frame_left) h.opens.0 (omega arith), word_read (codes "define") (suc room) h.define (tok h.inner ∷ tok h.kind ∷ tok h.named ∷ tok h.close ∷ frame_left) h.words.0, open_again (suc room) h.inner (tok h.kind ∷ tok h.named ∷ tok h.close ∷ frame_left) h.opens.1 (omega arith), word_read w room h.kind (tok h.named ∷ tok h.close ∷ frame_left) h.words.1, name_read room h.named (tok h.close ∷ frame_left) h.is_name, close_again room h.close frame_left h.closes.0) refl

-- a front, a body and a last parenthesis are a frame
pub framed : (w : List ℕ) (x : Spelled × Span) (items rest : List Item) (t : FrontTook w x items rest) (body : List Piece) (last : Piece) → IsClose last
    → Framed w x.0 (around x.1 last.span) body (t.first ∷ t.define ∷ t.inner ∷ t.kind ∷ t.named ∷ t.close ∷ (body ++ last ∷ []))
framed w x items rest t body last closes =
    record {
      first = t.first;
      define = t.define;
      inner = t.inner;
      kind = t.kind;
      named = t.named;
      close = t.close;
      last = last;
      opens = t.opens;
      closes = (t.closes, closes);
      words = t.words;
      is_name = t.is_name;
      name_is = ap (λ (y : Spelled × Span). y.0) t.is;
      place = ap (λ (y : Spelled × Span). around y.1 last.span) t.is;
      whole = refl;
    }
