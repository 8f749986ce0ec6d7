-- Reading a form behind its opening parenthesis: what is taken is spelled so, and what is spelled so is read.
use Rattle.std.proofs.Common.{◌≡◌, ℕ, suc, ◌<◌, Bool, true, false, cond, List, [], ◌∷◌, ◌++◌, length, Option, Some, None, Ok, Err, refl, sym, ap, ◌∙◌, subst, append_assoc}
use Rattle.std.proofs.lemmas.Bool.{cond-false, cond-true}
use Rattle.std.proofs.lemmas.List.{append-nil}
use Rattle.plus_tokens.specs.declared.span.Span.{Span}
use Rattle.plus_tree.specs.declared.faults.TextFault.TheVariants as faults
use Rattle.plus_tokens.specs.Items.{Piece, Item, tok}
use Rattle.plus_parser.specs.Phrases.Reading.{◌>>=◌, Read, is_open}
use Rattle.plus_parser.specs.Phrases.Words.{is_close}
use Rattle.plus_parser.specs.Phrases.Grammar.{around, Step, until_close, Former, form_step}
use Rattle.plus_parser.specs.Phrases.Spells.{IsOpen, IsClose, Wrapped, Chain, added, with_last, room_after}
use Rattle.plus_parser.proofs.PhraseLemmas.Tokens.{toks, toks_last, enough, bind_ok, ok_is, next_open, wanted, refused, open_kind}
use Rattle.plus_parser.proofs.PhraseLemmas.Level.{Even, Level, even_wrapped, even_open, split_wrapped}
use Rattle.plus_parser.proofs.PhraseLemmas.UntilTakes.{Takes, until_takes}
use Rattle.plus_parser.proofs.PhraseLemmas.UntilAgain.{Again, Levels, until_again}

-- things added one by one at the end are those things
pub added_from : {X : Type 0} (front xs ys : List X) → added with_last front xs ≡ Some ys → front ++ xs ≡ ys
added_from front [] ys e = append-nil front ∙ (let same : front ≡ ys = cc in same)
added_from front (x ∷ xs) ys e = sym (append_assoc front (x ∷ []) xs) ∙ added_from (front ++ x ∷ []) xs ys e

pub added_all : {X : Type 0} (xs ys : List X) → added with_last [] xs ≡ Some ys → xs ≡ ys
added_all xs ys e = added_from [] xs ys e

pub added_last : {X : Type 0} (front xs : List X) → added with_last front xs ≡ Some (front ++ xs)
added_last front [] = ap Some (sym (append-nil front))
added_last front (x ∷ xs) = added_last (front ++ x ∷ []) xs ∙ ap Some (append_assoc front (x ∷ []) xs)

-- what a test let through
pub let_through : {S : Type 0} (b : Bool) (x y : S) → cond b None (Some x) ≡ Some y → (b ≡ false) × (x ≡ y)
let_through true x y e = absurd cc
let_through false x y e = (refl, cc)

pub some_is : {A : Type 0} (x y : A) → (let o : Option A = Some x in o) ≡ Some y → x ≡ y
some_is x y e = cc

module _ {A : Type 0} (P : A → List Piece → Type 0) (room : ℕ) where
  -- what was read behind an opening parenthesis
  pub record FormTook (x : A) (s : Span) (items rest : List Item) : Type 0 where
    pub inner : List Piece
    pub whole : items ≡ toks inner rest
    pub spelled : (first : Piece) → IsOpen first → first.span ≡ s → P x (first ∷ inner)
    pub even : (first : Piece) → IsOpen first → Even room (first ∷ inner)

  abbrev pub FormTakes : Former A → Type 0
  FormTakes read = (s : Span) (items : List Item) (x : A) (rest : List Item) → 0 < room → read s items ≡ Ok (x, rest) → FormTook x s items rest

  abbrev pub FormAgain : Former A → Type 0
  FormAgain read = (x : A) (ts : List Piece) (first : Piece) (inner : List Piece) (rest : List Item) → P x ts → ts ≡ first ∷ inner → Even room ts → read first.span (toks inner rest) ≡ Ok (x, rest)

  abbrev pub Begins : Type 0
  Begins = (x : A) (ts : List Piece) → P x ts → (first : Piece) × (inner : List Piece) × IsOpen first × (ts ≡ first ∷ inner)

  -- a form that was read up to its closing parenthesis
  pub close_took : (r : ℕ) → suc r ≡ room → (x : A) (s : Span) (body : List Piece) (k : Piece) (items rest : List Item) → IsClose k → items ≡ toks body (tok k ∷ rest) → Even r body
      → ((first : Piece) → IsOpen first → first.span ≡ s → Wrapped (around s k.span) body (first ∷ (body ++ k ∷ [])) → P x (first ∷ (body ++ k ∷ [])))
      → FormTook x s items rest
  close_took r under x s body k items rest close whole ev spell =
      record {
        inner = body ++ k ∷ [];
        whole = whole ∙ toks_last body k rest;
        spelled = λ first opens place. spell first opens place (record { first = first; last = k; opens = opens; closes = close; place = (λ i. around (sym place i) k.span); whole = refl });
        even = λ first opens. subst (λ n. Even n (first ∷ (body ++ k ∷ []))) under (even_wrapped r (around first.span k.span) body (first ∷ (body ++ k ∷ [])) (record { first = first; last = k; opens = opens; closes = close; place = refl; whole = refl }) ev);
      }

  -- the tokens behind the first, of which the last closes
  behind : (s : Span) (body ts : List Piece) (w : Wrapped s body ts) (first : Piece) (inner : List Piece) → ts ≡ first ∷ inner → (first ≡ w.first) × (inner ≡ body ++ w.last ∷ [])
  behind s body ts w first inner e = let both : first ∷ inner ≡ w.first ∷ (body ++ w.last ∷ []) = sym e ∙ w.whole in (cc, cc)

  -- a form within its parentheses is read from its first token on
  pub enters : (read : Former A) (x : A) (s : Span) (body ts : List Piece) (w : Wrapped s body ts) (first : Piece) (inner : List Piece) (rest : List Item) → ts ≡ first ∷ inner → Level body → Even room ts
      → ((r : ℕ) → suc r ≡ room → Even r body → read w.first.span (toks body (tok w.last ∷ rest)) ≡ Ok (x, rest))
      → read first.span (toks inner rest) ≡ Ok (x, rest)
  enters read x s body ts w first inner rest e l ev go =
      let b = behind s body ts w first inner e in
      let r = split_wrapped room s body ts w l ev in
      ap (λ (p : Piece). read p.span (toks inner rest)) b.0
      ∙ ap (λ (ps : List Piece). read w.first.span (toks ps rest)) b.1
      ∙ ap (read w.first.span) (sym (toks_last body w.last rest))
      ∙ go r.0 (sym r.1) r.2

  pub form_takes : (read : Former A) → FormTakes read → Takes P with_last (form_step read) room
  unfolding form_step
  form_takes read takes s s' p r r' left e =
      let w = wanted (is_open p.kind) (faults.Form p.span) (read p.span r >>= λ x. Ok (s ++ x.0 ∷ [], x.1)) (s', r') e in
      let a = bind_ok (read p.span r) (λ x. Ok (s ++ x.0 ∷ [], x.1)) (s', r') w.1 in
      let both = ok_is (s ++ a.0.0 ∷ [], a.0.1) (s', r') a.2 in
      let t = takes p.span r a.0.0 a.0.1 (left w.0) a.1 in
      let opens = open_kind p.kind w.0 in
      record {
        thing = a.0.0;
        inner = t.inner;
        whole = t.whole ∙ ap (λ (x : List A × List Item). toks t.inner x.1) both;
        spelled = t.spelled p opens refl;
        adds = ap (λ (x : List A × List Item). Some x.0) both;
        even = t.even p opens;
      }

  pub form_again : (read : Former A) → Begins → FormAgain read → Again P with_last (form_step read) room
  unfolding form_step
  form_again read begins again s s' x ts rest h ev a =
      let b = begins x ts h in
      let same : s ++ x ∷ [] ≡ s' = some_is (s ++ x ∷ []) s' a in
      record {
        first = b.0;
        inner = b.1;
        whole = b.3;
        next = next_open room b.0 (toks b.1 rest) b.2 (even_open room b.0 b.1 b.2 (ap (room_after room) (sym b.3) ∙ ev));
        goes = ap is_close b.2;
        steps =
            cond-true (is_open b.0.kind) (read b.0.span (toks b.1 rest) >>= λ x. Ok (s ++ x.0 ∷ [], x.1)) (Err (faults.Form b.0.span)) (ap is_open b.2)
            ∙ ap (λ (q : Read A). q >>= λ x. Ok (s ++ x.0 ∷ [], x.1)) (again x ts b.0 b.1 rest h b.3 ev)
            ∙ ap (λ (xs : List A). Ok (xs, rest)) same;
      }

-- ---- lists up to the closing parenthesis

module _ {S X : Type 0} (P : X → List Piece → Type 0) (step : Step (List X)) (room : ℕ) (b : Bool) (with : List X → S) (q : Span) where
  -- a list that may stand once
  abbrev pub once_list : List Item → Read S
  once_list rest = cond b (Err (faults.Form q)) (until_close step room (length rest) [] rest >>= λ xs. Ok (with xs.0.0, xs.1))

  pub record ListTook (s' : S) (rest rest' : List Item) : Type 0 where
    pub things : List X
    pub body : List Piece
    pub last : Piece
    pub fresh : b ≡ false
    pub closes : IsClose last
    pub whole : rest ≡ toks body (tok last ∷ rest')
    pub spelled : Chain P things body
    pub even : Even room body
    pub is : with things ≡ s'

  pub list_takes : Takes P with_last step room → (s' : S) (rest rest' : List Item) → once_list rest ≡ Ok (s', rest') → ListTook s' rest rest'
  list_takes takes s' rest rest' e =
      let g = refused b (faults.Form q) (until_close step room (length rest) [] rest >>= λ xs. Ok (with xs.0.0, xs.1)) (s', rest') e in
      let a = bind_ok (until_close step room (length rest) [] rest) (λ xs. Ok (with xs.0.0, xs.1)) (s', rest') g.1 in
      let both = ok_is (with a.0.0.0, a.0.1) (s', rest') a.2 in
      let t = until_takes P with_last step room takes (length rest) [] a.0.0.0 a.0.0.1 rest a.0.1 a.1 in
      record {
        things = a.0.0.0;
        body = t.inner;
        last = t.last;
        fresh = g.0;
        closes = t.closes;
        whole = t.whole ∙ ap (λ (x : S × List Item). toks t.inner (tok t.last ∷ x.1)) both;
        spelled = subst (λ (xs : List X). Chain P xs t.inner) (added_all t.things a.0.0.0 t.adds) t.spelled;
        even = t.even;
        is = ap (λ (x : S × List Item). x.0) both;
      }

  pub list_again : Levels P with_last step room → Again P with_last step room → (xs : List X) (body : List Piece) (last : Piece) (rest : List Item) → b ≡ false → Chain P xs body → Even room body → IsClose last → once_list (toks body (tok last ∷ rest)) ≡ Ok (with xs, rest)
  list_again levels again xs body last rest fresh h ev close =
      let left = toks body (tok last ∷ rest) in
      cond-false b (Err (faults.Form q)) (until_close step room (length left) [] left >>= λ xs. Ok (with xs.0.0, xs.1)) fresh
      ∙ ap (λ (r : Read (List X × Span)). r >>= λ xs. Ok (with xs.0.0, xs.1)) (until_again P with_last step room levels again (length left) [] xs xs body last rest h ev (added_last [] xs) close (enough body last rest))
