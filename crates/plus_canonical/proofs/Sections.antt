-- Sections read again: a keyword with its members, on a line.
use Rattle.std.proofs.Common.{◌≡◌, ℕ, suc, List, [], ◌∷◌, ◌++◌, Option, Some, None, refl, sym, ap, ◌∙◌, subst, append_assoc, true, arith}
use Rattle.std.specs.Prelude.{map, unwrap_or, option_and_then}
use Rattle.plus_tokens.specs.declared.token.Kind.TheVariants as kinds
use Rattle.plus_tokens.specs.declared.span.Span.{Span}
use Rattle.plus_tree.specs.declared.names.Spelled.{Spelled}
use Rattle.plus_tokens.specs.Items.{Piece}
use Rattle.plus_parser.specs.Phrases.Spells.{room_after, Wrapped, Chain, added}
use Rattle.plus_parser.specs.SpellsDomain.{SpellsRequirement}
use Rattle.plus_printer.specs.Words.{word, spaced}
use Rattle.plus_printer.specs.Canon.{section, keyword_text}
use Rattle.plus_canonical.specs.Same.{bare_spelled}
use Rattle.plus_canonical.proofs.Lexes.{Ended, Any, Reads, Both, turn, join, piece, Nothing, line_reads, none_reads}
use Rattle.plus_parser.proofs.PhraseLemmas.Level.{Level, is_flat, level_at, level_none, level_flat, level_wrapped}
use Rattle.plus_canonical.proofs.Smalls.{Fine, fine_form, even_token, IsSmall, AreLexical, keyword_small, lexical_at}
use Rattle.plus_canonical.proofs.Forms.{head_even, keyword_reads, spaced_before, after_both, HeadForm, head_reads, Again, AllOf, spaced_leads, spaced_again}

-- ---- parts that are added

-- these tokens are parts that lead from what was found to what is found then
pub record Steps (S X : Type 0) (spells : X → List Piece → Type 0) (add : S → X → Option S) (old new : S) (ts : List Piece) : Type 0 where
  pub parts : List X
  pub spelled : Chain spells parts ts
  pub leads : added add old parts ≡ Some new

chain_append : (X : Type 0) (spells : X → List Piece → Type 0) (xs ys : List X) (a b : List Piece) → Chain spells xs a → Chain spells ys b → Chain spells (xs ++ ys) (a ++ b)
chain_append X spells [] ys a b x y = subst (Chain spells ys) (sym (ap (λ l. l ++ b) x)) y
chain_append X spells (z ∷ xs) ys a b (front, back, one, more, e) y =
    (front, back ++ b, one, chain_append X spells xs ys back b more y, ap (λ l. l ++ b) e ∙ append_assoc front back b)

added_append : (S X : Type 0) (add : S → X → Option S) (xs ys : List X) (s t u : S) → added add s xs ≡ Some t → added add t ys ≡ Some u → added add s (xs ++ ys) ≡ Some u
added_append S X add [] ys s t u e f = let same : s ≡ t = cc in subst (λ m. added add m ys ≡ Some u) (sym same) f
added_append S X add (x ∷ xs) ys s t u e f = next (add s x) (λ m g. added_append S X add xs ys m t u g f) e where
  next : (r : Option S) → ((m : S) → added add m xs ≡ Some t → added add m (xs ++ ys) ≡ Some u) → option_and_then (λ m. added add m xs) r ≡ Some t
      → option_and_then (λ m. added add m (xs ++ ys)) r ≡ Some u
  next (Some m) more e = more m e
  next None more e = absurd cc

pub steps_then : (S X : Type 0) (spells : X → List Piece → Type 0) (add : S → X → Option S) (s t u : S) (a b : List Piece)
    → Steps S X spells add s t a → Steps S X spells add t u b → Steps S X spells add s u (a ++ b)
steps_then S X spells add s t u a b x y = record {
  parts = x.parts ++ y.parts;
  spelled = chain_append X spells x.parts y.parts a b x.spelled y.spelled;
  leads = added_append S X add x.parts y.parts s t u x.leads y.leads;
}

pub no_steps : (S X : Type 0) (spells : X → List Piece → Type 0) (add : S → X → Option S) (s : S) → Steps S X spells add s s []
no_steps S X spells add s = record { parts = []; spelled = refl; leads = refl }

pub one_step : (S X : Type 0) (spells : X → List Piece → Type 0) (add : S → X → Option S) (s t : S) (x : X) (ts : List Piece) → spells x ts → add s x ≡ Some t → Steps S X spells add s t ts
one_step S X spells add s t x ts is e = record {
  parts = x ∷ [];
  spelled = (ts, [], is, refl, sym (append_none ts));
  leads = ap (option_and_then (λ m. added add m [])) e;
}
  where
    append_none : (l : List Piece) → l ++ [] ≡ l
    append_none [] = refl
    append_none (z ∷ zs) = ap (λ l. z ∷ l) (append_none zs)

-- ---- a section on a line

-- a line end behind
pub line_behind : {P : List Piece → Type 0} (bytes : List ℕ) → Reads Any bytes P → Reads Any (bytes ++ 10 ∷ []) P
line_behind {P} bytes r = turn {P = Both P Nothing} {Q = P} (bytes ++ 10 ∷ []) after_both (join {S = Any} {T = Any} {P = P} {Q = Nothing} bytes (10 ∷ []) r line_reads (λ rest ok. tt))

pub section_reads : {B : List Piece → Type 0} (key body : List ℕ) → IsSmall key → Reads Ended body B → ((rest : List ℕ) → Ended rest → Ended (body ++ rest))
    → Reads Any (32 ∷ 40 ∷ ((58 ∷ key) ++ (body ++ (41 ∷ 10 ∷ [])))) (HeadForm kinds.Keyword (58 ∷ key) B)
section_reads {B} key body small r leads =
    let P : List Piece → Type 0 = HeadForm kinds.Keyword (58 ∷ key) B in
    let bytes : List ℕ = 40 ∷ ((58 ∷ key) ++ (body ++ 41 ∷ [])) in
    let same : ((58 ∷ key) ++ (body ++ 41 ∷ [])) ++ 10 ∷ [] ≡ (58 ∷ key) ++ (body ++ (41 ∷ 10 ∷ [])) =
    append_assoc (58 ∷ key) (body ++ 41 ∷ []) (10 ∷ []) ∙ ap (λ l. (58 ∷ key) ++ l) (append_assoc body (41 ∷ []) (10 ∷ [])) in
    subst (λ l. Reads Any (32 ∷ 40 ∷ l) P) same
    (spaced_before {S = Any} {P = P} (bytes ++ 10 ∷ [])
    (line_behind {P = P} bytes (head_reads {S = Ended} {k = kinds.Keyword} {w = 58 ∷ key} {B = B} (58 ∷ key) body (keyword_reads key small) r leads)))

-- what a section gives: nothing, or these members where none were found before
abbrev pub Sections : (S X Part : Type 0) (spells : Part → List Piece → Type 0) (add : S → Part → Option S) (get : S → Option (List X)) (put : S → Option (List X) → S) → List X → List Piece → Type 0
Sections S X Part spells add get put ys ts =
    (s : S) → get s ≡ None → (o : Option (List X)) × (unwrap_or o [] ≡ ys) × Steps S Part spells add s (put s o) ts

-- a section where it has a member, and nothing where it has none
module _ (m : ℕ) (S X Part : Type 0) (spells : Part → List Piece → Type 0) (add : S → Part → Option S) (get : S → Option (List X)) (put : S → Option (List X) → S)
    (one : X → List Piece → Type 0) (bare : X → X) (part : List X → Part) (key : List ℕ)
    (spelled : (ys : List X) (s at : Span) (body ts : List Piece) → Wrapped s (piece kinds.Keyword (58 ∷ key) at ∷ body) ts → Chain one ys body → spells (part ys) ts)
    (adds : (s : S) (ys : List X) → get s ≡ None → add s (part ys) ≡ Some (put s (Some ys)))
    (keeps : (s : S) → get s ≡ None → put s None ≡ s) where
  some_made : (xs : List X) (ts : List Piece) → HeadForm kinds.Keyword (58 ∷ key) (Again m (List X) (Chain one) (map bare) xs) ts
      → Again (suc m) (List X) (Sections S X Part spells add get put) (map bare) xs ts
  some_made xs ts f = record {
    again = f.body_is.again;
    spelled = λ s none. (
      Some f.body_is.again,
      refl,
      one_step S Part spells add s (put s (Some f.body_is.again)) (part f.body_is.again) ts (spelled f.body_is.again f.span f.at f.body ts f.wrapped f.body_is.spelled)
          (adds s f.body_is.again none),
    );
    even = head_even m ts f refl f.body_is.even;
    same = f.body_is.same;
  }

  none_made : (ts : List Piece) → Nothing ts → Again (suc m) (List X) (Sections S X Part spells add get put) (map bare) [] ts
  none_made ts e = record {
    again = [];
    spelled = λ s none. (
      None,
      refl,
      subst (Steps S Part spells add s (put s None)) (sym e)
          (subst (λ t. Steps S Part spells add s t []) (sym (keeps s none)) (no_steps S Part spells add s)),
    );
    even = ap (room_after (suc m)) e;
    same = refl;
  }

  pub section_none : Reads Any [] (Again (suc m) (List X) (Sections S X Part spells add get put) (map bare) [])
  section_none = turn {after = Any} [] none_made (none_reads Any)

  pub section_some : (f : X → List ℕ) (xs : List X) → IsSmall key → AllOf (λ x. Reads Ended (f x) (Again m X one bare x)) xs
      → Reads Any (32 ∷ 40 ∷ ((58 ∷ key) ++ (spaced f xs ++ (41 ∷ 10 ∷ [])))) (Again (suc m) (List X) (Sections S X Part spells add get put) (map bare) xs)
  section_some f xs small all =
      turn {after = Any} (32 ∷ 40 ∷ ((58 ∷ key) ++ (spaced f xs ++ (41 ∷ 10 ∷ [])))) (some_made xs)
      (section_reads key (spaced f xs) small (spaced_again m X one bare f xs all) (spaced_leads X f xs))

  pub section_again : (f : X → List ℕ) (xs : List X) → IsSmall key → AllOf (λ x. Reads Ended (f x) (Again m X one bare x)) xs
      → Reads Any (section (32 ∷ 40 ∷ 58 ∷ key) f xs) (Again (suc m) (List X) (Sections S X Part spells add get put) (map bare) xs)
  unfolding section word
  section_again f [] small all = section_none
  section_again f (x ∷ xs) small all = section_some f (x ∷ xs) small all

-- ---- requirements

abbrev pub RequirementAgain : ℕ → Spelled → Type 0
RequirementAgain n x = Reads Ended (keyword_text x) (Again n Spelled SpellsRequirement bare_spelled x)

pub requirement_reads : (n : ℕ) (x : Spelled) → IsSmall x.name → RequirementAgain n x
unfolding word keyword_text
requirement_reads n x small = turn {after = Ended} (keyword_text x) (λ ts t. record {
  again = record { name = x.name; span = t.span };
  spelled = (piece kinds.Keyword (58 ∷ x.name) t.span, refl, refl, t.whole);
  even = even_token n (piece kinds.Keyword (58 ∷ x.name) t.span) ts refl t.whole;
  same = refl;
}) (keyword_reads x.name small)

pub requirement_again : (n : ℕ) (x : Spelled) (ts : List Piece) → AreLexical ts → SpellsRequirement x ts → RequirementAgain n x
requirement_again n x ts l (p, is, e, whole) =
    let lex : AreLexical (p ∷ []) = lexical_at ts (p ∷ []) whole l in
    requirement_reads n x (subst (λ (y : Spelled). IsSmall y.name) (sym e) (keyword_small p lex.0 is))

pub requirement_level : (x : Spelled) (ts : List Piece) → SpellsRequirement x ts → Level ts
requirement_level x ts (p, is, e, whole) = level_at ts (p ∷ []) whole (level_flat p [] (ap is_flat is) level_none)

-- ---- what stands in a section

pub section_inside : (n : ℕ) (s : Span) (p : Piece) (body ts : List Piece) → is_flat p.kind ≡ true → Wrapped s (p ∷ body) ts → Level body → Fine (suc n) ts → Fine n body
section_inside n s p body ts flat w l f =
    let i = fine_form (suc n) s p body ts flat w l f in
    let same : i.room ≡ n = omega (arith, i.under) in
    subst (λ m. Fine m body) same i.fine

pub section_level : (s : Span) (p : Piece) (body ts : List Piece) → is_flat p.kind ≡ true → Wrapped s (p ∷ body) ts → Level body → Level ts
section_level s p body ts flat w l = level_wrapped s (p ∷ body) ts w (level_flat p body flat l)
