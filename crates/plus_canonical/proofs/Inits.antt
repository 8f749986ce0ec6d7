-- The members of `:init` read again.
use Rattle.std.proofs.Common.{◌≡◌, ℕ, suc, true, List, [], ◌∷◌, ◌++◌, refl, ap, ◌∙◌, subst}
use Rattle.std.specs.Prelude.{codes}
use Rattle.plus_tokens.specs.declared.token.Kind.TheVariants as kinds
use Rattle.plus_tokens.specs.declared.token.Op.TheVariants.{Equal}
use Rattle.plus_tokens.specs.declared.span.Span.{Span}
use Rattle.plus_tree.specs.declared.terms.Use.{Use}
use Rattle.plus_tree.specs.declared.terms.Literal.{Literal}
use Rattle.plus_tree.specs.declared.trees.Init.{Init}
use Rattle.plus_tree.specs.declared.trees.Init.TheVariants.{Holds, Absent, Value, At, AtNot}
use Rattle.plus_parser.specs.declared.phrases.words.Allowed.{Allowed}
use Rattle.plus_parser.specs.declared.phrases.words.Allowed.TheVariants.{Terms, Names}
use Rattle.plus_tokens.specs.Items.{Piece}
use Rattle.plus_parser.specs.Phrases.Spells.{Wrapped, SpellsUse, IsNumber}
use Rattle.plus_parser.specs.SpellsProblem.{SpellsNot, IsTime, SpellsTimed, SpellsInit}
use Rattle.plus_printer.specs.Words.{word, use_text, literal_text}
use Rattle.plus_printer.specs.Canon.{absent_text, timed_text, init_text}
use Rattle.plus_canonical.specs.Same.{no_span, bare_use, bare_literal, bare_init}
use Rattle.plus_canonical.proofs.Lexes.{Ended, Reads, turn, piece}
use Rattle.plus_parser.proofs.PhraseLemmas.Level.{Level, is_flat, level_none, level_flat, level_append, level_wrapped, level_use, number_flat}
use Rattle.plus_canonical.proofs.Smalls.{IsSmall, AreLexical, Fine, Inside, fine_split, fine_behind, fine_form}
use Rattle.plus_canonical.proofs.Forms.{head_even, name_reads, op_reads, loosen, Again}
use Rattle.plus_canonical.proofs.Pairs.{pair_even, PairForm, pair_reads, one_reads}
use Rattle.plus_canonical.proofs.Terms.{fixed, UseAgain, use_again}
use Rattle.plus_canonical.proofs.Literals.{SpellsNumber, GoodLiteral, literal_good, literal_again, GoodTime, time_good, SpellsTime, time_again}
use Rattle.plus_canonical.proofs.Conds.{not_small}

abbrev pub InitAgain : ℕ → Init → Type 0
InitAgain n x = Reads Ended (init_text x) (Again n Init SpellsInit bare_init x)

pub holds_again : (n : ℕ) (u : Use) → UseAgain n Names u → InitAgain n (Holds u)
holds_again n u r = turn {after = Ended} (use_text u) (λ ts a. record {
  again = Holds a.again;
  spelled = a.spelled;
  even = a.even;
  same = ap (λ v. Holds v) a.same;
}) (loosen (use_text u) r)

-- ---- what is false

-- a negated atom, somewhere
abbrev SpellsAbsent : Allowed → Use → List Piece → Type 0
SpellsAbsent allowed u ts = (place : Span) × SpellsNot allowed u place ts

abbrev pub AbsentAgain : ℕ → Allowed → Use → Type 0
AbsentAgain n allowed u = Reads Ended (absent_text u) (Again n Use (SpellsAbsent allowed) bare_use u)

pub not_again : (m : ℕ) (allowed : Allowed) (u : Use) → UseAgain m allowed u → AbsentAgain (suc m) allowed u
unfolding word
not_again m allowed u r = turn {after = Ended} (absent_text u) (λ ts f. record {
  again = f.body_is.again;
  spelled = (f.span, (piece kinds.Name (codes "not") f.at, f.body, (refl, refl), f.wrapped, f.body_is.spelled));
  even = head_even m ts f refl f.body_is.even;
  same = f.body_is.same;
}) (loosen (absent_text u) (one_reads (codes "not") (use_text u) (name_reads (codes "not") not_small) (loosen (use_text u) r)))

pub not_level : (allowed : Allowed) (u : Use) (s : Span) (ts : List Piece) → SpellsNot allowed u s ts → Level ts
not_level allowed u s ts (a, inner, is, wrapped, spelled) = level_wrapped s (a ∷ inner) ts wrapped (level_flat a inner (ap is_flat is.0) (level_use allowed u inner spelled))

absent_again : (n : ℕ) (allowed : Allowed) (u : Use) (s : Span) (ts : List Piece) → Fine n ts → SpellsNot allowed u s ts → AbsentAgain n allowed u
absent_again n allowed u s ts l (a, inner, is, wrapped, spelled) =
    let i = fine_form n s a inner ts (ap is_flat is.0) wrapped (level_use allowed u inner spelled) l in
    subst (λ m. AbsentAgain m allowed u) i.under (not_again i.room allowed u (use_again i.room allowed u inner i.fine spelled))

pub false_again : (n : ℕ) (u : Use) (s : Span) → AbsentAgain n Names u → InitAgain n (Absent u s)
false_again n u s r = turn {after = Ended} (absent_text u) (λ ts a. record {
  again = Absent a.again a.spelled.0;
  spelled = a.spelled.1;
  even = a.even;
  same = ap (λ v. Absent v no_span) a.same;
}) r

-- ---- first values

value_made : (m : ℕ) (u : Use) (n : Literal) (s : Span) (ts : List Piece) → PairForm (kinds.Op Equal) (61 ∷ []) (Again m Use (SpellsUse Names) bare_use u) (Again m Literal SpellsNumber bare_literal n) ts → Again (suc m) Init SpellsInit bare_init (Value u n s) ts
value_made m u n s ts p =
    let number = p.back_is.spelled in
    record {
      again = Value p.front_is.again p.back_is.again p.span;
      spelled = (
        piece (kinds.Op Equal) (61 ∷ []) p.at,
        p.front,
        number.0,
        refl,
        subst (λ l. Wrapped p.span (piece (kinds.Op Equal) (61 ∷ []) p.at ∷ (p.front ++ l)) ts) number.2 p.wrapped,
        p.front_is.spelled,
        number.1,
      );
      even = pair_even m ts p refl p.front_is.even p.back_is.even;
      same = ap (λ v. Value v (bare_literal n) no_span) p.front_is.same ∙ ap (λ m. Value (bare_use p.front_is.again) m no_span) p.back_is.same;
    }

pub value_again : (m : ℕ) (u : Use) (n : Literal) (s : Span) → UseAgain m Names u → GoodLiteral n → InitAgain (suc m) (Value u n s)
unfolding word
value_again m u n s r good = turn {after = Ended} (init_text (Value u n s)) (value_made m u n s)
    (loosen (init_text (Value u n s)) (pair_reads (61 ∷ []) (use_text u) (literal_text n) (op_reads Equal) (loosen (use_text u) r) (literal_again m n good)))

number_level : (p : Piece) (x : Literal) → IsNumber x p → Level (p ∷ [])
number_level p x is = level_flat p [] (number_flat p x is) level_none

-- ---- timed literals

at_small : IsSmall (codes "at")
at_small = fixed 97 (codes "t") refl refl refl refl

-- the time and what becomes true or false then, as one form
abbrev TimedForm : ℕ → Literal → (Use → List Piece → Type 0) → Use → List Piece → Type 0
TimedForm m t spells u ts = PairForm kinds.Name (codes "at") (Again m Literal SpellsTime bare_literal t) (Again m Use spells bare_use u) ts

timed_spelled : (m : ℕ) (t : Literal) (spells : Use → List Piece → Type 0) (u : Use) (ts : List Piece) (p : TimedForm m t spells u ts) → SpellsTimed p.front_is.again p.span (spells p.back_is.again) ts
timed_spelled m t spells u ts p =
    let time = p.front_is.spelled in (
      piece kinds.Name (codes "at") p.at,
      time.0,
      p.back,
      (refl, refl),
      time.1,
      subst (λ l. Wrapped p.span (piece kinds.Name (codes "at") p.at ∷ (l ++ p.back)) ts) time.2 p.wrapped,
      p.back_is.spelled,
    )

timed_reads : (m : ℕ) (t : Literal) (spells : Use → List Piece → Type 0) (u : Use) (text : List ℕ) → GoodTime t → Reads Ended text (Again m Use spells bare_use u) → Reads Ended (timed_text t text) (TimedForm m t spells u)
unfolding word
timed_reads m t spells u text good r = loosen (timed_text t text) (pair_reads (codes "at") (literal_text t) text (name_reads (codes "at") at_small) (time_again m t good) r)

pub at_again : (m : ℕ) (t : Literal) (u : Use) (s : Span) → GoodTime t → UseAgain m Terms u → InitAgain (suc m) (At t u s)
at_again m t u s good r = turn {after = Ended} (timed_text t (use_text u)) (λ ts p. record {
  again = At p.front_is.again p.back_is.again p.span;
  spelled = timed_spelled m t (SpellsUse Terms) u ts p;
  even = pair_even m ts p refl p.front_is.even p.back_is.even;
  same = ap (λ n. At n (bare_use u) no_span) p.front_is.same ∙ ap (λ v. At (bare_literal p.front_is.again) v no_span) p.back_is.same;
}) (timed_reads m t (SpellsUse Terms) u (use_text u) good (loosen (use_text u) r))

pub at_not_again : (m : ℕ) (t : Literal) (u : Use) (s : Span) → GoodTime t → AbsentAgain m Terms u → InitAgain (suc m) (AtNot t u s)
at_not_again m t u s good r = turn {after = Ended} (timed_text t (absent_text u)) (λ ts p. record {
  again = AtNot p.front_is.again p.back_is.again p.span;
  spelled = timed_spelled m t (SpellsAbsent Terms) u ts p;
  even = pair_even m ts p refl p.front_is.even p.back_is.even;
  same = ap (λ n. AtNot n (bare_use u) no_span) p.front_is.same ∙ ap (λ v. AtNot (bare_literal p.front_is.again) v no_span) p.back_is.same;
}) (timed_reads m t (SpellsAbsent Terms) u (absent_text u) good r)

-- what the tokens of a timed literal tell: the time has no sign, and what stands behind it has room for one parenthesis less
record Timed (n : ℕ) (t : Literal) (inner : List Piece) : Type 0 where
  good : GoodTime t
  inside : Inside n inner

timed_inside : (n : ℕ) (t : Literal) (s : Span) (a p : Piece) (inner ts : List Piece) → is_flat a.kind ≡ true → IsTime t p → Wrapped s (a ∷ p ∷ inner) ts → Level inner → Fine n ts → Timed n t inner
timed_inside n t s a p inner ts flat time wrapped level l =
    let none : is_flat p.kind ≡ true = number_flat p t time.0 in
    let i = fine_form n s a (p ∷ inner) ts flat wrapped (level_flat p inner none level) l in
    record {
      good = time_good p t i.fine.words.0 time;
      inside = record { room = i.room; under = i.under; fine = fine_behind i.room p inner none i.fine };
    }

timed_level : (t : Literal) (s : Span) (a p : Piece) (inner ts : List Piece) → is_flat a.kind ≡ true → IsTime t p → Wrapped s (a ∷ p ∷ inner) ts → Level inner → Level ts
timed_level t s a p inner ts flat time wrapped level = level_wrapped s (a ∷ p ∷ inner) ts wrapped (level_flat a (p ∷ inner) flat (level_flat p inner (number_flat p t time.0) level))

-- ---- all of them

pub init_again : (n : ℕ) (x : Init) (ts : List Piece) → Fine n ts → SpellsInit x ts → InitAgain n x
init_again n (Holds u) ts l spelled = holds_again n u (use_again n Names u ts l spelled)
init_again n (Absent u s) ts l spelled = false_again n u s (absent_again n Names u s ts l spelled)
init_again n (Value u x s) ts l (a, inner, p, is, wrapped, spelled, number) =
    let i = fine_form n s a (inner ++ p ∷ []) ts (ap is_flat is) wrapped (level_append inner (p ∷ []) (level_use Names u inner spelled) (number_level p x number)) l in
    let b = fine_split i.room inner (p ∷ []) (level_use Names u inner spelled) i.fine in
    let lex : AreLexical (p ∷ []) = b.1.words in
    subst (λ m. InitAgain m (Value u x s)) i.under (value_again i.room u x s (use_again i.room Names u inner b.0 spelled) (literal_good p x lex.0 number))
init_again n (At t u s) ts l (a, p, inner, is, time, wrapped, spelled) =
    let i = timed_inside n t s a p inner ts (ap is_flat is.0) time wrapped (level_use Terms u inner spelled) l in
    subst (λ m. InitAgain m (At t u s)) i.inside.under (at_again i.inside.room t u s i.good (use_again i.inside.room Terms u inner i.inside.fine spelled))
init_again n (AtNot t u s) ts l (a, p, inner, is, time, wrapped, spelled) =
    let i = timed_inside n t s a p inner ts (ap is_flat is.0) time wrapped (not_level Terms u spelled.0 inner spelled.1) l in
    subst (λ m. InitAgain m (AtNot t u s)) i.inside.under (at_not_again i.inside.room t u s i.good (absent_again i.inside.room Terms u spelled.0 inner i.inside.fine spelled.1))

pub init_level : (x : Init) (ts : List Piece) → SpellsInit x ts → Level ts
init_level (Holds u) ts spelled = level_use Names u ts spelled
init_level (Absent u s) ts spelled = not_level Names u s ts spelled
init_level (Value u x s) ts (a, inner, p, is, wrapped, spelled, number) =
    level_wrapped s (a ∷ (inner ++ p ∷ [])) ts wrapped (level_flat a (inner ++ p ∷ []) (ap is_flat is) (level_append inner (p ∷ []) (level_use Names u inner spelled) (number_level p x number)))
init_level (At t u s) ts (a, p, inner, is, time, wrapped, spelled) = timed_level t s a p inner ts (ap is_flat is.0) time wrapped (level_use Terms u inner spelled)
init_level (AtNot t u s) ts (a, p, inner, is, time, wrapped, spelled) = timed_level t s a p inner ts (ap is_flat is.0) time wrapped (not_level Terms u spelled.0 inner spelled.1)
