-- How the literals of forms that are walked one after the other come together.
use Rattle.std.proofs.Common.{◌≡◌, ℕ, zero, suc, ◌+◌, ◌<◌, ◌≤◌, List, [], ◌∷◌, ◌++◌, length, drop, get_or, arith, refl, ap, sym, subst, ◌∙◌, append_assoc, Result, Ok, Err, MatchResult}
use Rattle.std.proofs.lemmas.List.{map-append}
use Rattle.std.specs.List.{All}
use Rattle.std.proofs.lemmas.List.Elements.{All-append, All-cons}
use Rattle.plus_fraction.specs.Fraction.{Fraction}
use Rattle.plus_tokens.specs.declared.span.Span.{Span}
use Rattle.plus_tree.specs.declared.terms.Literal.{Literal}
use Rattle.plus_types.specs.declared.faults.File.{File}
use Rattle.plus_literal.specs.Value.{LiteralFits}
use Rattle.plus_expansion.specs.Literals.{in_file}
use Rattle.plus_expansion.specs.Unfit.{IsFirstUnfit, IsFirstUnfitAt, IsFirstUnfitIn}
use Rattle.plus_numbering.specs.Tested.{AllFit, Tests}
use Rattle.plus_numbering.proofs.Steps.{rest-from}

no-element : {X : Type 0} (P : X → Type 0) → All P []
no-element P k d h = absurd (omega (arith, h))

pub none : (fits : Fraction → Type 0) → AllFit fits []
none fits = record { each = no-element (LiteralFits fits) }

pub one_fits : (fits : Fraction → Type 0) (x : Literal) → LiteralFits fits x → AllFit fits (x ∷ [])
one_fits fits x h = record { each = All-cons (LiteralFits fits) x [] h (no-element (LiteralFits fits)) }

pub one_unfit : (fits : Fraction → Type 0) (x : Literal) → (LiteralFits fits x → ⊥) → IsFirstUnfitAt fits (x ∷ []) x.span
one_unfit fits x h =
    record { literal = x; span_is = refl; first = record { front = []; back = []; split = refl; pass = no-element (LiteralFits fits); fails = h } }

pub none_more : (fits : Fraction → Type 0) (xs ys : List Literal) → AllFit fits xs → AllFit fits ys → AllFit fits (xs ++ ys)
none_more fits xs ys e f = record { each = All-append (LiteralFits fits) xs ys e.each f.each }

pub first-before : {X : Type 0} (P : X → Type 0) (xs ys : List X) (x : X) → IsFirstUnfit P xs x → IsFirstUnfit P (xs ++ ys) x
first-before P xs ys x r =
    record { front = r.front; back = r.back ++ ys; split = ap (λ zs. zs ++ ys) r.split ∙ append_assoc r.front (x ∷ r.back) ys; pass = r.pass; fails = r.fails }

pub first-after : {X : Type 0} (P : X → Type 0) (xs ys : List X) (x : X) → All P xs → IsFirstUnfit P ys x → IsFirstUnfit P (xs ++ ys) x
first-after P xs ys x h r =
    record {
      front = xs ++ r.front;
      back = r.back;
      split = ap (λ zs. xs ++ zs) r.split ∙ sym (append_assoc xs r.front (x ∷ r.back));
      pass = All-append P xs r.front h r.pass;
      fails = r.fails;
    }

pub first_here : (fits : Fraction → Type 0) (xs ys : List Literal) (s : Span) → IsFirstUnfitAt fits xs s → IsFirstUnfitAt fits (xs ++ ys) s
first_here fits xs ys s r = record { literal = r.literal; span_is = r.span_is; first = first-before (LiteralFits fits) xs ys r.literal r.first }

pub first_later : (fits : Fraction → Type 0) (xs ys : List Literal) (s : Span) → AllFit fits xs → IsFirstUnfitAt fits ys s → IsFirstUnfitAt fits (xs ++ ys) s
first_later fits xs ys s h r = record { literal = r.literal; span_is = r.span_is; first = first-after (LiteralFits fits) xs ys r.literal h.each r.first }

pub ruleset walking = (none, one_fits, one_unfit, none_more, first_here, first_later)

-- the first form fits, and the rest is walked
pub then_tests : {A : Type 0} (fits : Fraction → Type 0) (xs ys : List Literal) (r : Result A Span) → AllFit fits xs → Tests fits ys r → Tests fits (xs ++ ys) r
then_tests fits xs ys (Ok x) h t = none_more fits xs ys h t
then_tests fits xs ys (Err s) h t = first_later fits xs ys s h t

-- what is left of literals of which those before fit
pub record Left (fits : Fraction → Type 0) (whole rest : List Literal) : Type 0 where
  pub all : AllFit fits rest → AllFit fits whole
  pub first : (s : Span) → IsFirstUnfitAt fits rest s → IsFirstUnfitAt fits whole s

left-more : (fits : Fraction → Type 0) (whole xs ys : List Literal) → Left fits whole (xs ++ ys) → AllFit fits xs → Left fits whole ys
left-more fits whole xs ys l h =
    record { all = λ e. l.all (none_more fits xs ys h e); first = λ s e. l.first s (first_later fits xs ys s h e) }

-- one more member of a list that is walked
from-member :
    {X : Type 0} (fits : Fraction → Type 0) (literals : List X → List Literal) (one : X → List Literal)
    → ((x : X) (xs : List X) → literals (x ∷ xs) ≡ one x ++ literals xs)
    → (xs : List X) (i : ℕ) (x : X) (whole : List Literal) → i < length xs → x ≡ get_or xs i x
    → Left fits whole (literals (drop i xs)) → Left fits whole (one x ++ literals (drop (i + 1) xs))
from-member fits literals one step xs i x whole h m l =
    subst (Left fits whole) (ap literals (rest-from xs i x h m) ∙ step x (drop (i + 1) xs)) l

pub member_fits :
    {X : Type 0} (fits : Fraction → Type 0) (literals : List X → List Literal) (one : X → List Literal)
    → ((x : X) (xs : List X) → literals (x ∷ xs) ≡ one x ++ literals xs)
    → (xs : List X) (i : ℕ) (x : X) (whole : List Literal) → i < length xs → x ≡ get_or xs i x
    → Left fits whole (literals (drop i xs)) → AllFit fits (one x) → Left fits whole (literals (drop (i + 1) xs))
member_fits fits literals one step xs i x whole h m l e =
    left-more fits whole (one x) (literals (drop (i + 1) xs)) (from-member fits literals one step xs i x whole h m l) e

pub member_unfit :
    {X : Type 0} (fits : Fraction → Type 0) (literals : List X → List Literal) (one : X → List Literal)
    → ((x : X) (xs : List X) → literals (x ∷ xs) ≡ one x ++ literals xs)
    → (xs : List X) (i : ℕ) (x : X) (whole : List Literal) (s : Span) → i < length xs → x ≡ get_or xs i x
    → Left fits whole (literals (drop i xs)) → IsFirstUnfitAt fits (one x) s → IsFirstUnfitAt fits whole s
member_unfit fits literals one step xs i x whole s h m l e =
    (from-member fits literals one step xs i x whole h m l).first s (first_here fits (one x) (literals (drop (i + 1) xs)) s e)

-- the answer of a walk, in the words of lists
pub answer : {A : Type 0} (fits : Fraction → Type 0) (ls : List Literal) (r : Result A Span) → Tests fits ls r
    → MatchResult r (λ _. All (LiteralFits fits) ls) (IsFirstUnfitAt fits ls)
answer fits ls (Ok x) h = h.each
answer fits ls (Err s) h = h

-- ---- the literals of two files

in-file-all : (fits : Fraction → Type 0) (file : File) (ls : List Literal) → All (LiteralFits fits) ls → All (λ (l : File × Literal). LiteralFits fits l.1) (in_file file ls)
in-file-all fits file [] h = no-element (λ (l : File × Literal). LiteralFits fits l.1)
in-file-all fits file (x ∷ xs) h =
    All-cons (λ (l : File × Literal). LiteralFits fits l.1) (file, x) (in_file file xs) (h 0 x (omega arith)) (in-file-all fits file xs (λ k d lt. h (suc k) d (omega arith)))

in-file-first : (fits : Fraction → Type 0) (file : File) (ls : List Literal) (x : Literal) → IsFirstUnfit (LiteralFits fits) ls x
    → IsFirstUnfit (λ (l : File × Literal). LiteralFits fits l.1) (in_file file ls) (file, x)
in-file-first fits file ls x r =
    record {
      front = in_file file r.front;
      back = in_file file r.back;
      split = ap (in_file file) r.split ∙ map-append (λ (l : Literal). (file, l)) r.front (x ∷ r.back);
      pass = in-file-all fits file r.front r.pass;
      fails = r.fails;
    }

pub both_fit : (fits : Fraction → Type 0) (f g : File) (xs ys : List Literal) → AllFit fits xs → AllFit fits ys
    → All (λ (l : File × Literal). LiteralFits fits l.1) (in_file f xs ++ in_file g ys)
both_fit fits f g xs ys h k = All-append (λ (l : File × Literal). LiteralFits fits l.1) (in_file f xs) (in_file g ys) (in-file-all fits f xs h.each) (in-file-all fits g ys k.each)

pub unfit_before : (fits : Fraction → Type 0) (f g : File) (xs ys : List Literal) (s : Span) → IsFirstUnfitAt fits xs s
    → IsFirstUnfitIn fits (in_file f xs ++ in_file g ys) f s
unfit_before fits f g xs ys s r =
    record {
      literal = r.literal;
      span_is = r.span_is;
      first = first-before (λ (l : File × Literal). LiteralFits fits l.1) (in_file f xs) (in_file g ys) (f, r.literal) (in-file-first fits f xs r.literal r.first);
    }

pub unfit_after : (fits : Fraction → Type 0) (f g : File) (xs ys : List Literal) (s : Span) → AllFit fits xs → IsFirstUnfitAt fits ys s
    → IsFirstUnfitIn fits (in_file f xs ++ in_file g ys) g s
unfit_after fits f g xs ys s h r =
    record {
      literal = r.literal;
      span_is = r.span_is;
      first = first-after (λ (l : File × Literal). LiteralFits fits l.1) (in_file f xs) (in_file g ys) (g, r.literal) (in-file-all fits f xs h.each) (in-file-first fits g ys r.literal r.first);
    }

pub ruleset files = (both_fit, unfit_before, unfit_after)
