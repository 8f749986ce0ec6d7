-- A pair has its translation, or there is one reason why not.
use Rattle.std.specs.Prelude.{◌≡◌, suc, ◌<◌, true, false, List, [], ◌∷◌, ◌++◌, length, All, Some, None, unwrap_or, slice_get, refl}
use Rattle.std.proofs.Common.{ap, sym, ◌∙◌, subst, arith}
use Rattle.plus_fraction.specs.Fraction.{Fraction}
use Rattle.plus_tokens.specs.declared.span.Span.{Span}
use Rattle.plus_tree.specs.declared.terms.Literal.{Literal}
use Rattle.plus_tree.specs.declared.trees.Domain.{Domain}
use Rattle.plus_tree.specs.declared.trees.Problem.{Problem}
use Rattle.plus_translation.specs.Names.{Place, names_taken}
use Rattle.plus_translation.specs.Translated.{times_of, translated_domain, translated_problem}
use Rattle.plus_translate.specs.declared.fault.TransFault.{TransFault}
use Rattle.plus_translate.specs.declared.fault.TransFault.TheVariants.{NameTaken, OffGrid, TooDeep, Memory}
use Rattle.plus_translate.specs.Grid.{StandsOnGrid, IsFirstOff}
use Rattle.plus_translation.specs.Depth.{pair_within}
use Rattle.plus_translate.specs.Translates.{IsTranslation, NoTranslation}

head_passes : {A : Type 0} (P : A → Type 0) (x : A) (xs : List A) → All P (x ∷ xs) → P x
head_passes P x xs h = h 0 x (omega arith)

tail_passes : {A : Type 0} (P : A → Type 0) (x : A) (xs : List A) → All P (x ∷ xs) → All P xs
tail_passes P x xs h = λ k d l. h (suc k) d (let m : suc k < length (x ∷ xs) = omega (arith, l) in m)

same_head : {A : Type 0} (x y : A) (xs ys : List A) → x ∷ xs ≡ y ∷ ys → x ≡ y
same_head x y xs ys e = cc e

same_tail : {A : Type 0} (x y : A) (xs ys : List A) → x ∷ xs ≡ y ∷ ys → xs ≡ ys
same_tail x y xs ys e = cc e

-- the first that fails is one
off_once : {A : Type 0} (P : A → Type 0) (before before' : List A) (t t' : A) (after after' : List A) → before ++ t ∷ after ≡ before' ++ t' ∷ after'
    → All P before → All P before' → (P t → ⊥) → (P t' → ⊥) → t ≡ t'
off_once P [] [] t t' after after' e a b f g = same_head t t' after after' e
off_once P [] (c ∷ cs) t t' after after' e a b f g = absurd (f (subst P (sym (same_head t c after (cs ++ t' ∷ after') e)) (head_passes P c cs b)))
off_once P (b ∷ bs) [] t t' after after' e h k f g = absurd (g (subst P (same_head b t' (bs ++ t ∷ after) after' e) (head_passes P b bs h)))
off_once P (b ∷ bs) (c ∷ cs) t t' after after' e h k f g =
    off_once P bs cs t t' after after' (same_tail b c (bs ++ t ∷ after) (cs ++ t' ∷ after') e) (tail_passes P b bs h) (tail_passes P c cs k) f g

pub first_off_once : (q : Fraction) (times : List Literal) (x y : Span) → IsFirstOff q times x → IsFirstOff q times y → x ≡ y
first_off_once q times x y h k =
    sym h.place_is ∙ ap (λ (t : Literal). t.span) (off_once (StandsOnGrid q) h.before k.before h.time k.time h.after k.after (sym h.split ∙ k.split) h.pass k.pass h.fails k.fails) ∙ k.place_is

-- none fails where all pass
member_passes : {A : Type 0} (P : A → Type 0) (before : List A) (t : A) (after : List A) → All P (before ++ t ∷ after) → P t
member_passes P [] t after h = head_passes P t after h
member_passes P (b ∷ bs) t after h = member_passes P bs t after (tail_passes P b (bs ++ t ∷ after) h)

off_or_all : (q : Fraction) (times : List Literal) (x : Span) → IsFirstOff q times x → All (StandsOnGrid q) times → ⊥
off_or_all q times x h a = h.fails (member_passes (StandsOnGrid q) h.before h.time h.after (subst (All (StandsOnGrid q)) h.split a))

taken_or_none : (d : Domain) (p : Problem) (x : Place) → slice_get (names_taken d p) 0 ≡ Some x → names_taken d p ≡ [] → ⊥
taken_or_none d p x h e = let f : None ≡ Some x = ap (λ xs. slice_get xs 0) (sym e) ∙ h in cc f

-- all but want of memory
abbrev pub IsTold : TransFault → Type 0
IsTold (NameTaken file place) = Unit {0}
IsTold (OffGrid place) = Unit {0}
IsTold TooDeep = Unit {0}
IsTold Memory = ⊥

pub one_fault : (q : Fraction) (d : Domain) (p : Problem) (f g : TransFault) → IsTold f → IsTold g → NoTranslation q d p f → NoTranslation q d p g → f ≡ g
one_fault q d p (NameTaken a x) (NameTaken b y) i j h k =
    let e : Some (a, x) ≡ Some (b, y) = sym h ∙ k in
    let s : (a, x) ≡ (b, y) = ap (λ o. unwrap_or o (a, x)) e in
    λ i. NameTaken (s i).0 (s i).1
one_fault q d p (NameTaken a x) (OffGrid y) i j h k = absurd (taken_or_none d p (a, x) h k.0)
one_fault q d p (NameTaken a x) TooDeep i j h k = absurd (taken_or_none d p (a, x) h k.0.names)
one_fault q d p (NameTaken a x) Memory i j h k = absurd j
one_fault q d p (OffGrid x) (NameTaken b y) i j h k = absurd (taken_or_none d p (b, y) k h.0)
one_fault q d p (OffGrid x) (OffGrid y) i j h k = ap OffGrid (first_off_once q (times_of p) x y h.1 k.1)
one_fault q d p (OffGrid x) TooDeep i j h k = absurd (off_or_all q (times_of p) x h.1 k.0.grid)
one_fault q d p (OffGrid x) Memory i j h k = absurd j
one_fault q d p TooDeep (NameTaken b y) i j h k = absurd (taken_or_none d p (b, y) k h.0.names)
one_fault q d p TooDeep (OffGrid y) i j h k = absurd (off_or_all q (times_of p) y k.1 h.0.grid)
one_fault q d p TooDeep TooDeep i j h k = refl
one_fault q d p TooDeep Memory i j h k = absurd j
one_fault q d p Memory g i j h k = absurd i

deep_or_not : (q : Fraction) (d : Domain) (p : Problem) (domain : Domain) (problem : Problem) → IsTranslation q d p domain problem
    → pair_within (translated_domain q d p) (translated_problem q d p) ≡ false → ⊥
deep_or_not q d p domain problem t f =
    let e : true ≡ false = sym t.within ∙ ap (λ x. pair_within x problem) t.domain_is ∙ ap (pair_within (translated_domain q d p)) t.problem_is ∙ f in cc e

pub translated_or_not : (q : Fraction) (d : Domain) (p : Problem) (domain : Domain) (problem : Problem) (f : TransFault) → IsTold f → IsTranslation q d p domain problem → NoTranslation q d p f → ⊥
translated_or_not q d p domain problem (NameTaken a x) i t h = taken_or_none d p (a, x) h t.has.names
translated_or_not q d p domain problem (OffGrid x) i t h = off_or_all q (times_of p) x h.1 t.has.grid
translated_or_not q d p domain problem TooDeep i t h = deep_or_not q d p domain problem t h.1
translated_or_not q d p domain problem Memory i t h = i
