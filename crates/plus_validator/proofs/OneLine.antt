-- The line that refuses a pair which is not grounded is one.
use Rattle.std.proofs.Common.{◌≡◌, ℕ, List, [], ◌∷◌, ◌++◌, subst, sym, ◌∙◌, ap}
use Rattle.std.specs.Prelude.{Some, None, All}
use Rattle.std.proofs.lemmas.List.Elements.{All-head, All-tail}
use Rattle.plus_number.specs.Frac.{IsFrac64}
use Rattle.plus_tokens.specs.declared.span.Span.{Span}
use Rattle.plus_tree.specs.declared.terms.Literal.{Literal}
use Rattle.plus_tree.specs.declared.trees.Domain.{Domain}
use Rattle.plus_tree.specs.declared.trees.Problem.{Problem}
use Rattle.plus_types.specs.declared.faults.File.{File}
use Rattle.plus_literal.specs.Value.{LiteralFits}
use Rattle.plus_expansion.specs.Counts.{Counted}
use Rattle.plus_expansion.specs.Literals.{literals_of}
use Rattle.plus_expansion.specs.Unfit.{IsFirstUnfit}
use Rattle.plus_numbering.specs.declared.faults.GroundFault.{GroundFault}
use Rattle.plus_numbering.specs.declared.faults.GroundFault.TheVariants as faults
use Rattle.plus_ground.specs.Refusals.{RefusesGround}
use Rattle.plus_report.specs.declared.refusals.Early.TheVariants as es
use Rattle.plus_report.specs.Refusals.{early_text}
use Rattle.plus_validator.specs.Validates.{kind_meant, file_meant, TellsFault, IsUngrounded}

-- the first that does not pass is one
first_unfit_once : {A : Type 0} (Passes : A → Type 0) (f g b c : List A) (x y : A) → f ++ x ∷ b ≡ g ++ y ∷ c → All Passes f → All Passes g → (Passes x → ⊥) → (Passes y → ⊥) → x ≡ y
first_unfit_once Passes [] [] b c x y e p q n m = cc e
first_unfit_once Passes [] (z ∷ g) b c x y e p q n m =
    let same : x ≡ z = cc e in
    absurd (n (subst Passes (sym same) (All-head Passes z g q)))
first_unfit_once Passes (z ∷ f) [] b c x y e p q n m =
    let same : z ≡ y = cc e in
    absurd (m (subst Passes same (All-head Passes z f p)))
first_unfit_once Passes (z ∷ f) (w ∷ g) b c x y e p q n m =
    let rest : f ++ x ∷ b ≡ g ++ y ∷ c = cc e in
    first_unfit_once Passes f g b c x y rest (All-tail Passes z f p) (All-tail Passes w g q) n m

abbrev Fits : File × Literal → Type 0
Fits l = LiteralFits IsFrac64 l.1

unfit_once : (xs : List (File × Literal)) (x y : File × Literal) → IsFirstUnfit Fits xs x → IsFirstUnfit Fits xs y → x ≡ y
unfit_once xs x y a b = first_unfit_once Fits a.front b.front a.back b.back x y (sym a.split ∙ b.split) a.pass b.pass a.fails b.fails

fault_once : (d : Domain) (p : Problem) (a b : GroundFault) (l m : List ℕ) → RefusesGround IsFrac64 d p a → RefusesGround IsFrac64 d p b → TellsFault a l → TellsFault b m → l ≡ m
fault_once d p faults.Memory b l m r q t u = absurd t
fault_once d p a faults.Memory l m r q t u = absurd u
fault_once d p (faults.TooMany kind most) (faults.TooMany kind' most') l m r q t u =
    let some : Some (record { kind = kind; most = most; number = r.0 }) ≡ Some (record { kind = kind'; most = most'; number = q.0 }) = sym r.1 ∙ q.1 in
    let one : record { kind = kind; most = most; number = r.0 } ≡ record { kind = kind'; most = most'; number = q.0 } = cc some in
    t ∙ ap (λ (x : Counted). early_text (es.TooMany (kind_meant x.kind) x.most)) one ∙ sym u
fault_once d p (faults.TooMany kind most) (faults.Literal file span) l m r q t u = let e : Some _ ≡ None = sym r.1 ∙ q.counts in cc e
fault_once d p (faults.Literal file span) (faults.TooMany kind most) l m r q t u = let e : Some _ ≡ None = sym q.1 ∙ r.counts in cc e
fault_once d p (faults.Literal file span) (faults.Literal file' span') l m r q t u =
    let one = unfit_once (literals_of d p) (file, r.unfit.literal) (file', q.unfit.literal) r.unfit.first q.unfit.first in
    let same_file : file ≡ file' = ap (λ (x : File × Literal). x.0) one in
    let same_span : span ≡ span' = sym r.unfit.span_is ∙ ap (λ (x : File × Literal). x.1.span) one ∙ q.unfit.span_is in
    t ∙ ap (λ (f : File). early_text (es.Literal (file_meant f) span.start span.«end»)) same_file
    ∙ ap (λ (x : Span). early_text (es.Literal (file_meant file') x.start x.«end»)) same_span ∙ sym u

pub one_line : (d : Domain) (p : Problem) (l m : List ℕ) → IsUngrounded d p l → IsUngrounded d p m → l ≡ m
one_line d p l m a b = fault_once d p a.fault b.fault l m a.refused b.refused a.tells b.tells
