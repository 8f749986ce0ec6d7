-- The lines of a plan text, read one by one.
use Rattle.std.proofs.Common.{◌≡◌, ◌⊎◌, inl, inr, ℕ, ◌+◌, ◌≤◌, ◌<◌, List, [], ◌∷◌, ◌++◌, map, take, drop, length, refl, ap, sym, subst, ◌∙◌, arith, append-nil, append_assoc}
use Rattle.std.specs.Prelude.{All, Result, Ok, Err, Bool, true, false, Option, Some, None, IfSome}
use Rattle.std.proofs.Math.ListN.{drop_of_length-le}
use Rattle.std.proofs.Math.Seq.{take-append_seam}
use Rattle.std.proofs.lemmas.List.{length-append}
use Rattle.std.proofs.lemmas.List.Elements.{All-nil, All-cons, All-append}
use Rattle.plus_io.specs.Limits.{text_limit}
use Rattle.plus_plan.specs.declared.faults.PlanFault.{PlanFault}
use Rattle.plus_plan.specs.declared.faults.PlanFault.TheVariants as faults
use Rattle.plus_plan.specs.declared.forms.Line.{Line}
use Rattle.plus_plan.specs.declared.forms.Line.TheVariants.{Blank, Act, End, Step}
use Rattle.plus_plan.specs.declared.forms.PlanForm.TheVariants.{Timed}
use Rattle.plus_plan.specs.Answers.{HasBottom, IsRefusedAt}
use Rattle.plus_plan.specs.Cut.{lines_of, line_from, next_line}
use Rattle.plus_plan.specs.Lines.{numbered, plan_lines, read_line}
use Rattle.plus_validator.specs.Validates.{IsRead}
use Rattle.plus_trim_command.specs.Lines.{IsPlanText, whole, longer, spoken, AreLinesFrom, ReadsOne, HaveRead}

-- ---- lists of lines that are read

rest_more : (rest : List Line) (x : Line) (more : List (Result Line PlanFault)) → Ok x ∷ more ≡ map Ok rest → (rest' : List Line) × (rest ≡ x ∷ rest') × (more ≡ map Ok rest')
rest_more [] x more e = cc e
rest_more (r ∷ rs) x more e = (rs, (let k : ◌≡◌ {A = Result Line PlanFault} (Ok x) (Ok r) = cc e in let l : x ≡ r = cc k in ap (λ z. z ∷ rs) (sym l)), (let k : more ≡ map Ok rs = cc e in k))

no_fault : (rest : List Line) (f : PlanFault) (more : List (Result Line PlanFault)) → Err f ∷ more ≡ map Ok rest → ⊥
no_fault [] f more e = cc e
no_fault (r ∷ rs) f more e = let k : Err f ≡ Ok r = cc e in cc k

no_rest : (rest : List Line) → ◌≡◌ {A = List (Result Line PlanFault)} [] (map Ok rest) → rest ≡ []
no_rest [] e = refl
no_rest (r ∷ rs) e = cc e

spoken_more : (l : Line) (ls : List Line) → spoken (l ∷ ls) ≡ spoken (l ∷ []) ++ spoken ls
spoken_more Blank ls = refl
spoken_more (Act n t c) ls = refl
spoken_more (End n t) ls = refl
spoken_more (Step n c) ls = refl

bottoms_one : (l : Line) → HasBottom l → All HasBottom (spoken (l ∷ []))
bottoms_one Blank h = All-nil HasBottom
bottoms_one (Act n t c) h = All-cons HasBottom (Act n t c) [] h (All-nil HasBottom)
bottoms_one (End n t) h = All-cons HasBottom (End n t) [] h (All-nil HasBottom)
bottoms_one (Step n c) h = All-cons HasBottom (Step n c) [] h (All-nil HasBottom)

-- ---- one line

module _ (text : List ℕ) (from number : ℕ) where
  pub only_memory : (fault : PlanFault) → AreLinesFrom text from number → IsRefusedAt Timed number text from fault → fault ≡ faults.Memory
  only_memory (faults.NotLine n s l) a r = absurd (no_fault a.0 (faults.NotLine n s l) _ (ap (λ x. x ∷ numbered Timed (number + 1) (lines_of (drop (next_line text from) text))) (sym r.read) ∙ sym r.said ∙ a.1))
  only_memory (faults.LineTooLong n) a r = absurd (no_fault a.0 (faults.LineTooLong n) _ (ap (λ x. x ∷ numbered Timed (number + 1) (lines_of (drop (next_line text from) text))) (sym r.read) ∙ sym r.said ∙ a.1))
  only_memory faults.Memory a r = refl

  pub lines_on : (lines : List Line) → HaveRead text from number lines → AreLinesFrom text 0 1 → AreLinesFrom text from number
  lines_on lines h a = let k = h.all a.0 a.1 in (k.0, k.1)

  pub read_more : (old new : List Line) (next : ℕ) → HaveRead text from number old → ReadsOne text from number old new next → HaveRead text next (number + 1) new
  read_more old new next h r = record {
    inside = r.inside;
    few = (let a = h.few in let b = r.rises in omega arith);
    all = λ ls e.
        let k = h.all ls e in
        let m = rest_more k.0 r.line (numbered Timed (number + 1) (lines_of (drop next text))) (sym r.says ∙ k.1) in (
          m.0,
          m.2,
          k.2 ∙ ap (λ z. old ++ spoken z) m.1 ∙ ap (λ z. old ++ z) (spoken_more r.line m.0)
              ∙ sym (append_assoc old (spoken (r.line ∷ [])) (spoken m.0)) ∙ ap (λ z. z ++ spoken m.0) (sym r.keeps),
        );
    bottoms = subst (All HasBottom) (sym r.keeps) (All-append HasBottom old (spoken (r.line ∷ [])) h.bottoms (bottoms_one r.line r.bottom));
  }

  pub read_all : (lines : List Line) → HaveRead text from number lines → length text ≤ from → (ls : List Line) → plan_lines Timed text ≡ map Ok ls → lines ≡ spoken ls
  read_all lines h o ls e =
      let k = h.all ls e in
      let n : k.0 ≡ [] = no_rest k.0 (sym (ap (λ t. numbered Timed number (lines_of t)) (drop_of_length-le text o)) ∙ k.1) in
      sym (k.2 ∙ ap (λ z. lines ++ spoken z) n ∙ append-nil lines)

pub none_read : (text : List ℕ) → HaveRead text 0 1 []
none_read text = record { inside = omega arith; few = omega arith; all = λ ls e. (ls, e, refl); bottoms = All-nil HasBottom }

-- ---- what was read of a file is judged as the file is

pub all_read : (known : Option (List ℕ)) (read : List ℕ) → IfSome known (λ bytes. read ≡ bytes) → IfSome known (λ bytes. IsPlanText bytes read)
all_read None read h = tt
all_read (Some bytes) read h = whole h

-- one byte more than the limit of a text
pub one_more :
    (known : Option (List ℕ)) (old new : List ℕ) (x : ℕ) → length old ≡ text_limit → new ≡ old ++ x ∷ []
    → IfSome known (λ bytes. (text_limit < length bytes) × (old ≡ take text_limit bytes)) → IfSome known (λ bytes. IsPlanText bytes new)
one_more None old new x n e h = tt
one_more (Some bytes) old new x n e h =
    longer h.0 (subst (λ (z : List ℕ). text_limit < length z) (sym e) (let k = length-append old (x ∷ []) in omega arith))
    (ap (take text_limit) e ∙ ap (λ (i : ℕ). take i (old ++ x ∷ [])) (sym n) ∙ take-append_seam old (x ∷ []) ∙ h.1)

pub read_same : (bytes read text : List ℕ) (goes_on : Bool) → IsPlanText bytes read → IsRead read text goes_on → IsRead bytes text goes_on
read_same bytes read text false (whole e) r = (r.0 ∙ e, subst (λ (z : List ℕ). length z ≤ text_limit) e r.1)
read_same bytes read text false (longer a b c) r = absurd (let k = r.1 in omega arith)
read_same bytes read text true (whole e) r = (r.0 ∙ ap (take text_limit) e, subst (λ (z : List ℕ). text_limit < length z) e r.1)
read_same bytes read text true (longer a b c) r = (r.0 ∙ c, a)

-- a text within its limit was read as it is
pub within_same : (bytes read : List ℕ) → IsPlanText bytes read → length read ≤ text_limit → read ≡ bytes
within_same bytes read (whole e) h = e
within_same bytes read (longer a b c) h = absurd (omega arith)
