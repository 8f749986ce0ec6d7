-- A text that is fed in pieces: the lines given are its lines.
use Rattle.std.proofs.Common.{◌≡◌, ℕ, suc, ◌+◌, ◌<◌, ◌≤◌, inl, inr, Bool, true, false, cond, List, [], ◌∷◌, ◌++◌, length, refl, sym, ap, ◌∙◌, arith, append_assoc, length-append}
use Rattle.std.specs.Prelude.{◌==◌, min, map, Result, Ok}
use Rattle.std.proofs.lemmas.List.{append-nil}
use Rattle.plus_plan.specs.declared.forms.Line.{Line}
use Rattle.plus_plan.specs.declared.forms.PlanForm.{PlanForm}
use Rattle.plus_plan.specs.declared.faults.PlanFault.{PlanFault}
use Rattle.plus_plan.specs.Cut.{with_front, lines_of}
use Rattle.plus_plan.specs.Lines.{read_line, numbered, plan_lines}
use Rattle.plus_plan.specs.Pending.{Pending}
use Rattle.plus_plan.specs.Pieces.{AtLine, fresh, fed, at_end, without_line, MayFollow, IsNext, IsIdle}
use Rattle.plus_plan.specs.Given.{HasGiven, GoesOnWith}

-- ---- lists of lines

-- there are no more lines than bytes
front_count : (b : ℕ) (ls : List (List ℕ)) (n : ℕ) → length ls ≤ n → length (with_front b ls) ≤ suc n
front_count b [] n le = omega arith
front_count b (l ∷ ls) n le = omega arith

byte_count : (b n : ℕ) (ls : List (List ℕ)) (t : Bool) → length ls ≤ n → length (cond t ([] ∷ ls) (with_front b ls)) ≤ suc n
byte_count b n ls true le = omega arith
byte_count b n ls false le = front_count b ls n le

pub count_lines : (bytes : List ℕ) → length (lines_of bytes) ≤ length bytes
count_lines [] = omega arith
count_lines (b ∷ bs) = byte_count b (length bs) (lines_of bs) (b == 10) (count_lines bs)

pub length-numbered : (form : PlanForm) (n : ℕ) (ls : List (List ℕ)) → length (numbered form n ls) ≡ length ls
length-numbered form n [] = refl
length-numbered form n (l ∷ ls) = ap suc (length-numbered form (n + 1) ls)

pub length-lines : (ls : List Line) → length (map {B = Result Line PlanFault} Ok ls) ≡ length ls
length-lines [] = refl
length-lines (l ∷ ls) = ap suc (length-lines ls)

pub numbered-append : (form : PlanForm) (n m : ℕ) (xs ys : List (List ℕ)) → m ≡ n + length xs → numbered form n (xs ++ ys) ≡ numbered form n xs ++ numbered form m ys
numbered-append form n m [] ys e = ap (λ k. numbered form k ys) (let same : n ≡ m = omega arith in same)
numbered-append form n m (x ∷ xs) ys e =
    ap (λ ls. read_line form n x ∷ ls) (numbered-append form (n + 1) m xs ys (omega arith))

-- ---- behind an LF

lf_front : (b : ℕ) (xs : List (List ℕ)) (ys : List (List ℕ)) → 0 < length xs → with_front b (xs ++ ys) ≡ with_front b xs ++ ys
lf_front b [] ys lt = absurd (omega arith)
lf_front b (x ∷ xs) ys lt = refl

lf_byte : (b : ℕ) (xs ys zs : List (List ℕ)) (t : Bool) → zs ≡ xs ++ ys → 0 < length xs → cond t ([] ∷ zs) (with_front b zs) ≡ cond t ([] ∷ xs) (with_front b xs) ++ ys
lf_byte b xs ys zs true e lt = ap (λ ls. [] ∷ ls) e
lf_byte b xs ys zs false e lt = ap (with_front b) e ∙ lf_front b xs ys lt

some_byte : (b : ℕ) (xs : List (List ℕ)) (t : Bool) → 0 < length xs → 0 < length (cond t ([] ∷ xs) (with_front b xs))
some_byte b xs true lt = omega arith
some_byte b [] false lt = absurd (omega arith)
some_byte b (x ∷ xs) false lt = omega arith

-- bytes that end with an LF have a line
some_line : (front : List ℕ) → 0 < length (lines_of (front ++ 10 ∷ []))
some_line [] = omega arith
some_line (b ∷ bs) = some_byte b (lines_of (bs ++ 10 ∷ [])) (b == 10) (some_line bs)

-- what stands behind an LF is cut as if it stood alone
pub behind_lf : (front more : List ℕ) → lines_of ((front ++ 10 ∷ []) ++ more) ≡ lines_of (front ++ 10 ∷ []) ++ lines_of more
behind_lf [] more = refl
behind_lf (b ∷ bs) more =
    lf_byte b (lines_of (bs ++ 10 ∷ [])) (lines_of more) (lines_of ((bs ++ 10 ∷ []) ++ more)) (b == 10) (behind_lf bs more) (some_line bs)

pub behind_line : (bytes more : List ℕ) → AtLine bytes → lines_of (bytes ++ more) ≡ lines_of bytes ++ lines_of more
behind_line bytes more (inl e) = ap (λ (b : List ℕ). lines_of (b ++ more)) e ∙ ap (λ (b : List ℕ). lines_of b ++ lines_of more) (sym e)
behind_line bytes more (inr e) =
    ap (λ (b : List ℕ). lines_of (b ++ more)) e.1 ∙ behind_lf e.0 more ∙ ap (λ (b : List ℕ). lines_of b ++ lines_of more) (sym e.1)

-- ---- what was given

pub given_none : (form : PlanForm) → HasGiven form [] [] (fresh form)
given_none form = record {
  form_is = refl;
  given = [];
  is = refl;
  said = refl;
  number_is = refl;
  at_line = λ c. inl refl;
  behind = λ more may. refl;
}

pub given_fed : (form : PlanForm) (text piece : List ℕ) (lines : List Line) (r : Pending) → HasGiven form text lines r → r.closed ≡ false → HasGiven form (text ++ piece) lines (fed r piece)
given_fed form text piece lines r g c = record {
  form_is = g.form_is;
  given = g.given;
  is = ap (λ (t : List ℕ). t ++ piece) g.is ∙ append_assoc g.given r.rest piece;
  said = g.said;
  number_is = g.number_is;
  at_line = g.at_line;
  behind = λ more may.
      let any : MayFollow r (piece ++ more) = λ e. absurd (let no : false ≡ true = sym c ∙ e in cc no) in
      ap (λ (t : List ℕ). lines_of (g.given ++ t)) (append_assoc r.rest piece more)
      ∙ g.behind (piece ++ more) any
      ∙ ap (λ (t : List ℕ). lines_of g.given ++ lines_of t) (sym (append_assoc r.rest piece more));
}

pub given_closed : (form : PlanForm) (text : List ℕ) (lines : List Line) (r : Pending) → HasGiven form text lines r → r.closed ≡ false → HasGiven form text lines (at_end r)
given_closed form text lines r g c = record {
  form_is = g.form_is;
  given = g.given;
  is = g.is;
  said = g.said;
  number_is = g.number_is;
  at_line = λ e. absurd (let no : true ≡ false = e in cc no);
  behind = λ more may. g.behind more (λ e. absurd (let no : false ≡ true = sym c ∙ e in cc no));
}

-- the lines of all that may come
pub goes_on_with : (form : PlanForm) (text : List ℕ) (lines : List Line) (r : Pending) → HasGiven form text lines r → GoesOnWith form text lines r
goes_on_with form text lines r g more may =
    let count : length lines ≡ length (lines_of g.given) = sym (length-lines lines) ∙ sym (ap length g.said) ∙ length-numbered form 1 (lines_of g.given) in
    let number : r.number ≡ 1 + length (lines_of g.given) = (let n = g.number_is in omega arith) in
    ap (λ (t : List ℕ). plan_lines form (t ++ more)) g.is
    ∙ ap (plan_lines form) (append_assoc g.given r.rest more)
    ∙ ap (numbered form 1) (g.behind more may)
    ∙ numbered-append form 1 r.number (lines_of g.given) (lines_of (r.rest ++ more)) number
    ∙ ap (λ ls. ls ++ numbered form r.number (lines_of (r.rest ++ more))) g.said
    ∙ ap (λ (f : PlanForm). map Ok lines ++ numbered f r.number (lines_of (r.rest ++ more))) (sym g.form_is)

-- ---- a line is given

pub ends_given : (given rest : List ℕ) → AtLine rest → 0 < length rest → AtLine (given ++ rest)
ends_given given rest (inl e) lt = (let none : length rest ≡ 0 = ap length e in absurd (omega arith))
ends_given given rest (inr e) lt = inr (given ++ e.0, ap (λ (t : List ℕ). given ++ t) e.1 ∙ sym (append_assoc given e.0 (10 ∷ [])))

behind_given : (bytes more : List ℕ) (closed : Bool) → (closed ≡ false → AtLine bytes) → (closed ≡ true → more ≡ []) → lines_of (bytes ++ more) ≡ lines_of bytes ++ lines_of more
behind_given bytes more true at none =
    ap (λ (m : List ℕ). lines_of (bytes ++ m)) (none refl) ∙ ap lines_of (append-nil bytes) ∙ sym (append-nil (lines_of bytes))
    ∙ ap (λ (m : List ℕ). lines_of bytes ++ lines_of m) (sym (none refl))
behind_given bytes more false at none = behind_line bytes more (at refl)

map-end : (ls : List Line) (l : Line) → map {B = Result Line PlanFault} Ok ls ++ Ok l ∷ [] ≡ map {B = Result Line PlanFault} Ok (ls ++ l ∷ [])
map-end [] l = refl
map-end (x ∷ ls) l = ap (λ rs. Ok x ∷ rs) (map-end ls l)

count-end : (ls : List Line) (l : Line) → length (ls ++ l ∷ []) ≡ length ls + 1
count-end ls l = length-append ls (l ∷ [])

-- there are no more lines than bytes given
pub given_count : (form : PlanForm) (text : List ℕ) (lines : List Line) (r : Pending) → HasGiven form text lines r → length lines + length r.rest ≤ length text
given_count form text lines r g =
    let count : length lines ≡ length (lines_of g.given) = sym (length-lines lines) ∙ sym (ap length g.said) ∙ length-numbered form 1 (lines_of g.given) in
    let size : length text ≡ length g.given + length r.rest = ap length g.is ∙ length-append g.given r.rest in
    let few = count_lines g.given in
    omega arith

-- of fewer than 2^32 lines the next is given
pub given_line : (form : PlanForm) (text : List ℕ) (lines : List Line) (r : Pending) (line : Line) → HasGiven form text lines r → length text < 4294967294 → IsNext r line → HasGiven form text (lines ++ line ∷ []) (without_line r)
given_line form text lines r line g few n =
    let at : r.closed ≡ false → AtLine (g.given ++ r.rest) = λ c. ends_given g.given r.rest (n.ends c) n.some in
    let count = given_count form text lines r g in
    let some = n.some in
    let number = g.number_is in
    let longer = count-end lines line in
    record {
      form_is = g.form_is;
      given = g.given ++ r.rest;
      is = g.is ∙ sym (append-nil (g.given ++ r.rest));
      said = ap (plan_lines form) (sym g.is ∙ sym (append-nil text)) ∙ goes_on_with form text lines r g [] (λ e. refl)
          ∙ ap (λ rs. map Ok lines ++ rs) (n.first [] (λ e. refl)) ∙ map-end lines line;
      number_is = (let next : min (r.number + 1) 4294967295 ≡ length lines + 1 + 1 = omega arith in omega arith);
      at_line = at;
      behind = λ more may. behind_given (g.given ++ r.rest) more r.closed at may;
    }

-- the text has ended and no line is due: the lines given are all
pub given_all : (form : PlanForm) (text : List ℕ) (lines : List Line) (r : Pending) → HasGiven form text lines r → r.closed ≡ true → IsIdle r → plan_lines form text ≡ map Ok lines
given_all form text lines r g c i =
    ap (plan_lines form) (g.is ∙ ap (λ (t : List ℕ). g.given ++ t) (i.not_last c) ∙ append-nil g.given) ∙ g.said
