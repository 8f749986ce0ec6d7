-- What is read of a line is what its bytes spell.
use Rattle.std.proofs.Common.{◌≡◌, ℕ, ◌+◌, ◌<◌, Bool, true, false, cond, List, ◌∷◌, length, drop, Result, Ok, Err, refl, sym, ap, ◌∙◌, subst, arith}
use Rattle.std.specs.Prelude.{nat_lt, min, slice_range}
use Rattle.std.proofs.lemmas.Bool.{cond-false, ltb-false, le-ltb}
use Rattle.plus_plan.specs.declared.forms.Line.{Line}
use Rattle.plus_plan.specs.declared.forms.Line.TheVariants as lines
use Rattle.plus_plan.specs.declared.forms.PlanForm.{PlanForm}
use Rattle.plus_plan.specs.declared.forms.PlanForm.TheVariants.{Timed, Untimed}
use Rattle.plus_plan.specs.declared.faults.PlanFault.{PlanFault}
use Rattle.plus_plan.specs.declared.faults.PlanFault.TheVariants as faults
use Rattle.plus_plan.specs.declared.reader.Refusal.{Refusal}
use Rattle.plus_tokens.specs.Items.{Piece, Item, items_of}
use Rattle.plus_plan.specs.Grammar.{line_of}
use Rattle.plus_plan.specs.Cut.{lines_of, line_end, line_from, next_line}
use Rattle.plus_plan.specs.Lines.{placed, read_line, numbered}
use Rattle.plus_plan.specs.Spells.{line_limit, Spells, SpellsTokens}
use Rattle.plus_plan.specs.Answers.{HasBottom, RefusedAs, IsLineAt, IsRefusedAt}
use Rattle.plus_plan.proofs.Found.{toks-all, line_ok}
use Rattle.plus_plan.proofs.Again.{line_again, time_above}
use Rattle.plus_plan.proofs.Places.{fault_is}
use Rattle.plus_plan.proofs.Cutting.{line_end-le, cut_at}

pub placed_ok : (n size : ℕ) (r : Result Line Refusal) (l : Line) → placed n size r ≡ Ok l → r ≡ Ok l
placed_ok n size (Ok m) l e = let same : m ≡ l = cc in ap Ok same
placed_ok n size (Err x) l e = absurd cc

-- what is read is spelled
pub read_spelled : (form : PlanForm) (n : ℕ) (bytes : List ℕ) (l : Line) → read_line form n bytes ≡ Ok l → Spells form n l bytes
unfolding read_line
read_spelled form n bytes l e = at_test (nat_lt line_limit (length bytes)) refl e
  where
    at_test : (b : Bool) → nat_lt line_limit (length bytes) ≡ b → cond {A = Result Line PlanFault} b (Err (faults.LineTooLong n)) (placed n (length bytes) (line_of form n (items_of bytes))) ≡ Ok l → Spells form n l bytes
    at_test true h e = absurd cc
    at_test false h e =
        let t = line_ok form n (items_of bytes) l (placed_ok n (length bytes) (line_of form n (items_of bytes)) l e) in
        let short = ltb-false line_limit (length bytes) h in
        (t.pieces, t.whole ∙ toks-all t.pieces, t.spelled, omega (arith, short))

-- what is spelled is read
pub spelled_read : (form : PlanForm) (n : ℕ) (bytes : List ℕ) (l : Line) → Spells form n l bytes → read_line form n bytes ≡ Ok l
unfolding read_line
spelled_read form n bytes l s =
    cond-false (nat_lt line_limit (length bytes)) _ _ (le-ltb line_limit (length bytes) s.3)
    ∙ ap (λ (is : List Item). placed n (length bytes) (line_of form n is)) (s.1 ∙ sym (toks-all s.0))
    ∙ ap (placed n (length bytes)) (line_again form n l s.0 s.2)

abbrev said : Line → Result Line PlanFault
said l = Ok l

pub said_is : (l m : Line) → said l ≡ said m → l ≡ m
said_is l m e = cc

-- no line spells two
pub one_line : (form : PlanForm) (n : ℕ) (bytes : List ℕ) (l m : Line) → Spells form n l bytes → Spells form n m bytes → l ≡ m
one_line form n bytes l m a b =
    said_is l m (sym (spelled_read form n bytes l a) ∙ spelled_read form n bytes m b)

-- a line that is spelled is refused only for want of memory
pub only_memory : (e : PlanFault) (read : Result Line PlanFault) (l : Line) → RefusedAs e read → read ≡ Ok l → e ≡ faults.Memory
only_memory (faults.NotLine n start last) read l h ok = absurd cc
only_memory (faults.LineTooLong n) read l h ok = absurd cc
only_memory faults.Memory read l h ok = refl

-- what was read is what is spelled
pub same_line : (form : PlanForm) (n : ℕ) (text : List ℕ) (from last next : ℕ) (l m : Line) → last ≡ line_end text from → next ≡ min (last + 1) (length text) → read_line form n (slice_range text from last) ≡ Ok l → Spells form n m (line_from text from) → (l ≡ m) × (next ≡ next_line text from)
same_line form n text from last next l m end_is next_is e s =
    let read : read_line form n (line_from text from) ≡ Ok l = ap (λ k. read_line form n (slice_range text from k)) (sym end_is) ∙ e in
    (said_is l m (sym read ∙ spelled_read form n (line_from text from) m s), next_is ∙ ap (λ k. min (k + 1) (length text)) end_is)

-- the time of a line has a bottom above 0
pub has_bottom : (form : PlanForm) (n : ℕ) (l : Line) (ts : List Piece) → SpellsTokens form n l ts → HasBottom l
has_bottom Timed n lines.Blank ts s = tt
has_bottom Timed n (lines.Act m t c) ts s = time_above t s.0 s.5
has_bottom Timed n (lines.End m t) ts s = time_above t s.0 s.4
has_bottom Timed n (lines.Step m c) ts s = tt
has_bottom Untimed n lines.Blank ts s = tt
has_bottom Untimed n (lines.Act m t c) ts s = absurd s
has_bottom Untimed n (lines.End m t) ts s = absurd s
has_bottom Untimed n (lines.Step m c) ts s = tt

-- the line at an offset, with this end
pub is_line_at : (form : PlanForm) (n : ℕ) (text : List ℕ) (from last next : ℕ) (l : Line) → from < length text → last ≡ line_end text from → next ≡ min (last + 1) (length text) → read_line form n (slice_range text from last) ≡ Ok l → IsLineAt form n text from (l, next)
is_line_at form n text from last next l lt end_is next_is e =
    let read : read_line form n (line_from text from) ≡ Ok l = ap (λ k. read_line form n (slice_range text from k)) (sym end_is) ∙ e in
    let next_line_is : next ≡ next_line text from = next_is ∙ ap (λ k. min (k + 1) (length text)) end_is in
    let cut = cut_at text from lt ∙ ap (λ k. line_from text from ∷ lines_of (drop k text)) (sym next_line_is) in
    let spelled = read_spelled form n (line_from text from) l read in
    let within = line_end-le text from (omega arith) in
    record {
      read = read;
      spelled = spelled;
      bottom = has_bottom form n l spelled.0 spelled.2;
      next = next_line_is;
      rises = omega (arith, next_is, end_is, within);
      inside = omega (arith, next_is);
      cut = cut;
      said = ap (numbered form n) cut ∙ ap (λ r. r ∷ numbered form (n + 1) (lines_of (drop next text))) read;
    }

-- the line at an offset, with this end, is refused
pub is_refused_at : (form : PlanForm) (n : ℕ) (text : List ℕ) (from last : ℕ) (e : PlanFault) → from < length text → last ≡ line_end text from → RefusedAs e (read_line form n (slice_range text from last)) → IsRefusedAt form n text from e
is_refused_at form n text from last e lt end_is r =
    let read : RefusedAs e (read_line form n (line_from text from)) = subst (λ (k : ℕ). RefusedAs e (read_line form n (slice_range text from k))) end_is r in
    record {
      read = read;
      why = fault_is form n (line_from text from) e read;
      said = ap (numbered form n) (cut_at text from lt);
    }
