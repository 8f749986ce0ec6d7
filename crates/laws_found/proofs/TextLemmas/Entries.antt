-- A line of a plan reads again.
use Rattle.std.proofs.Common.{◌≡◌, ℕ, ◌≤◌, false, List, [], ◌∷◌, ◌++◌, length, refl, sym, ap, ◌∙◌, Ok, inl}
use Rattle.std.specs.Prelude.{codes}
use Rattle.std.proofs.lemmas.List.{append-nil}
use Rattle.plus_fraction.specs.Fraction.{Fraction}
use Rattle.plus_tokens.specs.declared.token.Kind.TheVariants as kinds
use Rattle.plus_tokens.specs.Bytes.{is_letter}
use Rattle.plus_tokens.specs.Spelling.{begins}
use Rattle.plus_expansion.specs.Numbers.{label_of}
use Rattle.plus_report.specs.Text.{fraction_text}
use Rattle.plus_plan.specs.declared.forms.Time.{Time}
use Rattle.plus_plan.specs.declared.forms.Line.TheVariants as lines
use Rattle.plus_plan.specs.declared.forms.PlanForm.TheVariants.{Timed}
use Rattle.plus_tokens.specs.Items.{Piece}
use Rattle.plus_plan.specs.Lines.{read_line}
use Rattle.plus_plan.specs.Spells.{SpellsTimed, SpellsCall, line_limit}
use Rattle.plus_plan.specs.TimeValue.{value_of}
use Rattle.plus_plan.proofs.OneLine.{spelled_read}
use Rattle.laws_found.specs.Text.Written.{TimedCall, IsPlanTime, IsPlainCall}
use Rattle.plus_canonical.proofs.Lexes.{Ended, kind_stops, Any, Reads, Both, both, turn, join, piece, IsToken, token_reads}
use Rattle.plus_canonical.proofs.Forms.{spaced_before, loosen}
use Rattle.laws_found.proofs.TextLemmas.Lexes.{whole}
use Rattle.laws_found.proofs.TextLemmas.Parts.{EndsNumber, IsTimeOf, time_reads, call_reads}

-- the bytes of a call's line, and of the last, without their LF
abbrev pub call_bytes : TimedCall → List ℕ
call_bytes c = fraction_text c.0 ++ (58 ∷ 32 ∷ label_of c.1.name c.1.args)

abbrev pub last_bytes : Fraction → List ℕ
last_bytes last = fraction_text last ++ codes ": @end"

abbrev IsColon : List Piece → Type 0
IsColon ts = IsToken kinds.Colon (58 ∷ []) ts

abbrev NoLetter : List ℕ → Type 0
NoLetter rest = begins is_letter rest ≡ false

colon_reads : Reads NoLetter (58 ∷ []) IsColon
colon_reads = token_reads {S = NoLetter} kinds.Colon (58 ∷ []) refl (λ rest ok. ok)

-- tokens that spell a line of which the value of its time is known
abbrev SpellsAct : ℕ → TimedCall → List Piece → Type 0
SpellsAct n c ts = (t : Time) × (value_of t ≡ c.0) × SpellsTimed n (lines.Act n t c.1) ts

abbrev SpellsEnd : ℕ → Fraction → List Piece → Type 0
SpellsEnd n last ts = (t : Time) × (value_of t ≡ last) × SpellsTimed n (lines.End n t) ts

act_made : (n : ℕ) (c : TimedCall) (ts : List Piece) → Both (IsTimeOf c.0) (Both IsColon (SpellsCall c.1)) ts → SpellsAct n c ts
act_made n c ts (both front _ f (both colon call k s e) e') = (
  f.0,
  f.2,
  (
    front,
    piece kinds.Colon (58 ∷ []) k.span,
    call,
    [],
    refl,
    f.1,
    refl,
    s,
    inl refl,
    e' ∙ ap (λ l. front ++ l) (e ∙ ap (λ l. l ++ call) k.whole ∙ ap (λ l. piece kinds.Colon (58 ∷ []) k.span ∷ l) (sym (append-nil call))),
  ),
)

act_reads : (n : ℕ) (c : TimedCall) → IsPlainCall c → Reads Any (call_bytes c) (SpellsAct n c)
act_reads n c h =
    turn {after = Any} (call_bytes c) (act_made n c)
    (join {S = EndsNumber} {T = Any} (fraction_text c.0) (58 ∷ 32 ∷ label_of c.1.name c.1.args) (time_reads c.0 h.time)
    (join {S = NoLetter} {T = Any} (58 ∷ []) (32 ∷ label_of c.1.name c.1.args) colon_reads (call_reads c.1 h.name h.args) (λ rest ok. refl)) (λ rest ok. refl))

abbrev IsLast : List Piece → Type 0
IsLast ts = IsToken kinds.End (codes "@end") ts

last_reads : Reads Ended (codes "@end") IsLast
last_reads = token_reads {S = Ended} kinds.End (codes "@end") (101, 110, 100, refl, refl, refl, refl) (λ rest ok. kind_stops kinds.End rest ok)

end_made : (n : ℕ) (last : Fraction) (ts : List Piece) → Both (IsTimeOf last) (Both IsColon IsLast) ts → SpellsEnd n last ts
end_made n last ts (both front _ f (both colon end k s e) e') = (
  f.0,
  f.2,
  (
    front,
    piece kinds.Colon (58 ∷ []) k.span,
    piece kinds.End (codes "@end") s.span,
    refl,
    f.1,
    refl,
    refl,
    e' ∙ ap (λ l. front ++ l) (e ∙ cc (k.whole, s.whole)),
  ),
)

end_reads : (n : ℕ) (last : Fraction) → IsPlanTime last → Reads Ended (last_bytes last) (SpellsEnd n last)
end_reads n last h =
    turn {after = Ended} (last_bytes last) (end_made n last)
    (join {S = EndsNumber} {T = Ended} (fraction_text last) (codes ": @end") (time_reads last h)
    (join {S = NoLetter} {T = Ended} (58 ∷ []) (codes " @end") colon_reads
    (spaced_before {S = Ended} {P = IsLast} (codes "@end") last_reads) (λ rest ok. refl)) (λ rest ok. refl))

-- ---- the lines

pub act_said : (n : ℕ) (c : TimedCall) → IsPlainCall c → length (call_bytes c) ≤ line_limit
    → (t : Time) × (value_of t ≡ c.0) × (read_line Timed n (call_bytes c) ≡ Ok (lines.Act n t c.1))
act_said n c h short =
    let w = whole (call_bytes c) (loosen (call_bytes c) (act_reads n c h)) in
    (w.are.0, w.are.1, spelled_read Timed n (call_bytes c) (lines.Act n w.are.0 c.1) (w.ts, w.items, w.are.2, short))

pub end_said : (n : ℕ) (last : Fraction) → IsPlanTime last → length (last_bytes last) ≤ line_limit
    → (t : Time) × (value_of t ≡ last) × (read_line Timed n (last_bytes last) ≡ Ok (lines.End n t))
end_said n last h short =
    let w = whole (last_bytes last) (end_reads n last h) in
    (w.are.0, w.are.1, spelled_read Timed n (last_bytes last) (lines.End n w.are.0) (w.ts, w.items, w.are.2, short))
