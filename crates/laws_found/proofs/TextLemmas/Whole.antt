-- The whole text reads back.
use Rattle.std.proofs.Common.{◌≡◌, ℕ, ◌+◌, ◌≤◌, List, [], ◌∷◌, length, Ok, refl, ap, ◌∙◌, subst}
use Rattle.std.specs.Prelude.{map, All}
use Rattle.std.proofs.lemmas.List.Elements.{All-head, All-tail}
use Rattle.plus_fraction.specs.Fraction.{Fraction}
use Rattle.plus_plan.specs.declared.forms.Line.{Line}
use Rattle.plus_plan.specs.declared.forms.Line.TheVariants as lines
use Rattle.plus_plan.specs.declared.forms.PlanForm.TheVariants.{Timed}
use Rattle.plus_plan.specs.Cut.{lines_of}
use Rattle.plus_plan.specs.Lines.{numbered}
use Rattle.plus_plan.specs.Spells.{line_limit}
use Rattle.laws_found.specs.Text.Written.{TimedCall, IsPlanTime, IsPlainCall, written_plan, HasShortLines, Say, ReadsAs}
use Rattle.laws_found.proofs.TextLemmas.Entries.{call_bytes, last_bytes, act_said, end_said}
use Rattle.laws_found.proofs.TextLemmas.Cuts.{more_lines, last_lines}

abbrev pub IsShort : List ℕ → Type 0
IsShort line = length line ≤ line_limit

-- from any number on
abbrev SaidFrom : ℕ → List TimedCall → Fraction → Type 0
SaidFrom n calls last = (ls : List Line) × (numbered Timed n (lines_of (written_plan calls last)) ≡ map Ok ls) × Say n calls last ls

said_from : (n : ℕ) (calls : List TimedCall) (last : Fraction) → All IsPlainCall calls → IsPlanTime last → HasShortLines (written_plan calls last) → SaidFrom n calls last
said_from n [] last all h short =
    let cut = last_lines last h in
    let few = subst (All IsShort) cut short in
    let s = end_said n last h (All-head IsShort (last_bytes last) [] few) in
    (lines.End n s.0 ∷ [], ap (numbered Timed n) cut ∙ ap (λ r. r ∷ []) s.2, (s.0, s.1, refl))
said_from n (c ∷ cs) last all h short =
    let plain = All-head IsPlainCall c cs all in
    let cut = more_lines c cs last plain in
    let few = subst (All IsShort) cut short in
    let s = act_said n c plain (All-head IsShort (call_bytes c) (lines_of (written_plan cs last)) few) in
    let more = said_from (n + 1) cs last (All-tail IsPlainCall c cs all) h (All-tail IsShort (call_bytes c) (lines_of (written_plan cs last)) few) in (
      lines.Act n s.0 c.1 ∷ more.0,
      ap (numbered Timed n) cut ∙ ap (λ r. r ∷ numbered Timed (n + 1) (lines_of (written_plan cs last))) s.2 ∙ ap (λ rs. Ok (lines.Act n s.0 c.1) ∷ rs) more.1,
      (s.0, more.0, s.1, refl, more.2),
    )

pub reads_back : (calls : List TimedCall) (last : Fraction) → All IsPlainCall calls → IsPlanTime last → HasShortLines (written_plan calls last) → ReadsAs calls last (written_plan calls last)
reads_back calls last all h short = said_from 1 calls last all h short
