-- A plan without time, as one who plays lines.
use Rattle.std.proofs.Common.{◌≡◌, ℕ, ◌<◌, ◌≤◌, Bool, true, false, List, [], ◌∷◌, ◌++◌, map, length, Option, Some, None, refl, subst, sym, ap, ◌∙◌, if◌then◌else◌}
use Rattle.std.specs.Prelude.{Result, Ok, Err, OnOk, IfErr, IfSome, nat_lt}
use Rattle.std.proofs.lemmas.Grind.{common_steps}
use Rattle.std.proofs.Common.{arith}
use Rattle.plus_model.specs.Terms.{State, Problem}
use Rattle.plus_number.specs.Frac.{fraction_of}
use Rattle.plus_state.proofs.Testing.{fail_here}
use Rattle.plus_state.specs.View.{problem_of}
use Rattle.plus_expansion.specs.Expansion.{expanded}
use Rattle.plus_tree.specs.declared.trees.Domain.{Domain}
use Rattle.plus_tree.specs.declared.trees.Problem as tree
use Rattle.plus_io.specs.Limits.{text_limit}
use Rattle.plus_plan.specs.declared.forms.Line.{Line}
use Rattle.plus_plan.specs.declared.forms.PlanForm.{PlanForm}
use Rattle.plus_plan.specs.declared.forms.PlanForm.TheVariants.{Untimed}
use Rattle.plus_plan.specs.declared.faults.PlanFault.{PlanFault}
use Rattle.plus_plan.specs.declared.faults.PlanFault.TheVariants as faults
use Rattle.plus_plan.specs.Pending.{Pending}
use Rattle.plus_play.specs.Cut.{text_lines}
use Rattle.plus_play.specs.Rules as play
use Rattle.plus_play.specs.Rules.{Why, on_line, no_line, too_long as too_long_text, at_end, handing, AreAll, Stands, IsHalted}
use Rattle.plus_play.specs.Feeding.{Pauses}
use Rattle.plus_play.specs.declared.file.Pause.{Pause}
use Rattle.plus_play.specs.declared.file.Pause.TheVariants as pauses
use Rattle.plus_play.proofs.Fronts.{lines_short}
use Rattle.plus_report.specs.declared.verdicts.Verdict.TheVariants as verdicts
use Rattle.plus_report.specs.declared.refusals.Early.TheVariants.{TooLong}
use Rattle.plus_report.specs.declared.refusals.Text.TheVariants as texts
use Rattle.plus_numeric.specs.declared.halt.Halt.{Halt}
use Rattle.plus_numeric.specs.declared.halt.Halt.TheVariants.{Refused, Memory}
use Rattle.plus_numeric.specs.declared.play.Play.{Play}
use Rattle.plus_numeric.specs.declared.playing.Playing.{Playing}
use Rattle.plus_numeric.specs.Tests.{Test, too_long, Passes, AllPass}
use Rattle.plus_numeric.specs.Asked.{line_tests, lines_tests, end_tests, last_tests}
use Rattle.plus_numeric.specs.Playing.{domain_in, problem_in, IsPlay, Stays, Leads, HaltsIn, HaltsAt, HaltFits, Keeps, Played, IsPlayed, HaltsWith, fault_halt}
use Rattle.plus_numeric.specs.PlayRules.{play_rules, HaltsBy, HasPlayed, HasEnded, HasHalted, CanPlay}
use Rattle.plus_numeric.specs.Streaming.{PausesIn, PauseFits}
use Rattle.plus_numeric.proofs.PlayLemmas.{stays_same, stays_then}
use Rattle.plus_numeric.proofs.Reaching.{played_none, played_more, played_halt, played_bad, played_all, played_then}

-- ---- one call

pub none_played : (a : Play) → IsPlay a → HasPlayed [] a a
none_played a i = record { stays = stays_same a i; played = played_none (domain_in a) (problem_in a) a }

pub still_can : (a b : Playing) → b.ground ≡ a.ground → Stays a.play b.play → CanPlay a → CanPlay b
still_can a b g s c = record {
  going = s.going;
  expands = ap (λ q. problem_of fraction_of q.now) g ∙ c.expands ∙ ap (λ q. expanded q.now.typed.now.domain q.now.typed.now.problem) (sym s.numbering);
}

pub goes_line : (a b : Play) (line : Line) → Stays a b → Leads (line_tests (domain_in a) (problem_in a) line a.numeric) b.numeric → Keeps (line ∷ []) a b → (first : Play) (lines : List Line) → HasPlayed lines first a → HasPlayed (lines ++ line ∷ []) first b
goes_line a b line s l k first lines h = record {
  stays = stays_then first a b h.stays s;
  played = subst (λ q. Played q.now.typed.now.domain q.now.typed.now.problem (lines ++ line ∷ []) first b) (sym s.numbering)
      (played_more (domain_in a) (problem_in a) lines line first a b h.played l k h.stays.keep_is);
}

pub stops_line : (a b : Play) (line : Line) → Stays a b → (halt : Halt) → HaltsIn a.source (line_tests (domain_in a) (problem_in a) line a.numeric) halt → HaltFits (domain_in a) (problem_in a) halt
    → (first : Play) (lines : List Line) → HasPlayed lines first a → HasHalted (on_line line) lines first b halt
stops_line a b line s halt x f first lines h = record {
  stays = stays_then first a b h.stays s;
  fits = subst (λ q. HaltFits q.now.typed.now.domain q.now.typed.now.problem halt) (sym s.numbering) f;
  by = λ behind results e. subst (λ q. HaltsIn first.source (lines_tests q.now.typed.now.domain q.now.typed.now.problem results first.numeric) halt) (sym s.numbering)
      (played_halt first.source (domain_in a) (problem_in a) lines line behind results first a halt h.played e (subst (λ z. HaltsIn z (line_tests (domain_in a) (problem_in a) line a.numeric) halt) h.stays.source_is x));
}

pub ends_play : (a : Play) → AllPass (end_tests (domain_in a) (problem_in a) a.numeric) → (first : Play) (lines : List Line) → HasPlayed lines first a → HasEnded lines first a
ends_play a t first lines h = record { plays = h; passed = t }

pub stops_end : (a : Play) (halt : Halt) → HaltsAt a.source (end_tests (domain_in a) (problem_in a) a.numeric) halt → HaltFits (domain_in a) (problem_in a) halt → (first : Play) (lines : List Line) → HasPlayed lines first a → HasHalted at_end lines first a halt
stops_end a halt x f first lines h = record {
  stays = h.stays;
  fits = f;
  by = λ results more e q. played_then first.source (domain_in a) (problem_in a) lines results first a halt h.played e more
      (subst (λ ts. HaltsAt first.source ts halt) (sym q) (subst (λ z. HaltsAt z (end_tests (domain_in a) (problem_in a) a.numeric) halt) h.stays.source_is x));
}

pub stops_bad : (a : Play) (fault : PlanFault) (halt : Halt) → halt ≡ fault_halt fault → HaltFits (domain_in a) (problem_in a) halt → (first : Play) (lines : List Line) → HasPlayed lines first a → HasHalted (no_line fault) lines first a halt
stops_bad a fault halt is f first lines h = record {
  stays = h.stays;
  fits = f;
  by = (
    is,
    λ behind results e. subst (λ z. HaltsIn first.source (lines_tests (domain_in a) (problem_in a) results first.numeric) z) (sym is) (played_bad first.source (domain_in a) (problem_in a) lines fault behind results first a h.played e),
  );
}

too_long_fails : Passes too_long → ⊥
unfolding Passes
too_long_fails h = h

pub stops_long : (a : Play) → (first : Play) (lines : List Line) → HasPlayed lines first a → HasHalted too_long_text lines first a (Refused (verdicts.Other (TooLong texts.Plan)))
stops_long a first lines h = record {
  stays = h.stays;
  fits = tt;
  by = λ results more e q. played_then first.source (domain_in a) (problem_in a) lines results first a (Refused (verdicts.Other (TooLong texts.Plan))) h.played e more
      (subst (λ ts. HaltsAt first.source ts (Refused (verdicts.Other (TooLong texts.Plan)))) (sym q) (record { test = too_long; first = λ any. fail_here Passes too_long [] too_long_fails; is = refl }));
}

-- ---- the whole text

-- what is asked at its end
last_within : (d : Domain) (p : tree.Problem) (bytes : List ℕ) (s : State) → length bytes ≤ text_limit → last_tests d p bytes s ≡ end_tests d p s
unfolding last_tests
last_within d p bytes s w = ap (λ (b : Bool). if b then too_long ∷ [] else end_tests d p s) (short bytes w)
  where
    short : (bs : List ℕ) → length bs ≤ text_limit → nat_lt text_limit (length bs) ≡ false
    short bs w = grind (arith, common_steps)

last_over : (d : Domain) (p : tree.Problem) (bytes : List ℕ) (s : State) → text_limit < length bytes → last_tests d p bytes s ≡ too_long ∷ []
unfolding last_tests
last_over d p bytes s w = ap (λ (b : Bool). if b then too_long ∷ [] else end_tests d p s) (over bytes w)
  where
    over : (bs : List ℕ) → text_limit < length bs → nat_lt text_limit (length bs) ≡ true
    over bs w = grind (arith, common_steps)

read_all : (text : List ℕ) (lines : List Line) → AreAll Untimed text lines → text_lines Untimed text ≡ map Ok lines
read_all text lines a = lines_short Untimed text a.within ∙ a.read

-- the play halts, with whatever is asked behind
halts_all : (d : Domain) (p : tree.Problem) (bytes : List ℕ) (first : Play) (halt : Halt) → HaltsIn first.source (lines_tests d p (text_lines Untimed bytes) first.numeric) halt → HaltsWith d p bytes first halt
halts_all d p bytes first (Refused v) x = record { test = x.test; first = λ more. x.first (last_tests d p bytes); is = x.is }
halts_all d p bytes first Memory x = tt

module _ (text : List ℕ) (lines : List Line) (first now : Play) where
  ended_text : AreAll Untimed text lines → HasEnded lines first now → IsPlayed (domain_in first) (problem_in first) text first now
  ended_text a h =
      subst (λ q. IsPlayed q.now.typed.now.domain q.now.typed.now.problem text first now) h.plays.stays.numbering (record {
        lines = lines;
        reads = record { within = a.within; read = a.read };
        pass = played_all (domain_in now) (problem_in now) lines (text_lines Untimed text) first now h.plays.played (read_all text lines a) (last_tests (domain_in now) (problem_in now) text)
            (subst AllPass (sym (last_within (domain_in now) (problem_in now) text now.numeric a.within)) h.passed);
        kept = h.plays.played.kept;
      })

  by_why : (why : Why) (halt : Halt) → Stands Untimed text lines why → HaltsBy why lines first now halt → HaltsWith (domain_in now) (problem_in now) text first halt
  by_why (on_line line) halt s h = halts_all (domain_in now) (problem_in now) text first halt (h s.0 (text_lines Untimed text) s.1)
  by_why (no_line (faults.NotLine n start last)) halt s h = halts_all (domain_in now) (problem_in now) text first halt (h.1 s.0 (text_lines Untimed text) s.1)
  by_why (no_line (faults.LineTooLong n)) halt s h = halts_all (domain_in now) (problem_in now) text first halt (h.1 s.0 (text_lines Untimed text) s.1)
  by_why (no_line faults.Memory) halt s h = subst (λ z. HaltsWith (domain_in now) (problem_in now) text first z) (sym h.0) tt
  by_why too_long_text halt s h = h (text_lines Untimed text) (last_tests (domain_in now) (problem_in now) text) s.read (last_over (domain_in now) (problem_in now) text now.numeric s.over)
  by_why at_end halt s h = h (text_lines Untimed text) (last_tests (domain_in now) (problem_in now) text) (read_all text lines s) (last_within (domain_in now) (problem_in now) text now.numeric s.within)
  by_why handing halt s h = absurd h

  halted_text : (why : Why) (halt : Halt) → Stands Untimed text lines why → HasHalted why lines first now halt → HaltsWith (domain_in first) (problem_in first) text first halt
  halted_text why halt s h = subst (λ q. HaltsWith q.now.typed.now.domain q.now.typed.now.problem text first halt) h.stays.numbering (by_why why halt s h.by)

-- where the bytes of the text are told
if_some : (bytes : Option (List ℕ)) (P Q : List ℕ → Type 0) → ((text : List ℕ) → P text → Q text) → IfSome bytes P → IfSome bytes Q
if_some None P Q f h = tt
if_some (Some text) P Q f h = f text h

module _ {O : Type 0} (form : PlanForm) (is : form ≡ Untimed) (bytes : Option (List ℕ)) (first now : Playing) (start out : O) where
  pub plays_text : play.IsPlayed play_rules form bytes first start now out → IfSome bytes (λ text. IsPlayed (domain_in first.play) (problem_in first.play) text first.play now.play)
  plays_text h =
      if_some bytes (λ text. AreAll form text h.lines) (λ text. IsPlayed (domain_in first.play) (problem_in first.play) text first.play now.play)
      (λ text a. ended_text text h.lines first.play now.play (subst (λ f. AreAll f text h.lines) is a) h.ended) h.all

  halts_text : (halt : Halt) → IsHalted play_rules form bytes first start now out halt → IfSome bytes (λ text. HaltsWith (domain_in first.play) (problem_in first.play) text first.play halt)
  halts_text halt h =
      if_some bytes (λ text. Stands form text h.lines h.why) (λ text. HaltsWith (domain_in first.play) (problem_in first.play) text first.play halt)
      (λ text s. halted_text text h.lines first.play now.play h.why halt (subst (λ f. Stands f text h.lines h.why) is s) h.stops) h.stands

  module _ (picked rest : Option (List ℕ)) (before after : ℕ) (reader : Pending) where
    pub pauses_text : (pause : Pause Halt) → Pauses play_rules form bytes picked rest before after first start reader now out pause → PausesIn (domain_in first.play) (problem_in first.play) bytes before after first.play pause
    pauses_text (pauses.Halt halt) h = halts_text halt h
    pauses_text pauses.Failed h = h.0

    pub pauses_fit : (pause : Pause Halt) → Pauses play_rules form bytes picked rest before after first start reader now out pause → PauseFits (domain_in first.play) (problem_in first.play) pause
    pauses_fit (pauses.Halt halt) h = subst (λ q. HaltFits q.now.typed.now.domain q.now.typed.now.problem halt) h.stops.stays.numbering h.stops.fits
    pauses_fit pauses.Failed h = tt

-- ---- what calls tell

pub on_both : {T E A B C : Type 0} (r : Result T E) → (A → B → C) → OnOk r A → OnOk r B → OnOk r C
on_both (Ok x) f a b = f a b
on_both (Err e) f a b = tt

pub err_both : {T E : Type 0} (r : Result T E) (P Q R : E → Type 0) → ((e : E) → P e → Q e → R e) → IfErr r P → IfErr r Q → IfErr r R
err_both (Ok x) P Q R f p q = tt
err_both (Err e) P Q R f p q = f e p q
