-- The texts of members, each behind a space.
use Rattle.std.specs.Prelude.{codes}
use Rattle.std.proofs.Common.{◌≡◌, ℕ, ◌-◌, List, [], ◌∷◌, ◌++◌, ◌∙◌, ap, sym, refl, suc, length, get_or, drop, arith, append_assoc, length-append}
use Rattle.std.specs.List.{flat_map}
use Rattle.std.proofs.Math.Seq.{drop-append_seam}
use Rattle.plus_tokens.specs.declared.span.Span.{Span}
use Rattle.plus_tree.specs.Cond.{Cond, c_all, conds_of}
use Rattle.plus_tree.specs.Effect.{Effect, e_all, effects_of}
use Rattle.plus_printer.specs.Words.{word, spaced}
use Rattle.plus_printer.specs.Canon.{cond_text, conds_text, effect_text, effects_text}
use Rattle.plus_printer.specs.Appended.{IsAppended}
use Rattle.plus_tree.specs.declared.trees.Schema.{Schema}
use Rattle.plus_tree.specs.declared.trees.Domain.{Domain}
use Rattle.plus_translation.specs.Renamed.{nowhere}
use Rattle.plus_translation.specs.Translated.{none_hold, clears, flows, clock_effects}
use Rattle.plus_translate.specs.Parts.{step_of}
use Rattle.plus_translate_command.specs.Printer.Frame.{BeginsWithStep}

pub conds_spaced : (cs : List Cond) → spaced cond_text cs ≡ conds_text (conds_of cs)
conds_spaced [] = refl
conds_spaced (c ∷ cs) = ap (λ t. (word (codes " ") ++ cond_text c) ++ t) (conds_spaced cs)

pub effects_spaced : (es : List Effect) → spaced effect_text es ≡ effects_text (effects_of es)
effects_spaced [] = refl
effects_spaced (e ∷ es) = ap (λ t. (word (codes " ") ++ effect_text e) ++ t) (effects_spaced es)

-- the same members
pub same_effects : (xs ys : List Effect) → effects_of xs ≡ effects_of ys → xs ≡ ys
same_effects [] [] e = refl
same_effects [] (y ∷ ys) e = cc e
same_effects (x ∷ xs) [] e = cc e
same_effects (x ∷ xs) (y ∷ ys) e = let t : xs ≡ ys = same_effects xs ys (cc) in cc

-- ---- what a tree joins, as a text that was empty

pub joined :
    (cs ds : List Cond) (s t : Span) (now : Cond) (old new : List ℕ) → c_all (conds_of cs) s ≡ now → now ≡ c_all (conds_of ds) t → old ≡ []
    → IsAppended old new (spaced cond_text cs) → new ≡ conds_text (conds_of ds)
joined cs ds s t now old new v e o h =
    let same : conds_of cs ≡ conds_of ds = cc in
    h.whole ∙ ap (λ x. x ++ spaced cond_text cs) o ∙ conds_spaced cs ∙ ap conds_text same

last_of : (ms front back : List Effect) (count before : ℕ) → ms ≡ front ++ back → length back ≡ count → before ≡ length ms - count → drop before ms ≡ back
last_of ms front back count before m n b =
    let at : before ≡ length front = omega (arith, ap length m, length-append front back) in
    ap (λ k. drop k ms) at ∙ ap (drop (length front)) m ∙ drop-append_seam front back

pub ended :
    (ms front back slice : List Effect) (s t : Span) (now : Effect) (count before : ℕ) (old new : List ℕ) → e_all (effects_of ms) s ≡ now
    → now ≡ e_all (effects_of (front ++ back)) t → length back ≡ count → before ≡ length ms - count → slice ≡ drop before ms → old ≡ []
    → IsAppended old new (spaced effect_text slice) → new ≡ effects_text (effects_of back)
ended ms front back slice s t now count before old new v e n b i o h =
    let same : effects_of ms ≡ effects_of (front ++ back) = cc in
    h.whole ∙ ap (λ x. x ++ spaced effect_text slice) o ∙ ap (spaced effect_text) (i ∙ last_of ms front back count before (same_effects ms (front ++ back) same) n b)
    ∙ effects_spaced back

-- ---- the first action of a frame

pub length_clears : (i : ℕ) (events : List Schema) → length (clears i events) ≡ length events
length_clears i [] = refl
length_clears i (e ∷ more) = ap suc (length_clears (suc i) more)

pub is_step : (frame : Domain) (events actions : List Schema) (step : Schema) (h : BeginsWithStep frame events) → actions ≡ frame.actions → step ≡ get_or actions 0 step
    → step ≡ step_of h.length events h.due h.processes
is_step frame events actions step h a g = g ∙ ap (λ xs. get_or xs 0 step) (a ∙ h.is)

pub condition_is : (frame : Domain) (events : List Schema) (step : Schema) (h : BeginsWithStep frame events) → step ≡ step_of h.length events h.due h.processes
    → step.condition ≡ c_all (conds_of (none_hold events)) nowhere
condition_is frame events step h e = ap (λ s. s.condition) e

pub effect_is : (frame : Domain) (events : List Schema) (step : Schema) (h : BeginsWithStep frame events) → step ≡ step_of h.length events h.due h.processes
    → step.effect ≡ e_all (effects_of ((flat_map (flows h.length) h.processes ++ clock_effects h.due) ++ clears 1 events)) nowhere
effect_is frame events step h e =
    ap (λ s. s.effect) e ∙ ap (λ es. e_all (effects_of es) nowhere) (sym (append_assoc (flat_map (flows h.length) h.processes) (clock_effects h.due) (clears 1 events)))
