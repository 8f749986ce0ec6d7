-- What the text of a half says of a pair.
use Rattle.std.specs.Prelude.{◌≡◌, None, List, All, slice_get, Option, Some, map}
use Rattle.std.specs.List.{flat_map}
use Rattle.std.proofs.Common.{ℕ, ap, sym, ◌∙◌, subst}
use Rattle.plus_fraction.specs.Fraction.{Fraction}
use Rattle.plus_tree.specs.declared.trees.Domain.{Domain}
use Rattle.plus_tree.specs.declared.trees.Problem.{Problem}
use Rattle.plus_types.specs.declared.faults.File.{File}
use Rattle.plus_types.specs.declared.faults.File.TheVariants as files
use Rattle.plus_translation.specs.Names.{names_taken}
use Rattle.plus_tree.specs.declared.trees.Schema.{Schema}
use Rattle.plus_tree.specs.Cond.{conds_of}
use Rattle.plus_tree.specs.Effect.{effects_of}
use Rattle.plus_printer.specs.Canon.{conds_text, effects_text, happening_text, domain_text, problem_text}
use Rattle.plus_translation.specs.Renamed.{renamed_from}
use Rattle.plus_translation.specs.Depth.{pair_within}
use Rattle.plus_translation.specs.Translated.{Due, length_of_step, due_by, time_of, none_hold, clears, domain_translated, problem_translated, translated_domain, translated_problem}
use Rattle.plus_translate.specs.Grid.{StandsOnGrid}
use Rattle.plus_translate.specs.declared.fault.TransFault.TheVariants.{TooDeep}
use Rattle.plus_translate.specs.Translates.{NoTranslation}
use Rattle.plus_translate.proofs.TranslateLemmas.{is_translation, not_shallow}
use Rattle.plus_translate_command.specs.Printer.Woven.{opening_text, own_parts, woven}
use Rattle.plus_translate_command.specs.Printer.Frame.{frame_of, BeginsWithStep, spliced_within}
use Rattle.plus_translate_command.specs.Printer.Printed.{half_text, IsTextOfHalf, IsPrinted}
use Rattle.plus_translate_command.proofs.PrinterLemmas.WovenLemmas.{woven_is}
use Rattle.plus_translate_command.proofs.PrinterLemmas.FrameLemmas.{spliced_is_within}

-- ---- a pair

module _ (file : File) (q : Fraction) (d d' : Domain) (p p' : Problem) (domain : d' ≡ d) (problem : p' ≡ p) (names : None ≡ slice_get (names_taken d p) 0) (times : All (StandsOnGrid q) (flat_map time_of p.init)) where
  same_domain : translated_domain q d' p' ≡ translated_domain q d p
  same_domain = ap (λ x. translated_domain q x p') domain ∙ ap (translated_domain q d) problem

  same_problem : translated_problem q d' p' ≡ translated_problem q d p
  same_problem = ap (λ x. translated_problem q x p') domain ∙ ap (translated_problem q d) problem

  pub text_of_half :
      (found : Option (List ℕ)) (text : List ℕ) → found ≡ Some text
      → IsPrinted file (translated_domain q d' p') (translated_problem q d' p') found → IsTextOfHalf file q d p text
  text_of_half found text e h =
      let is = subst (IsPrinted file (translated_domain q d' p') (translated_problem q d' p')) e h in
      record {
        domain = translated_domain q d' p';
        problem = translated_problem q d' p';
        translation = is_translation q d p (translated_domain q d' p') (translated_problem q d' p') names times same_domain same_problem is.0;
        text_is = is.1;
      }

  pub none_of_half :
      (found : Option (List ℕ)) → found ≡ None
      → IsPrinted file (translated_domain q d' p') (translated_problem q d' p') found → NoTranslation q d p TooDeep
  none_of_half found e h =
      let is = subst (IsPrinted file (translated_domain q d' p') (translated_problem q d' p')) e h in
      not_shallow q d p TooDeep names times
      (sym (ap (λ x. pair_within x (translated_problem q d' p')) same_domain ∙ ap (pair_within (translated_domain q d p)) same_problem) ∙ is)

-- ---- one half

module _ (q : Fraction) (events : List Schema) (due : List Due) (d : Domain) (p : Problem) (renamed : events ≡ renamed_from 1 d.events) (dues : due ≡ flat_map (due_by q) p.init) where
  whole_domain : domain_translated q events due d p ≡ translated_domain q d p
  whole_domain = ap (λ e. domain_translated q e due d p) renamed ∙ ap (λ u. domain_translated q (renamed_from 1 d.events) u d p) dues

  whole_problem : problem_translated events due p ≡ translated_problem q d p
  whole_problem = ap (λ e. problem_translated e due p) renamed ∙ ap (λ u. problem_translated (renamed_from 1 d.events) u p) dues

  pub within_is : (frame : Domain) → frame ≡ frame_of q events due d p → spliced_within frame d p ≡ pair_within (translated_domain q d p) (translated_problem q d p)
  within_is frame f =
      ap (λ x. spliced_within x d p) f ∙ spliced_is_within q events due d p
      ∙ ap (λ x. pair_within x (problem_translated events due p)) whole_domain ∙ ap (λ x. pair_within (translated_domain q d p) x) whole_problem

  pub domain_half :
      (frame : Domain) (again actions : List Schema) (text : List ℕ) → again ≡ renamed_from 1 d.events → actions ≡ d.actions → frame ≡ frame_of q events due d p
      → text ≡ woven (opening_text frame) (conds_text (conds_of (none_hold again))) (effects_text (effects_of (clears 1 again))) (map own_parts actions) (happening_text frame)
      → text ≡ domain_text (translated_domain q d p)
  domain_half frame again actions text g a f t =
      t ∙ ap (λ e. woven (opening_text frame) (conds_text (conds_of (none_hold e))) (effects_text (effects_of (clears 1 e))) (map own_parts actions) (happening_text frame)) (g ∙ sym renamed)
      ∙ ap (λ x. woven (opening_text frame) (conds_text (conds_of (none_hold events))) (effects_text (effects_of (clears 1 events))) (map own_parts x) (happening_text frame)) a
      ∙ ap (λ x. woven (opening_text x) (conds_text (conds_of (none_hold events))) (effects_text (effects_of (clears 1 events))) (map own_parts d.actions) (happening_text x)) f
      ∙ woven_is q events due d p ∙ ap domain_text whole_domain

  pub problem_half : (text : List ℕ) → text ≡ problem_text (problem_translated events due p) → text ≡ problem_text (translated_problem q d p)
  problem_half text t = t ∙ ap problem_text whole_problem

pub domain_chosen : (file : File) (d : Domain) (p : Problem) (text : List ℕ) → file ≡ files.Domain → text ≡ domain_text d → text ≡ half_text file d p
domain_chosen file d p text i t = t ∙ ap (λ f. half_text f d p) (sym i)

pub problem_chosen : (file : File) (d : Domain) (p : Problem) (text : List ℕ) → file ≡ files.Problem → text ≡ problem_text p → text ≡ half_text file d p
problem_chosen file d p text i t = t ∙ ap (λ f. half_text f d p) (sym i)

-- the frame begins with a step beside the same events
pub begins : (q : Fraction) (events again : List Schema) (due : List Due) (d : Domain) (p : Problem) (frame : Domain) → frame ≡ frame_of q events due d p → again ≡ events → BeginsWithStep frame again
begins q events again due d p frame f g =
    subst (BeginsWithStep frame) (sym g) (record { length = length_of_step q; due = due; processes = d.processes; others = _; is = ap (λ x. x.actions) f })
