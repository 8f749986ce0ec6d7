use Rattle.std.proofs.Common.{◌+◌, ◌<◌, ◌≤◌, map, length, subst, refl, arith}
use Rattle.std.specs.Prelude.{All}
use Rattle.std.proofs.lemmas.List.{length-map}
use Rattle.plus_number.specs.Frac.{fraction_of}
use Rattle.plus_trim.specs.Acts.{act_of}
use Rattle.plus_trim_command.proofs.KeptLemmas.{rising_few}
use Rattle.plus_trim_command.proofs.trim.of_acts.Goals as goal

pub kept_of-requires-clause-few : goal.kept_of-requires-clause-few
kept_of-requires-clause-few c = subst (λ n. n ≤ 200) (length-map c.args.acts.now (act_of fraction_of)) c.requires.few

pub text_of-requires-clause-inside : goal.text_of-requires-clause-inside
text_of-requires-clause-inside c = subst (λ n. All (λ p. p < n) c.in_ok-kept.kept.places.items) (length-map c.args.acts.now (act_of fraction_of)) c.in_ok-kept.ensures.inside

pub text_of-requires-clause-fewer : goal.text_of-requires-clause-fewer
text_of-requires-clause-fewer c =
    let n = length (map (act_of fraction_of) c.args.acts.now) in
    let f : 0 + length c.in_ok-kept.kept.places.items ≤ n = rising_few 0 n c.in_ok-kept.kept.places.items (omega arith) c.in_ok-kept.ensures.rising c.in_ok-kept.ensures.inside in
    let e = length-map c.args.acts.now (act_of fraction_of) in
    omega arith

pub returns : goal.returns
returns c = record {
  places = c.in_ok-kept.kept.places.items;
  beyond = c.in_ok-kept.kept.beyond;
  kept = c.in_ok-kept.ensures;
  status_is = refl;
  text_is = c.in_ok-text.ensures;
}
