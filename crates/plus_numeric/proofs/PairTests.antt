-- What is asked of a pair: where it is refused, and where it is ground.
use Rattle.std.proofs.Common.{◌≡◌, List, [], ◌∷◌, ◌++◌, map, refl, subst, sym, ap, ◌∙◌, inl, inr}
use Rattle.std.specs.Prelude.{Some, None, All}
use Rattle.plus_state.proofs.Testing.{pass_none, pass_append, fail_here, fail_left, fail_right, fail_split}
use Rattle.plus_number.specs.Frac.{IsFrac64}
use Rattle.plus_tokens.specs.declared.span.Span.{Span}
use Rattle.plus_tree.specs.declared.terms.Literal.{Literal}
use Rattle.plus_tree.specs.declared.trees.Domain.{Domain}
use Rattle.plus_tree.specs.declared.trees.Problem as tree
use Rattle.plus_types.specs.declared.faults.File.{File}
use Rattle.plus_literal.specs.Value.{LiteralFits}
use Rattle.plus_expansion.specs.Unfit.{IsUnfit}
use Rattle.plus_expansion.specs.declared.counts.Count.{Count}
use Rattle.plus_expansion.specs.Counts.{Counted, first_over}
use Rattle.plus_expansion.specs.Literals.{literals_of}
use Rattle.plus_expansion.specs.Counting.{counts_of, IsGroundable}
use Rattle.plus_numeric.specs.declared.level.Place.{Place}
use Rattle.plus_numeric.specs.Level.{beyond_level_two}
use Rattle.plus_numeric.specs.Tests.{Test, beyond, count, literal, Passes, AllPass, FirstFailing, IsBreach}
use Rattle.plus_numeric.specs.Asked.{in_text, pair_tests}
use Rattle.plus_numeric.proofs.Counting.{counts_over, counts_within, members_pass, member_fails, member_of}

abbrev Fits : File × Literal → Type 0
Fits l = LiteralFits IsFrac64 l.1

text_there : (l : File × Literal) → Fits l → Passes (in_text l)
unfolding Passes
text_there l h = h

text_back : (l : File × Literal) → Passes (in_text l) → Fits l
unfolding Passes
text_back l h = h

beyond_fails : (place : Place) → Passes (beyond place) → ⊥
unfolding Passes
beyond_fails place h = h

module _ (d : Domain) (p : tree.Problem) where
  -- something is beyond level two
  pub pair_beyond : (place : Place) (more : List Place) → beyond_level_two d p ≡ place ∷ more → FirstFailing (pair_tests d p) (beyond place)
  unfolding pair_tests
  pair_beyond place more e =
      fail_left Passes (map beyond (beyond_level_two d p)) _ (beyond place)
      (subst (λ (ps : List Place). FirstFailing (map beyond ps) (beyond place)) (sym e) (fail_here Passes (beyond place) (map beyond more) (beyond_fails place)))

  level_passes : beyond_level_two d p ≡ [] → AllPass (map beyond (beyond_level_two d p))
  level_passes e = subst (λ (ps : List Place). AllPass (map beyond ps)) (sym e) (pass_none Passes)

  -- too many are counted
  pub pair_over : (c : Counted) → beyond_level_two d p ≡ [] → first_over (counts_of d p) ≡ Some c → FirstFailing (pair_tests d p) (count c)
  unfolding pair_tests
  pair_over c e h =
      fail_right Passes (map beyond (beyond_level_two d p)) _ (count c) (level_passes e)
      (fail_left Passes (map count (counts_of d p)) (map in_text (literals_of d p)) (count c) (counts_over (counts_of d p) c h))

  -- a literal is no value
  pub pair_unfit :
      (file : File) (span : Span) → beyond_level_two d p ≡ [] → (u : IsUnfit IsFrac64 d p file span)
      → FirstFailing (pair_tests d p) (literal file u.unfit.literal)
  unfolding pair_tests
  pair_unfit file span e u =
      fail_right Passes (map beyond (beyond_level_two d p)) _ (literal file u.unfit.literal) (level_passes e)
      (fail_right Passes (map count (counts_of d p)) (map in_text (literals_of d p)) (literal file u.unfit.literal) (counts_within (counts_of d p) u.counts)
      (member_fails in_text Fits text_there text_back (literals_of d p) (file, u.unfit.literal) u.unfit.first))

  -- nothing is refused
  pub pair_passes : beyond_level_two d p ≡ [] → IsGroundable IsFrac64 d p → AllPass (pair_tests d p)
  unfolding pair_tests
  pair_passes e g =
      pass_append Passes (map beyond (beyond_level_two d p)) _ (level_passes e)
      (pass_append Passes (map count (counts_of d p)) (map in_text (literals_of d p)) (counts_within (counts_of d p) g.counts)
      (members_pass in_text Fits text_there text_back (literals_of d p) g.literals))

  -- a pair breaks no rule of plans
  pub pair_no_breach : (t : Test) → FirstFailing (pair_tests d p) t → IsBreach t → ⊥
  unfolding pair_tests
  pair_no_breach t h b =
      elim (fail_split Passes (map beyond (beyond_level_two d p)) (map count (counts_of d p) ++ map in_text (literals_of d p)) t h) [
        | inl x ↦ (let m = member_of beyond (beyond_level_two d p) t x in subst IsBreach m.1 b)
        | inr y ↦ elim (fail_split Passes (map count (counts_of d p)) (map in_text (literals_of d p)) t y.1) [
          | inl x ↦ (let m = member_of count (counts_of d p) t x in subst IsBreach m.1 b)
          | inr z ↦ (let m = member_of in_text (literals_of d p) t z.1 in subst IsBreach m.1 b)
        ]
      ]
