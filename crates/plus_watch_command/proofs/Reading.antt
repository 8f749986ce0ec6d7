-- Why a text of constraints is refused, put together from what the calls answer.
use Rattle.std.proofs.Common.{◌≡◌, ℕ, List, Option, Some, None, arith, sym, subst, refl, length}
use Rattle.std.specs.Prelude.{IfSome}
use Rattle.plus_tokens.specs.declared.token.LexFault.TheVariants as lex
use Rattle.plus_tree.specs.declared.faults.TextFault.{TextFault}
use Rattle.plus_tree.specs.declared.faults.TextFault.TheVariants as faults
use Rattle.plus_tree.specs.declared.trees.Constraint.{Constraint}
use Rattle.plus_parser.specs.SpellsConstraints.{ConstraintTokens, SpellsConstraintsWithin}
use Rattle.plus_places.specs.Place.{IsPlace, Refuses}
use Rattle.plus_places.proofs.Constraints.{spells_none}
use Rattle.plus_grammar.specs.Wholes.{AreConstraints}
use Rattle.plus_grammar.proofs.Texts.{constraint_texts}
use Rattle.plus_grammar.proofs.Wholes.{constraints_spelled}
use Rattle.plus_reply.proofs.PairLemmas.LawLemmas.{same_place}
use Rattle.plus_reply.proofs.PairLemmas.PairLemmas.{WasRead}
use Rattle.plus_report.specs.declared.refusals.Text.TheVariants as texts
use Rattle.plus_report.specs.declared.refusals.Early as early
use Rattle.plus_reply.specs.declared.pair.pair.Refusal.{Refusal}
use Rattle.plus_reply.specs.declared.pair.pair.Refusal.TheVariants.{Early}
use Rattle.plus_reply.specs.Pair.Pair.{text_refusal}
use Rattle.plus_watch_command.specs.Constraints.{ConstraintsRefused, no_constraints, ReadsConstraints, NoConstraints}

constraint_place : (depth : ℕ) (text : List ℕ) (fault : TextFault) → IsPlace ConstraintTokens depth text fault → IsPlace AreConstraints depth text fault
constraint_place = same_place ConstraintTokens AreConstraints (λ cs ts. (constraints_spelled cs ts).0) (λ cs ts. (constraints_spelled cs ts).1)

-- what was read is spelled by it
pub constraints_read : (bytes : Option (List ℕ)) (text : List ℕ) (cs : List Constraint) → WasRead bytes text → SpellsConstraintsWithin 64 text cs → ReadsConstraints bytes cs
constraints_read None text cs h s = tt
constraints_read (Some bs) text cs h s = ((constraint_texts 64 bs cs).0 (subst (λ t. SpellsConstraintsWithin 64 t cs) h.0 s), h.1)

constraints_line :
    (bytes : Option (List ℕ)) (text : List ℕ) (fault : TextFault) (e : early.Early) → WasRead bytes text
    → IsPlace ConstraintTokens 64 text fault → text_refusal texts.Constraints (length text) fault ≡ Early e
    → IfSome bytes (λ bs. ConstraintsRefused bs e)
constraints_line None text fault e h f q = tt
constraints_line (Some bs) text fault e h f q =
    let place = subst (λ t. IsPlace ConstraintTokens 64 t fault) h.0 f in
    no_constraints fault h.1 (λ cs sp. spells_none 64 bs fault (omega arith) place cs ((constraint_texts 64 bs cs).1 sp)) (constraint_place 64 bs fault place)
    (subst (λ t. text_refusal texts.Constraints (length t) fault ≡ Early e) h.0 q)

no_constraints_by :
    (bytes : Option (List ℕ)) (b n : ℕ) (text : List ℕ) (fault : TextFault) → WasRead bytes text
    → Refuses ConstraintTokens 64 text fault → NoConstraints bytes b n (text_refusal texts.Constraints (length text) fault)
no_constraints_by bytes b n text faults.Memory h f = tt
no_constraints_by bytes b n text (faults.Lex (lex.BadByte at)) h f = constraints_line bytes text (faults.Lex (lex.BadByte at)) _ h f refl
no_constraints_by bytes b n text (faults.Lex (lex.TooLong at)) h f = constraints_line bytes text (faults.Lex (lex.TooLong at)) _ h f refl
no_constraints_by bytes b n text faults.Unclosed h f = constraints_line bytes text faults.Unclosed _ h f refl
no_constraints_by bytes b n text (faults.Depth at) h f = constraints_line bytes text (faults.Depth at) _ h f refl
no_constraints_by bytes b n text (faults.Form s) h f = constraints_line bytes text (faults.Form s) _ h f refl

-- the text spells none
pub constraints_refused :
    (bytes : Option (List ℕ)) (b n : ℕ) (text : List ℕ) (fault : TextFault) (r : Refusal) → WasRead bytes text
    → Refuses ConstraintTokens 64 text fault → r ≡ text_refusal texts.Constraints (length text) fault → NoConstraints bytes b n r
constraints_refused bytes b n text fault r h f e = subst (NoConstraints bytes b n) (sym e) (no_constraints_by bytes b n text fault h f)
