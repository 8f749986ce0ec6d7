-- The table against a whole problem, and the place of a refusal.
use Rattle.std.proofs.Common.{◌≡◌, ℕ, suc, ◌-◌, ◌≤◌, Bool, true, false, cond, List, [], ◌∷◌, length, Option, Some, None, Result, Ok, Err, refl, sym, ap, ◌∙◌, arith}
use Rattle.std.specs.Prelude.{◌&&◌, is_some, unwrap_or, option_and_then, map, codes, IfErr, MatchResult, ◌⊎◌}
use Rattle.plus_tokens.specs.declared.span.Span.{Span}
use Rattle.plus_tree.specs.declared.names.Spelled.{Spelled}
use Rattle.plus_tree.specs.declared.trees.Init.{Init}
use Rattle.plus_tree.specs.declared.trees.Problem.{Problem}
use Rattle.plus_tree.specs.Cond.{Cond}
use Rattle.plus_tree.specs.declared.faults.TextFault.{TextFault}
use Rattle.plus_tokens.specs.Items.{Piece, Item, tok, bad, items_of}
use Rattle.plus_parser.specs.Phrases.Reading.{◌>>=◌, is_open, Fails}
use Rattle.plus_parser.specs.Phrases.Words.{is_close, is_name, is_word}
use Rattle.plus_parser.specs.Phrases.Grammar.{around, spelled_of, open_of, close_of, name_of, word_of, until_close}
use Rattle.plus_parser.specs.declared.parts.ProblemParts.{ProblemParts}
use Rattle.plus_parser.specs.ReadingDomain.{front_of, end_of}
use Rattle.plus_parser.specs.ReadingProblem.{no_problem_parts, problem_step, problem_made, or_early, problem_in, problem_of}
use Rattle.plus_parser.specs.SpellsProblem.{ProblemTokens, SpellsProblemWithin}
use Rattle.plus_parser.proofs.PhraseLemmas.Names.{word_is}
use Rattle.plus_parser.proofs.PhraseLemmas.Level.{is_flat, even_there}
use Rattle.plus_parser.proofs.Sections.{body_short}
use Rattle.plus_parser.proofs.ProblemLaws.{problem_takes, problem_level, problem_again}
use Rattle.plus_places.specs.declared.symbols.Symbol.{Symbol}
use Rattle.plus_places.specs.declared.symbols.Symbol.TheVariants as sy
use Rattle.plus_places.specs.Table.{Wanted, accept, once, all_met, none_missing, step, none_met, problem_symbols, run}
use Rattle.plus_places.proofs.Goes.{Rest, taken, goes}
use Rattle.plus_places.specs.Place.{IsPlace, Refuses}
use Rattle.plus_places.proofs.Follows.{bind_assoc, bind_same, follows_open, follows_close, follows_flat}
use Rattle.plus_places.proofs.Turns.{after, until_follows}
use Rattle.plus_places.proofs.Lists.{name_flat}
use Rattle.plus_places.proofs.Places.{whole, nothing}
use Rattle.plus_places.proofs.Places as places
use Rattle.plus_places.proofs.Sections.{met_of, of, sections_steps, sections_less}

-- ---- the table reads as the reader does

pub word_flat : (w : List ℕ) (p : Piece) → is_word w p ≡ true → is_flat p.kind ≡ true
word_flat w p e = ap is_flat (word_is w p e).0

pub front_follow : (w : List ℕ) (s : Symbol) → ((p : Piece) → step s p ≡ accept (is_word w p) []) → (room : ℕ) (left : List Symbol) (items : List Item) → goes (suc (suc room)) (sy.Open ∷ sy.Define ∷ sy.Open ∷ s ∷ sy.Name ∷ sy.Close ∷ left) items ≡ (front_of w room items >>= λ f. goes (suc room) left f.1)
unfolding front_of
front_follow w s steps room left items =
    let k = λ (x : (Spelled × Span) × List Item). goes (suc room) left x.1 in
    let r1 : suc (suc room) - 1 ≡ suc room = omega arith in
    let r2 : suc room - 1 ≡ room = omega arith in
    follows_open (suc (suc room)) sy.Open [] (sy.Define ∷ sy.Open ∷ s ∷ sy.Name ∷ sy.Close ∷ left) items (λ o. word_of (codes "define") (suc room) o.1 >>= λ d. open_of (suc room) d.1 >>= λ i. word_of w room i.1 >>= λ k. name_of room k.1 >>= λ n. close_of room n.1 >>= λ e. Ok ((spelled_of n.0, o.0.span), e.1)) k (λ p. refl) (λ lt o rest.
    ap (λ r. goes r (sy.Define ∷ sy.Open ∷ s ∷ sy.Name ∷ sy.Close ∷ left) rest) r1
    ∙ follows_flat (is_word (codes "define")) (suc room) sy.Define (sy.Open ∷ s ∷ sy.Name ∷ sy.Close ∷ left) rest (λ d. open_of (suc room) d.1 >>= λ i. word_of w room i.1 >>= λ k. name_of room k.1 >>= λ n. close_of room n.1 >>= λ e. Ok ((spelled_of n.0, o.span), e.1)) k (λ p. refl) (word_flat (codes "define")) (λ d rest.
    follows_open (suc room) sy.Open [] (s ∷ sy.Name ∷ sy.Close ∷ left) rest (λ i. word_of w room i.1 >>= λ k. name_of room k.1 >>= λ n. close_of room n.1 >>= λ e. Ok ((spelled_of n.0, o.span), e.1)) k (λ p. refl) (λ lt i rest.
    ap (λ r. goes r (s ∷ sy.Name ∷ sy.Close ∷ left) rest) r2
    ∙ follows_flat (is_word w) room s (sy.Name ∷ sy.Close ∷ left) rest (λ k. name_of room k.1 >>= λ n. close_of room n.1 >>= λ e. Ok ((spelled_of n.0, o.span), e.1)) k steps (word_flat w) (λ w rest.
    follows_flat (λ p. is_name p.kind) room sy.Name (sy.Close ∷ left) rest (λ n. close_of room n.1 >>= λ e. Ok ((spelled_of n.0, o.span), e.1)) k (λ p. refl) name_flat (λ n rest.
    follows_close room left rest (λ e. Ok ((spelled_of n, o.span), e.1)) k (λ e rest. refl))))))

-- the last parenthesis
abbrev last : Spelled × Span → (ProblemParts × Span) × List Item → Rest
last f x = or_early x.0.1 (problem_made f.0 x.0.0 (around f.1 x.0.1)) >>= λ p. Ok x.1

abbrev parts_made : Spelled × Span → ProblemParts → Span → Option Spelled → Option (List Init) → Option Cond → Option Problem
parts_made f ps s d i g =
    option_and_then (λ d. option_and_then (λ i. option_and_then (λ g. Some (record { name = f.0; domain = d; requirements = unwrap_or ps.requirements []; objects = unwrap_or ps.objects []; init = i; goal = g; span = around f.1 s })) g) i) d

last_follow : (f : Spelled × Span) (ps : ProblemParts) (p : Piece) (rest : List Item) → taken (accept (none_missing (met_of ps)) []) p (λ ks. Ok rest) ≡ last f ((ps, p.span), rest)
last_follow f ps p rest = at_parts ps.domain ps.init ps.goal
  where
    at_parts : (d : Option Spelled) (i : Option (List Init)) (g : Option Cond) → taken (accept (is_some d && (is_some i && is_some g)) []) p (λ ks. Ok rest) ≡ (or_early p.span (parts_made f ps p.span d i g) >>= λ p. Ok rest)
    at_parts None i g = refl
    at_parts (Some d) None g = refl
    at_parts (Some d) (Some i) None = refl
    at_parts (Some d) (Some i) (Some g) = refl

last_closes : (room : ℕ) (f : Spelled × Span) (ps : ProblemParts) (p : Piece) (rest : List Item) → is_close p.kind ≡ true → taken (step (sy.Sections (met_of ps)) p) p (after room p [] rest) ≡ last f ((ps, p.span), rest)
unfolding goes
last_closes room f ps p rest c =
    ap (λ b. taken (cond b (accept (none_missing (met_of ps)) []) (step_open p)) p (after room p [] rest)) c
    ∙ at_missing (none_missing (met_of ps))
    ∙ last_follow f ps p rest
  where
    step_open : Piece → Wanted
    step_open p = cond (is_open p.kind) (once (all_met (met_of ps)) (sy.Section (met_of ps) ∷ [])) None

    at_missing : (b : Bool) → taken (accept b []) p (after room p [] rest) ≡ taken (accept b []) p (λ ks. Ok rest)
    at_missing true = refl
    at_missing false = refl

pub end_nothing : (items : List Item) → (end_of items >>= λ e. Ok []) ≡ end_of items
unfolding end_of
end_nothing [] = refl
end_nothing (bad f ∷ items) = refl
end_nothing (tok p ∷ items) = refl

pub problem_follow : (room : ℕ) (items : List Item) → whole problem_symbols (suc (suc room)) items ≡ (problem_in room items >>= nothing)
unfolding problem_in
problem_follow room items =
    let loop = λ (f : (Spelled × Span) × List Item). until_close (problem_step (suc room)) (suc room) (length f.1) no_problem_parts f.1 in
    let finished = λ (f : Spelled × Span) (x : (ProblemParts × Span) × List Item). or_early x.0.1 (problem_made f.0 x.0.0 (around f.1 x.0.1)) >>= λ p. end_of x.1 >>= λ (e : List Item). done p in
    let sections = λ (f : (Spelled × Span) × List Item). loop f >>= finished f.0 in
    ap (λ (r : Rest). r >>= end_of) (front_follow (codes "problem") sy.ProblemWord (λ p. refl) room (sy.Sections none_met ∷ []) items)
    ∙ bind_assoc (front_of (codes "problem") room items) (λ f. goes (suc room) (sy.Sections none_met ∷ []) f.1) end_of
    ∙ bind_same (front_of (codes "problem") room items) (λ f. goes (suc room) (sy.Sections none_met ∷ []) f.1 >>= end_of) (λ f. sections f >>= nothing) (λ f e.
    ap (λ (r : Rest). r >>= end_of) (until_follows (problem_step (suc room)) (suc room) (of (suc room) [] (last f.0)) [] (last f.0) (last_closes (suc room) f.0) (sections_steps (suc room) [] (last f.0)) (sections_less (suc room) [] (last f.0)) (length f.1) no_problem_parts f.1 (omega arith))
    ∙ bind_assoc (loop f) (last f.0) end_of
    ∙ bind_same (loop f) (λ x. last f.0 x >>= end_of) (λ x. finished f.0 x >>= nothing) (λ x e. at_made x.1 (or_early x.0.1 (problem_made f.0.0 x.0.0 (around f.0.1 x.0.1))))
    ∙ sym (bind_assoc (loop f) (finished f.0) nothing))
    ∙ sym (bind_assoc (front_of (codes "problem") room items) sections nothing)
  where
    done : Problem → Result Problem TextFault
    done p = Ok p

    at_end : (p : Problem) (rest : List Item) (r : Rest) → (r >>= nothing) ≡ ((r >>= λ (e : List Item). done p) >>= nothing)
    at_end p rest (Ok x) = refl
    at_end p rest (Err e) = refl

    at_made : (rest : List Item) (r : Result Problem TextFault) → ((r >>= λ p. Ok rest) >>= end_of) ≡ ((r >>= λ p. end_of rest >>= λ (e : List Item). done p) >>= nothing)
    at_made rest (Ok p) = sym (end_nothing rest) ∙ at_end p rest (end_of rest)
    at_made rest (Err e) = refl

-- ---- the place

again : (x : Problem) (ts : List Piece) (room : ℕ) → length ts ≤ room → ProblemTokens x ts → problem_in room (map tok ts) ≡ Ok x
again x ts room le t =
    let short = body_short (codes "problem") x.name x.span t.body ts t.frame in
    problem_again room x ts t (even_there t.body (suc room) (problem_level x ts t) (omega (arith, le, short)))

pub reading_placed : (text : List ℕ) (r : Result Problem TextFault) → MatchResult r (λ x. problem_of 64 (items_of text) ≡ Ok x) (λ e. Fails e (problem_of 64 (items_of text))) → IfErr r (λ e. Refuses ProblemTokens 64 text e)
reading_placed = places.reading_placed ProblemTokens problem_symbols problem_in problem_follow problem_takes again refl

pub spells_none : (depth : ℕ) (text : List ℕ) (e : TextFault) → 2 ≤ depth → IsPlace ProblemTokens depth text e → (x : Problem) → SpellsProblemWithin depth text x → ⊥
spells_none = places.spells_none ProblemTokens problem_symbols problem_in problem_follow problem_takes again refl

pub tree_or_place : (depth : ℕ) (text : List ℕ) → 2 ≤ depth → ((x : Problem) × SpellsProblemWithin depth text x) ⊎ ((e : TextFault) × IsPlace ProblemTokens depth text e)
tree_or_place = places.tree_or_place ProblemTokens problem_symbols problem_in problem_follow problem_takes again refl

pub one_place : (depth : ℕ) (text : List ℕ) (e f : TextFault) → 2 ≤ depth → IsPlace ProblemTokens depth text e → IsPlace ProblemTokens depth text f → e ≡ f
one_place = places.one_place ProblemTokens problem_symbols problem_in problem_follow problem_takes again refl

pub spells_run : (x : Problem) (ts : List Piece) → ProblemTokens x ts → run problem_symbols ts ≡ Some []
spells_run = places.spells_run ProblemTokens problem_symbols problem_in problem_follow problem_takes again refl

pub run_tree : (ts : List Piece) → run problem_symbols ts ≡ Some [] → (x : Problem) × ProblemTokens x ts
run_tree = places.run_tree ProblemTokens problem_symbols problem_in problem_follow problem_takes again refl
