-- The table against lists of names with their types.
use Rattle.std.proofs.Common.{◌≡◌, ℕ, suc, ◌+◌, ◌-◌, ◌≤◌, Bool, true, false, not, cond, List, [], ◌∷◌, ◌++◌, length, Ok, Err, refl, sym, ap, ◌∙◌, arith, length-append}
use Rattle.std.specs.Prelude.{◌&&◌, ◌==◌}
use Rattle.std.proofs.lemmas.Bool.{ne_eqb, and_parts}
use Rattle.plus_tree.specs.declared.names.Spelled.{Spelled}
use Rattle.plus_tree.specs.declared.terms.TypedName.{TypedName}
use Rattle.plus_tree.specs.declared.faults.TextFault.TheVariants as faults
use Rattle.plus_parser.specs.declared.phrases.words.Allowed.{Allowed}
use Rattle.plus_parser.specs.declared.phrases.words.Allowed.TheVariants as allows
use Rattle.plus_tokens.specs.Items.{Piece, Item}
use Rattle.plus_parser.specs.Phrases.Reading.{◌>>=◌, Read}
use Rattle.plus_parser.specs.Phrases.Words.{is_name, is_minus, is_allowed}
use Rattle.plus_parser.specs.Phrases.Grammar.{spelled_of, named_of, name_of, until_close, Listing, no_names, typed_by, type_of_waiting, list_step, all_typed, list_of, variables_of}
use Rattle.plus_parser.proofs.PhraseLemmas.Names.{name_kind}
use Rattle.plus_parser.proofs.PhraseLemmas.Level.{is_flat, allowed_flat}
use Rattle.plus_parser.proofs.PhraseLemmas.Tokens.{bind_ok, ok_is}
use Rattle.plus_parser.proofs.PhraseLemmas.TypedLists.{minus_is}
use Rattle.plus_places.specs.declared.symbols.Symbol.{Symbol}
use Rattle.plus_places.specs.declared.symbols.Symbol.TheVariants as sy
use Rattle.plus_places.specs.Table.{accept}
use Rattle.plus_places.proofs.Goes.{Rest, taken, goes}
use Rattle.plus_places.proofs.Follows.{bind_assoc, Follows, follows_open, follows_flat, flat_room}
use Rattle.plus_places.proofs.Turns.{after, in_turn, past_close, not_close, no_more, follows_length, Steps, Less, until_follows, under}

pub name_flat : (p : Piece) → is_name p.kind ≡ true → is_flat p.kind ≡ true
name_flat p e = ap is_flat (name_kind p.kind e)

pub name_follow : (room : ℕ) → Follows room room (sy.Name ∷ []) (name_of room)
name_follow room st items =
    let k = λ (x : Piece × List Item). goes room st x.1 in
    follows_flat (λ p. is_name p.kind) room sy.Name st items (λ n. Ok n) k (λ p. refl) name_flat (λ p rest. refl) ∙ bind_ok_same (name_of room items) k
  where
    bind_ok_same : (r : Read Piece) (k : Piece × List Item → Rest) → ((r >>= λ n. Ok n) >>= k) ≡ (r >>= k)
    bind_ok_same r k = bind_assoc r (λ n. Ok n) k

-- whether names wait for their type
abbrev pub waits : Listing → Bool
waits l = not (length l.waiting == 0)

some_waits : (xs : List Spelled) (x : Spelled) → not (length (xs ++ x ∷ []) == 0) ≡ true
some_waits xs x = ap not (ne_eqb (length (xs ++ x ∷ [])) 0 (λ z. let l : length (xs ++ x ∷ []) ≡ length xs + 1 = length-append xs (x ∷ []) in omega (arith, z, l)))

module _ (a : Allowed) (room : ℕ) where
  abbrev of : Listing → Symbol
  of l = sy.Listed a (waits l)

  abbrev more : List Symbol → Listing × List Item → Rest
  more st x = goes room (of x.0 ∷ st) x.1

  steps : (st : List Symbol) → Steps (list_step a room) room of st (λ x. goes (suc room) st x.1)
  unfolding list_step
  steps st l p rest c left =
      ap (λ w. taken w p (after room p st rest)) (not_close p.kind (cond (is_allowed a p.kind) (accept true (sy.Listed a true ∷ [])) (accept (is_minus p.kind && waits l) (sy.Name ∷ sy.Listed a false ∷ []))) c)
      ∙ at_name (is_allowed a p.kind) refl
    where
      at_minus : (b : Bool) → (is_minus p.kind && waits l) ≡ b → taken (accept b (sy.Name ∷ sy.Listed a false ∷ [])) p (after room p st rest) ≡ (cond b (type_of_waiting room l rest) (Err (faults.Form p.span)) >>= more st)
      at_minus true e =
          ap (λ r. goes r (sy.Name ∷ sy.Listed a false ∷ st) rest) (flat_room p.kind room (ap is_flat (minus_is p.kind (and_parts (is_minus p.kind) (waits l) e).0)))
          ∙ in_turn room room sy.Name (sy.Listed a false ∷ st) rest (name_of room) (λ n. Ok (typed_by (spelled_of n.0) l, n.1)) (more st) (name_follow room) (λ x. refl)
      at_minus false e = refl

      at_name : (b : Bool) → is_allowed a p.kind ≡ b
          → taken (cond b (accept true (sy.Listed a true ∷ [])) (accept (is_minus p.kind && waits l) (sy.Name ∷ sy.Listed a false ∷ []))) p (after room p st rest)
          ≡ (cond b (Ok (record l { waiting = l.waiting ++ named_of p ∷ [] }, rest)) (cond (is_minus p.kind && waits l) (type_of_waiting room l rest) (Err (faults.Form p.span))) >>= more st)
      at_name true e =
          ap (λ r. goes r (sy.Listed a true ∷ st) rest) (flat_room p.kind room (allowed_flat a p.kind e))
          ∙ ap (λ b. goes room (sy.Listed a b ∷ st) rest) (sym (some_waits l.waiting (named_of p)))
      at_name false e = at_minus (is_minus p.kind && waits l) refl

  less : (st : List Symbol) → Less (list_step a room) room of st (λ x. goes (suc room) st x.1)
  unfolding list_step
  less st l l' p r r' left e = at_name (is_allowed a p.kind) e
    where
      at_minus : (b : Bool) → cond b (type_of_waiting room l r) (Err (faults.Form p.span)) ≡ Ok (l', r') → length r' ≤ length r
      at_minus true e =
          let a = bind_ok (name_of room r) (λ n. Ok (typed_by (spelled_of n.0) l, n.1)) (l', r') e in
          let le = follows_length room room (sy.Name ∷ []) (name_of room) (name_follow room) r a.0.0 a.0.1 a.1 in
          let same = no_more a.0.1 r' (ap (λ (x : Listing × List Item). x.1) (ok_is (typed_by (spelled_of a.0.0) l, a.0.1) (l', r') a.2)) in
          omega (arith, le, same)
      at_minus false e = absurd cc

      at_name : (b : Bool) → cond b (Ok (record l { waiting = l.waiting ++ named_of p ∷ [] }, r)) (cond (is_minus p.kind && waits l) (type_of_waiting room l r) (Err (faults.Form p.span))) ≡ Ok (l', r') → length r' ≤ length r
      at_name true e = no_more r r' (ap (λ (x : Listing × List Item). x.1) (ok_is (record l { waiting = l.waiting ++ named_of p ∷ [] }, r) (l', r') e))
      at_name false e = at_minus (is_minus p.kind && waits l) e

  pub names_follow : Follows room (suc room) (sy.Listed a false ∷ []) (λ items. until_close (list_step a room) room (length items) no_names items)
  names_follow st items =
      until_follows (list_step a room) room of st (λ x. goes (suc room) st x.1)
      (λ l p rest c. past_close room st p rest (cond (is_allowed a p.kind) (accept true (sy.Listed a true ∷ [])) (accept (is_minus p.kind && waits l) (sy.Name ∷ sy.Listed a false ∷ []))) c)
      (steps st) (less st) (length items) no_names items (omega arith)

  pub list_follow : Follows room (suc room) (sy.Listed a false ∷ []) (list_of a room)
  unfolding list_of
  list_follow st items =
      in_turn room (suc room) (sy.Listed a false) st items (λ items. until_close (list_step a room) room (length items) no_names items) (λ l. Ok ((all_typed l.0.0, l.0.1), l.1)) (λ x. goes (suc room) st x.1) names_follow (λ x. refl)

pub variables_follow : (room : ℕ) → Follows room room (sy.Variables ∷ []) (variables_of room)
unfolding variables_of
variables_follow room st items =
    let k = λ (x : List TypedName × List Item). goes room st x.1 in
    follows_open room sy.Variables (sy.Listed allows.Variables false ∷ []) st items (λ o. list_of allows.Variables (room - 1) o.1 >>= λ l. Ok (l.0.0, l.1)) k (λ p. refl) (λ lt o rest.
    in_turn (room - 1) room (sy.Listed allows.Variables false) st rest (list_of allows.Variables (room - 1)) (λ l. Ok (l.0.0, l.1)) k
    (under room (sy.Listed allows.Variables false ∷ []) (list_of allows.Variables (room - 1)) lt (list_follow allows.Variables (room - 1))) (λ x. refl))
