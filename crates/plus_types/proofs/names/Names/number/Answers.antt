use Rattle.std.proofs.Common.{◌∙◌, ap, sym, Vec, Global, ℕ}
use Rattle.std.specs.Str.{bytes_eq}
use Rattle.plus_types.proofs.NamesLemmas.{position-map, none-yet, first-found, none-found}
use Rattle.plus_types.proofs.names.Names.number.Goals as goal

pub returns-then-keys-gt-FEW-clause-place : goal.returns-then-keys-gt-FEW-clause-place
returns-then-keys-gt-FEW-clause-place c = rw (← c.self.view_is) (c.get_index_of.ensures.index ∙ position-map (bytes_eq c.args.name.now) (λ (key : Vec ℕ Global). key.items) c.self.inside.table.keys)

pub keys-preserved : goal.keys-preserved
keys-preserved c =
    let t = λ (k : Vec ℕ Global). bytes_eq c.args.name.now k.items in
    let miss = ap (bytes_eq c.args.name.now) (sym c.as_slice.ensures.value) ∙ sym c.is_name.ensures ∙ c.if-is_name.false in
    none-yet t c.as_slice-keys.result.now c.keys.place c.index-keys-place.result c.keys-test.true c.index-keys-place.is miss c.keys.invariant

pub returns-then-is_name-clause-place : goal.returns-then-is_name-clause-place
returns-then-is_name-clause-place c =
    let t = λ (k : Vec ℕ Global). bytes_eq c.args.name.now k.items in
    let hit = ap (bytes_eq c.args.name.now) (sym c.as_slice.ensures.value) ∙ sym c.is_name.ensures ∙ c.if-is_name.true in
    let found = first-found t c.as_slice-keys.result.now c.keys.place c.index-keys-place.result c.keys-test.true c.index-keys-place.is hit c.keys.invariant in
    rw (← c.self.view_is, ← c.as_slice-keys.ensures.keys) (found ∙ position-map (bytes_eq c.args.name.now) (λ (key : Vec ℕ Global). key.items) c.as_slice-keys.result.now)

pub returns-clause-place : goal.returns-clause-place
returns-clause-place c =
    let t = λ (k : Vec ℕ Global). bytes_eq c.args.name.now k.items in
    let found = none-found t c.as_slice-keys.result.now c.keys.place c.keys-test.false c.keys.invariant in
    rw (← c.self.view_is, ← c.as_slice-keys.ensures.keys) (found ∙ position-map (bytes_eq c.args.name.now) (λ (key : Vec ℕ Global). key.items) c.as_slice-keys.result.now)
