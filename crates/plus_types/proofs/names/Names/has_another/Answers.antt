use Rattle.std.proofs.Common.{◌∙◌, ap, sym, not, Vec, Global, ℕ}
use Rattle.std.specs.Str.{bytes_eq}
use Rattle.plus_types.proofs.NamesLemmas.{list_any-map, any-found, any-passed}
use Rattle.plus_types.proofs.names.Names.has_another.Goals as goal

pub returns-then-ne : goal.returns-then-ne
returns-then-ne c =
    let keys = c.self.inside.table.keys in
    let t = λ (k : Vec ℕ Global). not (bytes_eq k.items c.args.name.now) in
    let pass = ap (λ xs. not (bytes_eq xs c.args.name.now)) (sym c.as_slice.ensures.value) ∙ sym c.ne.ensures ∙ c.if-ne.true in
    let inv = rw c.as_slice-key-items.ensures.keys at c.keys.invariant in
    let test = rw c.as_slice-key-items.ensures.keys at c.keys-test.true in
    let is = rw c.as_slice-key-items.ensures.keys at c.key-item.is in
    rw (← c.self.view_is) (sym (list_any-map (λ x. not (bytes_eq x c.args.name.now)) (λ (k : Vec ℕ Global). k.items) keys ∙ inv ∙ any-found t keys c.keys.key-index c.key-item.result test is pass))

pub returns : goal.returns
returns c =
    let keys = c.self.inside.table.keys in
    let t = λ (k : Vec ℕ Global). not (bytes_eq k.items c.args.name.now) in
    let inv = rw c.as_slice-key-items.ensures.keys at c.keys.invariant in
    let test = rw c.as_slice-key-items.ensures.keys at c.keys-test.false in
    rw (← c.self.view_is) (sym (list_any-map (λ x. not (bytes_eq x c.args.name.now)) (λ (k : Vec ℕ Global). k.items) keys ∙ inv ∙ any-passed t keys c.keys.key-index test))
