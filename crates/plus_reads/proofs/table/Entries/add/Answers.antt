use Rattle.std.proofs.Common.{ℕ, ◌<◌}
use Rattle.std.proofs.lemmas.List.Elements.{All-same, All-push}
use Rattle.plus_reads.proofs.Rows.{key_below, one_added}
use Rattle.plus_reads.proofs.table.Entries.add.Goals as goal

pub invariant_of-self-2 : goal.invariant_of-self-2
invariant_of-self-2 c =
    let below = key_below c.self.inside.keys c.self.inside.pairs.items c.args.self.now c.args.key c.self.view_is c.requires in
    let fits = λ (p : ℕ × ℕ). p.0 < c.self.inside.keys in
    All-same fits _ _ c.in_ok-push.ensures.items (All-push fits c.self.inside.pairs.items (c.args.key, c.args.reader) c.self.invariant below)

pub returns : goal.returns
returns c = one_added c.self.inside.keys c.self.inside.pairs.items c.push.new.self.items c.args.self.now c.args.key c.args.reader c.self.view_is c.in_ok-push.ensures.items c.requires
