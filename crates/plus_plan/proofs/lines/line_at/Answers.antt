use Rattle.std.proofs.Common.{Some, arith}
use Rattle.std.proofs.lemmas.Result.{err_from_is_err_and}
use Rattle.plus_plan.specs.Cut.{line_from}
use Rattle.plus_plan.specs.Lines.{read_line}
use Rattle.plus_plan.proofs.OneLine.{spelled_read, only_memory, is_line_at, is_refused_at, same_line}
use Rattle.plus_plan.proofs.lines.line_at.Goals as goal

pub returns-in_err-read_line-clause-only : goal.returns-in_err-read_line-clause-only
returns-in_err-read_line-clause-only c =
    let p = err_from_is_err_and c.from_residual.result c.from_residual.ensures.1 in
    λ lt l s.
    rw (p.1, p.2) (
    let ended = rw c.line_end-end.ensures.end at c.in_err-read_line.ensures.exact in
    only_memory c.in_err-read_line.field-0.0 (read_line c.args.form c.args.line (line_from c.args.text.now c.args.from)) l ended (spelled_read c.args.form c.args.line (line_from c.args.text.now c.args.from) l s))

pub returns-in_err-read_line-clause-refused : goal.returns-in_err-read_line-clause-refused
returns-in_err-read_line-clause-refused c =
    let p = err_from_is_err_and c.from_residual.result c.from_residual.ensures.1 in
    rw (p.1, p.2) (is_refused_at c.args.form c.args.line c.args.text.now c.args.from c.line_end-end.result c.in_err-read_line.field-0.0 (omega arith) c.line_end-end.ensures.end c.in_err-read_line.ensures.exact)

pub returns-clause-line : goal.returns-clause-line
returns-clause-line c =
    is_line_at c.args.form c.args.line c.args.text.now c.args.from c.line_end-end.result c.min.result c.read_line.new.into (omega arith) c.line_end-end.ensures.end c.min.ensures c.in_ok-read_line.ensures.exact

pub returns-clause-only : goal.returns-clause-only
returns-clause-only c = λ lt l s.
    let both = same_line c.args.form c.args.line c.args.text.now c.args.from c.line_end-end.result c.min.result c.read_line.new.into l c.line_end-end.ensures.end c.min.ensures c.in_ok-read_line.ensures.exact s in
    λ i. Some (both.0 i, both.1 i)
