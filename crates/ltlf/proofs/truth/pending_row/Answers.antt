use Rattle.std.proofs.Common.{◌≡◌, ◌∙◌, ap₂, rules}
use Rattle.ltlf.specs.Rows.{row_by, pending_rule}
use Rattle.ltlf.proofs.Suffixes.{row_kept}
use Rattle.ltlf.proofs.truth.pending_row.Goals as goal

pub returns-clause-means : goal.returns-clause-means
returns-clause-means c w e n =
    let row : c.row_by.result ≡ row_by (pending_rule c.args.row.now c.args.ended) c.args.nodes.now = search rules in
    row ∙ ap₂ (λ l b. row_by (pending_rule l b) c.args.nodes.now) e n ∙ row_kept c.args.nodes.now w
