use Rattle.std.proofs.Common.{◌≡◌, ◌∙◌, rules}
use Rattle.ltlf.specs.Rows.{row_by, end_rule}
use Rattle.ltlf.proofs.Suffixes.{row_at_end}
use Rattle.ltlf.proofs.truth.end_row.Goals as goal

pub returns-clause-means : goal.returns-clause-means
returns-clause-means c =
    let row : c.row_by.result ≡ row_by end_rule c.args.nodes.now = search rules in
    row ∙ row_at_end c.args.nodes.now
