use Rattle.std.proofs.Common.{◌≡◌, ap, ◌∙◌, rules}
use Rattle.ltlf.specs.Rows.{row_by, before_rule}
use Rattle.ltlf.proofs.Suffixes.{row_step}
use Rattle.ltlf.proofs.truth.row_before.Goals as goal

pub returns-clause-means : goal.returns-clause-means
returns-clause-means c w e =
    let row : c.row_by.result ≡ row_by (before_rule c.args.action c.args.pending.now) c.args.nodes.now = search rules in
    row ∙ ap (λ l. row_by (before_rule c.args.action l) c.args.nodes.now) e ∙ row_step c.args.nodes.now c.args.action w
