use Rattle.std.proofs.Common.{◌≡◌, ◌-◌, length, take, drop, ap, ◌∙◌, arith, rules, tests, length-drop}
use Rattle.std.specs.List.{prefix_len}
use Rattle.std.proofs.lemmas.Iterator.{YieldsList-from_slice}
use Rattle.std.proofs.lemmas.Iterator.Consumers.{count_from_yields_List}
use Rattle.std.proofs.lemmas.Iterator.Search.{YieldsList-from_take_while}
use Rattle.std.proofs.lemmas.List.{take_all}
use Rattle.std.proofs.lemmas.List.Folds.{length-prefix_len}
use Rattle.ltlf.specs.Prefix.{blank}
use Rattle.ltlf.proofs.Judging.{skipped}
use Rattle.ltlf.proofs.reader.Parser.past_blanks.Goals as goal

pub returns : goal.returns
returns c =
    let bs = c.args.self.now.text.now in
    let from = c.args.self.now.progress.at in
    let rest = take (length bs - from) (drop from bs) in
    let many : c.count.result ≡ prefix_len blank rest =
    count_from_yields_List c.take_while-blanks.result _ c.count.ensures.ran (YieldsList-from_take_while _ blank (YieldsList-from_slice rest cc) c.take_while-blanks.ensures.closure c.take_while-blanks.ensures.done (λ x b q k. search (rules, tests)))
    ∙ length-prefix_len blank rest in
    skipped bs from c.count.result c.args.self.now.within (many ∙ ap (prefix_len blank) (take_all (length bs - from) (drop from bs) (omega (arith, length-drop from bs))))
