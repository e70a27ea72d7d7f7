use Rattle.std.proofs.Common.{rules, sym, subst, take}
use Rattle.std.proofs.lemmas.List.Sorted.{answers_always}
use Rattle.table.specs.Audit.{Rising}
use Rattle.table.proofs.Finding.{searched, rising_front}
use Rattle.table.proofs.audited.AuditedTable.row.Goals as goal

pub returns-in_err-at : goal.returns-in_err-at
returns-in_err-at c =
    let facts = c.binary_search_by_key.ensures in
    let by_key = facts.position (λ r. r.position) (answers_always _ _ _ (λ f a r g called. search rules)) in
    let rows = c.deref.result.now in
    let w = searched (take c.front.result rows) (rising_front rows (subst Rising (sym c.deref.ensures.value) c.args.self.now.rising) c.front.result) c.args.position c.binary_search_by_key.result facts.bound by_key in
    search rules

pub returns : goal.returns
returns c =
    let facts = c.binary_search_by_key.ensures in
    let by_key = facts.position (λ r. r.position) (answers_always _ _ _ (λ f a r g called. search rules)) in
    let rows = c.deref.result.now in
    let w = searched (take c.front.result rows) (rising_front rows (subst Rising (sym c.deref.ensures.value) c.args.self.now.rising) c.front.result) c.args.position c.binary_search_by_key.result facts.bound by_key in
    search rules
