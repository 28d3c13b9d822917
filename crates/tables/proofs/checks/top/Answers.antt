use Rattle.std.proofs.Common.{rules, tests, nat_abs, max, ◌∙◌}
use Rattle.std.proofs.lemmas.Iterator.{YieldsList-from_map, YieldsList-from_slice}
use Rattle.std.proofs.lemmas.Iterator.Consumers.{fold_from_yields_List}
use Rattle.tables.proofs.Checking.Heights.{height_fold}
use Rattle.tables.proofs.checks.top.Goals as goal

pub returns : goal.returns
returns c =
    fold_from_yields_List _ max 1 _ c.fold.ensures.ran
    (YieldsList-from_map _ nat_abs (YieldsList-from_slice c.args.table.now cc) c.map.ensures.closure (λ x r q k. search (rules, tests)))
    (λ a x b q k. search (rules, tests))
    ∙ height_fold c.args.table.now
